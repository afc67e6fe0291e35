-- The VAX, as the judging of templates sees it.
use Rattle.template_judging.specs.Meaning.{LineMeaning}
use Rattle.vax_templates.specs.Judging.{line_did}
use Rattle.vax_templates.specs.GiveLines.{given_shape}

abbrev pub vax_lines : LineMeaning
vax_lines = record { did = line_did; gives = given_shape }
