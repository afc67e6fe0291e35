use Rattle.gg_load_phrases.specs.Unit.{source_unit}
use Rattle.gg_load_program.specs.Program.{source_program}
use Rattle.gg_load_typed.proofs.Texts.{source_typed}
use Rattle.gg_load_typed.proofs.generated_unit_is_typed.Goals as goal

pub returns : goal.returns
returns c = λ k ends low.
    (c.text_law.ensures (source_unit k).externals ends (source_unit k).end).found (source_program k) (source_typed k ends (source_unit k).end low)
