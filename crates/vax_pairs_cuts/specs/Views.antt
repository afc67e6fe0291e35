-- What the code holds of a certificate as the plain data of which the definitions speak.
use Rattle.std.specs.Prelude.{map}
use Rattle.vax_core.specs.Registers.{reg_number}
use Rattle.vax_pairs.specs.Facts as facts
use Rattle.vax_pairs_checked.specs.Accepted as accepted
use Rattle.vax_pairs_cuts.specs.declared.fact.Fact.{Fact}
use Rattle.vax_pairs_cuts.specs.declared.fact.Fact.TheVariants as fact
use Rattle.vax_pairs_cuts.specs.declared.cut.Cut.{Cut}

abbrev pub fact_of : Fact → facts.Fact
fact_of (fact.Equal second first) = facts.Equal (reg_number second) (reg_number first)
fact_of (fact.First r v) = facts.First (reg_number r) v
fact_of (fact.Second r v) = facts.Second (reg_number r) v

abbrev pub cut_of : Cut → accepted.Cut
cut_of c = record { rank = c.rank; first = c.first; second = c.second; facts = map fact_of c.facts.items }
