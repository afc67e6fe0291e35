use Rattle.lr_check_found.specs.lr_check_sets.specs.Table.{automaton_of}
use Rattle.lr_check_complete.proofs.sheet.is_settled.Goals as goal

pub returns-in-Some : goal.returns-in-Some
returns-in-Some c = λ u s is. record {
  number = c.in-Some.number;
  at = c.in-Some.ensures.there;
  settles = c.settles.ensures.there (automaton_of c.args.tables.now) c.requires u s is;
}
