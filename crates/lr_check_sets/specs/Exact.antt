-- What is proved of tables: their automaton is that of the description's rules, whose right sides are trees.
use Rattle.std.specs.Prelude.{length}
use Rattle.md_reader.specs.Valid.{IsValid}
use Rattle.lr_tables.specs.View.{TableView}
use Rattle.lr_tables.specs.Promises.{IsNumbered}
use Rattle.lr_check_sets.specs.Items.{IsAutomatonOf, HasNoEnd, HasNoEmpty}
use Rattle.lr_check_sets.specs.Bound.{HasClasses}
use Rattle.lr_check_sets.specs.Shapes.{HasTrees}
use Rattle.lr_check_sets.specs.Table.{productions, automaton_of}

-- what the laws ask of an automaton and its rules
pub record MeetsLaws (t : TableView) : Type 0 where
  pub no_end : HasNoEnd (productions t.content.rules)
  pub no_empty : HasNoEmpty (productions t.content.rules)
  pub trees : HasTrees (productions t.content.rules)
  pub classes : HasClasses (productions t.content.rules) (length t.content.classes)
  pub exact : IsAutomatonOf (productions t.content.rules) (automaton_of t)

abbrev pub TablesMeetLaws : Type 0
TablesMeetLaws = (t : TableView) → IsValid t.content → IsNumbered t → MeetsLaws t
