-- Every typed tree is accepted, where the sets of the tables have no fault.
use Rattle.std.specs.Prelude.{[]}
use Rattle.tree_core.specs.declared.token.Sort.TheVariants as sort
use Rattle.lr_check_sets.specs.md_reader.specs.Valid.{IsValid}
use Rattle.lr_check_sets.specs.lr_tables.specs.View.{TableView}
use Rattle.lr_check_sets.specs.lr_tables.specs.Statements.{stmt_of}
use Rattle.lr_check_sets.specs.lr_tables.specs.Promises.{IsNumbered}
use Rattle.lr_check_sets.specs.Trees.{Tree}
use Rattle.lr_check_sets.specs.Table.{automaton_of}
use Rattle.lr_check_sets.specs.Faults.{NoFault}
use Rattle.lr_check_sets.specs.Answers.{leaves}
use Rattle.lr_check_sets.specs.lr_check.specs.declared.sample.Outcome.TheVariants as outcome
use Rattle.lr_check_sets.specs.lr_check.specs.Parse.{Ends}

-- the parse of each typed tree with its answers ends with accepting
abbrev pub EveryTreeIsAccepted : Type 0
EveryTreeIsAccepted =
    (t : TableView) → IsValid t.content → IsNumbered t → NoFault (automaton_of t) →
    (v : Tree sort.Stmt) → Ends t.content.rules (stmt_of t.content.classes) 0 [] (leaves v []) [] outcome.Done
