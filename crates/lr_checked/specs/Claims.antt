-- What is said of descriptions whose sets have no fault, and of every parse by one whose typed statements never stop it.
use Rattle.std.specs.Prelude.{◌≡◌, ◌⊎◌, List, [], map}
use Rattle.md_reader.specs.State.{Content}
use Rattle.md_reader.specs.Valid.{IsValid}
use Rattle.lr_tables.specs.Statements.{stmt_of}
use Rattle.lr_tables.specs.View.{TableView}
use Rattle.lr_tables.specs.Promises.{IsNumbered}
use Rattle.lr_check_found.specs.lr_check_sets.specs.Faults.{NoFault}
use Rattle.lr_check_found.specs.lr_check_sets.specs.Table.{automaton_of}
use Rattle.lr_check_parse.specs.Moves.{Answering, Move, Ending, Accepts, Refuses, Parses}
use Rattle.lr_check_parse.specs.Typed.{IsStatement}
use Rattle.lr_checked.specs.Accepted.{NeverStops}

abbrev pub NoFaultIsEnough : Type 0
NoFaultIsEnough = (t : TableView) → IsValid t.content → IsNumbered t → NoFault (automaton_of t) → NeverStops t.content

-- whoever answers, the parse of a typed statement accepts or is refused
abbrev pub ParsesAccept : {L X : Type 0} → Answering L X → Type 0
ParsesAccept {L = L} {X = X} of =
    (d : Content) → IsValid d → NeverStops d → (w : List L) (x : X) (log : List (Move L)) (e : Ending X) →
    IsStatement (map of.token w) → Parses of d.rules (stmt_of d.classes) 0 [] w [] x log e →
    ((y : X) × (e ≡ Accepts y)) ⊎ (e ≡ Refuses)
