use Rattle.std.proofs.Common.{ℕ, ◌<◌, List}
use Rattle.md_reader.specs.declared.types.Sym.{Sym}
use Rattle.lr_check_sets.specs.Faults.{Calms}
use Rattle.lr_check_sets.specs.Table.{automaton_of}
use Rattle.lr_check_found.specs.declared.places.Place.{Place}
use Rattle.lr_check_found.specs.declared.settlings.Settling.{Settling}
use Rattle.lr_check_found.specs.Lists.{IsList}
use Rattle.lr_check_found.specs.Found.{IsPlaceAt, IsSettlingAt}
use Rattle.lr_check_decided.specs.Held.{AreRight}
use Rattle.lr_check_decided.proofs.circles.find_circle.Given as goal

abbrev pub invariant-loop-number : goal.invariant-loop-number
invariant-loop-number l = record {
  right : AreRight (automaton_of l.tables) l.held;
  calm : (i : ℕ) → i < l.number → (e : Settling) (x : Place) (s : List Sym) → IsSettlingAt l.found i e → IsPlaceAt l.found e.place x → IsList l.found.lists e.list s →
      Calms (automaton_of l.tables) x.state x.behind s;
}
