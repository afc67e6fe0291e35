-- Reductions that lead from a class alone to another one, and back to where they were.
use Rattle.std.specs.Prelude.{◌≡◌, ℕ, ◌<◌, [], ◌∷◌, false, length, slice_index_or}
use Rattle.tree_core.specs.declared.token.Tok.{Tok}
use Rattle.md_reader.specs.declared.types.Sym.TheVariants as grammar_symbol
use Rattle.lr_check_sets.specs.Automaton.{Automaton}
use Rattle.lr_check_found.specs.declared.places.Place.{Place}
use Rattle.lr_check_found.specs.Found.{FoundView, Settles}
use Rattle.lr_check_flaws.specs.Flaws.{StepsTo, Along}
use Rattle.lr_check_decided.specs.Calm.{AreStuck}
use Rattle.lr_check_decided.specs.declared.turning.Turn.{Turn}
use Rattle.lr_check_decided.specs.declared.circles.Restless.{Restless}

-- reductions of a class alone, none or more, lead from a class to a class
pub data Led (A : Automaton) (q : ℕ) (b : Tok) (c : ℕ) : ℕ → Type 0 where
  led_here : Led A q b c c
  led_on : {d e : ℕ} → Led A q b c d → StepsTo A q b d e → Led A q b c e

-- reductions lead from the class to the turn's class, and from there along the turn's classes back to it
pub record IsTurn (A : Automaton) (q : ℕ) (b : Tok) (c : ℕ) (t : Turn) : Type 0 where
  pub led : Led A q b c t.class
  pub along : Along A q b t.class t.along.items t.class

-- the class alone settles at the place, and isn't marked; each class that isn't is stuck
pub record IsRestless (A : Automaton) (f : FoundView) (n : ℕ) (x : Place) (r : Restless) : Type 0 where
  pub settles : Settles f n (grammar_symbol.Class r.class ∷ [])
  pub stuck : AreStuck A x.state x.behind r.marks.items
  pub low : r.class < length r.marks.items
  pub unmarked : slice_index_or r.marks.items r.class false ≡ false
