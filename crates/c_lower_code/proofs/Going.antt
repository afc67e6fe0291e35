-- Where the one statement of a block goes.
use Rattle.std.proofs.Common.{◌≡◌, ◌≤◌, ℕ, List, [], ◌∷◌, length, None, arith, refl}
use Rattle.c_program.specs.declared.statement.Action.{Action}
use Rattle.c_program.specs.Statements.{acts}
use Rattle.c_lower_scheme.specs.Statements.{going_alone}

-- two statements go nowhere
pub going_none : (all : List Action) (lb lc : ℕ) → 2 ≤ length all → going_alone (acts all) lb lc ≡ None
going_none [] lb lc le = absurd (omega arith)
going_none (a ∷ []) lb lc le = absurd (omega arith)
going_none (a ∷ (b ∷ rest)) lb lc le = refl
