-- Whether the zero of a declaration is written. It isn't where the local is assigned to before anything names it.
use Rattle.std.specs.Prelude.{ℕ, zero, suc, ◌==◌, List, [], ◌∷◌, Option, Some, None, Bool, false, not, ◌&&◌, ◌||◌}
use Rattle.c_types.specs.Typed.{APlace, VariableAt, AnExpression, AssignTo}
use Rattle.c_program.specs.Statements.{ADeclaration, KeepOf, ClearOf, BeginOf, StoreOf, ZerosOf, SomeActions}
use Rattle.c_program.specs.Statements.{MoreActions, DeclareOf, BlockOf}
use Rattle.c_program.specs.Statements.{EvaluateOf, ForOf}
use Rattle.c_lower_scheme.specs.Mentions.{is_local, mentions}

-- a place that is the local itself
abbrev pub is_at : ℕ → APlace → Bool
is_at n (VariableAt t v) = is_local n v
is_at n p = false

-- an assignment to the local, of a value that does not name it
abbrev pub sets : ℕ → AnExpression → Bool
sets n (AssignTo p e) = is_at n p && not (mentions n e)
sets n e = false

abbrev pub maybe_sets : ℕ → Option AnExpression → Bool
maybe_sets n None = false
maybe_sets n (Some e) = sets n e

-- Among the next k declarations and statements the local is assigned to, and nothing names it before, in one straight run:
-- first come the declarations that are left, then the statements behind them. A block is looked into.
abbrev pub is_overwritten : ℕ → ℕ → List ADeclaration → SomeActions → Bool
is_overwritten zero n ds row = false
is_overwritten (suc k) n (KeepOf object ∷ ds) row = is_overwritten k n ds row
is_overwritten (suc k) n (ClearOf m ∷ ds) row = is_overwritten k n ds row
is_overwritten (suc k) n (BeginOf m e ∷ ds) row = not (mentions n e) && (m == n || is_overwritten k n ds row)
is_overwritten (suc k) n (StoreOf t o e ∷ ds) row = not (mentions n e) && is_overwritten k n ds row
is_overwritten (suc k) n (ZerosOf t o count ∷ ds) row = is_overwritten k n ds row
is_overwritten (suc k) n [] (MoreActions (DeclareOf ds) row) = is_overwritten k n ds row
is_overwritten (suc k) n [] (MoreActions (BlockOf row) others) = is_overwritten k n [] row
is_overwritten (suc k) n [] (MoreActions (EvaluateOf e) row) =
    sets n e || (not (mentions n e) && is_overwritten k n [] row)
is_overwritten (suc k) n [] (MoreActions (ForOf i c e a) row) = maybe_sets n i
is_overwritten (suc k) n [] row = false

-- the zero of a declaration, before others and the statements behind them
abbrev pub is_zeroed : ℕ → List ADeclaration → SomeActions → Bool
is_zeroed n ds row = not (is_overwritten 64 n ds row)
