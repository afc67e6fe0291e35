-- The declarations of a generated source set no zeros.
use Rattle.std.proofs.Common.{◌≡◌, ℕ, zero, suc, ◌+◌, ◌*◌, List, [], ◌∷◌, ◌++◌, refl, sym, subst, ◌∙◌, arith, append_assoc}
use Rattle.c_program.specs.Statements.{SomeActions, MoreActions}
use Rattle.c_program.specs.Programs.{ARoutine}
use Rattle.c_lower_counts.specs.Zeros.{row_zeros, all_zeros, zeros_of, with_zeros}
use Rattle.gg_load_program.specs.Program.{function_routine, function_routines, call_action, onto_calls, last_actions, main_body, main_routine, source_program}

calls_zeros : (n : ℕ) (acts : SomeActions) → row_zeros (onto_calls n acts) ≡ row_zeros acts
calls_zeros zero acts = refl
calls_zeros (suc n) acts =
    let one : row_zeros (MoreActions (call_action n) acts) ≡ row_zeros acts = omega arith in
    calls_zeros n (MoreActions (call_action n) acts) ∙ one

main_zeros : (k : ℕ) → row_zeros (main_body k) ≡ 0
main_zeros k = let h : row_zeros (onto_calls k last_actions) ≡ 0 = calls_zeros k last_actions in omega (arith, h)

each_zeros : (n : ℕ) (rs : List ARoutine) → all_zeros rs ≡ 0 → all_zeros (function_routines n ++ rs) ≡ 0
each_zeros zero rs h = h
each_zeros (suc n) rs h =
    subst (λ (l : List ARoutine). all_zeros l ≡ 0) (sym (append_assoc (function_routines n) (function_routine n ∷ []) rs))
    (each_zeros n (function_routine n ∷ rs) (omega (arith, h)))

no_zeros : (k : ℕ) → zeros_of (source_program k) ≡ 0
no_zeros k = each_zeros k (main_routine k ∷ []) (let h = main_zeros k in omega (arith, h))

pub with_none : (k n : ℕ) → with_zeros (source_program k) n ≡ n
with_none k n = by (zeros_of (source_program k)) (no_zeros k)
  where
    by : (z : ℕ) → z ≡ 0 → n + z * (n + 1) ≡ n
    by zero h = omega arith
    by (suc z) h = absurd (omega (arith, h))
