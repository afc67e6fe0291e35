-- The frames of a generated source's functions are small.
use Rattle.std.proofs.Common.{◌≤◌, ℕ, zero, suc, List, [], ◌∷◌, ◌++◌, sym, subst, arith, append_assoc}
use Rattle.std.specs.List.{AllByRecursion}
use Rattle.c_program.specs.Statements.{SomeActions, MoreActions}
use Rattle.c_program.specs.Programs.{ARoutine}
use Rattle.c_program.specs.Need.{largest_of, need_of}
use Rattle.gg_load_program.specs.Program.{function_routine, function_routines, call_action, onto_calls, last_actions, main_routine, IsSmall, source_program}

function_small : (i : ℕ) → IsSmall (function_routine i)
unfolding need_of
function_small i = omega arith

calls_small : (n : ℕ) (acts : SomeActions) → largest_of acts ≤ 7 → largest_of (onto_calls n acts) ≤ 7
calls_small zero acts h = h
calls_small (suc n) acts h = calls_small n (MoreActions (call_action n) acts) (omega arith)

main_small : (k : ℕ) → IsSmall (main_routine k)
unfolding need_of
main_small k = let h : largest_of (onto_calls k last_actions) ≤ 7 = calls_small k last_actions (omega arith) in omega arith

each_small : (n : ℕ) (rs : List ARoutine) → AllByRecursion IsSmall rs → AllByRecursion IsSmall (function_routines n ++ rs)
each_small zero rs h = h
each_small (suc n) rs h =
    subst (AllByRecursion IsSmall) (sym (append_assoc (function_routines n) (function_routine n ∷ []) rs))
    (each_small n (function_routine n ∷ rs) (function_small n, h))

pub program_small : (k : ℕ) → AllByRecursion IsSmall (source_program k).routines
program_small k = each_small k (main_routine k ∷ []) (main_small k, tt)
