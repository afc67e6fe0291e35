-- A generated source's run from its begin to its end.
use Rattle.std.proofs.Common.{◌≡◌, ◌<◌, ◌≤◌, ℕ, zero, suc, ◌+◌, List, [], ◌∷◌, ◌++◌, length, replicate, Option, Some, slice_get, codes, refl, sym, ap, subst, ◌∙◌, arith}
use Rattle.tree_core.specs.declared.program.Link.{Link}
use Rattle.gg_base.specs.declared.run.End.TheVariants.{Ended}
use Rattle.gg_base.specs.Arithmetic.{add32}
use Rattle.gg_base.specs.Runs.{Outcome, one_first, emit, stop}
use Rattle.c_types.specs.Types.{kept}
use Rattle.c_types.specs.Constants.{converted}
use Rattle.c_types.specs.Typed.{Constant, ConvertTo}
use Rattle.c_program.specs.Statements.{SomeActions, NoActions, MoreActions, EvaluateOf, ReturnOf}
use Rattle.c_program.specs.Programs.{ARoutine, AProgram}
use Rattle.c_meaning.specs.State.{State}
use Rattle.c_meaning.specs.Values.{Body}
use Rattle.c_meaning.specs.Calls.{begun}
use Rattle.c_meaning.specs.Meaning.{followed}
use Rattle.c_meaning.specs.Programs.{means, finished, at_first, main_of, source}
use Rattle.gg_load_program.specs.Program.{int, function_routine, function_routines, call_action, onto_calls, put_character, last_actions, main_body, main_routine, source_program}
use Rattle.gg_load_program.proofs.Routines.{main_there, function_there}
use Rattle.gg_load_meaning.specs.Run.{ComesTo, product, after_calls, letters, written, source_outcome}
use Rattle.gg_load_meaning.proofs.Outcomes.{comes_same, comes_stop, comes_emit, comes_counted, in_front, in_front-none, in_front-one}
use Rattle.gg_load_meaning.proofs.Table.{exchanged_length}
use Rattle.gg_load_meaning.proofs.Calls.{program_of, main_state, Meant, doing, call_runs}
use Rattle.gg_load_meaning.proofs.Shifts.{letters_few}
use Rattle.gg_load_meaning.proofs.Letters.{all_letters}

table_length : (n : ℕ) → length (after_calls n).table ≡ 256
table_length zero = refl
table_length (suc n) = exchanged_length (add32 (after_calls n).s n) (product n (add32 (after_calls n).s n)) (after_calls n).table (table_length n)

-- where main stands behind so many calls
abbrev pub state_at : ℕ → List ℕ → State
state_at n input = main_state (after_calls n).table (after_calls n).s input

-- a line feed and the end
abbrev pub closing : SomeActions
closing = MoreActions (EvaluateOf (put_character (Constant 10))) (MoreActions (ReturnOf (Some (ConvertTo int (Constant 0)))) NoActions)

abbrev pub closed : Outcome
closed = record { output = 10 ∷ []; end = Ended 0; number = 0 }

module _ (label bytes : List ℕ) (links : List Link) (routines : List ARoutine) (main : ℕ) (meant : Meant (program_of label bytes links routines main)) where
  abbrev pub p : AProgram
  p = program_of label bytes links routines main

  closing_is : (st : State) → doing p closing finished st ≡ emit 10 (stop (Ended 0))
  unfolding converted kept
  closing_is st = refl

  closing_comes : (st : State) → ComesTo (doing p closing finished st) closed
  closing_comes st = comes_same _ _ closed (closing_is st) (comes_emit 10 (stop (Ended 0)) _ (comes_stop (Ended 0)))

  last_comes : (v : ℕ) (a input : List ℕ) →
      ComesTo (doing p last_actions finished (main_state a v input)) (in_front (letters 8 v) (length (letters 8 v)) closed)
  last_comes v a input =
      all_letters label bytes links routines main meant a input
      (followed p (means p) finished (doing p closing finished)) closed
      (closing_comes (main_state a 0 input)) v

  calls_come : (n : ℕ) (input : List ℕ) (rest : SomeActions) (o : Outcome) → ((i : ℕ) → i < n → slice_get routines i ≡ Some (function_routine i)) →
      ComesTo (doing p rest finished (state_at n input)) o →
      ComesTo (doing p (onto_calls n rest) finished (state_at 0 input)) (in_front [] n o)
  calls_come zero input rest o there h =
      subst (λ (q : Outcome). ComesTo (doing p rest finished (state_at 0 input)) q) (sym (in_front-none o)) h
  calls_come (suc n) input rest o there h =
      subst (λ (q : Outcome). ComesTo (doing p (onto_calls (suc n) rest) finished (state_at 0 input)) q) (in_front-one n o)
      (calls_come n input (MoreActions (call_action n) rest) (one_first o) (λ i low. there i (omega arith))
      (comes_same _ _ (one_first o)
      (call_runs label bytes links routines main meant n (after_calls n).s (after_calls n).table input rest finished (there n (omega arith)) (table_length n))
      (comes_counted _ o h)))

begin_is : (k : ℕ) (input : List ℕ) → doing (source_program k) (main_body k) finished (begun (main_routine k) [] (at_first (source_program k) input))
    ≡ doing (source_program k) (onto_calls k last_actions) finished (state_at 0 input)
unfolding converted kept
begin_is k input = refl

source_is : (k : ℕ) (input : List ℕ) → Meant (source_program k) → source (source_program k) input ≡ doing (source_program k) (onto_calls k last_actions) finished (state_at 0 input)
source_is k input meant =
    ap (λ (r : Option ARoutine). main_of r (source_program k) input) (main_there k)
    ∙ (meant (Body (main_body k)) finished (begun (main_routine k) [] (at_first (source_program k) input)) ∙ begin_is k input)

outcome_is : (k : ℕ) → in_front [] k (in_front (written k) (length (written k)) closed) ≡ source_outcome k
outcome_is k =
    ap (λ (n : ℕ). record { output = written k ++ 10 ∷ []; end = Ended 0; number = n }) (let e : k + (length (written k) + 0) ≡ k + length (written k) = omega arith in e)

pub source_comes : ((p : AProgram) → Meant p) → (k : ℕ) (input : List ℕ) → ComesTo (source (source_program k) input) (source_outcome k)
source_comes meant k input =
    comes_same (source (source_program k) input) _ (source_outcome k) (source_is k input (meant (source_program k)))
    (subst (λ (q : Outcome). ComesTo (doing (source_program k) (onto_calls k last_actions) finished (state_at 0 input)) q) (outcome_is k)
    (calls_come (codes "_t") (replicate 256 0) [] (function_routines k ++ main_routine k ∷ []) k (meant (source_program k)) k input last_actions
    (in_front (written k) (length (written k)) closed) (function_there k)
    (last_comes (codes "_t") (replicate 256 0) [] (function_routines k ++ main_routine k ∷ []) k (meant (source_program k)) (after_calls k).s (after_calls k).table input)))

pub source_few : (k : ℕ) → (source_outcome k).number ≤ k + 8
source_few k = let h : length (written k) ≤ 8 = letters_few 8 (after_calls k).s in omega arith

pub outcome_one : source_outcome 1 ≡ record { output = 66 ∷ 10 ∷ []; end = Ended 0; number = 2 }
outcome_one = refl

pub outcome_two : source_outcome 2 ≡ record { output = 72 ∷ 10 ∷ []; end = Ended 0; number = 3 }
outcome_two = refl
