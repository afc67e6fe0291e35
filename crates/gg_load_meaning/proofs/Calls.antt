-- A call of a generated source runs as its definition says.
use Rattle.std.proofs.Common.{◌≡◌, ℕ, List, [], ◌∷◌, length, Some, None, slice_get, refl, ap, ◌∙◌}
use Rattle.tree_core.specs.declared.program.Link.{Link}
use Rattle.gg_base.specs.declared.size.Size.TheVariants.{Long}
use Rattle.gg_base.specs.Arithmetic.{add32}
use Rattle.gg_base.specs.LittleEndian.{number_in}
use Rattle.gg_base.specs.Runs.{Runs, counted}
use Rattle.c_types.specs.Types.{kept}
use Rattle.c_types.specs.Constants.{converted, apply}
use Rattle.c_program.specs.Statements.{SomeActions, MoreActions}
use Rattle.c_program.specs.Programs.{ARoutine, AProgram}
use Rattle.c_meaning.specs.declared.flow.Flow.TheVariants.{Returned}
use Rattle.c_meaning.specs.declared.store.Spot.TheVariants.{Local}
use Rattle.c_meaning.specs.State.{State}
use Rattle.c_meaning.specs.Values.{Behind, Next, Task, Body, store_at}
use Rattle.c_meaning.specs.Calls.{back}
use Rattle.c_meaning.specs.Meaning.{stmts, task}
use Rattle.c_meaning.specs.Programs.{means}
use Rattle.gg_load_program.specs.Program.{int, function_body, function_routine, call_action}
use Rattle.gg_load_meaning.specs.Run.{slot, product, exchanged, answer, applied}
use Rattle.gg_load_meaning.proofs.Table.{fetched_is, stored_is}

-- a program with a table of 64 longwords
abbrev pub program_of : List ℕ → List ℕ → List Link → List ARoutine → ℕ → AProgram
program_of label bytes links routines main =
    record {
      objects = record { label = label; address = 65536; size = 256; align = 4; bytes = bytes; links = links } ∷ [];
      routines = routines;
      main = main;
    }

-- while main runs, and while a function that it called does
abbrev pub main_state : List ℕ → ℕ → List ℕ → State
main_state a s input = record { call = record { locals = s ∷ []; parameters = []; block = None }; area = a; input = input; active = 1 }

abbrev pub function_state : List ℕ → ℕ → ℕ → List ℕ → State
function_state a x y input = record { call = record { locals = y ∷ []; parameters = x ∷ []; block = None }; area = a; input = input; active = 2 }

-- the law of tasks, which c_meaning states
abbrev pub Meant : AProgram → Type 0
Meant p = (t : Task) (κ : Behind) (st : State) → means p t κ st ≡ task p (means p) t κ st

-- statements of a program
abbrev pub doing : AProgram → SomeActions → Behind → State → Runs
doing p = stmts p (means p)

module _ (label bytes : List ℕ) (links : List Link) (routines : List ARoutine) (main : ℕ) where
  abbrev pub p : AProgram
  p = program_of label bytes links routines main

  body_runs : (next : Next) (i x : ℕ) (a input : List ℕ) (κ : Behind) → length a ≡ 256 →
      stmts p next (function_body i) κ (function_state a x 0 input)
      ≡ κ (Returned (answer (product i x))) (function_state (exchanged x (product i x) a) x (product i x) input)
  unfolding converted kept apply
  body_runs next i x a input κ len =
      rw (fetched_is a (product i x) len, stored_is a x (add32 (number_in Long a (slot (product i x))) (product i x)) len) refl

  before_call : (i s : ℕ) (a input : List ℕ) (rest : SomeActions) (κ : Behind) → slice_get routines i ≡ Some (function_routine i) →
      doing p (MoreActions (call_action i) rest) κ (main_state a s input)
      ≡ counted (means p (Body (function_body i))
      (back (λ w. store_at int (Local 0) w (λ u. doing p rest κ)) (main_state a s input))
      (function_state a (add32 s i) 0 input))
  unfolding converted kept apply
  before_call i s a input rest κ there = rw there refl

  pub call_runs : Meant p → (i s : ℕ) (a input : List ℕ) (rest : SomeActions) (κ : Behind) → slice_get routines i ≡ Some (function_routine i) → length a ≡ 256 →
      doing p (MoreActions (call_action i) rest) κ (main_state a s input)
      ≡ counted (doing p rest κ
      (main_state (applied i (add32 s i) a).table (applied i (add32 s i) a).s input))
  unfolding converted kept
  call_runs meant i s a input rest κ there len =
      let κ' : Behind = back (λ w. store_at int (Local 0) w (λ u. doing p rest κ)) (main_state a s input) in
      before_call i s a input rest κ there
      ∙ ap counted (meant (Body (function_body i)) κ' (function_state a (add32 s i) 0 input) ∙ body_runs (means p) i (add32 s i) a input κ' len)
