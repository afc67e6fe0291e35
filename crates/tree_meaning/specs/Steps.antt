-- One tree is one step of a run: plain data, by the program and the state in which the tree is done.
use Rattle.std.specs.Prelude.{ℕ, ◌+◌, ◌-◌, ◌%◌, ◌^◌, ◌==◌, nat_lt, List, [], ◌∷◌, Option, Some, None, cond, length}
use Rattle.std.specs.Prelude.{take, drop, slice_get, slice_set}
use Rattle.gg_base.specs.declared.limits.TheConstants.{ACTIVE_CALL_LIMIT}
use Rattle.gg_base.specs.Relations.{holds}
use Rattle.tree_core.specs.declared.program.TreeFn.{TreeFn}
use Rattle.tree_core.specs.declared.program.TreeProgram.{TreeProgram}
use Rattle.tree_core.specs.Trees.{Forest}
use Rattle.tree_core.specs.Area.{stored}
use Rattle.gg_base.specs.declared.run.Finish.{Finish}
use Rattle.gg_base.specs.declared.run.Finish.TheVariants as finish
use Rattle.tree_meaning.specs.declared.value.Meaning.{Meaning}
use Rattle.tree_meaning.specs.declared.value.Meaning.TheVariants.{Of, Local, Argument, Memory}
use Rattle.tree_meaning.specs.Deeds.{Deed, Puts, Branches, Pushes, Returns, Calls, Saves, Jumps, Traps, Strays, tree_deed}
use Rattle.tree_meaning.specs.State.{State, begun, sight, with_local, behind, Next, over, returned, arrived}

-- The run goes on; so it does behind a call of a service, which perhaps wrote a byte and left its result; it goes on
-- behind a label of the function;
-- it enters a function with arguments, which are no longer among those that are pushed; it goes back to the caller with
-- a value; or it ends.
pub data Step : Type 0 where
  Goes : State → Step
  Serves : (written : Option ℕ) → State → Step
  GoesTo : (label : ℕ) → State → Step
  Enters : TreeFn → (arguments : List ℕ) → State → Step
  GoesBack : (value : ℕ) → State → Step
  Ends : Finish → Step

abbrev pub strays : Step
strays = Ends finish.Wild

-- ---- states that differ in one thing of the running call

abbrev pub with_local_set : State → ℕ → ℕ → State
with_local_set s k n = record s { running = record s.running { locals = with_local s.running.locals k n } }

abbrev pub with_argument_set : State → ℕ → ℕ → State
with_argument_set s k n = record s { running = record s.running { arguments = slice_set s.running.arguments (k - 1) n } }

abbrev pub with_pushed : State → ℕ → State
with_pushed s v = record s { running = record s.running { pushed = v ∷ s.running.pushed } }

abbrev pub without_pushed : State → ℕ → State
without_pushed s count = record s { running = record s.running { pushed = drop count s.running.pushed } }

abbrev pub with_result : State → ℕ → State
with_result s v = record s { running = record s.running { result = v } }

-- the items behind a label's first place are next
abbrev pub with_label : State → ℕ → State
with_label s label = record s { running = record s.running { items = behind s.running.code label } }

-- a function begins, and the call that was running waits for it
abbrev pub with_call : State → TreeFn → List ℕ → State
with_call s g arguments = record { running = begun g arguments; callers = s.running ∷ s.callers; area = s.area; input = s.input }

-- ---- the step of a deed

-- a number is put where a place is
abbrev pub put_in : State → Option (List ℕ) → Step
put_in s None = strays
put_in s (Some area) = Goes (record s { area = area })

abbrev pub put : State → Meaning → ℕ → Step
put s (Of v) n = strays
put s (Local k) n = Goes (with_local_set s k n)
put s (Argument k) n = Goes (with_argument_set s k n)
put s (Memory size address) n = put_in s (stored size s.area address n)

-- a function of the program begins, unless `ACTIVE_CALL_LIMIT` calls are active
abbrev pub entered : State → TreeFn → List ℕ → Step
entered s g arguments = cond (nat_lt (1 + length s.callers) ACTIVE_CALL_LIMIT) (Enters g arguments s) (Ends finish.Deep)

-- putchar writes the low byte of its argument and answers it
abbrev pub wrote : State → Option ℕ → Step
wrote s None = strays
wrote s (Some v) = Serves (Some (v % 2 ^ 8)) (with_result s (v % 2 ^ 8))

-- getchar answers the next byte of the input, or -1 at its end
abbrev pub got : State → List ℕ → Step
got s [] = Serves None (with_result s 4294967295)
got s (b ∷ bs) = Serves None (with_result (record s { input = bs }) b)

-- putchar is the first service, getchar the second
abbrev pub served : State → ℕ → List ℕ → Step
served s service arguments = cond (service == 0) (wrote s (slice_get arguments 0)) (cond (service == 1) (got s s.input) strays)

abbrev pub called_as : State → Option TreeFn → ℕ → List ℕ → Step
called_as s None service arguments = served s service arguments
called_as s (Some g) service arguments = entered s g arguments

module _ (program : TreeProgram) where
  abbrev pub called_with : State → ℕ → List ℕ → Step
  called_with s function arguments = called_as s (slice_get program.functions function) (function - length program.functions) arguments

  -- a call takes the arguments that were pushed last, the last one as argument 1
  abbrev pub called : State → ℕ → ℕ → Step
  called s function count = called_with (without_pushed s count) function (take count s.running.pushed)

  abbrev pub deed_step : State → Deed → Step
  deed_step s (Puts g n) = put s g n
  deed_step s (Branches rel label x y) = cond (holds rel x y) (GoesTo label s) (Goes s)
  deed_step s (Pushes v) = Goes (with_pushed s v)
  deed_step s (Returns v) = GoesBack v s
  deed_step s (Calls function count) = called s function count
  deed_step s (Saves k) = Goes (with_local_set s k s.running.result)
  deed_step s (Jumps label) = GoesTo label s
  deed_step s Traps = Ends finish.Trapped
  deed_step s Strays = strays

  -- the step of the first tree
  abbrev pub tree_step : State → Forest → Step
  tree_step s f = deed_step s (tree_deed program.objects (sight s) f)

-- ---- what is behind a step

-- where the run comes to
abbrev pub next : Step → Next
next (Goes s) = arrived s
next (Serves b s) = arrived s
next (GoesTo label s) = arrived (with_label s label)
next (Enters g arguments s) = arrived (with_call s g arguments)
next (GoesBack v s) = returned v s.callers s.area s.input
next (Ends e) = over e

-- the byte that was written
abbrev pub written : Step → Option ℕ
written (Goes s) = None
written (Serves b s) = b
written (GoesTo label s) = None
written (Enters g arguments s) = None
written (GoesBack v s) = None
written (Ends e) = None
