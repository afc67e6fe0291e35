-- Returns in whole programs, and the stack's room.
use Rattle.std.specs.Prelude.{◌≡◌, ℕ, ◌<◌, ◌≤◌, List, [], ◌∷◌, length}
use Rattle.gg_base.specs.declared.limits.TheConstants.{ACTIVE_CALL_LIMIT, NEED_LIMIT}
use Rattle.vax_core.specs.declared.register.Reg.TheVariants.{R0}
use Rattle.vax_core.specs.declared.code.CodeItem.{CodeItem}
use Rattle.vax_machine.specs.declared.turn.Stop.TheVariants.{Ended}
use Rattle.vax_machine.specs.State.{State, reg}
use Rattle.vax_machine.specs.Calls.{returned}
use Rattle.tree_core.specs.declared.program.TreeProgram.{TreeProgram}
use Rattle.tree_meaning.specs.State.{Activation, Extent}
use Rattle.tree_meaning.specs.State.{State as Trees}
use Rattle.vax_machine_lists.specs.Runs.{Leads, Halts, Gets}
use Rattle.vax_frames_law.specs.vax_states.specs.Agreeing.{Agrees}
use Rattle.vax_frames_law.specs.Laws.{IsRoomy}
use Rattle.vax_homes_items.specs.vax_homes_law.specs.Calling.{with_stack}
use Rattle.vax_homes_frames.specs.Live.{HomedCall, AllAtHome}
use Rattle.gg_compile_law.specs.Programs.{Waits, Stands}

-- Behind a return with a value the run is over, or the caller goes on, in a machine that stands for the trees' state behind the call.
abbrev pub ComesBack : TreeProgram → List CodeItem → List Activation → Trees → ℕ → State → List ℕ → Type 0
ComesBack program code [] t v m w = (count : ℕ) × Halts m w count (Ended v)
ComesBack program code (c ∷ cs) t v m w =
    (count : ℕ) × (n : State) × (st : List ℕ) × (1 ≤ count) × Leads m w count (with_stack n st)
    × Stands program code (record { running = record c { result = v }; callers = cs; area = t.area; input = t.input }) n st

abbrev pub ReturnsComeBack : Type 0
ReturnsComeBack =
    (program : TreeProgram) (code : List CodeItem) (m : State) (w : List ℕ) (j : ℕ) (e : Extent) (es : List Extent) (c : HomedCall)
    (cs : List HomedCall) (t : Trees) (mr : State) (st : List ℕ)
    → Gets m w j (returned (with_stack mr st)) → AllAtHome program.objects e es c cs t mr st → mr.items ≡ code → (v : ℕ) → reg mr R0 ≡ v
    → Waits program code c cs es t.callers → length t.callers < ACTIVE_CALL_LIMIT → ComesBack program code t.callers t v m w

-- The stack has room for a whole call, as long as at most `ACTIVE_CALL_LIMIT` calls are active.
abbrev pub StackHasRoom : Type 0
StackHasRoom =
    (program : TreeProgram) (code : List CodeItem) (e : Extent) (es : List Extent) (c : HomedCall) (cs : List HomedCall) (t : Trees)
    (m : State)
    → Agrees program.objects e es t m → e.words ≤ NEED_LIMIT → length t.running.pushed ≤ 255
    → Waits program code c cs es t.callers → length t.callers < ACTIVE_CALL_LIMIT
    → IsRoomy m
