-- What steps of the machine do, and instructions that stand in its code.
use Rattle.std.specs.Prelude.{◌≡◌, ℕ, ◌+◌, List, [], ◌∷◌, length, slice_get, Some}
use Rattle.gg_base.specs.declared.run.End.TheVariants.{Trapped}
use Rattle.gg_base.specs.Runs.{Runs, counted}
use Rattle.l32_core.specs.declared.code.Instr32.{Instr32}
use Rattle.l32_core.specs.declared.code.Item32.{Item32}
use Rattle.l32_core.specs.declared.code.Item32.TheVariants as item_kind
use Rattle.l32_machine.specs.State.{State}
use Rattle.l32_machine.specs.Labels.{label_place}
use Rattle.l32_machine.specs.Calls.{Acts, silent, called, returned}
use Rattle.l32_machine.specs.Step.{next_of}
use Rattle.l32_machine.specs.Running.{behind, steps, state_run}
use Rattle.l32_target_meaning.specs.l32_templates.specs.vax_templates.specs.sel_target.specs.Courses.{Course, Ending}
use Rattle.l32_target_meaning.specs.l32_templates.specs.vax_templates.specs.sel_target.specs.Courses.{Comes, Goes, Calls}
use Rattle.l32_target_meaning.specs.l32_templates.specs.vax_templates.specs.sel_target.specs.Courses.{Returns, Traps, Breaks}
use Rattle.run_leads.specs.Leads.{Leads, Halts}

-- the run in which this is done next, as one step
abbrev pub doing : Acts → Runs
doing acts = counted (λ n. behind (next_of acts) (steps n))

-- those in which a call of the code at a label, or a return, is done next
abbrev pub calling : State → List ℕ → ℕ → Runs
calling m name count = doing (silent (called m count (label_place m.items name)))

abbrev pub returning : State → Runs
returning m = doing (returned m)

-- instructions stand from a place on
abbrev pub HasInstrs : List Item32 → ℕ → List Instr32 → Type 0
HasInstrs code place [] = Unit {0}
HasInstrs code place (i ∷ is) = (slice_get code place ≡ Some (item_kind.Instr i)) × HasInstrs code (place + 1) is

-- a state at a place of the code that the machine m runs
abbrev pub at_of : State → State → ℕ → State
at_of m n place = record n { place = place; items = m.items; over = m.over }

-- The machine's steps from a state do what a course says, its instructions being so many.
abbrev pub CarriesTo : State → ℕ → List ℕ → Ending Instr32 State → Type 0
CarriesTo m count w (Comes n) = Leads (state_run m) w count (state_run (at_of m n (m.place + count)))
CarriesTo m count w (Goes label n) = (j : ℕ) × Leads (state_run m) w (j + 1) (state_run (at_of m n (label_place m.items label)))
CarriesTo m count w (Calls name args n rest) =
    (j : ℕ) × (place : ℕ) × (place + length rest ≡ m.place + count) × Leads (state_run m) w j (calling (at_of m n place) name args)
CarriesTo m count w (Returns n) = (j : ℕ) × (place : ℕ) × Leads (state_run m) w j (returning (at_of m n place))
CarriesTo m count w Traps = (j : ℕ) × Halts (state_run m) w j Trapped
CarriesTo m count w Breaks = Unit {0}

abbrev pub Carries : State → ℕ → Course Instr32 State → Type 0
Carries m count c = CarriesTo m count c.written c.ending
