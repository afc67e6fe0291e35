-- When a code can be run, and where its run begins.
use Rattle.std.specs.Prelude.{◌≡◌, ℕ, nat_lt, List, [], ◌∷◌, Option, Some, None, Result, Ok, Err, if◌then◌else◌}
use Rattle.std.specs.Option.{option_or}
use Rattle.gg_base.specs.declared.limits.TheConstants.{AREA_LIMIT, STACK_SIZE, STACK_TOP}
use Rattle.vax_core.specs.declared.code.Code.{Code}
use Rattle.vax_core.specs.First.{main_name}
use Rattle.vax_machine.specs.declared.turn.Stop.{Stop}
use Rattle.vax_machine.specs.declared.label.Names.{Names}
use Rattle.vax_machine.specs.declared.machine.Machine.{Machine}
use Rattle.vax_machine.specs.declared.loading.LoadFault.{LoadFault}
use Rattle.vax_machine.specs.declared.loading.LoadFault.TheVariants as loading_fault
use Rattle.vax_machine.specs.State.{State, cleared}
use Rattle.vax_machine.specs.Area.{zeros, area_size, area_bytes}
use Rattle.vax_machine.specs.Labels.{has_label, label_place, double_label, double_area_label}
use Rattle.vax_machine.specs.Labels.{undefined_label, undefined_area_label}
use Rattle.vax_machine.specs.Calls.{called}
use Rattle.vax_machine.specs.View.{state}

-- the data area may have `AREA_LIMIT` bytes
abbrev pub too_large : Code → Option LoadFault
too_large c = if nat_lt AREA_LIMIT (area_size c.area) then Some loading_fault.TooLarge else None

abbrev pub no_main : Code → Option LoadFault
no_main c = if has_label c.items main_name then too_large c else Some loading_fault.NoMain

abbrev pub or_undefined : Option (List ℕ) → Code → Option LoadFault
or_undefined (Some n) c = Some (loading_fault.UndefinedLabel n)
or_undefined None c = no_main c

-- the first name of a text that isn't defined for its use, the data area's before the code's
abbrev pub undefined_name_of : Code → Option (List ℕ)
undefined_name_of c = option_or (undefined_area_label c.area c.area) (undefined_label c.items c.area c.items)

abbrev pub or_double : Option (List ℕ) → Code → Option LoadFault
or_double (Some n) c = Some (loading_fault.DoubleLabel n)
or_double None c = or_undefined (undefined_name_of c) c

-- the first label of a text that stands again behind it or has a service's name, the data area's before the code's
abbrev pub double_label_of : Code → Option (List ℕ)
double_label_of c = option_or (double_area_label c.area c.items) (double_label c.items)

-- the first fault of a code: a label that stands twice or is a service's name; a name that isn't defined for its use;
-- no `_main`; a data area that is too large
abbrev pub load_fault : Code → Option LoadFault
load_fault c = or_double (double_label_of c) c

-- a code without fault
abbrev pub Loads : Code → Type 0
Loads c = load_fault c ≡ None

-- before the call of `_main`: all registers and the stack's bytes 0, but sp, which is at the stack's top
abbrev pub blank : Code → List ℕ → State
blank c input = record {
  layout = c.area;
  items = c.items;
  place = 0;
  registers = 0 ∷ (0 ∷ (0 ∷ (0 ∷ (0 ∷ (0 ∷ (0 ∷ (0 ∷ (0 ∷ (0 ∷ (0 ∷ (0 ∷ (0 ∷ (0 ∷ (STACK_TOP ∷ []))))))))))))));
  conditions = cleared;
  area = area_bytes c.area;
  stack = zeros STACK_SIZE;
  frames = [];
  input = input;
  over = None;
}

-- where the call of `_main` breaks, the run is over before the first step
abbrev pub begun : State → Result State Stop → State
begun m (Ok n) = n
begun m (Err e) = record m { over = Some e }

-- the state behind the call of `_main`
abbrev pub start : Code → List ℕ → State
start c input = begun (blank c input) (called (blank c input) 0 (label_place c.items main_name) None)

-- a machine that is over answers so at each step, whatever else its state is
abbrev pub SameFrom : Option Stop → State → State → Type 0
SameFrom None m n = m ≡ n
SameFrom (Some e) m n = m.over ≡ Some e

-- a machine does from now on what a state does
abbrev pub Stands : State → State → Type 0
Stands m n = SameFrom n.over m n

-- what loading a code gives
abbrev pub Loaded : Code → List ℕ → Result Machine LoadFault → Type 0
Loaded c input (Ok m) = Loads c × Stands (state m) (start c input)
Loaded c input (Err loading_fault.NoMemory) = Unit {0}
Loaded c input (Err (loading_fault.DoubleLabel n)) = load_fault c ≡ Some (loading_fault.DoubleLabel n)
Loaded c input (Err (loading_fault.UndefinedLabel n)) = load_fault c ≡ Some (loading_fault.UndefinedLabel n)
Loaded c input (Err loading_fault.NoMain) = load_fault c ≡ Some loading_fault.NoMain
Loaded c input (Err loading_fault.TooLarge) = load_fault c ≡ Some loading_fault.TooLarge

-- the fault of a label that stands twice
abbrev pub IsDouble : Option (List ℕ) → LoadFault → Type 0
IsDouble None e = ⊥
IsDouble (Some n) e = e ≡ loading_fault.DoubleLabel n

-- the code that names are of
abbrev pub code_of : Names → Code
code_of n = record { area = n.layout.now; items = n.items.now }
