-- When a code can be run, and where its run begins.
use Rattle.std.specs.Prelude.{◌≡◌, ℕ, nat_lt, List, [], ◌∷◌, Option, Some, None, Result, Ok, Err, if◌then◌else◌}
use Rattle.std.specs.Option.{option_or}
use Rattle.gg_base.specs.declared.limits.TheConstants.{AREA_LIMIT, STACK_SIZE, STACK_TOP}
use Rattle.vax_core.specs.First.{main_name}
use Rattle.vax_machine.specs.Area.{zeros, area_size, area_bytes}
use Rattle.vax_machine.specs.Labels.{undefined_area_label}
use Rattle.l32_core.specs.declared.code.Code32.{Code32}
use Rattle.l32_machine.specs.declared.label.Names.{Names}
use Rattle.l32_machine.specs.declared.machine.Machine32.{Machine32}
use Rattle.l32_machine.specs.declared.loading.Load32Fault.{Load32Fault}
use Rattle.l32_machine.specs.declared.loading.Load32Fault.TheVariants as loading_fault
use Rattle.l32_machine.specs.declared.frame.Frame32.{Frame32}
use Rattle.l32_machine.specs.State.{State}
use Rattle.l32_machine.specs.Labels.{has_label, label_place, double_label, double_area_label, undefined_label}
use Rattle.l32_machine.specs.View.{state}

-- the data area may have `AREA_LIMIT` bytes
abbrev pub too_large : Code32 → Option Load32Fault
too_large c = if nat_lt AREA_LIMIT (area_size c.area) then Some loading_fault.TooLarge else None

abbrev pub no_main : Code32 → Option Load32Fault
no_main c = if has_label c.items main_name then too_large c else Some loading_fault.NoMain

abbrev pub or_undefined : Option (List ℕ) → Code32 → Option Load32Fault
or_undefined (Some n) c = Some (loading_fault.UndefinedLabel n)
or_undefined None c = no_main c

-- the first name of a text that isn't defined for its use, the data area's before the code's
abbrev pub undefined_name_of : Code32 → Option (List ℕ)
undefined_name_of c = option_or (undefined_area_label c.area c.area) (undefined_label c.items c.area c.items)

abbrev pub or_double : Option (List ℕ) → Code32 → Option Load32Fault
or_double (Some n) c = Some (loading_fault.DoubleLabel n)
or_double None c = or_undefined (undefined_name_of c) c

-- the first label of a text that stands again behind it or has a service's name, the data area's before the code's
abbrev pub double_label_of : Code32 → Option (List ℕ)
double_label_of c = option_or (double_area_label c.area c.items) (double_label c.items)

-- the first fault of a code: a label that stands twice or is a service's name; a name that isn't defined for its use;
-- no `_main`; a data area that is too large
abbrev pub load_fault : Code32 → Option Load32Fault
load_fault c = or_double (double_label_of c) c

-- a code without fault
abbrev pub Loads : Code32 → Type 0
Loads c = load_fault c ≡ None

-- twelve registers 0
abbrev pub no_registers : List ℕ
no_registers = 0 ∷ (0 ∷ (0 ∷ (0 ∷ (0 ∷ (0 ∷ (0 ∷ (0 ∷ (0 ∷ (0 ∷ (0 ∷ (0 ∷ [])))))))))))

-- the frame of `_main`, whose return ends the run
abbrev pub first_frame : Frame32
first_frame = record { general = no_registers; fp = 0; sp = STACK_TOP; back = None }

-- the state behind the call of `_main`: registers and the stack's bytes 0, the stack pointer at the stack's top
abbrev pub start : Code32 → List ℕ → State
start c input = record {
  layout = c.area;
  items = c.items;
  place = label_place c.items main_name;
  general = no_registers;
  fp = STACK_TOP;
  sp = STACK_TOP;
  area = area_bytes c.area;
  stack = zeros STACK_SIZE;
  frames = first_frame ∷ [];
  input = input;
  over = None;
}

-- what loading a code gives
abbrev pub Loaded : Code32 → List ℕ → Result Machine32 Load32Fault → Type 0
Loaded c input (Ok m) = Loads c × (state m ≡ start c input)
Loaded c input (Err loading_fault.NoMemory) = Unit {0}
Loaded c input (Err (loading_fault.DoubleLabel n)) = load_fault c ≡ Some (loading_fault.DoubleLabel n)
Loaded c input (Err (loading_fault.UndefinedLabel n)) = load_fault c ≡ Some (loading_fault.UndefinedLabel n)
Loaded c input (Err loading_fault.NoMain) = load_fault c ≡ Some loading_fault.NoMain
Loaded c input (Err loading_fault.TooLarge) = load_fault c ≡ Some loading_fault.TooLarge

-- the fault of a label that stands twice
abbrev pub IsDouble : Option (List ℕ) → Load32Fault → Type 0
IsDouble None e = ⊥
IsDouble (Some n) e = e ≡ loading_fault.DoubleLabel n

-- the code that names are of
abbrev pub code_of : Names → Code32
code_of n = record { area = n.layout.now; items = n.items.now }
