-- Faults of a text whatever is to be read behind, and those that one further on gives here.
use Rattle.std.specs.Prelude.{◌≡◌, ℕ, List, Err, false}
use Rattle.c_syntax_goals.specs.declared.fault.Fault.{Fault}
use Rattle.c_syntax_goals.specs.declared.fault.Fault.TheVariants.{NoMemory, NotHere, TooDeep}
use Rattle.c_phrases.specs.Classes.{Placed}
use Rattle.c_syntax_goals.specs.Goals.{Stack, Want, PostTail, Commas, Tail}
use Rattle.c_syntax_goals.specs.Expressions.{cond_goals}
use Rattle.c_syntax_goals.specs.Machine.{run}
use Rattle.c_phrases.specs.Phrases.{AnExp}
use Rattle.c_phrases.specs.Levels.{limit}

-- whatever is to be read behind this, the text has this fault
abbrev pub Fails : {V : Type 0} → ((V → Stack) → Stack) → ℕ → List Placed → Fault → Type 0
Fails F n ts NoMemory = Unit {0}
Fails {V = V} F n ts (NotHere k) = (κ : V → Stack) → run limit (F κ) n ts ≡ Err (NotHere k)
Fails {V = V} F n ts (TooDeep k) = (κ : V → Stack) → run limit (F κ) n ts ≡ Err (TooDeep k)

-- the same of what may follow an operand, whichever that is
abbrev pub TailFails : ℕ → List Placed → Fault → Type 0
TailFails n ts f = (l : AnExp) → Fails (Want (Tail false l)) n ts f

abbrev pub PostFails : ℕ → List Placed → Fault → Type 0
PostFails n ts f = (l : AnExp) → Fails (Want (PostTail l)) n ts f

abbrev pub CommasFail : ℕ → List Placed → Fault → Type 0
CommasFail n ts f = (l : AnExp) → Fails (Want (Commas l)) n ts f

-- a fault of what may follow an operand there is one here
abbrev pub TailLeads : ℕ → List Placed → ℕ → List Placed → Type 0
TailLeads n ts m rest = (f : Fault) → TailFails m rest f → TailFails n ts f

-- a fault of what may follow an operand there is one of a condition here
abbrev pub CondLeads : ℕ → List Placed → ℕ → List Placed → Type 0
CondLeads n ts m rest = (f : Fault) → TailFails m rest f → Fails cond_goals n ts f

-- behind this the run goes on with the rest
abbrev pub Leads : {V : Type 0} → ((V → Stack) → Stack) → ℕ → List Placed → V → ℕ → List Placed → Type 0
Leads {V = V} F n ts v m rest = (κ : V → Stack) → run limit (F κ) n ts ≡ run limit (κ v) m rest
