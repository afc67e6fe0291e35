-- What a phrase is typed as, or the first fault.
use Rattle.std.specs.Prelude.{◌≡◌, ℕ, Result, Ok, Err}
use Rattle.c_types.specs.declared.fault.TypeKind.{TypeKind}
use Rattle.c_types.specs.declared.fault.TypeFault.{TypeFault}
use Rattle.c_types.specs.declared.fault.TypeFault.TheVariants.{NoMemory, At}

pub record Fault : Type 0 where
  pub place : ℕ
  pub kind : TypeKind

abbrev pub bad : {A : Type 0} → ℕ → TypeKind → Result A Fault
bad place kind = Err (record { place = place; kind = kind })

-- one after another, up to the first fault
infixl 10 ◌>>=◌
abbrev pub ◌>>=◌ : {A B : Type 0} → Result A Fault → (A → Result B Fault) → Result B Fault
(Ok x) >>= f = f x
(Err e) >>= f = Err e

-- the fault that a function returned is the definition's, unless memory ran out
abbrev pub Fails : {Y : Type 0} → TypeFault → Result Y Fault → Type 0
Fails NoMemory answer = Unit {0}
Fails (At place kind) answer = answer ≡ bad place kind

-- what a function returned, seen by view, is the definition's answer, unless memory ran out
abbrev pub Gives : {X Y : Type 0} → (X → Y) → Result X TypeFault → Result Y Fault → Type 0
Gives view (Ok x) answer = answer ≡ Ok (view x)
Gives view (Err e) answer = Fails e answer
