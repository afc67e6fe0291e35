-- What follows a phrase, and what is done with its value or its place.
use Rattle.std.specs.Prelude.{ℕ, zero, suc, List, Option, Some, None}
use Rattle.gg_base.specs.declared.run.End.TheVariants.{Trapped, Wild}
use Rattle.gg_base.specs.Runs.{Runs, stop}
use Rattle.c_types.specs.declared.types.CType.{CType}
use Rattle.c_types.specs.declared.typed.Variable.{Variable}
use Rattle.c_types.specs.declared.typed.Direction.{Direction}
use Rattle.c_types.specs.declared.typed.Direction.TheVariants.{Up, Down}
use Rattle.c_types.specs.declared.typed.Moment.{Moment}
use Rattle.c_types.specs.declared.typed.Moment.TheVariants.{Before, After}
use Rattle.c_types.specs.Constants.{converted, advanced, retreated}
use Rattle.c_types.specs.Typed.{AnExpression}
use Rattle.c_program.specs.Statements.{AnAction, SomeActions}
use Rattle.c_program.specs.Programs.{AProgram}
use Rattle.c_meaning.specs.declared.store.Spot.{Spot}
use Rattle.c_meaning.specs.declared.store.Spot.TheVariants.{Local, Parameter, Memory, InBlock}
use Rattle.c_meaning.specs.declared.flow.Flow.{Flow}
use Rattle.c_meaning.specs.State.{State, spot_of, block_address, held, put}

-- what follows an expression, the arguments of a call, a place that is found, and a statement
abbrev pub Rest : Type 0
Rest = ℕ → State → Runs

abbrev pub RestAll : Type 0
RestAll = List ℕ → State → Runs

abbrev pub RestAt : Type 0
RestAt = CType → Spot → State → Runs

abbrev pub Behind : Type 0
Behind = Flow → State → Runs

-- a loop: its condition, what is done behind each turn, and what a turn does
pub record ALoop : Type 0 where
  pub condition : Option AnExpression
  pub step : Option AnExpression
  pub body : AnAction

-- the loop of a `while` or `do`, and that of a `for`
abbrev pub plain_loop : AnExpression → AnAction → ALoop
plain_loop c a = record { condition = Some c; step = None; body = a }

abbrev pub for_loop : Option AnExpression → Option AnExpression → AnAction → ALoop
for_loop c e a = record { condition = c; step = e; body = a }

-- what is begun behind something that was counted: another look at a loop, or a function's body
pub data Task : Type 0 where
  Look : (l : ALoop) → Task
  Body : (row : SomeActions) → Task

-- what the tasks mean
abbrev pub Next : Type 0
Next = Task → Behind → State → Runs

-- A condition is true where its value is not 0.
abbrev pub chosen : ℕ → Runs → Runs → Runs
chosen zero a b = b
chosen (suc v) a b = a

abbrev pub logical : ℕ → ℕ
logical zero = 0
logical (suc v) = 1

-- a value, or a wild access, or a zero divisor, where there is none
abbrev pub or_wild : Option ℕ → Rest → State → Runs
or_wild None κ st = stop Wild
or_wild (Some v) κ st = κ v st

abbrev pub or_trap : Option ℕ → Rest → State → Runs
or_trap None κ st = stop Trapped
or_trap (Some v) κ st = κ v st

-- The value of an assignment is the value that the place then has.
abbrev pub written : Option State → ℕ → Rest → Runs
written None v κ = stop Wild
written (Some st) v κ = κ v st

abbrev pub read_at : CType → Spot → Rest → State → Runs
read_at t s κ st = or_wild (held t s st) κ st

abbrev pub store_at : CType → Spot → ℕ → Rest → State → Runs
store_at t s v κ st = written (put t s (converted t v) st) (converted t v) κ

-- `++` adds one, and `--` subtracts one; on a pointer, one element
abbrev pub stepped : Direction → CType → ℕ → ℕ
stepped Up t v = advanced t v 1
stepped Down t v = retreated t v 1

-- the value of `x++` is that before the step, and that of `++x` the one after it
abbrev pub of_moment : Moment → ℕ → ℕ → ℕ
of_moment Before x y = x
of_moment After x y = y

abbrev pub step_at : Moment → Direction → CType → Spot → Rest → State → Runs
step_at m by t s κ = read_at t s (λ x. store_at t s (stepped by t x) (λ y. κ (of_moment m x y)))

-- only a place in memory has an address
abbrev pub address_of : Spot → Rest → State → Runs
address_of (Local n) κ st = stop Wild
address_of (Parameter n) κ st = stop Wild
address_of (Memory a) κ st = κ a st
address_of (InBlock o) κ st = or_wild (block_address st.call o) κ st

abbrev pub located : Option Spot → (Spot → State → Runs) → State → Runs
located None κ st = stop Wild
located (Some s) κ st = κ s st

abbrev pub array_address : AProgram → Variable → Rest → State → Runs
array_address p v κ = located (spot_of p.objects v) (λ s. address_of s κ)
