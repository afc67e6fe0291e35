-- The parts of a machine as the meaning has them.
use Rattle.std.specs.Prelude.{ℕ, ◌-◌, ◌^◌, List, [], ◌∷◌, Option, Some, None, Result, Ok, Err, Bool, true, false}
use Rattle.std.specs.Borrow.{Bor}
use Rattle.gg_base.specs.declared.run.End.TheVariants.{Wild}
use Rattle.gg_base.specs.declared.run.Finish.{Finish}
use Rattle.gg_base.specs.Runs.{Runs, stop}
use Rattle.gg_base.specs.Turns.{end_of}
use Rattle.gg_base.specs.Relations.{holds}
use Rattle.gg_base.specs.Numbers.{truth}
use Rattle.c_types.specs.declared.types.CType.{CType}
use Rattle.c_types.specs.declared.typed.Expression.{Expression}
use Rattle.c_types.specs.Constants.{apply, advanced, retreated, distance}
use Rattle.c_types.specs.Typed.{AnExpression}
use Rattle.c_types.specs.Typed.{expression_of}
use Rattle.c_program.specs.Statements.{act}
use Rattle.c_meaning.specs.declared.operator.Operator.{Operator}
use Rattle.c_meaning.specs.declared.operator.Operator.TheVariants as operators
use Rattle.c_meaning.specs.declared.store.Spot.{Spot}
use Rattle.c_meaning.specs.declared.store.Activation.{Activation}
use Rattle.c_meaning.specs.declared.store.Store.{Store}
use Rattle.c_meaning.specs.declared.frame.Loop.{Loop}
use Rattle.c_meaning.specs.State.{Call, State}
use Rattle.c_meaning.specs.Values.{Rest, ALoop, or_trap, store_at}

abbrev pub activation : Activation → Call
activation c = record { locals = c.locals.items; parameters = c.parameters.items; block = c.block }

abbrev pub state : Store → State
state s = record { call = activation s.call; area = s.area.items; input = s.input.now; active = s.active }

abbrev pub got_byte : List ℕ → ℕ
got_byte [] = 2 ^ 32 - 1
got_byte (b ∷ bs) = b

abbrev pub maybe_bor : Option (Bor Expression) → Option AnExpression
maybe_bor None = None
maybe_bor (Some e) = Some (expression_of e.now)

abbrev pub loop_of : Loop → ALoop
loop_of l = record { condition = maybe_bor l.condition; step = maybe_bor l.step; body = act l.body.now.value }

-- what follows a block that was taken, or an end
abbrev pub taken : Result (Unit {0}) Finish → State → (State → Runs) → Runs
taken (Ok u) st κ = κ st
taken (Err e) st κ = stop (end_of e)

-- what follows a change of memory, if it can be made
abbrev pub changed_if : Bool → State → (State → Runs) → Runs
changed_if true st κ = κ st
changed_if false st κ = stop Wild

-- the value of an operator at two values
abbrev pub combined : Operator → ℕ → ℕ → Option ℕ
combined (operators.Arithmetic op) x y = apply op x y
combined (operators.Compare rel) x y = Some (truth (holds rel x y))
combined (operators.Advance t) x y = Some (advanced t x y)
combined (operators.AdvanceBy t) x y = Some (advanced t y x)
combined (operators.Retreat t) x y = Some (retreated t x y)
combined (operators.Distance t) x y = distance t x y

-- the last step of a compound assignment
abbrev pub changed : CType → Spot → Operator → ℕ → ℕ → Rest → State → Runs
changed t s op x y κ = or_trap (combined op x y) (λ v. store_at t s v κ)
