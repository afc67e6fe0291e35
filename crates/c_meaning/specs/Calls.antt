-- What a call does, and how its caller goes on.
use Rattle.std.specs.Prelude.{ℕ, ◌+◌, ◌%◌, ◌-◌, ◌^◌, List, [], ◌∷◌, Option, Some, None, nat_lt}
use Rattle.std.specs.Prelude.{if◌then◌else◌, slice_get, replicate, length}
use Rattle.gg_base.specs.declared.limits.TheConstants.{ACTIVE_CALL_LIMIT}
use Rattle.gg_base.specs.declared.run.End.TheVariants.{Wild, Deep}
use Rattle.gg_base.specs.Runs.{Runs, stop, emit, counted}
use Rattle.c_types.specs.declared.types.CType.{CType}
use Rattle.c_types.specs.declared.typed.Callee.{Callee}
use Rattle.c_types.specs.declared.typed.Callee.TheVariants as callees
use Rattle.c_types.specs.Constants.{converted}
use Rattle.tree_core.specs.declared.program.Object.{Object}
use Rattle.c_program.specs.Programs.{ARoutine, AProgram}
use Rattle.c_meaning.specs.declared.flow.Flow.{Flow}
use Rattle.c_meaning.specs.declared.flow.Flow.TheVariants.{Onward, Broke, Continued, Returned}
use Rattle.c_meaning.specs.State.{State}
use Rattle.c_meaning.specs.Values.{Rest, Behind, Body, Next}
use Rattle.c_meaning.specs.Blocks.{claimed, released}

-- an argument is converted to its parameter's type
abbrev pub passed : List CType → ℕ → (ℕ → List CType → State → Runs) → State → Runs
passed [] v κ st = stop Wild
passed (t ∷ ts) v κ st = κ (converted t v) ts st

-- `putchar` writes the low byte of its argument, and answers it
abbrev pub put_char : List ℕ → Rest → State → Runs
put_char [] κ st = stop Wild
put_char (c ∷ cs) κ st = emit (c % 2 ^ 8) (κ (c % 2 ^ 8) st)

-- `getchar` answers the next byte of the input, or -1 at its end
abbrev pub got : List ℕ → Rest → State → Runs
got [] κ st = κ (2 ^ 32 - 1) st
got (b ∷ bs) κ st = κ b (record st { input = bs })

-- A function that is left other than by a `return` with a value answers 0.
abbrev pub answer : Flow → ℕ
answer Onward = 0
answer Broke = 0
answer Continued = 0
answer (Returned v) = v

-- behind a call the caller goes on
abbrev pub back : Rest → State → Behind
back κ st w st' = κ (answer w) (record st' { call = st.call; active = st.active })

-- a call has locals of its own, which are 0 at first, and its parameters are the values that it was given; it has no block yet
abbrev pub begun : ARoutine → List ℕ → State → State
begun g vs st = record st {
  call = record { locals = replicate (length g.locals) 0; parameters = vs; block = None };
  active = st.active + 1;
}

-- a function's body, round which its block is taken and given back
abbrev pub performed : List Object → Next → ARoutine → Behind → State → Runs
performed objects next g κ = claimed objects g.block (next (Body g.body) (released objects g.block κ))

-- at most `ACTIVE_CALL_LIMIT` calls are active
abbrev pub entered : List Object → Next → ARoutine → List ℕ → Rest → State → Runs
entered objects next g vs κ st =
    if nat_lt st.active ACTIVE_CALL_LIMIT then performed objects next g (back κ st) (begun g vs st) else stop Deep

-- a call of a function is counted
abbrev pub called : List Object → Option ARoutine → Next → List ℕ → Rest → State → Runs
called objects None next vs κ st = stop Wild
called objects (Some g) next vs κ st = counted (entered objects next g vs κ st)

abbrev pub call : AProgram → Next → Callee → List ℕ → Rest → State → Runs
call p next (callees.Defined f) vs κ st = called p.objects (slice_get p.routines f) next vs κ st
call p next callees.Putchar vs κ st = put_char vs κ st
call p next callees.Getchar vs κ st = got st.input κ st
