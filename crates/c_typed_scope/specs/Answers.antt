-- What a function returned and left, against a definition's answer.
use Rattle.std.specs.Prelude.{◌≡◌, Result, Ok, Err}
use Rattle.c_types.specs.declared.fault.TypeFault.{TypeFault}
use Rattle.c_types.specs.Answers.{Fault, Fails}

-- with what it answers seen by view, and a state; unless memory ran out
abbrev pub Turns : {X A S : Type 0} → (X → A) → Result X TypeFault → S → Result (A × S) Fault → Type 0
Turns view (Ok x) new answer = answer ≡ Ok (view x, new)
Turns view (Err e) new answer = Fails e answer

-- where a state alone is answered
abbrev pub OnlyTurns : {X S : Type 0} → Result X TypeFault → S → Result S Fault → Type 0
OnlyTurns (Ok x) new answer = answer ≡ Ok new
OnlyTurns (Err e) new answer = Fails e answer
