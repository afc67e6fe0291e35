-- What may not stand directly behind an operand.
use Rattle.std.proofs.Common.{◌≡◌, ℕ, List, [], ◌∷◌, ◌≤◌, None, refl, subst, sym, arith}
use Rattle.std.proofs.lemmas.Option.{none-some}
use Rattle.c_tokens.specs.declared.token.Token.{Token}
use Rattle.c_tokens.specs.declared.token.Token.TheVariants as token
use Rattle.c_tokens.specs.declared.marks.Mark.{Mark}
use Rattle.c_tokens.specs.declared.marks.Mark.TheVariants as marks
use Rattle.c_phrases.specs.declared.operator.StepOperator.{StepOperator}
use Rattle.c_phrases.specs.declared.operator.StepOperator.TheVariants as steps
use Rattle.c_phrases.specs.Classes.{Placed, mark_class, sign}
use Rattle.c_phrases.specs.Operators.{step_mark}
use Rattle.c_phrases.specs.Takes.{NoStep, NoStepMark, step_of, NoAssign, NoAssignMark, assign_of, NoBinary, NoBinaryMark, binary_of}
use Rattle.c_phrases.specs.Fronts.{Quiet, IsNot, strength, mark_strength}
use Rattle.c_syntax.specs.Reads.{IsStop, StopClass}

pub open_stops : (ts rest : List Placed) (at : ℕ) → ts ≡ sign marks.OpenParenthesis at ∷ rest → IsStop ts
open_stops ts rest at e = rw e tt

pub bracket_stops : (ts rest : List Placed) (at : ℕ) → ts ≡ sign marks.OpenBracket at ∷ rest → IsStop ts
bracket_stops ts rest at e = rw e tt

step_class : (op : StepOperator) → StopClass (mark_class (step_mark op))
step_class steps.Increment = tt
step_class op = tt

pub step_stops : (ts rest : List Placed) (op : StepOperator) (at : ℕ) → ts ≡ sign (step_mark op) at ∷ rest → IsStop ts
step_stops ts rest op at e = rw e (step_class op)

mark_quiet : (m : Mark) → (token.Mark m ≡ token.Mark marks.OpenParenthesis → ⊥) → (token.Mark m ≡ token.Mark marks.OpenBracket → ⊥) → step_of m ≡ None → mark_strength m ≤ 13
mark_quiet marks.OpenParenthesis h i e = absurd (h refl)
mark_quiet marks.OpenBracket h i e = absurd (i refl)
mark_quiet marks.Increment h i e = absurd (none-some _ (sym e))
mark_quiet marks.Decrement h i e = absurd (none-some _ (sym e))
mark_quiet m h i e = omega arith

token_quiet : (k : Token) → (k ≡ token.Mark marks.OpenParenthesis → ⊥) → (k ≡ token.Mark marks.OpenBracket → ⊥) → NoStepMark k → strength k ≤ 13
token_quiet (token.Mark m) h i e = mark_quiet m h i e
token_quiet (token.Key k) h i e = omega arith
token_quiet (token.Name n) h i e = omega arith
token_quiet (token.Number v) h i e = omega arith
token_quiet (token.Str b) h i e = omega arith
token_quiet token.End h i e = omega arith

pub quiet_of : (ts : List Placed) → IsNot (token.Mark marks.OpenParenthesis) ts → IsNot (token.Mark marks.OpenBracket) ts → NoStep ts → Quiet 13 ts
quiet_of [] h i e = tt
quiet_of (t ∷ ts) h i e = token_quiet t.kind h i e

-- ---- behind an operand where an operator of some kind doesn't stand

mark_unassigned : (m : Mark) → mark_strength m ≤ 2 → assign_of m ≡ None → mark_strength m ≤ 1
mark_unassigned marks.Assign h e = absurd (none-some _ (sym e))
mark_unassigned marks.AddAssign h e = absurd (none-some _ (sym e))
mark_unassigned marks.SubtractAssign h e = absurd (none-some _ (sym e))
mark_unassigned marks.MultiplyAssign h e = absurd (none-some _ (sym e))
mark_unassigned marks.DivideAssign h e = absurd (none-some _ (sym e))
mark_unassigned marks.RemainderAssign h e = absurd (none-some _ (sym e))
mark_unassigned marks.AndAssign h e = absurd (none-some _ (sym e))
mark_unassigned marks.XorAssign h e = absurd (none-some _ (sym e))
mark_unassigned marks.OrAssign h e = absurd (none-some _ (sym e))
mark_unassigned marks.ShiftLeftAssign h e = absurd (none-some _ (sym e))
mark_unassigned marks.ShiftRightAssign h e = absurd (none-some _ (sym e))
mark_unassigned m h e = omega arith

token_unassigned : (k : Token) → strength k ≤ 2 → NoAssignMark k → strength k ≤ 1
token_unassigned (token.Mark m) h e = mark_unassigned m h e
token_unassigned (token.Key k) h e = omega arith
token_unassigned (token.Name n) h e = omega arith
token_unassigned (token.Number v) h e = omega arith
token_unassigned (token.Str b) h e = omega arith
token_unassigned token.End h e = omega arith

pub quiet_unassigned : (ts : List Placed) → Quiet 2 ts → NoAssign ts → Quiet 1 ts
quiet_unassigned [] h e = tt
quiet_unassigned (t ∷ ts) h e = token_unassigned t.kind h e

mark_unasked : (m : Mark) → mark_strength m ≤ 3 → (token.Mark m ≡ token.Mark marks.Question → ⊥) → mark_strength m ≤ 2
mark_unasked marks.Question h e = absurd (e refl)
mark_unasked m h e = omega arith

token_unasked : (k : Token) → strength k ≤ 3 → (k ≡ token.Mark marks.Question → ⊥) → strength k ≤ 2
token_unasked (token.Mark m) h e = mark_unasked m h e
token_unasked (token.Key k) h e = omega arith
token_unasked (token.Name n) h e = omega arith
token_unasked (token.Number v) h e = omega arith
token_unasked (token.Str b) h e = omega arith
token_unasked token.End h e = omega arith

pub quiet_unasked : (ts : List Placed) → Quiet 3 ts → IsNot (token.Mark marks.Question) ts → Quiet 2 ts
quiet_unasked [] h e = tt
quiet_unasked (t ∷ ts) h e = token_unasked t.kind h e

mark_unjoined : (m : Mark) → mark_strength m ≤ 13 → binary_of m ≡ None → mark_strength m ≤ 3
mark_unjoined marks.Star h e = absurd (none-some _ (sym e))
mark_unjoined marks.Slash h e = absurd (none-some _ (sym e))
mark_unjoined marks.Percent h e = absurd (none-some _ (sym e))
mark_unjoined marks.Plus h e = absurd (none-some _ (sym e))
mark_unjoined marks.Minus h e = absurd (none-some _ (sym e))
mark_unjoined marks.ShiftLeft h e = absurd (none-some _ (sym e))
mark_unjoined marks.ShiftRight h e = absurd (none-some _ (sym e))
mark_unjoined marks.Less h e = absurd (none-some _ (sym e))
mark_unjoined marks.LessEqual h e = absurd (none-some _ (sym e))
mark_unjoined marks.Greater h e = absurd (none-some _ (sym e))
mark_unjoined marks.GreaterEqual h e = absurd (none-some _ (sym e))
mark_unjoined marks.Equal h e = absurd (none-some _ (sym e))
mark_unjoined marks.NotEqual h e = absurd (none-some _ (sym e))
mark_unjoined marks.And h e = absurd (none-some _ (sym e))
mark_unjoined marks.Xor h e = absurd (none-some _ (sym e))
mark_unjoined marks.Or h e = absurd (none-some _ (sym e))
mark_unjoined marks.AndAnd h e = absurd (none-some _ (sym e))
mark_unjoined marks.OrOr h e = absurd (none-some _ (sym e))
mark_unjoined m h e = omega arith

token_unjoined : (k : Token) → strength k ≤ 13 → NoBinaryMark k → strength k ≤ 3
token_unjoined (token.Mark m) h e = mark_unjoined m h e
token_unjoined (token.Key k) h e = omega arith
token_unjoined (token.Name n) h e = omega arith
token_unjoined (token.Number v) h e = omega arith
token_unjoined (token.Str b) h e = omega arith
token_unjoined token.End h e = omega arith

pub quiet_unjoined : (ts : List Placed) → Quiet 13 ts → NoBinary ts → Quiet 3 ts
quiet_unjoined [] h e = tt
quiet_unjoined (t ∷ ts) h e = token_unjoined t.kind h e
