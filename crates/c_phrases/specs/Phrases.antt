-- The phrases as plain data, one constructor for each alternative, and which phrase of the grammar each is.
use Rattle.std.specs.Prelude.{◌≤◌, ℕ, ◌+◌, List}
use Rattle.c_phrases.specs.declared.operator.BinaryOperator.{BinaryOperator}
use Rattle.c_phrases.specs.declared.operator.PrefixOperator.{PrefixOperator}
use Rattle.c_phrases.specs.declared.operator.StepOperator.{StepOperator}
use Rattle.c_phrases.specs.declared.operator.AssignOperator.{AssignOperator}
use Rattle.c_phrases.specs.declared.tree.TypeName.{TypeName}
use Rattle.c_phrases.specs.Operators.{level_of}

mutual
  pub data AnExp : Type 0 where
    name : (n : List ℕ) (at : ℕ) → AnExp
    number : (v at : ℕ) → AnExp
    str : (bytes : List ℕ) (at : ℕ) → AnExp
    paren : (opened : ℕ) (e : AnExp) → AnExp
    call : (n : List ℕ) (at opened : ℕ) (es : SomeExps) → AnExp
    index : (e : AnExp) (opened : ℕ) (i : AnExp) → AnExp
    step_after : (e : AnExp) (op : StepOperator) (at : ℕ) → AnExp
    step_before : (op : StepOperator) (at : ℕ) (e : AnExp) → AnExp
    prefix : (op : PrefixOperator) (at : ℕ) (e : AnExp) → AnExp
    sizeof_exp : (at : ℕ) (e : AnExp) → AnExp
    sizeof_type : (at opened : ℕ) (t : TypeName) → AnExp
    cast : (opened : ℕ) (t : TypeName) (e : AnExp) → AnExp
    binary : (l : AnExp) (op : BinaryOperator) (at : ℕ) (r : AnExp) → AnExp
    choice : (c : AnExp) (at : ℕ) (e d : AnExp) → AnExp
    assign : (p : AnExp) (op : AssignOperator) (at : ℕ) (v : AnExp) → AnExp
    comma : (l r : AnExp) → AnExp

  pub data SomeExps : Type 0 where
    no_exps : SomeExps
    exps : (e : AnExp) (es : SomeExps) → SomeExps

-- Which phrase of the grammar an expression is: expr 0, assign 1, cond 2, the ten binary levels 3 to 12, cast 13, unary
-- 14, postfix 15, primary 16. A phrase of a higher number stands where a lower one may.
abbrev mutual
  pub IsAt : ℕ → AnExp → Type 0
  IsAt k (name n at) = Unit {0}
  IsAt k (number v at) = Unit {0}
  IsAt k (str b at) = Unit {0}
  IsAt k (paren o e) = IsAt 0 e
  IsAt k (call n at o es) = AllAt es
  IsAt k (index e o i) = (k ≤ 15) × (IsAt 15 e × IsAt 0 i)
  IsAt k (step_after e op at) = (k ≤ 15) × IsAt 15 e
  IsAt k (step_before op at e) = (k ≤ 14) × IsAt 14 e
  IsAt k (prefix op at e) = (k ≤ 14) × IsAt 13 e
  IsAt k (sizeof_exp at e) = (k ≤ 14) × IsAt 14 e
  IsAt k (sizeof_type at o t) = k ≤ 14
  IsAt k (cast o t e) = (k ≤ 13) × IsAt 13 e
  IsAt k (binary l op at r) = (k ≤ level_of op) × (IsAt (level_of op) l × IsAt (level_of op + 1) r)
  IsAt k (choice c at e d) = (k ≤ 2) × (IsAt 3 c × (IsAt 0 e × IsAt 2 d))
  IsAt k (assign p op at v) = (k ≤ 1) × (IsAt 14 p × IsAt 1 v)
  IsAt k (comma l r) = (k ≤ 0) × (IsAt 0 l × IsAt 1 r)

  -- arguments and the elements of a list are of the phrase assign
  pub AllAt : SomeExps → Type 0
  AllAt no_exps = Unit {0}
  AllAt (exps e es) = IsAt 1 e × AllAt es

-- The level behind an expression that begins at level n: its operators are counted until it ends.
abbrev pub after_exp : AnExp → ℕ → ℕ
after_exp (name x at) n = n
after_exp (number v at) n = n
after_exp (str b at) n = n
after_exp (paren o e) n = n
after_exp (call x at o es) n = n + 1
after_exp (index e o i) n = after_exp e n + 1
after_exp (step_after e op at) n = after_exp e n + 1
after_exp (step_before op at e) n = after_exp e (n + 1)
after_exp (prefix op at e) n = after_exp e (n + 1)
after_exp (sizeof_exp at e) n = after_exp e (n + 1)
after_exp (sizeof_type at o t) n = n + 1
after_exp (cast o t e) n = after_exp e (n + 1)
after_exp (binary l op at r) n = after_exp r (after_exp l n + 1)
after_exp (choice c at e d) n = after_exp d (after_exp e (after_exp c n + 1))
after_exp (assign p op at v) n = after_exp v (after_exp p n + 1)
after_exp (comma l r) n = after_exp r (after_exp l n + 1)
