-- What holds of operands holds of what the table of operators makes of them.
use Rattle.std.proofs.Common.{◌≡◌, ℕ, Bool, true, false, Option, Some, None, Result, Ok, Err, refl}
use Rattle.std.specs.Prelude.{if◌then◌else◌}
use Rattle.gg_base.specs.declared.relation.Rel.{Rel}
use Rattle.c_tokens.specs.declared.token.Token.{Token}
use Rattle.gg_base.specs.declared.relation.Rel.TheVariants as relations
use Rattle.c_phrases.specs.declared.operator.BinaryOperator.{BinaryOperator}
use Rattle.c_phrases.specs.declared.operator.BinaryOperator.TheVariants as binaries
use Rattle.c_phrases.specs.declared.operator.PrefixOperator.{PrefixOperator}
use Rattle.c_phrases.specs.declared.operator.PrefixOperator.TheVariants as prefixes
use Rattle.c_phrases.specs.declared.operator.StepOperator.{StepOperator}
use Rattle.c_phrases.specs.declared.operator.AssignOperator.{AssignOperator}
use Rattle.c_phrases.specs.declared.operator.AssignOperator.TheVariants as assigns
use Rattle.c_types.specs.declared.types.CType.{CType}
use Rattle.c_types.specs.declared.types.CType.TheVariants.{Void, Integer, Pointer}
use Rattle.c_types.specs.declared.typed.Variable.{Variable}
use Rattle.c_types.specs.declared.typed.Variable.TheVariants as variables
use Rattle.c_types.specs.declared.typed.Callee.{Callee}
use Rattle.c_types.specs.declared.typed.Moment.{Moment}
use Rattle.c_types.specs.declared.typed.UnaryOperator.{UnaryOperator}
use Rattle.c_types.specs.declared.typed.UnaryOperator.TheVariants as unaries
use Rattle.c_types.specs.declared.typed.ArithmeticOperator.{ArithmeticOperator}
use Rattle.c_types.specs.declared.typed.ArithmeticOperator.TheVariants as ariths
use Rattle.c_types.specs.Answers.{Fault, ◌>>=◌}
use Rattle.c_types.specs.Types.{is_integer, is_scalar, target, pointer_to, size_of}
use Rattle.c_types.specs.Typed.{APlace, VariableAt, PointedBy, ElementBy, AnExpression, ReadOf, SizeOfExpression, SizeOf, UnaryOf, CastTo}
use Rattle.c_types.specs.Typed.{ArithmeticAssignTo, AssignTo, place_type, type_of, operand_size}
use Rattle.c_typed_operators.specs.Rules.{fits, plus, binary_of}
use Rattle.c_typed_operators.specs.Prefixes.{unary, negation, indirection_at, indirection, element_at, element}
use Rattle.c_typed_operators.specs.Prefixes.{index_of, address_by, address_of, address, prefix_of, direction, step_at}
use Rattle.c_typed_operators.specs.Prefixes.{step, cast_of, sizeof_of, sizeof_type_of}
use Rattle.c_typed_operators.specs.Choices.{arms, choice_by, choice_of}
use Rattle.c_typed_operators.specs.Stores.{store, arithmetic_store, plus_store_at, minus_store_at, plus_store}
use Rattle.c_typed_operators.specs.Stores.{minus_store, store_by, assign_of}
use Rattle.c_typed_operators.specs.Table.{IsSum, SumOfIntegers, PointerPlus, PlusPointer, IsDifference, DifferenceOfIntegers, PointerMinus, DifferenceOfPointers, IsOrdered}
use Rattle.c_typed_operators.specs.Table.{OrderOfIntegers, OrderOfPointers, IsBinary}
use Rattle.c_typed_operators.proofs.Law.{binary_means}
use Rattle.c_sound.specs.Stands.{IsAddition}
use Rattle.c_sound_bodies.proofs.ByParts.{Closed}

abbrev typed : AnExpression → Result AnExpression Fault
typed t = Ok t

-- what a test let through
pub tested : {A : Type 0} (test : Bool) (m : Result A Fault) (f : Fault) (u : A) → (if test then m else Err f) ≡ Ok u → m ≡ Ok u
tested true m f u e = e
tested false m f u e = absurd (cc)

module _ (T : Token → Type 0) (known : Variable → ℕ → Type 0) (calls : Callee → ℕ → Type 0) (objects : ℕ) (P : AnExpression → Type 0)
    (c : Closed T known calls objects P) where
  same : (t u : AnExpression) → typed t ≡ Ok u → P t → P u
  same t u e p = let is : u ≡ t = cc in rw is p

  passed : (test : Bool) (t u : AnExpression) (f : Fault) → (if test then Ok t else Err f) ≡ Ok u → P t → P u
  passed test t u f e p = same t u (tested test (Ok t) f u e) p

  sum_has : (x y t : AnExpression) → IsSum x y t → P x → P y → P t
  sum_has x y t (SumOfIntegers row) p q = rw (row.is) (c.arithmetic ariths.Add x y p q)
  sum_has x y t (PointerPlus left right is) p q = rw is (c.advance (type_of x) x y p q)
  sum_has x y t (PlusPointer left right is) p q = rw is (c.advance_by (type_of y) x y p q)

  difference_has : (x y t : AnExpression) → IsDifference x y t → P x → P y → P t
  difference_has x y t (DifferenceOfIntegers row) p q = rw (row.is) (c.arithmetic ariths.Subtract x y p q)
  difference_has x y t (PointerMinus left right is) p q = rw is (c.retreat (type_of x) x y p q)
  difference_has x y t (DifferenceOfPointers both is) p q = rw is (c.distance (type_of x) x y p q)

  order_has : (signed unsigned : Rel) (x y t : AnExpression) → IsOrdered signed unsigned x y t → P x → P y → P t
  order_has signed unsigned x y t (OrderOfIntegers left right is) p q = rw is (c.compare signed x y p q)
  order_has signed unsigned x y t (OrderOfPointers both is) p q = rw is (c.compare unsigned x y p q)

  pub binary_has : (op : BinaryOperator) (x y t : AnExpression) → IsBinary op x y t → P x → P y → P t
  binary_has binaries.OrOr x y t row p q = rw (row.is) (c.either x y p q)
  binary_has binaries.AndAnd x y t row p q = rw (row.is) (c.both x y p q)
  binary_has binaries.Or x y t row p q = rw (row.is) (c.arithmetic ariths.Or x y p q)
  binary_has binaries.Xor x y t row p q = rw (row.is) (c.arithmetic ariths.Xor x y p q)
  binary_has binaries.And x y t row p q = rw (row.is) (c.arithmetic ariths.And x y p q)
  binary_has binaries.Equal x y t row p q = rw (row.is) (c.compare relations.Eq x y p q)
  binary_has binaries.NotEqual x y t row p q = rw (row.is) (c.compare relations.Ne x y p q)
  binary_has binaries.Less x y t row p q = order_has relations.Lt relations.Ltu x y t row p q
  binary_has binaries.LessEqual x y t row p q = order_has relations.Le relations.Leu x y t row p q
  binary_has binaries.Greater x y t row p q = order_has relations.Gt relations.Gtu x y t row p q
  binary_has binaries.GreaterEqual x y t row p q = order_has relations.Ge relations.Geu x y t row p q
  binary_has binaries.ShiftLeft x y t row p q = rw (row.is) (c.arithmetic ariths.ShiftLeft x y p q)
  binary_has binaries.ShiftRight x y t row p q = rw (row.is) (c.arithmetic ariths.ShiftRight x y p q)
  binary_has binaries.Add x y t row p q = sum_has x y t row p q
  binary_has binaries.Subtract x y t row p q = difference_has x y t row p q
  binary_has binaries.Multiply x y t row p q = rw (row.is) (c.arithmetic ariths.Multiply x y p q)
  binary_has binaries.Divide x y t row p q = rw (row.is) (c.arithmetic ariths.Divide x y p q)
  binary_has binaries.Remainder x y t row p q = rw (row.is) (c.arithmetic ariths.Remainder x y p q)

  element_by : (t : CType) (at : ℕ) (x u : AnExpression) → element_at t at x ≡ Ok u → IsAddition x → P x → P u
  element_by Void at x u e a p = absurd (cc)
  element_by (Integer b) at x u e a p = absurd (cc)
  element_by (Pointer b n) at x u e a p = same _ u e (c.element (target b n) x a p)

  element_has : (at : ℕ) (x u : AnExpression) → element at x ≡ Ok u → IsAddition x → P x → P u
  unfolding element
  element_has at x u e a p = element_by (type_of x) at x u e a p

  sum_adds : (x y t : AnExpression) → IsSum x y t → IsAddition t
  sum_adds x y t (SumOfIntegers row) = rw (row.is) refl
  sum_adds x y t (PointerPlus left right is) = rw is tt
  sum_adds x y t (PlusPointer left right is) = rw is tt

  plus_has : (at : ℕ) (x y u : AnExpression) → plus at x y ≡ Ok u → P x → P y → IsAddition u × P u
  unfolding binary_of
  plus_has at x y u e p q = let sum = (binary_means binaries.Add at x y).found u e in (sum_adds x y u sum, sum_has x y u sum p q)

  index_by : (m : Result AnExpression Fault) (at : ℕ) (u : AnExpression) → (m >>= λ sum. element at sum) ≡ Ok u →
      ((s : AnExpression) → m ≡ Ok s → IsAddition s × P s) → P u
  index_by (Ok s) at u e h = let k = h s refl in element_has at s u e k.0 k.1
  index_by (Err f) at u e h = absurd (cc)

  pub index_has : (at : ℕ) (x y u : AnExpression) → index_of at x y ≡ Ok u → P x → P y → P u
  unfolding index_of
  index_has at x y u e p q = index_by (plus at x y) at u e (λ s is. plus_has at x y s is p q)

  unary_has : (op : UnaryOperator) (at : ℕ) (x u : AnExpression) → unary op at x ≡ Ok u → P x → P u
  unfolding unary
  unary_has op at x u e p = passed (is_integer (type_of x)) (UnaryOf op x) u _ e (c.unary op x p)

  negation_has : (at : ℕ) (x u : AnExpression) → negation at x ≡ Ok u → P x → P u
  unfolding negation
  negation_has at x u e p = passed (is_scalar (type_of x)) (UnaryOf unaries.Not x) u _ e (c.unary unaries.Not x p)

  indirection_by : (t : CType) (at : ℕ) (x u : AnExpression) → indirection_at t at x ≡ Ok u → P x → P u
  indirection_by Void at x u e p = absurd (cc)
  indirection_by (Integer b) at x u e p = absurd (cc)
  indirection_by (Pointer b n) at x u e p = same _ u e (c.pointed (target b n) x p)

  indirection_has : (at : ℕ) (x u : AnExpression) → indirection at x ≡ Ok u → P x → P u
  unfolding indirection
  indirection_has at x u e p = indirection_by (type_of x) at x u e p

  address_by_has : (o : Option CType) (at : ℕ) (p : APlace) (u : AnExpression) → address_by o at p ≡ Ok u → P (ReadOf p) → P u
  address_by_has None at p u e h = absurd (cc)
  address_by_has (Some t) at p u e h = same _ u e (c.address t p h)

  address_of_has : (at : ℕ) (p : APlace) (u : AnExpression) → address_of at p ≡ Ok u → P (ReadOf p) → P u
  unfolding address_of
  address_of_has at (VariableAt t (variables.Automatic n)) u e h = absurd (cc)
  address_of_has at (VariableAt t (variables.Parameter n)) u e h = absurd (cc)
  address_of_has at (VariableAt t (variables.Global n)) u e h =
      address_by_has (pointer_to (place_type (VariableAt t (variables.Global n)))) at (VariableAt t (variables.Global n)) u e h
  address_of_has at (VariableAt t (variables.Static n)) u e h =
      address_by_has (pointer_to (place_type (VariableAt t (variables.Static n)))) at (VariableAt t (variables.Static n)) u e h
  address_of_has at (VariableAt t (variables.InBlock o)) u e h =
      address_by_has (pointer_to (place_type (VariableAt t (variables.InBlock o)))) at (VariableAt t (variables.InBlock o)) u e h
  address_of_has at (PointedBy t x) u e h = address_by_has (pointer_to (place_type (PointedBy t x))) at (PointedBy t x) u e h
  address_of_has at (ElementBy t x) u e h = address_by_has (pointer_to (place_type (ElementBy t x))) at (ElementBy t x) u e h

  address_has : (at : ℕ) (x u : AnExpression) → address at x ≡ Ok u → P x → P u
  unfolding address
  address_has at (ReadOf p) u e h = address_of_has at p u e h
  address_has at x u e h = absurd (cc)

  pub prefix_has : (op : PrefixOperator) (at : ℕ) (x u : AnExpression) → prefix_of op at x ≡ Ok u → P x → P u
  unfolding prefix_of
  prefix_has prefixes.Plus at x u e p = unary_has unaries.Plus at x u e p
  prefix_has prefixes.Minus at x u e p = unary_has unaries.Minus at x u e p
  prefix_has prefixes.Complement at x u e p = unary_has unaries.Complement at x u e p
  prefix_has prefixes.Not at x u e p = negation_has at x u e p
  prefix_has prefixes.Indirection at x u e p = indirection_has at x u e p
  prefix_has prefixes.Address at x u e p = address_has at x u e p

  step_by : (scalar : Bool) (moment : Moment) (op : StepOperator) (at : ℕ) (p : APlace) (u : AnExpression) →
      step_at scalar moment op at p ≡ Ok u → P (ReadOf p) → P u
  step_by true moment op at p u e h = same _ u e (c.step moment (direction op) p h)
  step_by false moment op at p u e h = absurd (cc)

  pub step_has : (moment : Moment) (op : StepOperator) (at : ℕ) (x u : AnExpression) → step moment op at x ≡ Ok u → P x → P u
  unfolding step
  step_has moment op at (ReadOf p) u e h = step_by (is_scalar (place_type p)) moment op at p u e h
  step_has moment op at x u e h = absurd (cc)

  pub cast_has : (at : ℕ) (t : CType) (x u : AnExpression) → cast_of at t x ≡ Ok u → P x → P u
  unfolding cast_of
  cast_has at t x u e p = passed _ (CastTo t x) u _ e (c.cast t x p)

  pub sizeof_has : (at : ℕ) (x u : AnExpression) → sizeof_of at x ≡ Ok u → P x → P u
  unfolding sizeof_of
  sizeof_has at x u e p = passed (is_scalar (type_of x)) (SizeOfExpression (operand_size x) x) u _ e (c.size_of_expression x p)

  pub sizeof_type_has : (at : ℕ) (t : CType) (u : AnExpression) → sizeof_type_of at t ≡ Ok u → P u
  unfolding sizeof_type_of
  sizeof_type_has at t u e = passed (is_scalar t) (SizeOf (size_of t)) u _ e (c.size t)

  choice_by_has : (o : Option CType) (at : ℕ) (z x y u : AnExpression) → choice_by o at z x y ≡ Ok u → P z → P x → P y → P u
  choice_by_has None at z x y u e r p q = absurd (cc)
  choice_by_has (Some t) at z x y u e r p q = same _ u e (c.choice t z x y r p q)

  pub choice_has : (at : ℕ) (z x y u : AnExpression) → choice_of at z x y ≡ Ok u → P z → P x → P y → P u
  unfolding choice_of
  choice_has at z x y u e r p q = choice_by_has (arms x y) at z x y u (tested (is_scalar (type_of z)) _ _ u e) r p q

  arithmetic_store_has : (op : ArithmeticOperator) (at : ℕ) (p : APlace) (y u : AnExpression) → arithmetic_store op at p y ≡ Ok u →
      P (ReadOf p) → P y → P u
  unfolding arithmetic_store
  arithmetic_store_has op at p y u e h q = passed _ (ArithmeticAssignTo op p y) u _ e (c.arithmetic_assign op p y h q)

  store_has : (at : ℕ) (p : APlace) (y u : AnExpression) → store at p y ≡ Ok u → P (ReadOf p) → P y → P u
  unfolding store
  store_has at p y u e h q = passed (fits (place_type p) y) (AssignTo p y) u _ e (c.assign p y h q)

  plus_store_by : (s t : CType) (at : ℕ) (p : APlace) (y u : AnExpression) → plus_store_at s t at p y ≡ Ok u → P (ReadOf p) → P y → P u
  plus_store_by (Integer b) (Integer d) at p y u e h q = same _ u e (c.arithmetic_assign ariths.Add p y h q)
  plus_store_by (Pointer b m) (Integer d) at p y u e h q = same _ u e (c.advance_assign p y h q)
  plus_store_by _ _ at p y u e h q = absurd (cc)

  minus_store_by : (s t : CType) (at : ℕ) (p : APlace) (y u : AnExpression) → minus_store_at s t at p y ≡ Ok u → P (ReadOf p) → P y → P u
  minus_store_by (Integer b) (Integer d) at p y u e h q = same _ u e (c.arithmetic_assign ariths.Subtract p y h q)
  minus_store_by (Pointer b m) (Integer d) at p y u e h q = same _ u e (c.retreat_assign p y h q)
  minus_store_by _ _ at p y u e h q = absurd (cc)

  plus_store_has : (at : ℕ) (p : APlace) (y u : AnExpression) → plus_store at p y ≡ Ok u → P (ReadOf p) → P y → P u
  unfolding plus_store
  plus_store_has at p y u e h q = plus_store_by (place_type p) (type_of y) at p y u e h q

  minus_store_has : (at : ℕ) (p : APlace) (y u : AnExpression) → minus_store at p y ≡ Ok u → P (ReadOf p) → P y → P u
  unfolding minus_store
  minus_store_has at p y u e h q = minus_store_by (place_type p) (type_of y) at p y u e h q

  store_by_has : (op : AssignOperator) (at : ℕ) (p : APlace) (y u : AnExpression) → store_by op at p y ≡ Ok u → P (ReadOf p) → P y → P u
  unfolding store_by
  store_by_has assigns.Assign at p y u e h q = store_has at p y u e h q
  store_by_has assigns.Add at p y u e h q = plus_store_has at p y u e h q
  store_by_has assigns.Subtract at p y u e h q = minus_store_has at p y u e h q
  store_by_has assigns.Multiply at p y u e h q = arithmetic_store_has ariths.Multiply at p y u e h q
  store_by_has assigns.Divide at p y u e h q = arithmetic_store_has ariths.Divide at p y u e h q
  store_by_has assigns.Remainder at p y u e h q = arithmetic_store_has ariths.Remainder at p y u e h q
  store_by_has assigns.And at p y u e h q = arithmetic_store_has ariths.And at p y u e h q
  store_by_has assigns.Xor at p y u e h q = arithmetic_store_has ariths.Xor at p y u e h q
  store_by_has assigns.Or at p y u e h q = arithmetic_store_has ariths.Or at p y u e h q
  store_by_has assigns.ShiftLeft at p y u e h q = arithmetic_store_has ariths.ShiftLeft at p y u e h q
  store_by_has assigns.ShiftRight at p y u e h q = arithmetic_store_has ariths.ShiftRight at p y u e h q

  pub assign_has : (op : AssignOperator) (at : ℕ) (x y u : AnExpression) → assign_of op at x y ≡ Ok u → P x → P y → P u
  unfolding assign_of
  assign_has op at (ReadOf p) y u e h q = store_by_has op at p y u e h q
  assign_has op at x y u e h q = absurd (cc)
