-- The table of binary operators, as it is computed, is its rows.
use Rattle.std.proofs.Common.{◌≡◌, ℕ, Bool, true, false, ◌&&◌, ◌||◌, cond, Result, Ok, Err, refl, sym, ap, ◌∙◌}
use Rattle.std.specs.Prelude.{IfOk, IfErr}
use Rattle.std.proofs.lemmas.Bool.{and_parts}
use Rattle.gg_base.specs.declared.relation.Rel.{Rel}
use Rattle.gg_base.specs.declared.relation.Rel.TheVariants as relations
use Rattle.gg_base.proofs.Facts.{or_true}
use Rattle.c_phrases.specs.declared.operator.BinaryOperator.{BinaryOperator}
use Rattle.c_phrases.specs.declared.operator.BinaryOperator.TheVariants as binaries
use Rattle.c_types.specs.declared.types.CType.{CType}
use Rattle.c_types.specs.declared.types.Integer as integers
use Rattle.c_types.specs.declared.types.CType.TheVariants.{Void, Integer, Pointer}
use Rattle.c_types.specs.declared.typed.ArithmeticOperator.{ArithmeticOperator}
use Rattle.c_types.specs.declared.typed.ArithmeticOperator.TheVariants as ariths
use Rattle.c_types.specs.declared.fault.TypeKind.{TypeKind}
use Rattle.c_types.specs.declared.fault.TypeKind.TheVariants.{BadType}
use Rattle.c_types.specs.declared.fault.TypeFault.{TypeFault}
use Rattle.c_types.specs.declared.fault.TypeFault.TheVariants as type_fault
use Rattle.c_types.specs.Answers.{Fault, bad, Gives}
use Rattle.c_types.specs.Types.{is_integer, is_scalar, same_type}
use Rattle.c_types.specs.Typed.{AnExpression, ArithmeticOf, CompareOf, BothOf, EitherOf, type_of, is_null}
use Rattle.c_typed_operators.specs.Rules.{arithmetic, plus_at, plus, minus_at, minus, order_at, order}
use Rattle.c_typed_operators.specs.Rules.{are_comparable_at, are_comparable, equality, both, either, binary_of}
use Rattle.c_typed_operators.specs.Table.{IsInteger, IsPointer, ArePointers, IsArithmetic, IsSum, SumOfIntegers, PointerPlus, PlusPointer, IsDifference, DifferenceOfIntegers}
use Rattle.c_typed_operators.specs.Table.{PointerMinus, DifferenceOfPointers, IsOrdered, OrderOfIntegers, OrderOfPointers, AreComparable, TwoIntegers, TwoPointers, PointerAndNull}
use Rattle.c_typed_operators.specs.Table.{NullAndPointer, IsEquality, IsLogical, IsBinary, NoRow, Means, Refused, OnlyAnswer, OnlyFault}

-- where no row fits there is the one fault
pub means_row : {A : Type 0} (m : Result A Fault) (R : A → Type 0) (place : ℕ) (kind : TypeKind) → ((t : A) → m ≡ Ok t → R t) → ((t : A) → R t → m ≡ Ok t)
    → ((f : Fault) → m ≡ Err f → f ≡ record { place = place; kind = kind }) → Means m R (NoRow R place kind)
means_row (Ok t) R place kind found only one = record {
  found = found;
  only = only;
  faults = λ f e. absurd (cc);
  first = λ f no. absurd (no.none t (found t refl));
}
means_row (Err e) R place kind found only one = record {
  found = found;
  only = only;
  faults = λ f q. record { none = λ t r. absurd (cc (only t r)); is = one f q };
  first = λ f no. ap Err (one e refl ∙ sym no.is);
}

by_test : {A : Type 0} (b : Bool) (x t : A) (place : ℕ) (kind : TypeKind) → cond b (Ok x) (bad place kind) ≡ Ok t → (b ≡ true) × (t ≡ x)
by_test true x t place kind e = (refl, cc)
by_test false x t place kind e = absurd (cc)

by_test_one : {A : Type 0} (b : Bool) (x : A) (f : Fault) (place : ℕ) (kind : TypeKind) → cond b (Ok x) (bad place kind) ≡ Err f → f ≡ record { place = place; kind = kind }
by_test_one true x f place kind e = absurd (cc)
by_test_one false x f place kind e = cc

integer_type : (x : AnExpression) (s : CType) → type_of x ≡ s → is_integer s ≡ true → IsInteger x
unfolding is_integer
integer_type x Void p e = absurd (cc)
integer_type x (Integer b) p e = record { of = b; is = p }
integer_type x (Pointer b n) p e = absurd (cc)

integer_test : (x : AnExpression) → IsInteger x → is_integer (type_of x) ≡ true
unfolding is_integer
integer_test x i = rw (i.is) refl

arithmetic_means : (op : ArithmeticOperator) (at : ℕ) (x y : AnExpression) → Means (arithmetic op at x y) (IsArithmetic op x y) (NoRow (IsArithmetic op x y) at BadType)
unfolding arithmetic
arithmetic_means op at x y = means_row _ _ at BadType
    (λ t e. let p = by_test (is_integer (type_of x) && is_integer (type_of y)) (ArithmeticOf op x y) t at BadType e in let q = and_parts (is_integer (type_of x)) (is_integer (type_of y)) (p.0) in
    record { left = integer_type x (type_of x) refl (q.0); right = integer_type y (type_of y) refl (q.1); is = p.1 })
    (λ t r. rw (integer_test x r.left, integer_test y r.right, r.is) refl)
    (λ f e. by_test_one (is_integer (type_of x) && is_integer (type_of y)) (ArithmeticOf op x y) f at BadType e)

sum_found : (at : ℕ) (x y t : AnExpression) (s u : CType) → type_of x ≡ s → type_of y ≡ u → plus_at s u at x y ≡ Ok t → IsSum x y t
sum_found at x y t (Integer b) (Integer c) p q e = SumOfIntegers (record { left = record { of = b; is = p }; right = record { of = c; is = q }; is = cc })
sum_found at x y t (Integer b) (Pointer c n) p q e = PlusPointer (record { of = b; is = p }) (record { to = c; stars = n; is = q }) (rw q (cc))
sum_found at x y t (Pointer b m) (Integer c) p q e = PointerPlus (record { to = b; stars = m; is = p }) (record { of = c; is = q }) (rw p (cc))
sum_found at x y t _ _ p q e = absurd (cc)

sum_only : (at : ℕ) (x y t : AnExpression) → IsSum x y t → plus_at (type_of x) (type_of y) at x y ≡ Ok t
sum_only at x y t (SumOfIntegers r) = rw (r.left.is, r.right.is, r.is) refl
sum_only at x y t (PointerPlus l r e) = rw (e, l.is, r.is) refl
sum_only at x y t (PlusPointer l r e) = rw (e, l.is, r.is) refl

sum_one : (at : ℕ) (x y : AnExpression) (f : Fault) (s u : CType) → plus_at s u at x y ≡ Err f → f ≡ record { place = at; kind = BadType }
sum_one at x y f Void u e = cc
sum_one at x y f (Integer b) Void e = cc
sum_one at x y f (Pointer b m) Void e = cc
sum_one at x y f (Pointer b m) (Pointer c n) e = cc
sum_one at x y f _ _ e = absurd (cc)

sum_means : (at : ℕ) (x y : AnExpression) → Means (plus at x y) (IsSum x y) (NoRow (IsSum x y) at BadType)
unfolding plus
sum_means at x y = means_row _ _ at BadType (λ t e. sum_found at x y t (type_of x) (type_of y) refl refl e) (λ t r. sum_only at x y t r) (λ f e. sum_one at x y f (type_of x) (type_of y) e)

pointers_of : (x y : AnExpression) (b c : integers.Integer) (m n : ℕ) → type_of x ≡ Pointer b m → type_of y ≡ Pointer c n → same_type (Pointer b m) (Pointer c n) ≡ true → ArePointers x y
pointers_of x y b c m n p q e = record { left = record { to = b; stars = m; is = p }; right = record { to = c; stars = n; is = q }; same = rw (p, q) e }

difference_found : (at : ℕ) (x y t : AnExpression) (s u : CType) → type_of x ≡ s → type_of y ≡ u → minus_at s u at x y ≡ Ok t → IsDifference x y t
difference_found at x y t (Integer b) (Integer c) p q e = DifferenceOfIntegers (record { left = record { of = b; is = p }; right = record { of = c; is = q }; is = cc })
difference_found at x y t (Pointer b m) (Integer c) p q e = PointerMinus (record { to = b; stars = m; is = p }) (record { of = c; is = q }) (rw p (cc))
difference_found at x y t (Pointer b m) (Pointer c n) p q e = let r = by_test (same_type (Pointer b m) (Pointer c n)) _ t at BadType e in
    DifferenceOfPointers (pointers_of x y b c m n p q (r.0)) (rw p (r.1))
difference_found at x y t _ _ p q e = absurd (cc)

same_of : (x y : AnExpression) (p : ArePointers x y) → same_type (Pointer p.left.to p.left.stars) (Pointer p.right.to p.right.stars) ≡ true
same_of x y p = rw (← p.left.is, ← p.right.is) p.same

difference_only : (at : ℕ) (x y t : AnExpression) → IsDifference x y t → minus_at (type_of x) (type_of y) at x y ≡ Ok t
difference_only at x y t (DifferenceOfIntegers r) = rw (r.left.is, r.right.is, r.is) refl
difference_only at x y t (PointerMinus l r e) = rw (e, l.is, r.is) refl
difference_only at x y t (DifferenceOfPointers p e) = rw (e, p.left.is, p.right.is, same_of x y p) refl

difference_one : (at : ℕ) (x y : AnExpression) (f : Fault) (s u : CType) → minus_at s u at x y ≡ Err f → f ≡ record { place = at; kind = BadType }
difference_one at x y f Void u e = cc
difference_one at x y f (Integer b) Void e = cc
difference_one at x y f (Integer b) (Integer c) e = absurd (cc)
difference_one at x y f (Integer b) (Pointer c n) e = cc
difference_one at x y f (Pointer b m) Void e = cc
difference_one at x y f (Pointer b m) (Integer c) e = absurd (cc)
difference_one at x y f (Pointer b m) (Pointer c n) e = by_test_one (same_type (Pointer b m) (Pointer c n)) _ f at BadType e

difference_means : (at : ℕ) (x y : AnExpression) → Means (minus at x y) (IsDifference x y) (NoRow (IsDifference x y) at BadType)
unfolding minus
difference_means at x y = means_row _ _ at BadType (λ t e. difference_found at x y t (type_of x) (type_of y) refl refl e) (λ t r. difference_only at x y t r)
    (λ f e. difference_one at x y f (type_of x) (type_of y) e)

order_found : (a b : Rel) (at : ℕ) (x y t : AnExpression) (s u : CType) → type_of x ≡ s → type_of y ≡ u → order_at s u a b at x y ≡ Ok t → IsOrdered a b x y t
order_found a b at x y t (Integer i) (Integer c) p q e = OrderOfIntegers (record { of = i; is = p }) (record { of = c; is = q }) (cc)
order_found a b at x y t (Pointer i m) (Pointer c n) p q e = let r = by_test (same_type (Pointer i m) (Pointer c n)) _ t at BadType e in OrderOfPointers (pointers_of x y i c m n p q (r.0)) (r.1)
order_found a b at x y t _ _ p q e = absurd (cc)

order_only : (a b : Rel) (at : ℕ) (x y t : AnExpression) → IsOrdered a b x y t → order_at (type_of x) (type_of y) a b at x y ≡ Ok t
order_only a b at x y t (OrderOfIntegers l r e) = rw (l.is, r.is, e) refl
order_only a b at x y t (OrderOfPointers p e) = rw (p.left.is, p.right.is, same_of x y p, e) refl

order_one : (a b : Rel) (at : ℕ) (x y : AnExpression) (f : Fault) (s u : CType) → order_at s u a b at x y ≡ Err f → f ≡ record { place = at; kind = BadType }
order_one a b at x y f Void u e = cc
order_one a b at x y f (Integer i) Void e = cc
order_one a b at x y f (Integer i) (Integer c) e = absurd (cc)
order_one a b at x y f (Integer i) (Pointer c n) e = cc
order_one a b at x y f (Pointer i m) Void e = cc
order_one a b at x y f (Pointer i m) (Integer c) e = cc
order_one a b at x y f (Pointer i m) (Pointer c n) e = by_test_one (same_type (Pointer i m) (Pointer c n)) _ f at BadType e

order_means : (a b : Rel) (at : ℕ) (x y : AnExpression) → Means (order a b at x y) (IsOrdered a b x y) (NoRow (IsOrdered a b x y) at BadType)
unfolding order
order_means a b at x y = means_row _ _ at BadType (λ t e. order_found a b at x y t (type_of x) (type_of y) refl refl e) (λ t r. order_only a b at x y t r)
    (λ f e. order_one a b at x y f (type_of x) (type_of y) e)

pointers_or_null : (x y : AnExpression) (b c : integers.Integer) (m n : ℕ) → type_of x ≡ Pointer b m → type_of y ≡ Pointer c n → (same : Bool) → same
    ≡ same_type (Pointer b m) (Pointer c n) → (same || is_null y) ≡ true → AreComparable x y
pointers_or_null x y b c m n p q true is e = TwoPointers (pointers_of x y b c m n p q (sym is))
pointers_or_null x y b c m n p q false is e = PointerAndNull (record { to = b; stars = m; is = p }) e

comparable_found : (x y : AnExpression) (s u : CType) → type_of x ≡ s → type_of y ≡ u → are_comparable_at s u x y ≡ true → AreComparable x y
unfolding same_type
comparable_found x y Void u p q e = absurd (cc)
comparable_found x y (Integer b) Void p q e = absurd (cc)
comparable_found x y (Integer b) (Integer c) p q e = TwoIntegers (record { of = b; is = p }) (record { of = c; is = q })
comparable_found x y (Integer b) (Pointer c n) p q e = NullAndPointer e (record { of = b; is = p }) (record { to = c; stars = n; is = q })
comparable_found x y (Pointer b m) Void p q e = PointerAndNull (record { to = b; stars = m; is = p }) e
comparable_found x y (Pointer b m) (Integer c) p q e = PointerAndNull (record { to = b; stars = m; is = p }) e
comparable_found x y (Pointer b m) (Pointer c n) p q e = pointers_or_null x y b c m n p q (same_type (Pointer b m) (Pointer c n)) refl e

comparable_only : (x y : AnExpression) → AreComparable x y → are_comparable_at (type_of x) (type_of y) x y ≡ true
comparable_only x y (TwoIntegers l r) = rw (l.is, r.is) refl
comparable_only x y (TwoPointers p) = rw (p.left.is, p.right.is, same_of x y p) refl
comparable_only x y (PointerAndNull l n) = rw (l.is, n) (or_true _)
comparable_only x y (NullAndPointer n l r) = rw (l.is, r.is) n

equality_means : (rel : Rel) (at : ℕ) (x y : AnExpression) → Means (equality rel at x y) (IsEquality rel x y) (NoRow (IsEquality rel x y) at BadType)
unfolding equality are_comparable
equality_means rel at x y = means_row _ _ at BadType
    (λ t e. let p = by_test (are_comparable_at (type_of x) (type_of y) x y) (CompareOf rel x y) t at BadType e in
    record { operands = comparable_found x y (type_of x) (type_of y) refl refl (p.0); is = p.1 })
    (λ t r. rw (comparable_only x y r.operands, r.is) refl)
    (λ f e. by_test_one (are_comparable_at (type_of x) (type_of y) x y) (CompareOf rel x y) f at BadType e)

logical_means : (whole : AnExpression) (at : ℕ) (x y : AnExpression) → Means (cond (is_scalar (type_of x) && is_scalar (type_of y)) (Ok whole) (bad at BadType)) (IsLogical whole x y)
    (NoRow (IsLogical whole x y) at BadType)
logical_means whole at x y = means_row _ _ at BadType
    (λ t e. let p = by_test (is_scalar (type_of x) && is_scalar (type_of y)) whole t at BadType e in let q = and_parts (is_scalar (type_of x)) (is_scalar (type_of y)) (p.0) in
    record { left = q.0; right = q.1; is = p.1 })
    (λ t r. rw (r.left, r.right, r.is) refl)
    (λ f e. by_test_one (is_scalar (type_of x) && is_scalar (type_of y)) whole f at BadType e)

pub binary_means : (op : BinaryOperator) (at : ℕ) (x y : AnExpression) → Means (binary_of op at x y) (IsBinary op x y) (NoRow (IsBinary op x y) at BadType)
unfolding binary_of both either
binary_means binaries.OrOr at x y = logical_means (EitherOf x y) at x y
binary_means binaries.AndAnd at x y = logical_means (BothOf x y) at x y
binary_means binaries.Or at x y = arithmetic_means ariths.Or at x y
binary_means binaries.Xor at x y = arithmetic_means ariths.Xor at x y
binary_means binaries.And at x y = arithmetic_means ariths.And at x y
binary_means binaries.Equal at x y = equality_means relations.Eq at x y
binary_means binaries.NotEqual at x y = equality_means relations.Ne at x y
binary_means binaries.Less at x y = order_means relations.Lt relations.Ltu at x y
binary_means binaries.LessEqual at x y = order_means relations.Le relations.Leu at x y
binary_means binaries.Greater at x y = order_means relations.Gt relations.Gtu at x y
binary_means binaries.GreaterEqual at x y = order_means relations.Ge relations.Geu at x y
binary_means binaries.ShiftLeft at x y = arithmetic_means ariths.ShiftLeft at x y
binary_means binaries.ShiftRight at x y = arithmetic_means ariths.ShiftRight at x y
binary_means binaries.Add at x y = sum_means at x y
binary_means binaries.Subtract at x y = difference_means at x y
binary_means binaries.Multiply at x y = arithmetic_means ariths.Multiply at x y
binary_means binaries.Divide at x y = arithmetic_means ariths.Divide at x y
binary_means binaries.Remainder at x y = arithmetic_means ariths.Remainder at x y
