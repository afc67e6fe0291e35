-- Assignments.
use Rattle.std.proofs.Common.{◌≡◌, ℕ, true, ◌&&◌, Ok, Err, refl, ap, ◌∙◌}
use Rattle.std.proofs.lemmas.Bool.{and_parts}
use Rattle.c_phrases.specs.declared.operator.AssignOperator.{AssignOperator}
use Rattle.c_phrases.specs.declared.operator.AssignOperator.TheVariants as assigns
use Rattle.c_types.specs.declared.types.CType.{CType}
use Rattle.c_types.specs.declared.types.CType.TheVariants.{Void, Integer, Pointer}
use Rattle.c_types.specs.declared.types.Integer as integers
use Rattle.c_types.specs.declared.typed.ArithmeticOperator.{ArithmeticOperator}
use Rattle.c_types.specs.declared.typed.ArithmeticOperator.TheVariants as ariths
use Rattle.c_types.specs.declared.fault.TypeKind.TheVariants.{BadType}
use Rattle.c_types.specs.Answers.{Fault}
use Rattle.c_types.specs.Types.{is_integer}
use Rattle.c_types.specs.Typed.{APlace, AnExpression, ReadOf, AssignTo, ArithmeticAssignTo, place_type, type_of}
use Rattle.c_typed_operators.specs.Rules.{fits}
use Rattle.c_typed_operators.specs.Stores.{store, arithmetic_store, plus_store_at, minus_store_at, plus_store, minus_store, store_by, assign_of}
use Rattle.c_typed_operators.specs.Table.{Means, NoRow}
use Rattle.c_typed_operators.proofs.Law.{means_row}
use Rattle.c_typed_rows.specs.Stores.{IsAssignment, IsArithmeticStore, IsSumStore, AddsIntegers, Advances, IsDifferenceStore, SubtractsIntegers, Retreats, IsStore, IsAssign}
use Rattle.c_typed_rows.proofs.Tests.{by_test, by_test_one, integer_type, integer_test}
use Rattle.c_typed_rows.proofs.Operands.{taken, fit}

store_means : (at : ℕ) (p : APlace) (y : AnExpression) → Means (store at p y) (IsAssignment p y) (NoRow (IsAssignment p y) at BadType)
unfolding store
store_means at p y = means_row _ _ at BadType
    (λ t e. let h = by_test (fits (place_type p) y) (AssignTo p y) t at BadType e in record { taken = taken (place_type p) y h.0; is = h.1 })
    (λ t r. rw (fit (place_type p) y r.taken, r.is) refl)
    (λ f e. by_test_one (fits (place_type p) y) (AssignTo p y) f at BadType e)

integer_place : (s : CType) → is_integer s ≡ true → (of : integers.Integer) × (s ≡ Integer of)
unfolding is_integer
integer_place Void e = absurd (cc)
integer_place (Integer b) e = (b, refl)
integer_place (Pointer b n) e = absurd (cc)

place_integer : (s : CType) (of : integers.Integer) → s ≡ Integer of → is_integer s ≡ true
unfolding is_integer
place_integer s of is = rw is refl

arithmetic_means : (op : ArithmeticOperator) (at : ℕ) (p : APlace) (y : AnExpression)
    → Means (arithmetic_store op at p y) (IsArithmeticStore op p y) (NoRow (IsArithmeticStore op p y) at BadType)
unfolding arithmetic_store
arithmetic_means op at p y = means_row _ _ at BadType
    (λ t e.
    let h = by_test (is_integer (place_type p) && is_integer (type_of y)) (ArithmeticAssignTo op p y) t at BadType e in
    let q = and_parts (is_integer (place_type p)) (is_integer (type_of y)) h.0 in
    let o = integer_place (place_type p) q.0 in
    record { of = o.0; place = o.1; value = integer_type y (type_of y) refl q.1; is = h.1 })
    (λ t r. rw (place_integer (place_type p) r.of r.place, integer_test y r.value, r.is) refl)
    (λ f e. by_test_one (is_integer (place_type p) && is_integer (type_of y)) (ArithmeticAssignTo op p y) f at BadType e)

-- ---- sums and differences

plus_found : (at : ℕ) (p : APlace) (y t : AnExpression) (s u : CType) → place_type p ≡ s → type_of y ≡ u → plus_store_at s u at p y ≡ Ok t → IsSumStore p y t
plus_found at p y t (Integer b) (Integer c) i j e = AddsIntegers (record { of = b; place = i; value = record { of = c; is = j }; is = cc })
plus_found at p y t (Pointer b m) (Integer c) i j e = Advances b m i (record { of = c; is = j }) (cc)
plus_found at p y t _ _ i j e = absurd (cc)

plus_only : (at : ℕ) (p : APlace) (y t : AnExpression) → IsSumStore p y t → plus_store_at (place_type p) (type_of y) at p y ≡ Ok t
plus_only at p y t (AddsIntegers r) = rw (r.place, r.value.is, r.is) refl
plus_only at p y t (Advances b m place value is) = rw (place, value.is, is) refl

plus_one : (at : ℕ) (p : APlace) (y : AnExpression) (f : Fault) (s u : CType) → plus_store_at s u at p y ≡ Err f → f ≡ record { place = at; kind = BadType }
plus_one at p y f Void u e = cc
plus_one at p y f (Integer b) Void e = cc
plus_one at p y f (Integer b) (Integer c) e = absurd (cc)
plus_one at p y f (Integer b) (Pointer c n) e = cc
plus_one at p y f (Pointer b m) Void e = cc
plus_one at p y f (Pointer b m) (Integer c) e = absurd (cc)
plus_one at p y f (Pointer b m) (Pointer c n) e = cc

plus_means : (at : ℕ) (p : APlace) (y : AnExpression) → Means (plus_store at p y) (IsSumStore p y) (NoRow (IsSumStore p y) at BadType)
unfolding plus_store
plus_means at p y = means_row _ _ at BadType (λ t e. plus_found at p y t (place_type p) (type_of y) refl refl e) (λ t r. plus_only at p y t r)
    (λ f e. plus_one at p y f (place_type p) (type_of y) e)

minus_found : (at : ℕ) (p : APlace) (y t : AnExpression) (s u : CType) → place_type p ≡ s → type_of y ≡ u → minus_store_at s u at p y ≡ Ok t → IsDifferenceStore p y t
minus_found at p y t (Integer b) (Integer c) i j e = SubtractsIntegers (record { of = b; place = i; value = record { of = c; is = j }; is = cc })
minus_found at p y t (Pointer b m) (Integer c) i j e = Retreats b m i (record { of = c; is = j }) (cc)
minus_found at p y t _ _ i j e = absurd (cc)

minus_only : (at : ℕ) (p : APlace) (y t : AnExpression) → IsDifferenceStore p y t → minus_store_at (place_type p) (type_of y) at p y ≡ Ok t
minus_only at p y t (SubtractsIntegers r) = rw (r.place, r.value.is, r.is) refl
minus_only at p y t (Retreats b m place value is) = rw (place, value.is, is) refl

minus_one : (at : ℕ) (p : APlace) (y : AnExpression) (f : Fault) (s u : CType) → minus_store_at s u at p y ≡ Err f → f ≡ record { place = at; kind = BadType }
minus_one at p y f Void u e = cc
minus_one at p y f (Integer b) Void e = cc
minus_one at p y f (Integer b) (Integer c) e = absurd (cc)
minus_one at p y f (Integer b) (Pointer c n) e = cc
minus_one at p y f (Pointer b m) Void e = cc
minus_one at p y f (Pointer b m) (Integer c) e = absurd (cc)
minus_one at p y f (Pointer b m) (Pointer c n) e = cc

minus_means : (at : ℕ) (p : APlace) (y : AnExpression) → Means (minus_store at p y) (IsDifferenceStore p y) (NoRow (IsDifferenceStore p y) at BadType)
unfolding minus_store
minus_means at p y = means_row _ _ at BadType (λ t e. minus_found at p y t (place_type p) (type_of y) refl refl e) (λ t r. minus_only at p y t r)
    (λ f e. minus_one at p y f (place_type p) (type_of y) e)

stores_mean : (op : AssignOperator) (at : ℕ) (p : APlace) (y : AnExpression) → Means (store_by op at p y) (IsStore op p y) (NoRow (IsStore op p y) at BadType)
unfolding store_by
stores_mean assigns.Assign at p y = store_means at p y
stores_mean assigns.Add at p y = plus_means at p y
stores_mean assigns.Subtract at p y = minus_means at p y
stores_mean assigns.Multiply at p y = arithmetic_means ariths.Multiply at p y
stores_mean assigns.Divide at p y = arithmetic_means ariths.Divide at p y
stores_mean assigns.Remainder at p y = arithmetic_means ariths.Remainder at p y
stores_mean assigns.And at p y = arithmetic_means ariths.And at p y
stores_mean assigns.Xor at p y = arithmetic_means ariths.Xor at p y
stores_mean assigns.Or at p y = arithmetic_means ariths.Or at p y
stores_mean assigns.ShiftLeft at p y = arithmetic_means ariths.ShiftLeft at p y
stores_mean assigns.ShiftRight at p y = arithmetic_means ariths.ShiftRight at p y

-- ---- the left side is a place

assign_found : (op : AssignOperator) (at : ℕ) (x y t : AnExpression) → assign_of op at x y ≡ Ok t → IsAssign op x y t
unfolding assign_of
assign_found op at (ReadOf p) y t e = record { place = p; read = refl; store = (stores_mean op at p y).found t e }
assign_found op at _ y t e = absurd (cc)

assign_only : (op : AssignOperator) (at : ℕ) (x y t : AnExpression) → IsAssign op x y t → assign_of op at x y ≡ Ok t
unfolding assign_of
assign_only op at x y t r = ap (λ (z : AnExpression). assign_of op at z y) r.read ∙ (stores_mean op at r.place y).only t r.store

assign_one : (op : AssignOperator) (at : ℕ) (x y : AnExpression) (f : Fault) → assign_of op at x y ≡ Err f → f ≡ record { place = at; kind = BadType }
unfolding assign_of
assign_one op at (ReadOf p) y f e = ((stores_mean op at p y).faults f e).is
assign_one op at _ y f e = cc

pub assignments : (op : AssignOperator) (at : ℕ) (x y : AnExpression) → Means (assign_of op at x y) (IsAssign op x y) (NoRow (IsAssign op x y) at BadType)
assignments op at x y =
    means_row _ _ at BadType (λ t e. assign_found op at x y t e) (λ t r. assign_only op at x y t r) (λ f e. assign_one op at x y f e)
