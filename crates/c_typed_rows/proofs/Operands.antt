-- What places take, choices, casts and sizes.
use Rattle.std.proofs.Common.{◌≡◌, ℕ, Bool, true, false, cond, ◌&&◌, ◌||◌, Option, Some, None, Ok, Err, refl, sym, ap, ◌∙◌}
use Rattle.std.proofs.lemmas.Bool.{and_parts}
use Rattle.gg_base.proofs.Facts.{or_true}
use Rattle.c_types.specs.declared.types.CType.{CType}
use Rattle.c_types.specs.declared.types.CType.TheVariants.{Void, Integer, Pointer}
use Rattle.c_types.specs.declared.types.Integer as integers
use Rattle.c_types.specs.declared.fault.TypeKind.TheVariants.{BadType}
use Rattle.c_types.specs.Answers.{Fault, bad}
use Rattle.c_types.specs.Types.{is_scalar, same_type, size_of}
use Rattle.c_types.specs.Typed.{AnExpression, CastTo, ConvertTo, SizeOfExpression, SizeOf, type_of, is_null, operand_size}
use Rattle.c_typed_operators.specs.Rules.{fits}
use Rattle.c_typed_operators.specs.Prefixes.{cast_of, sizeof_of, sizeof_type_of}
use Rattle.c_typed_operators.specs.Choices.{arms_at, arms, choice_by, choice_of}
use Rattle.c_typed_operators.specs.Stores.{given}
use Rattle.c_typed_operators.specs.Table.{Means, NoRow, ArePointers}
use Rattle.c_typed_operators.proofs.Law.{means_row}
use Rattle.c_typed_rows.specs.Operands.{Takes, AnInteger, ItsPointer, TheNull, IsGiven, AreArms, TwoIntegers, TwoPointers, PointerAndNull, NullAndPointer}
use Rattle.c_typed_rows.specs.Operands.{BothVoid, IsChoice, IsCast, IsSize, IsSizeOfType}
use Rattle.c_typed_rows.proofs.Tests.{by_test, by_test_one, some_by, integer_type, integer_test}

-- ---- what a place takes

same_or_null : (to : integers.Integer) (stars : ℕ) (x : AnExpression) (same : Bool) → same_type (Pointer to stars) (type_of x) ≡ same → (same || is_null x) ≡ true
    → Takes (Pointer to stars) x
same_or_null to stars x true is e = ItsPointer to stars refl is
same_or_null to stars x false is e = TheNull to stars refl e

pub taken : (t : CType) (x : AnExpression) → fits t x ≡ true → Takes t x
unfolding fits
taken Void x e = absurd (cc)
taken (Integer b) x e = AnInteger b refl (integer_type x (type_of x) refl e)
taken (Pointer b n) x e = same_or_null b n x (same_type (Pointer b n) (type_of x)) refl e

pub fit : (t : CType) (x : AnExpression) → Takes t x → fits t x ≡ true
unfolding fits
fit t x (AnInteger b is value) = ap (λ (s : CType). fits s x) is ∙ integer_test x value
fit t x (ItsPointer b n is same) =
    ap (λ (s : CType). fits s x) is ∙ ap (λ (c : Bool). c || is_null x) (sym (ap (λ (s : CType). same_type s (type_of x)) is) ∙ same)
fit t x (TheNull b n is null) =
    ap (λ (s : CType). fits s x) is ∙ (ap (λ (c : Bool). same_type (Pointer b n) (type_of x) || c) null ∙ or_true (same_type (Pointer b n) (type_of x)))

pub values : (t : CType) (place : ℕ) (x : AnExpression) → Means (given t place x) (IsGiven t x) (NoRow (IsGiven t x) place BadType)
unfolding given
values t place x = means_row _ _ place BadType
    (λ u e. let p = by_test (fits t x) (ConvertTo t x) u place BadType e in record { taken = taken t x p.0; is = p.1 })
    (λ u r. rw (fit t x r.taken, r.is) refl)
    (λ f e. by_test_one (fits t x) (ConvertTo t x) f place BadType e)

-- ---- casts and sizes

pub casts : (at : ℕ) (to : CType) (x : AnExpression) → Means (cast_of at to x) (IsCast to x) (NoRow (IsCast to x) at BadType)
unfolding cast_of
casts at to x = means_row _ _ at BadType
    (λ t e. let p = by_test (is_scalar to && is_scalar (type_of x)) (CastTo to x) t at BadType e in let q = and_parts (is_scalar to) (is_scalar (type_of x)) p.0 in
    record { type = q.0; operand = q.1; is = p.1 })
    (λ t r. rw (r.type, r.operand, r.is) refl)
    (λ f e. by_test_one (is_scalar to && is_scalar (type_of x)) (CastTo to x) f at BadType e)

pub sizes : (at : ℕ) (x : AnExpression) → Means (sizeof_of at x) (IsSize x) (NoRow (IsSize x) at BadType)
unfolding sizeof_of
sizes at x = means_row _ _ at BadType
    (λ t e. let p = by_test (is_scalar (type_of x)) (SizeOfExpression (operand_size x) x) t at BadType e in record { operand = p.0; is = p.1 })
    (λ t r. rw (r.operand, r.is) refl)
    (λ f e. by_test_one (is_scalar (type_of x)) (SizeOfExpression (operand_size x) x) f at BadType e)

pub type_sizes : (at : ℕ) (of : CType) → Means (sizeof_type_of at of) (IsSizeOfType of) (NoRow (IsSizeOfType of) at BadType)
unfolding sizeof_type_of
type_sizes at of = means_row _ _ at BadType
    (λ t e. let p = by_test (is_scalar of) (SizeOf (size_of of)) t at BadType e in record { type = p.0; is = p.1 })
    (λ t r. rw (r.type, r.is) refl)
    (λ f e. by_test_one (is_scalar of) (SizeOf (size_of of)) f at BadType e)

-- ---- choices

arms_found : (x y : AnExpression) (s u t : CType) → type_of x ≡ s → type_of y ≡ u → arms_at s u x y ≡ Some t → AreArms x y t
arms_found x y Void Void t p q e = BothVoid p q (cc)
arms_found x y (Integer b) (Integer c) t p q e = TwoIntegers (record { of = b; is = p }) (record { of = c; is = q }) (cc)
arms_found x y (Integer b) (Pointer c n) t p q e =
    let h = some_by (is_null x) (Pointer c n) t e in NullAndPointer (record { of = b; is = p }) h.0 (record { to = c; stars = n; is = q }) (h.1 ∙ sym q)
arms_found x y (Pointer b m) (Integer c) t p q e =
    let h = some_by (is_null y) (Pointer b m) t e in PointerAndNull (record { to = b; stars = m; is = p }) (record { of = c; is = q }) h.0 (h.1 ∙ sym p)
arms_found x y (Pointer b m) (Pointer c n) t p q e =
    let h = some_by (same_type (Pointer b m) (Pointer c n)) (Pointer b m) t e in
    TwoPointers (record { left = record { to = b; stars = m; is = p }; right = record { to = c; stars = n; is = q }; same = rw (p, q) h.0 }) (h.1 ∙ sym p)
arms_found x y _ _ t p q e = absurd (cc)

same_of : (x y : AnExpression) (p : ArePointers x y) → same_type (Pointer p.left.to p.left.stars) (Pointer p.right.to p.right.stars) ≡ true
same_of x y p = rw (← p.left.is, ← p.right.is) p.same

arms_only : (x y : AnExpression) (t : CType) → AreArms x y t → arms_at (type_of x) (type_of y) x y ≡ Some t
arms_only x y t (TwoIntegers l r is) = rw (l.is, r.is, is) refl
arms_only x y t (TwoPointers p is) = rw (is, p.left.is, p.right.is, same_of x y p) refl
arms_only x y t (PointerAndNull l r null is) = rw (is, l.is, r.is, null) refl
arms_only x y t (NullAndPointer l null r is) = rw (is, l.is, r.is, null) refl
arms_only x y t (BothVoid l r is) = rw (l, r, is) refl

choice_found : (at : ℕ) (c x y t : AnExpression) (b : Bool) (o : Option CType) → is_scalar (type_of c) ≡ b → arms_at (type_of x) (type_of y) x y ≡ o
    → cond b (choice_by o at c x y) (bad at BadType) ≡ Ok t → IsChoice c x y t
choice_found at c x y t true (Some u) s a e = record { condition = s; type = u; arms = arms_found x y (type_of x) (type_of y) u refl refl a; is = cc }
choice_found at c x y t true None s a e = absurd (cc)
choice_found at c x y t false o s a e = absurd (cc)

choice_one : (at : ℕ) (c x y : AnExpression) (f : Fault) (b : Bool) (o : Option CType) → cond b (choice_by o at c x y) (bad at BadType) ≡ Err f
    → f ≡ record { place = at; kind = BadType }
choice_one at c x y f true (Some u) e = absurd (cc)
choice_one at c x y f true None e = cc
choice_one at c x y f false o e = cc

pub choices : (at : ℕ) (c x y : AnExpression) → Means (choice_of at c x y) (IsChoice c x y) (NoRow (IsChoice c x y) at BadType)
unfolding choice_of arms
choices at c x y = means_row _ _ at BadType
    (λ t e. choice_found at c x y t (is_scalar (type_of c)) (arms_at (type_of x) (type_of y) x y) refl refl e)
    (λ t r.
    ap (λ (b : Bool). cond b (choice_by (arms_at (type_of x) (type_of y) x y) at c x y) (bad at BadType)) r.condition
    ∙ (ap (λ (o : Option CType). choice_by o at c x y) (arms_only x y r.type r.arms) ∙ ap Ok (sym r.is)))
    (λ f e. choice_one at c x y f (is_scalar (type_of c)) (arms_at (type_of x) (type_of y) x y) e)
