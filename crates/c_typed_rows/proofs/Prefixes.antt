-- Prefixes, indexes and steps.
use Rattle.std.proofs.Common.{◌≡◌, ◌⊎◌, ℕ, Bool, true, false, Option, Some, None, Result, Ok, Err, inl, inr, refl, sym, ap, ◌∙◌}
use Rattle.c_phrases.specs.declared.operator.PrefixOperator.{PrefixOperator}
use Rattle.c_phrases.specs.declared.operator.PrefixOperator.TheVariants as prefixes
use Rattle.c_phrases.specs.declared.operator.StepOperator.{StepOperator}
use Rattle.c_phrases.specs.declared.operator.BinaryOperator.TheVariants as binaries
use Rattle.c_types.specs.declared.types.CType.{CType}
use Rattle.c_types.specs.declared.types.CType.TheVariants.{Pointer}
use Rattle.c_types.specs.declared.typed.Variable.TheVariants as variables
use Rattle.c_types.specs.declared.typed.UnaryOperator.{UnaryOperator}
use Rattle.c_types.specs.declared.typed.UnaryOperator.TheVariants as unaries
use Rattle.c_types.specs.declared.typed.Moment.{Moment}
use Rattle.c_types.specs.declared.fault.TypeKind.TheVariants.{BadType}
use Rattle.c_types.specs.Answers.{Fault, bad, ◌>>=◌}
use Rattle.c_types.specs.Types.{is_integer, is_scalar, target, pointer_to}
use Rattle.c_types.specs.Typed.{APlace, VariableAt, PointedBy, ElementBy, AnExpression, ReadOf, UnaryOf, place_type, type_of}
use Rattle.c_typed_operators.specs.Rules.{plus, binary_of}
use Rattle.c_typed_operators.specs.Prefixes.{unary, negation, indirection_at, indirection, element_at, element, index_of, address_by, address_of, address, prefix_of, step_at, step}
use Rattle.c_typed_operators.specs.Table.{IsPointer, IsSum, Means, NoRow}
use Rattle.c_typed_operators.proofs.Law.{means_row, binary_means}
use Rattle.c_typed_rows.specs.Prefixes.{IsUnary, IsNegation, IsIndirection, HasAddress, IsAddress, IsPrefix, PrefixFault, IsIndex, IsStep}
use Rattle.c_typed_rows.proofs.Tests.{by_test, by_test_one, integer_type, integer_test}

unary_means : (op : UnaryOperator) (at : ℕ) (x : AnExpression) → Means (unary op at x) (IsUnary op x) (NoRow (IsUnary op x) at BadType)
unfolding unary
unary_means op at x = means_row _ _ at BadType
    (λ t e. let p = by_test (is_integer (type_of x)) (UnaryOf op x) t at BadType e in record { operand = integer_type x (type_of x) refl p.0; is = p.1 })
    (λ t r. rw (integer_test x r.operand, r.is) refl)
    (λ f e. by_test_one (is_integer (type_of x)) (UnaryOf op x) f at BadType e)

negation_means : (at : ℕ) (x : AnExpression) → Means (negation at x) (IsNegation x) (NoRow (IsNegation x) at BadType)
unfolding negation
negation_means at x = means_row _ _ at BadType
    (λ t e. let p = by_test (is_scalar (type_of x)) (UnaryOf unaries.Not x) t at BadType e in record { operand = p.0; is = p.1 })
    (λ t r. rw (r.operand, r.is) refl)
    (λ f e. by_test_one (is_scalar (type_of x)) (UnaryOf unaries.Not x) f at BadType e)

indirection_found : (at : ℕ) (x t : AnExpression) (s : CType) → type_of x ≡ s → indirection_at s at x ≡ Ok t → IsIndirection x t
indirection_found at x t (Pointer b n) p e = record { operand = record { to = b; stars = n; is = p }; is = cc }
indirection_found at x t _ p e = absurd (cc)

indirection_one : (at : ℕ) (x : AnExpression) (f : Fault) (s : CType) → indirection_at s at x ≡ Err f → f ≡ record { place = at; kind = BadType }
indirection_one at x f (Pointer b n) e = absurd (cc)
indirection_one at x f _ e = cc

indirection_means : (at : ℕ) (x : AnExpression) → Means (indirection at x) (IsIndirection x) (NoRow (IsIndirection x) at BadType)
unfolding indirection
indirection_means at x = means_row _ _ at BadType (λ t e. indirection_found at x t (type_of x) refl e) (λ t r. rw (r.is, r.operand.is) refl)
    (λ f e. indirection_one at x f (type_of x) e)

-- ---- addresses

address_or_none : (p : APlace) → HasAddress p ⊎ (HasAddress p → ⊥)
address_or_none (VariableAt t (variables.Automatic n)) = inr (λ h. h)
address_or_none (VariableAt t (variables.Parameter n)) = inr (λ h. h)
address_or_none (VariableAt t (variables.Global n)) = inl tt
address_or_none (VariableAt t (variables.Static n)) = inl tt
address_or_none (VariableAt t (variables.InBlock o)) = inl tt
address_or_none (PointedBy t e) = inl tt
address_or_none (ElementBy t e) = inl tt

with_address : (at : ℕ) (p : APlace) → HasAddress p → address_of at p ≡ address_by (pointer_to (place_type p)) at p
unfolding address_of
with_address at (VariableAt t (variables.Automatic n)) h = absurd h
with_address at (VariableAt t (variables.Parameter n)) h = absurd h
with_address at (VariableAt t (variables.Global n)) h = refl
with_address at (VariableAt t (variables.Static n)) h = refl
with_address at (VariableAt t (variables.InBlock o)) h = refl
with_address at (PointedBy t e) h = refl
with_address at (ElementBy t e) h = refl

without_address : (at : ℕ) (p : APlace) → (HasAddress p → ⊥) → address_of at p ≡ bad at BadType
unfolding address_of
without_address at (VariableAt t (variables.Automatic n)) h = refl
without_address at (VariableAt t (variables.Parameter n)) h = refl
without_address at (VariableAt t (variables.Global n)) h = absurd (h tt)
without_address at (VariableAt t (variables.Static n)) h = absurd (h tt)
without_address at (VariableAt t (variables.InBlock o)) h = absurd (h tt)
without_address at (PointedBy t e) h = absurd (h tt)
without_address at (ElementBy t e) h = absurd (h tt)

pointer_found : (at : ℕ) (p : APlace) (t : AnExpression) (o : Option CType) → HasAddress p → pointer_to (place_type p) ≡ o → address_by o at p ≡ Ok t → IsAddress (ReadOf p) t
pointer_found at p t None h is e = absurd (cc)
pointer_found at p t (Some type) h is e = record { place = p; read = refl; fixed = h; type = type; pointer = is; is = cc }

pointer_one : (at : ℕ) (p : APlace) (f : Fault) (o : Option CType) → address_by o at p ≡ Err f → f ≡ record { place = at; kind = BadType }
pointer_one at p f None e = cc
pointer_one at p f (Some type) e = absurd (cc)

place_found : (at : ℕ) (p : APlace) (t : AnExpression) → address_of at p ≡ Ok t → IsAddress (ReadOf p) t
place_found at p t e = by (address_or_none p)
  where
    by : HasAddress p ⊎ (HasAddress p → ⊥) → IsAddress (ReadOf p) t
    by (inl h) = pointer_found at p t (pointer_to (place_type p)) h refl (sym (with_address at p h) ∙ e)
    by (inr never) = absurd (let f : bad at BadType ≡ Ok t = sym (without_address at p never) ∙ e in cc)

address_found : (at : ℕ) (x t : AnExpression) → address at x ≡ Ok t → IsAddress x t
unfolding address
address_found at (ReadOf p) t e = place_found at p t e
address_found at _ t e = absurd (cc)

address_only : (at : ℕ) (x t : AnExpression) → IsAddress x t → address at x ≡ Ok t
unfolding address
address_only at x t r =
    ap (address at) r.read ∙ (with_address at r.place r.fixed ∙ (ap (λ (o : Option CType). address_by o at r.place) r.pointer ∙ ap Ok (sym r.is)))

place_one : (at : ℕ) (p : APlace) (f : Fault) → address_of at p ≡ Err f → f ≡ record { place = at; kind = BadType }
place_one at p f e = by (address_or_none p)
  where
    by : HasAddress p ⊎ (HasAddress p → ⊥) → f ≡ record { place = at; kind = BadType }
    by (inl h) = pointer_one at p f (pointer_to (place_type p)) (sym (with_address at p h) ∙ e)
    by (inr never) = let g : bad at BadType ≡ Err f = sym (without_address at p never) ∙ e in cc

address_one : (at : ℕ) (x : AnExpression) (f : Fault) → address at x ≡ Err f → f ≡ record { place = at; kind = BadType }
unfolding address
address_one at (ReadOf p) f e = place_one at p f e
address_one at _ f e = cc

address_means : (at : ℕ) (x : AnExpression) → Means (address at x) (IsAddress x) (NoRow (IsAddress x) at BadType)
address_means at x = means_row _ _ at BadType (λ t e. address_found at x t e) (λ t r. address_only at x t r) (λ f e. address_one at x f e)

pub prefixes_mean : (op : PrefixOperator) (at : ℕ) (x : AnExpression) → Means (prefix_of op at x) (IsPrefix op x) (PrefixFault op at x)
unfolding prefix_of
prefixes_mean prefixes.Plus at x = unary_means unaries.Plus at x
prefixes_mean prefixes.Minus at x = unary_means unaries.Minus at x
prefixes_mean prefixes.Complement at x = unary_means unaries.Complement at x
prefixes_mean prefixes.Not at x = negation_means at x
prefixes_mean prefixes.Indirection at x = indirection_means at x
prefixes_mean prefixes.Address at x = address_means at x

-- ---- indexes

-- the element that a sum points to
record IsElement (sum t : AnExpression) : Type 0 where
  pointer : IsPointer sum
  is : t ≡ ReadOf (ElementBy (target pointer.to pointer.stars) sum)

element_found : (at : ℕ) (sum t : AnExpression) (s : CType) → type_of sum ≡ s → element_at s at sum ≡ Ok t → IsElement sum t
element_found at sum t (Pointer b n) p e = record { pointer = record { to = b; stars = n; is = p }; is = cc }
element_found at sum t _ p e = absurd (cc)

element_one : (at : ℕ) (sum : AnExpression) (f : Fault) (s : CType) → element_at s at sum ≡ Err f → f ≡ record { place = at; kind = BadType }
element_one at sum f (Pointer b n) e = absurd (cc)
element_one at sum f _ e = cc

element_only : (at : ℕ) (sum t : AnExpression) (r : IsElement sum t) → element at sum ≡ Ok t
unfolding element
element_only at sum t r = rw (r.is, r.pointer.is) refl

sums_mean : (at : ℕ) (x y : AnExpression) → Means (plus at x y) (IsSum x y) (NoRow (IsSum x y) at BadType)
unfolding binary_of
sums_mean at x y = binary_means binaries.Add at x y

index_found : (at : ℕ) (x y t : AnExpression) (m : Result AnExpression Fault) → ((s : AnExpression) → m ≡ Ok s → IsSum x y s)
    → (m >>= λ (sum : AnExpression). element at sum) ≡ Ok t → IsIndex x y t
unfolding element
index_found at x y t (Ok s) sums e =
    let r = element_found at s t (type_of s) refl e in
    record { sum = s; sums = sums s refl; pointer = r.pointer; is = r.is }
index_found at x y t (Err f) sums e = absurd (cc)

index_one : (at : ℕ) (f : Fault) (m : Result AnExpression Fault) → ((g : Fault) → m ≡ Err g → g ≡ record { place = at; kind = BadType })
    → (m >>= λ (sum : AnExpression). element at sum) ≡ Err f → f ≡ record { place = at; kind = BadType }
unfolding element
index_one at f (Ok s) one e = element_one at s f (type_of s) e
index_one at f (Err g) one e = let same : g ≡ f = cc in sym same ∙ one g refl

pub indexes : (at : ℕ) (x y : AnExpression) → Means (index_of at x y) (IsIndex x y) (NoRow (IsIndex x y) at BadType)
unfolding index_of
indexes at x y =
    let sums = sums_mean at x y in
    means_row _ _ at BadType (λ t e. index_found at x y t (plus at x y) sums.found e)
    (λ t r.
    ap (λ (m : Result AnExpression Fault). m >>= λ (sum : AnExpression). element at sum) (sums.only r.sum r.sums)
    ∙ element_only at r.sum t (record { pointer = r.pointer; is = r.is }))
    (λ f e. index_one at f (plus at x y) (λ g h. (sums.faults g h).is) e)

-- ---- steps

step_in : (moment : Moment) (op : StepOperator) (at : ℕ) (p : APlace) (t : AnExpression) (b : Bool) → is_scalar (place_type p) ≡ b → step_at b moment op at p ≡ Ok t
    → IsStep moment op (ReadOf p) t
step_in moment op at p t true is e = record { place = p; read = refl; scalar = is; is = cc }
step_in moment op at p t false is e = absurd (cc)

step_found : (moment : Moment) (op : StepOperator) (at : ℕ) (x t : AnExpression) → step moment op at x ≡ Ok t → IsStep moment op x t
unfolding step
step_found moment op at (ReadOf p) t e = step_in moment op at p t (is_scalar (place_type p)) refl e
step_found moment op at _ t e = absurd (cc)

step_only : (moment : Moment) (op : StepOperator) (at : ℕ) (x t : AnExpression) → IsStep moment op x t → step moment op at x ≡ Ok t
unfolding step
step_only moment op at x t r =
    ap (step moment op at) r.read ∙ (ap (λ (b : Bool). step_at b moment op at r.place) r.scalar ∙ ap Ok (sym r.is))

step_at_one : (moment : Moment) (op : StepOperator) (at : ℕ) (p : APlace) (f : Fault) (b : Bool) → step_at b moment op at p ≡ Err f
    → f ≡ record { place = at; kind = BadType }
step_at_one moment op at p f true e = absurd (cc)
step_at_one moment op at p f false e = cc

step_one : (moment : Moment) (op : StepOperator) (at : ℕ) (x : AnExpression) (f : Fault) → step moment op at x ≡ Err f → f ≡ record { place = at; kind = BadType }
unfolding step
step_one moment op at (ReadOf p) f e = step_at_one moment op at p f (is_scalar (place_type p)) e
step_one moment op at _ f e = cc

pub steps_mean : (moment : Moment) (op : StepOperator) (at : ℕ) (x : AnExpression) → Means (step moment op at x) (IsStep moment op x) (NoRow (IsStep moment op x) at BadType)
steps_mean moment op at x =
    means_row _ _ at BadType (λ t e. step_found moment op at x t e) (λ t r. step_only moment op at x t r) (λ f e. step_one moment op at x f e)
