-- Calls: the name, the number of arguments, and each argument.
use Rattle.std.proofs.Common.{◌≡◌, ◌⊎◌, ℕ, Bool, true, false, cond, List, [], ◌∷◌, length, Option, Some, None, Result, Ok, Err, inl, inr, refl, sym, ap, ◌∙◌, subst}
use Rattle.std.specs.Prelude.{◌==◌, slice_get}
use Rattle.std.proofs.lemmas.Bool.{eqb-true, eq-eqb}
use Rattle.std.proofs.lemmas.Option.{same_Some}
use Rattle.c_types.specs.declared.types.CType.{CType}
use Rattle.c_types.specs.declared.fault.TypeKind.TheVariants.{UnknownName, BadType, BadCall}
use Rattle.c_types.specs.Answers.{Fault, bad}
use Rattle.c_types.specs.Typed.{AnExpression, SomeExpressions, NoExpressions, MoreExpressions, CallOf}
use Rattle.c_typed_operators.specs.Rules.{fits}
use Rattle.c_typed_operators.specs.Table.{Means}
use Rattle.c_typed_rows.proofs.Operands.{taken, fit}
use Rattle.c_typed_scope.specs.declared.entry.Entry.{Entry}
use Rattle.c_typed_scope.specs.declared.entry.Entry.TheVariants as entries
use Rattle.c_typed_scope.specs.declared.entry.Signature.{Signature}
use Rattle.c_typed_scope.specs.Scopes.{Scope, find, lookup}
use Rattle.c_phrases.specs.Phrases.{SomeExps, no_exps, exps}
use Rattle.c_typed_expressions.specs.Phrases.{first}
use Rattle.c_typed_expressions.specs.Expressions.{callee}
use Rattle.c_typed_expressions.specs.Calls.{callee_of, count, function_number, callee_by, unfit, call_unless, called_by, called}
use Rattle.c_typed_table.specs.Calls.{IsVariable, IsFunction, IsCallee, OfVariable, OfFunction, CalleeFault, AreTaken, FirstUntaken, IsCalled, IsCall, CallFault, NotCalled, NotTaken}

-- ---- the name

module _ (names : List (List ℕ × Entry)) (signatures : List Signature) (scope : Scope) (at : ℕ) (n : List ℕ) where
  function_found : (c : Option ℕ) (f : Option Entry) → (IsVariable (lookup scope n) → ⊥) → find names n ≡ f → function_number f at ≡ Ok c → IsCallee names scope n c
  function_found c (Some (entries.Function k)) none is e = OfFunction none k (subst (λ (x : Option Entry). IsFunction x k) (sym is) refl) (cc)
  function_found c _ none is e = absurd (cc)

  found : (c : Option ℕ) (o : Option Entry) → lookup scope n ≡ o → callee_by o (find names n) at ≡ Ok c → IsCallee names scope n c
  found c (Some (entries.Variable t v)) is e = OfVariable (subst IsVariable (sym is) tt) (cc)
  found c (Some (entries.Array t v size)) is e = OfVariable (subst IsVariable (sym is) tt) (cc)
  found c (Some (entries.Function k)) is e = function_found c (find names n) (λ v. subst IsVariable is v) refl e
  found c None is e = function_found c (find names n) (λ v. subst IsVariable is v) refl e

  of_variable : (o f : Option Entry) → IsVariable o → callee_by o f at ≡ Ok None
  of_variable None f v = absurd v
  of_variable (Some (entries.Function k)) f v = absurd v
  of_variable (Some (entries.Variable t x)) f v = refl
  of_variable (Some (entries.Array t x size)) f v = refl

  of_none : (o f : Option Entry) → (IsVariable o → ⊥) → callee_by o f at ≡ function_number f at
  of_none None f never = refl
  of_none (Some (entries.Function k)) f never = refl
  of_none (Some (entries.Variable t x)) f never = absurd (never tt)
  of_none (Some (entries.Array t x size)) f never = absurd (never tt)

  of_function : (f : Option Entry) (k : ℕ) → IsFunction f k → function_number f at ≡ Ok (Some k)
  of_function None k h = absurd h
  of_function (Some (entries.Function m)) k h = ap (λ (x : ℕ). Ok (Some x)) h
  of_function (Some (entries.Variable t v)) k h = absurd h
  of_function (Some (entries.Array t v size)) k h = absurd h

  not_function : (f : Option Entry) → ((k : ℕ) → IsFunction f k → ⊥) → function_number f at ≡ bad at UnknownName
  not_function None never = refl
  not_function (Some (entries.Function m)) never = absurd (never m refl)
  not_function (Some (entries.Variable t v)) never = refl
  not_function (Some (entries.Array t v size)) never = refl

  only : (c : Option ℕ) → IsCallee names scope n c → callee_by (lookup scope n) (find names n) at ≡ Ok c
  only c (OfVariable variable is) = of_variable (lookup scope n) (find names n) variable ∙ ap Ok (sym is)
  only c (OfFunction none k defined is) =
      of_none (lookup scope n) (find names n) none ∙ (of_function (find names n) k defined ∙ ap Ok (sym is))

  no_number : (f : Option Entry) (g : Fault) → function_number f at ≡ Err g → ((k : ℕ) → IsFunction f k → ⊥) × (g ≡ record { place = at; kind = UnknownName })
  no_number None g e = ((λ k h. h), cc)
  no_number (Some (entries.Function m)) g e = absurd (cc)
  no_number (Some (entries.Variable t v)) g e = ((λ k h. h), cc)
  no_number (Some (entries.Array t v size)) g e = ((λ k h. h), cc)

  faults : (g : Fault) (o : Option Entry) → lookup scope n ≡ o → callee_by o (find names n) at ≡ Err g → CalleeFault names scope at n g
  faults g (Some (entries.Variable t v)) is e = absurd (cc)
  faults g (Some (entries.Array t v size)) is e = absurd (cc)
  faults g (Some (entries.Function k)) is e =
      let h = no_number (find names n) g e in record { none = λ v. subst IsVariable is v; undefined = h.0; is = h.1 }
  faults g None is e = (let h = no_number (find names n) g e in record { none = λ v. subst IsVariable is v; undefined = h.0; is = h.1 })

  first_one : (g : Fault) → CalleeFault names scope at n g → callee_by (lookup scope n) (find names n) at ≡ Err g
  first_one g w = of_none (lookup scope n) (find names n) w.none ∙ (not_function (find names n) w.undefined ∙ ap Err (sym w.is))

  pub callees_mean : Means (callee names signatures scope at n) (IsCallee names scope n) (CalleeFault names scope at n)
  unfolding callee
  callees_mean = record {
    found = λ c e. found c (lookup scope n) refl e;
    only = only;
    faults = λ g e. faults g (lookup scope n) refl e;
    first = first_one;
  }

-- ---- the arguments

all_taken : (ts : List CType) (es : SomeExps) (xs : SomeExpressions) → unfit ts es xs ≡ None → AreTaken ts es xs
all_taken [] es xs e = tt
all_taken (t ∷ ts) no_exps xs e = tt
all_taken (t ∷ ts) (exps p es) NoExpressions e = tt
all_taken (t ∷ ts) (exps p es) (MoreExpressions x xs) e = by (fits t x) refl e (λ f. all_taken ts es xs f)
  where
    by : (b : Bool) → fits t x ≡ b → cond b (unfit ts es xs) (Some (first p)) ≡ None → (unfit ts es xs ≡ None → AreTaken ts es xs)
        → AreTaken (t ∷ ts) (exps p es) (MoreExpressions x xs)
    by true is f go = (taken t x is, go f)
    by false is f go = absurd (cc)

none_unfit : (ts : List CType) (es : SomeExps) (xs : SomeExpressions) → AreTaken ts es xs → unfit ts es xs ≡ None
none_unfit [] es xs h = refl
none_unfit (t ∷ ts) no_exps xs h = refl
none_unfit (t ∷ ts) (exps p es) NoExpressions h = refl
none_unfit (t ∷ ts) (exps p es) (MoreExpressions x xs) h =
    ap (λ (b : Bool). cond b (unfit ts es xs) (Some (first p))) (fit t x h.0) ∙ none_unfit ts es xs h.1

-- what doesn't fit isn't taken
unfit_first : (ts : List CType) (es : SomeExps) (xs : SomeExpressions) (at : ℕ) → unfit ts es xs ≡ Some at → FirstUntaken ts es xs at
unfit_first [] es xs at e = absurd (cc)
unfit_first (t ∷ ts) no_exps xs at e = absurd (cc)
unfit_first (t ∷ ts) (exps p es) NoExpressions at e = absurd (cc)
unfit_first (t ∷ ts) (exps p es) (MoreExpressions x xs) at e = by (fits t x) refl e (λ f. unfit_first ts es xs at f)
  where
    by : (b : Bool) → fits t x ≡ b → cond b (unfit ts es xs) (Some (first p)) ≡ Some at → (unfit ts es xs ≡ Some at → FirstUntaken ts es xs at)
        → FirstUntaken (t ∷ ts) (exps p es) (MoreExpressions x xs) at
    by true is f go = inr (taken t x is, go f)
    by false is f go = inl ((λ h. let sure : fits t x ≡ true = fit t x h in cc), same_Some (first p) at f)

refused : (b : Bool) → (b ≡ true → ⊥) → b ≡ false
refused true never = absurd (never refl)
refused false never = refl

first_unfit : (ts : List CType) (es : SomeExps) (xs : SomeExpressions) (at : ℕ) → FirstUntaken ts es xs at → unfit ts es xs ≡ Some at
first_unfit [] es xs at h = absurd h
first_unfit (t ∷ ts) no_exps xs at h = absurd h
first_unfit (t ∷ ts) (exps p es) NoExpressions at h = absurd h
first_unfit (t ∷ ts) (exps p es) (MoreExpressions x xs) at (inl (never, is)) =
    ap (λ (b : Bool). cond b (unfit ts es xs) (Some (first p))) (refused (fits t x) (λ e. never (taken t x e))) ∙ ap Some is
first_unfit (t ∷ ts) (exps p es) (MoreExpressions x xs) at (inr (sure, later)) =
    ap (λ (b : Bool). cond b (unfit ts es xs) (Some (first p))) (fit t x sure) ∙ first_unfit ts es xs at later

-- ---- the call

module _ (signatures : List Signature) (c : Option ℕ) (opened : ℕ) (es : SomeExps) (xs : SomeExpressions) where
  -- with a function of this number and as many parameters
  fitting : (h : IsCalled signatures c es) → called signatures c opened es xs ≡ call_unless (unfit h.signature.parameters es xs) h.signature h.number xs
  fitting h =
      ap (λ (x : Option ℕ). called signatures x opened es xs) h.callee
      ∙ (ap (λ (s : Option Signature). called_by s h.number opened es xs) h.found
      ∙ ap (λ (b : Bool). cond b (call_unless (unfit h.signature.parameters es xs) h.signature h.number xs) (bad opened BadCall))
      (eq-eqb (length h.signature.parameters) (count es) h.many))

  -- there is one, or the call is refused
  abbrev IsCalledOrNot : Type 0
  IsCalledOrNot = IsCalled signatures c es ⊎ ((IsCalled signatures c es → ⊥) × (called signatures c opened es xs ≡ bad opened BadCall))

  called_or_not : IsCalledOrNot
  called_or_not = by c refl
    where
      counted : (k : ℕ) (s : Signature) (b : Bool) → c ≡ Some k → slice_get signatures k ≡ Some s → (length s.parameters == count es) ≡ b → IsCalledOrNot
      counted k s true is found many = inl (record { number = k; callee = is; signature = s; found = found; many = eqb-true (length s.parameters) (count es) many })
      counted k s false is found other = inr (
        λ h.
            let same : h.number ≡ k = same_Some h.number k (sym h.callee ∙ is) in
            let one : h.signature ≡ s = same_Some h.signature s (sym h.found ∙ (ap (slice_get signatures) same ∙ found)) in
            let sure : (length s.parameters == count es) ≡ true =
            ap (λ (z : Signature). length z.parameters == count es) (sym one) ∙ eq-eqb (length h.signature.parameters) (count es) h.many in
            let never : true ≡ false = sym sure ∙ other in cc,
        ap (λ (x : Option ℕ). called signatures x opened es xs) is
            ∙ (ap (λ (z : Option Signature). called_by z k opened es xs) found
            ∙ ap (λ (b : Bool). cond b (call_unless (unfit s.parameters es xs) s k xs) (bad opened BadCall)) other),
      )

      numbered : (k : ℕ) (o : Option Signature) → c ≡ Some k → slice_get signatures k ≡ o → IsCalledOrNot
      numbered k (Some s) is found = counted k s (length s.parameters == count es) is found refl
      numbered k None is found = inr (
        λ h.
            let same : h.number ≡ k = same_Some h.number k (sym h.callee ∙ is) in
            let never : Some h.signature ≡ None = sym h.found ∙ (ap (slice_get signatures) same ∙ found) in cc,
        ap (λ (x : Option ℕ). called signatures x opened es xs) is ∙ ap (λ (z : Option Signature). called_by z k opened es xs) found,
      )

      by : (o : Option ℕ) → c ≡ o → IsCalledOrNot
      by None is = inr ((λ h. let never : Some h.number ≡ None = sym h.callee ∙ is in cc), ap (λ (x : Option ℕ). called signatures x opened es xs) is)
      by (Some k) is = numbered k (slice_get signatures k) is refl

  unless_found : (h : IsCalled signatures c es) (t : AnExpression) (o : Option ℕ) → unfit h.signature.parameters es xs ≡ o → call_unless o h.signature h.number xs ≡ Ok t
      → IsCall signatures c es xs t
  unless_found h t None none e = record { called = h; taken = all_taken h.signature.parameters es xs none; is = cc }
  unless_found h t (Some at) some e = absurd (cc)

  unless_faults : (h : IsCalled signatures c es) (f : Fault) (o : Option ℕ) → unfit h.signature.parameters es xs ≡ o → call_unless o h.signature h.number xs ≡ Err f
      → CallFault signatures c opened es xs f
  unless_faults h f None none e = absurd (cc)
  unless_faults h f (Some at) some e = NotTaken h at (unfit_first h.signature.parameters es xs at some) (cc)

  calls_found : (t : AnExpression) → called signatures c opened es xs ≡ Ok t → IsCall signatures c es xs t
  calls_found t e = by called_or_not
    where
      by : IsCalledOrNot → IsCall signatures c es xs t
      by (inl h) = unless_found h t (unfit h.signature.parameters es xs) refl (sym (fitting h) ∙ e)
      by (inr never) = absurd (let g : bad opened BadCall ≡ Ok t = sym never.1 ∙ e in cc)

  calls_fault : (f : Fault) → called signatures c opened es xs ≡ Err f → CallFault signatures c opened es xs f
  calls_fault f e = by called_or_not
    where
      by : IsCalledOrNot → CallFault signatures c opened es xs f
      by (inl h) = unless_faults h f (unfit h.signature.parameters es xs) refl (sym (fitting h) ∙ e)
      by (inr never) = NotCalled never.0 (let g : bad opened BadCall ≡ Err f = sym never.1 ∙ e in cc)

  calls_only : (t : AnExpression) → IsCall signatures c es xs t → called signatures c opened es xs ≡ Ok t
  calls_only t r =
      fitting r.called
      ∙ (ap (λ (o : Option ℕ). call_unless o r.called.signature r.called.number xs) (none_unfit r.called.signature.parameters es xs r.taken) ∙ ap Ok (sym r.is))

  calls_first : (f : Fault) → CallFault signatures c opened es xs f → called signatures c opened es xs ≡ Err f
  calls_first f (NotTaken h at untaken is) =
      fitting h ∙ (ap (λ (o : Option ℕ). call_unless o h.signature h.number xs) (first_unfit h.signature.parameters es xs at untaken) ∙ ap Err (sym is))
  calls_first f (NotCalled none is) = by called_or_not
    where
      by : IsCalledOrNot → called signatures c opened es xs ≡ Err f
      by (inl h) = absurd (none h)
      by (inr never) = never.1 ∙ ap Err (sym is)

  pub calls_mean : Means (called signatures c opened es xs) (IsCall signatures c es xs) (CallFault signatures c opened es xs)
  calls_mean = record { found = calls_found; only = calls_only; faults = calls_fault; first = calls_first }
