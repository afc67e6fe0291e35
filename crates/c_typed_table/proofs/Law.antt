-- What the rows say is what typing answers, by one induction over expressions.
use Rattle.std.proofs.Common.{◌≡◌, ℕ, Bool, true, false, List, Result, Ok, Err, refl, sym, ap, ◌∙◌}
use Rattle.c_types.specs.declared.typed.Moment.TheVariants as moments
use Rattle.c_types.specs.declared.fault.TypeKind.TheVariants.{BadType}
use Rattle.c_types.specs.Answers.{Fault, ◌>>=◌}
use Rattle.c_types.specs.Typed.{AnExpression, NoExpressions, MoreExpressions, Constant, CommaOf, type_of}
use Rattle.c_typed_operators.specs.Prefixes.{sizeof_of}
use Rattle.c_typed_operators.specs.Choices.{comma_of}
use Rattle.c_typed_operators.specs.Table.{Means}
use Rattle.c_typed_operators.proofs.Law.{binary_means}
use Rattle.c_typed_rows.proofs.Law.{rows_are_answered}
use Rattle.c_typed_scope.specs.declared.entry.Entry.{Entry}
use Rattle.c_typed_scope.specs.declared.entry.Signature.{Signature}
use Rattle.c_typed_scope.specs.Scopes.{Scope}
use Rattle.c_typed_scope.specs.Layout.{Area}
use Rattle.c_phrases.specs.Phrases.{AnExp, name, number, str, paren, call, index, step_after, step_before, prefix}
use Rattle.c_phrases.specs.Phrases.{sizeof_exp, sizeof_type, cast, binary, choice, assign, comma, SomeExps, no_exps}
use Rattle.c_phrases.specs.Phrases.{exps}
use Rattle.c_typed_expressions.specs.Expressions.{written, is_function, beside, sizeof_unless, type_exp, type_exps}
use Rattle.c_typed_expressions.specs.Relations.{Unless, Refuses, Passes}
use Rattle.c_typed_expressions.proofs.Law.{means_then, means_ok, beside_means, exp_means}
use Rattle.c_typed_table.specs.Rows.{HasType, HaveTypes, HasFault, HaveFault}
use Rattle.c_typed_table.specs.Table.{TypesAreRows}
use Rattle.c_typed_table.proofs.Strings.{literals_mean}
use Rattle.c_typed_table.proofs.Calls.{callees_mean, calls_mean}

-- a function's name under sizeof is refused first
refuses_first : (at : ℕ) (F : Fault → Type 0) (f : Fault) → Unless true at BadType F f → f ≡ record { place = at; kind = BadType }
refuses_first at F f (Refuses h q) = q
refuses_first at F f (Passes h later) = absurd (cc)

passes_first : (at : ℕ) (m : Result (AnExpression × Area) Fault) (F : Fault → Type 0) (f : Fault) → ((g : Fault) → F g → m ≡ Err g) → Unless false at BadType F f → m ≡ Err f
passes_first at m F f first (Refuses h q) = absurd (cc)
passes_first at m F f first (Passes h later) = first f later

sizeof_means : (test : Bool) (at : ℕ) (m : Result (AnExpression × Area) Fault) (R : AnExpression × Area → Type 0) (F : Fault → Type 0)
    → Means (m >>= λ (x : AnExpression × Area). beside x.1 (sizeof_of at x.0)) R F → Means (sizeof_unless test at m) (λ t. (test ≡ false) × R t) (Unless test at BadType F)
sizeof_means true at m R F h = record {
  found = λ t e. absurd (cc);
  only = λ t p. absurd (cc (p.0));
  faults = λ f e. Refuses refl (cc);
  first = λ f w. ap Err (sym (refuses_first at F f w));
}
sizeof_means false at m R F h = record {
  found = λ t e. (refl, h.found t e);
  only = λ t p. h.only t p.1;
  faults = λ f e. Passes refl (h.faults f e);
  first = λ f w. passes_first at (m >>= λ (x : AnExpression × Area). beside x.1 (sizeof_of at x.0)) F f h.first w;
}

comma_is : (x y : AnExpression) → comma_of x y ≡ CommaOf (type_of y) x y
unfolding comma_of
comma_is x y = refl

-- what is answered, said in other words
means_same : {A : Type 0} (m : Result A Fault) (a b : A) → a ≡ b → Means m (λ u. u ≡ a) (λ f. ⊥) → Means m (λ u. u ≡ b) (λ f. ⊥)
means_same m a b same h = record {
  found = λ x e. h.found x e ∙ same;
  only = λ x e. h.only x (e ∙ sym same);
  faults = h.faults;
  first = h.first;
}

module _ (names : List (List ℕ × Entry)) (signatures : List Signature) (scope : Scope) where
  mutual
    means : (e : AnExp) (a : Area) → Means (type_exp names signatures scope e a) (HasType names signatures scope e a) (HasFault names signatures scope e a)
    means (name n at) a = exp_means names signatures scope (name n at) a
    means (number v at) a = means_ok (Constant v, a)
    means (str b at) a = literals_mean at b a
    means (paren o e) a = means e a
    means (call n at o es) a = means_then _ _ _ _ _ _ (callees_mean names signatures scope at n)
        (λ c. means_then _ _ _ _ _ _ (all_mean es a) (λ xs. beside_means xs.1 _ _ _ (calls_mean signatures c o es xs.0)))
    means (index e o i) a = means_then _ _ _ _ _ _ (means e a)
        (λ x. means_then _ _ _ _ _ _ (means i x.1) (λ y. beside_means y.1 _ _ _ (rows_are_answered.indexes o x.0 y.0)))
    means (step_after e op at) a = means_then _ _ _ _ _ _ (means e a) (λ x. beside_means x.1 _ _ _ (rows_are_answered.steps moments.Before op at x.0))
    means (step_before op at e) a = means_then _ _ _ _ _ _ (means e a) (λ x. beside_means x.1 _ _ _ (rows_are_answered.steps moments.After op at x.0))
    means (prefix op at e) a = means_then _ _ _ _ _ _ (means e a) (λ x. beside_means x.1 _ _ _ (rows_are_answered.prefixes op at x.0))
    means (sizeof_exp at e) a = sizeof_means (is_function names signatures scope e) at (type_exp names signatures scope e a) _ _
        (means_then _ _ _ _ _ _ (means e a) (λ x. beside_means x.1 _ _ _ (rows_are_answered.sizes at x.0)))
    means (sizeof_type at o of) a = beside_means a _ _ _ (rows_are_answered.type_sizes at (written of.spec of.stars))
    means (cast o to e) a = means_then _ _ _ _ _ _ (means e a) (λ x. beside_means x.1 _ _ _ (rows_are_answered.casts o (written to.spec to.stars) x.0))
    means (binary l op at r) a = means_then _ _ _ _ _ _ (means l a)
        (λ x. means_then _ _ _ _ _ _ (means r x.1) (λ y. beside_means y.1 _ _ _ (binary_means op at x.0 y.0)))
    means (choice c at e d) a = means_then _ _ _ _ _ _ (means c a)
        (λ z. means_then _ _ _ _ _ _ (means e z.1) (λ x. means_then _ _ _ _ _ _ (means d x.1) (λ y. beside_means y.1 _ _ _ (rows_are_answered.choices at z.0 x.0 y.0))))
    means (assign p op at v) a = means_then _ _ _ _ _ _ (means p a)
        (λ x. means_then _ _ _ _ _ _ (means v x.1) (λ y. beside_means y.1 _ _ _ (rows_are_answered.assignments op at x.0 y.0)))
    means (comma l r) a = means_then _ _ _ _ _ _ (means l a) (λ x. means_then _ _ _ _ _ _ (means r x.1)
        (λ y. means_same _ (comma_of x.0 y.0, y.1) (CommaOf (type_of y.0) x.0 y.0, y.1) (ap (λ (t : AnExpression). (t, y.1)) (comma_is x.0 y.0)) (means_ok (comma_of x.0 y.0, y.1))))

    all_mean : (es : SomeExps) (a : Area) → Means (type_exps names signatures scope es a) (HaveTypes names signatures scope es a) (HaveFault names signatures scope es a)
    all_mean no_exps a = means_ok (NoExpressions, a)
    all_mean (exps e es) a = means_then _ _ _ _ _ _ (means e a) (λ x. means_then _ _ _ _ _ _ (all_mean es x.1) (λ xs. means_ok (MoreExpressions x.0 xs.0, xs.1)))

pub types_are_rows : TypesAreRows
types_are_rows names signatures scope e a =
    let old = exp_means names signatures scope e a in
    let new = means names signatures scope e a in
    record {
      rows = λ t h. new.found t (old.only t h);
      typed = λ t h. old.found t (new.only t h);
      faults = λ f h. new.faults f (old.first f h);
      first = λ f h. old.faults f (new.first f h);
    }
