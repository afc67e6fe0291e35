-- The definition's answer is what the relations say, by one induction over expressions.
use Rattle.std.proofs.Common.{◌≡◌, ℕ, Bool, true, false, List, Option, Some, None, Result, Ok, Err, refl, sym, ap, ◌∙◌}
use Rattle.c_types.specs.declared.typed.Moment.TheVariants as moments
use Rattle.c_types.specs.declared.fault.TypeKind.TheVariants.{BadType}
use Rattle.c_types.specs.Answers.{Fault, bad, ◌>>=◌}
use Rattle.c_types.specs.Typed.{AnExpression, NoExpressions, MoreExpressions, Constant}
use Rattle.c_typed_operators.specs.Prefixes.{prefix_of, index_of, step, cast_of, sizeof_of, sizeof_type_of}
use Rattle.c_typed_operators.specs.Choices.{choice_of, comma_of}
use Rattle.c_typed_operators.specs.Stores.{assign_of}
use Rattle.c_typed_operators.specs.Table.{Means}
use Rattle.c_typed_operators.proofs.Law.{binary_means}
use Rattle.c_typed_scope.specs.declared.entry.Entry.{Entry}
use Rattle.c_typed_scope.specs.declared.entry.Entry.TheVariants as entries
use Rattle.c_typed_scope.specs.declared.entry.Signature.{Signature}
use Rattle.c_typed_scope.specs.Scopes.{Scope, find, lookup}
use Rattle.c_typed_scope.specs.Layout.{Area, literal}
use Rattle.c_phrases.specs.Phrases.{AnExp, name, number, str, paren, call, index, step_after, step_before, prefix}
use Rattle.c_phrases.specs.Phrases.{sizeof_exp, sizeof_type, cast, binary, choice, assign, comma, SomeExps, no_exps}
use Rattle.c_phrases.specs.Phrases.{exps}
use Rattle.c_typed_expressions.specs.Expressions.{written, named, is_function, callee, beside, sizeof_unless}
use Rattle.c_typed_expressions.specs.Expressions.{type_exp, type_exps}
use Rattle.c_typed_expressions.specs.Calls.{named_by, is_function_by, called}
use Rattle.c_typed_expressions.specs.Relations.{Joint, FirstOf, Within, Behind, Beside, Unless, Refuses, Passes, IsNamed, NamesVariable, NamesArray, NamedFault, NamesNothing}
use Rattle.c_typed_expressions.specs.Relations.{NamesFunction, IsTyped, AreTyped, FirstFault, FirstFaultOf}

behind_first : {A B : Type 0} (x : A) (k : A → Result B Fault) (R : A → Type 0) (F : Fault → Type 0) (S : A → B → Type 0) (G : A → Fault → Type 0) → Means (Ok x) R F
    → ((x : A) → Means (k x) (S x) (G x)) → (f : Fault) → FirstOf R F G f → k x ≡ Err f
behind_first x k R F S G h next f (Within here) = absurd (cc (h.first f here))
behind_first x k R F S G h next f (Behind part typed later) = let same : x ≡ part = cc (h.only part typed) in rw same ((next part).first f later)

within_first : {A B : Type 0} (e : Fault) (k : A → Result B Fault) (R : A → Type 0) (F : Fault → Type 0) (G : A → Fault → Type 0) → Means (Err e) R F → (f : Fault) → FirstOf R F G f
    → (Err e >>= k) ≡ Err f
within_first e k R F G h f (Within here) = let same : e ≡ f = cc (h.first f here) in ap Err same
within_first e k R F G h f (Behind part typed later) = absurd (cc (h.only part typed))

-- one part after another
pub means_then : {A B : Type 0} (m : Result A Fault) (k : A → Result B Fault) (R : A → Type 0) (F : Fault → Type 0) (S : A → B → Type 0) (G : A → Fault → Type 0) → Means m R F
    → ((x : A) → Means (k x) (S x) (G x)) → Means (m >>= k) (Joint R S) (FirstOf R F G)
means_then (Ok x) k R F S G h next = record {
  found = λ y e. record { part = x; typed = h.found x refl; whole = (next x).found y e };
  only = λ y j. let same : x ≡ j.part = cc (h.only j.part j.typed) in rw same ((next j.part).only y j.whole);
  faults = λ f e. Behind x (h.found x refl) ((next x).faults f e);
  first = behind_first x k R F S G h next;
}
means_then (Err e) k R F S G h next = record {
  found = λ y q. absurd (cc);
  only = λ y j. absurd (cc (h.only j.part j.typed));
  faults = λ f q. let same : e ≡ f = cc in Within (h.faults f (ap Err same));
  first = within_first e k R F G h;
}

-- the table as a function
pub means_is : {A : Type 0} (m : Result A Fault) → Means m (λ x. m ≡ Ok x) (λ f. m ≡ Err f)
means_is m = record { found = λ x e. e; only = λ x e. e; faults = λ f e. e; first = λ f e. e }

pub means_ok : {A : Type 0} (t : A) → Means (Ok t) (λ u. u ≡ t) (λ f. ⊥)
means_ok t = record { found = λ x e. cc; only = λ x e. ap Ok (sym e); faults = λ f e. absurd (cc); first = λ f e. absurd e }

paired : (t : AnExpression × Area) (u : AnExpression) (a : Area) → u ≡ t.0 → t.1 ≡ a → (u, a) ≡ t
paired t u a e f = ap (λ v. (v, a)) e ∙ ap (λ b. (t.0, b)) (sym f)

-- with the data area that it leaves
pub beside_means : (a : Area) (m : Result AnExpression Fault) (R : AnExpression → Type 0) (F : Fault → Type 0) → Means m R F → Means (beside a m) (Beside a R) F
beside_means a (Ok u) R F h = record {
  found = λ t e. let same : (u, a) ≡ t = cc in record { typed = rw (← same) (h.found u refl); left = rw (← same) refl };
  only = λ t b. let same : u ≡ t.0 = cc (h.only t.0 b.typed) in ap Ok (paired t u a same b.left);
  faults = λ f e. absurd (cc);
  first = λ f w. absurd (cc (h.first f w));
}
beside_means a (Err e) R F h = record {
  found = λ t q. absurd (cc);
  only = λ t b. absurd (cc (h.only t.0 b.typed));
  faults = λ f q. let same : e ≡ f = cc in h.faults f (ap Err same);
  first = λ f w. let same : e ≡ f = cc (h.first f w) in ap Err same;
}

unless_first : (test : Bool) (at : ℕ) (e f : Fault) (F : Fault → Type 0) → test ≡ true → e ≡ record { place = at; kind = BadType } → Unless test at BadType F f → e ≡ f
unless_first test at e f F holds is (Refuses h q) = is ∙ sym q
unless_first test at e f F holds is (Passes h later) = absurd (cc)

passes_first : (test : Bool) (at : ℕ) (m : Result (AnExpression × Area) Fault) (F : Fault → Type 0) (f : Fault) → test ≡ false → ((g : Fault) → F g → m ≡ Err g)
    → Unless test at BadType F f → m ≡ Err f
passes_first test at m F f fails first (Refuses h q) = absurd (cc)
passes_first test at m F f fails first (Passes h later) = first f later

-- a function's name under sizeof is refused first
sizeof_means : (test : Bool) (at : ℕ) (m : Result (AnExpression × Area) Fault) (R : AnExpression × Area → Type 0) (F : Fault → Type 0)
    → Means (m >>= λ x. beside x.1 (sizeof_of at x.0)) R F → Means (sizeof_unless test at m) (λ t. (test ≡ false) × R t) (Unless test at BadType F)
sizeof_means true at m R F h = record {
  found = λ t e. absurd (cc);
  only = λ t p. absurd (cc (p.0));
  faults = λ f e. Refuses refl (cc);
  first = λ f w. ap Err (unless_first true at (record { place = at; kind = BadType }) f F refl refl w);
}
sizeof_means false at m R F h = record {
  found = λ t e. (refl, h.found t e);
  only = λ t p. h.only t p.1;
  faults = λ f e. Passes refl (h.faults f e);
  first = λ f w. passes_first false at (m >>= λ x. beside x.1 (sizeof_of at x.0)) F f refl h.first w;
}

module _ (names : List (List ℕ × Entry)) (signatures : List Signature) (scope : Scope) where
  named_only : (at : ℕ) (n : List ℕ) (t : AnExpression) → IsNamed names signatures scope n t → named_by (lookup scope n) (find names n) at ≡ Ok t
  named_only at n t (NamesVariable of v found is) = rw (found, is) refl
  named_only at n t (NamesArray of v size found is) = rw (found, is) refl

  named_found : (at : ℕ) (n : List ℕ) (t : AnExpression) (o f : Option Entry) → lookup scope n ≡ o → named_by o f at ≡ Ok t → IsNamed names signatures scope n t
  named_found at n t None None is e = absurd (cc)
  named_found at n t None (Some g) is e = absurd (cc)
  named_found at n t (Some (entries.Variable of v)) f is e = NamesVariable of v is (cc)
  named_found at n t (Some (entries.Array of v size)) f is e = NamesArray of v size is (cc)
  named_found at n t (Some (entries.Function k)) f is e = absurd (cc)

  named_faults : (at : ℕ) (n : List ℕ) (g : Fault) (o f : Option Entry) → lookup scope n ≡ o → find names n ≡ f → named_by o f at ≡ Err g → NamedFault names signatures scope at n g
  named_faults at n g None None is also e = NamesNothing is also (cc)
  named_faults at n g None (Some k) is also e = NamesFunction (rw (is, also) refl) (cc)
  named_faults at n g (Some (entries.Variable of v)) f is also e = absurd (cc)
  named_faults at n g (Some (entries.Array of v size)) f is also e = absurd (cc)
  named_faults at n g (Some (entries.Function k)) f is also e = NamesFunction (rw is refl) (cc)

  function_first : (at : ℕ) (o f : Option Entry) → is_function_by o f ≡ true → named_by o f at ≡ bad at BadType
  function_first at None (Some k) e = refl
  function_first at (Some (entries.Function k)) f e = refl
  function_first at _ _ e = absurd (cc)

  named_first : (at : ℕ) (n : List ℕ) (g : Fault) → NamedFault names signatures scope at n g → named_by (lookup scope n) (find names n) at ≡ Err g
  named_first at n g (NamesNothing inside outside is) = rw (inside, outside, is) refl
  named_first at n g (NamesFunction function is) = function_first at (lookup scope n) (find names n) function ∙ ap Err (sym is)

  named_means : (at : ℕ) (n : List ℕ) → Means (named names signatures scope at n) (IsNamed names signatures scope n) (NamedFault names signatures scope at n)
  unfolding named
  named_means at n = record {
    found = λ t e. named_found at n t (lookup scope n) (find names n) refl e;
    only = λ t r. named_only at n t r;
    faults = λ g e. named_faults at n g (lookup scope n) (find names n) refl refl e;
    first = λ g w. named_first at n g w;
  }

  mutual
    pub exp_means : (e : AnExp) (a : Area) → Means (type_exp names signatures scope e a) (IsTyped names signatures scope e a) (FirstFault names signatures scope e a)
    exp_means (name n at) a = beside_means a _ _ _ (named_means at n)
    exp_means (number v at) a = means_ok (Constant v, a)
    exp_means (str b at) a = means_is (literal at b a)
    exp_means (paren o e) a = exp_means e a
    exp_means (call n at o es) a = means_then _ _ _ _ _ _ (means_is (callee names signatures scope at n))
        (λ f. means_then _ _ _ _ _ _ (exps_mean es a) (λ xs. beside_means xs.1 _ _ _ (means_is (called signatures f o es xs.0))))
    exp_means (index e o i) a = means_then _ _ _ _ _ _ (exp_means e a) (λ x. means_then _ _ _ _ _ _ (exp_means i x.1) (λ y. beside_means y.1 _ _ _ (means_is (index_of o x.0 y.0))))
    exp_means (step_after e op at) a = means_then _ _ _ _ _ _ (exp_means e a) (λ x. beside_means x.1 _ _ _ (means_is (step moments.Before op at x.0)))
    exp_means (step_before op at e) a = means_then _ _ _ _ _ _ (exp_means e a) (λ x. beside_means x.1 _ _ _ (means_is (step moments.After op at x.0)))
    exp_means (prefix op at e) a = means_then _ _ _ _ _ _ (exp_means e a) (λ x. beside_means x.1 _ _ _ (means_is (prefix_of op at x.0)))
    exp_means (sizeof_exp at e) a = sizeof_means (is_function names signatures scope e) at (type_exp names signatures scope e a) _ _
        (means_then _ _ _ _ _ _ (exp_means e a) (λ x. beside_means x.1 _ _ _ (means_is (sizeof_of at x.0))))
    exp_means (sizeof_type at o of) a = beside_means a _ _ _ (means_is (sizeof_type_of at (written of.spec of.stars)))
    exp_means (cast o to e) a = means_then _ _ _ _ _ _ (exp_means e a) (λ x. beside_means x.1 _ _ _ (means_is (cast_of o (written to.spec to.stars) x.0)))
    exp_means (binary l op at r) a = means_then _ _ _ _ _ _ (exp_means l a) (λ x. means_then _ _ _ _ _ _ (exp_means r x.1) (λ y. beside_means y.1 _ _ _ (binary_means op at x.0 y.0)))
    exp_means (choice c at e d) a = means_then _ _ _ _ _ _ (exp_means c a)
        (λ z. means_then _ _ _ _ _ _ (exp_means e z.1) (λ x. means_then _ _ _ _ _ _ (exp_means d x.1) (λ y. beside_means y.1 _ _ _ (means_is (choice_of at z.0 x.0 y.0)))))
    exp_means (assign p op at v) a = means_then _ _ _ _ _ _ (exp_means p a) (λ x. means_then _ _ _ _ _ _ (exp_means v x.1) (λ y. beside_means y.1 _ _ _ (means_is (assign_of op at x.0 y.0))))
    exp_means (comma l r) a = means_then _ _ _ _ _ _ (exp_means l a) (λ x. means_then _ _ _ _ _ _ (exp_means r x.1) (λ y. means_ok (comma_of x.0 y.0, y.1)))

    pub exps_mean : (es : SomeExps) (a : Area) → Means (type_exps names signatures scope es a) (AreTyped names signatures scope es a) (FirstFaultOf names signatures scope es a)
    exps_mean no_exps a = means_ok (NoExpressions, a)
    exps_mean (exps e es) a = means_then _ _ _ _ _ _ (exp_means e a) (λ x. means_then _ _ _ _ _ _ (exps_mean es x.1) (λ xs. means_ok (MoreExpressions x.0 xs.0, xs.1)))
