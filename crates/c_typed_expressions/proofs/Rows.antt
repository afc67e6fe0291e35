-- The lists behind the rows of a call, and a list of arguments that is typed one after another.
use Rattle.std.proofs.Common.{◌≡◌, ℕ, Bool, not, cond, ◌+◌, List, [], ◌∷◌, ◌++◌, true, Option, Some, None, ◌<◌, ◌≤◌, drop, length-drop, get_or, eqb, eq-eqb, ne_eqb, ltb-false, false, subst, length}
use Rattle.std.proofs.Common.{length-append, refl, ap, sym, ◌∙◌, Result, Ok, Err, arith}
use Rattle.std.specs.Global.{Vec}
use Rattle.std.specs.List.{position_from, zip}
use Rattle.std.specs.Prelude.{slice_get}
use Rattle.std.proofs.lemmas.List.{drop_more, nil_from_length}
use Rattle.std.proofs.lemmas.Option.{slice_get_read, slice_get_past}
use Rattle.std.specs.Prelude.{nat_lt}
use Rattle.c_phrases.specs.declared.tree.Expr.{Expr}
use Rattle.c_phrases.specs.declared.tree.Expr.TheVariants as exprs
use Rattle.c_types.specs.declared.types.CType.{CType}
use Rattle.c_types.specs.declared.fault.TypeFault.{TypeFault}
use Rattle.c_types.specs.declared.fault.TypeFault.TheVariants.{NoMemory, At}
use Rattle.c_types.specs.declared.typed.Callee.{Callee}
use Rattle.c_types.specs.declared.typed.Expression.{Expression}
use Rattle.c_types.specs.declared.typed.Expression.TheVariants as expression
use Rattle.c_types.specs.declared.fault.TypeKind.TheVariants.{BadCall, BadType}
use Rattle.c_types.specs.Answers.{Fault, ◌>>=◌, Fails, Gives}
use Rattle.c_types.specs.Typed.{SomeExpressions, NoExpressions, MoreExpressions, expression_of, expressions_of}
use Rattle.c_types.proofs.Rows.{call_expression}
use Rattle.c_typed_operators.specs.Rules.{fits}
use Rattle.c_typed_scope.specs.declared.entry.Entry.{Entry}
use Rattle.c_typed_scope.specs.declared.entry.Signature.{Signature}
use Rattle.c_typed_scope.specs.Answers.{Turns}
use Rattle.c_phrases.specs.Phrases.{call}
use Rattle.c_phrases.specs.Shapes.{exp, exp_list}
use Rattle.c_phrases.proofs.Rows.{exp_call}
use Rattle.c_typed_scope.specs.Scopes.{Scope}
use Rattle.c_typed_scope.specs.Layout.{Area}
use Rattle.c_typed_expressions.specs.Phrases.{first}
use Rattle.c_typed_expressions.specs.Calls.{count, callee_of, called, unfit}
use Rattle.c_typed_expressions.specs.Expressions.{callee, type_exp, type_exps}

pub count_is : (es : List Expr) → count (exp_list es) ≡ length es
count_is [] = refl
count_is (e ∷ rest) = omega (arith, count_is rest)

-- what was typed, in front of what is left
abbrev pub expressions_onto : List Expression → SomeExpressions → SomeExpressions
expressions_onto [] xs = xs
expressions_onto (x ∷ done) xs = MoreExpressions (expression_of x) (expressions_onto done xs)

abbrev pub onto : List Expression → Result (SomeExpressions × Area) Fault → Result (SomeExpressions × Area) Fault
onto done m = m >>= λ r. Ok (expressions_onto done r.0, r.1)

onto_push : (done : List Expression) (x : Expression) (xs : SomeExpressions) → expressions_onto (done ++ x ∷ []) xs ≡ expressions_onto done (MoreExpressions (expression_of x) xs)
onto_push [] x xs = refl
onto_push (y ∷ done) x xs = ap (MoreExpressions (expression_of y)) (onto_push done x xs)

onto_more : (done : List Expression) (x : Expression) (m : Result (SomeExpressions × Area) Fault) → onto (done ++ x ∷ []) m ≡ onto done (m >>= λ r. Ok (MoreExpressions (expression_of x) r.0, r.1))
onto_more done x (Ok r) = ap (λ t. Ok (t, r.1)) (onto_push done x r.0)
onto_more done x (Err e) = refl

onto_end : (done : List Expression) → expressions_onto done NoExpressions ≡ expressions_of done
onto_end [] = refl
onto_end (x ∷ done) = ap (MoreExpressions (expression_of x)) (onto_end done)

module _ (names : List (List ℕ × Entry)) (signatures : List Signature) (scope : Scope) where
  pub record SoFar (es : List Expr) (old : Area) (done : List Expression) (left : List Expr) (a : Area) : Type 0 where
    pub typed : type_exps names signatures scope (exp_list es) old ≡ onto done (type_exps names signatures scope (exp_list left) a)
    pub same : length done + length left ≡ length es

  pub goes_on : (es : List Expr) (old : Area) (done : List Expression) (e : Expr) (left : List Expr) (a b : Area) (x : Expression) → type_exp names signatures scope (exp e) a
      ≡ Ok (expression_of x, b) → SoFar es old done (e ∷ left) a → SoFar es old (done ++ x ∷ []) left b
  goes_on es old done e left a b x h far = record {
    typed = far.typed ∙ (rw h (sym (onto_more done x (type_exps names signatures scope (exp_list left) b))));
    same = omega (arith, far.same, length-append done (x ∷ []));
  }

  pub ends : (es : List Expr) (old : Area) (done : List Expression) (a : Area) → SoFar es old done [] a → type_exps names signatures scope (exp_list es) old ≡ Ok (expressions_of done, a)
  ends es old done a far = far.typed ∙ ap (λ t. Ok (t, a)) (onto_end done)

  pub steps : (es : List Expr) (old : Area) (done : List Expression) (i : ℕ) (e d : Expr) (a b : Area) (x : Expression) (more : List Expression) → i < length es → e ≡ get_or es i d → more
      ≡ done ++ x ∷ [] → type_exp names signatures scope (exp e) a ≡ Ok (expression_of x, b) → SoFar es old done (drop i es) a → SoFar es old more (drop (i + 1) es) b
  steps es old done i e d a b x more lt is pushed typed far =
      let far' : SoFar es old done (e ∷ drop (i + 1) es) a = rw is (subst (λ l. SoFar es old done l a) (drop_more es i d lt) far) in
      rw pushed (goes_on es old done e (drop (i + 1) es) a b x typed far')

  pub ends_at : (es : List Expr) (old : Area) (done : List Expression) (i : ℕ) (a : Area) → length es ≤ i → SoFar es old done (drop i es) a
      → type_exps names signatures scope (exp_list es) old ≡ Ok (expressions_of done, a)
  ends_at es old done i a le far = ends es old done a (subst (λ l. SoFar es old done l a) (nil_from_length (drop i es) (omega (arith, length-drop i es))) far)

pub call_is : (e : Expr) (n : List ℕ) (at opened : ℕ) (es : Vec Expr) (list : List Expr) → e ≡ exprs.Call n at opened es → list ≡ es.items → exp e ≡ call n at opened (exp_list list)
call_is e n at opened es list is same = ap exp is ∙ exp_call n at opened es ∙ ap (λ l. call n at opened (exp_list l)) (sym same)

module _ (names : List (List ℕ × Entry)) (signatures : List Signature) (scope : Scope) where
  -- an argument has a fault
  pub call_fails : (e : Expr) (n : List ℕ) (at opened : ℕ) (es : Vec Expr) (f : Option ℕ) (list : List Expr) (a : Area) (t : TypeFault) → e ≡ exprs.Call n at opened es → list ≡ es.items
      → callee names signatures scope at n ≡ Ok f → Fails t (type_exps names signatures scope (exp_list list) a) → Fails t (type_exp names signatures scope (exp e) a)
  call_fails e n at opened es f list a NoMemory is same found h = tt
  call_fails e n at opened es f list a (At place kind) is same found h = rw (call_is e n at opened es list is same, found, h) refl

  called_beside : (f : Option ℕ) (opened : ℕ) (l : List Expr) (xs : List Expression) (b : Area) (result : Result Expression TypeFault)
      → Gives (λ t. expression_of t) result (called signatures f opened (exp_list l) (expressions_of xs))
      → Turns (λ t. expression_of t) result b (called signatures f opened (exp_list l) (expressions_of xs) >>= λ t. Ok (t, b))
  called_beside f opened l xs b (Ok x) given = rw given refl
  called_beside f opened l xs b (Err NoMemory) given = tt
  called_beside f opened l xs b (Err (At place kind)) given = rw given refl

  -- the arguments have their types
  pub call_goes : (e : Expr) (n : List ℕ) (at opened : ℕ) (es : Vec Expr) (f : Option ℕ) (list other : List Expr) (xs : List Expression) (a b : Area) (result : Result Expression TypeFault)
      → e ≡ exprs.Call n at opened es → list ≡ es.items → other ≡ es.items → callee names signatures scope at n ≡ Ok f → type_exps names signatures scope (exp_list list) a
      ≡ Ok (expressions_of xs, b) → Gives (λ t. expression_of t) result (called signatures f opened (exp_list other) (expressions_of xs))
      → Turns (λ t. expression_of t) result b (type_exp names signatures scope (exp e) a)
  call_goes e n at opened es f list other xs a b result is same again found h given =
      let both : other ≡ list = again ∙ sym same in
      rw (call_is e n at opened es list is same, found, h) (called_beside f opened list xs b result
      (subst (λ l. Gives (λ t. expression_of t) result (called signatures f opened (exp_list l) (expressions_of xs))) both given))

-- a function that is defined, or is not
pub signature_found : (all l : List Signature) (n : ℕ) (s : Signature) → l ≡ all → n < length l → s ≡ get_or l n s → slice_get all n ≡ Some s
signature_found all l n s same lt at = ap (λ x. slice_get x n) (sym same) ∙ slice_get_read l (length l) n s refl lt at

pub signature_missing : (all l : List Signature) (n : ℕ) → l ≡ all → false ≡ nat_lt n (length l) → slice_get all n ≡ None
signature_missing all l n same test = ap (λ x. slice_get x n) (sym same) ∙ slice_get_past l n (ltb-false n (length l) (sym test))

-- a number without a function
pub called_missing : (signatures : List Signature) (o : Option ℕ) (n opened : ℕ) (es : List Expr) (xs : List Expression) (r : Result Expression TypeFault) → o ≡ Some n
    → slice_get signatures n ≡ None → r ≡ Err (At opened BadCall) → Gives (λ t. expression_of t) r (called signatures o opened (exp_list es) (expressions_of xs))
called_missing signatures o n opened es xs r is none answered = rw (answered, is, none) refl

-- another number of arguments
pub called_unlike : (signatures : List Signature) (o : Option ℕ) (n opened : ℕ) (s : Signature) (p : List CType) (es : List Expr) (xs : List Expression) (r : Result Expression TypeFault)
    → o ≡ Some n → slice_get signatures n ≡ Some s → p ≡ s.parameters → (length p ≡ length es → ⊥) → r ≡ Err (At opened BadCall)
    → Gives (λ t. expression_of t) r (called signatures o opened (exp_list es) (expressions_of xs))
called_unlike signatures o n opened s p es xs r is found same unlike answered =
    let test : eqb (length s.parameters) (length es) ≡ false = ne_eqb (length s.parameters) (length es) (λ e. unlike (ap length same ∙ e)) in
    rw (answered, is, found, count_is es, test) refl

-- an argument that its parameter doesn't take
pub called_unfit : (signatures : List Signature) (o : Option ℕ) (n opened : ℕ) (s : Signature) (p : List CType) (es : List Expr) (xs list : List Expression) (u : Option ℕ) (at : ℕ)
    (r : Result Expression TypeFault) → o ≡ Some n → slice_get signatures n ≡ Some s → p ≡ s.parameters → length p ≡ length es → list ≡ xs → u ≡ unfit p (exp_list es) (expressions_of list) → u
    ≡ Some at → r ≡ Err (At at BadType) → Gives (λ t. expression_of t) r (called signatures o opened (exp_list es) (expressions_of xs))
called_unfit signatures o n opened s p es xs list u at r is found same like listed refused there answered =
    let test : eqb (length s.parameters) (length es) ≡ true = eq-eqb (length s.parameters) (length es) (ap length (sym same) ∙ like) in
    let fit : unfit s.parameters (exp_list es) (expressions_of xs) ≡ Some at = rw (← same, ← listed, ← refused) there in
    rw (answered, is, found, count_is es, test, fit) refl

-- all arguments are taken
pub called_runs : (signatures : List Signature) (o : Option ℕ) (n : ℕ) (s : Signature) (opened : ℕ) (es : List Expr) (xs : Vec Expression) (f : Callee) (to : List CType) → o ≡ Some n
    → slice_get signatures n ≡ Some s → length s.parameters ≡ length es → None ≡ unfit s.parameters (exp_list es) (expressions_of xs.items) → f ≡ callee_of n → to ≡ s.parameters
    → called signatures o opened (exp_list es) (expressions_of xs.items) ≡ Ok (expression_of (expression.Call s.result f to xs))
called_runs signatures o n s opened es xs f to is found same fit callee types =
    rw (is, found, count_is es, eq-eqb _ _ same, ← fit, callee, types) (sym (ap Ok (call_expression s.result (callee_of n) s.parameters xs)))

-- the first argument that its parameter does not take, by number
abbrev pub is_unfit : CType × Expression → Bool
is_unfit p = not (fits p.0 (expression_of p.1))

abbrev pub Placed : List Expr → Option ℕ → Option ℕ → Type 0
Placed es None r = r ≡ None
Placed es (Some i) r = (i < length es) × ((d : Expr) → r ≡ Some (first (exp (get_or es i d))))

heads : (e d : Expr) (es ds : List Expr) → e ∷ es ≡ d ∷ ds → d ≡ e
heads e d es ds same = cc

tails : (e d : Expr) (es ds : List Expr) → e ∷ es ≡ d ∷ ds → ds ≡ es
tails e d es ds same = cc

unfit_from : (ps : List CType) (es : List Expr) (xs : List Expression) (all : List Expr) (i : ℕ) → drop i all ≡ es → i + length es ≡ length all → length ps ≡ length es
    → length xs ≡ length es → Placed all (position_from is_unfit i (zip ps xs)) (unfit ps (exp_list es) (expressions_of xs))
unfit_from [] es xs all i here long same typed = refl
unfit_from (p ∷ ps) [] xs all i here long same typed = absurd (omega (arith, same))
unfit_from (p ∷ ps) (e ∷ es) [] all i here long same typed = absurd (omega (arith, typed))
unfit_from (p ∷ ps) (e ∷ es) (x ∷ xs) all i here long same typed =
    by (fits p (expression_of x)) (unfit_from ps es xs all (i + 1) (tails e (get_or all i e) es (drop (i + 1) all) (both e)) (omega (arith, long)) (omega (arith, same)) (omega (arith, typed)))
  where
    lt : i < length all
    lt = omega (arith, long)

    both : (d : Expr) → e ∷ es ≡ get_or all i d ∷ drop (i + 1) all
    both d = sym here ∙ drop_more all i d lt

    by : (b : Bool) → Placed all (position_from is_unfit (i + 1) (zip ps xs)) (unfit ps (exp_list es) (expressions_of xs))
        → Placed all (cond (not b) (Some i) (position_from is_unfit (i + 1) (zip ps xs))) (cond b (unfit ps (exp_list es) (expressions_of xs)) (Some (first (exp e))))
    by true h = h
    by false h = (lt, λ d. ap (λ (z : Expr). Some (first (exp z))) (sym (heads e (get_or all i d) es (drop (i + 1) all) (both d))))

pub unfit_placed : (ps : List CType) (es : List Expr) (xs : List Expression) (o : Option ℕ) → o ≡ position_from is_unfit 0 (zip ps xs) → length ps ≡ length es
    → length xs ≡ length es → Placed es o (unfit ps (exp_list es) (expressions_of xs))
unfit_placed ps es xs o is same typed =
    subst (λ (r : Option ℕ). Placed es r (unfit ps (exp_list es) (expressions_of xs))) (sym is) (unfit_from ps es xs es 0 refl (omega arith) same typed)
