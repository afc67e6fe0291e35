-- Which expression is well typed as which, and which fault is the first: two relations by cases. Neither says in what
-- order work is done but by what a fault stands behind.
use Rattle.std.specs.Prelude.{◌≡◌, ℕ, Bool, true, false, List, Some, None, Ok, Err}
use Rattle.c_types.specs.declared.types.CType.{CType}
use Rattle.c_types.specs.declared.typed.Variable.{Variable}
use Rattle.c_types.specs.declared.typed.Moment.TheVariants as moments
use Rattle.c_types.specs.declared.fault.TypeKind.{TypeKind}
use Rattle.c_types.specs.declared.fault.TypeKind.TheVariants.{UnknownName, BadType}
use Rattle.c_types.specs.Answers.{Fault}
use Rattle.c_types.specs.Typed.{AnExpression, SomeExpressions, NoExpressions, MoreExpressions, Constant, ReadOf, ArrayAt, VariableAt}
use Rattle.c_typed_operators.specs.Prefixes.{prefix_of, index_of, step, cast_of, sizeof_of, sizeof_type_of}
use Rattle.c_typed_operators.specs.Choices.{choice_of, comma_of}
use Rattle.c_typed_operators.specs.Stores.{assign_of}
use Rattle.c_typed_operators.specs.Table.{IsBinary, NoRow}
use Rattle.c_typed_scope.specs.declared.entry.Entry.{Entry}
use Rattle.c_typed_scope.specs.declared.entry.Entry.TheVariants as entries
use Rattle.c_typed_scope.specs.declared.entry.Signature.{Signature}
use Rattle.c_typed_scope.specs.Scopes.{Scope, find, lookup}
use Rattle.c_typed_scope.specs.Layout.{Area, literal}
use Rattle.c_phrases.specs.Phrases.{AnExp, name, number, str, paren, call, index, step_after, step_before, prefix}
use Rattle.c_phrases.specs.Phrases.{sizeof_exp, sizeof_type, cast, binary, choice, assign, comma, SomeExps, no_exps}
use Rattle.c_phrases.specs.Phrases.{exps}
use Rattle.c_typed_expressions.specs.Expressions.{written, is_function, callee}
use Rattle.c_typed_expressions.specs.Calls.{is_function_by, called}

-- A part is typed as x, and then the whole as t.
pub record Joint {A B : Type 0} (R : A → Type 0) (S : A → B → Type 0) (t : B) : Type 0 where
  pub part : A
  pub typed : R part
  pub whole : S part t

-- The first fault is the part's own, or the part is typed and the fault comes behind it.
pub data FirstOf {A : Type 0} (R : A → Type 0) (F : Fault → Type 0) (G : A → Fault → Type 0) (f : Fault) : Type 0 where
  Within : (here : F f) → FirstOf R F G f
  Behind : (part : A) (typed : R part) (later : G part f) → FirstOf R F G f

-- It is typed as an expression, and leaves this data area.
pub record Beside (a : Area) (R : AnExpression → Type 0) (t : AnExpression × Area) : Type 0 where
  pub typed : R t.0
  pub left : t.1 ≡ a

-- A test refuses it, or it has a fault of its own.
pub data Unless (test : Bool) (place : ℕ) (kind : TypeKind) (F : Fault → Type 0) (f : Fault) : Type 0 where
  Refuses : (holds : test ≡ true) (is : f ≡ record { place = place; kind = kind }) → Unless test place kind F f
  Passes : (fails : test ≡ false) (later : F f) → Unless test place kind F f

-- names of the functions that are defined in the text, and their signatures
module _ (names : List (List ℕ × Entry)) (signatures : List Signature) (scope : Scope) where
  -- a variable, or an array as its first element's address
  pub data IsNamed (n : List ℕ) (t : AnExpression) : Type 0 where
    NamesVariable : (of : CType) (v : Variable) (found : lookup scope n ≡ Some (entries.Variable of v))
        (is : t ≡ ReadOf (VariableAt of v)) → IsNamed n t
    NamesArray : (of : CType) (v : Variable) (size : ℕ) (found : lookup scope n ≡ Some (entries.Array of v size))
        (is : t ≡ ArrayAt of v size) → IsNamed n t

  -- a name that stands for nothing, or a function's name without a call
  pub data NamedFault (at : ℕ) (n : List ℕ) (f : Fault) : Type 0 where
    NamesNothing : (inside : lookup scope n ≡ None) (outside : find names n ≡ None)
        (is : f ≡ record { place = at; kind = UnknownName }) → NamedFault at n f
    NamesFunction : (function : is_function_by (lookup scope n) (find names n) ≡ true)
        (is : f ≡ record { place = at; kind = BadType }) → NamedFault at n f

  abbrev mutual
    pub IsTyped : AnExp → Area → AnExpression × Area → Type 0
    IsTyped (name n at) a t = Beside a (IsNamed n) t
    IsTyped (number v at) a t = t ≡ (Constant v, a)
    IsTyped (str b at) a t = literal at b a ≡ Ok t
    IsTyped (paren o e) a t = IsTyped e a t
    IsTyped (call n at o es) a t = Joint (λ f. callee names signatures scope at n ≡ Ok f)
        (λ f. Joint (AreTyped es a) (λ xs. Beside xs.1 (λ u. called signatures f o es xs.0 ≡ Ok u))) t
    IsTyped (index e o i) a t = Joint (IsTyped e a) (λ x. Joint (IsTyped i x.1) (λ y. Beside y.1 (λ u. index_of o x.0 y.0 ≡ Ok u))) t
    IsTyped (step_after e op at) a t = Joint (IsTyped e a) (λ x. Beside x.1 (λ u. step moments.Before op at x.0 ≡ Ok u)) t
    IsTyped (step_before op at e) a t = Joint (IsTyped e a) (λ x. Beside x.1 (λ u. step moments.After op at x.0 ≡ Ok u)) t
    IsTyped (prefix op at e) a t = Joint (IsTyped e a) (λ x. Beside x.1 (λ u. prefix_of op at x.0 ≡ Ok u)) t
    IsTyped (sizeof_exp at e) a t = (is_function names signatures scope e ≡ false)
        × Joint (IsTyped e a) (λ x. Beside x.1 (λ u. sizeof_of at x.0 ≡ Ok u)) t
    IsTyped (sizeof_type at o of) a t = Beside a (λ u. sizeof_type_of at (written of.spec of.stars) ≡ Ok u) t
    IsTyped (cast o to e) a t = Joint (IsTyped e a) (λ x. Beside x.1 (λ u. cast_of o (written to.spec to.stars) x.0 ≡ Ok u)) t
    IsTyped (binary l op at r) a t = Joint (IsTyped l a) (λ x. Joint (IsTyped r x.1) (λ y. Beside y.1 (IsBinary op x.0 y.0))) t
    IsTyped (choice c at e d) a t = Joint (IsTyped c a) (λ z. Joint (IsTyped e z.1)
        (λ x. Joint (IsTyped d x.1) (λ y. Beside y.1 (λ u. choice_of at z.0 x.0 y.0 ≡ Ok u)))) t
    IsTyped (assign p op at v) a t = Joint (IsTyped p a) (λ x. Joint (IsTyped v x.1)
        (λ y. Beside y.1 (λ u. assign_of op at x.0 y.0 ≡ Ok u))) t
    IsTyped (comma l r) a t = Joint (IsTyped l a) (λ x. Joint (IsTyped r x.1) (λ y u. u ≡ (comma_of x.0 y.0, y.1))) t

    pub AreTyped : SomeExps → Area → SomeExpressions × Area → Type 0
    AreTyped no_exps a ts = ts ≡ (NoExpressions, a)
    AreTyped (exps e es) a ts = Joint (IsTyped e a) (λ x. Joint (AreTyped es x.1) (λ xs u. u ≡ (MoreExpressions x.0 xs.0, xs.1))) ts

  abbrev mutual
    pub FirstFault : AnExp → Area → Fault → Type 0
    FirstFault (name n at) a f = NamedFault at n f
    FirstFault (number v at) a f = ⊥
    FirstFault (str b at) a f = literal at b a ≡ Err f
    FirstFault (paren o e) a f = FirstFault e a f
    FirstFault (call n at o es) a f = FirstOf (λ c. callee names signatures scope at n ≡ Ok c)
        (λ g. callee names signatures scope at n ≡ Err g) (λ c. FirstOf (AreTyped es a) (FirstFaultOf es a)
        (λ xs g. called signatures c o es xs.0 ≡ Err g)) f
    FirstFault (index e o i) a f = FirstOf (IsTyped e a) (FirstFault e a)
        (λ x. FirstOf (IsTyped i x.1) (FirstFault i x.1) (λ y g. index_of o x.0 y.0 ≡ Err g)) f
    FirstFault (step_after e op at) a f = FirstOf (IsTyped e a) (FirstFault e a) (λ x g. step moments.Before op at x.0 ≡ Err g) f
    FirstFault (step_before op at e) a f = FirstOf (IsTyped e a) (FirstFault e a) (λ x g. step moments.After op at x.0 ≡ Err g) f
    FirstFault (prefix op at e) a f = FirstOf (IsTyped e a) (FirstFault e a) (λ x g. prefix_of op at x.0 ≡ Err g) f
    FirstFault (sizeof_exp at e) a f = Unless (is_function names signatures scope e) at BadType
        (FirstOf (IsTyped e a) (FirstFault e a) (λ x g. sizeof_of at x.0 ≡ Err g)) f
    FirstFault (sizeof_type at o of) a f = sizeof_type_of at (written of.spec of.stars) ≡ Err f
    FirstFault (cast o to e) a f = FirstOf (IsTyped e a) (FirstFault e a) (λ x g. cast_of o (written to.spec to.stars) x.0 ≡ Err g) f
    FirstFault (binary l op at r) a f = FirstOf (IsTyped l a) (FirstFault l a)
        (λ x. FirstOf (IsTyped r x.1) (FirstFault r x.1) (λ y. NoRow (IsBinary op x.0 y.0) at BadType)) f
    FirstFault (choice c at e d) a f = FirstOf (IsTyped c a) (FirstFault c a)
        (λ z. FirstOf (IsTyped e z.1) (FirstFault e z.1) (λ x. FirstOf (IsTyped d x.1) (FirstFault d x.1)
        (λ y g. choice_of at z.0 x.0 y.0 ≡ Err g))) f
    FirstFault (assign p op at v) a f = FirstOf (IsTyped p a) (FirstFault p a)
        (λ x. FirstOf (IsTyped v x.1) (FirstFault v x.1) (λ y g. assign_of op at x.0 y.0 ≡ Err g)) f
    FirstFault (comma l r) a f = FirstOf (IsTyped l a) (FirstFault l a) (λ x. FirstOf (IsTyped r x.1) (FirstFault r x.1) (λ y g. ⊥)) f

    pub FirstFaultOf : SomeExps → Area → Fault → Type 0
    FirstFaultOf no_exps a f = ⊥
    FirstFaultOf (exps e es) a f = FirstOf (IsTyped e a) (FirstFault e a)
        (λ x. FirstOf (AreTyped es x.1) (FirstFaultOf es x.1) (λ xs g. ⊥)) f
