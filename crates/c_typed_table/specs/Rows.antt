-- Which expression is typed as which, and which fault is the first: each construct by its row.
use Rattle.std.specs.Prelude.{◌≡◌, ℕ, false, List}
use Rattle.c_types.specs.declared.typed.Moment.TheVariants as moments
use Rattle.c_types.specs.declared.fault.TypeKind.TheVariants.{BadType}
use Rattle.c_types.specs.Answers.{Fault}
use Rattle.c_types.specs.Typed.{AnExpression, SomeExpressions, NoExpressions, MoreExpressions, Constant, CommaOf, type_of}
use Rattle.c_typed_operators.specs.Table.{IsBinary, NoRow}
use Rattle.c_typed_rows.specs.Operands.{IsChoice, IsCast, IsSize, IsSizeOfType}
use Rattle.c_typed_rows.specs.Prefixes.{IsPrefix, PrefixFault, IsIndex, IsStep}
use Rattle.c_typed_rows.specs.Stores.{IsAssign}
use Rattle.c_typed_scope.specs.declared.entry.Entry.{Entry}
use Rattle.c_typed_scope.specs.declared.entry.Signature.{Signature}
use Rattle.c_typed_scope.specs.Scopes.{Scope}
use Rattle.c_typed_scope.specs.Layout.{Area}
use Rattle.c_phrases.specs.Phrases.{AnExp, name, number, str, paren, call, index, step_after, step_before, prefix}
use Rattle.c_phrases.specs.Phrases.{sizeof_exp, sizeof_type, cast, binary, choice, assign, comma, SomeExps, no_exps}
use Rattle.c_phrases.specs.Phrases.{exps}
use Rattle.c_typed_expressions.specs.Expressions.{written, is_function}
use Rattle.c_typed_expressions.specs.Relations.{Joint, FirstOf, Beside, Unless, IsNamed, NamedFault}
use Rattle.c_typed_table.specs.Strings.{IsLiteral, LiteralFault}
use Rattle.c_typed_table.specs.Calls.{IsCallee, CalleeFault, IsCall, CallFault}

-- names of the functions that are defined in the text, and their signatures
module _ (names : List (List ℕ × Entry)) (signatures : List Signature) (scope : Scope) where
  abbrev mutual
    pub HasType : AnExp → Area → AnExpression × Area → Type 0
    HasType (name n at) a t = Beside a (IsNamed names signatures scope n) t
    HasType (number v at) a t = t ≡ (Constant v, a)
    HasType (str b at) a t = IsLiteral b a t
    HasType (paren o e) a t = HasType e a t
    HasType (call n at o es) a t =
        Joint (IsCallee names scope n) (λ c. Joint (HaveTypes es a) (λ xs. Beside xs.1 (IsCall signatures c es xs.0))) t
    HasType (index e o i) a t = Joint (HasType e a) (λ x. Joint (HasType i x.1) (λ y. Beside y.1 (IsIndex x.0 y.0))) t
    HasType (step_after e op at) a t = Joint (HasType e a) (λ x. Beside x.1 (IsStep moments.Before op x.0)) t
    HasType (step_before op at e) a t = Joint (HasType e a) (λ x. Beside x.1 (IsStep moments.After op x.0)) t
    HasType (prefix op at e) a t = Joint (HasType e a) (λ x. Beside x.1 (IsPrefix op x.0)) t
    HasType (sizeof_exp at e) a t = (is_function names signatures scope e ≡ false) × Joint (HasType e a) (λ x. Beside x.1 (IsSize x.0)) t
    HasType (sizeof_type at o of) a t = Beside a (IsSizeOfType (written of.spec of.stars)) t
    HasType (cast o to e) a t = Joint (HasType e a) (λ x. Beside x.1 (IsCast (written to.spec to.stars) x.0)) t
    HasType (binary l op at r) a t = Joint (HasType l a) (λ x. Joint (HasType r x.1) (λ y. Beside y.1 (IsBinary op x.0 y.0))) t
    HasType (choice c at e d) a t =
        Joint (HasType c a) (λ z. Joint (HasType e z.1) (λ x. Joint (HasType d x.1) (λ y. Beside y.1 (IsChoice z.0 x.0 y.0)))) t
    HasType (assign p op at v) a t = Joint (HasType p a) (λ x. Joint (HasType v x.1) (λ y. Beside y.1 (IsAssign op x.0 y.0))) t
    HasType (comma l r) a t = Joint (HasType l a) (λ x. Joint (HasType r x.1) (λ y u. u ≡ (CommaOf (type_of y.0) x.0 y.0, y.1))) t

    pub HaveTypes : SomeExps → Area → SomeExpressions × Area → Type 0
    HaveTypes no_exps a ts = ts ≡ (NoExpressions, a)
    HaveTypes (exps e es) a ts = Joint (HasType e a) (λ x. Joint (HaveTypes es x.1) (λ xs u. u ≡ (MoreExpressions x.0 xs.0, xs.1))) ts

  abbrev mutual
    pub HasFault : AnExp → Area → Fault → Type 0
    HasFault (name n at) a f = NamedFault names signatures scope at n f
    HasFault (number v at) a f = ⊥
    HasFault (str b at) a f = LiteralFault at b a f
    HasFault (paren o e) a f = HasFault e a f
    HasFault (call n at o es) a f = FirstOf (IsCallee names scope n) (CalleeFault names scope at n)
        (λ c. FirstOf (HaveTypes es a) (HaveFault es a) (λ xs. CallFault signatures c o es xs.0)) f
    HasFault (index e o i) a f = FirstOf (HasType e a) (HasFault e a)
        (λ x. FirstOf (HasType i x.1) (HasFault i x.1) (λ y. NoRow (IsIndex x.0 y.0) o BadType)) f
    HasFault (step_after e op at) a f = FirstOf (HasType e a) (HasFault e a) (λ x. NoRow (IsStep moments.Before op x.0) at BadType) f
    HasFault (step_before op at e) a f = FirstOf (HasType e a) (HasFault e a) (λ x. NoRow (IsStep moments.After op x.0) at BadType) f
    HasFault (prefix op at e) a f = FirstOf (HasType e a) (HasFault e a) (λ x. PrefixFault op at x.0) f
    HasFault (sizeof_exp at e) a f = Unless (is_function names signatures scope e) at BadType
        (FirstOf (HasType e a) (HasFault e a) (λ x. NoRow (IsSize x.0) at BadType)) f
    HasFault (sizeof_type at o of) a f = NoRow (IsSizeOfType (written of.spec of.stars)) at BadType f
    HasFault (cast o to e) a f = FirstOf (HasType e a) (HasFault e a) (λ x. NoRow (IsCast (written to.spec to.stars) x.0) o BadType) f
    HasFault (binary l op at r) a f = FirstOf (HasType l a) (HasFault l a)
        (λ x. FirstOf (HasType r x.1) (HasFault r x.1) (λ y. NoRow (IsBinary op x.0 y.0) at BadType)) f
    HasFault (choice c at e d) a f = FirstOf (HasType c a) (HasFault c a)
        (λ z. FirstOf (HasType e z.1) (HasFault e z.1) (λ x. FirstOf (HasType d x.1) (HasFault d x.1)
        (λ y. NoRow (IsChoice z.0 x.0 y.0) at BadType))) f
    HasFault (assign p op at v) a f = FirstOf (HasType p a) (HasFault p a)
        (λ x. FirstOf (HasType v x.1) (HasFault v x.1) (λ y. NoRow (IsAssign op x.0 y.0) at BadType)) f
    HasFault (comma l r) a f = FirstOf (HasType l a) (HasFault l a) (λ x. FirstOf (HasType r x.1) (HasFault r x.1) (λ y g. ⊥)) f

    pub HaveFault : SomeExps → Area → Fault → Type 0
    HaveFault no_exps a f = ⊥
    HaveFault (exps e es) a f = FirstOf (HasType e a) (HasFault e a) (λ x. FirstOf (HaveTypes es x.1) (HaveFault es x.1) (λ xs g. ⊥)) f
