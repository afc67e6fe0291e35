-- The types of expressions, and the first fault.
use Rattle.std.specs.Prelude.{ℕ, ◌-◌, ◌==◌, Bool, true, false, List, length, Option, Some, None, Result, Ok}
use Rattle.std.specs.Prelude.{if◌then◌else◌}
use Rattle.c_phrases.specs.declared.operator.Spec.{Spec}
use Rattle.c_phrases.specs.declared.operator.Spec.TheVariants as specs
use Rattle.c_types.specs.declared.types.CType.{CType}
use Rattle.c_types.specs.declared.types.CType.TheVariants as types
use Rattle.c_types.specs.declared.types.Integer.{Integer}
use Rattle.c_types.specs.declared.types.Integer.TheVariants as ints
use Rattle.c_types.specs.declared.typed.Moment.TheVariants as moments
use Rattle.c_types.specs.declared.fault.TypeKind.TheVariants.{BadType}
use Rattle.c_types.specs.Answers.{Fault, bad, ◌>>=◌}
use Rattle.c_types.specs.Typed.{AnExpression, SomeExpressions, NoExpressions, MoreExpressions, Constant}
use Rattle.c_typed_operators.specs.Rules.{binary_of}
use Rattle.c_typed_operators.specs.Prefixes.{prefix_of, index_of, step, cast_of, sizeof_of, sizeof_type_of}
use Rattle.c_typed_operators.specs.Choices.{choice_of, comma_of}
use Rattle.c_typed_operators.specs.Stores.{assign_of}
use Rattle.c_typed_scope.specs.declared.entry.Entry.{Entry}
use Rattle.c_typed_scope.specs.declared.entry.Signature.{Signature}
use Rattle.c_phrases.specs.Phrases.{AnExp, name, number, str, paren, call, index, step_after, step_before, prefix}
use Rattle.c_phrases.specs.Phrases.{sizeof_exp, sizeof_type, cast, binary, choice, assign, comma, SomeExps, no_exps}
use Rattle.c_phrases.specs.Phrases.{exps}
use Rattle.c_typed_scope.specs.Scopes.{Scope, find, lookup}
use Rattle.c_typed_scope.specs.Layout.{Area, literal}
use Rattle.c_typed_expressions.specs.Calls.{named_by, is_function_by, callee_by, called}

-- the integer type that the words of a type name; none for void
unfoldable pub integer_of : Spec → Option Integer
integer_of (specs.Int at) = Some ints.Int
integer_of (specs.Char at) = Some ints.Char
integer_of (specs.Short at int) = Some ints.Short
integer_of (specs.UnsignedChar at char) = Some ints.UnsignedChar
integer_of (specs.UnsignedShort at short int) = Some ints.UnsignedShort
integer_of (specs.Void at) = None

abbrev pub under_stars : Option Integer → ℕ → CType
under_stars None n = types.Void
under_stars (Some b) n = if n == 0 then types.Integer b else types.Pointer b (n - 1)

-- the type that words and stars write; void with stars is none, and stands as void
unfoldable pub written : Spec → List ℕ → CType
written spec stars = under_stars (integer_of spec) (length stars)

abbrev pub beside : {A : Type 0} → A → Result AnExpression Fault → Result (AnExpression × A) Fault
beside a m = m >>= λ t. Ok (t, a)

-- sizeof of a function's name is refused
abbrev pub sizeof_unless : Bool → ℕ → Result (AnExpression × Area) Fault → Result (AnExpression × Area) Fault
sizeof_unless true at m = bad at BadType
sizeof_unless false at m = m >>= λ x. beside x.1 (sizeof_of at x.0)

-- names of the functions that are defined in the text, and their signatures
module _ (names : List (List ℕ × Entry)) (signatures : List Signature) (scope : Scope) where
  unfoldable pub named : ℕ → List ℕ → Result AnExpression Fault
  named at n = named_by (lookup scope n) (find names n) at

  unfoldable pub callee : ℕ → List ℕ → Result (Option ℕ) Fault
  callee at n = callee_by (lookup scope n) (find names n) at

  -- a function's name without a call, also in parentheses
  unfoldable pub is_function : AnExp → Bool
  is_function (name n at) = is_function_by (lookup scope n) (find names n)
  is_function (paren o e) = is_function e
  is_function _ = false

  abbrev mutual
    pub type_exp : AnExp → Area → Result (AnExpression × Area) Fault
    type_exp (name n at) a = beside a (named at n)
    type_exp (number v at) a = Ok (Constant v, a)
    type_exp (str b at) a = literal at b a
    type_exp (paren o e) a = type_exp e a
    type_exp (call n at o es) a = callee at n >>= λ f. type_exps es a >>= λ xs. beside xs.1 (called signatures f o es xs.0)
    type_exp (index e o i) a = type_exp e a >>= λ x. type_exp i x.1 >>= λ y. beside y.1 (index_of o x.0 y.0)
    type_exp (step_after e op at) a = type_exp e a >>= λ x. beside x.1 (step moments.Before op at x.0)
    type_exp (step_before op at e) a = type_exp e a >>= λ x. beside x.1 (step moments.After op at x.0)
    type_exp (prefix op at e) a = type_exp e a >>= λ x. beside x.1 (prefix_of op at x.0)
    type_exp (sizeof_exp at e) a = sizeof_unless (is_function e) at (type_exp e a)
    type_exp (sizeof_type at o t) a = beside a (sizeof_type_of at (written t.spec t.stars))
    type_exp (cast o t e) a = type_exp e a >>= λ x. beside x.1 (cast_of o (written t.spec t.stars) x.0)
    type_exp (binary l op at r) a = type_exp l a >>= λ x. type_exp r x.1 >>= λ y. beside y.1 (binary_of op at x.0 y.0)
    type_exp (choice c at e d) a = type_exp c a >>= λ z. type_exp e z.1 >>= λ x. type_exp d x.1 >>= λ y.
        beside y.1 (choice_of at z.0 x.0 y.0)
    type_exp (assign p op at v) a = type_exp p a >>= λ x. type_exp v x.1 >>= λ y. beside y.1 (assign_of op at x.0 y.0)
    type_exp (comma l r) a = type_exp l a >>= λ x. type_exp r x.1 >>= λ y. Ok (comma_of x.0 y.0, y.1)

    pub type_exps : SomeExps → Area → Result (SomeExpressions × Area) Fault
    type_exps no_exps a = Ok (NoExpressions, a)
    type_exps (exps e es) a = type_exp e a >>= λ x. type_exps es x.1 >>= λ xs. Ok (MoreExpressions x.0 xs.0, xs.1)
