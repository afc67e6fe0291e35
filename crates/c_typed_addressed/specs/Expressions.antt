-- Where an expression applies `&` to a name. Whether it is evaluated doesn't matter.
use Rattle.std.specs.Prelude.{ℕ, List, Option, Some, None}
use Rattle.c_phrases.specs.declared.operator.PrefixOperator.{PrefixOperator}
use Rattle.c_phrases.specs.declared.operator.PrefixOperator.TheVariants as prefixes
use Rattle.c_phrases.specs.Phrases.{AnExp, name, number, str, paren, call, index, step_after, step_before, prefix}
use Rattle.c_phrases.specs.Phrases.{sizeof_exp, sizeof_type, cast, binary, choice, assign, comma, SomeExps, no_exps}
use Rattle.c_phrases.specs.Phrases.{exps}
use Rattle.c_typed_scope.specs.Scopes.{Scope, lookup}
use Rattle.c_typed_addressed.specs.Marks.{Marks, marked}

-- the name that an expression is, also in parentheses
unfoldable pub name_of : AnExp → Option (List ℕ)
name_of (name n at) = Some n
name_of (paren o e) = name_of e
name_of _ = None

abbrev pub marked_name : Scope → Option (List ℕ) → Marks → Marks
marked_name scope None m = m
marked_name scope (Some n) m = marked (lookup scope n) m

-- an operator in front of its operand
abbrev pub applied : Scope → PrefixOperator → AnExp → Marks → Marks
applied scope prefixes.Address e m = marked_name scope (name_of e) m
applied scope _ e m = m

module _ (scope : Scope) where
  abbrev mutual
    pub marks_of : AnExp → Marks → Marks
    marks_of (name n at) m = m
    marks_of (number v at) m = m
    marks_of (str b at) m = m
    marks_of (paren o e) m = marks_of e m
    marks_of (call n at o es) m = marks_of_all es m
    marks_of (index e o i) m = marks_of i (marks_of e m)
    marks_of (step_after e op at) m = marks_of e m
    marks_of (step_before op at e) m = marks_of e m
    marks_of (prefix op at e) m = applied scope op e (marks_of e m)
    marks_of (sizeof_exp at e) m = marks_of e m
    marks_of (sizeof_type at o t) m = m
    marks_of (cast o t e) m = marks_of e m
    marks_of (binary l op at r) m = marks_of r (marks_of l m)
    marks_of (choice c at e d) m = marks_of d (marks_of e (marks_of c m))
    marks_of (assign p op at v) m = marks_of v (marks_of p m)
    marks_of (comma l r) m = marks_of r (marks_of l m)

    pub marks_of_all : SomeExps → Marks → Marks
    marks_of_all no_exps m = m
    marks_of_all (exps e es) m = marks_of_all es (marks_of e m)

  abbrev pub marks_of_part : Option AnExp → Marks → Marks
  marks_of_part None m = m
  marks_of_part (Some e) m = marks_of e m
