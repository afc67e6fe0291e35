-- The arguments of a call as code holds them, one after another.
use Rattle.std.proofs.Common.{◌≡◌, ℕ, ◌+◌, ◌<◌, ◌≤◌, List, length, drop, get_or, refl, ap, sym, ◌∙◌}
use Rattle.std.proofs.lemmas.List.{drop_more, drop_all}
use Rattle.std.specs.Global.{Vec}
use Rattle.c_phrases.specs.declared.tree.Expr.{Expr}
use Rattle.c_phrases.specs.declared.tree.Expr.TheVariants as exprs
use Rattle.c_phrases.specs.Shapes.{exp, exp_list}
use Rattle.c_typed_scope.specs.Scopes.{Scope}
use Rattle.c_typed_expressions.proofs.Rows.{call_is}
use Rattle.c_typed_addressed.specs.Marks.{Marks}
use Rattle.c_typed_addressed.specs.Expressions.{marks_of, marks_of_all}

module _ (scope : Scope) where
  pub in_call : (e : Expr) (n : List ℕ) (at opened : ℕ) (es : Vec Expr) (list : List Expr) (m r : Marks) → e ≡ exprs.Call n at opened es → list ≡ es.items
      → r ≡ marks_of_all scope (exp_list list) m → r ≡ marks_of scope (exp e) m
  in_call e n at opened es list m r is same found = found ∙ sym (ap (λ x. marks_of scope x m) (call_is e n at opened es list is same))

  pub argument_step : (es : List Expr) (i : ℕ) (e d : Expr) (m n : Marks) → i < length es → e ≡ get_or es i d → n ≡ marks_of scope (exp e) m
      → marks_of_all scope (exp_list (drop (i + 1) es)) n ≡ marks_of_all scope (exp_list (drop i es)) m
  argument_step es i e d m n lt at found = rw (drop_more es i d lt, ← at, found) refl

  pub arguments_end : (es : List Expr) (i : ℕ) (m : Marks) → length es ≤ i → marks_of_all scope (exp_list (drop i es)) m ≡ m
  arguments_end es i m le = rw (drop_all i es le) refl
