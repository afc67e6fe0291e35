-- The plain phrase of a tree.
use Rattle.std.specs.Prelude.{List, [], ◌∷◌}
use Rattle.c_phrases.specs.declared.tree.Expr.{Expr, Row_of-Expr, end_of-Expr, more_of-Expr}
use Rattle.c_phrases.specs.declared.tree.Expr.TheVariants as exprs
use Rattle.c_phrases.specs.Phrases.{AnExp, name, number, str, paren, call, index, step_after, step_before, prefix}
use Rattle.c_phrases.specs.Phrases.{sizeof_exp, sizeof_type, cast, binary, choice, assign, comma, SomeExps, no_exps}
use Rattle.c_phrases.specs.Phrases.{exps}

abbrev mutual
  pub exp : Expr → AnExp
  exp (exprs.Name n at) = name n at
  exp (exprs.Number v at) = number v at
  exp (exprs.Str b at) = str b at
  exp (exprs.Paren' o p e) = paren o (exp e)
  exp (exprs.Call' n at o shape row) = call n at o (exps_row row)
  exp (exprs.Index' p e o q i) = index (exp e) o (exp i)
  exp (exprs.StepAfter' p e op at) = step_after (exp e) op at
  exp (exprs.StepBefore' op at p e) = step_before op at (exp e)
  exp (exprs.Prefix' op at p e) = prefix op at (exp e)
  exp (exprs.SizeofExpr' at p e) = sizeof_exp at (exp e)
  exp (exprs.SizeofType at o t) = sizeof_type at o t
  exp (exprs.Cast' o t p e) = cast o t (exp e)
  exp (exprs.Binary' p l op at q r) = binary (exp l) op at (exp r)
  exp (exprs.Choice' p c at q e r d) = choice (exp c) at (exp e) (exp d)
  exp (exprs.Assign' p l op at q v) = assign (exp l) op at (exp v)
  exp (exprs.Comma' p l q r) = comma (exp l) (exp r)

  pub exps_row : {m : _} → Row_of-Expr m → SomeExps
  exps_row end_of-Expr = no_exps
  exps_row (more_of-Expr e rest) = exps (exp e) (exps_row rest)

abbrev pub exp_list : List Expr → SomeExps
exp_list [] = no_exps
exp_list (e ∷ es) = exps (exp e) (exp_list es)
