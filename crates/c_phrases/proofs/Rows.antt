-- The rows behind a call and a block are their lists.
use Rattle.std.proofs.Common.{◌≡◌, refl, ap, ℕ, List, ◌∙◌}
use Rattle.c_phrases.specs.declared.tree.Expr.{Row_of-Expr, end_of-Expr, more_of-Expr, items-the_row-Expr, Expr}
use Rattle.c_phrases.specs.declared.tree.Statement.{Row_of-Item, end_of-Item, more_of-Item, items-the_row-Item}
use Rattle.c_phrases.specs.Phrases.{exps, call}
use Rattle.c_phrases.specs.Shapes.{exp, exps_row, exp_list}
use Rattle.c_phrases.specs.UnitShapes.{item_onto, items_row, items_of}
use Rattle.std.specs.Global.{Vec}
use Rattle.c_phrases.specs.declared.tree.Expr.TheBlock.{hidden-the_row-Expr-0, items_hidden-the_row-Expr-0}
use Rattle.c_phrases.specs.declared.tree.Expr.TheVariants as exprs

pub exps_row_is : (c : _) (row : Row_of-Expr c) → exps_row row ≡ exp_list (items-the_row-Expr c row)
exps_row_is c end_of-Expr = refl
exps_row_is c (more_of-Expr e rest) = ap (exps (exp e)) (exps_row_is _ rest)

pub items_row_is : (c : _) (row : Row_of-Item c) → items_row row ≡ items_of (items-the_row-Item c row)
items_row_is c end_of-Item = refl
items_row_is c (more_of-Item i rest) = ap (item_onto i) (items_row_is _ rest)

pub exp_call : (n : List ℕ) (at opened : ℕ) (es : Vec Expr) → exp (exprs.Call n at opened es) ≡ call n at opened (exp_list es.items)
exp_call n at opened es = ap (call n at opened) (exps_row_is _ (hidden-the_row-Expr-0 es) ∙ ap exp_list (items_hidden-the_row-Expr-0 es))
