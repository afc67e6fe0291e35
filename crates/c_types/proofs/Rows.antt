-- The list of arguments behind the row of a call.
use Rattle.std.proofs.Common.{◌≡◌, List, refl, ap, sym, ◌∙◌}
use Rattle.std.specs.Global.{Vec}
use Rattle.c_types.specs.declared.types.CType.{CType}
use Rattle.c_types.specs.declared.typed.Callee.{Callee}
use Rattle.c_types.specs.declared.typed.Expression.{Expression, Row_of-Expression, end_of-Expression, more_of-Expression, items-the_row-Expression}
use Rattle.c_types.specs.declared.typed.Expression.TheBlock.{hidden-the_row-Expression-0, items_hidden-the_row-Expression-0}
use Rattle.c_types.specs.declared.typed.Expression.TheVariants as expression
use Rattle.c_types.specs.Typed.{CallOf, MoreExpressions, expression_of, expressions_in, expressions_of}

pub expressions_row : (c : _) (row : Row_of-Expression c) → expressions_in row ≡ expressions_of (items-the_row-Expression c row)
expressions_row c end_of-Expression = refl
expressions_row c (more_of-Expression e rest) = ap (MoreExpressions (expression_of e)) (expressions_row _ rest)

pub call_expression : (t : CType) (f : Callee) (to : List CType) (xs : Vec Expression) → expression_of (expression.Call t f to xs) ≡ CallOf t f to (expressions_of xs.items)
call_expression t f to xs = ap (CallOf t f to) (expressions_row _ (hidden-the_row-Expression-0 xs) ∙ ap expressions_of (items_hidden-the_row-Expression-0 xs))

-- a call and its arguments as code holds them
pub call_is : (e : Expression) (t : CType) (f : Callee) (to : List CType) (xs : Vec Expression) (list : List Expression) → e ≡ expression.Call t f to xs → list ≡ xs.items → expression_of e
    ≡ CallOf t f to (expressions_of list)
call_is e t f to xs list is same = ap expression_of is ∙ call_expression t f to xs ∙ ap (λ l. CallOf t f to (expressions_of l)) (sym same)
