-- The arguments of a call are smaller than the call.
use Rattle.std.proofs.Common.{◌≡◌, ◌<◌, ◌+◌, ◌*◌, List, arith, ap}
use Rattle.std.specs.Global.{Vec}
use Rattle.c_types.specs.declared.types.CType.{CType}
use Rattle.c_types.specs.declared.typed.Callee.{Callee}
use Rattle.c_types.specs.declared.typed.Expression.{Expression}
use Rattle.c_types.specs.declared.typed.Expression.TheVariants as expression
use Rattle.c_types.specs.Typed.{expression_of, expressions_of}
use Rattle.c_types.proofs.Rows.{call_is}
use Rattle.c_lower_parts.specs.Sizes.{size, all_size}

pub call_falls : (e : Expression) (t : CType) (f : Callee) (to : List CType) (xs : Vec Expression) (list : List Expression) → e ≡ expression.Call t f to xs → list ≡ xs.items
    → 4 * all_size (expressions_of list) < 4 * size (expression_of e)
call_falls e t f to xs list is same =
    let one : size (expression_of e) ≡ 1 + all_size (expressions_of list) = ap size (call_is e t f to xs list is same) in
    omega arith
