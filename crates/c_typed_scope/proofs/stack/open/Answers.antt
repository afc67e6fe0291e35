use Rattle.std.proofs.Common.{refl, rules}
use Rattle.c_typed_scope.specs.Views.{area, filled_so_far}
use Rattle.c_typed_scope.proofs.Opening.{opened_by}
use Rattle.c_typed_scope.proofs.stack.open.Goals as goal

pub returns : goal.returns
returns c =
    opened_by c.fill-2.result (area c.args.layout.now) (area c.fill.new.layout) (area c.fill-2.new.layout) (filled_so_far c.put_link.new.self) (filled_so_far c.new.result)
    c.deref.result.now c.args.pointer c.args.stack 262144 c.deref.ensures.value refl (search rules) c.in_ok-fill.ensures c.new.ensures c.fill-2.ensures
