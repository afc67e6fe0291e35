use Rattle.std.proofs.Common.{arith, sym}
use Rattle.c_typed_scope.proofs.Written.{held, contents_beyond}
use Rattle.c_typed_scope.proofs.contents.hold.Goals as goal

pub returns-then-number-len : goal.returns-then-number-len
returns-then-number-len c = held c.args.number _ c.args.objects.now.items c.index_mut-object.result.now c.from_vec.result c.from_vec-then-number-len.result (omega arith)
    c.index_mut-object.ensures.value c.from_vec.ensures c.from_vec-then-number-len.ensures

pub returns-else-number-len : goal.returns-else-number-len
returns-else-number-len c = sym (contents_beyond c.args.number _ c.args.objects.now.items (omega arith))
