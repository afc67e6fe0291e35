use Rattle.std.proofs.Common.{arith, ◌≤◌}
use Rattle.c_types.specs.Types.{size_of}
use Rattle.c_typed_objects.proofs.Limits.{scalar_some}
use Rattle.c_typed_objects.proofs.objects.counted_array.Goals as goal

pub lay_variable-requires : goal.lay_variable-requires
lay_variable-requires c =
    let some : 1 ≤ size_of c.args.of = scalar_some c.args.of c.requires.scalar in
    (omega (arith, c.size-2.ensures.size), omega (arith, c.size-2.ensures.small))
