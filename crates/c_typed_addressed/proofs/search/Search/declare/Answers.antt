use Rattle.c_typed_scope.specs.Views.{scope}
use Rattle.c_typed_addressed.proofs.Names.{copy_is_free}
use Rattle.c_typed_addressed.proofs.search.Search.declare.Goals as goal

pub add-requires : goal.add-requires
add-requires c =
    copy_is_free (scope c.args.self.now.blocks) c.is_taken.result c.as_slice.result.now c.as_slice-2.result.now c.in_ok-name.name.items c.args.name.now c.is_taken.ensures c.if-is_taken.false
    c.as_slice.ensures c.as_slice-2.ensures c.in_ok-name.ensures.items
