use Rattle.std.proofs.Common.{refl}
use Rattle.c_typed_scope.proofs.Written.{low_first}
use Rattle.c_typed_scope.proofs.contents.Contents.put_number.Goals as goal

pub returns : goal.returns
returns c = rw (c.in_ok-extend_from_slice.ensures.items, c.to_le_bytes.ensures, low_first c.args.size c.args.value c.requires) refl
