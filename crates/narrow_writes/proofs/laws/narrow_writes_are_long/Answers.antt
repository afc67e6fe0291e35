use Rattle.narrow_writes.proofs.Bytes.{narrow_writes_are_long}
use Rattle.narrow_writes.proofs.laws.narrow_writes_are_long.Goals as goal

pub returns : goal.returns
returns c = narrow_writes_are_long
