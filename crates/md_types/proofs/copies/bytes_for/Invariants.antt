use Rattle.std.proofs.Common.{◌≡◌, take}
use Rattle.std.specs.List.{flat_map}
use Rattle.md_types.specs.Copies.{byte_for}
use Rattle.md_types.proofs.copies.bytes_for.Given as goal

abbrev pub invariant-loop-byte : goal.invariant-loop-byte
invariant-loop-byte l = l.bytes.items ≡ flat_map (byte_for l.size) (take l.byte-index l.line)
