use Rattle.std.proofs.Common.{◌≡◌, ◌<◌, ◌^◌, take}
use Rattle.tree_core.specs.Hashes.{hash_of}
use Rattle.tree_core.proofs.names.hash_of.Given as goal

abbrev pub invariant-loop-byte : goal.invariant-loop-byte
invariant-loop-byte l = record {
  small : l.hash < 2 ^ 32;
  so : l.hash ≡ hash_of (take l.byte-index l.name);
}
