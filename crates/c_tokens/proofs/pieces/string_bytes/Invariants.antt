use Rattle.std.proofs.Common.{◌≡◌, ◌+◌, length}
use Rattle.c_tokens.specs.Pieces.{string_from}
use Rattle.c_tokens.proofs.Strings.{so_far}
use Rattle.c_tokens.proofs.pieces.string_bytes.Given as goal

abbrev pub invariant-loop-rest : goal.invariant-loop-rest
invariant-loop-rest l = record {
  is : so_far l.values.items l.length (string_from l.fn.at (l.fn.at + 1 + l.length) 0 l.rest)
      ≡ string_from l.fn.at (l.fn.at + 1) 0 l.fn.text;
  whole : l.length + length l.rest ≡ length l.fn.text;
}

abbrev pub decreases-loop-rest : goal.decreases-loop-rest
decreases-loop-rest l = length l.rest
