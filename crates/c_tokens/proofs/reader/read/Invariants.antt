use Rattle.std.proofs.Common.{◌≡◌, ◌+◌, length}
use Rattle.c_tokens.specs.Reading.{in_front, read_from, read}
use Rattle.c_tokens.proofs.reader.read.Given as goal

abbrev pub invariant-loop-rest : goal.invariant-loop-rest
invariant-loop-rest l = record { is : in_front l.found.items (read_from 0 l.at l.rest) ≡ read l.fn.bytes; whole : l.at + length l.rest ≡ length l.fn.bytes }

abbrev pub decreases-loop-rest : goal.decreases-loop-rest
decreases-loop-rest l = length l.rest
