use Rattle.std.proofs.Common.{◌≡◌, ◌≤◌, drop}
use Rattle.md_reader_text.specs.Numbers.{number_from}
use Rattle.md_reader_text.proofs.numbers.number_from.Given as goal

abbrev pub invariant-loop-byte : goal.invariant-loop-byte
invariant-loop-byte l = (number_from l.most l.value (drop l.byte-index l.digits) ≡ number_from l.most 0 l.digits) × (l.value ≤ l.most)
