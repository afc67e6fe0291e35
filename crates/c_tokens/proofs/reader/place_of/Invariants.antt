use Rattle.std.proofs.Common.{◌≡◌, ◌≤◌, ◌+◌, drop, take}
use Rattle.c_tokens.specs.Places.{line_from, column_from}
use Rattle.c_tokens.proofs.reader.place_of.Given as goal

abbrev pub invariant-loop-byte : goal.invariant-loop-byte
invariant-loop-byte l = record {
  line_is : line_from l.line (drop l.byte-index (take l.fn.offset l.fn.bytes)) ≡ line_from 1 (take l.fn.offset l.fn.bytes);
  column_is : column_from l.column (drop l.byte-index (take l.fn.offset l.fn.bytes))
      ≡ column_from 1 (take l.fn.offset l.fn.bytes);
  line_small : l.line ≤ l.byte-index + 1;
  column_small : l.column ≤ l.byte-index + 1;
}
