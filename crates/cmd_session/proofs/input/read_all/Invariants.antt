use Rattle.std.proofs.Common.{◌≡◌, ◌≤◌, ◌+◌, ◌-◌, vec_len}
use Rattle.cmd_session.specs.Reading.{Loses}
use Rattle.cmd_session.proofs.input.read_all.Given as goal

-- what was taken so far is within the limit
abbrev pub invariant-loop-bytes : goal.invariant-loop-bytes
invariant-loop-bytes g l = record {
  room : vec_len l.piece ≡ 65536;
  within : vec_len l.bytes ≤ l.limit;
  unbroken : g.I.Source.faults l.input ≡ g.I.Source.faults l.initial.input;
  took : Loses (g.I.Source.left l.initial.input) (g.I.Source.left l.input) l.bytes.items;
}

abbrev pub decreases-loop-bytes : goal.decreases-loop-bytes
decreases-loop-bytes g l = l.limit + 1 - vec_len l.bytes
