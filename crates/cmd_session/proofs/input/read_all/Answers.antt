use Rattle.std.proofs.Common.{arith}
use Rattle.std.proofs.lemmas.Grind.{common_steps}
use Rattle.cmd_session.proofs.Intakes.{loses_more, takes_behind}
use Rattle.cmd_session.proofs.input.read_all.Goals as goal

pub returns-in_err-n-clause-taken : goal.returns-in_err-n-clause-taken
returns-in_err-n-clause-taken g c =
    takes_behind _ _ _ _ _ _ _ _ c.loop-bytes.bytes.items (grind (arith, common_steps)) c.loop-bytes.invariant.took c.in_err-n.ensures.taken

pub returns-then-n-eq0-clause-taken : goal.returns-then-n-eq0-clause-taken
returns-then-n-eq0-clause-taken g c = record {
  taken = c.read_piece.new.bytes.items;
  within = grind (arith, common_steps);
  loses = loses_more _ _ _ _ _ _ c.loop-bytes.invariant.took c.in_ok-n.ensures.moved;
}

pub returns-then-len-limit-clause-taken : goal.returns-then-len-limit-clause-taken
returns-then-len-limit-clause-taken g c = record {
  taken = c.read_piece.new.bytes.items;
  within = grind (arith, common_steps);
  loses = loses_more _ _ _ _ _ _ c.loop-bytes.invariant.took c.in_ok-n.ensures.moved;
}
