use Rattle.std.proofs.Common.{◌∙◌}
use Rattle.cmd_session.proofs.Runs.{gave, wrote, has_more}
use Rattle.cmd_session.proofs.running.write_run.Goals as goal

pub returns-in_err-write_all-in-Ok-Wrote-clause-front : goal.returns-in_err-write_all-in-Ok-Wrote-clause-front
returns-in_err-write_all-in-Ok-Wrote-clause-front g c =
    has_more _ _ _ _ _ _ _ _ _ _ (c.as_slice.ensures.value ∙ c.in_ok-push-in-Ok-Wrote.ensures.items) c.in_err-write_all-in-Ok-Wrote.ensures.front
    (gave _ _ _ _ _ _ _ (rw c.in-Ok-Wrote.field-0-is at c.in-Ok-Wrote.ensures.passes) c.loop-byte.invariant.stands)

pub loop-byte-preserved-then-len-ge-PIECE : goal.loop-byte-preserved-then-len-ge-PIECE
loop-byte-preserved-then-len-ge-PIECE g c = record {
  stands =
      wrote _ _ _ _ _ _ _ _ (c.as_slice.ensures.value ∙ c.in_ok-push-in-Ok-Wrote.ensures.items) c.clear.ensures.items c.in_ok-write_all-in-Ok-Wrote.ensures.all
      (gave _ _ _ _ _ _ _ (rw c.in-Ok-Wrote.field-0-is at c.in-Ok-Wrote.ensures.passes) c.loop-byte.invariant.stands);
  quiet = c.in_ok-write_all-in-Ok-Wrote.ensures.counts ∙ c.loop-byte.invariant.quiet;
}

pub returns-in_err-write_all-in-Ok-Over-clause-front : goal.returns-in_err-write_all-in-Ok-Over-clause-front
returns-in_err-write_all-in-Ok-Over-clause-front g c =
    has_more _ _ _ _ _ _ _ _ _ _ c.as_slice-in-Ok-Over.ensures.value c.in_err-write_all-in-Ok-Over.ensures.front c.loop-byte.invariant.stands

pub returns-in-Ok-Over-clause-front : goal.returns-in-Ok-Over-clause-front
returns-in-Ok-Over-clause-front g c =
    has_more _ _ _ _ _ _ _ _ _ _ c.as_slice-in-Ok-Over.ensures.value c.in_ok-write_all-in-Ok-Over.ensures.front c.loop-byte.invariant.stands
