use Rattle.cmd_load.specs.Telling.{BothValues}
use Rattle.cmd_load.proofs.sides.tell_ends.Goals as goal

pub returns-in-Ended-Ended : goal.returns-in-Ended-Ended
returns-in-Ended-Ended g c =
    BothValues c.in-Ended-Ended.field-0-0 c.in-Ended-Ended.value c.in-Ended-Ended.is-0 c.in-Ended-Ended.is-1 (rw (c.len.ensures, c.args.sides.now.text.output.ok.0) at c.tell_summary.ensures)
