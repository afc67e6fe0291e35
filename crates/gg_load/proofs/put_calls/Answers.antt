use Rattle.std.proofs.Common.{◌≡◌, ◌++◌, arith}
use Rattle.std.proofs.lemmas.Grind.{common_steps}
use Rattle.gg_load.specs.Source.{up_to, call_line}
use Rattle.gg_load.proofs.Lines.{up_to-zero, up_to-next}
use Rattle.gg_load.proofs.put_calls.Goals as goal

pub loop-number-init : goal.loop-number-init
loop-number-init c = grind (arith, common_steps, up_to-zero call_line)

pub loop-number-preserved : goal.loop-number-preserved
loop-number-preserved c = grind (arith, common_steps, up_to-next call_line c.loop-number.number)
