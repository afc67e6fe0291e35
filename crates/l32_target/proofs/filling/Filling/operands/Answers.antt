use Rattle.std.proofs.Common.{◌∙◌, map, ap}
use Rattle.std.proofs.lemmas.Iterator.{YieldsList-from_slice, YieldsList-from_take}
use Rattle.std.proofs.lemmas.Iterator.Consumers.{YieldsList-end}
use Rattle.l32_templates.specs.Filled.{filled}
use Rattle.l32_target.proofs.filling.Filling.operands.Goals as goal

pub returns : goal.returns
returns c =
    let filling = c.args.self in
    let three = YieldsList-from_take 3 (YieldsList-from_slice c.args.forms.now cc) cc in
    let all = YieldsList-end three c.loop-form.yielded _ c.loop-form.yielded_by _ _ c.in-None.is c.next.ensures.steps in
    c.loop-form.invariant ∙ ap (map (filled filling.program.now filling.holes.now filling.zero.now)) all.0
