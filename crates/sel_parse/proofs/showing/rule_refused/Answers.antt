use Rattle.std.proofs.Common.{◌∙◌}
use Rattle.sel_parse.proofs.Telling.{compared_told}
use Rattle.sel_parse.proofs.showing.rule_refused.Goals as goal

pub returns-in_ok-wanted-in-Ok : goal.returns-in_ok-wanted-in-Ok
returns-in_ok-wanted-in-Ok g c =
    compared_told c.args.number _ _ _ _ _ _ c.unlike.result c.unlike.ensures (c.deref.ensures.value ∙ c.in_ok-facts-in-Ok.ensures.said)
    c.in_ok-wanted-in-Ok.ensures.read c.in-Ok.ensures.found
