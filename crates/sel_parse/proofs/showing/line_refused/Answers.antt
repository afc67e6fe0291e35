use Rattle.sel_parse.proofs.Telling.{compared_told}
use Rattle.sel_parse.proofs.showing.line_refused.Goals as goal

pub returns-in-Ok : goal.returns-in-Ok
returns-in-Ok g c =
    compared_told 0 _ _ _ _ _ _ c.unlike.result c.unlike.ensures c.saved_facts.ensures.said c.saved_wanted-wanted.ensures c.in-Ok.ensures.found
