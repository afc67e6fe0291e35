use Rattle.sel_parse.proofs.Telling.{unlike_none, unlike_some}
use Rattle.sel_parse.proofs.showing.unlike.Goals as goal

pub returns-then-branch : goal.returns-then-branch
returns-then-branch c =
    unlike_none c.args.rule _ _ _ _ c.in_ok-same_effect.field-0 c.in_ok-wanted.ensures c.in_ok-found.ensures c.in_ok-same_effect.ensures c.if-branch.true

pub returns : goal.returns
returns c =
    unlike_some c.args.rule _ _ _ _ c.in_ok-same_effect.field-0 c.in_ok-wanted.ensures c.in_ok-found.ensures c.in_ok-same_effect.ensures c.if-branch.false
