use Rattle.std.proofs.Common.{sym, ◌∙◌}
use Rattle.std.proofs.lemmas.Option.{same_Some}
use Rattle.lr_check_drawn.proofs.Asks.{turn_asked}
use Rattle.lr_check_drawn.proofs.turning.turn.Goals as goal

pub returns-in-Some : goal.returns-in-Some
returns-in-Some c = λ p go. turn_asked c.push_taken.result c.args.tables.now c.args.asked.now c.push_taken.new.self p c.in-Some.state c.args.to c.args.place.now.behind
    c.rules-rules.result.now c.action.result.now c.description.result.now c.description.ensures c.rules-rules.ensures c.action.ensures.value
    (same_Some c.in-Some.state p (sym c.in-Some.is ∙ (c.over.ensures ∙ go))) c.push_taken.ensures
