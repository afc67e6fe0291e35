use Rattle.lr_check_complete.specs.Looks.{automaton}
use Rattle.lr_check_complete.proofs.Showing.{second_shown}
use Rattle.lr_check_complete.proofs.look.Look.has_seconds.Goals as goal

pub returns-in-Some-row-2 : goal.returns-in-Some-row-2
returns-in-Some-row-2 c = λ u e at behind n m x there. second_shown (automaton c.args.self.now) c.args.self.now.found.now c.args.sheet.now c.requires.found c.requires.sheet
    c.in-Some-row.row.now c.in-Some-row-2.kid.now _ c.args.behind c.args.first _ c.args.token c.in-Some-row.ensures c.in-Some-row-2.ensures
    (c.has_seconds_at.ensures.within u) (c.has_seconds_at.ensures.joined u) n x e at behind there ((c.has_seconds_at.ensures.stand u n m).each x there)
