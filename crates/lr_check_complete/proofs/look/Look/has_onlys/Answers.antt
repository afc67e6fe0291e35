use Rattle.lr_check_complete.specs.Looks.{automaton}
use Rattle.lr_check_complete.proofs.Showing.{only_shown}
use Rattle.lr_check_complete.proofs.look.Look.has_onlys.Goals as goal

pub returns : goal.returns
returns c = λ u n m x there. only_shown (automaton c.args.self.now) c.args.self.now.found.now c.args.sheet.now c.requires.found c.requires.sheet
    c.in-Some-row.row.now _ c.args.over _ c.args.wanted c.in-Some-row.ensures
    (λ t may. let h = c.has_onlys_from.ensures u t (c.tokens.ensures t) in h.kid may) n x there
    ((c.all_stand.ensures c.if-not-all_stand.false n m).each x there)
