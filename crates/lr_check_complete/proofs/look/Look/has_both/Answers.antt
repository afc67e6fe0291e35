use Rattle.lr_check_complete.specs.Looks.{automaton}
use Rattle.lr_check_complete.proofs.Showing.{both_shown}
use Rattle.lr_check_complete.proofs.look.Look.has_both.Goals as goal

pub returns : goal.returns
returns c = λ u n m x there. both_shown (automaton c.args.self.now) c.args.self.now.found.now c.args.sheet.now c.requires.found c.requires.sheet
    c.in-Some-row.row.now _ c.args.over _ _ c.args.wanted c.args.second _ c.in-Some-row.ensures
    (c.are_paired.ensures u) n x there
    ((c.all_stand.ensures c.if-not-all_stand.false n m).each x there)
