use Rattle.lr_check_complete.specs.Looks.{automaton}
use Rattle.lr_check_complete.proofs.Turns.{looks_map}
use Rattle.lr_check_complete.proofs.Framing.{none_kids, one_kids, two_kids_are, kids_none, kids_one, kids_two}
use Rattle.lr_check_complete.proofs.look.Look.all_kids.Goals as goal
use Rattle.lr_check_found.proofs.Added.{on_ok}

pub returns-then-kids-eq0 : goal.returns-then-kids-eq0
returns-then-kids-eq0 c = λ q frame. on_ok _ _ _
    (looks_map c.args.self.now _ _ _ _
    (kids_none (automaton c.args.self.now) c.args.self.now.found.now q c.args.over c.args.token c.args.numbers.now frame
    (none_kids c.args.token c.kids-kids.result.now c.kids-kids.ensures c.if-kids-eq0.true)))
    (c.leaves.ensures q c.args.over frame (none_kids c.args.token c.kids-kids.result.now c.kids-kids.ensures c.if-kids-eq0.true))

pub returns-then-kids-eq1 : goal.returns-then-kids-eq1
returns-then-kids-eq1 c = λ q frame. on_ok _ _ _
    (looks_map c.args.self.now _ _ _ _
    (kids_one (automaton c.args.self.now) c.args.self.now.found.now c.args.over c.args.token _ c.args.numbers.now
    (one_kids c.args.token c.kids-kids.result.now _ c.kids-kids.ensures c.if-kids-eq1.true)))
    (c.onlys.ensures q c.args.token frame (one_kids c.args.token c.kids-kids.result.now _ c.kids-kids.ensures c.if-kids-eq1.true))

pub returns-then-kids-eq2 : goal.returns-then-kids-eq2
returns-then-kids-eq2 c = λ q frame. on_ok _ _ _
    (looks_map c.args.self.now _ _ _ _
    (kids_two (automaton c.args.self.now) c.args.self.now.found.now c.args.over c.args.token _ _ c.args.numbers.now
    (two_kids_are c.args.token c.kids-kids.result.now _ _ c.kids-kids.ensures c.if-kids-eq2.true)))
    (c.both.ensures q c.args.token frame (two_kids_are c.args.token c.kids-kids.result.now _ _ c.kids-kids.ensures c.if-kids-eq2.true))
