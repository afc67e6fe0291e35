use Rattle.std.proofs.lemmas.List.Elements.{Contains-get_or}
use Rattle.lr_check_complete.specs.Looks.{automaton}
use Rattle.lr_check_complete.proofs.Turns.{looks_there, looks_none, looks_turn_at, looks_all}
use Rattle.lr_check_complete.proofs.Both.{frame_one}
use Rattle.lr_check_complete.proofs.look.Look.onlys.Goals as goal

pub loop-number-init : goal.loop-number-init
loop-number-init c = λ q k frame kid. looks_none c.args.self.now _ _ _

pub loop-number-preserved : goal.loop-number-preserved
loop-number-preserved c = λ q k frame kid. looks_turn_at c.args.self.now _ _ _ _ _ _ _ (c.loop-number.invariant q k frame kid) c.loop-number-test.true
    (c.in_ok-only_of.ensures (λ x at. frame_one (automaton c.args.self.now) c.args.self.now.found.now q c.args.over _ k c.args.wanted c.args.numbers.now x frame kid
    (Contains-get_or c.args.numbers.now c.loop-number.number-index _ c.loop-number-test.true) at))

pub returns : goal.returns
returns c = λ q k frame kid. looks_all c.args.self.now _ _ _ _ _ (c.loop-number.invariant q k frame kid) c.loop-number-test.false

pub returns-then-are_onlys_shown : goal.returns-then-are_onlys_shown
returns-then-are_onlys_shown c = λ q k frame kid. looks_there c.args.self.now _ _ (c.are_onlys_shown.ensures c.if-are_onlys_shown.true)
