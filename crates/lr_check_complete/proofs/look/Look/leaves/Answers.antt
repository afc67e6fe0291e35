use Rattle.std.proofs.Common.{[]}
use Rattle.std.proofs.lemmas.List.Elements.{Contains-get_or}
use Rattle.lr_check_complete.specs.Looks.{automaton}
use Rattle.lr_check_complete.proofs.Turns.{looks_there, looks_none, looks_turn_at, looks_all, looks_map}
use Rattle.lr_check_complete.proofs.Framing.{leaf_made}
use Rattle.lr_check_complete.proofs.look.Look.leaves.Goals as goal

pub loop-number-init : goal.loop-number-init
loop-number-init c = λ q p frame none. looks_none c.args.self.now _ _ _

pub loop-number-preserved : goal.loop-number-preserved
loop-number-preserved c = λ q p frame none. looks_turn_at c.args.self.now _ _ _ _ _ _ _ (c.loop-number.invariant q p frame none) c.loop-number-test.true
    (looks_map c.args.self.now _ _ _ _ (λ g. g [] [] c.requires.found.lists.first c.requires.found.lists.first)
    (c.in_ok-settle.ensures
    (leaf_made (automaton c.args.self.now) c.args.self.now.found.now q p _ c.args.token c.args.numbers.now frame none
    (Contains-get_or c.args.numbers.now c.loop-number.number-index _ c.loop-number-test.true))))

pub returns : goal.returns
returns c = λ q p frame none. looks_all c.args.self.now _ _ _ _ _ (c.loop-number.invariant q p frame none) c.loop-number-test.false

pub returns-then-are_leaves_shown : goal.returns-then-are_leaves_shown
returns-then-are_leaves_shown c = λ q p frame none. looks_there c.args.self.now _ _
    (λ n m. let h = frame.places n m in c.are_leaves_shown.ensures c.if-are_leaves_shown.true n m _ h.1)
