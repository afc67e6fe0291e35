use Rattle.std.proofs.Common.{arith}
use Rattle.lr_check_found.specs.lr_check_sets.specs.Table.{automaton_of}
use Rattle.lr_check_drawn.proofs.Turns.{turns_none, turns_more, turns_all}
use Rattle.lr_check_drawn.proofs.turning.turns.Goals as goal

pub loop-class-init : goal.loop-class-init
loop-class-init c = turns_none (automaton_of c.args.tables.now) c.args.place.now c.args.first c.args.classes.now c.new-asked.result c.new-asked.ensures

pub loop-class-preserved : goal.loop-class-preserved
loop-class-preserved c = turns_more (automaton_of c.args.tables.now) c.args.place.now c.args.first c.loop-class.class-index 0 c.loop-class.from c.args.classes.now c.loop-class.asked
    c.turn.new.asked c.requires c.loop-class.invariant c.loop-class-test.true (λ p go. c.in_ok-turn.ensures p go)

pub returns : goal.returns
returns c = λ d along. turns_all (automaton_of c.args.tables.now) c.args.place.now c.args.first d c.loop-class.class-index c.loop-class.from c.args.classes.now c.loop-class.asked
    c.loop-class.invariant (omega (arith, c.loop-class-test.false)) along
