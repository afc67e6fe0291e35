use Rattle.lr_check.proofs.Chosen.{chosen_none, chosen_accept, chosen_shift, chosen_taken, chosen_passed}
use Rattle.lr_check.proofs.stack.choose.Goals as goal

pub returns : goal.returns
returns c = chosen_none c.args.rules.now c.args.nodes.now c.args.choices.now c.args.stack.now.items c.loop-choice.choice-index c.loop-choice.stack.items c.loop-choice.invariant
    c.loop-choice-test.false

pub returns-in-Shift : goal.returns-in-Shift
returns-in-Shift c = chosen_shift c.args.rules.now c.args.nodes.now c.args.choices.now c.args.stack.now.items c.loop-choice.choice-index c.loop-choice.stack.items c.loop-choice.invariant
    c.choice-item.result c.in-Shift.state c.loop-choice-test.true c.choice-item.is c.in-Shift.is

pub returns-in-Accept : goal.returns-in-Accept
returns-in-Accept c = chosen_accept c.args.rules.now c.args.nodes.now c.args.choices.now c.args.stack.now.items c.loop-choice.choice-index c.loop-choice.stack.items c.loop-choice.invariant
    c.choice-item.result c.loop-choice-test.true c.choice-item.is c.in-Accept.is

pub returns-then-is_taken_at : goal.returns-then-is_taken_at
returns-then-is_taken_at c = chosen_taken c.args.rules.now c.args.nodes.now c.args.choices.now c.args.stack.now.items c.loop-choice.choice-index c.loop-choice.stack.items
    c.loop-choice.invariant c.choice-item.result c.in-Reduce.number c.is_taken_at.result c.is_taken_at.new.stack.items c.loop-choice-test.true c.choice-item.is c.in-Reduce.is
    c.is_taken_at.ensures c.if-is_taken_at.true

pub loop-choice-preserved : goal.loop-choice-preserved
loop-choice-preserved c = chosen_passed c.args.rules.now c.args.nodes.now c.args.choices.now c.args.stack.now.items c.loop-choice.choice-index c.loop-choice.stack.items
    c.loop-choice.invariant c.choice-item.result c.in-Reduce.number c.is_taken_at.result c.is_taken_at.new.stack.items c.loop-choice-test.true c.choice-item.is c.in-Reduce.is
    c.is_taken_at.ensures c.if-is_taken_at.false
