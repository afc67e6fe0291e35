use Rattle.std.proofs.Common.{◌≡◌, drop}
use Rattle.lr_check_drawn.specs.Asked.{with_taken}
use Rattle.lr_check_drawn.proofs.asked.Asked.push_taken.Given as goal

abbrev pub invariant-loop-choice : goal.invariant-loop-choice
invariant-loop-choice l = with_taken l.self l.rules (drop l.choice-index l.choices) l.size l.class ≡ with_taken l.fn.self l.rules l.choices l.size l.class
