use Rattle.std.proofs.Common.{◌≡◌, drop}
use Rattle.lr_check.specs.Questions.{chosen}
use Rattle.lr_check.proofs.stack.choose.Given as goal

abbrev pub invariant-loop-choice : goal.invariant-loop-choice
invariant-loop-choice l = chosen l.rules l.nodes (drop l.choice-index l.choices) l.stack.items ≡ chosen l.rules l.nodes l.choices l.fn.stack.items
