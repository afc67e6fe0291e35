use Rattle.std.proofs.Common.{◌≡◌, ◌++◌, take}
use Rattle.std.specs.List.{flat_map}
use Rattle.lr_checked.specs.Lines.{answer_letter}
use Rattle.lr_checked.proofs.lines.put_letters.Given as goal

abbrev pub invariant-loop-answer : goal.invariant-loop-answer
invariant-loop-answer l = l.into.items ≡ l.initial.into.items ++ flat_map answer_letter (take l.answer-index l.answers)
