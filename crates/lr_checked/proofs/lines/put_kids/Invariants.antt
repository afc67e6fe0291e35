use Rattle.std.proofs.Common.{◌≡◌, ◌++◌, take}
use Rattle.std.specs.List.{flat_map}
use Rattle.lr_checked.specs.Lines.{kid_word}
use Rattle.lr_checked.proofs.lines.put_kids.Given as goal

abbrev pub invariant-loop-kid : goal.invariant-loop-kid
invariant-loop-kid l = l.into.items ≡ l.initial.into.items ++ flat_map kid_word (take l.kid-index l.kids)
