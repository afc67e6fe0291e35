use Rattle.std.proofs.Common.{◌≡◌, [], take, fold}
use Rattle.lr_tables.specs.Entries.{with_list}
use Rattle.lr_tables.proofs.kept.own_lists.Given as goal

abbrev pub invariant-loop-choices : goal.invariant-loop-choices
invariant-loop-choices l = l.lists.items ≡ fold with_list [] (take l.choices-index l.actions)
