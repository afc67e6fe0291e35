use Rattle.std.proofs.Common.{◌≡◌, map, take}
use Rattle.lr_tables.specs.Entries.{action_entry}
use Rattle.lr_tables.proofs.kept.action_entries.Given as goal

abbrev pub invariant-loop-choices : goal.invariant-loop-choices
invariant-loop-choices l = l.entries.items ≡ map (action_entry l.lists) (take l.choices-index l.actions)
