use Rattle.std.proofs.Common.{◌≡◌, map, take}
use Rattle.lr_tables.specs.Entries.{goto_entry}
use Rattle.lr_tables.proofs.kept.goto_entries.Given as goal

abbrev pub invariant-loop-target : goal.invariant-loop-target
invariant-loop-target l = l.entries.items ≡ map goto_entry (take l.target-index l.targets)
