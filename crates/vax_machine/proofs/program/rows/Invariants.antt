use Rattle.std.proofs.Common.{◌≡◌, map, take}
use Rattle.vax_machine.specs.Rows.{row_view, row_of}
use Rattle.vax_machine.proofs.program.rows.Given as goal

-- the items up to a place have their rows
abbrev pub invariant-loop-item : goal.invariant-loop-item
invariant-loop-item l = map row_view l.rows.items ≡ map row_of (take l.item-index l.items)
