use Rattle.std.proofs.Common.{◌≡◌, drop}
use Rattle.vax_machine.specs.Area.{label_address, address_from}
use Rattle.vax_pairs_walk.proofs.code.Walk.label_address.Given as goal

-- no label of that name stands before
abbrev pub invariant-loop-item : goal.invariant-loop-item
invariant-loop-item l = address_from (drop l.item-index l.self.layout.now) l.at l.name ≡ label_address l.self.layout.now l.name
