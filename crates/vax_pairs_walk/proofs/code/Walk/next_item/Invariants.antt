use Rattle.std.proofs.Common.{◌≡◌}
use Rattle.vax_machine.specs.Labels.{next_item}
use Rattle.vax_pairs_walk.proofs.code.Walk.next_item.Given as goal

-- labels and `.globl` lines stand before
abbrev pub invariant-loop-next : goal.invariant-loop-next
invariant-loop-next l = next_item l.self.items.now l.place ≡ next_item l.self.items.now l.next
