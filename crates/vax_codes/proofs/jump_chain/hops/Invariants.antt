use Rattle.std.proofs.Common.{◌≡◌, map, take, Some}
use Rattle.vax_core.specs.declared.code.CodeItem.{CodeItem}
use Rattle.vax_codes.specs.Hops.{hop_of}
use Rattle.vax_codes.proofs.jump_chain.hops.Given as goal

abbrev pub invariant-loop-item : goal.invariant-loop-item
invariant-loop-item l = l.hops.items ≡ map (λ (x : CodeItem). hop_of l.items (Some x)) (take l.item-index l.items)
