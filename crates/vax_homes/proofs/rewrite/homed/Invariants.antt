use Rattle.std.proofs.Common.{◌≡◌, map}
use Rattle.vax_homes.specs.Homing.{homed_item}
use Rattle.vax_homes.proofs.rewrite.homed.Given as goal

-- the items so far
abbrev pub invariant-loop-item : goal.invariant-loop-item
invariant-loop-item l = l.items.items ≡ map (homed_item l.homes.items) l.yielded
