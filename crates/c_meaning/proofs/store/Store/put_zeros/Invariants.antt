use Rattle.std.proofs.Common.{◌≡◌, ◌-◌, Some}
use Rattle.c_meaning.specs.State.{put_zeros}
use Rattle.c_meaning.specs.Parts.{state}
use Rattle.c_meaning.proofs.store.Store.put_zeros.Given as goal

-- the zeros that are left give all of them
abbrev pub invariant-loop : goal.invariant-loop
invariant-loop l = put_zeros l.of l.offset l.count (Some (state l.initial.self)) ≡ put_zeros l.of l.next (l.count - l.counter) (Some (state l.self))
