use Rattle.std.proofs.Common.{◌≡◌, ◌++◌, length, drop}
use Rattle.std.specs.Iterator.Adapters.{rev_source, enumerate_source, enumerate_count}
use Rattle.std.specs.Slice.Iter.{iter_rest}
use Rattle.l32_machine.specs.Labels.{next_item}
use Rattle.l32_machine.specs.Nexts.{HasNextsFrom}
use Rattle.l32_machine.proofs.program.nexts.Given as goal

-- the next item is known from a place on
abbrev pub invariant-loop-place : goal.invariant-loop-place
invariant-loop-place l =
    let left = iter_rest (enumerate_source (rev_source l.place-iterator)) in
    record {
      from_zero : enumerate_count (rev_source l.place-iterator) ≡ 0;
      parted : left ++ drop (length left) l.items ≡ l.items;
      known : HasNextsFrom (length left) l.items l.nexts.items;
      next : l.next ≡ next_item l.items (length left);
    }
