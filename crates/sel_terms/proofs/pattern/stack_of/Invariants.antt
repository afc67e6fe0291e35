use Rattle.std.proofs.Common.{◌≡◌, ◌+◌, ◌++◌, length, drop}
use Rattle.std.specs.Iterator.Adapters.{rev_source, enumerate_source, enumerate_count}
use Rattle.std.specs.Slice.Iter.{iter_rest}
use Rattle.sel_terms.specs.Stack.{contents}
use Rattle.sel_terms.specs.Reading.{stack_from}
use Rattle.sel_terms.proofs.pattern.stack_of.Given as goal

-- The symbols that are left stand in front of those that are read.
abbrev pub invariant-loop-index : goal.invariant-loop-index
invariant-loop-index l =
    let left = iter_rest (enumerate_source (rev_source l.index-iterator)) in
    record {
      from_one : enumerate_count (rev_source l.index-iterator) ≡ 0;
      parted : left ++ drop (length left) l.right ≡ l.right;
      read : contents l.stack ≡ stack_from l.classes (length left + 1) (drop (length left) l.right);
    }
