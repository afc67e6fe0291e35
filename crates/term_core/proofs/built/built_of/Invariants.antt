use Rattle.std.proofs.Common.{◌≡◌, ◌++◌, length, drop}
use Rattle.std.specs.Iterator.Adapters.{rev_source}
use Rattle.std.specs.Slice.Iter.{iter_rest}
use Rattle.term_core.specs.Built.{shapes, built}
use Rattle.term_core.proofs.built.built_of.Given as goal

-- The nodes that are left stand in front of those that are read.
abbrev pub invariant-loop-node : goal.invariant-loop-node
invariant-loop-node l =
    let left = iter_rest (rev_source l.node-iterator) in
    record {
      parted : left ++ drop (length left) l.nodes ≡ l.nodes;
      read : shapes l.built ≡ built l.facts (drop (length left) l.nodes);
    }
