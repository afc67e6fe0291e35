use Rattle.std.proofs.Common.{◌≡◌, ◌++◌, map, take}
use Rattle.std.specs.List.{flat_map}
use Rattle.term_core.specs.Shape.{shape_of}
use Rattle.sel_terms.specs.Text.{divisor_text}
use Rattle.sel_terms.proofs.show.put_divisors.Given as goal

abbrev pub invariant-loop-t : goal.invariant-loop-t
invariant-loop-t l = l.into.items ≡ l.initial.into.items ++ flat_map divisor_text (map shape_of (take l.t-index l.divisors))
