-- What is claimed of the depth of terms.
use Rattle.std.specs.Prelude.{◌≤◌, ◌+◌, ◌*◌, List, length}
use Rattle.md_reader.specs.declared.types.Class.{Class}
use Rattle.md_reader.specs.declared.types.Rule.{Rule}
use Rattle.term_core.specs.declared.facts.Fact.{Fact}
use Rattle.term_core.specs.Shape.{Shape}
use Rattle.term_core.specs.Norm.{norm}
use Rattle.sel_terms.specs.Reading.{effect_read}
use Rattle.sel_terms_depth.specs.Depth.{depth, IsWithin}

-- norming makes a term at most twice as deep: a difference becomes a sum with the negative
abbrev pub NormIsShallow : Type 0
NormIsShallow = (facts : List Fact) (t : Shape) → depth (norm facts t) ≤ 2 * depth t

-- a symbol of a pattern adds at most three to the depth: a remainder is a difference from a product with a quotient
abbrev pub PatternsAreShallow : Type 0
PatternsAreShallow = (classes : List Class) (rule : Rule) → IsWithin (3 * length rule.right + 1) (effect_read classes rule)
