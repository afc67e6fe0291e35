-- What lies on a stack of subtrees, the top first.
use Rattle.std.specs.Prelude.{List, map, reverse}
use Rattle.sel_terms.specs.declared.stack.Stack.{Stack}
use Rattle.sel_terms.specs.Parts.{SubtreeShape, subtree_of}

abbrev pub contents : Stack → List SubtreeShape
contents s = map subtree_of (reverse s.held.items)
