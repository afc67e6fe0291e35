-- Normal terms built of nodes. They are read from the end: the terms that are built lie on a stack, and each node takes
-- its parts from the top, the first part first.
use Rattle.std.specs.Prelude.{List, [], ◌∷◌, map, reverse}
use Rattle.term_core.specs.declared.facts.Fact.{Fact}
use Rattle.term_core.specs.Facts.{same_as}
use Rattle.term_core.specs.declared.node.Node.{Node}
use Rattle.term_core.specs.declared.node.Node.TheVariants as node
use Rattle.term_core.specs.declared.built.Built.{Built}
use Rattle.term_core.specs.Shape.{Shape, Constant, Symbol, LastResult, Memory, shape_of}
use Rattle.term_core.specs.NormUnary.{make_unary}
use Rattle.term_core.specs.NormBinary.{make_binary}

abbrev pub shapes : Built → List Shape
shapes b = map shape_of (reverse b.terms.items)

-- what lies on top, and what below; the nodes of a term take from no empty stack
abbrev pub top_shape : List Shape → Shape
top_shape [] = Constant 0
top_shape (s ∷ stack) = s

abbrev pub lower_shapes : List Shape → List Shape
lower_shapes [] = []
lower_shapes (s ∷ stack) = stack

abbrev pub build_node : List Fact → Node → List Shape → List Shape
build_node facts (node.Constant n) stack = Constant n ∷ stack
build_node facts (node.Symbol i) stack = Symbol (same_as facts i) ∷ stack
build_node facts node.LastResult stack = LastResult ∷ stack
build_node facts (node.Memory size) stack = Memory size (top_shape stack) ∷ lower_shapes stack
build_node facts (node.Unary op) stack = make_unary facts op (top_shape stack) ∷ lower_shapes stack
build_node facts (node.Binary op) stack =
    make_binary facts op (top_shape stack) (top_shape (lower_shapes stack)) ∷ lower_shapes (lower_shapes stack)

abbrev pub built : List Fact → List Node → List Shape
built facts [] = []
built facts (n ∷ ns) = build_node facts n (built facts ns)
