-- What is built of a term's nodes is its normal form.
use Rattle.std.proofs.Common.{◌≡◌, List, [], ◌∷◌, ◌++◌, sym, ap, ◌∙◌, refl}
use mathlib.Core.List.{append_assoc, append-nil}
use Rattle.term_core.specs.declared.facts.Fact.{Fact}
use Rattle.term_core.specs.declared.node.Node.{Node}
use Rattle.term_core.specs.declared.node.Node.TheVariants as node
use Rattle.term_core.specs.Shape.{Shape, Constant, Symbol, LastResult, Memory, Unary, Binary}
use Rattle.term_core.specs.Norm.{norm}
use Rattle.term_core.specs.Nodes.{nodes_of}
use Rattle.term_core.specs.Built.{top_shape, build_node, built}

module _ (facts : List Fact) where
  built_norm : (s : Shape) (ns : List Node) → built facts (nodes_of s ++ ns) ≡ norm facts s ∷ built facts ns
  built_norm (Constant n) ns = refl
  built_norm (Symbol i) ns = refl
  built_norm LastResult ns = refl
  built_norm (Memory size a) ns = ap (build_node facts (node.Memory size)) (built_norm a ns)
  built_norm (Unary op t) ns = ap (build_node facts (node.Unary op)) (built_norm t ns)
  built_norm (Binary op a b) ns =
      ap (build_node facts (node.Binary op))
      (ap (built facts) (append_assoc (nodes_of a) (nodes_of b) ns) ∙ built_norm a (nodes_of b ++ ns) ∙ ap (λ x. norm facts a ∷ x) (built_norm b ns))

pub top_is_norm : (facts : List Fact) (s : Shape) → top_shape (built facts (nodes_of s)) ≡ norm facts s
top_is_norm facts s = ap (λ x. top_shape (built facts x)) (sym (append-nil (nodes_of s))) ∙ ap top_shape (built_norm facts s [])
