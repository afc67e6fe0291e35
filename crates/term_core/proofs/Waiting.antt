-- One more term on top of those that wait.
use Rattle.std.proofs.Common.{◌≡◌, ◌+◌, List, [], ◌∷◌, ◌++◌, sym, ap, ◌∙◌, subst, arith}
use Rattle.std.specs.Borrow.{Bor}
use mathlib.Core.List.{append_assoc, append-nil}
use Rattle.term_core.specs.declared.term.Term.{Term}
use Rattle.term_core.specs.Shape.{shape_of, size_of}
use Rattle.term_core.specs.declared.term.Form.{Form}
use Rattle.term_core.specs.declared.term.Form.TheVariants as forms
use Rattle.term_core.specs.declared.operator.BinaryOp.{BinaryOp}
use Rattle.term_core.specs.declared.node.Node.{Node}
use Rattle.term_core.specs.declared.node.Node.TheVariants as node
use Rattle.term_core.specs.Form.{shape_of_form}
use Rattle.term_core.specs.Nodes.{nodes_of, waiting, weight, Opens}

pub waiting_push : (ts : List (Bor Term)) (t : Bor Term) → waiting (ts ++ t ∷ []) ≡ nodes_of (shape_of t.now) ++ waiting ts
waiting_push [] t = sym (append-nil (nodes_of (shape_of t.now)))
waiting_push (u ∷ ts) t = ap (λ x. x ++ nodes_of (shape_of u.now)) (waiting_push ts t) ∙ append_assoc (nodes_of (shape_of t.now)) (waiting ts) (nodes_of (shape_of u.now))

pub weight_push : (ts : List (Bor Term)) (t : Bor Term) → weight (ts ++ t ∷ []) ≡ weight ts + size_of (shape_of t.now)
weight_push [] t = omega arith
weight_push (u ∷ ts) t = omega (arith, weight_push ts t)

-- the two parts of a form, of which the first lies on top
pub opens_two : (form : Form) (op : BinaryOp) (a b : Bor Term) (old mid new : List (Bor Term)) → form ≡ forms.Binary op a b → mid ≡ old ++ b ∷ [] → new ≡ mid ++ a ∷ []
    → Opens (node.Binary op) (shape_of_form form) old new
opens_two form op a b old mid new e f g =
    subst (λ x. Opens (node.Binary op) (shape_of_form x) old new) (sym e)
    (record { nodes = ap (λ x. node.Binary op ∷ x) read; lighter = omega (arith, weight_push old b, weight_push mid a, ap weight f, ap weight g) })
  where
    read : waiting new ≡ (nodes_of (shape_of a.now) ++ nodes_of (shape_of b.now)) ++ waiting old
    read =
        ap waiting g ∙ waiting_push mid a ∙ ap (λ x. nodes_of (shape_of a.now) ++ x) (ap waiting f ∙ waiting_push old b)
        ∙ sym (append_assoc (nodes_of (shape_of a.now)) (nodes_of (shape_of b.now)) (waiting old))

-- the nodes that wait, where the last term is opened
pub opened : (n : Node) (t : Bor Term) (all rest new : List (Bor Term)) → all ≡ rest ++ t ∷ [] → Opens n (shape_of t.now) rest new → waiting all ≡ n ∷ waiting new
opened n t all rest new e opens = ap waiting e ∙ waiting_push rest t ∙ sym opens.nodes

pub next_opened : (nodes nodes' total : List Node) (n : Node) (t : Bor Term) (all rest new : List (Bor Term)) → nodes ++ waiting all ≡ total → all ≡ rest ++ t ∷ []
    → Opens n (shape_of t.now) rest new → nodes' ≡ nodes ++ n ∷ [] → nodes' ++ waiting new ≡ total
next_opened nodes nodes' total n t all rest new h e opens f =
    ap (λ x. x ++ waiting new) f ∙ append_assoc nodes (n ∷ []) (waiting new) ∙ ap (λ x. nodes ++ x) (sym (opened n t all rest new e opens)) ∙ h
