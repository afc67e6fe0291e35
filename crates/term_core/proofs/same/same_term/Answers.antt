use Rattle.std.proofs.Common.{◌≡◌, Bool, sym, ap, ◌∙◌, subst, is_eq}
use Rattle.std.specs.Prelude.{◌↔◌, IsTrue}
use Rattle.term_core.specs.Shape.{shape_of}
use Rattle.term_core.proofs.Alike.{same_term_tells}
use Rattle.term_core.proofs.same.same_term.Goals as goal

pub returns-clause-same : goal.returns-clause-same
returns-clause-same c =
    let s = shape_of c.args.a.now in
    let t = shape_of c.args.b.now in
    subst (λ (b : Bool). IsTrue b ↔ (s ≡ t)) (sym (c.is_eq.ensures ∙ ap is_eq c.in_ok-order.ensures)) (same_term_tells s t)
