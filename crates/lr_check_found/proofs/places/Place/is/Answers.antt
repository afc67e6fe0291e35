use Rattle.std.proofs.Common.{sym, ◌∙◌}
use Rattle.std.proofs.lemmas.Bool.{eqb-true}
use Rattle.lr_check_found.proofs.Slots.{same_place}
use Rattle.lr_check_found.proofs.places.Place.is.Goals as goal

pub returns-clause-same : goal.returns-clause-same
returns-clause-same c = λ u. same_place _ _ (sym c.number.ensures ∙ (c.if-number.false ∙ c.number-2.ensures)) (sym c.number-3.ensures ∙ (c.if-number-2.false ∙ c.number-4.ensures))
    (sym c.number-5.ensures ∙ (eqb-true _ _ u ∙ c.number-6.ensures))
