use Rattle.vax_image_branches.proofs.Rounding.{shortest_below}
use Rattle.vax_image_forms.proofs.least.least_forms.Goals as goal

pub grow-requires-clause-below : goal.grow-requires-clause-below
grow-requires-clause-below c = rw (c.deref_mut.ensures.value, c.in_ok-forms.ensures.items_if_clones_equal (λ y e. e)) (shortest_below c.args.pieces.now)
