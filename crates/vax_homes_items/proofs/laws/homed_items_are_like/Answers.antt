use Rattle.vax_homes_items.proofs.Items as law
use Rattle.vax_homes_items.proofs.laws.homed_items_are_like.Goals as goal

pub returns : goal.returns
returns c = law.homed_items_are_like
