use Rattle.vax_homes_items.proofs.Standing as law
use Rattle.vax_homes_items.proofs.laws.homes_stand.Goals as goal

pub returns : goal.returns
returns c = law.homes_stand
