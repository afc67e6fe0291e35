use Rattle.vax_target_places.proofs.Law as law
use Rattle.vax_target_places.proofs.stores_go_to_places.Goals as goal

pub returns : goal.returns
returns c = law.stores_go_to_places
