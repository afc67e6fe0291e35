use Rattle.l32_target_places.proofs.Law.{stores_go_to_places}
use Rattle.l32_target_places.proofs.laws.stores_go_to_places.Goals as goal

pub returns : goal.returns
returns c = stores_go_to_places
