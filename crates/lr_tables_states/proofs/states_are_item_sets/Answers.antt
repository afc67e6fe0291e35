use Rattle.lr_tables_states.proofs.Law.{states_are_item_sets}
use Rattle.lr_tables_states.proofs.states_are_item_sets.Goals as goal

pub returns : goal.returns
returns c = states_are_item_sets
