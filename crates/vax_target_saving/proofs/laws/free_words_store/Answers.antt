use Rattle.vax_target_saving.proofs.Storing.{free_words_store}
use Rattle.vax_target_saving.proofs.laws.free_words_store.Goals as goal

pub returns : goal.returns
returns c = free_words_store
