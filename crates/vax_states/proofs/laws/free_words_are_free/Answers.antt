use Rattle.vax_states.proofs.Law.{free_words_are_free}
use Rattle.vax_states.proofs.laws.free_words_are_free.Goals as goal

pub returns : goal.returns
returns c = free_words_are_free
