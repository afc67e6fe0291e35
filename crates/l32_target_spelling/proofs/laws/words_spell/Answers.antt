use Rattle.l32_target_spelling.proofs.Law.{words_spell}
use Rattle.l32_target_spelling.proofs.laws.words_spell.Goals as goal

pub returns : goal.returns
returns c = words_spell
