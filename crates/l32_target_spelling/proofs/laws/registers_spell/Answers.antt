use Rattle.l32_target_spelling.proofs.Law.{registers_spell}
use Rattle.l32_target_spelling.proofs.laws.registers_spell.Goals as goal

pub returns : goal.returns
returns c = registers_spell
