use Rattle.sel_terms_meaning.proofs.Alike.{norm_keeps_effects}
use Rattle.sel_terms_meaning.proofs.norm_keeps_effects.Goals as goal

pub returns : goal.returns
returns c = norm_keeps_effects
