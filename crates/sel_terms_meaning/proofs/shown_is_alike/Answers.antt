use Rattle.sel_terms_meaning.proofs.Alike.{shown_is_alike}
use Rattle.sel_terms_meaning.proofs.shown_is_alike.Goals as goal

pub returns : goal.returns
returns c = shown_is_alike
