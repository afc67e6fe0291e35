use Rattle.sel_terms_meaning.proofs.Narrow.{wanted_is_narrow}
use Rattle.sel_terms_meaning.proofs.wanted_is_narrow.Goals as goal

pub returns : goal.returns
returns c = wanted_is_narrow
