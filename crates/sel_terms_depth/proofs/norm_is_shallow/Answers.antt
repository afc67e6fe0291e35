use Rattle.sel_terms_depth.proofs.Norming.{norm_depth}
use Rattle.sel_terms_depth.proofs.norm_is_shallow.Goals as goal

pub returns : goal.returns
returns c = norm_depth
