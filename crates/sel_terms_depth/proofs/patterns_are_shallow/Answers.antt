use Rattle.sel_terms_depth.proofs.Patterns.{patterns_are_shallow}
use Rattle.sel_terms_depth.proofs.patterns_are_shallow.Goals as goal

pub returns : goal.returns
returns c = patterns_are_shallow
