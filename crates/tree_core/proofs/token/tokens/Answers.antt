use Rattle.std.proofs.Common.{refl}
use Rattle.tree_core.proofs.Listing.{listed_in}
use Rattle.tree_core.proofs.token.tokens.Goals as goal

pub returns : goal.returns
returns c = λ k. listed_in _ refl k
