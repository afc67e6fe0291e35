use Rattle.lr_check_parse.proofs.Listing.{is_by_lists}
use Rattle.lr_check_parse.proofs.replays_are_by_lists.Goals as goal

pub returns : goal.returns
returns c = is_by_lists
