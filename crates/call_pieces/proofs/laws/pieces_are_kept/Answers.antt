use Rattle.call_pieces.proofs.Stores.{pieces_are_kept}
use Rattle.call_pieces.proofs.laws.pieces_are_kept.Goals as goal

pub returns : goal.returns
returns c = pieces_are_kept
