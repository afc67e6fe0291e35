use Rattle.gg_compile_codes.proofs.Bounded.{typed_codes_are_bounded}
use Rattle.gg_compile_codes.proofs.lengths.typed_codes_are_bounded.Goals as goal

pub returns : goal.returns
returns c = typed_codes_are_bounded
