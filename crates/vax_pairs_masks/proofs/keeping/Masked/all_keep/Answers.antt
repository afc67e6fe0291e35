use Rattle.std.proofs.Common.{arith}
use Rattle.vax_pairs_masks.proofs.Kept.{all_kept}
use Rattle.vax_pairs_masks.proofs.keeping.Masked.all_keep.Goals as goal

pub returns : goal.returns
returns c = λ done. all_kept c.args.self.now.items.now (λ k lt. c.loop-place.invariant k (omega (arith, lt)))
