use Rattle.std.proofs.Common.{◌≡◌, List, length, Option, None, ℕ, ap, sym, ◌∙◌, arith}
use Rattle.std.proofs.lemmas.Option.{same_Some, slice_get_read}
use Rattle.std.specs.Prelude.{slice_get}
use Rattle.vax_pairs_checked.specs.Masks.{mask_at}
use Rattle.vax_pairs_masks.proofs.Masking.{masks_length, mask_there}
use Rattle.vax_pairs_masks.proofs.keeping.Masked.mask.Goals as goal

pub index-requires : goal.index-requires
index-requires c = omega (arith, ap length c.args.self.now.each, masks_length None c.args.self.now.items.now, c.requires)

pub returns : goal.returns
returns c =
    let s = c.args.self.now in
    let long : length s.items.now ≡ length s.masks.items = omega (arith, ap length s.each, masks_length None s.items.now) in
    let here = slice_get_read s.masks.items (length s.items.now) c.args.place c.index.result.now long c.requires c.index.ensures in
    same_Some c.index.result.now (mask_at s.items.now c.args.place)
    (sym here ∙ ap (λ (l : List (Option ℕ)). slice_get l c.args.place) s.each ∙ mask_there None s.items.now c.args.place c.requires)
