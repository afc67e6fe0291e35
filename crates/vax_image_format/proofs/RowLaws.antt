-- The rows, by computing; and that an image is one.
use Rattle.std.proofs.Common.{◌≡◌, ℕ, false, List, refl, sym, ap, ◌∙◌}
use Rattle.gg_base.specs.declared.size.Size.{Size}
use Rattle.gg_base.specs.declared.size.Size.TheVariants.{Byte, Word}
use Rattle.vax_core.specs.declared.code.Code.{Code}
use Rattle.vax_image_branches.proofs.Growth.{least_is_one}
use Rattle.vax_image_branches.proofs.Testing.{fits_by_test, shortest_is_least, grown_is_below}
use Rattle.vax_image_format.specs.Image.{IsImage, image_bytes, pieces_of}
use Rattle.vax_image_format.specs.Rows.{HiRow, NearRow, FarRow, hi, over, shortest, only_branch}

pub hi_row : HiRow
hi_row = record { least = shortest_is_least (pieces_of hi) (shortest hi) refl refl; text = refl; refs = refl }

pub near_row : NearRow
near_row = record { least = shortest_is_least (pieces_of (over 63)) (only_branch Byte 63) refl refl; bytes = refl }

pub far_row : FarRow
far_row = record {
  least = record {
    fits = fits_by_test (pieces_of (over 64)) (only_branch Word 64) refl refl;
    least = grown_is_below (pieces_of (over 64)) (only_branch Word 64) 3 (record { conditional = false; target = 68 }) refl refl refl refl;
  };
  bytes = refl;
}

pub image_is_one : (c : Code) (a b : List ℕ) → IsImage c a → IsImage c b → a ≡ b
image_is_one c a b x y = x.spelled ∙ ap (λ (forms : List Size). image_bytes c forms) (least_is_one (pieces_of c.items) x.forms y.forms x.least y.least) ∙ sym y.spelled
