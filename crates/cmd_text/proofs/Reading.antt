-- What is read of an image, and why other bytes are refused.
use Rattle.std.proofs.Common.{◌≡◌, ℕ, List, sym, ◌∙◌}
use Rattle.std.proofs.lemmas.Option.{same_Some}
use Rattle.cmd_files.specs.Forms.{IsReadAs, IsRefusedBy}
use Rattle.vax_core.specs.declared.code.Code.{Code}
use Rattle.vax_image_format.specs.Image.{IsImage}
use Rattle.vax_image_reading.specs.Decoding.{ImagesAreRead}
use Rattle.cmd_text.specs.Images.{image_form, no_image_line}

-- an image is one code's, since that code is read of it
pub read_as : (bytes : List ℕ) (code : Code) → ImagesAreRead → IsImage code bytes → IsReadAs image_form bytes code
read_as bytes code again image = record {
  reads = image;
  only = λ other o. same_Some code other (sym (again code bytes image) ∙ again other bytes o);
}

pub no_image : (bytes line : List ℕ) → ((code : Code) → IsImage code bytes → ⊥) → line ≡ no_image_line → IsRefusedBy image_form bytes line
no_image bytes line none told = record { refuses = told; unread = none }

pub ruleset reading_facts = (read_as, no_image)
