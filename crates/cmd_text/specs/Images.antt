-- Binary images in files, and the texts of their codes.
use Rattle.std.specs.Prelude.{◌≡◌, ℕ, List, codes}
use Rattle.cmd_session.specs.declared.status.Status.TheVariants as statuses
use Rattle.cmd_files.specs.Forms.{Form}
use Rattle.cmd_files.specs.Translations.{Translation}
use Rattle.vax_core.specs.declared.code.Code.{Code}
use Rattle.vax_core.specs.Text.{asm_text}
use Rattle.vax_image_format.specs.Image.{IsImage}
use Rattle.cmd_text.specs.declared.image.TheConstants.{IMAGE_LIMIT}

-- the longest image
abbrev pub image_limit : ℕ
image_limit = IMAGE_LIMIT

-- the bytes are the image of this code
abbrev pub ReadsImage : List ℕ → Code → Type 0
ReadsImage bytes code = IsImage code bytes

-- the line that refuses what is no code's image
abbrev pub no_image_line : List ℕ
no_image_line = codes "ggvax: no image\n"

abbrev pub RefusesImage : List ℕ → List ℕ → Type 0
RefusesImage bytes line = line ≡ no_image_line

-- a file is the binary image of a code
abbrev pub image_form : Form Code
image_form = record { limit = image_limit; reads = ReadsImage; refuses = RefusesImage; status = statuses.ImageRefused; of_files = tt }

-- the bytes are the assembly text of this code
abbrev pub IsTextOf : Code → List ℕ → Type 0
IsTextOf code bytes = bytes ≡ asm_text code

-- an image becomes the text of its code
abbrev pub text_of_image : Translation Code
text_of_image = record { form = image_form; becomes = IsTextOf }
