-- Assembly texts of codes that can be run, in files, and the images of these codes.
use Rattle.std.specs.Prelude.{◌≡◌, List, ℕ, Some}
use Rattle.cmd_session.specs.declared.status.Status.TheVariants as statuses
use Rattle.cmd_files.specs.Forms.{Form}
use Rattle.cmd_files.specs.Translations.{Translation}
use Rattle.vax_core.specs.declared.code.Code.{Code}
use Rattle.vax_reader.specs.Grammar.{Reads}
use Rattle.vax_machine.specs.declared.loading.LoadFault.{LoadFault}
use Rattle.vax_machine.specs.Loading.{Loads, load_fault}
use Rattle.vax_image_format.specs.Image.{IsImage}
use Rattle.cmd_run.specs.Lines.{load_line}
use Rattle.cmd_run.specs.Texts.{text_limit, NamesFirstWrong}

-- the bytes are the text of this code, a valid one that can be run
pub record ReadsLoaded (bytes : List ℕ) (code : Code) : Type 0 where
  pub reads : Reads bytes code
  pub loads : Loads code

-- the line names the first line that is not of the grammar; or the bytes are a code's text, and it tells why that can't be run
pub data RefusesText (bytes line : List ℕ) : Type 0 where
  IsNoText : (names : NamesFirstWrong bytes line) → RefusesText bytes line
  IsNotRun : (code : Code) (reads : Reads bytes code) (fault : LoadFault) (first : load_fault code ≡ Some fault)
      (told : line ≡ load_line fault) → RefusesText bytes line

-- a file is the text of a code that can be run
abbrev pub loaded_form : Form Code
loaded_form = record { limit = text_limit; reads = ReadsLoaded; refuses = RefusesText; status = statuses.AsmRefused; of_files = tt }

-- such a text becomes the binary image of its code
abbrev pub image_of_text : Translation Code
image_of_text = record { form = loaded_form; becomes = IsImage }
