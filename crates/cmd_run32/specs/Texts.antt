-- Assembly texts of L32 in files, and how their codes are run.
use Rattle.std.specs.Prelude.{◌≡◌, ℕ, List, Option, Some, None}
use Rattle.gg_base.specs.declared.limits.TheConstants.{TEXT_LIMIT}
use Rattle.cmd_session.specs.declared.status.Status.TheVariants as statuses
use Rattle.cmd_session.specs.Running.{coming_of}
use Rattle.cmd_files.specs.Forms.{Form, Runner}
use Rattle.l32_core.specs.declared.code.Code32.{Code32}
use Rattle.vax_reader.specs.declared.fault.AsmKind.{AsmKind}
use Rattle.l32_reader.specs.Grammar.{Reads, IsFirstWrong}
use Rattle.l32_machine.specs.declared.loading.Load32Fault.{Load32Fault}
use Rattle.l32_machine.specs.Loading.{load_fault}
use Rattle.l32_machine.specs.Running.{run}
use Rattle.cmd_run.specs.Lines.{wrong_line}
use Rattle.cmd_run.specs.Texts.{IsMachineEnd}
use Rattle.cmd_run32.specs.Lines.{load_line}

-- the longest text
abbrev pub text_limit : ℕ
text_limit = TEXT_LIMIT

-- the line names the first line of the bytes that is not of the grammar, and what is wrong with it
pub record NamesFirstWrong (bytes line : List ℕ) : Type 0 where
  pub number : ℕ
  pub kind : AsmKind
  pub first : IsFirstWrong bytes number kind
  pub named : line ≡ wrong_line number kind

-- a file is the text of a valid code
abbrev pub text_form : Form Code32
text_form = record { limit = text_limit; reads = Reads; refuses = NamesFirstWrong; status = statuses.AsmRefused; of_files = tt }

-- why a code can't be run
abbrev pub fault_line : Option Load32Fault → Option (List ℕ)
fault_line None = None
fault_line (Some fault) = Some (load_line fault)

-- a code is run from its loading on for so many steps
abbrev pub code_runner : Runner Code32
code_runner = record {
  fault = λ code. fault_line (load_fault code);
  run = λ code input count. coming_of (run code input count);
  ends = IsMachineEnd;
}
