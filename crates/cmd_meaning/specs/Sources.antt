-- C sources in files, and how their programs are run by their meaning.
use Rattle.std.specs.Prelude.{◌≡◌, ℕ, List, None}
use Rattle.gg_base.specs.declared.place.Place.{Place}
use Rattle.gg_base.specs.declared.run.End.{End}
use Rattle.gg_base.specs.declared.run.End.TheVariants as ends
use Rattle.cmd_session.specs.declared.status.Status.TheVariants as statuses
use Rattle.cmd_session.specs.Running.{coming_of}
use Rattle.cmd_files.specs.Forms.{Form, Runner}
use Rattle.cmd_files.specs.Stages.{input_limit}
use Rattle.c_program.specs.Programs.{AProgram}
use Rattle.c_typed.specs.declared.source.SourceKind.{SourceKind}
use Rattle.c_typed.specs.Sources.{Reads, IsFaultAt}
use Rattle.c_meaning.specs.Programs.{source}
use Rattle.cmd_meaning.specs.Lines.{fault_line}

-- the line names the first fault of the bytes, and where that stands
pub record NamesFirstFault (bytes line : List ℕ) : Type 0 where
  pub place : Place
  pub kind : SourceKind
  pub first : IsFaultAt bytes place kind
  pub named : line ≡ fault_line place kind

-- a file is the source of a program
abbrev pub source_form : Form AProgram
source_form = record { limit = input_limit; reads = Reads; refuses = NamesFirstFault; status = statuses.SourceRefused; of_files = tt }

-- the ends of a source's run
abbrev pub IsSourceEnd : End → Type 0
IsSourceEnd (ends.Ended value) = Unit {0}
IsSourceEnd ends.Trapped = Unit {0}
IsSourceEnd ends.Wild = Unit {0}
IsSourceEnd ends.Deep = Unit {0}
IsSourceEnd ends.Spent = Unit {0}
IsSourceEnd (ends.Broken kind) = ⊥

-- each program can be run, with so many counted turns of loops and calls
abbrev pub source_runner : Runner AProgram
source_runner = record {
  fault = λ program. None;
  run = λ program input count. coming_of (source program input count);
  ends = IsSourceEnd;
}
