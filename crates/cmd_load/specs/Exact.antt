-- What the command `load D K` must answer, where the folder tells what it holds and no fault is counted.
use Rattle.std.specs.Prelude.{◌≡◌, ◌⊎◌, ℕ, List}
use Rattle.gg_outside.specs.Outside.{Content as File}
use Rattle.cmd_session.specs.declared.status.Status.{Status}
use Rattle.cmd_session.specs.declared.status.Status.TheVariants as statuses
use Rattle.cmd_files.specs.Outsides.{Outside, HasNoFault}
use Rattle.cmd_files.specs.Exact.{IsItem, IsAnswer}
use Rattle.md_reader.specs.State.{Content}
use Rattle.cmd_compile.specs.cmd_check.specs.Descriptions.{description_form, IsAccepted}
use Rattle.cmd_compile.specs.cmd_check.specs.Exact.{Refuses}

-- each status where its cause is there
pub record Answers (result : Status) (file : File) : Type 0 where
  pub description : Refuses result file
  -- by an accepted description both sides end, or the text's run uses up its instructions
  pub works : (d : Content) → IsItem description_form file d → IsAccepted d → IsAnswer statuses.Done result ⊎ (result ≡ statuses.Spent)

abbrev pub IsExact : Status → List ℕ → Outside → Type 0
IsExact result name at = HasNoFault name at → Answers result (at.folder.holds name)
