-- Each status comes where its cause is there.
use Rattle.std.proofs.Common.{◌≡◌, ◌⊎◌, ℕ, List, inl, inr}
use Rattle.cmd_session.specs.declared.status.Status.{Status}
use Rattle.cmd_session.specs.declared.status.Status.TheVariants as statuses
use Rattle.cmd_session.specs.Telling.{IsRefused}
use Rattle.cmd_files.specs.Outsides.{Outside, HasNoFault}
use Rattle.cmd_files.specs.Stages.{OutputRefused, CutOutput, StarvedOutput}
use Rattle.cmd_files.specs.Exact.{IsItem, IsAnswer}
use Rattle.md_reader.specs.State.{Content}
use Rattle.cmd_compile.specs.cmd_check.specs.Descriptions.{description_form, IsAccepted}
use Rattle.cmd_compile.specs.cmd_check.specs.cmd_descriptions.proofs.Exactly as check
use Rattle.cmd_compile.specs.cmd_check.proofs.Exactly.{Comes, IsNot, of_description, not_refused, refuses}
use Rattle.cmd_compile.specs.Passing.{Passing}
use Rattle.cmd_load.specs.declared.summary.Summary.{Summary}
use Rattle.cmd_load.specs.Telling.{SummaryTold, Whole, Cut, StarvedSummary}
use Rattle.cmd_load.specs.Outcome.{Loads, Starved, NotWritten, IsSpent, BothEnded, Leaves, NoDescription, Behind}
use Rattle.cmd_load.specs.Exact.{Answers}

-- what may be answered by an accepted description
abbrev Works : Status → Type 0
Works result = IsAnswer statuses.Done result ⊎ (result ≡ statuses.Spent)

module _ (by : Passing) (result : Status) (name : List ℕ) (at : Outside) (none : HasNoFault name at) where
  starved : result ≡ statuses.NoMemory → Works result
  starved is = inl (inr is)

  of_output : (bytes : List ℕ) → OutputRefused bytes result at.out at.report → Works result
  of_output bytes (CutOutput is cut told) = absurd (none.of_out cut.rises)
  of_output bytes (StarvedOutput lack front once) = starved lack.0

  of_spent : (line : List ℕ) → IsRefused statuses.Spent line result at.report → Works result
  of_spent line (inl told) = inr told.0
  of_spent line (inr lack) = starved lack.0

  of_summary : (summary : Summary) → SummaryTold summary result at.report → Works result
  of_summary summary (Whole is told) = inl (inl is)
  of_summary summary (Cut is cut) = absurd (none.of_report cut.rises)
  of_summary summary (StarvedSummary lack) = starved lack.0

  of_loads : (d : Content) (k : ℕ) → Loads by d k result at.out at.report → Works result
  of_loads d k (Starved untouched lack) = starved lack.0
  of_loads d k (NotWritten made r) = of_output _ r
  of_loads d k (IsSpent made spent output told) = of_spent _ told
  of_loads d k (BothEnded made output summary alike written told) = of_summary summary told

  of_refused : IsNot result (at.folder.holds name) → Comes result (at.folder.holds name)
  of_refused (inl is) = check.Memory is
  of_refused (inr of) = check.Refused of

  comes : (k : ℕ) → Leaves by result name k at → Comes result (at.folder.holds name)
  comes k (NoDescription untouched r) = of_refused (of_description result name at.folder at.report none.of_folder r)
  comes k (Behind d finds loads) = check.Accepted d finds.holds finds.accepted

  -- an accepted description is refused for want of memory alone
  before : (d : Content) → IsItem description_form (at.folder.holds name) d → IsAccepted d → IsNot result (at.folder.holds name) → Works result
  before d item accepted (inl is) = starved is
  before d item accepted (inr of) = inl (not_refused result (at.folder.holds name) d statuses.Done item accepted of)

  works : (k : ℕ) (d : Content) → IsItem description_form (at.folder.holds name) d → IsAccepted d → Leaves by result name k at → Works result
  works k d item accepted (NoDescription untouched r) =
      before d item accepted (of_description result name at.folder at.report none.of_folder r)
  works k d item accepted (Behind e finds loads) = of_loads e k loads

pub exactly : (by : Passing) (result : Status) (name : List ℕ) (k : ℕ) (at : Outside) → Leaves by result name k at → HasNoFault name at → Answers result (at.folder.holds name)
exactly by result name k at leaves none = record {
  description = refuses result (at.folder.holds name) (comes by result name at none k leaves);
  works = λ d item accepted. works by result name at none k d item accepted leaves;
}
