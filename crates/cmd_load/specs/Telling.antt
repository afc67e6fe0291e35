-- How both sides of a generated source are told.
use Rattle.std.specs.Prelude.{◌≡◌, ℕ, length}
use Rattle.gg_base.specs.declared.run.End.TheVariants.{Ended, Spent}
use Rattle.gg_base.specs.Runs.{Outcome}
use Rattle.cmd_session.specs.declared.status.Status.{Status}
use Rattle.cmd_session.specs.declared.status.Status.TheVariants as statuses
use Rattle.cmd_session.specs.Lines.{end_line}
use Rattle.cmd_session.specs.Writing.{Change, TakesAll, IsCut}
use Rattle.cmd_session.specs.Telling.{IsRefused, IsStarved}
use Rattle.cmd_files.specs.Stages.{OutputRefused}
use Rattle.cmd_load.specs.declared.summary.Summary.{Summary}
use Rattle.cmd_load.specs.declared.sides.Sizes.{Sizes}
use Rattle.cmd_load.specs.Lines.{summary_line}

-- how many turns and how many instructions the two sides may take
unfoldable pub greatest_number : ℕ
greatest_number = 100000000

-- the line of a summary was written to the report, or not whole
pub data SummaryTold (summary : Summary) (result : Status) (report : Change) : Type 0 where
  Whole : (is : result ≡ statuses.Done) (told : TakesAll report (summary_line summary)) → SummaryTold summary result report
  Cut : (is : result ≡ statuses.WriteFault) (cut : IsCut report (summary_line summary)) → SummaryTold summary result report
  StarvedSummary : (starved : IsStarved result report) → SummaryTold summary result report

-- what is told of both sides, which ended with this value
abbrev pub summary_of : Sizes → Outcome → Outcome → ℕ → Summary
summary_of sizes turns steps value = record {
  functions = sizes.functions;
  source = sizes.source;
  text = sizes.text;
  turns = turns.number;
  instructions = steps.number;
  output = length steps.output;
  value = value;
}

-- How the source's run and the text's run ended was told: that one of them is spent, or both values.
pub data EndsTold (sizes : Sizes) (turns steps : Outcome) (result : Status) (report : Change) : Type 0 where
  OneSpent : (unended : (v w : ℕ) → turns.end ≡ Ended v → steps.end ≡ Ended w → ⊥)
      (told : IsRefused statuses.Spent (end_line Spent greatest_number) result report) → EndsTold sizes turns steps result report
  BothValues : (other value : ℕ) (turns_end : turns.end ≡ Ended other) (steps_end : steps.end ≡ Ended value)
      (told : SummaryTold (summary_of sizes turns steps value) result report) → EndsTold sizes turns steps result report

-- first what the text's run wrote was written, and then it was told how both ended
pub data SidesTold (sizes : Sizes) (turns steps : Outcome) (result : Status) (out report : Change) : Type 0 where
  Unwritten : (refused : OutputRefused steps.output result out report) → SidesTold sizes turns steps result out report
  Written : (written : TakesAll out steps.output) (told : EndsTold sizes turns steps result report)
      → SidesTold sizes turns steps result out report
