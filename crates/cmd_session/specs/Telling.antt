-- How a command tells a refusal, and how it tells a run: its output and the line of its end.
use Rattle.std.specs.Prelude.{◌≡◌, ◌⊎◌, ℕ, List}
use Rattle.gg_base.specs.declared.run.End.TheVariants.{Ended}
use Rattle.cmd_session.specs.declared.status.Status.{Status}
use Rattle.cmd_session.specs.declared.status.Status.TheVariants as statuses
use Rattle.cmd_session.specs.Lines.{end_line, end_status, output_failed_line}
use Rattle.cmd_session.specs.Writing.{Change, GainsFront, RisesAtMostOnce, TakesAll, IsCut, Reports}
use Rattle.cmd_session.specs.Running.{Coming}

-- memory ran out, and of the report nothing is known but that nothing was written to it behind a failed write
abbrev pub IsStarved : Status → Change → Type 0
IsStarved result report = (result ≡ statuses.NoMemory) × RisesAtMostOnce report

-- a refusal has this status, and the report gained its line; or memory ran out
abbrev pub IsRefused : Status → List ℕ → Status → Change → Type 0
IsRefused status line result report = ((result ≡ status) × Reports report line) ⊎ IsStarved result report

-- the whole output was written, and then the line of the end; that of a value is written whole
pub record IsTold (status : Status) (run : Coming) (count : ℕ) (out report : Change) : Type 0 where
  pub status_is : status ≡ end_status run.end
  pub output : TakesAll out run.output
  pub line : Reports report (end_line run.end count)
  pub whole : status ≡ statuses.Done → TakesAll report (end_line run.end count)

-- a write of the output failed
pub record IsCutInOutput (status : Status) (run : Coming) (out report : Change) : Type 0 where
  pub status_is : status ≡ statuses.WriteFault
  pub cut : IsCut out run.output
  pub line : Reports report output_failed_line

-- a write of the line of a value failed
pub record IsCutInLine (status : Status) (run : Coming) (count : ℕ) (out report : Change) : Type 0 where
  pub status_is : status ≡ statuses.WriteFault
  pub value : ℕ
  pub ended : run.end ≡ Ended value
  pub output : TakesAll out run.output
  pub cut : IsCut report (end_line run.end count)

-- memory ran out: a front of the output is in the sink, and nothing was written behind a failed write
pub record IsStopped (status : Status) (run : Coming) (out report : Change) : Type 0 where
  pub starved : IsStarved status report
  pub front : GainsFront out run.output
  pub once : RisesAtMostOnce out

abbrev pub Tells : Status → Coming → ℕ → Change → Change → Type 0
Tells status run count out report =
    IsTold status run count out report
    ⊎ (IsCutInOutput status run out report ⊎ (IsCutInLine status run count out report ⊎ IsStopped status run out report))
