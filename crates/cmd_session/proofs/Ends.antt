-- How the telling of a run ends.
use Rattle.std.proofs.Common.{ℕ, inl, inr}
use Rattle.cmd_session.specs.declared.status.Status.{Status}
use Rattle.cmd_session.specs.declared.status.Status.TheVariants as statuses
use Rattle.cmd_session.specs.Lines.{output_failed_line}
use Rattle.cmd_session.specs.Writing.{Change, GainsFront, Rises}
use Rattle.cmd_session.specs.Running.{Coming}
use Rattle.cmd_session.specs.Telling.{IsRefused, Tells}

-- a write of the output failed, and its line was told as far as memory was there
pub cut_in_output : (result : Status) (run : Coming) (count : ℕ) (out report : Change) → Rises out → GainsFront out run.output
    → IsRefused statuses.WriteFault output_failed_line result report → Tells result run count out report
cut_in_output result run count out report rises front (inl refused) =
    inr (inl (record { status_is = refused.0; cut = record { front = front; rises = rises }; line = refused.1 }))
cut_in_output result run count out report rises front (inr starved) =
    inr (inr (inr (record { starved = starved; front = front; once = inr rises })))
