-- How a file is read as a source, and how its run is told.
use Rattle.std.proofs.Common.{◌≡◌, ℕ, List, false, Err, refl, ap, subst, ◌∙◌}
use Rattle.gg_base.specs.declared.place.Place.{Place}
use Rattle.gg_base.specs.declared.run.Break.{Break}
use Rattle.gg_base.specs.declared.run.End.{End}
use Rattle.gg_base.specs.declared.run.End.TheVariants as ends
use Rattle.gg_base.specs.Runs.{Outcome, Remaining}
use Rattle.cmd_session.specs.Running.{coming_of}
use Rattle.cmd_session.specs.Telling.{Tells}
use Rattle.cmd_session.specs.Writing.{Change}
use Rattle.cmd_session.specs.declared.status.Status.{Status}
use Rattle.cmd_session.specs.declared.status.Status.TheVariants as statuses
use Rattle.cmd_files.specs.Forms.{IsRefusedBy}
use Rattle.cmd_files.specs.Stages.{ToldRun, Told}
use Rattle.c_program.specs.Programs.{AProgram}
use Rattle.c_typed.specs.declared.source.SourceKind.{SourceKind}
use Rattle.c_typed.specs.declared.source.SourceFault.{SourceFault}
use Rattle.c_typed.specs.declared.source.SourceFault.TheVariants as faults
use Rattle.c_typed.specs.Sources.{Reads, IsRefused, IsOnly}
use Rattle.c_meaning.specs.Programs.{source}
use Rattle.cmd_meaning.specs.Lines.{fault_line}
use Rattle.cmd_meaning.specs.Sources.{source_form, source_runner, IsSourceEnd}

-- bytes that are no source
pub no_source : (bytes line : List ℕ) (fault : SourceFault) (place : Place) (kind : SourceKind) → fault ≡ faults.At place kind → IsRefused bytes fault
    → ((program : AProgram) → Reads bytes program → IsOnly (Err fault) program) → line ≡ fault_line place kind → IsRefusedBy source_form bytes line
no_source bytes line fault place kind is refused only named = record {
  refuses = record { place = place; kind = kind; first = subst (IsRefused bytes) is refused; named = named };
  unread = λ program reads. subst (λ (f : SourceFault). IsOnly (Err f) program) is (only program reads);
}

-- an end that breaks nothing is a source's
source_end : (end : End) → ((kind : Break) → end ≡ ends.Broken kind → ⊥) → IsSourceEnd end
source_end (ends.Ended value) unbroken = tt
source_end ends.Trapped unbroken = tt
source_end ends.Wild unbroken = tt
source_end ends.Deep unbroken = tt
source_end ends.Spent unbroken = tt
source_end (ends.Broken kind) unbroken = absurd (unbroken kind refl)

-- the run that was begun was told
pub told_run : (program shown : AProgram) (input : List ℕ) (count : ℕ) (status : Status) (out report : Change) (run : Remaining) → shown ≡ program → run
    ≡ record { outcome = source shown input count; taken = 0; failed = false } → ((n : ℕ) (kind : Break) → (source shown input n).end ≡ ends.Broken kind → ⊥)
    → Tells status (coming_of run.outcome) count out report → ToldRun source_runner statuses.SourceRefused program input count status out report
told_run program shown input count status out report run same begins unbroken told =
    let one : run.outcome ≡ source program input count =
    ap (λ (r : Remaining). r.outcome) begins ∙ ap (λ (p : AProgram). source p input count) same in
    let whole : (n : ℕ) (kind : Break) → (source program input n).end ≡ ends.Broken kind → ⊥ =
    subst (λ (p : AProgram). (n : ℕ) (kind : Break) → (source p input n).end ≡ ends.Broken kind → ⊥) same unbroken in
    Told refl (source_end (source program input count).end (whole count))
    (subst (λ (o : Outcome). Tells status (coming_of o) count out report) one told)
