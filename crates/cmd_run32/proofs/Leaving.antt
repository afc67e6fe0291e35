-- How a code's run, or what keeps it from being run, is told.
use Rattle.std.proofs.Common.{◌≡◌, ℕ, List, Some, Err, refl, ap, subst}
use Rattle.gg_base.specs.declared.run.End.{End}
use Rattle.gg_base.specs.declared.run.End.TheVariants as ends
use Rattle.gg_base.specs.Runs.{Runs}
use Rattle.cmd_session.specs.Writing.{Change, IsUntouched}
use Rattle.cmd_session.specs.Running.{Coming, coming_of}
use Rattle.cmd_session.specs.Telling.{IsRefused, Tells}
use Rattle.cmd_session.specs.declared.status.Status.{Status}
use Rattle.cmd_session.specs.declared.status.Status.TheVariants as statuses
use Rattle.cmd_files.specs.Stages.{ToldRun, Unable, Told, StarvedRun}
use Rattle.l32_core.specs.declared.code.Code32.{Code32}
use Rattle.l32_machine.specs.State.{State}
use Rattle.l32_machine.specs.Loading.{load_fault, Loads, Loaded, start}
use Rattle.l32_machine.specs.declared.loading.Load32Fault.{Load32Fault}
use Rattle.l32_machine.specs.declared.loading.Load32Fault.TheVariants as loading_fault
use Rattle.l32_machine.specs.Running.{run, state_run}
use Rattle.cmd_run32.specs.Counting.{coming}
use Rattle.cmd_run32.specs.Lines.{load_line}
use Rattle.cmd_run32.specs.Refusing.{CodeIsRefused}
use Rattle.cmd_run.specs.Texts.{IsMachineEnd}
use Rattle.cmd_run32.specs.Texts.{code_runner, fault_line}
use Rattle.cmd_run32.proofs.Steps.{steps_not_lost}

-- an end that is neither wild nor deep is a machine's
machine_end : (end : End) → (end ≡ ends.Wild → ⊥) → (end ≡ ends.Deep → ⊥) → IsMachineEnd end
machine_end (ends.Ended value) wild deep = tt
machine_end ends.Trapped wild deep = tt
machine_end ends.Wild wild deep = absurd (wild refl)
machine_end ends.Deep wild deep = absurd (deep refl)
machine_end ends.Spent wild deep = tt
machine_end (ends.Broken kind) wild deep = tt

-- the run of a loaded machine was told
pub told_run : (code : Code32) (input : List ℕ) (count : ℕ) (status : Status) (out report : Change) (m : State) → Loads code × (m ≡ start code input)
    → Tells status (coming count m) count out report → ToldRun code_runner statuses.AsmRefused code input count status out report
told_run code input count status out report m loaded told =
    let same : state_run m ≡ run code input = ap state_run loaded.1 in
    let one : coming count m ≡ coming_of (run code input count) = ap (λ (r : Runs). coming_of (r count)) same in
    let lost = steps_not_lost count (start code input) in
    Told (ap fault_line loaded.0) (machine_end (run code input count).end lost.0 lost.1)
    (subst (λ (c : Coming). Tells status c count out report) one told)

-- a fault of loading was told
unable : (code : Code32) (input : List ℕ) (count : ℕ) (status : Status) (out report : Change) (fault : Load32Fault) → IsUntouched out → load_fault code ≡ Some fault
    → IsRefused statuses.AsmRefused (load_line fault) status report → ToldRun code_runner statuses.AsmRefused code input count status out report
unable code input count status out report fault untouched found told = Unable (load_line fault) (ap fault_line found) untouched told

pub code_refused : (fault : Load32Fault) (code : Code32) (input : List ℕ) (count : ℕ) (status : Status) (out report : Change) → IsUntouched out → Loaded code input (Err fault)
    → CodeIsRefused fault status report → ToldRun code_runner statuses.AsmRefused code input count status out report
code_refused loading_fault.NoMemory code input count status out report untouched found told = StarvedRun untouched told
code_refused (loading_fault.DoubleLabel name) code input count status out report untouched found told =
    unable code input count status out report (loading_fault.DoubleLabel name) untouched found told
code_refused (loading_fault.UndefinedLabel name) code input count status out report untouched found told =
    unable code input count status out report (loading_fault.UndefinedLabel name) untouched found told
code_refused loading_fault.NoMain code input count status out report untouched found told =
    unable code input count status out report loading_fault.NoMain untouched found told
code_refused loading_fault.TooLarge code input count status out report untouched found told =
    unable code input count status out report loading_fault.TooLarge untouched found told
