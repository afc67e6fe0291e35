-- What the command leaves behind where its line was not written whole.
use Rattle.std.proofs.Common.{◌≡◌, ◌∙◌, ℕ, List, Some, length, inl, inr, refl, sym, ap, subst}
use Rattle.cmd_session.specs.declared.status.Status.{Status}
use Rattle.cmd_session.specs.declared.status.Status.TheVariants as statuses
use Rattle.cmd_session.specs.Writing.{IsUntouched, Reports}
use Rattle.cmd_session.specs.Telling.{IsRefused, IsStarved}
use Rattle.cmd_files.specs.Forms.{Holds}
use Rattle.cmd_files.specs.Outsides.{Outside, IsUnfailed, FailsAtMost}
use Rattle.cmd_files.specs.Stages.{OutputRefused, CutOutput, StarvedOutput, FileRefused, Unread, LongFile, WrongFile, StarvedFile}
use Rattle.md_reader.specs.State.{Content}
use Rattle.lr_tables.specs.Promises.{HasTooManySets}
use Rattle.sel_parse.specs.Shown.{Refusal, PoolSmall, Template, Unshown}
use Rattle.lr_tables.specs.View.{TableView}
use Rattle.lr_checked.specs.declared.checking.CheckFault.{CheckFault}
use Rattle.lr_checked.specs.declared.checking.CheckFault.TheVariants as check_fault
use Rattle.lr_checked.specs.Accepted.{NeverStops}
use Rattle.lr_checked.specs.Counted.{HasTooManySums}
use Rattle.lr_checked.specs.Refusals.{FaultIsReal, SumsAreFirst}
use Rattle.cmd_descriptions.specs.Lines.{ok_line, tables_line}
use Rattle.cmd_descriptions.specs.Machines.{Machine}
use Rattle.cmd_descriptions.specs.Rules.{refusal_on, refusal_lines, refusal_status, RulesRefusedBy, NotShown, StarvedShow}
use Rattle.cmd_descriptions.specs.Descriptions.{description_form_for, BuildRefused, TooMany, StarvedBuild, TablesRefused, NotRead, NotBuilt, NotAcceptedFor}
use Rattle.cmd_descriptions.specs.Descriptions.{NoTables, Stopped, NoRules}
use Rattle.cmd_descriptions.specs.Stops.{stop_lines, TellsStop}
use Rattle.cmd_descriptions.specs.Outcome.{Builds, Stops, LeavesFor}

-- the line of the tables, by its two numbers
pub counted : (line : List ℕ) (r s : ℕ) (t : TableView) → r ≡ length t.content.rules → s ≡ length t.rows → line ≡ ok_line r s → line ≡ tables_line t
counted line r s t p q e = e ∙ (ap (λ (x : ℕ). ok_line x s) p ∙ ap (λ (x : ℕ). ok_line (length t.content.rules) x) q)

module _ (m : Machine) where
  at_status : (result status : Status) (name : List ℕ) (at : Outside) → result ≡ status → LeavesFor m status name at → LeavesFor m result name at
  at_status result status name at is l = subst (λ (s : Status). LeavesFor m s name at) (sym is) l

  -- the line was not written whole
  unwritten_at : (result : Status) (name : List ℕ) (at : Outside) (t : TableView) → Builds m name at t → OutputRefused (tables_line t) result at.out at.report → LeavesFor m result name at
  unwritten_at result name at t builds (CutOutput is cut told) =
      at_status result statuses.WriteFault name at is (record { tables = t; builds = builds; cut = cut; told = told })
  unwritten_at result name at t builds (StarvedOutput starved front once) =
      at_status result statuses.NoMemory name at starved.0
      (record { names = inl builds.finds.unfailed; out = inr (record { tables = t; builds = builds; front = front; once = once }); report = starved.1 })

  pub unwritten : (result : Status) (name : List ℕ) (at : Outside) (t : TableView) (line slice : List ℕ) → Builds m name at t → slice ≡ line → line ≡ tables_line t
      → OutputRefused slice result at.out at.report → LeavesFor m result name at
  unwritten result name at t line slice builds is line_is r =
      unwritten_at result name at t builds
      (subst (λ (b : List ℕ). OutputRefused b result at.out at.report) line_is (subst (λ (b : List ℕ). OutputRefused b result at.out at.report) is r))

  -- what is left where nothing was written
  stopped : (status : Status) (name : List ℕ) (at : Outside) → IsStarved status at.report → FailsAtMost name at.folder → IsUntouched at.out → LeavesFor m status name at
  stopped status name at starved names untouched =
      at_status status statuses.NoMemory name at starved.0 (record { names = names; out = inl untouched; report = starved.1 })

  file_refused : (status : Status) (name : List ℕ) (at : Outside) → FileRefused (description_form_for m.word) name at.folder status at.report → IsUntouched at.out → LeavesFor m status name at
  file_refused status name at (Unread is noted told) untouched =
      at_status status statuses.FileFault name at is (record { noted = noted; refused = record { out = untouched; told = told } })
  file_refused status name at (LongFile is longer unfailed told) untouched =
      at_status status statuses.TooLong name at is (record { longer = longer; unfailed = unfailed; refused = record { out = untouched; told = told } })
  file_refused status name at (WrongFile is line wrong unfailed told) untouched =
      at_status status statuses.DescRefused name at is
      (record { line = line; wrong = wrong; unfailed = unfailed; refused = record { out = untouched; told = told } })
  file_refused status name at (StarvedFile starved names) untouched = stopped status name at starved names untouched

  build_refused : (status : Status) (name : List ℕ) (at : Outside) (d : Content) → Holds (description_form_for m.word) (at.folder.holds name) d → IsUnfailed at.folder
      → BuildRefused d status at.report → IsUntouched at.out → LeavesFor m status name at
  build_refused status name at d holds unfailed (TooMany is many told) untouched =
      at_status status statuses.Full name at is
      (inl (record { description = d; finds = record { holds = holds; unfailed = unfailed }; many = many; untouched = untouched; told = told }))
  build_refused status name at d holds unfailed (StarvedBuild starved) untouched = stopped status name at starved (inl unfailed) untouched

  tables_refused : (status : Status) (name : List ℕ) (at : Outside) → TablesRefused m.word name at.folder status at.report → IsUntouched at.out → LeavesFor m status name at
  tables_refused status name at (NotRead r) untouched = file_refused status name at r untouched
  tables_refused status name at (NotBuilt d holds unfailed r) untouched = build_refused status name at d holds unfailed r untouched

  -- what is left where the tables were refused and the fault told
  stops : (fault : CheckFault) (name : List ℕ) (at : Outside) (d : Content) → Holds (description_form_for m.word) (at.folder.holds name) d → IsUnfailed at.folder
      → (HasTooManySets d → ⊥) → FaultIsReal d fault → SumsAreFirst d fault → IsUntouched at.out → Reports at.report (stop_lines fault) → Stops m fault name at
  stops fault name at d holds unfailed few real sums untouched told = record {
    description = d;
    finds = record { holds = holds; unfailed = unfailed };
    few = few;
    real = real;
    sums = sums;
    untouched = untouched;
    told = told;
  }

  told_or_starved : (result status : Status) (line : List ℕ) (name : List ℕ) (at : Outside) → IsUnfailed at.folder → IsUntouched at.out
      → IsRefused status line result at.report → (Reports at.report line → LeavesFor m status name at) → LeavesFor m result name at
  told_or_starved result status line name at unfailed untouched (inl told) go = at_status result status name at told.0 (go told.1)
  told_or_starved result status line name at unfailed untouched (inr starved) go = stopped result name at starved (inl unfailed) untouched

  stop_refused : (result : Status) (name : List ℕ) (at : Outside) (d : Content) → Holds (description_form_for m.word) (at.folder.holds name) d → IsUnfailed at.folder
      → (HasTooManySets d → ⊥) → (fault : CheckFault) → FaultIsReal d fault → SumsAreFirst d fault → TellsStop fault result at.report → IsUntouched at.out → LeavesFor m result name at
  stop_refused result name at d holds unfailed few check_fault.NoMemory real sums told untouched = stopped result name at told (inl unfailed) untouched
  stop_refused result name at d holds unfailed few (check_fault.Blocks nodes) real sums told untouched =
      told_or_starved result statuses.Blocks _ name at unfailed untouched told
      (λ line. record { sample = nodes; stops = stops (check_fault.Blocks nodes) name at d holds unfailed few real sums untouched line })
  stop_refused result name at d holds unfailed few (check_fault.Loops nodes) real sums told untouched =
      told_or_starved result statuses.Loops _ name at unfailed untouched told
      (λ line. record { sample = nodes; stops = stops (check_fault.Loops nodes) name at d holds unfailed few real sums untouched line })
  stop_refused result name at d holds unfailed few check_fault.CheckFull real sums told untouched =
      told_or_starved result statuses.Full _ name at unfailed untouched told
      (λ line. inr (stops check_fault.CheckFull name at d holds unfailed few real sums untouched line))

  not_shown : (r : Refusal) (name : List ℕ) (at : Outside) (d : Content) → Holds (description_form_for m.word) (at.folder.holds name) d → IsUnfailed at.folder
      → (HasTooManySets d → ⊥) → (HasTooManySums d → ⊥) → NeverStops d → refusal_on m d ≡ Some r → Reports at.report (refusal_lines r) → IsUntouched at.out → LeavesFor m (refusal_status r) name at
  not_shown (PoolSmall rule need) name at d holds unfailed few sums never first told untouched = record {
    description = d;
    finds = record { holds = holds; unfailed = unfailed };
    few = few;
    sums = sums;
    never = never;
    refusal = PoolSmall rule need;
    first = first;
    status_is = refl;
    untouched = untouched;
    told = told;
  }
  not_shown (Template rule line kind) name at d holds unfailed few sums never first told untouched = record {
    description = d;
    finds = record { holds = holds; unfailed = unfailed };
    few = few;
    sums = sums;
    never = never;
    refusal = Template rule line kind;
    first = first;
    status_is = refl;
    untouched = untouched;
    told = told;
  }
  not_shown (Unshown rule wanted found) name at d holds unfailed few sums never first told untouched = record {
    description = d;
    finds = record { holds = holds; unfailed = unfailed };
    few = few;
    sums = sums;
    never = never;
    refusal = Unshown rule wanted found;
    first = first;
    status_is = refl;
    untouched = untouched;
    told = told;
  }

  rules_refused : (status : Status) (name : List ℕ) (at : Outside) (d : Content) → Holds (description_form_for m.word) (at.folder.holds name) d → IsUnfailed at.folder
      → (HasTooManySets d → ⊥) → (HasTooManySums d → ⊥) → NeverStops d → RulesRefusedBy (refusal_on m d) status at.report → IsUntouched at.out → LeavesFor m status name at
  rules_refused status name at d holds unfailed few sums never (NotShown r first (inl told)) untouched =
      at_status status (refusal_status r) name at told.0 (not_shown r name at d holds unfailed few sums never first told.1 untouched)
  rules_refused status name at d holds unfailed few sums never (NotShown r first (inr starved)) untouched = stopped status name at starved (inl unfailed) untouched
  rules_refused status name at d holds unfailed few sums never (StarvedShow starved) untouched = stopped status name at starved (inl unfailed) untouched

  pub refused : (status : Status) (name : List ℕ) (at : Outside) → NotAcceptedFor m name at.folder status at.report → IsUntouched at.out → LeavesFor m status name at
  refused status name at (NoTables r) untouched = tables_refused status name at r untouched
  refused status name at (Stopped d holds unfailed few r) untouched = stop_refused status name at d holds unfailed few r.fault r.real r.sums r.told untouched
  refused status name at (NoRules d holds unfailed few sums never r) untouched = rules_refused status name at d holds unfailed few sums never r untouched
