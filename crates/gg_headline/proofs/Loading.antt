-- What a call of `load` came to that answers 16.
use Rattle.std.proofs.Common.{◌≡◌, ◌≤◌, ℕ, List, inl, inr, subst}
use Rattle.cmd_session.specs.declared.status.Status.{Status}
use Rattle.cmd_session.specs.declared.status.Status.TheVariants as statuses
use Rattle.cmd_session.specs.Writing.{Change}
use Rattle.cmd_session.specs.Telling.{IsRefused}
use Rattle.cmd_files.specs.Outsides.{Lookup, Outside}
use Rattle.cmd_files.specs.Stages.{FileRefused, Unread, LongFile, WrongFile, StarvedFile, OutputRefused, CutOutput, StarvedOutput}
use Rattle.md_reader.specs.State.{Content}
use Rattle.c_typed.specs.Sources.{Reads}
use Rattle.c_typed_one.specs.Claims.{SourcesHaveOneProgram}
use Rattle.gg_load.specs.Source.{source_text}
use Rattle.gg_load_program.specs.Program.{source_program}
use Rattle.gg_load_bound.specs.Claims.{GeneratedCodesAreBounded}
use Rattle.gg_headline.specs.Bounded.{ChangeNothing}
use Rattle.cmd_load.specs.cmd_compile.specs.lr_checked.specs.declared.checking.CheckFault.{CheckFault}
use Rattle.cmd_load.specs.cmd_compile.specs.lr_checked.specs.declared.checking.CheckFault.TheVariants as check_fault
use Rattle.cmd_load.specs.cmd_compile.specs.sel_parse.specs.Shown.{Refusal, PoolSmall, Template, Unshown}
use Rattle.cmd_load.specs.cmd_check.specs.Descriptions.{description_form, NotAccepted}
use Rattle.cmd_load.specs.cmd_check.specs.cmd_descriptions.specs.Descriptions.{BuildRefused, TooMany, StarvedBuild, NotRead, NotBuilt, NoTables, Stopped, NoRules}
use Rattle.cmd_load.specs.cmd_check.specs.Rules.{RulesRefused}
use Rattle.cmd_load.specs.cmd_check.specs.cmd_descriptions.specs.Rules.{refusal_status, NotShown, StarvedShow}
use Rattle.cmd_load.specs.cmd_check.specs.cmd_descriptions.specs.Stops.{TellsStop}
use Rattle.cmd_load.specs.cmd_compile.specs.Passing.{Passing}
use Rattle.cmd_load.specs.declared.summary.Summary.{Summary}
use Rattle.cmd_load.specs.Telling.{SummaryTold, Whole, Cut, StarvedSummary}
use Rattle.cmd_load.specs.Outcome.{Loads, Starved, NotWritten, IsSpent, BothEnded, Finds, Leaves, NoDescription, Behind}
use Rattle.gg_headline.specs.Loading.{HasLongCode, SpentLoadsAreLong}
use Rattle.gg_headline.proofs.Long.{is_fit, is_long}

-- ---- no refusal has the status 16

abbrev Spends : Status → Type 0
Spends statuses.Spent = Unit {0}
Spends s = ⊥

never : (status : Status) → (Spends status → ⊥) → statuses.Spent ≡ status → ⊥
never status other e = other (subst Spends e tt)

told : (status : Status) (line : List ℕ) (report : Change) → (Spends status → ⊥) → IsRefused status line statuses.Spent report → ⊥
told status line report other (inl said) = never status other said.0
told status line report other (inr starved) = never statuses.NoMemory (λ x. x) starved.0

of_file : (name : List ℕ) (folder : Lookup) (report : Change) → FileRefused description_form name folder statuses.Spent report → ⊥
of_file name folder report (Unread e noted line) = never statuses.FileFault (λ x. x) e
of_file name folder report (LongFile e longer kept line) = never statuses.TooLong (λ x. x) e
of_file name folder report (WrongFile e line wrong kept said) = never statuses.DescRefused (λ x. x) e
of_file name folder report (StarvedFile starved once) = never statuses.NoMemory (λ x. x) starved.0

of_build : (d : Content) (report : Change) → BuildRefused d statuses.Spent report → ⊥
of_build d report (TooMany e many line) = never statuses.Full (λ x. x) e
of_build d report (StarvedBuild starved) = never statuses.NoMemory (λ x. x) starved.0

of_stop : (fault : CheckFault) (report : Change) → TellsStop fault statuses.Spent report → ⊥
of_stop check_fault.NoMemory report starved = never statuses.NoMemory (λ x. x) starved.0
of_stop (check_fault.Blocks nodes) report said = told statuses.Blocks _ report (λ x. x) said
of_stop (check_fault.Loops nodes) report said = told statuses.Loops _ report (λ x. x) said
of_stop check_fault.CheckFull report said = told statuses.Full _ report (λ x. x) said

refusal_other : (r : Refusal) → Spends (refusal_status r) → ⊥
refusal_other (PoolSmall rule need) x = x
refusal_other (Template rule line kind) x = x
refusal_other (Unshown rule wanted found) x = x

of_rules : (d : Content) (report : Change) → RulesRefused d statuses.Spent report → ⊥
of_rules d report (NotShown r first said) = told (refusal_status r) _ report (refusal_other r) said
of_rules d report (StarvedShow starved) = never statuses.NoMemory (λ x. x) starved.0

of_description : (name : List ℕ) (folder : Lookup) (report : Change) → NotAccepted name folder statuses.Spent report → ⊥
of_description name folder report (NoTables (NotRead r)) = of_file name folder report r
of_description name folder report (NoTables (NotBuilt d holds kept r)) = of_build d report r
of_description name folder report (Stopped d holds kept few r) = of_stop r.fault report r.told
of_description name folder report (NoRules d holds kept few sums goes_on r) = of_rules d report r

of_output : (bytes : List ℕ) (out report : Change) → OutputRefused bytes statuses.Spent out report → ⊥
of_output bytes out report (CutOutput e cut said) = never statuses.WriteFault (λ x. x) e
of_output bytes out report (StarvedOutput starved front once) = never statuses.NoMemory (λ x. x) starved.0

of_summary : (summary : Summary) (report : Change) → SummaryTold summary statuses.Spent report → ⊥
of_summary summary report (Whole e said) = never statuses.Done (λ x. x) e
of_summary summary report (Cut e cut) = never statuses.WriteFault (λ x. x) e
of_summary summary report (StarvedSummary starved) = never statuses.NoMemory (λ x. x) starved.0

-- ---- so the text's run is spent

module _ (reads : (k : ℕ) → k ≤ 1000 → Reads (source_text k) (source_program k)) (one_program : SourcesHaveOneProgram) (bounded : GeneratedCodesAreBounded)
    (by : Passing) (name : List ℕ) (k : ℕ) (at : Outside) where
  of_loads : ChangeNothing by → k ≤ 1000 → (d : Content) → Finds name at d → (out report : Change) → Loads by d k statuses.Spent out report → HasLongCode by name k at
  of_loads unchanged low d finds out report (Starved untouched starved) = absurd (never statuses.NoMemory (λ x. x) starved.0)
  of_loads unchanged low d finds out report (NotWritten made r) = absurd (of_output _ out report r)
  of_loads unchanged low d finds out report (IsSpent made spent output said) = record {
    description = d;
    finds = finds;
    made = made;
    spent = spent;
    long = is_long reads one_program bounded by unchanged d k low (is_fit name at d finds) made spent;
  }
  of_loads unchanged low d finds out report (BothEnded made output summary alike written said) = absurd (of_summary summary report said)

  long_code : ChangeNothing by → k ≤ 1000 → Leaves by statuses.Spent name k at → HasLongCode by name k at
  long_code unchanged low (NoDescription untouched r) = absurd (of_description name at.folder at.report r)
  long_code unchanged low (Behind d finds loads) = of_loads unchanged low d finds at.out at.report loads

pub spent_loads_are_long : ((k : ℕ) → k ≤ 1000 → Reads (source_text k) (source_program k)) → SourcesHaveOneProgram → GeneratedCodesAreBounded → (by : Passing) → SpentLoadsAreLong by
spent_loads_are_long reads one_program bounded by name k at unchanged low leaves = long_code reads one_program bounded by name k at unchanged low leaves
