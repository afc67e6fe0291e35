-- Which statuses come.
use Rattle.std.proofs.Common.{◌≡◌, ℕ, List, inl, inr, sym, subst}
use Rattle.cmd_session.specs.declared.status.Status.{Status}
use Rattle.cmd_session.specs.declared.status.Status.TheVariants as statuses
use Rattle.cmd_session.specs.Writing.{Change}
use Rattle.cmd_session.specs.Telling.{IsRefused}
use Rattle.cmd_files.specs.Outsides.{Lookup, Outside}
use Rattle.cmd_files.specs.Stages.{FileRefused, Unread, LongFile, WrongFile, StarvedFile, OutputRefused, CutOutput, StarvedOutput}
use Rattle.md_reader.specs.State.{Content}
use Rattle.cmd_compile.specs.lr_checked.specs.declared.checking.CheckFault.{CheckFault}
use Rattle.cmd_compile.specs.lr_checked.specs.declared.checking.CheckFault.TheVariants as check_fault
use Rattle.cmd_compile.specs.sel_parse.specs.Shown.{Refusal, PoolSmall, Template, Unshown}
use Rattle.cmd_compile.specs.cmd_check.specs.Descriptions.{description_form, NotAccepted}
use Rattle.cmd_compile.specs.cmd_check.specs.cmd_descriptions.specs.Descriptions.{BuildRefused, TooMany, StarvedBuild, NotRead, NotBuilt, NoTables, Stopped, NoRules}
use Rattle.cmd_compile.specs.cmd_check.specs.Rules.{RulesRefused}
use Rattle.cmd_compile.specs.cmd_check.specs.cmd_descriptions.specs.Rules.{refusal_status, NotShown, StarvedShow}
use Rattle.cmd_compile.specs.cmd_check.specs.cmd_descriptions.specs.Stops.{TellsStop}
use Rattle.cmd_compile.specs.Passing.{Passing}
use Rattle.cmd_load.specs.declared.summary.Summary.{Summary}
use Rattle.cmd_load.specs.Telling.{SummaryTold, Whole, Cut, StarvedSummary}
use Rattle.cmd_load.specs.Outcome.{Loads, Starved, NotWritten, IsSpent, BothEnded, Leaves, NoDescription, Behind, MayCome}

module _ (result : Status) where
  is : (status : Status) → MayCome status → result ≡ status → MayCome result
  is status may e = subst MayCome (sym e) may

  told : (status : Status) (line : List ℕ) (report : Change) → MayCome status → IsRefused status line result report → MayCome result
  told status line report may (inl said) = is status may said.0
  told status line report may (inr starved) = is statuses.NoMemory tt starved.0

  of_file : (name : List ℕ) (folder : Lookup) (report : Change) → FileRefused description_form name folder result report → MayCome result
  of_file name folder report (Unread e noted line) = is statuses.FileFault tt e
  of_file name folder report (LongFile e longer kept line) = is statuses.TooLong tt e
  of_file name folder report (WrongFile e line wrong kept said) = is statuses.DescRefused tt e
  of_file name folder report (StarvedFile starved once) = is statuses.NoMemory tt starved.0

  of_build : (d : Content) (report : Change) → BuildRefused d result report → MayCome result
  of_build d report (TooMany e many line) = is statuses.Full tt e
  of_build d report (StarvedBuild starved) = is statuses.NoMemory tt starved.0

  of_stop : (fault : CheckFault) (report : Change) → TellsStop fault result report → MayCome result
  of_stop check_fault.NoMemory report starved = is statuses.NoMemory tt starved.0
  of_stop (check_fault.Blocks nodes) report said = told _ _ report tt said
  of_stop (check_fault.Loops nodes) report said = told _ _ report tt said
  of_stop check_fault.CheckFull report said = told _ _ report tt said

  refusal_may : (r : Refusal) → MayCome (refusal_status r)
  refusal_may (PoolSmall rule need) = tt
  refusal_may (Template rule line kind) = tt
  refusal_may (Unshown rule wanted found) = tt

  of_rules : (d : Content) (report : Change) → RulesRefused d result report → MayCome result
  of_rules d report (NotShown r first said) = told (refusal_status r) _ report (refusal_may r) said
  of_rules d report (StarvedShow starved) = is statuses.NoMemory tt starved.0

  of_description : (name : List ℕ) (folder : Lookup) (report : Change) → NotAccepted name folder result report → MayCome result
  of_description name folder report (NoTables (NotRead r)) = of_file name folder report r
  of_description name folder report (NoTables (NotBuilt d holds kept r)) = of_build d report r
  of_description name folder report (Stopped d holds kept few r) = of_stop r.fault report r.told
  of_description name folder report (NoRules d holds kept few sums never r) = of_rules d report r

  of_output : (bytes : List ℕ) (out report : Change) → OutputRefused bytes result out report → MayCome result
  of_output bytes out report (CutOutput e cut said) = is statuses.WriteFault tt e
  of_output bytes out report (StarvedOutput starved front once) = is statuses.NoMemory tt starved.0

  of_summary : (summary : Summary) (report : Change) → SummaryTold summary result report → MayCome result
  of_summary summary report (Whole e said) = is statuses.Done tt e
  of_summary summary report (Cut e cut) = is statuses.WriteFault tt e
  of_summary summary report (StarvedSummary starved) = is statuses.NoMemory tt starved.0

  of_loads : (by : Passing) (d : Content) (k : ℕ) (out report : Change) → Loads by d k result out report → MayCome result
  of_loads by d k out report (Starved untouched starved) = is statuses.NoMemory tt starved.0
  of_loads by d k out report (NotWritten made r) = of_output _ out report r
  of_loads by d k out report (IsSpent made spent output said) = told _ _ report tt said
  of_loads by d k out report (BothEnded made output summary alike written said) = of_summary summary report said

  pub may_come : (by : Passing) (name : List ℕ) (k : ℕ) (at : Outside) → Leaves by result name k at → MayCome result
  may_come by name k at (NoDescription untouched r) = of_description name at.folder at.report r
  may_come by name k at (Behind d finds loads) = of_loads by d k at.out at.report loads
