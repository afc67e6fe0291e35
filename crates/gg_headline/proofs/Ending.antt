-- What `compile` leaves at status 0, and that each other end of it is a refusal.
use Rattle.std.proofs.Common.{◌≡◌, ℕ, List, inl, inr, sym, subst}
use Rattle.md_reader.specs.State.{Content}
use Rattle.c_program.specs.Programs.{AProgram}
use Rattle.cmd_compile.specs.lr_checked.specs.declared.checking.CheckFault.{CheckFault}
use Rattle.cmd_compile.specs.lr_checked.specs.declared.checking.CheckFault.TheVariants as check_fault
use Rattle.cmd_compile.specs.sel_parse.specs.Shown.{Refusal, PoolSmall, Template, Unshown}
use Rattle.cmd_session.specs.declared.status.Status.{Status}
use Rattle.cmd_session.specs.declared.status.Status.TheVariants as statuses
use Rattle.cmd_session.specs.Writing.{Change}
use Rattle.cmd_session.specs.Telling.{IsRefused, IsStarved}
use Rattle.cmd_files.specs.Outsides.{Lookup}
use Rattle.cmd_files.specs.Stages.{FileRefused, Unread, LongFile, WrongFile, StarvedFile, OutputRefused, CutOutput, StarvedOutput}
use Rattle.cmd_compile.specs.cmd_check.specs.Rules.{RulesRefused}
use Rattle.cmd_compile.specs.cmd_check.specs.cmd_descriptions.specs.Rules.{refusal_status, NotShown, StarvedShow}
use Rattle.cmd_compile.specs.cmd_check.specs.cmd_descriptions.specs.Stops.{TellsStop}
use Rattle.cmd_compile.specs.cmd_check.specs.Descriptions.{description_form, NotAccepted}
use Rattle.cmd_compile.specs.cmd_check.specs.cmd_descriptions.specs.Descriptions.{BuildRefused, TooMany, StarvedBuild, NotRead, NotBuilt, NoTables, Stopped, NoRules}
use Rattle.cmd_compile.specs.cmd_meaning.specs.Sources.{source_form}
use Rattle.cmd_compile.specs.Passing.{Passing}
use Rattle.cmd_compile.specs.Texts.{HasNoText, FrameIsFull, StarvedText, LinesRefused, CutLines, StarvedLines}
use Rattle.cmd_compile.specs.Outcome.{NoDescription, NoProgram, NoText, NotWritten, NotTold, Written}
use Rattle.gg_headline.specs.Claims.{IsRefusal, CompileEnds}

module _ (result : Status) (report : Change) where
  at : (status : Status) → result ≡ status → IsRefusal status → IsRefusal result
  at status is r = subst IsRefusal (sym is) r

  starved : IsStarved result report → IsRefusal result
  starved s = at statuses.NoMemory s.0 tt

  told : (status : Status) (line : List ℕ) → IsRefused status line result report → IsRefusal status → IsRefusal result
  told status line (inl t) r = at status t.0 r
  told status line (inr s) r = starved s

  of_description_file : (name : List ℕ) (folder : Lookup) → FileRefused description_form name folder result report → IsRefusal result
  of_description_file name folder (Unread is noted line) = at statuses.FileFault is tt
  of_description_file name folder (LongFile is longer kept line) = at statuses.TooLong is tt
  of_description_file name folder (WrongFile is line wrong kept said) = at statuses.DescRefused is tt
  of_description_file name folder (StarvedFile s once) = starved s

  of_source_file : (name : List ℕ) (folder : Lookup) → FileRefused source_form name folder result report → IsRefusal result
  of_source_file name folder (Unread is noted line) = at statuses.FileFault is tt
  of_source_file name folder (LongFile is longer kept line) = at statuses.TooLong is tt
  of_source_file name folder (WrongFile is line wrong kept said) = at statuses.SourceRefused is tt
  of_source_file name folder (StarvedFile s once) = starved s

  of_build : (d : Content) → BuildRefused d result report → IsRefusal result
  of_build d (TooMany is many line) = at statuses.Full is tt
  of_build d (StarvedBuild s) = starved s

  of_stop : (fault : CheckFault) → TellsStop fault result report → IsRefusal result
  of_stop check_fault.NoMemory s = starved s
  of_stop (check_fault.Blocks nodes) t = told statuses.Blocks _ t tt
  of_stop (check_fault.Loops nodes) t = told statuses.Loops _ t tt
  of_stop check_fault.CheckFull t = told statuses.Full _ t tt

  of_refusal : (r : Refusal) → IsRefusal (refusal_status r)
  of_refusal (PoolSmall rule need) = tt
  of_refusal (Template rule line kind) = tt
  of_refusal (Unshown rule wanted found) = tt

  of_rules : (d : Content) → RulesRefused d result report → IsRefusal result
  of_rules d (NotShown r first t) = told (refusal_status r) _ t (of_refusal r)
  of_rules d (StarvedShow s) = starved s

  of_description : (name : List ℕ) (folder : Lookup) → NotAccepted name folder result report → IsRefusal result
  of_description name folder (NoTables (NotRead r)) = of_description_file name folder r
  of_description name folder (NoTables (NotBuilt d holds kept r)) = of_build d r
  of_description name folder (Stopped d holds kept few r) = of_stop r.fault r.told
  of_description name folder (NoRules d holds kept few sums never r) = of_rules d r

  of_text : (p : AProgram) → HasNoText p result report → IsRefusal result
  of_text p (FrameIsFull function need over t) = told statuses.FrameFull _ t tt
  of_text p (StarvedText s) = starved s

  of_output : (out : Change) (text : List ℕ) → OutputRefused text result out report → IsRefusal result
  of_output out text (CutOutput is cut line) = at statuses.WriteFault is tt
  of_output out text (StarvedOutput s front once) = starved s

  of_lines : {lines : List ℕ} → LinesRefused lines result report → IsRefusal result
  of_lines (CutLines is cut) = at statuses.WriteFault is tt
  of_lines (StarvedLines s) = starved s

pub compile_ends : (by : Passing) → CompileEnds by
compile_ends by result names at (NoDescription untouched r) = inr (of_description result at.report names.description at.folder r)
compile_ends by result names at (NoProgram d finds untouched r) = inr (of_source_file result at.report names.source at.folder r)
compile_ends by result names at (NoText d p finds untouched r) = inr (of_text result at.report p r)
compile_ends by result names at (NotWritten d p finds text is_text r) = inr (of_output result at.report at.out text r)
compile_ends by result names at (NotTold d p finds text is_text takes r) = inr (of_lines result at.report r)
compile_ends by result names at (Written is compiled) = inl (is, compiled)
