-- By an accepted description `compile` comes to its text, or to a fault of the outside, of the source or of a frame.
use Rattle.std.proofs.Common.{◌≡◌, ◌⊎◌, ℕ, ◌+◌, List, [], ◌∷◌, ◌++◌, length, inl, inr, sym, ap, ◌∙◌, subst, arith}
use Rattle.std.proofs.lemmas.List.{length-append}
use Rattle.md_reader.specs.State.{Content}
use Rattle.c_program.specs.Programs.{AProgram}
use Rattle.cmd_session.specs.declared.status.Status.{Status}
use Rattle.cmd_session.specs.declared.status.Status.TheVariants as statuses
use Rattle.cmd_session.specs.Telling.{IsRefused}
use Rattle.cmd_files.specs.Forms.{Holds}
use Rattle.cmd_files.specs.Outsides.{Outside, IsUnfailed, Fails}
use Rattle.cmd_files.specs.Stages.{FileRefused, Unread, LongFile, WrongFile, StarvedFile, OutputRefused, CutOutput, StarvedOutput}
use Rattle.cmd_files.specs.Exact.{IsAnswer}
use Rattle.cmd_compile.specs.cmd_check.specs.Descriptions.{NotAccepted}
use Rattle.cmd_compile.specs.cmd_check.specs.cmd_descriptions.specs.Descriptions.{NotRead, NotBuilt, NoTables, Stopped, NoRules}
use Rattle.cmd_compile.specs.cmd_check.proofs.Exactly.{IsNot, of_description, not_refused}
use Rattle.cmd_compile.specs.cmd_meaning.specs.Sources.{source_form}
use Rattle.cmd_compile.specs.Lines.{name_at, frame_line}
use Rattle.cmd_compile.specs.Passing.{Passing}
use Rattle.cmd_compile.specs.Texts.{HasNoText, LinesRefused}
use Rattle.cmd_compile.specs.Texts as texts
use Rattle.cmd_compile.specs.Outcome.{Files, Leaves}
use Rattle.cmd_compile.specs.Outcome as outcome
use Rattle.cmd_compile.specs.Exact.{Works}
use Rattle.cmd_compile.specs.gg_compile.specs.Needs.{IsFirstOver}
use Rattle.gg_headline.specs.Compiling.{ComesTo, Compiled, Starved, SourceTooLong, FrameIsFull, CompileComesTo, RefusesDescription, AcceptedIsNotRefused}
use Rattle.gg_headline.specs.Compiling as comes

no_longer : {A : Type 0} (xs : List A) (x : A) → xs ≡ xs ++ (x ∷ []) → ⊥
no_longer xs x e = omega (arith, ap length e, length-append xs (x ∷ []))

module _ (by : Passing) (result : Status) (names : Files) (at : Outside) where
  -- what failed was noted
  not_noted : (name : List ℕ) → IsUnfailed at.folder → Fails name at.folder → ⊥
  not_noted name kept noted = no_longer at.folder.before name (sym kept ∙ noted)

  starved : IsAnswer statuses.NoMemory result → ComesTo by result names at
  starved (inl is) = Starved is
  starved (inr is) = Starved is

  module _ (d : Content) (works : Works names at d) where
    -- the description was read, so it is refused for want of memory alone
    was_read : IsUnfailed at.folder → NotAccepted names.description at.folder result at.report → ComesTo by result names at
    was_read kept r = answered (of_description result names.description at.folder at.report (not_noted names.description kept) r)
      where
        answered : IsNot result (at.folder.holds names.description) → ComesTo by result names at
        answered (inl is) = Starved is
        answered (inr of) = starved (not_refused result (at.folder.holds names.description) d statuses.NoMemory works.item works.accepted of)

    not_accepted : NotAccepted names.description at.folder result at.report → ComesTo by result names at
    not_accepted (NoTables (NotRead (Unread is noted told))) = comes.NotRead is (inl noted)
    not_accepted (NoTables (NotRead (LongFile is longer kept told))) = was_read kept (NoTables (NotRead (LongFile is longer kept told)))
    not_accepted (NoTables (NotRead (WrongFile is line wrong kept told))) = was_read kept (NoTables (NotRead (WrongFile is line wrong kept told)))
    not_accepted (NoTables (NotRead (StarvedFile s once))) = Starved s.0
    not_accepted (NoTables (NotBuilt e holds kept r)) = was_read kept (NoTables (NotBuilt e holds kept r))
    not_accepted (Stopped e holds kept few r) = was_read kept (Stopped e holds kept few r)
    not_accepted (NoRules e holds kept few sums never r) = was_read kept (NoRules e holds kept few sums never r)

    no_program : FileRefused source_form names.source at.folder result at.report → ComesTo by result names at
    no_program (Unread is noted told) = comes.NotRead is (inr noted)
    no_program (LongFile is longer kept told) = SourceTooLong is longer
    no_program (WrongFile is line wrong kept told) = comes.NoProgram is line wrong
    no_program (StarvedFile s once) = Starved s.0

    over : (p : AProgram) (function need : ℕ) → Holds source_form (at.folder.holds names.source) p → IsFirstOver p function need
        → IsRefused statuses.FrameFull (frame_line (name_at p function) need) result at.report → ComesTo by result names at
    over p function need holds o (inl told) = FrameIsFull told.0 p holds function need o
    over p function need holds o (inr s) = Starved s.0

    no_text : (p : AProgram) → Holds source_form (at.folder.holds names.source) p → HasNoText p result at.report → ComesTo by result names at
    no_text p holds (texts.FrameIsFull function need o told) = over p function need holds o told
    no_text p holds (texts.StarvedText s) = Starved s.0

    not_written : (text : List ℕ) → OutputRefused text result at.out at.report → ComesTo by result names at
    not_written text (CutOutput is cut told) = comes.NotWritten is cut.rises
    not_written text (StarvedOutput s front once) = Starved s.0

    not_told : (lines : List ℕ) → LinesRefused lines result at.report → ComesTo by result names at
    not_told lines (texts.CutLines is cut) = comes.NotTold is cut.rises
    not_told lines (texts.StarvedLines s) = Starved s.0

    came : Leaves by result names at → ComesTo by result names at
    came (outcome.NoDescription untouched r) = not_accepted r
    came (outcome.NoProgram e finds untouched r) = no_program r
    came (outcome.NoText e p finds untouched r) = no_text p finds.holds r
    came (outcome.NotWritten e p finds text is_text r) = not_written text r
    came (outcome.NotTold e p finds text is_text takes r) = not_told _ r
    came (outcome.Written is compiled) = Compiled is compiled

pub compile_comes_to : (by : Passing) → CompileComesTo by
compile_comes_to by result names at d works leaves = came by result names at d works leaves

module _ (by : Passing) (result : Status) (names : Files) (at : Outside) where
  cast : (status : Status) → result ≡ status → RefusesDescription result → RefusesDescription status
  cast status is r = subst RefusesDescription is r

  none_of : ComesTo by result names at → RefusesDescription result → ⊥
  none_of (Compiled is compiled) r = cast statuses.Done is r
  none_of (Starved is) r = cast statuses.NoMemory is r
  none_of (comes.NotRead is noted) r = cast statuses.FileFault is r
  none_of (comes.NotWritten is counted) r = cast statuses.WriteFault is r
  none_of (comes.NotTold is counted) r = cast statuses.WriteFault is r
  none_of (SourceTooLong is longer) r = cast statuses.TooLong is r
  none_of (comes.NoProgram is line wrong) r = cast statuses.SourceRefused is r
  none_of (FrameIsFull is p holds function need o) r = cast statuses.FrameFull is r

pub accepted_is_not_refused : (by : Passing) → AcceptedIsNotRefused by
accepted_is_not_refused by result names at d works leaves r = none_of by result names at (came by result names at d works leaves) r
