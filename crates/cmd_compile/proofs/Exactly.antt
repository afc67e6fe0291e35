-- Each status comes where its cause is there.
use Rattle.std.proofs.Common.{◌≡◌, ℕ, List, inl, inr, sym, subst, arith}
use Rattle.gg_outside.specs.Outside.{IsLonger}
use Rattle.cmd_session.specs.declared.status.Status.{Status}
use Rattle.cmd_session.specs.declared.status.Status.TheVariants as statuses
use Rattle.cmd_session.specs.Writing.{Change}
use Rattle.cmd_session.specs.Telling.{IsRefused}
use Rattle.cmd_files.specs.Forms.{Holds, HoldsNone}
use Rattle.cmd_files.specs.Outsides.{Outside}
use Rattle.cmd_files.specs.Stages.{input_limit, FileRefused, Unread, LongFile, WrongFile, StarvedFile, OutputRefused, CutOutput, StarvedOutput}
use Rattle.cmd_files.specs.Exact.{IsLongFile, IsNoItem, IsItem, IsAnswer}
use Rattle.cmd_files.proofs.Exactly.{long_no_item, long_not_wrong, item_not_long, none_not_long, none_no_item, item_not_wrong, same_item}
use Rattle.md_reader.specs.State.{Content}
use Rattle.c_program.specs.Programs.{AProgram}
use Rattle.cmd_check.specs.cmd_descriptions.proofs.Exactly as check
use Rattle.cmd_check.proofs.Exactly.{OfDescription, Comes, IsNot, of_description, not_refused, refuses}
use Rattle.cmd_meaning.specs.Sources.{source_form}
use Rattle.gg_compile.specs.Needs.{AllFit, IsFirstOver}
use Rattle.cmd_compile.specs.Passing.{Passing}
use Rattle.cmd_compile.specs.Texts.{FrameIsFull, StarvedText, LinesRefused, CutLines, StarvedLines}
use Rattle.cmd_compile.specs.Outcome.{Files, FindsDescription, Leaves, NoDescription, NoProgram, NoText, NotWritten, NotTold, Written}
use Rattle.cmd_compile.specs.Exact.{Works, Given, Answers, HasNoFaults}

-- how a source ends behind an accepted description
data OfSource (result : Status) (names : Files) (at : Outside) (d : Content) : Type 0 where
  LongSource : (is : result ≡ statuses.TooLong) (longer : IsLonger (at.folder.holds names.source) input_limit) → OfSource result names at d
  WrongSource : (is : result ≡ statuses.SourceRefused) (line : List ℕ) (wrong : HoldsNone source_form (at.folder.holds names.source) line)
      → OfSource result names at d
  Over : (p : AProgram) (holds : Holds source_form (at.folder.holds names.source) p) (function need : ℕ) (is : result ≡ statuses.FrameFull)
      (over : IsFirstOver p function need) → OfSource result names at d
  Done : (is : result ≡ statuses.Done) (p : AProgram) (holds : Holds source_form (at.folder.holds names.source) p) (fit : AllFit p)
      → OfSource result names at d

-- what a call may come to without a counted fault
data Kind (result : Status) (names : Files) (at : Outside) : Type 0 where
  Memory : (is : result ≡ statuses.NoMemory) → Kind result names at
  Before : (of : OfDescription result (at.folder.holds names.description)) → Kind result names at
  Behind : (d : Content) (finds : FindsDescription names at d) (of : OfSource result names at d) → Kind result names at

module _ (by : Passing) (result : Status) (names : Files) (at : Outside) where
  -- what was come to with the description
  comes : Kind result names at → Comes result (at.folder.holds names.description)
  comes (Memory is) = check.Memory is
  comes (Before of) = check.Refused of
  comes (Behind d finds of) = check.Accepted d finds.holds finds.accepted

  refused : (status : Status) (line : List ℕ) (report : Change) → IsRefused status line result report → (result ≡ status → Kind result names at)
      → Kind result names at
  refused status line report (inl told) go = go told.0
  refused status line report (inr starved) go = Memory starved.0

  of_refused : IsNot result (at.folder.holds names.description) → Kind result names at
  of_refused (inl is) = Memory is
  of_refused (inr of) = Before of

  of_source : HasNoFaults names at → (d : Content) → FindsDescription names at d → FileRefused source_form names.source at.folder result at.report
      → Kind result names at
  of_source n d finds (Unread is noted told) = absurd (n.source.of_folder noted)
  of_source n d finds (LongFile is longer unfailed told) = Behind d finds (LongSource is longer)
  of_source n d finds (WrongFile is line wrong unfailed told) = Behind d finds (WrongSource is line wrong)
  of_source n d finds (StarvedFile starved once) = Memory starved.0

  of_output : HasNoFaults names at → (text : List ℕ) → OutputRefused text result at.out at.report → Kind result names at
  of_output n text (CutOutput is cut told) = absurd (n.source.of_out cut.rises)
  of_output n text (StarvedOutput starved front once) = Memory starved.0

  of_lines : HasNoFaults names at → (lines : List ℕ) → LinesRefused lines result at.report → Kind result names at
  of_lines n lines (CutLines is cut) = absurd (n.source.of_report cut.rises)
  of_lines n lines (StarvedLines starved) = Memory starved.0

  kind_of : HasNoFaults names at → Leaves by result names at → Kind result names at
  kind_of n (NoDescription untouched r) = of_refused (of_description result names.description at.folder at.report n.description.of_folder r)
  kind_of n (NoProgram d finds untouched r) = of_source n d finds r
  kind_of n (NoText d p finds untouched (FrameIsFull f k over told)) =
      refused _ _ at.report told (λ is. Behind d finds.description (Over p finds.holds f k is over))
  kind_of n (NoText d p finds untouched (StarvedText starved)) = Memory starved.0
  kind_of n (NotWritten d p finds text is_text r) = of_output n text r
  kind_of n (NotTold d p finds text is_text takes r) = of_lines n _ r
  kind_of n (Written is w) = Behind w.description w.finds.description (Done is w.program w.finds.holds w.is_text.is_text.fit)

  -- an accepted description is refused for want of memory alone
  before : (d : Content) (status : Status) → Works names at d → OfDescription result (at.folder.holds names.description) → IsAnswer status result
  before d status w of = not_refused result (at.folder.holds names.description) d status w.item w.accepted of

  long_source : (d : Content) → Works names at d → IsLongFile input_limit (at.folder.holds names.source) → Kind result names at
      → IsAnswer statuses.TooLong result
  long_source d w h (Memory is) = inr is
  long_source d w h (Before of) = before d statuses.TooLong w of
  long_source d w h (Behind e finds (LongSource is longer)) = inl is
  long_source d w h (Behind e finds (WrongSource is line wrong)) = absurd (long_not_wrong source_form (at.folder.holds names.source) line h wrong)
  long_source d w h (Behind e finds (Over p holds f k is over)) = absurd (long_no_item source_form (at.folder.holds names.source) p h holds)
  long_source d w h (Behind e finds (Done is p holds fit)) = absurd (long_no_item source_form (at.folder.holds names.source) p h holds)

  wrong_source : (d : Content) → Works names at d → IsNoItem source_form (at.folder.holds names.source) → Kind result names at
      → IsAnswer statuses.SourceRefused result
  wrong_source d w h (Memory is) = inr is
  wrong_source d w h (Before of) = before d statuses.SourceRefused w of
  wrong_source d w h (Behind e finds (LongSource is longer)) = absurd (none_not_long source_form (at.folder.holds names.source) h longer)
  wrong_source d w h (Behind e finds (WrongSource is line wrong)) = inl is
  wrong_source d w h (Behind e finds (Over p holds f k is over)) = absurd (none_no_item source_form (at.folder.holds names.source) p h holds)
  wrong_source d w h (Behind e finds (Done is p holds fit)) = absurd (none_no_item source_form (at.folder.holds names.source) p h holds)

  -- what holds of the program that is told holds of the one that was read
  given : (P : AProgram → Type 0) (p q : AProgram) → IsItem source_form (at.folder.holds names.source) p
      → Holds source_form (at.folder.holds names.source) q → P p → P q
  given P p q h holds x = subst P (sym (same_item source_form (at.folder.holds names.source) p q h holds)) x

  -- a function that is over doesn't fit
  over_not_fit : (p : AProgram) (function need : ℕ) → IsFirstOver p function need → AllFit p → ⊥
  over_not_fit p function need o fit = omega (arith, o.over, o.need_is, fit function o.there)

  over : (p : AProgram) (function need : ℕ) → Given names at p → IsFirstOver p function need → Kind result names at → IsAnswer statuses.FrameFull result
  over p function need g o (Memory is) = inr is
  over p function need g o (Before of) = before g.description statuses.FrameFull g.works of
  over p function need g o (Behind e finds (LongSource is longer)) = absurd (item_not_long source_form (at.folder.holds names.source) p g.item longer)
  over p function need g o (Behind e finds (WrongSource is line wrong)) =
      absurd (item_not_wrong source_form (at.folder.holds names.source) p line g.item wrong)
  over p function need g o (Behind e finds (Over q holds f k is same)) = inl is
  over p function need g o (Behind e finds (Done is q holds fit)) =
      absurd (over_not_fit q function need (given (λ (x : AProgram). IsFirstOver x function need) p q g.item holds o) fit)

  fits : (p : AProgram) → Given names at p → AllFit p → Kind result names at → IsAnswer statuses.Done result
  fits p g fit (Memory is) = inr is
  fits p g fit (Before of) = before g.description statuses.Done g.works of
  fits p g fit (Behind e finds (LongSource is longer)) = absurd (item_not_long source_form (at.folder.holds names.source) p g.item longer)
  fits p g fit (Behind e finds (WrongSource is line wrong)) =
      absurd (item_not_wrong source_form (at.folder.holds names.source) p line g.item wrong)
  fits p g fit (Behind e finds (Over q holds f k is o)) = absurd (over_not_fit q f k o (given AllFit p q g.item holds fit))
  fits p g fit (Behind e finds (Done is q holds less)) = inl is

pub exactly : (by : Passing) (result : Status) (names : Files) (at : Outside) → Leaves by result names at → HasNoFaults names at
    → Answers result names at
exactly by result names at leaves none =
    let kind = kind_of by result names at none leaves in
    record {
      description = refuses result (at.folder.holds names.description) (comes by result names at kind);
      long_source = λ d w h. long_source by result names at d w h kind;
      no_source = λ d w h. wrong_source by result names at d w h kind;
      over = λ p function need g o. over by result names at p function need g o kind;
      fits = λ p g fit. fits by result names at p g fit kind;
    }
