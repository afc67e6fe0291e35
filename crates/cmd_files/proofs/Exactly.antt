-- Each status comes where its cause is there.
use Rattle.std.proofs.Common.{◌≡◌, ◌<◌, ◌+◌, ℕ, List, length, Option, Some, None, inl, inr, refl, sym, ap, subst, ◌∙◌, arith}
use Rattle.gg_outside.specs.Outside.{Content, Stored, IsThat, IsLonger}
use Rattle.cmd_session.specs.Reading.{Intake, LosesAll, GivesAll, HasOver, TakesAtMost, Fails as InputFails}
use Rattle.cmd_session.specs.Lines.{end_status}
use Rattle.cmd_session.specs.declared.status.Status.{Status}
use Rattle.cmd_session.specs.declared.status.Status.TheVariants as statuses
use Rattle.gg_base.specs.declared.run.End.{End}
use Rattle.cmd_files.specs.Forms.{Form, Runner, Holds, HoldsNone}
use Rattle.cmd_files.specs.Outsides.{FailsAtMost, HasNoFault}
use Rattle.cmd_files.specs.Stages.{input_limit}
use Rattle.cmd_files.specs.Calls.{Call, GetsInput, Starts}
use Rattle.cmd_files.specs.Outcome.{RanTo, IsRefusedAs, Leaves}
use Rattle.cmd_files.specs.Exact.{IsLongFile, IsNoItem, IsItem, LeavesLong, LeavesBytes, IsAnswer, Answers}
use Rattle.cmd_files.specs.Commands.{IsRunOfFile}

-- what the file of a call is
abbrev file_of : Call → Content
file_of call = call.at.folder.holds call.name

-- what a call may come to without a counted fault
data Kind {A : Type 0} (form : Form A) (runner : Runner A) (result : Status) (call : Call) : Type 0 where
  Memory : (is : result ≡ statuses.NoMemory) → Kind form runner result call
  FileLong : (is : result ≡ statuses.TooLong) (longer : IsLonger (file_of call) form.limit) → Kind form runner result call
  Wrong : (is : result ≡ form.status) (line : List ℕ) (wrong : HoldsNone form (file_of call) line) → Kind form runner result call
  InputLong : (is : result ≡ statuses.TooLong) (item : A) (holds : Holds form (file_of call) item) (over : HasOver input_limit call.input.old) → Kind form runner result call
  Unable : (is : result ≡ form.status) (item : A) (holds : Holds form (file_of call) item) (bytes : List ℕ) (input : GetsInput call bytes) (line : List ℕ)
      (fault : runner.fault item ≡ Some line) → Kind form runner result call
  Ran : (item : A) (bytes : List ℕ) (starts : Starts form runner call item bytes) (is : result ≡ end_status (runner.run item bytes call.count).end) → Kind form runner result call

ran : {A : Type 0} (form : Form A) (runner : Runner A) (result : Status) (call : Call) (end : End) → RanTo form runner call end → result ≡ end_status end → Kind form runner result call
ran form runner result call end r is = Ran r.item r.bytes r.starts (is ∙ ap end_status (sym r.ends))

refused : {A : Type 0} (form : Form A) (runner : Runner A) (status : Status) (call : Call) → IsRefusedAs form runner status call → Kind form runner status call
refused form runner status call r = elim r.why [
  | inl wrong ↦ Wrong (sym r.status_is) wrong.1.line wrong.1.wrong
  | inr unable ↦ Unable (sym r.status_is) unable.item unable.finds.holds unable.bytes unable.input unable.line unable.fault
]

kinds : {A : Type 0} (form : Form A) (runner : Runner A) (result : Status) (call : Call) → Leaves form runner result call → HasNoFault call.name call.at →
    (InputFails call.input → ⊥) → Kind form runner result call
kinds form runner statuses.Done call l n f = ran form runner statuses.Done call _ l.ran refl
kinds form runner statuses.NoMemory call l n f = Memory refl
kinds form runner statuses.FileFault call l n f = absurd (n.of_folder l.1.noted)
kinds form runner statuses.InputFault call l n f = absurd (f l.fails)
kinds form runner statuses.WriteFault call (inl cut) n f = absurd (n.of_out cut.cut.rises)
kinds form runner statuses.WriteFault call (inr cut) n f = absurd (n.of_report cut.cut.rises)
kinds form runner statuses.TooLong call (inl h) n f = FileLong refl h.1.longer
kinds form runner statuses.TooLong call (inr h) n f = InputLong refl h.item h.finds.holds h.longer
kinds form runner statuses.SourceRefused call l n f = refused form runner statuses.SourceRefused call l
kinds form runner statuses.DescRefused call l n f = refused form runner statuses.DescRefused call l
kinds form runner statuses.AsmRefused call l n f = refused form runner statuses.AsmRefused call l
kinds form runner statuses.ImageRefused call l n f = refused form runner statuses.ImageRefused call l
kinds form runner statuses.Spent call l n f = ran form runner statuses.Spent call _ l.ran refl
kinds form runner statuses.Trapped call l n f = ran form runner statuses.Trapped call _ l.ran refl
kinds form runner statuses.Wild call l n f = ran form runner statuses.Wild call _ l.ran refl
kinds form runner statuses.Deep call l n f = ran form runner statuses.Deep call _ l.ran refl
kinds form runner statuses.Broken call l n f = ran form runner statuses.Broken call _ l.halted.ran refl
kinds form runner _ call l n f = absurd l

-- told bytes are the only ones
that_is : (file : Content) (b c : List ℕ) → file ≡ Stored b → IsThat file c → c ≡ b
that_is file b c e h = subst (λ (x : Content). IsThat x c) e h

longer_is : (limit : ℕ) (file : Content) (b : List ℕ) → file ≡ Stored b → IsLonger file limit → limit < length b
longer_is limit file b e h = subst (λ (x : Content). IsLonger x limit) e h

gives_is : (input : Intake) (l bytes : List ℕ) → input.old ≡ Some l → GivesAll input bytes → bytes ≡ l
gives_is input l bytes e h =
    let t : LosesAll (Some l) input.new bytes = subst (λ (x : Option (List ℕ)). LosesAll x input.new bytes) e h in t.0

over_is : (old : Option (List ℕ)) (l : List ℕ) → old ≡ Some l → HasOver input_limit old → input_limit < length l
over_is old l e h = subst (λ (x : Option (List ℕ)). HasOver input_limit x) e h

pub long_no_item : {A : Type 0} (form : Form A) (file : Content) (item : A) → IsLongFile form.limit file → Holds form file item → ⊥
long_no_item form file item h s = omega (arith, h.longer, s.within, ap length (that_is file h.bytes s.bytes h.stored s.stored))

pub long_not_wrong : {A : Type 0} (form : Form A) (file : Content) (line : List ℕ) → IsLongFile form.limit file → HoldsNone form file line → ⊥
long_not_wrong form file line h s = omega (arith, h.longer, s.within, ap length (that_is file h.bytes s.bytes h.stored s.stored))

pub item_not_long : {A : Type 0} (form : Form A) (file : Content) (item : A) → IsItem form file item → IsLonger file form.limit → ⊥
item_not_long form file item h longer = omega (arith, longer_is form.limit file h.bytes h.stored longer, h.within)

pub none_not_long : {A : Type 0} (form : Form A) (file : Content) → IsNoItem form file → IsLonger file form.limit → ⊥
none_not_long form file h longer = omega (arith, longer_is form.limit file h.bytes h.stored longer, h.within)

pub none_no_item : {A : Type 0} (form : Form A) (file : Content) (item : A) → IsNoItem form file → Holds form file item → ⊥
none_no_item form file item h s =
    h.unread item (subst (λ (b : List ℕ). form.reads b item) (that_is file h.bytes s.bytes h.stored s.stored) s.read.reads)

pub item_not_wrong : {A : Type 0} (form : Form A) (file : Content) (item : A) (line : List ℕ) → IsItem form file item → HoldsNone form file line → ⊥
item_not_wrong form file item line h w =
    w.refused.unread item (subst (λ (b : List ℕ). form.reads b item) (sym (that_is file h.bytes w.bytes h.stored w.stored)) h.reads)

pub same_item : {A : Type 0} (form : Form A) (file : Content) (item other : A) → IsItem form file item → Holds form file other → other ≡ item
same_item form file item other h s =
    s.read.only item (subst (λ (b : List ℕ). form.reads b item) (sym (that_is file h.bytes s.bytes h.stored s.stored)) h.reads)

long_not_given : (input : Intake) (call : Call) (bytes : List ℕ) → LeavesLong call.input → GetsInput call bytes → ⊥
long_not_given input call bytes h gets =
    omega (arith, h.longer, gets.within, ap length (gives_is call.input h.bytes bytes h.left gets.all))

bytes_not_over : (input : Intake) (bytes : List ℕ) → LeavesBytes input bytes → HasOver input_limit input.old → ⊥
bytes_not_over input bytes h over = omega (arith, over_is input.old bytes h.left over, h.within)

fault_or_none : {A : Type 0} (runner : Runner A) (item other : A) (line : List ℕ) → other ≡ item → runner.fault item ≡ None → runner.fault other ≡ Some line → ⊥
fault_or_none runner item other line same able found = let e : None ≡ Some line = sym able ∙ ap runner.fault (sym same) ∙ found in cc

long_file : {A : Type 0} (form : Form A) (runner : Runner A) (result : Status) (call : Call) → IsLongFile form.limit (file_of call) → Kind form runner result call →
    IsAnswer statuses.TooLong result
long_file form runner result call h (Memory is) = inr is
long_file form runner result call h (FileLong is longer) = inl is
long_file form runner result call h (Wrong is line wrong) = absurd (long_not_wrong form (file_of call) line h wrong)
long_file form runner result call h (InputLong is item holds over) = inl is
long_file form runner result call h (Unable is item holds bytes input line fault) = absurd (long_no_item form (file_of call) item h holds)
long_file form runner result call h (Ran item bytes starts is) = absurd (long_no_item form (file_of call) item h starts.finds.holds)

no_item : {A : Type 0} (form : Form A) (runner : Runner A) (result : Status) (call : Call) → IsNoItem form (file_of call) → Kind form runner result call → IsAnswer form.status result
no_item form runner result call h (Memory is) = inr is
no_item form runner result call h (FileLong is longer) = absurd (none_not_long form (file_of call) h longer)
no_item form runner result call h (Wrong is line wrong) = inl is
no_item form runner result call h (InputLong is item holds over) = absurd (none_no_item form (file_of call) item h holds)
no_item form runner result call h (Unable is item holds bytes input line fault) = inl is
no_item form runner result call h (Ran item bytes starts is) = absurd (none_no_item form (file_of call) item h starts.finds.holds)

long_input : {A : Type 0} (form : Form A) (runner : Runner A) (result : Status) (call : Call) (item : A) → IsItem form (file_of call) item → LeavesLong call.input →
    Kind form runner result call → IsAnswer statuses.TooLong result
long_input form runner result call item h l (Memory is) = inr is
long_input form runner result call item h l (FileLong is longer) = inl is
long_input form runner result call item h l (Wrong is line wrong) = absurd (item_not_wrong form (file_of call) item line h wrong)
long_input form runner result call item h l (InputLong is other holds over) = inl is
long_input form runner result call item h l (Unable is other holds bytes input line fault) = absurd (long_not_given call.input call bytes l input)
long_input form runner result call item h l (Ran other bytes starts is) = absurd (long_not_given call.input call bytes l starts.input)

unable : {A : Type 0} (form : Form A) (runner : Runner A) (result : Status) (call : Call) (item : A) (bytes : List ℕ) → IsItem form (file_of call) item →
    LeavesBytes call.input bytes → (runner.fault item ≡ None → ⊥) → Kind form runner result call → IsAnswer form.status result
unable form runner result call item bytes h l f (Memory is) = inr is
unable form runner result call item bytes h l f (FileLong is longer) = absurd (item_not_long form (file_of call) item h longer)
unable form runner result call item bytes h l f (Wrong is line wrong) = inl is
unable form runner result call item bytes h l f (InputLong is other holds over) = absurd (bytes_not_over call.input bytes l over)
unable form runner result call item bytes h l f (Unable is other holds given input line fault) = inl is
unable form runner result call item bytes h l f (Ran other given starts is) =
    absurd (f (ap runner.fault (sym (same_item form (file_of call) item other h starts.finds.holds)) ∙ starts.able))

ends : {A : Type 0} (form : Form A) (runner : Runner A) (result : Status) (call : Call) (item : A) (bytes : List ℕ) → IsItem form (file_of call) item →
    LeavesBytes call.input bytes → runner.fault item ≡ None → Kind form runner result call → IsAnswer (end_status (runner.run item bytes call.count).end) result
ends form runner result call item bytes h l able (Memory is) = inr is
ends form runner result call item bytes h l able (FileLong is longer) = absurd (item_not_long form (file_of call) item h longer)
ends form runner result call item bytes h l able (Wrong is line wrong) = absurd (item_not_wrong form (file_of call) item line h wrong)
ends form runner result call item bytes h l able (InputLong is other holds over) = absurd (bytes_not_over call.input bytes l over)
ends form runner result call item bytes h l able (Unable is other holds given input line fault) =
    absurd (fault_or_none runner item other line (same_item form (file_of call) item other h holds) able fault)
ends {A = A} form runner result call item bytes h l able (Ran other given starts is) =
    inl (is ∙ ap (λ (x : A). end_status (runner.run x given call.count).end) (same_item form (file_of call) item other h starts.finds.holds)
    ∙ ap (λ (b : List ℕ). end_status (runner.run item b call.count).end) (gives_is call.input bytes given l.left starts.input.all))

exactly : {A : Type 0} (form : Form A) (runner : Runner A) (result : Status) (call : Call) → Leaves form runner result call → HasNoFault call.name call.at →
    (InputFails call.input → ⊥) → Answers form runner result call
exactly form runner result call leaves none unbroken =
    let kind = kinds form runner result call leaves none unbroken in
    record {
      long_file = λ h. long_file form runner result call h kind;
      no_item = λ h. no_item form runner result call h kind;
      long_input = λ item h l. long_input form runner result call item h l kind;
      unable = λ item bytes h l f. unable form runner result call item bytes h l f kind;
      ends = λ item bytes h l able. ends form runner result call item bytes h l able kind;
    }

-- such a call is that of a command that runs the item of a file: that each status comes follows from what each says
pub run_of_file : {A : Type 0} (form : Form A) (runner : Runner A) (result : Status) (call : Call) → Leaves form runner result call → FailsAtMost call.name call.at.folder →
    TakesAtMost (input_limit + 1) call.input → IsRunOfFile form runner result call
run_of_file form runner result call leaves names taken = record { leaves = leaves; exact = exactly form runner result call leaves; names = names; taken = taken }
