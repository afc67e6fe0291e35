-- What a command that runs the item of a file leaves behind.
use Rattle.std.proofs.Common.{◌≡◌, ◌⊎◌, ℕ, List, inl, inr, refl, sym, subst}
use Rattle.gg_base.specs.declared.run.End.{End}
use Rattle.gg_base.specs.declared.run.End.TheVariants as ends
use Rattle.cmd_session.specs.declared.status.Status.{Status}
use Rattle.cmd_session.specs.declared.status.Status.TheVariants as statuses
use Rattle.cmd_session.specs.Lines.{end_line, end_status}
use Rattle.cmd_session.specs.Reading.{IsUntaken}
use Rattle.cmd_session.specs.Writing.{TakesAll, IsUntouched, IsCut, Reports}
use Rattle.cmd_session.specs.Telling.{IsRefused, IsStarved, Tells}
use Rattle.cmd_files.specs.Forms.{Form, Runner, IsOfFiles}
use Rattle.cmd_files.specs.Outsides.{FileIsWrong}
use Rattle.cmd_files.specs.Stages.{FileRefused, Unread, LongFile, WrongFile, StarvedFile}
use Rattle.cmd_files.specs.Stages.{InputRefused, BrokenInput, LongInput, StarvedInput, ToldRun, Unable, Told, StarvedRun}
use Rattle.cmd_files.specs.Calls.{Call, Finds, GetsInput, Starts}
use Rattle.cmd_files.specs.Outcome.{RanTo, IsUnable, Leaves}

-- a file was refused for what it holds
as_refused : {A : Type 0} (form : Form A) (runner : Runner A) (status : Status) (call : Call) → IsOfFiles status → form.status ≡ status →
    (IsUntaken call.input × FileIsWrong form call.at call.name) ⊎ IsUnable form runner call → Leaves form runner status call
as_refused form runner statuses.SourceRefused call of is why = record { status_is = is; why = why }
as_refused form runner statuses.DescRefused call of is why = record { status_is = is; why = why }
as_refused form runner statuses.AsmRefused call of is why = record { status_is = is; why = why }
as_refused form runner statuses.ImageRefused call of is why = record { status_is = is; why = why }
as_refused form runner _ call of is why = absurd of

-- a statement of a status carries over to an equal one
at_status : {A : Type 0} (form : Form A) (runner : Runner A) (result status : Status) (call : Call) → result ≡ status → Leaves form runner status call → Leaves form runner result call
at_status form runner result status call is l = subst (λ (s : Status). Leaves form runner s call) (sym is) l

-- the file was refused
pub refused_file : {A : Type 0} (form : Form A) (runner : Runner A) (result : Status) (call : Call) →
    FileRefused form call.name call.at.folder result call.at.report → IsUntaken call.input → IsUntouched call.at.out → Leaves form runner result call
refused_file form runner result call (Unread is noted told) input out =
    at_status form runner result statuses.FileFault call is (input, record { noted = noted; refused = record { out = out; told = told } })
refused_file form runner result call (LongFile is longer unfailed told) input out =
    at_status form runner result statuses.TooLong call is
    (inl (input, record { longer = longer; unfailed = unfailed; refused = record { out = out; told = told } }))
refused_file form runner result call (WrongFile is line wrong unfailed told) input out =
    at_status form runner result form.status call is
    (as_refused form runner form.status call form.of_files refl
    (inl (input, record { line = line; wrong = wrong; unfailed = unfailed; refused = record { out = out; told = told } })))
refused_file form runner result call (StarvedFile starved names) input out =
    at_status form runner result statuses.NoMemory call starved.0
    (record { names = names; input = inl input.unbroken; out = inl out; report = starved.1 })

-- the input was refused
pub refused_input : {A : Type 0} (form : Form A) (runner : Runner A) (result : Status) (call : Call) (item : A) → Finds form call item →
    InputRefused call.input result call.at.report → IsUntouched call.at.out → Leaves form runner result call
refused_input form runner result call item finds (BrokenInput is fails told) untouched =
    at_status form runner result statuses.InputFault call is (record { item = item; finds = finds; fails = fails; untouched = untouched; line = told })
refused_input form runner result call item finds (LongInput is longer unbroken told) untouched =
    at_status form runner result statuses.TooLong call is
    (inr (record { item = item; finds = finds; longer = longer; unbroken = unbroken; untouched = untouched; line = told }))
refused_input form runner result call item finds (StarvedInput starved once) untouched =
    at_status form runner result statuses.NoMemory call starved.0
    (record { names = inl finds.unfailed; input = once; out = inl untouched; report = starved.1 })

-- an end was told with its status
told_end : {A : Type 0} (form : Form A) (runner : Runner A) (end : End) (result : Status) (call : Call) → RanTo form runner call end → result ≡ end_status end →
    Reports call.at.report (end_line end call.count) → (result ≡ statuses.Done → TakesAll call.at.report (end_line end call.count)) → Leaves form runner result call
told_end form runner (ends.Ended value) result call ran is line whole =
    at_status form runner result statuses.Done call is (record { value = value; ran = ran; line = whole is })
told_end form runner ends.Trapped result call ran is line whole =
    at_status form runner result statuses.Trapped call is (record { ran = ran; line = line })
told_end form runner ends.Wild result call ran is line whole =
    at_status form runner result statuses.Wild call is (record { ran = ran; line = line })
told_end form runner ends.Deep result call ran is line whole =
    at_status form runner result statuses.Deep call is (record { ran = ran; line = line })
told_end form runner ends.Spent result call ran is line whole =
    at_status form runner result statuses.Spent call is (record { ran = ran; line = line })
told_end form runner (ends.Broken kind) result call ran is line whole =
    at_status form runner result statuses.Broken call is (record { kind = kind; halted = record { ran = ran; line = line } })

told_all : {A : Type 0} (form : Form A) (runner : Runner A) (result : Status) (call : Call) (item : A) (bytes : List ℕ) → Starts form runner call item bytes →
    runner.ends (runner.run item bytes call.count).end → Tells result (runner.run item bytes call.count) call.count call.at.out call.at.report →
    Leaves form runner result call
told_all form runner result call item bytes starts comes (inl told) =
    told_end form runner (runner.run item bytes call.count).end result call
    (record { item = item; bytes = bytes; starts = starts; ends = refl; comes = comes; output = told.output }) told.status_is told.line told.whole
told_all form runner result call item bytes starts comes (inr (inl cut)) =
    at_status form runner result statuses.WriteFault call cut.status_is
    (inl (record { item = item; bytes = bytes; starts = starts; cut = cut.cut; line = cut.line }))
told_all form runner result call item bytes starts comes (inr (inr (inl cut))) =
    at_status form runner result statuses.WriteFault call cut.status_is
    (inr (record {
      value = cut.value;
      ran = record {
        item = item;
        bytes = bytes;
        starts = starts;
        ends = cut.ended;
        comes = subst (λ (e : End). runner.ends e) cut.ended comes;
        output = cut.output;
      };
      cut = subst (λ (e : End). IsCut call.at.report (end_line e call.count)) cut.ended cut.cut;
    }))
told_all form runner result call item bytes starts comes (inr (inr (inr stopped))) =
    at_status form runner result statuses.NoMemory call stopped.starved.0
    (record {
      names = inl starts.finds.unfailed;
      input = inl starts.input.unbroken;
      out = inr (record { item = item; bytes = bytes; starts = starts; front = stopped.front; once = stopped.once });
      report = stopped.starved.1;
    })

-- memory ran out before the run
starved_before : {A : Type 0} (form : Form A) (runner : Runner A) (result : Status) (call : Call) (item : A) (bytes : List ℕ) → Finds form call item →
    GetsInput call bytes → IsUntouched call.at.out → IsStarved result call.at.report → Leaves form runner result call
starved_before form runner result call item bytes finds input untouched starved =
    at_status form runner result statuses.NoMemory call starved.0
    (record { names = inl finds.unfailed; input = inl input.unbroken; out = inl untouched; report = starved.1 })

unable : {A : Type 0} (form : Form A) (runner : Runner A) (result : Status) (call : Call) (item : A) (bytes : List ℕ) (line : List ℕ) → Finds form call item →
    GetsInput call bytes → IsUntouched call.at.out → (Reports call.at.report line → IsUnable form runner call) → IsRefused form.status line result call.at.report →
    Leaves form runner result call
unable form runner result call item bytes line finds input untouched why (inl told) =
    at_status form runner result form.status call told.0 (as_refused form runner form.status call form.of_files refl (inr (why told.1)))
unable form runner result call item bytes line finds input untouched why (inr starved) =
    starved_before form runner result call item bytes finds input untouched starved

told_bytes : {A : Type 0} (form : Form A) (runner : Runner A) (result : Status) (call : Call) (item : A) (bytes : List ℕ) → Finds form call item →
    GetsInput call bytes → ToldRun runner form.status item bytes call.count result call.at.out call.at.report → Leaves form runner result call
told_bytes form runner result call item bytes finds input (Unable line fault untouched told) =
    unable form runner result call item bytes line finds input untouched
    (λ reported. record { item = item; finds = finds; bytes = bytes; input = input; line = line; fault = fault; untouched = untouched; told = reported })
    told
told_bytes form runner result call item bytes finds input (Told able comes told) =
    told_all form runner result call item bytes (record { finds = finds; input = input; able = able }) comes told
told_bytes form runner result call item bytes finds input (StarvedRun untouched starved) =
    starved_before form runner result call item bytes finds input untouched starved

-- the run was told
pub told_run : {A : Type 0} (form : Form A) (runner : Runner A) (result : Status) (call : Call) (item : A) (bytes slice : List ℕ) → Finds form call item →
    GetsInput call bytes → slice ≡ bytes → ToldRun runner form.status item slice call.count result call.at.out call.at.report → Leaves form runner result call
told_run form runner result call item bytes slice finds input is t =
    told_bytes form runner result call item bytes finds input (subst (λ (b : List ℕ). ToldRun runner form.status item b call.count result call.at.out call.at.report) is t)
