use Rattle.c_program.specs.Programs.{program}
use Rattle.cmd_compile.specs.Texts.{FrameIsFull}
use Rattle.cmd_compile.proofs.Reading.{is_code_of}
use Rattle.cmd_compile.proofs.text.selected_code.Goals as goal

pub returns-in-Err-FrameFull-clause-refused : goal.returns-in-Err-FrameFull-clause-refused
returns-in-Err-FrameFull-clause-refused g c =
    FrameIsFull c.in-Err-FrameFull.function c.in-Err-FrameFull.need (rw c.in-Err-FrameFull.field-0-is at c.in-Err-FrameFull.ensures.over)
    (c.refuse_with.ensures _ c.frame_line-line.ensures)

pub returns-in-Ok-clause-code : goal.returns-in-Ok-clause-code
returns-in-Ok-clause-code g c =
    is_code_of c.args.accepted.now.content (program c.args.source.now.held) c.in-Ok.compiled.trees c.in-Ok.compiled.code c.in-Ok.ensures.trees
    c.in-Ok.ensures.code c.in-Ok.ensures.valid c.in-Ok.ensures.keeps c.in-Ok.ensures.fit
