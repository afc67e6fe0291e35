use Rattle.std.proofs.Common.{refl, ◌∙◌}
use Rattle.std.specs.String.{string_bytes}
use Rattle.c_program.specs.Programs.{program}
use Rattle.cmd_meaning.specs.Sources.{source_form}
use Rattle.cmd_compile.specs.Outcome.{NoDescription, NoProgram, NoText, NotWritten, NotTold, Written}
use Rattle.cmd_compile.proofs.Counting.{kept_same}
use Rattle.cmd_compile.proofs.Stages.{file_refused, file_held, untouched}
use Rattle.cmd_compile.proofs.compile.read_and_write.Goals as goal

pub returns-in-Err-clause-leaves : goal.returns-in-Err-clause-leaves
returns-in-Err-clause-leaves g c = NoDescription (record { held = refl; quiet = refl }) c.in-Err.ensures.refused

pub returns-in-Err-clause-kept : goal.returns-in-Err-clause-kept
returns-in-Err-clause-kept g c = kept_same _ _ _

pub returns-in-Err-read_file-clause-leaves : goal.returns-in-Err-read_file-clause-leaves
returns-in-Err-read_file-clause-leaves g c =
    NoProgram c.in-Ok.accepted.content
    (record { holds = c.in-Ok.ensures.description; accepted = c.in-Ok.ensures.accepted })
    (record { held = refl; quiet = refl })
    (file_refused source_form c.args.source.now _ _ _ _ _ (c.read_accepted.ensures.holds c.args.source.now) c.in-Ok.ensures.unfailed _ _
    (rw c.in-Ok.ensures.untold at c.in-Err-read_file.ensures.refused))

pub returns-in-Err-read_file-clause-kept : goal.returns-in-Err-read_file-clause-kept
returns-in-Err-read_file-clause-kept g c = kept_same _ _ _

pub returns-in-Err-text_and_lines-clause-leaves : goal.returns-in-Err-text_and_lines-clause-leaves
returns-in-Err-text_and_lines-clause-leaves g c =
    NoText c.in-Ok.accepted.content (program c.in-Ok-read_file.program.program.held)
    (record {
      description = record { holds = c.in-Ok.ensures.description; accepted = c.in-Ok.ensures.accepted };
      holds = file_held source_form _ _ _ (c.read_accepted.ensures.holds c.args.source.now) c.in-Ok-read_file.ensures.item;
      unfailed = c.in-Ok-read_file.ensures.unfailed ∙ c.in-Ok.ensures.unfailed;
    })
    (record { held = refl; quiet = refl })
    (rw (c.program.ensures, c.in-Ok-read_file.ensures.untold, c.in-Ok.ensures.untold) at c.in-Err-text_and_lines.ensures.refused)

pub returns-in-Err-write_out-clause-leaves : goal.returns-in-Err-write_out-clause-leaves
returns-in-Err-write_out-clause-leaves g c =
    NotWritten c.in-Ok.accepted.content (program c.in-Ok-read_file.program.program.held)
    (record {
      description = record { holds = c.in-Ok.ensures.description; accepted = c.in-Ok.ensures.accepted };
      holds = file_held source_form _ _ _ (c.read_accepted.ensures.holds c.args.source.now) c.in-Ok-read_file.ensures.item;
      unfailed = c.in-Ok-read_file.ensures.unfailed ∙ c.in-Ok.ensures.unfailed;
    })
    (string_bytes c.in-Ok-text_and_lines.told.text)
    (rw c.program.ensures at c.in-Ok-text_and_lines.ensures.text)
    (rw (c.as_bytes.ensures.value, c.in-Ok-text_and_lines.ensures.untold, c.in-Ok-read_file.ensures.untold, c.in-Ok.ensures.untold) at c.in-Err-write_out.ensures.refused)

pub returns-in-Ok-write_lines-clause-leaves : goal.returns-in-Ok-write_lines-clause-leaves
returns-in-Ok-write_lines-clause-leaves g c = Written refl (record {
  description = c.in-Ok.accepted.content;
  program = program c.in-Ok-read_file.program.program.held;
  finds = record {
    description = record { holds = c.in-Ok.ensures.description; accepted = c.in-Ok.ensures.accepted };
    holds = file_held source_form _ _ _ (c.read_accepted.ensures.holds c.args.source.now) c.in-Ok-read_file.ensures.item;
    unfailed = c.in-Ok-read_file.ensures.unfailed ∙ c.in-Ok.ensures.unfailed;
  };
  text = string_bytes c.in-Ok-text_and_lines.told.text;
  is_text = rw c.program.ensures at c.in-Ok-text_and_lines.ensures.text;
  takes = rw c.as_bytes.ensures.value at c.in-Ok-write_out.ensures.all;
  told = rw (c.as_slice.ensures, c.in-Ok-text_and_lines.ensures.lines, c.in-Ok-write_out.ensures.untold, c.in-Ok-text_and_lines.ensures.untold, c.in-Ok-read_file.ensures.untold, c.in-Ok.ensures.untold) at c.in-Ok-write_lines.ensures.all;
})

pub returns-clause-leaves : goal.returns-clause-leaves
returns-clause-leaves g c =
    NotTold c.in-Ok.accepted.content (program c.in-Ok-read_file.program.program.held)
    (record {
      description = record { holds = c.in-Ok.ensures.description; accepted = c.in-Ok.ensures.accepted };
      holds = file_held source_form _ _ _ (c.read_accepted.ensures.holds c.args.source.now) c.in-Ok-read_file.ensures.item;
      unfailed = c.in-Ok-read_file.ensures.unfailed ∙ c.in-Ok.ensures.unfailed;
    })
    (string_bytes c.in-Ok-text_and_lines.told.text)
    (rw c.program.ensures at c.in-Ok-text_and_lines.ensures.text)
    (rw c.as_bytes.ensures.value at c.in-Ok-write_out.ensures.all)
    (rw (c.as_slice.ensures, c.in-Ok-text_and_lines.ensures.lines, c.in-Ok-write_out.ensures.untold, c.in-Ok-text_and_lines.ensures.untold, c.in-Ok-read_file.ensures.untold, c.in-Ok.ensures.untold) at c.in-Err-write_lines.ensures.refused)
