-- A command that runs the item of a file on the input, in one statement.
use Rattle.std.specs.Prelude.{◌+◌}
use Rattle.cmd_session.specs.Reading.{TakesAtMost}
use Rattle.cmd_session.specs.declared.status.Status.{Status}
use Rattle.cmd_files.specs.Forms.{Form, Runner}
use Rattle.cmd_files.specs.Outsides.{FailsAtMost}
use Rattle.cmd_files.specs.Stages.{input_limit}
use Rattle.cmd_files.specs.Calls.{Call}
use Rattle.cmd_files.specs.Outcome.{Leaves}
use Rattle.cmd_files.specs.Exact.{IsExact}

-- the call is that of such a command, and its answer is this status
pub record IsRunOfFile {A : Type 0} (form : Form A) (runner : Runner A) (result : Status) (call : Call) : Type 0 where
  -- what each status says of the file, of the input, of the run, and of what both outputs gained
  pub leaves : Leaves form runner result call
  -- and that each comes where its cause is there, but for counted faults and want of memory
  pub exact : IsExact form runner result call
  -- the folder is asked for that name alone, and one byte beyond the limit is taken of the input at most
  pub names : FailsAtMost call.name call.at.folder
  pub taken : TakesAtMost (input_limit + 1) call.input
