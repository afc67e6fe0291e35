-- What the command `check D` must answer, where the folder tells what it holds and no fault is counted.
use Rattle.std.specs.Prelude.{ℕ, List}
use Rattle.gg_outside.specs.Outside.{Content as File}
use Rattle.cmd_session.specs.declared.status.Status.{Status}
use Rattle.cmd_files.specs.Outsides.{Outside}
use Rattle.cmd_descriptions.specs.Exact.{RefusesFor, IsExactFor}
use Rattle.cmd_check.specs.Machine.{the_vax}

-- each status that refuses a description, where its cause is there
abbrev pub Refuses : Status → File → Type 0
Refuses result file = RefusesFor the_vax result file

-- each status where its cause is there
abbrev pub IsExact : Status → List ℕ → Outside → Type 0
IsExact result name at = IsExactFor the_vax result name at
