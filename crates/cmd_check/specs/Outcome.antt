-- What the command `check D` finds and leaves behind, for each of its statuses.
use Rattle.std.specs.Prelude.{ℕ, List}
use Rattle.cmd_session.specs.declared.status.Status.{Status}
use Rattle.cmd_files.specs.Outsides.{Outside}
use Rattle.cmd_descriptions.specs.Outcome.{LeavesFor}
use Rattle.cmd_check.specs.Machine.{the_vax}

-- what a check leaves, for the VAX
abbrev pub Leaves : Status → List ℕ → Outside → Type 0
Leaves result name at = LeavesFor the_vax result name at
