-- Machine descriptions of the VAX in files, which of them are accepted, and how another is told.
use Rattle.std.specs.Prelude.{ℕ, List}
use Rattle.cmd_session.specs.declared.status.Status.{Status}
use Rattle.cmd_session.specs.Writing.{Change}
use Rattle.cmd_files.specs.Forms.{Form}
use Rattle.cmd_files.specs.Outsides.{Lookup}
use Rattle.md_reader.specs.State.{Content}
use Rattle.cmd_descriptions.specs.Descriptions.{description_form_for, IsAcceptedFor, NotAcceptedFor}
use Rattle.cmd_check.specs.Machine.{the_vax}

-- a file is a machine description of the VAX
abbrev pub description_form : Form Content
description_form = description_form_for the_vax.word

-- it has tables by which no typed statement stops the parse, and all its rules are shown on the VAX
abbrev pub IsAccepted : Content → Type 0
IsAccepted d = IsAcceptedFor the_vax d

-- the file of that name gave no accepted description
abbrev pub NotAccepted : List ℕ → Lookup → Status → Change → Type 0
NotAccepted name folder status report = NotAcceptedFor the_vax name folder status report
