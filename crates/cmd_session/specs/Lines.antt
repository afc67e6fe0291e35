-- The lines of a report.
use Rattle.std.specs.Prelude.{ℕ, List, ◌++◌, codes}
use Rattle.std.specs.Int.{cast_signed}
use Rattle.std.specs.Fmt.{decimal, signed_decimal}
use mir.Syntax.{w32}
use Rattle.gg_base.specs.declared.run.Break.{Break}
use Rattle.gg_base.specs.declared.run.Break.TheVariants.{Access, Frame, BadCode, StackFull}
use Rattle.gg_base.specs.declared.run.End.{End}
use Rattle.gg_base.specs.declared.run.End.TheVariants as ends
use Rattle.cmd_session.specs.declared.status.Status.{Status}
use Rattle.cmd_session.specs.declared.status.Status.TheVariants as statuses

abbrev pub break_name : Break → List ℕ
break_name Access = codes "Access"
break_name Frame = codes "Frame"
break_name BadCode = codes "BadCode"
break_name StackFull = codes "StackFull"

-- the line that tells a run's end: a value as a signed number of 32 bits, a number of steps that was used up
abbrev pub end_line : End → ℕ → List ℕ
end_line (ends.Ended value) count = codes "ended " ++ (signed_decimal (cast_signed w32 value) ++ codes "\n")
end_line ends.Trapped count = codes "trapped\n"
end_line ends.Wild count = codes "wild\n"
end_line ends.Deep count = codes "deep\n"
end_line ends.Spent count = codes "spent " ++ (decimal count ++ codes "\n")
end_line (ends.Broken kind) count = codes "broken " ++ (break_name kind ++ codes "\n")

-- the status of a command whose run came to this end
abbrev pub end_status : End → Status
end_status (ends.Ended value) = statuses.Done
end_status ends.Trapped = statuses.Trapped
end_status ends.Wild = statuses.Wild
end_status ends.Deep = statuses.Deep
end_status ends.Spent = statuses.Spent
end_status (ends.Broken kind) = statuses.Broken

-- the lines of refusals
abbrev pub cannot_read_line : List ℕ → List ℕ
cannot_read_line name = codes "ggvax: cannot read " ++ (name ++ codes "\n")

abbrev pub too_long_line : List ℕ → List ℕ
too_long_line name = codes "ggvax: " ++ (name ++ codes " is too long\n")

abbrev pub usage_line : List ℕ
usage_line = codes
    "ggvax: usage: check D | compile D S | run A N | meaning S N | load D K | image A | text I | check32 D | run32 A N\n"

abbrev pub input_failed_line : List ℕ
input_failed_line = codes "ggvax: input failed\n"

abbrev pub input_too_long_line : List ℕ
input_too_long_line = codes "ggvax: input is too long\n"

abbrev pub output_failed_line : List ℕ
output_failed_line = codes "ggvax: output failed\n"
