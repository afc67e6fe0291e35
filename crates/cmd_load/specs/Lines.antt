-- The line that tells what both sides of a generated source came to.
use Rattle.std.specs.Prelude.{ℕ, List, ◌++◌, codes}
use Rattle.std.specs.Fmt.{decimal}
use Rattle.gg_base.specs.declared.run.End.TheVariants.{Ended}
use Rattle.cmd_session.specs.Lines.{end_line}
use Rattle.cmd_load.specs.declared.summary.Summary.{Summary}

-- the sizes of the source and of its text, in bytes
abbrev pub sizes_part : Summary → List ℕ
sizes_part s =
    codes "load " ++ (decimal s.functions ++ (codes ": source " ++ (decimal s.source
    ++ (codes " bytes, text " ++ (decimal s.text ++ codes " bytes, ")))))

-- the turns and the instructions, and how many bytes were written
abbrev pub counts_part : Summary → List ℕ
counts_part s =
    decimal s.turns ++ (codes " turns, " ++ (decimal s.instructions ++ (codes " instructions, output "
    ++ (decimal s.output ++ codes " bytes, "))))

-- and the line of the end
abbrev pub summary_line : Summary → List ℕ
summary_line s = (sizes_part s ++ counts_part s) ++ end_line (Ended s.value) 0
