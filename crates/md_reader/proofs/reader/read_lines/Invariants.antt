use Rattle.std.proofs.Common.{◌≡◌, length}
use Rattle.md_reader.specs.Fine.{IsFine}
use Rattle.md_reader.specs.View.{state}
use Rattle.md_reader.specs.Reads.{start, read_from}
use Rattle.md_reader.proofs.reader.read_lines.Given as goal

abbrev pub invariant-loop-rest : goal.invariant-loop-rest
invariant-loop-rest l =
    (read_from l.fn.target l.fn.text.bad l.fn.end (state l.reading) l.rest ≡ read_from l.fn.target l.fn.text.bad l.fn.end start l.fn.text.lines)
    × IsFine (state l.reading) l.rest

abbrev pub decreases-loop-rest : goal.decreases-loop-rest
decreases-loop-rest l = length l.rest
