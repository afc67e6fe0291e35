use Rattle.std.proofs.Common.{◌≡◌, length}
use Rattle.md_reader_text.specs.Words.{words}
use Rattle.md_reader.specs.Forms.{pool_from}
use Rattle.md_reader.proofs.forms.pool_from.Given as goal

abbrev pub invariant-loop-word : goal.invariant-loop-word
invariant-loop-word l = pool_from l.pool (words l.rest) ≡ pool_from 0 (words l.fn.line)

abbrev pub decreases-loop-word : goal.decreases-loop-word
decreases-loop-word l = length (words l.rest)
