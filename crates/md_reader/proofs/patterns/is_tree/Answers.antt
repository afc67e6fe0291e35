use Rattle.md_reader.proofs.PatternLaws.{too_many}
use Rattle.md_reader.proofs.patterns.is_tree.Goals as goal

pub returns-then-wanted-eq0 : goal.returns-then-wanted-eq0
returns-then-wanted-eq0 c = too_many c.loop-sym.wanted c.loop-sym.sym-index c.args.right.now c.if-wanted-eq0.true c.loop-sym-test.true c.loop-sym.invariant.0
