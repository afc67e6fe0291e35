use Rattle.md_reader_text.proofs.LineLaws.{seen_lines}
use Rattle.md_reader_text.proofs.lines.next_line.Goals as goal

pub returns-clause-is : goal.returns-clause-is
returns-clause-is c = seen_lines c.cut_line.result c.args.text.now c.cut_line.ensures.is
