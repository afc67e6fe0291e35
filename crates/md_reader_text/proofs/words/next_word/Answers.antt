use Rattle.md_reader_text.proofs.WordLaws.{seen_words}
use Rattle.md_reader_text.proofs.words.next_word.Goals as goal

pub returns : goal.returns
returns c = seen_words c.cut_word.result c.args.line.now c.cut_word.ensures
