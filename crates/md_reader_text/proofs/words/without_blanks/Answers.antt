use Rattle.std.proofs.Common.{rules, sym, ◌∙◌}
use Rattle.std.proofs.lemmas.Iterator.{YieldsList-from_slice}
use Rattle.std.proofs.lemmas.Iterator.Search.{position_from_yields_List}
use borrow.Author.Tests.{tests}
use Rattle.md_reader_text.proofs.WordLaws.{shows, skipped_at, all_skipped}
use Rattle.md_reader_text.proofs.words.without_blanks.Goals as goal

pub returns-in-Some : goal.returns-in-Some
returns-in-Some c =
    let line = c.args.line.now in
    skipped_at line c.in-Some.start (sym c.in-Some.is
    ∙ position_from_yields_List shows _ _ _ c.position.ensures.ran (YieldsList-from_slice line cc) (λ x b q k. search (rules, tests)))

pub returns-in-None : goal.returns-in-None
returns-in-None c =
    let line = c.args.line.now in
    all_skipped line (sym c.in-None.is
    ∙ position_from_yields_List shows _ _ _ c.position.ensures.ran (YieldsList-from_slice line cc) (λ x b q k. search (rules, tests)))
