use Rattle.std.proofs.Common.{◌∙◌, rules}
use Rattle.std.proofs.lemmas.Iterator.{YieldsList-from_slice}
use Rattle.std.proofs.lemmas.Iterator.Search.{all_from_yields_List}
use borrow.Author.Tests.{tests}
use Rattle.md_reader.specs.Rows.{piece_fits}
use Rattle.md_reader.proofs.RowLaws.{each_piece}
use Rattle.md_reader.proofs.rows.pieces_fit.Goals as goal

pub returns : goal.returns
returns c =
    all_from_yields_List (piece_fits c.args.register c.args.right.now) _ _ _ c.all.ensures.ran (YieldsList-from_slice c.args.pieces.now cc) (λ x b q k. search (rules, tests))
    ∙ each_piece c.args.register c.args.right.now c.args.pieces.now
