use Rattle.std.proofs.Common.{rules, ◌∙◌, ℕ, length, not, sym, ap}
use Rattle.std.specs.Prelude.{unwrap_or}
use Rattle.std.proofs.lemmas.Iterator.{YieldsList-from_slice}
use Rattle.std.proofs.lemmas.Iterator.Search.{position_from_yields_List}
use borrow.Author.Tests.{tests}
use Rattle.gg_base.proofs.FrontLaws.{run_found}
use Rattle.gg_base.specs.Names.{is_name_part}
use Rattle.l32_reader.proofs.fronts.name_part_len.Goals as goal

pub returns-clause-len : goal.returns-clause-len
returns-clause-len c =
    let bytes = c.args.bytes.now in
    let ends = λ (b : ℕ). not (is_name_part b) in
    let found = position_from_yields_List ends _ _ _ c.position.ensures.ran (YieldsList-from_slice bytes cc) (λ x b q k. search (rules, tests)) in
    c.unwrap_or.ensures ∙ (ap (λ o. unwrap_or o (length bytes)) found ∙ sym (run_found is_name_part bytes))
