use Rattle.std.proofs.Common.{sym, subst}
use Rattle.std.proofs.lemmas.List.Elements.{All-from_recursion}
use Rattle.md_reader.specs.Valid.{IsRule}
use Rattle.sel_parse.proofs.showing.pools_refused.Goals as goal

pub need-need-requires : goal.need-need-requires
need-need-requires c =
    let valid = IsRule c.args.classes.now in
    let rule = c.index-rules-number in
    let is_valid : valid rule.result =
    subst valid (sym rule.is) (All-from_recursion valid c.args.rules.now c.requires.valid c.loop-number.number rule.result c.loop-number-test.true) in
    is_valid.sides.short
