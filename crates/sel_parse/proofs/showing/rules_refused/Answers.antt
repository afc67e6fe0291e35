use Rattle.std.proofs.Common.{sym, subst}
use Rattle.std.proofs.lemmas.List.Elements.{All-from_recursion}
use Rattle.md_reader.specs.Valid.{IsRule}
use Rattle.sel_parse.proofs.showing.rules_refused.Goals as goal

pub rule_refused-requires : goal.rule_refused-requires
rule_refused-requires g c =
    let valid = IsRule c.args.classes.now in
    let rule = c.index-rules-number in
    subst valid (sym rule.is) (All-from_recursion valid c.args.rules.now c.requires.valid c.loop-number.number rule.result c.loop-number-test.true)
