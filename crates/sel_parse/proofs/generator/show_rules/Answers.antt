use Rattle.std.proofs.Common.{rules}
use Rattle.sel_parse.proofs.EachShown.{all_shown}
use Rattle.sel_parse.proofs.generator.show_rules.Goals as goal

pub returns-in-Ok-clause-shown : goal.returns-in-Ok-clause-shown
returns-in-Ok-clause-shown g c =
    all_shown g.T.Templates.meaning.effect g.T.Templates.meaning.spill_effect c.args.tables.content (search rules)
