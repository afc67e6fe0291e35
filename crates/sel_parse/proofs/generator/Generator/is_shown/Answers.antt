use Rattle.sel_parse.proofs.EachShown.{rules_shown, lines_shown}
use Rattle.sel_parse.proofs.generator.Generator.is_shown.Goals as goal

pub returns-clause-rules : goal.returns-clause-rules
returns-clause-rules g c =
    rules_shown g.T.Templates.meaning.effect g.T.Templates.meaning.spill_effect c.args.self.now.tables.content c.args.self.now.shown

pub returns-clause-lines : goal.returns-clause-lines
returns-clause-lines g c =
    lines_shown g.T.Templates.meaning.effect g.T.Templates.meaning.spill_effect c.args.self.now.tables.content c.args.self.now.shown
