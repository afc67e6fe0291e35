use Rattle.sel_parse_desk.specs.Mirror.{IsReady}
use Rattle.sel_parse.specs.Steps.{config_of}
use Rattle.sel_parse.proofs.Going.{Going, weight}
use Rattle.sel_parse.proofs.selection.parsed.Given as goal

abbrev pub invariant-steps : goal.invariant-steps
invariant-steps g l =
    Going g.T.Templates.meaning l.setting.program.now l.tables l.setting.first l.tree (config_of l.parse) × IsReady g.T.Templates.meaning l.parse.desk

abbrev pub decreases-steps : goal.decreases-steps
decreases-steps g l = weight g.T.Templates.meaning l.setting.program.now l.tables l.setting.first l.tree (config_of l.parse)
