-- The law of this crate: what a rule gives that gives a shape.
use Rattle.l32_target_rules.specs.judging_laws.specs.sel_target.specs.TemplateLaws.{GivesShapes}
use Rattle.l32_target_rules.specs.l32_target_meaning.specs.L32.{l32}

-- the lines change nothing, and the shape stands for what is given
abbrev pub ShapesStand : Type 0
ShapesStand = GivesShapes l32
