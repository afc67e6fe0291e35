-- The law of this crate: a rule that gives a shape.
use Rattle.vax_target_rules.specs.sel_target.specs.TemplateLaws.{GivesShapes}
use Rattle.vax_target_rules.specs.vax_target_meaning.specs.Vax.{vax}

-- its lines change nothing, and the operand stands for what the rule gives
abbrev pub ShapesAreGiven : Type 0
ShapesAreGiven = GivesShapes vax
