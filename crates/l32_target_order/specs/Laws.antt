-- The laws of this crate: instructions are done in order, and what a template divides by and consists of.
use Rattle.std.specs.Prelude.{◌≡◌, ◌≤◌, List, length, Some, Ok}
use Rattle.judging_laws.specs.md_reader.specs.declared.types.Kind.TheVariants as kind
use Rattle.judging_laws.specs.md_reader.specs.declared.types.Class.{Class}
use Rattle.judging_laws.specs.md_reader.specs.declared.types.Rule.{Rule}
use Rattle.judging_laws.specs.md_reader.specs.Patterns.{kind_at}
use Rattle.judging_laws.specs.sel_terms.specs.Effects.{EffectShape}
use Rattle.judging_laws.specs.sel_target.specs.TemplateLaws.{RunsInOrder}
use Rattle.l32_target_meaning.specs.L32.{l32}

-- instructions are done one after another
abbrev pub InstructionsRun : Type 0
InstructionsRun = RunsInOrder l32

-- no rule divides twice
abbrev pub RulesDivideOnce : Type 0
RulesDivideOnce = (classes : List Class) (rule : Rule) (e : EffectShape) → l32.effect classes rule ≡ Ok e → length e.divisors ≤ 1

-- a statement has a line
abbrev pub StatementsHaveLines : Type 0
StatementsHaveLines =
    (classes : List Class) (rule : Rule) (e : EffectShape)
    → l32.effect classes rule ≡ Ok e → kind_at classes rule.left ≡ Some kind.Nothing → 1 ≤ length rule.lines
