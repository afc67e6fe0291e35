-- The law of this crate: what the lines of a statement do that calls.
use Rattle.std.specs.Prelude.{◌≡◌, List}
use Rattle.l32_target_statements.specs.l32_target_rules.specs.vax_target_meaning.specs.tree_core.specs.declared.program.TreeProgram.{TreeProgram}
use Rattle.l32_target_statements.specs.l32_target_rules.specs.vax_target_meaning.specs.tree_meaning.specs.State.{Extent}
use Rattle.l32_target_statements.specs.l32_target_rules.specs.vax_target_meaning.specs.tree_meaning.specs.Deeds.{Deed}
use Rattle.l32_target_statements.specs.l32_target_rules.specs.vax_target_meaning.specs.tree_meaning.specs.Steps.{deed_step}
use Rattle.l32_target_statements.specs.l32_target_rules.specs.judging_laws.specs.md_reader.specs.declared.types.Class.{Class}
use Rattle.l32_target_statements.specs.l32_target_rules.specs.judging_laws.specs.md_reader.specs.declared.types.Rule.{Rule}
use Rattle.l32_target_statements.specs.l32_target_rules.specs.judging_laws.specs.sel_terms.specs.Effects.{EffectShape, Call}
use Rattle.l32_target_statements.specs.l32_target_rules.specs.judging_laws.specs.sel_target.specs.declared.attr.Attr.{Attr}
use Rattle.l32_target_statements.specs.l32_target_rules.specs.judging_laws.specs.sel_target.specs.Values.{View}
use Rattle.l32_target_statements.specs.l32_target_rules.specs.judging_laws.specs.sel_target.specs.Instances.{lines_of, Ready}
use Rattle.l32_target_statements.specs.l32_target_rules.specs.judging_laws.specs.sel_target.specs.StatementLaws.{IsStep, DoesAct}
use Rattle.l32_target_statements.specs.l32_target_rules.specs.l32_templates.specs.l32_core.specs.declared.operand.Operand32.{Operand32}
use Rattle.l32_target_statements.specs.l32_target_rules.specs.l32_templates.specs.l32_machine.specs.State.{State}
use Rattle.l32_target_statements.specs.l32_target_rules.specs.l32_target_meaning.specs.L32.{l32}

-- the lines of a statement that calls do its deed
abbrev pub CallsDo : Type 0
CallsDo = (q : TreeProgram) (f : Extent) (fs : List Extent) (classes : List Class) (rule : Rule) (e : EffectShape) (d : Deed)
    (hs : List (Attr Operand32)) (res : Attr Operand32) (v : View) (m : State) →
    Ready l32 q f fs classes rule e hs res v m → e.act ≡ Call → DoesAct l32 q f rule.restrictions hs v m e.act d →
    IsStep l32 q f fs v.state m (l32.run (lines_of l32 q rule hs res) m) (deed_step q v.state d)
