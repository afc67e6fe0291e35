-- The laws of this crate: what the lines of a statement that calls do, and those of any statement.
use Rattle.std.specs.Prelude.{◌≡◌, List}
use Rattle.tree_core.specs.declared.program.TreeProgram.{TreeProgram}
use Rattle.tree_meaning.specs.State.{Extent}
use Rattle.tree_meaning.specs.Deeds.{Deed}
use Rattle.tree_meaning.specs.Steps.{deed_step}
use Rattle.vax_target_statements.specs.md_reader.specs.declared.types.Class.{Class}
use Rattle.vax_target_statements.specs.md_reader.specs.declared.types.Rule.{Rule}
use Rattle.vax_target_statements.specs.sel_terms.specs.Effects.{EffectShape, Call}
use Rattle.vax_target_statements.specs.sel_target.specs.declared.attr.Attr.{Attr}
use Rattle.vax_target_statements.specs.sel_target.specs.Values.{View}
use Rattle.vax_target_statements.specs.sel_target.specs.Instances.{lines_of, Ready}
use Rattle.vax_target_statements.specs.sel_target.specs.StatementLaws.{IsStep, DoesAct, DoesStatements}
use Rattle.vax_core.specs.declared.operand.Operand.{Operand}
use Rattle.vax_machine.specs.State.{State}
use Rattle.vax_target_statements.specs.vax_target_meaning.specs.Vax.{vax}

-- the lines of a statement that calls do its deed
abbrev pub CallsDo : Type 0
CallsDo = (q : TreeProgram) (f : Extent) (fs : List Extent) (classes : List Class) (rule : Rule) (e : EffectShape) (d : Deed)
    (hs : List (Attr Operand)) (res : Attr Operand) (v : View) (m : State) →
    Ready vax q f fs classes rule e hs res v m → e.act ≡ Call → DoesAct vax q f rule.restrictions hs v m e.act d →
    IsStep vax q f fs v.state m (vax.run (lines_of vax q rule hs res) m) (deed_step q v.state d)

-- the law of a target on statements
abbrev pub TargetDoes : Type 0
TargetDoes = DoesStatements vax
