-- The scene of a rule's lines, and that an instance of a rule is one in which they are run.
use Rattle.std.specs.Prelude.{Bool, List, None}
use Rattle.l32_target_runs.specs.vax_target_meaning.specs.tree_core.specs.declared.program.TreeProgram.{TreeProgram}
use Rattle.l32_target_runs.specs.vax_target_meaning.specs.tree_meaning.specs.State.{Extent}
use Rattle.l32_target_runs.specs.judging_laws.specs.md_reader.specs.declared.types.Class.{Class}
use Rattle.l32_target_runs.specs.judging_laws.specs.md_reader.specs.declared.types.Rule.{Rule}
use Rattle.l32_target_runs.specs.judging_laws.specs.sel_terms.specs.Effects.{EffectShape}
use Rattle.l32_target_runs.specs.judging_laws.specs.sel_target.specs.declared.attr.Attr.{Attr}
use Rattle.l32_target_runs.specs.judging_laws.specs.sel_target.specs.Values.{View}
use Rattle.l32_target_runs.specs.judging_laws.specs.sel_target.specs.Instances.{IsResult, Instance}
use Rattle.l32_target_runs.specs.judging_laws.specs.vax_templates.specs.Settings.{holes_of, setting_of}
use Rattle.l32_target_runs.specs.l32_templates.specs.l32_core.specs.declared.operand.Operand32.{Operand32}
use Rattle.l32_target_runs.specs.l32_templates.specs.l32_machine.specs.State.{State}
use Rattle.l32_target_runs.specs.l32_target_meaning.specs.L32.{l32}
use Rattle.l32_target_runs.specs.l32_target_operands.specs.Scenes.{Scene, Sees}

abbrev pub scene_of : TreeProgram → List Class → Rule → List (Attr Operand32) → Attr Operand32 → View → Scene
scene_of q classes rule hs res v = record {
  program = q;
  setting = setting_of classes rule;
  roles = holes_of classes rule.right;
  holes = hs;
  own = res;
  view = v;
}

-- in an instance of a rule each hole means what it stands for
abbrev pub InstancesAreSeen : Type 0
InstancesAreSeen = (every : Bool) (q : TreeProgram) (f : Extent) (fs : List Extent) (classes : List Class) (rule : Rule) (e : EffectShape)
    (hs : List (Attr Operand32)) (res : Attr Operand32) (v : View) (m : State) →
    Instance l32 every q f fs classes rule e hs v m → IsResult l32 rule.give hs res → Sees (scene_of q classes rule hs res v) None m
