-- The scene of a rule's lines, and that an instance of a rule is one in which they are run.
use Rattle.std.specs.Prelude.{Bool, List, None}
use Rattle.vax_target_runs.specs.tree_core.specs.declared.program.TreeProgram.{TreeProgram}
use Rattle.vax_target_runs.specs.tree_meaning.specs.State.{Extent}
use Rattle.vax_target_runs.specs.md_reader.specs.declared.types.Class.{Class}
use Rattle.vax_target_runs.specs.md_reader.specs.declared.types.Rule.{Rule}
use Rattle.vax_target_runs.specs.sel_terms.specs.Effects.{EffectShape}
use Rattle.vax_target_runs.specs.sel_target.specs.declared.attr.Attr.{Attr}
use Rattle.vax_target_runs.specs.sel_target.specs.Values.{View}
use Rattle.vax_target_runs.specs.sel_target.specs.Instances.{IsResult, Instance}
use Rattle.vax_core.specs.declared.operand.Operand.{Operand}
use Rattle.vax_target_runs.specs.vax_machine.specs.State.{State}
use Rattle.vax_target_runs.specs.vax_templates.specs.Settings.{holes_of, setting_of}
use Rattle.vax_target_runs.specs.vax_target_meaning.specs.Vax.{vax}
use Rattle.vax_target_runs.specs.vax_target_operands.specs.Scenes.{Scene, Sees}

abbrev pub scene_of : TreeProgram → List Class → Rule → List (Attr Operand) → Attr Operand → View → Scene
scene_of q classes rule hs res v = record {
  program = q;
  setting = setting_of classes rule;
  roles = holes_of classes rule.right;
  holes = hs;
  own = res;
  view = v;
}

-- in an instance of a rule each hole means what it stands for
abbrev pub InstancesAreSeen : Type 0
InstancesAreSeen = (every : Bool) (q : TreeProgram) (f : Extent) (fs : List Extent) (classes : List Class) (rule : Rule) (e : EffectShape)
    (hs : List (Attr Operand)) (res : Attr Operand) (v : View) (m : State) →
    Instance vax every q f fs classes rule e hs v m → IsResult vax rule.give hs res → Sees (scene_of q classes rule hs res v) None m
