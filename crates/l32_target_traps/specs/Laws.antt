-- The law of this crate: a zero divisor traps.
use Rattle.std.specs.Prelude.{◌≡◌, List, [], ◌∷◌, false}
use Rattle.l32_target_rules.specs.vax_target_meaning.specs.tree_core.specs.declared.program.TreeProgram.{TreeProgram}
use Rattle.l32_target_rules.specs.vax_target_meaning.specs.tree_meaning.specs.State.{Extent}
use Rattle.l32_target_rules.specs.judging_laws.specs.md_reader.specs.declared.types.Class.{Class}
use Rattle.l32_target_rules.specs.judging_laws.specs.md_reader.specs.declared.types.Rule.{Rule}
use Rattle.l32_target_rules.specs.judging_laws.specs.term_core.specs.Shape.{Shape}
use Rattle.l32_target_rules.specs.judging_laws.specs.sel_terms.specs.Effects.{EffectShape}
use Rattle.l32_target_rules.specs.judging_laws.specs.sel_target.specs.declared.attr.Attr.{Attr}
use Rattle.l32_target_rules.specs.judging_laws.specs.sel_target.specs.Courses.{traps}
use Rattle.l32_target_rules.specs.judging_laws.specs.sel_target.specs.Values.{View, value}
use Rattle.l32_target_rules.specs.judging_laws.specs.sel_target.specs.Instances.{lines_of, IsResult, Instance}
use Rattle.l32_target_rules.specs.l32_templates.specs.l32_core.specs.declared.operand.Operand32.{Operand32}
use Rattle.l32_target_rules.specs.l32_templates.specs.l32_machine.specs.State.{State}
use Rattle.l32_target_rules.specs.l32_target_meaning.specs.L32.{l32}

abbrev pub DivisionsTrap : Type 0
DivisionsTrap = (q : TreeProgram) (f : Extent) (fs : List Extent) (classes : List Class) (rule : Rule) (e : EffectShape) (d : Shape)
    (hs : List (Attr Operand32)) (res : Attr Operand32) (v : View) (m : State) →
    Instance l32 false q f fs classes rule e hs v m → IsResult l32 rule.give hs res → e.divisors ≡ d ∷ [] → value v d ≡ 0 →
    l32.run (lines_of l32 q rule hs res) m ≡ traps
