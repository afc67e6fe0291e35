-- The law of this crate: where a divisor is zero, the lines of a rule trap.
use Rattle.std.specs.Prelude.{◌≡◌, List, [], ◌∷◌, false}
use Rattle.vax_target_rules.specs.tree_core.specs.declared.program.TreeProgram.{TreeProgram}
use Rattle.vax_target_rules.specs.tree_meaning.specs.State.{Extent}
use Rattle.vax_target_rules.specs.md_reader.specs.declared.types.Class.{Class}
use Rattle.vax_target_rules.specs.md_reader.specs.declared.types.Rule.{Rule}
use Rattle.term_core.specs.Shape.{Shape}
use Rattle.vax_target_rules.specs.sel_terms.specs.Effects.{EffectShape}
use Rattle.vax_target_rules.specs.sel_target.specs.declared.attr.Attr.{Attr}
use Rattle.vax_target_rules.specs.sel_target.specs.Courses.{traps}
use Rattle.vax_target_rules.specs.sel_target.specs.Values.{View, value}
use Rattle.vax_target_rules.specs.sel_target.specs.Instances.{IsResult, lines_of, Instance}
use Rattle.vax_core.specs.declared.operand.Operand.{Operand}
use Rattle.vax_machine.specs.State.{State}
use Rattle.vax_target_rules.specs.vax_target_meaning.specs.Vax.{vax}

-- a zero divisor traps, also where accesses whose address divides by zero would break
abbrev pub ZeroDivisorsTrap : Type 0
ZeroDivisorsTrap = (q : TreeProgram) (f : Extent) (fs : List Extent) (classes : List Class) (rule : Rule) (e : EffectShape) (d : Shape)
    (hs : List (Attr Operand)) (res : Attr Operand) (v : View) (m : State) →
    Instance vax false q f fs classes rule e hs v m → IsResult vax rule.give hs res → e.divisors ≡ d ∷ [] → value v d ≡ 0 →
    vax.run (lines_of vax q rule hs res) m ≡ traps
