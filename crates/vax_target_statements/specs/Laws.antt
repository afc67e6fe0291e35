-- The law of this crate: what the lines of a statement do.
use Rattle.std.specs.Prelude.{List}
use Rattle.tree_core.specs.declared.program.TreeProgram.{TreeProgram}
use Rattle.tree_meaning.specs.State.{Extent}
use Rattle.tree_meaning.specs.Deeds.{Deed}
use Rattle.tree_meaning.specs.Steps.{deed_step}
use Rattle.md_reader.specs.declared.types.Class.{Class}
use Rattle.md_reader.specs.declared.types.Rule.{Rule}
use Rattle.vax_target_rules.specs.sel_terms.specs.Effects.{ActShape, EffectShape, StoreHome, StoreAt, Branch, Push, Save, Return, Jump}
use Rattle.vax_target_rules.specs.sel_target.specs.declared.attr.Attr.{Attr}
use Rattle.vax_target_rules.specs.sel_target.specs.Values.{View}
use Rattle.vax_target_rules.specs.sel_target.specs.Instances.{lines_of, Ready}
use Rattle.vax_target_rules.specs.sel_target.specs.StatementLaws.{IsStep, DoesAct}
use Rattle.vax_core.specs.declared.operand.Operand.{Operand}
use Rattle.vax_machine.specs.State.{State}
use Rattle.vax_target_rules.specs.vax_target_meaning.specs.Vax.{vax}

-- a store, a branch, a push, a saved result, a return or a jump
abbrev pub IsOrdinary : ActShape → Type 0
IsOrdinary (StoreHome z i t) = Unit {0}
IsOrdinary (StoreAt z a t) = Unit {0}
IsOrdinary (Branch i a b) = Unit {0}
IsOrdinary (Push t) = Unit {0}
IsOrdinary (Save i) = Unit {0}
IsOrdinary (Return t) = Unit {0}
IsOrdinary Jump = Unit {0}
IsOrdinary a = ⊥

-- the lines of a statement with such an act do its deed
abbrev pub StatementsDo : Type 0
StatementsDo = (q : TreeProgram) (f : Extent) (fs : List Extent) (classes : List Class) (rule : Rule) (e : EffectShape) (d : Deed)
    (hs : List (Attr Operand)) (res : Attr Operand) (v : View) (m : State) →
    Ready vax q f fs classes rule e hs res v m → IsOrdinary e.act → DoesAct vax q f rule.restrictions hs v m e.act d →
    IsStep vax q f fs v.state m (vax.run (lines_of vax q rule hs res) m) (deed_step q v.state d)
