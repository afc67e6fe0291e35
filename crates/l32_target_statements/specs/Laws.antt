-- The law of this crate: what the lines of a statement do that stores, pushes, saves or returns.
use Rattle.std.specs.Prelude.{List}
use Rattle.l32_target_rules.specs.vax_target_meaning.specs.tree_core.specs.declared.program.TreeProgram.{TreeProgram}
use Rattle.l32_target_rules.specs.vax_target_meaning.specs.tree_meaning.specs.State.{Extent}
use Rattle.l32_target_rules.specs.vax_target_meaning.specs.tree_meaning.specs.Deeds.{Deed}
use Rattle.l32_target_rules.specs.vax_target_meaning.specs.tree_meaning.specs.Steps.{deed_step}
use Rattle.l32_target_rules.specs.judging_laws.specs.md_reader.specs.declared.types.Class.{Class}
use Rattle.l32_target_rules.specs.judging_laws.specs.md_reader.specs.declared.types.Rule.{Rule}
use Rattle.l32_target_rules.specs.judging_laws.specs.sel_terms.specs.Effects.{ActShape, EffectShape, StoreHome, StoreAt, Branch, Push, Call, Save, Return, Jump}
use Rattle.l32_target_rules.specs.judging_laws.specs.sel_target.specs.declared.attr.Attr.{Attr}
use Rattle.l32_target_rules.specs.judging_laws.specs.sel_target.specs.Values.{View}
use Rattle.l32_target_rules.specs.judging_laws.specs.sel_target.specs.Instances.{lines_of, Ready}
use Rattle.l32_target_rules.specs.judging_laws.specs.sel_target.specs.StatementLaws.{IsStep, DoesAct}
use Rattle.l32_target_rules.specs.l32_templates.specs.l32_core.specs.declared.operand.Operand32.{Operand32}
use Rattle.l32_target_rules.specs.l32_templates.specs.l32_machine.specs.State.{State}
use Rattle.l32_target_rules.specs.l32_target_meaning.specs.L32.{l32}

-- what a statement's last line does
abbrev pub IsDeed : ActShape → Type 0
IsDeed (StoreHome z i t) = Unit {0}
IsDeed (StoreAt z a t) = Unit {0}
IsDeed (Branch i a b) = Unit {0}
IsDeed (Push t) = Unit {0}
IsDeed Call = Unit {0}
IsDeed (Save i) = Unit {0}
IsDeed (Return t) = Unit {0}
IsDeed Jump = Unit {0}
IsDeed a = ⊥

-- a store, a push, a save of the last call's result or a return
abbrev pub IsStoring : ActShape → Type 0
IsStoring (StoreHome z i t) = Unit {0}
IsStoring (StoreAt z a t) = Unit {0}
IsStoring (Push t) = Unit {0}
IsStoring (Save i) = Unit {0}
IsStoring (Return t) = Unit {0}
IsStoring a = ⊥

-- the lines of a statement with such an act do its deed
abbrev pub StatementsStore : Type 0
StatementsStore = (q : TreeProgram) (f : Extent) (fs : List Extent) (classes : List Class) (rule : Rule) (e : EffectShape) (d : Deed)
    (hs : List (Attr Operand32)) (res : Attr Operand32) (v : View) (m : State) →
    Ready l32 q f fs classes rule e hs res v m → IsStoring e.act → DoesAct l32 q f rule.restrictions hs v m e.act d →
    IsStep l32 q f fs v.state m (l32.run (lines_of l32 q rule hs res) m) (deed_step q v.state d)
