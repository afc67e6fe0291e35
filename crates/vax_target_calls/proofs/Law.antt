-- The law of a target on statements: a call, and all other acts.
use Rattle.std.proofs.Common.{◌≡◌, List, refl, sym, subst}
use Rattle.tree_core.specs.declared.program.TreeProgram.{TreeProgram}
use Rattle.tree_meaning.specs.State.{Extent}
use Rattle.tree_meaning.specs.Deeds.{Deed}
use Rattle.tree_meaning.specs.Steps.{deed_step}
use Rattle.vax_target_statements.specs.md_reader.specs.declared.types.Class.{Class}
use Rattle.vax_target_statements.specs.md_reader.specs.declared.types.Rule.{Rule}
use Rattle.vax_target_statements.specs.sel_terms.specs.Effects.{ActShape, EffectShape, StoreHome, StoreAt, Branch, Push, Call, Save, Return, Jump}
use Rattle.vax_target_statements.specs.sel_target.specs.declared.attr.Attr.{Attr}
use Rattle.vax_target_statements.specs.sel_target.specs.Values.{View}
use Rattle.vax_target_statements.specs.sel_target.specs.Instances.{lines_of, Ready}
use Rattle.vax_target_statements.specs.sel_target.specs.StatementLaws.{IsStep, DoesAct, DoesStatements}
use Rattle.vax_core.specs.declared.operand.Operand.{Operand}
use Rattle.vax_machine.specs.State.{State}
use Rattle.vax_target_statements.specs.vax_target_meaning.specs.Vax.{vax}
use Rattle.vax_target_statements.specs.Laws.{IsOrdinary}
use Rattle.vax_target_statements.proofs.Law.{statements_do}
use Rattle.vax_target_calls.proofs.Calling.{calls_do}

module _ (q : TreeProgram) (f : Extent) (fs : List Extent) (classes : List Class) (rule : Rule) (e : EffectShape) (d : Deed)
    (hs : List (Attr Operand)) (res : Attr Operand) (v : View) (m : State) (ready : Ready vax q f fs classes rule e hs res v m)
    (h : DoesAct vax q f rule.restrictions hs v m e.act d) where
  abbrev G : Type 0
  G = IsStep vax q f fs v.state m (vax.run (lines_of vax q rule hs res) m) (deed_step q v.state d)

  ordinary : (a : ActShape) → e.act ≡ a → IsOrdinary a → G
  ordinary a is o = statements_do q f fs classes rule e d hs res v m ready (subst IsOrdinary (sym is) o) h

  abbrev Act : ActShape → Type 0
  Act a = DoesAct vax q f rule.restrictions hs v m a d

  by_act : (a : ActShape) → e.act ≡ a → Act a → G
  by_act (StoreHome z i t) is k = ordinary (StoreHome z i t) is tt
  by_act (StoreAt z a t) is k = ordinary (StoreAt z a t) is tt
  by_act (Branch i a b) is k = ordinary (Branch i a b) is tt
  by_act (Push t) is k = ordinary (Push t) is tt
  by_act Call is k = calls_do q f fs classes rule e d hs res v m ready is h
  by_act (Save i) is k = ordinary (Save i) is tt
  by_act (Return t) is k = ordinary (Return t) is tt
  by_act Jump is k = ordinary Jump is tt
  by_act _ is k = absurd k

  pub act_does : G
  act_does = by_act e.act refl h

pub target_does : DoesStatements vax
target_does = record { does = λ q f fs classes rule e d hs res v m ready h. act_does q f fs classes rule e d hs res v m ready h }
