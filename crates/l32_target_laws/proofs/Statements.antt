-- The law of a target on statements: what stores, pushes, saves or returns, what branches or jumps, and what calls.
use Rattle.std.proofs.Common.{◌≡◌, List, refl, sym, subst}
use Rattle.l32_target_traps.specs.l32_target_rules.specs.vax_target_meaning.specs.tree_core.specs.declared.program.TreeProgram.{TreeProgram}
use Rattle.l32_target_traps.specs.l32_target_rules.specs.vax_target_meaning.specs.tree_meaning.specs.State.{Extent}
use Rattle.l32_target_traps.specs.l32_target_rules.specs.vax_target_meaning.specs.tree_meaning.specs.Deeds.{Deed}
use Rattle.l32_target_traps.specs.l32_target_rules.specs.vax_target_meaning.specs.tree_meaning.specs.Steps.{deed_step}
use Rattle.l32_target_traps.specs.l32_target_rules.specs.judging_laws.specs.md_reader.specs.declared.types.Class.{Class}
use Rattle.l32_target_traps.specs.l32_target_rules.specs.judging_laws.specs.md_reader.specs.declared.types.Rule.{Rule}
use Rattle.l32_target_traps.specs.l32_target_rules.specs.judging_laws.specs.sel_terms.specs.Effects.{ActShape, EffectShape, StoreHome, StoreAt, Branch, Push, Call, Save, Return, Jump}
use Rattle.l32_target_traps.specs.l32_target_rules.specs.judging_laws.specs.sel_target.specs.declared.attr.Attr.{Attr}
use Rattle.l32_target_traps.specs.l32_target_rules.specs.judging_laws.specs.sel_target.specs.Values.{View}
use Rattle.l32_target_traps.specs.l32_target_rules.specs.judging_laws.specs.sel_target.specs.Instances.{lines_of, Ready}
use Rattle.l32_target_traps.specs.l32_target_rules.specs.judging_laws.specs.sel_target.specs.StatementLaws.{IsStep, DoesAct, DoesStatements}
use Rattle.l32_target_traps.specs.l32_target_rules.specs.l32_templates.specs.l32_core.specs.declared.operand.Operand32.{Operand32}
use Rattle.l32_target_traps.specs.l32_target_rules.specs.l32_templates.specs.l32_machine.specs.State.{State}
use Rattle.l32_target_traps.specs.l32_target_meaning.specs.L32.{l32}
use Rattle.l32_target_calls.specs.l32_target_statements.specs.Laws.{IsStoring}
use Rattle.l32_target_calls.specs.l32_target_statements.proofs.Law.{statements_store}
use Rattle.l32_target_branches.specs.Laws.{IsBranching}
use Rattle.l32_target_branches.proofs.Law.{statements_branch}
use Rattle.l32_target_calls.proofs.Law.{calls_do}

module _ (q : TreeProgram) (f : Extent) (fs : List Extent) (classes : List Class) (rule : Rule) (e : EffectShape) (d : Deed)
    (hs : List (Attr Operand32)) (res : Attr Operand32) (v : View) (m : State) (ready : Ready l32 q f fs classes rule e hs res v m)
    (h : DoesAct l32 q f rule.restrictions hs v m e.act d) where
  abbrev G : Type 0
  G = IsStep l32 q f fs v.state m (l32.run (lines_of l32 q rule hs res) m) (deed_step q v.state d)

  abbrev Act : ActShape → Type 0
  Act a = DoesAct l32 q f rule.restrictions hs v m a d

  storing : (a : ActShape) → e.act ≡ a → IsStoring a → G
  storing a is s = statements_store q f fs classes rule e d hs res v m ready (subst IsStoring (sym is) s) h

  branching : (a : ActShape) → e.act ≡ a → IsBranching a → G
  branching a is s = statements_branch q f fs classes rule e d hs res v m ready (subst IsBranching (sym is) s) h

  by_act : (a : ActShape) → e.act ≡ a → Act a → G
  by_act (StoreHome z i t) is k = storing (StoreHome z i t) is tt
  by_act (StoreAt z a t) is k = storing (StoreAt z a t) is tt
  by_act (Branch i a b) is k = branching (Branch i a b) is tt
  by_act (Push t) is k = storing (Push t) is tt
  by_act Call is k = calls_do q f fs classes rule e d hs res v m ready is h
  by_act (Save i) is k = storing (Save i) is tt
  by_act (Return t) is k = storing (Return t) is tt
  by_act Jump is k = branching Jump is tt
  by_act _ is k = absurd k

  pub act_does : G
  act_does = by_act e.act refl h

pub statements_do : DoesStatements l32
statements_do = record { does = λ q f fs classes rule e d hs res v m ready h. act_does q f fs classes rule e d hs res v m ready h }
