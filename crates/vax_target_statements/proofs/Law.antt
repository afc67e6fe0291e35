-- The lines of a statement do its deed.
use Rattle.std.proofs.Common.{◌≡◌, ℕ, List, refl, sym, subst}
use Rattle.gg_base.specs.declared.size.Size.{Size}
use Rattle.tree_core.specs.declared.program.TreeProgram.{TreeProgram}
use Rattle.tree_meaning.specs.State.{Extent}
use Rattle.tree_meaning.specs.Deeds.{Deed, Puts, Branches, Pushes, Returns as Leaves, Saves, Jumps}
use Rattle.tree_meaning.specs.Steps.{deed_step}
use Rattle.md_reader.specs.declared.types.Class.{Class}
use Rattle.md_reader.specs.declared.types.Rule.{Rule}
use Rattle.term_core.specs.Shape.{Shape}
use Rattle.vax_target_rules.specs.sel_terms.specs.Effects.{ActShape, EffectShape, StoreHome, StoreAt, Branch, Push, Save, Return, Jump}
use Rattle.vax_target_rules.specs.sel_target.specs.declared.attr.Attr.{Attr}
use Rattle.vax_target_rules.specs.sel_target.specs.Values.{View}
use Rattle.vax_target_rules.specs.sel_target.specs.Instances.{Ready}
use Rattle.vax_target_rules.specs.sel_target.specs.StatementLaws.{DoesAct}
use Rattle.vax_core.specs.declared.operand.Operand.{Operand}
use Rattle.vax_machine.specs.State.{State}
use Rattle.vax_target_rules.specs.vax_target_meaning.specs.Vax.{vax}
use Rattle.vax_target_rules.specs.vax_target_lines.specs.Lines.{DoesDeed}
use Rattle.vax_target_rules.specs.vax_target_runs.specs.Runs.{IsReturn, EndsIn}
use Rattle.vax_target_statements.specs.Laws.{IsOrdinary, StatementsDo}
use Rattle.vax_target_statements.proofs.LastLines.{c, did, IsDeed, statement_ends}
use Rattle.vax_target_statements.proofs.Deeds.{Steps, at_goes, pushes, leaves}
use Rattle.vax_target_statements.proofs.Homes.{home_goes}
use Rattle.vax_target_statements.proofs.Controls.{jumps, branches}
use Rattle.vax_target_statements.proofs.Saves.{saves}

module _ (q : TreeProgram) (f : Extent) (fs : List Extent) (classes : List Class) (rule : Rule) (e : EffectShape) (hs : List (Attr Operand)) (res : Attr Operand) (v : View) (m : State)
    (ready : Ready vax q f fs classes rule e hs res v m) where
  abbrev G : Deed → Type 0
  G d = Steps q f fs classes rule e hs res v m ready (did q f fs classes rule e hs res v m ready) (deed_step q v.state d)

  abbrev Act : ActShape → Deed → Type 0
  Act a d = DoesAct vax q f rule.restrictions hs v m a d

  abbrev X : Type 0
  X = EndsIn (c q f fs classes rule e hs res v m ready) m e.act (did q f fs classes rule e hs res v m ready)

  done : (x : X) (a : ActShape) → e.act ≡ a → DoesDeed (c q f fs classes rule e hs res v m ready) x.state a (did q f fs classes rule e hs res v m ready)
  done x a is = subst (λ b. DoesDeed (c q f fs classes rule e hs res v m ready) x.state b (did q f fs classes rule e hs res v m ready)) is x.does

  ends : (a : ActShape) → e.act ≡ a → IsDeed a → X
  ends a is deed = statement_ends q f fs classes rule e hs res v m ready (subst IsDeed (sym is) deed)

  store_home : (z : Size) (i : ℕ) (t : Shape) (d : Deed) → e.act ≡ (StoreHome z i t) → Act (StoreHome z i t) d → G d
  store_home z i t (Puts g y) is h = home_goes q f fs classes rule e hs res v m ready (subst IsDeed (sym is) tt) (ends (StoreHome z i t) is tt) (λ r. subst IsReturn is r) z i t g y
      (done (ends (StoreHome z i t) is tt) (StoreHome z i t) is) h.0 h.1
  store_home z i t _ is h = absurd h

  store_at : (z : Size) (a : Shape) (t : Shape) (d : Deed) → e.act ≡ (StoreAt z a t) → Act (StoreAt z a t) d → G d
  store_at z a t (Puts g y) is h = at_goes q f fs classes rule e hs res v m ready e.act (ends (StoreAt z a t) is tt) z a t g y (done (ends (StoreAt z a t) is tt) (StoreAt z a t) is) h.0 h.1
  store_at z a t _ is h = absurd h

  branch : (i : ℕ) (a : Shape) (b : Shape) (d : Deed) → e.act ≡ (Branch i a b) → Act (Branch i a b) d → G d
  branch i a b (Branches r label y z') is h = branches q f fs classes rule e hs res v m ready (ends (Branch i a b) is tt) i a b r label y z'
      (done (ends (Branch i a b) is tt) (Branch i a b) is) h.0 h.1 h.2 h.3
  branch i a b _ is h = absurd h

  push : (t : Shape) (d : Deed) → e.act ≡ (Push t) → Act (Push t) d → G d
  push t (Pushes y) is h = pushes q f fs classes rule e hs res v m ready e.act (ends (Push t) is tt) t y (done (ends (Push t) is tt) (Push t) is) h
  push t _ is h = absurd h

  return_ : (t : Shape) (d : Deed) → e.act ≡ (Return t) → Act (Return t) d → G d
  return_ t (Leaves y) is h = (let x = done (ends (Return t) is tt) (Return t) is in leaves q f fs classes rule e hs res v m ready e.act (ends (Return t) is tt) t y x.0 x.1 h)
  return_ t _ is h = absurd h

  jump : (d : Deed) → e.act ≡ Jump → Act Jump d → G d
  jump (Jumps label) is h = jumps q f fs classes rule e hs res v m ready (ends Jump is tt) label (done (ends Jump is tt) Jump is) h
  jump _ is h = absurd h

  save : (i : ℕ) (d : Deed) → e.act ≡ (Save i) → Act (Save i) d → G d
  save i (Saves k) is h = saves q f fs classes rule e hs res v m ready (ends (Save i) is tt) i k is h.0 h.1 (done (ends (Save i) is tt) (Save i) is)
  save i _ is h = absurd h

  pub statement_does : (a : ActShape) (d : Deed) → e.act ≡ a → IsOrdinary a → Act a d → G d
  statement_does (StoreHome z i t) d is o h = store_home z i t d is h
  statement_does (StoreAt z a t) d is o h = store_at z a t d is h
  statement_does (Branch i a b) d is o h = branch i a b d is h
  statement_does (Push t) d is o h = push t d is h
  statement_does (Save i) d is o h = save i d is h
  statement_does (Return t) d is o h = return_ t d is h
  statement_does Jump d is o h = jump d is h
  statement_does _ d is o h = absurd o

pub statements_do : StatementsDo
statements_do q f fs classes rule e d hs res v m ready o h = statement_does q f fs classes rule e hs res v m ready e.act d refl o h
