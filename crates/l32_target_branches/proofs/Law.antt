-- The lines of a statement that branches or jumps do its deed.
use Rattle.std.proofs.Common.{◌≡◌, ℕ, zero, suc, inl, inr, Bool, true, false, cond, List, [], ◌∷◌, map, Option, Some, None, refl, ap, subst, ◌∙◌}
use Rattle.std.specs.Prelude.{slice_get}
use Rattle.std.specs.Option.{option_or, option_map}
use Rattle.std.proofs.lemmas.Option.{same_Some, none-some}
use Rattle.gg_base.specs.declared.relation.Rel.{Rel}
use Rattle.gg_base.specs.Relations.{holds}
use Rattle.l32_target_statements.specs.l32_target_rules.specs.vax_target_meaning.specs.tree_core.specs.declared.program.TreeProgram.{TreeProgram}
use Rattle.l32_target_statements.specs.l32_target_rules.specs.vax_target_meaning.specs.tree_core.specs.declared.tree.Att.{Att}
use Rattle.l32_target_statements.specs.l32_target_rules.specs.vax_target_meaning.specs.tree_core.specs.declared.tree.Att.TheVariants as att
use Rattle.l32_target_statements.specs.l32_target_rules.specs.vax_target_meaning.specs.tree_core.specs.declared.tree.Leaf.{Leaf}
use Rattle.l32_target_statements.specs.l32_target_rules.specs.vax_target_meaning.specs.tree_core.specs.Names.{label_name}
use Rattle.l32_target_statements.specs.l32_target_rules.specs.vax_target_meaning.specs.tree_meaning.specs.State.{Extent}
use Rattle.l32_target_statements.specs.l32_target_rules.specs.vax_target_meaning.specs.tree_meaning.specs.Deeds.{Deed, Branches, Jumps}
use Rattle.l32_target_statements.specs.l32_target_rules.specs.vax_target_meaning.specs.tree_meaning.specs.Steps as steps
use Rattle.l32_target_statements.specs.l32_target_rules.specs.vax_target_meaning.specs.tree_meaning.specs.Steps.{Step, deed_step}
use Rattle.l32_target_statements.specs.l32_target_rules.specs.judging_laws.specs.md_reader.specs.declared.types.Class.{Class}
use Rattle.l32_target_statements.specs.l32_target_rules.specs.judging_laws.specs.md_reader.specs.declared.types.Rule.{Rule}
use Rattle.l32_target_statements.specs.l32_target_rules.specs.judging_laws.specs.term_core.specs.Shape.{Shape}
use Rattle.l32_target_statements.specs.l32_target_rules.specs.judging_laws.specs.sel_terms.specs.Effects.{ActShape, EffectShape, Branch, Jump}
use Rattle.l32_target_statements.specs.l32_target_rules.specs.judging_laws.specs.sel_target.specs.declared.attr.Attr.{Attr}
use Rattle.l32_target_statements.specs.l32_target_rules.specs.judging_laws.specs.sel_target.specs.declared.attr.Attr.TheVariants as attr
use Rattle.l32_target_statements.specs.l32_target_rules.specs.judging_laws.specs.sel_target.specs.Courses.{Course}
use Rattle.l32_target_statements.specs.l32_target_rules.specs.judging_laws.specs.sel_target.specs.Values.{View, value}
use Rattle.l32_target_statements.specs.l32_target_rules.specs.judging_laws.specs.sel_target.specs.Instances.{hole, Ready}
use Rattle.l32_target_statements.specs.l32_target_rules.specs.judging_laws.specs.sel_target.specs.StatementLaws.{att_of, IsStep, DoesAct}
use Rattle.l32_target_statements.specs.l32_target_rules.specs.judging_laws.specs.vax_templates.specs.FilledLines.{label_of_att}
use Rattle.l32_target_statements.specs.l32_target_rules.specs.l32_templates.specs.l32_core.specs.declared.operand.Operand32.{Operand32}
use Rattle.l32_target_statements.specs.l32_target_rules.specs.l32_templates.specs.l32_core.specs.declared.code.Instr32.{Instr32}
use Rattle.l32_target_statements.specs.l32_target_rules.specs.l32_templates.specs.l32_machine.specs.State.{State}
use Rattle.l32_target_statements.specs.l32_target_rules.specs.l32_templates.specs.FilledLines.{label_in, label_among}
use Rattle.l32_target_statements.specs.l32_target_rules.specs.l32_target_meaning.specs.Running.{branching, run}
use Rattle.l32_target_statements.specs.l32_target_rules.specs.l32_target_meaning.specs.L32.{l32}
use Rattle.l32_target_statements.specs.l32_target_rules.specs.l32_target_operands.specs.Scenes.{Scene, worth, filling_at}
use Rattle.l32_target_statements.specs.l32_target_rules.specs.l32_target_runs.specs.Runs.{EndsIn, IsDone, line_of}
use Rattle.l32_target_statements.specs.l32_target_rules.specs.Scene.{scene_of}
use Rattle.rule_heads.proofs.Firsts.{branch_hole}
use Rattle.l32_target_statements.specs.Laws.{IsDeed}
use Rattle.l32_target_statements.proofs.Ended.{ended, agrees, live, filled_hole, done}
use Rattle.l32_target_branches.specs.Laws.{IsBranching, StatementsBranch}

-- ---- labels

token_is : (h : Attr Operand32) (a : Att) → att_of (Some h) ≡ Some a → (l : Leaf) × (h ≡ attr.Token l) × (l.att ≡ a)
token_is (attr.Token l) a e = (l, refl, same_Some l.att a e)
token_is _ a e = absurd (none-some a e)

-- the first hole has the label
first_label : (hs : List (Attr Operand32)) (a : Att) (label : ℕ) → att_of (slice_get hs 0) ≡ Some a → label_of_att a ≡ Some label → label_among hs ≡ Some label
first_label [] a label e is = absurd (none-some a e)
first_label (h ∷ hs) a label e is =
    let t = token_is h a e in
    ap (λ x. option_or (label_in x) (label_among hs)) t.1 ∙ ap (λ x. option_or (label_of_att x) (label_among hs)) t.2 ∙ ap (λ x. option_or x (label_among hs)) is

module _ (q : TreeProgram) (f : Extent) (fs : List Extent) (classes : List Class) (rule : Rule) (e : EffectShape) (hs : List (Attr Operand32)) (res : Attr Operand32) (v : View) (m : State)
    (ready : Ready l32 q f fs classes rule e hs res v m) (deed : IsDeed e.act) where
  abbrev S : Scene
  S = scene_of q classes rule hs res v

  abbrev D : Course Instr32 State
  D = run (map (line_of S) rule.lines) m

  abbrev E : EndsIn S m e.act D
  E = ended q f fs classes rule e hs res v m ready deed

  abbrev n : State
  n = E.state

  abbrev G : Step → Type 0
  G s = IsStep l32 q f fs v.state m D s

  way : (b : Bool) (label : ℕ) → D ≡ branching b (Some (label_name label)) n → G (cond b (steps.GoesTo label v.state) (steps.Goes v.state))
  way true label is = (n, is, record { agrees = agrees q f fs classes rule e hs res v m ready deed; live = live q f fs classes rule e hs res v m ready deed })
  way false label is = (n, is, record { agrees = agrees q f fs classes rule e hs res v m ready deed; live = live q f fs classes rule e hs res v m ready deed })

  jump_goes : (label : ℕ) → IsDone S n Jump D → att_of (hole hs 1) ≡ Some (att.Label label) → G (deed_step q v.state (Jumps label))
  jump_goes label (inl x) at = way true label (x.1 ∙ ap (λ o. branching true (option_map label_name o) n) (first_label hs (att.Label label) label at refl))
  jump_goes label (inr x) at = absurd (let z = x.1 in cc)

  -- the hole of a branch is the first
  hole_one : (i : ℕ) (r : Rel) (label : ℕ) → att_of (hole hs i) ≡ Some (att.Branch r label) → (l : Leaf) × (i ≡ 1) × (hole hs i ≡ Some (attr.Token l)) × (l.att ≡ att.Branch r label)
  hole_one zero r label at = absurd (none-some _ at)
  hole_one (suc j) r label at = by (slice_get hs j) refl at where
    by : (o : Option (Attr Operand32)) → slice_get hs j ≡ o → att_of o ≡ Some (att.Branch r label) →
        (l : Leaf) × (suc j ≡ 1) × (slice_get hs j ≡ Some (attr.Token l)) × (l.att ≡ att.Branch r label)
    by None there h = absurd (none-some _ h)
    by (Some a) there h =
        let t = token_is a (att.Branch r label) h in
        let there' = there ∙ ap Some t.1 in
        let one = branch_hole l32 classes _ rule.right hs j t.0 r label ready.instance_of.rule_fits.sides.sorted ready.instance_of.holes_fit there' t.2 in
        (t.0, ap suc one, there', t.2)

  branch_goes : (i : ℕ) (a b : Shape) (r : Rel) (label y z : ℕ) → IsDone S n (Branch i a b) D → att_of (hole hs i) ≡ Some (att.Branch r label) → value v a ≡ y → value v b ≡ z
      → G (deed_step q v.state (Branches r label y z))
  branch_goes i a b r label y z (inl x) at ya zb =
      let h = hole_one i r label at in
      let filled : att_of (Some (filling_at S i)) ≡ Some (att.Branch r label) =
      ap (λ (k : Attr Operand32). att_of (Some k)) (filled_hole q f fs classes rule e hs res v m ready deed i (attr.Token h.0) h.2) ∙ ap (λ (k : Att). Some k) h.3 in
      let there : label_among hs ≡ Some label = first_label hs (att.Branch r label) label (subst (λ k. att_of (hole hs k) ≡ Some (att.Branch r label)) h.1 at) refl in
      subst (λ k. G (deed_step q v.state (Branches r label k z))) ya
      (subst (λ k. G (deed_step q v.state (Branches r label (worth S a) k))) zb
      (way (holds r (worth S a) (worth S b)) label (x.1 r label filled ∙ ap (λ o. branching (holds r (worth S a) (worth S b)) (option_map label_name o) n) there)))
  branch_goes i a b r label y z (inr x) at ya zb = absurd (let k = x.1 in cc)

  abbrev done_so : (a : ActShape) → e.act ≡ a → IsDone S n a D
  done_so a is = done q f fs classes rule e hs res v m ready deed a is

  pub does : (a : ActShape) (d : Deed) → e.act ≡ a → IsBranching a → DoesAct l32 q f rule.restrictions hs v m a d → G (deed_step q v.state d)
  does (Branch i a b) (Branches r label y z) is s h = branch_goes i a b r label y z (done_so (Branch i a b) is) h.0 h.2 h.3
  does (Branch i a b) _ is s h = absurd h
  does Jump (Jumps label) is s h = jump_goes label (done_so Jump is) h
  does Jump _ is s h = absurd h
  does _ d is s h = absurd s

deed_of : (a : ActShape) → IsBranching a → IsDeed a
deed_of (Branch i a b) s = tt
deed_of Jump s = tt
deed_of _ s = absurd s

pub statements_branch : StatementsBranch
statements_branch q f fs classes rule e d hs res v m ready s h = does q f fs classes rule e hs res v m ready (deed_of e.act s) e.act d refl s h
