-- Statements that branch and jump.
use Rattle.std.proofs.Common.{◌≡◌, ℕ, zero, suc, ◌-◌, ◌==◌, inl, inr, Bool, true, false, cond, List, [], ◌∷◌, Option, Some, None, refl, sym, ap, subst, ◌∙◌, arith}
use Rattle.std.specs.Prelude.{slice_get}
use Rattle.std.specs.Option.{option_map, option_or}
use Rattle.std.specs.List.{AllByRecursion}
use Rattle.std.proofs.lemmas.Option.{same_Some}
use Rattle.gg_base.specs.declared.relation.Rel.{Rel}
use Rattle.gg_base.specs.declared.relation.Rel.TheVariants as relations
use Rattle.gg_base.specs.Relations.{holds, compares_signed}
use Rattle.tree_core.specs.declared.program.TreeProgram.{TreeProgram}
use Rattle.tree_core.specs.declared.tree.Att.{Att}
use Rattle.tree_core.specs.declared.tree.Att.TheVariants as att
use Rattle.tree_core.specs.declared.tree.Leaf.{Leaf}
use Rattle.tree_core.specs.Names.{label_name}
use Rattle.tree_meaning.specs.State.{Extent}
use Rattle.tree_meaning.specs.Steps as steps
use Rattle.tree_meaning.specs.Steps.{Step, deed_step}
use Rattle.tree_meaning.specs.Deeds.{Branches, Jumps}
use Rattle.md_reader.specs.declared.types.Class.{Class}
use Rattle.md_reader.specs.declared.types.Restriction.{Restriction}
use Rattle.md_reader.specs.declared.types.Restriction.TheVariants as restriction
use Rattle.md_reader.specs.declared.types.Sym.{Sym}
use Rattle.md_reader.specs.declared.types.Rule.{Rule}
use Rattle.md_reader.specs.Restrictions.{symbol_at, is_branch}
use Rattle.md_reader.specs.Valid.{MayRestrict}
use Rattle.term_core.specs.Shape.{Shape}
use Rattle.vax_target_rules.specs.sel_terms.specs.Effects.{EffectShape}
use Rattle.vax_target_rules.specs.sel_target.specs.declared.attr.Attr.{Attr}
use Rattle.vax_target_rules.specs.sel_target.specs.declared.attr.Attr.TheVariants as attr
use Rattle.vax_target_rules.specs.sel_target.specs.Values.{View, value}
use Rattle.vax_target_rules.specs.sel_target.specs.EffectTerms.{IsSignedBy}
use Rattle.vax_target_rules.specs.sel_target.specs.Instances.{hole, Ready}
use Rattle.vax_target_rules.specs.sel_target.specs.StatementLaws.{att_of}
use Rattle.vax_core.specs.declared.op.Op.TheVariants as ops
use Rattle.vax_core.specs.declared.operand.Operand.{Operand}
use Rattle.vax_machine.specs.Functions.{passes}
use Rattle.vax_machine.specs.State.{State}
use Rattle.vax_target_rules.specs.vax_machine_lists.specs.Instructions.{Course, Goes, ends, branching}
use Rattle.vax_target_rules.specs.vax_confined.specs.Confined.{performed}
use Rattle.vax_target_rules.specs.vax_templates.specs.Settings.{is_signed}
use Rattle.vax_target_rules.specs.vax_templates.specs.FilledLines.{op_of_relation, op_of_att, op_in, label_of_att, label_in, label_among, branch_to}
use Rattle.vax_target_rules.specs.vax_target_meaning.specs.Running.{course_of}
use Rattle.vax_target_rules.specs.vax_target_meaning.specs.Vax.{vax, stands}
use Rattle.vax_target_rules.specs.vax_target_operands.specs.Scenes.{Scene, worth, filling_at}
use Rattle.vax_target_rules.specs.vax_target_operands.specs.Conditions.{test_of}
use Rattle.vax_target_rules.specs.vax_target_lines.specs.Lines.{IsMet}
use Rattle.vax_target_rules.specs.vax_target_runs.specs.Runs.{EndsIn}
use Rattle.vax_target_statements.proofs.LastLines.{c, did, agrees_there, live_there}
use Rattle.vax_target_statements.proofs.Deeds.{filled_hole, Steps}
use Rattle.vax_target_statements.proofs.Firsts.{rest_of, branch_first, branch_hole}

-- ---- labels

pub token_is : (h : Attr Operand) (a : Att) → att_of (Some h) ≡ Some a → (l : Leaf) × (h ≡ attr.Token l) × (l.att ≡ a)
token_is (attr.Reg r) a e = cc
token_is (attr.InSlot w) a e = cc
token_is (attr.Value o) a e = cc
token_is (attr.Place o) a e = cc
token_is (attr.Con n) a e = cc
token_is (attr.Ea o) a e = cc
token_is (attr.Token l) a e = (l, refl, same_Some l.att a e)
token_is attr.Nothing a e = cc

-- the first hole has the label
first_label : (hs : List (Attr Operand)) (a : Att) (label : ℕ) → att_of (slice_get hs 0) ≡ Some a → label_of_att a ≡ Some label → label_among hs ≡ Some label
first_label [] a label e is = cc
first_label (h ∷ hs) a label e is =
    let t = token_is h a e in
    ap (λ x. option_or (label_in x) (label_among hs)) t.1 ∙ ap (λ x. option_or (label_of_att x) (label_among hs)) t.2 ∙ ap (λ x. option_or x (label_among hs)) is

jump_is : (o : Option ℕ) (label : ℕ) (n : State) → o ≡ Some label → performed (record { op = ops.Jbr; operands = []; target = option_map label_name o }) n ≡ ends (Goes (label_name label) n)
unfolding performed
jump_is o label n e = ap (λ x. branching true (option_map label_name x) n) e

branch_is : (r : Rel) (o : Option ℕ) (label : ℕ) (n : State) → o ≡ Some label →
    performed (record { op = op_of_relation r; operands = []; target = option_map label_name o }) n ≡ branching (passes (test_of r) n.conditions) (Some (label_name label)) n
unfolding performed
branch_is relations.Eq o label n e = ap (λ x. branching (passes (test_of relations.Eq) n.conditions) (option_map label_name x) n) e
branch_is relations.Ne o label n e = ap (λ x. branching (passes (test_of relations.Ne) n.conditions) (option_map label_name x) n) e
branch_is relations.Lt o label n e = ap (λ x. branching (passes (test_of relations.Lt) n.conditions) (option_map label_name x) n) e
branch_is relations.Le o label n e = ap (λ x. branching (passes (test_of relations.Le) n.conditions) (option_map label_name x) n) e
branch_is relations.Gt o label n e = ap (λ x. branching (passes (test_of relations.Gt) n.conditions) (option_map label_name x) n) e
branch_is relations.Ge o label n e = ap (λ x. branching (passes (test_of relations.Ge) n.conditions) (option_map label_name x) n) e
branch_is relations.Ltu o label n e = ap (λ x. branching (passes (test_of relations.Ltu) n.conditions) (option_map label_name x) n) e
branch_is relations.Leu o label n e = ap (λ x. branching (passes (test_of relations.Leu) n.conditions) (option_map label_name x) n) e
branch_is relations.Gtu o label n e = ap (λ x. branching (passes (test_of relations.Gtu) n.conditions) (option_map label_name x) n) e
branch_is relations.Geu o label n e = ap (λ x. branching (passes (test_of relations.Geu) n.conditions) (option_map label_name x) n) e

signed_only : (rs : List Restriction) (right : List Sym) (r : Rel) → AllByRecursion (IsSignedBy 1 r) rs → AllByRecursion (λ x. (i : ℕ) → x ≡ restriction.Signed i → i ≡ 1) rs → is_signed rs
    ≡ true → compares_signed r ≡ true
signed_only [] right r h k e = cc
signed_only (restriction.Same i j ∷ rs) right r h k e = signed_only rs right r h.1 k.1 e
signed_only (restriction.Range i low high ∷ rs) right r h k e = signed_only rs right r h.1 k.1 e
signed_only (restriction.Signed i ∷ rs) right r h k e = h.0 (k.0 i refl)

-- the symbol with this number
symbol_one : (right : List Sym) (i : ℕ) → is_branch (symbol_at right i) ≡ true → (j : ℕ) × (s : Sym) × (i ≡ suc j) × (slice_get right j ≡ Some s) × (is_branch (Some s) ≡ true)
symbol_one right zero e = cc
symbol_one right (suc j) e = by (suc j == 0) refl e where
  back : suc j - 1 ≡ j
  back = omega arith

  some : (o : Option Sym) → slice_get right j ≡ o → is_branch o ≡ true → (k : ℕ) × (s : Sym) × (suc j ≡ suc k) × (slice_get right k ≡ Some s) × (is_branch (Some s) ≡ true)
  some None at h = cc
  some (Some s) at h = (j, s, refl, at, h)

  by : (b : Bool) → (suc j == 0) ≡ b → is_branch (cond b None (slice_get right (suc j - 1))) ≡ true → (k : ℕ) × (s : Sym) × (suc j ≡ suc k) × (slice_get right k ≡ Some s) × (is_branch (Some s) ≡ true)
  by true is h = cc
  by false is h = some (slice_get right j) refl (subst (λ k. is_branch (slice_get right k) ≡ true) back h)

module _ (q : TreeProgram) (f : Extent) (fs : List Extent) (classes : List Class) (rule : Rule) (e : EffectShape) (hs : List (Attr Operand)) (res : Attr Operand) (v : View) (m : State)
    (ready : Ready vax q f fs classes rule e hs res v m) (x : EndsIn (c q f fs classes rule e hs res v m ready) m e.act (did q f fs classes rule e hs res v m ready)) where
  abbrev S : Scene
  S = c q f fs classes rule e hs res v m ready

  abbrev D : Course
  D = did q f fs classes rule e hs res v m ready

  abbrev n : State
  n = x.state

  agrees : stands q f fs v.state n
  agrees = agrees_there q f fs classes rule e hs res v m ready e.act x

  frames : n.frames ≡ m.frames
  frames = live_there q f fs classes rule e hs res v m ready e.act x

  abbrev G : Step → Type 0
  G s = Steps q f fs classes rule e hs res v m ready D s

  pub jumps : (label : ℕ) → D ≡ performed (branch_to ops.Jbr hs) n → att_of (hole hs 1) ≡ Some (att.Label label) → G (deed_step q v.state (Jumps label))
  jumps label is at = (
    n,
    ap course_of (is ∙ jump_is (label_among hs) label n (first_label hs (att.Label label) label at refl)),
    record { agrees = agrees; live = frames },
  )

  branch_way : (b : Bool) (label : ℕ) → D ≡ branching b (Some (label_name label)) n → G (cond b (steps.GoesTo label v.state) (steps.Goes v.state))
  branch_way true label is = (n, ap course_of is, record { agrees = agrees; live = frames })
  branch_way false label is = (n, ap course_of is, record { agrees = agrees; live = frames })

  -- the hole of a branch is the first
  hole_one : (i : ℕ) (r : Rel) (label : ℕ) → att_of (hole hs i) ≡ Some (att.Branch r label) → (l : Leaf) × (i ≡ 1) × (hole hs i ≡ Some (attr.Token l)) × (l.att ≡ att.Branch r label)
  hole_one zero r label at = cc
  hole_one (suc j) r label at = by (slice_get hs j) refl at where
    by : (o : Option (Attr Operand)) → slice_get hs j ≡ o → att_of o ≡ Some (att.Branch r label) →
        (l : Leaf) × (suc j ≡ 1) × (slice_get hs j ≡ Some (attr.Token l)) × (l.att ≡ att.Branch r label)
    by None there h = cc
    by (Some a) there h =
        let t = token_is a (att.Branch r label) h in
        let there' = there ∙ ap Some t.1 in
        let one = branch_hole classes _ rule.right hs j t.0 r label ready.instance_of.rule_fits.sides.sorted ready.instance_of.holes_fit there' t.2 in
        (t.0, ap suc one, there', t.2)

  signed_first : (rs : List Restriction) → AllByRecursion (MayRestrict classes rule.right) rs → AllByRecursion (λ y. (i : ℕ) → y ≡ restriction.Signed i → i ≡ 1) rs
  signed_first [] h = tt
  signed_first (restriction.Same i j ∷ rs) h = (λ k e'. cc, signed_first rs h.1)
  signed_first (restriction.Range i low high ∷ rs) h = (λ k e'. cc, signed_first rs h.1)
  signed_first (restriction.Signed i ∷ rs) h = (
    λ k e'. (let s = symbol_one rule.right i h.0 in
        let zero_is = branch_first rule.right s.0 s.1 (rest_of classes _ rule.right ready.instance_of.rule_fits.sides.sorted) s.3 s.4 in
        sym (same i k e') ∙ s.2 ∙ ap suc zero_is),
    signed_first rs h.1,
  )
    where
      same : (a b : ℕ) → restriction.Signed a ≡ restriction.Signed b → a ≡ b
      same a b e' = cc

  met_so : (a b : Shape) (r : Rel) → AllByRecursion (IsSignedBy 1 r) rule.restrictions → IsMet S n.conditions a b → passes (test_of r) n.conditions ≡ holds r (worth S a) (worth S b)
  met_so a b r signed (inl k) = k r
  met_so a b r signed (inr k) =
      k.2 r (signed_only rule.restrictions rule.right r signed (signed_first rule.restrictions ready.instance_of.rule_fits.template.restricted) k.0)
      ∙ ap (λ t. holds r (worth S a) (worth S t)) (sym k.1)

  pub branches : (i : ℕ) (a b : Shape) (r : Rel) (label y z : ℕ) → IsMet S n.conditions a b × (D ≡ performed (branch_to (op_in (filling_at S i)) hs) n) → att_of (hole hs i)
      ≡ Some (att.Branch r label) →
      AllByRecursion (IsSignedBy i r) rule.restrictions → value v a ≡ y → value v b ≡ z → G (deed_step q v.state (Branches r label y z))
  branches i a b r label y z is at signed ya zb =
      let h = hole_one i r label at in
      let op : op_in (filling_at S i) ≡ op_of_relation r = ap op_in (filled_hole S i (attr.Token h.0) h.2) ∙ ap (λ t. op_of_att t) h.3 in
      let there : label_among hs ≡ Some label = first_label hs (att.Branch r label) label (subst (λ k. att_of (hole hs k) ≡ Some (att.Branch r label)) h.1 at) refl in
      let met = met_so a b r (subst (λ k. AllByRecursion (IsSignedBy k r) rule.restrictions) h.1 signed) is.0 in
      subst (λ k. G (deed_step q v.state (Branches r label k z))) ya
      (subst (λ k. G (deed_step q v.state (Branches r label (worth S a) k))) zb
      (branch_way (holds r (worth S a) (worth S b)) label
      (is.1 ∙ ap (λ o. performed (branch_to o hs) n) op ∙ branch_is r (label_among hs) label n there ∙ ap (λ k. branching k (Some (label_name label)) n) met)))
