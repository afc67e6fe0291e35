-- A rule's lines leave its result in its register.
use Rattle.std.proofs.Common.{◌≡◌, ℕ, zero, suc, ◌<◌, ◌⊎◌, inl, inr, true, false, List, [], ◌∷◌, map, Option, Some, None, Ok}
use Rattle.std.proofs.Common.{refl, sym, ap, subst, ◌∙◌, arith}
use Rattle.std.specs.Prelude.{slice_get, unwrap_or}
use Rattle.std.specs.Option.{option_map}
use Rattle.std.proofs.lemmas.Option.{same_Some, none-some}
use Rattle.gg_base.specs.declared.size.Size.TheVariants.{Long}
use Rattle.gg_base.proofs.Facts.{err_ok, ok_same}
use Rattle.vax_target_runs.specs.tree_core.specs.declared.program.TreeProgram.{TreeProgram}
use Rattle.vax_target_runs.specs.tree_meaning.specs.State.{Extent}
use Rattle.vax_target_runs.specs.md_reader.specs.declared.types.Kind.{Kind}
use Rattle.vax_target_runs.specs.md_reader.specs.declared.types.Kind.TheVariants as kind
use Rattle.vax_target_runs.specs.md_reader.specs.declared.types.Class.{Class}
use Rattle.vax_target_runs.specs.md_reader.specs.declared.types.Sym.{Sym}
use Rattle.vax_target_runs.specs.md_reader.specs.declared.types.Give.{Give}
use Rattle.vax_target_runs.specs.md_reader.specs.declared.types.Give.TheVariants as give
use Rattle.vax_target_runs.specs.md_reader.specs.declared.types.Rule.{Rule}
use Rattle.vax_target_runs.specs.md_reader.specs.Patterns.{kind_at}
use Rattle.vax_target_runs.specs.md_reader.specs.Restrictions.{is_nothing}
use Rattle.vax_target_runs.specs.md_reader.specs.Rows.{plain_fits}
use Rattle.vax_target_runs.specs.md_reader.specs.Valid.{MayGive}
use Rattle.vax_target_runs.specs.term_core.specs.Shape.{Shape}
use Rattle.vax_target_runs.specs.sel_terms.specs.Effects.{ActShape, EffectShape, Value}
use Rattle.vax_target_runs.specs.sel_target.specs.declared.attr.Attr.{Attr}
use Rattle.vax_target_runs.specs.sel_target.specs.declared.attr.Attr.TheVariants as attr
use Rattle.vax_target_runs.specs.sel_target.specs.Meaning.{Spot, RegAt}
use Rattle.vax_target_runs.specs.sel_terms_meaning.specs.Meaning.{terms_of_act}
use Rattle.vax_target_runs.specs.sel_target.specs.Values.{View, value}
use Rattle.vax_target_runs.specs.sel_target.specs.Instances.{attr_touches, Avoids, IsResult, lines_of, Ready}
use Rattle.vax_target_runs.specs.sel_target.specs.Outcomes.{Sets}
use Rattle.vax_core.specs.declared.operand.Operand.{Operand}
use Rattle.vax_core.specs.Registers.{reg_number}
use Rattle.vax_target_runs.specs.vax_machine.specs.State.{State}
use Rattle.vax_target_runs.specs.vax_machine_lists.specs.Instructions.{Course, comes}
use Rattle.vax_target_runs.specs.vax_confined.specs.Confined.{exec}
use Rattle.vax_target_runs.specs.vax_templates.specs.declared.setting.Own.TheVariants as own
use Rattle.vax_target_runs.specs.vax_templates.specs.declared.setting.Hole.TheVariants as hole_kind
use Rattle.vax_target_runs.specs.vax_templates.specs.Settings.{holes_of, setting_of, own_of, is_reuse, hole_of, hole_or_other}
use Rattle.vax_target_runs.specs.vax_templates.specs.Deeds.{Last, Plain, Compared, Tested, Returning, Ended}
use Rattle.vax_target_runs.specs.vax_templates.specs.Judging.{is_operand}
use Rattle.vax_target_runs.specs.vax_templates.specs.GiveLines.{left_value, last_deed, given_by}
use Rattle.vax_target_runs.specs.vax_templates.specs.Filled.{register_in}
use Rattle.vax_target_runs.specs.vax_target_meaning.specs.Running.{course_of}
use Rattle.vax_target_runs.specs.vax_target_meaning.specs.Vax.{vax}
use Rattle.vax_target_runs.specs.vax_target_operands.specs.Scenes.{Scene, role_at, filling_at, Sees}
use Rattle.vax_target_runs.specs.vax_target_lines.specs.Lines.{NoneIsZero, EndIsRead, MayEnd}
use Rattle.vax_target_runs.specs.vax_target_lines.proofs.Performing.{number_is}
use Rattle.vax_target_runs.specs.vax_target_confined.proofs.Reading.{register_reads}
use Rattle.vax_target_runs.specs.Kept.{Differs}
use Rattle.vax_target_runs.specs.Runs.{OwnChanged, Changed, EndsIn, RunsTo, IsApart, line_of, IsCalm}
use Rattle.vax_target_runs.proofs.Kept.{registers_are_kept}
use Rattle.vax_target_runs.proofs.Law.{lines_run}
use Rattle.vax_target_rules.specs.Scene.{scene_of}
use Rattle.vax_target_rules.proofs.Founds.{IsFound, rule_is, reads_safe, front_safe}
use Rattle.vax_target_rules.proofs.Instances.{filled_at, mapped_at, role_is, filling_is, register_result, instance_seen}

-- ---- the register of the result

pub avoids_at : (s : Spot) (hs : List (Attr Operand)) (j : ℕ) (h : Attr Operand) → Avoids vax s hs → slice_get hs j ≡ Some h → attr_touches vax h s ≡ false
avoids_at s [] j h a e = absurd (none-some h e)
avoids_at s (x ∷ hs) zero h a e = subst (λ y. attr_touches vax y s ≡ false) (same_Some x h e) a.0
avoids_at s (x ∷ hs) (suc j) h a e = avoids_at s hs j h a.1 e

-- where the operands' registers are avoided
pub avoided : (g : Give) (hs : List (Attr Operand)) (n : ℕ) → is_reuse g ≡ false → IsResult vax g hs (attr.Reg n) → Avoids vax (RegAt n) hs
avoided give.Fresh hs n e r = r.1
avoided give.Reuse hs n e r = cc
avoided give.Scratch hs n e r = r.1
avoided give.Nothing hs n e r = absurd r
avoided (give.Shape l) hs n e r = absurd r

nothing_low : (g : Give) (hs : List (Attr Operand)) (a : Attr Operand) → IsResult vax g hs a → (own_of g ≡ own.Register → ⊥) → a ≡ attr.Nothing
nothing_low give.Fresh hs a r h = absurd (h refl)
nothing_low give.Reuse hs a r h = absurd (h refl)
nothing_low give.Scratch hs a r h = absurd (h refl)
nothing_low give.Nothing hs attr.Nothing r h = refl
nothing_low (give.Shape l) hs attr.Nothing r h = refl
nothing_low _ hs _ r h = absurd r

-- a rule that gives a register is no statement's
reg_is_none : (k : Option Kind) (g : Give) → (g ≡ give.Fresh) ⊎ (g ≡ give.Reuse) → plain_fits k g ≡ true → is_nothing k ≡ false
reg_is_none k g (inl e) f = by k (subst (λ x. plain_fits k x ≡ true) e f) where
  by : (k : Option Kind) → plain_fits k give.Fresh ≡ true → is_nothing k ≡ false
  by None f = refl
  by (Some kind.Reg) f = refl
  by (Some (kind.Value z)) f = refl
  by (Some (kind.Place z)) f = refl
  by (Some kind.Con) f = refl
  by (Some kind.Ea) f = refl
  by (Some kind.Nothing) f = cc
reg_is_none k g (inr e) f = by k (subst (λ x. plain_fits k x ≡ true) e f) where
  by : (k : Option Kind) → plain_fits k give.Reuse ≡ true → is_nothing k ≡ false
  by None f = refl
  by (Some kind.Reg) f = refl
  by (Some (kind.Value z)) f = refl
  by (Some (kind.Place z)) f = refl
  by (Some kind.Con) f = refl
  by (Some kind.Ea) f = refl
  by (Some kind.Nothing) f = cc

module _ (q : TreeProgram) (f : Extent) (fs : List Extent) (classes : List Class) (rule : Rule) (e : EffectShape) (hs : List (Attr Operand)) (res : Attr Operand) (v : View) (m : State)
    (ready : Ready vax q f fs classes rule e hs res v m) where
  abbrev pub scene : Scene
  scene = scene_of q classes rule hs res v

  pub found_so : IsFound (setting_of classes rule) (holes_of classes rule.right) (kind_at classes rule.left) rule.lines rule.give e
  found_so = rule_is classes rule e ready.instance_of.taken

  pub seen : Sees scene None m
  seen = instance_seen true q f fs classes rule e hs res v m ready.instance_of ready.result

  pub low : reg_number (register_in res) < 12
  low = by rule.give refl where
    in_register : own_of rule.give ≡ own.Register → reg_number (register_in res) < 12
    in_register is =
        let r = register_result rule.give hs res is ready.result in
        subst (λ a. reg_number (register_in a) < 12) (sym r.1) (subst (λ x. x < 12) (sym (number_is r.0 r.2)) r.2)

    nowhere : (own_of rule.give ≡ own.Register → ⊥) → reg_number (register_in res) < 12
    nowhere h = subst (λ a. reg_number (register_in a) < 12) (sym (nothing_low rule.give hs res ready.result h)) (omega arith)

    by : (g : Give) → rule.give ≡ g → reg_number (register_in res) < 12
    by give.Fresh is = in_register (ap own_of is)
    by give.Reuse is = in_register (ap own_of is)
    by give.Scratch is = in_register (ap own_of is)
    by give.Nothing is = nowhere (λ r. let x : own.Nothing ≡ own.Register = sym (ap own_of is) ∙ r in cc)
    by (give.Shape l) is = nowhere (λ r. let x : own.Nothing ≡ own.Register = sym (ap own_of is) ∙ r in cc)

  pub apart : IsApart scene
  apart is fresh zero op = cc
  apart is fresh (suc j) op = by (slice_get rule.right j) refl where
    reg_is : (n : ℕ) × (res ≡ attr.Reg n) × (n < 12)
    reg_is = register_result rule.give hs res is ready.result

    off : Avoids vax (RegAt reg_is.0) hs
    off = avoided rule.give hs reg_is.0 fresh (subst (IsResult vax rule.give hs) reg_is.1 ready.result)

    number_so : reg_number (register_in res) ≡ reg_is.0
    number_so = ap (λ a. reg_number (register_in a)) reg_is.1 ∙ number_is reg_is.0 reg_is.2

    by : (o : Option Sym) → slice_get rule.right j ≡ o → attr_touches vax (filling_at scene (suc j)) (RegAt (reg_number (register_in res))) ≡ false
    by None none =
        let role : role_at scene (suc j) ≡ hole_kind.Other = role_is scene j ∙ ap hole_or_other (mapped_at classes rule.right j ∙ ap (option_map (hole_of classes)) none) in
        absurd (let x : false ≡ true = ap is_operand (sym role) ∙ op in cc)
    by (Some s) there =
        let x = filled_at classes rule.right hs j s ready.instance_of.holes_fit there in
        ap (λ a. attr_touches vax a (RegAt (reg_number (register_in res)))) (filling_is scene j ∙ ap (λ (o : Option (Attr Operand)). unwrap_or o res) x.at)
        ∙ ap (λ n. attr_touches vax x.attribute (RegAt n)) number_so
        ∙ avoids_at (RegAt reg_is.0) hs j x.attribute off x.at

  pub divides_so : NoneIsZero scene found_so.progress.divisors
  divides_so = subst (λ (x : EffectShape). NoneIsZero scene x.divisors) (sym found_so.is) ready.divides

  pub calm : EndIsRead scene found_so.progress.last → IsCalm scene found_so.progress
  calm end = record { reads = reads_safe true v e found_so.progress.reads found_so.none_dropped_so ready.instance_of.read; ends_read = end }

  -- the lines of the rule are run
  pub ran : EndIsRead scene found_so.progress.last → RunsTo scene found_so.progress.own m (exec (map (line_of scene) rule.lines) m) found_so.progress.last
  ran end = lines_run scene m rule.lines found_so.progress seen apart low found_so.judged (calm end) divides_so

  -- a rule that is no statement's comes behind its lines with the codes or nothing left
  pub record Comes (o : Option Shape) (did : Course) : Type 0 where
    pub state : State
    pub is : did ≡ comes state
    pub differs : Differs (OwnChanged scene o) m state
    pub sees : Sees scene o state

  plainly : (l : Last) (o : Option Shape) (did : Course) → (setting_of classes rule).is_statement ≡ false → RunsTo scene o m did l → Comes o did
  plainly Plain o did quiet r = record { state = r.state; is = r.is; differs = weaker r.reaches.differs; sees = r.reaches.sees } where
    weaker : Differs (Changed scene o Plain) m r.state → Differs (OwnChanged scene o) m r.state
    weaker d = record { registers = d.registers; conditions = d.conditions; is = d.is; others = λ x off. d.others x (only x off); sound = d.sound }
      where
        only : (x : ℕ) → (OwnChanged scene o x → ⊥) → Changed scene o Plain x → ⊥
        only x off (inl y) = off y
        only x off (inr y) = y
  plainly (Compared a b) o did quiet r = record { state = r.state; is = r.is; differs = weaker r.reaches.differs; sees = r.reaches.sees } where
    weaker : Differs (Changed scene o (Compared a b)) m r.state → Differs (OwnChanged scene o) m r.state
    weaker d = record { registers = d.registers; conditions = d.conditions; is = d.is; others = λ x off. d.others x (only x off); sound = d.sound }
      where
        only : (x : ℕ) → (OwnChanged scene o x → ⊥) → Changed scene o (Compared a b) x → ⊥
        only x off (inl y) = off y
        only x off (inr y) = y
  plainly (Tested t) o did quiet r = record { state = r.state; is = r.is; differs = weaker r.reaches.differs; sees = r.reaches.sees } where
    weaker : Differs (Changed scene o (Tested t)) m r.state → Differs (OwnChanged scene o) m r.state
    weaker d = record { registers = d.registers; conditions = d.conditions; is = d.is; others = λ x off. d.others x (only x off); sound = d.sound }
      where
        only : (x : ℕ) → (OwnChanged scene o x → ⊥) → Changed scene o (Tested t) x → ⊥
        only x off (inl y) = off y
        only x off (inr y) = y
  plainly (Returning t) o did quiet r = absurd (let x : false ≡ true = sym quiet ∙ r.reaches.zero_holds.1 in cc)
  plainly (Ended deed) o did quiet r = absurd (never r.may) where
    never : MayEnd scene → ⊥
    never (inl is) = let x : false ≡ true = sym quiet ∙ is in cc
    never (inr is) = by rule.give is.1 where
      by : (g : Give) → own_of g ≡ own.Slot is.0 → ⊥
      by give.Fresh e = cc
      by give.Reuse e = cc
      by give.Scratch e = cc
      by give.Nothing e = cc
      by (give.Shape l) e = cc

  pub comes_so : (setting_of classes rule).is_statement ≡ false → Comes found_so.progress.own (exec (map (line_of scene) rule.lines) m)
  comes_so quiet = plainly found_so.progress.last found_so.progress.own _ quiet (ran (λ is. absurd (let x : false ≡ true = sym quiet ∙ is in cc)))

  -- ---- what a last line did

  last_is : (l : Last) (deed : ActShape) → last_deed l ≡ Ok deed → l ≡ Ended deed
  last_is (Ended x) deed h = ap Ended (ok_same x deed h)
  last_is _ deed h = absurd (err_ok _ deed h)

  act_is : found_so.deed ≡ e.act
  act_is = ap (λ (x : EffectShape). x.act) found_so.is

  -- a statement ends in its act
  pub ends_in : last_deed found_so.progress.last ≡ Ok found_so.deed → EndsIn scene m e.act (exec (map (line_of scene) rule.lines) m)
  ends_in given =
      let is = last_is found_so.progress.last found_so.deed given ∙ ap Ended act_is in
      subst (RunsTo scene found_so.progress.own m (exec (map (line_of scene) rule.lines) m)) is
      (ran (subst (EndIsRead scene) (sym is) (λ s. front_safe true v (terms_of_act e.act) e.divisors ready.instance_of.read)))

  -- a rule with a result leaves it
  own_is : (t : Shape) → left_value found_so.progress.own ≡ Ok found_so.deed → e.act ≡ Value t → found_so.progress.own ≡ Some t
  own_is t given act = by found_so.progress.own given where
    by : (o : Option Shape) → left_value o ≡ Ok found_so.deed → o ≡ Some t
    by None h = absurd (err_ok _ found_so.deed h)
    by (Some x) h = ap Some (same x t (ok_same (Value x) found_so.deed h ∙ act_is ∙ act))
      where
        same : (x y : Shape) → Value x ≡ Value y → x ≡ y
        same x y e = cc

result_low : (g : Give) (hs : List (Attr Operand)) (r : ℕ) → IsResult vax g hs (attr.Reg r) → r < 12
result_low give.Fresh hs r h = h.0
result_low give.Reuse hs r h = h
result_low give.Scratch hs r h = h.0
result_low give.Nothing hs r h = absurd h
result_low (give.Shape l) hs r h = absurd h

module _ (q : TreeProgram) (f : Extent) (fs : List Extent) (classes : List Class) (rule : Rule) (e : EffectShape) (t : Shape) (hs : List (Attr Operand)) (r : ℕ) (v : View) (m : State)
    (ready : Ready vax q f fs classes rule e hs (attr.Reg r) v m) (act : e.act ≡ Value t) where
  abbrev R : Type 0
  R = Sets vax (lines_of vax q rule hs (attr.Reg r)) (RegAt r) q Long (attr.Reg r) (value v t) m

  abbrev F : IsFound (setting_of classes rule) (holes_of classes rule.right) (kind_at classes rule.left) rule.lines rule.give e
  F = found_so q f fs classes rule e hs (attr.Reg r) v m ready

  r_low : r < 12
  r_low = result_low rule.give hs r ready.result

  sets_so : Comes q f fs classes rule e hs (attr.Reg r) v m ready (Some t) (exec (map (line_of (scene_of q classes rule hs (attr.Reg r) v)) rule.lines) m) → R
  sets_so x = record {
    state = x.state;
    ran = ap course_of x.is;
    gets = register_reads r r_low Long x.state ∙ ap (λ (n : ℕ). Some n) x.sees.holds;
    keeps = registers_are_kept r m x.state r_low
        (record {
          registers = x.differs.registers;
          conditions = x.differs.conditions;
          is = x.differs.is;
          others = λ y off. x.differs.others y (λ h. off (h ∙ number_is r r_low));
          sound =
              x.differs.sound;
        });
  }

  sets_plain : (setting_of classes rule).is_statement ≡ false → left_value F.progress.own ≡ Ok F.deed → R
  sets_plain quiet given =
      let own_so = own_is q f fs classes rule e hs (attr.Reg r) v m ready t given act in
      sets_so (subst (λ o. Comes q f fs classes rule e hs (attr.Reg r) v m ready o (exec (map (line_of (scene_of q classes rule hs (attr.Reg r) v)) rule.lines) m)) own_so
      (comes_so q f fs classes rule e hs (attr.Reg r) v m ready quiet))

  by_give : (g : Give) → rule.give ≡ g → R
  by_give give.Fresh is =
      sets_plain (reg_is_none (kind_at classes rule.left) give.Fresh (inl refl) (subst (MayGive classes rule.left rule.right) is ready.instance_of.rule_fits.gives))
      (subst (λ g. given_by (setting_of classes rule) (holes_of classes rule.right) (kind_at classes rule.left) F.progress.own F.progress.last g ≡ Ok F.deed) is F.given)
  by_give give.Reuse is =
      sets_plain (reg_is_none (kind_at classes rule.left) give.Reuse (inr refl) (subst (MayGive classes rule.left rule.right) is ready.instance_of.rule_fits.gives))
      (subst (λ g. given_by (setting_of classes rule) (holes_of classes rule.right) (kind_at classes rule.left) F.progress.own F.progress.last g ≡ Ok F.deed) is F.given)
  by_give give.Scratch is =
      absurd (subst (λ a. EndsIn (scene_of q classes rule hs (attr.Reg r) v) m a (exec (map (line_of (scene_of q classes rule hs (attr.Reg r) v)) rule.lines) m)) act
      (ends_in q f fs classes rule e hs (attr.Reg r) v m ready
      (subst (λ g. given_by (setting_of classes rule) (holes_of classes rule.right) (kind_at classes rule.left) F.progress.own F.progress.last g ≡ Ok F.deed) is F.given))).does
  by_give give.Nothing is = absurd (subst (λ g. IsResult vax g hs (attr.Reg r)) is ready.result)
  by_give (give.Shape l) is = absurd (subst (λ g. IsResult vax g hs (attr.Reg r)) is ready.result)

  pub result_so : R
  result_so = by_give rule.give refl
