-- A rule's lines leave its result in its register.
use Rattle.std.proofs.Common.{◌≡◌, ℕ, zero, suc, ◌<◌, inl, inr, true, false, List, [], ◌∷◌, map, Option, Some, None, Ok}
use Rattle.std.proofs.Common.{refl, sym, ap, subst, ◌∙◌, arith}
use Rattle.std.specs.Prelude.{slice_get, unwrap_or}
use Rattle.std.specs.Option.{option_map}
use Rattle.std.proofs.lemmas.Option.{same_Some, none-some}
use Rattle.gg_base.specs.declared.size.Size.TheVariants.{Long}
use Rattle.gg_base.proofs.Facts.{err_ok, ok_same}
use Rattle.l32_target_runs.specs.vax_target_meaning.specs.tree_core.specs.declared.program.TreeProgram.{TreeProgram}
use Rattle.l32_target_runs.specs.vax_target_meaning.specs.tree_meaning.specs.State.{Extent}
use Rattle.l32_target_runs.specs.judging_laws.specs.md_reader.specs.declared.types.Kind.{Kind}
use Rattle.l32_target_runs.specs.judging_laws.specs.md_reader.specs.declared.types.Kind.TheVariants as kind
use Rattle.l32_target_runs.specs.judging_laws.specs.md_reader.specs.declared.types.Class.{Class}
use Rattle.l32_target_runs.specs.judging_laws.specs.md_reader.specs.declared.types.Sym.{Sym}
use Rattle.l32_target_runs.specs.judging_laws.specs.md_reader.specs.declared.types.Give.{Give}
use Rattle.l32_target_runs.specs.judging_laws.specs.md_reader.specs.declared.types.Give.TheVariants as give
use Rattle.l32_target_runs.specs.judging_laws.specs.md_reader.specs.declared.types.Rule.{Rule}
use Rattle.l32_target_runs.specs.judging_laws.specs.md_reader.specs.Patterns.{kind_at}
use Rattle.l32_target_runs.specs.judging_laws.specs.md_reader.specs.Restrictions.{is_nothing}
use Rattle.l32_target_runs.specs.judging_laws.specs.md_reader.specs.Rows.{plain_fits}
use Rattle.l32_target_runs.specs.judging_laws.specs.md_reader.specs.Valid.{MayGive}
use Rattle.l32_target_runs.specs.judging_laws.specs.term_core.specs.Shape.{Shape}
use Rattle.l32_target_runs.specs.judging_laws.specs.sel_terms.specs.Effects.{ActShape, EffectShape, Value}
use Rattle.l32_target_runs.specs.judging_laws.specs.sel_target.specs.declared.attr.Attr.{Attr}
use Rattle.l32_target_runs.specs.judging_laws.specs.sel_target.specs.declared.attr.Attr.TheVariants as attr
use Rattle.l32_target_runs.specs.judging_laws.specs.sel_target.specs.Courses.{Course}
use Rattle.l32_target_runs.specs.judging_laws.specs.sel_target.specs.Meaning.{Spot, RegAt}
use Rattle.l32_target_runs.specs.judging_laws.specs.sel_target.specs.sel_terms_meaning.specs.Meaning.{terms_of_act}
use Rattle.l32_target_runs.specs.judging_laws.specs.sel_target.specs.Values.{View, value}
use Rattle.l32_target_runs.specs.judging_laws.specs.sel_target.specs.Instances.{attr_touches, Avoids, IsResult, lines_of, Ready}
use Rattle.l32_target_runs.specs.judging_laws.specs.sel_target.specs.Outcomes.{Sets}
use Rattle.l32_target_runs.specs.judging_laws.specs.vax_templates.specs.declared.setting.Own.TheVariants as own
use Rattle.l32_target_runs.specs.judging_laws.specs.vax_templates.specs.declared.setting.Hole.TheVariants as hole_kind
use Rattle.l32_target_runs.specs.judging_laws.specs.vax_templates.specs.Settings.{holes_of, setting_of, own_of, is_reuse, hole_of, hole_or_other}
use Rattle.l32_target_runs.specs.judging_laws.specs.vax_templates.specs.Deeds.{Last, Plain, Compared, Tested, Returning, Ended}
use Rattle.l32_target_runs.specs.judging_laws.specs.vax_templates.specs.Judging.{is_operand}
use Rattle.l32_target_runs.specs.judging_laws.specs.vax_templates.specs.GiveLines.{left_value, last_deed}
use Rattle.l32_target_runs.specs.judging_laws.specs.template_judging.specs.Lines.{given_by}
use Rattle.l32_target_runs.specs.judging_laws.specs.template_judging.specs.Found as any
use Rattle.l32_target_runs.specs.l32_templates.specs.l32_core.specs.declared.operand.Operand32.{Operand32}
use Rattle.l32_target_runs.specs.l32_templates.specs.l32_core.specs.declared.code.Instr32.{Instr32}
use Rattle.l32_target_runs.specs.l32_templates.specs.l32_machine.specs.State.{State}
use Rattle.l32_target_runs.specs.l32_templates.specs.Filled.{register_in}
use Rattle.l32_target_runs.specs.l32_templates.specs.Found.{l32_lines}
use Rattle.l32_target_runs.specs.l32_target_meaning.specs.Running.{run}
use Rattle.l32_target_runs.specs.l32_target_meaning.specs.L32.{l32}
use Rattle.l32_target_runs.specs.l32_target_operands.specs.Scenes.{Scene, role_at, filling_at, Sees}
use Rattle.l32_target_runs.specs.l32_target_lines.specs.Lines.{NoneIsZero, EndIsRead, MayEnd, IsSettled}
use Rattle.l32_target_runs.specs.judging_effects.specs.Laws.{IsFound}
use Rattle.l32_target_runs.specs.judging_effects.proofs.Founds.{template_is, reads_safe, front_safe}
use Rattle.l32_target_runs.specs.Runs.{EndsIn, ComesTo, RunsTo, IsDone, IsApart, line_of, IsCalm}
use Rattle.l32_target_runs.proofs.Law.{lines_run}
use Rattle.l32_target_rules.specs.Scene.{scene_of}
use Rattle.l32_target_rules.specs.Laws.{ResultsAreLeft}
use Rattle.l32_target_rules.proofs.Instances.{filled_at, mapped_at, role_is, filling_is, register_result, instance_seen}

-- how a rule's template was judged
pub rule_is : (classes : List Class) (rule : Rule) (e : EffectShape) → l32.effect classes rule ≡ Ok e
    → IsFound l32_lines (setting_of classes rule) (holes_of classes rule.right) (kind_at classes rule.left) rule.lines rule.give e
unfolding any.found
rule_is classes rule e h = template_is l32_lines (setting_of classes rule) (holes_of classes rule.right) (kind_at classes rule.left) rule.lines rule.give e h

-- ---- the register of the result

pub avoids_at : (s : Spot) (hs : List (Attr Operand32)) (j : ℕ) (h : Attr Operand32) → Avoids l32 s hs → slice_get hs j ≡ Some h → attr_touches l32 h s ≡ false
avoids_at s [] j h a e = absurd (none-some h e)
avoids_at s (x ∷ hs) zero h a e = subst (λ y. attr_touches l32 y s ≡ false) (same_Some x h e) a.0
avoids_at s (x ∷ hs) (suc j) h a e = avoids_at s hs j h a.1 e

-- where the operands' registers are avoided
pub avoided : (g : Give) (hs : List (Attr Operand32)) (n : ℕ) → is_reuse g ≡ false → IsResult l32 g hs (attr.Reg n) → Avoids l32 (RegAt n) hs
avoided give.Fresh hs n e r = r.1
avoided give.Reuse hs n e r = cc
avoided give.Scratch hs n e r = r.1
avoided give.Nothing hs n e r = absurd r
avoided (give.Shape l) hs n e r = absurd r

nothing_low : (g : Give) (hs : List (Attr Operand32)) (a : Attr Operand32) → IsResult l32 g hs a → (own_of g ≡ own.Register → ⊥) → a ≡ attr.Nothing
nothing_low give.Fresh hs a r h = absurd (h refl)
nothing_low give.Reuse hs a r h = absurd (h refl)
nothing_low give.Scratch hs a r h = absurd (h refl)
nothing_low give.Nothing hs attr.Nothing r h = refl
nothing_low (give.Shape l) hs attr.Nothing r h = refl
nothing_low _ hs _ r h = absurd r

-- a rule that gives a register is no statement's
fresh_none : (k : Option Kind) → plain_fits k give.Fresh ≡ true → is_nothing k ≡ false
fresh_none (Some kind.Nothing) f = cc
fresh_none _ f = refl

pub reuse_none : (k : Option Kind) → plain_fits k give.Reuse ≡ true → is_nothing k ≡ false
reuse_none (Some kind.Nothing) f = cc
reuse_none _ f = refl

module _ (q : TreeProgram) (f : Extent) (fs : List Extent) (classes : List Class) (rule : Rule) (e : EffectShape) (hs : List (Attr Operand32)) (res : Attr Operand32) (v : View) (m : State)
    (ready : Ready l32 q f fs classes rule e hs res v m) where
  abbrev pub scene : Scene
  scene = scene_of q classes rule hs res v

  pub found_so : IsFound l32_lines (setting_of classes rule) (holes_of classes rule.right) (kind_at classes rule.left) rule.lines rule.give e
  found_so = rule_is classes rule e ready.instance_of.taken

  pub seen : Sees scene None m
  seen = instance_seen true q f fs classes rule e hs res v m ready.instance_of ready.result

  pub low : register_in res < 12
  low = by rule.give refl where
    in_register : own_of rule.give ≡ own.Register → register_in res < 12
    in_register is = let r = register_result rule.give hs res is ready.result in subst (λ a. register_in a < 12) (sym r.1) r.2

    nowhere : (own_of rule.give ≡ own.Register → ⊥) → register_in res < 12
    nowhere h = subst (λ a. register_in a < 12) (sym (nothing_low rule.give hs res ready.result h)) (omega arith)

    by : (g : Give) → rule.give ≡ g → register_in res < 12
    by give.Fresh is = in_register (ap own_of is)
    by give.Reuse is = in_register (ap own_of is)
    by give.Scratch is = in_register (ap own_of is)
    by give.Nothing is = nowhere (λ r. let x : own.Nothing ≡ own.Register = sym (ap own_of is) ∙ r in cc)
    by (give.Shape l) is = nowhere (λ r. let x : own.Nothing ≡ own.Register = sym (ap own_of is) ∙ r in cc)

  pub apart : IsApart scene
  apart is fresh zero op = cc
  apart is fresh (suc j) op = by (slice_get rule.right j) refl where
    reg_is : (n : ℕ) × (res ≡ attr.Reg n) × (n < 12)
    reg_is = register_result rule.give hs res is ready.result

    off : Avoids l32 (RegAt reg_is.0) hs
    off = avoided rule.give hs reg_is.0 fresh (subst (IsResult l32 rule.give hs) reg_is.1 ready.result)

    by : (o : Option Sym) → slice_get rule.right j ≡ o → attr_touches l32 (filling_at scene (suc j)) (RegAt (register_in res)) ≡ false
    by None none =
        let role : role_at scene (suc j) ≡ hole_kind.Other = role_is scene j ∙ ap hole_or_other (mapped_at classes rule.right j ∙ ap (option_map (hole_of classes)) none) in
        absurd (let x : false ≡ true = ap is_operand (sym role) ∙ op in cc)
    by (Some s) there =
        let x = filled_at classes rule.right hs j s ready.instance_of.holes_fit there in
        ap (λ a. attr_touches l32 a (RegAt (register_in res))) (filling_is scene j ∙ ap (λ (o : Option (Attr Operand32)). unwrap_or o res) x.at)
        ∙ ap (λ a. attr_touches l32 x.attribute (RegAt (register_in a))) reg_is.1
        ∙ avoids_at (RegAt reg_is.0) hs j x.attribute off x.at

  -- no statement reuses a register
  pub settled : IsSettled scene
  settled is = by rule.give refl where
    by : (g : Give) → rule.give ≡ g → is_reuse rule.give ≡ false
    by give.Fresh e = ap is_reuse e
    by give.Scratch e = ap is_reuse e
    by give.Nothing e = ap is_reuse e
    by (give.Shape l) e = ap is_reuse e
    by give.Reuse e =
        let none = reuse_none (kind_at classes rule.left) (subst (MayGive classes rule.left rule.right) e ready.instance_of.rule_fits.gives) in
        absurd (let x : false ≡ true = sym none ∙ is in cc)

  pub divides_so : NoneIsZero scene found_so.progress.divisors
  divides_so = subst (λ (x : EffectShape). NoneIsZero scene x.divisors) (sym found_so.is) ready.divides

  pub calm : EndIsRead scene found_so.progress.last → IsCalm scene found_so.progress
  calm end = record { reads = reads_safe true v e found_so.progress.reads found_so.none_dropped_so ready.instance_of.read; ends_read = end }

  -- the lines of the rule are run
  pub ran : EndIsRead scene found_so.progress.last → RunsTo scene found_so.progress.own m (run (map (line_of scene) rule.lines) m) found_so.progress.last
  ran end = lines_run scene m rule.lines found_so.progress seen settled apart low found_so.judged (calm end) divides_so

  -- ---- a rule that is no statement's comes behind its lines

  never_ends : (setting_of classes rule).is_statement ≡ false → MayEnd scene → ⊥
  never_ends quiet (inl is) = let x : false ≡ true = sym quiet ∙ is in cc
  never_ends quiet (inr is) = by rule.give is.1 where
    by : (g : Give) → own_of g ≡ own.Slot is.0 → ⊥
    by give.Fresh e = cc
    by give.Reuse e = cc
    by give.Scratch e = cc
    by give.Nothing e = cc
    by (give.Shape l) e = cc

  never_done : (n : State) (deed : ActShape) (did : Course Instr32 State) → (setting_of classes rule).is_statement ≡ false → IsDone scene n deed did → ⊥
  never_done n deed did quiet (inl x) = never_ends quiet x.0
  never_done n deed did quiet (inr x) = let y : false ≡ true = sym quiet ∙ x.3 in cc

  plainly : (l : Last) (o : Option Shape) (did : Course Instr32 State) → (setting_of classes rule).is_statement ≡ false → RunsTo scene o m did l → ComesTo scene o m did
  plainly Plain o did quiet r = r
  plainly (Compared a b) o did quiet r = r
  plainly (Tested t) o did quiet r = r
  plainly (Returning t) o did quiet r = absurd (let x : false ≡ true = sym quiet ∙ r.may in cc)
  plainly (Ended deed) o did quiet r = absurd (never_done r.state deed did quiet r.does)

  pub comes_so : (setting_of classes rule).is_statement ≡ false → ComesTo scene found_so.progress.own m (run (map (line_of scene) rule.lines) m)
  comes_so quiet = plainly found_so.progress.last found_so.progress.own _ quiet (ran (λ is. absurd (let x : false ≡ true = sym quiet ∙ is in cc)))

  -- ---- what a last line did

  last_is : (l : Last) (deed : ActShape) → last_deed l ≡ Ok deed → l ≡ Ended deed
  last_is (Ended x) deed h = ap Ended (ok_same x deed h)
  last_is _ deed h = absurd (err_ok _ deed h)

  act_is : found_so.deed ≡ e.act
  act_is = ap (λ (x : EffectShape). x.act) found_so.is

  -- a statement ends in its act
  pub ends_in : last_deed found_so.progress.last ≡ Ok found_so.deed → EndsIn scene m e.act (run (map (line_of scene) rule.lines) m)
  ends_in given =
      let is = last_is found_so.progress.last found_so.deed given ∙ ap Ended act_is in
      subst (RunsTo scene found_so.progress.own m (run (map (line_of scene) rule.lines) m)) is
      (ran (subst (EndIsRead scene) (sym is) (λ s. front_safe true v (terms_of_act e.act) e.divisors ready.instance_of.read)))

  -- a rule with a result leaves it
  own_is : (t : Shape) → left_value found_so.progress.own ≡ Ok found_so.deed → e.act ≡ Value t → found_so.progress.own ≡ Some t
  own_is t given act = by found_so.progress.own given where
    by : (o : Option Shape) → left_value o ≡ Ok found_so.deed → o ≡ Some t
    by None h = absurd (err_ok _ found_so.deed h)
    by (Some x) h = ap Some (same x t (ok_same (Value x) found_so.deed h ∙ act_is ∙ act))
      where
        same : (x y : Shape) → Value x ≡ Value y → x ≡ y
        same x y e = cc

module _ (q : TreeProgram) (f : Extent) (fs : List Extent) (classes : List Class) (rule : Rule) (e : EffectShape) (t : Shape) (hs : List (Attr Operand32)) (r : ℕ) (v : View) (m : State)
    (ready : Ready l32 q f fs classes rule e hs (attr.Reg r) v m) (act : e.act ≡ Value t) where
  abbrev R : Type 0
  R = Sets l32 (lines_of l32 q rule hs (attr.Reg r)) (RegAt r) q Long (attr.Reg r) (value v t) m

  abbrev F : IsFound l32_lines (setting_of classes rule) (holes_of classes rule.right) (kind_at classes rule.left) rule.lines rule.give e
  F = found_so q f fs classes rule e hs (attr.Reg r) v m ready

  abbrev S : Scene
  S = scene_of q classes rule hs (attr.Reg r) v

  sets_so : ComesTo S (Some t) m (run (map (line_of S) rule.lines) m) → R
  sets_so x = record { state = x.state; ran = x.is; gets = ap (λ (n : ℕ). Some n) x.reaches.sees.holds; keeps = x.reaches.keeps }

  sets_plain : (setting_of classes rule).is_statement ≡ false → left_value F.progress.own ≡ Ok F.deed → R
  sets_plain quiet given =
      let own_so = own_is q f fs classes rule e hs (attr.Reg r) v m ready t given act in
      sets_so (subst (λ o. ComesTo S o m (run (map (line_of S) rule.lines) m)) own_so (comes_so q f fs classes rule e hs (attr.Reg r) v m ready quiet))

  abbrev G : Give → Type 0
  G g = given_by (l32_lines.gives (setting_of classes rule) (holes_of classes rule.right) (kind_at classes rule.left)) F.progress.own F.progress.last g ≡ Ok F.deed

  no_value : (n : State) (did : Course Instr32 State) → IsDone S n (Value t) did → ⊥
  no_value n did (inl x) = x.1
  no_value n did (inr x) = let y = x.1 in cc

  by_give : (g : Give) → rule.give ≡ g → R
  by_give give.Fresh is =
      sets_plain (fresh_none (kind_at classes rule.left) (subst (MayGive classes rule.left rule.right) is ready.instance_of.rule_fits.gives)) (subst G is F.given)
  by_give give.Reuse is =
      sets_plain (reuse_none (kind_at classes rule.left) (subst (MayGive classes rule.left rule.right) is ready.instance_of.rule_fits.gives)) (subst G is F.given)
  by_give give.Scratch is =
      let x = subst (λ a. EndsIn S m a (run (map (line_of S) rule.lines) m)) act (ends_in q f fs classes rule e hs (attr.Reg r) v m ready (subst G is F.given)) in
      absurd (no_value x.state (run (map (line_of S) rule.lines) m) x.does)
  by_give give.Nothing is = absurd (subst (λ g. IsResult l32 g hs (attr.Reg r)) is ready.result)
  by_give (give.Shape l) is = absurd (subst (λ g. IsResult l32 g hs (attr.Reg r)) is ready.result)

  pub result_so : R
  result_so = by_give rule.give refl

pub results_are_left : ResultsAreLeft
results_are_left q f fs classes rule e t hs r v m ready act = result_so q f fs classes rule e t hs r v m ready act
