-- The laws: slots, and shapes.
use Rattle.std.proofs.Common.{◌≡◌, ℕ, suc, true, Option, Some, None, Ok, List, refl, ap, subst, ◌∙◌}
use Rattle.std.proofs.lemmas.Bool.{or_left, or_right}
use Rattle.gg_base.specs.declared.size.Size.{Size}
use Rattle.gg_base.proofs.Facts.{err_ok, ok_same}
use Rattle.l32_target_operands.specs.vax_target_meaning.specs.tree_core.specs.declared.program.TreeProgram.{TreeProgram}
use Rattle.l32_target_operands.specs.judging_laws.specs.md_reader.specs.declared.types.Class.{Class}
use Rattle.l32_target_operands.specs.judging_laws.specs.md_reader.specs.declared.types.Kind.{Kind}
use Rattle.l32_target_operands.specs.judging_laws.specs.md_reader.specs.declared.types.Kind.TheVariants as kind
use Rattle.l32_target_operands.specs.judging_laws.specs.md_reader.specs.declared.types.Rule.{Rule}
use Rattle.l32_target_operands.specs.judging_laws.specs.md_reader.specs.declared.types.Give.{Give}
use Rattle.l32_target_operands.specs.judging_laws.specs.md_reader.specs.Patterns.{kind_at}
use Rattle.l32_target_operands.specs.judging_laws.specs.sel_terms.specs.Effects.{ActShape, EffectShape}
use Rattle.l32_target_operands.specs.judging_laws.specs.sel_target.specs.declared.attr.Attr.{Attr}
use Rattle.l32_target_operands.specs.judging_laws.specs.sel_target.specs.declared.attr.Attr.TheVariants as attr
use Rattle.l32_target_operands.specs.judging_laws.specs.vax_templates.specs.declared.setting.Hole.{Hole}
use Rattle.l32_target_operands.specs.judging_laws.specs.vax_templates.specs.declared.setting.Own.{Own}
use Rattle.l32_target_operands.specs.judging_laws.specs.vax_templates.specs.declared.setting.Own.TheVariants as own
use Rattle.l32_target_operands.specs.judging_laws.specs.vax_templates.specs.declared.setting.Setting.{Setting}
use Rattle.l32_target_operands.specs.judging_laws.specs.vax_templates.specs.Settings.{hole_at, holes_of, setting_of, own_of}
use Rattle.l32_target_operands.specs.judging_laws.specs.vax_templates.specs.HoleTerms.{own_value}
use Rattle.l32_target_operands.specs.judging_laws.specs.vax_templates.specs.Standing.{Where, Immediate, Register, OwnRegister, RegisterZero, Value, Place, Local, SavedPlace, Saved, At, ◌>>=◌}
use Rattle.l32_target_operands.specs.judging_laws.specs.vax_templates.specs.Taking.{Taken, cut_term, fetched}
use Rattle.l32_target_operands.specs.judging_laws.specs.vax_templates.specs.GiveLines.{address_given, value_given, place_given}
use Rattle.l32_target_operands.specs.judging_laws.specs.template_judging.specs.Lines.{given_by}
use Rattle.l32_target_operands.specs.judging_laws.specs.template_judging.specs.Found as any
use Rattle.l32_target_operands.specs.judging_laws.specs.Each.{Each}
use Rattle.l32_target_operands.specs.judging_laws.proofs.Binds.{chained}
use Rattle.judging_effects.specs.Laws.{IsFound}
use Rattle.judging_effects.proofs.Founds.{template_is}
use Rattle.l32_target_operands.specs.l32_templates.specs.l32_core.specs.declared.operand.Operand32.{Operand32}
use Rattle.l32_target_operands.specs.l32_templates.specs.l32_core.specs.Valid.{is_register, is_memory}
use Rattle.l32_target_operands.specs.l32_templates.specs.declared.form.Form.{Form}
use Rattle.l32_target_operands.specs.l32_templates.specs.Instructions.{shape_of_pieces}
use Rattle.l32_target_operands.specs.l32_templates.specs.Standing.{form_where}
use Rattle.l32_target_operands.specs.l32_templates.specs.Taking.{sourced}
use Rattle.l32_target_operands.specs.l32_templates.specs.Filled.{attr_at, filled, filled_or_spare}
use Rattle.l32_target_operands.specs.l32_templates.specs.GiveLines.{shape_given, shape_read, given_shape}
use Rattle.l32_target_operands.specs.l32_templates.specs.Found.{l32_lines}
use Rattle.l32_target_operands.specs.l32_templates.specs.Homes.{home}
use Rattle.l32_target_operands.specs.l32_target_meaning.specs.Fitting.{fits, is_source}
use Rattle.l32_target_operands.specs.l32_target_meaning.specs.L32.{l32}
use Rattle.l32_target_operands.specs.Places.{FormIsShort}
use Rattle.l32_target_operands.proofs.Short.{shape_short}
use Rattle.l32_target_fits.specs.Laws.{SlotsFit, ShapesFit}
use Rattle.l32_target_fits.proofs.Holes.{Spells, home_memory, at_home_memory, hole_spells}
use Rattle.l32_target_fits.proofs.Forms.{Stands, form_stands}

pub slots_fit : SlotsFit
slots_fit = record {
  value = λ size w lt. or_right (is_register (home w)) (is_memory (home w)) (home_memory w);
  place = λ size w lt. at_home_memory w;
  address = λ w lt. at_home_memory w;
}

-- ---- shapes

source_of : (o : Operand32) → is_memory o ≡ true → is_source o ≡ true
source_of o e = or_right (is_register o) (is_memory o) e

source_register : (o : Operand32) → is_register o ≡ true → is_source o ≡ true
source_register o e = or_left (is_register o) (is_memory o) e

no_own : (o : Own) (t : Taken) (size : Size) → (own_value o None >>= cut_term size) ≡ Ok t → ⊥
no_own own.Nothing t size e = err_ok _ t e
no_own own.Register t size e = err_ok _ t e
no_own (own.Slot z) t size e = err_ok _ t e

value_fits : (s : Setting) (w : Where) (o : Operand32) (size : Size) (t : Taken) → Stands w o → sourced s None w size ≡ Ok t → is_source o ≡ true
unfolding fetched
value_fits s (Immediate x) o size t k e = absurd (err_ok _ t e)
value_fits s (Register x) o size t k e = source_register o k
value_fits s OwnRegister o size t k e = absurd (no_own s.own t size e)
value_fits s RegisterZero o size t k e = source_register o k
value_fits s (Value z i) o size t k e = k
value_fits s (Place z i) o size t k e = source_of o k
value_fits s (Local i) o size t k e = source_of o k
value_fits s (SavedPlace z i) o size t k e = source_of o k
value_fits s (Saved i) o size t k e = source_of o k
value_fits s (At a p) o size t k e = source_of o k

place_fits : (size : Size) (w : Where) (o : Operand32) (a : ActShape) → Stands w o → place_given size w ≡ Ok a → is_memory o ≡ true
place_fits size (Place z i) o a k e = k
place_fits size (Local i) o a k e = k
place_fits size (At b p) o a k e = k
place_fits size _ o a k e = absurd (err_ok _ a e)

address_fits : (w : Where) (o : Operand32) (a : ActShape) → Stands w o → address_given w ≡ Ok a → is_memory o ≡ true
address_fits (At b p) o a k e = k
address_fits _ o a k e = absurd (err_ok _ a e)

shape_is : (o : Option Form) (f : Form) → shape_read o ≡ Ok f → o ≡ Some f
shape_is None f e = absurd (err_ok _ f e)
shape_is (Some g) f e = ap Some (ok_same g f e)

module _ (q : TreeProgram) (s : Setting) (roles : List Hole) (hs : List (Attr Operand32)) (none : s.own ≡ own.Nothing)
    (spells : (j : ℕ) → Spells q (hole_at roles (suc j)) (attr_at hs attr.Nothing (suc j))) where
  form_fits : (k : Kind) (f : Form) (a : ActShape) → FormIsShort f → shape_given s roles (Some k) f ≡ Ok a → fits k (filled q hs attr.Nothing f) ≡ true
  unfolding shape_given
  form_fits (kind.Value z) f a short e =
      let d = chained (form_where s roles None f) (λ (w : Where). sourced s None w z >>= value_given) a e in
      let g = chained (sourced s None d.first z) value_given a d.then_so in
      value_fits s d.first (filled q hs attr.Nothing f) z g.first (form_stands q s roles hs attr.Nothing none spells f d.first short d.is) g.is
  form_fits (kind.Place z) f a short e =
      let d = chained (form_where s roles None f) (place_given z) a e in
      place_fits z d.first (filled q hs attr.Nothing f) a (form_stands q s roles hs attr.Nothing none spells f d.first short d.is) d.then_so
  form_fits kind.Ea f a short e =
      let d = chained (form_where s roles None f) address_given a e in
      address_fits d.first (filled q hs attr.Nothing f) a (form_stands q s roles hs attr.Nothing none spells f d.first short d.is) d.then_so
  form_fits kind.Reg f a short e = refl
  form_fits kind.Con f a short e = refl
  form_fits kind.Nothing f a short e = refl

rule_is : (classes : List Class) (rule : Rule) (e : EffectShape) → l32.effect classes rule ≡ Ok e
    → IsFound l32_lines (setting_of classes rule) (holes_of classes rule.right) (kind_at classes rule.left) rule.lines rule.give e
unfolding any.found
rule_is classes rule e h = template_is l32_lines (setting_of classes rule) (holes_of classes rule.right) (kind_at classes rule.left) rule.lines rule.give e h

pub shapes_fit : ShapesFit
shapes_fit q classes rule e k l hs can rule_fits taken gives kind_is fit restricted spelled =
    let F = rule_is classes rule e taken in
    let s = setting_of classes rule in
    let roles = holes_of classes rule.right in
    let given : given_shape s roles (Some k) l.pieces ≡ Ok F.deed =
    subst (λ (x : Option Kind). given_shape s roles x l.pieces ≡ Ok F.deed) kind_is
    (subst (λ (g : Give). given_by (given_shape s roles (kind_at classes rule.left)) F.progress.own F.progress.last g ≡ Ok F.deed) gives F.given) in
    let d = chained (shape_read (shape_of_pieces l.pieces)) (shape_given s roles (Some k)) F.deed given in
    let is = shape_is (shape_of_pieces l.pieces) d.first d.is in
    ap (λ (o : Option Form). fits k (filled_or_spare q hs o)) is
    ∙ form_fits q s roles hs (ap own_of gives) (λ j. hole_spells q can classes rule.right hs attr.Nothing j fit spelled) k d.first F.deed
    (subst (Each FormIsShort) is (shape_short l.pieces)) d.then_so
