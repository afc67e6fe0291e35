-- The law, kind by kind.
use Rattle.std.proofs.Common.{◌≡◌, ℕ, Bool, true, false, cond, Option, Some, None, Ok, Err, sym, ap, subst, ◌∙◌}
use Rattle.gg_base.specs.declared.size.Size.{Size}
use Rattle.gg_base.specs.declared.size.Size.TheVariants.{Byte, Long}
use Rattle.gg_base.proofs.Facts.{err_ok, ok_same}
use Rattle.vax_templates.specs.md_reader.specs.declared.types.Kind.TheVariants as kind
use Rattle.term_core.specs.Shape.{Shape}
use Rattle.vax_templates.specs.sel_terms.specs.Effects as effects
use Rattle.vax_templates.specs.sel_terms.specs.Effects.{ActShape}
use Rattle.vax_templates.specs.sel_terms.specs.Same.{same_size}
use Rattle.vax_templates.specs.sel_target.specs.declared.fault.TemplateKind.{TemplateKind}
use Rattle.vax_templates.specs.sel_target.specs.declared.fault.TemplateKind.TheVariants.{WrongSize}
use Rattle.vax_templates.specs.sel_target.specs.Values.{IsRead}
use Rattle.vax_core.specs.declared.operand.Operand.{Operand}
use Rattle.vax_target_reading.specs.vax_machine.specs.State.{State}
use Rattle.vax_templates.specs.declared.form.Base.{Base}
use Rattle.vax_templates.specs.declared.form.Form.{Form}
use Rattle.vax_templates.specs.Standing.{Where, Place, Local}
use Rattle.vax_templates.specs.Standing.{At, form_where, ◌>>=◌}
use Rattle.vax_templates.specs.Taking.{fetched}
use Rattle.vax_templates.specs.GiveLines.{value_given, home_given, place_given, address_given, without_index}
use Rattle.vax_templates.specs.GiveLines.{shape_given}
use Rattle.vax_templates.specs.Filled.{filled}
use Rattle.vax_target_operands.specs.vax_target_meaning.specs.Reading.{names, reads}
use Rattle.vax_target_operands.specs.Scenes.{Scene, worth, Sees}
use Rattle.vax_target_operands.specs.Places.{BaseIsShort}
use Rattle.vax_target_operands.proofs.Binds.{chained}
use Rattle.vax_target_shapes.specs.Laws.{ShapesStand}
use Rattle.vax_target_shapes.proofs.Naming.{NamesAt, form_names, plain_names}
use Rattle.vax_target_shapes.proofs.Valued.{value_reads}

home_so : (size has : Size) (i : ℕ) (a : Shape) → home_given size has i ≡ Ok (effects.PlaceAt size a) → ⊥
home_so size has i a e = by (same_size has size) e where
  by : (b : Bool) → cond b (Ok (effects.PlaceHome size i)) (Err WrongSize) ≡ Ok (effects.PlaceAt size a) → ⊥
  by true e = other (ok_same {E = TemplateKind} (effects.PlaceHome size i) (effects.PlaceAt size a) e) where
    other : effects.PlaceHome size i ≡ effects.PlaceAt size a → ⊥
    other q = cc
  by false e = err_ok _ _ e

module _ (c : Scene) (m : State) (h : Sees c None m) where
  place_so : (w : Where) (o : Operand) (size : Size) (a : Shape) → NamesAt c m h w o size → place_given size w ≡ Ok (effects.PlaceAt size a) → IsRead c.view a → names o size m ≡ Some (worth c a)
  place_so (At b p) o size a n e safe =
      let same = address_is (ok_same {E = TemplateKind} (effects.PlaceAt size b) (effects.PlaceAt size a) e) in
      n (subst (IsRead c.view) (sym same) safe) ∙ ap (λ (x : Shape). Some (worth c x)) same where
        address_is : effects.PlaceAt size b ≡ effects.PlaceAt size a → b ≡ a
        address_is q = cc
  place_so (Place z i) o size a n e safe = absurd (home_so size z i a e)
  place_so (Local i) o size a n e safe = absurd (home_so size Long i a e)
  place_so _ o size a n e safe = absurd (err_ok _ _ e)

  address_so : (w : Where) (o : Operand) (size : Size) (a : Shape) → NamesAt c m h w o size → address_given w ≡ Ok (effects.Address a) → IsRead c.view a → names o size m ≡ Some (worth c a)
  address_so (At b p) o size a n e safe =
      let same = address_is (ok_same {E = TemplateKind} (effects.Address b) (effects.Address a) e) in
      n (subst (IsRead c.view) (sym same) safe) ∙ ap (λ (x : Shape). Some (worth c x)) same where
        address_is : effects.Address b ≡ effects.Address a → b ≡ a
        address_is q = cc
  address_so _ o size a n e safe = absurd (err_ok _ _ e)

  by_index : (b : Base) (x : Option ℕ) (size : Size) (t : Shape) → BaseIsShort b →
      without_index (record { base = b; index = x }) (form_where c.setting c.roles None (record { base = b; index = x }) Byte >>= address_given) ≡ Ok (effects.Address t) →
      IsRead c.view t → names (filled c.program c.holes c.own (record { base = b; index = x })) size m ≡ Some (worth c t)
  by_index b None size t short e safe =
      let d = chained (form_where c.setting c.roles None (record { base = b; index = None }) Byte) address_given (effects.Address t) e in
      address_so d.first (filled c.program c.holes c.own (record { base = b; index = None })) size t (plain_names c m h b d.first size Byte short d.is) d.then_so safe
  by_index b (Some i) size t short e safe = absurd (err_ok _ _ e)

values_so : (c : Scene) (m : State) (f : Form) (size : Size) (t : Shape) → Sees c None m → BaseIsShort f.base →
    shape_given c.setting c.roles (Some (kind.Value size)) f ≡ Ok (effects.Value t) → IsRead c.view t → reads (filled c.program c.holes c.own f) size m ≡ Some (worth c t)
unfolding shape_given
values_so c m f size t h short e safe =
    let d = chained (form_where c.setting c.roles None f size) (λ (w : Where). fetched c.setting None w size >>= value_given) (effects.Value t) e in
    value_reads c m h f size t d.first short d.is d.then_so safe

places_so : (c : Scene) (m : State) (f : Form) (size : Size) (a : Shape) → Sees c None m → BaseIsShort f.base →
    shape_given c.setting c.roles (Some (kind.Place size)) f ≡ Ok (effects.PlaceAt size a) → IsRead c.view a → names (filled c.program c.holes c.own f) size m ≡ Some (worth c a)
unfolding shape_given
places_so c m f size a h short e safe =
    let d = chained (form_where c.setting c.roles None f size) (place_given size) (effects.PlaceAt size a) e in
    place_so c m h d.first (filled c.program c.holes c.own f) size a (form_names c m h f d.first size short d.is) d.then_so safe

addresses_so : (c : Scene) (m : State) (f : Form) (size : Size) (t : Shape) → Sees c None m → BaseIsShort f.base →
    shape_given c.setting c.roles (Some kind.Ea) f ≡ Ok (effects.Address t) → IsRead c.view t → names (filled c.program c.holes c.own f) size m ≡ Some (worth c t)
unfolding shape_given
addresses_so c m f size t h short e safe = by_index c m h f.base f.index size t short e safe

pub shapes_stand : ShapesStand
shapes_stand = record { values = values_so; places = places_so; addresses = addresses_so }
