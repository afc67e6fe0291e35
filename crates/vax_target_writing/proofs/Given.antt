-- What holds where the shape of a template is judged right.
use Rattle.std.proofs.Common.{◌≡◌, ℕ, true, Option, Some, None, Result, Ok, Err, List, refl, sym, ap, subst, ◌∙◌}
use Rattle.std.specs.Prelude.{is_none}
use Rattle.std.proofs.lemmas.Bool.{and_from}
use Rattle.gg_base.specs.declared.size.Size.{Size}
use Rattle.gg_base.specs.declared.size.Size.TheVariants.{Byte, Long}
use Rattle.tree_core.specs.declared.program.TreeProgram.{TreeProgram}
use Rattle.vax_target_meaning.specs.md_reader_pieces.specs.declared.piece.Line.{Line}
use Rattle.vax_target_meaning.specs.md_reader.specs.declared.types.Kind.{Kind}
use Rattle.vax_target_meaning.specs.md_reader.specs.declared.types.Kind.TheVariants as kind
use Rattle.vax_target_meaning.specs.md_reader.specs.declared.types.Give.TheVariants as give
use Rattle.vax_target_meaning.specs.sel_terms.specs.Effects.{ActShape, EffectShape}
use Rattle.vax_target_meaning.specs.sel_target.specs.declared.attr.Attr.{Attr}
use Rattle.vax_target_meaning.specs.sel_target.specs.declared.attr.Attr.TheVariants as attr
use Rattle.vax_target_meaning.specs.sel_target.specs.declared.fault.TemplateKind.{TemplateKind}
use Rattle.vax_target_meaning.specs.sel_target.specs.Meaning.{Fault}
use Rattle.vax_target_meaning.specs.sel_target.specs.Instances.{IsResult}
use Rattle.vax_core.specs.declared.operand.Operand.{Operand}
use Rattle.vax_target_meaning.specs.vax_templates.specs.declared.form.Base.{Base as FormBase}
use Rattle.vax_target_meaning.specs.vax_templates.specs.declared.form.Form.{Form}
use Rattle.vax_target_meaning.specs.vax_templates.specs.declared.setting.Hole.{Hole}
use Rattle.vax_target_meaning.specs.vax_templates.specs.declared.setting.Setting.{Setting}
use Rattle.vax_target_meaning.specs.vax_templates.specs.Settings.{holes_of, setting_of}
use Rattle.vax_target_meaning.specs.vax_templates.specs.Instructions.{shape_of_pieces}
use Rattle.vax_target_meaning.specs.vax_templates.specs.Standing.{Where, Immediate, Register, OwnRegister, RegisterZero, Value, Place, Local}
use Rattle.vax_target_meaning.specs.vax_templates.specs.Standing.{SavedPlace, Saved, At, where_base, where_indexed, form_where, ◌>>=◌}
use Rattle.vax_target_meaning.specs.vax_templates.specs.Taking.{fetched}
use Rattle.vax_target_meaning.specs.vax_templates.specs.Progress.{Progress, start, at_line, lines_judged}
use Rattle.vax_target_meaning.specs.vax_templates.specs.GiveLines.{given_line, register_given, base_number, address_given, value_given}
use Rattle.vax_target_meaning.specs.vax_templates.specs.GiveLines.{home_given, place_given, without_index, shape_given, shape_read}
use Rattle.vax_target_meaning.specs.vax_templates.specs.GiveLines.{given_shape}
use Rattle.vax_target_meaning.specs.vax_templates.specs.Found.{ended, template_found, checked, with_divisors, found}
use Rattle.vax_target_meaning.specs.vax_templates.specs.Filled.{filled_base, filled, filled_or_spare, filled_operand}
use Rattle.vax_target_meaning.specs.Fitting.{is_place, fits}
use Rattle.vax_target_meaning.specs.Vax.{vax}
use Rattle.vax_target_writing.specs.Laws.{ShapesFit}
use Rattle.vax_target_writing.proofs.Each.{Each, EachOk, bind_each, always_ok, still_ok, of_ok}
use Rattle.vax_target_writing.proofs.Longs.{IsLongForm}
use Rattle.vax_target_writing.proofs.Lines.{shape_long}
use Rattle.vax_target_writing.proofs.Operands.{IsMemory, AllSpell, OwnSpells, Stands, StandsBare, is_readable, readable_memory, memory_of_steady, base_stands, form_stands}
use Rattle.vax_target_writing.proofs.Fitting.{all_spell, own_spells}

pub at_its_line : {A : Type 0} (P : Type 0) (line : ℕ) (r : Result A TemplateKind) → EachOk (λ (x : A). P) r → EachOk (λ (x : A). P) (at_line line r)
at_its_line P line (Ok x) h = h
at_its_line P line (Err e) h = tt

-- what follows from a right shape follows from the template
pub of_shape : (s : Setting) (holes : List Hole) (k : Option Kind) (ls : List Line) (l : Line) (e : EffectShape) (P : Type 0) →
    EachOk (λ (x : ActShape). P) (given_shape s holes k l.pieces) → template_found s holes k ls (give.Shape l) ≡ Ok e → P
unfolding template_found ended
of_shape s holes k ls l e P h is =
    of_ok (λ (x : EffectShape). P) (lines_judged s holes true start ls >>= ended s holes k (given_line ls (give.Shape l)) (give.Shape l)) e is
    (ends (lines_judged s holes true start ls)) where
      ends : (r : Result Progress Fault) → EachOk (λ (x : EffectShape). P) (r >>= ended s holes k (given_line ls (give.Shape l)) (give.Shape l))
      ends (Ok p) =
          still_ok P (at_line (given_line ls (give.Shape l)) (given_shape s holes k l.pieces)) (λ (deed : ActShape). checked p (with_divisors p deed))
          (at_its_line P (given_line ls (give.Shape l)) (given_shape s holes k l.pieces) h)
      ends (Err e) = tt

-- ---- what a shape may stand for

pub place_fits : (o : Operand) → IsMemory o → is_place o ≡ true
place_fits o h = and_from _ _ (memory_of_steady o.base h.memory) (readable_memory o h)

module _ (q : TreeProgram) (s : Setting) (holes : List Hole) (hs : List (Attr Operand)) (spell : AllSpell q holes hs × OwnSpells q s.own attr.Nothing) where
  place_given_fits : (z : Size) (o : Operand) (w : Where) → Stands w o → EachOk (λ (x : ActShape). is_place o ≡ true) (place_given z w)
  place_given_fits z o (Immediate t) h = tt
  place_given_fits z o (Register t) h = tt
  place_given_fits z o OwnRegister h = tt
  place_given_fits z o RegisterZero h = tt
  place_given_fits z o (Value y i) h = tt
  place_given_fits z o (Place y i) h = always_ok (home_given z y i) (place_fits o h)
  place_given_fits z o (Local i) h = always_ok (home_given z Long i) (place_fits o h)
  place_given_fits z o (SavedPlace y i) h = tt
  place_given_fits z o (Saved i) h = tt
  place_given_fits z o (At a p) h = place_fits o h

  bare_form : (b : FormBase) (size : Size) → IsLongForm (record { base = b; index = None }) →
      EachOk (λ w. StandsBare w (filled_base q hs attr.Nothing b)) (form_where s holes None (record { base = b; index = None }) size)
  unfolding form_where
  bare_form b size long =
      bind_each (λ w. StandsBare w (filled_base q hs attr.Nothing b)) (λ w. StandsBare w (filled_base q hs attr.Nothing b)) (where_base s holes None b)
      (where_indexed s holes None None size) (λ w st. st) (base_stands q s holes None hs attr.Nothing b long spell)

  address_given_fits : (o : Operand) (w : Where) → StandsBare w o → EachOk (λ (x : ActShape). fits kind.Ea o ≡ true) (address_given w)
  address_given_fits o (Immediate t) h = tt
  address_given_fits o (Register t) h = tt
  address_given_fits o OwnRegister h = tt
  address_given_fits o RegisterZero h = tt
  address_given_fits o (Value y i) h = tt
  address_given_fits o (Place y i) h = tt
  address_given_fits o (Local i) h = tt
  address_given_fits o (SavedPlace y i) h = tt
  address_given_fits o (Saved i) h = tt
  address_given_fits o (At a p) h = and_from (is_none o.index) (is_place o) h.bare (place_fits o h.memory)

  address_fits : (b : FormBase) (x : Option ℕ) → IsLongForm (record { base = b; index = x }) →
      EachOk (λ (y : ActShape). fits kind.Ea (filled q hs attr.Nothing (record { base = b; index = x })) ≡ true)
      (without_index (record { base = b; index = x }) (form_where s holes None (record { base = b; index = x }) Byte >>= address_given))
  address_fits b None long =
      bind_each (λ w. StandsBare w (filled_base q hs attr.Nothing b)) (λ (y : ActShape). fits kind.Ea (filled_base q hs attr.Nothing b) ≡ true)
      (form_where s holes None (record { base = b; index = None }) Byte) address_given (address_given_fits (filled_base q hs attr.Nothing b)) (bare_form b Byte long)
  address_fits b (Some i) long = tt

  given_fits : (k : Kind) (f : Form) → IsLongForm f → EachOk (λ (x : ActShape). fits k (filled q hs attr.Nothing f) ≡ true) (shape_given s holes (Some k) f)
  unfolding shape_given
  given_fits kind.Reg f long = always_ok (form_where s holes None f Long >>= register_given) refl
  given_fits kind.Con f long = always_ok (without_index f (base_number holes f.base)) refl
  given_fits kind.Ea f long = address_fits f.base f.index long
  given_fits (kind.Value z) f long =
      bind_each (λ w. Stands w (filled q hs attr.Nothing f)) (λ (x : ActShape). fits (kind.Value z) (filled q hs attr.Nothing f) ≡ true)
      (form_where s holes None f z) (λ (w : Where). fetched s None w z >>= value_given)
      (λ w st. always_ok (fetched s None w z >>= value_given) (is_readable w (filled q hs attr.Nothing f) st)) (form_stands q s holes None hs attr.Nothing f z long spell)
  given_fits (kind.Place z) f long =
      bind_each (λ w. Stands w (filled q hs attr.Nothing f)) (λ (x : ActShape). is_place (filled q hs attr.Nothing f) ≡ true)
      (form_where s holes None f z) (place_given z) (place_given_fits z (filled q hs attr.Nothing f)) (form_stands q s holes None hs attr.Nothing f z long spell)
  given_fits kind.Nothing f long = tt

  shape_fits : (k : Kind) (o : Option Form) → Each IsLongForm o → EachOk (λ (x : ActShape). fits k (filled_or_spare q hs o) ≡ true) (shape_read o >>= shape_given s holes (Some k))
  shape_fits k None long = tt
  shape_fits k (Some f) long = given_fits k f long

pub shapes_fit : ShapesFit
unfolding found
shapes_fit q classes rule e k l hs can is taken gives kind_is fit sp =
    of_shape (setting_of classes rule) (holes_of classes rule.right) (Some k) rule.lines l e (fits k (filled_operand q l.pieces hs) ≡ true)
    (shape_fits q (setting_of classes rule) (holes_of classes rule.right) hs
    (all_spell q can classes rule.right hs fit sp, own_spells q can rule.give hs attr.Nothing (subst (λ g. IsResult vax g hs attr.Nothing) (sym gives) tt))
    k (shape_of_pieces l.pieces) (shape_long l.pieces))
    (ap (λ g. template_found (setting_of classes rule) (holes_of classes rule.right) (Some k) rule.lines g) (sym gives)
    ∙ (ap (λ x. template_found (setting_of classes rule) (holes_of classes rule.right) x rule.lines rule.give) (sym kind_is) ∙ taken))
