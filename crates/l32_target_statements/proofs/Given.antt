-- A rule with a deed gives no shape and no register: it ends in its last line's deed.
use Rattle.std.proofs.Common.{◌≡◌, ℕ, Bool, true, false, cond, List, Option, Some, None, Result, Ok, Err, sym, subst}
use Rattle.gg_base.specs.declared.size.Size.{Size}
use Rattle.gg_base.specs.declared.size.Size.TheVariants.{Long}
use Rattle.gg_base.proofs.Facts.{err_ok, ok_same}
use Rattle.l32_target_rules.specs.judging_laws.specs.md_reader_pieces.specs.declared.piece.Piece.{Piece}
use Rattle.l32_target_rules.specs.judging_laws.specs.md_reader.specs.declared.types.Kind.{Kind}
use Rattle.l32_target_rules.specs.judging_laws.specs.md_reader.specs.declared.types.Kind.TheVariants as kind
use Rattle.l32_target_rules.specs.judging_laws.specs.md_reader.specs.declared.types.Give.{Give}
use Rattle.l32_target_rules.specs.judging_laws.specs.md_reader.specs.declared.types.Give.TheVariants as give
use Rattle.l32_target_rules.specs.judging_laws.specs.term_core.specs.Shape.{Shape}
use Rattle.l32_target_rules.specs.judging_laws.specs.sel_terms.specs.Effects.{ActShape, Value, Number, Address, PlaceHome, PlaceAt}
use Rattle.l32_target_rules.specs.judging_laws.specs.sel_target.specs.declared.fault.TemplateKind.{TemplateKind}
use Rattle.l32_target_rules.specs.judging_laws.specs.sel_target.specs.declared.fault.TemplateKind.TheVariants.{WrongSize}
use Rattle.l32_target_rules.specs.judging_laws.specs.vax_templates.specs.declared.setting.Hole.{Hole}
use Rattle.l32_target_rules.specs.judging_laws.specs.vax_templates.specs.declared.setting.Setting.{Setting}
use Rattle.l32_target_rules.specs.judging_laws.specs.vax_templates.specs.Settings.{hole_at}
use Rattle.l32_target_rules.specs.judging_laws.specs.vax_templates.specs.HoleTerms.{constant_of}
use Rattle.l32_target_rules.specs.judging_laws.specs.vax_templates.specs.Standing.{Where, Place, Local, Register, At, ◌>>=◌}
use Rattle.l32_target_rules.specs.judging_laws.specs.vax_templates.specs.Taking.{Taken}
use Rattle.l32_target_rules.specs.judging_laws.specs.sel_terms.specs.Same.{same_size}
use Rattle.l32_target_rules.specs.judging_laws.specs.vax_templates.specs.Deeds.{Last}
use Rattle.l32_target_rules.specs.judging_laws.specs.vax_templates.specs.GiveLines.{left_value, last_deed, register_given, number_given, address_given, value_given, home_given, place_given}
use Rattle.l32_target_rules.specs.judging_laws.specs.template_judging.specs.Lines.{given_by}
use Rattle.l32_target_rules.specs.judging_laws.proofs.Binds.{chained}
use Rattle.l32_target_rules.specs.l32_templates.specs.declared.form.Form.{Form}
use Rattle.l32_target_rules.specs.l32_templates.specs.declared.form.Form.TheVariants as form
use Rattle.l32_target_rules.specs.l32_templates.specs.Instructions.{shape_of_pieces}
use Rattle.l32_target_rules.specs.l32_templates.specs.Standing.{form_where}
use Rattle.l32_target_rules.specs.l32_templates.specs.Taking.{sourced}
use Rattle.l32_target_rules.specs.l32_templates.specs.GiveLines.{form_number, shape_given, shape_read, given_shape}
use Rattle.l32_target_statements.specs.Laws.{IsDeed}

-- what is no deed
no_deed : (a deed : ActShape) → ◌≡◌ {A = Result ActShape TemplateKind} (Ok a) (Ok deed) → (IsDeed a → ⊥) → IsDeed deed → ⊥
no_deed a deed e none d = none (subst IsDeed (sym (ok_same a deed e)) d)

left_none : (o : Option Shape) (deed : ActShape) → left_value o ≡ Ok deed → IsDeed deed → ⊥
left_none None deed e d = absurd (err_ok _ deed e)
left_none (Some t) deed e d = no_deed (Value t) deed e (λ x. x) d

register_none : (w : Where) (deed : ActShape) → register_given w ≡ Ok deed → IsDeed deed → ⊥
register_none (Register t) deed e d = no_deed (Value t) deed e (λ x. x) d
register_none _ deed e d = absurd (err_ok _ deed e)

address_none : (w : Where) (deed : ActShape) → address_given w ≡ Ok deed → IsDeed deed → ⊥
address_none (At a p) deed e d = no_deed (Address a) deed e (λ x. x) d
address_none _ deed e d = absurd (err_ok _ deed e)

value_none : (t : Taken) (deed : ActShape) → value_given t ≡ Ok deed → IsDeed deed → ⊥
value_none t deed e d = by t.missized e where
  by : (b : Bool) → cond b (Err WrongSize) (Ok (Value t.term)) ≡ Ok deed → ⊥
  by true e = absurd (err_ok _ deed e)
  by false e = no_deed (Value t.term) deed e (λ x. x) d

home_none : (size has : Size) (i : ℕ) (deed : ActShape) → home_given size has i ≡ Ok deed → IsDeed deed → ⊥
home_none size has i deed e d = by (same_size has size) e where
  by : (b : Bool) → cond b (Ok (PlaceHome size i)) (Err WrongSize) ≡ Ok deed → ⊥
  by true e = no_deed (PlaceHome size i) deed e (λ x. x) d
  by false e = absurd (err_ok _ deed e)

place_none : (size : Size) (w : Where) (deed : ActShape) → place_given size w ≡ Ok deed → IsDeed deed → ⊥
place_none size (Place z i) deed e d = home_none size z i deed e d
place_none size (Local i) deed e d = home_none size Long i deed e d
place_none size (At a p) deed e d = no_deed (PlaceAt size a) deed e (λ x. x) d
place_none size _ deed e d = absurd (err_ok _ deed e)

number_none : (t : Shape) (deed : ActShape) → number_given t ≡ Ok deed → IsDeed deed → ⊥
number_none t deed e d = no_deed (Number t) deed e (λ x. x) d

form_none : (holes : List Hole) (f : Form) (deed : ActShape) → form_number holes f ≡ Ok deed → IsDeed deed → ⊥
form_none holes (form.Hole i) deed e d = let x = chained (constant_of (hole_at holes i) i) number_given deed e in number_none x.first deed x.then_so d
form_none holes _ deed e d = absurd (err_ok _ deed e)

shape_none : (s : Setting) (holes : List Hole) (k : Option Kind) (f : Form) (deed : ActShape) → shape_given s holes k f ≡ Ok deed → IsDeed deed → ⊥
unfolding shape_given
shape_none s holes (Some kind.Reg) f deed e d = let x = chained (form_where s holes None f) register_given deed e in register_none x.first deed x.then_so d
shape_none s holes (Some kind.Con) f deed e d = form_none holes f deed e d
shape_none s holes (Some kind.Ea) f deed e d = let x = chained (form_where s holes None f) address_given deed e in address_none x.first deed x.then_so d
shape_none s holes (Some (kind.Value z)) f deed e d =
    let x = chained (form_where s holes None f) (λ (w : Where). sourced s None w z >>= value_given) deed e in
    let y = chained (sourced s None x.first z) value_given deed x.then_so in
    value_none y.first deed y.then_so d
shape_none s holes (Some (kind.Place z)) f deed e d = let x = chained (form_where s holes None f) (place_given z) deed e in place_none z x.first deed x.then_so d
shape_none s holes (Some kind.Nothing) f deed e d = absurd (err_ok _ deed e)
shape_none s holes None f deed e d = absurd (err_ok _ deed e)

pieces_none : (s : Setting) (holes : List Hole) (k : Option Kind) (ps : List Piece) (deed : ActShape) → given_shape s holes k ps ≡ Ok deed → IsDeed deed → ⊥
pieces_none s holes k ps deed e d =
    let x = chained (shape_read (shape_of_pieces ps)) (shape_given s holes k) deed e in shape_none s holes k x.first deed x.then_so d

-- what a rule with a deed gives is its last line's
pub last_given : (s : Setting) (holes : List Hole) (k : Option Kind) (o : Option Shape) (l : Last) (g : Give) (deed : ActShape)
    → given_by (given_shape s holes k) o l g ≡ Ok deed → IsDeed deed → last_deed l ≡ Ok deed
last_given s holes k o l give.Fresh deed e d = absurd (left_none o deed e d)
last_given s holes k o l give.Reuse deed e d = absurd (left_none o deed e d)
last_given s holes k o l give.Scratch deed e d = e
last_given s holes k o l give.Nothing deed e d = e
last_given s holes k o l (give.Shape x) deed e d = absurd (pieces_none s holes k x.pieces deed e d)
