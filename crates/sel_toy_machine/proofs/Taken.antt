-- What a rule looks like that the toy machine takes.
use Rattle.std.proofs.Common.{◌≡◌, ℕ, List, [], ◌∷◌, Option, Some, None, Bool, true, false, refl, sym, ap, ◌∙◌}
use Rattle.std.specs.Prelude.{Ok, Err}
use Rattle.std.proofs.lemmas.Option.{none-some, same_Some}
use Rattle.std.proofs.lemmas.Bool.{false≢true}
use Rattle.gg_base.proofs.Facts.{err_ok, ok_same}
use Rattle.md_reader_pieces.specs.declared.piece.Line.{Line}
use Rattle.md_reader.specs.declared.types.Class.{Class}
use Rattle.md_reader.specs.declared.types.Give.{Give}
use Rattle.md_reader.specs.declared.types.Give.TheVariants as give
use Rattle.md_reader.specs.declared.types.Rule.{Rule}
use Rattle.md_reader.specs.Patterns.{kind_at}
use Rattle.sel_target.specs.sel_terms.specs.Effects.{EffectShape}
use Rattle.sel_toy_machine.specs.declared.form.Form.{Form}
use Rattle.sel_toy_machine.specs.Forms.{form_of, shape_of}
use Rattle.sel_toy_machine.specs.Templates.{or_fault, fault_at, where_true, gives_register, gives_nothing, found_form, found_line, found_shape, found_rule, effect}

-- one line, or a shape alone
pub data Taken (classes : List Class) (rule : Rule) (e : EffectShape) : Type 0 where
  by_line : (l : Line) (f : Form) → rule.lines ≡ l ∷ [] → form_of l.pieces ≡ Some f → found_form classes rule f ≡ Some e → Taken classes rule e
  by_shape : (l : Line) → rule.lines ≡ [] → rule.give ≡ give.Shape l → found_shape classes rule.right (kind_at classes rule.left) (shape_of l.pieces) ≡ Some e → Taken classes rule e

pub or_ok : (line : ℕ) (o : Option EffectShape) (e : EffectShape) → or_fault line o ≡ Ok e → o ≡ Some e
or_ok line None e h = absurd (err_ok (fault_at line) e h)
or_ok line (Some x) e h = ap Some (ok_same x e h)

pub where_is : (b : Bool) (x e : EffectShape) → where_true b x ≡ Some e → (b ≡ true) × (x ≡ e)
where_is true x e h = (refl, same_Some x e h)
where_is false x e h = absurd (none-some e h)

line_taken : (classes : List Class) (rule : Rule) (e : EffectShape) (l : Line) (o : Option Form) → rule.lines ≡ l ∷ [] → form_of l.pieces ≡ o →
    found_line classes rule o ≡ Some e → Taken classes rule e
line_taken classes rule e l None el ef h = absurd (none-some e h)
line_taken classes rule e l (Some f) el ef h = by_line l f el ef h

rule_taken : (classes : List Class) (rule : Rule) (e : EffectShape) (lines : List Line) (g : Give) → rule.lines ≡ lines → rule.give ≡ g →
    found_rule classes rule lines g ≡ Ok e → Taken classes rule e
rule_taken classes rule e [] (give.Shape l) el eg h = by_shape l el eg (or_ok l.line (found_shape classes rule.right (kind_at classes rule.left) (shape_of l.pieces)) e h)
rule_taken classes rule e (l ∷ []) g el eg h =
    line_taken classes rule e l (form_of l.pieces) el refl (or_ok l.line (found_line classes rule (form_of l.pieces)) e (by g h))
  where
    by : (g : Give) → found_rule classes rule (l ∷ []) g ≡ Ok e → or_fault l.line (found_line classes rule (form_of l.pieces)) ≡ Ok e
    by give.Fresh h = h
    by give.Reuse h = h
    by give.Scratch h = h
    by give.Nothing h = h
    by (give.Shape s) h = h
rule_taken classes rule e (l ∷ k ∷ ls) g el eg h = absurd (err_ok (fault_at k.line) e (by g h)) where
  by : (g : Give) → found_rule classes rule (l ∷ k ∷ ls) g ≡ Ok e → Err (fault_at k.line) ≡ Ok e
  by give.Fresh h = h
  by give.Reuse h = h
  by give.Scratch h = h
  by give.Nothing h = h
  by (give.Shape s) h = h
rule_taken classes rule e _ _ el eg h = absurd (err_ok (fault_at 0) e h)

pub taken_by : (classes : List Class) (rule : Rule) (e : EffectShape) → effect classes rule ≡ Ok e → Taken classes rule e
taken_by classes rule e h = rule_taken classes rule e rule.lines rule.give refl refl h

-- a line's form gives a register, and no shape
pub shape_gives_none : (g : Give) (l : Line) → g ≡ give.Shape l → gives_register g ≡ true → ⊥
shape_gives_none g l e h = false≢true (sym (ap gives_register e) ∙ h)

pub shape_gives_register : (g : Give) (l : Line) → g ≡ give.Shape l → gives_nothing g ≡ true → ⊥
shape_gives_register g l e h = false≢true (sym (ap gives_nothing e) ∙ h)
