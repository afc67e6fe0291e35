-- What is known where a judgement of a line gives something.
use Rattle.std.proofs.Common.{◌≡◌, ℕ, Bool, true, false, cond, [], ◌∷◌, Option, Some, None, Result, Ok, Err, refl, sym, ap, ◌∙◌}
use Rattle.gg_base.specs.declared.size.Size.{Size}
use Rattle.gg_base.proofs.Facts.{err_ok, ok_same}
use Rattle.sel_target.specs.md_reader_pieces.specs.declared.piece.Piece.TheVariants as piece
use Rattle.sel_target.specs.sel_terms.specs.Same.{same_size}
use Rattle.sel_target.specs.declared.fault.TemplateKind.{TemplateKind}
use Rattle.sel_target.specs.declared.fault.TemplateKind.TheVariants.{NotInstr, WrongSize, Order}
use Rattle.vax_templates.specs.Standing.{Where, Immediate, Register, OwnRegister, RegisterZero, Value, Place, Local, SavedPlace, Saved, At}
use Rattle.vax_templates.specs.Taking.{Taken, taken_missized, addressed}
use Rattle.vax_templates.specs.declared.form.Base.TheVariants as base
use Rattle.vax_templates.specs.Instructions.{Instruction, shape_of_pieces}
use Rattle.vax_templates.specs.Deeds.{Deed}
use Rattle.vax_templates.specs.Judging.{in_order}
use Rattle.vax_templates.specs.Judging as judging
use Rattle.vax_templates.specs.Marks.{at_front}
use Rattle.vax_templates.specs.Forms.{form_front, base_front, number_spelled, index_front}

pub hole_front_is : (i : ℕ) → shape_of_pieces (piece.Hole i ∷ []) ≡ Some (record { base = base.Hole i; index = None })
unfolding form_front base_front number_spelled index_front at_front
hole_front_is i = refl

pub read_is : (o : Option Instruction) (i : Instruction) → judging.read o ≡ Ok i → o ≡ Some i
read_is None i e = absurd (err_ok _ i e)
read_is (Some j) i e = ap Some (ok_same j i e)

pub statement_of : {A : Type 0} (b : Bool) (x : Result A TemplateKind) (y : A) → cond b x (Err NotInstr) ≡ Ok y → x ≡ Ok y
statement_of true x y e = e
statement_of false x y e = absurd (err_ok _ y e)

pub sized_plain : (b : Bool) (x t : Taken) → x.target ≡ None → ◌≡◌ {A = Result Taken TemplateKind} (Ok (cond b x taken_missized)) (Ok t) → t.target ≡ None
sized_plain true x t none e = ap (λ (y : Taken). y.target) (sym (ok_same x t e)) ∙ none
sized_plain false x t none e = ap (λ (y : Taken). y.target) (sym (ok_same taken_missized t e))

pub ok_plain : (x t : Taken) → x.target ≡ None → ◌≡◌ {A = Result Taken TemplateKind} (Ok x) (Ok t) → t.target ≡ None
ok_plain x t none e = ap (λ (y : Taken). y.target) (sym (ok_same x t e)) ∙ none

pub addressed_plain : (w : Where) (size : Size) (t : Taken) → addressed w size ≡ Ok t → t.target ≡ None
addressed_plain (SavedPlace z i) size t e = sized_plain (same_size z size) _ t refl e
addressed_plain (At a p) size t e = ok_plain _ t refl e
addressed_plain _ size t e = absurd (err_ok _ t e)

pub in_order_is : (b : Bool) (u d : Deed) → in_order b u ≡ Ok d → u ≡ d
in_order_is b u d e = by u.missized b e where
  by : (x b : Bool) → cond x (Err WrongSize) (cond b (Err Order) (Ok u)) ≡ Ok d → u ≡ d
  by true b e = absurd (err_ok _ d e)
  by false true e = absurd (err_ok _ d e)
  by false false e = ok_same u d e
