-- Where an operand of a template stands, on terms, as the machine's operands stand somewhere on numbers.
use Rattle.std.specs.Prelude.{ℕ, ◌==◌, List, Option, Some, None, Result, Ok, Err, if◌then◌else◌}
use Rattle.gg_base.specs.declared.size.Size.{Size}
use Rattle.gg_base.specs.declared.size.Size.TheVariants.{Long}
use Rattle.gg_base.specs.Sizes.{bytes_of}
use Rattle.sel_target.specs.term_core.specs.declared.operator.UnaryOp.TheVariants as unary_op
use Rattle.sel_target.specs.term_core.specs.declared.operator.BinaryOp.TheVariants as binary_op
use Rattle.sel_target.specs.term_core.specs.Shape.{Shape, Constant, Symbol, Memory, Unary, Binary}
use Rattle.sel_target.specs.declared.fault.TemplateKind.{TemplateKind}
use Rattle.sel_target.specs.declared.fault.TemplateKind.TheVariants.{NotInstr}
use Rattle.vax_templates.specs.declared.form.Base.{Base}
use Rattle.vax_templates.specs.declared.form.Base.TheVariants as base
use Rattle.vax_templates.specs.declared.form.Form.{Form}
use Rattle.vax_templates.specs.declared.setting.Hole.{Hole}
use Rattle.vax_templates.specs.declared.setting.Hole.TheVariants as hole_kind
use Rattle.vax_templates.specs.declared.setting.Own.{Own}
use Rattle.vax_templates.specs.declared.setting.Own.TheVariants as own
use Rattle.vax_templates.specs.declared.setting.Opening.{Opening}
use Rattle.vax_templates.specs.declared.setting.Opening.TheVariants as opening
use Rattle.vax_templates.specs.declared.setting.Setting.{Setting}
use Rattle.vax_templates.specs.Settings.{hole_at}
use Rattle.vax_templates.specs.HoleTerms.{constant_of, absolute_term, number_term, register_term}

-- a number, a symbol's register, `%0`, register 0, a symbol's value, a symbol's place, a local, a place whose address
-- is saved, the local of the last call's result, or memory at an address, for which a pointer may have been read
pub data Where : Type 0 where
  Immediate : (t : Shape) → Where
  Register : (t : Shape) → Where
  OwnRegister : Where
  RegisterZero : Where
  Value : (size : Size) (i : ℕ) → Where
  Place : (size : Size) (i : ℕ) → Where
  Local : (i : ℕ) → Where
  SavedPlace : (size : Size) (i : ℕ) → Where
  Saved : (i : ℕ) → Where
  At : (address : Shape) (pointer : Option Shape) → Where

-- one part after another, unless there is a fault
infixl 10 ◌>>=◌
abbrev pub ◌>>=◌ : {A B E : Type 0} → Result A E → (A → Result B E) → Result B E
(Ok x) >>= f = f x
(Err e) >>= f = Err e

abbrev pub where_own : Own → Result Where TemplateKind
where_own own.Nothing = Err NotInstr
where_own o = Ok OwnRegister

-- where a hole alone stands
abbrev pub where_hole : Hole → ℕ → Result Where TemplateKind
where_hole hole_kind.Register i = Ok (Register (Symbol i))
where_hole (hole_kind.Value z) i = Ok (Value z i)
where_hole (hole_kind.Place z) i = Ok (Place z i)
where_hole hole_kind.Local i = Ok (Local i)
where_hole (hole_kind.SavedPlace z) i = Ok (SavedPlace z i)
where_hole hole_kind.Address i = Ok (At (Symbol i) None)
where_hole hole_kind.Object i = Ok (At (Symbol i) None)
where_hole hole_kind.Saved i = Ok (Saved i)
where_hole h i = Err NotInstr

abbrev pub where_zero : Opening → Result Where TemplateKind
where_zero opening.Other = Err NotInstr
where_zero o = Ok RegisterZero

-- memory at the address that is read at an address
abbrev pub through : Shape → Where
through a = At (Memory Long a) (Some (Memory Long a))

-- a local or an argument holds the address itself; an object's longword is read
abbrev pub where_deferred : Hole → ℕ → Result Where TemplateKind
where_deferred hole_kind.Local i = Ok (At (Symbol i) None)
where_deferred hole_kind.Object i = Ok (through (Symbol i))
where_deferred h i = Err NotInstr

abbrev pub at : Shape → Result Where TemplateKind
at a = Ok (At a None)

abbrev pub sum : Shape → Shape → Shape
sum a b = Binary binary_op.Add a b

abbrev pub displaced : Result Shape TemplateKind → Result Shape TemplateKind → Result Shape TemplateKind
displaced d r = d >>= λ (a : Shape). r >>= λ (b : Shape). Ok (sum a b)

abbrev pub pointed : Shape → Result Where TemplateKind
pointed a = Ok (through a)

abbrev pub negated : Shape → Result Where TemplateKind
negated t = Ok (Immediate (Unary unary_op.Neg t))

abbrev pub itself : Shape → Result Where TemplateKind
itself t = Ok (Immediate t)

-- where an operand stands, without its index; `%0` holds a value or none
unfoldable pub where_base : Setting → List Hole → Option Shape → Base → Result Where TemplateKind
where_base s holes zero base.RegisterZero = where_zero s.opening
where_base s holes zero (base.Hole i) = if i == 0 then where_own s.own else where_hole (hole_at holes i) i
where_base s holes zero (base.Immediate n) = number_term holes n >>= itself
where_base s holes zero (base.Negative i) = constant_of (hole_at holes i) i >>= negated
where_base s holes zero (base.RegisterDeferred i) = register_term s holes zero i >>= at
where_base s holes zero (base.Displacement n i) = displaced (number_term holes n) (register_term s holes zero i) >>= at
where_base s holes zero (base.DisplacementDeferred n i) = displaced (number_term holes n) (register_term s holes zero i) >>= pointed
where_base s holes zero (base.Absolute n) = absolute_term holes n >>= at
where_base s holes zero (base.Deferred i) = where_deferred (hole_at holes i) i

-- the index counts in multiples of the operand's size
abbrev pub scaled : Size → Shape → Shape
scaled size x = Binary binary_op.Mul (Constant (bytes_of size)) x

abbrev pub moved : Size → Where → Shape → Result Where TemplateKind
moved size (At a p) x = Ok (At (sum a (scaled size x)) p)
moved size w x = Err NotInstr

abbrev pub where_indexed : Setting → List Hole → Option Shape → Option ℕ → Size → Where → Result Where TemplateKind
where_indexed s holes zero None size w = Ok w
where_indexed s holes zero (Some i) size w = register_term s holes zero i >>= moved size w

-- where an operand of this size stands
unfoldable pub form_where : Setting → List Hole → Option Shape → Form → Size → Result Where TemplateKind
form_where s holes zero f size = where_base s holes zero f.base >>= where_indexed s holes zero f.index size
