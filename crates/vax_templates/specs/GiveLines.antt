-- What a template did, by the `give` line of its rule, and the line to which a fault of that belongs.
-- This is how the code computes it; that instructions do so is the law vax_is_lawful of vax_target_laws.
use Rattle.std.specs.Prelude.{ℕ, List, Option, Some, None, is_none, Result, Ok, Err, if◌then◌else◌}
use Rattle.gg_base.specs.declared.size.Size.{Size}
use Rattle.gg_base.specs.declared.size.Size.TheVariants.{Byte, Long}
use Rattle.sel_target.specs.md_reader_pieces.specs.declared.piece.Line.{Line}
use Rattle.sel_target.specs.md_reader_pieces.specs.declared.piece.Piece.{Piece}
use Rattle.sel_target.specs.md_reader.specs.declared.types.Kind.{Kind}
use Rattle.sel_target.specs.md_reader.specs.declared.types.Kind.TheVariants as kind
use Rattle.sel_target.specs.md_reader.specs.declared.types.Give.{Give}
use Rattle.sel_target.specs.md_reader.specs.declared.types.Give.TheVariants as give
use Rattle.sel_target.specs.term_core.specs.Shape.{Shape}
use Rattle.sel_target.specs.sel_terms.specs.Effects.{ActShape, Value, Number, Address, PlaceHome, PlaceAt}
use Rattle.sel_target.specs.sel_terms.specs.Same.{same_size}
use Rattle.sel_target.specs.declared.fault.TemplateKind.{TemplateKind}
use Rattle.sel_target.specs.declared.fault.TemplateKind.TheVariants.{NotInstr, WrongSize}
use Rattle.vax_templates.specs.declared.form.Base.{Base}
use Rattle.vax_templates.specs.declared.form.Base.TheVariants as base
use Rattle.vax_templates.specs.declared.form.Form.{Form}
use Rattle.vax_templates.specs.declared.setting.Hole.{Hole}
use Rattle.vax_templates.specs.declared.setting.Setting.{Setting}
use Rattle.vax_templates.specs.Settings.{hole_at}
use Rattle.vax_templates.specs.Instructions.{shape_of_pieces}
use Rattle.vax_templates.specs.Standing.{Where, Register, Place, Local, At, form_where, ◌>>=◌}
use Rattle.vax_templates.specs.HoleTerms.{constant_of}
use Rattle.vax_templates.specs.Taking.{Taken, fetched}
use Rattle.vax_templates.specs.Deeds.{Last, Ended}
use Rattle.vax_templates.specs.Progress.{last_line}

-- what is left in `%0`, or what the last line did
abbrev pub left_value : Option Shape → Result ActShape TemplateKind
left_value None = Err NotInstr
left_value (Some t) = Ok (Value t)

abbrev pub last_deed : Last → Result ActShape TemplateKind
last_deed (Ended deed) = Ok deed
last_deed l = Err NotInstr

-- a shape of each kind
abbrev pub register_given : Where → Result ActShape TemplateKind
register_given (Register t) = Ok (Value t)
register_given w = Err NotInstr

abbrev pub number_given : Shape → Result ActShape TemplateKind
number_given t = Ok (Number t)

abbrev pub base_number : List Hole → Base → Result ActShape TemplateKind
base_number holes (base.Hole i) = constant_of (hole_at holes i) i >>= number_given
base_number holes b = Err NotInstr

abbrev pub address_given : Where → Result ActShape TemplateKind
address_given (At a p) = Ok (Address a)
address_given w = Err NotInstr

abbrev pub value_given : Taken → Result ActShape TemplateKind
value_given t = if t.missized then Err WrongSize else Ok (Value t.term)

abbrev pub home_given : Size → Size → ℕ → Result ActShape TemplateKind
home_given size has i = if same_size has size then Ok (PlaceHome size i) else Err WrongSize

abbrev pub place_given : Size → Where → Result ActShape TemplateKind
place_given size (Place z i) = home_given size z i
place_given size (Local i) = home_given size Long i
place_given size (At a p) = Ok (PlaceAt size a)
place_given size w = Err NotInstr

-- an address has no index, so that one may stand behind it
abbrev pub without_index : Form → Result ActShape TemplateKind → Result ActShape TemplateKind
without_index f given = if is_none f.index then given else Err NotInstr

-- what an operand is that a rule of this kind gives
unfoldable pub shape_given : Setting → List Hole → Option Kind → Form → Result ActShape TemplateKind
shape_given s holes (Some kind.Reg) f = form_where s holes None f Long >>= register_given
shape_given s holes (Some kind.Con) f = without_index f (base_number holes f.base)
shape_given s holes (Some kind.Ea) f = without_index f (form_where s holes None f Byte >>= address_given)
shape_given s holes (Some (kind.Value z)) f = form_where s holes None f z >>= λ (w : Where). fetched s None w z >>= value_given
shape_given s holes (Some (kind.Place z)) f = form_where s holes None f z >>= place_given z
shape_given s holes (Some kind.Nothing) f = Err NotInstr
shape_given s holes None f = Err NotInstr

abbrev pub shape_read : Option Form → Result Form TemplateKind
shape_read None = Err NotInstr
shape_read (Some f) = Ok f

abbrev pub given_shape : Setting → List Hole → Option Kind → List Piece → Result ActShape TemplateKind
given_shape s holes k ps = shape_read (shape_of_pieces ps) >>= shape_given s holes k

-- what a template did, by what it gives, where this is left in `%0` and that by the last line
abbrev pub given_by : Setting → List Hole → Option Kind → Option Shape → Last → Give → Result ActShape TemplateKind
given_by s holes k zero l give.Fresh = left_value zero
given_by s holes k zero l give.Reuse = left_value zero
given_by s holes k zero l give.Scratch = last_deed l
given_by s holes k zero l give.Nothing = last_deed l
given_by s holes k zero l (give.Shape shape) = given_shape s holes k shape.pieces

-- the line to which a fault of that belongs
abbrev pub given_line : List Line → Give → ℕ
given_line ls give.Fresh = last_line ls
given_line ls give.Reuse = last_line ls
given_line ls give.Scratch = last_line ls
given_line ls give.Nothing = last_line ls
given_line ls (give.Shape shape) = shape.line
