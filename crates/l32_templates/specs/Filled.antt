-- Operands of templates with their holes filled.
use Rattle.std.specs.Prelude.{ℕ, ◌-◌, ◌*◌, ◌==◌, ◌&&◌, nat_lt, nat_le, Bool, List, slice_get, unwrap_or, Option, Some, None, if◌then◌else◌}
use Rattle.vax_templates.specs.gg_base.specs.declared.limits.TheConstants.{NEED_LIMIT}
use Rattle.vax_templates.specs.gg_base.specs.Arithmetic.{neg32}
use Rattle.vax_templates.specs.sel_target.specs.tree_core.specs.declared.token.Tok.{Tok}
use Rattle.vax_templates.specs.sel_target.specs.tree_core.specs.declared.token.Tok.TheVariants as tok
use Rattle.vax_templates.specs.sel_target.specs.tree_core.specs.declared.tree.Att.{Att}
use Rattle.vax_templates.specs.sel_target.specs.tree_core.specs.declared.tree.Att.TheVariants as att
use Rattle.vax_templates.specs.sel_target.specs.tree_core.specs.declared.program.TreeProgram.{TreeProgram}
use Rattle.vax_templates.specs.sel_target.specs.md_reader_pieces.specs.declared.piece.Piece.{Piece}
use Rattle.vax_templates.specs.sel_target.specs.declared.attr.Attr.{Attr}
use Rattle.vax_templates.specs.sel_target.specs.declared.attr.Attr.TheVariants as attr
use Rattle.vax_templates.specs.declared.form.Number.{Number}
use Rattle.vax_templates.specs.declared.form.Number.TheVariants as number
use Rattle.vax_templates.specs.Filled.{object_addr}
use Rattle.l32_core.specs.declared.operand.Base32.TheVariants.{A, Fp}
use Rattle.l32_core.specs.declared.operand.Operand32.{Operand32}
use Rattle.l32_core.specs.declared.operand.Operand32.TheVariants as operands
use Rattle.l32_templates.specs.Homes.{home, at_home, argument_home}
use Rattle.l32_templates.specs.declared.form.Form.{Form}
use Rattle.l32_templates.specs.declared.form.Form.TheVariants as form
use Rattle.l32_templates.specs.Instructions.{shape_of_pieces}

-- what stands where a hole has nothing that can be spelled there, `$0`; templates that are shown have no such hole
abbrev pub spare : Operand32
spare = operands.Num 0

-- what a hole stands for; symbols are numbered from 1
abbrev pub attr_at : List (Attr Operand32) → Attr Operand32 → ℕ → Attr Operand32
attr_at holes zero i = if i == 0 then zero else unwrap_or (slice_get holes (i - 1)) zero

abbrev pub register_in : Attr Operand32 → ℕ
register_in (attr.Reg n) = n
register_in a = 0

abbrev pub number_of_att : Att → ℕ
number_of_att (att.Number n) = n
number_of_att a = 0

abbrev pub number_in : Attr Operand32 → ℕ
number_in (attr.Con n) = n
number_in (attr.Token l) = number_of_att l.att
number_in a = 0

abbrev pub number_filled : List (Attr Operand32) → Attr Operand32 → Number → ℕ
number_filled holes zero (number.Itself n) = n
number_filled holes zero (number.Symbol i) = number_in (attr_at holes zero i)

-- a frame's longword has a place up to `NEED_LIMIT` longwords, an argument from 1 to 255
abbrev pub word_operand : ℕ → Operand32
word_operand k = if nat_lt k NEED_LIMIT then home k else spare

abbrev pub is_argument : ℕ → Bool
is_argument i = nat_le 1 i && nat_le i 255

abbrev pub slot_operand : Tok → ℕ → Operand32
slot_operand tok.Arg i = if is_argument i then argument_home i else spare
slot_operand t k = word_operand k

abbrev pub argument_deferred : ℕ → Operand32
argument_deferred i = operands.Deferred (4 * (i - 1)) Fp

-- the place whose address a longword of the frame or an argument holds
abbrev pub slot_deferred : Tok → ℕ → Operand32
slot_deferred tok.Arg i = if is_argument i then argument_deferred i else spare
slot_deferred t k = if nat_lt k NEED_LIMIT then at_home k else spare

abbrev pub leaf_operand : TreeProgram → Tok → Att → Operand32
leaf_operand p t (att.Slot k) = slot_operand t k
leaf_operand p t (att.Object object offset) = operands.Addr (object_addr p object offset)
leaf_operand p t (att.Number n) = operands.Num n
leaf_operand p t a = spare

abbrev pub operand_in : TreeProgram → Attr Operand32 → Operand32
operand_in p (attr.Reg n) = operands.Reg n
operand_in p (attr.InSlot k) = word_operand k
operand_in p (attr.Value o) = o
operand_in p (attr.Place o) = o
operand_in p (attr.Con n) = operands.Num n
operand_in p (attr.Ea o) = o
operand_in p (attr.Token l) = leaf_operand p l.tok l.att
operand_in p attr.Nothing = spare

abbrev pub leaf_deferred : Tok → Att → Operand32
leaf_deferred t (att.Slot k) = slot_deferred t k
leaf_deferred t a = spare

abbrev pub deferred_in : Attr Operand32 → Operand32
deferred_in (attr.Token l) = leaf_deferred l.tok l.att
deferred_in a = spare

-- an operand
unfoldable pub filled : TreeProgram → List (Attr Operand32) → Attr Operand32 → Form → Operand32
filled p holes zero form.RegisterZero = operands.Reg 0
filled p holes zero (form.Hole i) = operand_in p (attr_at holes zero i)
filled p holes zero (form.Immediate n) = operands.Num (number_filled holes zero n)
filled p holes zero (form.Negative i) = operands.Num (neg32 (number_in (attr_at holes zero i)))
filled p holes zero (form.Displacement n i) = operands.At (number_filled holes zero n) (A (register_in (attr_at holes zero i)))
filled p holes zero (form.DisplacementDeferred n i) = operands.Deferred (number_filled holes zero n) (A (register_in (attr_at holes zero i)))
filled p holes zero (form.Deferred i) = deferred_in (attr_at holes zero i)

abbrev pub filled_or_spare : TreeProgram → List (Attr Operand32) → Option Form → Operand32
filled_or_spare p holes None = spare
filled_or_spare p holes (Some f) = filled p holes attr.Nothing f

-- a shape with its holes filled
abbrev pub filled_operand : TreeProgram → List Piece → List (Attr Operand32) → Operand32
filled_operand p shape holes = filled_or_spare p holes (shape_of_pieces shape)
