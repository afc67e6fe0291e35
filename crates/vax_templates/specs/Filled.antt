-- Templates with their holes filled: an operand, and an instruction.
use Rattle.std.specs.Prelude.{ℕ, ◌-◌, ◌*◌, ◌==◌, nat_lt, nat_le, List, slice_get, unwrap_or, Option, Some, None, if◌then◌else◌}
use Rattle.gg_base.specs.declared.limits.TheConstants.{NEED_LIMIT}
use Rattle.gg_base.specs.Arithmetic.{neg32}
use Rattle.sel_target.specs.tree_core.specs.declared.token.Tok.{Tok}
use Rattle.sel_target.specs.tree_core.specs.declared.token.Tok.TheVariants as tok
use Rattle.sel_target.specs.tree_core.specs.declared.tree.Att.{Att}
use Rattle.sel_target.specs.tree_core.specs.declared.tree.Att.TheVariants as att
use Rattle.sel_target.specs.tree_core.specs.declared.tree.Leaf.{Leaf}
use Rattle.sel_target.specs.tree_core.specs.declared.program.Object.{Object}
use Rattle.sel_target.specs.tree_core.specs.declared.program.TreeProgram.{TreeProgram}
use Rattle.sel_target.specs.md_reader_pieces.specs.declared.piece.Piece.{Piece}
use Rattle.sel_target.specs.declared.attr.Attr.{Attr}
use Rattle.sel_target.specs.declared.attr.Attr.TheVariants as attr
use Rattle.vax_core.specs.declared.register.Reg.{Reg}
use Rattle.vax_core.specs.declared.register.Reg.TheVariants.{R0, Ap}
use Rattle.vax_core.specs.Numbers.{registers}
use Rattle.vax_core.specs.declared.operand.Addr.{Addr}
use Rattle.vax_core.specs.declared.operand.Base.{Base}
use Rattle.vax_core.specs.declared.operand.Base.TheVariants as bases
use Rattle.vax_core.specs.declared.operand.Operand.{Operand}
use Rattle.vax_core.specs.Homes.{home, at_home, argument_home}
use Rattle.vax_templates.specs.declared.form.Number.{Number}
use Rattle.vax_templates.specs.declared.form.Number.TheVariants as number
use Rattle.vax_templates.specs.declared.form.Base.TheVariants as base
use Rattle.vax_templates.specs.declared.form.Base.{Base as FormBase}
use Rattle.vax_templates.specs.declared.form.Form.{Form}
use Rattle.vax_templates.specs.Instructions.{shape_of_pieces}

abbrev pub alone : Base → Operand
alone b = record { base = b; index = None }

abbrev pub addr_number : ℕ → Addr
addr_number n = record { name = None; offset = n }

-- what stands where a hole has nothing that can be spelled there, `$0`, which names no register; templates that are shown have no such hole
abbrev pub spare : Operand
spare = alone (bases.Imm (addr_number 0))

-- what a hole stands for; symbols are numbered from 1
abbrev pub attr_at : List (Attr Operand) → Attr Operand → ℕ → Attr Operand
attr_at holes zero i = if i == 0 then zero else unwrap_or (slice_get holes (i - 1)) zero

abbrev pub register_or_zero : Option Reg → Reg
register_or_zero None = R0
register_or_zero (Some r) = r

-- the register with a number
abbrev pub numbered : ℕ → Reg
numbered n = register_or_zero (slice_get registers n)

abbrev pub register_in : Attr Operand → Reg
register_in (attr.Reg n) = numbered n
register_in a = R0

abbrev pub label_of : Option Object → Option (List ℕ)
label_of None = None
label_of (Some o) = Some o.label

-- an object is spelled by its label
abbrev pub object_addr : TreeProgram → ℕ → ℕ → Addr
object_addr p object offset = record { name = label_of (slice_get p.objects object); offset = offset }

abbrev pub addr_of_att : TreeProgram → Att → Addr
addr_of_att p (att.Number n) = addr_number n
addr_of_att p (att.Object object offset) = object_addr p object offset
addr_of_att p a = addr_number 0

abbrev pub addr_in : TreeProgram → Attr Operand → Addr
addr_in p (attr.Con n) = addr_number n
addr_in p (attr.Token l) = addr_of_att p l.att
addr_in p a = addr_number 0

abbrev pub number_addr : TreeProgram → List (Attr Operand) → Attr Operand → Number → Addr
number_addr p holes zero (number.Itself n) = addr_number n
number_addr p holes zero (number.Symbol i) = addr_in p (attr_at holes zero i)

-- a frame's word has a place up to `NEED_LIMIT` words, an argument up to 255
abbrev pub word_operand : ℕ → Operand
word_operand k = if nat_lt k NEED_LIMIT then home k else spare

abbrev pub slot_operand : Tok → ℕ → Operand
slot_operand tok.Arg k = if nat_le k 255 then argument_home k else spare
slot_operand t k = word_operand k

abbrev pub argument_deferred : ℕ → Operand
argument_deferred k = alone (bases.DispDef (addr_number (4 * k)) Ap)

abbrev pub slot_deferred : Tok → ℕ → Operand
slot_deferred tok.Arg k = if nat_le k 255 then argument_deferred k else spare
slot_deferred t k = if nat_lt k NEED_LIMIT then at_home k else spare

abbrev pub leaf_operand : TreeProgram → Tok → Att → Operand
leaf_operand p t (att.Slot k) = slot_operand t k
leaf_operand p t (att.Object object offset) = alone (bases.Rel (object_addr p object offset))
leaf_operand p t (att.Number n) = alone (bases.Imm (addr_number n))
leaf_operand p t a = spare

abbrev pub operand_in : TreeProgram → Attr Operand → Operand
operand_in p (attr.Reg n) = alone (bases.Reg (register_in (attr.Reg n)))
operand_in p (attr.InSlot k) = word_operand k
operand_in p (attr.Value o) = o
operand_in p (attr.Place o) = o
operand_in p (attr.Con n) = alone (bases.Imm (addr_number n))
operand_in p (attr.Ea o) = o
operand_in p (attr.Token l) = leaf_operand p l.tok l.att
operand_in p attr.Nothing = spare

abbrev pub leaf_deferred : TreeProgram → Tok → Att → Operand
leaf_deferred p t (att.Slot k) = slot_deferred t k
leaf_deferred p t (att.Object object offset) = alone (bases.RelDef (object_addr p object offset))
leaf_deferred p t a = spare

-- memory at the address that a local, an argument or an object holds
abbrev pub deferred_in : TreeProgram → Attr Operand → Operand
deferred_in p (attr.Token l) = leaf_deferred p l.tok l.att
deferred_in p a = spare

-- an operand without its index
unfoldable pub filled_base : TreeProgram → List (Attr Operand) → Attr Operand → FormBase → Operand
filled_base p holes zero base.RegisterZero = alone (bases.Reg R0)
filled_base p holes zero (base.Hole i) = operand_in p (attr_at holes zero i)
filled_base p holes zero (base.Immediate n) = alone (bases.Imm (number_addr p holes zero n))
filled_base p holes zero (base.Negative i) = alone (bases.Imm (addr_number (neg32 (addr_in p (attr_at holes zero i)).offset)))
filled_base p holes zero (base.RegisterDeferred i) = alone (bases.Def (register_in (attr_at holes zero i)))
filled_base p holes zero (base.Displacement n i) = alone (bases.Disp (number_addr p holes zero n) (register_in (attr_at holes zero i)))
filled_base p holes zero (base.DisplacementDeferred n i) = alone (bases.DispDef (number_addr p holes zero n)
    (register_in (attr_at holes zero i)))
filled_base p holes zero (base.Absolute n) = alone (bases.Abs (number_addr p holes zero n).offset)
filled_base p holes zero (base.Deferred i) = deferred_in p (attr_at holes zero i)

abbrev pub with_index : List (Attr Operand) → Attr Operand → Option ℕ → Operand → Operand
with_index holes zero None o = o
with_index holes zero (Some i) o = record o { index = Some (register_in (attr_at holes zero i)) }

abbrev pub filled : TreeProgram → List (Attr Operand) → Attr Operand → Form → Operand
filled p holes zero f = with_index holes zero f.index (filled_base p holes zero f.base)

abbrev pub filled_or_spare : TreeProgram → List (Attr Operand) → Option Form → Operand
filled_or_spare p holes None = spare
filled_or_spare p holes (Some f) = filled p holes attr.Nothing f

-- a shape with its holes filled
abbrev pub filled_operand : TreeProgram → List Piece → List (Attr Operand) → Operand
filled_operand p shape holes = filled_or_spare p holes (shape_of_pieces shape)
