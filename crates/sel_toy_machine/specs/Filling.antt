-- Lines and shapes with their holes filled.
use Rattle.std.specs.Prelude.{ℕ, List, Option, Some, None, unwrap_or, slice_get}
use Rattle.gg_base.specs.declared.size.Size.TheVariants.{Long}
use Rattle.tree_core.specs.declared.token.Tok.{Tok}
use Rattle.tree_core.specs.declared.tree.Att.{Att}
use Rattle.tree_core.specs.declared.tree.Att.TheVariants as att
use Rattle.tree_core.specs.declared.program.TreeProgram.{TreeProgram}
use Rattle.md_reader_pieces.specs.declared.piece.Line.{Line}
use Rattle.sel_target.specs.declared.attr.Attr.{Attr}
use Rattle.sel_target.specs.declared.attr.Attr.TheVariants as attr
use Rattle.sel_target.specs.Values.{address_of, slot_place}
use Rattle.sel_target.specs.Instances.{hole}
use Rattle.sel_target.specs.StatementLaws.{att_of}
use Rattle.sel_toy_machine.specs.declared.operand.Operand.{Operand}
use Rattle.sel_toy_machine.specs.declared.operand.Operand.TheVariants as operand
use Rattle.sel_toy_machine.specs.declared.operand.Source.{Source}
use Rattle.sel_toy_machine.specs.declared.operand.Source.TheVariants as source
use Rattle.sel_toy_machine.specs.declared.operand.Destination.{Destination}
use Rattle.sel_toy_machine.specs.declared.operand.Destination.TheVariants as destination
use Rattle.sel_toy_machine.specs.declared.operand.Instr.{Instr}
use Rattle.sel_toy_machine.specs.declared.operand.Instr.TheVariants as instruction
use Rattle.sel_toy_machine.specs.declared.form.Form.{Form}
use Rattle.sel_toy_machine.specs.declared.form.Form.TheVariants as form
use Rattle.sel_toy_machine.specs.declared.form.ShapeForm.{ShapeForm}
use Rattle.sel_toy_machine.specs.declared.form.ShapeForm.TheVariants as shape_form
use Rattle.sel_toy_machine.specs.Forms.{form_of, shape_of}

-- what stands for no operand
abbrev pub nought : Operand
nought = operand.Number 0

-- the operand of a local's or an argument's token
abbrev pub slot_operand : Tok → ℕ → Operand
slot_operand x k = unwrap_or (slot_place operand.Word operand.Argument x k) nought

abbrev pub token_operand : TreeProgram → Tok → Att → Operand
token_operand q x att.Nothing = nought
token_operand q x (att.Number n) = operand.Number n
token_operand q x (att.Object object offset) = operand.Number (unwrap_or (address_of (slice_get q.objects object) offset) 0)
token_operand q x (att.Slot k) = slot_operand x k
token_operand q x (att.Branch rel label) = nought
token_operand q x (att.Label label) = nought
token_operand q x (att.Callee function count) = nought

-- the operand of an attribute
abbrev pub operand_of : TreeProgram → Attr Operand → Operand
operand_of q (attr.Reg r) = operand.Register r
operand_of q (attr.InSlot w) = operand.Word w
operand_of q (attr.Value o) = o
operand_of q (attr.Place o) = o
operand_of q (attr.Con n) = operand.Number n
operand_of q (attr.Ea o) = o
operand_of q (attr.Token l) = token_operand q l.tok l.att
operand_of q attr.Nothing = nought

-- what an instruction reads of it: of an Ea the address
abbrev pub source_of : TreeProgram → Attr Operand → Source
source_of q (attr.Ea o) = source.Address o
source_of q h = source.Read (operand_of q h)

abbrev pub some_operand : TreeProgram → Option (Attr Operand) → Operand
some_operand q None = nought
some_operand q (Some h) = operand_of q h

abbrev pub some_source : TreeProgram → Option (Attr Operand) → Source
some_source q None = source.Read nought
some_source q (Some h) = source_of q h

abbrev pub operand_at : TreeProgram → List (Attr Operand) → ℕ → Operand
operand_at q hs i = some_operand q (hole hs i)

abbrev pub source_at : TreeProgram → List (Attr Operand) → ℕ → Source
source_at q hs i = some_source q (hole hs i)

abbrev pub place_of : Operand → Destination
place_of (operand.Word w) = destination.Word w
place_of o = destination.Nowhere

abbrev pub destination_of : Attr Operand → Destination
destination_of (attr.Reg r) = destination.Register r
destination_of (attr.Place o) = place_of o
destination_of h = destination.Nowhere

-- the memory at a register's address
abbrev pub based : Operand → Operand
based (operand.Register r) = operand.Based r
based o = nought

-- what a token's hole names
abbrev pub branched : Option Att → Source → Source → Instr
branched (Some (att.Branch rel label)) a b = instruction.Branch rel a b label
branched o a b = instruction.Stop

abbrev pub jumped : Option Att → Instr
jumped (Some (att.Label label)) = instruction.Jump label
jumped o = instruction.Stop

abbrev pub called : Option Att → Instr
called (Some (att.Callee function count)) = instruction.Call function count
called o = instruction.Stop

abbrev pub saved : Option Att → Instr
saved (Some (att.Slot k)) = instruction.Save k
saved o = instruction.Stop

abbrev pub filled : TreeProgram → Option Form → List (Attr Operand) → Attr Operand → Instr
filled q None hs zero = instruction.Stop
filled q (Some (form.Move size i)) hs zero = instruction.Move size (source_at q hs i) (destination_of zero)
filled q (Some (form.Address i)) hs zero = instruction.Move Long (source.Address (operand_at q hs i)) (destination_of zero)
filled q (Some (form.Add i j)) hs zero = instruction.Add (source_at q hs i) (source_at q hs j) (destination_of zero)
filled q (Some (form.Divide i j)) hs zero = instruction.Divide (source_at q hs i) (source_at q hs j) (destination_of zero)
filled q (Some (form.Store size i j)) hs zero = instruction.Store size (operand_at q hs i) (source_at q hs j)
filled q (Some (form.StoreAt size i j)) hs zero = instruction.Store size (based (operand_at q hs i)) (source_at q hs j)
filled q (Some (form.Push i)) hs zero = instruction.Push (source_at q hs i)
filled q (Some (form.Branch i j k)) hs zero = branched (att_of (hole hs i)) (source_at q hs j) (source_at q hs k)
filled q (Some (form.Jump i)) hs zero = jumped (att_of (hole hs i))
filled q (Some (form.Call i)) hs zero = called (att_of (hole hs i))
filled q (Some (form.Return i)) hs zero = instruction.Return (source_at q hs i)
filled q (Some (form.Save i)) hs zero = saved (att_of (hole hs i))

abbrev pub instr : TreeProgram → Line → List (Attr Operand) → Attr Operand → Instr
instr q l hs zero = filled q (form_of l.pieces) hs zero

abbrev pub shaped : TreeProgram → ShapeForm → List (Attr Operand) → Operand
shaped q (shape_form.Alone i) hs = operand_at q hs i
shaped q (shape_form.Based i) hs = based (operand_at q hs i)

abbrev pub operand_filled : TreeProgram → Line → List (Attr Operand) → Operand
operand_filled q l hs = shaped q (shape_of l.pieces) hs
