-- What a line of a template is: an instruction with its operands, or one that spells the hole of a label or a call.
use Rattle.std.specs.Prelude.{ℕ, ◌==◌, Bool, true, false, List, [], ◌∷◌, ◌++◌, map, take, drop, Option, Some}
use Rattle.std.specs.Prelude.{None, if◌then◌else◌, codes}
use Rattle.std.specs.List.{position_or_len}
use Rattle.std.specs.Option.{option_and_then, option_map, option_map_or}
use Rattle.md_reader_text.specs.Words.{same}
use Rattle.sel_target.specs.md_reader_pieces.specs.declared.piece.Piece.{Piece}
use Rattle.sel_target.specs.md_reader_pieces.specs.declared.piece.Piece.TheVariants as piece
use Rattle.vax_core.specs.declared.op.Op.{Op}
use Rattle.vax_core.specs.declared.op.OperandKind.{OperandKind}
use Rattle.vax_core.specs.Ops.{shape}
use Rattle.vax_core.specs.Mnemonics.{op_of}
use Rattle.vax_machine.specs.declared.function.Action.{Action}
use Rattle.vax_machine.specs.declared.function.Action.TheVariants.{Compute, Push, Branch, Call, Return}
use Rattle.vax_machine.specs.declared.function.Test.{Test}
use Rattle.vax_machine.specs.declared.function.Test.TheVariants as test
use Rattle.vax_machine.specs.Functions.{action_of}
use Rattle.vax_templates.specs.declared.form.Mark.{Mark}
use Rattle.vax_templates.specs.declared.form.Mark.TheVariants as mark
use Rattle.vax_templates.specs.declared.form.Form.{Form}
use Rattle.vax_templates.specs.Marks.{marks_of, strip, hole_front}
use Rattle.vax_templates.specs.Forms.{form_front}

-- `j%i %L`, `jbr %L`, `calls %N,%F`, `ret`, or an instruction with its operands
pub data Instruction : Type 0 where
  Relation : (i : ℕ) → Instruction
  Jump : Instruction
  Calls : Instruction
  Ret : Instruction
  Operates : (op : Op) (forms : List Form) → Instruction

-- as many operands as there are kinds, each behind its mark: the first behind a blank, the others behind commas
abbrev pub forms_from : ℕ → List Form → List OperandKind → List Mark → Option (List Form)
forms_from before read [] [] = Some read
forms_from before read [] (m ∷ ms) = None
forms_from before read (k ∷ ks) ms =
    option_and_then (λ (x : Form × List Mark). forms_from 44 (read ++ x.0 ∷ []) ks x.1) (option_and_then form_front (strip before ms))

abbrev pub is_label : List Mark → Bool
is_label (mark.Label ∷ []) = true
is_label ms = false

abbrev pub is_callee : List Mark → Bool
is_callee (mark.Callee ∷ []) = true
is_callee ms = false

abbrev pub is_some_callee : Option (List Mark) → Bool
is_some_callee None = false
is_some_callee (Some ms) = is_callee ms

abbrev pub is_call : List Mark → Bool
is_call (mark.Count ∷ ms) = is_some_callee (strip 44 ms)
is_call ms = false

-- what passes a test behind a blank
abbrev pub behind_blank : (List Mark → Bool) → Option (List Mark) → Bool
behind_blank passes None = false
behind_blank passes (Some ms) = passes ms

abbrev pub only : Bool → Instruction → Option Instruction
only b i = if b then Some i else None

abbrev pub is_empty : List Mark → Bool
is_empty [] = true
is_empty (m ∷ ms) = false

abbrev pub jumps : Test → List Mark → Option Instruction
jumps test.Always ms = only (behind_blank is_label (strip 32 ms)) Jump
jumps t ms = None

abbrev pub operates : Op → List Mark → Option Instruction
operates op ms = option_map (Operates op) (forms_from 32 [] (shape op).operands ms)

-- what stands behind a mnemonic, by what the mnemonic does
abbrev pub behind : Action → Op → List Mark → Option Instruction
behind (Compute f) op ms = operates op ms
behind Push op ms = operates op ms
behind (Branch t) op ms = jumps t ms
behind Call op ms = only (behind_blank is_call (strip 32 ms)) Calls
behind Return op ms = only (is_empty ms) Ret

abbrev pub relation_behind : ℕ × List Mark → Option Instruction
relation_behind x = only (behind_blank is_label (strip 32 x.1)) (Relation x.0)

-- `%i %L` behind `j`
abbrev pub relation : List ℕ → List Mark → Option Instruction
relation word ms = if same word (codes "j") then option_and_then relation_behind (hole_front ms) else None

abbrev pub with_op : List Mark → Op → Option Instruction
with_op ms op = behind (action_of op) op ms

-- the mnemonic ends before a blank or a hole
abbrev pub word_len : List ℕ → ℕ
word_len bytes = position_or_len (λ b. b == 32) bytes

abbrev pub word_of : List Piece → List ℕ
word_of (piece.Bytes w ∷ ps) = take (word_len w) w
word_of ps = []

abbrev pub marks_behind : List Piece → List Mark
marks_behind (piece.Bytes w ∷ ps) = map mark.Byte (drop (word_len w) w) ++ marks_of ps
marks_behind ps = marks_of ps

abbrev pub read_behind : List ℕ → List Mark → Option Instruction
read_behind word ms = option_map_or (with_op ms) (op_of word) (relation word ms)

-- the instruction of a line
abbrev pub instruction_of : List Piece → Option Instruction
instruction_of ps = read_behind (word_of ps) (marks_behind ps)

abbrev pub whole : Form × List Mark → Option Form
whole x = if is_empty x.1 then Some x.0 else None

-- the operand that is given
abbrev pub shape_of_pieces : List Piece → Option Form
shape_of_pieces ps = option_and_then whole (form_front (marks_of ps))
