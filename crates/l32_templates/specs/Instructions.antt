-- What a line of a template is: an instruction with its operands, or one that spells the hole of a relation or a call.
use Rattle.std.specs.Prelude.{ℕ, Bool, true, false, List, [], ◌∷◌, ◌++◌, Option, Some, None, if◌then◌else◌, codes}
use Rattle.std.specs.Option.{option_and_then, option_map, option_map_or}
use Rattle.vax_templates.specs.md_reader_text.specs.Words.{same}
use Rattle.vax_templates.specs.sel_target.specs.md_reader_pieces.specs.declared.piece.Piece.{Piece}
use Rattle.l32_core.specs.declared.op.Op32.{Op32}
use Rattle.l32_core.specs.declared.op.Op32.TheVariants as ops
use Rattle.l32_core.specs.declared.op.Part.{Part}
use Rattle.l32_core.specs.declared.op.Part.TheVariants.{Operand, Label}
use Rattle.l32_core.specs.Ops.{shape}
use Rattle.l32_core.specs.Mnemonics.{op_of}
use Rattle.vax_templates.specs.declared.form.Mark.{Mark}
use Rattle.vax_templates.specs.declared.form.Mark.TheVariants as mark
use Rattle.vax_templates.specs.Marks.{marks_of, strip, hole_front}
use Rattle.vax_templates.specs.Instructions.{behind_blank, is_empty, word_of, marks_behind}
use Rattle.l32_templates.specs.declared.form.Form.{Form}
use Rattle.l32_templates.specs.Forms.{form_front}

-- `j%i x,y,%L`, `call %F,%N`, or an instruction with its operands
pub data Instruction : Type 0 where
  Relation : (i : ℕ) (forms : List Form) → Instruction
  Calls : Instruction
  Operates : (op : Op32) (forms : List Form) → Instruction

-- what is left behind `%L`
abbrev pub label_front : List Mark → Option (List Mark)
label_front (mark.Label ∷ ms) = Some ms
label_front ms = None

-- what stands behind a mnemonic, part for part: the first behind a blank, the others behind commas; a label is `%L`
abbrev pub forms_from : ℕ → List Form → List Part → List Mark → Option (List Form)
forms_from before read [] [] = Some read
forms_from before read [] (m ∷ ms) = None
forms_from before read (Operand role ∷ ps) ms =
    option_and_then (λ (x : Form × List Mark). forms_from 44 (read ++ x.0 ∷ []) ps x.1) (option_and_then form_front (strip before ms))
forms_from before read (Label ∷ ps) ms =
    option_and_then (λ (rest : List Mark). forms_from 44 read ps rest) (option_and_then label_front (strip before ms))

abbrev pub is_count : List Mark → Bool
is_count (mark.Count ∷ []) = true
is_count ms = false

abbrev pub is_some_count : Option (List Mark) → Bool
is_some_count None = false
is_some_count (Some ms) = is_count ms

-- `%F,%N`
abbrev pub is_call : List Mark → Bool
is_call (mark.Callee ∷ ms) = is_some_count (strip 44 ms)
is_call ms = false

abbrev pub operates : Op32 → List Mark → Option Instruction
operates op ms = option_map (Operates op) (forms_from 32 [] (shape op).parts ms)

abbrev pub is_call_op : Op32 → Bool
is_call_op ops.Call = true
is_call_op op = false

-- what stands behind `call`
abbrev pub calls : List Mark → Option Instruction
calls ms = if behind_blank is_call (strip 32 ms) then Some Calls else None

-- what stands behind a mnemonic
abbrev pub with_op : List Mark → Op32 → Option Instruction
with_op ms op = if is_call_op op then calls ms else operates op ms

-- `%i x,y,%L` behind `j`: all branches have the same parts
abbrev pub relation_behind : ℕ × List Mark → Option Instruction
relation_behind x = option_map (Relation x.0) (forms_from 32 [] (shape ops.Beq).parts x.1)

abbrev pub relation : List ℕ → List Mark → Option Instruction
relation word ms = if same word (codes "j") then option_and_then relation_behind (hole_front ms) else None

abbrev pub read_behind : List ℕ → List Mark → Option Instruction
read_behind word ms = option_map_or (with_op ms) (op_of word) (relation word ms)

-- the instruction of a line
abbrev pub instruction_of : List Piece → Option Instruction
instruction_of ps = read_behind (word_of ps) (marks_behind ps)

abbrev pub whole : Form × List Mark → Option Form
whole x = if is_empty x.1 then Some x.0 else None

-- the operand that is given
abbrev pub shape_of_pieces : List Piece → Option Form
shape_of_pieces ps = option_and_then whole (form_front (marks_of ps))
