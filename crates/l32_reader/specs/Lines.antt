-- Instructions and lines of the code at the front of some bytes, as the reader computes them.
use Rattle.std.specs.Prelude.{ℕ, List, [], ◌∷◌, ◌++◌, Option, Some, None, if◌then◌else◌, codes}
use Rattle.std.specs.Option.{option_and_then, option_map, option_map_or}
use Rattle.vax_reader.specs.Fronts.{strip, name_front}
use Rattle.vax_reader.specs.Lines.{word_at, behind_word, named_front, ended}
use Rattle.l32_core.specs.declared.operand.Operand32.{Operand32}
use Rattle.l32_core.specs.declared.op.Op32.{Op32}
use Rattle.l32_core.specs.declared.op.Part.{Part}
use Rattle.l32_core.specs.declared.op.Part.TheVariants as parts
use Rattle.l32_core.specs.declared.code.Instr32.{Instr32}
use Rattle.l32_core.specs.declared.code.Item32.{Item32}
use Rattle.l32_core.specs.declared.code.Item32.TheVariants as item_kind
use Rattle.l32_core.specs.Ops.{shape}
use Rattle.l32_core.specs.Mnemonics.{op_of}
use Rattle.l32_core.specs.Valid.{is_instr}
use Rattle.l32_reader.specs.Operands.{operand_front}

-- operands and a label, and what is left behind them
abbrev pub Found : Type 0
Found = (List Operand32 × Option (List ℕ)) × List ℕ

-- an operand or the label for each part, behind those that were read, the first behind this mark, the others behind commas
abbrev pub parts_front : List ℕ → List Part → List Operand32 → Option (List ℕ) → List ℕ → Option Found
parts_front mark [] read target bytes = Some ((read, target), bytes)
parts_front mark (parts.Label ∷ ps) read (Some label) bytes = None
parts_front mark (parts.Label ∷ ps) read None bytes =
    option_and_then (λ (x : List ℕ × List ℕ). parts_front (codes ",") ps read (Some x.0) x.1) (option_and_then name_front (strip mark bytes))
parts_front mark (parts.Operand role ∷ ps) read target bytes =
    option_and_then (λ (x : Operand32 × List ℕ). parts_front (codes ",") ps (read ++ x.0 ∷ []) target x.1)
    (option_and_then operand_front (strip mark bytes))

abbrev pub made : Op32 → Found → Instr32 × List ℕ
made op x = (record { op = op; operands = x.0.0; target = x.0.1 }, x.1)

-- an instruction whose operands are those that it takes
abbrev pub checked : Instr32 × List ℕ → Option (Instr32 × List ℕ)
checked x = if is_instr x.0 then Some x else None

-- what stands behind a mnemonic
unfoldable pub behind_mnemonic : Op32 → List ℕ → Option (Instr32 × List ℕ)
behind_mnemonic op bytes = option_and_then checked (option_map (made op) (parts_front (codes "\t") (shape op).parts [] None bytes))

-- an instruction, without the TAB before it
unfoldable pub instr_front : List ℕ → Option (Instr32 × List ℕ)
instr_front bytes = option_and_then (λ (op : Op32). behind_mnemonic op (behind_word bytes)) (op_of (word_at bytes))

abbrev pub code_item : {A : Type 0} → (A → Item32) → A × List ℕ → Item32 × List ℕ
code_item item x = (item x.0, x.1)

abbrev pub code_label : List ℕ × List ℕ → Option (Item32 × List ℕ)
code_label x = Some (code_item item_kind.Label x)

-- a line of the code
unfoldable pub item_front : List ℕ → Option (Item32 × List ℕ)
item_front bytes =
    option_map_or code_label (named_front (codes ":\n") bytes)
    (option_and_then (λ (rest : List ℕ). option_map (code_item item_kind.Instr) (ended (instr_front rest))) (strip (codes "\t") bytes))
