-- Instructions and lines at the front of some bytes, as the reader computes them.
use Rattle.std.specs.Prelude.{ℕ, Bool, true, false, not, ◌==◌, ◌||◌, List, [], ◌∷◌, ◌++◌, take, drop, Option}
use Rattle.std.specs.Prelude.{Some, None, if◌then◌else◌, codes}
use Rattle.std.specs.Option.{option_and_then, option_map, option_map_or}
use Rattle.gg_base.specs.declared.limits.TheConstants.{AREA_LIMIT}
use Rattle.gg_base.specs.Fronts.{run_len}
use Rattle.vax_core.specs.declared.operand.Operand.{Operand}
use Rattle.vax_core.specs.declared.op.Op.{Op}
use Rattle.vax_core.specs.declared.op.OperandKind.{OperandKind}
use Rattle.vax_core.specs.declared.code.Instr.{Instr}
use Rattle.vax_core.specs.declared.code.AreaItem.{AreaItem}
use Rattle.vax_core.specs.declared.code.AreaItem.TheVariants as areas
use Rattle.vax_core.specs.declared.code.CodeItem.{CodeItem}
use Rattle.vax_core.specs.declared.code.CodeItem.TheVariants as item_kind
use Rattle.vax_core.specs.Ops.{shape}
use Rattle.vax_core.specs.Mnemonics.{op_of}
use Rattle.vax_core.specs.Valid.{is_instr}
use Rattle.vax_reader.specs.Fronts.{strip, up_to, from_one, name_front, closed}
use Rattle.vax_reader.specs.Operands.{addr_front, operand_front}

-- a byte of a word: neither a TAB nor a line feed
abbrev pub in_word : ℕ → Bool
in_word c = not ((c == 9) || (c == 10))

abbrev pub word_at : List ℕ → List ℕ
word_at bytes = take (run_len in_word bytes) bytes

abbrev pub behind_word : List ℕ → List ℕ
behind_word bytes = drop (run_len in_word bytes) bytes

-- whether more operands or a label follow
abbrev pub is_last : {A : Type 0} → List A → Bool → Bool
is_last [] target = not target
is_last (x ∷ xs) target = false

-- a comma where more follow
abbrev pub comma : Bool → List ℕ → Option (List ℕ)
comma last bytes = if last then Some bytes else strip (codes ",") bytes

-- as many operands as there are kinds, behind those that were read, each with the comma behind it
abbrev pub operands_front : List Operand → List OperandKind → Bool → List ℕ → Option (List Operand × List ℕ)
operands_front read [] target bytes = Some (read, bytes)
operands_front read (kind ∷ kinds) target bytes =
    option_and_then (λ (x : Operand × List ℕ). option_and_then (λ (rest : List ℕ).
    operands_front (read ++ x.0 ∷ []) kinds target rest) (comma (is_last kinds target) x.1)) (operand_front bytes)

abbrev pub some_target : List ℕ × List ℕ → Option (List ℕ) × List ℕ
some_target x = (Some x.0, x.1)

-- the label, where there is one
abbrev pub target_front : Bool → List ℕ → Option (Option (List ℕ) × List ℕ)
target_front true bytes = option_map some_target (name_front bytes)
target_front false bytes = Some (None, bytes)

abbrev pub made : Op → List Operand → Option (List ℕ) → Instr
made op os target = record { op = op; operands = os; target = target }

-- an instruction whose operands are those that it takes
abbrev pub checked : Instr × List ℕ → Option (Instr × List ℕ)
checked x = if is_instr x.0 then Some x else None

abbrev pub with_target : Op → List Operand → Option (List ℕ) × List ℕ → Instr × List ℕ
with_target op os x = (made op os x.0, x.1)

abbrev pub behind_operands : Op → Bool → List Operand × List ℕ → Option (Instr × List ℕ)
behind_operands op target x = option_and_then checked (option_map (with_target op x.0) (target_front target x.1))

abbrev pub behind_tab : Op → List ℕ → Option (Instr × List ℕ)
behind_tab op bytes = option_and_then (behind_operands op (shape op).target) (operands_front [] (shape op).operands (shape op).target bytes)

-- what stands behind a mnemonic
unfoldable pub behind_mnemonic : Op → List ℕ → Option (Instr × List ℕ)
behind_mnemonic op bytes =
    if is_last (shape op).operands (shape op).target then Some (made op [] None, bytes)
    else option_and_then (behind_tab op) (strip (codes "\t") bytes)

-- an instruction, without the TAB before it
unfoldable pub instr_front : List ℕ → Option (Instr × List ℕ)
instr_front bytes = option_and_then (λ (op : Op). behind_mnemonic op (behind_word bytes)) (op_of (word_at bytes))

-- a name and the end of the line
unfoldable pub named_front : List ℕ → List ℕ → Option (List ℕ × List ℕ)
named_front word bytes = option_and_then (closed word) (name_front bytes)

-- a number and the end of the line
abbrev pub ended : {A : Type 0} → Option (A × List ℕ) → Option (A × List ℕ)
ended found = option_and_then (closed (codes "\n")) found

abbrev pub area_item : {A : Type 0} → (A → AreaItem) → A × List ℕ → AreaItem × List ℕ
area_item item x = (item x.0, x.1)

abbrev pub code_item : {A : Type 0} → (A → CodeItem) → A × List ℕ → CodeItem × List ℕ
code_item item x = (item x.0, x.1)

-- a line of the data area that holds a number without sign
unfoldable pub counted_front : List ℕ → Option (AreaItem × List ℕ)
counted_front bytes =
    option_map_or (λ (rest : List ℕ). option_map (area_item areas.Byte) (ended (up_to 255 rest))) (strip (codes "\t.byte\t") bytes)
    (option_map_or (λ (rest : List ℕ). option_map (area_item areas.Space) (ended (from_one AREA_LIMIT rest)))
    (strip (codes "\t.space\t") bytes)
    (option_map_or (λ (rest : List ℕ). option_map (area_item areas.Align) (ended (up_to 2 rest))) (strip (codes "\t.align\t") bytes)
    (option_and_then (λ (rest : List ℕ). option_map (area_item areas.Word) (ended (up_to 65535 rest))) (strip (codes "\t.word\t") bytes))))

abbrev pub area_label : List ℕ × List ℕ → Option (AreaItem × List ℕ)
area_label x = Some (area_item areas.Label x)

-- a line of the data area
unfoldable pub area_front : List ℕ → Option (AreaItem × List ℕ)
area_front bytes =
    option_map_or area_label (named_front (codes ":\n") bytes)
    (option_map_or (λ (rest : List ℕ). option_map (area_item areas.Long) (ended (addr_front rest))) (strip (codes "\t.long\t") bytes)
    (option_map_or (λ (rest : List ℕ). option_map (area_item areas.Globl) (named_front (codes "\n") rest))
    (strip (codes "\t.globl\t") bytes)
    (counted_front bytes)))

abbrev pub code_label : List ℕ × List ℕ → Option (CodeItem × List ℕ)
code_label x = Some (code_item item_kind.Label x)

-- a line of the code
unfoldable pub item_front : List ℕ → Option (CodeItem × List ℕ)
item_front bytes =
    option_map_or code_label (named_front (codes ":\n") bytes)
    (option_map_or (λ (rest : List ℕ). option_map (code_item item_kind.Globl) (named_front (codes "\n") rest))
    (strip (codes "\t.globl\t") bytes)
    (option_map_or (λ (rest : List ℕ). option_map (code_item item_kind.Mask) (ended (up_to 4095 rest))) (strip (codes "\t.word\t") bytes)
    (option_and_then (λ (rest : List ℕ). option_map (code_item item_kind.Instr) (ended (instr_front rest))) (strip (codes "\t") bytes))))
