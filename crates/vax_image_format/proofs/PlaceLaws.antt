-- The pieces of a code are as long as its items, and serve the least forms.
use Rattle.std.proofs.Common.{◌≡◌, ℕ, zero, suc, ◌+◌, ◌*◌, ◌≤◌, Bool, true, false, cond, ltb, List, [], ◌∷◌, ◌++◌, length, Option, Some, None, refl, sym, subst, arith, length-append}
use Rattle.std.specs.Prelude.{map, slice_get}
use Rattle.std.specs.List.{list_all}
use Rattle.std.proofs.lemmas.Bool.{and_parts}
use Rattle.std.proofs.lemmas.List.{length-map}
use Rattle.std.proofs.lemmas.Option.{none-some, same_Some}
use Rattle.gg_base.specs.declared.size.Size.{Size}
use Rattle.gg_base.specs.declared.size.Size.TheVariants.{Byte, Word, Long}
use Rattle.gg_base.specs.Sizes.{bytes_of}
use Rattle.vax_core.specs.declared.op.OperandKind.{OperandKind}
use Rattle.vax_core.specs.declared.operand.Base.{Base}
use Rattle.vax_core.specs.declared.operand.Base.TheVariants as bases
use Rattle.vax_core.specs.declared.operand.Operand.{Operand}
use Rattle.vax_core.specs.declared.code.Instr.{Instr}
use Rattle.vax_core.specs.declared.code.CodeItem.{CodeItem}
use Rattle.vax_core.specs.declared.code.CodeItem.TheVariants as item_kind
use Rattle.vax_core.specs.Ops.{shape}
use Rattle.vax_core.specs.Valid.{are_operands, is_target, is_instr, is_code_item}
use Rattle.vax_core.proofs.ShapeLaws.{few_operands}
use Rattle.vax_machine.specs.Functions.{action_of}
use Rattle.vax_machine.specs.Labels.{is_call, is_label, label_place}
use Rattle.vax_image_branches.specs.declared.piece.Branch.{Branch}
use Rattle.vax_image_branches.specs.declared.piece.Piece.{Piece}
use Rattle.vax_image_branches.specs.declared.piece.Piece.TheVariants as pieces
use Rattle.vax_image_branches.specs.Branches.{branch_length, piece_length, place}
use Rattle.vax_image_format.specs.Opcodes.{is_branch, is_conditional}
use Rattle.vax_image_format.specs.Specifiers.{field, imm_bytes, addr_field, disp_size, base_bytes, index_bytes, operand_bytes}
use Rattle.vax_image_format.specs.Instructions.{operands_bytes, before_field, plain_bytes, head_bytes, target_size, target_length, item_length}
use Rattle.vax_image_format.specs.Sections.{text_bytes}
use Rattle.vax_image_format.specs.Image.{target_item, branch_piece, piece_of, pieces_of, label_at}
use Rattle.vax_image_format.specs.Places.{SectionsEnd, PiecesServe}
use Rattle.vax_image_format.proofs.OpLaws.{has_target}
use Rattle.vax_image_format.proofs.LengthLaws.{more_text}

-- a piece is as long as its item

branch_is_long : (form : Size) (i : Instr) (c : Bool) → branch_length form c ≡ length (before_field form c i.op) + bytes_of form
branch_is_long Byte i c = refl
branch_is_long Word i false = refl
branch_is_long Word i true = refl
branch_is_long Long i false = refl
branch_is_long Long i true = refl

target_there : (form : Size) (i : Instr) (target : Option (List ℕ)) → is_target true target ≡ true → target_length form i target ≡ bytes_of (target_size form i)
target_there form i None h = absurd (cc)
target_there form i (Some label) h = refl

same_target : (form : Size) (i : Instr) (target : Option (List ℕ)) → is_branch (action_of i.op) ≡ false → target_length Byte i target ≡ target_length form i target
same_target form i None e = refl
same_target form i (Some label) e = rw e refl

instr_is_long : (items : List CodeItem) (form : Size) (i : Instr) → is_instr i ≡ true → piece_length form (piece_of items (item_kind.Instr i)) ≡ item_length form (item_kind.Instr i)
instr_is_long items form i valid = by (is_branch (action_of i.op)) refl
  where
    by : (b : Bool) → is_branch (action_of i.op) ≡ b → piece_length form (piece_of items (item_kind.Instr i)) ≡ item_length form (item_kind.Instr i)
    by true e =
        let p = and_parts (are_operands (shape i.op).operands i.operands) (is_target (shape i.op).target i.target) valid in
        let stands : (shape i.op).target ≡ true = rw (has_target i.op, e) refl in
        let has : is_target true i.target ≡ true = subst (λ (t : Bool). is_target t i.target ≡ true) stands p.1 in
        let long : target_length form i i.target ≡ bytes_of (target_size form i) = target_there form i i.target has in
        rw (long, e) (branch_is_long form i (is_conditional (action_of i.op)))
    by false e = let same = same_target form i i.target e in rw (same, e) refl

piece_is_long : (items : List CodeItem) (form : Size) (item : CodeItem) → is_code_item item ≡ true → piece_length form (piece_of items item) ≡ item_length form item
piece_is_long items form (item_kind.Label name) valid = refl
piece_is_long items form (item_kind.Globl name) valid = refl
piece_is_long items form (item_kind.Mask mask) valid = refl
piece_is_long items form (item_kind.Instr i) valid = instr_is_long items form i valid

ends_at : (labels : List ℕ → Option ℕ) (all items : List CodeItem) (forms : List Size) (at : ℕ) → list_all is_code_item items ≡ true → length forms ≡ length items
    → length (text_bytes labels at items forms) ≡ place (map (piece_of all) items) forms (length items)
ends_at labels all [] forms at valid l = refl
ends_at labels all (item ∷ items) [] at valid l = absurd (omega (arith, l))
ends_at labels all (item ∷ items) (form ∷ forms) at valid l =
    let p = and_parts (is_code_item item) (list_all is_code_item items) valid in
    omega (
      arith,
      more_text labels at item items form forms,
      piece_is_long all form item p.0,
      ends_at labels all items forms (at + item_length form item) p.1 (omega (arith, l)),
    )

pub sections_end : SectionsEnd
sections_end items forms valid l = ends_at (label_at items forms) items items forms 0 valid l

-- an operand has at most 6 bytes

field_short : (size : Size) (n : ℕ) → length (field size n) ≤ 4
field_short Byte n = omega arith
field_short Word n = omega arith
field_short Long n = omega arith

addr_short : (size : Size) (name : Option (List ℕ)) (n : ℕ) → length (addr_field size name n) ≤ 4
addr_short size None n = field_short size n
addr_short size (Some name) n = field_short size 0

imm_short : (size : Size) (name : Option (List ℕ)) (n : ℕ) → length (imm_bytes size name n) ≤ 5
imm_short size (Some name) n = omega (arith, field_short size 0)
imm_short size None n = by (ltb n 64)
  where
    by : (b : Bool) → length (cond b (n ∷ []) (0x8f ∷ field size n)) ≤ 5
    by true = omega arith
    by false = omega (arith, field_short size n)

base_short : (size : Size) (base : Base) → length (base_bytes size base) ≤ 5
base_short size (bases.Imm a) = imm_short size a.name a.offset
base_short size (bases.Reg r) = omega arith
base_short size (bases.Def r) = omega arith
base_short size (bases.Inc r) = omega arith
base_short size (bases.IncDef r) = omega arith
base_short size (bases.Dec r) = omega arith
base_short size (bases.Abs n) = omega arith
base_short size (bases.Disp a r) = omega (arith, addr_short (disp_size a.name a.offset) a.name a.offset)
base_short size (bases.DispDef a r) = omega (arith, addr_short (disp_size a.name a.offset) a.name a.offset)
base_short size (bases.Rel a) = omega (arith, addr_short Long a.name a.offset)
base_short size (bases.RelDef a) = omega (arith, addr_short Long a.name a.offset)

pub operand_short : (size : Size) (o : Operand) → length (operand_bytes size o) ≤ 6
operand_short size o = omega (arith, length-append (index_bytes o.index) (base_bytes size o.base), base_short size o.base, at_most_one o.index)
  where
    at_most_one : (index : Option _) → length (index_bytes index) ≤ 1
    at_most_one None = omega arith
    at_most_one (Some x) = omega arith

operands_short : (kinds : List OperandKind) (os : List Operand) → length (operands_bytes kinds os) ≤ 6 * length kinds
operands_short [] os = omega arith
operands_short (kind ∷ kinds) [] = omega arith
operands_short (kind ∷ kinds) (o ∷ os) =
    omega (arith, length-append (operand_bytes kind.size o) (operands_bytes kinds os), operand_short kind.size o, operands_short kinds os)

target_short : (i : Instr) (target : Option (List ℕ)) → target_length Byte i target ≤ 4
target_short i None = omega arith
target_short i (Some label) = by (target_size Byte i)
  where
    by : (s : Size) → bytes_of s ≤ 4
    by Byte = omega arith
    by Word = omega arith
    by Long = omega arith

head_short : (i : Instr) → length (head_bytes Byte i) ≤ 20
head_short i = by (is_branch (action_of i.op)) (is_call (action_of i.op))
  where
    by : (a b : Bool) → length (cond a (before_field Byte (is_conditional (action_of i.op)) i.op) (cond b (plain_bytes i ++ 0xef ∷ []) (plain_bytes i))) ≤ 20
    by true b = omega arith
    by false true = omega (arith, length-append (plain_bytes i) (0xef ∷ []), operands_short (shape i.op).operands i.operands, few_operands i.op)
    by false false = omega (arith, operands_short (shape i.op).operands i.operands, few_operands i.op)

item_short : (item : CodeItem) → item_length Byte item ≤ 64
item_short (item_kind.Label name) = omega arith
item_short (item_kind.Globl name) = omega arith
item_short (item_kind.Mask mask) = omega arith
item_short (item_kind.Instr i) = omega (arith, head_short i, target_short i i.target)

-- what a piece can be

pub label_within : (items : List CodeItem) (name : List ℕ) → label_place items name ≤ length items
label_within [] name = omega arith
label_within (item ∷ items) name = by (is_label item name) (label_within items name)
  where
    by : (b : Bool) → label_place items name ≤ length items → cond b 0 (label_place items name + 1) ≤ length (item ∷ items)
    by true h = omega arith
    by false h = omega (arith, h)

target_within : (items : List CodeItem) (target : Option (List ℕ)) → target_item items target ≤ length items
target_within items None = omega arith
target_within items (Some label) = label_within items label

record IsServed (count : ℕ) (p : Piece) : Type 0 where
  branch : (b : Branch) → p ≡ pieces.Branch b → b.target ≤ count
  fixed : (n : ℕ) → p ≡ pieces.Fixed n → n ≤ 64

same_branch : (a b : Branch) → pieces.Branch a ≡ pieces.Branch b → a ≡ b
same_branch a b e = cc

same_fixed : (m n : ℕ) → pieces.Fixed m ≡ pieces.Fixed n → m ≡ n
same_fixed m n e = cc

differ : (m : ℕ) (b : Branch) → pieces.Fixed m ≡ pieces.Branch b → ⊥
differ m b e = cc

fixed_served : (count m : ℕ) → m ≤ 64 → IsServed count (pieces.Fixed m)
fixed_served count m le = record { branch = λ b e. absurd (differ m b e); fixed = λ n e. omega (arith, le, same_fixed m n e) }

branch_served : (count : ℕ) (b : Branch) → b.target ≤ count → IsServed count (pieces.Branch b)
branch_served count b le = record {
  branch = λ d e. subst (λ (x : Branch). x.target ≤ count) (same_branch b d e) le;
  fixed = λ n e. absurd (differ n b (sym e));
}

piece_served : (items : List CodeItem) (item : CodeItem) → IsServed (length items) (piece_of items item)
piece_served items (item_kind.Label name) = fixed_served (length items) 0 (omega arith)
piece_served items (item_kind.Globl name) = fixed_served (length items) 0 (omega arith)
piece_served items (item_kind.Mask mask) = fixed_served (length items) 2 (omega arith)
piece_served items (item_kind.Instr i) = by (is_branch (action_of i.op))
  where
    by : (b : Bool) → IsServed (length items) (cond b (branch_piece items i) (pieces.Fixed (item_length Byte (item_kind.Instr i))))
    by true = branch_served (length items) (record { conditional = is_conditional (action_of i.op); target = target_item items i.target }) (target_within items i.target)
    by false = fixed_served (length items) (item_length Byte (item_kind.Instr i)) (item_short (item_kind.Instr i))

served : (all items : List CodeItem) (k : ℕ) (p : Piece) → slice_get (map (piece_of all) items) k ≡ Some p → IsServed (length all) p
served all [] k p e = absurd (none-some p e)
served all (item ∷ items) zero p e = subst (IsServed (length all)) (same_Some (piece_of all item) p e) (piece_served all item)
served all (item ∷ items) (suc k) p e = served all items k p e

pub pieces_serve : PiecesServe
pieces_serve items valid few =
    let count : length (pieces_of items) ≡ length items = length-map items (piece_of items) in
    record {
      few = omega (arith, count, few);
      branch = λ k b e. let h = served items items k (pieces.Branch b) e in omega (arith, count, h.branch b refl);
      fixed = λ k n e. let h = served items items k (pieces.Fixed n) e in h.fixed n refl;
    }
