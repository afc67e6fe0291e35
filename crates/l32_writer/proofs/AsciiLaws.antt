-- The text of a valid code is ASCII, and so it is a text. Up to its code it is the text of a VAX code without items.
use Rattle.std.proofs.Common.{◌≡◌, ℕ, zero, suc, ◌<◌, ◌-◌, ◌^◌, Bool, true, false, cond, ltb, List, [], ◌∷◌, ◌++◌, Option, Some, None, refl, sym, subst, ap, ◌∙◌, arith, lt-ltb, append_assoc}
use Rattle.std.specs.Prelude.{codes}
use Rattle.std.specs.Char.{is_ascii}
use Rattle.std.specs.List.{list_all, flat_map}
use Rattle.std.specs.Str.{IsAscii, IsUtf8}
use Rattle.std.specs.Fmt.{decimal}
use Rattle.std.proofs.lemmas.Bool.{ltb-true, and_parts}
use Rattle.std.proofs.lemmas.Bool.Decides.{nat_tests}
use Rattle.std.proofs.lemmas.List.Folds.{list_all-append}
use Rattle.std.proofs.lemmas.Str.{IsUtf8-from_ascii, IsUtf8-append}
use Rattle.gg_base.specs.Names.{is_name_part}
use Rattle.gg_base.specs.Numbers.{signed_text}
use Rattle.gg_base.proofs.Facts.{either_is}
use Rattle.gg_base.proofs.Names.{digits_are_parts}
use Rattle.vax_core.specs.declared.code.AreaItem.{AreaItem}
use Rattle.vax_core.specs.declared.code.Code.{Code}
use Rattle.vax_core.specs.Text.{offset_text, addr_text_of, area_line}
use Rattle.vax_core.specs.Text.{asm_text as vax_text}
use Rattle.vax_core.specs.Valid.{is_name_start, is_name, is_long, is_named_addr, is_area_item}
use Rattle.vax_core.specs.Valid.{is_code as is_vax_code}
use Rattle.vax_writer.proofs.AsciiLaws.{is_text as is_vax_text}
use Rattle.l32_core.specs.declared.op.Op32.{Op32}
use Rattle.l32_core.specs.declared.op.Op32.TheVariants as op_kind
use Rattle.l32_core.specs.declared.op.Role.{Role}
use Rattle.l32_core.specs.declared.op.Role.TheVariants as roles
use Rattle.l32_core.specs.declared.op.Part.{Part}
use Rattle.l32_core.specs.declared.op.Part.TheVariants as parts
use Rattle.l32_core.specs.declared.operand.Base32.{Base32}
use Rattle.l32_core.specs.declared.operand.Base32.TheVariants as bases
use Rattle.l32_core.specs.declared.operand.Operand32.{Operand32}
use Rattle.l32_core.specs.declared.operand.Operand32.TheVariants as operands
use Rattle.l32_core.specs.declared.code.Instr32.{Instr32}
use Rattle.l32_core.specs.declared.code.Item32.{Item32}
use Rattle.l32_core.specs.declared.code.Item32.TheVariants as item_kind
use Rattle.l32_core.specs.declared.code.Code32.{Code32}
use Rattle.l32_core.specs.Ops.{shape}
use Rattle.l32_core.specs.Text.{reg_text, base_text, at_text, operand_text, parts_text, instr_text, item_line, asm_text}
use Rattle.l32_core.specs.Valid.{is_reg, is_base, is_register, is_memory, is_number, suits, fits, is_instr, is_item, is_code}

abbrev plain : List ℕ → Bool
plain bs = list_all is_ascii bs

joined : (a b : List ℕ) → plain a ≡ true → plain b ≡ true → plain (a ++ b) ≡ true
joined a b h k = rw (list_all-append is_ascii a b, h, k) refl

-- names and numbers

part_plain : (c : ℕ) → is_name_part c ≡ true → is_ascii c ≡ true
part_plain c h = lt-ltb c 128 (grind (arith, nat_tests))

parts_plain : (cs : List ℕ) → list_all is_name_part cs ≡ true → plain cs ≡ true
parts_plain [] h = refl
parts_plain (c ∷ cs) h =
    let p = and_parts (is_name_part c) (list_all is_name_part cs) h in
    rw (part_plain c p.0, parts_plain cs p.1) refl

start_plain : (c : ℕ) → is_name_start c ≡ true → is_ascii c ≡ true
start_plain c h = lt-ltb c 128 (grind (arith, nat_tests))

name_plain : (n : List ℕ) → is_name n ≡ true → plain n ≡ true
name_plain [] h = refl
name_plain (c ∷ cs) h =
    let p = and_parts (is_name_start c) _ h in
    let q = and_parts _ (list_all is_name_part cs) p.1 in
    rw (start_plain c p.0, parts_plain cs q.1) refl

decimal_plain : (n : ℕ) → n < 2 ^ 64 → plain (decimal n) ≡ true
decimal_plain n lt = parts_plain (decimal n) (digits_are_parts n lt)

signed_by : (b : Bool) (n : ℕ) → ltb n (2 ^ 31) ≡ b → plain (cond b (decimal n) (codes "-" ++ decimal (2 ^ 32 - n))) ≡ true
signed_by true n e = decimal_plain n (omega (arith, ltb-true n (2 ^ 31) e))
signed_by false n e = decimal_plain (2 ^ 32 - n) (omega arith)

signed_plain : (n : ℕ) → plain (signed_text n) ≡ true
signed_plain n = signed_by (ltb n (2 ^ 31)) n refl

offset_by : (b : Bool) (n : ℕ) → ltb n (2 ^ 31) ≡ b → plain (cond b (codes "+" ++ decimal n) (codes "-" ++ decimal (2 ^ 32 - n))) ≡ true
offset_by true n e = decimal_plain n (omega (arith, ltb-true n (2 ^ 31) e))
offset_by false n e = decimal_plain (2 ^ 32 - n) (omega arith)

offset_plain : (n : ℕ) → plain (offset_text n) ≡ true
offset_plain zero = refl
offset_plain (suc n) = offset_by (ltb (suc n) (2 ^ 31)) (suc n) refl

named_plain : (name : Option (List ℕ)) (offset : ℕ) → is_named_addr name offset ≡ true → plain (addr_text_of name offset) ≡ true
named_plain None offset h = signed_plain offset
named_plain (Some name) offset h = joined name (offset_text offset) (name_plain name (and_parts (is_name name) _ h).0) (offset_plain offset)

-- operands

reg_plain : (n : ℕ) → is_reg n ≡ true → plain (reg_text n) ≡ true
reg_plain n h = decimal_plain n (omega (arith, ltb-true n 12 h))

base_plain : (b : Base32) → is_base b ≡ true → plain (base_text b) ≡ true
base_plain (bases.A n) h = reg_plain n h
base_plain bases.Fp h = refl
base_plain bases.Sp h = refl

at_plain : (n : ℕ) (b : Base32) → is_base b ≡ true → plain (at_text n b) ≡ true
at_plain n b h = joined (signed_text n) (codes "(" ++ (base_text b ++ codes ")")) (signed_plain n) (joined (base_text b) (codes ")") (base_plain b h) refl)

register_plain : (o : Operand32) → is_register o ≡ true → plain (operand_text o) ≡ true
register_plain (operands.Reg n) h = reg_plain n h
register_plain _ h = absurd (cc)

memory_plain : (o : Operand32) → is_memory o ≡ true → plain (operand_text o) ≡ true
memory_plain (operands.At n b) h = at_plain n b (and_parts (is_long n) (is_base b) h).1
memory_plain (operands.Deferred n b) h = at_plain n b (and_parts (is_long n) (is_base b) h).1
memory_plain (operands.Addr a) h = named_plain a.name a.offset h
memory_plain _ h = absurd (cc)

number_plain : (limit : ℕ) (o : Operand32) → is_number limit o ≡ true → plain (operand_text o) ≡ true
number_plain limit (operands.Num n) h = signed_plain n
number_plain limit _ h = absurd (cc)

operand_plain : (role : Role) (o : Operand32) → suits role o ≡ true → plain (operand_text o) ≡ true
operand_plain roles.Number o h = number_plain 4294967295 o h
operand_plain roles.Words o h = number_plain 1024 o h
operand_plain roles.Count o h = number_plain 255 o h
operand_plain roles.Destination o h = register_plain o h
operand_plain roles.Register o h = register_plain o h
operand_plain (roles.Source size) o h = either_is (is_register o) (is_memory o) h (register_plain o) (memory_plain o)
operand_plain (roles.Store size) o h = memory_plain o h
operand_plain roles.Address o h = memory_plain o h

-- instructions

tail_plain : (mark : List ℕ) (ps : List Part) (os : List Operand32) (target : Option (List ℕ)) → plain mark ≡ true → fits ps os target ≡ true → plain (parts_text mark ps os target) ≡ true
tail_plain mark [] os target m h = refl
tail_plain mark (parts.Label ∷ ps) os None m h = refl
tail_plain mark (parts.Label ∷ ps) os (Some name) m h =
    let p = and_parts (is_name name) (fits ps os None) h in
    joined mark (name ++ parts_text (codes ",") ps os None) m (joined name (parts_text (codes ",") ps os None) (name_plain name p.0) (tail_plain (codes ",") ps os None refl p.1))
tail_plain mark (parts.Operand role ∷ ps) [] target m h = refl
tail_plain mark (parts.Operand role ∷ ps) (o ∷ os) target m h =
    let p = and_parts (suits role o) (fits ps os target) h in
    joined mark (operand_text o ++ parts_text (codes ",") ps os target) m
    (joined (operand_text o) (parts_text (codes ",") ps os target) (operand_plain role o p.0) (tail_plain (codes ",") ps os target refl p.1))

mnemonic_plain : (op : Op32) → plain (shape op).mnemonic ≡ true
mnemonic_plain op_kind.Li = refl
mnemonic_plain op_kind.La = refl
mnemonic_plain op_kind.Lb = refl
mnemonic_plain op_kind.Lbu = refl
mnemonic_plain op_kind.Lh = refl
mnemonic_plain op_kind.Lhu = refl
mnemonic_plain op_kind.Lw = refl
mnemonic_plain op_kind.Sb = refl
mnemonic_plain op_kind.Sh = refl
mnemonic_plain op_kind.Sw = refl
mnemonic_plain op_kind.Sta = refl
mnemonic_plain op_kind.Neg = refl
mnemonic_plain op_kind.Not = refl
mnemonic_plain op_kind.Add = refl
mnemonic_plain op_kind.Sub = refl
mnemonic_plain op_kind.Mul = refl
mnemonic_plain op_kind.Div = refl
mnemonic_plain op_kind.And = refl
mnemonic_plain op_kind.Or = refl
mnemonic_plain op_kind.Xor = refl
mnemonic_plain op_kind.Sll = refl
mnemonic_plain op_kind.Sra = refl
mnemonic_plain op_kind.Beq = refl
mnemonic_plain op_kind.Bne = refl
mnemonic_plain op_kind.Blt = refl
mnemonic_plain op_kind.Ble = refl
mnemonic_plain op_kind.Bgt = refl
mnemonic_plain op_kind.Bge = refl
mnemonic_plain op_kind.Bltu = refl
mnemonic_plain op_kind.Bleu = refl
mnemonic_plain op_kind.Bgtu = refl
mnemonic_plain op_kind.Bgeu = refl
mnemonic_plain op_kind.B = refl
mnemonic_plain op_kind.Push = refl
mnemonic_plain op_kind.Enter = refl
mnemonic_plain op_kind.Call = refl
mnemonic_plain op_kind.Ret = refl

instr_plain : (i : Instr32) → is_instr i ≡ true → plain (instr_text i) ≡ true
instr_plain i h =
    joined (shape i.op).mnemonic (parts_text (codes "\t") (shape i.op).parts i.operands i.target) (mnemonic_plain i.op)
    (tail_plain (codes "\t") (shape i.op).parts i.operands i.target refl h)

-- lines of the code

item_plain : (item : Item32) → is_item item ≡ true → plain (item_line item) ≡ true
item_plain (item_kind.Label name) h = joined (name ++ codes ":") (codes "\n") (joined name (codes ":") (name_plain name h) refl) refl
item_plain (item_kind.Instr i) h = joined (instr_text i) (codes "\n") (instr_plain i h) refl

items_plain : (code : List Item32) → list_all is_item code ≡ true → plain (flat_map item_line code) ≡ true
items_plain [] h = refl
items_plain (item ∷ code) h =
    let p = and_parts (is_item item) (list_all is_item code) h in
    joined (item_line item) (flat_map item_line code) (item_plain item p.0) (items_plain code p.1)

is_ascii_text : (bs : List ℕ) → plain bs ≡ true → IsAscii bs
is_ascii_text [] h i = omega arith
is_ascii_text (c ∷ cs) h zero = ltb-true c 128 (and_parts (is_ascii c) (plain cs) h).0
is_ascii_text (c ∷ cs) h (suc i) = is_ascii_text cs (and_parts (is_ascii c) (plain cs) h).1 i

-- the data area as a VAX code without items

abbrev area_alone : List AreaItem → Code
area_alone area = record { area = area; items = [] }

area_valid : (area : List AreaItem) → list_all is_area_item area ≡ true → is_vax_code (area_alone area) ≡ true
area_valid area h = rw h refl

parted : (area : List AreaItem) (lines : List ℕ) → vax_text (area_alone area) ++ lines ≡ codes "\t.data\n" ++ (flat_map area_line area ++ (codes "\t.text\n" ++ lines))
parted area lines = ap (λ (x : List ℕ). codes "\t.data\n" ++ x) (append_assoc (flat_map area_line area) (codes "\t.text\n") lines)

pub is_text : (bs : List ℕ) (c : Code32) → is_code c ≡ true → bs ≡ asm_text c → IsUtf8 bs
is_text bs c h e =
    let p = and_parts (list_all is_area_item c.area) (list_all is_item c.items) h in
    let lines = flat_map item_line c.items in
    let front = is_vax_text (vax_text (area_alone c.area)) (area_alone c.area) (area_valid c.area p.0) refl in
    let behind = IsUtf8-from_ascii lines (is_ascii_text lines (items_plain c.items p.1)) in
    subst IsUtf8 (parted c.area lines ∙ sym e) (IsUtf8-append (vax_text (area_alone c.area)) lines front behind)
