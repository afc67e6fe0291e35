-- The text of a valid code is ASCII, and so it is a text.
use Rattle.std.proofs.Common.{◌≡◌, ℕ, zero, suc, ◌+◌, ◌<◌, ◌/◌, ◌%◌, ◌-◌, ◌^◌, Bool, true, false, cond, eqb, ltb, List, [], ◌∷◌, ◌++◌, Option, Some, None, refl, arith, lt-ltb}
use Rattle.std.specs.Prelude.{codes}
use Rattle.std.specs.Char.{is_ascii}
use Rattle.std.specs.List.{list_all, flat_map}
use Rattle.std.specs.Str.{IsAscii, IsUtf8}
use Rattle.std.specs.Fmt.{decimal, digits, digits_onto}
use Rattle.std.proofs.lemmas.Bool.{ltb-true, and_parts}
use Rattle.std.proofs.lemmas.Bool.Decides.{nat_tests}
use Rattle.std.proofs.lemmas.List.Folds.{list_all-append}
use Rattle.std.proofs.lemmas.Str.{IsUtf8-from_ascii}
use Rattle.gg_base.specs.Names.{is_name_part}
use Rattle.gg_base.specs.Numbers.{signed_text}
use Rattle.vax_core.specs.declared.register.Reg.{Reg}
use Rattle.vax_core.specs.declared.register.Reg.TheVariants.{R0, R1, R2, R3, R4, R5, R6, R7, R8, R9, R10, R11, Ap, Fp, Sp}
use Rattle.vax_core.specs.declared.operand.Base.{Base}
use Rattle.vax_core.specs.declared.operand.Base.TheVariants as bases
use Rattle.vax_core.specs.declared.operand.Operand.{Operand}
use Rattle.vax_core.specs.declared.op.Op.{Op}
use Rattle.vax_core.specs.declared.op.Op.TheVariants as ops
use Rattle.vax_core.specs.declared.op.OperandKind.{OperandKind}
use Rattle.vax_core.specs.declared.code.Instr.{Instr}
use Rattle.vax_core.specs.declared.code.AreaItem.{AreaItem}
use Rattle.vax_core.specs.declared.code.AreaItem.TheVariants as areas
use Rattle.vax_core.specs.declared.code.CodeItem.{CodeItem}
use Rattle.vax_core.specs.declared.code.CodeItem.TheVariants as item_kind
use Rattle.vax_core.specs.declared.code.Code.{Code}
use Rattle.vax_core.specs.Registers.{reg_text}
use Rattle.vax_core.specs.Ops.{shape}
use Rattle.vax_core.specs.Text.{offset_text, addr_text_of, addr_text, at_text, base_text, index_text, operand_text, operands_text, tail_text, instr_text, area_line, item_line, asm_text}
use Rattle.vax_core.specs.Valid.{is_name_start, is_name, is_named_addr, is_addr_of, is_base, is_operand, are_operands, is_target, is_instr, is_area_item}
use Rattle.vax_core.specs.Valid.{is_code_item, is_code, allows, is_index}

abbrev plain : List ℕ → Bool
plain bs = list_all is_ascii bs

joined : (a b : List ℕ) → plain a ≡ true → plain b ≡ true → plain (a ++ b) ≡ true
joined a b h k = rw (list_all-append is_ascii a b, h, k) refl

-- numbers

digit_plain : (n : ℕ) (acc : List ℕ) → plain acc ≡ true → plain (cond (ltb (n % 10) 10) (48 + n % 10) (cond false (55 + n % 10) (87 + n % 10)) ∷ acc) ≡ true
digit_plain n acc h =
    let small : n % 10 < 10 = omega arith in
    let one : ltb (48 + n % 10) 128 ≡ true = lt-ltb (48 + n % 10) 128 (omega arith) in
    rw (lt-ltb (n % 10) 10 small, one, h) refl

-- the last digit of a number, in front of the others
abbrev with_digit : ℕ → List ℕ → List ℕ
with_digit n acc = cond (ltb (n % 10) 10) (48 + n % 10) (cond false (55 + n % 10) (87 + n % 10)) ∷ acc

by_end : (b : Bool) (xs ys : List ℕ) → plain xs ≡ true → plain ys ≡ true → plain (cond b xs ys) ≡ true
by_end true xs ys h k = h
by_end false xs ys h k = k

onto_plain : (k n : ℕ) (acc : List ℕ) → plain acc ≡ true → plain (digits_onto k 10 false n acc) ≡ true
onto_plain zero n acc h = h
onto_plain (suc k) n acc h =
    let d = digit_plain n acc h in
    by_end (eqb (n / 10) 0) (with_digit n acc) (digits_onto k 10 false (n / 10) (with_digit n acc)) d (onto_plain k (n / 10) (with_digit n acc) d)

decimal_plain : (n : ℕ) → plain (decimal n) ≡ true
unfolding digits
decimal_plain n = onto_plain 64 n [] refl

signed_by : (b : Bool) (n m : ℕ) → plain (cond b (decimal n) (codes "-" ++ decimal m)) ≡ true
signed_by true n m = decimal_plain n
signed_by false n m = decimal_plain m

signed_plain : (n : ℕ) → plain (signed_text n) ≡ true
signed_plain n = signed_by (ltb n (2 ^ 31)) n (2 ^ 32 - n)

offset_by : (b : Bool) (n m : ℕ) → plain (cond b (codes "+" ++ decimal n) (codes "-" ++ decimal m)) ≡ true
offset_by true n m = decimal_plain n
offset_by false n m = decimal_plain m

offset_plain : (n : ℕ) → plain (offset_text n) ≡ true
offset_plain zero = refl
offset_plain (suc n) = offset_by (ltb (suc n) (2 ^ 31)) (suc n) (2 ^ 32 - suc n)

-- names

part_plain : (c : ℕ) → is_name_part c ≡ true → is_ascii c ≡ true
part_plain c h = lt-ltb c 128 (grind (arith, nat_tests))

parts_plain : (cs : List ℕ) → list_all is_name_part cs ≡ true → plain cs ≡ true
parts_plain [] h = refl
parts_plain (c ∷ cs) h =
    let p = and_parts (is_name_part c) (list_all is_name_part cs) h in
    rw (part_plain c p.0, parts_plain cs p.1) refl

start_plain : (c : ℕ) → is_name_start c ≡ true → is_ascii c ≡ true
start_plain c h = lt-ltb c 128 (grind (arith, nat_tests))

name_plain : (n : List ℕ) → is_name n ≡ true → plain n ≡ true
name_plain [] h = refl
name_plain (c ∷ cs) h =
    let p = and_parts (is_name_start c) _ h in
    let q = and_parts _ (list_all is_name_part cs) p.1 in
    rw (start_plain c p.0, parts_plain cs q.1) refl

-- operands

reg_plain : (r : Reg) → plain (reg_text r) ≡ true
reg_plain R0 = refl
reg_plain R1 = refl
reg_plain R2 = refl
reg_plain R3 = refl
reg_plain R4 = refl
reg_plain R5 = refl
reg_plain R6 = refl
reg_plain R7 = refl
reg_plain R8 = refl
reg_plain R9 = refl
reg_plain R10 = refl
reg_plain R11 = refl
reg_plain Ap = refl
reg_plain Fp = refl
reg_plain Sp = refl

at_plain : (r : Reg) → plain (at_text r) ≡ true
at_plain r = joined (reg_text r) (codes ")") (reg_plain r) refl

addr_of_plain : (name : Option (List ℕ)) (offset : ℕ) → is_addr_of name offset ≡ true → plain (addr_text_of name offset) ≡ true
addr_of_plain None offset h = signed_plain offset
addr_of_plain (Some name) offset h = joined name (offset_text offset) (name_plain name (and_parts (is_name name) _ h).0) (offset_plain offset)

named_plain : (name : Option (List ℕ)) (offset : ℕ) → is_named_addr name offset ≡ true → plain (addr_text_of name offset) ≡ true
named_plain None offset h = signed_plain offset
named_plain (Some name) offset h = addr_of_plain (Some name) offset h

base_plain : (b : Base) → is_base b ≡ true → plain (base_text b) ≡ true
base_plain (bases.Imm a) h = addr_of_plain a.name a.offset h
base_plain (bases.Reg r) h = reg_plain r
base_plain (bases.Def r) h = at_plain r
base_plain (bases.Inc r) h = joined (at_text r) (codes "+") (at_plain r) refl
base_plain (bases.IncDef r) h = joined (at_text r) (codes "+") (at_plain r) refl
base_plain (bases.Dec r) h = at_plain r
base_plain (bases.Disp a r) h = joined (addr_text a) (at_text r) (addr_of_plain a.name a.offset h) (at_plain r)
base_plain (bases.DispDef a r) h = joined (addr_text a) (at_text r) (addr_of_plain a.name a.offset h) (at_plain r)
base_plain (bases.Abs n) h = signed_plain n
base_plain (bases.Rel a) h = named_plain a.name a.offset h
base_plain (bases.RelDef a) h = named_plain a.name a.offset h

index_plain : (x : Option Reg) → plain (index_text x) ≡ true
index_plain None = refl
index_plain (Some r) = joined (reg_text r) (codes "]") (reg_plain r) refl

operand_plain : (kind : OperandKind) (o : Operand) → is_operand kind o ≡ true → plain (operand_text o) ≡ true
operand_plain kind o h =
    let p = and_parts (allows kind.access o.base) _ h in
    let q = and_parts (is_base o.base) (is_index o.base o.index) p.1 in
    joined (base_text o.base) (index_text o.index) (base_plain o.base q.0) (index_plain o.index)

target_plain : (b : Bool) (name : List ℕ) → is_target b (Some name) ≡ true → plain name ≡ true
target_plain true name h = name_plain name h
target_plain false name h = absurd (cc)

operands_plain : (kinds : List OperandKind) (os : List Operand) (b : Bool) (target : Option (List ℕ)) → are_operands kinds os ≡ true → is_target b target ≡ true
    → plain (operands_text os target) ≡ true
operands_plain kinds [] b None h t = refl
operands_plain kinds [] b (Some name) h t = target_plain b name t
operands_plain [] (o ∷ os) b target h t = absurd (cc)
operands_plain (kind ∷ kinds) (o ∷ []) b None h t = operand_plain kind o (and_parts (is_operand kind o) (are_operands kinds []) h).0
operands_plain (kind ∷ kinds) (o ∷ []) b (Some name) h t =
    joined (operand_text o) (codes "," ++ name) (operand_plain kind o (and_parts (is_operand kind o) (are_operands kinds []) h).0) (target_plain b name t)
operands_plain (kind ∷ kinds) (o ∷ (p ∷ os)) b target h t =
    let q = and_parts (is_operand kind o) (are_operands kinds (p ∷ os)) h in
    joined (operand_text o) (codes "," ++ operands_text (p ∷ os) target) (operand_plain kind o q.0) (operands_plain kinds (p ∷ os) b target q.1 t)

tail_plain : (os : List Operand) (target : Option (List ℕ)) → plain (operands_text os target) ≡ true → plain (tail_text os target) ≡ true
tail_plain [] None h = refl
tail_plain [] (Some name) h = h
tail_plain (o ∷ os) None h = h
tail_plain (o ∷ os) (Some name) h = h

mnemonic_plain : (op : Op) → plain (shape op).mnemonic ≡ true
mnemonic_plain ops.Movb = refl
mnemonic_plain ops.Movw = refl
mnemonic_plain ops.Movl = refl
mnemonic_plain ops.Clrb = refl
mnemonic_plain ops.Clrw = refl
mnemonic_plain ops.Clrl = refl
mnemonic_plain ops.Mnegl = refl
mnemonic_plain ops.Mcoml = refl
mnemonic_plain ops.Pushl = refl
mnemonic_plain ops.Cvtbl = refl
mnemonic_plain ops.Cvtwl = refl
mnemonic_plain ops.Cvtlb = refl
mnemonic_plain ops.Cvtlw = refl
mnemonic_plain ops.Movzbl = refl
mnemonic_plain ops.Movzwl = refl
mnemonic_plain ops.Movab = refl
mnemonic_plain ops.Movaw = refl
mnemonic_plain ops.Moval = refl
mnemonic_plain ops.Addl2 = refl
mnemonic_plain ops.Addl3 = refl
mnemonic_plain ops.Subl2 = refl
mnemonic_plain ops.Subl3 = refl
mnemonic_plain ops.Mull2 = refl
mnemonic_plain ops.Mull3 = refl
mnemonic_plain ops.Divl2 = refl
mnemonic_plain ops.Divl3 = refl
mnemonic_plain ops.Incl = refl
mnemonic_plain ops.Decl = refl
mnemonic_plain ops.Bisl2 = refl
mnemonic_plain ops.Bisl3 = refl
mnemonic_plain ops.Bicl2 = refl
mnemonic_plain ops.Bicl3 = refl
mnemonic_plain ops.Xorl2 = refl
mnemonic_plain ops.Xorl3 = refl
mnemonic_plain ops.Bitl = refl
mnemonic_plain ops.Ashl = refl
mnemonic_plain ops.Cmpb = refl
mnemonic_plain ops.Cmpw = refl
mnemonic_plain ops.Cmpl = refl
mnemonic_plain ops.Tstb = refl
mnemonic_plain ops.Tstw = refl
mnemonic_plain ops.Tstl = refl
mnemonic_plain ops.Jbr = refl
mnemonic_plain ops.Jeql = refl
mnemonic_plain ops.Jneq = refl
mnemonic_plain ops.Jlss = refl
mnemonic_plain ops.Jleq = refl
mnemonic_plain ops.Jgtr = refl
mnemonic_plain ops.Jgeq = refl
mnemonic_plain ops.Jlssu = refl
mnemonic_plain ops.Jlequ = refl
mnemonic_plain ops.Jgtru = refl
mnemonic_plain ops.Jgequ = refl
mnemonic_plain ops.Calls = refl
mnemonic_plain ops.Ret = refl

instr_plain : (i : Instr) → is_instr i ≡ true → plain (instr_text i) ≡ true
instr_plain i h =
    let row = shape i.op in
    let p = and_parts (are_operands row.operands i.operands) (is_target row.target i.target) h in
    joined row.mnemonic (tail_text i.operands i.target) (mnemonic_plain i.op) (tail_plain i.operands i.target (operands_plain row.operands i.operands row.target i.target p.0 p.1))

-- lines

area_plain : (item : AreaItem) → is_area_item item ≡ true → plain (area_line item) ≡ true
area_plain (areas.Label name) h = joined (name ++ codes ":") (codes "\n") (joined name (codes ":") (name_plain name h) refl) refl
area_plain (areas.Globl name) h = joined name (codes "\n") (name_plain name h) refl
area_plain (areas.Align k) h = joined (decimal k) (codes "\n") (decimal_plain k) refl
area_plain (areas.Byte n) h = joined (decimal n) (codes "\n") (decimal_plain n) refl
area_plain (areas.Word n) h = joined (decimal n) (codes "\n") (decimal_plain n) refl
area_plain (areas.Long a) h = joined (addr_text a) (codes "\n") (addr_of_plain a.name a.offset h) refl
area_plain (areas.Space n) h = joined (decimal n) (codes "\n") (decimal_plain n) refl

item_plain : (item : CodeItem) → is_code_item item ≡ true → plain (item_line item) ≡ true
item_plain (item_kind.Label name) h = joined (name ++ codes ":") (codes "\n") (joined name (codes ":") (name_plain name h) refl) refl
item_plain (item_kind.Globl name) h = joined name (codes "\n") (name_plain name h) refl
item_plain (item_kind.Mask mask) h = joined (decimal mask) (codes "\n") (decimal_plain mask) refl
item_plain (item_kind.Instr i) h = joined (instr_text i) (codes "\n") (instr_plain i h) refl

areas_plain : (area : List AreaItem) → list_all is_area_item area ≡ true → plain (flat_map area_line area) ≡ true
areas_plain [] h = refl
areas_plain (item ∷ area) h =
    let p = and_parts (is_area_item item) (list_all is_area_item area) h in
    joined (area_line item) (flat_map area_line area) (area_plain item p.0) (areas_plain area p.1)

items_plain : (code : List CodeItem) → list_all is_code_item code ≡ true → plain (flat_map item_line code) ≡ true
items_plain [] h = refl
items_plain (item ∷ code) h =
    let p = and_parts (is_code_item item) (list_all is_code_item code) h in
    joined (item_line item) (flat_map item_line code) (item_plain item p.0) (items_plain code p.1)

text_plain : (c : Code) → is_code c ≡ true → plain (asm_text c) ≡ true
text_plain c h =
    let p = and_parts (list_all is_area_item c.area) (list_all is_code_item c.items) h in
    joined (flat_map area_line c.area) (codes "\t.text\n" ++ flat_map item_line c.items) (areas_plain c.area p.0) (items_plain c.items p.1)

is_ascii_text : (bs : List ℕ) → plain bs ≡ true → IsAscii bs
is_ascii_text [] h i = omega arith
is_ascii_text (c ∷ cs) h zero = ltb-true c 128 (and_parts (is_ascii c) (plain cs) h).0
is_ascii_text (c ∷ cs) h (suc i) = is_ascii_text cs (and_parts (is_ascii c) (plain cs) h).1 i

pub is_text : (bs : List ℕ) (c : Code) → is_code c ≡ true → bs ≡ asm_text c → IsUtf8 bs
is_text bs c h e = rw e (IsUtf8-from_ascii (asm_text c) (is_ascii_text (asm_text c) (text_plain c h)))
