-- A line at the front is its one spelling, and each spelling is found.
use Rattle.std.proofs.Common.{◌≡◌, ℕ, ◌^◌, ◌<◌, ◌≤◌, true, leb, List, ◌∷◌, ◌++◌, Option, Some, None, refl, sym, ap, subst, ◌∙◌, arith, append_assoc}
use Rattle.std.specs.Prelude.{codes}
use Rattle.gg_base.specs.declared.limits.TheConstants.{AREA_LIMIT}
use Rattle.std.specs.Option.{option_map}
use Rattle.std.specs.Fmt.{decimal}
use Rattle.std.proofs.lemmas.Bool.{leb-true, ltb-true, le-leb, lt-ltb, and_parts}
use Rattle.std.proofs.lemmas.Option.{same_Some, option_and_then_some}
use Rattle.vax_core.specs.declared.code.AreaItem.{AreaItem}
use Rattle.vax_core.specs.declared.code.AreaItem.TheVariants as areas
use Rattle.vax_core.specs.declared.code.CodeItem.{CodeItem}
use Rattle.vax_core.specs.declared.code.CodeItem.TheVariants as item_kind
use Rattle.vax_core.specs.declared.operand.Addr.{Addr}
use Rattle.vax_core.specs.declared.code.Instr.{Instr}
use Rattle.vax_core.specs.Ops.{shape}
use Rattle.vax_core.specs.Text.{addr_text, tail_text, instr_text, area_line, item_line}
use Rattle.vax_core.specs.Valid.{is_name, is_area_item, is_code_item}
use Rattle.vax_reader.specs.Fronts.{strip, up_to, from_one, name_front, closed}
use Rattle.vax_reader.specs.Operands.{addr_front}
use Rattle.vax_reader.specs.Lines.{named_front, ended, area_item, code_item, counted_front, area_label, area_front, code_label, item_front, instr_front}
use Rattle.vax_reader.proofs.Choices.{map_or_some, map_some}
use Rattle.vax_reader.proofs.FrontLaws.{strip_takes, up_to_takes, up_to_again, from_one_takes, from_one_again}
use Rattle.vax_reader.proofs.NameLaws.{name_takes, name_again, closed_takes}
use Rattle.vax_reader.proofs.OperandLaws.{AddrAt, addr_takes, addr_again, EndsAddr, line_ends}
use Rattle.vax_reader.proofs.OpLaws.{no_directive}
use Rattle.vax_reader.proofs.InstrLaws.{instr_takes, instr_again, EndsLine}

-- the end of a line

abbrev pub NamedAt : List ℕ → List ℕ → List ℕ × List ℕ → Type 0
NamedAt word bytes x = (is_name x.0 ≡ true) × (bytes ≡ x.0 ++ (word ++ x.1))

pub named_takes : (word bytes : List ℕ) (x : List ℕ × List ℕ) → named_front word bytes ≡ Some x → NamedAt word bytes x
unfolding named_front
named_takes word bytes x e =
    option_and_then_some (closed word) (name_front bytes) x e (λ y ey more.
    let n = name_takes bytes y ey in
    let c = closed_takes word y x more in
    (subst (λ (t : List ℕ). is_name t ≡ true) c.0 n.0, n.1 ∙ ap (λ (t : List ℕ). y.0 ++ t) c.1 ∙ ap (λ (t : List ℕ). t ++ (word ++ x.1)) c.0))

pub label_again : (name rest : List ℕ) → is_name name ≡ true → named_front (codes ":\n") (name ++ (58 ∷ (10 ∷ rest))) ≡ Some (name, rest)
unfolding named_front
label_again name rest h = rw (name_again name (58 ∷ (10 ∷ rest)) h refl) refl

globl_again : (name rest : List ℕ) → is_name name ≡ true → named_front (codes "\n") (name ++ (10 ∷ rest)) ≡ Some (name, rest)
unfolding named_front
globl_again name rest h = rw (name_again name (10 ∷ rest) h refl) refl

no_label : (rest : List ℕ) → named_front (codes ":\n") (9 ∷ rest) ≡ None
unfolding named_front
no_label rest = refl

label_line : (name rest : List ℕ) → (name ++ codes ":" ++ codes "\n") ++ rest ≡ name ++ (58 ∷ (10 ∷ rest))
label_line name rest = append_assoc (name ++ codes ":") (codes "\n") rest ∙ append_assoc name (codes ":") (10 ∷ rest)

-- what stands before the end of a line
pub record EndedAt {A : Type 0} (found : Option (A × List ℕ)) (x : A × List ℕ) : Type 0 where
  at : A × List ℕ
  is : found ≡ Some at
  same : at.0 ≡ x.0
  line : at.1 ≡ codes "\n" ++ x.1

pub ended_takes : {A : Type 0} (found : Option (A × List ℕ)) (x : A × List ℕ) → ended found ≡ Some x → EndedAt found x
ended_takes found x e =
    option_and_then_some (closed (codes "\n")) found x e (λ y ey more.
    let c = closed_takes (codes "\n") y x more in
    record { at = y; is = ey; same = c.0; line = c.1 })

-- the data area

pub record AreaAt (bytes : List ℕ) (x : AreaItem × List ℕ) : Type 0 where
  pub valid : is_area_item x.0 ≡ true
  pub spelled : bytes ≡ area_line x.0 ++ x.1

-- a directive with a number behind it
counted_text : (word bytes rest : List ℕ) (n : ℕ) (text after : List ℕ) → strip word bytes ≡ Some rest → rest ≡ decimal n ++ text → text ≡ codes "\n" ++ after → bytes
    ≡ (word ++ decimal n ++ codes "\n") ++ after
counted_text word bytes rest n text after e f g =
    strip_takes word bytes rest e
    ∙ ap (λ (t : List ℕ). word ++ t) (f ∙ ap (λ (t : List ℕ). decimal n ++ t) g)
    ∙ sym (append_assoc word (decimal n) (codes "\n" ++ after))
    ∙ sym (append_assoc (word ++ decimal n) (codes "\n") after)

-- a number of at most a limit, as an item
number_takes : (word bytes rest : List ℕ) (limit : ℕ) (y : ℕ × List ℕ) → strip word bytes ≡ Some rest → ended (up_to limit rest) ≡ Some y → (y.0 ≤ limit)
    × (bytes ≡ (word ++ decimal y.0 ++ codes "\n") ++ y.1)
number_takes word bytes rest limit y e f =
    let h = ended_takes (up_to limit rest) y f in
    let n = up_to_takes limit rest h.at h.is in
    (subst (λ (v : ℕ). v ≤ limit) h.same n.0, subst (λ (v : ℕ). bytes ≡ (word ++ decimal v ++ codes "\n") ++ y.1) h.same (counted_text word bytes rest h.at.0 h.at.1 y.1 e n.1 h.line))

space_takes : (bytes rest : List ℕ) (y : ℕ × List ℕ) → strip (codes "\t.space\t") bytes ≡ Some rest → ended (from_one AREA_LIMIT rest) ≡ Some y → AreaAt bytes (areas.Space y.0, y.1)
space_takes bytes rest y e f =
    let h = ended_takes (from_one AREA_LIMIT rest) y f in
    let n = from_one_takes AREA_LIMIT rest h.at h.is in
    subst (λ (v : ℕ). AreaAt bytes (areas.Space v, y.1)) h.same (record {
      valid = rw (le-leb 1 h.at.0 n.0, le-leb h.at.0 AREA_LIMIT n.1.0) refl;
      spelled = counted_text (codes "\t.space\t") bytes rest h.at.0 h.at.1 y.1 e n.1.1 h.line;
    })

byte_takes : (bytes rest : List ℕ) (y : ℕ × List ℕ) → strip (codes "\t.byte\t") bytes ≡ Some rest → ended (up_to 255 rest) ≡ Some y → AreaAt bytes (areas.Byte y.0, y.1)
byte_takes bytes rest y e f =
    let n = number_takes (codes "\t.byte\t") bytes rest 255 y e f in
    let le : y.0 ≤ 255 = n.0 in
    record { valid = lt-ltb y.0 (2 ^ 8) (omega arith); spelled = n.1 }

word_takes : (bytes rest : List ℕ) (y : ℕ × List ℕ) → strip (codes "\t.word\t") bytes ≡ Some rest → ended (up_to 65535 rest) ≡ Some y → AreaAt bytes (areas.Word y.0, y.1)
word_takes bytes rest y e f =
    let n = number_takes (codes "\t.word\t") bytes rest 65535 y e f in
    let le : y.0 ≤ 65535 = n.0 in
    record { valid = lt-ltb y.0 (2 ^ 16) (omega arith); spelled = n.1 }

align_takes : (bytes rest : List ℕ) (y : ℕ × List ℕ) → strip (codes "\t.align\t") bytes ≡ Some rest → ended (up_to 2 rest) ≡ Some y → AreaAt bytes (areas.Align y.0, y.1)
align_takes bytes rest y e f =
    let n = number_takes (codes "\t.align\t") bytes rest 2 y e f in
    record { valid = le-leb y.0 2 n.0; spelled = n.1 }

counted_takes : (bytes : List ℕ) (x : AreaItem × List ℕ) → counted_front bytes ≡ Some x → AreaAt bytes x
unfolding counted_front
counted_takes bytes x e =
    map_or_some (strip (codes "\t.byte\t") bytes) (λ (rest : List ℕ). option_map (area_item areas.Byte) (ended (up_to 255 rest))) _ x e
    (λ rest er more. map_some (area_item areas.Byte) (ended (up_to 255 rest)) x more (λ y ey is. subst (AreaAt bytes) is (byte_takes bytes rest y er ey)))
    (λ e1. map_or_some (strip (codes "\t.space\t") bytes) (λ (rest : List ℕ). option_map (area_item areas.Space) (ended (from_one AREA_LIMIT rest))) _ x e1
    (λ rest er more. map_some (area_item areas.Space) (ended (from_one AREA_LIMIT rest)) x more (λ y ey is. subst (AreaAt bytes) is (space_takes bytes rest y er ey)))
    (λ e2. map_or_some (strip (codes "\t.align\t") bytes) (λ (rest : List ℕ). option_map (area_item areas.Align) (ended (up_to 2 rest))) _ x e2
    (λ rest er more. map_some (area_item areas.Align) (ended (up_to 2 rest)) x more (λ y ey is. subst (AreaAt bytes) is (align_takes bytes rest y er ey)))
    (λ e3. option_and_then_some (λ (rest : List ℕ). option_map (area_item areas.Word) (ended (up_to 65535 rest))) (strip (codes "\t.word\t") bytes) x e3
    (λ rest er more. map_some (area_item areas.Word) (ended (up_to 65535 rest)) x more (λ y ey is. subst (AreaAt bytes) is (word_takes bytes rest y er ey))))))

long_takes : (bytes rest : List ℕ) (y : Addr × List ℕ) → strip (codes "\t.long\t") bytes ≡ Some rest → ended (addr_front rest) ≡ Some y → AreaAt bytes (areas.Long y.0, y.1)
long_takes bytes rest y e f =
    let h = ended_takes (addr_front rest) y f in
    let a = addr_takes rest h.at h.is in
    subst (λ (v : Addr). AreaAt bytes (areas.Long v, y.1)) h.same (record {
      valid = a.valid;
      spelled =
          strip_takes (codes "\t.long\t") bytes rest e
          ∙ ap (λ (t : List ℕ). codes "\t.long\t" ++ t) (a.spelled ∙ ap (λ (t : List ℕ). addr_text h.at.0 ++ t) h.line ∙ sym (append_assoc (addr_text h.at.0) (codes "\n") y.1));
    })

globl_text : (bytes rest : List ℕ) (y : List ℕ × List ℕ) → strip (codes "\t.globl\t") bytes ≡ Some rest → NamedAt (codes "\n") rest y → bytes ≡ (codes "\t.globl\t" ++ y.0 ++ codes "\n") ++ y.1
globl_text bytes rest y e n =
    strip_takes (codes "\t.globl\t") bytes rest e
    ∙ ap (λ (t : List ℕ). codes "\t.globl\t" ++ t) (n.1 ∙ sym (append_assoc y.0 (codes "\n") y.1))

pub area_takes : (bytes : List ℕ) (x : AreaItem × List ℕ) → area_front bytes ≡ Some x → AreaAt bytes x
unfolding area_front
area_takes bytes x e =
    map_or_some (named_front (codes ":\n") bytes) area_label _ x e
    (λ y ey more.
    let n = named_takes (codes ":\n") bytes y ey in
    subst (AreaAt bytes) (same_Some (areas.Label y.0, y.1) x more) (record { valid = n.0; spelled = n.1 ∙ sym (label_line y.0 y.1) }))
    (λ e1. map_or_some (strip (codes "\t.long\t") bytes) (λ (rest : List ℕ). option_map (area_item areas.Long) (ended (addr_front rest))) _ x e1
    (λ rest er more. map_some (area_item areas.Long) (ended (addr_front rest)) x more (λ y ey is. subst (AreaAt bytes) is (long_takes bytes rest y er ey)))
    (λ e2. map_or_some (strip (codes "\t.globl\t") bytes) (λ (rest : List ℕ). option_map (area_item areas.Globl) (named_front (codes "\n") rest)) _ x e2
    (λ rest er more. map_some (area_item areas.Globl) (named_front (codes "\n") rest) x more (λ y ey is.
    let n = named_takes (codes "\n") rest y ey in
    subst (AreaAt bytes) is (record { valid = n.0; spelled = globl_text bytes rest y er n })))
    (λ e3. counted_takes bytes x e3)))

area_ends : (rest : List ℕ) → EndsAddr (10 ∷ rest)
area_ends rest = record { offset = record { number = refl; plus = refl; minus = refl }; name = refl }

byte_again : (n : ℕ) (rest : List ℕ) → n < 2 ^ 8 → counted_front ((codes "\t.byte\t" ++ decimal n ++ codes "\n") ++ rest) ≡ Some (areas.Byte n, rest)
unfolding counted_front
byte_again n rest lt = rw (append_assoc (decimal n) (codes "\n") rest, up_to_again 255 n (10 ∷ rest) (omega arith) (omega arith) refl) refl

word_again : (n : ℕ) (rest : List ℕ) → n < 2 ^ 16 → counted_front ((codes "\t.word\t" ++ decimal n ++ codes "\n") ++ rest) ≡ Some (areas.Word n, rest)
unfolding counted_front
word_again n rest lt = rw (append_assoc (decimal n) (codes "\n") rest, up_to_again 65535 n (10 ∷ rest) (omega arith) (omega arith) refl) refl

align_again : (n : ℕ) (rest : List ℕ) → n ≤ 2 → counted_front ((codes "\t.align\t" ++ decimal n ++ codes "\n") ++ rest) ≡ Some (areas.Align n, rest)
unfolding counted_front
align_again n rest le = rw (append_assoc (decimal n) (codes "\n") rest, up_to_again 2 n (10 ∷ rest) (omega arith) le refl) refl

space_again : (n : ℕ) (rest : List ℕ) → 1 ≤ n → n ≤ AREA_LIMIT → counted_front ((codes "\t.space\t" ++ decimal n ++ codes "\n") ++ rest) ≡ Some (areas.Space n, rest)
unfolding counted_front
space_again n rest one le = rw (append_assoc (decimal n) (codes "\n") rest, from_one_again AREA_LIMIT n (10 ∷ rest) (omega arith) one le refl) refl

-- a line that begins with a directive with a number is none of the others
by_count : (bytes : List ℕ) (x : AreaItem × List ℕ) → named_front (codes ":\n") bytes ≡ None → strip (codes "\t.long\t") bytes ≡ None → strip (codes "\t.globl\t") bytes ≡ None
    → counted_front bytes ≡ Some x → area_front bytes ≡ Some x
unfolding area_front
by_count bytes x a b c d = rw (a, b, c, d) refl

long_again : (a : Addr) (rest : List ℕ) → AddrAt (addr_text a ++ (10 ∷ rest)) (a, 10 ∷ rest) → area_front ((codes "\t.long\t" ++ addr_text a ++ codes "\n") ++ rest) ≡ Some (areas.Long a, rest)
unfolding area_front
long_again a rest h = rw (no_label, append_assoc (addr_text a) (codes "\n") rest, addr_again a (10 ∷ rest) h.valid (area_ends rest)) refl

area_globl_again : (name rest : List ℕ) → is_name name ≡ true → area_front ((codes "\t.globl\t" ++ name ++ codes "\n") ++ rest) ≡ Some (areas.Globl name, rest)
unfolding area_front
area_globl_again name rest h = rw (no_label, append_assoc name (codes "\n") rest, globl_again name rest h) refl

area_label_again : (name rest : List ℕ) → is_name name ≡ true → area_front ((name ++ codes ":" ++ codes "\n") ++ rest) ≡ Some (areas.Label name, rest)
unfolding area_front
area_label_again name rest h = ap area_front (label_line name rest) ∙ rw (label_again name rest h) refl

pub area_again : (item : AreaItem) (rest : List ℕ) → is_area_item item ≡ true → area_front (area_line item ++ rest) ≡ Some (item, rest)
area_again (areas.Label name) rest h = area_label_again name rest h
area_again (areas.Globl name) rest h = area_globl_again name rest h
area_again (areas.Align k) rest h = by_count _ (areas.Align k, rest) (no_label _) refl refl (align_again k rest (leb-true k 2 h))
area_again (areas.Byte n) rest h = by_count _ (areas.Byte n, rest) (no_label _) refl refl (byte_again n rest (ltb-true n (2 ^ 8) h))
area_again (areas.Word n) rest h = by_count _ (areas.Word n, rest) (no_label _) refl refl (word_again n rest (ltb-true n (2 ^ 16) h))
area_again (areas.Long a) rest h = long_again a rest (record { valid = h; spelled = refl })
area_again (areas.Space n) rest h =
    let p = and_parts (leb 1 n) (leb n AREA_LIMIT) h in
    by_count _ (areas.Space n, rest) (no_label _) refl refl (space_again n rest (leb-true 1 n p.0) (leb-true n AREA_LIMIT p.1))

-- the code

pub record ItemAt (bytes : List ℕ) (x : CodeItem × List ℕ) : Type 0 where
  pub valid : is_code_item x.0 ≡ true
  pub spelled : bytes ≡ item_line x.0 ++ x.1

instr_line_takes : (bytes rest : List ℕ) (y : Instr × List ℕ) → strip (codes "\t") bytes ≡ Some rest → ended (instr_front rest) ≡ Some y → ItemAt bytes (item_kind.Instr y.0, y.1)
instr_line_takes bytes rest y e f =
    let h = ended_takes (instr_front rest) y f in
    let i = instr_takes rest h.at h.is in
    subst (λ (v : Instr). ItemAt bytes (item_kind.Instr v, y.1)) h.same (record {
      valid = i.valid;
      spelled =
          strip_takes (codes "\t") bytes rest e
          ∙ i.spelled
          ∙ ap (λ (t : List ℕ). instr_text h.at.0 ++ t) h.line
          ∙ sym (append_assoc (instr_text h.at.0) (codes "\n") y.1);
    })

pub item_takes : (bytes : List ℕ) (x : CodeItem × List ℕ) → item_front bytes ≡ Some x → ItemAt bytes x
unfolding item_front
item_takes bytes x e =
    map_or_some (named_front (codes ":\n") bytes) code_label _ x e
    (λ y ey more.
    let n = named_takes (codes ":\n") bytes y ey in
    subst (ItemAt bytes) (same_Some (item_kind.Label y.0, y.1) x more) (record { valid = n.0; spelled = n.1 ∙ sym (label_line y.0 y.1) }))
    (λ e1. map_or_some (strip (codes "\t.globl\t") bytes) (λ (rest : List ℕ). option_map (code_item item_kind.Globl) (named_front (codes "\n") rest)) _ x e1
    (λ rest er more. map_some (code_item item_kind.Globl) (named_front (codes "\n") rest) x more (λ y ey is.
    let n = named_takes (codes "\n") rest y ey in
    subst (ItemAt bytes) is (record { valid = n.0; spelled = globl_text bytes rest y er n })))
    (λ e2. map_or_some (strip (codes "\t.word\t") bytes) (λ (rest : List ℕ). option_map (code_item item_kind.Mask) (ended (up_to 4095 rest))) _ x e2
    (λ rest er more. map_some (code_item item_kind.Mask) (ended (up_to 4095 rest)) x more (λ y ey is.
    let n = number_takes (codes "\t.word\t") bytes rest 4095 y er ey in
    subst (ItemAt bytes) is (record { valid = le-leb y.0 4095 n.0; spelled = n.1 })))
    (λ e3. option_and_then_some (λ (rest : List ℕ). option_map (code_item item_kind.Instr) (ended (instr_front rest))) (strip (codes "\t") bytes) x e3
    (λ rest er more. map_some (code_item item_kind.Instr) (ended (instr_front rest)) x more (λ y ey is. subst (ItemAt bytes) is (instr_line_takes bytes rest y er ey))))))

code_ends : (rest : List ℕ) → EndsLine (10 ∷ rest)
code_ends rest = record { operand = line_ends rest; name = refl; word = refl }

code_label_again : (name rest : List ℕ) → is_name name ≡ true → item_front ((name ++ codes ":" ++ codes "\n") ++ rest) ≡ Some (item_kind.Label name, rest)
unfolding item_front
code_label_again name rest h = ap item_front (label_line name rest) ∙ rw (label_again name rest h) refl

code_globl_again : (name rest : List ℕ) → is_name name ≡ true → item_front ((codes "\t.globl\t" ++ name ++ codes "\n") ++ rest) ≡ Some (item_kind.Globl name, rest)
unfolding item_front
code_globl_again name rest h = rw (no_label, append_assoc name (codes "\n") rest, globl_again name rest h) refl

mask_again : (n : ℕ) (rest : List ℕ) → n ≤ 4095 → item_front ((codes "\t.word\t" ++ decimal n ++ codes "\n") ++ rest) ≡ Some (item_kind.Mask n, rest)
unfolding item_front
mask_again n rest le = rw (no_label, append_assoc (decimal n) (codes "\n") rest, up_to_again 4095 n (10 ∷ rest) (omega arith) le refl) refl

-- a line that begins with a mnemonic is none of the others
by_instr : (bytes : List ℕ) (x : CodeItem × List ℕ) → strip (codes "\t.globl\t") (9 ∷ bytes) ≡ None → strip (codes "\t.word\t") (9 ∷ bytes) ≡ None
    → option_map (code_item item_kind.Instr) (ended (instr_front bytes)) ≡ Some x → item_front (9 ∷ bytes) ≡ Some x
unfolding item_front
by_instr bytes x a b c = rw (no_label bytes, a, b) c

instr_line_again : (i : Instr) (rest : List ℕ) → is_code_item (item_kind.Instr i) ≡ true → item_front ((instr_text i ++ codes "\n") ++ rest) ≡ Some (item_kind.Instr i, rest)
instr_line_again i rest h =
    let body = (shape i.op).mnemonic ++ tail_text i.operands i.target in
    let none = no_directive i.op (tail_text i.operands i.target ++ (10 ∷ rest)) in
    let shifted : (instr_text i ++ codes "\n") ++ rest ≡ 9 ∷ (body ++ (10 ∷ rest)) = append_assoc (instr_text i) (codes "\n") rest in
    let inner : body ++ (10 ∷ rest) ≡ (shape i.op).mnemonic ++ (tail_text i.operands i.target ++ (10 ∷ rest)) = append_assoc (shape i.op).mnemonic (tail_text i.operands i.target) (10 ∷ rest) in
    let found : instr_front (body ++ (10 ∷ rest)) ≡ Some (i, 10 ∷ rest) = instr_again i (10 ∷ rest) h (code_ends rest) in
    ap item_front shifted
    ∙ by_instr (body ++ (10 ∷ rest)) (item_kind.Instr i, rest)
    (ap (λ (t : List ℕ). strip (codes "\t.globl\t") (9 ∷ t)) inner ∙ none.0)
    (ap (λ (t : List ℕ). strip (codes "\t.word\t") (9 ∷ t)) inner ∙ none.1)
    (rw found refl)

pub item_again : (item : CodeItem) (rest : List ℕ) → is_code_item item ≡ true → item_front (item_line item ++ rest) ≡ Some (item, rest)
item_again (item_kind.Label name) rest h = code_label_again name rest h
item_again (item_kind.Globl name) rest h = code_globl_again name rest h
item_again (item_kind.Mask mask) rest h = mask_again mask rest (leb-true mask 4095 h)
item_again (item_kind.Instr i) rest h = instr_line_again i rest h
