-- What was read so far, and that a text has one code or one first wrong line.
use Rattle.std.proofs.Common.{◌≡◌, inl, inr, ℕ, ◌+◌, ◌<◌, Bool, true, ◌&&◌, List, [], ◌∷◌, ◌++◌, length, Some, None, refl, sym, ap, subst, ◌∙◌, arith, append_assoc, length-append}
use Rattle.std.specs.Prelude.{codes, Result, Ok, Err, IfOk, IfErr}
use Rattle.std.specs.List.{list_all, flat_map}
use Rattle.std.proofs.lemmas.Bool.{and_parts, and_from}
use Rattle.std.proofs.lemmas.List.{append-nil, append_cancel_left}
use Rattle.std.proofs.lemmas.List.Folds.{list_all-append}
use Rattle.std.proofs.lemmas.Option.{none-some, some_pair_parts}
use Rattle.vax_core.specs.declared.code.AreaItem.{AreaItem}
use Rattle.vax_core.specs.declared.code.CodeItem.{CodeItem}
use Rattle.vax_core.specs.declared.code.Code.{Code}
use Rattle.vax_core.specs.Text.{area_text, item_text, area_line, item_line, asm_text}
use Rattle.vax_core.specs.Valid.{is_area_item, is_code_item, is_code}
use Rattle.vax_reader.specs.declared.fault.AsmKind.{AsmKind}
use Rattle.vax_reader.specs.declared.fault.AsmFault.{AsmFault}
use Rattle.vax_reader.specs.declared.fault.AsmFault.TheVariants as faults
use Rattle.vax_reader.specs.declared.kind.Stage.{Stage}
use Rattle.vax_reader.specs.declared.kind.Stage.TheVariants as stages
use Rattle.vax_reader.specs.Fronts.{strip}
use Rattle.vax_reader.specs.Lines.{area_front, item_front, named_front, counted_front}
use Rattle.vax_reader.specs.Kinds.{kind_of}
use Rattle.vax_reader.specs.WrongLine.{IsKind}
use Rattle.vax_reader.specs.Grammar.{Reads, IsOnly, IsAreaLine, IsCodeLine, IsLine, made, AreaLines, CodeLines, LinesBefore, IsFirstWrong, IsFault, Refused, IsOnlyFault, GivesBack, Inverts}
use Rattle.vax_reader.proofs.KindLaws.{kind_tells, one_kind}
use Rattle.vax_reader.proofs.LineLaws.{area_takes, area_again, item_takes, item_again}

-- one more item

pub all_push : {A : Type 0} (test : A → Bool) (xs : List A) (x : A) → list_all test xs ≡ true → test x ≡ true → list_all test (xs ++ x ∷ []) ≡ true
all_push test xs x h k = list_all-append test xs (x ∷ []) ∙ and_from (list_all test xs) (test x && true) h (and_from (test x) true k refl)

area_push : (area : List AreaItem) (item : AreaItem) (rest : List ℕ) → flat_map area_line area ++ (area_line item ++ rest) ≡ flat_map area_line (area ++ item ∷ []) ++ rest
area_push [] item rest = ap (λ (t : List ℕ). t ++ rest) (sym (append-nil (area_line item)))
area_push (x ∷ area) item rest =
    append_assoc (area_line x) (flat_map area_line area) (area_line item ++ rest)
    ∙ ap (λ (t : List ℕ). area_line x ++ t) (area_push area item rest)
    ∙ sym (append_assoc (area_line x) (flat_map area_line (area ++ item ∷ [])) rest)

pub items_push : (items : List CodeItem) (item : CodeItem) (rest : List ℕ) → flat_map item_line items ++ (item_line item ++ rest) ≡ flat_map item_line (items ++ item ∷ []) ++ rest
items_push [] item rest = ap (λ (t : List ℕ). t ++ rest) (sym (append-nil (item_line item)))
items_push (x ∷ items) item rest =
    append_assoc (item_line x) (flat_map item_line items) (item_line item ++ rest)
    ∙ ap (λ (t : List ℕ). item_line x ++ t) (items_push items item rest)
    ∙ sym (append_assoc (item_line x) (flat_map item_line (items ++ item ∷ [])) rest)

area_length : (bytes : List ℕ) (item : AreaItem) (rest : List ℕ) → bytes ≡ area_line item ++ rest → length rest < length bytes
area_length bytes item rest e =
    omega (arith, ap length e, length-append (area_line item) rest, length-append (area_text item) (codes "\n"))

item_length : (bytes : List ℕ) (item : CodeItem) (rest : List ℕ) → bytes ≡ item_line item ++ rest → length rest < length bytes
item_length bytes item rest e =
    omega (arith, ap length e, length-append (item_line item) rest, length-append (item_text item) (codes "\n"))

pub area_shorter : (rest : List ℕ) (item : AreaItem) (after : List ℕ) → area_front rest ≡ Some (item, after) → length after < length rest
area_shorter rest item after e = area_length rest item after (area_takes rest (item, after) e).spelled

pub item_shorter : (rest : List ℕ) (item : CodeItem) (after : List ℕ) → item_front rest ≡ Some (item, after) → length after < length rest
item_shorter rest item after e = item_length rest item after (item_takes rest (item, after) e).spelled

-- the data area

pub area_goes_on : (bytes : List ℕ) (area : List AreaItem) (line : ℕ) (rest : List ℕ) (item : AreaItem) (after : List ℕ) (now : List AreaItem) → area_front rest ≡ Some (item, after) → now
    ≡ area ++ item ∷ [] → AreaLines bytes area line rest → AreaLines bytes now (line + 1) after
area_goes_on bytes area line rest item after now e is h =
    let t = area_takes rest (item, after) e in
    subst (λ (a : List AreaItem). AreaLines bytes a (line + 1) after) (sym is) (record {
      valid = all_push is_area_item area item h.valid t.valid;
      text = h.text ∙ ap (λ (x : List ℕ). codes "\t.data\n" ++ (flat_map area_line area ++ x)) t.spelled ∙ ap (λ (x : List ℕ). codes "\t.data\n" ++ x) (area_push area item after);
      number = omega (arith, h.number, length-append area (item ∷ []));
    })

pub wrong_start : (bytes : List ℕ) (kind : AsmKind) → strip (codes "\t.data\n") bytes ≡ None → kind ≡ kind_of stages.Start bytes → IsFirstWrong bytes 1 kind
wrong_start bytes kind e is = record {
  stage = stages.Start;
  rest = bytes;
  before = (refl, refl);
  wrong = λ text more l r. none-some more (sym e ∙ ap (strip (codes "\t.data\n")) (r ∙ ap (λ (t : List ℕ). t ++ more) l));
  unended = λ s n. absurd (cc);
  kind_is = subst (IsKind stages.Start bytes) (sym is) (kind_tells stages.Start bytes);
}

no_area_line : (rest : List ℕ) → area_front rest ≡ None → (text more : List ℕ) → IsAreaLine text → rest ≡ text ++ more → ⊥
no_area_line rest e text more l r = none-some (l.item, more) (sym e ∙ ap area_front (r ∙ ap (λ (t : List ℕ). t ++ more) l.text) ∙ area_again l.item more l.valid)

no_text_line : (rest : List ℕ) → strip (codes "\t.text\n") rest ≡ None → (text more : List ℕ) → text ≡ codes "\t.text\n" → rest ≡ text ++ more → ⊥
no_text_line rest e text more l r = none-some more (sym e ∙ ap (strip (codes "\t.text\n")) (r ∙ ap (λ (t : List ℕ). t ++ more) l))

pub wrong_area : (bytes : List ℕ) (area : List AreaItem) (line : ℕ) (rest : List ℕ) (kind : AsmKind) → strip (codes "\t.text\n") rest ≡ None → area_front rest ≡ None
    → AreaLines bytes area line rest → kind ≡ kind_of stages.Area rest → IsFirstWrong bytes line kind
wrong_area bytes area line rest kind e f h is = record {
  stage = stages.Area;
  rest = rest;
  before = (area, h);
  wrong = λ text more l r. elim l [ inl a ↦ no_area_line rest f text more a r | inr t ↦ no_text_line rest e text more t r ];
  unended = λ s n. absurd (cc);
  kind_is = subst (IsKind stages.Area rest) (sym is) (kind_tells stages.Area rest);
}

-- the code

made_push : (area : List AreaItem) (items : List CodeItem) (item : CodeItem) (after : List ℕ) → asm_text (made area items) ++ (item_line item ++ after)
    ≡ asm_text (made area (items ++ item ∷ [])) ++ after
made_push area items item after =
    let lines = flat_map area_line area in
    let front : (ys zs : List ℕ) → (codes "\t.data\n" ++ (lines ++ (codes "\t.text\n" ++ ys))) ++ zs ≡ codes "\t.data\n" ++ (lines ++ (codes "\t.text\n" ++ (ys ++ zs)))
    = λ ys zs. ap (λ (x : List ℕ). codes "\t.data\n" ++ x) (append_assoc lines (codes "\t.text\n" ++ ys) zs) in
    front (flat_map item_line items) (item_line item ++ after)
    ∙ ap (λ (x : List ℕ). codes "\t.data\n" ++ (lines ++ (codes "\t.text\n" ++ x))) (items_push items item after)
    ∙ sym (front (flat_map item_line (items ++ item ∷ [])) after)

pub code_goes_on : (bytes : List ℕ) (area : List AreaItem) (items : List CodeItem) (line : ℕ) (rest : List ℕ) (item : CodeItem) (after : List ℕ) (now : List CodeItem) → item_front rest
    ≡ Some (item, after) → now ≡ items ++ item ∷ [] → CodeLines bytes area items line rest → CodeLines bytes area now (line + 1) after
code_goes_on bytes area items line rest item after now e is h =
    let t = item_takes rest (item, after) e in
    let v = and_parts (list_all is_area_item area) (list_all is_code_item items) h.valid in
    subst (λ (i : List CodeItem). CodeLines bytes area i (line + 1) after) (sym is) (record {
      valid = and_from (list_all is_area_item area) (list_all is_code_item (items ++ item ∷ [])) v.0 (all_push is_code_item items item v.1 t.valid);
      text = h.text ∙ ap (λ (x : List ℕ). asm_text (made area items) ++ x) t.spelled ∙ made_push area items item after;
      number = omega (arith, h.number, length-append items (item ∷ []));
    })

no_code_line : (rest : List ℕ) → item_front rest ≡ None → (text more : List ℕ) → IsCodeLine text → rest ≡ text ++ more → ⊥
no_code_line rest e text more l r = none-some (l.item, more) (sym e ∙ ap item_front (r ∙ ap (λ (t : List ℕ). t ++ more) l.text) ∙ item_again l.item more l.valid)

pub wrong_code : (bytes : List ℕ) (area : List AreaItem) (items : List CodeItem) (line : ℕ) (rest : List ℕ) (kind : AsmKind) → 0 < length rest → item_front rest ≡ None
    → CodeLines bytes area items line rest → kind ≡ kind_of stages.Code rest → IsFirstWrong bytes line kind
wrong_code bytes area items line rest kind some f h is = record {
  stage = stages.Code;
  rest = rest;
  before = (area, (items, h));
  wrong = λ text more l r. no_code_line rest f text more l r;
  unended = λ s n. omega (arith, some, ap length n);
  kind_is = subst (IsKind stages.Code rest) (sym is) (kind_tells stages.Code rest);
}

-- texts that begin with lines of the grammar begin with the same lines

-- no item's line stands there
abbrev pub NoArea : List ℕ → Type 0
NoArea rest = (item : AreaItem) (after : List ℕ) → is_area_item item ≡ true → rest ≡ area_line item ++ after → ⊥

abbrev pub NoCode : List ℕ → Type 0
NoCode rest = (item : CodeItem) (after : List ℕ) → is_code_item item ≡ true → rest ≡ item_line item ++ after → ⊥

pub same_area : (xs ys : List AreaItem) (rest other : List ℕ) → list_all is_area_item xs ≡ true → list_all is_area_item ys ≡ true → NoArea rest → NoArea other → flat_map area_line xs ++ rest
    ≡ flat_map area_line ys ++ other → (xs ≡ ys) × (rest ≡ other)
same_area [] [] rest other v w none none2 e = (refl, e)
same_area [] (y ∷ ys) rest other v w none none2 e =
    let q = and_parts (is_area_item y) (list_all is_area_item ys) w in
    absurd (none y (flat_map area_line ys ++ other) q.0 (e ∙ append_assoc (area_line y) (flat_map area_line ys) other))
same_area (x ∷ xs) [] rest other v w none none2 e =
    let p = and_parts (is_area_item x) (list_all is_area_item xs) v in
    absurd (none2 x (flat_map area_line xs ++ rest) p.0 (sym e ∙ append_assoc (area_line x) (flat_map area_line xs) rest))
same_area (x ∷ xs) (y ∷ ys) rest other v w none none2 e =
    let p = and_parts (is_area_item x) (list_all is_area_item xs) v in
    let q = and_parts (is_area_item y) (list_all is_area_item ys) w in
    let after = flat_map area_line xs ++ rest in
    let after2 = flat_map area_line ys ++ other in
    let whole : area_line x ++ after ≡ area_line y ++ after2 =
    sym (append_assoc (area_line x) (flat_map area_line xs) rest) ∙ e ∙ append_assoc (area_line y) (flat_map area_line ys) other in
    let first = some_pair_parts x y after after2 (sym (area_again x after p.0) ∙ ap area_front whole ∙ area_again y after2 q.0) in
    let more = same_area xs ys rest other p.1 q.1 none none2 first.1 in
    (ap (λ (i : AreaItem). i ∷ xs) first.0 ∙ ap (λ (is : List AreaItem). y ∷ is) more.0, more.1)

pub same_code : (xs ys : List CodeItem) (rest other : List ℕ) → list_all is_code_item xs ≡ true → list_all is_code_item ys ≡ true → NoCode rest → NoCode other → flat_map item_line xs ++ rest
    ≡ flat_map item_line ys ++ other → (xs ≡ ys) × (rest ≡ other)
same_code [] [] rest other v w none none2 e = (refl, e)
same_code [] (y ∷ ys) rest other v w none none2 e =
    let q = and_parts (is_code_item y) (list_all is_code_item ys) w in
    absurd (none y (flat_map item_line ys ++ other) q.0 (e ∙ append_assoc (item_line y) (flat_map item_line ys) other))
same_code (x ∷ xs) [] rest other v w none none2 e =
    let p = and_parts (is_code_item x) (list_all is_code_item xs) v in
    absurd (none2 x (flat_map item_line xs ++ rest) p.0 (sym e ∙ append_assoc (item_line x) (flat_map item_line xs) rest))
same_code (x ∷ xs) (y ∷ ys) rest other v w none none2 e =
    let p = and_parts (is_code_item x) (list_all is_code_item xs) v in
    let q = and_parts (is_code_item y) (list_all is_code_item ys) w in
    let after = flat_map item_line xs ++ rest in
    let after2 = flat_map item_line ys ++ other in
    let whole : item_line x ++ after ≡ item_line y ++ after2 =
    sym (append_assoc (item_line x) (flat_map item_line xs) rest) ∙ e ∙ append_assoc (item_line y) (flat_map item_line ys) other in
    let first = some_pair_parts x y after after2 (sym (item_again x after p.0) ∙ ap item_front whole ∙ item_again y after2 q.0) in
    let more = same_code xs ys rest other p.1 q.1 none none2 first.1 in
    (ap (λ (i : CodeItem). i ∷ xs) first.0 ∙ ap (λ (is : List CodeItem). y ∷ is) more.0, more.1)

text_at_front : (rest : List ℕ) → area_front (codes "\t.text\n" ++ rest) ≡ None
unfolding area_front named_front counted_front
text_at_front rest = refl

no_area_at_text : (behind : List ℕ) → NoArea (codes "\t.text\n" ++ behind)
no_area_at_text behind item after v e = none-some (item, after) (sym (text_at_front behind) ∙ ap area_front e ∙ area_again item after v)

no_code_at_end : NoCode []
no_code_at_end item after v e = omega (arith, item_length [] item after e)

-- what stands behind `.data`
behind_data : (area : List AreaItem) (items : List CodeItem) (rest : List ℕ) → asm_text (made area items) ++ rest ≡ codes "\t.data\n"
    ++ (flat_map area_line area ++ (codes "\t.text\n" ++ (flat_map item_line items ++ rest)))
behind_data area items rest =
    ap (λ (x : List ℕ). codes "\t.data\n" ++ x) (append_assoc (flat_map area_line area) (codes "\t.text\n" ++ flat_map item_line items) rest)

-- two texts of codes, each with something behind it
pub same_texts : (area area2 : List AreaItem) (items items2 : List CodeItem) (rest other : List ℕ) → is_code (made area items) ≡ true → is_code (made area2 items2) ≡ true → NoCode rest
    → NoCode other → asm_text (made area items) ++ rest ≡ asm_text (made area2 items2) ++ other → (area ≡ area2) × (items ≡ items2) × (rest ≡ other)
same_texts area area2 items items2 rest other v w none none2 e =
    let p = and_parts (list_all is_area_item area) (list_all is_code_item items) v in
    let q = and_parts (list_all is_area_item area2) (list_all is_code_item items2) w in
    let behind = flat_map item_line items ++ rest in
    let behind2 = flat_map item_line items2 ++ other in
    let inner = append_cancel_left (codes "\t.data\n") (flat_map area_line area ++ (codes "\t.text\n" ++ behind)) (flat_map area_line area2 ++ (codes "\t.text\n" ++ behind2))
    (sym (behind_data area items rest) ∙ e ∙ behind_data area2 items2 other) in
    let a = same_area area area2 (codes "\t.text\n" ++ behind) (codes "\t.text\n" ++ behind2) p.0 q.0 (no_area_at_text behind) (no_area_at_text behind2) inner in
    let c = same_code items items2 rest other p.1 q.1 none none2 (append_cancel_left (codes "\t.text\n") behind behind2 a.1) in
    (a.0, c.0, c.1)

-- a text has one code

whole_text : (bytes : List ℕ) (c : Code) → Reads bytes c → asm_text c ++ [] ≡ bytes
whole_text bytes c r = append-nil (asm_text c) ∙ sym r.text

pub unique : (bytes : List ℕ) (c d : Code) → Reads bytes c → Reads bytes d → c ≡ d
unique bytes c d r s =
    let t = same_texts c.area d.area c.items d.items [] [] r.valid s.valid no_code_at_end no_code_at_end (whole_text bytes c r ∙ sym (whole_text bytes d s)) in
    ap (λ (a : List AreaItem). made a c.items) t.0 ∙ ap (λ (i : List CodeItem). made d.area i) t.1

pub only : (bytes : List ℕ) (r : Result Code AsmFault) → IfOk r (Reads bytes) → IfOk r (IsOnly bytes)
only bytes (Ok c) h = λ d s. unique bytes c d h s
only bytes (Err e) h = h

-- where a line is wrong, no item's line stands

abbrev pub NoLine : Stage → List ℕ → Type 0
NoLine stage rest = (text more : List ℕ) → IsLine stage text → rest ≡ text ++ more → ⊥

wrong_has_no_area : (rest : List ℕ) → NoLine stages.Area rest → NoArea rest
wrong_has_no_area rest wrong item after v e = wrong (area_line item) after (inl (record { item = item; valid = v; text = refl })) e

wrong_has_no_code : (rest : List ℕ) → NoLine stages.Code rest → NoCode rest
wrong_has_no_code rest wrong item after v e = wrong (item_line item) after (record { item = item; valid = v; text = refl }) e

-- where a line of the area is wrong, no text of a code begins
pub no_text_begins : (bytes : List ℕ) (area : List AreaItem) (line : ℕ) (rest : List ℕ) (other : List AreaItem) (items : List CodeItem) (behind : List ℕ) → AreaLines bytes area line rest
    → NoLine stages.Area rest → is_code (made other items) ≡ true → bytes ≡ asm_text (made other items) ++ behind → ⊥
no_text_begins bytes area line rest other items behind h wrong v e =
    let q = and_parts (list_all is_area_item other) (list_all is_code_item items) v in
    let code = flat_map item_line items ++ behind in
    let inner = append_cancel_left (codes "\t.data\n") (flat_map area_line area ++ rest) (flat_map area_line other ++ (codes "\t.text\n" ++ code)) (sym h.text ∙ e ∙ behind_data other items behind) in
    let a = same_area area other rest (codes "\t.text\n" ++ code) h.valid q.0 (wrong_has_no_area rest wrong) (no_area_at_text code) inner in
    wrong (codes "\t.text\n") code (inr refl) a.1

-- a first wrong line leaves no code

refused_code : (bytes : List ℕ) (area : List AreaItem) (items : List CodeItem) (line : ℕ) (rest : List ℕ) (d : Code) → CodeLines bytes area items line rest → NoLine stages.Code rest
    → (rest ≡ [] → ⊥) → Reads bytes d → ⊥
refused_code bytes area items line rest d h wrong unended r =
    let t = same_texts area d.area items d.items rest [] h.valid r.valid (wrong_has_no_code rest wrong) no_code_at_end (sym h.text ∙ sym (whole_text bytes d r)) in
    unended t.2

by_stage : (bytes : List ℕ) (line : ℕ) (stage : Stage) (rest : List ℕ) (d : Code) → LinesBefore stage bytes line rest → NoLine stage rest → (stage ≡ stages.Code → rest ≡ [] → ⊥) → Reads bytes d → ⊥
by_stage bytes line stages.Start rest d before wrong unended r = wrong (codes "\t.data\n") (flat_map area_line d.area ++ (codes "\t.text\n" ++ flat_map item_line d.items)) refl (before.1 ∙ r.text)
by_stage bytes line stages.Area rest d before wrong unended r = no_text_begins bytes before.0 line rest d.area d.items [] before.1 wrong r.valid (sym (whole_text bytes d r))
by_stage bytes line stages.Code rest d before wrong unended r = refused_code bytes before.0 before.1.0 line rest d before.1.1 wrong (unended refl) r

pub no_code : (bytes : List ℕ) (line : ℕ) (kind : AsmKind) → IsFirstWrong bytes line kind → (d : Code) → Reads bytes d → ⊥
no_code bytes line kind h d r = by_stage bytes line h.stage h.rest d h.before h.wrong h.unended r

refused_by : (bytes : List ℕ) (fault : AsmFault) → IsFault bytes fault → Refused bytes fault
refused_by bytes faults.NoMemory h = tt
refused_by bytes (faults.Line line kind) h = λ d r. no_code bytes line kind h d r

pub refused : (bytes : List ℕ) (r : Result Code AsmFault) → IfErr r (IsFault bytes) → IfErr r (Refused bytes)
refused bytes (Ok c) h = h
refused bytes (Err e) h = refused_by bytes e h

-- a text has one first wrong line

abbrev SamePlace : Stage → ℕ → List ℕ → Stage → ℕ → List ℕ → Type 0
SamePlace stage line rest stage2 line2 rest2 = (stage ≡ stage2) × (line ≡ line2) × (rest ≡ rest2)

same_in_area : (bytes : List ℕ) (area area2 : List AreaItem) (line line2 : ℕ) (rest rest2 : List ℕ) → AreaLines bytes area line rest → AreaLines bytes area2 line2 rest2
    → NoLine stages.Area rest → NoLine stages.Area rest2 → (line ≡ line2) × (rest ≡ rest2)
same_in_area bytes area area2 line line2 rest rest2 h k wrong wrong2 =
    let inner = append_cancel_left (codes "\t.data\n") (flat_map area_line area ++ rest) (flat_map area_line area2 ++ rest2) (sym h.text ∙ k.text) in
    let a = same_area area area2 rest rest2 h.valid k.valid (wrong_has_no_area rest wrong) (wrong_has_no_area rest2 wrong2) inner in
    (omega (arith, h.number, k.number, ap length a.0), a.1)

same_in_code : (bytes : List ℕ) (area area2 : List AreaItem) (items items2 : List CodeItem) (line line2 : ℕ) (rest rest2 : List ℕ) → CodeLines bytes area items line rest
    → CodeLines bytes area2 items2 line2 rest2 → NoLine stages.Code rest → NoLine stages.Code rest2 → (line ≡ line2) × (rest ≡ rest2)
same_in_code bytes area area2 items items2 line line2 rest rest2 h k wrong wrong2 =
    let t = same_texts area area2 items items2 rest rest2 h.valid k.valid (wrong_has_no_code rest wrong) (wrong_has_no_code rest2 wrong2) (sym h.text ∙ k.text) in
    (omega (arith, h.number, k.number, ap length t.0, ap length t.1), t.2)

-- a text that begins with `.data` is not wrong at its start
no_start : (bytes rest more : List ℕ) → rest ≡ bytes → NoLine stages.Start rest → bytes ≡ codes "\t.data\n" ++ more → ⊥
no_start bytes rest more is wrong e = wrong (codes "\t.data\n") more refl (is ∙ e)

same_place : (bytes : List ℕ) (stage stage2 : Stage) (line line2 : ℕ) (rest rest2 : List ℕ) → LinesBefore stage bytes line rest → LinesBefore stage2 bytes line2 rest2 → NoLine stage rest
    → NoLine stage2 rest2 → SamePlace stage line rest stage2 line2 rest2
same_place bytes stages.Start stages.Start line line2 rest rest2 h k wrong wrong2 = (refl, h.0 ∙ sym k.0, h.1 ∙ sym k.1)
same_place bytes stages.Start stages.Area line line2 rest rest2 h k wrong wrong2 = absurd (no_start bytes rest _ h.1 wrong k.1.text)
same_place bytes stages.Start stages.Code line line2 rest rest2 h k wrong wrong2 = absurd (no_start bytes rest _ h.1 wrong (k.1.1.text ∙ behind_data k.0 k.1.0 rest2))
same_place bytes stages.Area stages.Start line line2 rest rest2 h k wrong wrong2 = absurd (no_start bytes rest2 _ k.1 wrong2 h.1.text)
same_place bytes stages.Area stages.Area line line2 rest rest2 h k wrong wrong2 =
    let s = same_in_area bytes h.0 k.0 line line2 rest rest2 h.1 k.1 wrong wrong2 in
    (refl, s.0, s.1)
same_place bytes stages.Area stages.Code line line2 rest rest2 h k wrong wrong2 = absurd (no_text_begins bytes h.0 line rest k.0 k.1.0 rest2 h.1 wrong k.1.1.valid k.1.1.text)
same_place bytes stages.Code stages.Start line line2 rest rest2 h k wrong wrong2 = absurd (no_start bytes rest2 _ k.1 wrong2 (h.1.1.text ∙ behind_data h.0 h.1.0 rest))
same_place bytes stages.Code stages.Area line line2 rest rest2 h k wrong wrong2 = absurd (no_text_begins bytes k.0 line2 rest2 h.0 h.1.0 rest k.1 wrong2 h.1.1.valid h.1.1.text)
same_place bytes stages.Code stages.Code line line2 rest rest2 h k wrong wrong2 =
    let s = same_in_code bytes h.0 k.0 h.1.0 k.1.0 line line2 rest rest2 h.1.1 k.1.1 wrong wrong2 in
    (refl, s.0, s.1)

one_first_wrong : (bytes : List ℕ) (line line2 : ℕ) (kind kind2 : AsmKind) → IsFirstWrong bytes line kind → IsFirstWrong bytes line2 kind2 → (line2 ≡ line) × (kind2 ≡ kind)
one_first_wrong bytes line line2 kind kind2 h k =
    let p = same_place bytes k.stage h.stage line2 line k.rest h.rest k.before h.before k.wrong h.wrong in
    let moved : IsKind h.stage h.rest kind2 = subst (λ (r : List ℕ). IsKind h.stage r kind2) p.2 (subst (λ (s : Stage). IsKind s k.rest kind2) p.0 k.kind_is) in
    (p.1, one_kind h.stage h.rest kind2 kind moved h.kind_is)

alone_by : (bytes : List ℕ) (fault : AsmFault) → IsFault bytes fault → IsOnlyFault bytes fault
alone_by bytes faults.NoMemory h = tt
alone_by bytes (faults.Line line kind) h = λ n k other. one_first_wrong bytes line n kind k h other

pub alone : (bytes : List ℕ) (r : Result Code AsmFault) → IfErr r (IsFault bytes) → IfErr r (IsOnlyFault bytes)
alone bytes (Ok c) h = h
alone bytes (Err e) h = alone_by bytes e h

-- reading gives back what was written

given_back : (bytes : List ℕ) (c : Code) (fault : AsmFault) → IsFault bytes fault → Reads bytes c → GivesBack c (Err fault)
given_back bytes c faults.NoMemory h r = tt
given_back bytes c (faults.Line line kind) h r = no_code bytes line kind h c r

pub inverse : (bytes : List ℕ) (r : Result Code AsmFault) → IfOk r (Reads bytes) → IfErr r (IsFault bytes) → Inverts bytes r
inverse bytes (Ok d) found first = λ c r. unique bytes d c found r
inverse bytes (Err e) found first = λ c r. given_back bytes c e first r

-- the count of the lines stays below the length of the text
