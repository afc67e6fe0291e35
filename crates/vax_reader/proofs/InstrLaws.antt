-- An instruction at the front is its one spelling, and each spelling is found.
use Rattle.std.proofs.Common.{◌≡◌, ℕ, suc, Bool, true, false, cond, ◌&&◌, List, [], ◌∷◌, ◌++◌, length, Option, Some, None, refl, sym, ap, subst, ◌∙◌, arith, append_assoc}
use Rattle.std.specs.Prelude.{codes}
use Rattle.std.specs.Option.{option_map, option_and_then}
use Rattle.std.proofs.lemmas.Bool.{and_parts}
use Rattle.std.proofs.lemmas.List.{append-nil, take_at, drop_at, take-append-drop}
use Rattle.std.proofs.lemmas.Option.{same_Some, option_and_then_some, cond_some}
use Rattle.gg_base.specs.Fronts.{run_len}
use Rattle.vax_core.specs.declared.operand.Operand.{Operand}
use Rattle.vax_core.specs.declared.op.Op.{Op}
use Rattle.vax_core.specs.declared.op.OperandKind.{OperandKind}
use Rattle.vax_core.specs.declared.code.Instr.{Instr}
use Rattle.vax_core.specs.Ops.{shape}
use Rattle.vax_core.specs.Text.{operand_text, operands_text, tail_text, instr_text}
use Rattle.vax_core.specs.Valid.{allows, is_base, is_index, is_operand, are_operands, is_target, is_instr}
use Rattle.vax_reader.specs.Fronts.{strip, name_front}
use Rattle.vax_reader.specs.Operands.{operand_front}
use Rattle.vax_core.specs.Mnemonics.{op_of}
use Rattle.vax_reader.specs.Lines.{in_word, word_at, behind_word, is_last, comma, operands_front, some_target, target_front, made, checked, with_target, behind_operands}
use Rattle.vax_reader.specs.Lines.{behind_tab, behind_mnemonic, instr_front}
use Rattle.vax_reader.proofs.Choices.{map_some}
use Rattle.vax_reader.proofs.FrontLaws.{strip_takes}
use Rattle.vax_reader.proofs.NameLaws.{EndsName, name_takes, name_again}
use Rattle.vax_reader.proofs.OperandLaws.{operand_takes, operand_again, EndsOperand, comma_ends}
use Rattle.vax_core.proofs.MnemonicLaws.{op_takes, op_again}
use Rattle.vax_reader.proofs.OpLaws.{is_word}

-- operands, each with the comma behind it

abbrev mark : Bool → List ℕ
mark true = []
mark false = codes ","

abbrev listed : List Operand → Bool → List ℕ
listed [] target = []
listed (o ∷ os) target = operand_text o ++ (mark (is_last os target) ++ listed os target)

same_last : (kinds : List OperandKind) (os : List Operand) (target : Bool) → length os ≡ length kinds → is_last kinds target ≡ is_last os target
same_last [] [] target e = refl
same_last [] (o ∷ os) target e = absurd (omega arith)
same_last (kind ∷ kinds) [] target e = absurd (omega arith)
same_last (kind ∷ kinds) (o ∷ os) target e = refl

text_alone : (os : List Operand) → operands_text os None ≡ listed os false
text_alone [] = refl
text_alone (o ∷ []) = sym (append-nil (operand_text o))
text_alone (o ∷ (p ∷ os)) = ap (λ (t : List ℕ). operand_text o ++ (codes "," ++ t)) (text_alone (p ∷ os))

more_text : (o : Operand) (rest label : List ℕ) (whole : List ℕ) → whole ≡ rest ++ label → operand_text o ++ (codes "," ++ whole) ≡ (operand_text o ++ (codes "," ++ rest)) ++ label
more_text o rest label whole e = ap (λ (t : List ℕ). operand_text o ++ (codes "," ++ t)) e ∙ sym (append_assoc (operand_text o) (codes "," ++ rest) label)

text_before : (os : List Operand) (label : List ℕ) → operands_text os (Some label) ≡ listed os true ++ label
text_before [] label = refl
text_before (o ∷ []) label = more_text o [] label label refl
text_before (o ∷ (p ∷ os)) label = more_text o (listed (p ∷ os) true) label (operands_text (p ∷ os) (Some label)) (text_before (p ∷ os) label)

comma_takes : (last : Bool) (bytes rest : List ℕ) → comma last bytes ≡ Some rest → bytes ≡ mark last ++ rest
comma_takes true bytes rest e = same_Some bytes rest e
comma_takes false bytes rest e = strip_takes (codes ",") bytes rest e

comma_again : (last : Bool) (rest : List ℕ) → comma last (mark last ++ rest) ≡ Some rest
comma_again true rest = refl
comma_again false rest = refl

-- as many operands as there are kinds are at the front
record ListAt (read : List Operand) (kinds : List OperandKind) (target : Bool) (bytes : List ℕ) (x : List Operand × List ℕ) : Type 0 where
  more : List Operand
  is : x.0 ≡ read ++ more
  count : length more ≡ length kinds
  spelled : bytes ≡ listed more target ++ x.1

operands_take : (read : List Operand) (kinds : List OperandKind) (target : Bool) (bytes : List ℕ) (x : List Operand × List ℕ) → operands_front read kinds target bytes ≡ Some x
    → ListAt read kinds target bytes x
operands_take read [] target bytes x e =
    subst (ListAt read [] target bytes) (same_Some (read, bytes) x e) (record { more = []; is = sym (append-nil read); count = refl; spelled = refl })
operands_take read (kind ∷ kinds) target bytes x e =
    option_and_then_some (λ (y : Operand × List ℕ). option_and_then (λ (rest : List ℕ). operands_front (read ++ y.0 ∷ []) kinds target rest) (comma (is_last kinds target) y.1))
    (operand_front bytes) x e (λ y ey more.
    option_and_then_some (λ (rest : List ℕ). operands_front (read ++ y.0 ∷ []) kinds target rest) (comma (is_last kinds target) y.1) x more (λ rest er last.
    let h = operands_take (read ++ y.0 ∷ []) kinds target rest x last in
    let o = operand_takes bytes y ey in
    let between : y.1 ≡ mark (is_last h.more target) ++ rest = comma_takes (is_last kinds target) y.1 rest er ∙ ap (λ (b : Bool). mark b ++ rest) (same_last kinds h.more target h.count) in
    record {
      more = y.0 ∷ h.more;
      is = h.is ∙ append_assoc read (y.0 ∷ []) h.more;
      count = ap suc h.count;
      spelled =
          o.spelled
          ∙ ap (λ (t : List ℕ). operand_text y.0 ++ t) (between ∙ ap (λ (t : List ℕ). mark (is_last h.more target) ++ t) h.spelled
          ∙ sym (append_assoc (mark (is_last h.more target)) (listed h.more target) x.1))
          ∙ sym (append_assoc (operand_text y.0) (mark (is_last h.more target) ++ listed h.more target) x.1);
    }))

-- what ends the last operand
marks_end : (os : List Operand) (target : Bool) (rest : List ℕ) → (target ≡ false → EndsOperand rest) → EndsOperand (mark (is_last os target) ++ (listed os target ++ rest))
marks_end [] true rest ends = comma_ends rest
marks_end [] false rest ends = ends refl
marks_end (o ∷ os) target rest ends = comma_ends _

same_count : (kinds : List OperandKind) (os : List Operand) → are_operands kinds os ≡ true → length os ≡ length kinds
same_count [] [] h = refl
same_count [] (o ∷ os) h = absurd (cc)
same_count (kind ∷ kinds) [] h = absurd (cc)
same_count (kind ∷ kinds) (o ∷ os) h = ap suc (same_count kinds os (and_parts (is_operand kind o) (are_operands kinds os) h).1)

operands_again : (read : List Operand) (kinds : List OperandKind) (target : Bool) (os : List Operand) (rest : List ℕ) → are_operands kinds os ≡ true → (target ≡ false → EndsOperand rest)
    → operands_front read kinds target (listed os target ++ rest) ≡ Some (read ++ os, rest)
operands_again read [] target [] rest h ends = ap (λ (t : List Operand). Some (t, rest)) (sym (append-nil read))
operands_again read [] target (o ∷ os) rest h ends = absurd (cc)
operands_again read (kind ∷ kinds) target [] rest h ends = absurd (cc)
operands_again read (kind ∷ kinds) target (o ∷ os) rest h ends =
    let p = and_parts (is_operand kind o) (are_operands kinds os) h in
    let q = and_parts (is_base o.base) (is_index o.base o.index) (and_parts (allows kind.access o.base) _ p.0).1 in
    let behind = listed os target ++ rest in
    let between = mark (is_last os target) in
    let shifted : (operand_text o ++ (between ++ listed os target)) ++ rest ≡ operand_text o ++ (between ++ behind) =
    append_assoc (operand_text o) (between ++ listed os target) rest ∙ ap (λ (t : List ℕ). operand_text o ++ t) (append_assoc between (listed os target) rest) in
    ap (operands_front read (kind ∷ kinds) target) shifted
    ∙ rw (operand_again o (between ++ behind) q.0 (marks_end os target rest ends), same_last kinds os target (same_count kinds os p.1), comma_again (is_last os target) behind)
    (operands_again (read ++ o ∷ []) kinds target os rest p.1 ends ∙ ap (λ (t : List Operand). Some (t, rest)) (append_assoc read (o ∷ []) os))

-- an instruction's operands and label

record TailAt (op : Op) (bytes : List ℕ) (x : Instr × List ℕ) : Type 0 where
  same : x.0.op ≡ op
  valid : is_instr x.0 ≡ true
  spelled : bytes ≡ tail_text x.0.operands x.0.target ++ x.1

target_text : (target : Bool) (os : List Operand) (bytes : List ℕ) (x : Option (List ℕ) × List ℕ) → target_front target bytes ≡ Some x → listed os target ++ bytes ≡ operands_text os x.0 ++ x.1
target_text true os bytes x e =
    map_some some_target (name_front bytes) x e (λ y ey is.
    subst (λ (z : Option (List ℕ) × List ℕ). listed os true ++ bytes ≡ operands_text os z.0 ++ z.1) is
    (ap (λ (t : List ℕ). listed os true ++ t) (name_takes bytes y ey).1 ∙ sym (append_assoc (listed os true) y.0 y.1) ∙ ap (λ (t : List ℕ). t ++ y.1) (sym (text_before os y.0))))
target_text false os bytes x e =
    subst (λ (z : Option (List ℕ) × List ℕ). listed os false ++ bytes ≡ operands_text os z.0 ++ z.1) (same_Some (None, bytes) x e) (ap (λ (t : List ℕ). t ++ bytes) (sym (text_alone os)))

tab_before : (kinds : List OperandKind) (target : Bool) (os : List Operand) (label : Option (List ℕ)) → is_last kinds target ≡ false → are_operands kinds os ≡ true → is_target target label
    ≡ true → tail_text os label ≡ codes "\t" ++ operands_text os label
tab_before kinds target [] (Some label) l h t = refl
tab_before kinds target (o ∷ os) None l h t = refl
tab_before kinds target (o ∷ os) (Some label) l h t = refl
tab_before [] true [] None l h t = absurd (cc)
tab_before [] false [] None l h t = absurd (cc)
tab_before (kind ∷ kinds) target [] None l h t = absurd (cc)

bare_valid : (kinds : List OperandKind) (target : Bool) → is_last kinds target ≡ true → (are_operands kinds [] && is_target target None) ≡ true
bare_valid [] true h = absurd (cc)
bare_valid [] false h = refl
bare_valid (kind ∷ kinds) target h = absurd (cc)

behind_takes : (op : Op) (bytes : List ℕ) (x : Instr × List ℕ) → is_last (shape op).operands (shape op).target ≡ false → option_and_then (behind_tab op) (strip (codes "\t") bytes) ≡ Some x
    → TailAt op bytes x
behind_takes op bytes x l e =
    let kinds = (shape op).operands in
    let target = (shape op).target in
    option_and_then_some (behind_tab op) (strip (codes "\t") bytes) x e (λ rest er more.
    option_and_then_some (behind_operands op target) (operands_front [] kinds target rest) x more (λ y ey more2.
    option_and_then_some checked (option_map (with_target op y.0) (target_front target y.1)) x more2 (λ z ez check.
    map_some (with_target op y.0) (target_front target y.1) z ez (λ w ew is.
    let c = cond_some (is_instr z.0) z x check in
    let h = operands_take [] kinds target rest y ey in
    let valid : is_instr (made op y.0 w.0) ≡ true = subst (λ (v : Instr × List ℕ). is_instr v.0 ≡ true) (sym is) c.0 in
    let p = and_parts (are_operands kinds y.0) (is_target target w.0) valid in
    let text : rest ≡ operands_text y.0 w.0 ++ w.1 =
    h.spelled ∙ ap (λ (os : List Operand). listed os target ++ y.1) (sym h.is) ∙ target_text target y.0 y.1 w ew in
    subst (TailAt op bytes) (is ∙ c.1) (record {
      same = refl;
      valid = valid;
      spelled = strip_takes (codes "\t") bytes rest er ∙ ap (λ (t : List ℕ). codes "\t" ++ t) text ∙ ap (λ (t : List ℕ). t ++ w.1) (sym (tab_before kinds target y.0 w.0 l p.0 p.1));
    })))))

mnemonic_takes : (op : Op) (bytes : List ℕ) (x : Instr × List ℕ) → behind_mnemonic op bytes ≡ Some x → TailAt op bytes x
unfolding behind_mnemonic
mnemonic_takes op bytes x e = by_shape (is_last (shape op).operands (shape op).target) refl e
  where
    by_shape : (b : Bool) → is_last (shape op).operands (shape op).target ≡ b → cond b (Some (made op [] None, bytes)) (option_and_then (behind_tab op) (strip (codes "\t") bytes)) ≡ Some x
        → TailAt op bytes x
    by_shape true l f = subst (TailAt op bytes) (same_Some (made op [] None, bytes) x f) (record { same = refl; valid = bare_valid (shape op).operands (shape op).target l; spelled = refl })
    by_shape false l f = behind_takes op bytes x l f

-- what ends a line's instruction
pub record EndsLine (rest : List ℕ) : Type 0 where
  pub operand : EndsOperand rest
  pub name : EndsName rest
  pub word : run_len in_word rest ≡ 0

tab_again : (op : Op) (kinds : List OperandKind) (target : Bool) (os : List Operand) (label : Option (List ℕ)) (rest : List ℕ) → are_operands kinds os ≡ true → is_target target label
    ≡ true → EndsLine rest → option_and_then (behind_operands op target) (operands_front [] kinds target (operands_text os label ++ rest)) ≡ checked (made op os label, rest)
tab_again op kinds true os None rest h t ends = absurd (cc)
tab_again op kinds false os (Some label) rest h t ends = absurd (cc)
tab_again op kinds false os None rest h t ends =
    ap (λ (x : List ℕ). option_and_then (behind_operands op false) (operands_front [] kinds false (x ++ rest))) (text_alone os)
    ∙ rw (operands_again [] kinds false os rest h (λ e. ends.operand)) refl
tab_again op kinds true os (Some label) rest h t ends =
    ap (λ (x : List ℕ). option_and_then (behind_operands op true) (operands_front [] kinds true x)) (ap (λ (x : List ℕ). x ++ rest) (text_before os label) ∙ append_assoc (listed os true) label rest)
    ∙ rw (operands_again [] kinds true os (label ++ rest) h (λ e. absurd (cc)), name_again label rest t ends.name) refl

bare_is : (kinds : List OperandKind) (target : Bool) (os : List Operand) (label : Option (List ℕ)) → is_last kinds target ≡ true → are_operands kinds os ≡ true → is_target target label
    ≡ true → (os ≡ []) × (label ≡ None)
bare_is [] false [] None l h t = (refl, refl)
bare_is _ _ _ _ l h t = absurd (cc)

bare_again : (op : Op) (os : List Operand) (label : Option (List ℕ)) (rest : List ℕ) → (os ≡ []) × (label ≡ None)
    → ◌≡◌ {A = Option (Instr × List ℕ)} (Some (made op [] None, tail_text os label ++ rest)) (Some (made op os label, rest))
bare_again op os label rest e = rw (e.0, e.1) refl

mnemonic_again : (op : Op) (os : List Operand) (label : Option (List ℕ)) (rest : List ℕ) → is_instr (made op os label) ≡ true → EndsLine rest
    → behind_mnemonic op (tail_text os label ++ rest) ≡ Some (made op os label, rest)
unfolding behind_mnemonic
mnemonic_again op os label rest valid ends = by_shape (is_last (shape op).operands (shape op).target) refl
  where
    by_shape : (b : Bool) → is_last (shape op).operands (shape op).target ≡ b
        → cond b (Some (made op [] None, tail_text os label ++ rest)) (option_and_then (behind_tab op) (strip (codes "\t") (tail_text os label ++ rest))) ≡ Some (made op os label, rest)
    by_shape true l =
        let p = and_parts (are_operands (shape op).operands os) (is_target (shape op).target label) valid in
        bare_again op os label rest (bare_is (shape op).operands (shape op).target os label l p.0 p.1)
    by_shape false l =
        let p = and_parts (are_operands (shape op).operands os) (is_target (shape op).target label) valid in
        ap (λ (t : List ℕ). option_and_then (behind_tab op) (strip (codes "\t") (t ++ rest))) (tab_before (shape op).operands (shape op).target os label l p.0 p.1)
        ∙ tab_again op (shape op).operands (shape op).target os label rest p.0 p.1 ends
        ∙ rw valid refl

-- instructions

pub record InstrAt (bytes : List ℕ) (x : Instr × List ℕ) : Type 0 where
  pub valid : is_instr x.0 ≡ true
  pub spelled : codes "\t" ++ bytes ≡ instr_text x.0 ++ x.1

pub instr_takes : (bytes : List ℕ) (x : Instr × List ℕ) → instr_front bytes ≡ Some x → InstrAt bytes x
unfolding instr_front
instr_takes bytes x e =
    option_and_then_some (λ (op : Op). behind_mnemonic op (behind_word bytes)) (op_of (word_at bytes)) x e (λ op eo more.
    let t = mnemonic_takes op (behind_word bytes) x more in
    let tail = tail_text x.0.operands x.0.target in
    let whole : bytes ≡ (shape op).mnemonic ++ (tail ++ x.1) =
    sym (take-append-drop (run_len in_word bytes) bytes) ∙ ap (λ (w : List ℕ). w ++ behind_word bytes) (op_takes (word_at bytes) op eo) ∙ ap (λ (w : List ℕ). (shape op).mnemonic ++ w) t.spelled in
    record {
      valid = t.valid;
      spelled = ap (λ (w : List ℕ). codes "\t" ++ w) (whole ∙ ap (λ (o : Op). (shape o).mnemonic ++ (tail ++ x.1)) (sym t.same) ∙ sym (append_assoc (shape x.0.op).mnemonic tail x.1));
    })

no_word : (os : List Operand) (label : Option (List ℕ)) (rest : List ℕ) → run_len in_word rest ≡ 0 → run_len in_word (tail_text os label ++ rest) ≡ 0
no_word [] None rest h = h
no_word [] (Some label) rest h = refl
no_word (o ∷ os) None rest h = refl
no_word (o ∷ os) (Some label) rest h = refl

pub instr_again : (i : Instr) (rest : List ℕ) → is_instr i ≡ true → EndsLine rest → instr_front (((shape i.op).mnemonic ++ tail_text i.operands i.target) ++ rest) ≡ Some (i, rest)
unfolding instr_front
instr_again i rest valid ends =
    let mnemonic = (shape i.op).mnemonic in
    let behind = tail_text i.operands i.target ++ rest in
    ap instr_front (append_assoc mnemonic (tail_text i.operands i.target) rest)
    ∙ rw (
      is_word i.op behind (no_word i.operands i.target rest ends.word),
      take_at mnemonic behind (length mnemonic) refl,
      drop_at mnemonic behind (length mnemonic) refl,
      op_again i.op,
      mnemonic_again i.op i.operands i.target rest valid ends,
    ) refl
