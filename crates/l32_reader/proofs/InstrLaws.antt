-- An instruction at the front is its one spelling, and each spelling is found.
use Rattle.std.proofs.Common.{◌≡◌, ℕ, true, List, [], ◌∷◌, ◌++◌, length, Option, Some, None, refl, sym, ap, subst, ◌∙◌, append_assoc}
use Rattle.std.specs.Prelude.{codes}
use Rattle.std.specs.Option.{option_map, option_and_then}
use Rattle.std.proofs.lemmas.Bool.{eq-eqb, and_parts}
use Rattle.std.proofs.lemmas.List.{append-nil, take_at, drop_at, take-append-drop}
use Rattle.std.proofs.lemmas.Option.{none-some, same_Some, option_and_then_some, cond_some}
use Rattle.gg_base.specs.Fronts.{run_len}
use Rattle.vax_core.specs.Valid.{is_name}
use Rattle.vax_reader.specs.Fronts.{strip, name_front}
use Rattle.vax_reader.specs.Lines.{in_word, word_at, behind_word}
use Rattle.vax_reader.proofs.Choices.{map_some}
use Rattle.vax_reader.proofs.FrontLaws.{strip_takes}
use Rattle.vax_reader.proofs.NameLaws.{name_takes, name_again}
use Rattle.vax_reader.proofs.OperandLaws.{EndsAddr}
use Rattle.l32_core.specs.declared.op.Op32.{Op32}
use Rattle.l32_core.specs.declared.op.Part.{Part}
use Rattle.l32_core.specs.declared.op.Part.TheVariants as parts
use Rattle.l32_core.specs.declared.operand.Operand32.{Operand32}
use Rattle.l32_core.specs.declared.code.Instr32.{Instr32}
use Rattle.l32_core.specs.Ops.{shape}
use Rattle.l32_core.specs.Mnemonics.{op_of}
use Rattle.l32_core.specs.Text.{operand_text, parts_text, instr_text}
use Rattle.l32_core.specs.Valid.{suits, fits, is_instr}
use Rattle.l32_core.proofs.MnemonicLaws.{op_takes, op_again}
use Rattle.l32_reader.specs.Operands.{operand_front}
use Rattle.l32_reader.specs.Lines.{Found, parts_front, made, checked, behind_mnemonic, instr_front}
use Rattle.l32_reader.proofs.OperandLaws.{operand_takes, operand_again}
use Rattle.l32_reader.proofs.OpLaws.{is_word}

-- one more operand in front of what was read
operand_first : (mark : List ℕ) (bytes behind after tail rest : List ℕ) (o : Operand32) → strip mark bytes ≡ Some behind → behind ≡ operand_text o ++ after → after ≡ tail ++ rest
    → bytes ≡ (mark ++ (operand_text o ++ tail)) ++ rest
operand_first mark bytes behind after tail rest o e f g =
    strip_takes mark bytes behind e
    ∙ ap (λ (t : List ℕ). mark ++ t) (f ∙ ap (λ (t : List ℕ). operand_text o ++ t) g ∙ sym (append_assoc (operand_text o) tail rest))
    ∙ sym (append_assoc mark (operand_text o ++ tail) rest)

-- the parts behind the label are at the front
record RestAt (mark : List ℕ) (ps : List Part) (read : List Operand32) (label : List ℕ) (bytes : List ℕ) (x : Found) : Type 0 where
  more : List Operand32
  is : x.0.0 ≡ read ++ more
  label_is : x.0.1 ≡ Some label
  spelled : bytes ≡ parts_text mark ps more None ++ x.1

rest_takes : (mark : List ℕ) (ps : List Part) (read : List Operand32) (label : List ℕ) (bytes : List ℕ) (x : Found) → parts_front mark ps read (Some label) bytes ≡ Some x
    → RestAt mark ps read label bytes x
rest_takes mark [] read label bytes x e =
    subst (RestAt mark [] read label bytes) (same_Some ((read, Some label), bytes) x e) (record { more = []; is = sym (append-nil read); label_is = refl; spelled = refl })
rest_takes mark (parts.Label ∷ ps) read label bytes x e = absurd (none-some x e)
rest_takes mark (parts.Operand role ∷ ps) read label bytes x e =
    option_and_then_some (λ (y : Operand32 × List ℕ). parts_front (codes ",") ps (read ++ y.0 ∷ []) (Some label) y.1) (option_and_then operand_front (strip mark bytes)) x e (λ y ey next.
    option_and_then_some operand_front (strip mark bytes) y ey (λ behind eb eo.
    let h = rest_takes (codes ",") ps (read ++ y.0 ∷ []) label y.1 x next in
    record {
      more = y.0 ∷ h.more;
      is = h.is ∙ append_assoc read (y.0 ∷ []) h.more;
      label_is = h.label_is;
      spelled = operand_first mark bytes behind y.1 (parts_text (codes ",") ps h.more None) x.1 y.0 eb (operand_takes behind y eo).spelled h.spelled;
    }))

-- the parts are at the front
record PartsAt (mark : List ℕ) (ps : List Part) (read : List Operand32) (bytes : List ℕ) (x : Found) : Type 0 where
  more : List Operand32
  is : x.0.0 ≡ read ++ more
  spelled : bytes ≡ parts_text mark ps more x.0.1 ++ x.1

label_text : (mark : List ℕ) (ps : List Part) (os : List Operand32) (label bytes behind after rest : List ℕ) (target : Option (List ℕ)) → strip mark bytes ≡ Some behind → behind ≡ label ++ after
    → after ≡ parts_text (codes ",") ps os None ++ rest → target ≡ Some label → bytes ≡ parts_text mark (parts.Label ∷ ps) os target ++ rest
label_text mark ps os label bytes behind after rest target e f g is =
    let tail = parts_text (codes ",") ps os None in
    let whole : bytes ≡ (mark ++ (label ++ tail)) ++ rest =
    strip_takes mark bytes behind e ∙ ap (λ (t : List ℕ). mark ++ t) (f ∙ ap (λ (t : List ℕ). label ++ t) g ∙ sym (append_assoc label tail rest)) ∙ sym (append_assoc mark (label ++ tail) rest) in
    subst (λ (t : Option (List ℕ)). bytes ≡ parts_text mark (parts.Label ∷ ps) os t ++ rest) (sym is) whole

parts_take : (mark : List ℕ) (ps : List Part) (read : List Operand32) (bytes : List ℕ) (x : Found) → parts_front mark ps read None bytes ≡ Some x → PartsAt mark ps read bytes x
parts_take mark [] read bytes x e =
    subst (PartsAt mark [] read bytes) (same_Some ((read, None), bytes) x e) (record { more = []; is = sym (append-nil read); spelled = refl })
parts_take mark (parts.Label ∷ ps) read bytes x e =
    option_and_then_some (λ (y : List ℕ × List ℕ). parts_front (codes ",") ps read (Some y.0) y.1) (option_and_then name_front (strip mark bytes)) x e (λ y ey next.
    option_and_then_some name_front (strip mark bytes) y ey (λ behind eb en.
    let h = rest_takes (codes ",") ps read y.0 y.1 x next in
    record {
      more = h.more;
      is = h.is;
      spelled = label_text mark ps h.more y.0 bytes behind y.1 x.1 x.0.1 eb (name_takes behind y en).1 h.spelled h.label_is;
    }))
parts_take mark (parts.Operand role ∷ ps) read bytes x e =
    option_and_then_some (λ (y : Operand32 × List ℕ). parts_front (codes ",") ps (read ++ y.0 ∷ []) None y.1) (option_and_then operand_front (strip mark bytes)) x e (λ y ey next.
    option_and_then_some operand_front (strip mark bytes) y ey (λ behind eb eo.
    let h = parts_take (codes ",") ps (read ++ y.0 ∷ []) y.1 x next in
    record {
      more = y.0 ∷ h.more;
      is = h.is ∙ append_assoc read (y.0 ∷ []) h.more;
      spelled = operand_first mark bytes behind y.1 (parts_text (codes ",") ps h.more x.0.1) x.1 y.0 eb (operand_takes behind y eo).spelled h.spelled;
    }))

-- what is spelled is found

strip_again : (word rest : List ℕ) → strip word (word ++ rest) ≡ Some rest
strip_again [] rest = refl
strip_again (c ∷ cs) rest = rw (eq-eqb c c refl) (strip_again cs rest)

comma_ends : (rest : List ℕ) → EndsAddr (44 ∷ rest)
comma_ends rest = record { offset = record { number = refl; plus = refl; minus = refl }; name = refl }

parts_end : (ps : List Part) (os : List Operand32) (target : Option (List ℕ)) (rest : List ℕ) → EndsAddr rest → EndsAddr (parts_text (codes ",") ps os target ++ rest)
parts_end [] os target rest h = h
parts_end (parts.Label ∷ ps) os None rest h = h
parts_end (parts.Label ∷ ps) os (Some name) rest h = comma_ends _
parts_end (parts.Operand role ∷ ps) [] target rest h = h
parts_end (parts.Operand role ∷ ps) (o ∷ os) target rest h = comma_ends _

shifted : (mark first tail rest : List ℕ) → (mark ++ (first ++ tail)) ++ rest ≡ mark ++ (first ++ (tail ++ rest))
shifted mark first tail rest = append_assoc mark (first ++ tail) rest ∙ ap (λ (t : List ℕ). mark ++ t) (append_assoc first tail rest)

abbrev found : List Operand32 → Option (List ℕ) → List ℕ → Option Found
found os target rest = Some ((os, target), rest)

rest_again : (mark : List ℕ) (ps : List Part) (os : List Operand32) (read : List Operand32) (label rest : List ℕ) → fits ps os None ≡ true → EndsAddr rest
    → parts_front mark ps read (Some label) (parts_text mark ps os None ++ rest) ≡ found (read ++ os) (Some label) rest
rest_again mark [] [] read label rest h ends = ap (λ (t : List Operand32). found t (Some label) rest) (sym (append-nil read))
rest_again mark (parts.Operand role ∷ ps) (o ∷ os) read label rest h ends =
    let p = and_parts (suits role o) (fits ps os None) h in
    let behind = parts_text (codes ",") ps os None ++ rest in
    ap (parts_front mark (parts.Operand role ∷ ps) read (Some label)) (shifted mark (operand_text o) (parts_text (codes ",") ps os None) rest)
    ∙ rw (strip_again mark (operand_text o ++ behind), operand_again role o p.0 behind (parts_end ps os None rest ends))
    (rest_again (codes ",") ps os (read ++ o ∷ []) label rest p.1 ends ∙ ap (λ (t : List Operand32). found t (Some label) rest) (append_assoc read (o ∷ []) os))
rest_again mark _ _ read label rest h ends = absurd (cc)

parts_again : (mark : List ℕ) (ps : List Part) (os : List Operand32) (target : Option (List ℕ)) (read : List Operand32) (rest : List ℕ) → fits ps os target ≡ true → EndsAddr rest
    → parts_front mark ps read None (parts_text mark ps os target ++ rest) ≡ found (read ++ os) target rest
parts_again mark [] [] None read rest h ends = ap (λ (t : List Operand32). found t None rest) (sym (append-nil read))
parts_again mark (parts.Label ∷ ps) os (Some name) read rest h ends =
    let p = and_parts (is_name name) (fits ps os None) h in
    let behind = parts_text (codes ",") ps os None ++ rest in
    ap (parts_front mark (parts.Label ∷ ps) read None) (shifted mark name (parts_text (codes ",") ps os None) rest)
    ∙ rw (strip_again mark (name ++ behind), name_again name behind p.0 (parts_end ps os None rest ends).name)
    (rest_again (codes ",") ps os read name rest p.1 ends)
parts_again mark (parts.Operand role ∷ ps) (o ∷ os) target read rest h ends =
    let p = and_parts (suits role o) (fits ps os target) h in
    let behind = parts_text (codes ",") ps os target ++ rest in
    ap (parts_front mark (parts.Operand role ∷ ps) read None) (shifted mark (operand_text o) (parts_text (codes ",") ps os target) rest)
    ∙ rw (strip_again mark (operand_text o ++ behind), operand_again role o p.0 behind (parts_end ps os target rest ends))
    (parts_again (codes ",") ps os target (read ++ o ∷ []) rest p.1 ends ∙ ap (λ (t : List Operand32). found t target rest) (append_assoc read (o ∷ []) os))
parts_again mark _ _ _ read rest h ends = absurd (cc)

-- what stands behind a mnemonic

record TailAt (op : Op32) (bytes : List ℕ) (x : Instr32 × List ℕ) : Type 0 where
  same : x.0.op ≡ op
  valid : is_instr x.0 ≡ true
  spelled : bytes ≡ parts_text (codes "\t") (shape op).parts x.0.operands x.0.target ++ x.1

mnemonic_takes : (op : Op32) (bytes : List ℕ) (x : Instr32 × List ℕ) → behind_mnemonic op bytes ≡ Some x → TailAt op bytes x
unfolding behind_mnemonic
mnemonic_takes op bytes x e =
    let ps = (shape op).parts in
    option_and_then_some checked (option_map (made op) (parts_front (codes "\t") ps [] None bytes)) x e (λ z ez check.
    map_some (made op) (parts_front (codes "\t") ps [] None bytes) z ez (λ w ew is.
    let c = cond_some (is_instr z.0) z x check in
    let h = parts_take (codes "\t") ps [] bytes w ew in
    subst (TailAt op bytes) (is ∙ c.1) (record {
      same = refl;
      valid = subst (λ (v : Instr32 × List ℕ). is_instr v.0 ≡ true) (sym is) c.0;
      spelled = h.spelled ∙ ap (λ (os : List Operand32). parts_text (codes "\t") ps os w.0.1 ++ w.1) (sym h.is);
    })))

mnemonic_again : (i : Instr32) (rest : List ℕ) → is_instr i ≡ true → EndsAddr rest
    → behind_mnemonic i.op (parts_text (codes "\t") (shape i.op).parts i.operands i.target ++ rest) ≡ Some (i, rest)
unfolding behind_mnemonic
mnemonic_again i rest valid ends = rw (parts_again (codes "\t") (shape i.op).parts i.operands i.target [] rest valid ends, valid) refl

-- instructions

-- what ends a line's instruction
pub record EndsLine (rest : List ℕ) : Type 0 where
  pub operand : EndsAddr rest
  pub word : run_len in_word rest ≡ 0

pub record InstrAt (bytes : List ℕ) (x : Instr32 × List ℕ) : Type 0 where
  pub valid : is_instr x.0 ≡ true
  pub spelled : codes "\t" ++ bytes ≡ instr_text x.0 ++ x.1

abbrev pub tail_of : Op32 → Instr32 → List ℕ
tail_of op i = parts_text (codes "\t") (shape op).parts i.operands i.target

pub instr_takes : (bytes : List ℕ) (x : Instr32 × List ℕ) → instr_front bytes ≡ Some x → InstrAt bytes x
unfolding instr_front
instr_takes bytes x e =
    option_and_then_some (λ (op : Op32). behind_mnemonic op (behind_word bytes)) (op_of (word_at bytes)) x e (λ op eo more.
    let t = mnemonic_takes op (behind_word bytes) x more in
    let whole : bytes ≡ (shape op).mnemonic ++ (tail_of op x.0 ++ x.1) =
    sym (take-append-drop (run_len in_word bytes) bytes) ∙ ap (λ (w : List ℕ). w ++ behind_word bytes) (op_takes (word_at bytes) op eo) ∙ ap (λ (w : List ℕ). (shape op).mnemonic ++ w) t.spelled in
    record {
      valid = t.valid;
      spelled = ap (λ (w : List ℕ). codes "\t" ++ w)
          (whole ∙ ap (λ (o : Op32). (shape o).mnemonic ++ (tail_of o x.0 ++ x.1)) (sym t.same) ∙ sym (append_assoc (shape x.0.op).mnemonic (tail_of x.0.op x.0) x.1));
    })

no_word : (ps : List Part) (os : List Operand32) (target : Option (List ℕ)) (rest : List ℕ) → run_len in_word rest ≡ 0 → run_len in_word (parts_text (codes "\t") ps os target ++ rest) ≡ 0
no_word [] os target rest h = h
no_word (parts.Label ∷ ps) os None rest h = h
no_word (parts.Label ∷ ps) os (Some name) rest h = refl
no_word (parts.Operand role ∷ ps) [] target rest h = h
no_word (parts.Operand role ∷ ps) (o ∷ os) target rest h = refl

pub instr_again : (i : Instr32) (rest : List ℕ) → is_instr i ≡ true → EndsLine rest → instr_front (((shape i.op).mnemonic ++ tail_of i.op i) ++ rest) ≡ Some (i, rest)
unfolding instr_front
instr_again i rest valid ends =
    let mnemonic = (shape i.op).mnemonic in
    let behind = tail_of i.op i ++ rest in
    ap instr_front (append_assoc mnemonic (tail_of i.op i) rest)
    ∙ rw (
      is_word i.op behind (no_word (shape i.op).parts i.operands i.target rest ends.word),
      take_at mnemonic behind (length mnemonic) refl,
      drop_at mnemonic behind (length mnemonic) refl,
      op_again i.op,
      mnemonic_again i rest valid ends.operand,
    ) refl
