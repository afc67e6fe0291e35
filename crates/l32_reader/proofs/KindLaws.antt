-- The kind that is answered for a wrong line is its kind, and a line has one.
use Rattle.std.proofs.Common.{◌≡◌, inl, inr, ℕ, zero, suc, ◌<◌, Bool, true, false, cond, eqb, ◌||◌, not, List, [], ◌∷◌, ◌++◌, length, take, drop, get_or, Option, Some, None, refl}
use Rattle.std.proofs.Common.{sym, ap, subst, ◌∙◌, arith}
use Rattle.std.specs.Prelude.{codes, is_some}
use Rattle.std.specs.List.{Contains}
use Rattle.std.proofs.lemmas.Bool.{eqb-true, eqb-false, or_cases, both_ways}
use Rattle.std.proofs.lemmas.List.{take_at, take-append-drop}
use Rattle.gg_base.specs.Fronts.{run_len}
use Rattle.vax_reader.specs.declared.fault.AsmKind.{AsmKind}
use Rattle.vax_reader.specs.declared.fault.AsmKind.TheVariants as kinds
use Rattle.vax_reader.specs.declared.kind.Stage.{Stage}
use Rattle.vax_reader.specs.declared.kind.Stage.TheVariants as stages
use Rattle.vax_reader.specs.Fronts.{strip}
use Rattle.vax_reader.specs.Lines.{in_word, word_at, behind_word, named_front}
use Rattle.vax_reader.specs.Kinds.{is_label_line, has_line_feed}
use Rattle.vax_reader.specs.WrongLine.{BeginsLabel, EndsWord}
use Rattle.vax_reader.proofs.FrontLaws.{strip_takes}
use Rattle.vax_reader.proofs.LineLaws.{named_takes, label_again}
use Rattle.vax_reader.proofs.KindLaws.{kind_tells as vax_kind_tells, one_kind as one_vax_kind}
use Rattle.l32_core.specs.declared.op.Op32.{Op32}
use Rattle.l32_core.specs.Ops.{shape}
use Rattle.l32_core.specs.Mnemonics.{op_of}
use Rattle.l32_core.proofs.MnemonicLaws.{op_takes, op_again}
use Rattle.l32_reader.specs.Kinds.{mnemonic_behind_tab, begins_mnemonic, kind_of}
use Rattle.l32_reader.specs.WrongLine.{BeginsMnemonic, IsCodeKind, IsKind}
use Rattle.l32_reader.proofs.OpLaws.{is_word}

-- line feeds

feed_at : (c : ℕ) (cs : List ℕ) (b : Bool) → eqb c 10 ≡ b → (has_line_feed cs ≡ true → Contains cs 10) → (b || has_line_feed cs) ≡ true → Contains (c ∷ cs) 10
feed_at c cs true e more h = (0, omega arith, eqb-true c 10 e)
feed_at c cs false e more h = let k = more h in (suc k.0, omega (arith, k.1), k.2)

has_feed : (rest : List ℕ) → has_line_feed rest ≡ true → Contains rest 10
has_feed [] h = absurd (cc)
has_feed (c ∷ cs) h = feed_at c cs (eqb c 10) refl (has_feed cs) h

no_feed_at : (c : ℕ) (cs : List ℕ) (b : Bool) → eqb c 10 ≡ b → (has_line_feed cs ≡ false → Contains cs 10 → ⊥) → (b || has_line_feed cs) ≡ false → (k : ℕ) → k < length (c ∷ cs)
    → get_or (c ∷ cs) k 10 ≡ 10 → ⊥
no_feed_at c cs true e more h k lt is = absurd (cc)
no_feed_at c cs false e more h zero lt is = eqb-false c 10 e is
no_feed_at c cs false e more h (suc k) lt is = more h (k, omega arith, is)

no_feed : (rest : List ℕ) → has_line_feed rest ≡ false → Contains rest 10 → ⊥
no_feed [] h w = omega (arith, w.1)
no_feed (c ∷ cs) h w = no_feed_at c cs (eqb c 10) refl (no_feed cs) h w.0 w.1 w.2

-- label lines

label_found : (rest : List ℕ) (o : Option (List ℕ × List ℕ)) → named_front (codes ":\n") rest ≡ o → is_some o ≡ true → BeginsLabel rest
label_found rest None e h = absurd (cc)
label_found rest (Some x) e h = let n = named_takes (codes ":\n") rest x e in record { name = x.0; more = x.1; valid = n.0; text = n.1 }

label_begins : (rest : List ℕ) → is_label_line rest ≡ true → BeginsLabel rest
label_begins rest h = label_found rest (named_front (codes ":\n") rest) refl h

label_is_found : (rest : List ℕ) → BeginsLabel rest → is_label_line rest ≡ true
label_is_found rest b = ap is_label_line b.text ∙ rw (label_again b.name b.more b.valid) refl

-- words

op_found : (word : List ℕ) (o : Option Op32) → op_of word ≡ o → is_some o ≡ true → (op : Op32) × (word ≡ (shape op).mnemonic)
op_found word None e h = absurd (cc)
op_found word (Some op) e h = (op, op_takes word op e)

-- where a word ends

ends_at : (c : ℕ) (cs : List ℕ) (b : Bool) → in_word c ≡ b → EndsWord (drop (run_len in_word cs) cs) → EndsWord (drop (cond b (suc (run_len in_word cs)) 0) (c ∷ cs))
ends_at c cs true e more = more
ends_at c cs false e more = elim (or_cases (eqb c 9) (eqb c 10) (is_not (eqb c 9 || eqb c 10) e)) [ inl t ↦ inl (eqb-true c 9 t) | inr t ↦ inr (eqb-true c 10 t) ]
  where
    is_not : (b : Bool) → not b ≡ false → b ≡ true
    is_not true h = refl
    is_not false h = absurd (cc)

ends_behind : (rest : List ℕ) → EndsWord (behind_word rest)
ends_behind [] = tt
ends_behind (c ∷ cs) = ends_at c cs (in_word c) refl (ends_behind cs)

no_word_at_end : (more : List ℕ) → EndsWord more → run_len in_word more ≡ 0
no_word_at_end [] h = refl
no_word_at_end (c ∷ cs) (inl e) = subst (λ (x : ℕ). run_len in_word (x ∷ cs) ≡ 0) (sym e) refl
no_word_at_end (c ∷ cs) (inr e) = subst (λ (x : ℕ). run_len in_word (x ∷ cs) ≡ 0) (sym e) refl

mnemonic_found : (rest : List ℕ) (o : Option (List ℕ)) → strip (codes "\t") rest ≡ o → mnemonic_behind_tab o ≡ true → BeginsMnemonic rest
mnemonic_found rest None e h = absurd (cc)
mnemonic_found rest (Some inner) e h =
    let w = op_found (word_at inner) (op_of (word_at inner)) refl h in
    record {
      op = w.0;
      more = behind_word inner;
      ends = ends_behind inner;
      text = strip_takes (codes "\t") rest inner e
          ∙ ap (λ (t : List ℕ). codes "\t" ++ t) (sym (take-append-drop (run_len in_word inner) inner) ∙ ap (λ (t : List ℕ). t ++ behind_word inner) w.1);
    }

mnemonic_begins : (rest : List ℕ) → begins_mnemonic rest ≡ true → BeginsMnemonic rest
mnemonic_begins rest h = mnemonic_found rest (strip (codes "\t") rest) refl h

mnemonic_is_found : (rest : List ℕ) → BeginsMnemonic rest → begins_mnemonic rest ≡ true
mnemonic_is_found rest b =
    let mnemonic = (shape b.op).mnemonic in
    let long = is_word b.op b.more (no_word_at_end b.more b.ends) in
    let word : word_at (mnemonic ++ b.more) ≡ mnemonic = ap (λ (n : ℕ). take n (mnemonic ++ b.more)) long ∙ take_at mnemonic b.more (length mnemonic) refl in
    ap begins_mnemonic b.text ∙ ap (λ (w : List ℕ). is_some (op_of w)) word ∙ ap (λ (o : Option Op32). is_some o) (op_again b.op)

-- kinds

by_tests : (rest : List ℕ) (feed label begins : Bool) → has_line_feed rest ≡ feed → is_label_line rest ≡ label → begins_mnemonic rest ≡ begins
    → IsCodeKind rest (cond feed (cond label kinds.Operands (cond begins kinds.Operands kinds.Word)) kinds.Cut)
by_tests rest true true begins f l a = (has_feed rest f, inl (label_begins rest l))
by_tests rest true false true f l a = (has_feed rest f, inr (mnemonic_begins rest a))
by_tests rest true false false f l a = (
  has_feed rest f,
  λ b. both_ways (is_label_line rest) l (label_is_found rest b),
  λ b.
      both_ways (begins_mnemonic rest) a (mnemonic_is_found rest b),
)
by_tests rest false label begins f l a = no_feed rest f

pub kind_tells : (stage : Stage) (rest : List ℕ) → IsKind stage rest (kind_of stage rest)
kind_tells stages.Start rest = vax_kind_tells stages.Start rest
kind_tells stages.Area rest = vax_kind_tells stages.Area rest
kind_tells stages.Code rest = by_tests rest (has_line_feed rest) (is_label_line rest) (begins_mnemonic rest) refl refl refl

one_code_kind : (rest : List ℕ) (kind other : AsmKind) → IsCodeKind rest kind → IsCodeKind rest other → kind ≡ other
one_code_kind rest kinds.Cut kinds.Cut h k = refl
one_code_kind rest kinds.Cut kinds.Operands h k = absurd (h k.0)
one_code_kind rest kinds.Cut kinds.Word h k = absurd (h k.0)
one_code_kind rest kinds.Operands kinds.Cut h k = absurd (k h.0)
one_code_kind rest kinds.Operands kinds.Operands h k = refl
one_code_kind rest kinds.Operands kinds.Word h k = absurd (elim h.1 [ inl l ↦ k.1 l | inr a ↦ k.2 a ])
one_code_kind rest kinds.Word kinds.Cut h k = absurd (k h.0)
one_code_kind rest kinds.Word kinds.Operands h k = absurd (elim k.1 [ inl l ↦ h.1 l | inr a ↦ h.2 a ])
one_code_kind rest kinds.Word kinds.Word h k = refl

pub one_kind : (stage : Stage) (rest : List ℕ) (kind other : AsmKind) → IsKind stage rest kind → IsKind stage rest other → kind ≡ other
one_kind stages.Start rest kind other h k = one_vax_kind stages.Start rest kind other h k
one_kind stages.Area rest kind other h k = one_vax_kind stages.Area rest kind other h k
one_kind stages.Code rest kind other h k = one_code_kind rest kind other h k
