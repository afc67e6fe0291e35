-- The kind that is answered for a wrong line is its kind, and a line has one.
use Rattle.std.proofs.Common.{◌≡◌, inl, inr, ℕ, zero, suc, ◌<◌, Bool, true, false, cond, eqb, ◌||◌, not, List, [], ◌∷◌, ◌++◌, length, take, drop, get_or, Option, Some, None, refl}
use Rattle.std.proofs.Common.{sym, ap, subst, ◌∙◌, arith}
use Rattle.std.specs.Prelude.{codes, is_some}
use Rattle.std.specs.List.{Contains}
use Rattle.std.specs.Cmp.Lexicographic.{same_text}
use Rattle.std.proofs.lemmas.Bool.{eqb-true, eqb-false, or_cases, or_right, both_ways}
use Rattle.std.proofs.lemmas.List.{take_at, take-append-drop}
use Rattle.gg_base.specs.Fronts.{run_len}
use Rattle.vax_core.specs.declared.op.Op.{Op}
use Rattle.vax_core.specs.Ops.{shape}
use Rattle.vax_reader.specs.declared.fault.AsmKind.{AsmKind}
use Rattle.vax_reader.specs.declared.fault.AsmKind.TheVariants as kinds
use Rattle.vax_reader.specs.declared.kind.Stage.{Stage}
use Rattle.vax_reader.specs.declared.kind.Stage.TheVariants as stages
use Rattle.vax_reader.specs.Fronts.{strip}
use Rattle.vax_core.specs.Mnemonics.{op_of}
use Rattle.vax_reader.specs.Lines.{in_word, word_at, behind_word, named_front}
use Rattle.vax_reader.specs.Kinds.{same, is_area_word, is_code_word, is_allowed, behind_first_tab, begins_allowed, is_label_line, has_line_feed, kind_of}
use Rattle.vax_reader.specs.WrongLine.{BeginsLabel, IsAreaWord, IsCodeWord, IsAllowed, EndsWord, BeginsAllowed, IsKind}
use Rattle.vax_reader.proofs.FrontLaws.{strip_takes}
use Rattle.vax_reader.proofs.NameLaws.{run_len-append}
use Rattle.vax_core.proofs.MnemonicLaws.{op_takes, op_again}
use Rattle.vax_reader.proofs.OpLaws.{is_word}
use Rattle.vax_reader.proofs.LineLaws.{named_takes, label_again}

-- line feeds

feed_at : (c : ℕ) (cs : List ℕ) (b : Bool) → eqb c 10 ≡ b → (has_line_feed cs ≡ true → Contains cs 10) → (b || has_line_feed cs) ≡ true → Contains (c ∷ cs) 10
feed_at c cs true e more h = (0, omega arith, eqb-true c 10 e)
feed_at c cs false e more h = let k = more h in (suc k.0, omega (arith, k.1), k.2)

pub has_feed : (rest : List ℕ) → has_line_feed rest ≡ true → Contains rest 10
has_feed [] h = absurd (cc)
has_feed (c ∷ cs) h = feed_at c cs (eqb c 10) refl (has_feed cs) h

no_feed_at : (c : ℕ) (cs : List ℕ) (b : Bool) → eqb c 10 ≡ b → (has_line_feed cs ≡ false → Contains cs 10 → ⊥) → (b || has_line_feed cs) ≡ false → (k : ℕ) → k < length (c ∷ cs)
    → get_or (c ∷ cs) k 10 ≡ 10 → ⊥
no_feed_at c cs true e more h k lt is = absurd (cc)
no_feed_at c cs false e more h zero lt is = eqb-false c 10 e is
no_feed_at c cs false e more h (suc k) lt is = more h (k, omega arith, is)

pub no_feed : (rest : List ℕ) → has_line_feed rest ≡ false → Contains rest 10 → ⊥
no_feed [] h w = omega (arith, w.1)
no_feed (c ∷ cs) h w = no_feed_at c cs (eqb c 10) refl (no_feed cs) h w.0 w.1 w.2

-- label lines

label_found : (rest : List ℕ) (o : Option (List ℕ × List ℕ)) → named_front (codes ":\n") rest ≡ o → is_some o ≡ true → BeginsLabel rest
label_found rest None e h = absurd (cc)
label_found rest (Some x) e h = let n = named_takes (codes ":\n") rest x e in record { name = x.0; more = x.1; valid = n.0; text = n.1 }

pub label_begins : (rest : List ℕ) → is_label_line rest ≡ true → BeginsLabel rest
label_begins rest h = label_found rest (named_front (codes ":\n") rest) refl h

pub label_is_found : (rest : List ℕ) → BeginsLabel rest → is_label_line rest ≡ true
label_is_found rest b = ap is_label_line b.text ∙ rw (label_again b.name b.more b.valid) refl

-- words

is_literal : (word wanted : List ℕ) → same word wanted ≡ true → word ≡ wanted
is_literal word wanted h = same_text word wanted (sym h)

area_word : (word : List ℕ) → is_area_word word ≡ true → IsAreaWord word
area_word word h =
    elim (or_cases _ _ h) [
      | inr e ↦ inr (inr (inr (inr (inr (inr (is_literal word (codes ".text") e))))))
      | inl h1 ↦ elim (or_cases _ _ h1) [
        | inr e ↦ inr (inr (inr (inr (inr (inl (is_literal word (codes ".globl") e))))))
        | inl h2 ↦ elim (or_cases _ _ h2) [
          | inr e ↦ inr (inr (inr (inr (inl (is_literal word (codes ".word") e)))))
          | inl h3 ↦ elim (or_cases _ _ h3) [
            | inr e ↦ inr (inr (inr (inl (is_literal word (codes ".align") e))))
            | inl h4 ↦ elim (or_cases _ _ h4) [
              | inr e ↦ inr (inr (inl (is_literal word (codes ".space") e)))
              | inl h5 ↦ elim (or_cases _ _ h5) [
                | inr e ↦ inr (inl (is_literal word (codes ".long") e))
                | inl e ↦ inl (is_literal word (codes ".byte") e)
              ]
            ]
          ]
        ]
      ]
    ]

op_found : (word : List ℕ) (o : Option Op) → op_of word ≡ o → is_some o ≡ true → (op : Op) × (word ≡ (shape op).mnemonic)
op_found word None e h = absurd (cc)
op_found word (Some op) e h = (op, op_takes word op e)

code_word : (word : List ℕ) → is_code_word word ≡ true → IsCodeWord word
code_word word h =
    elim (or_cases _ _ h) [
      | inr e ↦ inr (inr (op_found word (op_of word) refl e))
      | inl h1 ↦ elim (or_cases _ _ h1) [
        | inr e ↦ inr (inl (is_literal word (codes ".word") e))
        | inl e ↦ inl (is_literal word (codes ".globl") e)
      ]
    ]

allowed_word : (stage : Stage) (word : List ℕ) → is_allowed stage word ≡ true → IsAllowed stage word
allowed_word stages.Start word h = is_literal word (codes ".data") h
allowed_word stages.Area word h = area_word word h
allowed_word stages.Code word h = code_word word h

abbrev Passes : Stage → List ℕ → List ℕ → Type 0
Passes stage more word = (is_allowed stage word ≡ true) × (run_len in_word (word ++ more) ≡ length word)

word_passes : (stage : Stage) (word more : List ℕ) → run_len in_word more ≡ 0 → IsAllowed stage word → Passes stage more word
word_passes stages.Start word more h w = subst (Passes stages.Start more) (sym w) (refl, run_len-append in_word (codes ".data") more refl h)
word_passes stages.Area word more h (inl w) = subst (Passes stages.Area more) (sym w) (refl, run_len-append in_word (codes ".byte") more refl h)
word_passes stages.Area word more h (inr (inl w)) = subst (Passes stages.Area more) (sym w) (refl, run_len-append in_word (codes ".long") more refl h)
word_passes stages.Area word more h (inr (inr (inl w))) = subst (Passes stages.Area more) (sym w) (refl, run_len-append in_word (codes ".space") more refl h)
word_passes stages.Area word more h (inr (inr (inr (inl w)))) = subst (Passes stages.Area more) (sym w) (refl, run_len-append in_word (codes ".align") more refl h)
word_passes stages.Area word more h (inr (inr (inr (inr (inl w))))) = subst (Passes stages.Area more) (sym w) (refl, run_len-append in_word (codes ".word") more refl h)
word_passes stages.Area word more h (inr (inr (inr (inr (inr (inl w)))))) = subst (Passes stages.Area more) (sym w) (refl, run_len-append in_word (codes ".globl") more refl h)
word_passes stages.Area word more h (inr (inr (inr (inr (inr (inr w)))))) = subst (Passes stages.Area more) (sym w) (refl, run_len-append in_word (codes ".text") more refl h)
word_passes stages.Code word more h (inl w) = subst (Passes stages.Code more) (sym w) (refl, run_len-append in_word (codes ".globl") more refl h)
word_passes stages.Code word more h (inr (inl w)) = subst (Passes stages.Code more) (sym w) (refl, run_len-append in_word (codes ".word") more refl h)
word_passes stages.Code word more h (inr (inr w)) =
    let known : is_some (op_of (shape w.0).mnemonic) ≡ true = ap (λ (o : Option Op). is_some o) (op_again w.0) in
    subst (Passes stages.Code more) (sym w.1) (or_right _ _ known, is_word w.0 more h)

-- where a word ends

ends_at : (c : ℕ) (cs : List ℕ) (b : Bool) → in_word c ≡ b → EndsWord (drop (run_len in_word cs) cs) → EndsWord (drop (cond b (suc (run_len in_word cs)) 0) (c ∷ cs))
ends_at c cs true e more = more
ends_at c cs false e more = elim (or_cases (eqb c 9) (eqb c 10) (is_not (eqb c 9 || eqb c 10) e)) [ inl t ↦ inl (eqb-true c 9 t) | inr t ↦ inr (eqb-true c 10 t) ]
  where
    is_not : (b : Bool) → not b ≡ false → b ≡ true
    is_not true h = refl
    is_not false h = absurd (cc)

pub ends_behind : (rest : List ℕ) → EndsWord (behind_word rest)
ends_behind [] = tt
ends_behind (c ∷ cs) = ends_at c cs (in_word c) refl (ends_behind cs)

pub no_word_at_end : (more : List ℕ) → EndsWord more → run_len in_word more ≡ 0
no_word_at_end [] h = refl
no_word_at_end (c ∷ cs) (inl e) = subst (λ (x : ℕ). run_len in_word (x ∷ cs) ≡ 0) (sym e) refl
no_word_at_end (c ∷ cs) (inr e) = subst (λ (x : ℕ). run_len in_word (x ∷ cs) ≡ 0) (sym e) refl

allowed_found : (stage : Stage) (rest : List ℕ) (o : Option (List ℕ)) → strip (codes "\t") rest ≡ o → behind_first_tab stage o ≡ true → BeginsAllowed stage rest
allowed_found stage rest None e h = absurd (cc)
allowed_found stage rest (Some inner) e h = record {
  word = word_at inner;
  more = behind_word inner;
  allowed = allowed_word stage (word_at inner) h;
  ends = ends_behind inner;
  text = strip_takes (codes "\t") rest inner e ∙ ap (λ (t : List ℕ). codes "\t" ++ t) (sym (take-append-drop (run_len in_word inner) inner));
}

allowed_begins : (stage : Stage) (rest : List ℕ) → begins_allowed stage rest ≡ true → BeginsAllowed stage rest
allowed_begins stage rest h = allowed_found stage rest (strip (codes "\t") rest) refl h

allowed_is_found : (stage : Stage) (rest : List ℕ) → BeginsAllowed stage rest → begins_allowed stage rest ≡ true
allowed_is_found stage rest b =
    let p = word_passes stage b.word b.more (no_word_at_end b.more b.ends) b.allowed in
    let word : word_at (b.word ++ b.more) ≡ b.word = ap (λ (n : ℕ). take n (b.word ++ b.more)) p.1 ∙ take_at b.word b.more (length b.word) refl in
    ap (begins_allowed stage) b.text ∙ ap (is_allowed stage) word ∙ p.0

-- kinds

by_tests : (stage : Stage) (rest : List ℕ) (feed label allowed : Bool) → has_line_feed rest ≡ feed → is_label_line rest ≡ label → begins_allowed stage rest ≡ allowed
    → IsKind stage rest (cond feed (cond label kinds.Operands (cond allowed kinds.Operands kinds.Word)) kinds.Cut)
by_tests stage rest true true allowed f l a = (has_feed rest f, inl (label_begins rest l))
by_tests stage rest true false true f l a = (has_feed rest f, inr (allowed_begins stage rest a))
by_tests stage rest true false false f l a = (
  has_feed rest f,
  λ b. both_ways (is_label_line rest) l (label_is_found rest b),
  λ b.
      both_ways (begins_allowed stage rest) a (allowed_is_found stage rest b),
)
by_tests stage rest false label allowed f l a = no_feed rest f

pub kind_tells : (stage : Stage) (rest : List ℕ) → IsKind stage rest (kind_of stage rest)
kind_tells stage rest = by_tests stage rest (has_line_feed rest) (is_label_line rest) (begins_allowed stage rest) refl refl refl

pub one_kind : (stage : Stage) (rest : List ℕ) (kind other : AsmKind) → IsKind stage rest kind → IsKind stage rest other → kind ≡ other
one_kind stage rest kinds.Cut kinds.Cut h k = refl
one_kind stage rest kinds.Cut kinds.Operands h k = absurd (h k.0)
one_kind stage rest kinds.Cut kinds.Word h k = absurd (h k.0)
one_kind stage rest kinds.Operands kinds.Cut h k = absurd (k h.0)
one_kind stage rest kinds.Operands kinds.Operands h k = refl
one_kind stage rest kinds.Operands kinds.Word h k = absurd (elim h.1 [ inl l ↦ k.1 l | inr a ↦ k.2 a ])
one_kind stage rest kinds.Word kinds.Cut h k = absurd (k h.0)
one_kind stage rest kinds.Word kinds.Operands h k = absurd (elim k.1 [ inl l ↦ h.1 l | inr a ↦ h.2 a ])
one_kind stage rest kinds.Word kinds.Word h k = refl
