-- What a number that is put into a word of the frame leaves as it was.
use Rattle.std.proofs.Common.{◌≡◌, ◌⊎◌, inl, inr, ⊎_elim, ℕ, ◌+◌, ◌-◌, ◌*◌, ◌/◌, ◌%◌, ◌^◌, ◌<◌, ◌≤◌, ◌==◌, ◌&&◌, ◌||◌, Bool, true, false, cond, Option, Some, None, List, [], ◌∷◌, length}
use Rattle.std.proofs.Common.{Ok, Err, refl, sym, ap, subst, ◌∙◌, arith}
use Rattle.std.specs.Prelude.{nat_le, is_some}
use Rattle.std.specs.Option.{option_and_then}
use Rattle.std.proofs.lemmas.Bool.{leb-true, eqb-true, eqb-false, cases_lt}
use Rattle.std.proofs.lemmas.Option.{cond_some}
use Rattle.gg_base.specs.declared.size.Size.{Size}
use Rattle.gg_base.specs.declared.size.Size.TheVariants.{Byte, Word, Long}
use Rattle.gg_base.specs.Arithmetic.{add32, neg32}
use Rattle.gg_base.specs.Sizes.{bytes_of, low}
use Rattle.gg_base.specs.LittleEndian.{number_in, with_number}
use Rattle.gg_base.proofs.Facts.{first_true, second_true}
use Rattle.l32_target_rules.specs.vax_target_meaning.specs.tree_core.specs.declared.program.Object.{Object}
use Rattle.l32_target_rules.specs.vax_target_meaning.specs.tree_meaning.specs.State.{State as Trees, Extent}
use Rattle.l32_target_rules.specs.judging_laws.specs.sel_target.specs.Meaning.{WordAt, touches, is_word}
use Rattle.l32_target_rules.specs.judging_laws.specs.vax_templates.specs.FrameWords.{word_below}
use Rattle.l32_target_rules.specs.l32_states.specs.call_pieces.specs.Piece.{word_of}
use Rattle.l32_target_rules.specs.l32_templates.specs.l32_core.specs.declared.operand.Base32.{Base32}
use Rattle.l32_target_rules.specs.l32_templates.specs.l32_core.specs.declared.operand.Base32.TheVariants as bases
use Rattle.l32_target_rules.specs.l32_templates.specs.l32_core.specs.declared.operand.Operand32.{Operand32}
use Rattle.l32_target_rules.specs.l32_templates.specs.l32_core.specs.declared.operand.Operand32.TheVariants as operands
use Rattle.l32_target_rules.specs.l32_templates.specs.l32_machine.specs.declared.memory.Region.{Region}
use Rattle.l32_target_rules.specs.l32_templates.specs.l32_machine.specs.declared.memory.Region.TheVariants as regions
use Rattle.l32_target_rules.specs.l32_templates.specs.l32_machine.specs.State.{State, access, ◌>>=◌}
use Rattle.l32_target_rules.specs.l32_templates.specs.l32_machine.specs.Memory.{touched, read, number_at as number_there}
use Rattle.l32_target_rules.specs.l32_templates.specs.Homes.{home, at_home}
use Rattle.l32_target_rules.specs.l32_target_meaning.specs.Reading.{is_argument, is_own, number_of, number_at, displaced, named, reads}
use Rattle.l32_target_rules.specs.l32_target_meaning.specs.Agreeing.{Agrees}
use Rattle.l32_target_rules.specs.l32_target_meaning.specs.L32.{l32}
use Rattle.l32_target_rules.specs.l32_states.proofs.Touching.{stack_read}
use Rattle.l32_target_rules.specs.l32_states.proofs.Standing.{high_top, fp_high_is, word_from, word_written}
use Rattle.l32_target_rules.specs.l32_target_spelling.proofs.Own.{home_word}
use Rattle.l32_target_rules.specs.judging_laws.specs.sel_target.specs.Outcomes.{Keeps}
use Rattle.narrow_writes.specs.Laws.{merged_long}
use Rattle.narrow_writes.proofs.Bytes.{number_there as put_there, number_outside, as_long}

-- word k lies 4(k + 1) bytes below
word_is : (n k : ℕ) → word_below n ≡ Some k → (n ≡ 4 * (k + 1)) × (n ≤ 4096)
word_is n k e =
    let r = cond_some (nat_le 4 n && (nat_le n 4096 && (n % 4 == 0))) (n / 4 - 1) k e in
    let from = leb-true 4 n (first_true (nat_le 4 n) (nat_le n 4096 && (n % 4 == 0)) r.0) in
    let rest = second_true (nat_le 4 n) (nat_le n 4096 && (n % 4 == 0)) r.0 in
    let to = leb-true n 4096 (first_true (nat_le n 4096) (n % 4 == 0) rest) in
    let whole = eqb-true (n % 4) 0 (second_true (nat_le n 4096) (n % 4 == 0) rest) in
    let quotient = r.1 in
    ((let q : n ≡ 4 * (k + 1) = omega (arith, from, whole, quotient) in q), to)

argument_is : (d : ℕ) → is_argument d ≡ true → d ≤ 1016
argument_is d e = leb-true d 1016 (first_true (nat_le d 1016) (d % 4 == 0) e)

-- a word of the frame, in the stack
pub record IsFrameWord (m : State) (w : ℕ) : Type 0 where
  pub low : w < 1024
  pub from : 2139095040 ≤ word_of m.fp w
  pub far : 4 * (w + 1) ≤ m.fp
  pub top : m.fp ≤ 2147483648
  pub area : length m.area ≤ 1048576
  pub stack : length m.stack ≡ 8388608

pub frame_word : (objects : List Object) (e : Extent) (es : List Extent) (t : Trees) (m : State) → Agrees objects e es t m → (w : ℕ) → w < e.words → w < 1024 → IsFrameWord m w
frame_word objects e es t m h w lt low = record {
  low = low;
  from = word_from objects e es t m h w lt;
  far = omega (arith, word_from objects e es t m h w lt);
  top = omega (arith, fp_high_is objects e es t m h, high_top objects e es t m h);
  area = h.sound.area;
  stack = h.sound.stack;
}

module _ (m : State) (w : ℕ) (g : IsFrameWord m w) (size : Size) (v : ℕ) where
  -- the state with a number in the word
  abbrev pub with_word : State
  with_word = record m { stack = with_number size m.stack (word_of m.fp w - 2139095040) v }

  abbrev place : ℕ
  place = word_of m.fp w - 2139095040

  there_is_room : place + 4 ≤ length m.stack
  there_is_room = omega (arith, g.from, g.far, g.top, g.stack)

  small_size : (s : Size) → bytes_of s ≤ 4
  small_size Byte = omega arith
  small_size Word = omega arith
  small_size Long = omega arith

  -- an address is apart from the word
  abbrev IsApart : ℕ → Size → Type 0
  IsApart a other = (a + bytes_of other ≤ word_of m.fp w) ⊎ (word_of m.fp w + 4 ≤ a)

  stack_apart : (a : ℕ) (other : Size) → 2139095040 ≤ a → IsApart a other
      → number_in other (with_number size m.stack place v) (a - 2139095040) ≡ number_in other m.stack (a - 2139095040)
  stack_apart a other low apart = number_outside size other m.stack place (a - 2139095040) v there_is_room (sides apart) where
    sides : IsApart a other → (a - 2139095040 + bytes_of other ≤ place) ⊎ (place + bytes_of size ≤ a - 2139095040)
    sides (inl below) = inl (omega (arith, below, low))
    sides (inr above) = inr (omega (arith, above, low, small_size size, g.from))

  read_apart : (a : ℕ) (other : Size) → IsApart a other → read with_word a other ≡ read m a other
  unfolding read touched
  read_apart a other apart =
      by (nat_le 65536 a && nat_le (a + bytes_of other) (65536 + length m.area)) (nat_le 2139095040 a && nat_le (a + bytes_of other) 2147483648) refl
    where
      by : (b c : Bool) → (nat_le 2139095040 a && nat_le (a + bytes_of other) 2147483648) ≡ c →
          (cond b (Ok (regions.Area (a - 65536))) (cond c (Ok (regions.Stack (a - 2139095040))) (Err access)) >>= λ (r : Region). Ok (number_there with_word other r))
          ≡ (cond b (Ok (regions.Area (a - 65536))) (cond c (Ok (regions.Stack (a - 2139095040))) (Err access)) >>= λ (r : Region). Ok (number_there m other r))
      by true c e = refl
      by false true e = ap (λ (n : ℕ). Ok n) (stack_apart a other (leb-true 2139095040 a (first_true (nat_le 2139095040 a) _ e)) apart)
      by false false e = refl

  number_apart : (own : Bool) (a : ℕ) (other : Size) → IsApart a other → number_at own with_word a other ≡ number_at own m a other
  number_apart true a other apart = ap number_of (read_apart a other apart)
  number_apart false a other apart = refl

  -- ---- places of the call's own

  words_apart : (d k : ℕ) (other : Size) → word_below (neg32 d) ≡ Some k → (k ≡ w → ⊥) → IsApart (add32 m.fp d) other
  words_apart d k other is ne =
      let n = word_is (neg32 d) k is in
      let few = small_size other in
      ⊎_elim (λ (lt : k < w). inr (omega (arith, n.0, n.1, lt, g.top, g.from, g.far)))
      (λ (le : w ≤ k). inl (omega (arith, n.0, n.1, le, ne, g.top, g.from, g.far, few))) (cases_lt k w)

  own_apart : (d : ℕ) (other : Size) → is_own d bases.Fp ≡ true → is_word (word_below (neg32 d)) w ≡ false → IsApart (add32 m.fp d) other
  own_apart d other own off = by (word_below (neg32 d)) refl own off where
    by : (o : Option ℕ) → word_below (neg32 d) ≡ o → (is_some o || is_argument d) ≡ true → is_word o w ≡ false → IsApart (add32 m.fp d) other
    by (Some k) is own off = words_apart d k other is (eqb-false k w off)
    by None is own off = let le = argument_is d own in inr (omega (arith, le, g.top, g.from, g.far))

  own_kept : (own : Bool) (d : ℕ) (b : Base32) (other : Size) → own ≡ is_own d b → touches l32 (operands.At d b) (WordAt w) ≡ false
      → number_at own with_word (displaced m d b) other ≡ number_at own m (displaced m d b) other
  own_kept false d b other is off = refl
  own_kept true d bases.Fp other is off = number_apart true (displaced m d bases.Fp) other (own_apart d other (sym is) off)
  own_kept true d bases.Sp other is off = absurd cc
  own_kept true d (bases.A n) other is off = absurd cc

  named_kept : (o : Operand32) → touches l32 o (WordAt w) ≡ false → named with_word o ≡ named m o
  named_kept (operands.Num n) off = refl
  named_kept (operands.Reg n) off = refl
  named_kept (operands.At d b) off = base_same b where
    base_same : (b : Base32) → named with_word (operands.At d b) ≡ named m (operands.At d b)
    base_same bases.Fp = refl
    base_same bases.Sp = refl
    base_same (bases.A n) = refl
  named_kept (operands.Deferred d b) off = by b off where
    by : (b : Base32) → touches l32 (operands.At d b) (WordAt w) ≡ false → named with_word (operands.Deferred d b) ≡ named m (operands.Deferred d b)
    by bases.Fp off = own_kept (is_own d bases.Fp) d bases.Fp Long refl off
    by bases.Sp off = refl
    by (bases.A n) off = refl
  named_kept (operands.Addr a) off = refl

  reads_kept : (o : Operand32) (other : Size) → touches l32 o (WordAt w) ≡ false → reads o other with_word ≡ reads o other m
  reads_kept (operands.Num n) other off = refl
  reads_kept (operands.Reg n) other off = refl
  reads_kept (operands.At d b) other off = by b off where
    by : (b : Base32) → touches l32 (operands.At d b) (WordAt w) ≡ false → reads (operands.At d b) other with_word ≡ reads (operands.At d b) other m
    by bases.Fp off = own_kept (is_own d bases.Fp) d bases.Fp other refl off
    by bases.Sp off = refl
    by (bases.A n) off = refl
  reads_kept (operands.Deferred d b) other off = ap (option_and_then (λ (a : ℕ). number_at false m a other)) (named_kept (operands.Deferred d b) off)
  reads_kept (operands.Addr a) other off = refl

  -- ---- the state stands for the same trees

  pub agrees_kept : (objects : List Object) (e : Extent) (es : List Extent) (t : Trees) → Agrees objects e es t m → e.locals ≤ w → w < e.words → Agrees objects e es t with_word
  agrees_kept objects e es t h free lt =
      let merged = merged_long size m.stack place v in
      subst (λ (l : List ℕ). Agrees objects e es t (record m { stack = l })) (sym (as_long size m.stack place v h.sound.stack_bytes there_is_room))
      (word_written objects e es t m h w merged free lt).1

  -- ---- what stands there then

  word_reads : v < 2 ^ 32 → read with_word (word_of m.fp w) size ≡ Ok (low size v)
  word_reads lt =
      let few = small_size size in
      stack_read with_word (word_of m.fp w) size g.area g.from (omega (arith, few, g.far, g.top)) ∙ ap (λ (n : ℕ). Ok n) (put_there size m.stack place v there_is_room lt)

  home_at : add32 m.fp (neg32 (4 * (w + 1))) ≡ word_of m.fp w
  home_at = omega (arith, g.far, g.top, g.low)

  home_own : is_own (neg32 (4 * (w + 1))) bases.Fp ≡ true
  home_own = ap (λ (o : Option ℕ). is_some o || is_argument (neg32 (4 * (w + 1)))) (home_word w g.low)

  pub slot_reads : v < 2 ^ 32 → reads (home w) size with_word ≡ Some (low size v)
  slot_reads lt =
      ap (λ b. number_at b with_word (add32 m.fp (neg32 (4 * (w + 1)))) size) home_own
      ∙ ap (λ a. number_of (read with_word a size)) home_at
      ∙ ap number_of (word_reads lt)

  pub slot_names : size ≡ Long → v < 2 ^ 32 → named with_word (at_home w) ≡ Some v
  slot_names long lt =
      ap (λ b. number_at b with_word (add32 m.fp (neg32 (4 * (w + 1)))) Long) home_own
      ∙ ap (λ a. number_of (read with_word a Long)) home_at
      ∙ subst (λ (s : Size). number_of (read with_word (word_of m.fp w) s) ≡ Some (low s v)) long (ap number_of (word_reads lt))

  pub slot_keeps : Keeps l32 (WordAt w ∷ []) m with_word
  slot_keeps = record {
    reads = λ o other x un e. reads_kept o other un.0 ∙ e;
    names = λ o other x un e. named_kept o un.0 ∙ e;
    agrees = λ q f fs t free h. agrees_kept q.objects f fs t h free.0.0 free.0.1;
    room = λ h. record { space = h.space; frame = h.frame };
    live = refl;
  }
