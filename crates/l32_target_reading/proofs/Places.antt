-- What stands at the places of the data area, of locals and of arguments.
use Rattle.std.proofs.Common.{◌≡◌, ℕ, ◌+◌, ◌-◌, ◌*◌, ◌%◌, ◌<◌, ◌≤◌, ◌==◌, Bool, true, false, cond, Option, Some, List, length, refl, sym, ap, subst, ◌∙◌, arith, slice_get}
use Rattle.std.specs.Prelude.{nat_le, is_some, IsSome}
use Rattle.std.specs.Option.{option_and_then}
use Rattle.std.proofs.lemmas.Bool.{false≢true, le-leb, and_from, or_left, or_right}
use Rattle.std.proofs.lemmas.Option.{none-some}
use Rattle.gg_base.specs.declared.size.Size.{Size}
use Rattle.gg_base.specs.declared.size.Size.TheVariants.{Long}
use Rattle.gg_base.specs.Arithmetic.{add32, neg32}
use Rattle.gg_base.proofs.Facts.{is_zero}
use Rattle.tree_core.specs.declared.token.Tok.TheVariants as tok
use Rattle.tree_core.specs.declared.program.Object.{Object}
use Rattle.tree_core.specs.Area.{fetched}
use Rattle.l32_states.specs.tree_meaning.specs.State.{State as Trees, Extent}
use Rattle.l32_states.specs.call_pieces.specs.Piece.{long_at, word_of}
use Rattle.l32_machine.specs.State.{State}
use Rattle.l32_machine.specs.Memory.{read}
use Rattle.l32_target_spelling.specs.l32_templates.specs.l32_core.specs.declared.operand.Base32.{Base32}
use Rattle.l32_target_spelling.specs.l32_templates.specs.l32_core.specs.declared.operand.Base32.TheVariants as bases
use Rattle.l32_target_spelling.specs.l32_templates.specs.l32_core.specs.declared.operand.Operand32.{Operand32}
use Rattle.l32_target_spelling.specs.l32_templates.specs.l32_core.specs.declared.operand.Operand32.TheVariants as operands
use Rattle.l32_target_spelling.specs.l32_templates.specs.Homes.{home, argument_home}
use Rattle.l32_target_spelling.specs.l32_templates.specs.Spelled as spelled
use Rattle.l32_target_spelling.specs.l32_templates.specs.Spelled.{operand_bits}
use Rattle.l32_target_spelling.specs.l32_templates.specs.Filled.{spare, word_operand, slot_operand}
use Rattle.l32_target_meaning.specs.Stack.{argument_of}
use Rattle.l32_target_meaning.specs.Agreeing.{Agrees}
use Rattle.l32_target_meaning.specs.Reading.{is_argument, is_own, is_own_place, number_of, number_at, named, names, at_place, reads}
use Rattle.l32_states.proofs.Standing.{high_top, fp_high_is, word_read, local_read, argument_read, argument_to, area_read_so}
use Rattle.l32_target_spelling.proofs.Own.{home_word, local_is}

-- ---- operands that name an address read there

pub by_names : (o : Operand32) (size : Size) (a n : ℕ) (m : State) → names o size m ≡ Some a → number_at (is_own_place o) m a size ≡ Some n → reads o size m ≡ Some n
by_names (operands.At d b) size a n m named e = ap (option_and_then (at_place (operands.At d b) size m)) named ∙ e
by_names (operands.Deferred d b) size a n m named e = ap (option_and_then (at_place (operands.Deferred d b) size m)) named ∙ e
by_names (operands.Addr d) size a n m named e = ap (option_and_then (at_place (operands.Addr d) size m)) named ∙ e
by_names _ size a n m named e = absurd (none-some a named)

-- and what they read stands there
pub of_names : (o : Operand32) (size : Size) (a n : ℕ) (m : State) → names o size m ≡ Some a → reads o size m ≡ Some n → number_at (is_own_place o) m a size ≡ Some n
of_names (operands.At d b) size a n m named e = ap (option_and_then (at_place (operands.At d b) size m)) (sym named) ∙ e
of_names (operands.Deferred d b) size a n m named e = ap (option_and_then (at_place (operands.Deferred d b) size m)) (sym named) ∙ e
of_names (operands.Addr d) size a n m named e = ap (option_and_then (at_place (operands.Addr d) size m)) (sym named) ∙ e
of_names _ size a n m named e = absurd (none-some a named)

-- an operand's own place spells no register
own_bits : (d : ℕ) (b : Base32) → is_own d b ≡ true → spelled.base_bits b ≡ 0
own_bits d bases.Fp e = refl
own_bits d bases.Sp e = refl
own_bits d (bases.A n) e = absurd (false≢true e)

pub own_spells_none : (o : Operand32) → is_own_place o ≡ true → operand_bits o ≡ 0
own_spells_none (operands.At d b) e = own_bits d b e
own_spells_none _ e = absurd (false≢true e)

-- ---- words and arguments

pub is_own_word : (k : ℕ) → k < 1024 → is_own_place (home k) ≡ true
is_own_word k lt =
    or_left (is_some (spelled.word_of (home k))) (is_argument (neg32 (4 * (k + 1)))) (ap (λ (o : Option ℕ). is_some o) (home_word k lt))

argument_is_own : (i : ℕ) → i < 255 → is_argument (4 * (i + 1 - 1)) ≡ true
argument_is_own i lt =
    and_from (nat_le (4 * (i + 1 - 1)) 1016) (4 * (i + 1 - 1) % 4 == 0) (le-leb (4 * (i + 1 - 1)) 1016 (omega (arith, lt))) (is_zero (4 * (i + 1 - 1) % 4) (omega arith))

pub is_own_argument : (i : ℕ) → i < 255 → is_own_place (argument_home (i + 1)) ≡ true
is_own_argument i lt = or_right (is_some (spelled.word_of (argument_home (i + 1)))) (is_argument (4 * (i + 1 - 1))) (argument_is_own i lt)

pub argument_is : (i : ℕ) → i < 255 → slot_operand tok.Arg (i + 1) ≡ argument_home (i + 1)
argument_is i lt =
    ap (λ b. cond b (argument_home (i + 1)) spare)
    (and_from (nat_le 1 (i + 1)) (nat_le (i + 1) 255) (le-leb 1 (i + 1) (omega arith)) (le-leb (i + 1) 255 (omega (arith, lt))))

module _ (objects : List Object) (e : Extent) (es : List Extent) (t : Trees) (m : State) (h : Agrees objects e es t m) where
  fp_small : m.fp ≤ 2147483648
  fp_small = omega (arith, fp_high_is objects e es t m h, high_top objects e es t m h)

  -- a word's operand names its address
  pub home_address : (k : ℕ) → k < e.words → add32 m.fp (neg32 (4 * (k + 1))) ≡ word_of m.fp k
  home_address k lt = omega (arith, fp_small, h.bottom, h.running.words, lt)

  home_reads : (k : ℕ) → k < 1024 → k < e.words → reads (home k) Long m ≡ number_of (read m (word_of m.fp k) Long)
  home_reads k low lt =
      ap (λ b. number_at b m (add32 m.fp (neg32 (4 * (k + 1)))) Long) (is_own_word k low)
      ∙ ap (λ a. number_of (read m a Long)) (home_address k lt)

  pub argument_address : (i : ℕ) → i < length t.running.arguments → add32 m.fp (4 * (i + 1 - 1)) ≡ argument_of m.fp (i + 1)
  argument_address i lt =
      let end = argument_to objects e es t m h i lt in
      omega (arith, end, high_top objects e es t m h)

  argument_reads : (i : ℕ) → i < length t.running.arguments → reads (argument_home (i + 1)) Long m ≡ number_of (read m (argument_of m.fp (i + 1)) Long)
  argument_reads i lt =
      ap (λ b. number_at b m (add32 m.fp (4 * (i + 1 - 1))) Long) (is_own_argument i (omega (arith, lt, h.running.few)))
      ∙ ap (λ a. number_of (read m a Long)) (argument_address i lt)

  pub word_is_read : (k : ℕ) → k < 1024 → k < e.words → reads (word_operand k) Long m ≡ Some (long_at m.stack (word_of m.fp k))
  word_is_read k low lt =
      ap (λ o. reads o Long m) (local_is k low) ∙ home_reads k low lt ∙ ap number_of (word_read objects e es t m h k lt)

  pub local_is_read : (k x : ℕ) → k < 1024 → t.running.locals k ≡ Some x → reads (word_operand k) Long m ≡ Some x
  local_is_read k x low is =
      let there = h.running.is_local k x is in
      ap (λ o. reads o Long m) (local_is k low) ∙ home_reads k low (omega (arith, there, h.running.locals)) ∙ ap number_of (local_read objects e es t m h k x is)

  pub argument_is_read : (i x : ℕ) → i < length t.running.arguments → slice_get t.running.arguments i ≡ Some x → reads (slot_operand tok.Arg (i + 1)) Long m ≡ Some x
  argument_is_read i x lt is =
      ap (λ o. reads o Long m) (argument_is i (omega (arith, lt, h.running.few))) ∙ argument_reads i lt ∙ ap number_of (argument_read objects e es t m h i x is)

  pub argument_is_named : (i : ℕ) → i < length t.running.arguments → IsSome (names (slot_operand tok.Arg (i + 1)) Long m)
  argument_is_named i lt = subst (λ o. IsSome (names o Long m)) (sym (argument_is i (omega (arith, lt, h.running.few)))) refl

  pub word_is_named : (k : ℕ) → k < 1024 → IsSome (names (word_operand k) Long m)
  word_is_named k low = subst (λ o. IsSome (names o Long m)) (sym (local_is k low)) refl

  -- ---- the data area

  pub area_is_read : (own : Bool) (a x : ℕ) (size : Size) → fetched size t.area a ≡ Some x → number_at own m a size ≡ Some x
  area_is_read true a x size is = ap number_of (area_read_so objects e es t m h size a x is)
  area_is_read false a x size is = ap (λ bytes. fetched size bytes a) h.area ∙ is

  pub area_is_read_back : (own : Bool) (a x : ℕ) (size : Size) → own ≡ false → number_at own m a size ≡ Some x → fetched size t.area a ≡ Some x
  area_is_read_back true a x size e is = absurd (false≢true (sym e))
  area_is_read_back false a x size e is = ap (λ bytes. fetched size bytes a) (sym h.area) ∙ is
