-- What stands at the places of the data area, of locals and of arguments.
use Rattle.std.proofs.Common.{◌≡◌, ℕ, ◌+◌, ◌*◌, ◌%◌, ◌<◌, ◌==◌, ◌&&◌, Bool, true, false, cond, Option, Some, None, List, length, refl, sym, ap, subst, ◌∙◌, arith, slice_get}
use Rattle.std.specs.Prelude.{nat_le, is_some, IsSome}
use Rattle.std.specs.Option.{option_and_then}
use Rattle.std.proofs.lemmas.Bool.{false≢true, le-leb, and_from}
use Rattle.std.proofs.lemmas.Option.{none-some}
use Rattle.gg_base.specs.declared.size.Size.{Size}
use Rattle.gg_base.specs.declared.size.Size.TheVariants.{Long}
use Rattle.gg_base.specs.Arithmetic.{add32, neg32}
use Rattle.gg_base.proofs.Facts.{is_zero}
use Rattle.tree_core.specs.declared.token.Tok.TheVariants as tok
use Rattle.tree_core.specs.declared.program.Object.{Object}
use Rattle.tree_core.specs.Area.{fetched}
use Rattle.vax_target_spelling.specs.tree_meaning.specs.State.{State as Trees, Extent}
use Rattle.vax_core.specs.declared.register.Reg.{Reg}
use Rattle.vax_core.specs.declared.register.Reg.TheVariants.{Ap, Fp}
use Rattle.vax_core.specs.declared.operand.Addr.{Addr}
use Rattle.vax_core.specs.declared.operand.Base.{Base}
use Rattle.vax_core.specs.declared.operand.Base.TheVariants as bases
use Rattle.vax_core.specs.Registers.{operand_bits}
use Rattle.vax_core.specs.Homes.{home, argument_home}
use Rattle.vax_machine.specs.State.{State, reg}
use Rattle.vax_machine.specs.Memory.{read}
use Rattle.vax_target_spelling.specs.vax_states.specs.Stack.{long_at, word_of, argument_of}
use Rattle.vax_target_spelling.specs.vax_states.specs.Agreeing.{Agrees}
use Rattle.vax_target_spelling.specs.vax_states.proofs.Keeping.{reg_small}
use Rattle.vax_target_spelling.specs.vax_states.proofs.Law.{word_address}
use Rattle.vax_target_spelling.specs.vax_states.proofs.Standing.{high_top, word_read, local_read, argument_read, area_read_so}
use Rattle.vax_target_spelling.specs.vax_templates.specs.Filled.{spare, word_operand, slot_operand}
use Rattle.vax_target_spelling.specs.vax_target_meaning.specs.Reading.{is_own, is_own_base, is_own_place, number_of, number_at, named, names, at_place, reads}
use Rattle.vax_target_spelling.proofs.Own.{home_word, local_is}

-- ---- operands that name an address read there

pub by_names : (b : Base) (x : Option Reg) (size : Size) (a n : ℕ) (m : State) → names (record { base = b; index = x }) size m ≡ Some a →
    number_at (is_own_place (record { base = b; index = x })) m a size ≡ Some n → reads (record { base = b; index = x }) size m ≡ Some n
by_names (bases.Def r) x size a n m named e = ap (option_and_then (at_place (record { base = bases.Def r; index = x }) size m)) named ∙ e
by_names (bases.Disp d r) x size a n m named e = ap (option_and_then (at_place (record { base = bases.Disp d r; index = x }) size m)) named ∙ e
by_names (bases.DispDef d r) x size a n m named e = ap (option_and_then (at_place (record { base = bases.DispDef d r; index = x }) size m)) named ∙ e
by_names (bases.Abs k) x size a n m named e = ap (option_and_then (at_place (record { base = bases.Abs k; index = x }) size m)) named ∙ e
by_names (bases.Rel d) x size a n m named e = ap (option_and_then (at_place (record { base = bases.Rel d; index = x }) size m)) named ∙ e
by_names (bases.RelDef d) x size a n m named e = ap (option_and_then (at_place (record { base = bases.RelDef d; index = x }) size m)) named ∙ e
by_names _ x size a n m named e = absurd (none-some a named)

-- and what they read stands there
pub of_names : (b : Base) (x : Option Reg) (size : Size) (a n : ℕ) (m : State) → names (record { base = b; index = x }) size m ≡ Some a →
    reads (record { base = b; index = x }) size m ≡ Some n → number_at (is_own_place (record { base = b; index = x })) m a size ≡ Some n
of_names (bases.Def r) x size a n m named e = ap (option_and_then (at_place (record { base = bases.Def r; index = x }) size m)) (sym named) ∙ e
of_names (bases.Disp d r) x size a n m named e = ap (option_and_then (at_place (record { base = bases.Disp d r; index = x }) size m)) (sym named) ∙ e
of_names (bases.DispDef d r) x size a n m named e = ap (option_and_then (at_place (record { base = bases.DispDef d r; index = x }) size m)) (sym named) ∙ e
of_names (bases.Abs k) x size a n m named e = ap (option_and_then (at_place (record { base = bases.Abs k; index = x }) size m)) (sym named) ∙ e
of_names (bases.Rel d) x size a n m named e = ap (option_and_then (at_place (record { base = bases.Rel d; index = x }) size m)) (sym named) ∙ e
of_names (bases.RelDef d) x size a n m named e = ap (option_and_then (at_place (record { base = bases.RelDef d; index = x }) size m)) (sym named) ∙ e
of_names _ x size a n m named e = absurd (none-some a named)

-- an operand's own place spells no register
own_register : (r : Reg) (a : Addr) → is_own r a ≡ true → operand_bits (record { base = bases.Disp a r; index = None }) ≡ 0
own_register Fp a e = refl
own_register Ap a e = refl
own_register r a e = absurd (false≢true e)

own_bits : (b : Base) → is_own_base b ≡ true → operand_bits (record { base = b; index = None }) ≡ 0
own_bits (bases.Disp a r) e = own_register r a e
own_bits b e = absurd (false≢true e)

pub own_spells_none : (b : Base) (x : Option Reg) → is_own_place (record { base = b; index = x }) ≡ true → operand_bits (record { base = b; index = x }) ≡ 0
own_spells_none b None e = own_bits b e
own_spells_none b (Some r) e = absurd (false≢true e)

-- ---- words and arguments

is_own_word : (k : ℕ) → k < 1024 → is_own_place (home k) ≡ true
is_own_word k lt = ap (λ (o : Option ℕ). is_some o) (home_word k lt)

is_own_argument : (i : ℕ) → i < 255 → is_own_place (argument_home (i + 1)) ≡ true
is_own_argument i lt =
    and_from (nat_le 4 (4 * (i + 1))) (nat_le (4 * (i + 1)) 1020 && (4 * (i + 1) % 4 == 0)) (le-leb 4 (4 * (i + 1)) (omega arith))
    (and_from (nat_le (4 * (i + 1)) 1020) (4 * (i + 1) % 4 == 0) (le-leb (4 * (i + 1)) 1020 (omega arith)) (is_zero (4 * (i + 1) % 4) (omega arith)))

pub argument_is : (i : ℕ) → i < 255 → slot_operand tok.Arg (i + 1) ≡ argument_home (i + 1)
argument_is i lt = ap (λ b. cond b (argument_home (i + 1)) spare) (le-leb (i + 1) 255 (omega arith))

module _ (objects : List Object) (e : Extent) (es : List Extent) (t : Trees) (m : State) (h : Agrees objects e es t m) where
  home_address : (k : ℕ) → k < e.words → add32 (neg32 (4 * (k + 1))) (reg m Fp) ≡ word_of (reg m Fp) k
  home_address k lt = word_address (reg m Fp) k (omega (arith, h.fp, h.bottom, h.running.words, lt)) (reg_small m Fp h.sound)

  home_reads : (k : ℕ) → k < 1024 → k < e.words → reads (home k) Long m ≡ number_of (read m (word_of (reg m Fp) k) Long)
  home_reads k low lt =
      ap (λ b. number_at b m (add32 (neg32 (4 * (k + 1))) (reg m Fp)) Long) (is_own_word k low)
      ∙ ap (λ a. number_of (read m a Long)) (home_address k lt)

  argument_address : (i : ℕ) → i < length t.running.arguments → add32 (4 * (i + 1)) (reg m Ap) ≡ argument_of (reg m Ap) (i + 1)
  argument_address i lt =
      let end = high_top objects e es t m h in
      omega (arith, h.ap, h.running.end, end, lt)

  argument_reads : (i : ℕ) → i < length t.running.arguments → reads (argument_home (i + 1)) Long m ≡ number_of (read m (argument_of (reg m Ap) (i + 1)) Long)
  argument_reads i lt =
      ap (λ b. number_at b m (add32 (4 * (i + 1)) (reg m Ap)) Long) (is_own_argument i (omega (arith, lt, h.running.few)))
      ∙ ap (λ a. number_of (read m a Long)) (argument_address i lt)

  pub word_is_read : (k : ℕ) → k < 1024 → k < e.words → reads (word_operand k) Long m ≡ Some (long_at m.stack (word_of h.innermost.fp k))
  word_is_read k low lt =
      ap (λ o. reads o Long m) (local_is k low) ∙ home_reads k low lt ∙ ap number_of (word_read objects e es t m h k lt)

  pub local_is_read : (k x : ℕ) → k < 1024 → t.running.locals k ≡ Some x → reads (word_operand k) Long m ≡ Some x
  local_is_read k x low is =
      let there = h.running.is_local k x is in
      ap (λ o. reads o Long m) (local_is k low) ∙ home_reads k low (omega (arith, there, h.running.locals)) ∙ ap number_of (local_read objects e es t m h k x is)

  pub argument_is_read : (i x : ℕ) → i < length t.running.arguments → slice_get t.running.arguments i ≡ Some x → reads (slot_operand tok.Arg (i + 1)) Long m ≡ Some x
  argument_is_read i x lt is =
      ap (λ o. reads o Long m) (argument_is i (omega (arith, lt, h.running.few))) ∙ argument_reads i lt ∙ ap number_of (argument_read objects e es t m h i x is)

  pub argument_is_named : (i : ℕ) → i < length t.running.arguments → IsSome (names (slot_operand tok.Arg (i + 1)) Long m)
  argument_is_named i lt = subst (λ o. IsSome (names o Long m)) (sym (argument_is i (omega (arith, lt, h.running.few)))) refl

  pub word_is_named : (k : ℕ) → k < 1024 → IsSome (names (word_operand k) Long m)
  word_is_named k low = subst (λ o. IsSome (names o Long m)) (sym (local_is k low)) refl

  -- ---- the data area

  pub area_is_read : (own : Bool) (a x : ℕ) (size : Size) → fetched size t.area a ≡ Some x → number_at own m a size ≡ Some x
  area_is_read true a x size is = ap number_of (area_read_so objects e es t m h size a x is)
  area_is_read false a x size is = ap (λ bytes. fetched size bytes a) h.area ∙ is

  pub area_is_read_back : (own : Bool) (a x : ℕ) (size : Size) → own ≡ false → number_at own m a size ≡ Some x → fetched size t.area a ≡ Some x
  area_is_read_back true a x size e is = absurd (false≢true (sym e))
  area_is_read_back false a x size e is = ap (λ bytes. fetched size bytes a) (sym h.area) ∙ is
