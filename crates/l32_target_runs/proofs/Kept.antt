-- What a change of one register leaves as it was.
use Rattle.std.proofs.Common.{◌≡◌, ℕ, ◌^◌, ◌<◌, ◌==◌, Bool, true, false, Option, Some, None, List, [], ◌∷◌, refl, sym, ap, ◌∙◌}
use Rattle.std.specs.Int.{bit_at}
use Rattle.std.specs.Option.{option_and_then}
use Rattle.gg_base.specs.declared.size.Size.{Size}
use Rattle.gg_base.specs.declared.size.Size.TheVariants.{Long}
use Rattle.gg_base.specs.Arithmetic.{add32}
use Rattle.gg_base.specs.Sizes.{low}
use Rattle.l32_target_lines.specs.judging_laws.specs.sel_target.specs.Meaning.{Spot, RegAt}
use Rattle.l32_target_lines.specs.judging_laws.specs.sel_target.specs.Outcomes.{Keeps}
use Rattle.l32_target_lines.specs.l32_templates.specs.l32_core.specs.declared.operand.Base32.{Base32}
use Rattle.l32_target_lines.specs.l32_templates.specs.l32_core.specs.declared.operand.Base32.TheVariants as bases
use Rattle.l32_target_lines.specs.l32_templates.specs.l32_core.specs.declared.operand.Operand32.{Operand32}
use Rattle.l32_target_lines.specs.l32_templates.specs.l32_core.specs.declared.operand.Operand32.TheVariants as operands
use Rattle.l32_target_lines.specs.l32_templates.specs.l32_machine.specs.State.{State, with_reg, base}
use Rattle.l32_target_lines.specs.l32_templates.specs.l32_machine.specs.Memory.{touched, read}
use Rattle.l32_target_lines.specs.l32_templates.specs.Spelled.{bit_of, operand_bits}
use Rattle.l32_target_lines.specs.l32_target_meaning.specs.Reading.{number_of, number_at, displaced, named, is_own, is_own_place, at_place, in_memory, reads}
use Rattle.l32_target_lines.specs.l32_target_meaning.specs.L32.{l32}
use Rattle.l32_states.proofs.Sound.{reg_other}
use Rattle.l32_states.proofs.Standing.{register_kept}
use Rattle.l32_target_spelling.proofs.Own.{spelled_touched}
use Rattle.l32_target_runs.specs.Runs.{RegistersAreKept}

module _ (m : State) (r v : ℕ) where
  abbrev other : State
  other = with_reg m r v

  -- an operand that doesn't spell the register
  abbrev BaseIsOff : Base32 → Type 0
  BaseIsOff (bases.A n) = n ≡ r → ⊥
  BaseIsOff bases.Fp = Unit {0}
  BaseIsOff bases.Sp = Unit {0}

  abbrev IsOff : Operand32 → Type 0
  IsOff (operands.Num n) = Unit {0}
  IsOff (operands.Reg n) = n ≡ r → ⊥
  IsOff (operands.At d b) = BaseIsOff b
  IsOff (operands.Deferred d b) = BaseIsOff b
  IsOff (operands.Addr a) = Unit {0}

  base_kept : (b : Base32) → BaseIsOff b → base other b ≡ base m b
  base_kept (bases.A n) off = reg_other m r v n off
  base_kept bases.Fp off = refl
  base_kept bases.Sp off = refl

  read_same : (a : ℕ) (size : Size) → read other a size ≡ read m a size
  unfolding read touched
  read_same a size = refl

  number_kept : (own : Bool) (a : ℕ) (size : Size) → number_at own other a size ≡ number_at own m a size
  number_kept true a size = ap number_of (read_same a size)
  number_kept false a size = refl

  named_kept : (o : Operand32) → IsOff o → named other o ≡ named m o
  named_kept (operands.Num n) off = refl
  named_kept (operands.Reg n) off = refl
  named_kept (operands.At d b) off = ap (λ (x : ℕ). Some (add32 x d)) (base_kept b off)
  named_kept (operands.Deferred d b) off =
      number_kept (is_own d b) (displaced other d b) Long ∙ ap (λ x. number_at (is_own d b) m (add32 x d) Long) (base_kept b off)
  named_kept (operands.Addr a) off = refl

  then_kept : (f g : ℕ → Option ℕ) (o : Option ℕ) → ((x : ℕ) → f x ≡ g x) → option_and_then f o ≡ option_and_then g o
  then_kept f g None h = refl
  then_kept f g (Some x) h = h x

  memory_kept : (o : Operand32) (size : Size) → IsOff o → in_memory o size other ≡ in_memory o size m
  memory_kept o size off =
      ap (option_and_then (at_place o size other)) (named_kept o off)
      ∙ then_kept (at_place o size other) (at_place o size m) (named m o) (λ a. number_kept (is_own_place o) a size)

  reads_kept : (o : Operand32) (size : Size) → IsOff o → reads o size other ≡ reads o size m
  reads_kept (operands.Num n) size off = refl
  reads_kept (operands.Reg n) size off = ap (λ (x : ℕ). Some (low size x)) (reg_other m r v n off)
  reads_kept (operands.At d b) size off = memory_kept (operands.At d b) size off
  reads_kept (operands.Deferred d b) size off = memory_kept (operands.Deferred d b) size off
  reads_kept (operands.Addr a) size off = memory_kept (operands.Addr a) size off

  spelled_off : r < 12 → (n : ℕ) → (bit_at (bit_of n) r == 1) ≡ false → n ≡ r → ⊥
  spelled_off lt n off e = let x : true ≡ false = sym (spelled_touched n r lt e) ∙ off in cc

  base_off : r < 12 → (b : Base32) → (bit_at (operand_bits (operands.At 0 b)) r == 1) ≡ false → BaseIsOff b
  base_off lt (bases.A n) off = spelled_off lt n off
  base_off lt bases.Fp off = tt
  base_off lt bases.Sp off = tt

  is_off : r < 12 → (o : Operand32) → (bit_at (operand_bits o) r == 1) ≡ false → IsOff o
  is_off lt (operands.Num n) off = tt
  is_off lt (operands.Reg n) off = spelled_off lt n off
  is_off lt (operands.At d b) off = base_off lt b off
  is_off lt (operands.Deferred d b) off = base_off lt b off
  is_off lt (operands.Addr a) off = tt

  pub register_keeps : r < 12 → v < 2 ^ 32 → Keeps l32 (RegAt r ∷ []) m other
  register_keeps lt fits = record {
    reads = λ o size x un e. reads_kept o size (is_off lt o un.0) ∙ e;
    names = λ o size x un e. named_kept o (is_off lt o un.0) ∙ e;
    agrees = λ q f fs t free h. register_kept q.objects f fs t m h r v fits;
    room = λ h. record { space = h.space; frame = h.frame };
    live = refl;
  }

pub registers_are_kept : RegistersAreKept
registers_are_kept r v m lt fits = register_keeps m r v lt fits

-- nothing has changed
pub all_kept : (m : State) → Keeps l32 [] m m
all_kept m = record {
  reads = λ o size x un e. e;
  names = λ o size x un e. e;
  agrees = λ q f fs t free h. h;
  room = λ h. h;
  live = refl;
}

-- one change behind another
pub both_kept : (spots : List Spot) (m n k : State) → Keeps l32 spots m n → Keeps l32 spots n k → Keeps l32 spots m k
both_kept spots m n k h g = record {
  reads = λ o size x un e. g.reads o size x un (h.reads o size x un e);
  names = λ o size x un e. g.names o size x un (h.names o size x un e);
  agrees = λ q f fs t free a. g.agrees q f fs t free (h.agrees q f fs t free a);
  room = λ r. g.room (h.room r);
  live = g.live ∙ h.live;
}

-- where nothing changed, nothing more is asked of what changes then
pub none_then : (spots : List Spot) (m n k : State) → Keeps l32 [] m n → Keeps l32 spots n k → Keeps l32 spots m k
none_then spots m n k h g = record {
  reads = λ o size x un e. g.reads o size x un (h.reads o size x tt e);
  names = λ o size x un e. g.names o size x un (h.names o size x tt e);
  agrees = λ q f fs t free a. g.agrees q f fs t free (h.agrees q f fs t tt a);
  room = λ r. g.room (h.room r);
  live = g.live ∙ h.live;
}
