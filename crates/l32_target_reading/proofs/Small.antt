-- What is read is of its size, and an address is a longword.
use Rattle.std.proofs.Common.{◌≡◌, ℕ, ◌-◌, ◌*◌, ◌^◌, ◌<◌, Bool, true, false, cond, Option, Some, None, Result, Ok, Err, refl, subst, arith, option_map}
use Rattle.std.specs.Prelude.{nat_lt}
use Rattle.std.specs.Option.{option_and_then}
use Rattle.std.proofs.lemmas.Bool.Decides.{nat_tests}
use Rattle.gg_base.specs.declared.size.Size.{Size}
use Rattle.gg_base.specs.declared.size.Size.TheVariants.{Byte, Word, Long}
use Rattle.gg_base.specs.Arithmetic.{add32}
use Rattle.gg_base.specs.Sizes.{bytes_of, low}
use Rattle.gg_base.specs.LittleEndian.{number_in}
use Rattle.tree_core.specs.Area.{fetched, is_inside}
use Rattle.l32_target_spelling.specs.judging_laws.specs.sel_target.proofs.AreaBytes.{number_small}
use Rattle.l32_states.specs.vax_machine_lists.proofs.Longwords.{all_bytes}
use Rattle.l32_target_spelling.specs.vax_target_meaning.specs.vax_machine.specs.Area.{resolved}
use Rattle.l32_target_spelling.specs.vax_target_meaning.specs.Reading.{longword}
use Rattle.l32_machine.specs.declared.turn.Stop32.{Stop32}
use Rattle.l32_machine.specs.declared.memory.Region.{Region}
use Rattle.l32_machine.specs.declared.memory.Region.TheVariants as regions
use Rattle.l32_machine.specs.State.{State, reg, base, ◌>>=◌}
use Rattle.l32_machine.specs.Memory.{touched, number_at, read}
use Rattle.l32_target_spelling.specs.l32_templates.specs.l32_core.specs.declared.operand.Operand32.{Operand32}
use Rattle.l32_target_spelling.specs.l32_templates.specs.l32_core.specs.declared.operand.Operand32.TheVariants as operands
use Rattle.l32_target_meaning.specs.Reading as reading
use Rattle.l32_target_meaning.specs.Reading.{number_of, displaced, named, is_own, is_own_place, names, at_place, in_memory, reads}
use Rattle.l32_target_meaning.specs.Agreeing.{IsSound}
use Rattle.l32_states.proofs.Sound.{reg_small}

-- what is below a bound, where there is something
abbrev pub Below : ℕ → Option ℕ → Type 0
Below k None = Unit {0}
Below k (Some n) = n < k

pub below : (k : ℕ) (o : Option ℕ) (x : ℕ) → Below k o → o ≡ Some x → x < k
below k o x h e = subst (Below k) e h

abbrev range : Size → ℕ
range size = 2 ^ (8 * bytes_of size)

longword_below : (n : ℕ) → Below (2 ^ 32) (longword n)
longword_below n = by (nat_lt n (2 ^ 32)) refl where
  by : (b : Bool) → nat_lt n (2 ^ 32) ≡ b → Below (2 ^ 32) (cond b (Some n) None)
  by true e = grind (arith, nat_tests)
  by false e = tt

sum_below : (x y : ℕ) → add32 x y < 2 ^ 32
sum_below x y = omega arith

pub low_below : (size : Size) (n : ℕ) → n < 2 ^ 32 → low size n < range size
low_below Byte n lt = omega arith
low_below Word n lt = omega arith
low_below Long n lt = omega (arith, lt)

module _ (m : State) (sound : IsSound m) where
  region_small : (size : Size) (r : Region) → number_at m size r < range size
  region_small size (regions.Area place) = number_small size m.area place (all_bytes m.area sound.area_bytes)
  region_small size (regions.Stack place) = number_small size m.stack place (all_bytes m.stack sound.stack_bytes)

  read_below : (a : ℕ) (size : Size) → Below (range size) (number_of (read m a size))
  unfolding read
  read_below a size = by (touched m a size) where
    by : (r : Result Region Stop32) → Below (range size) (number_of (r >>= λ (x : Region). Ok (number_at m size x)))
    by (Ok x) = region_small size x
    by (Err e) = tt

  fetched_below : (a : ℕ) (size : Size) → Below (range size) (fetched size m.area a)
  fetched_below a size = by (is_inside size m.area a) where
    by : (b : Bool) → Below (range size) (cond b (Some (number_in size m.area (a - 65536))) None)
    by true = number_small size m.area (a - 65536) (all_bytes m.area sound.area_bytes)
    by false = tt

  at_below : (own : Bool) (a : ℕ) (size : Size) → Below (range size) (reading.number_at own m a size)
  at_below true a size = read_below a size
  at_below false a size = fetched_below a size

  named_below : (o : Operand32) → Below (2 ^ 32) (named m o)
  named_below (operands.Num n) = tt
  named_below (operands.Reg n) = tt
  named_below (operands.At d b) = sum_below (base m b) d
  named_below (operands.Deferred d b) = at_below (is_own d b) (displaced m d b) Long
  named_below (operands.Addr a) = longword_below (resolved m.layout a)

  pub names_below : (o : Operand32) (size : Size) → Below (2 ^ 32) (names o size m)
  names_below o size = named_below o

  memory_below : (o : Operand32) (size : Size) → Below (range size) (in_memory o size m)
  memory_below o size = by (named m o) where
    by : (n : Option ℕ) → Below (range size) (option_and_then (at_place o size m) n)
    by None = tt
    by (Some a) = at_below (is_own_place o) a size

  pub reads_below : (o : Operand32) (size : Size) → Below (2 ^ (8 * bytes_of size)) (reads o size m)
  reads_below (operands.Num k) size = imm (longword k) (longword_below k) where
    imm : (n : Option ℕ) → Below (2 ^ 32) n → Below (range size) (option_map (low size) n)
    imm None h = tt
    imm (Some x) h = low_below size x h
  reads_below (operands.Reg n) size = low_below size (reg m n) (reg_small m n sound)
  reads_below (operands.At d b) size = memory_below (operands.At d b) size
  reads_below (operands.Deferred d b) size = memory_below (operands.Deferred d b) size
  reads_below (operands.Addr a) size = memory_below (operands.Addr a) size
