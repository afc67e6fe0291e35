-- What is read is of its size, and an address is a longword.
use Rattle.std.proofs.Common.{◌≡◌, ℕ, ◌-◌, ◌*◌, ◌^◌, ◌<◌, Bool, true, false, cond, Option, Some, None, Result, Ok, Err, refl, subst, arith, option_map}
use Rattle.std.specs.Prelude.{nat_lt}
use Rattle.std.specs.Option.{option_and_then}
use Rattle.std.proofs.lemmas.Bool.Decides.{nat_tests}
use Rattle.gg_base.specs.declared.size.Size.{Size}
use Rattle.gg_base.specs.declared.size.Size.TheVariants.{Byte, Word, Long}
use Rattle.gg_base.specs.Arithmetic.{add32, mul32}
use Rattle.gg_base.specs.Sizes.{bytes_of, low}
use Rattle.gg_base.specs.LittleEndian.{number_in}
use Rattle.vax_target_spelling.specs.sel_target.proofs.AreaBytes.{number_small}
use Rattle.vax_core.specs.declared.register.Reg.{Reg}
use Rattle.vax_core.specs.declared.operand.Base.{Base}
use Rattle.vax_core.specs.declared.operand.Base.TheVariants as bases
use Rattle.vax_core.specs.declared.operand.Operand.{Operand}
use Rattle.vax_core.specs.Registers.{reg_number}
use Rattle.vax_machine.specs.declared.turn.Stop.{Stop}
use Rattle.vax_machine.specs.declared.memory.Region.{Region}
use Rattle.vax_machine.specs.declared.memory.Region.TheVariants as regions
use Rattle.vax_machine.specs.State.{State, reg, ◌>>=◌}
use Rattle.vax_machine.specs.Area.{resolved}
use Rattle.vax_machine.specs.Memory.{touched, number_at, read}
use Rattle.vax_target_spelling.specs.vax_machine_lists.specs.Sound.{IsSound}
use Rattle.vax_target_spelling.specs.vax_machine_lists.proofs.Longwords.{all_bytes}
use Rattle.vax_target_spelling.specs.vax_states.proofs.Keeping.{reg_small}
use Rattle.tree_core.specs.Area.{fetched, is_inside}
use Rattle.vax_target_spelling.specs.vax_target_meaning.specs.Reading as reading
use Rattle.vax_target_spelling.specs.vax_target_meaning.specs.Reading.{number_of, longword, displaced, named, is_own, is_own_place, moved, names, at_place, in_memory, reads_by, reads}

-- what is below a bound, where there is something
abbrev pub Below : ℕ → Option ℕ → Type 0
Below k None = Unit {0}
Below k (Some n) = n < k

pub below : (k : ℕ) (o : Option ℕ) (x : ℕ) → Below k o → o ≡ Some x → x < k
below k o x h e = subst (Below k) e h

abbrev range : Size → ℕ
range size = 2 ^ (8 * bytes_of size)

longword_below : (n : ℕ) → Below (2 ^ 32) (longword n)
longword_below n = by (nat_lt n (2 ^ 32)) refl where
  by : (b : Bool) → nat_lt n (2 ^ 32) ≡ b → Below (2 ^ 32) (cond b (Some n) None)
  by true e = grind (arith, nat_tests)
  by false e = tt

module _ (m : State) (sound : IsSound m) where
  region_small : (size : Size) (r : Region) → number_at m size r < range size
  region_small size (regions.Area place) = number_small size m.area place (all_bytes m.area sound.area_bytes)
  region_small size (regions.Stack place) = number_small size m.stack place (all_bytes m.stack sound.stack_bytes)

  read_below : (a : ℕ) (size : Size) → Below (range size) (number_of (read m a size))
  unfolding read
  read_below a size = by (touched m a size) where
    by : (r : Result Region Stop) → Below (range size) (number_of (r >>= λ (x : Region). Ok (number_at m size x)))
    by (Ok x) = region_small size x
    by (Err e) = tt

  fetched_below : (a : ℕ) (size : Size) → Below (range size) (fetched size m.area a)
  fetched_below a size = by (is_inside size m.area a) where
    by : (b : Bool) → Below (range size) (cond b (Some (number_in size m.area (a - 65536))) None)
    by true = number_small size m.area (a - 65536) (all_bytes m.area sound.area_bytes)
    by false = tt

  at_below : (own : Bool) (a : ℕ) (size : Size) → Below (range size) (reading.number_at own m a size)
  at_below true a size = read_below a size
  at_below false a size = fetched_below a size

  named_below : (b : Base) → Below (2 ^ 32) (named m b)
  named_below (bases.Imm a) = tt
  named_below (bases.Reg r) = tt
  named_below (bases.Def r) = reg_small m r sound
  named_below (bases.Inc r) = tt
  named_below (bases.IncDef r) = tt
  named_below (bases.Dec r) = tt
  named_below (bases.Disp a r) = sum_below (resolved m.layout a) (reg m r) where
    sum_below : (x y : ℕ) → add32 x y < 2 ^ 32
    sum_below x y = omega arith
  named_below (bases.DispDef a r) = at_below (is_own r a) (displaced m r a) Long
  named_below (bases.Abs n) = longword_below n
  named_below (bases.Rel a) = longword_below (resolved m.layout a)
  named_below (bases.RelDef a) = at_below false (resolved m.layout a) Long

  moved_below : (x : Option Reg) (size : Size) (a : ℕ) → a < 2 ^ 32 → moved m x size a < 2 ^ 32
  moved_below None size a lt = lt
  moved_below (Some r) size a lt = sum_below a (mul32 (reg m r) (bytes_of size)) where
    sum_below : (x y : ℕ) → add32 x y < 2 ^ 32
    sum_below x y = omega arith

  pub names_below : (o : Operand) (size : Size) → Below (2 ^ 32) (names o size m)
  names_below o size = by (named m o.base) (named_below o.base) where
    by : (n : Option ℕ) → Below (2 ^ 32) n → Below (2 ^ 32) (option_map (moved m o.index size) n)
    by None h = tt
    by (Some a) h = moved_below o.index size a h

  low_below : (size : Size) (n : ℕ) → n < 2 ^ 32 → low size n < range size
  low_below Byte n lt = omega arith
  low_below Word n lt = omega arith
  low_below Long n lt = omega (arith, lt)

  memory_below : (o : Operand) (size : Size) → Below (range size) (in_memory o size m)
  memory_below o size = by (names o size m) where
    by : (n : Option ℕ) → Below (range size) (option_and_then (at_place o size m) n)
    by None = tt
    by (Some a) = at_below (is_own_place o) a size

  by_below : (b : Base) (o : Operand) (size : Size) → Below (range size) (reads_by b o size m)
  by_below (bases.Imm a) o size = imm (longword (resolved m.layout a)) (longword_below (resolved m.layout a)) where
    imm : (n : Option ℕ) → Below (2 ^ 32) n → Below (range size) (option_map (low size) n)
    imm None h = tt
    imm (Some x) h = low_below size x h
  by_below (bases.Reg r) o size = here (nat_lt (reg_number r) 12) where
    here : (b : Bool) → Below (range size) (cond b (Some (low size (reg m r))) None)
    here true = low_below size (reg m r) (reg_small m r sound)
    here false = tt
  by_below (bases.Def r) o size = memory_below o size
  by_below (bases.Inc r) o size = memory_below o size
  by_below (bases.IncDef r) o size = memory_below o size
  by_below (bases.Dec r) o size = memory_below o size
  by_below (bases.Disp a r) o size = memory_below o size
  by_below (bases.DispDef a r) o size = memory_below o size
  by_below (bases.Abs n) o size = memory_below o size
  by_below (bases.Rel a) o size = memory_below o size
  by_below (bases.RelDef a) o size = memory_below o size

  pub reads_below : (o : Operand) (size : Size) → Below (2 ^ (8 * bytes_of size)) (reads o size m)
  reads_below o size = by_below o.base o size
