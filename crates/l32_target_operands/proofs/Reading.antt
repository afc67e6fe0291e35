-- What an operand reads or names as a target says it, the machine finds.
use Rattle.std.proofs.Common.{◌≡◌, ℕ, ◌+◌, ◌-◌, ◌^◌, ◌≤◌, Bool, true, false, Some, Result, Ok, Err, length, refl, ap, ◌∙◌}
use Rattle.std.specs.Prelude.{nat_le, nat_lt}
use Rattle.std.proofs.lemmas.Bool.{leb-true, le-leb}
use Rattle.std.proofs.lemmas.Option.{cond_some, none-some, same_Some}
use Rattle.gg_base.specs.declared.size.Size.{Size}
use Rattle.gg_base.specs.declared.size.Size.TheVariants.{Long}
use Rattle.gg_base.specs.Sizes.{bytes_of, low}
use Rattle.gg_base.specs.LittleEndian.{number_in}
use Rattle.gg_base.proofs.Facts.{first_true, second_true}
use Rattle.l32_target_meaning.specs.vax_target_meaning.specs.tree_core.specs.Area as trees
use Rattle.l32_target_meaning.specs.vax_target_meaning.specs.vax_machine.specs.Area.{resolved}
use Rattle.l32_target_meaning.specs.vax_target_meaning.specs.Reading.{longword}
use Rattle.l32_target_meaning.specs.l32_templates.specs.l32_core.specs.declared.operand.Operand32.{Operand32}
use Rattle.l32_target_meaning.specs.l32_templates.specs.l32_core.specs.declared.operand.Operand32.TheVariants as operands
use Rattle.l32_target_meaning.specs.l32_templates.specs.l32_machine.specs.declared.turn.Stop32.{Stop32}
use Rattle.l32_target_meaning.specs.l32_templates.specs.l32_machine.specs.declared.memory.Region.{Region}
use Rattle.l32_target_meaning.specs.l32_templates.specs.l32_machine.specs.declared.memory.Region.TheVariants.{Area}
use Rattle.l32_target_meaning.specs.l32_templates.specs.l32_machine.specs.State.{State, reg, ◌>>=◌}
use Rattle.l32_target_meaning.specs.l32_templates.specs.l32_machine.specs.Memory.{touched, read, number_at as number_there}
use Rattle.l32_target_meaning.specs.l32_templates.specs.l32_machine.specs.Operands.{address_of, read_at}
use Rattle.l32_target_meaning.specs.l32_templates.specs.l32_machine.specs.Operands as machine
use Rattle.l32_target_meaning.specs.Reading.{number_of, number_at, named, at_place, is_own, is_own_place, displaced, in_memory, reads}
use Rattle.judging_laws.proofs.Binds.{mapped, then_some}

-- ---- the data area

pub data_touched : (m : State) (a : ℕ) (size : Size) → 65536 ≤ a → a + bytes_of size ≤ 65536 + length m.area → touched m a size ≡ Ok (Area (a - 65536))
unfolding touched
data_touched m a size low high =
    let p : nat_le 65536 a ≡ true = le-leb 65536 a low in
    let q : nat_le (a + bytes_of size) (65536 + length m.area) ≡ true = le-leb (a + bytes_of size) (65536 + length m.area) high in
    rw (p, q) refl

pub data_read : (m : State) (a : ℕ) (size : Size) → trees.is_inside size m.area a ≡ true → read m a size ≡ Ok (number_in size m.area (a - 65536))
unfolding read
data_read m a size e =
    let low = leb-true 65536 a (first_true (nat_le 65536 a) (nat_le (a + bytes_of size) (65536 + length m.area)) e) in
    let high = leb-true (a + bytes_of size) (65536 + length m.area) (second_true (nat_le 65536 a) (nat_le (a + bytes_of size) (65536 + length m.area)) e) in
    ap (λ (x : Result Region Stop32). x >>= λ (r : Region). Ok (number_there m size r)) (data_touched m a size low high)

-- ---- numbers

number_is : (r : Result ℕ Stop32) (x : ℕ) → number_of r ≡ Some x → r ≡ Ok x
number_is (Ok n) x e = ap (λ (k : ℕ). Ok k) (same_Some n x e)
number_is (Err s) x e = absurd (none-some x e)

pub number_read : (own : Bool) (m : State) (a : ℕ) (size : Size) (x : ℕ) → number_at own m a size ≡ Some x → read m a size ≡ Ok x
number_read true m a size x e = number_is (read m a size) x e
number_read false m a size x e =
    let r = cond_some (trees.is_inside size m.area a) (number_in size m.area (a - 65536)) x e in
    data_read m a size r.0 ∙ ap (λ (n : ℕ). Ok n) r.1

pub longword_is : (n a : ℕ) → longword n ≡ Some a → n ≡ a
longword_is n a e = (cond_some (nat_lt n (2 ^ 32)) n a e).1

-- ---- operands

-- an address that is named is the machine's
pub address_is : (m : State) (o : Operand32) (a : ℕ) → named m o ≡ Some a → address_of m o ≡ Ok a
unfolding address_of
address_is m (operands.Num n) a e = absurd (none-some a e)
address_is m (operands.Reg n) a e = absurd (none-some a e)
address_is m (operands.At d b) a e = ap (λ (k : ℕ). Ok k) (same_Some (displaced m d b) a e)
address_is m (operands.Deferred d b) a e = number_read (is_own d b) m (displaced m d b) Long a e
address_is m (operands.Addr d) a e = ap (λ (k : ℕ). Ok k) (longword_is (resolved m.layout d) a e)

-- what is read at it
pub fetched_there : (m : State) (o : Operand32) (size : Size) (a : ℕ) → named m o ≡ Some a → machine.fetched m size o ≡ read m a size
unfolding machine.fetched
fetched_there m (operands.Num n) size a e = absurd (none-some a e)
fetched_there m (operands.Reg n) size a e = absurd (none-some a e)
fetched_there m (operands.At d b) size a e = ap (read_at m size) (address_is m (operands.At d b) a e)
fetched_there m (operands.Deferred d b) size a e = ap (read_at m size) (address_is m (operands.Deferred d b) a e)
fetched_there m (operands.Addr d) size a e = ap (read_at m size) (address_is m (operands.Addr d) a e)

memory_is : (m : State) (o : Operand32) (size : Size) (x : ℕ) → in_memory o size m ≡ Some x → machine.fetched m size o ≡ Ok x
memory_is m o size x e =
    let r = then_some (at_place o size m) (named m o) x e in
    fetched_there m o size r.0 r.1 ∙ number_read (is_own_place o) m r.0 size x r.2

-- a number that is read is the machine's
pub fetched_is_so : (m : State) (o : Operand32) (size : Size) (x : ℕ) → reads o size m ≡ Some x → machine.fetched m size o ≡ Ok x
unfolding machine.fetched
fetched_is_so m (operands.Num n) size x e =
    let r = mapped (low size) (longword n) x e in
    ap (λ (k : ℕ). Ok (low size k)) (longword_is n r.0 r.1) ∙ ap (λ (k : ℕ). Ok k) r.2
fetched_is_so m (operands.Reg n) size x e = ap (λ (k : ℕ). Ok k) (same_Some (low size (reg m n)) x e)
fetched_is_so m (operands.At d b) size x e = memory_is m (operands.At d b) size x e
fetched_is_so m (operands.Deferred d b) size x e = memory_is m (operands.Deferred d b) size x e
fetched_is_so m (operands.Addr d) size x e = memory_is m (operands.Addr d) size x e

-- a register's number
pub register_fetched : (m : State) (n : ℕ) (size : Size) → machine.fetched m size (operands.Reg n) ≡ Ok (low size (reg m n))
unfolding machine.fetched
register_fetched m n size = refl

pub number_fetched : (m : State) (n : ℕ) (size : Size) → machine.fetched m size (operands.Num n) ≡ Ok (low size n)
unfolding machine.fetched
number_fetched m n size = refl
