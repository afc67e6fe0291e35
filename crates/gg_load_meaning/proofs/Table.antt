-- The table's longwords lie in the data area.
use Rattle.std.proofs.Common.{◌≡◌, ◌≤◌, ℕ, ◌+◌, ◌-◌, ◌*◌, Bool, true, cond, List, ◌++◌, length, take, drop, Some, None, nat_le, refl, ap, ◌∙◌, arith, length-append, length-drop}
use Rattle.std.proofs.lemmas.List.{length-take-le}
use Rattle.std.specs.Int.{w32, to_le_bytes}
use Rattle.std.proofs.lemmas.Bool.{le-leb}
use Rattle.std.proofs.lemmas.Nat.{and_le_r}
use Rattle.gg_base.specs.declared.size.Size.TheVariants.{Long}
use Rattle.gg_base.specs.Arithmetic.{and32}
use Rattle.gg_base.specs.LittleEndian.{number_in, with_number}
use Rattle.tree_core.specs.Area.{is_inside, fetched, stored}
use Rattle.c_types.specs.Types.{size_of, target, integer_size}
use Rattle.c_types.specs.Constants.{scale, advanced}
use Rattle.gg_load_program.specs.Program.{int_pointer}
use Rattle.gg_load_meaning.specs.Run.{slot, exchanged}

reduced : (n : ℕ) → and32 n 63 ≤ 63
reduced n = and_le_r n 63

-- the address of an element
address_by : (m : ℕ) → m ≤ 63 → advanced int_pointer 65536 m ≡ 65536 + 4 * m
unfolding advanced scale target size_of integer_size
address_by m low = omega arith

pub address_is : (n : ℕ) → advanced int_pointer 65536 (and32 n 63) ≡ 65536 + slot n
address_is n = address_by (and32 n 63) (reduced n)

inside_by : (a : List ℕ) (m : ℕ) → length a ≡ 256 → m ≤ 252 → is_inside Long a (65536 + m) ≡ true
inside_by a m len low =
    let first : nat_le 65536 (65536 + m) ≡ true = le-leb 65536 (65536 + m) (omega arith) in
    let last : nat_le (65536 + m + 4) (65536 + length a) ≡ true = le-leb (65536 + m + 4) (65536 + length a) (omega arith) in
    rw (first, last) refl

slot_low : (n : ℕ) → slot n ≤ 252
slot_low n = let h : and32 n 63 ≤ 63 = reduced n in omega arith

fetched_by : (a : List ℕ) (m : ℕ) → length a ≡ 256 → m ≤ 252 → fetched Long a (65536 + m) ≡ Some (number_in Long a m)
fetched_by a m len low =
    ap (λ (b : Bool). cond b (Some (number_in Long a (65536 + m - 65536))) None) (inside_by a m len low)
    ∙ ap (λ (x : ℕ). Some (number_in Long a x)) (let e : 65536 + m - 65536 ≡ m = omega arith in e)

pub fetched_is : (a : List ℕ) (n : ℕ) → length a ≡ 256 → fetched Long a (advanced int_pointer 65536 (and32 n 63)) ≡ Some (number_in Long a (slot n))
fetched_is a n len = ap (fetched Long a) (address_is n) ∙ fetched_by a (slot n) len (slot_low n)

stored_by : (a : List ℕ) (m v : ℕ) → length a ≡ 256 → m ≤ 252 → stored Long a (65536 + m) v ≡ Some (with_number Long a m v)
stored_by a m v len low =
    ap (λ (b : Bool). cond b (Some (with_number Long a (65536 + m - 65536) v)) None) (inside_by a m len low)
    ∙ ap (λ (x : ℕ). Some (with_number Long a x v)) (let e : 65536 + m - 65536 ≡ m = omega arith in e)

pub stored_is : (a : List ℕ) (n v : ℕ) → length a ≡ 256 → stored Long a (advanced int_pointer 65536 (and32 n 63)) v ≡ Some (with_number Long a (slot n) v)
stored_is a n v len = ap (λ (x : ℕ). stored Long a x v) (address_is n) ∙ stored_by a (slot n) v len (slot_low n)

length_by : (a : List ℕ) (m v : ℕ) → length a ≡ 256 → m ≤ 252 → length (with_number Long a m v) ≡ 256
length_by a m v len low =
    let four : length (to_le_bytes w32 v) ≡ 4 = refl in
    let all : length (take m a ++ (to_le_bytes w32 v ++ drop (m + 4) a)) ≡ length (take m a) + length (to_le_bytes w32 v ++ drop (m + 4) a) =
    length-append (take m a) (to_le_bytes w32 v ++ drop (m + 4) a) in
    let front : length (take m a) ≡ m = length-take-le m a (omega arith) in
    let more : length (to_le_bytes w32 v ++ drop (m + 4) a) ≡ length (to_le_bytes w32 v) + length (drop (m + 4) a) = length-append (to_le_bytes w32 v) (drop (m + 4) a) in
    let rest : length (drop (m + 4) a) ≡ length a - (m + 4) = length-drop (m + 4) a in
    omega arith

pub exchanged_length : (x y : ℕ) (a : List ℕ) → length a ≡ 256 → length (exchanged x y a) ≡ 256
exchanged_length x y a len = length_by a (slot x) _ len (slot_low x)
