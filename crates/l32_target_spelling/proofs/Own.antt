-- What the operands of registers, words and arguments spell, and which operands are spelled alike.
use Rattle.std.proofs.Common.{◌≡◌, ◌↔◌, ℕ, ◌+◌, ◌-◌, ◌*◌, ◌^◌, ◌<◌, ◌≤◌, ◌==◌, ◌&&◌, Bool, true, false, cond, Option, Some, None, List, refl, sym, ap, subst, ◌∙◌, arith}
use Rattle.std.specs.Prelude.{nat_lt}
use Rattle.std.specs.Int.{bit_at}
use Rattle.std.specs.Cmp.Lexicographic.{same_text}
use Rattle.std.proofs.lemmas.Cmp.{nat_list_eq_equiv}
use Rattle.std.proofs.lemmas.Bool.{lt-ltb, eqb-true, eq-eqb, false≢true, and_from}
use Rattle.std.proofs.lemmas.Nat.Bits.{bit_at-zero, bit_at-pow_same}
use Rattle.judging_laws.specs.vax_templates.specs.gg_base.proofs.Facts.{first_true, second_true}
use Rattle.judging_laws.specs.vax_templates.specs.gg_base.proofs.Words.{neg_twice}
use Rattle.judging_laws.specs.vax_templates.specs.gg_base.specs.Arithmetic.{neg32}
use Rattle.judging_laws.specs.sel_target.specs.Meaning.{Spot, RegAt, WordAt, touches}
use Rattle.judging_laws.specs.sel_target.specs.Values.{IsArgument}
use Rattle.judging_laws.specs.vax_templates.specs.FrameWords.{word_below}
use Rattle.judging_laws.specs.vax_templates.specs.vax_core.specs.declared.operand.Addr.{Addr}
use Rattle.judging_laws.specs.vax_templates.specs.vax_core.specs.Same.{same_name}
use Rattle.judging_laws.proofs.FrameWords.{word_at, no_word}
use Rattle.l32_target_meaning.specs.vax_target_meaning.specs.tree_core.specs.declared.token.Tok.TheVariants as tok
use Rattle.l32_target_meaning.specs.l32_templates.specs.l32_core.specs.declared.operand.Base32.{Base32}
use Rattle.l32_target_meaning.specs.l32_templates.specs.l32_core.specs.declared.operand.Base32.TheVariants as bases
use Rattle.l32_target_meaning.specs.l32_templates.specs.l32_core.specs.declared.operand.Operand32.{Operand32}
use Rattle.l32_target_meaning.specs.l32_templates.specs.l32_core.specs.declared.operand.Operand32.TheVariants as operands
use Rattle.l32_target_meaning.specs.l32_templates.specs.Homes.{home, at_home, argument_home}
use Rattle.l32_target_meaning.specs.l32_templates.specs.Spelled.{bit_of, operand_bits, word_of, same_base, same_addr, same_operand}
use Rattle.l32_target_meaning.specs.l32_templates.specs.Filled.{spare, word_operand, is_argument, slot_operand}
use Rattle.l32_target_meaning.specs.L32.{l32}

-- ---- operands that are spelled alike

base_equal : (a b : Base32) → same_base a b ≡ true → a ≡ b
base_equal (bases.A n) (bases.A k) e = ap bases.A (eqb-true n k e)
base_equal bases.Fp bases.Fp e = refl
base_equal bases.Sp bases.Sp e = refl
base_equal _ _ e = absurd (false≢true e)

base_same : (b : Base32) → same_base b b ≡ true
base_same (bases.A n) = eq-eqb n n refl
base_same bases.Fp = refl
base_same bases.Sp = refl

name_equal : (a b : Option (List ℕ)) → same_name a b ≡ true → a ≡ b
name_equal None None e = refl
name_equal (Some a) (Some b) e = ap Some (same_text a b (sym e))
name_equal _ _ e = absurd (false≢true e)

name_same : (a : Option (List ℕ)) → same_name a a ≡ true
name_same None = refl
name_same (Some a) = nat_list_eq_equiv.refl a

addr_equal : (a b : Addr) → same_addr a b ≡ true → a ≡ b
addr_equal a b e =
    let n = name_equal a.name b.name (first_true (same_name a.name b.name) (a.offset == b.offset) e) in
    let k : a.offset ≡ b.offset = eqb-true a.offset b.offset (second_true (same_name a.name b.name) (a.offset == b.offset) e) in
    λ i. record { name = n i; offset = k i }

placed : (made : ℕ → Base32 → Operand32) (d e : ℕ) (b c : Base32) → ((d == e) && same_base b c) ≡ true → made d b ≡ made e c
placed made d e b c t =
    let k : d ≡ e = eqb-true d e (first_true (d == e) (same_base b c) t) in
    let r = base_equal b c (second_true (d == e) (same_base b c) t) in
    λ i. made (k i) (r i)

operand_equal : (a b : Operand32) → same_operand a b ≡ true → a ≡ b
operand_equal (operands.Num n) (operands.Num k) e = ap operands.Num (eqb-true n k e)
operand_equal (operands.Reg n) (operands.Reg k) e = ap operands.Reg (eqb-true n k e)
operand_equal (operands.At d b) (operands.At f c) e = placed operands.At d f b c e
operand_equal (operands.Deferred d b) (operands.Deferred f c) e = placed operands.Deferred d f b c e
operand_equal (operands.Addr a) (operands.Addr b) e = ap operands.Addr (addr_equal a b e)
operand_equal _ _ e = absurd (false≢true e)

operand_same : (a : Operand32) → same_operand a a ≡ true
operand_same (operands.Num n) = eq-eqb n n refl
operand_same (operands.Reg n) = eq-eqb n n refl
operand_same (operands.At d b) = and_from (d == d) (same_base b b) (eq-eqb d d refl) (base_same b)
operand_same (operands.Deferred d b) = and_from (d == d) (same_base b b) (eq-eqb d d refl) (base_same b)
operand_same (operands.Addr a) = and_from (same_name a.name a.name) (a.offset == a.offset) (name_same a.name) (eq-eqb a.offset a.offset refl)

pub same_is : (a b : Operand32) → (same_operand a b ≡ true) ↔ (a ≡ b)
same_is a b = (λ t. operand_equal a b t, λ e. subst (λ (o : Operand32). same_operand a o ≡ true) e (operand_same a))

-- ---- registers

pub register_bits : (r : ℕ) → r < 12 → bit_of r ≡ 2 ^ r
register_bits r lt = ap (λ (b : Bool). cond b (2 ^ r) 0) (lt-ltb r 12 lt)

-- a register that an operand spells is touched
pub spelled_touched : (n r : ℕ) → r < 12 → n ≡ r → (bit_at (bit_of n) r == 1) ≡ true
spelled_touched n r lt e = ap (λ (k : ℕ). bit_at (bit_of k) r == 1) e ∙ (ap (λ (k : ℕ). bit_at k r == 1) (register_bits r lt) ∙ ap (λ (k : ℕ). k == 1) (bit_at-pow_same r))

-- ---- words of the frame, and arguments

pub home_word : (w : ℕ) → w < 1024 → word_of (home w) ≡ Some w
home_word w lt = ap word_below (neg_twice (4 * (w + 1)) (omega arith)) ∙ word_at w lt

pub local_is : (k : ℕ) → k < 1024 → word_operand k ≡ home k
local_is k lt = ap (λ b. cond b (home k) spare) (lt-ltb k 1024 lt)

pub local_word : (k : ℕ) → k < 1024 → word_of (word_operand k) ≡ Some k
local_word k lt = ap word_of (local_is k lt) ∙ home_word k lt

pub local_bits : (k : ℕ) → operand_bits (word_operand k) ≡ 0
local_bits k = by (nat_lt k 1024) where
  by : (b : Bool) → operand_bits (cond b (home k) spare) ≡ 0
  by true = refl
  by false = refl

pub argument_bits : (k : ℕ) → operand_bits (slot_operand tok.Arg k) ≡ 0
argument_bits k = by (is_argument k) where
  by : (b : Bool) → operand_bits (cond b (argument_home k) spare) ≡ 0
  by true = refl
  by false = refl

-- arguments lie at fp and above it
not_below : (k : ℕ) → 1 ≤ k → k ≤ 255 → 4 ≤ neg32 (4 * (k - 1)) → neg32 (4 * (k - 1)) ≤ 4096 → ⊥
not_below k from to low high = omega (arith, from, to, low, high)

pub argument_word : (k : ℕ) → IsArgument k → word_of (slot_operand tok.Arg k) ≡ None
argument_word k is = by (is_argument k) where
  by : (b : Bool) → word_of (cond b (argument_home k) spare) ≡ None
  by true = no_word (neg32 (4 * (k - 1))) (not_below k is.0 is.1)
  by false = refl

-- ---- operands that touch nothing

pub none_at : (n : ℕ) → (bit_at 0 n == 1) ≡ false
none_at n = ap (λ (k : ℕ). k == 1) (bit_at-zero n)

pub num_touches : (k : ℕ) (s : Spot) → touches l32 (operands.Num k) s ≡ true → ⊥
num_touches k (RegAt n) e = false≢true (sym (none_at n) ∙ e)
num_touches k (WordAt w) e = false≢true e

pub addr_touches : (a : Addr) (s : Spot) → touches l32 (operands.Addr a) s ≡ true → ⊥
addr_touches a (RegAt n) e = false≢true (sym (none_at n) ∙ e)
addr_touches a (WordAt w) e = false≢true e

-- a displacement touches what its register does
pub at_touches : (d n : ℕ) (s : Spot) → touches l32 (operands.At d (bases.A n)) s ≡ true → touches l32 (operands.Reg n) s ≡ true
at_touches d n (RegAt k) e = e
at_touches d n (WordAt w) e = absurd (false≢true e)

pub deferred_touches : (d n : ℕ) (s : Spot) → touches l32 (operands.Deferred d (bases.A n)) s ≡ true → touches l32 (operands.Reg n) s ≡ true
deferred_touches d n (RegAt k) e = e
deferred_touches d n (WordAt w) e = absurd (false≢true e)

pub at_home_touches : (k : ℕ) (s : Spot) → touches l32 (at_home k) s ≡ true → touches l32 (home k) s ≡ true
at_home_touches k (RegAt n) e = e
at_home_touches k (WordAt w) e = e
