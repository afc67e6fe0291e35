-- What a generated source does when it runs: the calls one after another, and the letters of the last answer.
use Rattle.std.specs.Prelude.{◌≡◌, ◌<◌, ◌≤◌, ℕ, zero, suc, ◌+◌, ◌*◌, ◌%◌, ◌^◌, List, [], ◌∷◌, ◌++◌, length, replicate}
use Rattle.gg_base.specs.declared.run.End.TheVariants.{Ended, Spent}
use Rattle.gg_base.specs.declared.size.Size.TheVariants.{Long}
use Rattle.gg_base.specs.Arithmetic.{add32, mul32, and32, xor32, neg32, ash32}
use Rattle.gg_base.specs.LittleEndian.{number_in, with_number}
use Rattle.gg_base.specs.Runs.{Outcome, Runs}

-- the bytes of the table, and the value of main's variable
pub record Progress : Type 0 where
  pub table : List ℕ
  pub s : ℕ

-- where the longword of a number stands in the table
abbrev pub slot : ℕ → ℕ
slot n = 4 * and32 n 63

-- y = x * (2 * i + 1) + i
abbrev pub product : ℕ → ℕ → ℕ
product i x = add32 (mul32 x (2 * i + 1)) i

-- t[x & 63] = t[y & 63] + y
abbrev pub exchanged : ℕ → ℕ → List ℕ → List ℕ
exchanged x y t = with_number Long t (slot x) (add32 (number_in Long t (slot y)) y)

-- y ^ (y >> 3)
abbrev pub answer : ℕ → ℕ
answer y = xor32 y (ash32 (neg32 3) y)

-- function i, with the argument x
abbrev pub applied : ℕ → ℕ → List ℕ → Progress
applied i x t = record { table = exchanged x (product i x) t; s = answer (product i x) }

-- s = f(s + i)
abbrev pub called : ℕ → Progress → Progress
called i p = applied i (add32 p.s i) p.table

-- behind the calls of the functions 0, 1, .. n - 1
abbrev pub after_calls : ℕ → Progress
after_calls zero = record { table = replicate 256 0; s = 1 }
after_calls (suc n) = called n (after_calls n)

-- putchar(65 + (s & 15))
abbrev pub letter : ℕ → ℕ
letter s = add32 65 (and32 s 15) % 2 ^ 8

-- s = (s >> 4) & 268435455
abbrev pub shifted : ℕ → ℕ
shifted s = and32 (ash32 (neg32 4) s) 268435455

-- the letters up to the turn that leaves 0, at most so many
abbrev pub letters : ℕ → ℕ → List ℕ
letters zero s = []
letters (suc n) zero = []
letters (suc n) (suc s) = letter (suc s) ∷ letters n (shifted (suc s))

-- a longword has at most eight
abbrev pub written : ℕ → List ℕ
written k = letters 8 (after_calls k).s

-- the letters and a line feed; it counts the calls and the turns of the loop
abbrev pub source_outcome : ℕ → Outcome
source_outcome k = record { output = written k ++ 10 ∷ []; end = Ended 0; number = k + length (written k) }

-- the run comes to this outcome with each number from the outcome's own on, and to its end with no smaller one
pub record ComesTo (r : Runs) (o : Outcome) : Type 0 where
  pub reaches : (n : ℕ) → o.number ≤ n → r n ≡ o
  pub before : (n : ℕ) → n < o.number → (r n).end ≡ Spent
