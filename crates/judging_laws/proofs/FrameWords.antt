-- Word k of a frame lies 4(k + 1) bytes below fp, for k up to 1023, on any machine.
use Rattle.std.proofs.Common.{◌≡◌, ℕ, ◌+◌, ◌-◌, ◌*◌, ◌/◌, ◌%◌, ◌<◌, ◌≤◌, ◌==◌, ◌&&◌, Bool, true, false, cond, Option, Some, None, refl, ap, ◌∙◌, arith}
use Rattle.std.specs.Prelude.{nat_le}
use Rattle.std.proofs.lemmas.Bool.{le-leb, leb-true}
use Rattle.vax_templates.specs.gg_base.proofs.Facts.{is_zero}
use Rattle.vax_templates.specs.FrameWords.{word_below}

by_tests : (a b c : Bool) (o : Option ℕ) → a ≡ true → b ≡ true → c ≡ true → cond (a && (b && c)) o None ≡ o
by_tests true true true o e f g = refl
by_tests _ _ _ o e f g = absurd (cc)

pub word_at : (w : ℕ) → w < 1024 → word_below (4 * (w + 1)) ≡ Some w
word_at w lt =
    by_tests (nat_le 4 (4 * (w + 1))) (nat_le (4 * (w + 1)) 4096) (4 * (w + 1) % 4 == 0) (Some (4 * (w + 1) / 4 - 1))
    (le-leb 4 (4 * (w + 1)) (omega arith)) (le-leb (4 * (w + 1)) 4096 (omega arith)) (is_zero (4 * (w + 1) % 4) (omega arith))
    ∙ ap Some (let e : 4 * (w + 1) / 4 - 1 ≡ w = omega arith in e)

-- nothing else lies there
pub no_word : (n : ℕ) → (4 ≤ n → n ≤ 4096 → ⊥) → word_below n ≡ None
no_word n h = by (nat_le 4 n) (nat_le n 4096) refl refl where
  by : (a b : Bool) → nat_le 4 n ≡ a → nat_le n 4096 ≡ b → cond (a && (b && (n % 4 == 0))) (Some (n / 4 - 1)) None ≡ None
  by true true p q = absurd (h (leb-true 4 n p) (leb-true n 4096 q))
  by true false p q = refl
  by false b p q = refl
