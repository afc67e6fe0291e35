-- The bits of a mask are the registers that a body names.
use mathlib.Core.Bool.{or-false}
use Rattle.std.proofs.Common.{◌≡◌, ℕ, zero, suc, ◌+◌, ◌^◌, ◌<◌, Bool, true, false, min, bit_and, bit_or, ltb, leb, ◌&&◌, ◌||◌, List, [], ◌∷◌, ◌++◌, refl, sym, ap, ◌∙◌, arith}
use Rattle.std.proofs.Math.Dec.{lit<}
use Rattle.std.proofs.lemmas.Bool.{le-ltb, and_right}
use Rattle.std.proofs.lemmas.List.Folds.{list_any-append}
use Rattle.std.proofs.lemmas.Nat.Bits.{bit_at-zero, bit_at_and, bit_at_above}
use Rattle.std.proofs.lemmas.Nat.{and_le_r}
use Rattle.std.specs.Int.{bit_at}
use Rattle.gg_base.specs.Numbers.{truth}
use Rattle.vax_core.specs.declared.code.CodeItem.{CodeItem}
use Rattle.vax_core.specs.Registers.{IsSetOf}
use Rattle.vax_core.proofs.RegisterLaws.{either}
use Rattle.vax_frames.specs.Frames.{item_names, body_names, is_kept, IsMaskOf}

min_bits : (x y : Bool) → min (truth x) (truth y) ≡ truth (y && x)
min_bits true true = refl
min_bits true false = refl
min_bits false true = refl
min_bits false false = refl

one_more : (xs : List CodeItem) (x : CodeItem) (n : ℕ) → body_names (xs ++ x ∷ []) n ≡ (body_names xs n || item_names x n)
one_more xs x n = list_any-append (λ (y : CodeItem). item_names y n) xs (x ∷ []) ∙ ap (λ (b : Bool). body_names xs n || b) (or-false (item_names x n))

pub none_named : IsSetOf 0 (λ n. false)
none_named n = bit_at-zero n

pub more_named : (a b : ℕ) (xs : List CodeItem) (x : CodeItem) → IsSetOf a (body_names xs) → IsSetOf b (item_names x) → IsSetOf (bit_or a b) (body_names (xs ++ x ∷ []))
more_named a b xs x h k n = either a b (body_names xs) (item_names x) h k n ∙ ap truth (sym (one_more xs x n))

-- r2 to r11 as a mask
kept_bits : (n : ℕ) → bit_at 4092 n ≡ truth (is_kept n)
kept_bits zero = refl
kept_bits (suc zero) = refl
kept_bits (suc (suc zero)) = refl
kept_bits (suc (suc (suc zero))) = refl
kept_bits (suc (suc (suc (suc zero)))) = refl
kept_bits (suc (suc (suc (suc (suc zero))))) = refl
kept_bits (suc (suc (suc (suc (suc (suc zero)))))) = refl
kept_bits (suc (suc (suc (suc (suc (suc (suc zero))))))) = refl
kept_bits (suc (suc (suc (suc (suc (suc (suc (suc zero)))))))) = refl
kept_bits (suc (suc (suc (suc (suc (suc (suc (suc (suc zero))))))))) = refl
kept_bits (suc (suc (suc (suc (suc (suc (suc (suc (suc (suc zero)))))))))) = refl
kept_bits (suc (suc (suc (suc (suc (suc (suc (suc (suc (suc (suc zero))))))))))) = refl
kept_bits (suc (suc (suc (suc (suc (suc (suc (suc (suc (suc (suc (suc n)))))))))))) =
    let k = 12 + n in
    let e : suc (suc (suc (suc (suc (suc (suc (suc (suc (suc (suc (suc n))))))))))) ≡ k = omega arith in
    let high : ltb k 12 ≡ false = le-ltb k 12 (omega arith) in
    ap (bit_at 4092) e ∙ bit_at_above 4092 12 k (lit< tt) (omega arith) ∙ sym (ap truth (ap is_kept e ∙ and_right (leb 2 k) (ltb k 12) high))

pub kept_named : (a : ℕ) (body : List CodeItem) → IsSetOf a (body_names body) → IsMaskOf (bit_and a 4092) body
kept_named a body h n =
    bit_at_and a 4092 n ∙ ap (λ (x : ℕ). min x (bit_at 4092 n)) (h n) ∙ ap (λ (x : ℕ). min (truth (body_names body n)) x) (kept_bits n) ∙ min_bits (body_names body n) (is_kept n)

pub kept_small : (a : ℕ) → bit_and a 4092 < 2 ^ 12
kept_small a = let le = and_le_r a 4092 in omega (arith, le)
