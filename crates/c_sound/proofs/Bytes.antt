-- Lists of bytes, and names.
use Rattle.std.proofs.Common.{ℕ, zero, suc, List, [], ◌∷◌, ◌++◌, Fits, w8, arith, ◌≡◌, true, sym, ◌∙◌}
use Rattle.std.proofs.Math.ListN.{replicate}
use Rattle.std.proofs.lemmas.Slice.Eq.{bytes_eq-Decides}
use Rattle.std.specs.Str.{bytes_eq}
use Rattle.std.specs.Prelude.{drop, slice_index_or}
use Rattle.c_sound.specs.Fits.{AreBytes}

pub zeros_are_bytes : (n : ℕ) → AreBytes (replicate n 0)
zeros_are_bytes zero = tt
zeros_are_bytes (suc n) = (omega arith, zeros_are_bytes n)

pub bytes_joined : (xs ys : List ℕ) → AreBytes xs → AreBytes ys → AreBytes (xs ++ ys)
bytes_joined [] ys h k = k
bytes_joined (x ∷ xs) ys h k = (h.0, bytes_joined xs ys h.1 k)

pub same_names : (a b c : List ℕ) → bytes_eq a c ≡ true → bytes_eq b c ≡ true → bytes_eq a b ≡ true
same_names a b c h k = (bytes_eq-Decides a b).1 ((bytes_eq-Decides a c).0 h ∙ sym ((bytes_eq-Decides b c).0 k))

pub bytes_drop : (n : ℕ) (xs : List ℕ) → AreBytes xs → AreBytes (drop n xs)
bytes_drop zero xs h = h
bytes_drop (suc n) [] h = tt
bytes_drop (suc n) (x ∷ xs) h = bytes_drop n xs h.1

-- bytes that code holds are bytes
pub bytes_fit : (bs : List ℕ) → ((i : ℕ) → Fits w8 (slice_index_or bs i 0)) → AreBytes bs
bytes_fit [] f = tt
bytes_fit (b ∷ bs) f = (let fits = (f 0).fits in omega arith, bytes_fit bs (λ i. f (suc i)))
