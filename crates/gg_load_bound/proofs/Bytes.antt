-- A generated source has bytes.
use Rattle.std.proofs.Common.{◌≡◌, ℕ, zero, suc, ◌+◌, ◌*◌, ◌≤◌, ◌<◌, List, [], ◌∷◌, ◌++◌, true, refl, arith, decimal}
use Rattle.std.specs.Prelude.{codes, nat_lt, slice_index}
use Rattle.std.specs.List.{list_all}
use Rattle.std.proofs.lemmas.Bool.{and_parts, ltb-true}
use Rattle.std.proofs.lemmas.Fmt.{IsAscii-decimal}
use Rattle.c_sound.specs.Fits.{AreBytes}
use Rattle.gg_load.specs.Source.{up_to, function_line, call_line, source_text}

-- so it is computed of a constant
by_test : (bs : List ℕ) → list_all (λ b. nat_lt b 256) bs ≡ true → AreBytes bs
by_test [] h = tt
by_test (b ∷ bs) h =
    let parts = and_parts (nat_lt b 256) (list_all (λ b. nat_lt b 256) bs) h in
    (ltb-true b 256 parts.0, by_test bs parts.1)

by_index : (bs : List ℕ) → ((i : ℕ) → slice_index bs i < 128) → AreBytes bs
by_index [] h = tt
by_index (b ∷ bs) h = let low = h 0 in (omega (arith, low), by_index bs (λ i. h (suc i)))

number : (n : ℕ) → n < 10000 → AreBytes (decimal n)
number n low = by_index (decimal n) (IsAscii-decimal n (omega (arith, low)))

joined : (xs ys : List ℕ) → AreBytes xs → AreBytes ys → AreBytes (xs ++ ys)
joined [] ys h g = g
joined (x ∷ xs) ys h g = (h.0, joined xs ys h.1 g)

-- one more part, which is a constant or a number
more_constant : (xs ys : List ℕ) → AreBytes xs → list_all (λ b. nat_lt b 256) ys ≡ true → AreBytes (xs ++ ys)
more_constant xs ys h e = joined xs ys h (by_test ys e)

more_number : (xs : List ℕ) (n : ℕ) → AreBytes xs → n < 10000 → AreBytes (xs ++ decimal n)
more_number xs n h low = joined xs (decimal n) h (number n low)

function_bytes : (i : ℕ) → i < 1000 → AreBytes (function_line i)
function_bytes i low =
    let a = more_number (codes "int f") i (by_test (codes "int f") refl) (omega (arith, low)) in
    let b = more_constant (codes "int f" ++ decimal i) (codes "(int x){int y;y=x*") a refl in
    let c = more_number (codes "int f" ++ decimal i ++ codes "(int x){int y;y=x*") (2 * i + 1) b (omega (arith, low)) in
    let d = more_constant (codes "int f" ++ decimal i ++ codes "(int x){int y;y=x*" ++ decimal (2 * i + 1)) (codes "+") c refl in
    let e = more_number (codes "int f" ++ decimal i ++ codes "(int x){int y;y=x*" ++ decimal (2 * i + 1) ++ codes "+") i d (omega (arith, low)) in
    more_constant (codes "int f" ++ decimal i ++ codes "(int x){int y;y=x*" ++ decimal (2 * i + 1) ++ codes "+" ++ decimal i) (codes ";t[x&63]=t[y&63]+y;return y^(y>>3);}\n") e refl

call_bytes : (i : ℕ) → i < 1000 → AreBytes (call_line i)
call_bytes i low =
    let a = more_number (codes "s=f") i (by_test (codes "s=f") refl) (omega (arith, low)) in
    let b = more_constant (codes "s=f" ++ decimal i) (codes "(s+") a refl in
    let c = more_number (codes "s=f" ++ decimal i ++ codes "(s+") i b (omega (arith, low)) in
    more_constant (codes "s=f" ++ decimal i ++ codes "(s+" ++ decimal i) (codes ");\n") c refl

lines_bytes : (line : ℕ → List ℕ) → ((i : ℕ) → i < 1000 → AreBytes (line i)) → (n : ℕ) → n ≤ 1000 → AreBytes (up_to line n)
lines_bytes line each zero low = tt
lines_bytes line each (suc n) low = joined (up_to line n) (line n) (lines_bytes line each n (omega (arith, low))) (each n (omega (arith, low)))

pub source_bytes : (k : ℕ) → k ≤ 1000 → AreBytes (source_text k)
source_bytes k low =
    let functions = up_to function_line k in
    let calls = up_to call_line k in
    let a = joined (codes "int t[64];\n") functions (by_test (codes "int t[64];\n") refl) (lines_bytes function_line function_bytes k low) in
    let b = more_constant (codes "int t[64];\n" ++ functions) (codes "int main(){int s;s=1;\n") a refl in
    let c = joined (codes "int t[64];\n" ++ functions ++ codes "int main(){int s;s=1;\n") calls b (lines_bytes call_line call_bytes k low) in
    let d = more_constant (codes "int t[64];\n" ++ functions ++ codes "int main(){int s;s=1;\n" ++ calls) (codes "while(s){putchar(65+(s&15));s=(s>>4)&268435455;}\n") c refl in
    more_constant (codes "int t[64];\n" ++ functions ++ codes "int main(){int s;s=1;\n" ++ calls ++ codes "while(s){putchar(65+(s&15));s=(s>>4)&268435455;}\n")
    (codes "putchar(10);return 0;}\n") d refl
