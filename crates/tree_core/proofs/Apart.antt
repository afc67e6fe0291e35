-- No byte belongs to two links exactly where they begin at least four bytes apart.
use Rattle.std.proofs.Common.{◌≡◌, ◌↔◌, ◌⊎◌, inl, inr, ⊎_elim, ℕ, zero, suc, ◌+◌, ◌<◌, ◌≤◌, List, [], ◌∷◌, ◌++◌, length, get_or, Bool, true, false, cond, eqb, IsTrue, refl, sym, ◌∙◌, arith}
use Rattle.std.proofs.lemmas.Bool.{cases_lt, eqb-true, eq-eqb, cases_eq, false≢true}
use Rattle.tree_core.specs.declared.program.Link.{Link}
use Rattle.tree_core.specs.Items.{times}
use Rattle.tree_core.specs.Valid.{four, bytes_linked, BytesApart, Apart, LinksApart}

-- how often a number is another: once or not at all
record Once (m n c : ℕ) : Type 0 where
  few : c ≤ 1
  same : 1 ≤ c → m ≡ n
  counts : m ≡ n → c ≡ 1

once : (m n : ℕ) → Once m n (cond (eqb m n) 1 0)
once m n = by (eqb m n) refl
  where
    by : (b : Bool) → eqb m n ≡ b → Once m n (cond b 1 0)
    by true e = record { few = omega arith; same = λ q. eqb-true m n e; counts = λ q. refl }
    by false e = record { few = omega arith; same = λ q. absurd (omega arith); counts = λ q. absurd (false≢true (sym e ∙ eq-eqb m n q)) }

-- the bytes of a link are the four from its first on, each once
record IsFour (n a : ℕ) : Type 0 where
  few : times n (four a) ≤ 1
  within : 1 ≤ times n (four a) → (a ≤ n) × (n < a + 4)
  counts : a ≤ n → n < a + 4 → times n (four a) ≡ 1

-- which of four numbers is another, if one is
data Which (n a c d e f : ℕ) : Type 0 where
  below : n < a → c ≡ 0 → d ≡ 0 → e ≡ 0 → f ≡ 0 → Which n a c d e f
  first : a ≡ n → c ≡ 1 → d ≡ 0 → e ≡ 0 → f ≡ 0 → Which n a c d e f
  second : a + 1 ≡ n → c ≡ 0 → d ≡ 1 → e ≡ 0 → f ≡ 0 → Which n a c d e f
  third : a + 2 ≡ n → c ≡ 0 → d ≡ 0 → e ≡ 1 → f ≡ 0 → Which n a c d e f
  fourth : a + 3 ≡ n → c ≡ 0 → d ≡ 0 → e ≡ 0 → f ≡ 1 → Which n a c d e f
  above : a + 4 ≤ n → c ≡ 0 → d ≡ 0 → e ≡ 0 → f ≡ 0 → Which n a c d e f

-- not another: not counted
unlike_counts : (m n c : ℕ) → Once m n c → (m ≡ n → ⊥) → c ≡ 0
unlike_counts m n c o ne = ⊎_elim (λ few. omega (arith, few)) (λ some. absurd (ne (o.same some))) (cases_lt c 1)

which : (n a c d e f : ℕ) → Once a n c → Once (a + 1) n d → Once (a + 2) n e → Once (a + 3) n f → Which n a c d e f
which n a c d e f p q r s =
    let no : (m k : ℕ) → Once m n k → (m ≡ n → ⊥) → k ≡ 0 = λ m k o ne. unlike_counts m n k o ne in
    ⊎_elim (λ low. below low (no a c p (λ z. omega (arith, z, low))) (no (a + 1) d q (λ z. omega (arith, z, low))) (no (a + 2) e r (λ z. omega (arith, z, low)))
    (no (a + 3) f s (λ z. omega (arith, z, low)))) (λ high.
    ⊎_elim (λ z0. first z0 (p.counts z0) (no (a + 1) d q (λ z. omega (arith, z, z0))) (no (a + 2) e r (λ z. omega (arith, z, z0))) (no (a + 3) f s (λ z. omega (arith, z, z0)))) (λ n0.
    ⊎_elim (λ z1. second z1 (no a c p n0) (q.counts z1) (no (a + 2) e r (λ z. omega (arith, z, z1))) (no (a + 3) f s (λ z. omega (arith, z, z1)))) (λ n1.
    ⊎_elim (λ z2. third z2 (no a c p n0) (no (a + 1) d q n1) (r.counts z2) (no (a + 3) f s (λ z. omega (arith, z, z2)))) (λ n2.
    ⊎_elim (λ z3. fourth z3 (no a c p n0) (no (a + 1) d q n1) (no (a + 2) e r n2) (s.counts z3))
    (λ n3. above (omega (arith, high, n0, n1, n2, n3)) (no a c p n0) (no (a + 1) d q n1) (no (a + 2) e r n2) (no (a + 3) f s n3))
    (cases_eq (a + 3) n)) (cases_eq (a + 2) n)) (cases_eq (a + 1) n)) (cases_eq a n)) (cases_lt n a)

four_by : (n a c d e f t : ℕ) → Which n a c d e f → t ≡ c + (d + (e + (f + 0))) → (t ≤ 1) × (1 ≤ t → (a ≤ n) × (n < a + 4)) × (a ≤ n → n < a + 4 → t ≡ 1)
four_by n a c d e f t (below x c0 d0 e0 f0) sum = (omega arith, (λ one. absurd (omega arith)), (λ le lt. absurd (omega arith)))
four_by n a c d e f t (first x c0 d0 e0 f0) sum = (omega arith, (λ one. (omega arith, omega arith)), (λ le lt. omega arith))
four_by n a c d e f t (second x c0 d0 e0 f0) sum = (omega arith, (λ one. (omega arith, omega arith)), (λ le lt. omega arith))
four_by n a c d e f t (third x c0 d0 e0 f0) sum = (omega arith, (λ one. (omega arith, omega arith)), (λ le lt. omega arith))
four_by n a c d e f t (fourth x c0 d0 e0 f0) sum = (omega arith, (λ one. (omega arith, omega arith)), (λ le lt. omega arith))
four_by n a c d e f t (above x c0 d0 e0 f0) sum = (omega arith, (λ one. absurd (omega arith)), (λ le lt. absurd (omega arith)))

four_is : (n a : ℕ) → IsFour n a
four_is n a =
    let h = four_by n a _ _ _ _ (times n (four a)) (which n a _ _ _ _ (once a n) (once (a + 1) n) (once (a + 2) n) (once (a + 3) n)) refl in
    record { few = h.0; within = h.1; counts = h.2 }

pub times-append : (n : ℕ) (xs ys : List ℕ) → times n (xs ++ ys) ≡ times n xs + times n ys
times-append n [] ys = omega arith
times-append n (x ∷ xs) ys = let h = times-append n xs ys in omega (arith, h)

-- a byte that a link has
record Linked (n : ℕ) (ls : List Link) : Type 0 where
  place : ℕ
  within : place < length ls
  from : (d : Link) → (get_or ls place d).at ≤ n
  to : (d : Link) → n < (get_or ls place d).at + 4

linked : (n : ℕ) (ls : List Link) → 1 ≤ times n (bytes_linked ls) → Linked n ls
linked n [] one = absurd (omega arith)
linked n (l ∷ ls) one = by (cases_lt 0 (times n (four l.at))) (linked n ls)
  where
    by : (0 < times n (four l.at)) ⊎ (times n (four l.at) ≤ 0) → (1 ≤ times n (bytes_linked ls) → Linked n ls) → Linked n (l ∷ ls)
    by (inl some) rest = let h = (four_is n l.at).within (omega (arith, some)) in record { place = 0; within = omega arith; from = λ d. h.0; to = λ d. h.1 }
    by (inr none) rest = later (rest (let h = times-append n (four l.at) (bytes_linked ls) in omega (arith, h, one, none)))
      where
        later : Linked n ls → Linked n (l ∷ ls)
        later h = record { place = suc h.place; within = omega (arith, h.within); from = h.from; to = h.to }

apart_bytes : (ls : List Link) → LinksApart ls → (n : ℕ) → times n (bytes_linked ls) ≤ 1
apart_bytes [] h n = omega arith
apart_bytes (l ∷ ls) h n = by (cases_lt 0 (times n (bytes_linked ls))) (apart_bytes ls (λ i j d lt lt'. h (suc i) (suc j) d (omega arith) (omega arith)) n)
  where
    sum : times n (bytes_linked (l ∷ ls)) ≡ times n (four l.at) + times n (bytes_linked ls)
    sum = times-append n (four l.at) (bytes_linked ls)

    clear : Linked n ls → times n (four l.at) ≤ 0
    clear k =
        ⊎_elim (λ some. absurd (let w = (four_is n l.at).within some in let a = h 0 (suc k.place) l (omega arith) (omega (arith, k.within)) in let f = k.from l in let t = k.to l in
        ⊎_elim (λ le. omega (arith, le, w, f, t)) (λ le. omega (arith, le, w, f, t)) a)) (λ none. none) (cases_lt 0 (times n (four l.at)))

    by : (0 < times n (bytes_linked ls)) ⊎ (times n (bytes_linked ls) ≤ 0) → times n (bytes_linked ls) ≤ 1 → times n (bytes_linked (l ∷ ls)) ≤ 1
    by (inl some) few = let c = clear (linked n ls (omega (arith, some))) in omega (arith, sum, c, few)
    by (inr none) few = let f = (four_is n l.at).few in omega (arith, sum, none, f)

-- a link's bytes stand among all
one_of : (n : ℕ) (ls : List Link) (i : ℕ) (d : Link) → i < length ls → (get_or ls i d).at ≤ n → n < (get_or ls i d).at + 4 → 1 ≤ times n (bytes_linked ls)
one_of n [] i d lt le le' = absurd (omega arith)
one_of n (l ∷ ls) zero d lt le le' = let h = times-append n (four l.at) (bytes_linked ls) in let f = (four_is n l.at).counts le le' in omega (arith, h, f)
one_of n (l ∷ ls) (suc i) d lt le le' = let h = times-append n (four l.at) (bytes_linked ls) in let r = one_of n ls i d (omega arith) le le' in omega (arith, h, r)

two_of : (n : ℕ) (ls : List Link) (i j : ℕ) (d : Link) → i < j → j < length ls → (get_or ls i d).at ≤ n → n < (get_or ls i d).at + 4 → (get_or ls j d).at ≤ n → n < (get_or ls j d).at + 4
    → 2 ≤ times n (bytes_linked ls)
two_of n [] i j d lt lt' a b e f = absurd (omega arith)
two_of n (l ∷ ls) i zero d lt lt' a b e f = absurd (omega arith)
two_of n (l ∷ ls) zero (suc j) d lt lt' a b e f =
    let h = times-append n (four l.at) (bytes_linked ls) in
    let c = (four_is n l.at).counts a b in
    let r = one_of n ls j d (omega arith) e f in
    omega (arith, h, c, r)
two_of n (l ∷ ls) (suc i) (suc j) d lt lt' a b e f =
    let h = times-append n (four l.at) (bytes_linked ls) in
    let r = two_of n ls i j d (omega arith) (omega arith) a b e f in
    omega (arith, h, r)

bytes_apart : (ls : List Link) → BytesApart ls → LinksApart ls
bytes_apart ls h i j d lt lt' = by (cases_lt (get_or ls j d).at ((get_or ls i d).at + 4)) (cases_lt (get_or ls i d).at ((get_or ls j d).at + 4))
  where
    a : ℕ
    a = (get_or ls i d).at

    b : ℕ
    b = (get_or ls j d).at

    by : (b < a + 4) ⊎ (a + 4 ≤ b) → (a < b + 4) ⊎ (b + 4 ≤ a) → Apart a b
    by (inr le) y = inl le
    by (inl x) (inr le) = inr le
    by (inl x) (inl y) =
        ⊎_elim (λ low. absurd (let two = two_of b ls i j d lt lt' (omega arith) x (omega arith) (omega arith) in omega (arith, two, h b)))
        (λ high. absurd (let two = two_of a ls i j d lt lt' (omega arith) (omega arith) high y in omega (arith, two, h a))) (cases_lt a b)

pub apart_is : (ls : List Link) (b : Bool) → (IsTrue b ↔ BytesApart ls) → IsTrue b ↔ LinksApart ls
apart_is ls b h = ((λ t. bytes_apart ls (h.0 t)), (λ p. h.1 (apart_bytes ls p)))
