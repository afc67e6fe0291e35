-- Nodes whose kids stand before them and fit.
use Rattle.std.proofs.Common.{◌≡◌, ◌⊎◌, ℕ, zero, suc, ◌+◌, ◌<◌, List, [], ◌∷◌, ◌++◌, Some, Bool, true, Contains, length, get_or, take, slice_get, refl, sym, ap}
use Rattle.std.proofs.Common.{◌∙◌, subst, subst₂, ⊎_elim, arith, length-append, append_assoc, append-nil}
use Rattle.std.specs.Prelude.{Result, Ok, Err, IfOk}
use Rattle.std.proofs.lemmas.List.{get_or_default}
use Rattle.std.proofs.lemmas.Bool.{false≢true}
use Rattle.gg_base.proofs.Facts.{slice_left, slice_last, slice_cases}
use Rattle.tree_core.specs.declared.token.Tok.{Tok}
use Rattle.tree_core.specs.declared.token.Sort.{Sort}
use Rattle.tree_core.specs.Grammar.{kids}
use Rattle.lr_tables.proofs.Members.{In, Contains-In}
use Rattle.lr_check.specs.Tree.{Node}
use Rattle.lr_check.specs.Statement.{fits_at, KidsFit}
use Rattle.lr_check.proofs.Typed.{fit_more}
use Rattle.lr_check_nodes.specs.Growing.{AreWhole, Grows, HasTreeOf, HaveKids, HasLast, HasTreeFrom}

pub fits_more : (nodes more : List Node) (k : ℕ) (x : Sort) → fits_at (slice_get nodes k) x ≡ true → fits_at (slice_get (nodes ++ more) k) x ≡ true
fits_more [] more k x h = absurd (false≢true h)
fits_more (v ∷ nodes) more zero x h = h
fits_more (v ∷ nodes) more (suc k) x h = fits_more nodes more k x h

pub fits_within : (nodes : List Node) (k : ℕ) (x : Sort) → fits_at (slice_get nodes k) x ≡ true → k < length nodes
fits_within [] k x h = absurd (false≢true h)
fits_within (v ∷ nodes) zero x h = omega arith
fits_within (v ∷ nodes) (suc k) x h = let lt = fits_within nodes k x h in omega (arith, lt)

pub kids_more : (nodes more : List Node) (ks : List ℕ) (xs : List Sort) → KidsFit nodes ks xs → KidsFit (nodes ++ more) ks xs
kids_more nodes more ks xs h = record { many = h.many; each = λ i k x at is. fits_more nodes more k x (h.each i k x at is) }

pub kids_head : (nodes : List Node) (k : ℕ) (ks : List ℕ) (x : Sort) (xs : List Sort) → KidsFit nodes (k ∷ ks) (x ∷ xs) → fits_at (slice_get nodes k) x ≡ true
kids_head nodes k ks x xs h = h.each 0 k x refl refl

pub kids_tail : (nodes : List Node) (k : ℕ) (ks : List ℕ) (x : Sort) (xs : List Sort) → KidsFit nodes (k ∷ ks) (x ∷ xs) → KidsFit nodes ks xs
kids_tail nodes k ks x xs h = record { many = let many = h.many in omega (arith, many); each = λ i j y at is. h.each (suc i) j y at is }

-- kids that fit stand there
pub kids_within : (nodes : List Node) (ks : List ℕ) (xs : List Sort) → KidsFit nodes ks xs → (k : ℕ) → In k ks → k < length nodes
kids_within nodes [] xs h k c = absurd c
kids_within nodes (j ∷ ks) [] h k c = absurd (let many = h.many in omega (arith, many))
kids_within nodes (j ∷ ks) (x ∷ xs) h k c = ⊎_elim
    (λ e. subst (λ z. z < length nodes) e (fits_within nodes j x (kids_head nodes j ks x xs h)))
    (λ g. kids_within nodes ks xs (kids_tail nodes j ks x xs h) k g)
    c

-- one more behind them
pub fit_snoc : (nodes : List Node) (ks : List ℕ) (xs : List Sort) (k : ℕ) (x : Sort) → KidsFit nodes ks xs → fits_at (slice_get nodes k) x ≡ true → KidsFit nodes (ks ++ k ∷ []) (xs ++ x ∷ [])
fit_snoc nodes [] [] k x h fits = fit_more nodes k [] x [] fits h
fit_snoc nodes [] (y ∷ xs) k x h fits = absurd (let many = h.many in omega (arith, many))
fit_snoc nodes (j ∷ ks) [] k x h fits = absurd (let many = h.many in omega (arith, many))
fit_snoc nodes (j ∷ ks) (y ∷ xs) k x h fits = fit_more nodes j (ks ++ k ∷ []) y (xs ++ x ∷ []) (kids_head nodes j ks y xs h) (fit_snoc nodes ks xs k x (kids_tail nodes j ks y xs h) fits)

pub grows_none : (nodes : List Node) → Grows nodes nodes
grows_none nodes = record { more = []; grown = sym (append-nil nodes) }

pub grows_both : {a b c : List Node} → Grows a b → Grows b c → Grows a c
grows_both {a = a} g h = record { more = g.more ++ h.more; grown = h.grown ∙ (ap (λ l. l ++ h.more) g.grown ∙ append_assoc a g.more h.more) }

pub kids_grow : {a b : List Node} → Grows a b → (ks : List ℕ) (xs : List Sort) → KidsFit a ks xs → KidsFit b ks xs
kids_grow {a = a} g ks xs h = subst (λ l. KidsFit l ks xs) (sym g.grown) (kids_more a g.more ks xs h)

pub node_grows : {a b : List Node} → Grows a b → (n : ℕ) (v : Node) → slice_get a n ≡ Some v → slice_get b n ≡ Some v
node_grows {a = a} g n v h = subst (λ l. slice_get l n ≡ Some v) (sym g.grown) (slice_left a g.more n v h)

-- one node more
pub whole_more : (nodes new : List Node) (k : Tok) (ks : List ℕ) (own : List Bool) → AreWhole nodes → KidsFit nodes ks (kids k) →
    new ≡ nodes ++ record { tok = k; kids = ks; answers = own } ∷ [] → AreWhole new
whole_more nodes new k ks own w fit e = subst AreWhole (sym e) (record {
  lower = λ n j v there c. ⊎_elim
      (λ old. w.lower n j v old c)
      (λ here. let lt = kids_within nodes ks (kids k) fit j (Contains-In j ks (subst (λ (z : Node). Contains z.kids j) here.1 c)) in let at = here.0 in omega (arith, lt, at))
      (slice_cases nodes (record { tok = k; kids = ks; answers = own }) n v there);
  typed = record {
    each = λ n v there. ⊎_elim
        (λ old. kids_more nodes (record { tok = k; kids = ks; answers = own } ∷ []) v.kids (kids v.tok) (w.typed.each n v old))
        (λ here. subst (λ (z : Node). KidsFit (nodes ++ record { tok = k; kids = ks; answers = own } ∷ []) z.kids (kids z.tok)) (sym here.1)
        (kids_more nodes (record { tok = k; kids = ks; answers = own } ∷ []) ks (kids k) fit))
        (slice_cases nodes (record { tok = k; kids = ks; answers = own }) n v there);
  };
})

pub last_more : (nodes new : List Node) (k : Tok) (ks : List ℕ) (own : List Bool) (n : ℕ) → AreWhole nodes → KidsFit nodes ks (kids k) →
    new ≡ nodes ++ record { tok = k; kids = ks; answers = own } ∷ [] → n ≡ length nodes → HasLast nodes new k ks own n
last_more nodes new k ks own n w fit e at = record {
  grows = record { more = record { tok = k; kids = ks; answers = own } ∷ []; grown = e };
  whole = whole_more nodes new k ks own w fit e;
  node = ap (λ l. slice_get l n) e ∙ (ap (slice_get (nodes ++ record { tok = k; kids = ks; answers = own } ∷ [])) at ∙ slice_last nodes (record { tok = k; kids = ks; answers = own }));
  last = let long = ap length e ∙ length-append nodes (record { tok = k; kids = ks; answers = own } ∷ []) in omega (arith, long, at);
}

pub last_over : {a b c : List Node} {k : Tok} {ks : List ℕ} {own : List Bool} {n : ℕ} → Grows a b → HasLast b c k ks own n → HasLast a c k ks own n
last_over g h = record { grows = grows_both g h.grows; whole = h.whole; node = h.node; last = h.last }

module _ {E : Type 0} where
  pub from_if : (r : Result ℕ E) (a b c : List Node) (k : Tok) (ks : List ℕ) → Grows a b → IfOk r (λ n. HasLast b c k ks [] n) → IfOk r (λ n. HasTreeFrom a c k n)
  from_if (Ok n) a b c k ks g h = record { kids = ks; has = last_over g h }
  from_if (Err e) a b c k ks g h = tt

-- a turn over a token's kids
pub kids_turn : (a b c : List Node) (xs : List Sort) (i k : ℕ) (x : Sort) (ks ks' : List ℕ) → HaveKids a b (take i xs) ks → i < length xs → x ≡ get_or xs i x → HasTreeOf b c x k → ks' ≡ ks ++ k ∷ [] →
    HaveKids a c (take (i + 1) xs) ks'
kids_turn a b c xs i k x ks ks' h lt is t e =
    subst₂ (HaveKids a c) (sym (take_push xs i x lt is)) (sym e) (record {
      grows = grows_both h.grows t.grows;
      whole = t.whole;
      fit = fit_snoc c ks (take i xs) k x (kids_grow t.grows ks (take i xs) h.fit) t.fits;
    })
  where
    by_suc : (ys : List Sort) (j : ℕ) (y : Sort) → j < length ys → y ≡ get_or ys j y → take (suc j) ys ≡ take j ys ++ y ∷ []
    by_suc [] j y l f = absurd (omega (arith, l))
    by_suc (z ∷ ys) zero y l f = ap (λ u. u ∷ []) (sym f)
    by_suc (z ∷ ys) (suc j) y l f = ap (λ u. z ∷ u) (by_suc ys j y (omega (arith, l)) f)

    take_push : (ys : List Sort) (j : ℕ) (y : Sort) → j < length ys → y ≡ get_or ys j y → take (j + 1) ys ≡ take j ys ++ y ∷ []
    take_push ys j y l f = let more : j + 1 ≡ suc j = omega arith in ap (λ (m : ℕ). take m ys) more ∙ by_suc ys j y l f

-- a turn, as the code makes it
pub kids_turn_at : (a b c : List Node) (ys xs : List Sort) (i k : ℕ) (d : Sort) (ks ks' : List ℕ) → ys ≡ xs → HaveKids a b (take i xs) ks → i < length ys → HasTreeOf b c (get_or ys i d) k →
    ks' ≡ ks ++ k ∷ [] → HaveKids a c (take (i + 1) xs) ks'
kids_turn_at a b c ys xs i k d ks ks' same h lt t e =
    let lt' : i < length xs = subst (λ (l : List Sort). i < length l) same lt in
    kids_turn a b c xs i k (get_or xs i d) ks ks' h lt' (get_or_default xs i d (get_or xs i d) lt') (subst (λ (l : List Sort). HasTreeOf b c (get_or l i d) k) same t) e
