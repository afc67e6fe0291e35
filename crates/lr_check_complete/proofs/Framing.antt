-- Frames: how many kids a token has, and the places of a state and a token.
use Rattle.std.proofs.Common.{◌≡◌, ◌⊎◌, ℕ, ◌+◌, ◌<◌, List, [], ◌∷◌, ◌++◌, Some, Contains, length, get_or, sym, ap, ◌∙◌, subst, inl, inr, ⊎_elim, arith}
use Rattle.std.proofs.lemmas.List.Elements.{Contains-append_left, Contains-append_right}
use Rattle.std.proofs.lemmas.Option.{same_Some}
use Rattle.gg_base.proofs.Facts.{nil_of}
use Rattle.lr_tables.proofs.Members.{In, In-cases, In-Contains, Contains-In}
use Rattle.tree_core.specs.declared.token.Tok.{Tok}
use Rattle.tree_core.specs.declared.token.Sort.{Sort}
use Rattle.tree_core.specs.Grammar.{kids}
use Rattle.md_reader.specs.declared.types.Sym.TheVariants as grammar_symbol
use Rattle.lr_check_found.specs.lr_check_sets.specs.Automaton.{Automaton}
use Rattle.lr_check_found.specs.declared.places.Place.{Place}
use Rattle.lr_check_found.specs.declared.settlings.How.TheVariants as how
use Rattle.lr_check_found.specs.Found.{FoundView, place_of, IsPlaceAt, Settles}
use Rattle.lr_check_found.specs.Items.{Made, HasMade}
use Rattle.lr_check_found.proofs.Below.{Below, none_below, one_more_at}
use Rattle.lr_check_complete.specs.Kids.{OnlyIn, BothIn, KidsIn, IsFrame, AtPlaces, FrameIn}

one_of : {X : Type 0} (xs : List X) (d : X) → length xs ≡ 1 → xs ≡ get_or xs 0 d ∷ []
one_of [] d e = absurd (omega (arith, e))
one_of (x ∷ xs) d e = ap (λ l. x ∷ l) (nil_of xs (omega (arith, e)))

two_of : {X : Type 0} (xs : List X) (c d : X) → length xs ≡ 2 → xs ≡ get_or xs 0 c ∷ get_or xs 1 d ∷ []
two_of [] c d e = absurd (omega (arith, e))
two_of (x ∷ xs) c d e = ap (λ l. x ∷ l) (one_of xs d (omega (arith, e)))

-- the kids as the code finds them
pub none_kids : (k : Tok) (xs : List Sort) → xs ≡ kids k → length xs ≡ 0 → kids k ≡ []
none_kids k xs e many = sym e ∙ nil_of xs many

pub one_kids : (k : Tok) (xs : List Sort) (d : Sort) → xs ≡ kids k → length xs ≡ 1 → kids k ≡ get_or xs 0 d ∷ []
one_kids k xs d e many = sym e ∙ one_of xs d many

pub two_kids_are : (k : Tok) (xs : List Sort) (c d : Sort) → xs ≡ kids k → length xs ≡ 2 → kids k ≡ get_or xs 0 c ∷ get_or xs 1 d ∷ []
two_kids_are k xs c d e many = sym e ∙ two_of xs c d many

-- ---- a token without kids

pub leaf_made : (A : Automaton) (f : FoundView) (q p n : ℕ) (k : Tok) (numbers : List ℕ) → IsFrame A f q k p numbers → kids k ≡ [] → Contains numbers n → HasMade A f n how.Leaf
leaf_made A f q p n k numbers frame none c =
    let h = frame.places n c in
    record { place = place_of q k h.0; list = grammar_symbol.Tok k ∷ []; there = h.1; made = Made.leaf frame.go none }

pub token_is : (A : Automaton) (f : FoundView) (q p n : ℕ) (k : Tok) (numbers : List ℕ) (x : Place) → IsFrame A f q k p numbers → Contains numbers n → IsPlaceAt f n x → k ≡ x.token
token_is A f q p n k numbers x frame c at =
    let h = frame.places n c in
    ap (λ (y : Place). y.token) (same_Some (place_of q k h.0) x (sym h.1 ∙ at))

-- ---- what follows from the kids

pub kids_none : (A : Automaton) (f : FoundView) (q p : ℕ) (k : Tok) (numbers : List ℕ) → IsFrame A f q k p numbers → kids k ≡ [] →
    ((n : ℕ) → Contains numbers n → Settles f n (grammar_symbol.Tok k ∷ [])) → AtPlaces f numbers (λ n x. KidsIn A f n x p (kids k))
kids_none A f q p k numbers frame none g n c x at =
    subst (KidsIn A f n x p) (sym none) (subst (λ (t : Tok). Settles f n (grammar_symbol.Tok t ∷ [])) (token_is A f q p n k numbers x frame c at) (g n c))

pub kids_one : (A : Automaton) (f : FoundView) (p : ℕ) (k : Tok) (w : Sort) (numbers : List ℕ) → kids k ≡ w ∷ [] →
    AtPlaces f numbers (λ n x. OnlyIn f n x p w) → AtPlaces f numbers (λ n x. KidsIn A f n x p (kids k))
kids_one A f p k w numbers one g n c x at = subst (KidsIn A f n x p) (sym one) (g n c x at)

pub kids_two : (A : Automaton) (f : FoundView) (p : ℕ) (k : Tok) (w v : Sort) (numbers : List ℕ) → kids k ≡ w ∷ v ∷ [] →
    AtPlaces f numbers (λ n x. BothIn A f n x p w v) → AtPlaces f numbers (λ n x. KidsIn A f n x p (kids k))
kids_two A f p k w v numbers two g n c x at = subst (KidsIn A f n x p) (sym two) (g n c x at)

-- ---- the places of a state and a token

pub record Places (f : FoundView) (q : ℕ) (k : Tok) (tokens : List Tok) (n : ℕ) (numbers : List ℕ) : Type 0 where
  pub places : (i : ℕ) → Contains numbers i → (b : Tok) × IsPlaceAt f i (place_of q k b)
  pub all : Below tokens n (λ b. (i : ℕ) → IsPlaceAt f i (place_of q k b) → Contains numbers i)

pub no_places : (f : FoundView) (q : ℕ) (k : Tok) (tokens : List Tok) (numbers : List ℕ) → numbers ≡ [] → Places f q k tokens 0 numbers
no_places f q k tokens numbers e = record {
  places = λ i c. absurd (let m = subst (λ l. Contains l i) e c in let lt = m.1 in omega (arith, lt));
  all = none_below tokens (λ b. (i : ℕ) → IsPlaceAt f i (place_of q k b) → Contains numbers i);
}

pub more_places : (f : FoundView) (q : ℕ) (k d : Tok) (tokens : List Tok) (n : ℕ) (before after : List ℕ) → Places f q k tokens n before → n < length tokens →
    ((i : ℕ) → Contains before i → Contains after i) → ((i : ℕ) → Contains after i → Contains before i ⊎ IsPlaceAt f i (place_of q k (get_or tokens n d))) →
    ((i : ℕ) → IsPlaceAt f i (place_of q k (get_or tokens n d)) → Contains after i) → Places f q k tokens (n + 1) after
more_places f q k d tokens n before after p lt kept only there = record {
  places = λ i c. ⊎_elim (λ m. p.places i m) (λ at. (get_or tokens n d, at)) (only i c);
  all = one_more_at tokens n (λ b. (i : ℕ) → IsPlaceAt f i (place_of q k b) → Contains after i) d
      (record { each = λ j b less e i at. kept i (p.all.each j b less e i at) }) lt there;
}

pub number_only : (f : FoundView) (x : Place) (i : ℕ) (before after : List ℕ) → after ≡ before ++ i ∷ [] → IsPlaceAt f i x → (n : ℕ) → Contains after n → Contains before n ⊎ IsPlaceAt f n x
number_only f x i before after e at n c = ⊎_elim (λ m. inl (In-Contains n before m)) (λ m. inr (last m)) (In-cases n before (i ∷ []) (Contains-In n (before ++ i ∷ []) (subst (λ l. Contains l n) e c)))
  where
    last : In n (i ∷ []) → IsPlaceAt f n x
    last (inl same) = subst (λ k. IsPlaceAt f k x) same at
    last (inr m) = absurd m

pub number_kept : (i : ℕ) (before after : List ℕ) → after ≡ before ++ i ∷ [] → (n : ℕ) → Contains before n → Contains after n
number_kept i before after e n c = subst (λ l. Contains l n) (sym e) (Contains-append_left before (i ∷ []) n c)

pub number_there : (i : ℕ) (before after : List ℕ) → after ≡ before ++ i ∷ [] → (n : ℕ) → n ≡ i → Contains after n
number_there i before after e n same = subst (λ l. Contains l n) (sym e) (Contains-append_right before (i ∷ []) n (0, omega arith, sym same))

pub frame_in : (A : Automaton) (f : FoundView) (q p : ℕ) (k : Tok) (numbers : List ℕ) → A.go q (grammar_symbol.Tok k) ≡ Some p
    → ((n : ℕ) (b : Tok) → IsPlaceAt f n (place_of q k b) → Contains numbers n) →
    AtPlaces f numbers (λ n x. KidsIn A f n x p (kids k)) → FrameIn A f q k
frame_in A f q p k numbers go all g = record {
  each = λ j n b go' at. subst (λ i. KidsIn A f n (place_of q k b) i (kids k)) (same_Some p j (sym go ∙ go')) (g n (all n b at) (place_of q k b) at);
}
