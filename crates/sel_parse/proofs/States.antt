-- The states of a stack, and the leaf that comes next.
use Rattle.std.proofs.Common.{◌≡◌, ◌⊎◌, inl, inr, ℕ, zero, suc, ◌+◌, ◌-◌, ◌≤◌, List, [], ◌∷◌, ◌++◌, Option, Some, None, length, take, drop, slice_get, refl, sym, ap, ◌∙◌, subst, arith, length-append}
use Rattle.std.specs.Option.{unwrap_or}
use Rattle.tree_core.specs.declared.tree.Leaf.{Leaf}
use Rattle.md_reader.specs.declared.types.Sym.{Sym}
use Rattle.lr_tables.specs.View.{TableView}
use Rattle.lr_tables.specs.Leads.{Leads, nowhere}
use Rattle.sel_parse.specs.Steps.{top_of}

get_last : (qs : List ℕ) (p k : ℕ) → k ≡ length qs → slice_get (qs ++ p ∷ []) k ≡ Some p
get_last [] p zero e = refl
get_last [] p (suc k) e = absurd (omega (arith, e))
get_last (q ∷ qs) p zero e = absurd (omega (arith, e))
get_last (q ∷ qs) p (suc k) e = get_last qs p k (omega (arith, e))

pub top_of-snoc : (qs : List ℕ) (p : ℕ) → top_of (qs ++ p ∷ []) ≡ p
top_of-snoc qs p =
    let n = length-append qs (p ∷ []) in
    ap (λ (o : Option ℕ). unwrap_or o 0) (get_last qs p (length (qs ++ p ∷ []) - 1) (omega (arith, n)))

take_all : (qs : List ℕ) (k : ℕ) → k ≡ length qs → take k qs ≡ qs
take_all [] zero e = refl
take_all [] (suc k) e = refl
take_all (q ∷ qs) zero e = absurd (omega (arith, e))
take_all (q ∷ qs) (suc k) e = ap (λ (rs : List ℕ). q ∷ rs) (take_all qs k (omega (arith, e)))

take_nil : (k : ℕ) → take {A = ℕ} k [] ≡ []
take_nil zero = refl
take_nil (suc k) = refl

take_before : (qs : List ℕ) (p k : ℕ) → k ≤ length qs → take k (qs ++ p ∷ []) ≡ take k qs
take_before qs p zero le = refl
take_before [] p (suc k) le = absurd (omega (arith, le))
take_before (q ∷ qs) p (suc k) le = ap (λ (rs : List ℕ). q ∷ rs) (take_before qs p k (omega (arith, le)))

module _ (t : TableView) where
  -- each state, the last one first, is that to which the stack up to its symbol leads
  pub record Tops (before : List ℕ → Type 0) (X : Sym) (a : List Sym) (qs : List ℕ) : Type 0 where
    pub below : List ℕ
    pub state : ℕ
    pub is : qs ≡ below ++ state ∷ []
    pub lower : before below
    pub leads : Leads t (X ∷ a) state

  abbrev pub AreStates : List Sym → List ℕ → Type 0
  AreStates [] qs = qs ≡ []
  AreStates (X ∷ a) qs = Tops (λ rs. AreStates a rs) X a qs

  pub states_lead : (a : List Sym) (qs : List ℕ) → AreStates a qs → Leads t a (top_of qs)
  states_lead [] qs e = subst (λ (rs : List ℕ). Leads t [] (top_of rs)) (sym e) nowhere
  states_lead (X ∷ a) qs s = subst (λ (q : ℕ). Leads t (X ∷ a) q) (sym (ap top_of s.is ∙ top_of-snoc s.below s.state)) s.leads

  pub as_many : (a : List Sym) (qs : List ℕ) → AreStates a qs → length qs ≡ length a
  as_many [] qs e = ap (λ (rs : List ℕ). length rs) e
  as_many (X ∷ a) qs s =
      let ih = as_many a s.below s.lower in
      let n = length-append s.below (s.state ∷ []) in
      let e : length qs ≡ length (s.below ++ s.state ∷ []) = ap (λ (rs : List ℕ). length rs) s.is in
      omega (arith, ih, n, e)

  pub states_below : (k : ℕ) (a : List Sym) (qs : List ℕ) → AreStates a qs → AreStates (drop k a) (take (length qs - k) qs)
  states_below zero a qs s = subst (AreStates a) (sym (take_all qs (length qs - 0) (omega arith))) s
  states_below (suc k) [] qs e = ap (λ (rs : List ℕ). take (length qs - suc k) rs) e ∙ take_nil (length qs - suc k)
  states_below (suc k) (X ∷ a) qs s =
      let n = length-append s.below (s.state ∷ []) in
      let m : length (s.below ++ s.state ∷ []) - suc k ≡ length s.below - k = omega (arith, n) in
      let same : take (length qs - suc k) qs ≡ take (length s.below - k) s.below =
      ap (λ (rs : List ℕ). take (length rs - suc k) rs) s.is
      ∙ (ap (λ (j : ℕ). take j (s.below ++ s.state ∷ [])) m ∙ take_before s.below s.state (length s.below - k) (omega arith)) in
      subst (AreStates (drop k a)) (sym same) (states_below k a s.below s.lower)

  pub state_above : (X : Sym) (a : List Sym) (qs : List ℕ) (p : ℕ) → AreStates a qs → Leads t (X ∷ a) p → AreStates (X ∷ a) (qs ++ p ∷ [])
  state_above X a qs p s l = record { below = qs; state = p; is = refl; lower = s; leads = l }

-- a leaf is next, or none
pub record Next (w : List Leaf) (at : ℕ) (l : Leaf) : Type 0 where
  pub there : slice_get w at ≡ Some l
  pub rest : drop at w ≡ l ∷ drop (at + 1) w

pub next_leaf : (w : List Leaf) (at : ℕ) → ((slice_get w at ≡ None) × (drop at w ≡ [])) ⊎ ((l : Leaf) × Next w at l)
next_leaf [] zero = inl (refl, refl)
next_leaf [] (suc at) = inl (refl, refl)
next_leaf (l ∷ w) zero = inr (l, record { there = refl; rest = refl })
next_leaf (l ∷ w) (suc at) = by (next_leaf w at)
  where
    by : ((slice_get w at ≡ None) × (drop at w ≡ [])) ⊎ ((m : Leaf) × Next w at m)
        → ((slice_get w at ≡ None) × (drop at w ≡ [])) ⊎ ((m : Leaf) × Next (l ∷ w) (suc at) m)
    by (inl n) = inl n
    by (inr m) =
        inr (
          m.0,
          record {
            there = m.1.there;
            rest = m.1.rest ∙ ap (λ (k : ℕ). m.0 ∷ drop k (l ∷ w)) (let e : suc (at + 1) ≡ suc at + 1 = omega arith in e);
          },
        )
