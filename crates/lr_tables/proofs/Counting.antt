-- As many item sets as kernels are found.
use Rattle.std.proofs.Common.{◌≡◌, ◌⊎◌, ℕ, zero, suc, ◌≤◌, ◌<◌, List, [], ◌∷◌, Some, length, map, slice_get, refl, sym, ap, ◌∙◌, subst, inl, inr, ⊎_elim, arith}
use Rattle.std.specs.Option.{option_map}
use Rattle.std.proofs.lemmas.List.{length-map}
use Rattle.std.proofs.lemmas.Option.{slice_get-map, same_Some, none-some}
use Rattle.md_reader.specs.declared.types.Rule.{Rule}
use Rattle.md_reader.specs.declared.types.Sym.{Sym}
use Rattle.lr_tables.specs.declared.item.Item.{Item}
use Rattle.lr_tables.specs.Items.{Items}
use Rattle.lr_tables.specs.Over.{SameItems, AreApart, HasTooMany}
use Rattle.lr_tables.specs.Grammar.{IsGrammar}
use Rattle.lr_tables.specs.Sets.{chains, item_set}
use Rattle.lr_tables.specs.Kernels.{kernel_at}
use Rattle.lr_tables.specs.Numbering.{found, IsOver}
use Rattle.lr_tables.proofs.Members.{In, slice_get-In, In-slice_get, map-In}
use Rattle.lr_tables.proofs.Closing.{kernel_valid, set_valid, valid_set, set_empty}
use Rattle.lr_tables.proofs.Order.{kernel_in, kernel_sorted, set_kernel, sorted_same}
use Rattle.lr_tables.proofs.Found.{Apart, Reached, found_reached, found_apart, found_complete, head_in}

-- a list without one of its elements
without : {X : Type 0} (x : X) (ys : List X) → In x ys → List X
without x [] h = []
without x (y ∷ ys) h = ⊎_elim (λ e. ys) (λ a. y ∷ without x ys a) h

length-without : {X : Type 0} (x : X) (ys : List X) (h : In x ys) → length ys ≡ suc (length (without x ys h))
unfolding without
length-without x [] h = absurd h
length-without x (y ∷ ys) (inl e) = refl
length-without x (y ∷ ys) (inr a) = ap suc (length-without x ys a)

In-without : {X : Type 0} (x z : X) (ys : List X) (h : In x ys) → In z ys → (z ≡ x) ⊎ In z (without x ys h)
unfolding without
In-without x z [] h k = absurd h
In-without x z (y ∷ ys) (inl e) k = ⊎_elim (λ s. inl (sym s ∙ e)) (λ a. inr a) k
In-without x z (y ∷ ys) (inr a) k = ⊎_elim (λ s. inr (inl s)) (λ b. ⊎_elim (λ s. inl s) (λ c. inr (inr c)) (In-without x z ys a b)) k

-- a list whose elements differ is no longer than one that has them all
pigeons : (xs ys : List (List Item)) → Apart xs → ((x : List Item) → In x xs → In x ys) → length xs ≤ length ys
pigeons [] ys h f = omega arith
pigeons (x ∷ xs) ys h f =
    let at : In x ys = f x (inl refl) in
    let rest : length xs ≤ length (without x ys at) = pigeons xs (without x ys at) h.1 (λ z k. ⊎_elim (λ e. absurd (h.0 (subst (λ y. In y xs) e k))) (λ a. a) (In-without x z ys at (f z (inr k)))) in
    let l : length ys ≡ suc (length (without x ys at)) = length-without x ys at in
    omega (arith, rest, l)

apart_get : (ks : List (List Item)) (j k : ℕ) (x : List Item) → Apart ks → j < k → slice_get ks j ≡ Some x → slice_get ks k ≡ Some x → ⊥
apart_get [] j k x h lt e f = absurd (none-some x e)
apart_get (y ∷ ks) zero zero x h lt e f = omega arith
apart_get (y ∷ ks) zero (suc k) x h lt e f = h.0 (subst (λ z. In z ks) (sym (same_Some y x e)) (slice_get-In x ks k f))
apart_get (y ∷ ks) (suc j) zero x h lt e f = omega arith
apart_get (y ∷ ks) (suc j) (suc k) x h lt e f = apart_get ks j k x h.1 (omega (arith, lt)) e f

module _ (rules : List Rule) (stmt classes : ℕ) (g : IsGrammar rules stmt classes) where
  -- stacks with the same items have the same kernel
  same_kernels : (a b : List Sym) → SameItems rules stmt a b → kernel_at rules stmt classes a ≡ kernel_at rules stmt classes b
  same_kernels a b h = sorted_same (kernel_at rules stmt classes a) (kernel_at rules stmt classes b) (kernel_sorted rules stmt classes a) (kernel_sorted rules stmt classes b)
      (λ i x. over a b (λ j v. (h j).0 v) i x) (λ i x. over b a (λ j v. (h j).1 v) i x)
    where
      over : (c d : List Sym) → ((j : Item) → Items rules stmt c j → Items rules stmt d j) → (i : Item) → In i (kernel_at rules stmt classes c) → In i (kernel_at rules stmt classes d)
      over c d f i at = set_kernel rules stmt classes (kernel_at rules stmt classes d) i (valid_set rules stmt classes g (f i (kernel_valid rules stmt classes g c i at)))
          (kernel_in rules stmt classes c i at)

  same_sets : (a b : List Sym) → kernel_at rules stmt classes a ≡ kernel_at rules stmt classes b → SameItems rules stmt a b
  same_sets a b e = λ i. (go a b e i, go b a (sym e) i)
    where
      go : (c d : List Sym) → kernel_at rules stmt classes c ≡ kernel_at rules stmt classes d → (i : Item) → Items rules stmt c i → Items rules stmt d i
      go c d e i v = set_valid rules stmt classes g d i (subst (λ (k : List Item). In i (item_set rules stmt classes (chains rules) k)) e (valid_set rules stmt classes g v))

  -- a stack for each kernel
  stacks_of : (ks : List (List Item)) → ((k : List Item) → In k ks → Reached rules stmt classes g k) → (ss : List (List Sym)) × (map (kernel_at rules stmt classes) ss ≡ ks)
  stacks_of [] h = ([], refl)
  stacks_of (k ∷ ks) h =
      let r : Reached rules stmt classes g k = h k (inl refl) in
      let rest : (ss : List (List Sym)) × (map (kernel_at rules stmt classes) ss ≡ ks) = stacks_of ks (λ l a. h l (inr a)) in
      (r.stack ∷ rest.0, λ i. r.leads i ∷ rest.1 i)

  pub too_many : IsOver rules stmt classes → HasTooMany rules stmt
  too_many o =
      let ks = found rules stmt classes o.at in
      let s : (ss : List (List Sym)) × (map (kernel_at rules stmt classes) ss ≡ ks) = stacks_of ks (λ k h. found_reached rules stmt classes g o.at k h) in
      let at : (k : ℕ) (a : List Sym) → slice_get s.0 k ≡ Some a → slice_get ks k ≡ Some (kernel_at rules stmt classes a) =
      λ k a e. ap (λ (x : List (List Item)). slice_get x k) (sym s.1) ∙ (slice_get-map (kernel_at rules stmt classes) s.0 k ∙ ap (option_map (kernel_at rules stmt classes)) e) in
      record {
        stacks = s.0;
        many = (let l = length-map s.0 (kernel_at rules stmt classes) in let m : length (map (kernel_at rules stmt classes) s.0) ≡ length ks = ap (λ (x : List (List Item)). length x) s.1 in
            let v = o.over in omega (arith, l, m, v));
        differ = record {
          live = λ k a e.
              let r : Reached rules stmt classes g (kernel_at rules stmt classes a) =
              found_reached rules stmt classes g o.at (kernel_at rules stmt classes a) (slice_get-In (kernel_at rules stmt classes a) ks k (at k a e)) in
              let h : (i : Item) × In i (kernel_at rules stmt classes a) = head_in (kernel_at rules stmt classes a) r.some in
              (h.0, kernel_valid rules stmt classes g a h.0 h.1);
          apart = λ j k a b lt e f same.
              apart_get ks j k (kernel_at rules stmt classes b) (found_apart rules stmt classes g o.at) lt (at j a e ∙ ap Some (same_kernels a b same)) (at k b f);
        };
      }

  kernels_apart : (ss : List (List Sym)) → AreApart rules stmt ss → Apart (map (kernel_at rules stmt classes) ss)
  kernels_apart [] h = tt
  kernels_apart (a ∷ ss) h = (
    (λ x. let m : (b : List Sym) × In b ss × (kernel_at rules stmt classes a ≡ kernel_at rules stmt classes b) = map-In (kernel_at rules stmt classes) (kernel_at rules stmt classes a) ss x in
        let k : (n : ℕ) × (slice_get ss n ≡ Some m.0) = In-slice_get m.0 ss m.1 in
        h.apart 0 (suc k.0) a m.0 (omega arith) refl k.1 (same_sets a m.0 m.2)),
    kernels_apart ss (record { live = λ k b e. h.live (suc k) b e; apart = λ j k b c lt e f. h.apart (suc j) (suc k) b c (omega (arith, lt)) e f }),
  )

  pub not_too_many : (n : ℕ) → length (found rules stmt classes n) ≡ n → n ≤ 4096 → HasTooMany rules stmt → ⊥
  not_too_many n e le h =
      let ks = found rules stmt classes n in
      let all : (k : List Item) → In k (map (kernel_at rules stmt classes) h.stacks) → In k ks = λ k x.
      let m : (a : List Sym) × In a h.stacks × (k ≡ kernel_at rules stmt classes a) = map-In (kernel_at rules stmt classes) k h.stacks x in
      let p : (j : ℕ) × (slice_get h.stacks j ≡ Some m.0) = In-slice_get m.0 h.stacks m.1 in
      let v : (i : Item) × Items rules stmt m.0 i = h.differ.live p.0 m.0 p.1 in
      subst (λ (y : List Item). In y ks) (sym m.2) (found_complete rules stmt classes g n (omega (arith, e)) m.0
      (set_empty rules stmt classes g (kernel_at rules stmt classes m.0) v.0 (valid_set rules stmt classes g v.1))) in
      let l : length (map (kernel_at rules stmt classes) h.stacks) ≤ length ks = pigeons (map (kernel_at rules stmt classes) h.stacks) ks (kernels_apart h.stacks h.differ) all in
      let m = length-map h.stacks (kernel_at rules stmt classes) in
      let many = h.many in
      omega (arith, l, m, many, e, le)
