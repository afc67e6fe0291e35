-- What `find_map` answers, by the list that is gone through.
use Rattle.std.proofs.Common.{◌≡◌, ℕ, suc, List, [], ◌∷◌, Option, Some, None, sym, ap, ◌∙◌, subst, refl}
use Rattle.std.specs.Prelude.{◌<◌, ◌+◌, IsTrue, IfSome, slice_get}
use Rattle.std.specs.Option.{MatchOption, option_map, option_or}
use Rattle.std.specs.Fn.{Called}
use Rattle.std.specs.List.{FoldsTo}
use Rattle.std.specs.Iterator.{AlwaysYields, Yields, FindsMapped}
use Rattle.std.specs.Iterator.Runs.{YieldsRun, SomeRun, AllItemsGive, IsFirstToGive}
use Rattle.gg_base.proofs.Facts.{some_none}
use denote.Param.Members.{Mut}

-- the first answer of h
abbrev pub first_given : {B C : Type 0} → (B → Option C) → List B → Option C
first_given h [] = None
first_given h (y ∷ ys) = option_or (h y) (first_given h ys)

module _ {S A B C R F : Type 0} (steps : S → Option A → S → Type 0) (v : A → B) (w : R → C) (g : Mut F (A × Unit {0}) (Option R)) (f : F) (h : B → Option C)
    (k : (x : A) (r : Option R) (q : F) → Called g f (x, tt) r q → (q ≡ f) × (option_map w r ≡ h (v x))) where
  found : (n : R) (xs : List A) (o : Option A) (s t u : S) (j : F) (ys : List B) → AlwaysYields steps v s ys → Yields steps s xs t
      → FoldsTo (λ p x q. Called g p (x, tt) None q) f xs j → steps t o u → MatchOption o (◌≡◌ {A = Option R} (Some n) None) (λ x. (q : F) × Called g j (x, tt) (Some n) q)
      → Some (w n) ≡ first_given h ys
  found n [] None s t u j ys e y c p m = absurd (some_none n m)
  found n [] (Some x) s t u j [] e y c p m = absurd (e x u (subst (λ i. steps i (Some x) u) (sym y) p))
  found n [] (Some x) s t u j (z ∷ ys) e y c p m =
      let a = k x (Some n) m.0 (subst (λ i. Called g i (x, tt) (Some n) m.0) (sym c) m.1) in
      let next = e.1 x u (subst (λ i. steps i (Some x) u) (sym y) p) in
      ap (λ i. option_or i (first_given h ys)) (a.1 ∙ ap h next.0)
  found n (x ∷ xs) o s t u j [] e y c p m = absurd (e x y.0 y.1)
  found n (x ∷ xs) o s t u j (z ∷ ys) e y c p m =
      let a = k x None c.0 c.1 in
      let next = e.1 x y.0 y.1 in
      found n xs o y.0 t u j ys next.1 y.2 (subst (λ i. FoldsTo (λ l w q. Called g l (w, tt) None q) i xs j) a.0 c.2) p m
      ∙ ap (λ i. option_or i (first_given h ys)) (a.1 ∙ ap h next.0)

  none_found : (xs : List A) (s t u : S) (ys : List B) → AlwaysYields steps v s ys → Yields steps s xs t → steps t None u
      → ((i : ℕ) → IfSome (slice_get xs i) (λ x. Called g f (x, tt) None f)) → None ≡ first_given h ys
  none_found [] s t u [] e y p b = refl
  none_found [] s t u (z ∷ ys) e y p b = absurd (e.0 u (subst (λ i. steps i None u) (sym y) p))
  none_found (x ∷ xs) s t u [] e y p b = absurd (e x y.0 y.1)
  none_found (x ∷ xs) s t u (z ∷ ys) e y p b =
      let a = k x None f (b 0) in
      let next = e.1 x y.0 y.1 in
      none_found xs y.0 t u ys next.1 y.2 p (λ i. b (suc i)) ∙ ap (λ i. option_or i (first_given h ys)) (a.1 ∙ ap h next.0)

  -- what is found, read by w, is the first answer
  pub found_by : (r : Option R) (s u : S) (ys : List B) → AlwaysYields steps v s ys → FindsMapped steps g s f r u
      → SomeRun steps s (λ p. MatchOption r (IsTrue p.whole × AllItemsGive p g f None) (λ n. (i : ℕ) × (i < p.len) × (p.len ≡ i + 1) × IsFirstToGive p g f (Some n) None i))
      → option_map w r ≡ first_given h ys
  unfolding YieldsRun
  found_by None s u ys e d m =
      let p = m.0 in
      let last = p.gave.0.2 m.2.0 in
      none_found p.items s p.gave.0.0 last.0 ys e (subst (λ i. Yields steps i p.items p.gave.0.0) m.1 p.gave.0.1) last.1
      (λ i. subst (λ o. IfSome o (λ x. Called g f (x, tt) None f)) (p.gave.1 i) (m.2.1 (λ a r q c. (k a.0 r q c).0) i))
  found_by (Some n) s u ys e d m = found n d.0 d.1 s d.3.0 u d.2 ys e d.3.1 d.4 d.3.2 d.5

same_read : {C : Type 0} (r : Option C) → option_map (λ x. x) r ≡ r
same_read None = refl
same_read (Some x) = refl

module _ {S A B C F : Type 0} (steps : S → Option A → S → Type 0) (v : A → B) (g : Mut F (A × Unit {0}) (Option C)) (f : F) (h : B → Option C)
    (k : (x : A) (r : Option C) (q : F) → Called g f (x, tt) r q → (q ≡ f) × (r ≡ h (v x))) where
  -- what is found is the first answer
  pub found_first : (r : Option C) (s u : S) (ys : List B) → AlwaysYields steps v s ys → FindsMapped steps g s f r u
      → SomeRun steps s (λ p. MatchOption r (IsTrue p.whole × AllItemsGive p g f None) (λ n. (i : ℕ) × (i < p.len) × (p.len ≡ i + 1) × IsFirstToGive p g f (Some n) None i))
      → r ≡ first_given h ys
  found_first r s u ys e d m =
      sym (same_read r)
      ∙ found_by steps v (λ x. x) g f h (λ x a q c. ((k x a q c).0, same_read a ∙ (k x a q c).1)) r s u ys e d m
