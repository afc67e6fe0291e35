-- What `find_map` answers of names, by the list that is gone through.
use Rattle.std.proofs.Common.{◌≡◌, ℕ, List, Option, Some, None, Bor, sym, ◌∙◌, refl}
use Rattle.std.specs.Prelude.{◌<◌, ◌+◌, IsTrue}
use Rattle.std.specs.Option.{MatchOption, option_copied, option_map}
use Rattle.std.specs.Fn.{Called}
use Rattle.std.specs.Iterator.{AlwaysYields, FindsMapped}
use Rattle.std.specs.Iterator.Runs.{SomeRun, AllItemsGive, IsFirstToGive}
use denote.Param.Members.{Mut}
use Rattle.gg_base.proofs.Mapping.{first_given, found_by}

copied : (r : Option (Bor (List ℕ))) → option_copied r ≡ option_map (λ (n : Bor (List ℕ)). n.now) r
copied None = refl
copied (Some n) = refl

module _ {S A B F : Type 0} (steps : S → Option A → S → Type 0) (v : A → B) (g : Mut F (A × Unit {0}) (Option (Bor (List ℕ)))) (f : F) (h : B → Option (List ℕ))
    (k : (x : A) (r : Option (Bor (List ℕ))) (q : F) → Called g f (x, tt) r q → (q ≡ f) × (option_copied r ≡ h (v x))) where
  pub mapped : (r : Option (Bor (List ℕ))) (s u : S) (ys : List B) → AlwaysYields steps v s ys → FindsMapped steps g s f r u
      → SomeRun steps s (λ p. MatchOption r (IsTrue p.whole × AllItemsGive p g f None) (λ n. (i : ℕ) × (i < p.len) × (p.len ≡ i + 1) × IsFirstToGive p g f (Some n) None i))
      → option_copied r ≡ first_given h ys
  mapped r s u ys e d m =
      copied r
      ∙ found_by steps v (λ (n : Bor (List ℕ)). n.now) g f h (λ x a q c. ((k x a q c).0, sym (copied a) ∙ (k x a q c).1)) r s u ys e d m
