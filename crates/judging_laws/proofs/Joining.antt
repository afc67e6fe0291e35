-- Instructions that are done one by one are done in order.
use Rattle.std.proofs.Common.{◌≡◌, ℕ, List, [], ◌∷◌, ◌++◌, refl, sym, ap, append_assoc, append-nil, ◌∙◌}
use Rattle.vax_templates.specs.sel_target.specs.Courses.{Course, Ending, Comes, Goes, Calls, Returns, Traps, Breaks, comes, bytes_first, behind, followed}

module _ {I S : Type 0} where
  bytes_append : (v w : List ℕ) (c : Course I S) → bytes_first (v ++ w) c ≡ bytes_first v (bytes_first w c)
  bytes_append v w c = ap (λ (l : List ℕ). record { written = l; ending = c.ending }) (append_assoc v w c.written)

  ends_so : (w : List ℕ) (e f : Ending I S) → e ≡ f → ◌≡◌ {A = Course I S} (record { written = w ++ []; ending = e }) (record { written = (w ++ []) ++ []; ending = f })
  ends_so w e f h = λ i. record { written = sym (append-nil (w ++ [])) i; ending = h i }

  -- what stands in front of two lists that are done in order is done in front of both
  pub joined_by : (is js : List I) (all own other : S → Course I S) → ((n : S) → all n ≡ followed (own n) js other) → (w : List ℕ) (e : Ending I S)
      → followed (record { written = w; ending = e }) (is ++ js) all ≡ followed (followed (record { written = w; ending = e }) is own) js other
  joined_by is js all own other rest w (Comes n) = ap (bytes_first w) (rest n) ∙ sym (bytes_append w (own n).written (behind (own n).ending js other))
  joined_by is js all own other rest w (Goes label n) = ends_so w _ _ refl
  joined_by is js all own other rest w (Calls name count n more) = ends_so w _ _ (ap (λ (l : List I). Calls name count n l) (sym (append_assoc more is js)))
  joined_by is js all own other rest w (Returns n) = ends_so w _ _ refl
  joined_by is js all own other rest w Traps = ends_so w _ _ refl
  joined_by is js all own other rest w Breaks = ends_so w _ _ refl

  pub run_on : (run : List I → S → Course I S) (performed : I → S → Course I S) → ((m : S) → run [] m ≡ comes m)
      → ((i : I) (is : List I) (m : S) → run (i ∷ is) m ≡ followed (performed i m) is (run is))
      → (p r : List I) (m : S) → run (p ++ r) m ≡ followed (run p m) r (run r)
  run_on run performed none one [] r m = sym (ap (λ (c : Course I S). followed c r (run r)) (none m))
  run_on run performed none one (i ∷ is) r m =
      one i (is ++ r) m
      ∙ joined_by is r (run (is ++ r)) (run is) (run r) (λ n. run_on run performed none one is r n) (performed i m).written (performed i m).ending
      ∙ ap (λ (c : Course I S). followed c r (run r)) (sym (one i is m))
