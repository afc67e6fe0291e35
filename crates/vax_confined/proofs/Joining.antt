-- Instructions in two parts are done one part after the other.
use Rattle.std.proofs.Common.{◌≡◌, ℕ, List, [], ◌∷◌, ◌++◌, refl, sym, ap, ◌∙◌, append_assoc, append-nil}
use Rattle.vax_machine_lists.specs.vax_core.specs.declared.code.Instr.{Instr}
use Rattle.vax_machine_lists.specs.vax_machine.specs.State.{State}
use Rattle.vax_machine_lists.specs.Instructions.{Course, Ending, Comes, Goes, Calls, Returns, Stops, bytes_first, behind, followed}
use Rattle.vax_confined.specs.Confined.{performed, exec}
use Rattle.vax_confined.specs.Laws.{OneAfterAnother}

bytes_append : (v w : List ℕ) (c : Course) → bytes_first (v ++ w) c ≡ bytes_first v (bytes_first w c)
bytes_append v w c = ap (λ (l : List ℕ). record { written = l; ending = c.ending }) (append_assoc v w c.written)

ends_so : (w : List ℕ) (e f : Ending) → e ≡ f → ◌≡◌ {A = Course} (record { written = w ++ []; ending = e }) (record { written = (w ++ []) ++ []; ending = f })
ends_so w e f h = λ i. record { written = sym (append-nil (w ++ [])) i; ending = h i }

module _ (is js : List Instr) (rest : (n : State) → exec (is ++ js) n ≡ followed (exec is n) js (exec js)) where
  joined_by : (w : List ℕ) (e : Ending)
      → followed (record { written = w; ending = e }) (is ++ js) (exec (is ++ js)) ≡ followed (followed (record { written = w; ending = e }) is (exec is)) js (exec js)
  joined_by w (Comes n) = ap (bytes_first w) (rest n) ∙ sym (bytes_append w (exec is n).written (behind (exec is n).ending js (exec js)))
  joined_by w (Goes label n) = ends_so w _ _ refl
  joined_by w (Calls name count n more) = ends_so w _ _ (ap (λ (l : List Instr). Calls name count n l) (sym (append_assoc more is js)))
  joined_by w (Returns n) = ends_so w _ _ refl
  joined_by w (Stops e) = ends_so w _ _ refl

pub one_after_another : OneAfterAnother
one_after_another [] js m = refl
one_after_another (i ∷ is) js m = joined_by is js (λ n. one_after_another is js n) (performed i m).written (performed i m).ending
