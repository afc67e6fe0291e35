-- The toy machine does instructions one after another.
use Rattle.std.proofs.Common.{◌≡◌, ℕ, List, [], ◌∷◌, ◌++◌, refl, sym, ap, ◌∙◌, append_assoc, append-nil}
use Rattle.sel_target.specs.Courses.{Ending, Comes, Goes, Calls, Returns, Traps, Breaks, Course, bytes_first, behind, followed}
use Rattle.sel_target.specs.TemplateLaws.{RunsInOrder}
use Rattle.sel_toy_machine.specs.declared.operand.Instr.{Instr}
use Rattle.sel_toy_machine.specs.Machine.{Machine}
use Rattle.sel_toy_machine.specs.Running.{step, run}
use Rattle.sel_toy_machine.specs.Toy.{toy}

bytes_append : (v w : List ℕ) (c : Course Instr Machine) → bytes_first (v ++ w) c ≡ bytes_first v (bytes_first w c)
bytes_append v w c = ap (λ (l : List ℕ). record { written = l; ending = c.ending }) (append_assoc v w c.written)

ends_so : (w : List ℕ) (e f : Ending Instr Machine) → e ≡ f →
    ◌≡◌ {A = Course Instr Machine} (record { written = w ++ []; ending = e }) (record { written = (w ++ []) ++ []; ending = f })
ends_so w e f h = λ i. record { written = sym (append-nil (w ++ [])) i; ending = h i }

pub run_on : (is js : List Instr) (m : Machine) → run (is ++ js) m ≡ followed (run is m) js (run js)
run_on [] js m = refl
run_on (i ∷ is) js m = by (step i m).written (step i m).ending (λ n. run_on is js n)
  where
    by : (w : List ℕ) (e : Ending Instr Machine) → ((n : Machine) → run (is ++ js) n ≡ followed (run is n) js (run js))
        → followed (record { written = w; ending = e }) (is ++ js) (run (is ++ js)) ≡ followed (followed (record { written = w; ending = e }) is (run is)) js (run js)
    by w (Comes n) h = ap (bytes_first w) (h n) ∙ sym (bytes_append w (run is n).written (behind (run is n).ending js (run js)))
    by w (Goes label n) h = ends_so w _ _ refl
    by w (Calls name count n rest) h = ends_so w _ _ (ap (λ (l : List Instr). Calls name count n l) (sym (append_assoc rest is js)))
    by w (Returns n) h = ends_so w _ _ refl
    by w Traps h = ends_so w _ _ refl
    by w Breaks h = ends_so w _ _ refl

pub toy_runs : RunsInOrder toy
toy_runs = record { run_none = λ m. refl; run_on = run_on }
