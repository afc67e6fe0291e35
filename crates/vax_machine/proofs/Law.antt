-- A run of a code has one end, and a machine that was made of the code runs so.
use Rattle.std.proofs.Common.{◌≡◌, ℕ, zero, suc, ◌≤◌, List, [], ◌∷◌, inl, inr, refl, ap, arith, Option, Some, None, sym, ◌∙◌}
use Rattle.gg_base.specs.declared.run.End.TheVariants.{Spent}
use Rattle.gg_base.specs.Runs.{one_first, OneEnd}
use Rattle.gg_base.specs.Lasting.{Grows, Lasts}
use Rattle.gg_base.proofs.Lasting.{one_end_of, emits_grow, counts_grow}
use Rattle.vax_core.specs.declared.code.Code.{Code}
use Rattle.vax_machine.specs.declared.turn.Stop.{Stop}
use Rattle.vax_machine.specs.declared.turn.Stop.TheVariants as stops
use Rattle.vax_machine.specs.State.{State}
use Rattle.vax_machine.specs.Step.{Next, Goes, Writes, Stops, step_of, next_where}
use Rattle.vax_machine.specs.Loading.{start, SameFrom, Stands}
use Rattle.vax_machine.specs.Running.{end_of, behind, steps, state_run, run}

not_spent : (e : Stop) → end_of e ≡ Spent → ⊥
not_spent (stops.Ended v) h = absurd cc
not_spent stops.Trapped h = absurd cc
not_spent (stops.Broken k) h = absurd cc

counts_behind : (n : ℕ) (x : Next) → ((k : State) → (steps n k).number ≤ n) → suc (behind x (steps n)).number ≤ suc n
counts_behind n (Goes k) h = omega (arith, h k)
counts_behind n (Writes b k) h = omega (arith, h k)
counts_behind n (Stops e) h = omega arith

counts_at_most : (n : ℕ) (m : State) → (steps n m).number ≤ n
counts_at_most zero m = omega arith
counts_at_most (suc n) m = counts_behind n (step_of m) (counts_at_most n)

spent_behind : (n : ℕ) (x : Next) → ((k : State) → (steps n k).end ≡ Spent → (steps n k).number ≡ n) → (behind x (steps n)).end ≡ Spent → suc (behind x (steps n)).number ≡ suc n
spent_behind n (Goes k) go h = ap suc (go k h)
spent_behind n (Writes b k) go h = ap suc (go k h)
spent_behind n (Stops e) go h = absurd (not_spent e h)

spent_counts_all : (n : ℕ) (m : State) → (steps n m).end ≡ Spent → (steps n m).number ≡ n
spent_counts_all zero m h = refl
spent_counts_all (suc n) m h = spent_behind n (step_of m) (spent_counts_all n) h

first_grows : (x : Next) → Grows 0 (record { output = []; end = Spent; number = 0 }) (one_first (behind x (steps 0)))
first_grows (Goes k) = inr (refl, ([], refl), refl)
first_grows (Writes b k) = inr (refl, (b ∷ [], refl), refl)
first_grows (Stops e) = inr (refl, ([], refl), refl)

grows_behind : (n : ℕ) (x : Next) → ((k : State) → Grows n (steps n k) (steps (suc n) k)) → Grows n (behind x (steps n)) (behind x (steps (suc n)))
grows_behind n (Goes k) h = h k
grows_behind n (Writes b k) h = emits_grow n b _ _ (h k)
grows_behind n (Stops e) h = inl refl

grows : (n : ℕ) (m : State) → Grows n (steps n m) (steps (suc n) m)
grows zero m = first_grows (step_of m)
grows (suc n) m = counts_grow n _ _ (grows_behind n (step_of m) (grows n))

state_lasts : (m : State) (k : ℕ) → Lasts k (state_run m)
state_lasts m k = record {
  bound = λ n lt. counts_at_most n m;
  all_spent = λ n lt h. spent_counts_all n m h;
  grows = λ n lt. grows n m;
}

pub run_has_one_end : (c : Code) (input : List ℕ) → OneEnd (run c input)
run_has_one_end c input = one_end_of (run c input) (state_lasts (start c input))

over_by : (m : State) (e : Stop) → m.over ≡ Some e → step_of m ≡ Stops e
over_by m e h = ap (λ (o : Option Stop). next_where o m) h

same_steps : (o : Option Stop) (m n : State) → n.over ≡ o → SameFrom o m n → (k : ℕ) → steps k m ≡ steps k n
same_steps None m n is h k = ap (λ (x : State). steps k x) h
same_steps (Some e) m n is h zero = refl
same_steps (Some e) m n is h (suc k) = ap (λ (x : Next). one_first (behind x (steps k))) (over_by m e h ∙ sym (over_by n e is))

pub loaded_machine_runs_so : (c : Code) (input : List ℕ) (m : State) → Stands m (start c input) → state_run m ≡ run c input
loaded_machine_runs_so c input m h = λ i k. same_steps (start c input).over m (start c input) refl h k i
