-- A run of a code has one end.
use Rattle.std.proofs.Common.{◌≡◌, ℕ, zero, suc, ◌≤◌, List, [], ◌∷◌, inl, inr, refl, ap, arith}
use Rattle.gg_base.specs.declared.run.End.TheVariants.{Spent}
use Rattle.gg_base.specs.Runs.{one_first, OneEnd}
use Rattle.gg_base.specs.Lasting.{Grows, Lasts}
use Rattle.gg_base.proofs.Lasting.{one_end_of, emits_grow, counts_grow}
use Rattle.l32_core.specs.declared.code.Code32.{Code32}
use Rattle.l32_machine.specs.declared.turn.Stop32.{Stop32}
use Rattle.l32_machine.specs.declared.turn.Stop32.TheVariants as stops
use Rattle.l32_machine.specs.State.{State}
use Rattle.l32_machine.specs.Step.{Next, Goes, Writes, Stops, step_of}
use Rattle.l32_machine.specs.Loading.{start}
use Rattle.l32_machine.specs.Running.{end_of, behind, steps, state_run, run}

not_spent : (e : Stop32) → end_of e ≡ Spent → ⊥
not_spent (stops.Ended v) h = absurd cc
not_spent stops.Trapped h = absurd cc
not_spent (stops.Broken k) h = absurd cc

counts_behind : (n : ℕ) (x : Next) → ((k : State) → (steps n k).number ≤ n) → suc (behind x (steps n)).number ≤ suc n
counts_behind n (Goes k) h = omega (arith, h k)
counts_behind n (Writes b k) h = omega (arith, h k)
counts_behind n (Stops e) h = omega arith

counts_at_most : (n : ℕ) (m : State) → (steps n m).number ≤ n
counts_at_most zero m = omega arith
counts_at_most (suc n) m = counts_behind n (step_of m) (counts_at_most n)

spent_behind : (n : ℕ) (x : Next) → ((k : State) → (steps n k).end ≡ Spent → (steps n k).number ≡ n) → (behind x (steps n)).end ≡ Spent → suc (behind x (steps n)).number ≡ suc n
spent_behind n (Goes k) go h = ap suc (go k h)
spent_behind n (Writes b k) go h = ap suc (go k h)
spent_behind n (Stops e) go h = absurd (not_spent e h)

spent_counts_all : (n : ℕ) (m : State) → (steps n m).end ≡ Spent → (steps n m).number ≡ n
spent_counts_all zero m h = refl
spent_counts_all (suc n) m h = spent_behind n (step_of m) (spent_counts_all n) h

first_grows : (x : Next) → Grows 0 (record { output = []; end = Spent; number = 0 }) (one_first (behind x (steps 0)))
first_grows (Goes k) = inr (refl, ([], refl), refl)
first_grows (Writes b k) = inr (refl, (b ∷ [], refl), refl)
first_grows (Stops e) = inr (refl, ([], refl), refl)

grows_behind : (n : ℕ) (x : Next) → ((k : State) → Grows n (steps n k) (steps (suc n) k)) → Grows n (behind x (steps n)) (behind x (steps (suc n)))
grows_behind n (Goes k) h = h k
grows_behind n (Writes b k) h = emits_grow n b _ _ (h k)
grows_behind n (Stops e) h = inl refl

grows : (n : ℕ) (m : State) → Grows n (steps n m) (steps (suc n) m)
grows zero m = first_grows (step_of m)
grows (suc n) m = counts_grow n _ _ (grows_behind n (step_of m) (grows n))

state_lasts : (m : State) (k : ℕ) → Lasts k (state_run m)
state_lasts m k = record {
  bound = λ n lt. counts_at_most n m;
  all_spent = λ n lt h. spent_counts_all n m h;
  grows = λ n lt. grows n m;
}

pub run_has_one_end : (c : Code32) (input : List ℕ) → OneEnd (run c input)
run_has_one_end c input = one_end_of (run c input) (state_lasts (start c input))
