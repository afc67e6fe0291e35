-- A run of trees has one end.
use Rattle.std.proofs.Common.{◌≡◌, inl, inr, ℕ, zero, suc, ◌≤◌, List, Option, Some, None, refl, ap, arith}
use Rattle.gg_base.specs.declared.run.End.TheVariants as ends
use Rattle.gg_base.specs.Runs.{OneEnd, Outcome, byte_first}
use Rattle.gg_base.specs.Follows.{IsBroken, NeverBroken}
use Rattle.gg_base.proofs.Lasting.{one_end_of, emits_grow, counts_grow}
use Rattle.gg_base.specs.Lasting.{Grows, Lasts}
use Rattle.tree_core.specs.declared.program.TreeProgram.{TreeProgram}
use Rattle.tree_core.specs.Trees.{grown}
use Rattle.gg_base.specs.declared.run.Finish.{Finish}
use Rattle.gg_base.specs.declared.run.Finish.TheVariants as finish
use Rattle.tree_meaning.specs.State.{Next, over, tree_at}
use Rattle.tree_meaning.specs.Steps.{Step, tree_step, next, written}
use Rattle.gg_base.specs.Turns.{end_of}
use Rattle.tree_meaning.specs.Meaning.{To, first_written, carried, run, runs, first_at, tree_run}

-- A relation between outcomes that is kept by bytes is kept by steps.
module _ (R : Outcome → Outcome → Type 0) (emits : (b : ℕ) (o p : Outcome) → R o p → R (byte_first b o) (byte_first b p)) (t u : To) (same : (x : Next) → R (t x) (u x)) where
  first_kept : (b : Option ℕ) (o p : Outcome) → R o p → R (first_written b o) (first_written b p)
  first_kept None o p h = h
  first_kept (Some b) o p h = emits b o p h

  carried_kept : (st : Step) → R (carried t st) (carried u st)
  carried_kept st = first_kept (written st) (t (next st)) (u (next st)) (same (next st))

-- no end of trees is that of a number
not_spent : (e : Finish) → end_of e ≡ ends.Spent → ⊥
not_spent (finish.Ended v) h = cc
not_spent finish.Trapped h = cc
not_spent finish.Wild h = cc
not_spent finish.Deep h = cc

module _ (p : TreeProgram) where
  bounded : (n : ℕ) (x : Next) → (run p n x).number ≤ n
  bounded n (over e) = omega arith
  bounded zero (tree_at w s) = omega arith
  bounded (suc n) (tree_at w s) = let h = carried_kept (λ o q. o.number ≤ n) (λ b o q h. h) (run p n) (run p n) (bounded n) (tree_step p s (grown w)) in omega (arith, h)

  all_spent : (n : ℕ) (x : Next) → (run p n x).end ≡ ends.Spent → (run p n x).number ≡ n
  all_spent n (over e) h = absurd (not_spent e h)
  all_spent zero (tree_at w s) e = refl
  all_spent (suc n) (tree_at w s) e = ap suc (carried_kept (λ o q. o.end ≡ ends.Spent → o.number ≡ n) (λ b o q h. h) (run p n) (run p n) (all_spent n) (tree_step p s (grown w)) e)

  grows : (n : ℕ) (x : Next) → Grows n (run p n x) (run p (suc n) x)
  grows n (over e) = inl refl
  grows zero (tree_at w s) = inr (refl, ((run p 1 (tree_at w s)).output, refl), (let h = bounded 1 (tree_at w s) in omega (arith, h)))
  grows (suc n) (tree_at w s) = counts_grow n _ _ (carried_kept (Grows n) (emits_grow n) (run p n) (run p (suc n)) (grows n) (tree_step p s (grown w)))

  runs_last : (x : Next) (k : ℕ) → Lasts k (runs p x)
  runs_last x k = record { bound = λ n lt. bounded n x; all_spent = λ n lt e. all_spent n x e; grows = λ n lt. grows n x }

pub tree_run_lasts : (p : TreeProgram) (input : List ℕ) (k : ℕ) → Lasts k (tree_run p input)
tree_run_lasts p input k = runs_last p (first_at p input) k

pub tree_run_ends : (p : TreeProgram) (input : List ℕ) → OneEnd (tree_run p input)
tree_run_ends p input = one_end_of (tree_run p input) (tree_run_lasts p input)

-- no end of trees is a break
not_broken : (e : Finish) → IsBroken (end_of e) → ⊥
not_broken (finish.Ended v) h = h
not_broken finish.Trapped h = h
not_broken finish.Wild h = h
not_broken finish.Deep h = h

module _ (p : TreeProgram) where
  first_unbroken : (b : Option ℕ) (o : Outcome) → (IsBroken o.end → ⊥) → IsBroken (first_written b o).end → ⊥
  first_unbroken None o h = h
  first_unbroken (Some b) o h = h

  unbroken : (n : ℕ) (x : Next) → IsBroken (run p n x).end → ⊥
  unbroken n (over e) h = not_broken e h
  unbroken zero (tree_at w s) h = h
  unbroken (suc n) (tree_at w s) h = first_unbroken (written (tree_step p s (grown w))) _ (unbroken n (next (tree_step p s (grown w)))) h

pub tree_run_unbroken : (p : TreeProgram) (input : List ℕ) → NeverBroken (tree_run p input)
tree_run_unbroken p input n h = unbroken p n (first_at p input) h
