-- Code that counts no more than a program's run takes no more instructions than that allows.
use Rattle.std.proofs.Common.{◌≡◌, ℕ, ◌*◌, ◌≤◌, List, sym, ap, subst, ◌∙◌, arith}
use Rattle.std.proofs.Math.Nat.{mul-le-mul_left}
use Rattle.gg_base.specs.declared.run.End.{End}
use Rattle.gg_base.specs.declared.run.End.TheVariants.{Ended, Trapped, Wild, Deep, Spent, Broken}
use Rattle.gg_base.specs.Runs.{Outcome, Runs, OneEnd}
use Rattle.vax_core.specs.declared.code.Code.{Code}
use Rattle.vax_machine.specs.Loading.{start}
use Rattle.vax_machine.specs.Running.{run}
use Rattle.vax_machine.proofs.Law.{run_has_one_end}
use Rattle.vax_bound.specs.Counted.{counted_in}
use Rattle.vax_bound.specs.Bound.{stretch, bound, IsBounded}
use Rattle.vax_bound.proofs.Law.{runs_are_bounded}
use Rattle.c_lower_counts.specs.Claim.{Within}
use Rattle.gg_compile_tallies.specs.Claims.{SaysWithin}
use Rattle.gg_compile_tallies.specs.Claims.{Within as CodeWithin}
use Rattle.gg_compile_codes.specs.Bounded.{EndsIn}

ended_spent : (v : ℕ) → Ended v ≡ Spent → ⊥
ended_spent v e = cc

trapped_spent : Trapped ≡ Spent → ⊥
trapped_spent e = cc

module _ (c : Code) (input : List ℕ) where
  -- a run that has come to an end has ended so within the bound for what it counts, and for more
  ends_by : (i n : ℕ) → ((run c input i).end ≡ Spent → ⊥) → counted_in c input i ≤ n → run c input (bound c n) ≡ run c input i
  ends_by i n over le =
      let b : IsBounded c input = runs_are_bounded c input in
      let one : OneEnd (run c input) = run_has_one_end c input in
      let within = b.within i in
      let more : stretch c * counted_in c input i ≤ stretch c * n = mul-le-mul_left (stretch c) le in
      one.stays (bound c n) i over (omega (arith, within, more))

  says_by : (much n : ℕ) (output : List ℕ) (end : End) → (end ≡ Spent → ⊥) → much ≤ n → SaysWithin much (start c input) output end
      → ((run c input (bound c n)).output ≡ output) × ((run c input (bound c n)).end ≡ end)
  says_by much n output end over le h =
      let few = h.3 in
      let e : run c input (bound c n) ≡ run c input h.0 = ends_by h.0 n (λ s. over (sym h.2 ∙ s)) (omega (arith, few, le)) in
      (ap (λ (o : Outcome). o.output) e ∙ h.1, ap (λ (o : Outcome). o.end) e ∙ h.2)

  -- what a run of trees says with a number, of which the code counts no more
  abbrev pub CountsNoMore : Outcome → Type 0
  CountsNoMore o = CodeWithin o.number o.end o.output (start c input)

  module _ (trees : Runs) (codes : (m : ℕ) → CountsNoMore (trees m)) where
    ended_so : (m n : ℕ) (end : End) (output : List ℕ) → (end ≡ Spent → ⊥) → (CodeWithin (trees m).number end (trees m).output (start c input) → SaysWithin (trees m).number (start c input) (trees m).output end)
        → (trees m).output ≡ output → (trees m).end ≡ end → (trees m).number ≤ n → ((run c input (bound c n)).output ≡ output) × ((run c input (bound c n)).end ≡ end)
    ended_so m n end output over says told is le =
        let h = says (subst (λ (e : End). CodeWithin (trees m).number e (trees m).output (start c input)) is (codes m)) in
        says_by (trees m).number n output end over le (subst (λ (o : List ℕ). SaysWithin (trees m).number (start c input) o end) told h)

    pub bounded_by : (n : ℕ) (e : End) (output : List ℕ) → Within n e output trees → EndsIn (bound c n) e output (run c input)
    bounded_by n (Ended v) output h = ended_so h.0 n (Ended v) output (ended_spent v) (λ k. k) h.1 h.2 h.3
    bounded_by n Trapped output h = ended_so h.0 n Trapped output trapped_spent (λ k. k) h.1 h.2 h.3
    bounded_by n Wild output h = tt
    bounded_by n Deep output h = tt
    bounded_by n Spent output h = tt
    bounded_by n (Broken k) output h = tt
