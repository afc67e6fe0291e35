-- Compiled code takes no more instructions than its source's counted turns and calls allow.
use Rattle.std.proofs.Common.{◌≡◌, ℕ, ◌+◌, ◌*◌, ◌≤◌, List, sym, ap, subst, ◌∙◌, arith}
use Rattle.std.proofs.Math.Nat.{mul-le-mul_left}
use Rattle.gg_base.specs.declared.run.End.{End}
use Rattle.gg_base.specs.declared.run.End.TheVariants.{Ended, Trapped, Wild, Deep, Spent, Broken}
use Rattle.gg_base.specs.Runs.{Outcome, OneEnd}
use Rattle.tree_core.specs.declared.program.TreeProgram.{TreeProgram}
use Rattle.tree_counts.specs.Counted.{tree_tally}
use Rattle.c_program.specs.Programs.{AProgram}
use Rattle.c_sound.specs.Sound.{IsSound}
use Rattle.gg_compile_laws.specs.c_sound_texts.proofs.Law.{typed_is_sound}
use Rattle.c_meaning.specs.Programs.{source}
use Rattle.c_lower_scheme.specs.Programs.{lowered}
use Rattle.c_lower_valid.proofs.Law.{lowered_is_valid}
use Rattle.c_lower_valid.proofs.Naming.{labels_stay}
use Rattle.c_lower_calm.proofs.Law.{each_tree_is_calm}
use Rattle.c_lower_counts.specs.Zeros.{with_zeros}
use Rattle.c_lower_counts.specs.Claim.{Within}
use Rattle.c_lower_counts.proofs.Law.{lowering_counts_no_more}
use Rattle.vax_core.specs.declared.code.Code.{Code}
use Rattle.vax_machine.specs.Loading.{start}
use Rattle.vax_machine.specs.Running.{run}
use Rattle.vax_machine.proofs.Law.{run_has_one_end}
use Rattle.vax_bound.specs.Counted.{counted_in}
use Rattle.vax_bound.specs.Bound.{stretch, bound, IsBounded}
use Rattle.vax_bound.proofs.Law.{runs_are_bounded}
use Rattle.gg_compile_tallies.specs.Claims.{SaysWithin}
use Rattle.gg_compile_tallies.specs.Claims.{Within as CodeWithin}
use Rattle.gg_compile_tallies.proofs.Law.{written_codes_count_no_more}
use Rattle.gg_compile_laws.specs.gg_compile_keeps.specs.Programs.{IsSelectable}
use Rattle.gg_compile_laws.specs.gg_compile_keeps.proofs.Law.{is_written}
use Rattle.gg_compile_laws.specs.Keeping.{IsWithinLimits}
use Rattle.gg_compile_laws.proofs.Objects.{all_below, hold_numbers, are_apart, objects_named}
use Rattle.gg_compile_laws.proofs.Limits.{typed_programs_are_within_limits}
use Rattle.gg_compile_codes.specs.Bounded.{EndsIn, TypedCodesAreBounded}

ended_spent : (v : ℕ) → Ended v ≡ Spent → ⊥
ended_spent v e = cc

trapped_spent : Trapped ≡ Spent → ⊥
trapped_spent e = cc

-- ---- a code's run that has come to an end, and counts little

more_allowed : (k a b : ℕ) → a ≤ b → k * (a + 1) ≤ k * (b + 1)
more_allowed k a b le = let h : k * a ≤ k * b = mul-le-mul_left k le in omega (arith, h)

module _ (c : Code) (input : List ℕ) where
  -- it ends so within the bound for what it counts, and for more
  ends_by : (i n : ℕ) → ((run c input i).end ≡ Spent → ⊥) → counted_in c input i ≤ n → run c input (bound c n) ≡ run c input i
  ends_by i n over le =
      let b : IsBounded c input = runs_are_bounded c input in
      let one : OneEnd (run c input) = run_has_one_end c input in
      let within = b.within i in
      let more = more_allowed (stretch c) (counted_in c input i) n le in
      one.stays (bound c n) i over (omega (arith, within, more))

  says_by : (much n : ℕ) (output : List ℕ) (end : End) → (end ≡ Spent → ⊥) → much ≤ n → SaysWithin much (start c input) output end
      → ((run c input (bound c n)).output ≡ output) × ((run c input (bound c n)).end ≡ end)
  says_by much n output end over le h =
      let few = h.3 in
      let e : run c input (bound c n) ≡ run c input h.0 = ends_by h.0 n (λ s. over (sym h.2 ∙ s)) (omega (arith, few, le)) in
      (ap (λ (o : Outcome). o.output) e ∙ h.1, ap (λ (o : Outcome). o.end) e ∙ h.2)

-- ---- the run of a source, of its trees and of their code

module _ (q : TreeProgram) (c : Code) (input : List ℕ) (codes : (m : ℕ) → CodeWithin (tree_tally q input m).number (tree_tally q input m).end (tree_tally q input m).output (start c input)) where
  bounded_by : (n : ℕ) (e : End) (output : List ℕ) → Within n e output (tree_tally q input) → EndsIn (bound c n) e output (run c input)
  bounded_by n (Ended v) output h =
      let says : CodeWithin (tree_tally q input h.0).number (Ended v) (tree_tally q input h.0).output (start c input) =
      subst (λ (e : End). CodeWithin (tree_tally q input h.0).number e (tree_tally q input h.0).output (start c input)) h.2 (codes h.0) in
      says_by c input (tree_tally q input h.0).number n output (Ended v) (ended_spent v) h.3
      (subst (λ (o : List ℕ). SaysWithin (tree_tally q input h.0).number (start c input) o (Ended v)) h.1 says)
  bounded_by n Trapped output h =
      let says : CodeWithin (tree_tally q input h.0).number Trapped (tree_tally q input h.0).output (start c input) =
      subst (λ (e : End). CodeWithin (tree_tally q input h.0).number e (tree_tally q input h.0).output (start c input)) h.2 (codes h.0) in
      says_by c input (tree_tally q input h.0).number n output Trapped trapped_spent h.3
      (subst (λ (o : List ℕ). SaysWithin (tree_tally q input h.0).number (start c input) o Trapped) h.1 says)
  bounded_by n Wild output h = tt
  bounded_by n Deep output h = tt
  bounded_by n Spent output h = tt
  bounded_by n (Broken k) output h = tt

selectable : (p : AProgram) → IsSound p → IsWithinLimits (lowered p) → IsSelectable (lowered p)
selectable p s limits =
    let labels = labels_stay p s in
    record {
      valid = lowered_is_valid p s;
      calm = each_tree_is_calm p;
      locals = limits.locals;
      apart = are_apart p.objects (lowered p).functions labels;
      numbers = hold_numbers p.objects _ labels s.contents;
      names = record { objects = objects_named p.objects labels.spelled; functions = limits.names };
      longwords = limits.longwords;
      small = limits.small;
    }

pub typed_codes_are_bounded : TypedCodesAreBounded
typed_codes_are_bounded p d c t few fit selected input bytes n =
    let sound : IsSound p = typed_is_sound p t.unit t.ends t.tokens t.typed in
    let ok = selectable p sound (typed_programs_are_within_limits p t few) in
    bounded_by (lowered p) c input (λ m. written_codes_count_no_more (lowered p) c (is_written (lowered p) d c ok fit selected) input (all_below input bytes) m)
    (with_zeros p n) (source p input n).end (source p input n).output (lowering_counts_no_more p sound input bytes n)
