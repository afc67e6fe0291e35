-- What an answer says of a run.
use Rattle.std.proofs.Common.{◌≡◌, ℕ, zero, suc, ◌+◌, ◌-◌, [], Bool, true, false, refl, sym, ap, ◌∙◌, subst, arith}
use Rattle.gg_base.specs.declared.run.End.{End}
use Rattle.gg_base.specs.declared.run.End.TheVariants.{Spent}
use Rattle.gg_base.specs.declared.run.SourceTurn.TheVariants as turns
use Rattle.gg_base.specs.Runs.{Outcome, Runs, Remaining, stop, emit, counted, Closed, Advances}
use Rattle.gg_base.specs.Turns.{counted_from, end_of, turn_of}
use Rattle.gg_base.specs.declared.run.Finish.{Finish}
use Rattle.gg_base.specs.declared.run.Finish.TheVariants as finish
use Rattle.c_meaning.specs.declared.machine.Machine.{Machine}
use Rattle.c_meaning.specs.Pending.{to_come}
use Rattle.c_meaning.specs.Runner.{to_go, remaining}

pub wrote : (old : Remaining) (m n : Machine) (left taken : ℕ) (spent failed : Bool) (b : ℕ) → remaining m left taken spent failed ≡ old → spent ≡ false → to_come m ≡ emit b (to_come n)
    → Advances old (turns.Wrote b) (remaining n left taken spent failed)
wrote old m n left taken true failed b view is h = absurd (cc)
wrote old m n left taken false failed b view is h =
    subst (λ o. Advances o (turns.Wrote b) (remaining n left taken false failed)) view (ap (λ (r : Runs). counted_from taken (r left)) h, omega arith, refl)

pub going : (old : Remaining) (m n : Machine) (left taken : ℕ) (spent failed : Bool) → remaining m left taken spent failed ≡ old → spent ≡ false → to_come m ≡ counted (to_come n)
    → (left ≡ 0 → ⊥) → Advances old turns.Going (remaining n (left - 1) (taken + 1) spent failed)
going old m n left taken true failed view is h some = absurd (cc)
going old m n zero taken false failed view is h some = absurd (some refl)
going old m n (suc k) taken false failed view is h some =
    let o = to_come n k in
    let e : suc k - 1 ≡ k = omega arith in
    let f : taken + 1 + o.number ≡ taken + suc o.number = omega arith in
    let whole : counted_from (taken + 1) (to_come n (suc k - 1)) ≡ counted_from taken (to_come m (suc k)) =
    ap (λ j. counted_from (taken + 1) (to_come n j)) e
    ∙ ap (λ (z : ℕ). let q : Outcome = record { output = o.output; end = o.end; number = z } in q) f
    ∙ sym (ap (λ (r : Runs). counted_from taken (r (suc k))) h) in
    subst (λ p. Advances p turns.Going (remaining n (suc k - 1) (taken + 1) false failed)) view
    (ap (λ (w : Outcome). let q : Remaining = record { outcome = w; taken = taken + 1; failed = failed } in q) whole)

closed : (old : Remaining) (m n : Machine) (left taken : ℕ) (now behind failed : Bool) (e : End) → remaining m left taken now failed ≡ old → to_go now m left
    ≡ record { output = []; end = e; number = 0 } → to_go behind n left ≡ record { output = []; end = e; number = 0 } → Closed 0 old e (remaining n left taken behind failed)
closed old m n left taken now behind failed e view was is =
    let t : taken ≡ taken + 0 = omega arith in
    subst (λ p. Closed 0 p e (remaining n left taken behind failed)) view (
      ap (counted_from taken) was,
      ap (λ (o : Outcome). let q : Remaining = record { outcome = counted_from taken o; taken = taken; failed = failed } in q) (is ∙ sym was)
          ∙ ap (λ (k : ℕ). let q : Remaining = record { outcome = counted_from taken (to_go now m left); taken = k; failed = failed } in q) t,
    )

pub stopped : (old : Remaining) (m n : Machine) (left taken : ℕ) (spent failed : Bool) (e : Finish) → remaining m left taken spent failed ≡ old → spent ≡ false
    → (to_come m ≡ stop (end_of e)) × (to_come n ≡ stop (end_of e)) → Advances old (turn_of e) (remaining n left taken spent failed)
stopped old m n left taken true failed e view is h = absurd (cc)
stopped old m n left taken false failed (finish.Ended s) view is h = closed old m n left taken false false failed (end_of (finish.Ended s)) view (ap (λ (r : Runs). r left) h.0)
    (ap (λ (r : Runs). r left) h.1)
stopped old m n left taken false failed finish.Trapped view is h = closed old m n left taken false false failed (end_of finish.Trapped) view (ap (λ (r : Runs). r left) h.0)
    (ap (λ (r : Runs). r left) h.1)
stopped old m n left taken false failed finish.Wild view is h = closed old m n left taken false false failed (end_of finish.Wild) view (ap (λ (r : Runs). r left) h.0) (ap (λ (r : Runs). r left) h.1)
stopped old m n left taken false failed finish.Deep view is h = closed old m n left taken false false failed (end_of finish.Deep) view (ap (λ (r : Runs). r left) h.0) (ap (λ (r : Runs). r left) h.1)

pub spent_now : (old : Remaining) (m n : Machine) (left taken : ℕ) (spent failed : Bool) → remaining m left taken spent failed ≡ old → spent ≡ false → to_come m ≡ counted (to_come n)
    → left ≡ 0 → Advances old turns.Spent (remaining n left taken true failed)
spent_now old m n left taken true failed view is h none = absurd (cc)
spent_now old m n zero taken false failed view is h none = closed old m n zero taken false true failed Spent view (ap (λ (r : Runs). r zero) h) refl
spent_now old m n (suc k) taken false failed view is h none = absurd (omega arith)
