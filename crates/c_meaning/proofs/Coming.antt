-- Which answer comes next in a run, as the machine has it.
use Rattle.std.proofs.Common.{◌≡◌, ℕ, zero, suc, ◌+◌, ◌-◌, List, [], ◌∷◌, Bool, true, false, refl, sym, ap, ◌∙◌, subst, arith}
use Rattle.gg_base.specs.declared.run.SourceTurn.{SourceTurn}
use Rattle.gg_base.specs.declared.run.SourceTurn.TheVariants as turns
use Rattle.gg_base.specs.Runs.{Runs, stop, emit, counted}
use Rattle.gg_base.specs.Turns.{Answers, Turns, end_of, turn_of}
use Rattle.gg_base.specs.declared.run.Finish.{Finish}
use Rattle.gg_base.specs.declared.run.Finish.TheVariants as finish
use Rattle.c_meaning.specs.declared.machine.Machine.{Machine}
use Rattle.c_meaning.specs.Turns.{answers}
use Rattle.c_meaning.specs.Pending.{to_come}
use Rattle.c_meaning.specs.Runner.{turns_of}

answers_emit : (b : ℕ) (r : Runs) (n : ℕ) → answers (emit b r) n ≡ turns.Wrote b ∷ answers r n
answers_emit b r zero = refl
answers_emit b r (suc n) = refl

answers_counted : (r : Runs) (n : ℕ) → answers (counted r) (suc n) ≡ turns.Going ∷ answers r n
answers_counted r n = refl

answers_stop : (e : Finish) (n : ℕ) → answers (stop (end_of e)) n ≡ turn_of e ∷ []
answers_stop (finish.Ended v) zero = refl
answers_stop (finish.Ended v) (suc n) = refl
answers_stop finish.Trapped zero = refl
answers_stop finish.Trapped (suc n) = refl
answers_stop finish.Wild zero = refl
answers_stop finish.Wild (suc n) = refl
answers_stop finish.Deep zero = refl
answers_stop finish.Deep (suc n) = refl

pub wrote_next : (old : Turns) (m n : Machine) (left taken : ℕ) (spent failed : Bool) (b : ℕ) → turns_of m left taken spent failed ≡ old → spent ≡ false →
    to_come m ≡ emit b (to_come n) → Answers (turns.Wrote b) old.answers (turns_of n left taken spent failed).answers
wrote_next old m n left taken true failed b view is h = absurd (cc)
wrote_next old m n left taken false failed b view is h =
    subst (λ (o : Turns). Answers (turns.Wrote b) o.answers (answers (to_come n) left)) view
    (ap (λ (r : Runs). answers r left) h ∙ answers_emit b (to_come n) left)

pub going_next : (old : Turns) (m n : Machine) (left taken : ℕ) (spent failed : Bool) → turns_of m left taken spent failed ≡ old → spent ≡ false →
    to_come m ≡ counted (to_come n) → (left ≡ 0 → ⊥) → Answers turns.Going old.answers (turns_of n (left - 1) (taken + 1) spent failed).answers
going_next old m n left taken true failed view is h some = absurd (cc)
going_next old m n zero taken false failed view is h some = absurd (some refl)
going_next old m n (suc k) taken false failed view is h some =
    let less : k ≡ suc k - 1 = omega arith in
    subst (λ (o : Turns). Answers turns.Going o.answers (answers (to_come n) (suc k - 1))) view
    (ap (λ (r : Runs). answers r (suc k)) h ∙ answers_counted (to_come n) k ∙ ap (λ (j : ℕ). turns.Going ∷ answers (to_come n) j) less)

-- the answer of an end stays
stays : (t : SourceTurn) (old new : List SourceTurn) → old ≡ t ∷ [] → new ≡ t ∷ [] → (old ≡ t ∷ []) × (new ≡ old)
stays t old new h k = (h, k ∙ sym h)

ends_so : (e : Finish) (old new : List SourceTurn) → old ≡ turn_of e ∷ [] → new ≡ turn_of e ∷ [] → Answers (turn_of e) old new
ends_so (finish.Ended v) old new h k = stays (turns.Ended v) old new h k
ends_so finish.Trapped old new h k = stays turns.Trapped old new h k
ends_so finish.Wild old new h k = stays turns.Wild old new h k
ends_so finish.Deep old new h k = stays turns.Deep old new h k

pub end_next : (old : Turns) (m n : Machine) (left taken : ℕ) (spent failed : Bool) (e : Finish) → turns_of m left taken spent failed ≡ old → spent ≡ false →
    (to_come m ≡ stop (end_of e)) × (to_come n ≡ stop (end_of e)) → Answers (turn_of e) old.answers (turns_of n left taken spent failed).answers
end_next old m n left taken true failed e view is h = absurd (cc)
end_next old m n left taken false failed e view is h =
    subst (λ (o : Turns). Answers (turn_of e) o.answers (answers (to_come n) left)) view
    (ends_so e (answers (to_come m) left) (answers (to_come n) left)
    (ap (λ (r : Runs). answers r left) h.0 ∙ answers_stop e left) (ap (λ (r : Runs). answers r left) h.1 ∙ answers_stop e left))

pub spent_next : (old : Turns) (m n : Machine) (left taken : ℕ) (spent failed : Bool) → turns_of m left taken spent failed ≡ old → spent ≡ false →
    to_come m ≡ counted (to_come n) → left ≡ 0 → Answers turns.Spent old.answers (turns_of n left taken true failed).answers
spent_next old m n left taken true failed view is h none = absurd (cc)
spent_next old m n zero taken false failed view is h none =
    subst (λ (o : Turns). Answers turns.Spent o.answers (turns.Spent ∷ [])) view
    (let one : answers (to_come m) zero ≡ turns.Spent ∷ [] = ap (λ (r : Runs). answers r zero) h in (one, sym one))
spent_next old m n (suc k) taken false failed view is h none = absurd (omega arith)

-- what was used up stays so
pub spent_again : (old : Turns) (m : Machine) (left taken : ℕ) (spent failed : Bool) → turns_of m left taken spent failed ≡ old → spent ≡ true →
    Answers turns.Spent old.answers old.answers
spent_again old m left taken false failed view is = absurd (cc)
spent_again old m left taken true failed view is = subst (λ (o : Turns). Answers turns.Spent o.answers o.answers) view (refl, refl)
