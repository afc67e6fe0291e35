-- What an answer says of a run of trees.
use Rattle.std.proofs.Common.{◌≡◌, ℕ, zero, suc, ◌+◌, ◌-◌, List, [], ◌∷◌, Option, Some, None, false, refl, sym, ap, ◌∙◌, subst, arith}
use Rattle.gg_base.specs.declared.run.SourceTurn.{SourceTurn}
use Rattle.gg_base.specs.declared.run.SourceTurn.TheVariants as turns
use Rattle.gg_base.specs.Runs.{Remaining, AdvancesBy, one_first, after}
use Rattle.gg_base.specs.Turns.{Answers, Turns, counted_from, turn_of}
use Rattle.tree_core.specs.declared.tree.Leaf.{Leaf}
use Rattle.tree_core.specs.declared.program.TreeProgram.{TreeProgram}
use Rattle.tree_core.specs.Trees.{grown}
use Rattle.gg_base.specs.declared.run.Finish.{Finish}
use Rattle.gg_base.specs.declared.run.Finish.TheVariants as finish
use Rattle.tree_meaning.specs.declared.machine.Machine.{Machine}
use Rattle.tree_meaning.specs.declared.progress.Progress.{Progress}
use Rattle.tree_meaning.specs.declared.progress.Progress.TheVariants as progress
use Rattle.tree_meaning.specs.declared.run.Stage.{Stage}
use Rattle.tree_meaning.specs.declared.run.Stage.TheVariants as stages
use Rattle.tree_meaning.specs.State.{Activation, State, Next, over, tree_at, returned, arrived}
use Rattle.tree_meaning.specs.Steps.{Step, Goes, Serves, GoesTo, Enters, GoesBack, Ends, tree_step, next, written}
use Rattle.tree_meaning.specs.Meaning.{first_written, run}
use Rattle.tree_meaning.specs.Turns.{byte_turn, return_turn, turn, before, answers, turns_at, AdvancesTrees}
use Rattle.tree_meaning.specs.View.{state, turn_by, place_by, stage_by, turns_of, StepsBy, Arrives}

abbrev Told : Turns → SourceTurn → Turns → Type 0
Told old t new = Answers t old.answers new.answers × AdvancesTrees old.remaining t new.remaining

abbrev one_tree : (old new : Remaining) (t : SourceTurn) → AdvancesBy 1 old t new → AdvancesTrees old t new
one_tree old new t h = record { trees = 1; one_at_most = omega arith; one = λ g. refl; advances = h }

module _ (program : TreeProgram) (n taken : ℕ) where
  abbrev new_at : Next → Turns
  new_at x = turns_at program x n (taken + 1)

  -- what was to come, where a byte was written or none, and the run goes on or ends there
  abbrev old_at : SourceTurn → Option ℕ → Next → Turns
  old_at t b x = record {
    answers = before t (answers program n x);
    remaining = record { outcome = counted_from taken (one_first (first_written b (run program n x))); taken = taken; failed = false };
  }

  quiet : (x : Next) → (new_at x).remaining ≡ after 1 (old_at turns.Going None x).remaining
  quiet x i =
      let o = run program n x in
      let count : taken + 1 + o.number ≡ taken + suc o.number = omega arith in
      record { outcome = record { output = o.output; end = o.end; number = count i }; taken = taken + 1; failed = false }

  goes_on : (x : Next) → Told (old_at turns.Going None x) turns.Going (new_at x)
  goes_on x = (refl, one_tree _ _ _ (quiet x))

  wrote_one : (b : ℕ) (x : Next) → Told (old_at (turns.Wrote b) (Some b) x) (turns.Wrote b) (new_at x)
  wrote_one b x =
      let o = run program n x in
      let count : taken + suc o.number ≡ taken + 1 + o.number = omega arith in
      (refl, one_tree _ _ _ ((λ i. record { output = b ∷ o.output; end = o.end; number = count i }), refl, refl))

  comes_to_end : (e : Finish) → Told (old_at (turn_of e) None (over e)) (turn_of e) (new_at (over e))
  comes_to_end (finish.Ended v) = ((refl, refl), one_tree _ _ _ (refl, quiet (over (finish.Ended v))))
  comes_to_end finish.Trapped = ((refl, refl), one_tree _ _ _ (refl, quiet (over finish.Trapped)))
  comes_to_end finish.Wild = ((refl, refl), one_tree _ _ _ (refl, quiet (over finish.Wild)))
  comes_to_end finish.Deep = ((refl, refl), one_tree _ _ _ (refl, quiet (over finish.Deep)))

  served : (b : Option ℕ) (s : State) → Told (old_at (byte_turn b) b (arrived s)) (byte_turn b) (new_at (arrived s))
  served None s = goes_on (arrived s)
  served (Some b) s = wrote_one b (arrived s)

  back : (v : ℕ) (s : State) (callers : List Activation)
      → Told (old_at (return_turn callers v) None (returned v callers s.area s.input)) (return_turn callers v) (new_at (returned v callers s.area s.input))
  back v s [] = comes_to_end (finish.Ended v)
  back v s (f ∷ fs) = goes_on (returned v (f ∷ fs) s.area s.input)

  step_told : (st : Step) → Told (old_at (turn st) (written st) (next st)) (turn st) (new_at (next st))
  step_told (Goes s) = goes_on (arrived s)
  step_told (Serves b s) = served b s
  step_told (GoesTo label s) = goes_on _
  step_told (Enters g arguments s) = goes_on _
  step_told (GoesBack v s) = back v s s.callers
  step_told (Ends e) = comes_to_end e

-- ---- the machine

-- behind a step, what it still has to do is told by where the run comes to
staged : (d : Progress) (m : Machine) (left taken : ℕ)
    → turns_of (stage_by d (stages.Going m)) left taken ≡ turns_at m.program.now (place_by d (state m)) left taken
staged progress.Goes m left taken = refl
staged (progress.Wrote b) m left taken = refl
staged (progress.Ends e) m left taken = refl

-- a tree is next, which is as the machine says
tree_next : (at : Stage) (m n : Machine) (w : List Leaf) (left taken : ℕ)
    → at ≡ stages.Going m → Arrives m w n → turns_of at left taken ≡ turns_at n.program.now (tree_at w (state n)) left taken
tree_next at m n w left taken going a =
    ap (λ (g : Stage). turns_of g left taken) going
    ∙ ap (λ (x : Next). turns_at m.program.now x left taken) a.0
    ∙ ap (λ (p : TreeProgram). turns_at p (tree_at w (state n)) left taken) (sym a.1)

-- the tree is done
pub stepped : (old : Turns) (at stage : Stage) (m n k : Machine) (w : List Leaf) (left taken : ℕ) (done : Progress) (t : SourceTurn)
    → turns_of at left taken ≡ old → at ≡ stages.Going m → Arrives m w n → (left ≡ 0 → ⊥)
    → StepsBy n.program.now (tree_step n.program.now (state n) (grown w)) done k → stage ≡ stage_by done (stages.Going k) → t ≡ turn_by done
    → Told old t (turns_of stage (left - 1) (taken + 1))
stepped old at stage m n k w zero taken done t view going a some h is e = absurd (some refl)
stepped old at stage m n k w (suc j) taken done t view going a some h is e =
    let there : suc j - 1 ≡ j = omega arith in
    let st = tree_step n.program.now (state n) (grown w) in
    let new : turns_of stage (suc j - 1) (taken + 1) ≡ turns_at n.program.now (next st) j (taken + 1) =
    ap (λ (g : Stage). turns_of g (suc j - 1) (taken + 1)) is
    ∙ staged done k (suc j - 1) (taken + 1)
    ∙ (λ i. turns_at (h.2 i) (h.1 i) (there i) (taken + 1)) in
    subst (λ (x : Turns). Told x t (turns_of stage (suc j - 1) (taken + 1))) (sym (tree_next at m n w (suc j) taken going a) ∙ view)
    (subst (λ (x : Turns). Told (turns_at n.program.now (tree_at w (state n)) (suc j) taken) t x) (sym new)
    (subst (λ (x : SourceTurn). Told (turns_at n.program.now (tree_at w (state n)) (suc j) taken) x (turns_at n.program.now (next st) j (taken + 1)))
    (sym (e ∙ h.0)) (step_told n.program.now j taken st)))
