use Rattle.std.proofs.Common.{◌≡◌, ℕ, ◌+◌, Bool, true, false, cond, List, length, Option, refl, nat_lt}
use Rattle.std.specs.Prelude.{not}
use Rattle.gg_base.specs.declared.run.End.TheVariants as ends
use Rattle.gg_base.specs.declared.relation.Rel.{Rel}
use Rattle.gg_base.specs.Relations.{holds}
use Rattle.gg_base.specs.Runs.{Outcome, one_first}
use Rattle.gg_base.specs.declared.run.Finish.TheVariants as finish
use Rattle.tree_core.specs.declared.program.TreeFn.{TreeFn}
use Rattle.tree_core.specs.declared.program.TreeProgram.{TreeProgram}
use Rattle.tree_core.specs.declared.tree.Att.TheVariants as att
use Rattle.tree_core.specs.Trees.{Forest}
use Rattle.tree_meaning.specs.declared.value.Value.{Value}
use Rattle.tree_meaning.specs.declared.value.Value.TheVariants.{Number, ZeroDivisor, Wild}
use Rattle.tree_meaning.specs.declared.value.Meaning.{Meaning}
use Rattle.tree_meaning.specs.State.{State, arrived}
use Rattle.tree_meaning.specs.Deeds.{Deed, assigned as assigned_deed, branched as branched_deed, given as given_deed}
use Rattle.tree_meaning.specs.Steps.{Step, with_call, with_label, deed_step, tree_step, GoesTo, Goes}
use Rattle.tree_meaning.specs.Steps as steps
use Rattle.tree_meaning.specs.Meaning.{To, ended}
use Rattle.tree_counts.specs.Counted.{is_ahead, with_count, tallied, tally}
use Rattle.c_lower_follows.proofs.Carried.{given}

module _ (program : TreeProgram) (to : To) (s : State) where
  abbrev pub done : Forest → Outcome
  done f = tallied to (tree_step program s f)

  abbrev pub assigned : Option Meaning → Value → Outcome
  assigned m v = tallied to (deed_step program s (assigned_deed m v))

  abbrev pub called : ℕ → ℕ → Outcome
  called function count = tallied to (steps.called program s function count)

module _ (program : TreeProgram) (m : ℕ) (s : State) where
  abbrev to : To
  to = tally program m

  pub given_is : (v : Value) (f : ℕ → Deed) → tallied to (deed_step program s (given_deed v f)) ≡ given v (λ n. tallied to (deed_step program s (f n)))
  given_is (Number n) f = refl
  given_is ZeroDivisor f = refl
  given_is Wild f = refl

  either_is : (b : Bool) (x y : Step) → tallied to (cond b x y) ≡ cond b (tallied to x) (tallied to y)
  either_is true x y = refl
  either_is false x y = refl

  pub branched_is : (rel : Rel) (label : ℕ) (o p : Value)
      → tallied to (deed_step program s (branched_deed (att.Branch rel label) o p))
      ≡ given o (λ x. given p (λ y. cond (holds rel x y) (with_count (not (is_ahead s.running.items label)) (to (arrived (with_label s label)))) (to (arrived s))))
  branched_is rel label (Number x) (Number y) = either_is (holds rel x y) (GoesTo label s) (Goes s)
  branched_is rel label (Number x) ZeroDivisor = refl
  branched_is rel label (Number x) Wild = refl
  branched_is rel label ZeroDivisor p = refl
  branched_is rel label Wild p = refl

  pub entered_is : (g : TreeFn) (arguments : List ℕ) → tallied to (steps.entered s g arguments)
      ≡ cond (nat_lt (1 + length s.callers) 1024) (one_first (to (arrived (with_call s g arguments)))) (ended ends.Deep)
  entered_is g arguments = either_is (nat_lt (1 + length s.callers) 1024) (steps.Enters g arguments s) (steps.Ends finish.Deep)
