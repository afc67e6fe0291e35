-- A step is what is chosen and then made.
use Rattle.std.proofs.Common.{◌≡◌, ℕ, List, Option, Some, None, length, slice_get, refl, ap, ◌∙◌}
use Rattle.md_reader.specs.declared.types.Rule.{Rule}
use Rattle.lr_tables.specs.declared.types.Choice.{Choice}
use Rattle.lr_tables.specs.declared.types.Choice.TheVariants as choice
use Rattle.lr_tables.specs.View.{TableView}
use Rattle.lr_tables.specs.Leads.{actions_at}
use Rattle.lr_check.specs.declared.stack.Entry.{Entry}
use Rattle.lr_check.specs.Tree.{Node}
use Rattle.lr_check.specs.Steps.{Config, top_of, token_of, After, shifted, reduced_by, reduced, after_choice, step}
use Rattle.lr_check.specs.Questions.{Taken, first_place, chosen}

-- what is done with a choice doesn't depend on the stack before the questions
module _ (t : TableView) (next : Option ℕ) (c d : Config) (stack : List Entry) (at : d.at ≡ c.at) (seen : d.seen ≡ c.seen) where
  pub other_stack : (o : Option Choice) → after_choice t next d stack o ≡ after_choice t next c stack o
  other_stack o = ap (λ (x : Config). after_choice t next x stack o) same ∙ by o
    where
      same : d ≡ record { at = c.at; stack = d.stack; seen = c.seen }
      same = λ i. record { at = at i; stack = d.stack; seen = seen i }

      by_rule : (r : Rule) (o : Option ℕ) → reduced_by t (record { at = c.at; stack = d.stack; seen = c.seen }) stack r o ≡ reduced_by t c stack r o
      by_rule r None = refl
      by_rule r (Some i) = refl

      by_number : (o : Option Rule) → reduced t (record { at = c.at; stack = d.stack; seen = c.seen }) stack o ≡ reduced t c stack o
      by_number None = refl
      by_number (Some r) = by_rule r (first_place (length stack) (length r.right))

      by_next : (q : ℕ) (o : Option ℕ) → shifted (record { at = c.at; stack = d.stack; seen = c.seen }) stack q o ≡ shifted c stack q o
      by_next q None = refl
      by_next q (Some n) = refl

      by : (o : Option Choice) → after_choice t next (record { at = c.at; stack = d.stack; seen = c.seen }) stack o ≡ after_choice t next c stack o
      by None = refl
      by (Some choice.Accept) = refl
      by (Some (choice.Shift q)) = by_next q next
      by (Some (choice.Reduce n)) = by_number (slice_get t.content.rules n)

pub step_by : (t : TableView) (nodes : List Node) (order : List ℕ) (c d : Config) (next : Option ℕ) (rules : List Rule) (cs : List Choice) (o : Option Choice) (stack : List Entry) (a : After) →
    d ≡ c → next ≡ slice_get order d.at → rules ≡ t.content.rules → cs ≡ actions_at t (top_of d.stack) (token_of nodes next) →
    ◌≡◌ {A = Taken} (record { choice = o; stack = stack }) (chosen rules nodes cs d.stack) →
    a ≡ after_choice t next (record { at = d.at; stack = stack; seen = d.seen }) stack o →
    a ≡ step t nodes order c
unfolding step
step_by t nodes order c d next rules cs o stack a same e f g h k =
    k
    ∙ (other_stack t next d (record { at = d.at; stack = stack; seen = d.seen }) stack refl refl o
    ∙ (ap (λ (x : Taken). after_choice t next d x.stack x.choice) h
    ∙ (ap (λ (x : List Rule). after_choice t next d (chosen x nodes cs d.stack).stack (chosen x nodes cs d.stack).choice) f
    ∙ (ap (λ (x : List Choice). after_choice t next d (chosen t.content.rules nodes x d.stack).stack (chosen t.content.rules nodes x d.stack).choice) g
    ∙ (ap (λ (x : Option ℕ). after_choice t x d (chosen t.content.rules nodes (actions_at t (top_of d.stack) (token_of nodes x)) d.stack).stack
    (chosen t.content.rules nodes (actions_at t (top_of d.stack) (token_of nodes x)) d.stack).choice) e
    ∙ ap (λ (x : Config). step t nodes order x) same)))))
