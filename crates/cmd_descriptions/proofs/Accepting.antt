-- Checked tables whose rules are all shown are those of an accepted description.
use Rattle.std.proofs.Common.{◌≡◌, ◌∙◌, Result, Ok, Err, IfOk, OnOk, None, sym, subst}
use Rattle.cmd_session.specs.declared.status.Status.{Status}
use Rattle.lr_tables.specs.View.{TableView}
use Rattle.lr_tables.specs.Promises.{HasTooManySets}
use Rattle.lr_checked.specs.Accepted.{NeverStops}
use Rattle.lr_checked.specs.Counted.{HasTooManySums}
use Rattle.cmd_descriptions.specs.Machines.{Machine}
use Rattle.cmd_descriptions.specs.Rules.{refusal_on}
use Rattle.cmd_descriptions.specs.Descriptions.{IsAcceptedFor}

pub accepted : (m : Machine) (r : Result TableView Status) (t u : TableView) → IfOk r (λ (a : TableView). a ≡ u) → OnOk r (refusal_on m u.content ≡ None) → u ≡ t
    → (HasTooManySets t.content → ⊥) → (HasTooManySums t.content → ⊥) → NeverStops t.content → IfOk r (λ (a : TableView). IsAcceptedFor m a.content)
accepted m (Ok a) t u e shown same few sums never =
    subst (λ (x : TableView). IsAcceptedFor m x.content) (sym (e ∙ same)) (record {
      few = few;
      sums = sums;
      never = never;
      shown = subst (λ (x : TableView). refusal_on m x.content ≡ None) same shown;
    })
accepted m (Err s) t u e shown same few sums never = tt
