use Rattle.std.proofs.Common.{List, Bool, not, ap, ◌∙◌, subst}
use Rattle.lr_check_decided.specs.Calm.{AllMarked}
use Rattle.lr_check_decided.proofs.Calming.{if_not_some}
use Rattle.lr_check_decided.proofs.held.CalmHeld.are_calm.Goals as goal

pub returns-in-Some : goal.returns-in-Some
returns-in-Some c = λ u. record {
  calm = c.in-Some.calm.now;
  held = c.in-Some.ensures;
  marked = subst (λ (marks : List Bool). AllMarked c.args.rules.now c.args.size marks c.args.choices.now) c.deref.ensures.value
      (if_not_some c.first_unmarked.result (AllMarked c.args.rules.now c.args.size c.deref.result.now c.args.choices.now) c.first_unmarked.ensures.none (c.is_none.ensures ∙ ap not u));
}
