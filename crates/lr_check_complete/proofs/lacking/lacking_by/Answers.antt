use Rattle.std.proofs.Common.{List, Contains, subst, arith}
use Rattle.lr_check_found.specs.declared.settlings.Item.{Item}
use Rattle.lr_check_complete.proofs.lacking.lacking_by.Goals as goal

pub returns : goal.returns
returns c = record {
  items = (c.in_ok-push_lacking.ensures.sound (record {
    each = λ i m. absurd (let lt = (subst (λ (l : List Item). Contains l i) c.new-items.ensures.items m).1 in omega (arith, lt));
  })).each;
  complete = λ none all. record { found = c.requires.found; closed = c.in_ok-push_lacking.ensures.none all (omega (arith, none)) };
}
