use Rattle.std.proofs.Common.{◌≡◌, ap, ◌∙◌}
use Rattle.std.specs.Prelude.{sum_by}
use Rattle.lr_check_store.specs.Store.{StoreView}
use Rattle.lr_check_store.specs.Counted.{size_of_row, IsCounted}
use Rattle.lr_check_store.proofs.Lines.{some_if}
use Rattle.lr_check_store.proofs.Counting.{counted}
use Rattle.lr_check_store.proofs.store.Store.count.Goals as goal

pub returns-clause-counted : goal.returns-clause-counted
returns-clause-counted c = λ A sound.
    let s = c.args.self.now in
    let ks = c.tokens-behinds.result.now in
    some_if c.size_of_rows.result (λ n. n ≡ sum_by (size_of_row ks) c.deref.result.now) (λ n. IsCounted s n)
    (λ n is. counted A s sound ks (c.are_in_order.ensures c.if-not-are_in_order.false) c.tokens-behinds.ensures n
    (is ∙ (ap (sum_by (size_of_row ks)) c.deref.ensures.value ∙ ap (λ (v : StoreView). sum_by (size_of_row ks) v.rows) c.self.view_is)))
    c.size_of_rows.ensures.many
