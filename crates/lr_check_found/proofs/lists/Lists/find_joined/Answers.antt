use Rattle.std.proofs.Common.{◌++◌, Some, reverse, ap, ◌∙◌}
use Rattle.std.proofs.lemmas.List.{reverse-reverse}
use Rattle.std.proofs.lemmas.Iterator.Adapters.{YieldsList-from_rev_slice}
use Rattle.std.proofs.lemmas.Iterator.Consumers.{YieldsList-end}
use Rattle.lr_check_found.proofs.Joining.{read}
use Rattle.lr_check_found.proofs.lists.Lists.find_joined.Goals as goal

pub returns : goal.returns
returns c = λ u s up low.
    let list = c.get.result.now in
    let all = YieldsList-end (YieldsList-from_rev_slice list cc) c.loop-symbol.yielded _ c.loop-symbol.yielded_by _ _ c.in-None.is c.next.ensures.steps in
    c.loop-symbol.invariant s low
    ∙ ap (λ l. Some (l ++ s)) (ap reverse all.0 ∙ (reverse-reverse list ∙ (c.get.ensures ∙ read c.args.self.now c.args.upper u up)))
