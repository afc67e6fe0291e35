use Rattle.std.proofs.Common.{◌++◌, reverse, ap, ◌∙◌}
use Rattle.std.proofs.lemmas.List.{reverse-append, reverse-reverse}
use Rattle.std.proofs.lemmas.Iterator.Adapters.{YieldsList-from_rev_slice}
use Rattle.std.proofs.lemmas.Iterator.Consumers.{YieldsList-end}
use Rattle.md_reader.proofs.patterns.put_kids.Goals as goal

pub returns : goal.returns
returns c =
    let all = YieldsList-end (YieldsList-from_rev_slice c.args.kids.now cc) c.loop-kid.yielded _ c.loop-kid.yielded_by _ _ c.in-None.is c.next.ensures.steps in
    let old = c.args.stack.now.items in
    let kids = c.args.kids.now in
    ap reverse (c.loop-kid.invariant ∙ ap (λ l. old ++ l) all.0)
    ∙ (reverse-append old (reverse kids) ∙ ap (λ l. l ++ reverse old) (reverse-reverse kids))
