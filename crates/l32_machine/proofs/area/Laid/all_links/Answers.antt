use Rattle.std.proofs.Common.{rules, tests}
use Rattle.std.proofs.lemmas.Iterator.{YieldsList-from_slice, YieldsList-from_map, items_from_collect}
use Rattle.l32_machine.specs.Tables.{links_of}
use Rattle.l32_machine.proofs.area.Laid.all_links.Goals as goal

pub returns : goal.returns
returns c =
    let layout = c.args.self.now.names.now.layout.now in
    let items = c.args.self.now.names.now.items.now in
    items_from_collect c.collect.result c.collect.ensures.ran
    (YieldsList-from_map _ (links_of layout items) (YieldsList-from_slice items cc) c.map.ensures.closure (λ x r q k. search (rules, tests)))
