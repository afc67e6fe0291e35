use Rattle.std.proofs.Common.{rules, tests}
use Rattle.std.proofs.lemmas.Iterator.{YieldsList-from_slice, YieldsList-from_map, items_from_collect}
use Rattle.vax_image_format.specs.Image.{piece_of}
use Rattle.vax_image_writing.proofs.lengths.pieces_of.Goals as goal

pub returns : goal.returns
returns c =
    let items = c.args.labels.now.items.now in
    items_from_collect c.collect.result c.collect.ensures.ran
    (YieldsList-from_map _ (piece_of items) (YieldsList-from_slice items cc) c.map.ensures.closure (λ x r q k. search (rules, tests)))
