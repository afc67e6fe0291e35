use Rattle.std.proofs.Common.{◌∙◌}
use Rattle.lr_check_drawn.proofs.Begun.{have_nodes_grow}
use Rattle.lr_check_drawn.proofs.Samples.{above_fits, above_stands, above_if}
use Rattle.lr_check_drawn.proofs.sampling.add_above.Goals as goal

pub add-requires : goal.add-requires
add-requires c = above_fits c.args.found.now c.args.growing.now c.args.settling c.requires.there c.place_of-place.result c.token_of.result c.deref.result.now
    c.is_whole.ensures c.requires.settled c.place_of-place.ensures c.token_of.ensures (c.deref.ensures.value ∙ c.in_ok-kids.ensures)

pub rise-requires-clause-settled : goal.rise-requires-clause-settled
rise-requires-clause-settled c = have_nodes_grow c.in_ok-top.ensures.grows c.requires.settled

pub rise-requires-clause-stands : goal.rise-requires-clause-stands
rise-requires-clause-stands c = above_stands c.args.found.now c.args.growing.now c.add.new.self c.args.settling c.requires.there c.place_of-place.result c.in_ok-top.top c.token_of.result
    c.deref.result.now c.args.answers.now c.place_of-place.ensures c.token_of.ensures c.in_ok-top.ensures

pub returns : goal.returns
returns c = above_if c.rise.result c.args.found.now c.args.growing.now c.add.new.self c.rise.new.growing c.args.settling c.place_of-place.result c.in_ok-top.top c.token_of.result
    c.deref.result.now c.args.answers.now c.place_of-place.ensures c.token_of.ensures (c.deref.ensures.value ∙ c.in_ok-kids.ensures) c.in_ok-top.ensures c.rise.ensures
