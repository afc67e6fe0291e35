use Rattle.std.proofs.Common.{sym, subst}
use Rattle.lr_check_found.specs.lr_check_sets.specs.Table.{automaton_of}
use Rattle.lr_check_drawn.specs.Sampled.{AreSettled}
use Rattle.lr_check_drawn.proofs.Drawings.{drawn_whole, drawn_settled}
use Rattle.lr_check_drawn.proofs.sampling.settled.Goals as goal

pub into_growing-requires : goal.into_growing-requires
into_growing-requires c = drawn_whole (automaton_of c.args.tables.now) c.args.found.now c.in_ok-drawing.drawing c.requires c.in_ok-drawing.ensures.drawn

pub returns : goal.returns
returns c = subst (AreSettled (automaton_of c.args.tables.now) c.args.found.now) (sym c.into_growing.ensures)
    (drawn_settled (automaton_of c.args.tables.now) c.args.found.now c.in_ok-drawing.drawing c.requires c.in_ok-drawing.ensures.drawn c.in_ok-drawing.ensures.many)
