use Rattle.lr_check_sets.specs.Table.{automaton_of}
use Rattle.lr_check_decided.proofs.Settled.{settles_led, circle_at}
use Rattle.lr_check_decided.proofs.circles.circle_of.Goals as goal

pub alone_at-settling-requires : goal.alone_at-settling-requires
alone_at-settling-requires c = settles_led (automaton_of c.args.tables.now) c.args.found.now c.args.number c.args.place.now c.requires.complete c.requires.place c.args.restless.now.class
    c.in_ok-turn.turn.class c.in_ok-turn.ensures.led c.requires.restless.settles

pub returns : goal.returns
returns c = circle_at (automaton_of c.args.tables.now) c.args.found.now c.args.number c.args.place.now c.requires.complete c.requires.place c.in_ok-turn.turn.class
    c.alone_at-settling.result c.in_ok-turn.turn.along.items c.alone_at-settling.ensures.0 c.alone_at-settling.ensures.1 c.in_ok-turn.ensures.along
