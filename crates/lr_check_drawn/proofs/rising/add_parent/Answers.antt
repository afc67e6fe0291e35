use Rattle.lr_check_drawn.proofs.Rises.{root_after, first_fits, first_after, second_fits, second_after}
use Rattle.lr_check_drawn.proofs.rising.add_parent.Goals as goal

pub add_over_first-requires : goal.add_over_first-requires
add_over_first-requires c = first_fits c.args.found.now c.args.kid.place c.origin_of.result c.origin_of.ensures c.requires.begun c.args.growing.now c.args.kid.node c.in-First.place
    c.token_of-token.result c.behind_of-behind.result c.requires.stands c.in-First.is c.token_of-token.ensures c.behind_of-behind.ensures

pub add_over_both-requires : goal.add_over_both-requires
add_over_both-requires c = second_fits c.args.found.now c.args.kid.place c.origin_of.result c.origin_of.ensures c.requires.begun c.args.growing.now c.args.kid.node
    c.in-Second.place c.in-Second.settling
    c.in_ok-first-in-Second.first c.token_of-token-in-Second.result c.requires.settled c.requires.stands c.in-Second.is c.token_of-token-in-Second.ensures c.in_ok-first-in-Second.ensures.number

pub returns-in-Root : goal.returns-in-Root
returns-in-Root c = root_after c.args.found.now c.args.kid.place c.origin_of.result c.origin_of.ensures c.requires.begun c.args.growing.now c.args.kid.node c.requires.stands c.in-Root.is

pub returns-in_ok-node-in-First : goal.returns-in_ok-node-in-First
returns-in_ok-node-in-First c = first_after c.args.found.now c.args.kid.place c.origin_of.result c.origin_of.ensures c.requires.begun c.args.growing.now c.add_over_first.new.growing c.args.kid.node
    c.in-First.place c.in_ok-node-in-First.node c.token_of-token.result c.behind_of-behind.result c.requires.stands c.in-First.is
    c.token_of-token.ensures c.behind_of-behind.ensures c.in_ok-node-in-First.ensures

pub returns-in_ok-node-in-Second : goal.returns-in_ok-node-in-Second
returns-in_ok-node-in-Second c = second_after c.args.found.now c.args.kid.place c.origin_of.result c.origin_of.ensures c.requires.begun c.args.growing.now c.add_over_both.new.growing c.args.kid.node
    c.in-Second.place c.in-Second.settling c.in_ok-first-in-Second.first c.in_ok-node-in-Second.node c.token_of-token-in-Second.result c.requires.stands c.in-Second.is
    c.token_of-token-in-Second.ensures c.in_ok-first-in-Second.ensures.number c.in_ok-node-in-Second.ensures
