use Rattle.lr_check_drawn.proofs.Rises.{both_if, only_if}
use Rattle.lr_check_drawn.proofs.rising.add_over_first.Goals as goal

pub returns-in_ok-second : goal.returns-in_ok-second
returns-in_ok-second c = both_if c.add_over_both.result c.args.growing.now c.add_from.new.self c.add_over_both.new.growing c.args.token c.args.behind c.args.kid c.in_ok-second.second
    c.requires (c.has_two.ensures.two c.if-has_two.true) c.in_ok-second.ensures c.add_over_both.ensures

pub returns-else-has_two : goal.returns-else-has_two
returns-else-has_two c = only_if c.add_over.result c.args.growing.now c.add_over.new.growing c.args.token c.args.behind c.args.kid
    c.requires (c.has_two.ensures.one c.if-has_two.false) c.add_over.ensures
