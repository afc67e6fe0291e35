use Rattle.lr_check_found.specs.lr_check_sets.specs.Table.{automaton_of}
use Rattle.lr_check_drawn.proofs.Asks.{asked_leaf, asked_one, asked_two, asked_again, made_as}
use Rattle.lr_check_drawn.proofs.drawing.Drawing.ask.Goals as goal
use Rattle.gg_base.proofs.Facts.{if_ok}

pub returns-in-Leaf : goal.returns-in-Leaf
returns-in-Leaf c = asked_leaf (automaton_of c.args.tables.now) c.args.found.now c.args.self.now c.args.number _ (made_as c.in-Leaf.is c.requires.made)
    (λ i. record { numbers = c.new.ensures.items i; asked = c.new-in-Leaf.ensures i })

pub returns-in-One : goal.returns-in-One
returns-in-One c = if_ok c.one.result _ _
    (λ k e. asked_one (automaton_of c.args.tables.now) c.args.found.now c.args.self.now c.args.number c.in-One.first k
    c.requires.found c.requires.drawn c.requires.next (made_as c.in-One.is c.requires.made) e)
    c.one.ensures

pub returns-in-Two : goal.returns-in-Two
returns-in-Two c = if_ok c.two.result _ _
    (λ k e. asked_two (automaton_of c.args.tables.now) c.args.found.now c.args.self.now c.args.number c.in-Two.first c.in-Two.second c.size_behind.result k
    c.requires.found c.requires.drawn c.requires.next
    (made_as c.in-Two.is c.requires.made) c.size_behind.ensures e)
    c.two.ensures

pub returns-in-Reduced : goal.returns-in-Reduced
returns-in-Reduced c = if_ok c.again.result _ _
    (λ k e. asked_again c.args.tables.now c.args.found.now c.args.self.now c.args.number c.in-Reduced.settling c.in-Reduced.class k c.requires.found c.requires.drawn c.requires.next
    (made_as c.in-Reduced.is c.requires.made) e)
    c.again.ensures
