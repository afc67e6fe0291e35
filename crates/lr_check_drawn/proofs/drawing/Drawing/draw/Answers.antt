use Rattle.lr_check_found.specs.lr_check_sets.specs.Table.{automaton_of}
use Rattle.lr_check_drawn.proofs.Draws.{draws}
use Rattle.lr_check_drawn.proofs.drawing.Drawing.draw.Goals as goal
use Rattle.lr_check_found.proofs.Added.{on_ok}

pub returns-clause-drawn : goal.returns-clause-drawn
returns-clause-drawn c = on_ok c.hold.result _ _
    (λ same. draws (automaton_of c.args.tables.now) c.args.found.now c.args.self.now c.hold.new.self c.args.token c.in_ok-kids.kids c.args.number c.args.how
    c.requires.found c.requires.drawn c.requires.next
    c.requires.there c.in_ok-kids.ensures same)
    c.hold.ensures
