use Rattle.std.proofs.Common.{ℕ, List, Contains, refl, sym, subst}
use Rattle.lr_check_found.proofs.Reading.{looked_at}
use Rattle.lr_check_rows.specs.declared.rows.Line.{Line}
use Rattle.lr_check_closed.specs.Looks.{automaton}
use Rattle.lr_check_closed.specs.Fine.{AreCalm}
use Rattle.lr_check_closed.proofs.Ending.{fine_at}
use Rattle.lr_check_closed.proofs.look.Look.is_fine_at.Goals as goal

pub returns-clause-fine : goal.returns-clause-fine
returns-clause-fine c = λ u.
    let A = automaton c.args.self.now in
    let rows = c.args.self.now.rows.now in
    let row = c.in-Some.row.now in
    let calm : AreCalm A row.state c.deref-2.result.now = subst (AreCalm A row.state) (sym c.deref-2.ensures.value)
    (subst (λ (q : ℕ). AreCalm A q c.hold.new.held.sets.items) c.in_ok-hold.ensures.state c.in_ok-hold.ensures.calm) in
    fine_at A c.args.self.now.lists.now rows c.args.at row (looked_at rows rows c.args.at row refl c.in-Some.ensures.lookup.0 c.in-Some.ensures.lookup.1)
    (c.stands.ensures c.if-not-stands.false) (c.is_shifted.ensures c.if-not-is_shifted.false)
    (λ l there. c.are_lines_fine.ensures u l (subst (λ (ls : List Line). Contains ls l) (sym c.deref.ensures.value) there) row.state calm)
