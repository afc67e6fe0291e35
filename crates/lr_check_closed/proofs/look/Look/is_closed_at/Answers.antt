use Rattle.std.proofs.Common.{◌≡◌, Bool, true, refl}
use Rattle.gg_base.proofs.Facts.{if_ok}
use Rattle.lr_check_found.proofs.Reading.{looked_at}
use Rattle.lr_check_closed.specs.Looks.{automaton}
use Rattle.lr_check_closed.specs.Closing.{IsRowClosed, IsClosedAt}
use Rattle.lr_check_closed.proofs.Showing.{closed_at}
use Rattle.lr_check_closed.proofs.look.Look.is_closed_at.Goals as goal

pub returns : goal.returns
returns c =
    let A = automaton c.args.self.now in
    let v = c.args.self.now.lists.now in
    let rows = c.args.self.now.rows.now in
    let row = c.in-Some.row.now in
    if_ok _ (λ (b : Bool). b ≡ true → IsRowClosed A v rows row) (λ (b : Bool). b ≡ true → IsClosedAt A v rows c.args.at)
    (λ b h u. closed_at A v rows c.args.at row (looked_at rows rows c.args.at row refl c.in-Some.ensures.lookup.0 c.in-Some.ensures.lookup.1) (c.stands.ensures c.if-not-stands.false) (h u))
    c.is_row_closed.ensures
