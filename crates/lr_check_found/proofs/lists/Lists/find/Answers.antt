use Rattle.std.proofs.Common.{slice_get, refl, sym, ap, ◌∙◌}
use Rattle.lr_check_found.specs.Lists.{ListsView}
use Rattle.lr_check_found.proofs.Pushing.{found_cell}
use Rattle.lr_check_found.proofs.lists.Lists.find.Goals as goal

pub returns-in-Some : goal.returns-in-Some
returns-in-Some c = λ s at. found_cell c.args.self.now c.args.symbol c.args.rest c.in-Some.number (record { symbol = c.symbol_number.result; rest = c.args.rest }) c.requires
    (ap (λ (v : ListsView). slice_get v.cells c.in-Some.number) (sym c.self.view_is) ∙ c.in-Some.ensures) c.symbol_number.ensures refl s at
