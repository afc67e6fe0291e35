use Rattle.std.proofs.Common.{sym, subst, ◌∙◌, Contains, List}
use Rattle.std.proofs.lemmas.Option.{same_Some}
use Rattle.lr_check_found.specs.declared.places.Place.{Place}
use Rattle.lr_check_found.specs.Found.{IsPlaceAt}
use Rattle.lr_check_found.proofs.Reading.{looked_at}
use Rattle.lr_check_complete.specs.declared.sheet.Line.{Line}
use Rattle.lr_check_complete.specs.declared.sheet.Row.{Row}
use Rattle.lr_check_complete.specs.Sheets.{IsRowAt, IsSumLine}
use Rattle.lr_check_complete.proofs.sheet.Sheet.shows.Goals as goal

pub returns-in-Some-row : goal.returns-in-Some-row
returns-in-Some-row c = λ u.
    let f = c.args.found.now in
    let e = c.args.settling.now in
    let y = c.in-Some.place.now in
    let there : IsPlaceAt f e.place y = looked_at c.places.result.now f.places e.place y c.places.ensures c.in-Some.ensures.lookup.0 c.in-Some.ensures.lookup.1 in
    let h = c.has_sum_line.ensures u in
    let row = c.in-Some-row.row.now in
    record {
      each = λ x at is_sum.
          subst (λ (z : Place). (r : Row) × (IsRowAt c.args.self.now z.state z.token r × ((l : Line) × (Contains r.lines.items l × IsSumLine e z.behind l)))) (same_Some y x (sym there ∙ at))
          (row, (c.in-Some-row.ensures.at, (h.0, (subst (λ (ls : List Line). Contains ls h.0) c.deref.ensures.value h.1.0, h.1.1))));
    }
