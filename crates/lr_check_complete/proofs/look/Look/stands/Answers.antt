use Rattle.std.proofs.Common.{sym, subst, ◌∙◌}
use Rattle.std.proofs.lemmas.Option.{same_Some}
use Rattle.lr_tables.proofs.Symbols_apart.{number_same}
use Rattle.lr_check_found.specs.Found.{IsPlaceAt}
use Rattle.lr_check_found.proofs.Reading.{looked_at}
use Rattle.lr_check_complete.specs.Sheets.{StandsIn}
use Rattle.lr_check_complete.proofs.look.Look.stands.Goals as goal

pub returns : goal.returns
returns c = λ u.
    let f = c.args.self.now.found.now in
    let y = c.in-Some.place.now in
    let there : IsPlaceAt f c.args.at y = looked_at c.places.result.now f.places c.args.at y c.places.ensures c.in-Some.ensures.lookup.0 c.in-Some.ensures.lookup.1 in
    let stands : StandsIn c.args.row.now y = record {
      state = sym c.number.ensures ∙ (c.if-number.false ∙ c.number-2.ensures);
      token = number_same _ _ (sym c.number-3.ensures ∙ (c.if-number-2.false ∙ c.number-4.ensures));
      behind = c.has.ensures.there u;
    } in
    record { each = λ x at. subst (StandsIn c.args.row.now) (same_Some y x (sym there ∙ at)) stands }
