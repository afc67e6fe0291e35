use Rattle.std.proofs.Common.{sym, ◌∙◌}
use Rattle.lr_check_sets.specs.Table.{automaton_of}
use Rattle.lr_check_found.specs.Found.{IsPlaceAt}
use Rattle.lr_check_found.proofs.Reading.{looked_at}
use Rattle.lr_check_complete.proofs.Both.{not_there}
use Rattle.lr_check_decided.proofs.Faulty.{is_gap_at, shifted}
use Rattle.lr_check_decided.proofs.gaps.is_gap.Goals as goal

pub returns-in-None-clause-none : goal.returns-in-None-clause-none
returns-in-None-clause-none c = λ u x there. absurd (not_there c.places.result.now c.args.found.now.places c.args.number x c.places.ensures c.in-None.ensures.lookup.0 there)

pub returns-in-Some-over-clause-none : goal.returns-in-Some-over-clause-none
returns-in-Some-over-clause-none c = λ u y other.
    let x = c.in-Some.place.now in
    let there : IsPlaceAt c.args.found.now c.args.number x = looked_at c.places.result.now c.args.found.now.places c.args.number x c.places.ensures c.in-Some.ensures.lookup.0
    c.in-Some.ensures.lookup.1 in
    shifted (automaton_of c.args.tables.now) c.args.found.now c.args.number c.in-Some-over.field-0 x y there (sym c.over.ensures ∙ c.in-Some-over.is) other

pub returns-in-None-over-clause-some : goal.returns-in-None-over-clause-some
returns-in-None-over-clause-some c = λ u.
    let x = c.in-Some.place.now in
    let there : IsPlaceAt c.args.found.now c.args.number x = looked_at c.places.result.now c.args.found.now.places c.args.number x c.places.ensures c.in-Some.ensures.lookup.0
    c.in-Some.ensures.lookup.1 in
    is_gap_at (automaton_of c.args.tables.now) c.args.found.now c.args.number x there (sym c.over.ensures ∙ c.in-None-over.is)
