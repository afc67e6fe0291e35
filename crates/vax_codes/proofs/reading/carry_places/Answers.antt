use Rattle.std.proofs.Common.{rules}
use Rattle.std.proofs.lemmas.Grind.{common_steps}
use Rattle.vax_codes.specs.Marks.{Rests}
use Rattle.vax_codes.proofs.Bringing.{brings_on, all_found}
use Rattle.vax_codes.proofs.reading.carry_places.Goals as goal

pub loop-place-preserved : goal.loop-place-preserved
loop-place-preserved c = brings_on c.args.items.now c.loop-place.marks c.take.new.self c.bring.new.marks c.in-Some.place c.loop-place.invariant c.in-Some.ensures c.in_ok-bring.ensures

pub returns-clause-read : goal.returns-clause-read
returns-clause-read c =
    let rests : Rests c.loop-place.marks c.take.new.self = search (rules, common_steps) in
    all_found c.args.items.now c.loop-place.marks c.take.new.self c.into_marked.result.items c.loop-place.invariant rests c.into_marked.ensures
