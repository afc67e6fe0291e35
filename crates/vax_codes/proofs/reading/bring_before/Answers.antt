use Rattle.std.proofs.Common.{◌≡◌, ◌<◌, true, Some, rules, arith}
use Rattle.std.proofs.lemmas.Grind.{common_steps}
use Rattle.vax_codes.specs.Reading.{passes_on}
use Rattle.vax_codes.proofs.Bringing.{one_before}
use Rattle.vax_codes.proofs.reading.bring_before.Goals as goal

pub returns : goal.returns
returns c =
    let some : 0 < c.args.place = omega (arith, c.if-place-eq0.false) in
    let passes : passes_on (Some c.index-items-place.result) ≡ true = search (rules, common_steps) in
    one_before c.args.items.now c.args.marks.now c.add.new.self c.args.place c.index-items-place.result some c.requires.place c.index-items-place.is passes c.in_ok-add.ensures
