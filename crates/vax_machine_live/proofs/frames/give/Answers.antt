use Rattle.std.proofs.Common.{◌≡◌, ◌-◌, replicate, rules, tests, arith}
use Rattle.std.proofs.lemmas.List.{places}
use Rattle.vax_machine_live.proofs.frames.give.Goals as goal

pub returns-clause-gives : goal.returns-clause-gives
returns-clause-gives c =
    let filled : c.fill.new.self ≡ replicate (c.args.last - c.args.first) c.args.number = search (rules, tests) in
    record {
      inside = λ place low high. grind (arith, places, filled);
      below = λ place low. grind (arith, places, filled);
      above = λ place high. grind (arith, places, filled);
    }
