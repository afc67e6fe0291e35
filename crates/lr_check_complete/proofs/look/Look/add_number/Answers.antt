use Rattle.lr_check_complete.specs.Looks.{automaton}
use Rattle.lr_check_complete.proofs.Kids_found.{one_place}
use Rattle.lr_check_complete.proofs.Framing.{number_only, number_kept, number_there}
use Rattle.lr_check_complete.proofs.look.Look.add_number.Goals as goal

pub returns-in_ok-push-in-Some : goal.returns-in_ok-push-in-Some
returns-in_ok-push-in-Some c = record {
  kept = number_kept c.in-Some.number _ _ c.in_ok-push-in-Some.ensures.items;
  only = number_only c.args.self.now.found.now c.args.place c.in-Some.number _ _ c.in_ok-push-in-Some.ensures.items c.in-Some.ensures.there;
  there = λ n at. number_there c.in-Some.number _ _ c.in_ok-push-in-Some.ensures.items n
      (one_place (automaton c.args.self.now) c.args.self.now.found.now n c.in-Some.number c.args.place c.requires at c.in-Some.ensures.there);
}

pub returns-in-None-clause-there : goal.returns-in-None-clause-there
returns-in-None-clause-there c = λ n at. absurd (c.in-None.ensures.absent (automaton c.args.self.now) n c.requires at)
