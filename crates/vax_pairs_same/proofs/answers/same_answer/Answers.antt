use Rattle.vax_pairs_walk.specs.Views.{state_of}
use Rattle.vax_pairs_same.proofs.Answering.{answers_same}
use Rattle.vax_pairs_same.proofs.answers.same_answer.Goals as goal

pub returns : goal.returns
returns c =
    answers_same c.args.test c.args.other (state_of c.args.s.now) (state_of c.args.t.now)
    c.in_ok-same_test.ensures c.in_ok-same_signs.ensures c.in_ok-same_carry_for.ensures
