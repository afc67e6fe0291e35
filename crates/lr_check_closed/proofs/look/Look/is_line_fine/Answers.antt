use Rattle.std.proofs.Common.{List, [], Contains, length, sym, subst, ap, ◌∙◌}
use Rattle.std.proofs.lemmas.Option.{get_or_from_slice_get}
use Rattle.lr_check_ways.specs.declared.ways.Reduction.{Reduction}
use Rattle.lr_check_closed.specs.Looks.{automaton}
use Rattle.lr_check_closed.proofs.Ending.{none_in, nowhere_fine, line_fine}
use Rattle.lr_check_closed.proofs.look.Look.is_line_fine.Goals as goal

pub returns-in-None : goal.returns-in-None
returns-in-None c = λ u q are. nowhere_fine (automaton c.args.self.now) c.args.self.now.lists.now q c.args.line.now c.in-None.is

pub returns : goal.returns
returns c = λ u q are.
    let v = c.args.self.now.lists.now in
    let w = c.in-Some-ways_at.ways.now in
    line_fine (automaton c.args.self.now) v q c.in-Some.state (length c.get-size.result.now) c.args.line.now w c.args.calm.now
    (c.requires.ways c.in-Some.state w c.in-Some-ways_at.ensures) c.in-Some.is
    (λ s is. ap length (c.get-size.ensures ∙ get_or_from_slice_get v.all c.args.line.now.list s [] is))
    (λ b settled blocked. none_in c.both.result b c.if-both-ne0.false (c.both.ensures b settled blocked)) are
    (λ x there. c.all_settle.ensures u x (subst (λ (xs : List Reduction). Contains xs x) (sym c.deref.ensures.value) there))
