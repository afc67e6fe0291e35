use Rattle.std.proofs.Common.{List, [], Contains, length, sym, subst, ap, ◌∙◌}
use Rattle.std.proofs.lemmas.Option.{get_or_from_slice_get}
use Rattle.lr_check_ways.specs.declared.ways.Reduction.{Reduction}
use Rattle.lr_check_closed.specs.Looks.{automaton}
use Rattle.lr_check_closed.proofs.Following.{line_closed}
use Rattle.lr_check_closed.proofs.look.Look.is_line_closed.Goals as goal

pub returns : goal.returns
returns c = λ u.
    let v = c.args.self.now.lists.now in
    let w = c.in-Some-ways_at.ways.now in
    line_closed (automaton c.args.self.now) v c.args.row.now c.args.line.now c.in-Some.state (length c.get-size.result.now) w
    (c.requires.ways c.in-Some.state w c.in-Some-ways_at.ensures) c.in-Some.is
    (λ s is. ap length (c.get-size.ensures ∙ get_or_from_slice_get v.all c.args.line.now.list s [] is))
    (λ b settled shifted. c.is_within.ensures c.if-not-is_within.false b (c.both.ensures b settled shifted))
    (λ x there. c.all_followed.ensures u x (subst (λ (xs : List Reduction). Contains xs x) (sym c.deref.ensures.value) there))
