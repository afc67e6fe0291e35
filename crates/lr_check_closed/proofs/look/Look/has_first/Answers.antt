use Rattle.lr_check_closed.proofs.look.Look.has_first.Goals as goal

pub returns-in-Some : goal.returns-in-Some
returns-in-Some c = λ u. record {
  first = λ may. record {
    kid = c.in-Some.kid.now;
    at = c.in-Some.ensures;
    places = c.has_first_at.ensures.places u;
    lines = c.has_first_at.ensures.lines u;
  };
}
