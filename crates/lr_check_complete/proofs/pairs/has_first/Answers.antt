use Rattle.lr_check_complete.proofs.pairs.has_first.Goals as goal

pub returns-in-Some : goal.returns-in-Some
returns-in-Some c = λ u. record {
  first = λ may. record {
    kid = c.in-Some.kid.now;
    is = c.in-Some.ensures;
    places = c.has_first_at.ensures.places u;
    lines = c.has_first_at.ensures.lines u;
  };
}
