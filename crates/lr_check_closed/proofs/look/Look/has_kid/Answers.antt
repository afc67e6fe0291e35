use Rattle.lr_check_closed.proofs.look.Look.has_kid.Goals as goal

pub returns-in-Some : goal.returns-in-Some
returns-in-Some c = λ u. record {
  kid = c.in-Some.kid.now;
  at = c.in-Some.ensures;
  within = c.has_kid_at.ensures.within u;
  joined = c.has_kid_at.ensures.joined u;
}
