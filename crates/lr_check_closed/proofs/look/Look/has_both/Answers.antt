use Rattle.std.proofs.Common.{List, Contains, sym, subst}
use Rattle.lr_check_rows.specs.declared.rows.Line.{Line}
use Rattle.lr_check_closed.proofs.look.Look.has_both.Goals as goal

pub returns : goal.returns
returns c = λ u. record {
  set = c.beginnings-set.result;
  firsts = c.in_ok-firsts.firsts.lines.items;
  begins = λ m may. c.has_beginnings.ensures c.if-not-has_beginnings.false m (c.tokens.ensures m) may;
  first = λ t may. (c.has_firsts.ensures c.if-not-has_firsts.false t (c.tokens-2.ensures t)).first may;
  second = λ d there m may is.
      c.has_seconds.ensures u d (subst (λ (ls : List Line). Contains ls d) (sym c.deref.ensures.value) there) m (c.tokens-3.ensures m) may is;
}
