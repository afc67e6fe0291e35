use Rattle.lr_check_complete.proofs.look.Look.are_paired.Goals as goal

pub returns : goal.returns
returns c = λ u. record {
  begins = λ m may. c.has_beginnings.ensures c.if-not-has_beginnings.false m (c.tokens.ensures m) may;
  first = λ t may. let h = c.has_all_first.ensures c.if-not-has_all_first.false t (c.tokens-2.ensures t) in h.first may;
  second = λ d there m may is. c.has_all_seconds.ensures u d there m (c.tokens-3.ensures m) may is;
}
