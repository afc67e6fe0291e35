use Rattle.std.proofs.Common.{List, length, ap, arith}
use Rattle.sel_target.specs.declared.attr.Attr.{Attr}
use Rattle.sel_parse_desk.proofs.JoinedLemmas.{length-attrs}
use Rattle.sel_parse_desk.proofs.spills.spill.Goals as goal

pub save_symbol-requires-clause-within : goal.save_symbol-requires-clause-within
save_symbol-requires-clause-within g c =
    let l = length-attrs c.args.desk.now.symbols in
    let e = ap (λ (hs : List (Attr g.row.T-Operand.Denot)). length hs) c.attrs.ensures.attrs in
    omega (arith, l, e, c.in-Some-first_to_go.ensures.within)
