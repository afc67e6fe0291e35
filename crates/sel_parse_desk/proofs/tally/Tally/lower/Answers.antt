use Rattle.std.proofs.Common.{◌≡◌, ap, sym, ◌∙◌, arith}
use Rattle.std.proofs.lemmas.Grind.{get_or_default_zero}
use Rattle.sel_parse_desk.specs.Entries.{in_register}
use Rattle.sel_parse_desk.specs.Tallied.{one}
use Rattle.sel_parse_desk.proofs.tally.Tally.lower.Goals as goal

pub overflow_sub-index_mut : goal.overflow_sub-index_mut
overflow_sub-index_mut g c =
    let same = c.loop-register.invariant.1 c.loop-register.register (omega arith) in
    let some = c.requires.in_registers c.loop-register.register c.loop-register-test.true in
    let held : one (in_register g.T.Templates.meaning c.loop-register.register c.args.attr.now) ≡ 1 = ap one (sym c.in_register.ensures ∙ c.if-in_register.true) in
    let here = get_or_default_zero c.loop-register.self.registers.items c.loop-register.register c.index_mut.result.now (omega (arith, c.loop-register.self.twelve)) in
    omega (arith, here, same, some, held)
