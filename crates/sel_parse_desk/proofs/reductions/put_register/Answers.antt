use Rattle.std.proofs.Common.{sym, arith}
use Rattle.std.specs.Prelude.{slice_get}
use Rattle.sel_target.specs.declared.attr.Attr.TheVariants as attr
use Rattle.sel_parse_desk.specs.Entries.{kind_in}
use Rattle.sel_parse_desk.proofs.JoinedLemmas.{set_over}
use Rattle.sel_parse_desk.proofs.reductions.put_register.Goals as goal

pub returns-else-at-len : goal.returns-else-at-len
returns-else-at-len g c =
    sym (set_over c.args.entries.now c.args.at (record { kind = kind_in (slice_get c.args.entries.now c.args.at); attr = attr.Reg c.args.register })
    (let l = c.len.ensures in let f = c.if-at-len.false in omega (arith, l, f)))
