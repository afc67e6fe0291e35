use Rattle.std.proofs.Common.{rules, map, ap, ◌-◌}
use Rattle.gg_base.proofs.Facts.{nil_of}
use Rattle.c_program.proofs.Rows.{block_is}
use Rattle.c_program.specs.Statements.{act, acts, declaration}
use Rattle.c_lower_parts.proofs.Straight.{block_goes}
use Rattle.c_lower_parts.proofs.zeros.+is_overwritten.Goals as goal

pub returns-in-Some-Block-default : goal.returns-in-Some-Block-default
returns-in-Some-Block-default t c =
    let first = c.in-Some-Block-default.field-0-0.now in
    let row = c.deref-in-Some-Block-default.result.now in
    block_goes c.args.ahead (c.args.ahead - 1) c.args.local (map declaration c.args.ds.now) (acts c.args.rest.now) (acts c.in-Some-Block-default.field-0-1.now) (acts row)
    (act first) _ (search rules) (ap (map declaration) (nil_of c.args.ds.now c.in-None.ensures.cases)) (ap acts c.in-Some-Block-default.ensures.cases.0)
    (block_is first c.in-Some-Block-default.row row (search rules) (search rules)) c.is_overwritten-in-Some-Block-default.ensures
