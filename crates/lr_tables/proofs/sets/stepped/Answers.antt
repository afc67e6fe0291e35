use Rattle.std.proofs.Common.{◌∙◌, sym, arith}
use Rattle.lr_tables.proofs.Loops.{short_dot, stands_next}
use Rattle.lr_tables.proofs.sets.stepped.Goals as goal

pub overflow_add-result : goal.overflow_add-result
overflow_add-result c =
    let x = stands_next _ _ (sym c.stands_before.ensures ∙ c.if-stands_before.true) in
    let lt = short_dot c.args.rules.now c.args.stmt c.args.item x.0 c.requires x.1 in
    omega (arith, lt)
