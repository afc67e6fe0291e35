use Rattle.std.proofs.Common.{sym, arith}
use Rattle.lr_tables.proofs.Keeping.{place_within}
use Rattle.lr_tables.proofs.kept.action_entry.Goals as goal

pub overflow_cast-result : goal.overflow_cast-result
overflow_cast-result c =
    let few = c.requires in
    let lt = place_within c.args.choices.now c.args.lists.now c.in-Some.place (sym c.in-Some.ensures) in
    omega (arith, few, lt)
