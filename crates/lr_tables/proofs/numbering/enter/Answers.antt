use Rattle.std.proofs.Common.{◌∙◌, sym, ap}
use Rattle.lr_tables.specs.Numbering.{kernels}
use Rattle.lr_tables.proofs.Loops.{kernels_insert, entered_some, not_empty}
use Rattle.lr_tables.proofs.numbering.enter.Goals as goal

pub returns-in_ok-insert : goal.returns-in_ok-insert
returns-in_ok-insert c =
    let k = c.args.kernel in
    ap kernels c.in_ok-insert.ensures.keys ∙ (kernels_insert c.args.sets.now.keys k
    ∙ sym (entered_some (kernels c.args.sets.now.keys) k.items (not_empty k.items _ k.ok.0 (sym c.is_empty.ensures ∙ c.if-not-is_empty.true))))
