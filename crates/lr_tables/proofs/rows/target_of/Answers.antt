use Rattle.std.proofs.Common.{◌∙◌, sym, ap, Some, None, refl}
use Rattle.lr_tables.proofs.Loops.{target_read, not_empty}
use Rattle.lr_tables.proofs.rows.target_of.Goals as goal

pub returns-in-Some : goal.returns-in-Some
returns-in-Some c = ap Some c.of.ensures ∙ target_read c.args.sets.now.keys c.args.kernel.now (Some c.in-Some.number)
    (not_empty c.args.kernel.now _ refl (sym c.is_empty.ensures ∙ c.if-is_empty.false)) c.in-Some.ensures.index

pub returns-in-None : goal.returns-in-None
returns-in-None c = target_read c.args.sets.now.keys c.args.kernel.now None (not_empty c.args.kernel.now _ refl (sym c.is_empty.ensures ∙ c.if-is_empty.false)) c.in-None.ensures.index
