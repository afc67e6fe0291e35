use Rattle.std.proofs.Common.{◌∙◌, ℕ, ap, sym, get_or}
use Rattle.std.proofs.lemmas.List.Sums.{fold_more}
use Rattle.pack_rows.specs.Rows.{oftener}
use Rattle.pack_rows.proofs.packing.default_of.Goals as goal

pub loop-entry-preserved : goal.loop-entry-preserved
loop-entry-preserved c = c.oftener-best.ensures ∙ (ap (λ (x : ℕ). oftener c.args.row.now x (get_or c.args.row.now c.loop-entry.entry-index 0)) c.loop-entry.invariant
    ∙ sym (fold_more (oftener c.args.row.now) (get_or c.args.row.now 0 0) c.args.row.now c.loop-entry.entry-index 0 c.loop-entry-test.true))
