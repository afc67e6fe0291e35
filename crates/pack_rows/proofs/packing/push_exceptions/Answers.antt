use Rattle.std.proofs.Common.{◌∙◌, ℕ, ap}
use Rattle.std.specs.Prelude.{Vec}
use Rattle.std.specs.declared.alloc.Global.{Global}
use Rattle.pack_rows.proofs.Turns.{columns_kept, columns_same, others_kept, others_same}
use Rattle.pack_rows.proofs.packing.push_exceptions.Goals as goal
use Rattle.pack_rows.proofs.packing.push_exceptions.Goals.{then-entry-default+in_ok-push+in_ok-push-2, else-entry-default}

pub loop-column-preserved : goal.loop-column-preserved
loop-column-preserved c =
    let lt = c.loop-column-test.true in
    let n = c.loop-column.column in
    elim c.if-entry-default.branch [
      | then-entry-default+in_ok-push+in_ok-push-2 w ↦ record {
        columns = ap (λ (v : Vec ℕ Global). v.items) w.columns-is ∙ (w.in_ok-push.ensures.items
            ∙ columns_kept c.args.default n c.args.row.now c.args.columns.now.items c.loop-column.columns.items lt w.if-entry-default.true c.loop-column.invariant.columns);
        entries = ap (λ (v : Vec ℕ Global). v.items) w.entries-is ∙ (w.in_ok-push-2.ensures.items
            ∙ others_kept c.args.default n c.args.row.now c.args.entries.now.items c.loop-column.entries.items lt w.if-entry-default.true c.loop-column.invariant.entries);
      }
      | else-entry-default w ↦ record {
        columns = ap (λ (v : Vec ℕ Global). v.items) w.columns-is
            ∙ columns_same c.args.default n c.args.row.now c.args.columns.now.items c.loop-column.columns.items lt w.if-entry-default.false c.loop-column.invariant.columns;
        entries = ap (λ (v : Vec ℕ Global). v.items) w.entries-is
            ∙ others_same c.args.default n c.args.row.now c.args.entries.now.items c.loop-column.entries.items lt w.if-entry-default.false c.loop-column.invariant.entries;
      }
    ]
