use Rattle.std.proofs.Common.{◌∙◌, ℕ, List, length, slice_get, ap, ap₂, arith}
use Rattle.md_reader.specs.declared.types.Class.{Class}
use Rattle.lr_tables.specs.Statements.{stmt_of}
use Rattle.lr_tables.specs.Leads.{target_in, target_at}
use Rattle.lr_tables.specs.View.{TableView}
use Rattle.lr_tables.proofs.KeepTurns.{kept_rows, has_goto, goes_to, goes_nowhere, goes_past}
use Rattle.lr_tables.proofs.tables.Tables.over.Goals as goal
use Rattle.lr_tables.proofs.tables.Tables.over.Goals.{else-row-len-via-then-row-len+else-column-classes, else-row-len-via-else-row-len}

pub at-requires : goal.at-requires
at-requires c =
    let d = c.self.inside.description in
    let k = c.self.inside.kept in
    let n = k.lists.ok.0 in
    let l = c.len.ensures in
    let lt = c.if-row-len.true in
    let w = ap (λ (x : List Class). length x) c.classes.ensures in
    let few = c.if-column-classes.true in
    has_goto d.rules (stmt_of d.classes) (length d.classes) k c.self.invariant c.number-row.result c.symbol_number-column.result (omega (arith, n, l, lt)) (omega (arith, w, few))

pub returns-then-column-classes : goal.returns-then-column-classes
returns-then-column-classes c =
    let d = c.self.inside.description in
    let k = c.self.inside.kept in
    let n = k.lists.ok.0 in
    let l = c.len.ensures in
    let lt = c.if-row-len.true in
    let w = ap (λ (x : List Class). length x) c.classes.ensures in
    let few = c.if-column-classes.true in
    c.target_of_entry.ensures ∙ (goes_to d.rules (stmt_of d.classes) (length d.classes) k c.self.invariant c.number-row.result c.symbol_number-column.result c.at.result
    (omega (arith, n, l, lt)) (omega (arith, w, few)) c.at.ensures
    ∙ (ap₂ (λ (q s : ℕ). target_in (slice_get (kept_rows d.rules (stmt_of d.classes) (length d.classes) k c.self.invariant) q) s) c.number-row.ensures c.symbol_number-column.ensures
    ∙ ap (λ (t : TableView). target_at t c.args.state c.args.symbol) c.self.view_is))

pub returns-else-row-len : goal.returns-else-row-len
returns-else-row-len c =
    let d = c.self.inside.description in
    let k = c.self.inside.kept in
    let n = k.lists.ok.0 in
    let l = c.len.ensures in
    elim c.else-row-len.branch [
      | else-row-len-via-then-row-len+else-column-classes w ↦
          (let lt = w.if-row-len.true in
          let e = ap (λ (x : List Class). length x) w.classes.ensures in
          let le = w.if-column-classes.false in
          goes_past d.rules (stmt_of d.classes) (length d.classes) k c.self.invariant c.number-row.result c.symbol_number-column.result (omega (arith, n, l, lt)) (omega (arith, e, le)))
      | else-row-len-via-else-row-len w ↦
          (let le = w.if-row-len.false in
          goes_nowhere d.rules (stmt_of d.classes) (length d.classes) k c.self.invariant c.number-row.result c.symbol_number-column.result (omega (arith, n, l, le)))
    ]
    ∙ (ap₂ (λ (q s : ℕ). target_in (slice_get (kept_rows d.rules (stmt_of d.classes) (length d.classes) k c.self.invariant) q) s) c.number-row.ensures c.symbol_number-column.ensures
    ∙ ap (λ (t : TableView). target_at t c.args.state c.args.symbol) c.self.view_is)
