use Rattle.std.proofs.Common.{◌∙◌, ℕ, List, [], ◌∷◌, ◌++◌, length, map, sym, ap, ap₂, subst, arith}
use Rattle.std.specs.Prelude.{Vec}
use Rattle.std.specs.declared.alloc.Global.{Global}
use Rattle.pack_rows.specs.Packed.{AreRows, rows_in, packed}
use Rattle.lr_tables.specs.declared.types.Choice.{Choice}
use Rattle.lr_tables.specs.View.{RowView}
use Rattle.lr_tables.specs.Entries.{own_lists, action_entry, goto_entry}
use Rattle.lr_tables.proofs.Keeping.{length-own}
use Rattle.lr_tables.proofs.KeepTurns.{kept_turn, kept_whole, action_rows, goto_rows, all_are_kept}
use Rattle.lr_tables.proofs.kept.keep.Goals as goal

pub action_entries-requires : goal.action_entries-requires
action_entries-requires c =
    let r = c.row-item.result in
    let forty = (c.requires.each c.loop-row.row-index r c.loop-row-test.true).tokens in
    let same = ap (λ (q : RowView). length q.actions) c.row-item.is in
    let own = ap (λ (x : List (List Choice)). length x) (c.as_slice.ensures.value ∙ (c.in_ok-own.ensures ∙ ap own_lists c.actions.ensures)) in
    let le = length-own r.actions in
    omega (arith, forty, same, own, le)

pub loop-row-preserved : goal.loop-row-preserved
loop-row-preserved c =
    let r = c.row-item.result in
    let l = c.loop-row in
    kept_turn c.args.rows.now l.row-index r c.in_ok-own.own.items c.in_ok-action_entries.field-0 c.in_ok-goto_entries.field-0 l.lists.items _ l.actions.items _ l.gotos.items _
    c.loop-row-test.true c.row-item.is l.invariant (c.in_ok-own.ensures ∙ ap own_lists c.actions.ensures)
    (c.in_ok-action_entries.ensures ∙ ap₂ (λ (ls cs : List (List Choice)). map (action_entry ls) cs) c.as_slice.ensures.value c.actions-in-loop-row.ensures)
    (c.in_ok-goto_entries.ensures ∙ ap (map goto_entry) c.targets.ensures)
    (c.in_ok-push-3.ensures.items ∙ ap (λ (x : List (List Choice)). l.lists.items ++ x ∷ []) c.from_vec.ensures)
    c.in_ok-push.ensures.items c.in_ok-push-2.ensures.items

pub pack-requires : goal.pack-requires
pack-requires c =
    let whole = kept_whole c.args.rows.now c.loop-row.row-index c.loop-row.lists.items c.loop-row.actions.items c.loop-row.gotos.items c.loop-row-test.false c.loop-row.invariant in
    subst AreRows (sym (ap rows_in c.as_slice-2.ensures.value ∙ whole.entries)) (action_rows c.args.rows.now c.requires)

pub pack-requires-2 : goal.pack-requires-2
pack-requires-2 c =
    let whole = kept_whole c.args.rows.now c.loop-row.row-index c.loop-row.lists.items c.loop-row.actions.items c.loop-row.gotos.items c.loop-row-test.false c.loop-row.invariant in
    subst AreRows (sym (ap rows_in c.as_slice-3.ensures.value ∙ whole.targets)) (goto_rows c.args.rows.now c.requires)

pub returns : goal.returns
returns c =
    let whole = kept_whole c.args.rows.now c.loop-row.row-index c.loop-row.lists.items c.loop-row.actions.items c.loop-row.gotos.items c.loop-row-test.false c.loop-row.invariant in
    all_are_kept c.args.rows.now _ c.loop-row.actions.items c.loop-row.gotos.items c.requires whole
    (c.in_ok-actions.ensures ∙ ap (λ (x : List (Vec ℕ Global)). packed (rows_in x)) c.as_slice-2.ensures.value)
    (c.in_ok-gotos.ensures ∙ ap (λ (x : List (Vec ℕ Global)). packed (rows_in x)) c.as_slice-3.ensures.value)
