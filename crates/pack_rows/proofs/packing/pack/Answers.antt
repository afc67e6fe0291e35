use Rattle.std.proofs.Common.{◌≡◌, ◌∙◌, ℕ, ◌+◌, List, [], ◌∷◌, ◌++◌, length, take, sym, ap, subst, arith}
use Rattle.pack_rows.specs.Rows.{columns_from, other_than}
use Rattle.pack_rows.specs.Packed.{rows_in}
use Rattle.pack_rows.proofs.Turns.{IsPackedTo, none_packed, row_packed, rows_more, all_packed, rows_all, row_length}
use Rattle.pack_rows.proofs.packing.pack.Goals as goal

pub loop-items-init : goal.loop-items-init
loop-items-init c = none_packed _ _ _ _ c.new-defaults.ensures.items c.new-starts.ensures.items c.new-columns.ensures.items c.new-entries.ensures.items

pub push_exceptions-requires : goal.push_exceptions-requires
push_exceptions-requires c =
    let l = row_length c.args.rows.now c.loop-items.items-index c.items-item.result c.requires.width c.requires.each c.loop-items-test.true c.items-item.is in
    let e = ap (λ (x : List ℕ). length x) c.as_slice-row.ensures.value in
    let n = c.requires.narrow in
    omega (arith, l, e, n)

pub loop-items-preserved : goal.loop-items-preserved
loop-items-preserved c =
    let rows = rows_in (take c.loop-items.items-index c.args.rows.now) in
    let row = c.as_slice-row.result.now in
    let l = c.loop-items in
    let more : rows_in (take (l.items-index + 1) c.args.rows.now) ≡ rows ++ row ∷ [] =
    rows_more c.args.rows.now l.items-index c.items-item.result c.loop-items-test.true c.items-item.is ∙ ap (λ (x : List ℕ). rows ++ x ∷ []) (sym c.as_slice-row.ensures.value) in
    let n : c.len.result ≡ length l.entries.items = (let k = l.entries.ok.0 in let e = c.len.ensures in omega (arith, k, e)) in
    subst (λ (x : List (List ℕ)). IsPackedTo x c.push.new.self.items c.push-in-loop-items.new.self.items c.push_exceptions.new.columns.items c.push_exceptions.new.entries.items) (sym more)
    (row_packed rows row l.defaults.items l.starts.items l.columns.items l.entries.items _ _ _ _ l.invariant
    (c.in_ok-push.ensures.items ∙ ap (λ (x : ℕ). l.defaults.items ++ x ∷ []) c.default_of-default.ensures)
    (c.in_ok-push-2.ensures.items ∙ ap (λ (x : ℕ). l.starts.items ++ x ∷ []) n)
    (c.in_ok-push_exceptions.ensures.columns ∙ ap (λ (x : ℕ). l.columns.items ++ columns_from x 0 row) c.default_of-default.ensures)
    (c.in_ok-push_exceptions.ensures.entries ∙ ap (λ (x : ℕ). l.entries.items ++ other_than x row) c.default_of-default.ensures))

pub returns : goal.returns
returns c =
    let l = c.loop-items in
    let whole : IsPackedTo (rows_in c.args.rows.now) l.defaults.items l.starts.items l.columns.items l.entries.items =
    subst (λ (x : List (List ℕ)). IsPackedTo x l.defaults.items l.starts.items l.columns.items l.entries.items) (rows_all c.args.rows.now l.items-index c.loop-items-test.false) l.invariant in
    let n : c.len-2.result ≡ length l.entries.items = (let k = l.entries.ok.0 in let e = c.len-2.ensures in omega (arith, k, e)) in
    all_packed (rows_in c.args.rows.now) l.defaults.items l.starts.items l.columns.items l.entries.items _ _ _ _ whole c.from_vec.ensures
    (c.from_vec-2.ensures ∙ (c.in_ok-push-3.ensures.items ∙ ap (λ (x : ℕ). l.starts.items ++ x ∷ []) n))
    c.from_vec-3.ensures c.from_vec-4.ensures
