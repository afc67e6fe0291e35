-- One turn of the loop that keeps rows, and what the rows of item sets are kept as.
use Rattle.std.proofs.Common.{◌≡◌, ℕ, ◌+◌, ◌<◌, ◌≤◌, List, [], ◌∷◌, ◌++◌, Option, Some, None, length, get_or, map, take, slice_get}
use Rattle.std.proofs.Common.{refl, sym, ap, ap₂, ◌∙◌, subst, arith}
use Rattle.std.specs.Prelude.{Vec, position}
use Rattle.std.specs.List.{All, range_with_len}
use Rattle.std.specs.declared.alloc.Global.{Global}
use Rattle.std.proofs.lemmas.List.{take_more, take_all, map_push, length-map}
use Rattle.std.proofs.lemmas.List.Elements.{All-same, All-map}
use Rattle.std.proofs.lemmas.Option.{slice_get_within}
use Rattle.pack_rows.specs.Packed.{AreRows, rows_in, packed, IsWithin, HasEntry, IsEntry}
use Rattle.md_reader.specs.declared.types.Rule.{Rule}
use Rattle.lr_tables.specs.declared.item.Item.{Item}
use Rattle.lr_tables.specs.declared.kept.Kept.{Kept}
use Rattle.lr_tables.specs.declared.types.Choice.{Choice}
use Rattle.lr_tables.specs.View.{RowView}
use Rattle.lr_tables.specs.Leads.{target_in, actions_in}
use Rattle.lr_tables.specs.Sets.{chains, item_set, moved}
use Rattle.lr_tables.specs.Numbering.{same_kernel, found}
use Rattle.lr_tables.specs.Rows.{target_of, targets_of, all_follows, row_of}
use Rattle.lr_tables.specs.Built.{IsRows}
use Rattle.lr_tables.specs.Entries.{own_lists, action_entry, action_entries, goto_entry, target_of_entry, goto_entries, IsBelow, IsEven, AreEven}
use Rattle.lr_tables.specs.Kept.{IsKept, rows_to, AreTables}
use Rattle.lr_tables.proofs.RowTurns.{length-targets, length-actions}
use Rattle.lr_tables.proofs.Found.{position_is}
use Rattle.lr_tables.proofs.Keeping.{action_columns, goto_columns, list_found, target_found, target_past_symbols, list_past, target_past_rows}

-- what is kept of the first so many rows
pub record AreKeptTo (rows : List RowView) (lists : List (List (List Choice))) (actions gotos : List (Vec ℕ Global)) : Type 0 where
  pub own : lists ≡ map (λ (r : RowView). own_lists r.actions) rows
  pub entries : rows_in actions ≡ map action_entries rows
  pub targets : rows_in gotos ≡ map goto_entries rows

pub none_kept : (lists : List (List (List Choice))) (actions gotos : List (Vec ℕ Global)) → lists ≡ [] → actions ≡ [] → gotos ≡ [] → AreKeptTo [] lists actions gotos
none_kept lists actions gotos a b c = record { own = a; entries = ap rows_in b; targets = ap rows_in c }

pub row_kept : (rows : List RowView) (r : RowView) (own : List (List Choice)) (a g : Vec ℕ Global) (lists lists' : List (List (List Choice)))
    (actions actions' gotos gotos' : List (Vec ℕ Global)) → AreKeptTo rows lists actions gotos
    → own ≡ own_lists r.actions → a.items ≡ map (action_entry own) r.actions → g.items ≡ map goto_entry r.targets
    → lists' ≡ lists ++ own ∷ [] → actions' ≡ actions ++ a ∷ [] → gotos' ≡ gotos ++ g ∷ [] → AreKeptTo (rows ++ r ∷ []) lists' actions' gotos'
unfolding action_entries goto_entries
row_kept rows r own a g lists lists' actions actions' gotos gotos' h o e t x y z = record {
  own = x ∙ (ap₂ (λ (l : List (List (List Choice))) (m : List (List Choice)). l ++ m ∷ []) h.own o ∙ sym (map_push (λ (q : RowView). own_lists q.actions) rows r));
  entries = ap rows_in y ∙ (map_push (λ (w : Vec ℕ Global). w.items) actions a
      ∙ (ap₂ (λ (l : List (List ℕ)) (m : List ℕ). l ++ m ∷ []) h.entries (e ∙ ap (λ (m : List (List Choice)). map (action_entry m) r.actions) o) ∙ sym (map_push action_entries rows r)));
  targets = ap rows_in z ∙ (map_push (λ (w : Vec ℕ Global). w.items) gotos g
      ∙ (ap₂ (λ (l : List (List ℕ)) (m : List ℕ). l ++ m ∷ []) h.targets t ∙ sym (map_push goto_entries rows r)));
}

-- one row more
pub kept_turn : (rows : List RowView) (i : ℕ) (r : RowView) (own : List (List Choice)) (a g : Vec ℕ Global) (lists lists' : List (List (List Choice)))
    (actions actions' gotos gotos' : List (Vec ℕ Global)) → i < length rows → r ≡ get_or rows i r → AreKeptTo (take i rows) lists actions gotos
    → own ≡ own_lists r.actions → a.items ≡ map (action_entry own) r.actions → g.items ≡ map goto_entry r.targets
    → lists' ≡ lists ++ own ∷ [] → actions' ≡ actions ++ a ∷ [] → gotos' ≡ gotos ++ g ∷ [] → AreKeptTo (take (i + 1) rows) lists' actions' gotos'
kept_turn rows i r own a g lists lists' actions actions' gotos gotos' lt is h o e t x y z =
    subst (λ (q : List RowView). AreKeptTo q lists' actions' gotos') (ap (λ (q : RowView). take i rows ++ q ∷ []) is ∙ sym (take_more rows i r lt))
    (row_kept (take i rows) r own a g lists lists' actions actions' gotos gotos' h o e t x y z)

pub kept_whole : (rows : List RowView) (i : ℕ) (lists : List (List (List Choice))) (actions gotos : List (Vec ℕ Global)) → length rows ≤ i
    → AreKeptTo (take i rows) lists actions gotos → AreKeptTo rows lists actions gotos
kept_whole rows i lists actions gotos le h = subst (λ (q : List RowView). AreKeptTo q lists actions gotos) (take_all i rows le) h

-- entries in rows of one length
pub action_rows : (rows : List RowView) → AreEven rows → AreRows (map action_entries rows)
unfolding action_entries
action_rows rows h = record {
  width = 40;
  narrow = omega arith;
  each = All-map (λ (x : List ℕ). length x ≡ 40) action_entries rows (λ k d lt. length-map (get_or rows k d).actions (action_entry (own_lists (get_or rows k d).actions)) ∙ (h.each k d lt).tokens);
}

pub goto_rows : (rows : List RowView) → AreEven rows → AreRows (map goto_entries rows)
unfolding goto_entries
goto_rows rows h = record {
  width = h.width;
  narrow = (let f = h.few in omega (arith, f));
  each = All-map (λ (x : List ℕ). length x ≡ h.width) goto_entries rows (λ k d lt. length-map (get_or rows k d).targets goto_entry ∙ (h.each k d lt).symbols);
}

pub all_are_kept : (rows : List RowView) (k : Kept) (actions gotos : List (Vec ℕ Global)) → AreEven rows → AreKeptTo rows k.lists.items actions gotos
    → k.actions ≡ packed (rows_in actions) → k.gotos ≡ packed (rows_in gotos) → IsKept rows k
all_are_kept rows k actions gotos even h a g = record {
  lists = h.own;
  actions = a ∙ ap packed h.entries;
  gotos = g ∙ ap packed h.targets;
  action_rows = action_rows rows even;
  goto_rows = goto_rows rows even;
}

-- a kernel's number is one of the item sets'
target_below : (ks : List (List Item)) (k : List Item) → length ks ≤ 4096 → IsBelow (target_of ks k)
target_below ks [] few = tt
target_below ks (i ∷ k) few = by (position (same_kernel (i ∷ k)) ks) refl
  where
    by : (o : Option ℕ) → position (same_kernel (i ∷ k)) ks ≡ o → IsBelow o
    by None e = tt
    by (Some p) e = let lt = slice_get_within ks p (i ∷ k) (position_is ks (i ∷ k) p e) in omega (arith, lt, few)

targets_below : (rules : List Rule) (stmt : ℕ) (items : List Item) (ks : List (List Item)) (n : ℕ) → length ks ≤ 4096 → All IsBelow (targets_of rules stmt items ks n)
unfolding targets_of
targets_below rules stmt items ks n few = All-map IsBelow (λ (m : ℕ). target_of ks (moved rules stmt m items)) (range_with_len 0 n)
    (λ k d lt. target_below ks (moved rules stmt (get_or (range_with_len 0 n) k d) items) few)

row_even : (rules : List Rule) (stmt classes : ℕ) (ks : List (List Item)) (kernel : List Item) → length ks ≤ 4096 → IsEven (40 + classes) (row_of rules stmt classes ks kernel)
unfolding row_of
row_even rules stmt classes ks kernel few =
    let items = item_set rules stmt classes (chains rules) kernel in
    let ts = targets_of rules stmt items ks (40 + classes) in record {
      tokens = length-actions rules (all_follows rules stmt classes 40) kernel ts 40;
      symbols = length-targets rules stmt items ks (40 + classes);
      below = targets_below rules stmt items ks (40 + classes) few;
    }

-- each row of the item sets has the tokens and the symbols, and leads to states
pub rows_even : (rules : List Rule) (stmt classes : ℕ) (rows : List RowView) → IsRows rules stmt classes rows → All (IsEven (40 + classes)) rows
rows_even rules stmt classes rows b =
    let ks = found rules stmt classes (length rows) in
    let few : length ks ≤ 4096 = (let m = b.many in let f = b.few in omega (arith, m, f)) in
    All-same (IsEven (40 + classes)) rows (map (row_of rules stmt classes ks) ks) b.each
    (All-map (IsEven (40 + classes)) (row_of rules stmt classes ks) ks (λ k d lt. row_even rules stmt classes ks (get_or ks k d) few))

pub are_even : (rules : List Rule) (stmt classes : ℕ) (rows : List RowView) → classes ≤ 64 → IsRows rules stmt classes rows → AreEven rows
are_even rules stmt classes rows le b = record { width = 40 + classes; few = omega (arith, le); each = rows_even rules stmt classes rows b }

-- so what is kept of them are the tables
pub are_tables : (rules : List Rule) (stmt classes : ℕ) (rows : List RowView) (k : Kept) → IsRows rules stmt classes rows → IsKept rows k → AreTables rules stmt classes k
unfolding rows_to
are_tables rules stmt classes rows k b h =
    let len : length k.lists.items ≡ length rows = ap (λ (x : List (List (List Choice))). length x) h.lists ∙ length-map rows (λ (r : RowView). own_lists r.actions) in
    let same : rows ≡ rows_to rules stmt classes (length k.lists.items) = b.each ∙ ap (rows_to rules stmt classes) (sym len) in
    record { are_rows = subst (IsRows rules stmt classes) same b; kept = subst (λ (x : List RowView). IsKept x k) same h }

-- what the kept tables answer
module _ (rules : List Rule) (stmt classes : ℕ) (k : Kept) (h : AreTables rules stmt classes k) where
  abbrev pub kept_rows : List RowView
  kept_rows = rows_to rules stmt classes (length k.lists.items)

  even : All (IsEven (40 + classes)) kept_rows
  even = rows_even rules stmt classes kept_rows h.are_rows

  none : RowView
  none = record { targets = []; actions = [] }

  pub length-kept : length k.lists.items ≡ length kept_rows
  length-kept = ap (λ (x : List (List (List Choice))). length x) h.kept.lists ∙ length-map kept_rows (λ (r : RowView). own_lists r.actions)

  actions_within : (q s : ℕ) → q < length k.lists.items → s < 40 → IsWithin (map action_entries kept_rows) k.actions q s
  actions_within q s lt few =
      let l = length-kept in
      let m = length-map kept_rows action_entries in
      let w = action_columns kept_rows (40 + classes) even none q (omega (arith, l, lt)) in
      record { are_rows = h.kept.action_rows; is = h.kept.actions; row_in = omega (arith, l, m, lt); column_in = omega (arith, w, few) }

  gotos_within : (q s : ℕ) → q < length k.lists.items → s < 40 + classes → IsWithin (map goto_entries kept_rows) k.gotos q s
  gotos_within q s lt few =
      let l = length-kept in
      let m = length-map kept_rows goto_entries in
      let w = goto_columns kept_rows (40 + classes) even none q (omega (arith, l, lt)) in
      record { are_rows = h.kept.goto_rows; is = h.kept.gotos; row_in = omega (arith, l, m, lt); column_in = omega (arith, w, few) }

  pub has_action : (q s : ℕ) → q < length k.lists.items → s < 40 → HasEntry k.actions q s
  has_action q s lt few = (map action_entries kept_rows, actions_within q s lt few)

  pub has_goto : (q s : ℕ) → q < length k.lists.items → s < 40 + classes → HasEntry k.gotos q s
  has_goto q s lt few = (map goto_entries kept_rows, gotos_within q s lt few)

  pub choices_found : (q s x : ℕ) → q < length k.lists.items → s < 40 → IsEntry k.actions q s x
      → get_or (get_or k.lists.items q []) x [] ≡ actions_in (slice_get kept_rows q) s
  choices_found q s x lt few e =
      let l = length-kept in
      ap₂ (λ (ls : List (List (List Choice))) (n : ℕ). get_or (get_or ls q []) n []) h.kept.lists (e (map action_entries kept_rows) (actions_within q s lt few))
      ∙ list_found kept_rows (40 + classes) even none q s (omega (arith, l, lt)) few

  pub no_choices : (q s : ℕ) → length k.lists.items ≤ q → [] ≡ actions_in (slice_get kept_rows q) s
  no_choices q s le = sym (list_past kept_rows q s (let l = length-kept in omega (arith, l, le)))

  pub goes_to : (q s x : ℕ) → q < length k.lists.items → s < 40 + classes → IsEntry k.gotos q s x → target_of_entry x ≡ target_in (slice_get kept_rows q) s
  goes_to q s x lt few e =
      let l = length-kept in
      ap target_of_entry (e (map goto_entries kept_rows) (gotos_within q s lt few)) ∙ target_found kept_rows (40 + classes) even none q s (omega (arith, l, lt)) few

  pub goes_nowhere : (q s : ℕ) → length k.lists.items ≤ q → None ≡ target_in (slice_get kept_rows q) s
  goes_nowhere q s le = sym (target_past_rows kept_rows q s (let l = length-kept in omega (arith, l, le)))

  pub goes_past : (q s : ℕ) → q < length k.lists.items → 40 + classes ≤ s → None ≡ target_in (slice_get kept_rows q) s
  goes_past q s lt le = sym (target_past_symbols kept_rows (40 + classes) even none q s (let l = length-kept in omega (arith, l, lt)) le)
