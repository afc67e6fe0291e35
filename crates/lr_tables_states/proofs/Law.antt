-- Stacks that lead to states, and states that stacks lead to.
use Rattle.std.proofs.Common.{◌≡◌, ℕ, zero, suc, ◌+◌, ◌<◌, List, [], ◌∷◌, Option, Some, length, slice_get, refl, sym, ap, ◌∙◌, subst, arith}
use Rattle.std.specs.Prelude.{position}
use Rattle.std.proofs.lemmas.Option.{slice_get_within, same_Some, none-some}
use Rattle.gg_base.proofs.Facts.{slice_some}
use Rattle.md_reader.specs.declared.types.Rule.{Rule}
use Rattle.md_reader.specs.declared.types.Sym.{Sym}
use Rattle.md_reader.specs.State.{Content}
use Rattle.lr_tables.specs.declared.item.Item.{Item}
use Rattle.lr_tables.specs.Symbols.{symbol_number}
use Rattle.lr_tables.specs.Items.{advanced, Items, starts, opens, moves}
use Rattle.lr_tables.specs.Grammar.{IsGrammar}
use Rattle.lr_tables.specs.Statements.{stmt_of}
use Rattle.lr_tables.specs.Sets.{chains, item_set}
use Rattle.lr_tables.specs.Kernels.{kernel_at}
use Rattle.lr_tables.specs.Numbering.{same_kernel, found}
use Rattle.lr_tables.specs.View.{RowView, TableView}
use Rattle.lr_tables.specs.Built.{IsRows}
use Rattle.lr_tables.specs.Leads.{target_in, target_at, Leads, nowhere, further}
use Rattle.lr_tables.proofs.Members.{In, slice_get-In}
use Rattle.lr_tables.proofs.Validity.{is_grammar}
use Rattle.lr_tables.proofs.Closing.{kernel_valid, set_valid, valid_set, moved_there}
use Rattle.lr_tables.proofs.Order.{kernel_in, kernel_sorted, set_kernel, sorted_same}
use Rattle.lr_tables.proofs.Found.{Apart, position_there, head_in, in_some, found_reached, found_apart, found_complete, symbol_within}
use Rattle.lr_tables.proofs.Loops.{target_some}
use Rattle.lr_tables.proofs.Law.{leads_kernel, row_at, target_is}
use Rattle.lr_tables.specs.Over.{SameItems}
use Rattle.lr_tables_states.specs.States.{StatesAreItemSets}

-- what stands twice nowhere stands at one place
one_place : (ks : List (List Item)) → Apart ks → (q p : ℕ) (k : List Item) → slice_get ks q ≡ Some k → slice_get ks p ≡ Some k → q ≡ p
one_place [] h q p k e f = absurd (none-some k e)
one_place (l ∷ ks) h zero zero k e f = refl
one_place (l ∷ ks) h zero (suc p) k e f = absurd (h.0 (subst (λ (x : List Item). In x ks) (sym (same_Some l k e)) (slice_get-In k ks p f)))
one_place (l ∷ ks) h (suc q) zero k e f = absurd (h.0 (subst (λ (x : List Item). In x ks) (sym (same_Some l k f)) (slice_get-In k ks q e)))
one_place (l ∷ ks) h (suc q) (suc p) k e f = ap suc (one_place ks h.1 q p k e f)

module _ (rules : List Rule) (stmt classes : ℕ) (g : IsGrammar rules stmt classes) (content : Content) (rows : List RowView) (b : IsRows rules stmt classes rows) where
  abbrev table : TableView
  table = record { content = content; rows = rows }

  abbrev ks : List (List Item)
  ks = found rules stmt classes (length rows)

  abbrev kernel : List Sym → List Item
  kernel a = kernel_at rules stmt classes a

  abbrev set : List Item → List Item
  set k = item_set rules stmt classes (chains rules) k

  kernel_of : (a : List Sym) (q : ℕ) → Leads table a q → slice_get ks q ≡ Some (kernel a)
  kernel_of a q l = leads_kernel rules stmt classes g content rows b l

  -- where an item's dot goes over a symbol, the stack with it leads on
  leads_next : (a : List Sym) (q : ℕ) (X : Sym) → Leads table a q → 0 < length (kernel (X ∷ a)) → symbol_number X < 40 + classes → (p : ℕ) × Leads table (X ∷ a) p
  leads_next a q X l some lt =
      let next = kernel (X ∷ a) in
      let p : (n : ℕ) × (position (same_kernel next) ks ≡ Some n) = position_there ks next (found_complete rules stmt classes g (length rows) (let m = b.many in omega (arith, m)) (X ∷ a) some) in
      let e : target_at table q X ≡ Some p.0 =
      ap (λ (o : Option RowView). target_in o (symbol_number X)) (row_at rules stmt classes g content rows b q (kernel a) (kernel_of a q l))
      ∙ (target_is rules stmt classes g content rows b (kernel a) (symbol_number X) lt ∙ (target_some ks next some ∙ p.1)) in
      (p.0, further l e)

  states : {a : List Sym} {i : Item} → Items rules stmt a i → (q : ℕ) × Leads table a q
  states starts = (0, nowhere)
  states (opens h before left) = states h
  states (moves {a = a} {i = i} {X = X} h before e) =
      let s = states h in
      let next = kernel (X ∷ a) in
      let inside : In (advanced i) next = moved_there rules stmt classes g X (set (kernel a)) i (valid_set rules stmt classes g h) before in
      leads_next a s.0 X s.1 (in_some next (advanced i) inside) (symbol_within rules stmt classes g i X before)

  place_same : (q p : ℕ) (k : List Item) → slice_get ks q ≡ Some k → slice_get ks p ≡ Some k → q ≡ p
  place_same q p k e f = one_place ks (found_apart rules stmt classes g (length rows)) q p k e f

  -- a stack, the state to which it leads, and an item
  pub record Stack (q : ℕ) : Type 0 where
    pub stack : List Sym
    pub leads : Leads table stack q
    pub item : Item
    pub valid : Items rules stmt stack item

  stack_of : (q : ℕ) → q < length rows → Stack q
  stack_of q lt =
      let k = slice_some ks q (let m = b.many in omega (arith, m, lt)) in
      let r = found_reached rules stmt classes g (length rows) k.0 (slice_get-In k.0 ks q k.1) in
      let i : (i : Item) × In i (kernel r.stack) = head_in (kernel r.stack) (subst (λ (x : List Item). 0 < length x) (sym r.leads) r.some) in
      let valid = kernel_valid rules stmt classes g r.stack i.0 i.1 in
      let s = states valid in
      let same : s.0 ≡ q = place_same s.0 q k.0 (kernel_of r.stack s.0 s.1 ∙ ap Some r.leads) k.1 in
      record { stack = r.stack; leads = subst (Leads table r.stack) same s.1; item = i.0; valid = valid }

  has_row : (a : List Sym) (q : ℕ) → Leads table a q → q < length rows
  has_row a q l = (let lt = slice_get_within ks q (kernel a) (kernel_of a q l) in let m = b.many in omega (arith, m, lt))

  -- the items of one stack's kernel are valid for another with the same items
  kernel_moved : (a c : List Sym) → SameItems rules stmt a c → (i : Item) → In i (kernel a) → In i (kernel c)
  kernel_moved a c h i at = set_kernel rules stmt classes (kernel c) i (valid_set rules stmt classes g ((h i).0 (kernel_valid rules stmt classes g a i at))) (kernel_in rules stmt classes a i at)

  turned : (a c : List Sym) → SameItems rules stmt a c → SameItems rules stmt c a
  turned a c h i = ((h i).1, (h i).0)

  kernel_same : (a c : List Sym) → SameItems rules stmt a c → kernel a ≡ kernel c
  kernel_same a c h = sorted_same (kernel a) (kernel c) (kernel_sorted rules stmt classes a) (kernel_sorted rules stmt classes c) (kernel_moved a c h) (kernel_moved c a (turned a c h))

  items_moved : (a c : List Sym) → kernel a ≡ kernel c → (i : Item) → Items rules stmt a i → Items rules stmt c i
  items_moved a c e i h = set_valid rules stmt classes g c i (subst (λ (k : List Item). In i (set k)) e (valid_set rules stmt classes g h))

  same_items : (a c : List Sym) (q p : ℕ) → Leads table a q → Leads table c p → q ≡ p → SameItems rules stmt a c
  same_items a c q p l m e i =
      let k : kernel a ≡ kernel c = same_Some (kernel a) (kernel c) (sym (kernel_of a q l) ∙ (ap (slice_get ks) e ∙ kernel_of c p m)) in
      (items_moved a c k i, items_moved c a (sym k) i)

  same_state : (a c : List Sym) (q p : ℕ) → Leads table a q → Leads table c p → SameItems rules stmt a c → q ≡ p
  same_state a c q p l m h = place_same q p (kernel a) (kernel_of a q l) (kernel_of c p m ∙ ap Some (sym (kernel_same a c h)))

pub states_are_item_sets : StatesAreItemSets
states_are_item_sets t valid numbered =
    let rules = t.content.rules in
    let stmt = stmt_of t.content.classes in
    let classes = length t.content.classes in
    let g = is_grammar t.content valid in
    record {
      stacks = λ q lt. let s = stack_of rules stmt classes g t.content t.rows numbered q lt in record { stack = s.stack; leads = s.leads; item = s.item; valid = s.valid };
      states = λ a i h. states rules stmt classes g t.content t.rows numbered h;
      rows = has_row rules stmt classes g t.content t.rows numbered;
      same = λ a c q p l m. (same_items rules stmt classes g t.content t.rows numbered a c q p l m, same_state rules stmt classes g t.content t.rows numbered a c q p l m);
    }
