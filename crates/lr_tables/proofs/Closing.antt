-- The item set of a stack's kernel holds exactly the items that are valid for the stack.
use Rattle.std.proofs.Common.{◌≡◌, ◌⊎◌, ℕ, zero, suc, ◌+◌, ◌<◌, List, [], ◌∷◌, ◌++◌, Option, Some, None, Bool, true, false, cond, length, get_or, slice_get}
use Rattle.std.proofs.Common.{replicate, filter, refl, sym, ap, ◌∙◌, subst, inl, inr, ⊎_elim, arith, length-set, true≢false}
use Rattle.std.specs.Prelude.{◌==◌}
use Rattle.std.specs.Option.{option_map, option_map_or}
use Rattle.std.proofs.lemmas.Bool.{eqb-true, eq-eqb, cases_lt}
use Rattle.std.proofs.lemmas.List.{get_or-replicate, get_or_past, length-replicate}
use Rattle.std.proofs.lemmas.Option.{same_Some}
use Rattle.md_reader.specs.declared.types.Rule.{Rule}
use Rattle.md_reader.specs.declared.types.Sym.{Sym}
use Rattle.md_reader.specs.declared.types.Sym.TheVariants as grammar_symbol
use Rattle.lr_tables.specs.declared.item.Item.{Item}
use Rattle.lr_tables.specs.declared.marks.Edge.{Edge}
use Rattle.lr_tables.specs.Symbols.{symbol_number}
use Rattle.lr_tables.specs.Items.{right_at, right_of, left_of, next, start, fresh, advanced, Items, starts, opens, moves}
use Rattle.lr_tables.specs.Grammar.{IsGrammar}
use Rattle.lr_tables.specs.Marks.{rounds}
use Rattle.lr_tables.specs.Sets.{edge_to, first_edge, chains, marked_before, marked_all, opened_from, open_classes, item_set, stands_before, moved}
use Rattle.lr_tables.specs.Kernels.{kernel_at}
use Rattle.lr_tables.proofs.Members.{In, In-left, In-right, In-cases, In-map, map-In, In-filter, filter-In, In-filter_map, filter_map-In, slice_get-In, In-slice_get}
use Rattle.lr_tables.proofs.Marking.{Marked, marked_set, marked_kept, marked_here, rounds_sound, rounds_closed, rounds_kept}
use Rattle.lr_tables.proofs.Symbols_apart.{symbol_number_same}

-- nothing is marked at first
pub none_marked : (n c : ℕ) → Marked (replicate n false) c → ⊥
none_marked n c h =
    ⊎_elim
    (λ lt. true≢false (sym h ∙ get_or-replicate n c false false lt))
    (λ le. true≢false (sym h ∙ get_or_past (replicate n false) c false (let l = length-replicate n false in omega (arith, l, le))))
    (cases_lt c n)

-- an edge from a rule
pub edge_is : (from : ℕ) (o : Option Sym) (e : Edge) → edge_to from o ≡ Some e → (e.from ≡ from) × (o ≡ Some (grammar_symbol.Class e.to))
edge_is from None e h = cc
edge_is from (Some (grammar_symbol.Tok t)) e h = cc
edge_is from (Some (grammar_symbol.Class c)) e h =
    let same : record { from = from; to = c } ≡ e = same_Some _ _ h in
    (sym (ap (λ (x : Edge). x.from) same), ap (λ (x : Edge). Some (grammar_symbol.Class x.to)) same)

module _ (rules : List Rule) (stmt classes : ℕ) (g : IsGrammar rules stmt classes) where
  -- classes before dots are classes
  pub next_within : (i : Item) (c : ℕ) → next rules stmt i ≡ Some (grammar_symbol.Class c) → c < classes
  next_within i c e = by i.rule refl
    where
      two : (k : ℕ) → slice_get (grammar_symbol.Class stmt ∷ grammar_symbol.Tok Rattle.tree_core.specs.declared.token.Tok.TheVariants.End ∷ []) k ≡ Some (grammar_symbol.Class c) → c < classes
      two zero h = let same : stmt ≡ c = cc in subst (λ x. x < classes) same g.start
      two (suc zero) h = cc
      two (suc (suc zero)) h = cc
      two (suc (suc (suc k))) h = cc

      at : (n : ℕ) (o : Option Rule) → slice_get rules n ≡ o → slice_get (right_at o) i.dot ≡ Some (grammar_symbol.Class c) → c < classes
      at n None f h = absurd (none i.dot h)
        where
          none : (k : ℕ) → slice_get [] k ≡ Some (grammar_symbol.Class c) → ⊥
          none zero h = cc
          none (suc k) h = cc
      at n (Some r) f h = g.within n i.dot c r f h

      by : (o : Option ℕ) → i.rule ≡ o → c < classes
      by None f = two i.dot (subst (λ x. slice_get (right_of rules stmt x) i.dot ≡ Some (grammar_symbol.Class c)) f e)
      by (Some n) f = at n (slice_get rules n) refl (subst (λ x. slice_get (right_of rules stmt x) i.dot ≡ Some (grammar_symbol.Class c)) f e)

  -- the marks of a kernel
  before_kept : (o : Option Sym) (m : List Bool) (c : ℕ) → Marked m c → Marked (marked_before o m) c
  before_kept None m c h = h
  before_kept (Some (grammar_symbol.Tok t)) m c h = h
  before_kept (Some (grammar_symbol.Class d)) m c h = marked_kept m d c h

  length-before : (o : Option Sym) (m : List Bool) → length (marked_before o m) ≡ length m
  length-before None m = refl
  length-before (Some (grammar_symbol.Tok t)) m = refl
  length-before (Some (grammar_symbol.Class d)) m = length-set m d true

  length-marked : (k : List Item) (m : List Bool) → length (marked_all rules stmt k m) ≡ length m
  length-marked [] m = refl
  length-marked (i ∷ k) m = length-marked k (marked_before (next rules stmt i) m) ∙ length-before (next rules stmt i) m

  all_kept : (k : List Item) (m : List Bool) (c : ℕ) → Marked m c → Marked (marked_all rules stmt k m) c
  all_kept [] m c h = h
  all_kept (i ∷ k) m c h = all_kept k (marked_before (next rules stmt i) m) c (before_kept (next rules stmt i) m c h)

  all_there : (k : List Item) (m : List Bool) (i : Item) (c : ℕ) → length m ≡ classes → In i k → next rules stmt i ≡ Some (grammar_symbol.Class c) → Marked (marked_all rules stmt k m) c
  all_there [] m i c l at e = absurd at
  all_there (j ∷ k) m i c l at e =
      ⊎_elim
      (λ same. all_kept k (marked_before (next rules stmt j) m) c (subst (λ (o : Option Sym). Marked (marked_before o m) c) (sym (ap (next rules stmt) same ∙ e))
      (marked_here m c (subst (λ n. c < n) (sym l) (next_within i c e)))))
      (λ later. all_there k (marked_before (next rules stmt j) m) i c (length-before (next rules stmt j) m ∙ l) later e)
      at

  all_sound : (k : List Item) (m : List Bool) (c : ℕ) → Marked (marked_all rules stmt k m) c → Marked m c ⊎ ((i : Item) × In i k × (next rules stmt i ≡ Some (grammar_symbol.Class c)))
  all_sound [] m c h = inl h
  all_sound (j ∷ k) m c h =
      ⊎_elim
      (λ a. by (next rules stmt j) refl a)
      (λ b. inr (b.0, inr b.1, b.2))
      (all_sound k (marked_before (next rules stmt j) m) c h)
    where
      by : (o : Option Sym) → next rules stmt j ≡ o → Marked (marked_before o m) c → Marked m c ⊎ ((i : Item) × In i (j ∷ k) × (next rules stmt i ≡ Some (grammar_symbol.Class c)))
      by None e a = inl a
      by (Some (grammar_symbol.Tok t)) e a = inl a
      by (Some (grammar_symbol.Class d)) e a = ⊎_elim (λ s. inr (j, inl refl, e ∙ ap (λ x. Some (grammar_symbol.Class x)) (sym s))) (λ b. inl b) (marked_set m d c a)

  -- the opened items
  opened_there : (rs : List Rule) (m : List Bool) (k n : ℕ) (r : Rule) → slice_get rs n ≡ Some r → Marked m r.left → In (fresh (k + n)) (opened_from k rs m)
  opened_there [] m k zero r e h = cc
  opened_there [] m k (suc n) r e h = cc
  opened_there (q ∷ rs) m k zero r e h =
      let same : q ≡ r = same_Some q r e in
      by (get_or m q.left false) (ap (λ (x : Rule). get_or m x.left false) same ∙ h)
    where
      by : (b : Bool) → b ≡ true → In (fresh (k + zero)) (cond b (fresh k ∷ opened_from (k + 1) rs m) (opened_from (k + 1) rs m))
      by true u = inl (ap fresh (let z : k ≡ k + 0 = omega arith in z))
      by false u = absurd (true≢false (sym u))
  opened_there (q ∷ rs) m k (suc n) r e h =
      by (get_or m q.left false) (subst (λ x. In (fresh x) (opened_from (k + 1) rs m)) (let z : k + 1 + n ≡ k + suc n = omega arith in z) (opened_there rs m (k + 1) n r e h))
    where
      by : (b : Bool) → In (fresh (k + suc n)) (opened_from (k + 1) rs m) → In (fresh (k + suc n)) (cond b (fresh k ∷ opened_from (k + 1) rs m) (opened_from (k + 1) rs m))
      by true u = inr u
      by false u = u

  record Opened (rs : List Rule) (m : List Bool) (k : ℕ) (i : Item) : Type 0 where
    place : ℕ
    rule : Rule
    there : slice_get rs place ≡ Some rule
    marked : Marked m rule.left
    is : i ≡ fresh (k + place)

  opened_later : (q : Rule) (rs : List Rule) (m : List Bool) (k : ℕ) (i : Item) → Opened rs m (k + 1) i → Opened (q ∷ rs) m k i
  opened_later q rs m k i o = record { place = suc o.place; rule = o.rule; there = o.there; marked = o.marked; is = o.is ∙ ap fresh (let z : k + 1 + o.place ≡ k + suc o.place = omega arith in z) }

  opened_case : (q : Rule) (rs : List Rule) (m : List Bool) (k : ℕ) (i : Item) (b : Bool) → get_or m q.left false ≡ b
      → In i (cond b (fresh k ∷ opened_from (k + 1) rs m) (opened_from (k + 1) rs m)) → Opened (q ∷ rs) m k i ⊎ In i (opened_from (k + 1) rs m)
  opened_case q rs m k i true f u = ⊎_elim (λ s. inl (record { place = 0; rule = q; there = refl; marked = f; is = sym s ∙ ap fresh (let z : k ≡ k + 0 = omega arith in z) })) (λ x. inr x) u
  opened_case q rs m k i false f u = inr u

  opened_only : (rs : List Rule) (m : List Bool) (k : ℕ) (i : Item) → In i (opened_from k rs m) → Opened rs m k i
  opened_only [] m k i at = absurd at
  opened_only (q ∷ rs) m k i at = ⊎_elim (λ o. o) (λ u. opened_later q rs m k i (opened_only rs m (k + 1) i u)) (opened_case q rs m k i (get_or m q.left false) refl at)

  length-empty : length (replicate classes false) ≡ classes
  length-empty = length-replicate classes false

  -- an item of the item set before a class has it opened
  pub opens_next : (k : List Item) (i : Item) (c : ℕ) → In i (item_set rules stmt classes (chains rules) k) → next rules stmt i ≡ Some (grammar_symbol.Class c)
      → Marked (open_classes rules stmt classes (chains rules) k) c
  unfolding item_set
  opens_next k i c at e =
      let first = marked_all rules stmt k (replicate classes false) in
      let len : length first ≡ classes = length-marked k (replicate classes false) ∙ length-empty in
      ⊎_elim
      (λ a. rounds_kept classes (chains rules) first c (all_there k (replicate classes false) i c length-empty a e))
      (λ a. let o : Opened rules (rounds classes (chains rules) first) 0 i = opened_only rules (rounds classes (chains rules) first) 0 i a in
      let r : Rule = o.rule in
      let same : i ≡ fresh o.place = o.is ∙ ap fresh (let z : 0 + o.place ≡ o.place = omega arith in z) in
      let is : slice_get r.right 0 ≡ Some (grammar_symbol.Class c) = ap (λ x. slice_get (right_at x) 0) (sym o.there) ∙ (ap (next rules stmt) (sym same) ∙ e) in
      let edge : Edge = record { from = r.left; to = c } in
      let there : In edge (chains rules) = In-filter_map first_edge r edge rules (slice_get-In r rules o.place o.there) (ap (edge_to r.left) is) in
      rounds_closed classes (chains rules) first len edge there o.marked (next_within i c e))
      (In-cases i k (opened_from 0 rules (rounds classes (chains rules) first)) at)

  pub opens_there : (k : List Item) (n c : ℕ) → Marked (open_classes rules stmt classes (chains rules) k) c → left_of rules n ≡ Some c → In (fresh n) (item_set rules stmt classes (chains rules) k)
  unfolding item_set
  opens_there k n c h e = by (slice_get rules n) refl e
    where
      by : (o : Option Rule) → slice_get rules n ≡ o → option_map (λ (r : Rule). r.left) o ≡ Some c → In (fresh n) (k ++ opened_from 0 rules (open_classes rules stmt classes (chains rules) k))
      by None f u = cc
      by (Some r) f u = In-right (fresh n) k (opened_from 0 rules (open_classes rules stmt classes (chains rules) k))
          (subst (λ x. In (fresh x) (opened_from 0 rules (open_classes rules stmt classes (chains rules) k))) (let z : 0 + n ≡ n = omega arith in z)
          (opened_there rules (open_classes rules stmt classes (chains rules) k) 0 n r f (subst (Marked (open_classes rules stmt classes (chains rules) k)) (sym (same_Some r.left c u)) h)))

  pub kernel_there : (k : List Item) (i : Item) → In i k → In i (item_set rules stmt classes (chains rules) k)
  unfolding item_set
  kernel_there k i at = In-left i k (opened_from 0 rules (open_classes rules stmt classes (chains rules) k)) at

  -- the items behind a symbol
  pub moved_there : (X : Sym) (items : List Item) (i : Item) → In i items → next rules stmt i ≡ Some X → In (advanced i) (moved rules stmt (symbol_number X) items)
  unfolding moved
  moved_there X items i at e =
      In-map advanced i (filter (stands_before rules stmt (symbol_number X)) items) (In-filter (stands_before rules stmt (symbol_number X)) i items at
      (ap (λ (o : Option Sym). option_map_or (λ (Y : Sym). symbol_number Y == symbol_number X) o false) e ∙ eq-eqb (symbol_number X) (symbol_number X) refl))

  -- the test that a symbol stands behind the dot
  pub stands_is : (X : Sym) (o : Option Sym) → option_map_or (λ (Y : Sym). symbol_number Y == symbol_number X) o false ≡ true → o ≡ Some X
  stands_is X None e = cc
  stands_is X (Some Y) e = ap Some (symbol_number_same Y X (eqb-true (symbol_number Y) (symbol_number X) e))

  pub moved_only : (X : Sym) (items : List Item) (j : Item) → In j (moved rules stmt (symbol_number X) items) → (i : Item) × In i items × (next rules stmt i ≡ Some X) × (j ≡ advanced i)
  unfolding moved
  moved_only X items j at =
      let m : (i : Item) × In i (filter (stands_before rules stmt (symbol_number X)) items) × (j ≡ advanced i) = map-In advanced j (filter (stands_before rules stmt (symbol_number X)) items) at in
      let f : In m.0 items × (stands_before rules stmt (symbol_number X) m.0 ≡ true) = filter-In (stands_before rules stmt (symbol_number X)) m.0 items m.1 in
      (m.0, f.0, stands_is X (next rules stmt m.0) f.1, m.2)

  -- what a kernel's item set opens is valid where the kernel is
  set_sound : (a : List Sym) (k : List Item) → ((i : Item) → In i k → Items rules stmt a i) → (i : Item) → In i (item_set rules stmt classes (chains rules) k) → Items rules stmt a i
  unfolding item_set
  set_sound a k valid i at =
      let first = marked_all rules stmt k (replicate classes false) in
      ⊎_elim
      (λ x. valid i x)
      (λ x. let o : Opened rules (rounds classes (chains rules) first) 0 i = opened_only rules (rounds classes (chains rules) first) 0 i x in
      let r : Rule = o.rule in
      let stands : (j : Item) × Items rules stmt a j × (next rules stmt j ≡ Some (grammar_symbol.Class r.left)) =
      rounds_sound (λ (c : ℕ). (j : Item) × Items rules stmt a j × (next rules stmt j ≡ Some (grammar_symbol.Class c))) classes (chains rules) first given along r.left o.marked in
      subst (Items rules stmt a) (sym (o.is ∙ ap fresh (let z : 0 + o.place ≡ o.place = omega arith in z))) (opens stands.1 stands.2 (ap (option_map (λ (q : Rule). q.left)) o.there)))
      (In-cases i k (opened_from 0 rules (rounds classes (chains rules) first)) at)
    where
      given : (c : ℕ) → Marked (marked_all rules stmt k (replicate classes false)) c → (j : Item) × Items rules stmt a j × (next rules stmt j ≡ Some (grammar_symbol.Class c))
      given c h = ⊎_elim (λ x. absurd (none_marked classes c x)) (λ x. (x.0, valid x.0 x.1, x.2)) (all_sound k (replicate classes false) c h)

      along : (e : Edge) → In e (chains rules) → ((j : Item) × Items rules stmt a j × (next rules stmt j ≡ Some (grammar_symbol.Class e.from))) → (j : Item) × Items rules stmt a j
          × (next rules stmt j ≡ Some (grammar_symbol.Class e.to))
      along e at p =
          let q : (r : Rule) × In r rules × (first_edge r ≡ Some e) = filter_map-In first_edge e rules at in
          let is : (e.from ≡ q.0.left) × (slice_get q.0.right 0 ≡ Some (grammar_symbol.Class e.to)) = edge_is q.0.left (slice_get q.0.right 0) e q.2 in
          let n : (k : ℕ) × (slice_get rules k ≡ Some q.0) = In-slice_get q.0 rules q.1 in
          (fresh n.0, opens p.1 p.2 (ap (option_map (λ (x : Rule). x.left)) n.1 ∙ ap Some (sym is.0)), ap (λ x. slice_get (right_at x) 0) n.1 ∙ is.1)

  -- nothing opens nothing
  pub set_empty : (k : List Item) (i : Item) → In i (item_set rules stmt classes (chains rules) k) → 0 < length k
  unfolding item_set
  set_empty [] i at =
      let o : Opened rules (open_classes rules stmt classes (chains rules) []) 0 i = opened_only rules (open_classes rules stmt classes (chains rules) []) 0 i at in
      absurd (rounds_sound (λ (c : ℕ). ⊥) classes (chains rules) (replicate classes false) (λ c h. none_marked classes c h) (λ e at h. h) o.rule.left o.marked)
  set_empty (j ∷ k) i at = omega arith

  pub kernel_valid : (a : List Sym) (i : Item) → In i (kernel_at rules stmt classes a) → Items rules stmt a i
  kernel_valid [] i at = ⊎_elim (λ s. subst (Items rules stmt []) s starts) (λ x. absurd x) at
  kernel_valid (X ∷ a) j at =
      let m : (i : Item) × In i (item_set rules stmt classes (chains rules) (kernel_at rules stmt classes a)) × (next rules stmt i ≡ Some X)
      × (j ≡ advanced i) = moved_only X (item_set rules stmt classes (chains rules) (kernel_at rules stmt classes a)) j at in
      moves (set_sound a (kernel_at rules stmt classes a) (λ i x. kernel_valid a i x) m.0 m.1) m.2 m.3

  -- the item set of the stack's kernel holds the valid items and no other
  pub set_valid : (a : List Sym) (i : Item) → In i (item_set rules stmt classes (chains rules) (kernel_at rules stmt classes a)) → Items rules stmt a i
  set_valid a i at = set_sound a (kernel_at rules stmt classes a) (λ j x. kernel_valid a j x) i at

  pub valid_set : {a : List Sym} {i : Item} → Items rules stmt a i → In i (item_set rules stmt classes (chains rules) (kernel_at rules stmt classes a))
  valid_set starts = kernel_there (kernel_at rules stmt classes []) start (inl refl)
  valid_set (opens {a = a} {i = i} {c = c} {n = n} v e l) = opens_there (kernel_at rules stmt classes a) n c (opens_next (kernel_at rules stmt classes a) i c (valid_set v) e) l
  valid_set (moves {a = a} {i = i} {j = j} {X = X} v e s) =
      kernel_there (kernel_at rules stmt classes (X ∷ a)) j (subst (λ x. In x (kernel_at rules stmt classes (X ∷ a))) (sym s)
      (moved_there X (item_set rules stmt classes (chains rules) (kernel_at rules stmt classes a)) i (valid_set v) e))
