-- The tables' answers are those of the stacks.
use Rattle.std.proofs.Common.{◌≡◌, ℕ, zero, suc, ◌+◌, ◌≤◌, ◌<◌, List, [], ◌∷◌, Option, Some, None, Bool, true, false, cond, length, get_or, map, slice_get}
use Rattle.std.proofs.Common.{refl, sym, ap, ◌∙◌, subst, inl, inr, ⊎_elim, arith}
use Rattle.std.specs.Prelude.{◌==◌, ◌&&◌, AllPairs, position}
use Rattle.std.specs.List.{filter_map, cons_option, range_with_len}
use Rattle.std.specs.Option.{option_map, option_and_then}
use Rattle.std.proofs.lemmas.List.FromFn.{get_or-map-range_with_len, length-map-range_with_len}
use Rattle.std.proofs.lemmas.List.{get_or_past}
use Rattle.std.proofs.lemmas.Option.{slice_get-map, same_Some, none-some}
use Rattle.std.proofs.lemmas.Bool.{cases_lt, eqb-true, eqb-false, eq-eqb, and_parts, and_from}
use Rattle.tree_core.specs.declared.token.Tok.{Tok}
use Rattle.tree_core.specs.declared.token.Tok.TheVariants as tok
use Rattle.md_reader.specs.declared.types.Rule.{Rule}
use Rattle.md_reader.specs.declared.types.Sym.{Sym}
use Rattle.md_reader.specs.declared.types.Sym.TheVariants as grammar_symbol
use Rattle.md_reader.specs.State.{Content}
use Rattle.lr_tables.specs.declared.item.Item.{Item}
use Rattle.lr_tables.specs.declared.types.Choice.{Choice}
use Rattle.lr_tables.specs.declared.types.Choice.TheVariants as choice
use Rattle.lr_tables.specs.Symbols.{number, symbol_number}
use Rattle.lr_tables.specs.Items.{right_of, right_at, next, start, advanced, Items}
use Rattle.lr_tables.specs.Grammar.{IsGrammar}
use Rattle.lr_tables.specs.Sets.{chains, item_set, moved}
use Rattle.lr_tables.specs.Kernels.{kernel_at}
use Rattle.lr_tables.specs.Looking.{follows}
use Rattle.lr_tables.specs.Numbering.{same_kernel, found}
use Rattle.lr_tables.specs.Rows.{target_of, targets_of, reduction_at, reduction, reductions, cell, actions_of, all_follows, row_of}
use Rattle.lr_tables.specs.View.{RowView}
use Rattle.lr_tables.specs.Built.{IsRows}
use Rattle.lr_tables.specs.Leads.{target_in, target_at, actions_in, actions_at, Leads, nowhere, further}
use Rattle.lr_tables.specs.Candidates.{StandsBefore, MayReduce, GoesFirst, AreReductions, Candidates, accepts, shifts, reduces, Goes}
use Rattle.lr_tables.proofs.Members.{In, In-Contains, Contains-In, In-filter_map, filter_map-In}
use Rattle.lr_tables.proofs.Symbols_apart.{number-below, number_same}
use Rattle.lr_tables.proofs.Marking.{Marked}
use Rattle.lr_tables.proofs.Closing.{kernel_valid, set_valid, valid_set, moved_there, moved_only}
use Rattle.lr_tables.proofs.Following.{follow_sound, follow_complete}
use Rattle.lr_tables.proofs.Order.{RuleBefore, Before, Each, Each-In, Sorted, kernel_sorted, set_kernel}
use Rattle.lr_tables.proofs.Found.{prefix_get, found_prefix, found_complete, position_there, position_is, head_in, in_some, symbol_within}
use Rattle.lr_tables.proofs.Loops.{target_some}

-- a reduction's rule
record Reduces (rules : List Rule) (follow : List Bool) (i : Item) (n : ℕ) : Type 0 where
  rule : Rule
  there : slice_get rules n ≡ Some rule
  is : i.rule ≡ Some n
  complete : i.dot ≡ length rule.right
  behind : Marked follow rule.left

reduction_is : (rules : List Rule) (follow : List Bool) (i : Item) (n : ℕ) → reduction rules follow i ≡ Some n → Reduces rules follow i n
reduction_is rules follow i n e = by i.rule refl e
  where
    test : (r : Rule) (m : ℕ) (b : Bool) → ((i.dot == length r.right) && get_or follow r.left false) ≡ b → cond b (Some m) None ≡ Some n
        → ((i.dot == length r.right) && get_or follow r.left false) ≡ true
    test r m true f h = f
    test r m false f h = absurd (none-some n h)

    number_is : (m : ℕ) (b : Bool) → cond b (Some m) None ≡ Some n → m ≡ n
    number_is m true h = same_Some m n h
    number_is m false h = absurd (none-some n h)

    at : (m : ℕ) → i.rule ≡ Some m → (o : Option Rule) → slice_get rules m ≡ o → reduction_at follow m i.dot o ≡ Some n → Reduces rules follow i n
    at m f None g h = absurd (none-some n h)
    at m f (Some r) g h =
        let t = and_parts (i.dot == length r.right) (get_or follow r.left false) (test r m ((i.dot == length r.right) && get_or follow r.left false) refl h) in
        let same : m ≡ n = number_is m ((i.dot == length r.right) && get_or follow r.left false) h in
        record { rule = r; there = subst (λ x. slice_get rules x ≡ Some r) same g; is = f ∙ ap Some same; complete = eqb-true i.dot (length r.right) t.0; behind = t.1 }

    by : (o : Option ℕ) → i.rule ≡ o → option_and_then (λ (m : ℕ). reduction_at follow m i.dot (slice_get rules m)) o ≡ Some n → Reduces rules follow i n
    by None f h = absurd (none-some n h)
    by (Some m) f h = at m f (slice_get rules m) refl h

reduction_there : (rules : List Rule) (follow : List Bool) (n : ℕ) (r : Rule) → slice_get rules n ≡ Some r → Marked follow r.left
    → reduction rules follow (record { rule = Some n; dot = length r.right }) ≡ Some n
reduction_there rules follow n r e h =
    ap (reduction_at follow n (length r.right)) e ∙ ap (λ b. cond b (Some n) None)
    (and_from (length r.right == length r.right) (get_or follow r.left false) (eq-eqb (length r.right) (length r.right) refl) h)

-- the rules of the reductions
rules_of : List Rule → List Bool → List Item → List ℕ
rules_of rules follow kernel = filter_map (reduction rules follow) kernel

reductions_are : (rules : List Rule) (follow : List Bool) (kernel : List Item) → reductions rules follow kernel ≡ map choice.Reduce (rules_of rules follow kernel)
unfolding rules_of
reductions_are rules follow [] = refl
reductions_are rules follow (i ∷ kernel) = by (reduction rules follow i) (reductions_are rules follow kernel)
  where
    by : (o : Option ℕ) → reductions rules follow kernel ≡ map choice.Reduce (filter_map (reduction rules follow) kernel)
        → cons_option (option_map choice.Reduce o) (reductions rules follow kernel) ≡ map choice.Reduce (cons_option o (filter_map (reduction rules follow) kernel))
    by None e = e
    by (Some n) e = ap (λ (l : List Choice). choice.Reduce n ∷ l) e

-- the order of the rules is that of the kernel
Pairs : (ℕ → ℕ → Type 0) → List ℕ → Type 0
Pairs R [] = Unit {0}
Pairs R (n ∷ ns) = Each (R n) ns × Pairs R ns

pairs_all : (R : ℕ → ℕ → Type 0) (ns : List ℕ) → Pairs R ns → AllPairs R ns
unfolding Pairs
pairs_all R [] h = λ i j d lt le. absurd (omega (arith, le))
pairs_all R (n ∷ ns) h = λ i j d lt le. by i j d lt le (pairs_all R ns h.1)
  where
    at : (l : List ℕ) (j d : ℕ) → j < length l → In (get_or l j d) l
    at [] j d le = absurd (omega arith)
    at (m ∷ l) zero d le = inl refl
    at (m ∷ l) (suc j) d le = inr (at l j d (omega (arith, le)))

    by : (i j d : ℕ) → i < j → j < length (n ∷ ns) → AllPairs R ns → R (get_or (n ∷ ns) i d) (get_or (n ∷ ns) j d)
    by zero zero d lt le ih = absurd (omega arith)
    by zero (suc j) d lt le ih = Each-In (R n) ns (get_or ns j d) h.0 (at ns j d (omega (arith, le)))
    by (suc i) zero d lt le ih = absurd (omega arith)
    by (suc i) (suc j) d lt le ih = ih i j d (omega (arith, lt)) (omega (arith, le))

size_is : (rules : List Rule) (stmt n : ℕ) (r : Rule) → slice_get rules n ≡ Some r → length (right_of rules stmt (Some n)) ≡ length r.right
size_is rules stmt n r e = ap (λ (o : Option Rule). length (right_at o)) e

first_of : (rules : List Rule) (stmt : ℕ) (follow : List Bool) (i j : Item) (m n : ℕ) → Before i j → Reduces rules follow i m → Reduces rules follow j n → GoesFirst rules stmt m n
first_of rules stmt follow i j m n b p q =
    let sp = size_is rules stmt m p.rule p.there in
    let sq = size_is rules stmt n q.rule q.there in
    let cp = p.complete in
    let cq = q.complete in
    ⊎_elim
    (λ lt. inl (omega (arith, lt, sp, sq, cp, cq)))
    (λ x. let e = x.0 in inr (omega (arith, e, sp, sq, cp, cq), subst (λ (o : Option ℕ). RuleBefore o (Some n)) p.is (subst (λ (o : Option ℕ). RuleBefore i.rule o) q.is x.1)))
    b

rules_ordered : (rules : List Rule) (stmt : ℕ) (follow : List Bool) (kernel : List Item) → Sorted kernel → Pairs (GoesFirst rules stmt) (rules_of rules follow kernel)
unfolding rules_of Pairs
rules_ordered rules stmt follow [] h = tt
rules_ordered rules stmt follow (i ∷ kernel) h = by (reduction rules follow i) refl (rules_ordered rules stmt follow kernel h.1)
  where
    each : (m : ℕ) → Reduces rules follow i m → (ns : List ℕ) → ((n : ℕ) → In n ns → In n (filter_map (reduction rules follow) kernel)) → Each (GoesFirst rules stmt m) ns
    each m p [] f = tt
    each m p (n ∷ ns) f =
        let q : (j : Item) × In j kernel × (reduction rules follow j ≡ Some n) = filter_map-In (reduction rules follow) n kernel (f n (inl refl)) in
        (first_of rules stmt follow i q.0 m n (Each-In (Before i) kernel q.0 h.0 q.1) p (reduction_is rules follow q.0 n q.2), each m p ns (λ x a. f x (inr a)))

    by : (o : Option ℕ) → reduction rules follow i ≡ o → Pairs (GoesFirst rules stmt) (filter_map (reduction rules follow) kernel)
        → Pairs (GoesFirst rules stmt) (cons_option o (filter_map (reduction rules follow) kernel))
    by None e ih = ih
    by (Some m) e ih = (each m (reduction_is rules follow i m e) (filter_map (reduction rules follow) kernel) (λ n a. a), ih)

module _ (rules : List Rule) (stmt classes : ℕ) (g : IsGrammar rules stmt classes) (content : Content) (rows : List RowView) (b : IsRows rules stmt classes rows) where
  -- the row of a state
  pub row_at : (q : ℕ) (k : List Item) → slice_get (found rules stmt classes (length rows)) q ≡ Some k → slice_get rows q ≡ Some (row_of rules stmt classes (found rules stmt classes (length rows)) k)
  row_at q k e = ap (λ (x : List RowView). slice_get x q) b.each ∙ (slice_get-map (row_of rules stmt classes (found rules stmt classes (length rows)))
      (found rules stmt classes (length rows)) q ∙ ap (option_map (row_of rules stmt classes (found rules stmt classes (length rows)))) e)

  -- where a kernel's row leads
  pub target_is : (k : List Item) (s : ℕ) → s < 40 + classes → get_or (row_of rules stmt classes (found rules stmt classes (length rows)) k).targets s None
      ≡ target_of (found rules stmt classes (length rows)) (moved rules stmt s (item_set rules stmt classes (chains rules) k))
  unfolding row_of targets_of
  target_is k s lt = get_or-map-range_with_len (λ (m : ℕ). target_of (found rules stmt classes (length rows)) (moved rules stmt m (item_set rules stmt classes (chains rules) k))) 0
      (40 + classes) s s None lt (omega arith)

  target_past : (k : List Item) (s : ℕ) → 40 + classes ≤ s → get_or (row_of rules stmt classes (found rules stmt classes (length rows)) k).targets s None ≡ None
  unfolding row_of targets_of
  target_past k s le =
      let F = λ (m : ℕ). target_of (found rules stmt classes (length rows)) (moved rules stmt m (item_set rules stmt classes (chains rules) k)) in
      let l : length (map F (range_with_len 0 (40 + classes))) ≡ 40 + classes = length-map-range_with_len F 0 (40 + classes) in
      get_or_past (map F (range_with_len 0 (40 + classes))) s None (omega (arith, l, le))

  target_kernel : (k : List Item) (p : ℕ) → target_of (found rules stmt classes (length rows)) k ≡ Some p → (0 < length k) × (slice_get (found rules stmt classes (length rows)) p ≡ Some k)
  target_kernel [] p e = absurd (none-some p e)
  target_kernel (i ∷ k) p e = (omega arith, position_is (found rules stmt classes (length rows)) (i ∷ k) p e)

  -- a state over a symbol, from the state of a stack
  over : (a : List Sym) (q p : ℕ) (X : Sym) → slice_get (found rules stmt classes (length rows)) q ≡ Some (kernel_at rules stmt classes a)
      → target_at (record { content = content; rows = rows }) q X ≡ Some p → (0 < length (kernel_at rules stmt classes (X ∷ a)))
      × (slice_get (found rules stmt classes (length rows)) p ≡ Some (kernel_at rules stmt classes (X ∷ a)))
  over a q p X at e =
      let k = kernel_at rules stmt classes a in
      let f : get_or (row_of rules stmt classes (found rules stmt classes (length rows)) k).targets (symbol_number X) None
      ≡ Some p = ap (λ (o : Option RowView). target_in o (symbol_number X)) (sym (row_at q k at)) ∙ e in
      ⊎_elim
      (λ lt. target_kernel (kernel_at rules stmt classes (X ∷ a)) p (sym (target_is k (symbol_number X) lt) ∙ f))
      (λ ge. absurd (none-some p (sym (target_past k (symbol_number X) ge) ∙ f)))
      (cases_lt (symbol_number X) (40 + classes))

  first_state : slice_get (found rules stmt classes (length rows)) 0 ≡ Some (start ∷ [])
  unfolding found
  first_state = prefix_get (found rules stmt classes 0) (found rules stmt classes (length rows)) 0 (start ∷ []) (found_prefix rules stmt classes g 0 (length rows) (omega arith)) refl

  pub leads_kernel : {a : List Sym} {q : ℕ} → Leads (record { content = content; rows = rows }) a q → slice_get (found rules stmt classes (length rows)) q ≡ Some (kernel_at rules stmt classes a)
  leads_kernel nowhere = first_state
  leads_kernel (further {a = a} {q = q} {p = p} {X = X} l e) = (over a q p X (leads_kernel l) e).1

  -- where an item stands before the symbol, the state leads on
  pub leads_on : (a : List Sym) (q : ℕ) (X : Sym) → Leads (record { content = content; rows = rows }) a q → StandsBefore rules stmt a X → (p : ℕ)
      × (target_at (record { content = content; rows = rows }) q X ≡ Some p)
  leads_on a q X l s =
      let k = kernel_at rules stmt classes a in
      let next_kernel = kernel_at rules stmt classes (X ∷ a) in
      let at : slice_get (found rules stmt classes (length rows)) q ≡ Some k = leads_kernel l in
      let there : In (advanced s.item) next_kernel = moved_there rules stmt classes g X (item_set rules stmt classes (chains rules) k) s.item (valid_set rules stmt classes g s.valid) s.before in
      let some : 0 < length next_kernel = in_some next_kernel (advanced s.item) there in
      let p : (n : ℕ) × (position (same_kernel next_kernel) (found rules stmt classes (length rows)) ≡ Some n) =
      position_there (found rules stmt classes (length rows)) next_kernel (found_complete rules stmt classes g (length rows) (let m = b.many in omega (arith, m)) (X ∷ a) some) in
      let lt : symbol_number X < 40 + classes = symbol_within rules stmt classes g s.item X s.before in (
        p.0,
        ap (λ (o : Option RowView). target_in o (symbol_number X)) (row_at q k at)
            ∙ (target_is k (symbol_number X) lt ∙ (target_some (found rules stmt classes (length rows)) next_kernel some ∙ p.1)),
      )

  pub stands_from : (a : List Sym) (q p : ℕ) (X : Sym) → Leads (record { content = content; rows = rows }) a q → target_at (record { content = content; rows = rows }) q X ≡ Some p
      → StandsBefore rules stmt a X
  stands_from a q p X l e =
      let o = over a q p X (leads_kernel l) e in
      let h : (i : Item) × In i (kernel_at rules stmt classes (X ∷ a)) = head_in (kernel_at rules stmt classes (X ∷ a)) o.0 in
      let m : (i : Item) × In i (item_set rules stmt classes (chains rules) (kernel_at rules stmt classes a)) × (next rules stmt i ≡ Some X)
      × (h.0 ≡ advanced i) = moved_only rules stmt classes g X (item_set rules stmt classes (chains rules) (kernel_at rules stmt classes a)) h.0 h.1 in
      record { item = m.0; valid = set_valid rules stmt classes g a m.0 m.1; before = m.2 }

  pub goes : (a : List Sym) (q c : ℕ) → Leads (record { content = content; rows = rows }) a q
      → Goes rules stmt (record { content = content; rows = rows }) a c (target_at (record { content = content; rows = rows }) q (grammar_symbol.Class c))
  goes a q c l = by (target_at (record { content = content; rows = rows }) q (grammar_symbol.Class c)) refl
    where
      by : (o : Option ℕ) → target_at (record { content = content; rows = rows }) q (grammar_symbol.Class c) ≡ o → Goes rules stmt (record { content = content; rows = rows }) a c o
      by None e = λ s. let p : (n : ℕ) × (target_at (record { content = content; rows = rows }) q (grammar_symbol.Class c) ≡ Some n) = leads_on a q (grammar_symbol.Class c) l s in
          none-some p.0 (sym e ∙ p.1)
      by (Some p) e = (stands_from a q p (grammar_symbol.Class c) l e, further l e)

  -- the cell of a kernel's row at a token
  cell_is : (k : List Item) (t : Tok) → get_or (row_of rules stmt classes (found rules stmt classes (length rows)) k).actions (number t) []
      ≡ cell (number t) (get_or (row_of rules stmt classes (found rules stmt classes (length rows)) k).targets (number t) None) (reductions rules (follows rules stmt classes (number t)) k)
  unfolding row_of actions_of all_follows
  cell_is k t =
      let ts = targets_of rules stmt (item_set rules stmt classes (chains rules) k) (found rules stmt classes (length rows)) (40 + classes) in
      let fs = map (follows rules stmt classes) (range_with_len 0 40) in
      let F = λ (n : ℕ). cell n (get_or ts n None) (reductions rules (get_or fs n []) k) in
      get_or-map-range_with_len F 0 40 (number t) (number t) [] (number-below t) (omega arith)
      ∙ ap (λ (f : List Bool). cell (number t) (get_or ts (number t) None) (reductions rules f k))
      (get_or-map-range_with_len (follows rules stmt classes) 0 40 (number t) (number t) [] (number-below t) (omega arith))

  are_reductions : (a : List Sym) (t : Tok) → AreReductions rules stmt a t (rules_of rules (follows rules stmt classes (number t)) (kernel_at rules stmt classes a))
  unfolding rules_of
  are_reductions a t = record {
    ordered = pairs_all (GoesFirst rules stmt) (filter_map (reduction rules follow) k) (rules_ordered rules stmt follow k (kernel_sorted rules stmt classes a));
    exactly = λ n. (λ h. sound n (Contains-In n (filter_map (reduction rules follow) k) h), λ h. In-Contains n (filter_map (reduction rules follow) k) (complete n h));
  }
    where
      k : List Item
      k = kernel_at rules stmt classes a

      follow : List Bool
      follow = follows rules stmt classes (number t)

      sound : (n : ℕ) → In n (filter_map (reduction rules (follows rules stmt classes (number t))) (kernel_at rules stmt classes a)) → MayReduce rules stmt a t n
      sound n h =
          let q : (i : Item) × In i (kernel_at rules stmt classes a) × (reduction rules (follows rules stmt classes (number t)) i ≡ Some n) =
          filter_map-In (reduction rules (follows rules stmt classes (number t))) n (kernel_at rules stmt classes a) h in
          let r : Reduces rules (follows rules stmt classes (number t)) q.0 n = reduction_is rules (follows rules stmt classes (number t)) q.0 n q.2 in
          let same : q.0 ≡ record { rule = Some n; dot = length r.rule.right } = λ j. record { rule = r.is j; dot = r.complete j } in
          record {
            rule = r.rule;
            there = r.there;
            complete = subst (Items rules stmt a) same (kernel_valid rules stmt classes g a q.0 q.1);
            behind =
                follow_sound rules stmt classes g t r.rule.left r.behind;
          }

      complete : (n : ℕ) → MayReduce rules stmt a t n → In n (filter_map (reduction rules (follows rules stmt classes (number t))) (kernel_at rules stmt classes a))
      complete n m =
          let item : Item = record { rule = Some n; dot = length m.rule.right } in
          let at : In item (kernel_at rules stmt classes a) = set_kernel rules stmt classes (kernel_at rules stmt classes a) item (valid_set rules stmt classes g m.complete)
          (inl (g.some n m.rule m.there)) in
          In-filter_map (reduction rules (follows rules stmt classes (number t))) item n (kernel_at rules stmt classes a) at
          (reduction_there rules (follows rules stmt classes (number t)) n m.rule m.there (follow_complete rules stmt classes g t m.behind refl))

  pub candidates : (a : List Sym) (q : ℕ) (t : Tok) → Leads (record { content = content; rows = rows }) a q
      → Candidates rules stmt (record { content = content; rows = rows }) a t (actions_at (record { content = content; rows = rows }) q t)
  candidates a q t l = subst (Candidates rules stmt (record { content = content; rows = rows }) a t) (sym whole)
      (by (target_at (record { content = content; rows = rows }) q (grammar_symbol.Tok t)) refl)
    where
      others : List Choice
      others = reductions rules (follows rules stmt classes (number t)) (kernel_at rules stmt classes a)

      row_here : slice_get rows q ≡ Some (row_of rules stmt classes (found rules stmt classes (length rows)) (kernel_at rules stmt classes a))
      row_here = row_at q (kernel_at rules stmt classes a) (leads_kernel l)

      whole : actions_at (record { content = content; rows = rows }) q t
          ≡ cell (number t) (target_at (record { content = content; rows = rows }) q (grammar_symbol.Tok t)) (reductions rules (follows rules stmt classes (number t)) (kernel_at rules stmt classes a))
      whole =
          ap (λ (o : Option RowView). actions_in o (number t)) row_here
          ∙ (cell_is (kernel_at rules stmt classes a) t
          ∙ ap (λ (o : Option RowView). cell (number t) (target_in o (number t)) (reductions rules (follows rules stmt classes (number t)) (kernel_at rules stmt classes a))) (sym row_here))

      shift_case : (p : ℕ) (e : target_at (record { content = content; rows = rows }) q (grammar_symbol.Tok t) ≡ Some p) (c : Bool) → (number t == 39) ≡ c
          → Candidates rules stmt (record { content = content; rows = rows }) a t (cond c (choice.Accept ∷ []) (choice.Shift p ∷ []))
      shift_case p e true f = accepts (stands_from a q p (grammar_symbol.Tok t) l e) (number_same t tok.End (eqb-true (number t) 39 f))
      shift_case p e false f = shifts (stands_from a q p (grammar_symbol.Tok t) l e) (λ s. eqb-false (number t) 39 f (ap number s)) (further l e)

      by : (o : Option ℕ) → target_at (record { content = content; rows = rows }) q (grammar_symbol.Tok t) ≡ o
          → Candidates rules stmt (record { content = content; rows = rows }) a t (cell (number t) o (reductions rules (follows rules stmt classes (number t)) (kernel_at rules stmt classes a)))
      by None e = reduces (rules_of rules (follows rules stmt classes (number t)) (kernel_at rules stmt classes a))
          (λ s. let p : (n : ℕ) × (target_at (record { content = content; rows = rows }) q (grammar_symbol.Tok t) ≡ Some n) = leads_on a q (grammar_symbol.Tok t) l s in
          none-some p.0 (sym e ∙ p.1)) (are_reductions a t) (reductions_are rules (follows rules stmt classes (number t)) (kernel_at rules stmt classes a))
      by (Some p) e = shift_case p e (number t == 39) refl
