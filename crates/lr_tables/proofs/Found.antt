-- The numbered kernels are those that stacks lead to, each once.
use Rattle.std.proofs.Common.{◌≡◌, ◌⊎◌, ℕ, zero, suc, ◌+◌, ◌≤◌, ◌<◌, List, [], ◌∷◌, ◌++◌, Option, Some, None, Bool, true, false, cond, length, get_or, map, filter, slice_get, refl}
use Rattle.std.proofs.Common.{sym, ap, ◌∙◌, subst, inl, inr, ⊎_elim, arith, true≢false, length-append, append_assoc, append-nil}
use Rattle.std.specs.Prelude.{◌==◌, not, nat_lt, position}
use Rattle.std.specs.List.{list_any, prefix_len, position_or_len}
use Rattle.std.specs.Option.{option_eq, option_map_or}
use Rattle.std.specs.Cmp.Lexicographic.{pointwise_decides}
use Rattle.std.proofs.lemmas.Bool.{eqb-true, eq-eqb, cases_lt, lt-ltb, ltb-true, and_parts, and_from, or_left, or_right, or_cases}
use Rattle.std.proofs.lemmas.Option.{slice_get_within, slice_get_past, slice_get-get_or, get_or_from_slice_get, same_Some, none-some}
use Rattle.std.proofs.lemmas.List.{get_or_append_left}
use Rattle.md_reader.specs.declared.types.Rule.{Rule}
use Rattle.md_reader.specs.declared.types.Sym.{Sym}
use Rattle.md_reader.specs.declared.types.Sym.TheVariants as grammar_symbol
use Rattle.lr_tables.specs.declared.item.Item.{Item}
use Rattle.lr_tables.specs.Symbols.{symbol_number}
use Rattle.lr_tables.specs.Items.{next, start, advanced}
use Rattle.lr_tables.specs.Grammar.{IsGrammar}
use Rattle.lr_tables.specs.Sets.{chains, item_set, stands_before, moved}
use Rattle.lr_tables.specs.Kernels.{kernel_at}
use Rattle.lr_tables.specs.Numbering.{same_item, same_kernel, entered, row_entered, followed, found}
use Rattle.lr_tables.proofs.Members.{In, In-left, In-right, In-cases, In-slice_get, slice_get-In, map-In, filter-In}
use Rattle.lr_tables.proofs.Symbols_apart.{number-below}
use Rattle.lr_tables.proofs.Closing.{next_within, set_empty}

-- the test of items and kernels
option_true : (o p : Option ℕ) → option_eq ◌==◌ o p ≡ true → o ≡ p
option_true None None e = refl
option_true None (Some n) e = cc
option_true (Some m) None e = cc
option_true (Some m) (Some n) e = ap Some (eqb-true m n e)

option_itself : (o : Option ℕ) → option_eq ◌==◌ o o ≡ true
option_itself None = refl
option_itself (Some n) = eq-eqb n n refl

item_true : (i j : Item) → same_item i j ≡ true → i ≡ j
item_true i j e =
    let p = and_parts (option_eq ◌==◌ i.rule j.rule) (i.dot == j.dot) e in
    let a : i.rule ≡ j.rule = option_true i.rule j.rule p.0 in
    let b : i.dot ≡ j.dot = eqb-true i.dot j.dot p.1 in
    λ t. record { rule = a t; dot = b t }

item_itself : (i : Item) → same_item i i ≡ true
item_itself i = and_from (option_eq ◌==◌ i.rule i.rule) (i.dot == i.dot) (option_itself i.rule) (eq-eqb i.dot i.dot refl)

item_decides : (i j : Item) → (same_item i j ≡ true → i ≡ j) × (i ≡ j → same_item i j ≡ true)
item_decides i j = (item_true i j, λ e. subst (λ (x : Item). same_item i x ≡ true) e (item_itself i))

pub kernel_decides : (k l : List Item) → (same_kernel k l ≡ true → k ≡ l) × (k ≡ l → same_kernel k l ≡ true)
kernel_decides k l = pointwise_decides item_decides k l

any_In : (k : List Item) (ks : List (List Item)) → list_any (same_kernel k) ks ≡ true → In k ks
any_In k [] e = cc
any_In k (l ∷ ks) e = ⊎_elim (λ a. inl (sym ((kernel_decides k l).0 a))) (λ a. inr (any_In k ks a)) (or_cases (same_kernel k l) (list_any (same_kernel k) ks) e)

In_any : (k : List Item) (ks : List (List Item)) → In k ks → list_any (same_kernel k) ks ≡ true
In_any k [] h = absurd h
In_any k (l ∷ ks) h = ⊎_elim (λ e. or_left (same_kernel k l) (list_any (same_kernel k) ks) ((kernel_decides k l).1 (sym e)))
    (λ a. or_right (same_kernel k l) (list_any (same_kernel k) ks) (In_any k ks a)) h

-- one list begins with another
pub record Prefix (ks ls : List (List Item)) : Type 0 where
  pub added : List (List Item)
  pub is : ls ≡ ks ++ added

pub prefix_itself : (ks : List (List Item)) → Prefix ks ks
prefix_itself ks = record { added = []; is = sym (append-nil ks) }

pub prefix_trans : (ks ls ms : List (List Item)) → Prefix ks ls → Prefix ls ms → Prefix ks ms
prefix_trans ks ls ms p q = record { added = p.added ++ q.added; is = q.is ∙ ap (λ (x : List (List Item)). x ++ q.added) p.is ∙ append_assoc ks p.added q.added }

pub prefix_In : (ks ls : List (List Item)) (k : List Item) → Prefix ks ls → In k ks → In k ls
prefix_In ks ls k p h = subst (In k) (sym p.is) (In-left k ks p.added h)

pub prefix_get : (ks ls : List (List Item)) (q : ℕ) (k : List Item) → Prefix ks ls → slice_get ks q ≡ Some k → slice_get ls q ≡ Some k
prefix_get ks ls q k p e =
    let lt : q < length ks = slice_get_within ks q k e in
    let long : q < length (ks ++ p.added) = (let l = length-append ks p.added in omega (arith, lt, l)) in
    subst (λ (x : List (List Item)). slice_get x q ≡ Some k) (sym p.is)
    (slice_get-get_or (ks ++ p.added) q k long ∙ ap Some (get_or_append_left ks p.added k q lt ∙ get_or_from_slice_get ks q k k e))

prefix_entered : (ks : List (List Item)) (k : List Item) → Prefix ks (entered ks k)
prefix_entered ks [] = prefix_itself ks
prefix_entered ks (i ∷ k) = by (list_any (same_kernel (i ∷ k)) ks)
  where
    by : (b : Bool) → Prefix ks (cond b ks (ks ++ (i ∷ k) ∷ []))
    by true = prefix_itself ks
    by false = record { added = (i ∷ k) ∷ []; is = refl }

entered_in : (ks : List (List Item)) (k : List Item) → 0 < length k → In k (entered ks k)
entered_in ks [] lt = absurd (omega arith)
entered_in ks (i ∷ k) lt = by (list_any (same_kernel (i ∷ k)) ks) refl
  where
    by : (b : Bool) → list_any (same_kernel (i ∷ k)) ks ≡ b → In (i ∷ k) (cond b ks (ks ++ (i ∷ k) ∷ []))
    by true e = any_In (i ∷ k) ks e
    by false e = In-right (i ∷ k) ks ((i ∷ k) ∷ []) (inl refl)

entered_only : (ks : List (List Item)) (k l : List Item) → In l (entered ks k) → In l ks ⊎ ((l ≡ k) × (0 < length l))
entered_only ks [] l h = inl h
entered_only ks (i ∷ k) l h = by (list_any (same_kernel (i ∷ k)) ks) h
  where
    by : (b : Bool) → In l (cond b ks (ks ++ (i ∷ k) ∷ [])) → In l ks ⊎ ((l ≡ i ∷ k) × (0 < length l))
    by true h = inl h
    by false h = ⊎_elim (λ a. inl a) (λ a. ⊎_elim (λ e. inr (sym e, subst (λ (x : List Item). 0 < length x) e (omega arith))) (λ x. absurd x) a) (In-cases l ks ((i ∷ k) ∷ []) h)

-- no kernel stands twice
abbrev pub Apart : List (List Item) → Type 0
Apart [] = Unit {0}
Apart (k ∷ ks) = (In k ks → ⊥) × Apart ks

apart_push : (ks : List (List Item)) (k : List Item) → Apart ks → (In k ks → ⊥) → Apart (ks ++ k ∷ [])
apart_push [] k h a = ((λ x. x), tt)
apart_push (l ∷ ks) k h a =
    ((λ x. ⊎_elim (λ y. h.0 y) (λ y. ⊎_elim (λ e. a (inl (sym e))) (λ z. z) y) (In-cases l ks (k ∷ []) x)), apart_push ks k h.1 (λ x. a (inr x)))

apart_entered : (ks : List (List Item)) (k : List Item) → Apart ks → Apart (entered ks k)
apart_entered ks [] h = h
apart_entered ks (i ∷ k) h = by (list_any (same_kernel (i ∷ k)) ks) refl
  where
    by : (b : Bool) → list_any (same_kernel (i ∷ k)) ks ≡ b → Apart (cond b ks (ks ++ (i ∷ k) ∷ []))
    by true e = h
    by false e = apart_push ks (i ∷ k) h (λ x. true≢false (sym (In_any (i ∷ k) ks x) ∙ e))

-- where a kernel stands first
prefix_passes : (p : List Item → Bool) (ks : List (List Item)) (k : List Item) → In k ks → p k ≡ true → prefix_len (λ x. not (p x)) ks < length ks
prefix_passes p [] k h e = absurd h
prefix_passes p (l ∷ ks) k h e = by (p l) refl (⊎_elim (λ s. inl (ap p s ∙ e)) (λ a. inr (prefix_passes p ks k a e)) h)
  where
    by : (b : Bool) → p l ≡ b → (p l ≡ true) ⊎ (prefix_len (λ x. not (p x)) ks < length ks) → cond (not b) (1 + prefix_len (λ x. not (p x)) ks) 0 < length (l ∷ ks)
    by true f c = omega arith
    by false f c = ⊎_elim (λ s. absurd (true≢false (sym s ∙ f))) (λ lt. omega (arith, lt)) c

pub position_there : (ks : List (List Item)) (k : List Item) → In k ks → (q : ℕ) × (position (same_kernel k) ks ≡ Some q)
position_there ks k h =
    let lt = prefix_passes (same_kernel k) ks k h ((kernel_decides k k).1 refl) in
    (position_or_len (same_kernel k) ks, ap (λ b. cond b (Some (position_or_len (same_kernel k) ks)) None) (lt-ltb (position_or_len (same_kernel k) ks) (length ks) lt))

passes_at : (p : List Item → Bool) (ks : List (List Item)) → prefix_len (λ x. not (p x)) ks < length ks → (l : List Item) × (slice_get ks (prefix_len (λ x. not (p x)) ks) ≡ Some l) × (p l ≡ true)
passes_at p [] lt = absurd (omega arith)
passes_at p (l ∷ ks) lt = by (p l) refl (λ h. passes_at p ks h) lt
  where
    by : (b : Bool) → p l ≡ b → (prefix_len (λ x. not (p x)) ks < length ks → (m : List Item) × (slice_get ks (prefix_len (λ x. not (p x)) ks) ≡ Some m) × (p m ≡ true))
        → cond (not b) (1 + prefix_len (λ x. not (p x)) ks) 0 < length (l ∷ ks) → (m : List Item) × (slice_get (l ∷ ks) (cond (not b) (1 + prefix_len (λ x. not (p x)) ks) 0) ≡ Some m) × (p m ≡ true)
    by true f ih h = (l, refl, f)
    by false f ih h =
        let a : (m : List Item) × (slice_get ks (prefix_len (λ x. not (p x)) ks) ≡ Some m) × (p m ≡ true) = ih (omega (arith, h)) in
        (a.0, ap (slice_get (l ∷ ks)) (let z : 1 + prefix_len (λ x. not (p x)) ks ≡ suc (prefix_len (λ x. not (p x)) ks) = omega arith in z) ∙ a.1, a.2)

pub position_is : (ks : List (List Item)) (k : List Item) (q : ℕ) → position (same_kernel k) ks ≡ Some q → slice_get ks q ≡ Some k
position_is ks k q e = by (nat_lt (position_or_len (same_kernel k) ks) (length ks)) refl e
  where
    by : (b : Bool) → nat_lt (position_or_len (same_kernel k) ks) (length ks) ≡ b → cond b (Some (position_or_len (same_kernel k) ks)) None ≡ Some q → slice_get ks q ≡ Some k
    by true f h =
        let a : (l : List Item) × (slice_get ks (position_or_len (same_kernel k) ks) ≡ Some l)
        × (same_kernel k l ≡ true) = passes_at (same_kernel k) ks (ltb-true (position_or_len (same_kernel k) ks) (length ks) f) in
        ap (slice_get ks) (sym (same_Some (position_or_len (same_kernel k) ks) q h)) ∙ (a.1 ∙ ap Some (sym ((kernel_decides k a.0).0 a.2)))
    by false f h = absurd (none-some q h)

-- the first item of a list that is not empty
pub head_in : {X : Type 0} (l : List X) → 0 < length l → (x : X) × In x l
head_in [] lt = absurd (omega arith)
head_in (x ∷ l) lt = (x, inl refl)

pub in_some : {X : Type 0} (l : List X) (x : X) → In x l → 0 < length l
in_some [] x h = absurd h
in_some (y ∷ l) x h = omega arith

module _ (rules : List Rule) (stmt classes : ℕ) (g : IsGrammar rules stmt classes) where
  -- a kernel that a stack leads to
  pub record Reached (k : List Item) : Type 0 where
    pub stack : List Sym
    pub leads : kernel_at rules stmt classes stack ≡ k
    pub some : 0 < length k

  pub stands_number : (s : ℕ) (o : Option Sym) → option_map_or (λ (Y : Sym). symbol_number Y == s) o false ≡ true → (X : Sym) × (o ≡ Some X) × (symbol_number X ≡ s)
  stands_number s None e = cc
  stands_number s (Some X) e = (X, refl, eqb-true (symbol_number X) s e)

  -- the symbol behind which a kernel that is not empty stands
  pub moved_symbol : (s : ℕ) (items : List Item) → 0 < length (moved rules stmt s items) → (i : Item) × In i items × ((X : Sym) × (next rules stmt i ≡ Some X) × (symbol_number X ≡ s))
  unfolding moved
  moved_symbol s items lt =
      let h : (j : Item) × In j (map advanced (filter (stands_before rules stmt s) items)) = head_in (map advanced (filter (stands_before rules stmt s) items)) lt in
      let m : (i : Item) × In i (filter (stands_before rules stmt s) items) × (h.0 ≡ advanced i) = map-In advanced h.0 (filter (stands_before rules stmt s) items) h.1 in
      let f : In m.0 items × (stands_before rules stmt s m.0 ≡ true) = filter-In (stands_before rules stmt s) m.0 items m.1 in
      (m.0, f.0, stands_number s (next rules stmt m.0) f.1)

  row_reached : (k : List Item) (ks : List (List Item)) → Reached k → ((l : List Item) → In l ks → Reached l) → (n : ℕ) (l : List Item)
      → In l (row_entered rules stmt (item_set rules stmt classes (chains rules) k) ks n) → Reached l
  row_reached k ks r all zero l h = all l h
  row_reached k ks r all (suc n) l h =
      let items = item_set rules stmt classes (chains rules) k in
      ⊎_elim
      (λ a. row_reached k ks r all n l a)
      (λ a.
      let e : l ≡ moved rules stmt n items = a.0 in
      let s : (i : Item) × In i items × ((X : Sym) × (next rules stmt i ≡ Some X) × (symbol_number X ≡ n)) = moved_symbol n items (subst (λ (x : List Item). 0 < length x) e a.1) in
      record {
        stack = s.2.0 ∷ r.stack;
        leads = ap (λ (x : List Item). moved rules stmt (symbol_number s.2.0) (item_set rules stmt classes (chains rules) x)) r.leads
            ∙ (ap (λ m. moved rules stmt m items) s.2.2 ∙ sym e);
        some = a.1;
      })
      (entered_only (row_entered rules stmt items ks n) (moved rules stmt n items) l h)

  pub found_reached : (n : ℕ) (k : List Item) → In k (found rules stmt classes n) → Reached k
  unfolding found
  found_reached zero k h = ⊎_elim (λ e. record { stack = []; leads = e; some = subst (λ (x : List Item). 0 < length x) e (omega arith) }) (λ x. absurd x) h
  found_reached (suc n) k h = by (slice_get (found rules stmt classes n) n) refl (λ l a. found_reached n l a) h
    where
      by : (o : Option (List Item)) → slice_get (found rules stmt classes n) n ≡ o → ((l : List Item) → In l (found rules stmt classes n) → Reached l)
          → In k (followed rules stmt classes (found rules stmt classes n) o) → Reached k
      by None e all h = all k h
      by (Some l) e all h = row_reached l (found rules stmt classes n) (all l (slice_get-In l (found rules stmt classes n) n e)) all (40 + classes) k h

  row_prefix : (items : List Item) (ks : List (List Item)) (n : ℕ) → Prefix ks (row_entered rules stmt items ks n)
  row_prefix items ks zero = prefix_itself ks
  row_prefix items ks (suc n) = prefix_trans ks (row_entered rules stmt items ks n) (row_entered rules stmt items ks (suc n)) (row_prefix items ks n)
      (prefix_entered (row_entered rules stmt items ks n) (moved rules stmt n items))

  row_in : (items : List Item) (ks : List (List Item)) (n m : ℕ) → m < n → 0 < length (moved rules stmt m items) → In (moved rules stmt m items) (row_entered rules stmt items ks n)
  row_in items ks zero m lt some = absurd (omega arith)
  row_in items ks (suc n) m lt some =
      ⊎_elim
      (λ below. prefix_In (row_entered rules stmt items ks n) (row_entered rules stmt items ks (suc n)) (moved rules stmt m items)
      (prefix_entered (row_entered rules stmt items ks n) (moved rules stmt n items)) (row_in items ks n m below some))
      (λ above. let e : n ≡ m = omega (arith, lt, above) in
      subst (λ x. In (moved rules stmt x items) (row_entered rules stmt items ks (suc n))) e
      (entered_in (row_entered rules stmt items ks n) (moved rules stmt n items) (subst (λ x. 0 < length (moved rules stmt x items)) (sym e) some)))
      (cases_lt m n)

  row_apart : (items : List Item) (ks : List (List Item)) (n : ℕ) → Apart ks → Apart (row_entered rules stmt items ks n)
  row_apart items ks zero h = h
  row_apart items ks (suc n) h = apart_entered (row_entered rules stmt items ks n) (moved rules stmt n items) (row_apart items ks n h)

  pub found_apart : (n : ℕ) → Apart (found rules stmt classes n)
  unfolding found
  found_apart zero = ((λ x. x), tt)
  found_apart (suc n) = by (slice_get (found rules stmt classes n) n) (found_apart n)
    where
      by : (o : Option (List Item)) → Apart (found rules stmt classes n) → Apart (followed rules stmt classes (found rules stmt classes n) o)
      by None h = h
      by (Some k) h = row_apart (item_set rules stmt classes (chains rules) k) (found rules stmt classes n) (40 + classes) h

  found_step : (n : ℕ) → Prefix (found rules stmt classes n) (found rules stmt classes (suc n))
  unfolding found
  found_step n = by (slice_get (found rules stmt classes n) n)
    where
      by : (o : Option (List Item)) → Prefix (found rules stmt classes n) (followed rules stmt classes (found rules stmt classes n) o)
      by None = prefix_itself (found rules stmt classes n)
      by (Some k) = row_prefix (item_set rules stmt classes (chains rules) k) (found rules stmt classes n) (40 + classes)

  pub found_prefix : (n m : ℕ) → n ≤ m → Prefix (found rules stmt classes n) (found rules stmt classes m)
  found_prefix n zero le = subst (λ x. Prefix (found rules stmt classes x) (found rules stmt classes zero)) (let e : zero ≡ n = omega (arith, le) in e) (prefix_itself (found rules stmt classes zero))
  found_prefix n (suc m) le =
      ⊎_elim
      (λ lt. prefix_trans (found rules stmt classes n) (found rules stmt classes m) (found rules stmt classes (suc m)) (found_prefix n m (omega (arith, lt))) (found_step m))
      (λ ge. subst (λ x. Prefix (found rules stmt classes x) (found rules stmt classes (suc m))) (let e : suc m ≡ n = omega (arith, le, ge) in e) (prefix_itself (found rules stmt classes (suc m))))
      (cases_lt n (suc m))

  -- once all are followed, nothing more is found
  found_stays : (q m : ℕ) → q ≤ m → length (found rules stmt classes q) ≤ q → found rules stmt classes m ≡ found rules stmt classes q
  unfolding found
  found_stays q zero le h = ap (found rules stmt classes) (let e : zero ≡ q = omega (arith, le) in e)
  found_stays q (suc m) le h =
      ⊎_elim
      (λ lt. let ih : found rules stmt classes m ≡ found rules stmt classes q = found_stays q m (omega (arith, lt)) h in
      let none : slice_get (found rules stmt classes m) m ≡ None =
      slice_get_past (found rules stmt classes m) m (let l : length (found rules stmt classes m) ≡ length (found rules stmt classes q) = ap (λ (x : List (List Item)). length x) ih in
      omega (arith, l, h, lt)) in
      ap (followed rules stmt classes (found rules stmt classes m)) none ∙ ih)
      (λ ge. ap (found rules stmt classes) (let e : suc m ≡ q = omega (arith, le, ge) in e))
      (cases_lt q (suc m))

  pub symbol_within : (i : Item) (X : Sym) → next rules stmt i ≡ Some X → symbol_number X < 40 + classes
  symbol_within i (grammar_symbol.Tok t) e = let lt = number-below t in omega (arith, lt)
  symbol_within i (grammar_symbol.Class c) e = let lt = next_within rules stmt classes g i c e in omega (arith, lt)

  -- each stack that leads to items leads to a kernel of the list
  pub found_complete : (n : ℕ) → length (found rules stmt classes n) ≤ n → (a : List Sym) → 0 < length (kernel_at rules stmt classes a)
      → In (kernel_at rules stmt classes a) (found rules stmt classes n)
  unfolding found
  found_complete n h [] some = prefix_In (found rules stmt classes 0) (found rules stmt classes n) (start ∷ []) (found_prefix 0 n (omega arith)) first
    where
      first : In (start ∷ []) (found rules stmt classes 0)
      first = inl refl
  found_complete n h (X ∷ a) some =
      let k = kernel_at rules stmt classes a in
      let items = item_set rules stmt classes (chains rules) k in
      let s : (i : Item) × In i items × ((Y : Sym) × (next rules stmt i ≡ Some Y) × (symbol_number Y ≡ symbol_number X)) = moved_symbol (symbol_number X) items some in
      let below : In k (found rules stmt classes n) = found_complete n h a (set_empty rules stmt classes g k s.0 s.1) in
      let at : (q : ℕ) × (slice_get (found rules stmt classes n) q ≡ Some k) = In-slice_get k (found rules stmt classes n) below in
      let lt : at.0 < length (found rules stmt classes n) = slice_get_within (found rules stmt classes n) at.0 k at.1 in
      let wide : symbol_number X < 40 + classes = subst (λ x. x < 40 + classes) s.2.2 (symbol_within s.0 s.2.0 s.2.1) in
      ⊎_elim
      (λ early. let here : slice_get (found rules stmt classes at.0) at.0 ≡ Some k = same_get at.0 n k (omega (arith, lt, h)) early at.1 in
      prefix_In (found rules stmt classes (suc at.0)) (found rules stmt classes n) (moved rules stmt (symbol_number X) items) (found_prefix (suc at.0) n (omega (arith, lt, h)))
      (turn at.0 k here (symbol_number X) wide some))
      (λ late. let l : found rules stmt classes n ≡ found rules stmt classes at.0 = found_stays at.0 n (omega (arith, lt, h)) late in
      let len : length (found rules stmt classes n) ≡ length (found rules stmt classes at.0) = ap (λ (x : List (List Item)). length x) l in
      absurd (omega (arith, lt, late, len)))
      (cases_lt at.0 (length (found rules stmt classes at.0)))
    where
      same_get : (q n : ℕ) (k : List Item) → q ≤ n → q < length (found rules stmt classes q) → slice_get (found rules stmt classes n) q ≡ Some k → slice_get (found rules stmt classes q) q ≡ Some k
      same_get q n k le lt e =
          let x = get_or (found rules stmt classes q) q k in
          let u : slice_get (found rules stmt classes q) q ≡ Some x = slice_get-get_or (found rules stmt classes q) q k lt in
          let v : slice_get (found rules stmt classes n) q ≡ Some x = prefix_get (found rules stmt classes q) (found rules stmt classes n) q x (found_prefix q n le) u in
          u ∙ (sym v ∙ e)

      turn : (q : ℕ) (k : List Item) → slice_get (found rules stmt classes q) q ≡ Some k → (s : ℕ) → s < 40 + classes
          → 0 < length (moved rules stmt s (item_set rules stmt classes (chains rules) k)) → In (moved rules stmt s (item_set rules stmt classes (chains rules) k)) (found rules stmt classes (suc q))
      turn q k e s lt some =
          subst (λ (o : Option (List Item)). In (moved rules stmt s (item_set rules stmt classes (chains rules) k)) (followed rules stmt classes (found rules stmt classes q) o)) (sym e)
          (row_in (item_set rules stmt classes (chains rules) k) (found rules stmt classes q) (40 + classes) s lt some)
