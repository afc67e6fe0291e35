-- The sums of states are the summaries of item sets, and there are as many; and there are as many states as item sets.
use Rattle.std.proofs.Common.{◌≡◌, ℕ, zero, suc, ◌+◌, ◌<◌, ◌≤◌, List, [], ◌∷◌, length, get_or, slice_get, Some, refl, sym, ap, ◌∙◌, subst, arith}
use Rattle.std.proofs.lemmas.Option.{none-some, same_Some}
use Rattle.lr_check_found.specs.tree_core.specs.declared.token.Tok.{Tok}
use Rattle.lr_check_found.specs.md_reader.specs.declared.types.Sym.{Sym}
use Rattle.lr_check_found.specs.md_reader.specs.Valid.{IsValid}
use Rattle.lr_checked.specs.lr_tables.specs.View.{TableView}
use Rattle.lr_checked.specs.lr_tables.specs.Promises.{IsNumbered}
use Rattle.lr_checked.specs.lr_tables.specs.Over.{AreApart}
use Rattle.lr_check_found.specs.lr_check_sets.specs.Sums.{Sum}
use Rattle.lr_check_found.specs.lr_check_sets.specs.Table.{automaton_of}
use Rattle.lr_check_found.specs.lr_check_sets.proofs.Rows.{leads}
use Rattle.lr_check_found.specs.Count as sums
use Rattle.lr_check_found.specs.Count.{HasMore}
use Rattle.lr_checked.specs.Counted.{HasTooManySums}
use Rattle.lr_checked.proofs.Tables.{tables_same}
use Rattle.lr_tables_states.specs.States.{HasStack}
use Rattle.lr_checked_sets.specs.Counting.{Tuple, IsSummary, AreOne, HasMoreSummaries, StandsFor, HasItemSets}
use Rattle.lr_checked_sets.specs.Claims.{HasSummary, AreOfItemSets, SumsAreOfItemSets, StatesAreCounted}
use Rattle.lr_checked_sets.specs.Summaries.{IsLive}
use Rattle.lr_checked_sets.proofs.Standing.{stmt, At, sets, at_leads, live, state_of, same_items, same_state}
use Rattle.lr_checked_sets.proofs.Numbers.{summary_live, sum_at}
use Rattle.lr_checked_sets.proofs.Stacks.{sum_from, sum_place}
use Rattle.lr_checked_sets.proofs.Lists.{Matched, matched}

-- a tuple of the numbered states
abbrev tuple : ℕ → Tok → Tok → List Sym → sums.Tuple
tuple q k n s = record { place = record { state = q; token = k; behind = n }; list = s }

module _ (t : TableView) (v : IsValid t.content) (b : IsNumbered t) where
  -- they say the same: the stack leads to the state, and the rest is equal
  record Says (x : sums.Tuple) (y : Tuple) : Type 0 where
    at : At t v b y.stack x.place.state
    token : y.token ≡ x.place.token
    behind : y.behind ≡ x.place.behind
    list : y.list ≡ x.list

  equal : (p q : ℕ) (k l n m : Tok) (s u : List Sym) → p ≡ q → k ≡ l → n ≡ m → s ≡ u → tuple p k n s ≡ tuple q l m u
  equal p q k l n m s u e f g h =
      ap (λ (z : ℕ). tuple z k n s) e ∙ (ap (λ (z : Tok). tuple q z n s) f ∙ (ap (λ (z : Tok). tuple q l z s) g ∙ ap (λ (z : List Sym). tuple q l m z) h))

  -- where two say the same as two others, they are one exactly where those are equal
  one_equal : (x w : sums.Tuple) (y z : Tuple) → Says x y → Says w z → AreOne t.content.rules (stmt t v b) y z → x ≡ w
  one_equal x w y z g h o =
      equal x.place.state w.place.state x.place.token w.place.token x.place.behind w.place.behind x.list w.list
      (same_state t v b y.stack z.stack x.place.state w.place.state g.at h.at o.set)
      (sym g.token ∙ (o.token ∙ h.token)) (sym g.behind ∙ (o.behind ∙ h.behind)) (sym g.list ∙ (o.list ∙ h.list))

  equal_one : (x w : sums.Tuple) (y z : Tuple) → Says x y → Says w z → x ≡ w → AreOne t.content.rules (stmt t v b) y z
  equal_one x w y z g h e = record {
    set = same_items t v b y.stack z.stack x.place.state w.place.state g.at h.at (ap (λ (u : sums.Tuple). u.place.state) e);
    token = g.token ∙ (ap (λ (u : sums.Tuple). u.place.token) e ∙ sym h.token);
    behind = g.behind ∙ (ap (λ (u : sums.Tuple). u.place.behind) e ∙ sym h.behind);
    list = g.list ∙ (ap (λ (u : sums.Tuple). u.list) e ∙ sym h.list);
  }

  -- ---- from sums to summaries

  record ToStack (x : sums.Tuple) (y : Tuple) : Type 0 where
    says : Says x y
    is_summary : IsSummary t.content.rules (stmt t v b) y

  to_stack : (x : sums.Tuple) → Sum (automaton_of t) x.place.state x.place.token x.place.behind x.list → (y : Tuple) × ToStack x y
  to_stack x h =
      let p = sum_place t v b h in (
        record { stack = p.stack; token = x.place.token; behind = x.place.behind; list = x.list },
        record { says = record { at = p.at; token = refl; behind = refl; list = refl }; is_summary = sum_from t v b h p.stack p.at p.place },
      )

  more_summaries : (n : ℕ) → HasMore (automaton_of t) n → HasMoreSummaries t.content n
  more_summaries n h =
      let m : Matched ToStack h.tuples = matched ToStack h.tuples (λ x c. to_stack x (h.each x c)) in
      let same = m.same in
      let many = h.many in
      record {
        tuples = m.others;
        many = omega (arith, same, many);
        apart = λ i j d lt le one.
            let c = tuple 0 d.token d.behind d.list in
            let low : i < length h.tuples = omega (arith, same, lt, le) in
            let high : j < length h.tuples = omega (arith, same, le) in
            h.apart i j c lt high
            (one_equal (get_or h.tuples i c) (get_or h.tuples j c) (get_or m.others i d) (get_or m.others j d) (m.each i c d low).says (m.each j c d high).says one);
        each = λ y k.
            let lt = k.1 in
            let c = tuple 0 y.token y.behind y.list in
            subst (IsSummary t.content.rules (stmt t v b)) k.2 (m.each k.0 c y (omega (arith, same, lt))).is_summary;
      }

  -- ---- and back

  record ToNumber (y : Tuple) (x : sums.Tuple) : Type 0 where
    says : Says x y
    is_sum : Sum (automaton_of t) x.place.state x.place.token x.place.behind x.list

  to_number : (y : Tuple) → IsSummary t.content.rules (stmt t v b) y → (x : sums.Tuple) × ToNumber y x
  to_number y h =
      let q = state_of t v b y.stack (summary_live t v b h) in (
        tuple q.0 y.token y.behind y.list,
        record { says = record { at = q.1; token = refl; behind = refl; list = refl }; is_sum = sum_at t v b h q.0 q.1 },
      )

  more_sums : (n : ℕ) → HasMoreSummaries t.content n → HasMore (automaton_of t) n
  more_sums n h =
      let m : Matched ToNumber h.tuples = matched ToNumber h.tuples (λ y c. to_number y (h.each y c)) in
      let same = m.same in
      let many = h.many in
      record {
        tuples = m.others;
        many = omega (arith, same, many);
        apart = λ i j d lt le e.
            let c : Tuple = record { stack = []; token = d.place.token; behind = d.place.behind; list = d.list } in
            let low : i < length h.tuples = omega (arith, same, lt, le) in
            let high : j < length h.tuples = omega (arith, same, le) in
            h.apart i j c lt high
            (equal_one (get_or m.others i d) (get_or m.others j d) (get_or h.tuples i c) (get_or h.tuples j c) (m.each i c d low).says (m.each j c d high).says e);
        each = λ x k.
            let lt = k.1 in
            let c : Tuple = record { stack = []; token = x.place.token; behind = x.place.behind; list = x.list } in
            subst (λ (z : sums.Tuple). Sum (automaton_of t) z.place.state z.place.token z.place.behind z.list) k.2 (m.each k.0 c x (omega (arith, same, lt))).is_sum;
      }

  has_summary : (q : ℕ) (k n : Tok) (s : List Sym) → Sum (automaton_of t) q k n s → HasSummary t q k n s
  has_summary q k n s h =
      let p = sum_place t v b h in
      record { stack = p.stack; leads = leads t p.stack q p.at; is_summary = sum_from t v b h p.stack p.at p.place }

  too_many : HasTooManySums t.content → HasMoreSummaries t.content 4000000
  too_many h = more_summaries 4000000 (subst (λ (u : TableView). HasMore (automaton_of u) 4000000) (tables_same h.tables t h.of h.numbered b) h.many)

  are_of_item_sets : AreOfItemSets t
  are_of_item_sets = record {
    sums = λ a q k n s l h. sum_at t v b h q (at_leads t v b a q l);
    stacks = has_summary;
    more = λ n. (more_summaries n, more_sums n);
    counted = λ n h. record { few = λ m. h.sums.few (more_sums n m); many = λ m lt. more_summaries m (h.sums.many m lt) };
    too_many = (too_many, λ h. record { tables = t; of = refl; numbered = b; many = more_sums 4000000 h });
  }

  -- ---- a stack for each state

  -- the stacks of so many states, from one on
  record Stacks (first many : ℕ) : Type 0 where
    list : List (List Sym)
    size : length list ≡ many
    each : (k : ℕ) (a : List Sym) → slice_get list k ≡ Some a → At t v b a (first + k)
    there : (k : ℕ) → k < many → (a : List Sym) × (slice_get list k ≡ Some a)

  stacks_from : (first many : ℕ) → first + many ≤ length t.rows → Stacks first many
  stacks_from first zero le = record { list = []; size = refl; each = λ k a e. nothing k a e; there = λ k lt. absurd (omega (arith, lt)) }
    where
      nothing : (k : ℕ) (a : List Sym) → slice_get [] k ≡ Some a → At t v b a (first + k)
      nothing zero a e = absurd (none-some a e)
      nothing (suc k) a e = absurd (none-some a e)
  stacks_from first (suc many) le =
      let h : HasStack t first = (sets t v b).stacks first (omega (arith, le)) in
      let rest = stacks_from (first + 1) many (omega (arith, le)) in
      record { list = h.stack ∷ rest.list; size = ap suc rest.size; each = λ k a e. at h rest k a e; there = λ k lt. some h rest k lt }
    where
      at : (h : HasStack t first) (rest : Stacks (first + 1) many) (k : ℕ) (a : List Sym) → slice_get (h.stack ∷ rest.list) k ≡ Some a → At t v b a (first + k)
      at h rest zero a e =
          let here : first ≡ first + 0 = omega arith in
          subst (At t v b a) here (subst (λ (x : List Sym). At t v b x first) (same_Some h.stack a e) (at_leads t v b h.stack first h.leads))
      at h rest (suc k) a e =
          let next : first + 1 + k ≡ first + suc k = omega arith in
          subst (At t v b a) next (rest.each k a e)

      some : (h : HasStack t first) (rest : Stacks (first + 1) many) (k : ℕ) → k < suc many → (a : List Sym) × (slice_get (h.stack ∷ rest.list) k ≡ Some a)
      some h rest zero lt = (h.stack, refl)
      some h rest (suc k) lt = rest.there k (omega (arith, lt))

  abbrev all_stacks : Stacks 0 (length t.rows)
  all_stacks = stacks_from 0 (length t.rows) (omega arith)

  at_own : (k : ℕ) (a : List Sym) → slice_get all_stacks.list k ≡ Some a → At t v b a k
  at_own k a e = let same : 0 + k ≡ k = omega arith in subst (At t v b a) same (all_stacks.each k a e)

  are_apart : AreApart t.content.rules (stmt t v b) all_stacks.list
  are_apart = record {
    live = λ k a e. live t v b a k (at_own k a e);
    apart = λ j k a c lt e f same. let equal_states = same_state t v b a c j k (at_own j a e) (at_own k c f) same in omega (arith, lt, equal_states);
  }

  stands_for : (a : List Sym) → IsLive t.content.rules (stmt t v b) a → StandsFor t.content all_stacks.list a
  stands_for a h =
      let q = state_of t v b a h in
      let s = all_stacks.there q.0 ((sets t v b).rows a q.0 (leads t a q.0 q.1)) in
      record { place = q.0; stack = s.0; there = s.1; same = same_items t v b s.0 a q.0 q.0 (at_own q.0 s.0 s.1) q.1 refl }

  has_item_sets : HasItemSets t.content (length t.rows)
  has_item_sets = record { stacks = all_stacks.list; many = all_stacks.size; apart = are_apart; all = stands_for }

pub sums_are_of_item_sets : SumsAreOfItemSets
sums_are_of_item_sets t v b = are_of_item_sets t v b

pub states_are_counted : StatesAreCounted
states_are_counted t v b = has_item_sets t v b
