-- What the items of conditions do.
use Rattle.std.proofs.Common.{◌≡◌, ℕ, zero, suc, ◌≤◌, ◌<◌, List, [], ◌∷◌, ◌++◌, Some, refl, ap, arith, sym, ◌∙◌, subst, ◌⊎◌, inl, inr, ⊎_elim}
use Rattle.std.specs.Prelude.{Bool, true, false, not, ◌==◌, nat_lt, nat_le}
use Rattle.std.proofs.lemmas.Bool.{cases_lt, not-false, not-true, ne_eqb, lt-leb, le-leb, lt-ltb, le-ltb}
use Rattle.gg_base.specs.declared.relation.Rel.TheVariants as relations
use Rattle.gg_base.specs.Runs.{Runs, stop}
use Rattle.gg_base.specs.declared.relation.Rel.{Rel}
use Rattle.gg_base.specs.Relations.{holds}
use Rattle.gg_base.specs.Numbers.{truth}
use Rattle.tree_core.specs.declared.program.TreeItem.{TreeItem}
use Rattle.tree_core.specs.declared.program.TreeProgram.{TreeProgram}
use Rattle.tree_meaning.specs.State.{Activation, with_local, behind}
use Rattle.c_types.specs.Constants.{apply_unary}
use Rattle.c_types.specs.declared.typed.UnaryOperator.TheVariants as unaries
use Rattle.c_meaning.specs.State.{State}
use Rattle.c_meaning.specs.Values.{Rest, chosen, logical}
use Rattle.c_lower_scheme.specs.Trees.{Jump, Num, Item, Label, AssignLoc, Cbr, sensed, opposite}
use Rattle.c_lower_scheme.specs.Spelling.{spelled_all}
use Rattle.c_lower_scheme.specs.Parts.{with_done, then_done, Lowered, Pair, Emitted, Lowering, Destination, InLocal, AsResult, Releasing}
use Rattle.c_lower_scheme.specs.Conditions.{truth_of, compare, conditional, chain, chain_drop, drop_two, choose_low, choose_drop, choose_leave, choose, comma, choose_deliver}
use Rattle.c_lower_scheme.specs.Values.{relation, joined}
use Rattle.c_lower_counts.proofs.Leads.{Leads, one_tree, leads_quiet, Depth, Under}
use Rattle.c_lower_counts.proofs.Ahead.{ahead_here, ahead_later, ahead_behind, ahead_joined}
use Rattle.c_lower_follows.proofs.Steps.{Desk, Resolves, resolves_back, resolves_split}
use Rattle.c_lower_counts.proofs.Steps.{label_step, label_counts, jump_step, at_items, to_label, goes_ahead, goes_on, from_before, moves, cbr_step}
use Rattle.c_lower_follows.proofs.Agreeing.{Since, set_same, set_other, not_nil, back_nil}
use Rattle.c_lower_follows.proofs.Doing.{either_way}
use Rattle.c_lower_counts.proofs.Doing.{Agrees, here, Does, DoesTwo, Drops, Asks, Delivers, DoesWay, assoc, save_temp, since_both, since_more, two_does, test_asks, delivered_does, arrives_behind}
use Rattle.c_lower_counts.proofs.Doing.{Arrives}
use Rattle.c_lower_counts.proofs.Storing.{use_number}

chosen_truth : (b : Bool) (κ : Rest) (st : State) → κ (truth b) st ≡ chosen (truth b) (κ 1 st) (κ 0 st)
chosen_truth true κ st = refl
chosen_truth false κ st = refl

truth_met : (b : Bool) (r q : Runs) → b ≡ true → chosen (truth b) r q ≡ r
truth_met true r q e = refl
truth_met false r q e = absurd (cc)

truth_unmet : (b : Bool) (r q : Runs) → b ≡ false → chosen (truth b) r q ≡ q
truth_unmet false r q e = refl
truth_unmet true r q e = absurd (cc)

not_zero : (v : ℕ) (r q : Runs) → chosen (apply_unary unaries.Not v) r q ≡ chosen v q r
unfolding apply_unary
not_zero zero r q = refl
not_zero (suc v) r q = ap (λ b. chosen (truth b) r q) (ne_eqb (suc v) 0 (λ e. omega arith))

not_value : (v : ℕ) (κ : Rest) (st : State) → κ (apply_unary unaries.Not v) st ≡ chosen (apply_unary unaries.Not v) (κ 1 st) (κ 0 st)
unfolding apply_unary
not_value v κ st = chosen_truth (v == 0) κ st

logical_value : (v : ℕ) (κ : Rest) (st : State) → κ (logical v) st ≡ chosen v (κ 1 st) (κ 0 st)
logical_value zero κ st = refl
logical_value (suc v) κ st = refl

logical_chosen : (v : ℕ) (r q : Runs) → chosen (logical v) r q ≡ chosen v r q
logical_chosen zero r q = refl
logical_chosen (suc v) r q = refl

not_lt : (a b : ℕ) → nat_le b a ≡ not (nat_lt a b)
not_lt a b = ⊎_elim (λ lt. lt-leb b a lt ∙ sym (ap not (lt-ltb a b lt))) (λ le. le-leb b a le ∙ sym (ap not (le-ltb a b le))) (cases_lt a b)

not_le : (a b : ℕ) → nat_lt b a ≡ not (nat_le a b)
not_le a b = ⊎_elim (λ lt. lt-ltb b a lt ∙ sym (ap not (lt-leb a b lt))) (λ le. le-ltb b a le ∙ sym (ap not (le-leb a b le))) (cases_lt b a)

not_twice : (b : Bool) → b ≡ not (not b)
not_twice true = refl
not_twice false = refl

-- the opposite relation holds where the relation does not
opposite_holds : (r : Rel) (x y : ℕ) → holds (opposite r) x y ≡ not (holds r x y)
opposite_holds relations.Eq x y = refl
opposite_holds relations.Ne x y = not_twice (x == y)
opposite_holds relations.Lt x y = not_lt _ _
opposite_holds relations.Le x y = not_le _ _
opposite_holds relations.Gt x y = not_lt _ _
opposite_holds relations.Ge x y = not_le _ _
opposite_holds relations.Ltu x y = not_lt x y
opposite_holds relations.Leu x y = not_le x y
opposite_holds relations.Gtu x y = not_lt y x
opposite_holds relations.Geu x y = not_le y x

-- which way is left where a test with a sense holds, or does not
abbrev pick : Bool → Bool → Runs → Runs → Runs
pick true true met unmet = met
pick true false met unmet = unmet
pick false true met unmet = unmet
pick false false met unmet = met

module _ (program : TreeProgram) (code : List TreeItem) (callers : List Activation) (size count first : ℕ) (scope : ℕ → Type 0) (level : Depth) (within : (x : ℕ) → scope x → x < size)
    (own : size ≤ first) where
  abbrev sure : State → Desk → Type 0
  sure st d = Agrees program code callers size count first scope level st d

  abbrev going : List Item → Desk → Runs
  going is d = here program code callers size count first scope level is d

  abbrev AsksIt : Emitted → Bool → ℕ → ℕ → (Rest → State → Runs) → Type 0
  AsksIt p sense to t m = Asks program code callers size count first scope level p sense to t m

  abbrev DropsIt : Emitted → ℕ → (Rest → State → Runs) → Type 0
  DropsIt p t m = Drops program code callers size count first scope level p t m

  abbrev LowIt : Lowered → ℕ → (Rest → State → Runs) → Type 0
  LowIt p t m = Does program code callers size count first scope level p t m

  abbrev DeliversIt : Destination → Emitted → ℕ → (Rest → State → Runs) → Type 0
  DeliversIt to p t m = Delivers program code callers size count first scope level to p t m

  abbrev WayIt : Lowering → (Rest → State → Runs) → Type 0
  WayIt w m = DoesWay program code callers size count first scope level w m

  abbrev bind_up : (k : Depth) (a b is : List Item) (d : Desk) (r : Runs) → Leads k r (going (a ++ (b ++ is)) d) → Leads k r (going ((a ++ b) ++ is) d)
  bind_up k a b is d r h = assoc program code callers size count first scope level k a b is d r h

  -- the value of a condition
  truth_does : (t l : ℕ) (b : Emitted) (m : Rest → State → Runs) → first ≤ t → ((κ : Rest) (st : State) → m κ st ≡ m (λ v st. chosen v (κ 1 st) (κ 0 st)) st) → AsksIt b false l (suc t) m
      → LowIt (truth_of t l b) t m
  truth_does t l b m sz logic asks = record {
    grows = omega (arith, asks.grows);
    below = omega (arith, asks.grows);
    small = tt;
    runs = λ k le is κ res st d ag h.
        let T : List Item = AssignLoc t (Num 1) ∷ Label l ∷ [] in
        let res1 = resolves_split code b.items T is res.1 in
        let end_at : behind code l ≡ spelled_all is = (resolves_back code b.items (T ++ is) res1).1.0 in
        save_temp program code callers size count first scope level within own k t (Num 0) ((b.items ++ T) ++ is) (λ v. m κ st) st d sz (omega arith) ag
        (λ v lt e ag0.
        let z : 0 ≡ v = cc in
        let d0 : Desk = record d { locals = with_local d.locals t v } in
        let since : (u : ℕ) (st1 : State) (d1 : Desk) → ((j : ℕ) → size ≤ j → (j < t) ⊎ (b.temps ≤ j) → d1.locals j ≡ d.locals j)
        → Since size t b.temps (AssignLoc t (Num 0) ∷ (b.items ++ T)) st d st1 d1 = λ u st1 d1 kept.
        record { keeps = kept; same = λ e. absurd (not_nil [] (AssignLoc t (Num 0)) (b.items ++ T) e) } in
        let outside : (st1 : State) (d1 : Desk) → Since size (suc t) b.temps b.items st d0 st1 d1 → (j : ℕ) → size ≤ j → (j < t) ⊎ (b.temps ≤ j) → d1.locals j
        ≡ d.locals j = λ st1 d1 s1 j szj o. s1.keeps j szj (⊎_elim (λ lt. inl (omega arith)) (λ ge. inr ge) o)
        ∙ set_other d.locals t v j (λ e. ⊎_elim (λ lt. omega arith) (λ ge. omega (arith, asks.grows)) o) in
        subst (λ r. Leads k r (going ((b.items ++ T) ++ is) d0)) (sym (logic κ st))
        (bind_up k b.items T is d0 _ (asks.runs k le (T ++ is) (κ 1) (κ 0) res1 st d0 ag0
        (λ st1 d1 ag1 s1. goes_on program code callers k l (T ++ is) d1 _ (ahead_later l (AssignLoc t (Num 1)) (Label l ∷ is) (ahead_here l is))
        (moves program code callers k (behind code l) (spelled_all is) d1 _ end_at
        (use_number program code callers size count first scope level within own k (d1.locals t) 0 is κ st1 d1
        (s1.keeps t (omega arith) (inl (omega arith)) ∙ set_same d.locals t v ∙ ap Some (sym z))
        (h st1 d1 ag1 (since 0 st1 d1 (outside st1 d1 s1))))))
        (λ st1 d1 ag1 s1. leads_quiet k _ _ (save_temp program code callers size count first scope level within own k t (Num 1) (Label l ∷ is) (λ v. κ 1 st1) st1 d1 sz (omega arith) ag1
        (λ w lt' e' ag2.
        let one : 1 ≡ w = cc in
        let d2 : Desk = record d1 { locals = with_local d1.locals t w } in
        label_step program code callers k l is d2 (κ 1 st1)
        (use_number program code callers size count first scope level within own k (d2.locals t) 1 is κ st1 d2 (set_same d1.locals t w ∙ ap Some (sym one))
        (h st1 d2 ag2 (since 0 st1 d2 (λ j szj o. set_other d1.locals t w j (λ e. ⊎_elim (λ lt. omega arith) (λ ge. omega (arith, asks.grows)) o) ∙ outside st1 d1 s1 j szj o))))))))));
  }

  pub conditional_does : (f : Bool → ℕ → ℕ → ℕ → Emitted) (g : ℕ → ℕ → Emitted) (m : Rest → State → Runs) → ((κ : Rest) (st : State) → m κ st ≡ m (λ v st. chosen v (κ 1 st) (κ 0 st)) st)
      → ((sense : Bool) (to t l : ℕ) → first ≤ t → AsksIt (f sense to t l) sense to t m) → ((t l : ℕ) → first ≤ t → DropsIt (g t l) t m) → WayIt (conditional f g) m
  conditional_does f g m logic asks drops = record {
    low = λ t l sz. truth_does t l (f false l (suc t) (suc l)) m sz logic (asks false l (suc t) (suc l) (omega arith));
    branch = asks;
    drop = drops;
    deliver = λ to t l sz. delivered_does program code callers size count first scope level within own to (truth_of t l (f false l (suc t) (suc l))) t m sz
        (truth_does t l (f false l (suc t) (suc l)) m sz logic (asks false l (suc t) (suc l) (omega arith)));
  }

  -- two effects in turn
  pub then_drops : (p q : Emitted) (t : ℕ) (m n : Rest → State → Runs) → DropsIt p t m → DropsIt q p.temps n → DropsIt (then_done p q) t (λ κ. m (λ x. n κ))
  then_drops p q t m n drops drops' = record {
    grows = omega (arith, drops.grows, drops'.grows);
    runs = λ k le is κ res st d ag h.
        let res1 = resolves_split code p.items q.items is res in
        bind_up k p.items q.items is d _ (drops.runs k le (q.items ++ is) (n (λ v. κ)) res1 st d ag
        (λ st1 d1 ag1 s1. drops'.runs k le is κ (resolves_back code p.items (q.items ++ is) res1) st1 d1 ag1
        (λ st2 d2 ag2 s2. h st2 d2 ag2 (since_both program code callers size count first scope level within own t p.temps q.temps p.items q.items st st1 st2 d d1 d2 drops.grows drops'.grows s1
        s2))));
  }

  compare_by : (sense : Bool) (r : Rel) (x y : ℕ) (b : Bool) (met unmet : Runs) → holds (sensed sense r) x y ≡ b → chosen (truth (holds r x y)) met unmet ≡ pick b sense met unmet
  compare_by true r x y true met unmet e = truth_met (holds r x y) met unmet e
  compare_by true r x y false met unmet e = truth_unmet (holds r x y) met unmet e
  compare_by false r x y true met unmet e = truth_unmet (holds r x y) met unmet (not-true (holds r x y) (sym (opposite_holds r x y) ∙ e))
  compare_by false r x y false met unmet e = truth_met (holds r x y) met unmet (not-false (holds r x y) (sym (opposite_holds r x y) ∙ e))

  relation_asks : (sense : Bool) (r : Rel) (to : ℕ) (p : Pair) (t : ℕ) (m : (ℕ → Rest) → State → Runs) → DoesTwo program code callers size count first scope level p t m
      → AsksIt (compare (sensed sense r) to p) sense to t (λ κ. m (λ x y. κ (truth (holds r x y))))
  relation_asks sense r to p t m does = record {
    grows = does.grows;
    runs = λ k le is met unmet res st d ag taken falls.
        let i = Cbr (sensed sense r) to p.first p.second in
        let K : State → ℕ → ℕ → Runs = λ st x y. chosen (truth (holds r x y)) (met st) (unmet st) in
        bind_up k p.items (i ∷ []) is d _ (does.runs k le (i ∷ is) (λ x y st. K st x y) (resolves_split code p.items (i ∷ []) is res) st d ag
        (λ st1 d1 ag1 s1.
        let more = since_more program code callers size count first scope level within own t p.temps p.temps p.items (i ∷ []) st d st1 d1 (omega arith) s1 in
        cbr_step program code callers k to (sensed sense r) p.first p.second is (K st1) d1 does.small_first does.small_second ag1.ranged
        (λ x y ex ey b. subst (λ r. Leads k r (one_tree (to_label program code callers to is d1)))
        (sym (compare_by sense r x y true (met st1) (unmet st1) b ∙ pick_true sense (met st1) (unmet st1) met unmet st1 refl refl)) (taken st1 d1 ag1 more))
        (λ x y ex ey b. subst (λ r. Leads k r (one_tree (going is d1))) (sym
        (compare_by sense r x y false (met st1) (unmet st1) b ∙ pick_false sense (met st1) (unmet st1) met unmet st1 refl refl)) (falls st1 d1 ag1 more))));
  }
    where
      pick_true : (sense : Bool) (a b : Runs) (met unmet : State → Runs) (st : State) → a ≡ met st → b ≡ unmet st → pick true sense a b ≡ either_way sense met unmet st
      pick_true true a b met unmet st e f = e
      pick_true false a b met unmet st e f = f

      pick_false : (sense : Bool) (a b : Runs) (met unmet : State → Runs) (st : State) → a ≡ met st → b ≡ unmet st → pick false sense a b ≡ either_way sense unmet met st
      pick_false true a b met unmet st e f = f
      pick_false false a b met unmet st e f = e

  pub relation_does : (r : Rel) (a b : Lowering) (m n : Rest → State → Runs) → WayIt a m → WayIt b n → WayIt (relation size count r a b) (λ κ. m (λ x. n (λ y. κ (truth (holds r x y)))))
  relation_does r a b m n does does' =
      conditional_does (λ sense to t l. compare (sensed sense r) to (joined size count a b t l)) (drop_two a b) (λ κ. m (λ x. n (λ y. κ (truth (holds r x y)))))
      (λ κ st j. m (λ x. n (λ y st. chosen_truth (holds r x y) κ st j)) st)
      (λ sense to t l sz.
      let one = does.low t l sz in
      relation_asks sense r to (joined size count a b t l) t (λ κ. m (λ x. n (κ x)))
      (two_does program code callers size count first scope level within own (a.low t l) (b.low (a.low t l).temps (a.low t l).labels) t m n sz one
      (does'.low (a.low t l).temps (a.low t l).labels (omega (arith, one.grows)))))
      (λ t l sz.
      let one = does.drop t l sz in
      let both = then_drops (a.drop t l) (b.drop (a.drop t l).temps (a.drop t l).labels) t m n one (does'.drop (a.drop t l).temps (a.drop t l).labels (omega (arith, one.grows))) in
      record { grows = both.grows; runs = λ k le is κ res st d ag h. both.runs k le is κ res st d ag h })

  -- the truth of `!e`
  pub not_does : (e : Lowering) (m : Rest → State → Runs) → WayIt e m → WayIt (conditional (λ sense to t l. e.branch (not sense) to t l) e.drop) (λ κ. m (λ v. κ (apply_unary unaries.Not v)))
  not_does e m does =
      conditional_does (λ sense to t l. e.branch (not sense) to t l) e.drop (λ κ. m (λ v. κ (apply_unary unaries.Not v)))
      (λ κ st j. m (λ v st. not_value v κ st j) st)
      (λ sense to t l sz. not_asks sense to (e.branch (not sense) to t l) t (does.branch (not sense) to t l sz))
      (λ t l sz. let drops = does.drop t l sz in record { grows = drops.grows; runs = λ k le is κ res st d ag h. drops.runs k le is κ res st d ag h })
    where
      not_asks : (sense : Bool) (to : ℕ) (p : Emitted) (t : ℕ) → AsksIt p (not sense) to t m → AsksIt p sense to t (λ κ. m (λ v. κ (apply_unary unaries.Not v)))
      not_asks true to p t asks = record {
        grows = asks.grows;
        runs = λ k le is met unmet res st d ag taken falls. subst (λ κ. Leads k (m κ st) (going (p.items ++ is) d)) (λ j v st. sym (not_zero v (met st) (unmet st)) j)
            (asks.runs k le is unmet met res st d ag taken falls);
      }
      not_asks false to p t asks = record {
        grows = asks.grows;
        runs = λ k le is met unmet res st d ag taken falls. subst (λ κ. Leads k (m κ st) (going (p.items ++ is) d)) (λ j v st. sym (not_zero v (met st) (unmet st)) j)
            (asks.runs k le is unmet met res st d ag taken falls);
      }

  -- the left side decides alone where its truth is `stop`
  abbrev pub sided : Bool → ℕ → Runs → Runs → Runs
  sided true x r q = chosen x r q
  sided false x r q = chosen x q r

  abbrev pub Chained : Bool → (Rest → State → Runs) → (Rest → State → Runs) → Rest → State → Runs
  Chained stop m n κ = m (λ x st. sided stop x (κ (truth stop) st) (n (λ y. κ (logical y)) st))

  pub then_asks_low : (k : Depth) (l : ℕ) (is : List Item) (d : Desk) (r : Runs) → Leads k r (one_tree (going is d)) → Leads k r (one_tree (going (Label l ∷ is) d))
  then_asks_low k l is d r h = label_counts program code callers k l is d r h

  -- both sides go to the label
  chain_direct : (stop : Bool) (to : ℕ) (p q : Emitted) (t : ℕ) (m n : Rest → State → Runs) → AsksIt p stop to t m → AsksIt q stop to p.temps n → AsksIt (then_done p q) stop to t (Chained stop m n)
  chain_direct true to p q t m n asks asks' = record {
    grows = omega (arith, asks.grows, asks'.grows);
    runs = λ k le is met unmet res st d ag taken falls.
        let res1 = resolves_split code p.items q.items is res in
        let K : Rest = λ v st. chosen v (met st) (unmet st) in
        bind_up k p.items q.items is d _ (asks.runs k le (q.items ++ is) met (n (λ y. K (logical y))) res1 st d ag
        (λ st1 d1 ag1 s1. from_before program code callers k to q.items is d1 _
        (taken st1 d1 ag1 (since_more program code callers size count first scope level within own t p.temps q.temps p.items q.items st d st1 d1 asks'.grows s1)))
        (λ st1 d1 ag1 s1. leads_quiet k _ _ (subst (λ κ. Leads k (n κ st1) (going (q.items ++ is) d1)) (λ j y st. sym (logical_chosen y (met st) (unmet st)) j)
        (asks'.runs k le is met unmet (resolves_back code p.items (q.items ++ is) res1) st1 d1 ag1
        (λ st2 d2 ag2 s2. taken st2 d2 ag2
        (since_both program code callers size count first scope level within own t p.temps q.temps p.items q.items st st1 st2 d d1 d2 asks.grows asks'.grows s1 s2))
        (λ st2 d2 ag2 s2. falls st2 d2 ag2 (since_both program code callers size count first scope level within own t p.temps q.temps p.items q.items st st1 st2 d d1 d2 asks.grows asks'.grows s1
        s2))))));
  }
  chain_direct false to p q t m n asks asks' = record {
    grows = omega (arith, asks.grows, asks'.grows);
    runs = λ k le is met unmet res st d ag taken falls.
        let res1 = resolves_split code p.items q.items is res in
        let K : Rest = λ v st. chosen v (met st) (unmet st) in
        bind_up k p.items q.items is d _ (asks.runs k le (q.items ++ is) (n (λ y. K (logical y))) unmet res1 st d ag
        (λ st1 d1 ag1 s1. from_before program code callers k to q.items is d1 _
        (taken st1 d1 ag1 (since_more program code callers size count first scope level within own t p.temps q.temps p.items q.items st d st1 d1 asks'.grows s1)))
        (λ st1 d1 ag1 s1. leads_quiet k _ _ (subst (λ κ. Leads k (n κ st1) (going (q.items ++ is) d1)) (λ j y st. sym (logical_chosen y (met st) (unmet st)) j)
        (asks'.runs k le is met unmet (resolves_back code p.items (q.items ++ is) res1) st1 d1 ag1
        (λ st2 d2 ag2 s2. taken st2 d2 ag2
        (since_both program code callers size count first scope level within own t p.temps q.temps p.items q.items st st1 st2 d d1 d2 asks.grows asks'.grows s1 s2))
        (λ st2 d2 ag2 s2. falls st2 d2 ag2 (since_both program code callers size count first scope level within own t p.temps q.temps p.items q.items st st1 st2 d d1 d2 asks.grows asks'.grows s1
        s2))))));
  }

  chain_inner_true : (to l : ℕ) (p q : Emitted) (t : ℕ) (m n : Rest → State → Runs) → AsksIt p true l t m → AsksIt q false to p.temps n
      → AsksIt (record { items = p.items ++ (q.items ++ (Label l ∷ [])); temps = q.temps; labels = q.labels }) false to t (Chained true m n)
  chain_inner_true to l p q t m n asks asks' = record {
    grows = omega (arith, asks.grows, asks'.grows);
    runs = λ k le is met unmet res st d ag taken falls.
        let T : List Item = q.items ++ (Label l ∷ []) in
        let res1 = resolves_split code p.items T is res in
        let res2 = resolves_split code q.items (Label l ∷ []) is (resolves_back code p.items (T ++ is) res1) in
        let end_at : behind code l ≡ spelled_all is = (resolves_back code q.items (Label l ∷ is) res2).0 in
        let K : Rest = λ v st. chosen v (met st) (unmet st) in
        let whole : (st1 : State) (d1 : Desk) (st2 : State) (d2 : Desk) → Since size t p.temps p.items st d st1 d1 → Since size p.temps q.temps q.items st1 d1 st2 d2
        → Since size t q.temps (p.items ++ T) st d st2 d2 = λ st1 d1 st2 d2 s1 s2.
        since_both program code callers size count first scope level within own t p.temps q.temps p.items T st st1 st2 d d1 d2 asks.grows asks'.grows s1
        (since_more program code callers size count first scope level within own p.temps q.temps q.temps q.items (Label l ∷ []) st1 d1 st2 d2 (omega arith) s2) in
        bind_up k p.items T is d _ (asks.runs k le (T ++ is) met (n (λ y. K (logical y))) res1 st d ag
        (λ st1 d1 ag1 s1. goes_ahead program code callers k l (T ++ is) d1 (met st1) (ahead_joined l q.items (Label l ∷ []) is (ahead_behind l q.items (Label l ∷ is) (ahead_here l is)))
        (subst (λ j. Leads k (met st1) (one_tree (at_items program code callers j d1))) (sym end_at)
        (falls st1 d1 ag1 (since_more program code callers size count first scope level within own t p.temps q.temps p.items T st d st1 d1 asks'.grows s1))))
        (λ st1 d1 ag1 s1. leads_quiet k _ _ (bind_up k q.items (Label l ∷ []) is d1 _
        (subst (λ κ. Leads k (n κ st1) (going (q.items ++ (Label l ∷ is)) d1)) (λ j y st. sym (logical_chosen y (met st) (unmet st)) j)
        (asks'.runs k le (Label l ∷ is) met unmet res2 st1 d1 ag1
        (λ st2 d2 ag2 s2. from_before program code callers k to (Label l ∷ []) is d2 _ (taken st2 d2 ag2 (whole st1 d1 st2 d2 s1 s2)))
        (λ st2 d2 ag2 s2. then_asks_low k l is d2 _ (falls st2 d2 ag2 (whole st1 d1 st2 d2 s1 s2))))))));
  }

  chain_inner_false : (to l : ℕ) (p q : Emitted) (t : ℕ) (m n : Rest → State → Runs) → AsksIt p false l t m → AsksIt q true to p.temps n
      → AsksIt (record { items = p.items ++ (q.items ++ (Label l ∷ [])); temps = q.temps; labels = q.labels }) true to t (Chained false m n)
  chain_inner_false to l p q t m n asks asks' = record {
    grows = omega (arith, asks.grows, asks'.grows);
    runs = λ k le is met unmet res st d ag taken falls.
        let T : List Item = q.items ++ (Label l ∷ []) in
        let res1 = resolves_split code p.items T is res in
        let res2 = resolves_split code q.items (Label l ∷ []) is (resolves_back code p.items (T ++ is) res1) in
        let end_at : behind code l ≡ spelled_all is = (resolves_back code q.items (Label l ∷ is) res2).0 in
        let K : Rest = λ v st. chosen v (met st) (unmet st) in
        let whole : (st1 : State) (d1 : Desk) (st2 : State) (d2 : Desk) → Since size t p.temps p.items st d st1 d1 → Since size p.temps q.temps q.items st1 d1 st2 d2
        → Since size t q.temps (p.items ++ T) st d st2 d2 = λ st1 d1 st2 d2 s1 s2.
        since_both program code callers size count first scope level within own t p.temps q.temps p.items T st st1 st2 d d1 d2 asks.grows asks'.grows s1
        (since_more program code callers size count first scope level within own p.temps q.temps q.temps q.items (Label l ∷ []) st1 d1 st2 d2 (omega arith) s2) in
        bind_up k p.items T is d _ (asks.runs k le (T ++ is) (n (λ y. K (logical y))) unmet res1 st d ag
        (λ st1 d1 ag1 s1. goes_ahead program code callers k l (T ++ is) d1 (unmet st1) (ahead_joined l q.items (Label l ∷ []) is (ahead_behind l q.items (Label l ∷ is) (ahead_here l is)))
        (subst (λ j. Leads k (unmet st1) (one_tree (at_items program code callers j d1))) (sym end_at)
        (falls st1 d1 ag1 (since_more program code callers size count first scope level within own t p.temps q.temps p.items T st d st1 d1 asks'.grows s1))))
        (λ st1 d1 ag1 s1. leads_quiet k _ _ (bind_up k q.items (Label l ∷ []) is d1 _
        (subst (λ κ. Leads k (n κ st1) (going (q.items ++ (Label l ∷ is)) d1)) (λ j y st. sym (logical_chosen y (met st) (unmet st)) j)
        (asks'.runs k le (Label l ∷ is) met unmet res2 st1 d1 ag1
        (λ st2 d2 ag2 s2. from_before program code callers k to (Label l ∷ []) is d2 _ (taken st2 d2 ag2 (whole st1 d1 st2 d2 s1 s2)))
        (λ st2 d2 ag2 s2. then_asks_low k l is d2 _ (falls st2 d2 ag2 (whole st1 d1 st2 d2 s1 s2))))))));
  }

  chain_asks : (stop sense : Bool) (a b : Lowering) (to t l : ℕ) (m n : Rest → State → Runs) → first ≤ t → WayIt a m → WayIt b n → AsksIt (chain stop a b sense to t l) sense to t (Chained stop m n)
  chain_asks true true a b to t l m n sz does does' =
      let p = a.branch true to t (suc l) in
      let one = does.branch true to t (suc l) sz in
      chain_direct true to p (b.branch true to p.temps p.labels) t m n one (does'.branch true to p.temps p.labels (omega (arith, one.grows)))
  chain_asks true false a b to t l m n sz does does' =
      let p = a.branch true l t (suc l) in
      let one = does.branch true l t (suc l) sz in
      chain_inner_true to l p (b.branch false to p.temps p.labels) t m n one (does'.branch false to p.temps p.labels (omega (arith, one.grows)))
  chain_asks false true a b to t l m n sz does does' =
      let p = a.branch false l t (suc l) in
      let one = does.branch false l t (suc l) sz in
      chain_inner_false to l p (b.branch true to p.temps p.labels) t m n one (does'.branch true to p.temps p.labels (omega (arith, one.grows)))
  chain_asks false false a b to t l m n sz does does' =
      let p = a.branch false to t (suc l) in
      let one = does.branch false to t (suc l) sz in
      chain_direct false to p (b.branch false to p.temps p.labels) t m n one (does'.branch false to p.temps p.labels (omega (arith, one.grows)))

  chain_logic : (stop : Bool) (m n : Rest → State → Runs) (κ : Rest) (st : State) → Chained stop m n κ st ≡ Chained stop m n (λ v st. chosen v (κ 1 st) (κ 0 st)) st
  chain_logic true m n κ st = λ j. m (λ x st. chosen x (κ 1 st) (n (λ y st. (logical_value y κ st ∙ sym (logical_chosen y (κ 1 st) (κ 0 st))) j) st)) st
  chain_logic false m n κ st = λ j. m (λ x st. chosen x (n (λ y st. (logical_value y κ st ∙ sym (logical_chosen y (κ 1 st) (κ 0 st))) j) st) (κ 0 st)) st

  -- the left side, and the right one where it is needed
  chain_drops_by : (stop : Bool) (l : ℕ) (p q : Emitted) (t : ℕ) (m n : Rest → State → Runs) → AsksIt p stop l t m → DropsIt q p.temps n
      → DropsIt (record { items = p.items ++ (q.items ++ (Label l ∷ [])); temps = q.temps; labels = q.labels }) t (Chained stop m n)
  chain_drops_by stop l p q t m n asks drops = record {
    grows = omega (arith, asks.grows, drops.grows);
    runs = λ k le is κ res st d ag h.
        let T : List Item = q.items ++ (Label l ∷ []) in
        let res1 = resolves_split code p.items T is res in
        let res2 = resolves_split code q.items (Label l ∷ []) is (resolves_back code p.items (T ++ is) res1) in
        let end_at : behind code l ≡ spelled_all is = (resolves_back code q.items (Label l ∷ is) res2).0 in
        let out : (st1 : State) (d1 : Desk) → sure st1 d1 → Since size t p.temps p.items st d st1 d1
        → Leads k (κ st1) (one_tree (to_label program code callers l (T ++ is) d1)) = λ st1 d1 ag1 s1.
        goes_on program code callers k l (T ++ is) d1 (κ st1) (ahead_joined l q.items (Label l ∷ []) is (ahead_behind l q.items (Label l ∷ is) (ahead_here l is)))
        (subst (λ j. Leads k (κ st1) (at_items program code callers j d1)) (sym end_at)
        (h st1 d1 ag1 (since_more program code callers size count first scope level within own t p.temps q.temps p.items T st d st1 d1 drops.grows s1))) in
        let into : (st1 : State) (d1 : Desk) → sure st1 d1 → Since size t p.temps p.items st d st1 d1
        → Leads k (n (λ y. κ) st1) (one_tree (going (T ++ is) d1)) = λ st1 d1 ag1 s1.
        leads_quiet k _ _ (bind_up k q.items (Label l ∷ []) is d1 _ (drops.runs k le (Label l ∷ is) κ res2 st1 d1 ag1
        (λ st2 d2 ag2 s2. label_step program code callers k l is d2 (κ st2)
        (h st2 d2 ag2 (since_both program code callers size count first scope level within own t p.temps q.temps p.items T st st1 st2 d d1 d2 asks.grows drops.grows s1
        (since_more program code callers size count first scope level within own p.temps q.temps q.temps q.items (Label l ∷ []) st1 d1 st2 d2 (omega arith) s2)))))) in
        bind_up k p.items T is d _ (sides stop asks k le is κ res1 st d ag out into);
  }
    where
      sides : (stop : Bool) → AsksIt p stop l t m → (k : Depth) → Under k level → (is : List Item) (κ : State → Runs) → Resolves code (p.items ++ ((q.items ++ (Label l ∷ [])) ++ is))
          → (st : State) (d : Desk) → sure st d
          → ((st1 : State) (d1 : Desk) → sure st1 d1 → Since size t p.temps p.items st d st1 d1 → Leads k (κ st1) (one_tree (to_label program code callers l ((q.items ++ (Label l ∷ [])) ++ is) d1)))
          → ((st1 : State) (d1 : Desk) → sure st1 d1 → Since size t p.temps p.items st d st1 d1 → Leads k (n (λ y. κ) st1) (one_tree (going ((q.items ++ (Label l ∷ [])) ++ is) d1)))
          → Leads k (Chained stop m n (λ v. κ) st) (going (p.items ++ ((q.items ++ (Label l ∷ [])) ++ is)) d)
      sides true asks k le is κ res st d ag out into = asks.runs k le ((q.items ++ (Label l ∷ [])) ++ is) κ (n (λ y. κ)) res st d ag out into
      sides false asks k le is κ res st d ag out into = asks.runs k le ((q.items ++ (Label l ∷ [])) ++ is) (n (λ y. κ)) κ res st d ag out into

  pub chain_does : (stop : Bool) (a b : Lowering) (m n : Rest → State → Runs) → WayIt a m → WayIt b n → WayIt (conditional (chain stop a b) (chain_drop a stop b)) (Chained stop m n)
  chain_does stop a b m n does does' =
      conditional_does (chain stop a b) (chain_drop a stop b) (Chained stop m n) (chain_logic stop m n)
      (λ sense to t l sz. chain_asks stop sense a b to t l m n sz does does')
      (λ t l sz.
      let p = a.branch stop l t (suc l) in
      let one = does.branch stop l t (suc l) sz in
      chain_drops_by stop l p (b.drop p.temps p.labels) t m n one (does'.drop p.temps p.labels (omega (arith, one.grows))))

  -- one of two values
  abbrev pub Chosen : (Rest → State → Runs) → (Rest → State → Runs) → (Rest → State → Runs) → Rest → State → Runs
  Chosen m n o κ = m (λ x st. chosen x (n κ st) (o κ st))

  choose_low_does : (t l : ℕ) (p : Emitted) (q r : Lowered) (m n o : Rest → State → Runs) → first ≤ t → AsksIt p false l (suc t) m → LowIt q p.temps n → LowIt r q.temps o
      → LowIt (choose_low t l p q r) t (Chosen m n o)
  choose_low_does t l p q r m n o sz asks does does' = record {
    grows = omega (arith, asks.grows, does.grows, does'.grows);
    below = omega (arith, asks.grows, does.grows, does'.grows);
    small = tt;
    runs = λ k le is κ res st d ag h.
        let T3 : List Item = AssignLoc t r.tree ∷ Label (suc l) ∷ [] in
        let T2 : List Item = AssignLoc t q.tree ∷ Jump (suc l) ∷ Label l ∷ (r.items ++ T3) in
        let T1 : List Item = q.items ++ T2 in
        let res0 = resolves_split code p.items T1 is res in
        let res1 = resolves_split code q.items T2 is (resolves_back code p.items (T1 ++ is) res0) in
        let res2 = resolves_back code q.items (T2 ++ is) res1 in
        let else_at : behind code l ≡ spelled_all ((r.items ++ T3) ++ is) = res2.1.1.0 in
        let res3 = resolves_split code r.items T3 is res2.1.1.1 in
        let end_at : behind code (suc l) ≡ spelled_all is = (resolves_back code r.items (T3 ++ is) res3).1.0 in
        let since : (d' : Desk) (st' : State) → ((j : ℕ) → size ≤ j → (j < t) ⊎ (r.temps ≤ j) → d'.locals j ≡ d.locals j)
        → Since size t r.temps (p.items ++ T1) st d st' d' = λ d' st' kept.
        record { keeps = kept; same = λ e. absurd (not_nil q.items (AssignLoc t q.tree) (Jump (suc l) ∷ Label l ∷ (r.items ++ T3)) (back_nil p.items T1 e)) } in
        bind_up k p.items T1 is d _ (asks.runs k le (T1 ++ is) (n κ) (o κ) res0 st d ag
        (λ st1 d1 ag1 s1. goes_on program code callers k l (T1 ++ is) d1 _
        (ahead_joined l q.items T2 is (ahead_behind l q.items (T2 ++ is) (ahead_behind l (AssignLoc t q.tree ∷ Jump (suc l) ∷ []) (Label l ∷ ((r.items ++ T3) ++ is))
        (ahead_here l ((r.items ++ T3) ++ is)))))
        (moves program code callers k (behind code l) (spelled_all ((r.items ++ T3) ++ is)) d1 _ else_at
        (bind_up k r.items T3 is d1 _ (does'.runs k le (T3 ++ is) κ res3 st1 d1 ag1
        (λ st2 d2 ag2 s2. save_temp program code callers size count first scope level within own k t r.tree (Label (suc l) ∷ is) (λ v. κ v st2) st2 d2 sz does'.small ag2
        (λ v lt e ag3.
        let d3 : Desk = record d2 { locals = with_local d2.locals t v } in
        label_step program code callers k (suc l) is d3 _
        (use_number program code callers size count first scope level within own k (d3.locals t) v is κ st2 d3 (set_same d2.locals t v)
        (h st2 d3 ag3 (since d3 st2 (λ j szj o. set_other d2.locals t v j (λ e. ⊎_elim (λ lt. omega arith) (λ ge. omega (arith, asks.grows, does.grows, does'.grows)) o)
        ∙ s2.keeps j szj (⊎_elim (λ lt. inl (omega (arith, asks.grows, does.grows))) (λ ge. inr ge) o)
        ∙ s1.keeps j szj (⊎_elim (λ lt. inl (omega arith)) (λ ge. inr (omega (arith, does.grows, does'.grows))) o)))))))))))
        (λ st1 d1 ag1 s1. leads_quiet k _ _ (bind_up k q.items T2 is d1 _ (does.runs k le (T2 ++ is) κ res1 st1 d1 ag1
        (λ st2 d2 ag2 s2. save_temp program code callers size count first scope level within own k t q.tree (Jump (suc l) ∷ Label l ∷ ((r.items ++ T3) ++ is)) (λ v. κ v st2) st2 d2 sz does.small ag2
        (λ v lt e ag3.
        let d3 : Desk = record d2 { locals = with_local d2.locals t v } in
        jump_step program code callers k (suc l) (Label l ∷ ((r.items ++ T3) ++ is)) _ d3
        (ahead_later (suc l) (Label l) ((r.items ++ T3) ++ is) (ahead_joined (suc l) r.items T3 is (ahead_behind (suc l) r.items (T3 ++ is)
        (ahead_later (suc l) (AssignLoc t r.tree) (Label (suc l) ∷ is) (ahead_here (suc l) is)))))
        (moves program code callers k (behind code (suc l)) (spelled_all is) d3 _ end_at
        (use_number program code callers size count first scope level within own k (d3.locals t) v is κ st2 d3 (set_same d2.locals t v)
        (h st2 d3 ag3 (since d3 st2 (λ j szj o. set_other d2.locals t v j (λ e. ⊎_elim (λ lt. omega arith) (λ ge. omega (arith, asks.grows, does.grows, does'.grows)) o)
        ∙ s2.keeps j szj (⊎_elim (λ lt. inl (omega (arith, asks.grows))) (λ ge. inr (omega (arith, does'.grows))) o)
        ∙ s1.keeps j szj (⊎_elim (λ lt. inl (omega arith)) (λ ge. inr (omega (arith, does.grows, does'.grows))) o))))))))))));
  }

  choose_drop_does : (t l : ℕ) (p q r : Emitted) (m n o : Rest → State → Runs) → AsksIt p false l t m → DropsIt q p.temps n → DropsIt r q.temps o → DropsIt (choose_drop l p q r) t (Chosen m n o)
  choose_drop_does t l p q r m n o asks drops drops' = record {
    grows = omega (arith, asks.grows, drops.grows, drops'.grows);
    runs = λ k le is κ res st d ag h.
        let T3 : List Item = Label (suc l) ∷ [] in
        let T2 : List Item = Jump (suc l) ∷ Label l ∷ (r.items ++ T3) in
        let T1 : List Item = q.items ++ T2 in
        let res0 = resolves_split code p.items T1 is res in
        let res1 = resolves_split code q.items T2 is (resolves_back code p.items (T1 ++ is) res0) in
        let res2 = resolves_back code q.items (T2 ++ is) res1 in
        let else_at : behind code l ≡ spelled_all ((r.items ++ T3) ++ is) = res2.1.0 in
        let res3 = resolves_split code r.items T3 is res2.1.1 in
        let end_at : behind code (suc l) ≡ spelled_all is = (resolves_back code r.items (T3 ++ is) res3).0 in
        let since : (d' : Desk) (st' : State) → ((j : ℕ) → size ≤ j → (j < t) ⊎ (r.temps ≤ j) → d'.locals j ≡ d.locals j)
        → Since size t r.temps (p.items ++ T1) st d st' d' = λ d' st' kept.
        record { keeps = kept; same = λ e. absurd (not_nil q.items (Jump (suc l)) (Label l ∷ (r.items ++ T3)) (back_nil p.items T1 e)) } in
        bind_up k p.items T1 is d _ (asks.runs k le (T1 ++ is) (n (λ v. κ)) (o (λ v. κ)) res0 st d ag
        (λ st1 d1 ag1 s1. goes_on program code callers k l (T1 ++ is) d1 _
        (ahead_joined l q.items T2 is (ahead_behind l q.items (T2 ++ is) (ahead_behind l (Jump (suc l) ∷ []) (Label l ∷ ((r.items ++ T3) ++ is)) (ahead_here l ((r.items ++ T3) ++ is)))))
        (moves program code callers k (behind code l) (spelled_all ((r.items ++ T3) ++ is)) d1 _ else_at
        (bind_up k r.items T3 is d1 _ (drops'.runs k le (T3 ++ is) κ res3 st1 d1 ag1
        (λ st2 d2 ag2 s2. label_step program code callers k (suc l) is d2 _
        (h st2 d2 ag2 (since d2 st2 (λ j szj o. s2.keeps j szj (⊎_elim (λ lt. inl (omega (arith, asks.grows, drops.grows))) (λ ge. inr ge) o)
        ∙ s1.keeps j szj (⊎_elim (λ lt. inl lt) (λ ge. inr (omega (arith, drops.grows, drops'.grows))) o)))))))))
        (λ st1 d1 ag1 s1. leads_quiet k _ _ (bind_up k q.items T2 is d1 _ (drops.runs k le (T2 ++ is) κ res1 st1 d1 ag1
        (λ st2 d2 ag2 s2. jump_step program code callers k (suc l) (Label l ∷ ((r.items ++ T3) ++ is)) _ d2
        (ahead_later (suc l) (Label l) ((r.items ++ T3) ++ is) (ahead_joined (suc l) r.items T3 is (ahead_behind (suc l) r.items (T3 ++ is) (ahead_here (suc l) is))))
        (moves program code callers k (behind code (suc l)) (spelled_all is) d2 _ end_at
        (h st2 d2 ag2 (since d2 st2 (λ j szj o. s2.keeps j szj (⊎_elim (λ lt. inl (omega (arith, asks.grows))) (λ ge. inr (omega (arith, drops'.grows))) o)
        ∙ s1.keeps j szj (⊎_elim (λ lt. inl lt) (λ ge. inr (omega (arith, drops.grows, drops'.grows))) o))))))))));
  }

  choose_into_does : (x t l : ℕ) (p q r : Emitted) (m n o : Rest → State → Runs) → AsksIt p false l t m → DeliversIt (InLocal x) q p.temps n → DeliversIt (InLocal x) r q.temps o
      → DeliversIt (InLocal x) (choose_drop l p q r) t (Chosen m n o)
  choose_into_does x t l p q r m n o asks does does' = record {
    grows = omega (arith, asks.grows, does.grows, does'.grows);
    some = λ e. not_nil q.items (Jump (suc l)) (Label l ∷ (r.items ++ (Label (suc l) ∷ []))) (back_nil p.items (q.items ++ (Jump (suc l) ∷ Label l ∷ (r.items ++ (Label (suc l) ∷ [])))) e);
    runs = λ k le is κ res st d ag h.
        let T3 : List Item = Label (suc l) ∷ [] in
        let T2 : List Item = Jump (suc l) ∷ Label l ∷ (r.items ++ T3) in
        let T1 : List Item = q.items ++ T2 in
        let res0 = resolves_split code p.items T1 is res in
        let res1 = resolves_split code q.items T2 is (resolves_back code p.items (T1 ++ is) res0) in
        let res2 = resolves_back code q.items (T2 ++ is) res1 in
        let else_at : behind code l ≡ spelled_all ((r.items ++ T3) ++ is) = res2.1.0 in
        let res3 = resolves_split code r.items T3 is res2.1.1 in
        let end_at : behind code (suc l) ≡ spelled_all is = (resolves_back code r.items (T3 ++ is) res3).0 in
        bind_up k p.items T1 is d _ (asks.runs k le (T1 ++ is) (n κ) (o κ) res0 st d ag
        (λ st1 d1 ag1 s1. goes_on program code callers k l (T1 ++ is) d1 _
        (ahead_joined l q.items T2 is (ahead_behind l q.items (T2 ++ is) (ahead_behind l (Jump (suc l) ∷ []) (Label l ∷ ((r.items ++ T3) ++ is)) (ahead_here l ((r.items ++ T3) ++ is)))))
        (moves program code callers k (behind code l) (spelled_all ((r.items ++ T3) ++ is)) d1 _ else_at
        (bind_up k r.items T3 is d1 _ (does'.runs k le (T3 ++ is) κ res3 st1 d1 ag1
        (λ v st2 d2 lt ag2 kept. label_step program code callers k (suc l) is (record d2 { locals = with_local d2.locals x v }) _
        (h v st2 d2 lt ag2 (λ j szj o. kept j szj (⊎_elim (λ lt. inl (omega (arith, asks.grows, does.grows))) (λ ge. inr ge) o)
        ∙ s1.keeps j szj (⊎_elim (λ lt. inl lt) (λ ge. inr (omega (arith, does.grows, does'.grows))) o))))))))
        (λ st1 d1 ag1 s1. leads_quiet k _ _ (bind_up k q.items T2 is d1 _ (does.runs k le (T2 ++ is) κ res1 st1 d1 ag1
        (λ v st2 d2 lt ag2 kept. jump_step program code callers k (suc l) (Label l ∷ ((r.items ++ T3) ++ is)) _ (record d2 { locals = with_local d2.locals x v })
        (ahead_later (suc l) (Label l) ((r.items ++ T3) ++ is) (ahead_joined (suc l) r.items T3 is (ahead_behind (suc l) r.items (T3 ++ is) (ahead_here (suc l) is))))
        (moves program code callers k (behind code (suc l)) (spelled_all is) (record d2 { locals = with_local d2.locals x v }) _ end_at
        (h v st2 d2 lt ag2 (λ j szj o. kept j szj (⊎_elim (λ lt. inl (omega (arith, asks.grows))) (λ ge. inr (omega (arith, does'.grows))) o)
        ∙ s1.keeps j szj (⊎_elim (λ lt. inl lt) (λ ge. inr (omega (arith, does.grows, does'.grows))) o)))))))));
  }

  -- where the function is left no jump stands behind the first value
  abbrev LeavesIt : Destination → Type 0
  LeavesIt to = (k : Depth) (t u t' u' : ℕ) (is js : List Item) (d d' : Desk) (κ : Rest) → Arrives program code callers size count first scope level to k t u is d κ
      → Arrives program code callers size count first scope level to k t' u' js d' κ

  choose_leave_does : (to : Destination) → LeavesIt to → (t l : ℕ) (p q r : Emitted) (m n o : Rest → State → Runs) → AsksIt p false l t m → DeliversIt to q p.temps n → DeliversIt to r q.temps o
      → DeliversIt to (choose_leave l p q r) t (Chosen m n o)
  choose_leave_does to leaves t l p q r m n o asks does does' = record {
    grows = omega (arith, asks.grows, does.grows, does'.grows);
    some = λ e. not_nil q.items (Label l) r.items (back_nil p.items (q.items ++ (Label l ∷ r.items)) e);
    runs = λ k le is κ res st d ag h.
        let T2 : List Item = Label l ∷ r.items in
        let T1 : List Item = q.items ++ T2 in
        let res0 = resolves_split code p.items T1 is res in
        let res1 = resolves_split code q.items T2 is (resolves_back code p.items (T1 ++ is) res0) in
        let res2 = resolves_back code q.items (T2 ++ is) res1 in
        let else_at : behind code l ≡ spelled_all (r.items ++ is) = res2.0 in
        bind_up k p.items T1 is d _ (asks.runs k le (T1 ++ is) (n κ) (o κ) res0 st d ag
        (λ st1 d1 ag1 s1. goes_on program code callers k l (T1 ++ is) d1 _
        (ahead_joined l q.items T2 is (ahead_behind l q.items (T2 ++ is) (ahead_here l (r.items ++ is))))
        (moves program code callers k (behind code l) (spelled_all (r.items ++ is)) d1 _ else_at (does'.runs k le is κ res2.1 st1 d1 ag1 (leaves k t r.temps q.temps r.temps is is d d1 κ h))))
        (λ st1 d1 ag1 s1. leads_quiet k _ _ (bind_up k q.items T2 is d1 _ (does.runs k le (T2 ++ is) κ res1 st1 d1 ag1 (leaves k t r.temps p.temps q.temps is (T2 ++ is) d d1 κ h)))));
  }

  choose_deliver_does : (to : Destination) (t l : ℕ) (p q r : Emitted) (m n o : Rest → State → Runs) → AsksIt p false l t m → DeliversIt to q p.temps n → DeliversIt to r q.temps o
      → DeliversIt to (choose_deliver to l p q r) t (Chosen m n o)
  choose_deliver_does (InLocal x) t l p q r m n o asks does does' = choose_into_does x t l p q r m n o asks does does'
  choose_deliver_does AsResult t l p q r m n o asks does does' = choose_leave_does AsResult (λ k t u t' u' is js d d' κ h. h) t l p q r m n o asks does does'
  choose_deliver_does (Releasing pointer x) t l p q r m n o asks does does' = choose_leave_does (Releasing pointer x) (λ k t u t' u' is js d d' κ h. h) t l p q r m n o asks does does'

  choice_does : (c a b : Lowering) (m n o : Rest → State → Runs) → WayIt c m → WayIt a n → WayIt b o → (t l : ℕ) → first ≤ t → LowIt ((choose c a b).low t l) t (Chosen m n o)
  choice_does c a b m n o one two three t l sz =
      let p = c.branch false l (suc t) (suc (suc l)) in
      let f = one.branch false l (suc t) (suc (suc l)) (omega arith) in
      let q = a.low p.temps p.labels in
      let g = two.low p.temps p.labels (omega (arith, f.grows)) in
      choose_low_does t l p q (b.low q.temps q.labels) m n o sz f g (three.low q.temps q.labels (omega (arith, f.grows, g.grows)))

  pub choose_does : (c a b : Lowering) (m n o : Rest → State → Runs) → WayIt c m → WayIt a n → WayIt b o → WayIt (choose c a b) (Chosen m n o)
  choose_does c a b m n o one two three = record {
    low = choice_does c a b m n o one two three;
    branch = λ sense to t l sz. test_asks program code callers size count first scope level within own sense to ((choose c a b).low t l) t (Chosen m n o)
        (choice_does c a b m n o one two three t l sz);
    drop = λ t l sz.
        let p = c.branch false l t (suc (suc l)) in
        let f = one.branch false l t (suc (suc l)) sz in
        let q = a.drop p.temps p.labels in
        let g = two.drop p.temps p.labels (omega (arith, f.grows)) in
        choose_drop_does t l p q (b.drop q.temps q.labels) m n o f g (three.drop q.temps q.labels (omega (arith, f.grows, g.grows)));
    deliver = λ to t l sz.
        let p = c.branch false l t (suc (suc l)) in
        let f = one.branch false l t (suc (suc l)) sz in
        let q = a.deliver to p.temps p.labels in
        let g = two.deliver to p.temps p.labels (omega (arith, f.grows)) in
        choose_deliver_does to t l p q (b.deliver to q.temps q.labels) m n o f g (three.deliver to q.temps q.labels (omega (arith, f.grows, g.grows)));
  }

  comma_low : (p : Emitted) (q : Lowered) (t : ℕ) (m n : Rest → State → Runs) → DropsIt p t m → LowIt q p.temps n → LowIt (with_done p q) t (λ κ. m (λ x. n κ))
  comma_low p q t m n drops does = record {
    grows = omega (arith, drops.grows, does.grows);
    below = does.below;
    small = does.small;
    runs = λ k le is κ res st d ag h.
        let res1 = resolves_split code p.items q.items is res in
        bind_up k p.items q.items is d _ (drops.runs k le (q.items ++ is) (n κ) res1 st d ag
        (λ st1 d1 ag1 s1. does.runs k le is κ (resolves_back code p.items (q.items ++ is) res1) st1 d1 ag1
        (λ st2 d2 ag2 s2. h st2 d2 ag2 (since_both program code callers size count first scope level within own t p.temps q.temps p.items q.items st st1 st2 d d1 d2 drops.grows does.grows s1 s2))));
  }

  comma_asks : (p q : Emitted) (sense : Bool) (to t : ℕ) (m n : Rest → State → Runs) → DropsIt p t m → AsksIt q sense to p.temps n → AsksIt (then_done p q) sense to t (λ κ. m (λ x. n κ))
  comma_asks p q sense to t m n drops asks = record {
    grows = omega (arith, drops.grows, asks.grows);
    runs = λ k le is met unmet res st d ag taken falls.
        let res1 = resolves_split code p.items q.items is res in
        bind_up k p.items q.items is d _ (drops.runs k le (q.items ++ is) (n (λ v st. chosen v (met st) (unmet st))) res1 st d ag
        (λ st1 d1 ag1 s1. asks.runs k le is met unmet (resolves_back code p.items (q.items ++ is) res1) st1 d1 ag1
        (λ st2 d2 ag2 s2. taken st2 d2 ag2
        (since_both program code callers size count first scope level within own t p.temps q.temps p.items q.items st st1 st2 d d1 d2 drops.grows asks.grows s1 s2))
        (λ st2 d2 ag2 s2. falls st2 d2 ag2 (since_both program code callers size count first scope level within own t p.temps q.temps p.items q.items st st1 st2 d d1 d2 drops.grows asks.grows s1
        s2))));
  }

  comma_delivers : (to : Destination) (p q : Emitted) (t : ℕ) (m n : Rest → State → Runs) → DropsIt p t m → DeliversIt to q p.temps n → DeliversIt to (then_done p q) t (λ κ. m (λ x. n κ))
  comma_delivers to p q t m n drops does = record {
    grows = omega (arith, drops.grows, does.grows);
    some = λ e. does.some (back_nil p.items q.items e);
    runs = λ k le is κ res st d ag h.
        let res1 = resolves_split code p.items q.items is res in
        bind_up k p.items q.items is d _ (drops.runs k le (q.items ++ is) (n κ) res1 st d ag
        (λ st1 d1 ag1 s1. does.runs k le is κ (resolves_back code p.items (q.items ++ is) res1) st1 d1 ag1
        (arrives_behind program code callers size count first scope level within own to k t p.temps q.temps is κ d d1 drops.grows does.grows s1.keeps h)));
  }

  pub comma_does : (a b : Lowering) (m n : Rest → State → Runs) → WayIt a m → WayIt b n → WayIt (comma a b) (λ κ. m (λ x. n κ))
  comma_does a b m n does does' = record {
    low = λ t l sz. let f = does.drop t l sz in let p = a.drop t l in comma_low p (b.low p.temps p.labels) t m n f (does'.low p.temps p.labels (omega (arith, f.grows)));
    branch = λ sense to t l sz. let f = does.drop t l sz in let p = a.drop t l in
        comma_asks p (b.branch sense to p.temps p.labels) sense to t m n f (does'.branch sense to p.temps p.labels (omega (arith, f.grows)));
    drop = λ t l sz. let f = does.drop t l sz in let p = a.drop t l in
        let both = then_drops p (b.drop p.temps p.labels) t m n f (does'.drop p.temps p.labels (omega (arith, f.grows))) in
        record { grows = both.grows; runs = λ k le is κ res st d ag h. both.runs k le is κ res st d ag h };
    deliver = λ to t l sz. let f = does.drop t l sz in let p = a.drop t l in
        comma_delivers to p (b.deliver to p.temps p.labels) t m n f (does'.deliver to p.temps p.labels (omega (arith, f.grows)));
  }
