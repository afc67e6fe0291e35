-- What it says of items that they do what a phrase means.
use Rattle.std.proofs.Common.{◌≡◌, ℕ, zero, suc, ◌≤◌, ◌<◌, ◌^◌, List, [], ◌∷◌, ◌++◌, length, Some, None, refl, ap, arith, sym, ◌∙◌, subst, ◌⊎◌, inl, inr, ⊎_elim, append_assoc}
use Rattle.std.specs.Prelude.{Bool, true, false, cond, ◌==◌, ◌-◌, slice_get}
use Rattle.std.proofs.lemmas.Bool.{or_parts, not-false, not-true, eqb-true, eqb-false}
use Rattle.gg_base.specs.declared.run.End.TheVariants as ends
use Rattle.gg_base.specs.declared.relation.Rel.TheVariants as relations
use Rattle.gg_base.specs.Runs.{Runs, stop}
use Rattle.gg_base.specs.declared.size.Size.TheVariants as sizes
use Rattle.gg_base.specs.LittleEndian.{with_number}
use Rattle.tree_core.specs.declared.program.TreeItem.{TreeItem}
use Rattle.tree_core.specs.declared.program.TreeProgram.{TreeProgram}
use Rattle.tree_core.specs.Area.{stored, is_inside}
use Rattle.tree_meaning.specs.declared.value.Value.{Value}
use Rattle.tree_meaning.specs.declared.value.Value.TheVariants.{Number, ZeroDivisor, Wild}
use Rattle.tree_meaning.specs.State.{Activation, with_local, returned}
use Rattle.tree_meaning.specs.Values.{there, address_of as object_address}
use Rattle.tree_counts.specs.Counted.{tallies as left_runs}
use Rattle.c_types.specs.declared.types.Integer.TheVariants as ints
use Rattle.c_meaning.specs.State.{State}
use Rattle.c_meaning.specs.Values.{Rest, chosen}
use Rattle.c_sound.specs.Fits.{AreBytes, no_local}
use Rattle.c_lower_scheme.specs.Trees.{Tree, Num, Gaddr, Loc, Item, AssignLoc, AssignMem, Cbr, Ret, divides, reads, breaks, stable}
use Rattle.c_lower_scheme.specs.Spelling.{spelled_all}
use Rattle.c_lower_scheme.specs.Parts.{Lowered, Pair, Emitted, Lowering, due, over, over_two, Destination, InLocal, AsResult, Releasing, delivered}
use Rattle.c_lower_scheme.specs.Saving.{saving, saved, next_if}
use Rattle.c_lower_scheme.specs.Conditions.{valued, effective, mapped, test}
use Rattle.c_lower_scheme.specs.Values.{must, join_so, join, binary, joined}
use Rattle.c_lower_scheme.proofs.Facts.{stable_inert, must_not}
use Rattle.c_lower_follows.proofs.Values.{SmallTree, Small, worth_small, Ranged}
use Rattle.c_lower_counts.proofs.Leads.{Leads, one_tree, leads_wild, Depth, Under}
use Rattle.c_lower_follows.proofs.Steps.{Desk, desk_sight, on, Resolves, resolves_back, resolves_split}
use Rattle.c_lower_counts.proofs.Steps.{at, written_at, moves, lost, assign_loc_step, assign_mem_step, cbr_step, ret_step, to_label}
use Rattle.c_lower_follows.proofs.Areas.{stored_bytes}
use Rattle.c_lower_follows.proofs.Agreeing.{Below, below_more, value, value_stable, value_pure, Agree, Since, since_start, agree_temp, set_same, set_other, not_nil, front_nil, back_nil}
use Rattle.c_lower_follows.proofs.Agreeing.{value_unread, IsArea, extent_of}
use Rattle.c_lower_follows.proofs.Doing.{either_way}
use Rattle.c_lower_follows.proofs.Scopes.{agree_less}

-- A block can be given back: the stack's pointer, an object, lies in the data area, and the local behind the function's own keeps the block's address.
pub record Opens (program : TreeProgram) (size first pointer n : ℕ) : Type 0 where
  pub local : n ≡ size
  pub blocked : size < first
  pub address : ℕ
  pub stands : object_address (slice_get program.objects pointer) 0 ≡ Number address
  pub inside : (area : List ℕ) → length area ≡ extent_of program → is_inside sizes.Long area address ≡ true

-- The program of trees, the function's items, those who wait; the function's number of locals, and which of them are in scope; the bound on counted turns.
module _ (program : TreeProgram) (code : List TreeItem) (callers : List Activation) (size count first : ℕ) (scope : ℕ → Type 0) (level : Depth) where
  abbrev pub Agrees : State → Desk → Type 0
  Agrees st d = Agree (extent_of program) size first scope (length callers) st d

  abbrev pub here : List Item → Desk → Runs
  here is d = at program code callers is d

  -- what follows is followed from each state in which the items can leave
  abbrev pub Onto : (k : Depth) (t u : ℕ) (items is : List Item) (st : State) (d : Desk) (r : State → Desk → Runs) → Type 0
  Onto k t u items is st d r = (st' : State) (d' : Desk) → Agrees st' d' → Since size t u items st d st' d' → Leads k (r st' d') (here is d')

  pub record Does (p : Lowered) (t : ℕ) (m : Rest → State → Runs) : Type 0 where
    pub grows : t ≤ p.temps
    pub below : Below p.temps p.tree
    pub small : SmallTree p.tree
    pub runs : (k : Depth) → Under k level → (is : List Item) (κ : Rest) → Resolves code (p.items ++ is) → (st : State) (d : Desk) → Agrees st d
        → Onto k t p.temps p.items is st d (λ st' d'. on (value program p.tree d') (λ v. κ v st')) → Leads k (m κ st) (here (p.items ++ is) d)

  pub record DoesTwo (p : Pair) (t : ℕ) (m : (ℕ → Rest) → State → Runs) : Type 0 where
    pub grows : t ≤ p.temps
    pub below_first : Below p.temps p.first
    pub below_second : Below p.temps p.second
    pub small_first : SmallTree p.first
    pub small_second : SmallTree p.second
    pub runs : (k : Depth) → Under k level → (is : List Item) (κ : ℕ → Rest) → Resolves code (p.items ++ is) → (st : State) (d : Desk) → Agrees st d
        → Onto k t p.temps p.items is st d (λ st' d'. on (value program p.first d') (λ x. on (value program p.second d') (λ y. κ x y st'))) → Leads k (m κ st) (here (p.items ++ is) d)

  -- for the effect alone
  pub record Drops (p : Emitted) (t : ℕ) (m : Rest → State → Runs) : Type 0 where
    pub grows : t ≤ p.temps
    pub runs : (k : Depth) → Under k level → (is : List Item) (κ : State → Runs) → Resolves code (p.items ++ is) → (st : State) (d : Desk) → Agrees st d
        → Onto k t p.temps p.items is st d (λ st' d'. κ st') → Leads k (m (λ v. κ) st) (here (p.items ++ is) d)

  -- as a condition: each way leaves by a tree that is still to be done, before a run
  abbrev pub Out : (k : Depth) (t u : ℕ) (items : List Item) (st : State) (d : Desk) (r : State → Runs) (way : Desk → Runs) → Type 0
  Out k t u items st d r way = (st' : State) (d' : Desk) → Agrees st' d' → Since size t u items st d st' d' → Leads k (r st') (one_tree (way d'))

  pub record Asks (p : Emitted) (sense : Bool) (to t : ℕ) (m : Rest → State → Runs) : Type 0 where
    pub grows : t ≤ p.temps
    pub runs : (k : Depth) → Under k level → (is : List Item) (met unmet : State → Runs) → Resolves code (p.items ++ is) → (st : State) (d : Desk) → Agrees st d
        → Out k t p.temps p.items st d (either_way sense met unmet) (to_label program code callers to is)
        → Out k t p.temps p.items st d (either_way sense unmet met) (here is)
        → Leads k (m (λ v st. chosen v (met st) (unmet st)) st) (here (p.items ++ is) d)

  -- At a destination: the items leave with the value in a local, or to the caller; or the block is still to be given back before that.
  abbrev pub Arrives : Destination → (k : Depth) (t u : ℕ) (is : List Item) (d : Desk) (κ : Rest) → Type 0
  Arrives (InLocal n) k t u is d κ = (v : ℕ) (st' : State) (d' : Desk) → v < 2 ^ 32 → Agrees st' d' → ((j : ℕ) → size ≤ j → (j < t) ⊎ (u ≤ j) → d'.locals j ≡ d.locals j)
      → Leads k (κ v st') (here is (record d' { locals = with_local d'.locals n v }))
  Arrives AsResult k t u is d κ =
      (v : ℕ) (st' : State) → v < 2 ^ 32 → IsArea (extent_of program) st'.area → AreBytes st'.input → Leads k (κ v st') (left_runs program (returned v callers st'.area st'.input))
  Arrives (Releasing pointer n) k t u is d κ = Opens program size first pointer n × ((v : ℕ) (w : Tree) (js : List Item) (st' : State) (d' : Desk) → v < 2 ^ 32 → SmallTree w →
      ((area : List ℕ) → value program w (record d' { area = area }) ≡ Number v)
      → Agree (extent_of program) size first no_local (length callers) st' d' → Leads k (κ v st') (here (AssignMem ints.Int (Gaddr pointer) (Loc n) ∷ Ret w ∷ js) d'))

  pub record Delivers (to : Destination) (p : Emitted) (t : ℕ) (m : Rest → State → Runs) : Type 0 where
    pub grows : t ≤ p.temps
    pub some : p.items ≡ [] → ⊥
    pub runs : (k : Depth) → Under k level → (is : List Item) (κ : Rest) → Resolves code (p.items ++ is) → (st : State) (d : Desk) → Agrees st d
        → Arrives to k t p.temps is d κ → Leads k (m κ st) (here (p.items ++ is) d)

  pub record DoesWay (w : Lowering) (m : Rest → State → Runs) : Type 0 where
    pub low : (t l : ℕ) → first ≤ t → Does (w.low t l) t m
    pub branch : (sense : Bool) (to t l : ℕ) → first ≤ t → Asks (w.branch sense to t l) sense to t m
    pub drop : (t l : ℕ) → first ≤ t → Drops (w.drop t l) t m
    pub deliver : (to : Destination) (t l : ℕ) → first ≤ t → Delivers to (w.deliver to t l) t m

  -- the same meaning where the states agree
  pub way_same : (w : Lowering) (m m' : Rest → State → Runs) → ((κ : Rest) (st : State) (d : Desk) → Agrees st d → m κ st ≡ m' κ st) → DoesWay w m → DoesWay w m'
  way_same w m m' same does = record {
    low = λ t l sz. let q = does.low t l sz in record {
      grows = q.grows;
      below = q.below;
      small = q.small;
      runs = λ k le is κ res st d ag h. subst (λ r. Leads k r (here ((w.low t l).items ++ is) d)) (same κ st d ag) (q.runs k le is κ res st d ag h);
    };
    branch = λ sense to t l sz. let q = does.branch sense to t l sz in record {
      grows = q.grows;
      runs = λ k le is met unmet res st d ag taken falls.
          subst (λ r. Leads k r (here ((w.branch sense to t l).items ++ is) d)) (same (λ v st. chosen v (met st) (unmet st)) st d ag) (q.runs k le is met unmet res st d ag taken falls);
    };
    drop = λ t l sz. let q = does.drop t l sz in record {
      grows = q.grows;
      runs = λ k le is κ res st d ag h. subst (λ r. Leads k r (here ((w.drop t l).items ++ is) d)) (same (λ v. κ) st d ag) (q.runs k le is κ res st d ag h);
    };
    deliver = λ to t l sz. let q = does.deliver to t l sz in record {
      grows = q.grows;
      some = q.some;
      runs = λ k le is κ res st d ag h. subst (λ r. Leads k r (here ((w.deliver to t l).items ++ is) d)) (same κ st d ag) (q.runs k le is κ res st d ag h);
    };
  }

  pub assoc : (k : Depth) (a b is : List Item) (d : Desk) (r : Runs) → Leads k r (here (a ++ (b ++ is)) d) → Leads k r (here ((a ++ b) ++ is) d)
  assoc k a b is d r h = moves program code callers k (spelled_all ((a ++ b) ++ is)) (spelled_all (a ++ (b ++ is))) d r (ap spelled_all (append_assoc a b is)) h

  -- in no scope
  of_none : (st : State) (d : Desk) → Agrees st d → Agree (extent_of program) size first no_local (length callers) st d
  of_none st d ag = agree_less (extent_of program) size first (length callers) no_local scope st d (λ x l. absurd l) ag

  module _ (within : (x : ℕ) → scope x → x < size) (own : size ≤ first) where
    -- a value's tree that has no items
    pub due_does : (w : Tree) (t l : ℕ) (m : Rest → State → Runs) → Below t w → SmallTree w
        → ((k : Depth) (is : List Item) (κ : Rest) (st : State) (d : Desk) → Agrees st d → Leads k (on (value program w d) (λ v. κ v st)) (here is d) → Leads k (m κ st) (here is d))
        → Does (due w t l) t m
    due_does w t l m below small same = record { grows = omega arith; below = below; small = small; runs = λ k le is κ res st d ag h. same k is κ st d ag (h st d ag (since_start size t t [] st d)) }

    -- two parts, the first of which is saved
    since_saved : (t p q v : ℕ) (a b : List Item) (i : Item) (st st1 st2 : State) (d d1 d2 : Desk) → t ≤ p → p ≤ q → Since size t p a st d st1 d1
        → Since size p q b st1 (record d1 { locals = with_local d1.locals q v }) st2 d2 → Since size t (suc q) (a ++ (i ∷ b)) st d st2 d2
    since_saved t p q v a b i st st1 st2 d d1 d2 le le' s s' = record {
      keeps = λ j sz o. s'.keeps j sz (⊎_elim (λ lt. inl (omega arith)) (λ ge. inr (omega arith)) o) ∙ set_other d1.locals q v j (λ e. ⊎_elim (λ lt. omega arith) (λ ge. omega arith) o)
          ∙ s.keeps j sz (⊎_elim (λ lt. inl lt) (λ ge. inr (omega arith)) o);
      same = λ e. absurd (not_nil a i b e);
    }

    -- a tree's value is put into a temporary
    pub save_temp : (k : Depth) (n : ℕ) (w : Tree) (is : List Item) (κ : ℕ → Runs) (st : State) (d : Desk) → first ≤ n → SmallTree w → Agrees st d
        → ((v : ℕ) → v < 2 ^ 32 → value program w d ≡ Number v → Agrees st (record d { locals = with_local d.locals n v })
        → Leads k (κ v) (here is (record d { locals = with_local d.locals n v }))) → Leads k (on (value program w d) κ) (here (AssignLoc n w ∷ is) d)
    save_temp k n w is κ st d sz small ag h =
        assign_loc_step program code callers k n w is κ d small ag.ranged
        (λ v e.
        let lt : v < 2 ^ 32 = subst Small e (worth_small program.objects (desk_sight d) ag.ranged w small) in
        h v lt e (agree_temp (extent_of program) size first scope (length callers) within own n v st d sz lt ag))

    two_saved : (p q : Lowered) (t : ℕ) (m n : Rest → State → Runs) → first ≤ t → Does p t m → Does q p.temps n → DoesTwo (join_so size count true p q) t (λ κ. m (λ x. n (κ x)))
    two_saved p q t m n sz does does' = record {
      grows = omega (arith, does.grows, does'.grows);
      below_first = omega arith;
      below_second = below_more q.temps (suc q.temps) q.tree (omega arith) does'.below;
      small_first = tt;
      small_second = does'.small;
      runs = λ k le is κ res st d ag h.
          let i = AssignLoc q.temps p.tree in
          let res' = resolves_split code p.items (i ∷ q.items) is res in
          assoc k p.items (i ∷ q.items) is d _ (does.runs k le (i ∷ (q.items ++ is)) (λ x. n (κ x)) res' st d ag
          (λ st1 d1 ag1 s1. save_temp k q.temps p.tree (q.items ++ is) (λ x. n (κ x) st1) st1 d1 (omega (arith, does.grows, does'.grows)) does.small ag1
          (λ v lt e ag1'. does'.runs k le is (κ v) (resolves_back code p.items (i ∷ (q.items ++ is)) res').1 st1 (record d1 { locals = with_local d1.locals q.temps v }) ag1'
          (λ st2 d2 ag2 s2.
          let kept : d2.locals q.temps ≡ Some v = s2.keeps q.temps (omega (arith, does.grows, does'.grows)) (inr (omega arith)) ∙ set_same d1.locals q.temps v in
          let done = h st2 d2 ag2 (since_saved t p.temps q.temps v p.items q.items i st st1 st2 d d1 d2 does.grows does'.grows s1 s2) in
          subst (λ o. Leads k (on (there o) (λ x. on (value program q.tree d2) (λ y. κ x y st2))) (here is d2)) kept done))));
    }

    -- two parts, where the first waits for the second
    pub waits_by : (p q : Lowered) (n : Rest → State → Runs) (k : Depth) → Under k level → (is : List Item) (κ : ℕ → Rest) (st1 : State) (d1 : Desk) (o : Value) → Does q p.temps n
        → (value program p.tree d1 ≡ ZeroDivisor → Leads k (stop ends.Trapped) (here (q.items ++ is) d1)) → Resolves code (q.items ++ is) → value program p.tree d1 ≡ o → Agrees st1 d1
        → ((v : ℕ) (st2 : State) (d2 : Desk) → value program p.tree d1 ≡ Number v → Agrees st2 d2 → Since size p.temps q.temps q.items st1 d1 st2 d2
        → Leads k (on (value program q.tree d2) (λ y. κ v y st2)) (here is d2)) → Leads k (on o (λ x. n (κ x) st1)) (here (q.items ++ is) d1)
    waits_by p q n k le is κ st1 d1 (Number v) does' trap res e ag h = does'.runs k le is (κ v) res st1 d1 ag (λ st2 d2 ag2 s2. h v st2 d2 e ag2 s2)
    waits_by p q n k le is κ st1 d1 ZeroDivisor does' trap res e ag h = trap e
    waits_by p q n k le is κ st1 d1 Wild does' trap res e ag h = lost program code callers k (spelled_all (q.items ++ is)) d1

    pub since_both : (t p q : ℕ) (a b : List Item) (st st1 st2 : State) (d d1 d2 : Desk) → t ≤ p → p ≤ q → Since size t p a st d st1 d1 → Since size p q b st1 d1 st2 d2
        → Since size t q (a ++ b) st d st2 d2
    since_both t p q a b st st1 st2 d d1 d2 le le' s s' = record {
      keeps = λ j sz o. s'.keeps j sz (⊎_elim (λ lt. inl (omega arith)) (λ ge. inr (omega arith)) o) ∙ s.keeps j sz (⊎_elim (λ lt. inl lt) (λ ge. inr (omega arith)) o);
      same = λ e. let h = s.same (front_nil a b e) in let g = s'.same (back_nil a b e) in (g.0 ∙ h.0, g.1 ∙ h.1);
    }

    two_stable : (p q : Lowered) (t : ℕ) (m n : Rest → State → Runs) → stable size p.tree ≡ true → Does p t m → Does q p.temps n → DoesTwo (join_so size count false p q) t (λ κ. m (λ x. n (κ x)))
    two_stable p q t m n stays does does' = record {
      grows = omega (arith, does.grows, does'.grows);
      below_first = below_more p.temps q.temps p.tree does'.grows does.below;
      below_second = does'.below;
      small_first = does.small;
      small_second = does'.small;
      runs = λ k le is κ res st d ag h.
          let res' = resolves_split code p.items q.items is res in
          assoc k p.items q.items is d _ (does.runs k le (q.items ++ is) (λ x. n (κ x)) res' st d ag
          (λ st1 d1 ag1 s1. waits_by p q n k le is κ st1 d1 (value program p.tree d1) does' (λ e. absurd (value_pure program p.tree d1 (stable_inert size p.tree stays) e))
          (resolves_back code p.items (q.items ++ is) res') refl ag1
          (λ v st2 d2 e ag2 s2.
          let kept : value program p.tree d2 ≡ Number v = value_stable program size p.temps p.tree d1 d2 stays does.below (λ j sz lt. s2.keeps j sz (inl lt)) ∙ e in
          subst (λ o. Leads k (on o (λ x. on (value program q.tree d2) (λ y. κ x y st2))) (here is d2)) kept
          (h st2 d2 ag2 (since_both t p.temps q.temps p.items q.items st st1 st2 d d1 d2 does.grows does'.grows s1 s2)))));
    }

    two_quiet : (p q : Lowered) (t : ℕ) (m n : Rest → State → Runs) → q.items ≡ [] → Does p t m → Does q p.temps n → DoesTwo (join_so size count false p q) t (λ κ. m (λ x. n (κ x)))
    two_quiet p q t m n none does does' = record {
      grows = omega (arith, does.grows, does'.grows);
      below_first = below_more p.temps q.temps p.tree does'.grows does.below;
      below_second = does'.below;
      small_first = does.small;
      small_second = does'.small;
      runs = λ k le is κ res st d ag h.
          let res' = resolves_split code p.items q.items is res in
          let whole : (st1 : State) (d1 : Desk) → Since size t p.temps p.items st d st1 d1
          → Since size t q.temps (p.items ++ q.items) st d st1 d1 = λ st1 d1 s1.
          record { keeps = λ j sz o. s1.keeps j sz (⊎_elim (λ lt. inl lt) (λ ge. inr (omega (arith, does'.grows))) o); same = λ e. s1.same (front_nil p.items q.items e) } in
          assoc k p.items q.items is d _ (does.runs k le (q.items ++ is) (λ x. n (κ x)) res' st d ag
          (λ st1 d1 ag1 s1. waits_by p q n k le is κ st1 d1 (value program p.tree d1) does'
          (λ e. let done = subst (λ o. Leads k (on o (λ x. on (value program q.tree d1) (λ y. κ x y st1))) (here is d1)) e (h st1 d1 ag1 (whole st1 d1 s1)) in
          subst (λ l. Leads k (stop ends.Trapped) (here (l ++ is) d1)) (sym none) done)
          (resolves_back code p.items (q.items ++ is) res') refl ag1
          (λ v st2 d2 e ag2 s2.
          let eq = s2.same none in
          let done : Leads k (on (value program q.tree d1) (λ y. κ v y st1)) (here is d1) =
          subst (λ o. Leads k (on o (λ x. on (value program q.tree d1) (λ y. κ x y st1))) (here is d1)) e (h st1 d1 ag1 (whole st1 d1 s1)) in
          let there = subst (λ d. Leads k (on (value program q.tree d) (λ y. κ v y st1)) (here is d)) (sym eq.1) done in
          subst (λ st. Leads k (on (value program q.tree d2) (λ y. κ v y st)) (here is d2)) (sym eq.0) there)));
    }

    two_by : (p q : Lowered) (t : ℕ) (m n : Rest → State → Runs) (b : Bool) → must size count q.items p.tree q.tree ≡ b → first ≤ t → Does p t m → Does q p.temps n
        → DoesTwo (join_so size count b p q) t (λ κ. m (λ x. n (κ x)))
    two_by p q t m n true e sz does does' = two_saved p q t m n sz does does'
    two_by p q t m n false e sz does does' = ⊎_elim (λ none. two_quiet p q t m n none does does') (λ stays. two_stable p q t m n stays does does') (must_not size count q.items p.tree q.tree e)

    pub two_does : (p q : Lowered) (t : ℕ) (m n : Rest → State → Runs) → first ≤ t → Does p t m → Does q p.temps n → DoesTwo (join size count p q) t (λ κ. m (λ x. n (κ x)))
    two_does p q t m n sz does does' = two_by p q t m n (must size count q.items p.tree q.tree) refl sz does does'

    pub since_more : (t u v : ℕ) (is js : List Item) (st : State) (d : Desk) (st' : State) (d' : Desk) → u ≤ v → Since size t u is st d st' d' → Since size t v (is ++ js) st d st' d'
    since_more t u v is js st d st' d' le s = record { keeps = λ j sz o. s.keeps j sz (⊎_elim (λ lt. inl lt) (λ ge. inr (omega arith)) o); same = λ e. s.same (front_nil is js e) }

    -- a temporary is written behind some items
    pub since_temp : (t u n v : ℕ) (is js : List Item) (i : Item) (st : State) (d : Desk) (st' : State) (d' : Desk) → t ≤ u → u ≤ n → Since size t u is st d st' d'
        → Since size t (suc n) (is ++ (i ∷ js)) st d st' (record d' { locals = with_local d'.locals n v })
    since_temp t u n v is js i st d st' d' le le' s = record {
      keeps = λ j sz o. set_other d'.locals n v j (λ e. ⊎_elim (λ lt. omega arith) (λ ge. omega arith) o) ∙ s.keeps j sz (⊎_elim (λ lt. inl lt) (λ ge. inr (omega arith)) o);
      same = λ e. absurd (not_nil is i js e);
    }

    -- a value as a condition
    zero_chosen : (x y : ℕ) (r q : Runs) → Number 0 ≡ Number y → (x == y) ≡ true → chosen x r q ≡ q
    zero_chosen zero y r q e h = refl
    zero_chosen (suc x) y r q e h = absurd (let z : 0 ≡ y = cc in let f : suc x ≡ y = eqb-true (suc x) y h in let g : suc x ≡ 0 = f ∙ sym z in omega arith)

    some_chosen : (x y : ℕ) (r q : Runs) → Number 0 ≡ Number y → (x == y) ≡ false → chosen x r q ≡ r
    some_chosen (suc x) y r q e h = refl
    some_chosen zero y r q e h = absurd (let z : 0 ≡ y = cc in eqb-false 0 y h z)

    pub test_asks : (sense : Bool) (to : ℕ) (p : Lowered) (t : ℕ) (m : Rest → State → Runs) → Does p t m → Asks (test sense to p) sense to t m
    test_asks true to p t m does = record {
      grows = does.grows;
      runs = λ k le is met unmet res st d ag taken falls.
          let i = Cbr relations.Ne to p.tree (Num 0) in
          assoc k p.items (i ∷ []) is d _ (does.runs k le (i ∷ is) (λ v st. chosen v (met st) (unmet st)) (resolves_split code p.items (i ∷ []) is res) st d ag
          (λ st1 d1 ag1 s1. cbr_step program code callers k to relations.Ne p.tree (Num 0) is (λ x y. chosen x (met st1) (unmet st1)) d1 does.small (omega arith) ag1.ranged
          (λ x y ex ey b. subst (λ r. Leads k r (one_tree (to_label program code callers to is d1))) (sym (some_chosen x y (met st1) (unmet st1) ey (not-true (x == y) b)))
          (taken st1 d1 ag1 (since_more t p.temps p.temps p.items (i ∷ []) st d st1 d1 (omega arith) s1)))
          (λ x y ex ey b. subst (λ r. Leads k r (one_tree (here is d1))) (sym (zero_chosen x y (met st1) (unmet st1) ey (not-false (x == y) b)))
          (falls st1 d1 ag1 (since_more t p.temps p.temps p.items (i ∷ []) st d st1 d1 (omega arith) s1)))));
    }
    test_asks false to p t m does = record {
      grows = does.grows;
      runs = λ k le is met unmet res st d ag taken falls.
          let i = Cbr relations.Eq to p.tree (Num 0) in
          assoc k p.items (i ∷ []) is d _ (does.runs k le (i ∷ is) (λ v st. chosen v (met st) (unmet st)) (resolves_split code p.items (i ∷ []) is res) st d ag
          (λ st1 d1 ag1 s1. cbr_step program code callers k to relations.Eq p.tree (Num 0) is (λ x y. chosen x (met st1) (unmet st1)) d1 does.small (omega arith) ag1.ranged
          (λ x y ex ey b. subst (λ r. Leads k r (one_tree (to_label program code callers to is d1))) (sym (zero_chosen x y (met st1) (unmet st1) ey b))
          (taken st1 d1 ag1 (since_more t p.temps p.temps p.items (i ∷ []) st d st1 d1 (omega arith) s1)))
          (λ x y ex ey b. subst (λ r. Leads k r (one_tree (here is d1))) (sym (some_chosen x y (met st1) (unmet st1) ey b))
          (falls st1 d1 ag1 (since_more t p.temps p.temps p.items (i ∷ []) st d st1 d1 (omega arith) s1)))));
    }

    -- a value that is dropped
    unused : (k : Depth) (o : Value) (r q : Runs) → (o ≡ ZeroDivisor → ⊥) → Leads k r q → Leads k (on o (λ v. r)) q
    unused k (Number v) r q n h = h
    unused k ZeroDivisor r q n h = absurd (n refl)
    unused k Wild r q n h = leads_wild k q

    dropped_by : (p : Lowered) (t : ℕ) (m : Rest → State → Runs) (b : Bool) → breaks p.tree ≡ b → first ≤ t → Does p t m
        → Drops (record { items = p.items ++ saving b p.temps p.tree; temps = next_if b p.temps; labels = p.labels }) t m
    dropped_by p t m true e sz does = record {
      grows = omega (arith, does.grows);
      runs = λ k le is κ res st d ag h.
          let i = AssignLoc p.temps p.tree in
          assoc k p.items (i ∷ []) is d _ (does.runs k le (i ∷ is) (λ v. κ) (resolves_split code p.items (i ∷ []) is res) st d ag
          (λ st1 d1 ag1 s1. save_temp k p.temps p.tree is (λ v. κ st1) st1 d1 (omega (arith, does.grows)) does.small ag1
          (λ v lt e ag2. h st1 _ ag2 (since_temp t p.temps p.temps v p.items [] i st d st1 d1 does.grows (omega arith) s1))));
    }
    dropped_by p t m false e sz does = record {
      grows = does.grows;
      runs = λ k le is κ res st d ag h.
          assoc k p.items [] is d _ (does.runs k le is (λ v. κ) (resolves_split code p.items [] is res) st d ag
          (λ st1 d1 ag1 s1. unused k (value program p.tree d1) (κ st1) (here is d1) (value_pure program p.tree d1 (or_parts (divides p.tree) (reads p.tree) e).0)
          (h st1 d1 ag1 (since_more t p.temps p.temps p.items [] st d st1 d1 (omega arith) s1))));
    }

    -- a block is given back before a value that traps, which changes nothing
    trapped_behind : (pointer n : ℕ) (k : Depth) (w : Tree) (is : List Item) (st : State) (d : Desk) → Opens program size first pointer n → SmallTree w
        → ((area : List ℕ) → value program w (record d { area = area }) ≡ ZeroDivisor)
        → Agrees st d → Leads k (stop ends.Trapped) (here (AssignMem ints.Int (Gaddr pointer) (Loc n) ∷ Ret w ∷ is) d)
    trapped_behind pointer n k w is st d opens small traps ag =
        let block = ag.pointer opens.blocked in
        let run = here (AssignMem ints.Int (Gaddr pointer) (Loc n) ∷ Ret w ∷ is) d in
        let known : value program (Loc n) d ≡ Number block.0 = ap (λ x. there (d.locals x)) opens.local ∙ ap there block.2 in
        let whole = assign_mem_step program code callers k ints.Int (Gaddr pointer) (Loc n) (Ret w ∷ is) (λ x y. stop ends.Trapped) d tt tt ag.ranged
        (λ x y ex ey.
        let found : Number opens.address ≡ Number x = sym opens.stands ∙ ex in
        let same : opens.address ≡ x = cc in
        let inside : is_inside sizes.Long d.area x ≡ true = subst (λ a. is_inside sizes.Long d.area a ≡ true) same (opens.inside d.area ag.whole.long) in
        let area : List ℕ = with_number sizes.Long d.area (x - 65536) y in
        let kept : stored sizes.Long d.area x y ≡ Some area = ap (λ b. cond b (Some area) None) inside in
        let after : Desk = record d { area = area } in
        let ranged : Ranged (desk_sight after) = record { local = ag.ranged.local; argument = ag.ranged.argument; area = stored_bytes sizes.Long d.area x y area ag.ranged.area kept } in
        let traps_on = ret_step program code callers k w is (λ v. stop ends.Trapped) after small ranged (λ v e. absurd (let z : ZeroDivisor ≡ Number v = sym (traps area) ∙ e in cc)) in
        let done = subst (λ o. Leads k (on o (λ v. stop ends.Trapped)) (here (Ret w ∷ is) after)) (traps area) traps_on in
        subst (λ o. Leads k (stop ends.Trapped) (written_at program code callers (Ret w ∷ is) d o)) (sym kept) done) in
        subst (λ o. Leads k (on o (λ y. stop ends.Trapped)) run) known
        (subst (λ o. Leads k (on o (λ x. on (value program (Loc n) d) (λ y. stop ends.Trapped))) run) opens.stands whole)

    -- the value of a tree that reads no memory is the same behind that
    kept_value : (o : Value) (pointer n : ℕ) (k : Depth) (w : Tree) (is : List Item) (κ : Rest) (st : State) (d : Desk) → value program w d ≡ o → reads w ≡ false → SmallTree w → Agrees st d
        → Arrives (Releasing pointer n) k 0 0 is d κ → Leads k (on o (λ v. κ v st)) (here (AssignMem ints.Int (Gaddr pointer) (Loc n) ∷ Ret w ∷ is) d)
    kept_value (Number v) pointer n k w is κ st d e unread small ag h =
        h.1 v w is st d (subst Small e (worth_small program.objects (desk_sight d) ag.ranged w small)) small (λ area. value_unread program w d area unread ∙ e) (of_none st d ag)
    kept_value ZeroDivisor pointer n k w is κ st d e unread small ag h = trapped_behind pointer n k w is st d h.0 small (λ area. value_unread program w d area unread ∙ e) ag
    kept_value Wild pointer n k w is κ st d e unread small ag h = lost program code callers k (spelled_all (AssignMem ints.Int (Gaddr pointer) (Loc n) ∷ Ret w ∷ is)) d

    released_by : (pointer n : ℕ) (p : Lowered) (t : ℕ) (m : Rest → State → Runs) (b : Bool) → reads p.tree ≡ b → first ≤ t → Does p t m
        → Delivers (Releasing pointer n) (record {
          items = p.items ++ (saving b p.temps p.tree ++ (AssignMem ints.Int (Gaddr pointer) (Loc n) ∷ Ret (saved b p.temps p.tree) ∷ []));
          temps = next_if b p.temps;
          labels = p.labels;
        }) t m
    released_by pointer n p t m true e sz does = record {
      grows = omega (arith, does.grows);
      some = λ e. not_nil p.items (AssignLoc p.temps p.tree) (AssignMem ints.Int (Gaddr pointer) (Loc n) ∷ Ret (Loc p.temps) ∷ []) e;
      runs = λ k le is κ res st d ag h.
          let u = p.temps in
          let tail : List Item = AssignLoc u p.tree ∷ AssignMem ints.Int (Gaddr pointer) (Loc n) ∷ Ret (Loc u) ∷ [] in
          assoc k p.items tail is d _ (does.runs k le (tail ++ is) κ (resolves_split code p.items tail is res) st d ag
          (λ st1 d1 ag1 s1. save_temp k u p.tree (AssignMem ints.Int (Gaddr pointer) (Loc n) ∷ Ret (Loc u) ∷ is) (λ v. κ v st1) st1 d1 (omega (arith, does.grows)) does.small ag1
          (λ v lt e ag2. h.1 v (Loc u) is st1 (record d1 { locals = with_local d1.locals u v }) lt tt (λ area. ap there (set_same d1.locals u v))
          (of_none st1 (record d1 { locals = with_local d1.locals u v }) ag2))));
    }
    released_by pointer n p t m false e sz does = record {
      grows = does.grows;
      some = λ e. not_nil p.items (AssignMem ints.Int (Gaddr pointer) (Loc n)) (Ret p.tree ∷ []) e;
      runs = λ k le is κ res st d ag h.
          let tail : List Item = AssignMem ints.Int (Gaddr pointer) (Loc n) ∷ Ret p.tree ∷ [] in
          assoc k p.items tail is d _ (does.runs k le (tail ++ is) κ (resolves_split code p.items tail is res) st d ag
          (λ st1 d1 ag1 s1. kept_value (value program p.tree d1) pointer n k p.tree is κ st1 d1 refl e does.small ag1 h));
    }

    -- a value that goes to its destination
    pub delivered_does : (to : Destination) (p : Lowered) (t : ℕ) (m : Rest → State → Runs) → first ≤ t → Does p t m → Delivers to (delivered to p) t m
    delivered_does (InLocal n) p t m sz does = record {
      grows = does.grows;
      some = λ e. not_nil p.items (AssignLoc n p.tree) [] e;
      runs = λ k le is κ res st d ag h.
          let i = AssignLoc n p.tree in
          assoc k p.items (i ∷ []) is d _ (does.runs k le (i ∷ is) κ (resolves_split code p.items (i ∷ []) is res) st d ag
          (λ st1 d1 ag1 s1. assign_loc_step program code callers k n p.tree is (λ v. κ v st1) d1 does.small ag1.ranged
          (λ v e. h v st1 d1 (subst Small e (worth_small program.objects (desk_sight d1) ag1.ranged p.tree does.small)) ag1 s1.keeps)));
    }
    delivered_does AsResult p t m sz does = record {
      grows = does.grows;
      some = λ e. not_nil p.items (Ret p.tree) [] e;
      runs = λ k le is κ res st d ag h.
          let i = Ret p.tree in
          assoc k p.items (i ∷ []) is d _ (does.runs k le (i ∷ is) κ (resolves_split code p.items (i ∷ []) is res) st d ag
          (λ st1 d1 ag1 s1. ret_step program code callers k p.tree is (λ v. κ v st1) d1 does.small ag1.ranged
          (λ v e.
          let lt : v < 2 ^ 32 = subst Small e (worth_small program.objects (desk_sight d1) ag1.ranged p.tree does.small) in
          let done = h v st1 lt (subst (IsArea (extent_of program)) ag1.area ag1.whole) (subst AreBytes ag1.input ag1.bytes) in
          subst (λ a. Leads k (κ v st1) (left_runs program (returned v callers a d1.input))) (sym ag1.area)
          (subst (λ i. Leads k (κ v st1) (left_runs program (returned v callers st1.area i))) (sym ag1.input) done))));
    }
    delivered_does (Releasing pointer n) p t m sz does = released_by pointer n p t m (reads p.tree) refl sz does

    -- behind items that keep the temporaries from t up to p for themselves
    pub arrives_behind : (to : Destination) (k : Depth) (t p q : ℕ) (is : List Item) (κ : Rest) (d d1 : Desk) → t ≤ p → p ≤ q → ((j : ℕ) → size ≤ j → (j < t) ⊎ (p ≤ j) → d1.locals j ≡ d.locals j)
        → Arrives to k t q is d κ → Arrives to k p q is d1 κ
    arrives_behind (InLocal n) k t p q is κ d d1 le le' before h = λ v st' d' lt ag kept. h v st' d' lt ag
        (λ j sz o. kept j sz (⊎_elim (λ lt. inl (omega arith)) (λ ge. inr ge) o) ∙ before j sz (⊎_elim (λ lt. inl lt) (λ ge. inr (omega arith)) o))
    arrives_behind AsResult k t p q is κ d d1 le le' before h = h
    arrives_behind (Releasing pointer n) k t p q is κ d d1 le le' before h = h

    pub valued_does : (f : ℕ → ℕ → Lowered) (m : Rest → State → Runs) → ((t l : ℕ) → first ≤ t → Does (f t l) t m) → DoesWay (valued f) m
    valued_does f m does = record {
      low = does;
      branch = λ sense to t l sz. test_asks sense to (f t l) t m (does t l sz);
      drop = λ t l sz. dropped_by (f t l) t m (breaks (f t l).tree) refl sz (does t l sz);
      deliver = λ to t l sz. delivered_does to (f t l) t m sz (does t l sz);
    }

    pub effective_does : (f : ℕ → ℕ → Lowered) (g : ℕ → ℕ → Emitted) (m : Rest → State → Runs) → ((t l : ℕ) → first ≤ t → Does (f t l) t m) → ((t l : ℕ) → first ≤ t → Drops (g t l) t m)
        → DoesWay (effective f g) m
    effective_does f g m does drops = record {
      low = does;
      branch = λ sense to t l sz. test_asks sense to (f t l) t m (does t l sz);
      drop = drops;
      deliver = λ to t l sz. delivered_does to (f t l) t m sz (does t l sz);
    }

    -- what an operator over two trees does
    pub record Makes (f : Tree → Tree → Tree) (g : ℕ → ℕ → Rest → State → Runs) : Type 0 where
      pub below : (u : ℕ) (a b : Tree) → Below u a → Below u b → Below u (f a b)
      pub small : (a b : Tree) → SmallTree a → SmallTree b → SmallTree (f a b)
      pub makes : (a b : Tree) (st : State) (d : Desk) (κ : Rest) → SmallTree a → SmallTree b → Agrees st d → on (value program (f a b) d) (λ v. κ v st)
          ≡ on (value program a d) (λ x. on (value program b d) (λ y. g x y κ st))

    pub over_two_does : (f : Tree → Tree → Tree) (g : ℕ → ℕ → Rest → State → Runs) (p : Pair) (t : ℕ) (m : (ℕ → Rest) → State → Runs) → Makes f g → DoesTwo p t m
        → Does (over_two f p) t (λ κ. m (λ x y. g x y κ))
    over_two_does f g p t m made does = record {
      grows = does.grows;
      below = made.below p.temps p.first p.second does.below_first does.below_second;
      small = made.small p.first p.second does.small_first does.small_second;
      runs = λ k le is κ res st d ag h. does.runs k le is (λ x y. g x y κ) res st d ag
          (λ st1 d1 ag1 s1. subst (λ r. Leads k r (here is d1)) (made.makes p.first p.second st1 d1 κ does.small_first does.small_second ag1) (h st1 d1 ag1 s1));
    }

    pub binary_does : (f : Tree → Tree → Tree) (g : ℕ → ℕ → Rest → State → Runs) (a b : Lowering) (m n : Rest → State → Runs) → Makes f g → DoesWay a m → DoesWay b n
        → DoesWay (binary size count f a b) (λ κ. m (λ x. n (λ y. g x y κ)))
    binary_does f g a b m n made does does' =
        valued_does (λ t l. over_two f (joined size count a b t l)) (λ κ. m (λ x. n (λ y. g x y κ)))
        (λ t l sz.
        let one = does.low t l sz in
        over_two_does f g (joined size count a b t l) t (λ κ. m (λ x. n (κ x))) made
        (two_does (a.low t l) (b.low (a.low t l).temps (a.low t l).labels) t m n sz one (does'.low (a.low t l).temps (a.low t l).labels (omega (arith, one.grows)))))

    -- a pure operator over a value
    pub record Maps (f : Tree → Tree) (g : ℕ → ℕ) : Type 0 where
      pub below : (u : ℕ) (a : Tree) → Below u a → Below u (f a)
      pub small : (a : Tree) → SmallTree a → SmallTree (f a)
      pub maps : (a : Tree) (d : Desk) (κ : ℕ → Runs) → on (value program (f a) d) κ ≡ on (value program a d) (λ x. κ (g x))

    pub over_does : (f : Tree → Tree) (g : ℕ → ℕ) (p : Lowered) (t : ℕ) (m : Rest → State → Runs) → Maps f g → Does p t m → Does (over f p) t (λ κ. m (λ x. κ (g x)))
    over_does f g p t m made does = record {
      grows = does.grows;
      below = made.below p.temps p.tree does.below;
      small = made.small p.tree does.small;
      runs = λ k le is κ res st d ag h. does.runs k le is (λ x. κ (g x)) res st d ag
          (λ st1 d1 ag1 s1. subst (λ r. Leads k r (here is d1)) (made.maps p.tree d1 (λ v. κ v st1)) (h st1 d1 ag1 s1));
    }

    pub mapped_does : (f : Tree → Tree) (g : ℕ → ℕ) (e : Lowering) (m : Rest → State → Runs) → Maps f g → DoesWay e m → DoesWay (mapped f e) (λ κ. m (λ x. κ (g x)))
    mapped_does f g e m made does =
        effective_does (λ t l. over f (e.low t l)) e.drop (λ κ. m (λ x. κ (g x)))
        (λ t l sz. over_does f g (e.low t l) t m made (does.low t l sz))
        (λ t l sz. let drops = does.drop t l sz in record { grows = drops.grows; runs = λ k le is κ res st d ag h. drops.runs k le is κ res st d ag h })
