-- What the items of an assignment's two sides do.
use Rattle.std.proofs.Common.{◌≡◌, ℕ, suc, ◌≤◌, ◌<◌, List, [], ◌∷◌, ◌++◌, Some, refl, ap, arith, sym, ◌∙◌, subst, ◌⊎◌, inl, inr, ⊎_elim}
use Rattle.std.specs.Prelude.{Bool, true, false, not, ◌&&◌}
use Rattle.std.proofs.lemmas.Bool.{or_parts, and_parts, not-false}
use Rattle.gg_base.specs.Runs.{Runs}
use Rattle.tree_core.specs.declared.program.TreeItem.{TreeItem}
use Rattle.tree_core.specs.declared.program.TreeProgram.{TreeProgram}
use Rattle.tree_meaning.specs.declared.value.Value.TheVariants.{Number}
use Rattle.tree_meaning.specs.State.{Activation, with_local}
use Rattle.tree_meaning.specs.Values.{there}
use Rattle.c_types.specs.declared.types.CType.{CType}
use Rattle.c_meaning.specs.declared.store.Spot.{Spot}
use Rattle.c_meaning.specs.declared.store.Spot.TheVariants.{Local, Parameter, Memory}
use Rattle.c_meaning.specs.State.{State}
use Rattle.c_meaning.specs.Values.{Rest, RestAt, read_at, store_at}
use Rattle.c_lower_scheme.specs.Trees.{Tree, Loc, Arg, Indir, Item, AssignLoc, divides, reads, breaks, stable, is_leaf}
use Rattle.c_lower_scheme.specs.Parts.{Lowered, Where, InLoc, InArg, InMem, Located, Assignable, is_nil}
use Rattle.c_lower_scheme.specs.Saving.{saving, saved, next_if}
use Rattle.c_lower_scheme.specs.Places.{held, integer_of, read_from, assign_to}
use Rattle.c_lower_scheme.specs.Values.{must}
use Rattle.c_lower_scheme.specs.Assignments.{ready_so, must_hold, assign_ready, stays, must_keep, update_so, update_ready, postfix_so, postfix}
use Rattle.c_lower_scheme.proofs.Facts.{leaf_inert, next_grows, must_not}
use Rattle.c_lower_follows.proofs.Values.{SmallTree}
use Rattle.c_lower_counts.proofs.Leads.{Leads, Depth, Under}
use Rattle.c_lower_follows.proofs.Steps.{Desk, on, Resolves, resolves_back, resolves_split}
use Rattle.c_lower_follows.proofs.Agreeing.{Below, below_more, alike_set, value, value_alike, value_stable, Since, since_start, set_same, set_other, not_nil, front_nil, back_nil}
use Rattle.c_lower_counts.proofs.Doing.{Makes, since_both, save_temp, Maps}
use Rattle.c_lower_follows.proofs.Placing.{place_on, SmallPlace, PurePlace}
use Rattle.c_lower_counts.proofs.Placing.{FitsPlace, read_mem, read_place, below_read, small_read}
use Rattle.c_lower_counts.proofs.Storing.{Held, good, go, DoesIt, IsReady, IsPlace, then_at, assign_root, address_by, use_number, hold, waits}

module _ (program : TreeProgram) (code : List TreeItem) (callers : List Activation) (size count first : ℕ) (scope : ℕ → Type 0) (level : Depth) (within : (x : ℕ) → scope x → x < size)
    (own : size ≤ first) where
  abbrev pub agreed : State → Desk → Type 0
  agreed st d = good program code callers size count first scope level within own st d

  abbrev pub gone : List Item → Desk → Runs
  gone is d = go program code callers size count first scope level within own is d

  abbrev pub DoesLow : Lowered → ℕ → (Rest → State → Runs) → Type 0
  DoesLow p t m = DoesIt program code callers size count first scope level within own p t m

  abbrev pub DoesFound : Located → ℕ → (RestAt → State → Runs) → Type 0
  DoesFound p t m = IsPlace program code callers size count first scope level within own p t m

  abbrev pub DoesRest : Assignable → ℕ → ((CType → Spot → Rest) → State → Runs) → Type 0
  DoesRest r t m = IsReady program code callers size count first scope level within own r t m

  abbrev pub onward : (k : Depth) (a b is : List Item) (d : Desk) (r : Runs) → Leads k r (gone (a ++ (b ++ is)) d) → Leads k r (gone ((a ++ b) ++ is) d)
  onward k a b is d r h = then_at program code callers size count first scope level within own k a b is d r h

  -- the frame of two parts, the first of whose tree may be saved at u
  since_held : (t p v u w : ℕ) (a b : List Item) (st : State) (d : Desk) (st1 : State) (d1 : Desk) (st2 : State) (d2 : Desk) → t ≤ p → p ≤ v → v ≤ u → u < w → Since size t p a st d st1 d1
      → Held size p v u b st1 d1 st2 d2 → Since size t w (a ++ b) st d st2 d2
  since_held t p v u w a b st d st1 d1 st2 d2 tp pv vu uw s s' = record {
    keeps = λ j szj o. s'.keeps j szj (⊎_elim (λ lt. inl (omega arith)) (λ ge. inr (omega arith)) o) (λ e. ⊎_elim (λ lt. omega arith) (λ ge. omega arith) o)
        ∙ s.keeps j szj (⊎_elim (λ lt. inl lt) (λ ge. inr (omega arith)) o);
    same = λ e. let h = s.same (front_nil a b e) in let g = s'.same (back_nil a b e) in (g.0 ∙ h.0, g.1 ∙ h.1);
  }

  -- a place and the value that is assigned to it
  ready_by : (b : Bool) (a : Tree) (is0 : List Item) (ty : CType) (u l t : ℕ) (q : Lowered) (m : RestAt → State → Runs) (n : Rest → State → Runs) → first ≤ t
      → (b ≡ false → (q.items ≡ []) ⊎ (stable size a ≡ true))
      → DoesFound (record { items = is0; type = ty; place = InMem a; temps = u; labels = l }) t m → DoesLow q u n
      → DoesRest (ready_so b (record { items = is0; type = ty; place = InMem a; temps = u; labels = l }) q) t (λ κ. m (λ ty s. n (λ v. κ ty s v)))
  ready_by true a is0 ty u l t q m n sz rest does does' = record {
    grows = omega (arith, does.grows, does'.grows);
    fits = omega arith;
    small = tt;
    below_value = below_more q.temps (suc q.temps) q.tree (omega arith) does'.below;
    small_value = does'.small;
    runs = λ k le is κ res st d ag h.
        let tail : List Item = AssignLoc q.temps a ∷ q.items in
        onward k is0 tail is d _ (does.runs k le (tail ++ is) (λ ty s. n (λ v. κ ty s v)) (resolves_split code is0 tail is res) st d ag
        (λ st1 d1 ag1 s1. hold program code callers size count first scope level within own true a u q.temps q n k le is (λ x v. κ ty (Memory x) v) st1 d1 (omega (arith, does.grows)) (omega arith)
        does.small does' (resolves_back code is0 (tail ++ is) (resolves_split code is0 tail is res)) (λ e. absurd (cc)) ag1
        (λ st2 d2 ag2 s2. h st2 d2 ag2 (since_held t u q.temps q.temps (suc q.temps) is0 tail st d st1 d1 st2 d2 does.grows does'.grows (omega arith) (omega arith) s1 s2))));
  }
  ready_by false a is0 ty u l t q m n sz rest does does' = record {
    grows = omega (arith, does.grows, does'.grows);
    fits = below_more u q.temps a does'.grows does.fits;
    small = does.small;
    below_value = does'.below;
    small_value = does'.small;
    runs = λ k le is κ res st d ag h.
        onward k is0 q.items is d _ (does.runs k le (q.items ++ is) (λ ty s. n (λ v. κ ty s v)) (resolves_split code is0 q.items is res) st d ag
        (λ st1 d1 ag1 s1. waits program code callers size count first scope level within own a u q n k le is (λ x v. κ ty (Memory x) v) st1 d1 (omega (arith, does.grows)) does.small does.fits does'
        (resolves_back code is0 (q.items ++ is) (resolves_split code is0 q.items is res)) (rest refl) ag1
        (λ st2 d2 ag2 s2. h st2 d2 ag2 (since_both program code callers size count first scope level within own t u q.temps is0 q.items st st1 st2 d d1 d2 does.grows does'.grows s1 s2))));
  }

  plain_ready : (s : Where) (f : Spot) (is0 : List Item) (ty : CType) (u l t : ℕ) (q : Lowered) (m : RestAt → State → Runs) (n : Rest → State → Runs)
      → ((d : Desk) (g : Spot → Runs) → place_on program s d g ≡ g f) → ((v w : ℕ) → v ≤ w → FitsPlace program code callers size count first scope level v s
      → FitsPlace program code callers size count first scope level w s)
      → DoesFound (record { items = is0; type = ty; place = s; temps = u; labels = l }) t m → DoesLow q u n
      → DoesRest (record { items = is0 ++ q.items; type = ty; place = s; value = q.tree; temps = q.temps; labels = q.labels }) t (λ κ. m (λ ty s. n (λ v. κ ty s v)))
  plain_ready s f is0 ty u l t q m n spot more does does' = record {
    grows = omega (arith, does.grows, does'.grows);
    fits = more u q.temps does'.grows does.fits;
    small = does.small;
    below_value = does'.below;
    small_value = does'.small;
    runs = λ k le is κ res st d ag h.
        onward k is0 q.items is d _ (does.runs k le (q.items ++ is) (λ ty s. n (λ v. κ ty s v)) (resolves_split code is0 q.items is res) st d ag
        (λ st1 d1 ag1 s1. subst (λ r. Leads k r (gone (q.items ++ is) d1)) (sym (spot d1 (λ s. n (λ v. κ ty s v) st1)))
        (does'.runs k le is (λ v. κ ty f v) (resolves_back code is0 (q.items ++ is) (resolves_split code is0 q.items is res)) st1 d1 ag1
        (λ st2 d2 ag2 s2. subst (λ r. Leads k r (gone is d2)) (spot d2 (λ s. on (value program q.tree d2) (λ v. κ ty s v st2)))
        (h st2 d2 ag2 (since_both program code callers size count first scope level within own t u q.temps is0 q.items st st1 st2 d d1 d2 does.grows does'.grows s1 s2))))));
  }

  assign_by : (between : Bool) (s : Where) (is0 : List Item) (ty : CType) (u l t : ℕ) (q : Lowered) (m : RestAt → State → Runs) (n : Rest → State → Runs) → first ≤ t
      → DoesFound (record { items = is0; type = ty; place = s; temps = u; labels = l }) t m → DoesLow q u n
      → DoesRest (ready_so (must_hold size count between q.items q.tree s) (record { items = is0; type = ty; place = s; temps = u; labels = l }) q) t (λ κ. m (λ ty s. n (λ v. κ ty s v)))
  assign_by between (InLoc x) is0 ty u l t q m n sz does does' = plain_ready (InLoc x) (Local x) is0 ty u l t q m n (λ d g. refl) (λ v w le h. h) does does'
  assign_by between (InArg x) is0 ty u l t q m n sz does does' = plain_ready (InArg x) (Parameter x) is0 ty u l t q m n (λ d g. refl) (λ v w le h. h) does does'
  assign_by between (InMem a) is0 ty u l t q m n sz does does' =
      ready_by (must_hold size count between q.items q.tree (InMem a)) a is0 ty u l t q m n sz
      (λ e. must_not size count q.items a q.tree (or_parts (must size count q.items a q.tree) (between && breaks a) e).0) does does'

  pub assign_does : (between : Bool) (p : Located) (q : Lowered) (t : ℕ) (m : RestAt → State → Runs) (n : Rest → State → Runs) → first ≤ t → DoesFound p t m → DoesLow q p.temps n
      → DoesRest (assign_ready size count between p q) t (λ κ. m (λ ty s. n (λ v. κ ty s v)))
  assign_does between p q t m n sz does does' = assign_by between p.place p.items p.type p.temps p.labels t q m n sz does does'

  pure_so : (b : Bool) (u : ℕ) (a : Tree) → (b ≡ false → divides a ≡ false) → divides (saved b u a) ≡ false
  pure_so true u a h = refl
  pure_so false u a h = h refl

  -- the address of an assignment whose value is used does not trap
  assign_pure_by : (is : List Item) (w : Tree) (u : ℕ) (s : Where) → PurePlace (held (must_hold size count true is w s) u s)
  assign_pure_by is w u (InLoc n) = tt
  assign_pure_by is w u (InArg n) = tt
  assign_pure_by is w u (InMem a) = pure_so (must_hold size count true is w (InMem a)) u a (λ e. (or_parts (divides a) (reads a) (or_parts (must size count is a w) (true && breaks a) e).1).0)

  pub assign_pure : (p : Located) (q : Lowered) → PurePlace (assign_ready size count true p q).place
  assign_pure p q = assign_pure_by q.items q.tree q.temps p.place

  abbrev StaysAt : Where → Desk → Desk → Type 0
  StaysAt (InLoc n) d d' = Unit {0}
  StaysAt (InArg n) d d' = Unit {0}
  StaysAt (InMem a) d d' = value program a d' ≡ value program a d

  small_saved : (b : Bool) (u : ℕ) (w : Tree) → SmallTree w → SmallTree (saved b u w)
  small_saved true u w h = tt
  small_saved false u w h = h

  below_saved : (b : Bool) (u v : ℕ) (w : Tree) → next_if b u ≤ v → (b ≡ false → Below v w) → Below v (saved b u w)
  below_saved true u v w le h = omega arith
  below_saved false u v w le h = h refl

  abbrev pub MakesIt : (Tree → Tree → Tree) → (ℕ → ℕ → Rest → State → Runs) → Type 0
  MakesIt f g = Makes program code callers size count first scope level within own f g

  -- a place is read, and then the other side comes to a value
  change : (c : Bool) (s : Where) (ty : CType) (f : Tree → Tree → Tree) (g : ℕ → ℕ → Rest → State → Runs) (t0 u : ℕ) (q : Lowered) (n : Rest → State → Runs) (k : Depth) → Under k level
      → (is : List Item) (κ : CType → Spot → Rest) (st : State) (d : Desk) → (c ≡ false → q.items ≡ []) → first ≤ t0 → q.temps ≤ u → PurePlace s → SmallPlace s
      → FitsPlace program code callers size count first scope level u s → MakesIt f g → DoesLow q t0 n → Resolves code ((saving c u (read_from ty s) ++ q.items) ++ is) → agreed st d
      → ((st' : State) (d' : Desk) → Held size t0 q.temps u (saving c u (read_from ty s) ++ q.items) st d st' d' → StaysAt s d d')
      → ((st' : State) (d' : Desk) → agreed st' d' → Held size t0 q.temps u (saving c u (read_from ty s) ++ q.items) st d st' d'
      → Leads k (place_on program s d' (λ s'. on (value program (f (saved c u (read_from ty s)) q.tree) d') (λ v. κ ty s' v st'))) (gone is d'))
      → Leads k (place_on program s d (λ s'. read_at ty s' (λ x. n (λ y. g x y (κ ty s'))) st)) (gone ((saving c u (read_from ty s) ++ q.items) ++ is) d)
  change c (InLoc m) ty f g t0 u q n k le is κ st d none sz le' pure small fit made does res ag stay h =
      read_place program code callers size count first scope level (InLoc m) ty u k ((saving c u (Loc m) ++ q.items) ++ is) (λ x. n (λ y. g x y (κ ty (Local m)))) st d fit ag
      (hold program code callers size count first scope level within own c (Loc m) t0 u q n k le is (λ x y. g x y (κ ty (Local m))) st d sz le' tt does res (λ e. inl (none e)) ag
      (λ st2 d2 ag2 s2. subst (λ r. Leads k r (gone is d2)) (made.makes (saved c u (Loc m)) q.tree st2 d2 (κ ty (Local m)) (small_saved c u (Loc m) tt) does.small ag2) (h st2 d2 ag2 s2)))
  change c (InArg m) ty f g t0 u q n k le is κ st d none sz le' pure small fit made does res ag stay h =
      read_place program code callers size count first scope level (InArg m) ty u k ((saving c u (Arg m) ++ q.items) ++ is) (λ x. n (λ y. g x y (κ ty (Parameter m)))) st d fit ag
      (hold program code callers size count first scope level within own c (Arg m) t0 u q n k le is (λ x y. g x y (κ ty (Parameter m))) st d sz le' tt does res (λ e. inl (none e)) ag
      (λ st2 d2 ag2 s2. subst (λ r. Leads k r (gone is d2)) (made.makes (saved c u (Arg m)) q.tree st2 d2 (κ ty (Parameter m)) (small_saved c u (Arg m) tt) does.small ag2) (h st2 d2 ag2 s2)))
  change c (InMem a) ty f g t0 u q n k le is κ st d none sz le' pure small fit made does res ag stay h =
      let w : Tree = Indir (integer_of ty) a in
      let js : List Item = (saving c u w ++ q.items) ++ is in
      address_by program code callers size count first scope level within own k a js (λ s'. read_at ty s' (λ x. n (λ y. g x y (κ ty s'))) st) d (value program a d) refl pure
      (λ x ex.
      let K : Rest = λ y. n (λ z. g y z (κ ty (Memory x))) in
      subst (λ o. Leads k (on o (λ x. read_at ty (Memory x) K st)) (gone js d)) ex
      (read_mem program code callers size count first scope level ty a k js K st d ag
      (hold program code callers size count first scope level within own c w t0 u q n k le is (λ y z. g y z (κ ty (Memory x))) st d sz le' small does res (λ e. inl (none e)) ag
      (λ st2 d2 ag2 s2.
      let at_x : value program a d2 ≡ Number x = stay st2 d2 s2 ∙ ex in
      subst (λ r. Leads k r (gone is d2)) (made.makes (saved c u w) q.tree st2 d2 (κ ty (Memory x)) (small_saved c u w small) does.small ag2)
      (subst (λ o. Leads k (on o (λ x. on (value program (f (saved c u w) q.tree) d2) (λ v. κ ty (Memory x) v st2))) (gone is d2)) at_x (h st2 d2 ag2 s2))))))

  not_nil_false : (is : List Item) → not (is_nil is) ≡ false → is ≡ []
  not_nil_false [] e = refl
  not_nil_false (i ∷ is) e = absurd (cc)

  -- the frame behind a change
  since_change : (c : Bool) (t p v u : ℕ) (w : Tree) (a b : List Item) (st : State) (d : Desk) (st1 : State) (d1 : Desk) (st2 : State) (d2 : Desk) → (c ≡ false → b ≡ []) → t ≤ p → p ≤ v
      → v ≤ u → Since size t p a st d st1 d1 → Held size p v u (saving c u w ++ b) st1 d1 st2 d2 → Since size t (next_if c u) (a ++ (saving c u w ++ b)) st d st2 d2
  since_change true t p v u w a b st d st1 d1 st2 d2 none tp pv vu s s' = since_held t p v u (suc u) a (AssignLoc u w ∷ b) st d st1 d1 st2 d2 tp pv vu (omega arith) s s'
  since_change false t p v u w a b st d st1 d1 st2 d2 none tp pv vu s s' =
      let eq = s'.same (none refl) in
      record {
        keeps = λ j szj o. ap (λ (d : Desk). d.locals j) eq.1 ∙ s.keeps j szj (⊎_elim (λ lt. inl lt) (λ ge. inr (omega arith)) o);
        same = λ e. let h = s.same (front_nil a b e) in (eq.0 ∙ h.0, eq.1 ∙ h.1);
      }

  made_below : (f : Tree → Tree → Tree) (g : ℕ → ℕ → Rest → State → Runs) (c : Bool) (u : ℕ) (w v : Tree) → MakesIt f g → Below (next_if c u) v → (c ≡ false → Below (next_if c u) w)
      → Below (next_if c u) (f (saved c u w) v)
  made_below f g c u w v made h h' = made.below (next_if c u) (saved c u w) v (below_saved c u (next_if c u) w (omega arith) h') h

  -- a place that stands as it is
  change_plain : (c : Bool) (s : Where) (is0 : List Item) (ty : CType) (p l t : ℕ) (f : Tree → Tree → Tree) (g : CType → ℕ → ℕ → Rest → State → Runs) (q : Lowered)
      (m : RestAt → State → Runs) (n : CType → Rest → State → Runs) → (c ≡ false → q.items ≡ []) → first ≤ t → PurePlace s → MakesIt f (g ty)
      → ((u v : ℕ) → u ≤ v → FitsPlace program code callers size count first scope level u s → FitsPlace program code callers size count first scope level v s)
      → ((st : State) (d : Desk) (st' : State) (d' : Desk) → FitsPlace program code callers size count first scope level p s
      → Held size p q.temps q.temps (saving c q.temps (read_from ty s) ++ q.items) st d st' d' → StaysAt s d d')
      → DoesFound (record { items = is0; type = ty; place = s; temps = p; labels = l }) t m → DoesLow q p (n ty)
      → DoesRest (record {
        items = is0 ++ (saving c q.temps (read_from ty s) ++ q.items);
        type = ty;
        place = s;
        value = f (saved c q.temps (read_from ty s)) q.tree;
        temps =
            next_if c q.temps;
        labels = q.labels;
      }) t (λ κ. m (λ ty s. read_at ty s (λ x. n ty (λ y. g ty x y (κ ty s)))))
  change_plain c s is0 ty p l t f g q m n none sz pure made more stay does does' =
      let u = q.temps in
      let up : p ≤ next_if c u = omega (arith, next_grows c u, does'.grows) in
      record {
        grows = omega (arith, does.grows, up);
        fits = more p (next_if c u) up does.fits;
        small = does.small;
        below_value = made_below f (g ty) c u (read_from ty s) q.tree made (below_more u (next_if c u) q.tree (next_grows c u) does'.below)
            (λ e. below_read program code callers size count first scope level within own s ty (next_if c u) (omega (arith, does.grows, up)) (more p (next_if c u) up does.fits));
        small_value =
            made.small (saved c u (read_from ty s)) q.tree (small_saved c u (read_from ty s) (small_read program code callers size count first scope level within own s ty does.small)) does'.small;
        runs = λ k le is κ res st d ag h.
            let b : List Item = saving c u (read_from ty s) ++ q.items in
            onward k is0 b is d _ (does.runs k le (b ++ is) (λ ty s. read_at ty s (λ x. n ty (λ y. g ty x y (κ ty s)))) (resolves_split code is0 b is res) st d ag
            (λ st1 d1 ag1 s1. change c s ty f (g ty) p u q (n ty) k le is κ st1 d1 none (omega (arith, does.grows)) (omega arith) pure does.small (more p u does'.grows does.fits) made
            does' (resolves_back code is0 (b ++ is) (resolves_split code is0 b is res)) ag1 (λ st2 d2 s2. stay st1 d1 st2 d2 does.fits s2)
            (λ st2 d2 ag2 s2. h st2 d2 ag2 (since_change c t p u u (read_from ty s) is0 q.items st d st1 d1 st2 d2 none does.grows does'.grows (omega arith) s1 s2))));
      }

  -- a place whose address is saved first
  change_saved : (c : Bool) (a : Tree) (is0 : List Item) (ty : CType) (p l t : ℕ) (f : Tree → Tree → Tree) (g : CType → ℕ → ℕ → Rest → State → Runs) (q : Lowered)
      (m : RestAt → State → Runs) (n : CType → Rest → State → Runs) → (c ≡ false → q.items ≡ []) → first ≤ t → MakesIt f (g ty)
      → DoesFound (record { items = is0; type = ty; place = InMem a; temps = p; labels = l }) t m → DoesLow q p (n ty)
      → DoesRest (update_so true c f (record { items = is0; type = ty; place = InMem a; temps = p; labels = l }) q) t (λ κ. m (λ ty s. read_at ty s (λ x. n ty (λ y. g ty x y (κ ty s)))))
  change_saved c a is0 ty p l t f g q m n none sz made does does' =
      let u1 = q.temps in
      let u = suc u1 in
      let w : Tree = Indir (integer_of ty) (Loc u1) in
      record {
        grows = omega (arith, does.grows, does'.grows, next_grows c u);
        fits = omega (arith, next_grows c u);
        small = tt;
        below_value = made_below f (g ty) c u w q.tree made (below_more u1 (next_if c u) q.tree (omega (arith, next_grows c u)) does'.below) (λ e. omega (arith, next_grows c u));
        small_value = made.small (saved c u w) q.tree (small_saved c u w tt) does'.small;
        runs = λ k le is κ res st d ag h.
            let b : List Item = saving c u w ++ q.items in
            let tail : List Item = AssignLoc u1 a ∷ b in
            let res1 = resolves_back code is0 (tail ++ is) (resolves_split code is0 tail is res) in
            onward k is0 tail is d _ (does.runs k le (tail ++ is) (λ ty s. read_at ty s (λ x. n ty (λ y. g ty x y (κ ty s)))) (resolves_split code is0 tail is res) st d ag
            (λ st1 d1 ag1 s1. save_temp program code callers size count first scope level within own k u1 a (b ++ is) (λ x. read_at ty (Memory x) (λ x'. n ty (λ y. g ty x' y (κ ty (Memory x)))) st1)
            st1 d1 (omega (arith, does.grows, does'.grows)) does.small ag1
            (λ x lt ex ag1'.
            let d1' : Desk = record d1 { locals = with_local d1.locals u1 x } in
            let at_x : value program (Loc u1) d1' ≡ Number x = ap there (set_same d1.locals u1 x) in
            subst (λ o. Leads k (on o (λ x. read_at ty (Memory x) (λ x'. n ty (λ y. g ty x' y (κ ty (Memory x)))) st1)) (gone (b ++ is) d1')) at_x
            (change c (InMem (Loc u1)) ty f (g ty) p u q (n ty) k le is κ st1 d1' none (omega (arith, does.grows)) (omega arith) refl tt (omega arith) made does' res1.1 ag1'
            (λ st2 d2 s2. ap there (s2.keeps u1 (omega (arith, does.grows, does'.grows)) (inr (omega arith)) (λ e. omega arith)))
            (λ st2 d2 ag2 s2.
            let back = since_change c p p u1 u w [] q.items st1 d1' st1 d1' st2 d2 none (omega arith) does'.grows (omega arith) (since_start size p p [] st1 d1') s2 in
            h st2 d2 ag2 (record {
              keeps = λ j szj o. back.keeps j szj (⊎_elim (λ lt. inl (omega (arith, does.grows))) (λ ge. inr ge) o)
                  ∙ set_other d1.locals u1 x j (λ e. ⊎_elim (λ lt. omega (arith, does.grows, does'.grows)) (λ ge. omega (arith, next_grows c u)) o)
                  ∙ s1.keeps j szj (⊎_elim (λ lt. inl lt) (λ ge. inr (omega (arith, does'.grows, next_grows c u))) o);
              same = λ e. absurd (not_nil is0 (AssignLoc u1 a) b e);
            }))))));
      }

  stays_leaf : (is : List Item) (a : Tree) → stays size count is a ≡ true → is_leaf a ≡ true
  stays_leaf [] a e = e
  stays_leaf (i ∷ is) a e = (and_parts (is_leaf a) (stable size a) e).0

  stays_same : (is : List Item) (a : Tree) (p v u : ℕ) (ty : CType) (st : State) (d : Desk) (st' : State) (d' : Desk) → stays size count is a ≡ true → Below p a
      → Held size p v u (saving (not (is_nil is)) u (read_from ty (InMem a)) ++ is) st d st' d' → p ≤ u → value program a d' ≡ value program a d
  stays_same [] a p v u ty st d st' d' e below s le = ap (value program a) (s.same refl).1
  stays_same (i ∷ is) a p v u ty st d st' d' e below s le =
      value_stable program size p a d d' (and_parts (is_leaf a) (stable size a) e).1 below (λ j szj lt. s.keeps j szj (inl lt) (λ e. omega arith))

  update_mem : (b : Bool) (a : Tree) (is0 : List Item) (ty : CType) (p l t : ℕ) (f : Tree → Tree → Tree) (g : CType → ℕ → ℕ → Rest → State → Runs) (q : Lowered) (m : RestAt → State → Runs)
      (n : CType → Rest → State → Runs) → not (stays size count q.items a) ≡ b → first ≤ t → MakesIt f (g ty)
      → DoesFound (record { items = is0; type = ty; place = InMem a; temps = p; labels = l }) t m → DoesLow q p (n ty)
      → DoesRest (update_so b (not (is_nil q.items)) f (record { items = is0; type = ty; place = InMem a; temps = p; labels = l }) q) t
      (λ κ. m (λ ty s. read_at ty s (λ x. n ty (λ y. g ty x y (κ ty s)))))
  update_mem true a is0 ty p l t f g q m n e sz made does does' = change_saved (not (is_nil q.items)) a is0 ty p l t f g q m n (not_nil_false q.items) sz made does does'
  update_mem false a is0 ty p l t f g q m n e sz made does does' =
      let stay : stays size count q.items a ≡ true = not-false (stays size count q.items a) e in
      change_plain (not (is_nil q.items)) (InMem a) is0 ty p l t f g q m n (not_nil_false q.items) sz (leaf_inert a (stays_leaf q.items a stay)) made (λ u v le h. below_more u v a le h)
      (λ st d st' d' fit s. stays_same q.items a p q.temps q.temps ty st d st' d' stay fit s does'.grows) does does'

  update_place : (s : Where) (is0 : List Item) (ty : CType) (p l t : ℕ) (f : Tree → Tree → Tree) (g : CType → ℕ → ℕ → Rest → State → Runs) (q : Lowered) (m : RestAt → State → Runs)
      (n : CType → Rest → State → Runs) → first ≤ t → MakesIt f (g ty)
      → DoesFound (record { items = is0; type = ty; place = s; temps = p; labels = l }) t m → DoesLow q p (n ty)
      → DoesRest (update_ready size count f (record { items = is0; type = ty; place = s; temps = p; labels = l }) q) t (λ κ. m (λ ty s. read_at ty s (λ x. n ty (λ y. g ty x y (κ ty s)))))
  update_place (InLoc x) is0 ty p l t f g q m n sz made does does' = change_plain (not (is_nil q.items)) (InLoc x) is0 ty p l t f g q m n (not_nil_false q.items) sz tt made (λ u v le h. h)
      (λ st d st' d' fit s. tt) does does'
  update_place (InArg x) is0 ty p l t f g q m n sz made does does' = change_plain (not (is_nil q.items)) (InArg x) is0 ty p l t f g q m n (not_nil_false q.items) sz tt made (λ u v le h. h)
      (λ st d st' d' fit s. tt) does does'
  update_place (InMem a) is0 ty p l t f g q m n sz made does does' = update_mem (not (stays size count q.items a)) a is0 ty p l t f g q m n refl sz made does does'

  pub update_does : (f : Tree → Tree → Tree) (g : CType → ℕ → ℕ → Rest → State → Runs) (p : Located) (q : Lowered) (t : ℕ) (m : RestAt → State → Runs) (n : CType → Rest → State → Runs)
      → first ≤ t → MakesIt f (g p.type) → DoesFound p t m → DoesLow q p.temps (n p.type)
      → DoesRest (update_ready size count f p q) t (λ κ. m (λ ty s. read_at ty s (λ x. n ty (λ y. g ty x y (κ ty s)))))
  update_does f g p q t m n sz made does does' = update_place p.place p.items p.type p.temps p.labels t f g q m n sz made does does'

  update_pure_by : (is : List Item) (u : ℕ) (s : Where) → PurePlace (held (must_keep size count is s) u s)
  update_pure_by is u (InLoc n) = tt
  update_pure_by is u (InArg n) = tt
  update_pure_by is u (InMem a) = pure_so (not (stays size count is a)) u a (λ e. leaf_inert a (stays_leaf is a (not-false (stays size count is a) e)))

  pub update_pure : (f : Tree → Tree → Tree) (p : Located) (q : Lowered) → PurePlace (update_ready size count f p q).place
  update_pure f p q = update_pure_by q.items q.temps p.place

  abbrev pub MapsIt : (Tree → Tree) → (ℕ → ℕ) → Type 0
  MapsIt f g = Maps program code callers size count first scope level within own f g

  -- a place is read into a temporary, and then stepped
  post_at : (s : Where) (ty : CType) (f : Tree → Tree) (g : ℕ → ℕ) (o : ℕ) (k : Depth) (is : List Item) (κ : Rest) (st : State) (d : Desk) → first ≤ o → MapsIt f g → PurePlace s → SmallPlace s
      → FitsPlace program code callers size count first scope level o s → agreed st d
      → ((x : ℕ) (st' : State) (d' : Desk) → agreed st' d' → ((j : ℕ) → size ≤ j → (j ≡ o → ⊥) → d'.locals j ≡ d.locals j) → d'.locals o ≡ Some x → Leads k (κ x st') (gone is d'))
      → Leads k (place_on program s d (λ s'. read_at ty s' (λ x. store_at ty s' (g x) (λ y. κ x)) st)) (gone (AssignLoc o (read_from ty s) ∷ assign_to ty s (f (Loc o)) ∷ is) d)
  post_at (InLoc n) ty f g o k is κ st d sz made pure small fit ag h =
      let i = assign_to ty (InLoc n) (f (Loc o)) in
      read_place program code callers size count first scope level (InLoc n) ty o k (AssignLoc o (Loc n) ∷ i ∷ is) (λ x. store_at ty (Local n) (g x) (λ y. κ x)) st d fit ag
      (save_temp program code callers size count first scope level within own k o (Loc n) (i ∷ is) (λ x. store_at ty (Local n) (g x) (λ y. κ x) st) st d sz tt ag
      (λ x lt ex ag1.
      let d1 : Desk = record d { locals = with_local d.locals o x } in
      let at_x : value program (Loc o) d1 ≡ Number x = ap there (set_same d.locals o x) in
      let run = assign_root program code callers size count first scope level within own (InLoc n) ty (f (Loc o)) k is (κ x) st d1 tt (made.small (Loc o) tt) ag1
      (λ st2 d2 ag2 kept. h x st2 d2 ag2 (λ j szj ne. kept j szj ∙ set_other d.locals o x j ne) (kept o (omega arith) ∙ set_same d.locals o x)) in
      let one = subst (λ r. Leads k r (gone (i ∷ is) d1)) (made.maps (Loc o) d1 (λ v. store_at ty (Local n) v (λ v. κ x) st)) run in
      subst (λ o. Leads k (on o (λ y. store_at ty (Local n) (g y) (λ v. κ x) st)) (gone (i ∷ is) d1)) at_x one))
  post_at (InArg n) ty f g o k is κ st d sz made pure small fit ag h =
      let i = assign_to ty (InArg n) (f (Loc o)) in
      read_place program code callers size count first scope level (InArg n) ty o k (AssignLoc o (Arg n) ∷ i ∷ is) (λ x. store_at ty (Parameter n) (g x) (λ y. κ x)) st d fit ag
      (save_temp program code callers size count first scope level within own k o (Arg n) (i ∷ is) (λ x. store_at ty (Parameter n) (g x) (λ y. κ x) st) st d sz tt ag
      (λ x lt ex ag1.
      let d1 : Desk = record d { locals = with_local d.locals o x } in
      let at_x : value program (Loc o) d1 ≡ Number x = ap there (set_same d.locals o x) in
      let run = assign_root program code callers size count first scope level within own (InArg n) ty (f (Loc o)) k is (κ x) st d1 tt (made.small (Loc o) tt) ag1
      (λ st2 d2 ag2 kept. h x st2 d2 ag2 (λ j szj ne. kept j szj ∙ set_other d.locals o x j ne) (kept o (omega arith) ∙ set_same d.locals o x)) in
      let one = subst (λ r. Leads k r (gone (i ∷ is) d1)) (made.maps (Loc o) d1 (λ v. store_at ty (Parameter n) v (λ v. κ x) st)) run in
      subst (λ o. Leads k (on o (λ y. store_at ty (Parameter n) (g y) (λ v. κ x) st)) (gone (i ∷ is) d1)) at_x one))
  post_at (InMem a) ty f g o k is κ st d sz made pure small fit ag h =
      let i = assign_to ty (InMem a) (f (Loc o)) in
      let w : Tree = Indir (integer_of ty) a in
      let js : List Item = AssignLoc o w ∷ i ∷ is in
      address_by program code callers size count first scope level within own k a js (λ s'. read_at ty s' (λ x. store_at ty s' (g x) (λ y. κ x)) st) d (value program a d) refl pure
      (λ p ep.
      let K : Rest = λ x. store_at ty (Memory p) (g x) (λ y. κ x) in
      subst (λ o. Leads k (on o (λ z. read_at ty (Memory z) K st)) (gone js d)) ep
      (read_mem program code callers size count first scope level ty a k js K st d ag
      (save_temp program code callers size count first scope level within own k o w (i ∷ is) (λ v. K v st) st d sz small ag
      (λ x lt ex ag1.
      let d1 : Desk = record d { locals = with_local d.locals o x } in
      let at_x : value program (Loc o) d1 ≡ Number x = ap there (set_same d.locals o x) in
      let at_p : value program a d1 ≡ Number p = value_alike program o a d d1 fit (alike_set o o x d (omega arith)) ∙ ep in
      let run = assign_root program code callers size count first scope level within own (InMem a) ty (f (Loc o)) k is (κ x) st d1 small (made.small (Loc o) tt) ag1
      (λ st2 d2 ag2 kept. h x st2 d2 ag2 (λ j szj ne. kept j szj ∙ set_other d.locals o x j ne) (kept o (omega arith) ∙ set_same d.locals o x)) in
      let one = subst (λ o'. Leads k (on o' (λ z. on (value program (f (Loc o)) d1) (λ v. store_at ty (Memory z) v (λ v. κ x) st))) (gone (i ∷ is) d1)) at_p run in
      let two = subst (λ r. Leads k r (gone (i ∷ is) d1)) (made.maps (Loc o) d1 (λ v. store_at ty (Memory p) v (λ v. κ x) st)) one in
      subst (λ o. Leads k (on o (λ y. store_at ty (Memory p) (g y) (λ v. κ x) st)) (gone (i ∷ is) d1)) at_x two))))

  post_plain : (s : Where) (is0 : List Item) (ty : CType) (u l t : ℕ) (f : Tree → Tree) (g : CType → ℕ → ℕ) (m : RestAt → State → Runs) → first ≤ t → PurePlace s → MapsIt f (g ty)
      → DoesFound (record { items = is0; type = ty; place = s; temps = u; labels = l }) t m
      → DoesLow (record { items = is0 ++ (AssignLoc u (read_from ty s) ∷ assign_to ty s (f (Loc u)) ∷ []); tree = Loc u; temps = suc u; labels = l }) t
      (λ κ. m (λ ty s. read_at ty s (λ x. store_at ty s (g ty x) (λ y. κ x))))
  post_plain s is0 ty u l t f g m sz pure made does = record {
    grows = omega (arith, does.grows);
    below = omega arith;
    small = tt;
    runs = λ k le is κ res st d ag h.
        let i = AssignLoc u (read_from ty s) in
        let j = assign_to ty s (f (Loc u)) in
        onward k is0 (i ∷ j ∷ []) is d _ (does.runs k le (i ∷ j ∷ is) (λ ty s. read_at ty s (λ x. store_at ty s (g ty x) (λ y. κ x))) (resolves_split code is0 (i ∷ j ∷ []) is res) st d ag
        (λ st1 d1 ag1 s1. post_at s ty f (g ty) u k is κ st1 d1 (omega (arith, does.grows)) made pure does.small does.fits ag1
        (λ x st2 d2 ag2 kept at_x. use_number program code callers size count first scope level within own k (d2.locals u) x is κ st2 d2 at_x
        (h st2 d2 ag2 (record {
          keeps = λ q szq o. kept q szq (λ e. ⊎_elim (λ lt. omega (arith, does.grows)) (λ ge. omega arith) o) ∙ s1.keeps q szq (⊎_elim (λ lt. inl lt) (λ ge. inr (omega arith)) o);
          same = λ e. absurd (not_nil is0 i (j ∷ []) e);
        })))));
  }

  post_saved : (a : Tree) (is0 : List Item) (ty : CType) (u l t : ℕ) (f : Tree → Tree) (g : CType → ℕ → ℕ) (m : RestAt → State → Runs) → first ≤ t → MapsIt f (g ty)
      → DoesFound (record { items = is0; type = ty; place = InMem a; temps = u; labels = l }) t m
      → DoesLow (postfix_so true f (record { items = is0; type = ty; place = InMem a; temps = u; labels = l })) t (λ κ. m (λ ty s. read_at ty s (λ x. store_at ty s (g ty x) (λ y. κ x))))
  post_saved a is0 ty u l t f g m sz made does = record {
    grows = omega (arith, does.grows);
    below = omega arith;
    small = tt;
    runs = λ k le is κ res st d ag h.
        let s : Where = InMem (Loc u) in
        let o = suc u in
        let i = AssignLoc o (read_from ty s) in
        let j = assign_to ty s (f (Loc o)) in
        let tail : List Item = AssignLoc u a ∷ i ∷ j ∷ [] in
        onward k is0 tail is d _ (does.runs k le (tail ++ is) (λ ty s. read_at ty s (λ x. store_at ty s (g ty x) (λ y. κ x))) (resolves_split code is0 tail is res) st d ag
        (λ st1 d1 ag1 s1. save_temp program code callers size count first scope level within own k u a (i ∷ j ∷ is) (λ p. read_at ty (Memory p) (λ x. store_at ty (Memory p) (g ty x) (λ y. κ x)) st1)
        st1 d1 (omega (arith, does.grows)) does.small ag1
        (λ p lt ep ag1'.
        let d1' : Desk = record d1 { locals = with_local d1.locals u p } in
        let at_p : value program (Loc u) d1' ≡ Number p = ap there (set_same d1.locals u p) in
        subst (λ o. Leads k (on o (λ p. read_at ty (Memory p) (λ x. store_at ty (Memory p) (g ty x) (λ y. κ x)) st1)) (gone (i ∷ j ∷ is) d1')) at_p
        (post_at s ty f (g ty) o k is κ st1 d1' (omega (arith, does.grows)) made refl tt (omega arith) ag1'
        (λ x st2 d2 ag2 kept at_x. use_number program code callers size count first scope level within own k (d2.locals o) x is κ st2 d2 at_x
        (h st2 d2 ag2 (record {
          keeps = λ q szq w. kept q szq (λ e. ⊎_elim (λ lt. omega (arith, does.grows)) (λ ge. omega arith) w)
              ∙ set_other d1.locals u p q (λ e. ⊎_elim (λ lt. omega (arith, does.grows)) (λ ge. omega arith) w) ∙ s1.keeps q szq (⊎_elim (λ lt. inl lt) (λ ge. inr (omega arith)) w);
          same = λ e. absurd (not_nil is0 (AssignLoc u a) (i ∷ j ∷ []) e);
        })))))));
  }

  post_mem : (b : Bool) (a : Tree) (is0 : List Item) (ty : CType) (u l t : ℕ) (f : Tree → Tree) (g : CType → ℕ → ℕ) (m : RestAt → State → Runs) → not (is_leaf a) ≡ b → first ≤ t → MapsIt f (g ty)
      → DoesFound (record { items = is0; type = ty; place = InMem a; temps = u; labels = l }) t m
      → DoesLow (postfix_so b f (record { items = is0; type = ty; place = InMem a; temps = u; labels = l })) t (λ κ. m (λ ty s. read_at ty s (λ x. store_at ty s (g ty x) (λ y. κ x))))
  post_mem true a is0 ty u l t f g m e sz made does = post_saved a is0 ty u l t f g m sz made does
  post_mem false a is0 ty u l t f g m e sz made does = post_plain (InMem a) is0 ty u l t f g m sz (leaf_inert a (not-false (is_leaf a) e)) made does

  post_by : (s : Where) (is0 : List Item) (ty : CType) (u l t : ℕ) (f : Tree → Tree) (g : CType → ℕ → ℕ) (m : RestAt → State → Runs) → first ≤ t → MapsIt f (g ty)
      → DoesFound (record { items = is0; type = ty; place = s; temps = u; labels = l }) t m
      → DoesLow (postfix size count f (record { items = is0; type = ty; place = s; temps = u; labels = l })) t (λ κ. m (λ ty s. read_at ty s (λ x. store_at ty s (g ty x) (λ y. κ x))))
  post_by (InLoc n) is0 ty u l t f g m sz made does = post_plain (InLoc n) is0 ty u l t f g m sz tt made does
  post_by (InArg n) is0 ty u l t f g m sz made does = post_plain (InArg n) is0 ty u l t f g m sz tt made does
  post_by (InMem a) is0 ty u l t f g m sz made does = post_mem (not (is_leaf a)) a is0 ty u l t f g m refl sz made does

  pub post_does : (p : Located) (t : ℕ) (f : Tree → Tree) (g : CType → ℕ → ℕ) (m : RestAt → State → Runs) → first ≤ t → MapsIt f (g p.type) → DoesFound p t m
      → DoesLow (postfix size count f p) t (λ κ. m (λ ty s. read_at ty s (λ x. store_at ty s (g ty x) (λ y. κ x))))
  post_does p t f g m sz made does = post_by p.place p.items p.type p.temps p.labels t f g m sz made does
