-- What the items of assignments do.
use Rattle.std.proofs.Common.{◌≡◌, ℕ, suc, ◌≤◌, ◌<◌, ◌^◌, List, [], ◌∷◌, ◌++◌, Option, Some, refl, ap, arith, sym, ◌∙◌, subst, ◌⊎◌, inl, inr, ⊎_elim}
use Rattle.std.specs.Prelude.{Bool, true, false, slice_get, slice_set}
use Rattle.gg_base.specs.declared.run.End.TheVariants as ends
use Rattle.gg_base.specs.Runs.{Runs, stop}
use Rattle.gg_base.proofs.Facts.{slice_set_same}
use Rattle.tree_core.specs.declared.program.TreeItem.{TreeItem}
use Rattle.tree_core.specs.declared.program.TreeProgram.{TreeProgram}
use Rattle.tree_core.specs.Area.{stored}
use Rattle.tree_meaning.specs.declared.value.Value.{Value}
use Rattle.tree_meaning.specs.declared.value.Value.TheVariants.{Number, ZeroDivisor, Wild}
use Rattle.tree_meaning.specs.State.{Activation, with_local}
use Rattle.tree_meaning.specs.Values.{there}
use Rattle.c_types.specs.declared.types.CType.{CType}
use Rattle.c_types.specs.declared.types.Integer.TheVariants as ints
use Rattle.c_types.specs.Types.{kept}
use Rattle.c_types.specs.Constants.{converted}
use Rattle.c_meaning.specs.declared.store.Spot.{Spot}
use Rattle.c_meaning.specs.declared.store.Spot.TheVariants.{Local, Parameter, Memory}
use Rattle.c_meaning.specs.State.{State, integer_access, with_locals, with_parameters, with_area, put_local, put}
use Rattle.c_meaning.specs.Values.{Rest, RestAt, written, store_at}
use Rattle.c_lower_scheme.specs.Trees.{Tree, Loc, Item, AssignLoc, AssignArg, AssignMem, divides, stable}
use Rattle.c_lower_scheme.specs.Spelling.{spelled_all}
use Rattle.c_lower_scheme.specs.Parts.{Lowered, Where, InLoc, InArg, InMem, Located, Assignable, Emitted, InLocal}
use Rattle.c_lower_scheme.specs.Saving.{saving, saved}
use Rattle.c_lower_scheme.specs.Places.{integer_of, fitted, assign_to}
use Rattle.c_lower_scheme.specs.Assignments.{store_drop, store_low_at, store_low, fill_low, fill_drop}
use Rattle.c_lower_scheme.proofs.Facts.{stable_inert}
use Rattle.c_lower_follows.proofs.Values.{SmallTree, Small, worth_small}
use Rattle.c_lower_counts.proofs.Leads.{Leads, Depth, Under}
use Rattle.c_lower_follows.proofs.Steps.{Desk, desk_sight, on, Resolves, resolves_back, resolves_split}
use Rattle.c_lower_counts.proofs.Steps.{lost, narrowed, written_at, assign_loc_step, assign_arg_step, assign_mem_step}
use Rattle.c_lower_follows.proofs.Agreeing.{Below, alike_set, value, value_alike, value_stable, value_pure, Since, set_same, set_other, not_nil, back_nil}
use Rattle.c_lower_counts.proofs.Doing.{waits_by, Does, Drops, Delivers, assoc, save_temp}
use Rattle.c_lower_follows.proofs.Placing.{stored_kept, stored_narrowed, conv_value, place_on, SmallPlace, PurePlace, whole_value}
use Rattle.c_lower_counts.proofs.Placing.{ok, run_at, DoesPlace, DoesReady, fitted_maps, put_local_step, put_argument_step, put_memory_step, FitsPlace}

-- what a part that may be saved, and the items behind it, leave
pub record Held (size t0 v u : ℕ) (items : List Item) (st : State) (d : Desk) (st' : State) (d' : Desk) : Type 0 where
  pub keeps : (j : ℕ) → size ≤ j → (j < t0) ⊎ (v ≤ j) → (j ≡ u → ⊥) → d'.locals j ≡ d.locals j
  pub same : items ≡ [] → (st' ≡ st) × (d' ≡ d)

module _ (program : TreeProgram) (code : List TreeItem) (callers : List Activation) (size count first : ℕ) (scope : ℕ → Type 0) (level : Depth) (within : (x : ℕ) → scope x → x < size)
    (own : size ≤ first) where
  abbrev pub good : State → Desk → Type 0
  good st d = ok program code callers size count first scope level st d

  abbrev pub go : List Item → Desk → Runs
  go is d = run_at program code callers size count first scope level is d

  abbrev pub DoesIt : Lowered → ℕ → (Rest → State → Runs) → Type 0
  DoesIt p t m = Does program code callers size count first scope level p t m

  abbrev pub IsReady : Assignable → ℕ → ((CType → Spot → Rest) → State → Runs) → Type 0
  IsReady r t m = DoesReady program code callers size count first scope level r t m

  abbrev pub IsPlace : Located → ℕ → (RestAt → State → Runs) → Type 0
  IsPlace p t m = DoesPlace program code callers size count first scope level p t m

  abbrev pub then_at : (k : Depth) (a b is : List Item) (d : Desk) (r : Runs) → Leads k r (go (a ++ (b ++ is)) d) → Leads k r (go ((a ++ b) ++ is) d)
  then_at k a b is d r h = assoc program code callers size count first scope level k a b is d r h

  lost_at : (k : Depth) (is : List Item) (d : Desk) → Leads k (stop ends.Wild) (go is d)
  lost_at k is d = lost program code callers k (spelled_all is) d

  small_value_of : (w : Tree) (st : State) (d : Desk) (v : ℕ) → good st d → SmallTree w → value program w d ≡ Number v → v < 2 ^ 32
  small_value_of w st d v ag small e = subst Small e (worth_small program.objects (desk_sight d) ag.ranged w small)

  fit : (ty : CType) (w : Tree) (d : Desk) (κ : ℕ → Runs) → on (value program (fitted ty w) d) κ ≡ on (value program w d) (λ x. κ (converted ty x))
  fit ty w d κ = (fitted_maps program code callers size count first scope level within own ty).maps w d κ

  fit_small : (ty : CType) (w : Tree) → SmallTree w → SmallTree (fitted ty w)
  fit_small ty w h = (fitted_maps program code callers size count first scope level within own ty).small w h

  narrow_same : (ty : CType) (area : List ℕ) (x v : ℕ) → stored (integer_access (integer_of ty)) area x (narrowed program code callers (integer_of ty) v)
      ≡ stored (integer_access (integer_of ty)) area x (converted ty v)
  narrow_same ty area x v = stored_narrowed program code callers (integer_of ty) area x v ∙ sym (stored_kept (integer_of ty) area x v)
      ∙ ap (stored (integer_access (integer_of ty)) area x) (sym (conv_value ty v))

  -- one root assigns
  pub assign_root : (s : Where) (ty : CType) (w : Tree) (k : Depth) (is : List Item) (κ : State → Runs) (st : State) (d : Desk) → SmallPlace s → SmallTree w → good st d
      → ((st' : State) (d' : Desk) → good st' d' → ((j : ℕ) → size ≤ j → d'.locals j ≡ d.locals j) → Leads k (κ st') (go is d'))
      → Leads k (place_on program s d (λ s. on (value program w d) (λ v. store_at ty s v (λ v. κ) st))) (go (assign_to ty s w ∷ is) d)
  assign_root (InLoc n) ty w k is κ st d small small' ag h =
      subst (λ r. Leads k r (go (assign_to ty (InLoc n) w ∷ is) d)) (fit ty w d (λ u. written (put_local n u st) u (λ v. κ)))
      (assign_loc_step program code callers k n (fitted ty w) is (λ u. written (put_local n u st) u (λ v. κ)) d (fit_small ty w small') ag.ranged
      (λ u e. put_local_step program code callers size count first scope level within own n u k is (λ v. κ) st d (small_value_of (fitted ty w) st d u ag (fit_small ty w small') e) ag
      (λ inside ag'. h _ _ ag' (λ j sz. set_other d.locals n u j (λ e. omega arith)))))
  assign_root (InArg n) ty w k is κ st d small small' ag h =
      subst (λ r. Leads k r (go (assign_to ty (InArg n) w ∷ is) d)) (fit ty w d (λ u. written (put ty (Parameter n) u st) u (λ v. κ)))
      (assign_arg_step program code callers k n (fitted ty w) is (λ u. written (put ty (Parameter n) u st) u (λ v. κ)) d (fit_small ty w small') ag.ranged
      (λ u e. put_argument_step program code callers size count first scope level within own n u k is (λ v. κ) st d (small_value_of (fitted ty w) st d u ag (fit_small ty w small') e) ag
      (λ inside ag'. h _ _ ag' (λ j sz. refl))))
  assign_root (InMem a) ty w k is κ st d small small' ag h =
      assign_mem_step program code callers k (integer_of ty) a w is (λ x v. store_at ty (Memory x) v (λ v. κ) st) d small small' ag.ranged
      (λ x v ex ev. put_memory_step program code callers size count first scope level within own ty x (converted ty v) v k is (λ v. κ) st d (narrow_same ty d.area x v) ag
      (λ area ag'. h _ _ ag' (λ j sz. refl)))

  pub store_drop_does : (r : Assignable) (t : ℕ) (m : (CType → Spot → Rest) → State → Runs) → first ≤ t → IsReady r t m
      → Drops program code callers size count first scope level (store_drop r) t (λ κ. m (λ ty s v. store_at ty s v κ))
  store_drop_does r t m sz does = record {
    grows = does.grows;
    runs = λ k le is κ res st d ag h.
        let i = assign_to r.type r.place r.value in
        then_at k r.items (i ∷ []) is d _ (does.runs k le (i ∷ is) (λ ty s v. store_at ty s v (λ v. κ)) (resolves_split code r.items (i ∷ []) is res) st d ag
        (λ st1 d1 ag1 s1. assign_root r.place r.type r.value k is κ st1 d1 does.small does.small_value ag1
        (λ st2 d2 ag2 kept. h st2 d2 ag2 (record { keeps = λ j szj o. kept j szj ∙ s1.keeps j szj o; same = λ e. absurd (not_nil r.items i [] e) }))));
  }

  -- the address of memory has a value, or both sides break
  pub address_by : (k : Depth) (a : Tree) (is : List Item) (f : Spot → Runs) (d : Desk) (o : Value) → value program a d ≡ o → divides a ≡ false
      → ((x : ℕ) → value program a d ≡ Number x → Leads k (f (Memory x)) (go is d)) → Leads k (on o (λ x. f (Memory x))) (go is d)
  address_by k a is f d (Number x) e pure h = h x e
  address_by k a is f d ZeroDivisor e pure h = absurd (value_pure program a d pure e)
  address_by k a is f d Wild e pure h = lost_at k is d

  since_end : (t u v : ℕ) (a b : List Item) (i : Item) (st : State) (d : Desk) (st1 : State) (d1 : Desk) (st2 : State) (d2 : Desk) → t ≤ u → u ≤ v → Since size t u a st d st1 d1
      → ((j : ℕ) → size ≤ j → (j < u) ⊎ (v ≤ j) → d2.locals j ≡ d1.locals j) → Since size t v (a ++ (i ∷ b)) st d st2 d2
  since_end t u v a b i st d st1 d1 st2 d2 le le' s kept = record {
    keeps = λ j szj o. kept j szj (⊎_elim (λ lt. inl (omega arith)) (λ ge. inr ge) o) ∙ s.keeps j szj (⊎_elim (λ lt. inl lt) (λ ge. inr (omega arith)) o);
    same = λ e. absurd (not_nil a i b e);
  }

  pub use_number : (k : Depth) (o : Option ℕ) (x : ℕ) (is : List Item) (κ : Rest) (st : State) (d : Desk) → o ≡ Some x → Leads k (on (there o) (λ v. κ v st)) (go is d) → Leads k (κ x st) (go is d)
  use_number k o x is κ st d e h = subst (λ o. Leads k (on (there o) (λ v. κ v st)) (go is d)) e h

  store_low_by : (s : Where) (is0 : List Item) (ty : CType) (w : Tree) (u l t : ℕ) (m : (CType → Spot → Rest) → State → Runs) → first ≤ t → PurePlace s
      → IsReady (record { items = is0; type = ty; place = s; value = w; temps = u; labels = l }) t m
      → DoesIt (store_low_at s (record { items = is0; type = ty; place = s; value = w; temps = u; labels = l })) t (λ κ. m (λ ty s v. store_at ty s v κ))
  store_low_by (InLoc n) is0 ty w u l t m sz pure does = record {
    grows = does.grows;
    below = let lt = within n does.fits in omega (arith, does.grows);
    small = tt;
    runs = λ k le is κ res st d ag h.
        let i = AssignLoc n (fitted ty w) in
        then_at k is0 (i ∷ []) is d _ (does.runs k le (i ∷ is) (λ ty s v. store_at ty s v κ) (resolves_split code is0 (i ∷ []) is res) st d ag
        (λ st1 d1 ag1 s1.
        subst (λ r. Leads k r (go (i ∷ is) d1)) (fit ty w d1 (λ u. written (put_local n u st1) u κ))
        (assign_loc_step program code callers k n (fitted ty w) is (λ u. written (put_local n u st1) u κ) d1 (fit_small ty w does.small_value) ag1.ranged
        (λ x e. put_local_step program code callers size count first scope level within own n x k is κ st1 d1 (small_value_of (fitted ty w) st1 d1 x ag1 (fit_small ty w does.small_value) e) ag1
        (λ inside ag2.
        let st2 : State = with_locals st1 (slice_set st1.call.locals n x) in
        let d2 : Desk = record d1 { locals = with_local d1.locals n x } in
        use_number k (d2.locals n) x is κ st2 d2 (set_same d1.locals n x)
        (h st2 d2 ag2 (since_end t u u is0 [] i st d st1 d1 st2 d2 does.grows (omega arith) s1 (λ j szj o. set_other d1.locals n x j (λ e. omega arith)))))))));
  }
  store_low_by (InArg n) is0 ty w u l t m sz pure does = record {
    grows = does.grows;
    below = tt;
    small = tt;
    runs = λ k le is κ res st d ag h.
        let i = AssignArg n (fitted ty w) in
        then_at k is0 (i ∷ []) is d _ (does.runs k le (i ∷ is) (λ ty s v. store_at ty s v κ) (resolves_split code is0 (i ∷ []) is res) st d ag
        (λ st1 d1 ag1 s1.
        subst (λ r. Leads k r (go (i ∷ is) d1)) (fit ty w d1 (λ u. written (put ty (Parameter n) u st1) u κ))
        (assign_arg_step program code callers k n (fitted ty w) is (λ u. written (put ty (Parameter n) u st1) u κ) d1 (fit_small ty w does.small_value) ag1.ranged
        (λ x e. put_argument_step program code callers size count first scope level within own n x k is κ st1 d1 (small_value_of (fitted ty w) st1 d1 x ag1 (fit_small ty w does.small_value) e) ag1
        (λ inside ag2.
        let st2 : State = with_parameters st1 (slice_set st1.call.parameters n x) in
        let d2 : Desk = record d1 { arguments = slice_set d1.arguments n x } in
        use_number k (slice_get d2.arguments n) x is κ st2 d2 (slice_set_same d1.arguments n x inside)
        (h st2 d2 ag2 (since_end t u u is0 [] i st d st1 d1 st2 d2 does.grows (omega arith) s1 (λ j szj o. refl))))))));
  }
  store_low_by (InMem a) is0 ty w u l t m sz pure does = record {
    grows = omega (arith, does.grows);
    below = omega arith;
    small = tt;
    runs = λ k le is κ res st d ag h.
        let i = AssignLoc u (fitted ty w) in
        let j = AssignMem (integer_of ty) a (Loc u) in
        then_at k is0 (i ∷ j ∷ []) is d _ (does.runs k le (i ∷ j ∷ is) (λ ty s v. store_at ty s v κ) (resolves_split code is0 (i ∷ j ∷ []) is res) st d ag
        (λ st1 d1 ag1 s1. address_by k a (i ∷ j ∷ is) (λ s. on (value program w d1) (λ v. store_at ty s v κ st1)) d1 (value program a d1) refl pure
        (λ x ex.
        subst (λ r. Leads k r (go (i ∷ j ∷ is) d1)) (fit ty w d1 (λ c. written (put ty (Memory x) c st1) c κ))
        (save_temp program code callers size count first scope level within own k u (fitted ty w) (j ∷ is) (λ c. written (put ty (Memory x) c st1) c κ) st1 d1 (omega (arith, does.grows))
        (fit_small ty w does.small_value) ag1
        (λ c lt ec ag2.
        let d2 : Desk = record d1 { locals = with_local d1.locals u c } in
        let there_a : value program a d2 ≡ Number x = value_alike program u a d1 d2 does.fits (alike_set u u c d1 (omega arith)) ∙ ex in
        let there_u : value program (Loc u) d2 ≡ Number c = ap there (set_same d1.locals u c) in
        let R : Runs = written (put ty (Memory x) c st1) c κ in
        let run : Leads k (on (value program a d2) (λ y. on (value program (Loc u) d2) (λ v. R))) (go (j ∷ is) d2) =
        assign_mem_step program code callers k (integer_of ty) a (Loc u) is (λ y v. R) d2 does.small tt ag2.ranged
        (λ y v ey ev.
        let same_y : x ≡ y = let e : Number x ≡ Number y = sym there_a ∙ ey in cc in
        let same_v : c ≡ v = let e : Number c ≡ Number v = sym there_u ∙ ev in cc in
        subst (λ y. Leads k R (written_at program code callers is d2 (stored (integer_access (integer_of ty)) d2.area y (narrowed program code callers (integer_of ty) v)))) same_y
        (subst (λ v. Leads k R (written_at program code callers is d2 (stored (integer_access (integer_of ty)) d2.area x (narrowed program code callers (integer_of ty) v)))) same_v
        (put_memory_step program code callers size count first scope level within own ty x c c k is κ st1 d2 (stored_narrowed program code callers (integer_of ty) d2.area x c) ag2
        (λ area ag3.
        let d3 : Desk = record d2 { area = area } in
        use_number k (d3.locals u) c is κ (with_area st1 area) d3 (set_same d1.locals u c)
        (h (with_area st1 area) d3 ag3 (since_end t u (suc u) is0 (j ∷ []) i st d st1 d1 (with_area st1 area) d3 does.grows (omega arith) s1
        (λ q szq o. set_other d1.locals u c q (λ e. ⊎_elim (λ lt. omega arith) (λ ge. omega arith) o))))))))
        in
        subst (λ o. Leads k (on o (λ v. R)) (go (j ∷ is) d2)) there_u
        (subst (λ o. Leads k (on o (λ y. on (value program (Loc u) d2) (λ v. R))) (go (j ∷ is) d2)) there_a run))))));
  }

  pub store_low_does : (r : Assignable) (t : ℕ) (m : (CType → Spot → Rest) → State → Runs) → first ≤ t → PurePlace r.place → IsReady r t m
      → DoesIt (store_low r) t (λ κ. m (λ ty s v. store_at ty s v κ))
  store_low_does r t m sz pure does = store_low_by r.place r.items r.type r.value r.temps r.labels t m sz pure does

  -- a part that may be saved, and then another part: where its tree stays, nothing changes it
  pub hold : (b : Bool) (w : Tree) (t0 u : ℕ) (q : Lowered) (n : Rest → State → Runs) (k : Depth) → Under k level → (is : List Item) (κ : ℕ → Rest) (st : State) (d : Desk) → first ≤ t0
      → q.temps ≤ u → SmallTree w → DoesIt q t0 n → Resolves code ((saving b u w ++ q.items) ++ is) → (b ≡ false → (q.items ≡ []) ⊎ ((stable size w ≡ true) × Below t0 w)) → good st d
      → ((st' : State) (d' : Desk) → good st' d' → Held size t0 q.temps u (saving b u w ++ q.items) st d st' d'
      → Leads k (on (value program (saved b u w) d') (λ x. on (value program q.tree d') (λ y. κ x y st'))) (go is d'))
      → Leads k (on (value program w d) (λ x. n (κ x) st)) (go ((saving b u w ++ q.items) ++ is) d)
  hold true w t0 u q n k le is κ st d sz le' small does res rest ag h =
      save_temp program code callers size count first scope level within own k u w (q.items ++ is) (λ x. n (κ x) st) st d (omega (arith, does.grows)) small ag
      (λ v lt e ag1.
      let d1 : Desk = record d { locals = with_local d.locals u v } in
      does.runs k le is (κ v) res.1 st d1 ag1
      (λ st2 d2 ag2 s2.
      let there_u : d2.locals u ≡ Some v = s2.keeps u (omega (arith, does.grows)) (inr le') ∙ set_same d.locals u v in
      subst (λ o. Leads k (on (there o) (λ x. on (value program q.tree d2) (λ y. κ x y st2))) (go is d2)) there_u
      (h st2 d2 ag2 (record { keeps = λ j szj o ne. s2.keeps j szj o ∙ set_other d.locals u v j ne; same = λ e. absurd (not_nil [] (AssignLoc u w) q.items e) }))))
  hold false w t0 u q n k le is κ st d sz le' small does res rest ag h = ⊎_elim quiet (λ s. stays s.0 s.1) (rest refl)
    where
      leave : (st2 : State) (d2 : Desk) → Since size t0 q.temps q.items st d st2 d2 → Held size t0 q.temps u q.items st d st2 d2
      leave st2 d2 s2 = record { keeps = λ j szj o ne. s2.keeps j szj o; same = s2.same }

      quiet : q.items ≡ [] → Leads k (on (value program w d) (λ x. n (κ x) st)) (go (q.items ++ is) d)
      quiet none =
          waits_by program code callers size count first scope level within own (record { items = []; tree = w; temps = t0; labels = 0 }) q n k le is κ st d (value program w d) does
          (λ e. let done = subst (λ o. Leads k (on o (λ x. on (value program q.tree d) (λ y. κ x y st))) (go is d)) e
          (h st d ag (record { keeps = λ j szj o ne. refl; same = λ e. (refl, refl) })) in subst (λ l. Leads k (stop ends.Trapped) (go (l ++ is) d)) (sym none) done)
          res refl ag
          (λ v st2 d2 e ag2 s2.
          let eq = s2.same none in
          let same : value program w d2 ≡ Number v = ap (value program w) eq.1 ∙ e in
          subst (λ o. Leads k (on o (λ x. on (value program q.tree d2) (λ y. κ x y st2))) (go is d2)) same (h st2 d2 ag2 (leave st2 d2 s2)))

      stays : stable size w ≡ true → Below t0 w → Leads k (on (value program w d) (λ x. n (κ x) st)) (go (q.items ++ is) d)
      stays s below =
          waits_by program code callers size count first scope level within own (record { items = []; tree = w; temps = t0; labels = 0 }) q n k le is κ st d (value program w d) does
          (λ e. absurd (value_pure program w d (stable_inert size w s) e))
          res refl ag
          (λ v st2 d2 e ag2 s2.
          let same : value program w d2 ≡ Number v = value_stable program size t0 w d d2 s below (λ j szj lt. s2.keeps j szj (inl lt)) ∙ e in
          subst (λ o. Leads k (on o (λ x. on (value program q.tree d2) (λ y. κ x y st2))) (go is d2)) same (h st2 d2 ag2 (leave st2 d2 s2)))

  -- the same, with the frame of the second part alone
  pub waits : (w : Tree) (t0 : ℕ) (q : Lowered) (n : Rest → State → Runs) (k : Depth) → Under k level → (is : List Item) (κ : ℕ → Rest) (st : State) (d : Desk) → first ≤ t0 → SmallTree w
      → Below t0 w → DoesIt q t0 n → Resolves code (q.items ++ is) → (q.items ≡ []) ⊎ (stable size w ≡ true) → good st d
      → ((st' : State) (d' : Desk) → good st' d' → Since size t0 q.temps q.items st d st' d' → Leads k (on (value program w d') (λ x. on (value program q.tree d') (λ y. κ x y st'))) (go is d'))
      → Leads k (on (value program w d) (λ x. n (κ x) st)) (go (q.items ++ is) d)
  waits w t0 q n k le is κ st d sz small below does res (inl none) ag h =
      waits_by program code callers size count first scope level within own (record { items = []; tree = w; temps = t0; labels = 0 }) q n k le is κ st d (value program w d) does
      (λ e. let done = subst (λ o. Leads k (on o (λ x. on (value program q.tree d) (λ y. κ x y st))) (go is d)) e (h st d ag (record { keeps = λ j szj o. refl; same = λ e. (refl, refl) })) in
      subst (λ l. Leads k (stop ends.Trapped) (go (l ++ is) d)) (sym none) done)
      res refl ag
      (λ v st2 d2 e ag2 s2.
      let eq = s2.same none in
      let same : value program w d2 ≡ Number v = ap (value program w) eq.1 ∙ e in
      subst (λ o. Leads k (on o (λ x. on (value program q.tree d2) (λ y. κ x y st2))) (go is d2)) same (h st2 d2 ag2 s2))
  waits w t0 q n k le is κ st d sz small below does res (inr s) ag h =
      waits_by program code callers size count first scope level within own (record { items = []; tree = w; temps = t0; labels = 0 }) q n k le is κ st d (value program w d) does
      (λ e. absurd (value_pure program w d (stable_inert size w s) e))
      res refl ag
      (λ v st2 d2 e ag2 s2.
      let same : value program w d2 ≡ Number v = value_stable program size t0 w d d2 s below (λ j szj lt. s2.keeps j szj (inl lt)) ∙ e in
      subst (λ o. Leads k (on o (λ x. on (value program q.tree d2) (λ y. κ x y st2))) (go is d2)) same (h st2 d2 ag2 s2))

  -- a value is delivered to the local that a place is
  fill : (x : ℕ) (q : Located) (r : Emitted) (t : ℕ) (m : RestAt → State → Runs) (n : Rest → State → Runs) → q.place ≡ InLoc x → integer_of q.type ≡ ints.Int → x < size → IsPlace q t m
      → Delivers program code callers size count first scope level (InLocal x) r q.temps n → (k : Depth) → Under k level → (is : List Item) (κ : Rest) → Resolves code ((q.items ++ r.items) ++ is)
      → (st : State) (d : Desk) → good st d
      → ((v : ℕ) (st' : State) (d' : Desk) → good st' d' → Since size t r.temps (q.items ++ r.items) st d st' d' → d'.locals x ≡ Some v → Leads k (κ v st') (go is d'))
      → Leads k (m (λ ty s. n (λ v. store_at ty s v κ)) st) (go ((q.items ++ r.items) ++ is) d)
  fill x q r t m n at whole lt does does' k le is κ res st d ag h =
      let res1 = resolves_split code q.items r.items is res in
      then_at k q.items r.items is d _ (does.runs k le (r.items ++ is) (λ ty s. n (λ v. store_at ty s v κ)) res1 st d ag
      (λ st1 d1 ag1 s1. subst (λ s. Leads k (place_on program s d1 (λ s. n (λ v. store_at q.type s v κ) st1)) (go (r.items ++ is) d1)) (sym at)
      (does'.runs k le is (λ v. store_at q.type (Local x) v κ) (resolves_back code q.items (r.items ++ is) res1) st1 d1 ag1
      (λ v st2 d2 small ag2 kept.
      let d3 : Desk = record d2 { locals = with_local d2.locals x v } in
      subst (λ c. Leads k (written (put_local x c st2) c κ) (go is d3)) (sym (whole_value q.type v whole))
      (put_local_step program code callers size count first scope level within own x v k is κ st2 d2 small ag2
      (λ inside ag3. h v (with_locals st2 (slice_set st2.call.locals x v)) d3 ag3
      (record {
        keeps = λ j szj o. set_other d2.locals x v j (λ e. omega arith) ∙ kept j szj (⊎_elim (λ lt. inl (omega (arith, does.grows))) (λ ge. inr ge) o)
            ∙ s1.keeps j szj (⊎_elim (λ lt. inl lt) (λ ge. inr (omega (arith, does'.grows))) o);
        same = λ e. absurd (does'.some (back_nil q.items r.items e));
      }) (set_same d2.locals x v)))))))

  pub fill_low_does : (x : ℕ) (q : Located) (r : Emitted) (t : ℕ) (m : RestAt → State → Runs) (n : Rest → State → Runs) → first ≤ t → q.place ≡ InLoc x → integer_of q.type ≡ ints.Int → IsPlace q t m
      → Delivers program code callers size count first scope level (InLocal x) r q.temps n → DoesIt (fill_low x q r) t (λ κ. m (λ ty s. n (λ v. store_at ty s v κ)))
  fill_low_does x q r t m n sz at whole does does' =
      let lt : x < size = within x (subst (FitsPlace program code callers size count first scope level q.temps) at does.fits) in
      record {
        grows = omega (arith, does.grows, does'.grows);
        below = omega (arith, does.grows, does'.grows);
        small = tt;
        runs = λ k le is κ res st d ag h. fill x q r t m n at whole lt does does' k le is κ res st d ag
            (λ v st3 d3 ag3 s3 e. use_number k (d3.locals x) v is κ st3 d3 e (h st3 d3 ag3 s3));
      }

  pub fill_drop_does : (x : ℕ) (q : Located) (r : Emitted) (t : ℕ) (m : RestAt → State → Runs) (n : Rest → State → Runs) → q.place ≡ InLoc x → integer_of q.type ≡ ints.Int → IsPlace q t m
      → Delivers program code callers size count first scope level (InLocal x) r q.temps n
      → Drops program code callers size count first scope level (fill_drop q r) t (λ κ. m (λ ty s. n (λ v. store_at ty s v κ)))
  fill_drop_does x q r t m n at whole does does' =
      let lt : x < size = within x (subst (FitsPlace program code callers size count first scope level q.temps) at does.fits) in
      record {
        grows = omega (arith, does.grows, does'.grows);
        runs = λ k le is κ res st d ag h. fill x q r t m n at whole lt does does' k le is (λ v. κ) res st d ag (λ v st3 d3 ag3 s3 e. h st3 d3 ag3 s3);
      }
