-- What the items of a call do.
use Rattle.std.proofs.Common.{◌≡◌, ℕ, zero, suc, ◌+◌, ◌≤◌, ◌<◌, ◌^◌, ◌%◌, List, [], ◌∷◌, ◌++◌, length, Option, Some, None, refl, ap, arith, sym, ◌∙◌, subst, ◌⊎◌, inl, inr, ⊎_elim}
use Rattle.std.specs.Prelude.{Bool, true, false, not, ◌&&◌, ◌||◌, cond, slice_get, nat_lt, take, ◌-◌, if◌then◌else◌}
use Rattle.std.proofs.lemmas.Bool.{or_parts, or_cases, and_parts, not-false, not-true}
use Rattle.std.proofs.lemmas.List.{take_at, drop_at}
use Rattle.std.proofs.lemmas.Option.{slice_get_past}
use Rattle.gg_base.specs.declared.run.End.TheVariants as ends
use Rattle.gg_base.specs.Runs.{Runs, counted, one_first, stop, emit}
use Rattle.tree_core.specs.declared.program.TreeItem.{TreeItem}
use Rattle.tree_core.specs.declared.program.TreeProgram.{TreeProgram}
use Rattle.tree_core.specs.declared.program.TreeFn.{TreeFn}
use Rattle.tree_meaning.specs.declared.value.Value.{Value}
use Rattle.tree_meaning.specs.declared.value.Value.TheVariants.{Number, ZeroDivisor, Wild}
use Rattle.tree_meaning.specs.State.{Activation, with_local, arrived, returned, begun as begun_tree}
use Rattle.tree_meaning.specs.Values.{there}
use Rattle.tree_meaning.specs.Steps.{called_as, served, got as got_step}
use Rattle.tree_meaning.specs.Meaning.{To, ended as ended_tree}
use Rattle.tree_counts.specs.Counted.{tallied, tally, tallies}
use Rattle.c_types.specs.declared.typed.Callee.{Callee}
use Rattle.c_types.specs.declared.typed.Callee.TheVariants as callees
use Rattle.c_program.specs.Programs.{ARoutine, AProgram}
use Rattle.c_meaning.specs.State.{State}
use Rattle.c_meaning.specs.Values.{RestAll, Behind, Next, Rest}
use Rattle.c_meaning.specs.declared.flow.Flow.{Flow}
use Rattle.c_meaning.specs.Calls.{put_char, got, call, answer, back, begun as begun_source, performed, entered, called as called_source}
use Rattle.c_meaning.specs.Blocks.{pointer_number}
use Rattle.c_sound.specs.Fits.{AreBytes}
use Rattle.c_lower_scheme.specs.Trees.{Push, Call, Save, Tree, Loc, Item, AssignLoc, divides, reads, breaks, stable}
use Rattle.c_lower_scheme.specs.Spelling.{spelled_all}
use Rattle.c_lower_scheme.specs.Parts.{Passing, Lowered, is_nil, Destination, InLocal, AsResult, Releasing, delivered}
use Rattle.c_lower_scheme.specs.Calls.{pushes, called_drop, called_low, must_pass_by, must_pass, pass_on, pass_so, no_arguments, callee_number, called_deliver}
use Rattle.c_lower_scheme.specs.Assignments.{stays}
use Rattle.c_lower_scheme.proofs.Facts.{stable_inert, pushes_append}
use Rattle.c_lower_follows.proofs.Values.{SmallTree, Ranged, Small, worth_small}
use Rattle.c_lower_counts.proofs.Leads.{Leads, one_tree, leads_deep, leads_none, leads_below, leads_counted, leads_quiet, leads_emit, Depth, Under, deeper, fuller, at_turns}
use Rattle.c_lower_counts.proofs.Carried.{called as called_tree, entered_is}
use Rattle.c_lower_follows.proofs.Steps.{Desk, desk_sight, on, Resolves, resolves_back, resolves_split}
use Rattle.c_lower_counts.proofs.Steps.{moves, state, lost, push_step, call_counts, save_step}
use Rattle.c_lower_follows.proofs.Agreeing.{below_more, Alike, value, value_alike, value_stable, value_pure, Since, agree_temp, set_same, set_other, not_nil, front_nil, back_nil, IsArea}
use Rattle.c_lower_follows.proofs.Agreeing.{extent_of}
use Rattle.c_lower_counts.proofs.Doing.{Drops, Delivers, delivered_does, assoc, save_temp}
use Rattle.c_lower_counts.proofs.Storing.{use_number}
use Rattle.c_lower_counts.proofs.Assigning.{agreed, gone, DoesLow}
use Rattle.c_lower_follows.proofs.Calling.{AllSmall, on_all, PureBut, BelowAll, SmallAll, CodeOf}

below_all_more : (u v : ℕ) (ws : List Tree) → u ≤ v → BelowAll u ws → BelowAll v ws
below_all_more u v [] le h = tt
below_all_more u v (w ∷ ws) le h = (below_more u v w le h.0, below_all_more u v ws le h.1)

pure_more : (w : Tree) (ws : List Tree) → (divides w ≡ false) ⊎ (ws ≡ []) → PureBut ws → PureBut (w ∷ ws)
pure_more w [] o h = tt
pure_more w (v ∷ ws) (inl e) h = (e, h)
pure_more w (v ∷ ws) (inr e) h = absurd (cc)

pushes_some : (ws : List Tree) (i : Item) (is : List Item) → pushes ws (i ∷ is) ≡ [] → ⊥
pushes_some [] i is e = cc
pushes_some (w ∷ ws) i is e = pushes_some ws (Push w) (i ∷ is) e

append_some : (is js : List Item) → (js ≡ [] → ⊥) → is ++ js ≡ [] → ⊥
append_some [] js n e = n e
append_some (i ∷ is) js n e = cc

nil_from : (a : List Item) → is_nil a ≡ true → a ≡ []
nil_from [] e = refl
nil_from (i ∷ is) e = absurd (cc)

module _ (program : TreeProgram) (code : List TreeItem) (callers : List Activation) (size count first : ℕ) (scope : ℕ → Type 0) (level : Depth) (within : (x : ℕ) → scope x → x < size)
    (own : size ≤ first) where
  abbrev pub well : State → Desk → Type 0
  well st d = agreed program code callers size count first scope level within own st d

  abbrev pub run : List Item → Desk → Runs
  run is d = gone program code callers size count first scope level within own is d

  abbrev pub DoesOne : Lowered → ℕ → (Rest → State → Runs) → Type 0
  DoesOne p t m = DoesLow program code callers size count first scope level within own p t m

  -- what the items of arguments leave
  pub record SinceAll (t u : ℕ) (quiet : Bool) (items : List Item) (st : State) (d : Desk) (st' : State) (d' : Desk) : Type 0 where
    pub keeps : (j : ℕ) → size ≤ j → (j < t) ⊎ (u ≤ j) → d'.locals j ≡ d.locals j
    pub same : items ≡ [] → (st' ≡ st) × (d' ≡ d)
    pub still : quiet ≡ true → (st' ≡ st) × Alike t d d'

  pub record DoesAll (p : Passing) (t : ℕ) (m : RestAll → State → Runs) : Type 0 where
    pub grows : t ≤ p.temps
    pub below : BelowAll p.temps p.trees
    pub small : SmallAll p.trees
    pub pure : PureBut p.trees
    pub none : p.trees ≡ [] → p.items ≡ []
    pub runs : (k : Depth) → Under k level → (is : List Item) (κ : RestAll) → Resolves code (p.items ++ is) → (st : State) (d : Desk) → well st d
        → ((st' : State) (d' : Desk) → well st' d' → SinceAll t p.temps p.quiet p.items st d st' d' → Leads k (on_all program p.trees d' (λ vs. κ vs st')) (run is d'))
        → Leads k (m κ st) (run (p.items ++ is) d)

  pub none_does : (t l : ℕ) → DoesAll (no_arguments t l) t (λ κ. κ [])
  none_does t l = record {
    grows = omega arith;
    below = tt;
    small = tt;
    pure = tt;
    none = λ e. refl;
    runs = λ k le is κ res st d ag h.
        h st d ag (record { keeps = λ j sz o. refl; same = λ e. (refl, refl); still = λ e. (refl, record { locals = λ j lt. refl; arguments = refl; area = refl }) });
  }

  -- one more argument, whose tree waits: what its value is behind the others
  passing_by : (p : Lowered) (q : Passing) (n : RestAll → State → Runs) (k : Depth) → Under k level → (is : List Item) (κ : RestAll) (st1 : State) (d1 : Desk) (o : Value) → DoesAll q p.temps n
      → (value program p.tree d1 ≡ ZeroDivisor → Leads k (stop ends.Trapped) (run (q.items ++ is) d1)) → Resolves code (q.items ++ is) → value program p.tree d1 ≡ o → well st1 d1
      → ((v : ℕ) (st2 : State) (d2 : Desk) → value program p.tree d1 ≡ Number v → well st2 d2 → SinceAll p.temps q.temps q.quiet q.items st1 d1 st2 d2
      → Leads k (on_all program q.trees d2 (λ vs. κ (v ∷ vs) st2)) (run is d2)) → Leads k (on o (λ x. n (λ xs. κ (x ∷ xs)) st1)) (run (q.items ++ is) d1)
  passing_by p q n k le is κ st1 d1 (Number v) does' trap res e ag h = does'.runs k le is (λ xs. κ (v ∷ xs)) res st1 d1 ag (λ st2 d2 ag2 s2. h v st2 d2 e ag2 s2)
  passing_by p q n k le is κ st1 d1 ZeroDivisor does' trap res e ag h = trap e
  passing_by p q n k le is κ st1 d1 Wild does' trap res e ag h = lost program code callers k (spelled_all (q.items ++ is)) d1

  since_pass : (t u v : ℕ) (b : Bool) (a c : List Item) (st : State) (d : Desk) (st1 : State) (d1 : Desk) (st2 : State) (d2 : Desk) → t ≤ u → u ≤ v → Since size t u a st d st1 d1
      → SinceAll u v b c st1 d1 st2 d2 → SinceAll t v (is_nil a && b) (a ++ c) st d st2 d2
  since_pass t u v b a c st d st1 d1 st2 d2 tu uv s s' = record {
    keeps = λ j szj o. s'.keeps j szj (⊎_elim (λ lt. inl (omega arith)) (λ ge. inr (omega arith)) o) ∙ s.keeps j szj (⊎_elim (λ lt. inl lt) (λ ge. inr (omega arith)) o);
    same = λ e. let h = s.same (front_nil a c e) in let g = s'.same (back_nil a c e) in (g.0 ∙ h.0, g.1 ∙ h.1);
    still = λ e.
        let h = s.same (nil_from a (and_parts (is_nil a) b e).0) in
        let g = s'.still (and_parts (is_nil a) b e).1 in (
          g.0 ∙ h.0,
          record {
            locals = λ j lt. g.1.locals j (omega arith) ∙ ap (λ (d : Desk). d.locals j) h.1;
            arguments = g.1.arguments
                ∙ ap (λ (d : Desk). d.arguments) h.1;
            area = g.1.area ∙ ap (λ (d : Desk). d.area) h.1;
          },
        );
  }

  pass_saved : (p : Lowered) (q : Passing) (t : ℕ) (m : Rest → State → Runs) (n : RestAll → State → Runs) → first ≤ t → DoesOne p t m → DoesAll q p.temps n
      → DoesAll (pass_so true p q) t (λ κ. m (λ x. n (λ xs. κ (x ∷ xs))))
  pass_saved p q t m n sz does does' = record {
    grows = omega (arith, does.grows, does'.grows);
    below = (omega arith, below_all_more q.temps (suc q.temps) q.trees (omega arith) does'.below);
    small = (tt, does'.small);
    pure = pure_more (Loc q.temps) q.trees (inl refl) does'.pure;
    none = λ e. absurd (cc);
    runs = λ k le is κ res st d ag h.
        let u = q.temps in
        let i = AssignLoc u p.tree in
        let tail : List Item = i ∷ q.items in
        let res1 = resolves_back code p.items (tail ++ is) (resolves_split code p.items tail is res) in
        assoc program code callers size count first scope level k p.items tail is d _
        (does.runs k le (tail ++ is) (λ x. n (λ xs. κ (x ∷ xs))) (resolves_split code p.items tail is res) st d ag
        (λ st1 d1 ag1 s1. save_temp program code callers size count first scope level within own k u p.tree (q.items ++ is) (λ x. n (λ xs. κ (x ∷ xs)) st1) st1 d1
        (omega (arith, does.grows, does'.grows)) does.small ag1
        (λ v lt e ag1'.
        let d1' : Desk = record d1 { locals = with_local d1.locals u v } in
        does'.runs k le is (λ xs. κ (v ∷ xs)) res1.1 st1 d1' ag1'
        (λ st2 d2 ag2 s2.
        let at_u : d2.locals u ≡ Some v = s2.keeps u (omega (arith, does.grows, does'.grows)) (inr (omega arith)) ∙ set_same d1.locals u v in
        subst (λ o. Leads k (on (there o) (λ v. on_all program q.trees d2 (λ vs. κ (v ∷ vs) st2))) (run is d2)) at_u
        (h st2 d2 ag2 (record {
          keeps = λ j szj o. s2.keeps j szj (⊎_elim (λ lt. inl (omega (arith, does.grows))) (λ ge. inr (omega arith)) o)
              ∙ set_other d1.locals u v j (λ e. ⊎_elim (λ lt. omega (arith, does.grows, does'.grows)) (λ ge. omega arith) o)
              ∙ s1.keeps j szj (⊎_elim (λ lt. inl lt) (λ ge. inr (omega (arith, does'.grows))) o);
          same = λ e. absurd (not_nil p.items i q.items e);
          still = λ e.
              let parts = and_parts (is_nil p.items) q.quiet e in
              let one = s1.same (nil_from p.items parts.0) in
              let two = s2.still parts.1 in (
                two.0 ∙ one.0,
                record {
                  locals = λ j lt. two.1.locals j (omega (arith, does.grows)) ∙ set_other d1.locals u v j (λ e. omega (arith, does.grows, does'.grows))
                      ∙ ap (λ (d : Desk). d.locals j) one.1;
                  arguments = two.1.arguments ∙ ap (λ (d : Desk). d.arguments) one.1;
                  area = two.1.area ∙ ap (λ (d : Desk). d.area) one.1;
                },
              );
        }))))));
  }

  pass_waits : (p : Lowered) (q : Passing) (t : ℕ) (m : Rest → State → Runs) (n : RestAll → State → Runs) → ((divides p.tree ≡ false) ⊎ (q.trees ≡ []))
      → ((st1 : State) (d1 : Desk) (st2 : State) (d2 : Desk) → SinceAll p.temps q.temps q.quiet q.items st1 d1 st2 d2 → value program p.tree d2 ≡ value program p.tree d1) → DoesOne p t m
      → DoesAll q p.temps n → DoesAll (pass_so false p q) t (λ κ. m (λ x. n (λ xs. κ (x ∷ xs))))
  pass_waits p q t m n traps stays does does' = record {
    grows = omega (arith, does.grows, does'.grows);
    below = (below_more p.temps q.temps p.tree does'.grows does.below, does'.below);
    small = (does.small, does'.small);
    pure = pure_more p.tree q.trees traps does'.pure;
    none = λ e. absurd (cc);
    runs = λ k le is κ res st d ag h.
        let res1 = resolves_back code p.items (q.items ++ is) (resolves_split code p.items q.items is res) in
        assoc program code callers size count first scope level k p.items q.items is d _
        (does.runs k le (q.items ++ is) (λ x. n (λ xs. κ (x ∷ xs))) (resolves_split code p.items q.items is res) st d ag
        (λ st1 d1 ag1 s1. passing_by p q n k le is κ st1 d1 (value program p.tree d1) does'
        (λ e. ⊎_elim (λ pure. absurd (value_pure program p.tree d1 pure e))
        (λ last. subst (λ l. Leads k (stop ends.Trapped) (run (l ++ is) d1)) (sym (does'.none last))
        (subst (λ o. Leads k (on o (λ v. on_all program q.trees d1 (λ vs. κ (v ∷ vs) st1))) (run is d1)) e
        (h st1 d1 ag1 (since_pass t p.temps q.temps q.quiet p.items q.items st d st1 d1 st1 d1 does.grows does'.grows s1
        (record { keeps = λ j sz o. refl; same = λ e. (refl, refl); still = λ e. (refl, record { locals = λ j lt. refl; arguments = refl; area = refl }) })))))
        traps)
        res1 refl ag1
        (λ v st2 d2 e ag2 s2.
        subst (λ o. Leads k (on o (λ v. on_all program q.trees d2 (λ vs. κ (v ∷ vs) st2))) (run is d2)) (stays st1 d1 st2 d2 s2 ∙ e)
        (h st2 d2 ag2 (since_pass t p.temps q.temps q.quiet p.items q.items st d st1 d1 st2 d2 does.grows does'.grows s1 s2)))));
  }

  ways : (w : Tree) (quiet : Bool) (trees : List Tree) → must_pass_by size count w quiet trees ≡ false → (trees ≡ []) ⊎ ((stable size w ≡ true) ⊎ ((quiet ≡ true) × (breaks w ≡ false)))
  ways w quiet [] e = inl refl
  ways w quiet (v ∷ vs) e = inr (⊎_elim (λ s. inl s) (λ h. let parts = and_parts quiet (not (breaks w)) h in inr (parts.0, not-true (breaks w) parts.1))
      (or_cases (stable size w) (quiet && not (breaks w)) (not-false (stable size w || (quiet && not (breaks w))) e)))

  pass_by : (b : Bool) (p : Lowered) (q : Passing) (t : ℕ) (m : Rest → State → Runs) (n : RestAll → State → Runs) → must_pass_by size count p.tree q.quiet q.trees ≡ b → first ≤ t
      → DoesOne p t m → DoesAll q p.temps n → DoesAll (pass_so b p q) t (λ κ. m (λ x. n (λ xs. κ (x ∷ xs))))
  pass_by true p q t m n e sz does does' = pass_saved p q t m n sz does does'
  pass_by false p q t m n e sz does does' =
      ⊎_elim
      (λ last. pass_waits p q t m n (inr last) (λ st1 d1 st2 d2 s. ap (value program p.tree) (s.same (does'.none last)).1) does does')
      (λ o. ⊎_elim
      (λ s. pass_waits p q t m n (inl (stable_inert size p.tree s)) (λ st1 d1 st2 d2 g. value_stable program size p.temps p.tree d1 d2 s does.below (λ j szj lt. g.keeps j szj (inl lt))) does does')
      (λ h. pass_waits p q t m n (inl (or_parts (divides p.tree) (reads p.tree) h.1).0) (λ st1 d1 st2 d2 g. value_alike program p.temps p.tree d1 d2 does.below (g.still h.0).1) does does')
      o)
      (ways p.tree q.quiet q.trees e)

  pub pass_does : (p : Lowered) (q : Passing) (t : ℕ) (m : Rest → State → Runs) (n : RestAll → State → Runs) → first ≤ t → DoesOne p t m → DoesAll q p.temps n
      → DoesAll (pass_on size count p q) t (λ κ. m (λ x. n (λ xs. κ (x ∷ xs))))
  pass_does p q t m n sz does does' = pass_by (must_pass size count p.tree q) p q t m n refl sz does does'

  first_push : (w x : Tree) (ws : List Tree) (k : Depth) (is : List Item) (κ : List ℕ → Runs) (d : Desk) → SmallTree w → divides w ≡ false → Ranged (desk_sight d)
      → ((vs : List ℕ) → length vs ≡ length (w ∷ x ∷ ws) → AllSmall vs → Leads k (κ vs) (run is (record d { pushed = vs ++ d.pushed }))) → (o : Value) → value program w d ≡ o
      → ((κ' : List ℕ → Runs) → ((vs : List ℕ) → length vs ≡ length (x ∷ ws) → AllSmall vs → Leads k (κ' vs) (run (Push w ∷ is) (record d { pushed = vs ++ d.pushed })))
      → Leads k (on_all program (x ∷ ws) d κ') (run (pushes (x ∷ ws) (Push w ∷ is)) d))
      → Leads k (on o (λ v. on_all program (x ∷ ws) d (λ vs. κ (v ∷ vs)))) (run (pushes (x ∷ ws) (Push w ∷ is)) d)
  first_push w x ws k is κ d small pure r h (Number v) e others =
      others (λ vs. κ (v ∷ vs))
      (λ vs len lts.
      let d1 : Desk = record d { pushed = vs ++ d.pushed } in
      let lt : v < 2 ^ 32 = subst Small e (worth_small program.objects (desk_sight d) r w small) in
      subst (λ o. Leads k (on o (λ y. κ (y ∷ vs))) (run (Push w ∷ is) d1)) e
      (push_step program code callers k w is (λ y. κ (y ∷ vs)) d1 small r
      (λ y e'. h (y ∷ vs) (omega (arith, len)) (subst Small e' (worth_small program.objects (desk_sight d) r w small), lts))))
  first_push w x ws k is κ d small pure r h ZeroDivisor e others = absurd (value_pure program w d pure e)
  first_push w x ws k is κ d small pure r h Wild e others = lost program code callers k (spelled_all (pushes (x ∷ ws) (Push w ∷ is))) d

  -- the values are pushed, the last first
  pub pushes_step : (ws : List Tree) (k : Depth) (is : List Item) (κ : List ℕ → Runs) (d : Desk) → SmallAll ws → PureBut ws → Ranged (desk_sight d)
      → ((vs : List ℕ) → length vs ≡ length ws → AllSmall vs → Leads k (κ vs) (run is (record d { pushed = vs ++ d.pushed }))) → Leads k (on_all program ws d κ) (run (pushes ws is) d)
  pushes_step [] k is κ d small pure r h = h [] refl tt
  pushes_step (w ∷ []) k is κ d small pure r h = push_step program code callers k w is (λ v. κ (v ∷ [])) d small.0 r
      (λ v e. h (v ∷ []) (omega arith) (subst Small e (worth_small program.objects (desk_sight d) r w small.0), tt))
  pushes_step (w ∷ x ∷ ws) k is κ d small pure r h = first_push w x ws k is κ d small.0 pure.0 r h (value program w d) refl (λ κ' g. pushes_step (x ∷ ws) k (Push w ∷ is) κ' d small.1 pure.1 r g)

-- where callers go on
pub record Backed (program : TreeProgram) (k : Depth) (κ : Behind) (cs : List Activation) : Type 0 where
  pub goes : (w : Flow) (st : State) → answer w < 2 ^ 32 → IsArea (extent_of program) st.area → AreBytes st.input → Leads k (κ w st) (tallies program (returned (answer w) cs st.area st.input))

-- bodies are followed, whatever waits for them
pub record Calls (program : TreeProgram) (count : ℕ) (p : AProgram) (next : Next) (level : Depth) : Type 0 where
  pub runs_body : (k : Depth) → Under (deeper k) level → (f : ℕ) (g : ARoutine) → slice_get p.routines f ≡ Some g → (tf : TreeFn) → CodeOf (pointer_number p.objects) count g tf.items
      → (vs : List ℕ) → AllSmall vs
      → (κ : Behind) (cs : List Activation) → Backed program k κ cs → (st : State) → st.active ≡ length cs → IsArea (extent_of program) st.area → AreBytes st.input
      → Leads (fuller k) (performed p.objects next g κ (begun_source g vs st)) (tallies program (arrived (record { running = begun_tree tf vs; callers = cs; area = st.area; input = st.input })))

module _ (program : TreeProgram) (code : List TreeItem) (callers : List Activation) (size count first : ℕ) (scope : ℕ → Type 0) (level : Depth) (within : (x : ℕ) → scope x → x < size)
    (own : size ≤ first) (p : AProgram)
    (next : Next) (counts_all : length program.functions ≡ count)
    (lowers : (f : ℕ) (g : ARoutine) → slice_get p.routines f ≡ Some g → (tf : TreeFn) × (slice_get program.functions f ≡ Some tf) × CodeOf (pointer_number p.objects) count g tf.items)
    (calls : Calls program count p next level) where
  abbrev fine : State → Desk → Type 0
  fine st d = well program code callers size count first scope level within own st d

  abbrev going : List Item → Desk → Runs
  going is d = run program code callers size count first scope level within own is d

  called_is : (to : To) (is : List TreeItem) (d : Desk) (f n : ℕ) (vs : List ℕ) → length vs ≡ n
      → called_tree program to (state program code callers is (record d { pushed = vs ++ d.pushed })) f n
      ≡ tallied to (called_as (state program code callers is d) (slice_get program.functions f) (f - length program.functions) vs)
  called_is to is d f n vs len =
      ap (λ (l : List ℕ). tallied to (called_as (state program code callers is (record d { pushed = l })) (slice_get program.functions f) (f - length program.functions)
      (take n (vs ++ d.pushed)))) (drop_at vs d.pushed n len)
      ∙ ap (λ (l : List ℕ). tallied to (called_as (state program code callers is d) (slice_get program.functions f) (f - length program.functions) l)) (take_at vs d.pushed n len)

  -- what a caller is told: its own state, with a result, and the shared state as the call left it
  abbrev told : Desk → ℕ → State → Desk
  told d v st = record { locals = d.locals; arguments = d.arguments; pushed = d.pushed; result = v; area = st.area; input = st.input }

  told_agrees : (st st' : State) (d : Desk) (v : ℕ) → fine st d → IsArea (extent_of program) st'.area → AreBytes st'.input → fine (record st' { call = st.call; active = st.active }) (told d v st')
  told_agrees st st' d v ag area input = record {
    local = ag.local;
    count = ag.count;
    arguments = ag.arguments;
    area = refl;
    input = refl;
    pushed = ag.pushed;
    active = ag.active;
    ranged = record { local = ag.ranged.local; argument = ag.ranged.argument; area = area.bytes };
    bytes = input;
    whole = area;
    pointer = ag.pointer;
  }

  enter_at : (b : Bool) (k : Depth) (f : ℕ) → Under (deeper k) level → (g : ARoutine) → slice_get p.routines f ≡ Some g → (tf : TreeFn) → CodeOf (pointer_number p.objects) count g tf.items
      → (vs : List ℕ) → AllSmall vs
      → (κ : Rest) (st : State) (d : Desk) (is : List Item) → fine st d
      → ((v : ℕ) (st' : State) → v < 2 ^ 32 → fine (record st' { call = st.call; active = st.active }) (told d v st')
      → Leads k (κ v (record st' { call = st.call; active = st.active })) (going is (told d v st')))
      → Leads (fuller k) (if b then performed p.objects next g (back κ st) (begun_source g vs st) else stop ends.Deep)
      (λ m. cond b (tally program m (arrived (record {
        running = begun_tree tf vs;
        callers = (state program code callers (spelled_all is) d).running ∷ callers;
        area = d.area;
        input = d.input;
      }))) (ended_tree ends.Deep))
  enter_at true k f le g at_f tf own vs small κ st d is ag h =
      let cs : List Activation = (state program code callers (spelled_all is) d).running ∷ callers in
      let backed : Backed program k (back κ st) cs = record { goes = λ w st' lt area input. h (answer w) st' lt (told_agrees st st' d (answer w) ag area input) } in
      let bytes : IsArea (extent_of program) st.area = subst (IsArea (extent_of program)) ag.area ag.whole in
      let ins : AreBytes st.input = subst AreBytes ag.input ag.bytes in
      let done = calls.runs_body k le f g at_f tf own vs small (back κ st) cs backed st ag.active bytes ins in
      subst (λ a. Leads (fuller k) (performed p.objects next g (back κ st) (begun_source g vs st))
      (tallies program (arrived (record { running = begun_tree tf vs; callers = cs; area = a; input = d.input }))))
      (sym ag.area)
      (subst (λ i. Leads (fuller k) (performed p.objects next g (back κ st) (begun_source g vs st))
      (tallies program (arrived (record { running = begun_tree tf vs; callers = cs; area = st.area; input = i })))) (sym ag.input) done)
  enter_at false k f le g at_f tf own vs small κ st d is ag h = leads_deep (fuller k) (λ m. ended_tree ends.Deep)

  -- a call is counted on both sides, where it is not too deep
  counted_by : (b : Bool) (k : Depth) (r q : Runs) → Leads (fuller k) (if b then r else stop ends.Deep) (λ m. cond b (q m) (ended_tree ends.Deep))
      → Leads (deeper k) (counted (if b then r else stop ends.Deep)) (one_tree (λ m. cond b (one_first (q m)) (ended_tree ends.Deep)))
  counted_by true k r q h = leads_counted k r q true h
  counted_by false k r q h = leads_counted k (stop ends.Deep) (λ m. ended_tree ends.Deep) false h

  called_by : (f n t : ℕ) (k : Depth) → Under (at_turns t k) level → (g : ARoutine) → slice_get p.routines f ≡ Some g → (vs : List ℕ) → length vs ≡ n → AllSmall vs
      → (κ : Rest) (st : State) (d : Desk) (is : List Item)
      → fine st d → ((v : ℕ) (st' : State) → v < 2 ^ 32 → fine (record st' { call = st.call; active = st.active }) (told d v st')
      → Leads (at_turns t k) (κ v (record st' { call = st.call; active = st.active })) (going is (told d v st')))
      → Leads (at_turns t k) (counted (entered p.objects next g vs κ st)) (going (Call f n ∷ is) (record d { pushed = vs ++ d.pushed }))
  called_by f n zero k le g at_f vs len small κ st d is ag h = leads_none k _ _
  called_by f n (suc t) above le g at_f vs len small κ st d is ag h =
      let k : Depth = at_turns t above in
      let own = lowers f g at_f in
      let inside : Runs = λ m. tally program m
      (arrived (record { running = begun_tree own.0 vs; callers = (state program code callers (spelled_all is) d).running ∷ callers; area = d.area; input = d.input })) in
      let q : Runs = λ m. cond (nat_lt st.active 1024) (one_first (inside m)) (ended_tree ends.Deep) in
      let deep : 1 + length callers ≡ st.active = omega (arith, ag.active) in
      call_counts program code callers (deeper k) f n is (counted (entered p.objects next g vs κ st)) q (record d { pushed = vs ++ d.pushed })
      (λ m. called_is (tally program m) (spelled_all is) d f n vs len
      ∙ ap (λ o. tallied (tally program m) (called_as (state program code callers (spelled_all is) d) o (f - length program.functions) vs)) own.1
      ∙ entered_is program m (state program code callers (spelled_all is) d) own.0 vs
      ∙ ap (λ a. cond (nat_lt a 1024) (one_first (inside m)) (ended_tree ends.Deep)) deep)
      (counted_by (nat_lt st.active 1024) k (performed p.objects next g (back κ st) (begun_source g vs st)) inside (enter_at (nat_lt st.active 1024) k f le g at_f own.0 own.2 vs small κ st d is ag
      (λ v st' lt ag'. leads_below k _ _ (h v st' lt ag'))))

  called_to : (f n : ℕ) (k : Depth) → Under k level → (o : Option ARoutine) → slice_get p.routines f ≡ o → (vs : List ℕ) → length vs ≡ n → AllSmall vs
      → (κ : Rest) (st : State) (d : Desk) (is : List Item) → fine st d
      → ((v : ℕ) (st' : State) → v < 2 ^ 32 → fine (record st' { call = st.call; active = st.active }) (told d v st')
      → Leads k (κ v (record st' { call = st.call; active = st.active })) (going is (told d v st')))
      → Leads k (called_source p.objects o next vs κ st) (going (Call f n ∷ is) (record d { pushed = vs ++ d.pushed }))
  called_to f n k le None e vs len small κ st d is ag h = lost program code callers k (spelled_all (Call f n ∷ is)) _
  called_to f n k le (Some g) e vs len small κ st d is ag h = called_by f n k.turns k le g e vs len small κ st d is ag h

  none_at : (f : ℕ) → count ≤ f → slice_get program.functions f ≡ None
  none_at f le = slice_get_past program.functions f (omega (arith, counts_all))

  put_step : (n : ℕ) (k : Depth) (vs : List ℕ) → length vs ≡ n → (κ : Rest) (st : State) (d : Desk) (is : List Item) → ((v : ℕ) → v < 2 ^ 32 → Leads k (κ v st) (going is (record d { result = v })))
      → Leads k (put_char vs κ st) (going (Call count n ∷ is) (record d { pushed = vs ++ d.pushed }))
  put_step n k [] len κ st d is h = lost program code callers k (spelled_all (Call count n ∷ is)) _
  put_step n k (c ∷ cs) len κ st d is h =
      let b = c % 2 ^ 8 in
      let q : Runs = emit b (going is (record d { result = b })) in
      let zero_of : count - length program.functions ≡ 0 = omega (arith, counts_all) in
      call_counts program code callers k count n is (emit b (κ b st)) q (record d { pushed = c ∷ (cs ++ d.pushed) })
      (λ m. called_is (tally program m) (spelled_all is) d count n (c ∷ cs) len
      ∙ ap (λ o. tallied (tally program m) (called_as (state program code callers (spelled_all is) d) o (count - length program.functions) (c ∷ cs))) (none_at count (omega arith))
      ∙ ap (λ z. tallied (tally program m) (served (state program code callers (spelled_all is) d) z (c ∷ cs))) zero_of)
      (leads_quiet k _ q (leads_emit k b _ _ (h b (omega arith))))

  get_by : (n : ℕ) (k : Depth) (vs : List ℕ) → length vs ≡ n → (κ : Rest) (st : State) (d : Desk) (is : List Item) (i : List ℕ) → d.input ≡ i → fine st d
      → ((v : ℕ) (st' : State) → v < 2 ^ 32 → fine (record st' { call = st.call; active = st.active }) (told d v st')
      → Leads k (κ v (record st' { call = st.call; active = st.active })) (going is (told d v st')))
      → Leads k (got i κ st) (λ m. tallied (tally program m) (got_step (state program code callers (spelled_all is) d) i))
  get_by n k vs len κ st d is [] e ag h =
      let area : IsArea (extent_of program) st.area = subst (IsArea (extent_of program)) ag.area ag.whole in
      let input : AreBytes st.input = subst AreBytes ag.input ag.bytes in
      let run = h (2 ^ 32 - 1) st (omega arith) (told_agrees st st d (2 ^ 32 - 1) ag area input) in
      subst (λ a. Leads k (κ (2 ^ 32 - 1) st) (going is (record { locals = d.locals; arguments = d.arguments; pushed = d.pushed; result = 2 ^ 32 - 1; area = a; input = d.input }))) (sym ag.area)
      (subst (λ i. Leads k (κ (2 ^ 32 - 1) st) (going is (record { locals = d.locals; arguments = d.arguments; pushed = d.pushed; result = 2 ^ 32 - 1; area = st.area; input = i })))
      (sym ag.input) run)
  get_by n k vs len κ st d is (b ∷ bs) e ag h =
      let area : IsArea (extent_of program) st.area = subst (IsArea (extent_of program)) ag.area ag.whole in
      let input : AreBytes (b ∷ bs) = subst AreBytes e ag.bytes in
      let st' : State = record st { input = bs } in
      let run = h b st' (omega (arith, input.0)) (told_agrees st st' d b ag area input.1) in
      subst (λ a. Leads k (κ b st') (going is (record { locals = d.locals; arguments = d.arguments; pushed = d.pushed; result = b; area = a; input = bs }))) (sym ag.area) run

  get_step : (n : ℕ) (k : Depth) (vs : List ℕ) → length vs ≡ n → (κ : Rest) (st : State) (d : Desk) (is : List Item) → fine st d
      → ((v : ℕ) (st' : State) → v < 2 ^ 32 → fine (record st' { call = st.call; active = st.active }) (told d v st')
      → Leads k (κ v (record st' { call = st.call; active = st.active })) (going is (told d v st')))
      → Leads k (got st.input κ st) (going (Call (suc count) n ∷ is) (record d { pushed = vs ++ d.pushed }))
  get_step n k vs len κ st d is ag h =
      let q : Runs = λ m. tallied (tally program m) (got_step (state program code callers (spelled_all is) d) d.input) in
      let one_of : suc count - length program.functions ≡ 1 = omega (arith, counts_all) in
      call_counts program code callers k (suc count) n is (got st.input κ st) q (record d { pushed = vs ++ d.pushed })
      (λ m. called_is (tally program m) (spelled_all is) d (suc count) n vs len
      ∙ ap (λ o. tallied (tally program m) (called_as (state program code callers (spelled_all is) d) o (suc count - length program.functions) vs)) (none_at (suc count) (omega arith))
      ∙ ap (λ z. tallied (tally program m) (served (state program code callers (spelled_all is) d) z vs)) one_of)
      (leads_quiet k _ q (subst (λ i. Leads k (got i κ st) q) ag.input (get_by n k vs len κ st d is d.input refl ag h)))

  call_step : (f : Callee) (n : ℕ) (k : Depth) → Under k level → (vs : List ℕ) → length vs ≡ n → AllSmall vs → (κ : Rest) (st : State) (d : Desk) (is : List Item) → fine st d
      → ((v : ℕ) (st' : State) → v < 2 ^ 32 → fine (record st' { call = st.call; active = st.active }) (told d v st')
      → Leads k (κ v (record st' { call = st.call; active = st.active })) (going is (told d v st')))
      → Leads k (call p next f vs κ st) (going (Call (callee_number count f) n ∷ is) (record d { pushed = vs ++ d.pushed }))
  call_step (callees.Defined f) n k le vs len small κ st d is ag h = called_to f n k le (slice_get p.routines f) refl vs len small κ st d is ag h
  call_step callees.Putchar n k le vs len small κ st d is ag h =
      put_step n k vs len κ st d is
      (λ v lt.
      let area : IsArea (extent_of program) st.area = subst (IsArea (extent_of program)) ag.area ag.whole in
      let input : AreBytes st.input = subst AreBytes ag.input ag.bytes in
      let run = h v st lt (told_agrees st st d v ag area input) in
      subst (λ a. Leads k (κ v st) (going is (record { locals = d.locals; arguments = d.arguments; pushed = d.pushed; result = v; area = a; input = d.input }))) (sym ag.area)
      (subst (λ i. Leads k (κ v st) (going is (record { locals = d.locals; arguments = d.arguments; pushed = d.pushed; result = v; area = st.area; input = i }))) (sym ag.input) run))
  call_step callees.Getchar n k le vs len small κ st d is ag h = get_step n k vs len κ st d is ag h

  pub called_low_does : (f : Callee) (q : Passing) (t : ℕ) (m : RestAll → State → Runs) → first ≤ t → DoesAll program code callers size count first scope level within own q t m
      → DoesOne program code callers size count first scope level within own (called_low (callee_number count f) q) t (λ κ. m (λ vs. call p next f vs κ))
  called_low_does f q t m sz does = record {
    grows = omega (arith, does.grows);
    below = omega arith;
    small = tt;
    runs = λ k le is κ res st d ag h.
        let u = q.temps in
        let n = length q.trees in
        let c = Call (callee_number count f) n in
        let tail : List Item = pushes q.trees (c ∷ Save u ∷ []) in
        let rest : List Item = c ∷ Save u ∷ is in
        assoc program code callers size count first scope level k q.items tail is d _
        (does.runs k le (tail ++ is) (λ vs. call p next f vs κ) (resolves_split code q.items tail is res) st d ag
        (λ st1 d1 ag1 s1. moves program code callers k (spelled_all (tail ++ is)) (spelled_all (pushes q.trees rest)) d1 _ (ap spelled_all (sym (pushes_append q.trees (c ∷ Save u ∷ []) is)))
        (pushes_step program code callers size count first scope level within own q.trees k rest (λ vs. call p next f vs κ st1) d1 does.small does.pure ag1.ranged
        (λ vs len small. call_step f n k le vs len small κ st1 d1 (Save u ∷ is) ag1
        (λ v st' lt ag'.
        let st2 : State = record st' { call = st1.call; active = st1.active } in
        let d2 : Desk = told d1 v st' in
        let d3 : Desk = record d2 { locals = with_local d1.locals u v } in
        save_step program code callers k u is (κ v st2) d2
        (use_number program code callers size count first scope level within own k (d3.locals u) v is κ st2 d3 (set_same d1.locals u v)
        (h st2 d3 (agree_temp (extent_of program) size first scope (length callers) within own u v st2 d2 (omega (arith, does.grows)) lt ag') (record {
          keeps = λ j szj o. set_other d1.locals u v j (λ e. ⊎_elim (λ lt. omega (arith, does.grows)) (λ ge. omega arith) o) ∙ s1.keeps j szj (⊎_elim (λ lt. inl lt) (λ ge. inr (omega arith)) o);
          same = λ e. absurd (append_some q.items tail (pushes_some q.trees c (Save u ∷ [])) e);
        }))))))));
  }

  pub called_drop_does : (f : Callee) (q : Passing) (t : ℕ) (m : RestAll → State → Runs) → first ≤ t → DoesAll program code callers size count first scope level within own q t m
      → Drops program code callers size count first scope level (called_drop (callee_number count f) q) t (λ κ. m (λ vs. call p next f vs κ))
  called_drop_does f q t m sz does = record {
    grows = does.grows;
    runs = λ k le is κ res st d ag h.
        let n = length q.trees in
        let c = Call (callee_number count f) n in
        let tail : List Item = pushes q.trees (c ∷ []) in
        let rest : List Item = c ∷ is in
        assoc program code callers size count first scope level k q.items tail is d _
        (does.runs k le (tail ++ is) (λ vs. call p next f vs (λ v. κ)) (resolves_split code q.items tail is res) st d ag
        (λ st1 d1 ag1 s1. moves program code callers k (spelled_all (tail ++ is)) (spelled_all (pushes q.trees rest)) d1 _ (ap spelled_all (sym (pushes_append q.trees (c ∷ []) is)))
        (pushes_step program code callers size count first scope level within own q.trees k rest (λ vs. call p next f vs (λ v. κ) st1) d1 does.small does.pure ag1.ranged
        (λ vs len small. call_step f n k le vs len small (λ v. κ) st1 d1 is ag1
        (λ v st' lt ag'.
        let st2 : State = record st' { call = st1.call; active = st1.active } in
        let d2 : Desk = told d1 v st' in
        h st2 d2 ag' (record {
          keeps = λ j szj o. s1.keeps j szj o;
          same = λ e. absurd (append_some q.items tail (pushes_some q.trees c []) e);
        }))))));
  }

  -- a value that leaves the function is made first
  leaving_does : (to : Destination) (f : Callee) (q : Passing) (t : ℕ) (m : RestAll → State → Runs) → first ≤ t → DoesAll program code callers size count first scope level within own q t m
      → Delivers program code callers size count first scope level to (delivered to (called_low (callee_number count f) q)) t (λ κ. m (λ vs. call p next f vs κ))
  leaving_does to f q t m sz does =
      let low = called_low_does f q t m sz does in
      delivered_does program code callers size count first scope level within own to (called_low (callee_number count f) q) t (λ κ. m (λ vs. call p next f vs κ)) sz
      (record { grows = low.grows; below = low.below; small = low.small; runs = λ k le is κ res st d ag h. low.runs k le is κ res st d ag h })

  pub called_deliver_does : (to : Destination) (f : Callee) (q : Passing) (t : ℕ) (m : RestAll → State → Runs) → first ≤ t
      → DoesAll program code callers size count first scope level within own q t m
      → Delivers program code callers size count first scope level to (called_deliver to (callee_number count f) q) t (λ κ. m (λ vs. call p next f vs κ))
  called_deliver_does (InLocal x) f q t m sz does = record {
    grows = does.grows;
    some = λ e. append_some q.items (pushes q.trees (Call (callee_number count f) (length q.trees) ∷ Save x ∷ []))
        (pushes_some q.trees (Call (callee_number count f) (length q.trees)) (Save x ∷ [])) e;
    runs = λ k le is κ res st d ag h.
        let n = length q.trees in
        let c = Call (callee_number count f) n in
        let tail : List Item = pushes q.trees (c ∷ Save x ∷ []) in
        let rest : List Item = c ∷ Save x ∷ is in
        assoc program code callers size count first scope level k q.items tail is d _
        (does.runs k le (tail ++ is) (λ vs. call p next f vs κ) (resolves_split code q.items tail is res) st d ag
        (λ st1 d1 ag1 s1. moves program code callers k (spelled_all (tail ++ is)) (spelled_all (pushes q.trees rest)) d1 _ (ap spelled_all (sym (pushes_append q.trees (c ∷ Save x ∷ []) is)))
        (pushes_step program code callers size count first scope level within own q.trees k rest (λ vs. call p next f vs κ st1) d1 does.small does.pure ag1.ranged
        (λ vs len small. call_step f n k le vs len small κ st1 d1 (Save x ∷ is) ag1
        (λ v st' lt ag'.
        let st2 : State = record st' { call = st1.call; active = st1.active } in
        let d2 : Desk = told d1 v st' in
        save_step program code callers k x is (κ v st2) d2 (h v st2 d2 lt ag' (λ j szj o. s1.keeps j szj o)))))));
  }
  called_deliver_does AsResult f q t m sz does = leaving_does AsResult f q t m sz does
  called_deliver_does (Releasing pointer n) f q t m sz does = leaving_does (Releasing pointer n) f q t m sz does
