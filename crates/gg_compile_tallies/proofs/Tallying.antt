-- The run of the code counts no more than the run of the trees.
use Rattle.std.proofs.Common.{◌≡◌, ℕ, zero, suc, ◌+◌, ◌<◌, false, List, [], ◌∷◌, ◌++◌, length, Option, Some, None, refl, sym, ap, subst, ◌∙◌, arith}
use Rattle.std.specs.Prelude.{slice_get, Bool, true, not, ◌≤◌}
use Rattle.std.proofs.lemmas.Bool.{false≢true}
use Rattle.gg_base.specs.declared.run.End.{End}
use Rattle.gg_base.specs.declared.run.End.TheVariants as ends
use Rattle.gg_base.specs.Runs.{Outcome}
use Rattle.gg_base.proofs.Facts.{nil_cons, tail_same}
use Rattle.vax_core.specs.declared.code.CodeItem.{CodeItem}
use Rattle.vax_machine.specs.State.{State}
use Rattle.vax_machine.specs.declared.turn.Stop.TheVariants as stops
use Rattle.vax_machine.specs.Labels.{double_label}
use Rattle.vax_core.specs.declared.code.CodeItem.TheVariants as item_kind
use Rattle.tree_core.specs.Names.{label_name}
use Rattle.tree_core.specs.declared.tree.Leaf.{Leaf}
use Rattle.tree_core.specs.declared.program.TreeItem.{TreeItem}
use Rattle.tree_core.specs.declared.program.TreeItem.TheVariants as tree_item
use Rattle.tree_core.specs.declared.program.TreeFn.{TreeFn}
use Rattle.tree_core.specs.declared.program.TreeProgram.{TreeProgram}
use Rattle.tree_core.specs.Trees.{grown}
use Rattle.tree_meaning.specs.State.{Activation, ahead, Next, tree_at, coming, returned, arrived}
use Rattle.tree_meaning.specs.State.{State as Trees}
use Rattle.gg_base.specs.declared.run.Finish.TheVariants as finish
use Rattle.tree_meaning.specs.Steps.{Step, Goes, Serves, GoesTo, Enters, GoesBack, Ends, tree_step, with_label}
use Rattle.tree_counts.specs.Counted.{is_ahead, with_count, tallied, tally}
use Rattle.vax_machine_lists.specs.Instructions.{Course}
use Rattle.vax_frames.specs.Frames.{end_code}
use Rattle.vax_machine_lists.specs.Runs.{HasInstrs, at_of}
use Rattle.gg_compile_law.specs.vax_homes_items.specs.vax_homes_law.specs.Calling.{with_stack}
use Rattle.gg_compile_law.specs.vax_homes_frames.proofs.Same.{places_stay_home, items_stay_home, end_codes_stay_home}
use Rattle.gg_compile_law.specs.Framing.{layout_in}
use Rattle.gg_compile_law.specs.Programs.{InOrder, IsEmitted, StandsAt, Stands}
use Rattle.gg_compile_law.specs.Roles.{Role, role_of, target_of}
use Rattle.gg_compile_law.proofs.Facts.{Facts, step_facts}
use Rattle.gg_compile_law.proofs.Placing.{label_at, end_at}
use Rattle.gg_compile_law.proofs.Going.{with_items}
use Rattle.gg_compile_tallies.specs.Claims.{Within}
use Rattle.gg_compile_tallies.proofs.Walking.{Walks, Halted, stay}
use Rattle.gg_compile_tallies.proofs.Carrying.{Carries, carries}
use Rattle.gg_compile_tallies.proofs.Labels.{walk_past}
use Rattle.gg_compile_tallies.proofs.Returning.{ComesBack, comes_back}
use Rattle.gg_compile_tallies.proofs.Roots.{as_number, Arrives, Came, came}

-- ---- what is asked of a run, where steps lead to another

-- more may be counted
pub within_more : (m : State) (x y : ℕ) → x ≤ y → (e : End) (o : List ℕ) → Within x e o m → Within y e o m
within_more m x y le (ends.Ended v) o h = (h.0, h.1, h.2, omega (arith, h.3, le))
within_more m x y le ends.Trapped o h = (h.0, h.1, h.2, omega (arith, h.3, le))
within_more m x y le ends.Spent o h = tt
within_more m x y le ends.Wild o h = tt
within_more m x y le ends.Deep o h = tt
within_more m x y le (ends.Broken k) o h = tt

module _ (m n : State) (w : List ℕ) (count much : ℕ) (h : Walks m w count much n) where
  walked_by : (x : ℕ) (e : End) (o : List ℕ) → Within x e o n → Within (much + x) e (w ++ o) m
  walked_by x (ends.Ended v) o a = let c = h.counts a.0 in (count + a.0, h.leads.output a.0 ∙ ap (λ (l : List ℕ). w ++ l) a.1, h.leads.end a.0 ∙ a.2, omega (arith, c, a.3))
  walked_by x ends.Trapped o a = let c = h.counts a.0 in (count + a.0, h.leads.output a.0 ∙ ap (λ (l : List ℕ). w ++ l) a.1, h.leads.end a.0 ∙ a.2, omega (arith, c, a.3))
  walked_by x ends.Spent o a = tt
  walked_by x ends.Wild o a = tt
  walked_by x ends.Deep o a = tt
  walked_by x (ends.Broken k) o a = tt

  pub within_walked : (o : Outcome) → Within o.number o.end o.output n → Within (much + o.number) o.end (w ++ o.output) m
  within_walked o a = walked_by o.number o.end o.output a

within_past : (m : State) (name : List ℕ) → slice_get m.items m.place ≡ Some (item_kind.Label name) → (o : Outcome) → Within o.number o.end o.output (record m { place = m.place + 1 })
    → Within o.number o.end o.output m
within_past m name e o a =
    within_more m (0 + o.number) o.number (omega arith) o.end o.output (within_walked m (record m { place = m.place + 1 }) [] 0 0 (walk_past m m [] 0 0 name e (stay m)) o a)

-- a tree that counts
within_count : (m : State) (b : Bool) (o : Outcome) → Within (as_number b + o.number) o.end o.output m → Within (with_count b o).number (with_count b o).end (with_count b o).output m
within_count m true o a = within_more m (1 + o.number) (suc o.number) (omega arith) o.end o.output a
within_count m false o a = within_more m (0 + o.number) o.number (omega arith) o.end o.output a

within_ended : (m : State) (w : List ℕ) (count v x : ℕ) → Halted m w count 0 (stops.Ended v) → Within x (ends.Ended v) w m
within_ended m w count v x h = let c = h.counts 0 in (count + 0, h.halts.output 0, h.halts.end 0, omega (arith, c))

within_trapped : (m : State) (w : List ℕ) (count x : ℕ) → Halted m w count 0 stops.Trapped → Within x ends.Trapped w m
within_trapped m w count x h = let c = h.counts 0 in (count + 0, h.halts.output 0, h.halts.end 0, omega (arith, c))

-- where a tree jumps, the items still to come are those behind it
abbrev Steps : List TreeItem → Step → Type 0
Steps is (Goes s) = Unit {0}
Steps is (Serves b s) = Unit {0}
Steps is (GoesTo l s) = s.running.items ≡ is
Steps is (Enters h args s) = Unit {0}
Steps is (GoesBack v s) = Unit {0}
Steps is (Ends e) = Unit {0}

module _ (program : TreeProgram) (code : List CodeItem) (emitted : (n : ℕ) (g : TreeFn) → slice_get program.functions n ≡ Some g → IsEmitted program code g) (once : double_label code ≡ None) where
  -- what is asked of the machine's run from a state on, by what the trees' run answers
  abbrev Asked : Outcome → State → Type 0
  Asked o m = Within o.number o.end o.output m

  -- the items of a call may be written otherwise
  coming_same : (x : Option (List Leaf × List TreeItem)) (t : Trees) (is : List TreeItem) (o : Next)
      → coming x t.running t.callers t.area t.input o ≡ coming x (with_items t is).running t.callers t.area t.input o
  coming_same None t is o = refl
  coming_same (Some r) t is o = refl

  arrives_with : (t : Trees) (is js : List TreeItem) → t.running.items ≡ is → ahead is ≡ ahead js → arrived t ≡ arrived (with_items t js)
  arrives_with t is js eq same =
      ap (λ (x : List TreeItem). coming (ahead x) t.running t.callers t.area t.input (returned 0 t.callers t.area t.input)) eq
      ∙ ap (λ (x : Option (List Leaf × List TreeItem)). coming x t.running t.callers t.area t.input (returned 0 t.callers t.area t.input)) same
      ∙ coming_same (ahead js) t js (returned 0 t.callers t.area t.input)

  arrives_at : (t : Trees) (w : List Leaf) (is : List TreeItem) → t.running.items ≡ tree_item.Root w ∷ is → arrived t ≡ tree_at w (with_items t is)
  arrives_at t w is eq = ap (λ (x : List TreeItem). coming (ahead x) t.running t.callers t.area t.input (returned 0 t.callers t.area t.input)) eq

  arrives_end : (t : Trees) → t.running.items ≡ [] → arrived t ≡ returned 0 t.callers t.area t.input
  arrives_end t eq = ap (λ (x : List TreeItem). coming (ahead x) t.running t.callers t.area t.input (returned 0 t.callers t.area t.input)) eq

  steps_at : (t : Trees) (r : Role) (o : Option ℕ) (d : Step) → Facts program t r o d → Steps t.running.items d
  steps_at t r o (Goes s) h = tt
  steps_at t r o (Serves b s) h = tt
  steps_at t r o (GoesTo l s) h = ap (λ (x : Trees). x.running.items) h.0
  steps_at t r o (Enters g args s) h = tt
  steps_at t r o (GoesBack v s) h = tt
  steps_at t r o (Ends e) h = tt

  -- ---- the end of a function's items

  ends_items : (t : Trees) (m : State) (st : List ℕ) (s : Stands program code t m st) → t.running.items ≡ [] → ComesBack program code t.callers t 0 (with_stack m st) []
  ends_items t m st s eq =
      let k = with_stack m st in
      let y = layout_in s.e s.c in
      let there = end_at program code s.g y m.place (subst (λ (x : List TreeItem). StandsAt program code s.g y m.place x) eq s.active.here) in
      let going = s.at_home.home.agrees.sound.going in
      let end = end_codes_stay_home program.objects s.e s.es s.c s.cs t m st s.at_home in
      let got = subst (λ (c : Course). Carries k 2 c) end.does
      (carries end_code k (subst (λ (x : List CodeItem). HasInstrs x m.place end_code) (sym s.items) there) going) in
      comes_back program code k [] 2 t (at_of m end.state got.0) st got.1 end.stays.frames s.items 0 end.result s.shallow s.e s.c s.cs s.es t.callers s.waits
      (places_stay_home program.objects s.e s.es s.c s.cs t end.state st end.stays.at_home got.0 m.items m.over going) refl

  -- ---- one tree

  module _ (k : ℕ) (ih : (t : Trees) (m : State) (st : List ℕ) → Stands program code t m st → (n : ℕ) → n < k → Asked (tally program n (arrived t)) (with_stack m st)) where
    module _ (m : State) (n : ℕ) (lt : n < k) where
      -- behind steps that count so much, the runs go on
      goes_on : (w : List ℕ) (much : ℕ) (s : Trees) → Arrives program code emitted once m w much s
          → Within (much + (tally program n (arrived s)).number) (tally program n (arrived s)).end (w ++ (tally program n (arrived s)).output) m
      goes_on w much s a = within_walked m (with_stack a.state a.stack) w a.count much a.walks (tally program n (arrived s)) (ih s a.state a.stack a.stands n lt)

      goes_quietly : (s : Trees) → Arrives program code emitted once m [] 0 s → Asked (tally program n (arrived s)) m
      goes_quietly s a =
          within_more m (0 + (tally program n (arrived s)).number) (tally program n (arrived s)).number (omega arith) (tally program n (arrived s)).end (tally program n (arrived s)).output
          (goes_on [] 0 s a)

      goes_counted : (b : Bool) (s : Trees) → Arrives program code emitted once m [] (as_number b) s → Asked (with_count b (tally program n (arrived s))) m
      goes_counted b s a = within_count m b (tally program n (arrived s)) (goes_on [] (as_number b) s a)

      leaves_by : (v : ℕ) (s : Trees) (callers : List Activation) → ComesBack program code callers s v m [] → Asked (tally program n (returned v callers s.area s.input)) m
      leaves_by v s [] c = within_ended m [] c.0 v 0 c.1
      leaves_by v s (a ∷ rest) c = goes_quietly _ (record { count = c.0; state = c.1; stack = c.2; walks = c.3; stands = c.4 })

    answers : (m : State) (st : List ℕ) (n : ℕ) → n < k → (t0 : Trees) (w : List Leaf) (is : List TreeItem) (here : Stands program code t0 m st) (first : t0.running.items ≡ tree_item.Root w ∷ is)
        (d : Step) → Steps is d → Came program code emitted once t0 m st w is here first d → Asked (tallied (tally program n) d) (with_stack m st)
    answers m st n lt t0 w is here first (Goes s) at c = goes_quietly (with_stack m st) n lt s c
    answers m st n lt t0 w is here first (Serves None s) at c = goes_quietly (with_stack m st) n lt s c
    answers m st n lt t0 w is here first (Serves (Some b) s) at c =
        within_more (with_stack m st) (0 + (tally program n (arrived s)).number) (tally program n (arrived s)).number (omega arith) (tally program n (arrived s)).end
        (b ∷ (tally program n (arrived s)).output)
        (goes_on (with_stack m st) n lt (b ∷ []) 0 s c)
    answers m st n lt t0 w is here first (GoesTo l s) at c =
        goes_counted (with_stack m st) n lt (not (is_ahead s.running.items l)) (with_label s l)
        (subst (λ (x : List TreeItem). Arrives program code emitted once (with_stack m st) [] (as_number (not (is_ahead x l))) (with_label s l)) (sym at) c)
    answers m st n lt t0 w is here first (Enters h args s) at c = goes_counted (with_stack m st) n lt true _ c
    answers m st n lt t0 w is here first (GoesBack v s) at c = leaves_by (with_stack m st) n lt v s s.callers c
    answers m st n lt t0 w is here first (Ends (finish.Ended v)) at c = absurd c
    answers m st n lt t0 w is here first (Ends finish.Trapped) at c = within_trapped (with_stack m st) [] c.0 0 c.1
    answers m st n lt t0 w is here first (Ends finish.Wild) at c = tt
    answers m st n lt t0 w is here first (Ends finish.Deep) at c = tt

    at_root : (t : Trees) (m : State) (st : List ℕ) (w : List Leaf) (is : List TreeItem) → Stands program code t m st → t.running.items ≡ tree_item.Root w ∷ is → (n : ℕ) → n < suc k
        → Asked (tally program n (tree_at w (with_items t is))) (with_stack m st)
    at_root t m st w is s first zero lt = tt
    at_root t m st w is s first (suc n) lt =
        let facts = step_facts program (with_items t is) w in
        answers m st n (omega (arith, lt)) t w is s first (tree_step program (with_items t is) (grown w)) (steps_at (with_items t is) (role_of w) (target_of w) _ facts)
        (came program code emitted once t m st w is s first facts)

    -- ---- one state

    abbrev IsFollowed : Trees → State → Type 0
    IsFollowed t m = (n : ℕ) → n < suc k → Asked (tally program n (arrived t)) m

    -- the states of suspended calls are followed
    abbrev OutersFollow : List Activation → Type 0
    OutersFollow callers = (s : Trees) (n : State) (sn : List ℕ) (c : Activation) → callers ≡ c ∷ s.callers → Stands program code s n sn → IsFollowed s (with_stack n sn)

    ends_by : (t : Trees) (m : State) (callers : List Activation) → OutersFollow callers
        → ComesBack program code callers t 0 m [] → (n : ℕ) → n < suc k → Asked (tally program n (returned 0 callers t.area t.input)) m
    ends_by t m [] outer c n lt = within_ended m [] c.0 0 0 c.1
    ends_by t m (a ∷ rest) outer c n lt =
        let s : Trees = record { running = record a { result = 0 }; callers = rest; area = t.area; input = t.input } in
        within_more m (0 + (tally program n (arrived s)).number) (tally program n (arrived s)).number (omega arith) (tally program n (arrived s)).end (tally program n (arrived s)).output
        (within_walked m (with_stack c.1 c.2) [] c.0 0 c.3 (tally program n (arrived s)) (outer s c.1 c.2 a refl c.4 n lt))

    by_items : (is : List TreeItem) (t : Trees) (m : State) (st : List ℕ) → t.running.items ≡ is → Stands program code t m st → OutersFollow t.callers → IsFollowed t (with_stack m st)
    by_items [] t m st eq s outer =
        λ n lt. subst (λ (x : Next). Asked (tally program n x) (with_stack m st)) (sym (arrives_end t eq)) (ends_by t (with_stack m st) t.callers outer (ends_items t m st s eq) n lt)
    by_items (tree_item.Root w ∷ is) t m st eq s outer =
        λ n lt. subst (λ (x : Next). Asked (tally program n x) (with_stack m st)) (sym (arrives_at t w is eq)) (at_root t m st w is s eq n lt)
    by_items (tree_item.Label l ∷ is) t m st eq s outer =
        let y = layout_in s.e s.c in
        let at = label_at program code s.g y m.place l is (subst (λ (x : List TreeItem). StandsAt program code s.g y m.place x) eq s.active.here) in
        let order = subst (λ (x : List TreeItem). InOrder (length t.running.pushed) s.is_behind x) eq s.active.order in
        let m' = record m { place = m.place + 1 } in
        let stand : slice_get m.items m.place ≡ Some (item_kind.Label (label_name l)) = ap (λ (x : List CodeItem). slice_get x m.place) s.items ∙ at.stands in
        let stands : Stands program code (with_items t is) m' st = record {
          e = s.e;
          es = s.es;
          c = s.c;
          cs = s.cs;
          g = s.g;
          is_behind = false;
          at_home =
              items_stay_home program.objects s.e s.es s.c s.cs t m' st
              (places_stay_home program.objects s.e s.es s.c s.cs t m st s.at_home (m.place + 1) m.items m.over s.at_home.home.agrees.sound.going) is;
          items = s.items;
          active = record {
            number = s.active.number;
            function = s.active.function;
            emitted = s.active.emitted;
            layout = s.active.layout;
            locals = s.active.locals;
            items = s.active.items;
            arguments = s.active.arguments;
            here = at.rest;
            order = subst (λ (p : ℕ). InOrder p false is) (sym order.0) order.1;
          };
          result = λ e. absurd (false≢true e);
          waits = s.waits;
          shallow = s.shallow;
        } in
        λ n lt.
        subst (λ (x : Next). Asked (tally program n x) (with_stack m st)) (sym (arrives_with t (tree_item.Label l ∷ is) is eq refl))
        (within_past (with_stack m st) (label_name l) stand (tally program n (arrived (with_items t is))) (by_items is (with_items t is) m' st refl stands outer n lt))

    by_callers : (callers : List Activation) (t : Trees) (m : State) (st : List ℕ) → t.callers ≡ callers → Stands program code t m st → IsFollowed t (with_stack m st)
    by_callers [] t m st eq s = by_items t.running.items t m st refl s (λ s' n' sn c is stands. absurd (nil_cons c s'.callers (sym eq ∙ is)))
    by_callers (a ∷ rest) t m st eq s =
        by_items t.running.items t m st refl s (λ s' n' sn c is stands. by_callers rest s' n' sn (tail_same c a s'.callers rest (sym is ∙ eq)) stands)

  below : (k : ℕ) (t : Trees) (m : State) (st : List ℕ) → Stands program code t m st → (n : ℕ) → n < k → Asked (tally program n (arrived t)) (with_stack m st)
  below zero t m st s = λ n lt. absurd (omega arith)
  below (suc k) t m st s = by_callers k (λ t m st s n lt. below k t m st s n lt) t.callers t m st refl s

  -- From states that stand for one another, where the trees' run ends, so does the machine's run, and counts no more.
  pub tells_within : (t : Trees) (m : State) (st : List ℕ) → Stands program code t m st → (n : ℕ)
      → Within (tally program n (arrived t)).number (tally program n (arrived t)).end (tally program n (arrived t)).output (with_stack m st)
  tells_within t m st s n = below (suc n) t m st s n (omega arith)
