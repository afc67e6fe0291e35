-- The run of the code follows the run of the trees.
use Rattle.std.proofs.Common.{◌≡◌, ℕ, zero, suc, ◌+◌, ◌<◌, false, List, [], ◌∷◌, ◌++◌, length, Option, Some, None, refl, sym, ap, subst, ◌∙◌, arith}
use Rattle.std.specs.Prelude.{slice_get}
use Rattle.std.proofs.lemmas.Bool.{false≢true}
use Rattle.gg_base.specs.Runs.{Outcome, Runs}
use Rattle.gg_base.specs.Follows.{AsksAt, Forward}
use Rattle.gg_base.proofs.Facts.{nil_cons, tail_same}
use Rattle.vax_core.specs.declared.code.CodeItem.{CodeItem}
use Rattle.vax_machine.specs.State.{State}
use Rattle.vax_machine.specs.Running.{state_run}
use Rattle.tree_core.specs.declared.tree.Leaf.{Leaf}
use Rattle.tree_core.specs.declared.program.TreeItem.{TreeItem}
use Rattle.tree_core.specs.declared.program.TreeItem.TheVariants as tree_item
use Rattle.tree_core.specs.declared.program.TreeFn.{TreeFn}
use Rattle.tree_core.specs.declared.program.TreeProgram.{TreeProgram}
use Rattle.tree_core.specs.Trees.{grown}
use Rattle.tree_meaning.specs.State.{Activation, ahead, Next, tree_at, coming, returned, arrived}
use Rattle.tree_meaning.specs.State.{State as Trees}
use Rattle.gg_base.specs.declared.run.Finish.TheVariants as finish
use Rattle.tree_meaning.specs.Steps.{Step, Goes, Serves, GoesTo, Enters, GoesBack, Ends, tree_step}
use Rattle.tree_meaning.specs.Meaning.{run, runs as tree_runs, carried}
use Rattle.vax_machine_lists.specs.Instructions.{Course}
use Rattle.vax_frames_law.specs.vax_frames.specs.Frames.{end_code}
use Rattle.vax_machine_lists.specs.Runs.{HasInstrs, at_of, Carries}
use Rattle.vax_homes_items.specs.vax_homes_law.specs.Calling.{with_stack}
use Rattle.gg_compile_law.specs.Framing.{layout_in}
use Rattle.gg_compile_law.specs.Programs.{InOrder, IsEmitted, StandsAt, Stands}
use Rattle.gg_compile_law.specs.Laws.{ComesBack}
use Rattle.gg_compile_law.proofs.Facts.{step_facts}
use Rattle.gg_compile_law.proofs.Forwards.{asks_led, asks_ended, asks_trapped}
use Rattle.vax_machine_lists.proofs.Joining.{carries}
use Rattle.gg_compile_law.proofs.Placing.{label_at, label_skipped, end_at}
use Rattle.vax_homes_frames.proofs.Same.{places_stay_home, items_stay_home, end_codes_stay_home}
use Rattle.gg_compile_law.proofs.Going.{with_items, returns_come_back}
use Rattle.gg_compile_law.proofs.Roots.{Arrives, Came, came}

module _ (program : TreeProgram) (code : List CodeItem) (emitted : (n : ℕ) (g : TreeFn) → slice_get program.functions n ≡ Some g → IsEmitted program code g) where
  -- what is asked of the machine's run from a state on, by what the trees' run answers with a number
  abbrev Asked : ℕ → Outcome → State → Type 0
  Asked n o m = AsksAt n o.end o.output (state_run m)

  -- the items of a call may be written otherwise
  coming_same : (x : Option (List Leaf × List TreeItem)) (t : Trees) (is : List TreeItem) (o : Next)
      → coming x t.running t.callers t.area t.input o ≡ coming x (with_items t is).running t.callers t.area t.input o
  coming_same None t is o = refl
  coming_same (Some r) t is o = refl

  arrives_with : (t : Trees) (is js : List TreeItem) → t.running.items ≡ is → ahead is ≡ ahead js → arrived t ≡ arrived (with_items t js)
  arrives_with t is js eq same =
      ap (λ (x : List TreeItem). coming (ahead x) t.running t.callers t.area t.input (returned 0 t.callers t.area t.input)) eq
      ∙ ap (λ (x : Option (List Leaf × List TreeItem)). coming x t.running t.callers t.area t.input (returned 0 t.callers t.area t.input)) same
      ∙ coming_same (ahead js) t js (returned 0 t.callers t.area t.input)

  arrives_at : (t : Trees) (w : List Leaf) (is : List TreeItem) → t.running.items ≡ tree_item.Root w ∷ is → arrived t ≡ tree_at w (with_items t is)
  arrives_at t w is eq = ap (λ (x : List TreeItem). coming (ahead x) t.running t.callers t.area t.input (returned 0 t.callers t.area t.input)) eq

  arrives_end : (t : Trees) → t.running.items ≡ [] → arrived t ≡ returned 0 t.callers t.area t.input
  arrives_end t eq = ap (λ (x : List TreeItem). coming (ahead x) t.running t.callers t.area t.input (returned 0 t.callers t.area t.input)) eq

  -- ---- the end of a function's items

  ends_items : (t : Trees) (m : State) (st : List ℕ) (s : Stands program code t m st) → t.running.items ≡ [] → ComesBack program code t.callers t 0 (with_stack m st) []
  ends_items t m st s eq =
      let k = with_stack m st in
      let y = layout_in s.e s.c in
      let there = end_at program code s.g y m.place (subst (λ (x : List TreeItem). StandsAt program code s.g y m.place x) eq s.active.here) in
      let going = s.at_home.home.agrees.sound.going in
      let end = end_codes_stay_home program.objects s.e s.es s.c s.cs t m st s.at_home in
      let got = subst (λ (c : Course). Carries k 2 c) end.does
      (carries end_code k (subst (λ (x : List CodeItem). HasInstrs x m.place end_code) (sym s.items) there) going) in
      returns_come_back program code k [] got.0 s.e s.es s.c s.cs t (at_of m end.state got.1) st got.2
      (places_stay_home program.objects s.e s.es s.c s.cs t end.state st end.stays.at_home got.1 m.items m.over going) s.items 0 end.result s.waits s.shallow

  -- ---- one tree

  module _ (k : ℕ) (ih : (t : Trees) (m : State) (st : List ℕ) → Stands program code t m st → Forward k (tree_runs program (arrived t)) (state_run (with_stack m st))) where
    module _ (m : State) (n : ℕ) (lt : n < k) where
      -- behind steps that are one at least, the runs go on
      goes_on : (w : List ℕ) (s : Trees) → Arrives program code emitted m w s → AsksAt (suc n) (run program n (arrived s)).end (w ++ (run program n (arrived s)).output) (state_run m)
      goes_on w s a =
          asks_led m (with_stack a.state a.stack) w a.count a.leads n (suc n) (omega (arith, a.some)) (run program n (arrived s)).end (run program n (arrived s)).output
          ((ih s a.state a.stack a.stands).at n lt)

      leaves_by : (v : ℕ) (s : Trees) (callers : List Activation) → ComesBack program code callers s v m [] → Asked (suc n) (run program n (returned v callers s.area s.input)) m
      leaves_by v s [] c = asks_ended m [] c.0 (suc n) v c.1
      leaves_by v s (a ∷ rest) c = goes_on [] _ (record { count = c.0; state = c.1; stack = c.2; some = c.3; leads = c.4; stands = c.5 })

    answers : (m : State) (st : List ℕ) (n : ℕ) → n < k → (t0 : Trees) (w : List Leaf) (is : List TreeItem) (here : Stands program code t0 m st) (first : t0.running.items ≡ tree_item.Root w ∷ is)
        (d : Step)
        → Came program code emitted t0 m st w is here first d → Asked (suc n) (carried (run program n) d) (with_stack m st)
    answers m st n lt t0 w is here first (Goes s) c = goes_on (with_stack m st) n lt [] s c
    answers m st n lt t0 w is here first (Serves None s) c = goes_on (with_stack m st) n lt [] s c
    answers m st n lt t0 w is here first (Serves (Some b) s) c = goes_on (with_stack m st) n lt (b ∷ []) s c
    answers m st n lt t0 w is here first (GoesTo l s) c = goes_on (with_stack m st) n lt [] _ c
    answers m st n lt t0 w is here first (Enters h args s) c = goes_on (with_stack m st) n lt [] _ c
    answers m st n lt t0 w is here first (GoesBack v s) c = leaves_by (with_stack m st) n lt v s s.callers c
    answers m st n lt t0 w is here first (Ends (finish.Ended v)) c = absurd c
    answers m st n lt t0 w is here first (Ends finish.Trapped) c = asks_trapped (with_stack m st) [] c.0 (suc n) c.1
    answers m st n lt t0 w is here first (Ends finish.Wild) c = (0, refl)
    answers m st n lt t0 w is here first (Ends finish.Deep) c = (0, refl)

    at_root : (t : Trees) (m : State) (st : List ℕ) (w : List Leaf) (is : List TreeItem) → Stands program code t m st → t.running.items ≡ tree_item.Root w ∷ is → (n : ℕ) → n < suc k
        → Asked n (run program n (tree_at w (with_items t is))) (with_stack m st)
    at_root t m st w is s first zero lt = (zero, refl, refl, omega arith)
    at_root t m st w is s first (suc n) lt =
        answers m st n (omega (arith, lt)) t w is s first (tree_step program (with_items t is) (grown w)) (came program code emitted t m st w is s first (step_facts program (with_items t is) w))

    -- ---- one state

    abbrev IsFollowed : Trees → State → Type 0
    IsFollowed t m = (n : ℕ) → n < suc k → Asked n (run program n (arrived t)) m

    -- the states of suspended calls are followed
    abbrev OutersFollow : List Activation → Type 0
    OutersFollow callers = (s : Trees) (n : State) (sn : List ℕ) (c : Activation) → callers ≡ c ∷ s.callers → Stands program code s n sn → IsFollowed s (with_stack n sn)

    ends_by : (t : Trees) (m : State) (callers : List Activation) → OutersFollow callers
        → ComesBack program code callers t 0 m [] → (n : ℕ) → n < suc k → Asked n (run program n (returned 0 callers t.area t.input)) m
    ends_by t m [] outer c n lt = asks_ended m [] c.0 n 0 c.1
    ends_by t m (a ∷ rest) outer c n lt =
        let s : Trees = record { running = record a { result = 0 }; callers = rest; area = t.area; input = t.input } in
        asks_led m (with_stack c.1 c.2) [] c.0 c.4 n n (omega arith) (run program n (arrived s)).end (run program n (arrived s)).output (outer s c.1 c.2 a refl c.5 n lt)

    by_items : (is : List TreeItem) (t : Trees) (m : State) (st : List ℕ) → t.running.items ≡ is → Stands program code t m st → OutersFollow t.callers → IsFollowed t (with_stack m st)
    by_items [] t m st eq s outer =
        λ n lt. subst (λ (x : Next). Asked n (run program n x) (with_stack m st)) (sym (arrives_end t eq)) (ends_by t (with_stack m st) t.callers outer (ends_items t m st s eq) n lt)
    by_items (tree_item.Root w ∷ is) t m st eq s outer =
        λ n lt. subst (λ (x : Next). Asked n (run program n x) (with_stack m st)) (sym (arrives_at t w is eq)) (at_root t m st w is s eq n lt)
    by_items (tree_item.Label l ∷ is) t m st eq s outer =
        let y = layout_in s.e s.c in
        let at = label_at program code s.g y m.place l is (subst (λ (x : List TreeItem). StandsAt program code s.g y m.place x) eq s.active.here) in
        let order = subst (λ (x : List TreeItem). InOrder (length t.running.pushed) s.is_behind x) eq s.active.order in
        let m' = record m { place = m.place + 1 } in
        let run_is = label_skipped (with_stack m st) _ (ap (λ (x : List CodeItem). slice_get x m.place) s.items ∙ at.stands) in
        let stands : Stands program code (with_items t is) m' st = record {
          e = s.e;
          es = s.es;
          c = s.c;
          cs = s.cs;
          g = s.g;
          is_behind = false;
          at_home =
              items_stay_home program.objects s.e s.es s.c s.cs t m' st
              (places_stay_home program.objects s.e s.es s.c s.cs t m st s.at_home (m.place + 1) m.items m.over s.at_home.home.agrees.sound.going) is;
          items = s.items;
          active = record {
            number = s.active.number;
            function = s.active.function;
            emitted = s.active.emitted;
            layout = s.active.layout;
            locals = s.active.locals;
            items = s.active.items;
            arguments = s.active.arguments;
            here = at.rest;
            order = subst (λ (p : ℕ). InOrder p false is) (sym order.0) order.1;
          };
          result = λ e. absurd (false≢true e);
          waits = s.waits;
          shallow = s.shallow;
        } in
        λ n lt.
        subst (λ (x : Next). Asked n (run program n x) (with_stack m st)) (sym (arrives_with t (tree_item.Label l ∷ is) is eq refl))
        (subst (λ (r : Runs). AsksAt n (run program n (arrived (with_items t is))).end (run program n (arrived (with_items t is))).output r) (sym run_is)
        (by_items is (with_items t is) m' st refl stands outer n lt))

    by_callers : (callers : List Activation) (t : Trees) (m : State) (st : List ℕ) → t.callers ≡ callers → Stands program code t m st → IsFollowed t (with_stack m st)
    by_callers [] t m st eq s = by_items t.running.items t m st refl s (λ s' n' sn c is stands. absurd (nil_cons c s'.callers (sym eq ∙ is)))
    by_callers (a ∷ rest) t m st eq s =
        by_items t.running.items t m st refl s (λ s' n' sn c is stands. by_callers rest s' n' sn (tail_same c a s'.callers rest (sym is ∙ eq)) stands)

  -- From states that stand for one another, the machine's run does what the trees' run does, and in at least as many steps.
  pub follows_forward : (k : ℕ) (t : Trees) (m : State) (st : List ℕ) → Stands program code t m st → Forward k (tree_runs program (arrived t)) (state_run (with_stack m st))
  follows_forward zero t m st s = record { at = λ n lt. absurd (omega arith) }
  follows_forward (suc k) t m st s = record { at = by_callers k (λ t m st s. follows_forward k t m st s) t.callers t m st refl s }
