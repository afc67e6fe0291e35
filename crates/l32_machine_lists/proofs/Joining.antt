-- Where instructions stand in a code at the machine's place, the machine's steps do what the instructions do by themselves.
use Rattle.std.proofs.Common.{◌≡◌, ℕ, zero, suc, ◌+◌, Bool, true, false, cond, List, [], ◌∷◌, ◌++◌, length, drop, Option, Some, None, option_to_list, Result, Ok, Err, refl, sym, ap, subst, ◌∙◌}
use Rattle.std.proofs.Common.{arith}
use Rattle.std.specs.Prelude.{slice_get}
use Rattle.std.specs.Str.{bytes_eq}
use Rattle.gg_base.specs.declared.run.End.TheVariants as run_ends
use Rattle.gg_base.specs.Runs.{Outcome, Runs, one_first}
use Rattle.gg_base.specs.Relations.{holds}
use Rattle.vax_core.specs.First.{putchar_name}
use Rattle.l32_core.specs.declared.code.Instr32.{Instr32}
use Rattle.l32_core.specs.declared.code.Item32.{Item32}
use Rattle.l32_core.specs.declared.code.Item32.TheVariants as item_kind
use Rattle.l32_core.specs.Ops.{shape}
use Rattle.l32_machine.specs.declared.turn.Stop32.{Stop32}
use Rattle.l32_machine.specs.declared.turn.Stop32.TheVariants as stops
use Rattle.l32_machine.specs.declared.operands.Arguments.{Arguments}
use Rattle.l32_machine.specs.declared.function.Action.{Action}
use Rattle.l32_machine.specs.declared.function.Action.TheVariants.{Compute, Branch, Jump, Push, Enter, Call, Return}
use Rattle.l32_machine.specs.State.{State, ◌>>=◌}
use Rattle.l32_machine.specs.Memory.{sp_set}
use Rattle.l32_machine.specs.Labels.{skipped, next_item, label_place}
use Rattle.l32_machine.specs.Operands.{all_evaluated}
use Rattle.l32_machine.specs.Functions.{action_of, applied}
use Rattle.l32_machine.specs.Calls.{Acts, silent, pushed, putchar, getchar, called, called_by_name, returned}
use Rattle.l32_machine.specs.Step.{Next, Goes as Goes_on, next_of, next_where, act, at_item, instruction, acted, branched, finished, step_of}
use Rattle.l32_machine.specs.Running.{end_of, steps, state_run}
use Rattle.l32_machine.specs.Running as running
use Rattle.gg_base.specs.Arithmetic.{sub32, mul32}
use Rattle.l32_target_meaning.specs.vax_target_meaning.specs.vax_machine.specs.Labels.{getchar_name}
use Rattle.l32_target_meaning.specs.l32_templates.specs.vax_templates.specs.sel_target.specs.Courses.{Course, Ending, Comes, Goes, Calls, Returns, Traps, Breaks, bytes_first, followed}
use Rattle.l32_target_meaning.specs.Running.{stop_of, course_of, branching, calling, alone, evaluated_then, performed, run}
use Rattle.run_leads.specs.Leads.{Leads, Halts}
use Rattle.run_leads.proofs.Leading.{leads_compose}
use Rattle.l32_machine_lists.specs.Runs.{doing, returning, HasInstrs, at_of, CarriesTo, Carries}
use Rattle.l32_machine_lists.specs.Runs as runs
use Rattle.l32_machine_lists.specs.Laws.{StepsAreTheirs}
use Rattle.l32_machine_lists.proofs.Placed.{Where, there, ending_there, performed_there, run_there}

-- ---- what is done next

-- a run that is not over does next what the machine acts
run_is : (m : State) (acts : Acts) → m.over ≡ None → act m ≡ acts → state_run m ≡ doing acts
run_is m acts going e = λ i n. by n i
  where
    step : step_of m ≡ next_of acts
    step = ap (λ (o : Option Stop32). next_where o m) going ∙ ap next_of e

    by : (n : ℕ) → steps n m ≡ doing acts n
    by zero = refl
    by (suc n) = ap (λ (x : Next). one_first (running.behind x (steps n))) step

-- what goes on leads to the state behind it, with the byte that was written
pub goes_on : (n : State) (o : Option ℕ) → Leads (doing (Ok (o, n))) (option_to_list o) 1 (state_run n)
goes_on n None =
    let e : (i : ℕ) → 1 + i ≡ suc i = λ i. omega arith in
    record { output = λ i. ap (λ (k : ℕ). (doing (Ok (None, n)) k).output) (e i); end = λ i. ap (λ (k : ℕ). (doing (Ok (None, n)) k).end) (e i) }
goes_on n (Some b) =
    let e : (i : ℕ) → 1 + i ≡ suc i = λ i. omega arith in
    record { output = λ i. ap (λ (k : ℕ). (doing (Ok (Some b, n)) k).output) (e i); end = λ i. ap (λ (k : ℕ). (doing (Ok (Some b, n)) k).end) (e i) }

pub over_now : (e : Stop32) → Halts (doing (Err e)) [] 1 (end_of e)
over_now e =
    let k : (i : ℕ) → 1 + i ≡ suc i = λ i. omega arith in
    record { output = λ i. ap (λ (x : ℕ). (doing (Err e) x).output) (k i); end = λ i. ap (λ (x : ℕ). (doing (Err e) x).end) (k i) }

-- a step that goes on leads to the state behind it
pub steps_on : (m n : State) → step_of m ≡ Goes_on n → Leads (state_run m) [] 1 (state_run n)
steps_on m n e =
    let k : (i : ℕ) → 1 + i ≡ suc i = λ i. omega arith in
    let one : (i : ℕ) → steps (1 + i) m ≡ one_first (steps i n) = λ i. ap (λ (x : ℕ). steps x m) (k i) ∙ ap (λ (x : Next). one_first (running.behind x (steps i))) e in
    record { output = λ i. ap (λ (o : Outcome). o.output) (one i); end = λ i. ap (λ (o : Outcome). o.end) (one i) }

-- ---- the instruction at a machine's place

-- no label is skipped before an instruction
skips_none : (x : Item32) (xs : List Item32) (i : Instr32) → ◌≡◌ {A = Option Item32} (Some x) (Some (item_kind.Instr i)) → skipped (x ∷ xs) ≡ 0
skips_none (item_kind.Instr j) xs i e = refl
skips_none (item_kind.Label n) xs i e = absurd cc

plain_at : (list : List Item32) (place : ℕ) (i : Instr32) → slice_get list place ≡ Some (item_kind.Instr i) → skipped (drop place list) ≡ 0
plain_at [] zero i e = absurd cc
plain_at [] (suc n) i e = absurd cc
plain_at (x ∷ xs) zero i e = skips_none x xs i e
plain_at (x ∷ xs) (suc n) i e = plain_at xs n i e

act_is : (m : State) (i : Instr32) → slice_get m.items m.place ≡ Some (item_kind.Instr i) → act m ≡ instruction (record m { place = m.place + 1 }) i.op i.operands i.target
unfolding act
act_is m i here =
    let e : next_item m.items m.place ≡ m.place = omega (arith, plain_at m.items m.place i here) in
    ap (λ (p : ℕ). at_item (slice_get m.items p) p m) e ∙ ap (λ (o : Option Item32). at_item o m.place m) here

-- ---- one instruction

-- what the machine does of a course of one instruction
abbrev OneStep : Acts → List ℕ → Ending Instr32 State → Type 0
OneStep acts w (Comes n) = (o : Option ℕ) × (w ≡ option_to_list o) × (acts ≡ Ok (o, n))
OneStep acts w (Goes label n) = (w ≡ []) × (acts ≡ Ok (None, record n { place = label_place n.items label }))
OneStep acts w (Calls name count n rest) = (w ≡ []) × (rest ≡ []) × (acts ≡ silent (called n count (label_place n.items name)))
OneStep acts w (Returns n) = (w ≡ []) × (acts ≡ returned n)
OneStep acts w Traps = (w ≡ []) × (acts ≡ Err stops.Trapped)
OneStep acts w Breaks = Unit {0}

abbrev IsOneStep : Acts → Course Instr32 State → Type 0
IsOneStep acts c = OneStep acts c.written c.ending

one_act : (r : Acts) → IsOneStep r (course_of r)
one_act (Ok x) = (x.0, refl, refl)
one_act (Err (stops.Ended v)) = tt
one_act (Err stops.Trapped) = (refl, refl)
one_act (Err (stops.Broken k)) = tt

one_branch : (taken : Bool) (target : Option (List ℕ)) (m : State) → IsOneStep (branched m taken target) (branching taken target m)
one_branch true None m = tt
one_branch false None m = tt
one_branch true (Some label) m = (refl, refl)
one_branch false (Some label) m = (None, refl, refl)

one_call_by : (b c : Bool) (p g s : Acts) (d : Course Instr32 State) → IsOneStep s d → IsOneStep (cond b p (cond c g s)) (cond b (course_of p) (cond c (course_of g) d))
one_call_by true c p g s d h = one_act p
one_call_by false true p g s d h = one_act g
one_call_by false false p g s d h = h

one_call : (count : ℕ) (target : Option (List ℕ)) (m : State) → IsOneStep (called_by_name m count target) (calling count target m)
unfolding called_by_name
one_call count None m = tt
one_call count (Some name) m = one_call_by (bytes_eq name putchar_name) (bytes_eq name getchar_name) (putchar m count) (getchar m count) _ _ (refl, refl, refl)

one_alone : (a : Action) (x : Arguments) (target : Option (List ℕ)) (m : State) → IsOneStep (acted a x target m) (alone a x target m)
one_alone (Compute f) x target m = one_act (finished m x.destination (applied f x.first x.second))
one_alone (Branch relation) x target m = one_branch (holds relation x.first x.second) target m
one_alone Jump x target m = one_branch true target m
one_alone Push x target m = one_act (silent (pushed m x.first))
one_alone Enter x target m = one_act (silent (sp_set m (sub32 m.sp (mul32 4 x.first))))
one_alone Call x target m = one_call x.first target m
one_alone Return x target m = (refl, refl)

one_then : (i : Instr32) (m : State) (t : Result Arguments Stop32) → IsOneStep (t >>= λ (x : Arguments). acted (action_of i.op) x i.target m) (evaluated_then i m t)
one_then i m (Ok x) = one_alone (action_of i.op) x i.target m
one_then i m (Err (stops.Ended v)) = tt
one_then i m (Err stops.Trapped) = (refl, refl)
one_then i m (Err (stops.Broken k)) = tt

one_performed : (i : Instr32) (m : State) → IsOneStep (instruction m i.op i.operands i.target) (performed i m)
unfolding instruction performed
one_performed i m = one_then i m (all_evaluated m (shape i.op).parts i.operands)

-- ---- several

module _ (m : State) where
  -- where the machine is behind the instruction at its place
  abbrev next : Where
  next = record { place = m.place + 1; items = m.items; over = m.over }

  -- what the machine does behind one step is what it does from the step on
  stepped : (o : Option ℕ) (n : State) (count : ℕ) → Leads (state_run m) (option_to_list o) 1 (state_run (there n next)) → (w : List ℕ) (e : Ending Instr32 State)
      → CarriesTo (there n next) count w (ending_there e next) → CarriesTo m (suc count) (option_to_list o ++ w) e
  stepped o n count lead w (Comes k) h =
      let e : m.place + 1 + count ≡ m.place + suc count = omega arith in
      let c : 1 + count ≡ suc count = omega arith in
      subst (λ (p : ℕ). Leads (state_run m) (option_to_list o ++ w) (suc count) (state_run (at_of m k p))) e
      (subst (λ (x : ℕ). Leads (state_run m) (option_to_list o ++ w) x (state_run (at_of m k (m.place + 1 + count)))) c (leads_compose.further _ _ _ (option_to_list o) w 1 count lead h))
  stepped o n count lead w (Goes label k) h =
      let c : 1 + (h.0 + 1) ≡ suc h.0 + 1 = omega arith in
      let behind_it = leads_compose.further _ _ _ (option_to_list o) w 1 (h.0 + 1) lead h.1 in
      (suc h.0, subst (λ (x : ℕ). Leads (state_run m) (option_to_list o ++ w) x (state_run (at_of m k (label_place m.items label)))) c behind_it)
  stepped o n count lead w (Calls name args k rest) h = (1 + h.0, h.1, (omega (arith, h.2)), leads_compose.further _ _ _ (option_to_list o) w 1 h.0 lead h.3)
  stepped o n count lead w (Returns k) h = (1 + h.0, h.1, leads_compose.further _ _ _ (option_to_list o) w 1 h.0 lead h.2)
  stepped o n count lead w Traps h = (1 + h.0, leads_compose.halts _ _ (option_to_list o) w 1 h.0 run_ends.Trapped lead h.1)
  stepped o n count lead w Breaks h = tt

  module _ (going : m.over ≡ None) (is : List Instr32) where
    -- the run does next what the machine acts
    does_next : (acts : Acts) → act m ≡ acts → Leads (state_run m) [] 0 (doing acts)
    does_next acts e = subst (λ (r : Runs). Leads (state_run m) [] 0 r) (run_is m acts going e) (leads_compose.none (state_run m))

    leads_on : (o : Option ℕ) (n : State) → act m ≡ Ok (o, n) → Leads (state_run m) (option_to_list o) 1 (state_run n)
    leads_on o n e = subst (λ (r : Runs). Leads r (option_to_list o) 1 (state_run n)) (sym (run_is m (Ok (o, n)) going e)) (goes_on n o)

    one_then_rest : ((n : State) → CarriesTo (there n next) (length is) (run is n).written (ending_there (run is n).ending next))
        → (w : List ℕ) (e : Ending Instr32 State) → OneStep (act m) w (ending_there e next) → Carries m (suc (length is)) (followed (record { written = w; ending = e }) is (run is))
    one_then_rest rest w (Comes n) h =
        subst (λ (v : List ℕ). Carries m (suc (length is)) (bytes_first v (run is n))) (sym h.1)
        (stepped h.0 n (length is) (leads_on h.0 (there n next) h.2) (run is n).written (run is n).ending (rest n))
    one_then_rest rest w (Goes label n) h =
        subst (λ (v : List ℕ). Carries m (suc (length is)) (followed (record { written = v; ending = Goes label n }) is (run is))) (sym h.0)
        (0, leads_on None (at_of m n (label_place m.items label)) h.1)
    one_then_rest rest w (Calls name args n r) h =
        subst (λ (v : List ℕ). Carries m (suc (length is)) (followed (record { written = v; ending = Calls name args n r }) is (run is))) (sym h.0)
        (subst (λ (l : List Instr32). Carries m (suc (length is)) (followed (record { written = []; ending = Calls name args n l }) is (run is))) (sym h.1)
        (0, m.place + 1, (omega arith), does_next _ h.2))
    one_then_rest rest w (Returns n) h =
        subst (λ (v : List ℕ). Carries m (suc (length is)) (followed (record { written = v; ending = Returns n }) is (run is))) (sym h.0)
        (0, m.place + 1, does_next _ h.1)
    one_then_rest rest w Traps h =
        subst (λ (v : List ℕ). Carries m (suc (length is)) (followed (record { written = v; ending = Traps }) is (run is))) (sym h.0)
        (1, subst (λ (r : Runs). Halts r [] 1 run_ends.Trapped) (sym (run_is m (Err stops.Trapped) going h.1)) (over_now stops.Trapped))
    one_then_rest rest w Breaks h = tt

  one_by_one : (is : List Instr32) (i : Instr32) → m.over ≡ None → slice_get m.items m.place ≡ Some (item_kind.Instr i)
      → ((n : State) → Carries (there n next) (length is) (run is (there n next))) → Carries m (suc (length is)) (run (i ∷ is) m)
  one_by_one is i going here rest =
      one_then_rest going is
      (λ n. subst (λ (c : Course Instr32 State). Carries (there n next) (length is) c) (run_there next is n) (rest n))
      (performed i m).written (performed i m).ending
      (subst (λ (c : Course Instr32 State). IsOneStep (act m) c) (performed_there next i m)
      (subst (λ (a : Acts). IsOneStep a (performed i (there m next))) (sym (act_is m i here)) (one_performed i (there m next))))

pub carries : (is : List Instr32) (m : State) → HasInstrs m.items m.place is → m.over ≡ None → Carries m (length is) (run is m)
carries [] m h going = let e : m.place ≡ m.place + 0 = omega arith in subst (λ (p : ℕ). Leads (state_run m) [] 0 (state_run (at_of m m p))) e (leads_compose.none (state_run m))
carries (i ∷ is) m h going = one_by_one m is i going h.0 (λ n. carries is (there n (next m)) h.1 going)

pub steps_are_theirs : StepsAreTheirs
steps_are_theirs is m h going = carries is m h going
