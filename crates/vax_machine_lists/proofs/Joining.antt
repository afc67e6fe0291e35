-- Where instructions stand in a code at the machine's place, the machine's steps do what the instructions do by themselves.
use Rattle.std.proofs.Common.{◌≡◌, ℕ, zero, suc, ◌+◌, Bool, true, false, cond, List, [], ◌∷◌, ◌++◌, length, drop, Option, Some, None, option_to_list, Result, Ok, Err, refl, sym, ap, subst, ◌∙◌}
use Rattle.std.proofs.Common.{arith, append_assoc, append-nil}
use Rattle.std.specs.Prelude.{slice_get}
use Rattle.std.specs.Str.{bytes_eq}
use Rattle.vax_core.specs.declared.code.Instr.{Instr}
use Rattle.vax_core.specs.declared.code.CodeItem.{CodeItem}
use Rattle.vax_core.specs.declared.code.CodeItem.TheVariants as item_kind
use Rattle.vax_core.specs.Ops.{shape}
use Rattle.vax_core.specs.First.{putchar_name}
use Rattle.vax_machine.specs.declared.turn.Stop.{Stop}
use Rattle.vax_machine.specs.declared.operands.Arguments.{Arguments}
use Rattle.vax_machine.specs.declared.function.Action.{Action}
use Rattle.vax_machine.specs.declared.function.Action.TheVariants.{Compute, Push, Branch, Call, Return}
use Rattle.vax_machine.specs.State.{State, ◌>>=◌}
use Rattle.vax_machine.specs.Labels.{skipped, next_item, label_place, getchar_name}
use Rattle.vax_machine.specs.Operands.{all_evaluated}
use Rattle.vax_machine.specs.Functions.{action_of, applied, passes}
use Rattle.vax_machine.specs.Calls.{Acts, called, silent, returned, called_by_name, putchar, getchar}
use Rattle.vax_machine.specs.Step.{act, at_item, instruction, acted, branched, finished, pushing}
use Rattle.vax_machine_lists.specs.Instructions.{Ending, Comes, Goes, Calls, Returns, Stops, Course, course_of, bytes_first, behind, followed, branching, calling, alone}
use Rattle.vax_machine_lists.specs.Instructions.{evaluated_then, performed, exec}
use Rattle.vax_machine_lists.specs.Laws.{StepsAreTheirs, OneAfterAnother}
use Rattle.vax_machine_lists.specs.Runs.{Leads, HasInstrs, at_of, CarriesTo, Carries}
use Rattle.vax_machine_lists.proofs.Placed.{Where, there, ending_there, performed_there, exec_there}
use Rattle.vax_machine_lists.proofs.Steps.{nothing, one, further, then_gets, gets_now}

-- ---- the instruction at a machine's place

-- no label is skipped before an instruction
skips_none : (x : CodeItem) (xs : List CodeItem) (i : Instr) → ◌≡◌ {A = Option CodeItem} (Some x) (Some (item_kind.Instr i)) → skipped (x ∷ xs) ≡ 0
skips_none (item_kind.Instr j) xs i e = refl
skips_none _ xs i e = absurd cc

plain_at : (list : List CodeItem) (place : ℕ) (i : Instr) → slice_get list place ≡ Some (item_kind.Instr i) → skipped (drop place list) ≡ 0
plain_at [] zero i e = absurd cc
plain_at [] (suc n) i e = absurd cc
plain_at (x ∷ xs) zero i e = skips_none x xs i e
plain_at (x ∷ xs) (suc n) i e = plain_at xs n i e

pub act_is : (m : State) (i : Instr) → slice_get m.items m.place ≡ Some (item_kind.Instr i) → act m ≡ instruction (record m { place = m.place + 1 }) i.op i.operands i.target
unfolding act
act_is m i here =
    let e : next_item m.items m.place ≡ m.place = omega (arith, plain_at m.items m.place i here) in
    ap (λ (p : ℕ). at_item (slice_get m.items p) p m) e ∙ ap (λ (o : Option CodeItem). at_item o m.place m) here

-- ---- one instruction

-- what the machine does of a course of one instruction
abbrev pub OneStep : Acts → List ℕ → Ending → Type 0
OneStep acts w (Comes n) = (o : Option ℕ) × (w ≡ option_to_list o) × (acts ≡ Ok (o, n))
OneStep acts w (Goes label n) = (w ≡ []) × (acts ≡ Ok (None, record n { place = label_place n.items label }))
OneStep acts w (Calls name count n rest) = (w ≡ []) × (rest ≡ []) × (acts ≡ silent (called n count (label_place n.items name) (Some n.place)))
OneStep acts w (Returns n) = (w ≡ []) × (acts ≡ returned n)
OneStep acts w (Stops e) = (w ≡ []) × (acts ≡ Err e)

abbrev pub IsOneStep : Acts → Course → Type 0
IsOneStep acts c = OneStep acts c.written c.ending

one_act : (r : Acts) → IsOneStep r (course_of r)
one_act (Ok x) = (x.0, refl, refl)
one_act (Err e) = (refl, refl)

one_branch : (taken : Bool) (target : Option (List ℕ)) (m : State) → IsOneStep (branched m taken target) (branching taken target m)
one_branch true None m = (refl, refl)
one_branch false None m = (refl, refl)
one_branch true (Some label) m = (refl, refl)
one_branch false (Some label) m = (None, refl, refl)

one_call_by : (b c : Bool) (p g s : Acts) (d : Course) → IsOneStep s d → IsOneStep (cond b p (cond c g s)) (cond b (course_of p) (cond c (course_of g) d))
one_call_by true c p g s d h = one_act p
one_call_by false true p g s d h = one_act g
one_call_by false false p g s d h = h

one_call : (count : ℕ) (target : Option (List ℕ)) (m : State) → IsOneStep (called_by_name m count target) (calling count target m)
unfolding called_by_name
one_call count None m = (refl, refl)
one_call count (Some name) m = one_call_by (bytes_eq name putchar_name) (bytes_eq name getchar_name) (putchar m count) (getchar m count) _ _ (refl, refl, refl)

one_alone : (a : Action) (x : Arguments) (target : Option (List ℕ)) (m : State) → IsOneStep (acted a x target m) (alone a x target m)
one_alone (Compute f) x target m = one_act (finished m x.destination (applied f x.first x.second m.conditions.carry))
one_alone Push x target m = one_act (pushing m x.first)
one_alone (Branch t) x target m = one_branch (passes t m.conditions) target m
one_alone Call x target m = one_call x.first target m
one_alone Return x target m = (refl, refl)

one_then : (i : Instr) (t : Result (Arguments × State) Stop) → IsOneStep (t >>= λ (x : Arguments × State). acted (action_of i.op) x.0 i.target x.1) (evaluated_then i t)
one_then i (Ok x) = one_alone (action_of i.op) x.0 i.target x.1
one_then i (Err e) = (refl, refl)

pub one_performed : (i : Instr) (m : State) → IsOneStep (instruction m i.op i.operands i.target) (performed i m)
unfolding instruction performed
one_performed i m = one_then i (all_evaluated (shape i.op).operands i.operands m)

-- ---- several

module _ (m : State) where
  -- where the machine is behind the instruction at its place
  abbrev next : Where
  next = record { place = m.place + 1; items = m.items; over = m.over }

  -- what the machine does behind one step is what it does from the step on
  stepped : (o : Option ℕ) (n : State) (count : ℕ) → Leads m (option_to_list o) 1 (there n next) → (w : List ℕ) (e : Ending)
      → CarriesTo (there n next) count w (ending_there e next) → CarriesTo m (suc count) (option_to_list o ++ w) e
  stepped o n count lead w (Comes k) h =
      let e : m.place + 1 + count ≡ m.place + suc count = omega arith in
      let c : 1 + count ≡ suc count = omega arith in
      subst (λ (p : ℕ). Leads m (option_to_list o ++ w) (suc count) (at_of m k p)) e
      (subst (λ (x : ℕ). Leads m (option_to_list o ++ w) x (at_of m k (m.place + 1 + count))) c (further m (there n next) (at_of m k (m.place + 1 + count)) (option_to_list o) w 1 count lead h))
  stepped o n count lead w (Goes label k) h = (1 + h.0, then_gets m (there n next) (option_to_list o) w 1 h.0 _ lead h.1)
  stepped o n count lead w (Calls name args k rest) h = (1 + h.0, h.1, (omega (arith, h.2)), then_gets m (there n next) (option_to_list o) w 1 h.0 _ lead h.3)
  stepped o n count lead w (Returns k) h = (1 + h.0, h.1, then_gets m (there n next) (option_to_list o) w 1 h.0 _ lead h.2)
  stepped o n count lead w (Stops e) h = (1 + h.0, then_gets m (there n next) (option_to_list o) w 1 h.0 _ lead h.1)

  module _ (going : m.over ≡ None) (is : List Instr) where
    one_then_rest : ((n : State) → CarriesTo (there n next) (length is) (exec is n).written (ending_there (exec is n).ending next))
        → (w : List ℕ) (e : Ending) → OneStep (act m) w (ending_there e next) → Carries m (suc (length is)) (followed (record { written = w; ending = e }) is (exec is))
    one_then_rest rest w (Comes n) h =
        subst (λ (v : List ℕ). Carries m (suc (length is)) (bytes_first v (exec is n))) (sym h.1)
        (stepped h.0 n (length is) (one m (there n next) h.0 going h.2) (exec is n).written (exec is n).ending (rest n))
    one_then_rest rest w (Goes label n) h =
        subst (λ (v : List ℕ). Carries m (suc (length is)) (followed (record { written = v; ending = Goes label n }) is (exec is))) (sym h.0)
        (0, gets_now m _ going h.1)
    one_then_rest rest w (Calls name args n r) h =
        subst (λ (v : List ℕ). Carries m (suc (length is)) (followed (record { written = v; ending = Calls name args n r }) is (exec is))) (sym h.0)
        (subst (λ (l : List Instr). Carries m (suc (length is)) (followed (record { written = []; ending = Calls name args n l }) is (exec is))) (sym h.1)
        (0, m.place + 1, (omega arith), gets_now m _ going h.2))
    one_then_rest rest w (Returns n) h =
        subst (λ (v : List ℕ). Carries m (suc (length is)) (followed (record { written = v; ending = Returns n }) is (exec is))) (sym h.0)
        (0, m.place + 1, gets_now m _ going h.1)
    one_then_rest rest w (Stops x) h =
        subst (λ (v : List ℕ). Carries m (suc (length is)) (followed (record { written = v; ending = Stops x }) is (exec is))) (sym h.0)
        (0, gets_now m _ going h.1)

  pub one_by_one : (is : List Instr) (i : Instr) → m.over ≡ None → slice_get m.items m.place ≡ Some (item_kind.Instr i)
      → ((n : State) → Carries (there n next) (length is) (exec is (there n next))) → Carries m (suc (length is)) (exec (i ∷ is) m)
  one_by_one is i going here rest =
      one_then_rest going is
      (λ n. subst (λ (c : Course). Carries (there n next) (length is) c) (exec_there next is n) (rest n))
      (performed i m).written (performed i m).ending
      (subst (λ (c : Course). IsOneStep (act m) c) (performed_there next i m)
      (subst (λ (a : Acts). IsOneStep a (performed i (there m next))) (sym (act_is m i here)) (one_performed i (there m next))))

pub carries : (is : List Instr) (m : State) → HasInstrs m.items m.place is → m.over ≡ None → Carries m (length is) (exec is m)
carries [] m h going = let e : m.place ≡ m.place + 0 = omega arith in subst (λ (p : ℕ). Leads m [] 0 (at_of m m p)) e (nothing m)
carries (i ∷ is) m h going = one_by_one m is i going h.0 (λ n. carries is (there n (next m)) h.1 going)

pub steps_are_theirs : StepsAreTheirs
steps_are_theirs is m h going = carries is m h going

bytes_append : (v w : List ℕ) (c : Course) → bytes_first (v ++ w) c ≡ bytes_first v (bytes_first w c)
bytes_append v w c = ap (λ (l : List ℕ). record { written = l; ending = c.ending }) (append_assoc v w c.written)

pub one_after_another : OneAfterAnother
one_after_another [] js m = refl
one_after_another (i ∷ is) js m = by (performed i m) (λ n. one_after_another is js n)
  where
    ends_so : (w : List ℕ) (e f : Ending) → e ≡ f → ◌≡◌ {A = Course} (record { written = w ++ []; ending = e }) (record { written = (w ++ []) ++ []; ending = f })
    ends_so w e f h = λ i. record { written = sym (append-nil (w ++ [])) i; ending = h i }

    by_ending : (w : List ℕ) (e : Ending) → ((n : State) → exec (is ++ js) n ≡ followed (exec is n) js (exec js))
        → followed (record { written = w; ending = e }) (is ++ js) (exec (is ++ js)) ≡ followed (followed (record { written = w; ending = e }) is (exec is)) js (exec js)
    by_ending w (Comes n) h = ap (bytes_first w) (h n) ∙ sym (bytes_append w (exec is n).written (behind (exec is n).ending js (exec js)))
    by_ending w (Goes label n) h = ends_so w _ _ refl
    by_ending w (Calls name count n rest) h = ends_so w _ _ (ap (λ (l : List Instr). Calls name count n l) (sym (append_assoc rest is js)))
    by_ending w (Returns n) h = ends_so w _ _ refl
    by_ending w (Stops e) h = ends_so w _ _ refl

    by : (c : Course) → ((n : State) → exec (is ++ js) n ≡ followed (exec is n) js (exec js)) → followed c (is ++ js) (exec (is ++ js)) ≡ followed (followed c is (exec is)) js (exec js)
    by c h = by_ending c.written c.ending h
