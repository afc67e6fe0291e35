-- Codes whose functions name only registers of their masks: each state of a run has its chain.
use Rattle.std.proofs.Common.{◌≡◌, ℕ, ◌+◌, ◌<◌, ◌≤◌, Bool, true, false, cond, List, [], Option, Some, None, Result, Ok, Err, refl, sym, ap, subst, ◌∙◌, arith}
use Rattle.std.specs.Prelude.{slice_get, ◌^◌}
use Rattle.std.specs.Str.{bytes_eq}
use Rattle.vax_pairs.specs.vax_core.specs.declared.code.Instr.{Instr}
use Rattle.vax_pairs.specs.vax_core.specs.declared.code.CodeItem.{CodeItem}
use Rattle.vax_pairs.specs.vax_core.specs.declared.code.CodeItem.TheVariants as item_kind
use Rattle.vax_pairs.specs.vax_core.specs.Ops.{shape}
use Rattle.vax_pairs.specs.vax_core.specs.Registers.{operands_name}
use Rattle.vax_pairs.specs.vax_core.specs.First.{putchar_name}
use Rattle.vax_pairs.specs.vax_machine.specs.declared.turn.Stop.{Stop}
use Rattle.vax_pairs.specs.vax_machine.specs.declared.operands.Arguments.{Arguments}
use Rattle.vax_pairs.specs.vax_machine.specs.declared.function.Action.{Action}
use Rattle.vax_pairs.specs.vax_machine.specs.declared.function.Action.TheVariants.{Compute, Push, Branch, Call, Return}
use Rattle.vax_pairs.specs.vax_machine.specs.State.{State, ◌>>=◌}
use Rattle.vax_pairs.specs.vax_machine.specs.Operands.{all_evaluated}
use Rattle.vax_pairs.specs.vax_machine.specs.Functions.{action_of, passes, applied}
use Rattle.vax_pairs.specs.vax_machine.specs.Labels.{next_item, label_place, getchar_name}
use Rattle.vax_pairs.specs.vax_machine.specs.Calls.{Acts, called_by_name, called, silent, putchar, getchar}
use Rattle.vax_pairs.specs.vax_machine.specs.Step.{next_of, next_where, act, at_item, instruction, acted, branched, finished, pushing, step_of}
use Rattle.vax_pairs.specs.vax_core.specs.declared.code.Code.{Code}
use Rattle.vax_pairs.specs.vax_core.specs.First.{main_name}
use Rattle.vax_pairs.specs.vax_core.specs.Valid.{is_code}
use Rattle.vax_pairs.specs.vax_machine.specs.Loading.{Loads, blank, begun}
use Rattle.vax_pairs.specs.vax_machine_lists.proofs.Beginning.{runs_begin_sound}
use Rattle.vax_pairs.specs.vax_machine_lists.specs.Sound.{IsRunning, Behind, AllBelow}
use Rattle.vax_pairs.specs.Piecewise.{Invariant}
use Rattle.vax_pairs.specs.Standing.{IsSteady}
use Rattle.vax_pairs_checked.proofs.Chains.{chain_steady}
use Rattle.vax_pairs.specs.vax_machine_lists.specs.Kept.{Same, KeptAt}
use Rattle.vax_pairs.specs.vax_machine_lists.specs.Instructions.{performed, evaluated_then, alone, course_of, branching, ends, Calls}
use Rattle.vax_pairs.specs.vax_machine_lists.proofs.Registers.{register_kept}
use Rattle.vax_pairs.specs.vax_machine_lists.proofs.Soundness.{steps_stay_sound}
use Rattle.vax_pairs_law.specs.vax_alike.proofs.Placing.{where_of, all_there, Carried}
use Rattle.vax_pairs.specs.Functions.{Functions, has, is_branch, Chain, KeepsRegisters}
use Rattle.vax_pairs_checked.proofs.Chains.{chain_goes}
use Rattle.vax_pairs_checked.proofs.Keeping.{stays_of, finished_stays, pushing_stays, putchar_stays, getchar_stays, Post, ActsKeep, gone, acts_gone}
use Rattle.vax_pairs_checked.proofs.Stepping.{low_same, AllPost, called_keeps, silent_keeps, returned_keeps}

module _ (In : (mask place : ℕ) → Type 0) (cs : List CodeItem) (functions : Functions cs In) (m : State) (items : m.items ≡ cs) (chain : Chain In m.frames m.registers m.place)
    (i : Instr) (at : slice_get cs (next_item cs m.place) ≡ Some (item_kind.Instr i)) where
  abbrev p : ℕ
  p = next_item cs m.place + 1

  abbrev m1 : State
  m1 = record m { place = p }

  names : (mask : ℕ) → In mask m.place → (r : ℕ) → 2 ≤ r → r < 12 → has mask r ≡ false → operands_name i.operands r ≡ false
  names mask inside r low high e = functions.names mask m.place i inside at r low high e

  behind : (mask : ℕ) → In mask m.place → In mask p
  behind mask inside = functions.behind mask m.place i inside at

  abbrev Keeps : (ℕ → Type 0) → Type 0
  Keeps K = (r : ℕ) → 1 ≤ r → r < 12 → operands_name i.operands r ≡ false → K r

  abbrev OkStays : Result (Arguments × State) Stop → Type 0
  OkStays (Ok x) = where_of x.1 ≡ where_of m1
  OkStays (Err e) = Unit {0}

  passed : (r : Acts) → ActsKeep In m1 r → ActsKeep In m r
  passed (Ok x) h = record { items = h.items; chain = h.chain }
  passed (Err e) h = tt

  module _ (n : State) (stays : where_of n ≡ where_of m1) where
    -- the registers outside masks at another place of the function
    to_label : (l : List ℕ) → i.target ≡ Some l → is_branch (action_of i.op) ≡ true → Keeps (λ r. Same r m1 n) → Post In m (record n { place = label_place n.items l })
    to_label l e b k =
        let s = stays_of (where_of m1) n stays in record {
          items = s.items;
          chain = subst (λ (fs : List _). Chain In fs n.registers (label_place n.items l)) (sym s.frames)
              (chain_goes In m.frames m.registers n.registers m.place (label_place n.items l) chain
              (λ mask inside. (
                (λ r low high x. (k r (omega (arith, low)) high (names mask inside r low high x)).register),
                subst (λ (xs : List CodeItem). In mask (label_place xs l)) (sym (s.items ∙ items)) (functions.goes mask m.place i l inside at e b),
              )));
        }

    here : Keeps (λ r. Same r m1 n) → Post In m n
    here k = gone In m p chain i.operands names behind n (stays_of (where_of m1) n stays) k

    branch_by : (b : Bool) (u : Option (List ℕ)) → i.target ≡ u → is_branch (action_of i.op) ≡ true → Keeps (λ q. KeptAt q m1 (branching b u n).ending) → ActsKeep In m (branched n b u)
    branch_by b None e t k = tt
    branch_by true (Some l) e t k = to_label l e t k
    branch_by false (Some l) e t k = here k

    lift : (r : Acts) → n.items ≡ m.items → ActsKeep In n r → ActsKeep In m r
    lift (Ok x) e h = record { items = h.items ∙ e; chain = h.chain }
    lift (Err q) e h = tt

    placed : n.place ≡ p
    placed = (stays_of (where_of m1) n stays).place

    call_keeps : Post In m n → (count : ℕ) (name : List ℕ) → ActsKeep In m (silent (called n count (label_place n.items name) (Some n.place)))
    call_keeps post count name =
        lift _ post.items
        (subst (λ (xs : List CodeItem). ActsKeep In n (silent (called n count (label_place xs name) (Some n.place)))) (sym (post.items ∙ items))
        (silent_keeps In cs functions n (Some n.place) post.chain (λ mask inside. inside) (post.items ∙ items) _
        (called_keeps In cs functions n (Some n.place) post.chain (λ mask inside. inside) (post.items ∙ items) n (low_same n) count name)))

    call_by : (count : ℕ) (name : List ℕ) (b c : Bool) → Keeps (λ q. KeptAt q m1 (cond b (course_of (putchar n count)) (cond c (course_of (getchar n count)) (ends (Calls name count n [])))).ending)
        → ActsKeep In m (cond b (putchar n count) (cond c (getchar n count) (silent (called n count (label_place n.items name) (Some n.place)))))
    call_by count name true c k = acts_gone In m p chain i.operands names behind (putchar n count) (putchar_stays (where_of m1) n stays count) k
    call_by count name false true k = acts_gone In m p chain i.operands names behind (getchar n count) (getchar_stays (where_of m1) n stays count) k
    call_by count name false false k = call_keeps (here k) count name

    named_by : (count : ℕ) (u : Option (List ℕ)) → Keeps (λ q. KeptAt q m1 (alone Call (record { first = count; second = 0; destination = None }) u n).ending)
        → ActsKeep In m (called_by_name n count u)
    unfolding called_by_name
    named_by count None k = tt
    named_by count (Some name) k = call_by count name (bytes_eq name putchar_name) (bytes_eq name getchar_name) k

    acted_keeps : (a : Action) → action_of i.op ≡ a → (x : Arguments) → Keeps (λ q. KeptAt q m1 (alone a x i.target n).ending) → ActsKeep In m (acted a x i.target n)
    acted_keeps (Compute f) e x k =
        acts_gone In m p chain i.operands names behind (finished n x.destination (applied f x.first x.second n.conditions.carry))
        (finished_stays (where_of m1) n stays x.destination (applied f x.first x.second n.conditions.carry)) k
    acted_keeps Push e x k = acts_gone In m p chain i.operands names behind (pushing n x.first) (pushing_stays (where_of m1) n stays x.first) k
    acted_keeps (Branch t) e x k = branch_by (passes t n.conditions) i.target refl (ap is_branch e) k
    acted_keeps Call e x k = named_by x.first i.target k
    acted_keeps Return e x k = (let post = here k in lift _ post.items (returned_keeps In cs functions n post.chain))

  behind_operands : (r : Result (Arguments × State) Stop) → OkStays r → Keeps (λ q. KeptAt q m1 (evaluated_then i r).ending)
      → ActsKeep In m (r >>= λ (x : Arguments × State). acted (action_of i.op) x.0 i.target x.1)
  behind_operands (Ok x) h k = acted_keeps x.1 h (action_of i.op) refl x.0 k
  behind_operands (Err e) h k = tt

  stays_by : (r s : Result (Arguments × State) Stop) → Carried (where_of m1) (where_of m1) r s → OkStays r
  stays_by (Ok x) s h = h.1
  stays_by (Err e) s h = tt

  instruction_keeps : ActsKeep In m (instruction m1 i.op i.operands i.target)
  unfolding instruction performed
  instruction_keeps =
      behind_operands (all_evaluated (shape i.op).operands i.operands m1)
      (stays_by _ _ (all_there (where_of m1) (where_of m1) (λ a k. refl) (shape i.op).operands i.operands m1 refl))
      (λ r low high e. register_kept r low high i m1 e)

-- ---- steps

module _ (In : (mask place : ℕ) → Type 0) (cs : List CodeItem) (functions : Functions cs In) where
  item_keeps : (m : State) → m.items ≡ cs → Chain In m.frames m.registers m.place → (o : Option CodeItem) → slice_get cs (next_item cs m.place) ≡ o
      → ActsKeep In m (at_item o (next_item cs m.place) m)
  item_keeps m items chain None e = tt
  item_keeps m items chain (Some (item_kind.Label n)) e = tt
  item_keeps m items chain (Some (item_kind.Globl n)) e = tt
  item_keeps m items chain (Some (item_kind.Mask n)) e = tt
  item_keeps m items chain (Some (item_kind.Instr i)) e = instruction_keeps In cs functions m items chain i e

  act_keeps : (m : State) → m.items ≡ cs → Chain In m.frames m.registers m.place → ActsKeep In m (act m)
  unfolding act
  act_keeps m items chain =
      subst (λ (xs : List CodeItem). ActsKeep In m (at_item (slice_get xs (next_item xs m.place)) (next_item xs m.place) m)) (sym items)
      (item_keeps m items chain (slice_get cs (next_item cs m.place)) refl)

  behind_act : (m : State) → m.items ≡ cs → (r : Acts) → ActsKeep In m r → Behind IsRunning (next_of r) → Behind (KeepsRegisters In cs) (next_of r)
  behind_act m items (Ok (None, n)) h g = record { running = g; items = h.items ∙ items; chain = h.chain }
  behind_act m items (Ok (Some b, n)) h g = record { running = g; items = h.items ∙ items; chain = h.chain }
  behind_act m items (Err e) h g = tt

  -- each step keeps the chain
  pub steps_keep_registers : (m : State) → KeepsRegisters In cs m → Behind (KeepsRegisters In cs) (step_of m)
  steps_keep_registers m h =
      let is : step_of m ≡ next_of (act m) = ap (λ (o : Option Stop). next_where o m) h.running.sound.going in
      subst (Behind (KeepsRegisters In cs)) (sym is)
      (behind_act m h.items (act m) (act_keeps m h.items h.chain) (subst (Behind IsRunning) is (steps_stay_sound m h.running)))

-- ---- where a run begins

module _ (In : (mask place : ℕ) → Type 0) (c : Code) (functions : Functions c.items In) (valid : is_code c ≡ true) (loads : Loads c) where
  begun_keeps : (input : List ℕ) → AllBelow 256 input → (r : Result State Stop) → r ≡ called (blank c input) 0 (label_place c.items main_name) None
      → AllPost In c.items functions (blank c input) None tt (λ mask h. tt) refl r → (begun (blank c input) r).over ≡ None → KeepsRegisters In c.items (begun (blank c input) r)
  begun_keeps input bytes (Ok n) e h over =
      record {
        running = subst (λ (r : Result State Stop). (begun (blank c input) r).over ≡ None → IsRunning (begun (blank c input) r)) (sym e)
            (runs_begin_sound c input valid loads bytes) over;
        items = h.items;
        chain = h.chain;
      }
  begun_keeps input bytes (Err q) e h over = absurd (cc)

  -- Such a code's runs keep registers.
  pub functions_keep_registers : Invariant c (KeepsRegisters In c.items)
  functions_keep_registers = record {
    begins = λ input bytes over. begun_keeps input bytes _ refl (called_keeps In c.items functions (blank c input) None tt (λ mask h. tt) refl (blank c input) (low_same (blank c input)) 0
        main_name) over;
    goes_on = λ m h. steps_keep_registers In c.items functions m h;
  }

  pub functions_are_steady : (m : State) → KeepsRegisters In c.items m → IsSteady m
  functions_are_steady m h = chain_steady In m functions.result h.chain

  pub registers_are_longwords : (m : State) → KeepsRegisters In c.items m → AllBelow (2 ^ 32) m.registers
  registers_are_longwords m h = h.running.sound.longwords
