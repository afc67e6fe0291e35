-- A run takes no more instructions than the bound for what is counted in it.
use Rattle.std.proofs.Common.{◌≡◌, ℕ, zero, suc, ◌+◌, ◌*◌, ◌≤◌, List, length, Option, None, Result, Ok, Err, refl, ap, subst, ◌∙◌, arith}
use Rattle.gg_base.specs.Runs.{one_first, OneEnd}
use Rattle.vax_core.specs.declared.code.Code.{Code}
use Rattle.vax_core.specs.declared.code.CodeItem.{CodeItem}
use Rattle.vax_core.specs.First.{main_name}
use Rattle.vax_machine.specs.declared.turn.Stop.{Stop}
use Rattle.vax_machine.specs.State.{State}
use Rattle.vax_machine.specs.Labels.{label_place}
use Rattle.vax_machine.specs.Calls.{called}
use Rattle.vax_machine.specs.Step.{Next, Goes, Writes, Stops, step_of}
use Rattle.vax_machine.specs.Loading.{blank, begun, start}
use Rattle.vax_machine.specs.Running.{behind, steps, run}
use Rattle.vax_machine.proofs.Law.{run_has_one_end}
use Rattle.vax_bound.specs.Counted.{counted_between, counted_step, counted_behind, counted_steps, counted_in}
use Rattle.vax_bound.specs.Bound.{bound, RunsAreBounded}
use Rattle.vax_bound.proofs.Frames.{Enters, called_enters}
use Rattle.vax_bound.proofs.Moving.{Moved, goes_moves, writes_moves}
use Rattle.vax_bound.proofs.Rooms.{room_behind, rooms, room, leaves_less}

-- ---- steps of a state

one_more : (w v len c t x : ℕ) → v + 1 ≤ w + len * c → x ≤ v + len * t + 1 → suc x ≤ w + len * (c + t) + 1
one_more w v len c t x less more = omega (arith, less, more)

abbrev Within : ℕ → State → Type 0
Within n m = (steps n m).number ≤ room (length m.items) m + length m.items * counted_steps n m + 1

steps_within : (n : ℕ) (m : State) → Within n m
steps_within zero m = omega arith
steps_within (suc n) m = by (step_of m) refl (λ k. steps_within n k)
  where
    further : (k : State) → Moved m k → Within n k → suc (steps n k).number ≤ room (length m.items) m + length m.items * (counted_between m k + counted_steps n k) + 1
    further k moved more =
        one_more (room (length m.items) m) (room (length m.items) k) (length m.items) (counted_between m k) (counted_steps n k) (steps n k).number (leaves_less m k moved)
        (subst (λ (items : List CodeItem). (steps n k).number ≤ room (length items) k + length items * counted_steps n k + 1) moved.items more)

    by : (x : Next) → step_of m ≡ x → ((k : State) → Within n k)
        → (one_first (behind x (steps n))).number ≤ room (length m.items) m + length m.items * (counted_step m x + counted_behind x (counted_steps n)) + 1
    by (Goes k) e more = further k (goes_moves m k m.over e) (more k)
    by (Writes b k) e more = further k (writes_moves m b k m.over e) (more k)
    by (Stops x) e more = omega arith

-- ---- where a run begins

record Begins (c : Code) (m : State) : Type 0 where
  items : m.items ≡ c.items
  little : room (length c.items) m ≤ length c.items

begins : (c : Code) (input : List ℕ) → Begins c (start c input)
begins c input = by (called (blank c input) 0 (label_place c.items main_name) None) (λ n e. called_enters (blank c input) n 0 (label_place c.items main_name) None e)
  where
    by : (t : Result State Stop) → ((n : State) → t ≡ Ok n → Enters (blank c input) n None) → Begins c (begun (blank c input) t)
    by (Ok n) h =
        let x : Enters (blank c input) n None = h n refl in
        let none : rooms (length c.items) n.frames ≡ 0 + 0 = ap (rooms (length c.items)) x.frames ∙ ap (λ (o : Option ℕ). room_behind (length c.items) o + 0) x.back_is in
        record { items = x.items; little = omega (arith, none) }
    by (Err e) h = record { items = refl; little = omega arith }

-- ---- runs

all_of_it : (len r t x : ℕ) → r ≤ len → x ≤ r + len * t + 1 → x ≤ (len + 1) * (t + 1)
all_of_it len r t x le h = omega (arith, le, h)

run_within : (c : Code) (input : List ℕ) (n : ℕ) → (run c input n).number ≤ bound c (counted_in c input n)
run_within c input n =
    let b : Begins c (start c input) = begins c input in
    all_of_it (length c.items) (room (length c.items) (start c input)) (counted_in c input n) (run c input n).number b.little
    (subst (λ (items : List CodeItem). (run c input n).number ≤ room (length items) (start c input) + length items * counted_in c input n + 1) b.items (steps_within n (start c input)))

pub runs_are_bounded : RunsAreBounded
runs_are_bounded c input =
    let one : OneEnd (run c input) = run_has_one_end c input in
    record {
      within = run_within c input;
      ends = λ n over. one.stays (bound c (counted_in c input n)) n over (run_within c input n);
      goes_on = λ n going. let all : (run c input n).number ≡ n = one.spent n going in let le = run_within c input n in omega (arith, all, le);
    }
