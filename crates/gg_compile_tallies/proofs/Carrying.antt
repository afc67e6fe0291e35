-- Where instructions stand in a code at the machine's place, the machine's steps do what the instructions do by themselves, and count nothing
-- up to a branch that is taken, a call or a return.
use Rattle.std.proofs.Common.{◌≡◌, ℕ, suc, ◌+◌, List, [], ◌∷◌, ◌++◌, length, Option, Some, None, option_to_list, Ok, Err, refl, sym, ap, subst, ◌∙◌, arith}
use Rattle.std.specs.Prelude.{slice_get}
use Rattle.vax_core.specs.declared.code.Instr.{Instr}
use Rattle.vax_core.specs.declared.code.CodeItem.TheVariants as item_kind
use Rattle.vax_machine.specs.State.{State}
use Rattle.vax_machine.specs.Labels.{label_place}
use Rattle.vax_machine.specs.Calls.{Acts, called, silent, returned}
use Rattle.vax_machine.specs.Step.{act}
use Rattle.vax_machine_lists.specs.Instructions.{Ending, Comes, Goes, Calls, Returns, Stops, Course, bytes_first, followed, performed, exec}
use Rattle.vax_machine_lists.specs.Kept.{KeptAt}
use Rattle.vax_machine_lists.specs.Runs.{HasInstrs, at_of}
use Rattle.vax_machine_lists.proofs.Placed.{Where, there, ending_there, performed_there, exec_there}
use Rattle.vax_machine_lists.proofs.Joining.{act_is, OneStep, IsOneStep, one_performed}
use Rattle.vax_machine_lists.proofs.Registers.{frames_kept}
use Rattle.gg_compile_tallies.proofs.Walking.{Walks, Reaches, counted_on, stay, one_walks, walk_further}

-- the machine's steps from a state do what a course says, its instructions being so many
abbrev pub CarriesTo : State → ℕ → List ℕ → Ending → Type 0
CarriesTo m count w (Comes n) = Walks m w count 0 (at_of m n (m.place + count))
CarriesTo m count w (Goes label n) = Reaches m w count (Ok (None, at_of m n (label_place m.items label)))
CarriesTo m count w (Calls name args n rest) =
    (place : ℕ) × (place + length rest ≡ m.place + count) × Reaches m w count (silent (called (at_of m n place) args (label_place m.items name) (Some place)))
CarriesTo m count w (Returns n) = (place : ℕ) × Reaches m w count (returned (at_of m n place))
CarriesTo m count w (Stops e) = Reaches m w count (Err e)

abbrev pub Carries : State → ℕ → Course → Type 0
Carries m count c = CarriesTo m count c.written c.ending

now : (m : State) (count : ℕ) (acts : Acts) → m.over ≡ None → act m ≡ acts → Reaches m [] (suc count) acts
now m count acts going e = record { number = 0; state = m; before = omega arith; walks = stay m; going = going; acts_so = e; place = omega arith; frames = refl }

module _ (m : State) where
  -- where the machine is behind the instruction at its place
  abbrev next : Where
  next = record { place = m.place + 1; items = m.items; over = m.over }

  then_reaches : (n : State) (v w : List ℕ) (count : ℕ) (acts : Acts) → Walks m v 1 0 n → n.place ≡ m.place + 1 → n.frames ≡ m.frames → Reaches n w count acts → Reaches m (v ++ w) (suc count) acts
  then_reaches n v w count acts walk at same h = record {
    number = 1 + h.number;
    state = h.state;
    before = omega (arith, h.before);
    walks = walk_further m n h.state v w 1 h.number 0 0 walk h.walks;
    going = h.going;
    acts_so = h.acts_so;
    place = let p = h.place in omega (arith, p, at);
    frames = h.frames ∙ same;
  }

  -- what the machine does behind one step is what it does from the step on
  stepped : (o : Option ℕ) (n : State) (count : ℕ) → n.frames ≡ m.frames → Walks m (option_to_list o) 1 0 (there n next) → (w : List ℕ) (e : Ending)
      → CarriesTo (there n next) count w (ending_there e next) → CarriesTo m (suc count) (option_to_list o ++ w) e
  stepped o n count same walk w (Comes k) h =
      let e : m.place + 1 + count ≡ m.place + suc count = omega arith in
      let c : 1 + count ≡ suc count = omega arith in
      subst (λ (p : ℕ). Walks m (option_to_list o ++ w) (suc count) 0 (at_of m k p)) e
      (subst (λ (x : ℕ). Walks m (option_to_list o ++ w) x 0 (at_of m k (m.place + 1 + count))) c
      (walk_further m (there n next) (at_of m k (m.place + 1 + count)) (option_to_list o) w 1 count 0 0 walk h))
  stepped o n count same walk w (Goes label k) h = then_reaches (there n next) (option_to_list o) w count _ walk refl same h
  stepped o n count same walk w (Calls name args k rest) h = (h.0, (omega (arith, h.1)), then_reaches (there n next) (option_to_list o) w count _ walk refl same h.2)
  stepped o n count same walk w (Returns k) h = (h.0, then_reaches (there n next) (option_to_list o) w count _ walk refl same h.1)
  stepped o n count same walk w (Stops e) h = then_reaches (there n next) (option_to_list o) w count _ walk refl same h

  module _ (going : m.over ≡ None) (is : List Instr) where
    one_then_rest : ((n : State) → CarriesTo (there n next) (length is) (exec is n).written (ending_there (exec is n).ending next))
        → (w : List ℕ) (e : Ending) → OneStep (act m) w (ending_there e next) → KeptAt 15 m e → Carries m (suc (length is)) (followed (record { written = w; ending = e }) is (exec is))
    one_then_rest rest w (Comes n) h kept =
        let walk : Walks m (option_to_list h.0) 1 0 (there n next) =
        subst (λ (x : ℕ). Walks m (option_to_list h.0) 1 x (there n next)) (counted_on m (there n next) (ap length kept.frames) (omega arith)) (one_walks m (there n next) h.0 going h.2) in
        subst (λ (v : List ℕ). Carries m (suc (length is)) (bytes_first v (exec is n))) (sym h.1)
        (stepped h.0 n (length is) kept.frames walk (exec is n).written (exec is n).ending (rest n))
    one_then_rest rest w (Goes label n) h kept =
        subst (λ (v : List ℕ). Carries m (suc (length is)) (followed (record { written = v; ending = Goes label n }) is (exec is))) (sym h.0)
        (now m (length is) _ going h.1)
    one_then_rest rest w (Calls name args n r) h kept =
        subst (λ (v : List ℕ). Carries m (suc (length is)) (followed (record { written = v; ending = Calls name args n r }) is (exec is))) (sym h.0)
        (subst (λ (l : List Instr). Carries m (suc (length is)) (followed (record { written = []; ending = Calls name args n l }) is (exec is))) (sym h.1)
        (m.place + 1, (omega arith), now m (length is) _ going h.2))
    one_then_rest rest w (Returns n) h kept =
        subst (λ (v : List ℕ). Carries m (suc (length is)) (followed (record { written = v; ending = Returns n }) is (exec is))) (sym h.0)
        (m.place + 1, now m (length is) _ going h.1)
    one_then_rest rest w (Stops x) h kept =
        subst (λ (v : List ℕ). Carries m (suc (length is)) (followed (record { written = v; ending = Stops x }) is (exec is))) (sym h.0)
        (now m (length is) _ going h.1)

  one_by_one : (is : List Instr) (i : Instr) → m.over ≡ None → slice_get m.items m.place ≡ Some (item_kind.Instr i)
      → ((n : State) → Carries (there n next) (length is) (exec is (there n next))) → Carries m (suc (length is)) (exec (i ∷ is) m)
  one_by_one is i going here rest =
      one_then_rest going is
      (λ n. subst (λ (c : Course). Carries (there n next) (length is) c) (exec_there next is n) (rest n))
      (performed i m).written (performed i m).ending
      (subst (λ (c : Course). IsOneStep (act m) c) (performed_there next i m)
      (subst (λ (a : Acts). IsOneStep a (performed i (there m next))) (sym (act_is m i here)) (one_performed i (there m next))))
      (frames_kept i m)

pub carries : (is : List Instr) (m : State) → HasInstrs m.items m.place is → m.over ≡ None → Carries m (length is) (exec is m)
carries [] m h going = let e : m.place ≡ m.place + 0 = omega arith in subst (λ (p : ℕ). Walks m [] 0 0 (at_of m m p)) e (stay m)
carries (i ∷ is) m h going = one_by_one m is i going h.0 (λ n. carries is (there n (next m)) h.1 going)
