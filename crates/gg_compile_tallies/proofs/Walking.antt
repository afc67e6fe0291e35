-- Steps of the machine one after another, and what is counted in them.
use Rattle.std.proofs.Common.{◌≡◌, ℕ, suc, ◌+◌, ◌<◌, ◌≤◌, Bool, true, false, cond, List, [], ◌∷◌, ◌++◌, length, Option, Some, None, option_to_list, Ok, Err, ap, ◌∙◌, arith}
use Rattle.std.specs.Prelude.{nat_lt}
use Rattle.std.proofs.lemmas.Bool.{lt-ltb, le-ltb}
use Rattle.std.proofs.lemmas.List.{length_push}
use Rattle.vax_machine_live.specs.declared.frame.Frame.{Frame}
use Rattle.vax_machine.specs.declared.turn.Stop.{Stop}
use Rattle.vax_machine.specs.State.{State}
use Rattle.vax_machine.specs.Calls.{Acts}
use Rattle.vax_machine.specs.Step.{Next, Goes, Writes, Stops, next_of, next_where, act, step_of}
use Rattle.vax_machine_lists.specs.Runs.{Leads, Halts}
use Rattle.vax_machine_lists.proofs.Steps.{nothing, one, last, further, then_halts}
use Rattle.vax_bound.specs.Counted.{counted_by, counted_between, counted_step, counted_behind, counted_steps}
use Rattle.vax_bound.proofs.Rooms.{counted_inside}

-- So many steps lead from a state to another and write these bytes, and so much is counted in them.
pub record Walks (m : State) (written : List ℕ) (count much : ℕ) (n : State) : Type 0 where
  pub leads : Leads m written count n
  pub counts : (i : ℕ) → counted_steps (count + i) m ≤ much + counted_steps i n

-- After so many steps the run is over; it has written these bytes, and so much is counted.
pub record Halted (m : State) (written : List ℕ) (count much : ℕ) (e : Stop) : Type 0 where
  pub halts : Halts m written count e
  pub counts : (i : ℕ) → counted_steps (count + i) m ≤ much

-- Fewer steps than so many lead to a state in which this is done next; nothing is counted in them, and the state stands so many places further,
-- in the same frames.
pub record Reaches (m : State) (written : List ℕ) (count : ℕ) (acts : Acts) : Type 0 where
  pub number : ℕ
  pub state : State
  pub before : number < count
  pub walks : Walks m written number 0 state
  pub going : state.over ≡ None
  pub acts_so : act state ≡ acts
  pub place : state.place ≡ m.place + number
  pub frames : state.frames ≡ m.frames

-- ---- what one step counts

pub at_most_one : (k l p q : ℕ) → counted_by k l p q ≤ 1
at_most_one k l p q = by (nat_lt k l) (nat_lt l k) (nat_lt p q)
  where
    by : (a b c : Bool) → cond a 1 (cond b 0 (cond c 0 1)) ≤ 1
    by true b c = omega arith
    by false true c = omega arith
    by false false true = omega arith
    by false false false = omega arith

-- a step to a place further on, in the same frames, isn't counted
pub counted_on : (m n : State) → length n.frames ≡ length m.frames → m.place < n.place → counted_between m n ≡ 0
counted_on m n same lt =
    ap (λ (k : ℕ). counted_by (length m.frames) k m.place n.place) same ∙ counted_inside (length m.frames) m.place n.place
    ∙ ap (λ (b : Bool). cond b 0 1) (lt-ltb m.place n.place lt)

-- nor is a step by which a frame is no longer live
pub counted_back : (m n : State) (f : Frame) → m.frames ≡ n.frames ++ f ∷ [] → counted_between m n ≡ 0
counted_back m n f e =
    let k : length m.frames ≡ length n.frames + 1 = ap length e ∙ length_push n.frames f in
    ap (λ (b : Bool). cond b 1 (cond (nat_lt (length n.frames) (length m.frames)) 0 (cond (nat_lt m.place n.place) 0 1))) (le-ltb (length m.frames) (length n.frames) (omega (arith, k)))
    ∙ ap (λ (b : Bool). cond b 0 (cond (nat_lt m.place n.place) 0 1)) (lt-ltb (length n.frames) (length m.frames) (omega (arith, k)))

-- ---- steps

pub stay : (m : State) → Walks m [] 0 0 m
stay m = record { leads = nothing m; counts = λ i. let e : 0 + i ≡ i = omega arith in let c = ap (λ (k : ℕ). counted_steps k m) e in omega (arith, c) }

-- a step first
counted_first : (m : State) (x : Next) (i : ℕ) → step_of m ≡ x → counted_steps (1 + i) m ≡ counted_step m x + counted_behind x (counted_steps i)
counted_first m x i h =
    let e : 1 + i ≡ suc i = omega arith in
    ap (λ (k : ℕ). counted_steps k m) e ∙ ap (λ (y : Next). counted_step m y + counted_behind y (counted_steps i)) h

step_by : (m : State) (did : Acts) → m.over ≡ None → act m ≡ did → step_of m ≡ next_of did
step_by m did going e = ap (λ (o : Option Stop). next_where o m) going ∙ ap next_of e

pub one_walks : (m n : State) (o : Option ℕ) → m.over ≡ None → act m ≡ Ok (o, n) → Walks m (option_to_list o) 1 (counted_between m n) n
one_walks m n None going e =
    record { leads = one m n None going e; counts = λ i. let c = counted_first m (Goes n) i (step_by m (Ok (None, n)) going e) in omega (arith, c) }
one_walks m n (Some b) going e =
    record { leads = one m n (Some b) going e; counts = λ i. let c = counted_first m (Writes b n) i (step_by m (Ok (Some b, n)) going e) in omega (arith, c) }

pub walk_further : (m n k : State) (v w : List ℕ) (i j a b : ℕ) → Walks m v i a n → Walks n w j b k → Walks m (v ++ w) (i + j) (a + b) k
walk_further m n k v w i j a b h g = record {
  leads = further m n k v w i j h.leads g.leads;
  counts = λ r.
      let e : i + j + r ≡ i + (j + r) = omega arith in
      let c = ap (λ (x : ℕ). counted_steps x m) e in
      let first = h.counts (j + r) in
      let second = g.counts r in
      omega (arith, c, first, second);
}

-- more may be counted
pub walk_within : (m n : State) (w : List ℕ) (count a b : ℕ) → a ≤ b → Walks m w count a n → Walks m w count b n
walk_within m n w count a b le h = record { leads = h.leads; counts = λ i. let c = h.counts i in omega (arith, c, le) }

module _ (m n : State) (w : List ℕ) (count : ℕ) (acts : Acts) (g : Reaches m w count acts) where
  pub walked : (o : Option ℕ) → acts ≡ Ok (o, n) → Walks m (w ++ option_to_list o) (g.number + 1) (counted_between g.state n) n
  walked o e =
      walk_within m n (w ++ option_to_list o) (g.number + 1) (0 + counted_between g.state n) (counted_between g.state n) (omega arith)
      (walk_further m g.state n w (option_to_list o) g.number 1 0 (counted_between g.state n) g.walks (one_walks g.state n o g.going (g.acts_so ∙ e)))

  pub halted : (x : Stop) → acts ≡ Err x → Halted m (w ++ []) (g.number + 1) 0 x
  halted x e = record {
    halts = then_halts m g.state w [] g.number 1 x g.walks.leads (last g.state x g.going (g.acts_so ∙ e));
    counts = λ r.
        let s : g.number + 1 + r ≡ g.number + (1 + r) = omega arith in
        let c = ap (λ (k : ℕ). counted_steps k m) s in
        let first = g.walks.counts (1 + r) in
        let second = counted_first g.state (Stops x) r (step_by g.state (Err x) g.going (g.acts_so ∙ e)) in
        omega (arith, c, first, second);
  }
