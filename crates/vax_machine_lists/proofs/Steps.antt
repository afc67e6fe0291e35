-- Steps one after another.
use Rattle.std.proofs.Common.{◌≡◌, ℕ, suc, ◌+◌, List, [], ◌++◌, Option, Some, None, option_to_list, Ok, Err, sym, ap, ◌∙◌, arith, append_assoc}
use Rattle.gg_base.specs.Runs.{Outcome, one_first}
use Rattle.vax_machine.specs.declared.turn.Stop.{Stop}
use Rattle.vax_machine.specs.State.{State}
use Rattle.vax_machine.specs.Calls.{Acts}
use Rattle.vax_machine.specs.Step.{Next, Goes, Writes, Stops, next_of, next_where, act, step_of}
use Rattle.vax_machine.specs.Running.{behind, steps}
use Rattle.vax_machine_lists.specs.Runs.{Leads, Halts, Gets}

-- the step of a run that is not over
step_by : (m : State) (did : Acts) → m.over ≡ None → act m ≡ did → step_of m ≡ next_of did
step_by m did going e = ap (λ (o : Option Stop). next_where o m) going ∙ ap next_of e

pub nothing : (m : State) → Leads m [] 0 m
nothing m =
    let e : (i : ℕ) → 0 + i ≡ i = λ i. omega arith in
    record { output = λ i. ap (λ (k : ℕ). (steps k m).output) (e i); end = λ i. ap (λ (k : ℕ). (steps k m).end) (e i) }

-- a step first
first_step : (m : State) (x : Next) (i : ℕ) → step_of m ≡ x → steps (1 + i) m ≡ one_first (behind x (steps i))
first_step m x i h = let e : 1 + i ≡ suc i = omega arith in ap (λ (k : ℕ). steps k m) e ∙ ap (λ (y : Next). one_first (behind y (steps i))) h

-- one step that goes on
pub one : (m n : State) (o : Option ℕ) → m.over ≡ None → act m ≡ Ok (o, n) → Leads m (option_to_list o) 1 n
one m n None going e = record {
  output = λ i. ap (λ (x : Outcome). x.output) (first_step m (Goes n) i (step_by m (Ok (None, n)) going e));
  end = λ i. ap (λ (x : Outcome). x.end) (first_step m (Goes n) i (step_by m (Ok (None, n)) going e));
}
one m n (Some b) going e = record {
  output = λ i. ap (λ (x : Outcome). x.output) (first_step m (Writes b n) i (step_by m (Ok (Some b, n)) going e));
  end = λ i. ap (λ (x : Outcome). x.end) (first_step m (Writes b n) i (step_by m (Ok (Some b, n)) going e));
}

-- one by which the run is over
pub last : (m : State) (e : Stop) → m.over ≡ None → act m ≡ Err e → Halts m [] 1 e
last m e going h = record {
  output = λ i. ap (λ (x : Outcome). x.output) (first_step m (Stops e) i (step_by m (Err e) going h));
  end = λ i. ap (λ (x : Outcome). x.end) (first_step m (Stops e) i (step_by m (Err e) going h));
}

pub further : (m n k : State) (v w : List ℕ) (i j : ℕ) → Leads m v i n → Leads n w j k → Leads m (v ++ w) (i + j) k
further m n k v w i j h g =
    let same : (r : ℕ) → i + j + r ≡ i + (j + r) = λ r. omega arith in
    record {
      output = λ r. ap (λ (x : ℕ). (steps x m).output) (same r) ∙ h.output (j + r) ∙ ap (λ (o : List ℕ). v ++ o) (g.output r) ∙ sym (append_assoc v w (steps r k).output);
      end = λ r. ap (λ (x : ℕ). (steps x m).end) (same r) ∙ h.end (j + r) ∙ g.end r;
    }

pub then_halts : (m n : State) (v w : List ℕ) (i j : ℕ) (e : Stop) → Leads m v i n → Halts n w j e → Halts m (v ++ w) (i + j) e
then_halts m n v w i j e h g =
    let same : (r : ℕ) → i + j + r ≡ i + (j + r) = λ r. omega arith in
    record {
      output = λ r. ap (λ (x : ℕ). (steps x m).output) (same r) ∙ h.output (j + r) ∙ ap (λ (o : List ℕ). v ++ o) (g.output r);
      end = λ r. ap (λ (x : ℕ). (steps x m).end) (same r) ∙ h.end (j + r) ∙ g.end r;
    }

-- what is done next may come behind further steps
pub then_gets : (m n : State) (v w : List ℕ) (i j : ℕ) (acts : Acts) → Leads m v i n → Gets n w j acts → Gets m (v ++ w) (i + j) acts
then_gets m n v w i j acts h g = record { state = g.state; leads = further m n g.state v w i j h g.leads; going = g.going; acts_so = g.acts_so }

pub gets_now : (m : State) (acts : Acts) → m.over ≡ None → act m ≡ acts → Gets m [] 0 acts
gets_now m acts going e = record { state = m; leads = nothing m; going = going; acts_so = e }

module _ (m n : State) (w : List ℕ) (i : ℕ) (acts : Acts) where
  pub got_on : (o : Option ℕ) → Gets m w i acts → acts ≡ Ok (o, n) → Leads m (w ++ option_to_list o) (i + 1) n
  got_on o g e = further m g.state n w (option_to_list o) i 1 g.leads (one g.state n o g.going (g.acts_so ∙ e))

  pub got_over : (e : Stop) → Gets m w i acts → acts ≡ Err e → Halts m (w ++ []) (i + 1) e
  got_over e g h = then_halts m g.state w [] i 1 e g.leads (last g.state e g.going (g.acts_so ∙ h))
