-- A local is assigned to, on both sides, or is cleared by the source alone.
use Rattle.std.proofs.Common.{◌≡◌, ℕ, ◌≤◌, ◌<◌, ◌^◌, List, ◌∷◌, length, Some, None, refl, arith, sym, ◌∙◌, subst, ⊎_elim}
use Rattle.std.specs.Prelude.{Bool, true, false, cond, slice_get, slice_set, nat_lt}
use Rattle.std.specs.Option.{option_map}
use Rattle.std.proofs.lemmas.Bool.{cases_eq, ltb-true}
use Rattle.std.proofs.lemmas.List.{length-set}
use Rattle.gg_base.specs.Runs.{Runs}
use Rattle.gg_base.proofs.Facts.{slice_set_same, slice_set_other}
use Rattle.tree_core.specs.declared.program.TreeItem.{TreeItem}
use Rattle.tree_core.specs.declared.program.TreeProgram.{TreeProgram}
use Rattle.tree_meaning.specs.State.{Activation, with_local}
use Rattle.c_meaning.specs.State.{State, with_locals, put_local}
use Rattle.c_meaning.specs.Values.{written}
use Rattle.c_lower_scheme.specs.Trees.{Tree, Item, AssignLoc}
use Rattle.c_lower_follows.proofs.Values.{SmallTree, Small, worth_small}
use Rattle.c_lower_counts.proofs.Leads.{Leads, leads_wild, Depth}
use Rattle.c_lower_follows.proofs.Steps.{on, Desk, desk_sight}
use Rattle.c_lower_counts.proofs.Steps.{at, assign_loc_step}
use Rattle.c_lower_follows.proofs.Agreeing.{value, extent_of, Agree, set_same, set_other, ranged_set}
use Rattle.c_lower_follows.proofs.Scopes.{without}

module _ (program : TreeProgram) (code : List TreeItem) (callers : List Activation) (size first : ℕ) (own : size ≤ first) where
  abbrev fair : (ℕ → Type 0) → State → Desk → Type 0
  fair scope st d = Agree (extent_of program) size first scope (length callers) st d

  abbrev from : List Item → Desk → Runs
  from is d = at program code callers is d

  -- a local is set, and is in scope from there on
  local_by : (n u : ℕ) (k : Depth) (scope after : ℕ → Type 0) (is : List Item) (κ : State → Runs) (st : State) (d : Desk) (b : Bool) → nat_lt n (length st.call.locals) ≡ b → u < 2 ^ 32
      → ((x : ℕ) → after x → (x ≡ n → ⊥) → scope x) → fair scope st d
      → (fair after (with_locals st (slice_set st.call.locals n u)) (record d { locals = with_local d.locals n u })
      → Leads k (κ (with_locals st (slice_set st.call.locals n u))) (from is (record d { locals = with_local d.locals n u })))
      → Leads k (written (option_map (with_locals st) (cond b (Some (slice_set st.call.locals n u)) None)) u (λ v. κ)) (from is (record d { locals = with_local d.locals n u }))
  local_by n u k scope after is κ st d false e lt sub ag h = leads_wild k _
  local_by n u k scope after is κ st d true e lt sub ag h =
      let inside : n < length st.call.locals = ltb-true n (length st.call.locals) e in
      h (record {
        local = λ x sc. ⊎_elim
            (λ eq. subst (λ i. with_local d.locals n u i ≡ slice_get (slice_set st.call.locals n u) i) (sym eq) (set_same d.locals n u ∙ sym (slice_set_same st.call.locals n u inside)))
            (λ ne. set_other d.locals n u x ne ∙ ag.local x (sub x sc ne) ∙ sym (slice_set_other st.call.locals n u x ne))
            (cases_eq x n);
        count = length-set st.call.locals n u ∙ ag.count;
        arguments = ag.arguments;
        area = ag.area;
        input = ag.input;
        pushed = ag.pushed;
        active = ag.active;
        ranged = ranged_set d n u lt ag.ranged;
        bytes = ag.bytes;
        whole = ag.whole;
        pointer = λ s. let k = ag.pointer s in (k.0, k.1, set_other d.locals n u size (λ q. omega (arith, ag.count)) ∙ k.2);
      })

  pub local_step : (n u : ℕ) (k : Depth) (scope after : ℕ → Type 0) (is : List Item) (κ : State → Runs) (st : State) (d : Desk) → u < 2 ^ 32 → ((x : ℕ) → after x → (x ≡ n → ⊥) → scope x)
      → fair scope st d
      → (fair after (with_locals st (slice_set st.call.locals n u)) (record d { locals = with_local d.locals n u })
      → Leads k (κ (with_locals st (slice_set st.call.locals n u))) (from is (record d { locals = with_local d.locals n u })))
      → Leads k (written (put_local n u st) u (λ v. κ)) (from is (record d { locals = with_local d.locals n u }))
  local_step n u k scope after is κ st d lt sub ag h = local_by n u k scope after is κ st d (nat_lt n (length st.call.locals)) refl lt sub ag h

  -- the source alone clears a local that is out of scope
  pub cleared_by : (n : ℕ) (k : Depth) (scope : ℕ → Type 0) (is : List Item) (κ : State → Runs) (st : State) (d : Desk) (b : Bool) → nat_lt n (length st.call.locals) ≡ b → fair scope st d
      → (fair (without scope n) (with_locals st (slice_set st.call.locals n 0)) d → Leads k (κ (with_locals st (slice_set st.call.locals n 0))) (from is d))
      → Leads k (written (option_map (with_locals st) (cond b (Some (slice_set st.call.locals n 0)) None)) 0 (λ v. κ)) (from is d)
  cleared_by n k scope is κ st d false e ag h = leads_wild k _
  cleared_by n k scope is κ st d true e ag h = h (record {
    local = λ x sc. ag.local x sc.0 ∙ sym (slice_set_other st.call.locals n 0 x sc.1);
    count = length-set st.call.locals n 0 ∙ ag.count;
    arguments = ag.arguments;
    area = ag.area;
    input = ag.input;
    pushed = ag.pushed;
    active = ag.active;
    ranged = ag.ranged;
    bytes = ag.bytes;
    whole = ag.whole;
    pointer = ag.pointer;
  })

  -- a tree's value is assigned to a local that is declared
  pub set_local : (n : ℕ) (k : Depth) (w : Tree) (scope after : ℕ → Type 0) (is : List Item) (κ : State → Runs) (st : State) (d : Desk) → SmallTree w → ((x : ℕ) → after x → (x ≡ n → ⊥) → scope x)
      → fair scope st d
      → ((st' : State) (d' : Desk) → fair after st' d' → Leads k (κ st') (from is d'))
      → Leads k (on (value program w d) (λ v. written (put_local n v st) v (λ v. κ))) (from (AssignLoc n w ∷ is) d)
  set_local n k w scope after is κ st d small sub ag h =
      assign_loc_step program code callers k n w is (λ v. written (put_local n v st) v (λ v. κ)) d small ag.ranged
      (λ v e. local_step n v k scope after is κ st d (subst Small e (worth_small program.objects (desk_sight d) ag.ranged w small)) sub ag (λ ag'. h _ _ ag'))
