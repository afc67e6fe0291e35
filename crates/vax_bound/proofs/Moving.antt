-- How a step of the machine moves: it stays in its frame, or goes into one more, or back to the place that the innermost frame notes.
use Rattle.std.proofs.Common.{◌≡◌, ℕ, ◌+◌, ◌<◌, List, [], ◌∷◌, ◌++◌, length, Option, Some, None, Result, Ok, Err, refl, sym, ap, subst, ◌∙◌, arith}
use Rattle.std.specs.Prelude.{slice_get}
use Rattle.std.proofs.lemmas.Option.{slice_get_within}
use Rattle.gg_base.proofs.Facts.{err_ok}
use Rattle.vax_core.specs.declared.code.Instr.{Instr}
use Rattle.vax_core.specs.declared.code.CodeItem.{CodeItem}
use Rattle.vax_core.specs.declared.code.CodeItem.TheVariants as item_kind
use Rattle.vax_machine_live.specs.declared.frame.Frame.{Frame}
use Rattle.vax_machine.specs.declared.turn.Stop.{Stop}
use Rattle.vax_machine.specs.State.{State}
use Rattle.vax_machine.specs.Labels.{next_item, label_place}
use Rattle.vax_machine.specs.Calls.{Acts, called, silent}
use Rattle.vax_machine.specs.Step.{act, at_item, instruction, next_of, next_where, Goes as GoesOn, Writes, Stops as StopsAt}
use Rattle.vax_machine_lists.specs.Instructions.{Ending, Comes, Goes, Calls, Returns, Stops, Course, performed}
use Rattle.vax_machine_lists.specs.Kept.{KeptAt}
use Rattle.vax_machine_lists.proofs.Placed.{Where, there, where_of, ending_there, performed_there}
use Rattle.vax_machine_lists.proofs.Joining.{OneStep, one_performed}
use Rattle.vax_machine_lists.proofs.Registers.{frames_kept}
use Rattle.vax_bound.proofs.Frames.{Enters, called_enters, Leaves, returned_leaves}

pub data Moves (m n : State) : Type 0 where
  stays : n.frames ≡ m.frames → Moves m n
  goes_in : (f : Frame) (back : ℕ) → n.frames ≡ m.frames ++ f ∷ [] → f.back ≡ Some back → m.place < back → Moves m n
  goes_back : (f : Frame) → m.frames ≡ n.frames ++ f ∷ [] → f.back ≡ Some n.place → Moves m n

-- a step by which the run goes on: an item stood there, and the code is the same
pub record Moved (m n : State) : Type 0 where
  pub inside : m.place < length m.items
  pub items : n.items ≡ m.items
  pub how : Moves m n

-- ---- an instruction

acts_same : (x y : Option ℕ × State) → ◌≡◌ {A = Acts} (Ok x) (Ok y) → x.1 ≡ y.1
acts_same x y e = cc

same_calls : (l : List ℕ) (c : ℕ) (n : State) (is : List Instr) (w : Where) → Calls l c n is ≡ Calls l c (there n w) is → n ≡ there n w
same_calls l c n is w e = cc

silent_is : (t : Result State Stop) (o : Option ℕ) (n : State) → silent t ≡ Ok (o, n) → t ≡ Ok n
silent_is (Ok m) o n e = ap (λ (x : State). Ok x) (acts_same (None, m) (o, n) e)
silent_is (Err x) o n e = absurd (err_ok _ _ e)

module _ (m : State) where
  abbrev p : ℕ
  p = next_item m.items m.place

  abbrev m1 : State
  m1 = record m { place = p + 1 }

  module _ (i : Instr) (stands : slice_get m.items p ≡ Some (item_kind.Instr i)) (o : Option ℕ) (n : State) where
    inside : m.place < length m.items
    inside = omega (arith, slice_get_within m.items p (item_kind.Instr i) stands)

    by_ending : (w : List ℕ) (e : Ending) (acts : Acts) → acts ≡ Ok (o, n) → OneStep acts w e → KeptAt 15 m1 e → e ≡ ending_there e (where_of m1) → Moved m n
    by_ending w (Comes k) acts done one kept at =
        subst (λ (y : State). Moved m y) (acts_same (one.0, k) (o, n) (sym one.2 ∙ done)) (record { inside = inside; items = kept.items; how = stays kept.frames })
    by_ending w (Goes l k) acts done one kept at =
        subst (λ (y : State). Moved m y) (acts_same (None, record k { place = label_place k.items l }) (o, n) (sym one.1 ∙ done))
        (record { inside = inside; items = kept.items; how = stays kept.frames })
    by_ending w (Calls name count k rest) acts done one kept at =
        let place_is : k.place ≡ p + 1 = ap (λ (x : State). x.place) (same_calls name count k rest (where_of m1) at) in
        let x : Enters k n (Some k.place) =
        called_enters k n count (label_place k.items name) (Some k.place) (silent_is (called k count (label_place k.items name) (Some k.place)) o n (sym one.2 ∙ done)) in
        record {
          inside = inside;
          items = x.items ∙ kept.items;
          how = goes_in x.f k.place (x.frames ∙ ap (λ (fs : List Frame). fs ++ x.f ∷ []) kept.frames) x.back_is (omega (arith, place_is));
        }
    by_ending w (Returns k) acts done one kept at =
        let x : Leaves k n = returned_leaves k n o (sym one.1 ∙ done) in
        record { inside = inside; items = x.items ∙ kept.items; how = goes_back x.f (sym kept.frames ∙ x.frames) x.back_is }
    by_ending w (Stops x) acts done one kept at = absurd (err_ok _ _ (sym one.1 ∙ done))

    placed : (performed i m1).ending ≡ ending_there (performed i m1).ending (where_of m1)
    placed = ap (λ (c : Course). c.ending) (performed_there (where_of m1) i m1)

    instruction_moves : instruction m1 i.op i.operands i.target ≡ Ok (o, n) → Moved m n
    instruction_moves done =
        by_ending (performed i m1).written (performed i m1).ending (instruction m1 i.op i.operands i.target) done (one_performed i m1) (frames_kept i m1) placed

  by_item : (x : Option CodeItem) (o : Option ℕ) (n : State) → slice_get m.items p ≡ x → at_item x p m ≡ Ok (o, n) → Moved m n
  by_item (Some (item_kind.Instr i)) o n stands done = instruction_moves i stands o n done
  by_item _ o n stands done = absurd (err_ok _ _ done)

  act_moves : (o : Option ℕ) (n : State) → act m ≡ Ok (o, n) → Moved m n
  unfolding act
  act_moves o n done = by_item (slice_get m.items p) o n refl done

-- ---- a step

same_goes : (k n : State) → GoesOn k ≡ GoesOn n → k ≡ n
same_goes k n e = cc

same_writes : (b c : ℕ) (k n : State) → Writes b k ≡ Writes c n → k ≡ n
same_writes b c k n e = cc

writes_goes : (b : ℕ) (k n : State) → Writes b k ≡ GoesOn n → ⊥
writes_goes b k n e = cc

goes_writes : (b : ℕ) (k n : State) → GoesOn k ≡ Writes b n → ⊥
goes_writes b k n e = cc

stops_goes : (x : Stop) (n : State) → StopsAt x ≡ GoesOn n → ⊥
stops_goes x n e = cc

stops_writes : (x : Stop) (b : ℕ) (n : State) → StopsAt x ≡ Writes b n → ⊥
stops_writes x b n e = cc

went_on : (r : Acts) (n : State) → next_of r ≡ GoesOn n → r ≡ Ok (None, n)
went_on (Ok (None, k)) n e = ap (λ (x : State). Ok (None, x)) (same_goes k n e)
went_on (Ok (Some b, k)) n e = absurd (writes_goes b k n e)
went_on (Err x) n e = absurd (stops_goes x n e)

wrote : (r : Acts) (b : ℕ) (n : State) → next_of r ≡ Writes b n → (o : Option ℕ) × (r ≡ Ok (o, n))
wrote (Ok (None, k)) b n e = absurd (goes_writes b k n e)
wrote (Ok (Some c, k)) b n e = (Some c, ap (λ (x : State). Ok (Some c, x)) (same_writes c b k n e))
wrote (Err x) b n e = absurd (stops_writes x b n e)

pub goes_moves : (m n : State) (o : Option Stop) → next_where o m ≡ GoesOn n → Moved m n
goes_moves m n (Some x) e = absurd (stops_goes x n e)
goes_moves m n None e = act_moves m None n (went_on (act m) n e)

pub writes_moves : (m : State) (b : ℕ) (n : State) (o : Option Stop) → next_where o m ≡ Writes b n → Moved m n
writes_moves m b n (Some x) e = absurd (stops_writes x b n e)
writes_moves m b n None e = let w = wrote (act m) b n e in act_moves m w.0 n w.1
