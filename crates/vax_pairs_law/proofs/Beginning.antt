-- Codes that do the same piece by piece run alike.
use Rattle.std.proofs.Common.{◌≡◌, ℕ, zero, suc, ◌<◌, List, [], ◌∷◌, ◌++◌, Option, Some, None, Result, Ok, Err, refl, sym, ap, subst, ◌∙◌, arith}
use Rattle.vax_pairs.specs.gg_base.specs.Follows.{Says}
use Rattle.vax_pairs.specs.vax_core.specs.declared.code.AreaItem.{AreaItem}
use Rattle.vax_pairs.specs.vax_core.specs.declared.code.Code.{Code}
use Rattle.vax_pairs.specs.vax_core.specs.First.{main_name}
use Rattle.vax_pairs.specs.vax_machine.specs.declared.turn.Stop.{Stop}
use Rattle.vax_pairs.specs.vax_machine.specs.State.{State}
use Rattle.vax_pairs.specs.vax_machine.specs.Labels.{label_place}
use Rattle.vax_pairs.specs.vax_machine.specs.Calls.{Acts, called}
use Rattle.vax_pairs.specs.vax_machine.specs.Step.{Next, Goes, Writes, Stops, next_of, next_where, act, step_of}
use Rattle.vax_pairs.specs.vax_machine.specs.Loading.{blank, begun, start}
use Rattle.vax_pairs.specs.vax_machine.specs.Running.{behind, steps, state_run, run}
use Rattle.vax_pairs.specs.vax_machine_lists.specs.Sound.{AllBelow, Behind}
use Rattle.vax_alike.specs.Alike.{AlikeRuns}
use Rattle.vax_alike.proofs.Sharing.{covered}
use Rattle.vax_pairs.specs.Ways.{Way, Stay, Going, Writing, Forward}
use Rattle.vax_pairs.specs.Standing.{Seen, Stands, Even, bare}
use Rattle.vax_pairs.specs.Piecewise.{Piecewise, Meets, Onward, Ending, Calling, Returning}
use Rattle.vax_pairs_law.specs.Laws.{PiecewiseRunsAreAlike}
use Rattle.vax_pairs_law.proofs.Walking.{Pieces, Further, Finished, pieces_are_alike}
use Rattle.vax_pairs_law.proofs.Calling.{Done, DoneState, called_done, call_done, return_done}

-- ---- ways

-- one step more
pub way_goes : (x m z : State) (w : List ℕ) (k : ℕ) → Way x m w k → step_of x ≡ Goes z → (j : ℕ) × ((0 < j) × Way z m w j)
way_goes x m z w k Stay e = (suc zero, (omega arith, Going _ z [] zero e Stay))
way_goes x m z w k (Going p y v l f way) e = (let h = way_goes x y z v l way e in (suc h.0, (omega arith, Going p y v h.0 f h.1.1)))
way_goes x m z w k (Writing p y b v l f way) e = (let h = way_goes x y z v l way e in (suc h.0, (omega arith, Writing p y b v h.0 f h.1.1)))

pub way_writes : (x m z : State) (b : ℕ) (w : List ℕ) (k : ℕ) → Way x m w k → step_of x ≡ Writes b z → (j : ℕ) × ((0 < j) × Way z m (w ++ b ∷ []) j)
way_writes x m z b w k Stay e = (suc zero, (omega arith, Writing _ z b [] zero e Stay))
way_writes x m z b w k (Going p y v l f way) e = (let h = way_writes x y z b v l way e in (suc h.0, (omega arith, Going p y (v ++ b ∷ []) h.0 f h.1.1)))
way_writes x m z b w k (Writing p y a v l f way) e = (let h = way_writes x y z b v l way e in (suc h.0, (omega arith, Writing p y a (v ++ b ∷ []) h.0 f h.1.1)))

-- what holds of each state holds of the last one
pub along_way : (P : State → Type 0) → ((m : State) → P m → Behind P (step_of m)) → (x m : State) (w : List ℕ) (k : ℕ) → Way x m w k → P m → P x
along_way P go x m w k Stay h = h
along_way P go x m w k (Going p y v l f way) h = along_way P go x y v l way (subst (Behind P) f (go p h))
along_way P go x m w k (Writing p y b v l f way) h = along_way P go x y v l way (subst (Behind P) f (go p h))

pub going_is : (m : State) → m.over ≡ None → step_of m ≡ next_of (act m)
going_is m e = ap (λ (o : Option Stop). next_where o m) e

-- machines that are over say the same
over_step : (m : State) (e : Stop) → m.over ≡ Some e → step_of m ≡ Stops e
over_step m e h = ap (λ (o : Option Stop). next_where o m) h

over_same : (m n : State) (e : Stop) → m.over ≡ Some e → n.over ≡ Some e → (k : ℕ) → Says (state_run n) (steps k m).output (steps k m).end
over_same m n e h g zero = (zero, refl, refl)
over_same m n e h g (suc k) = (
  suc k,
  ap (λ (z : Next). (behind z (steps k)).output) (over_step n e g ∙ sym (over_step m e h)),
  ap (λ (z : Next). (behind z (steps k)).end) (over_step n e g ∙ sym (over_step m e h)),
)

module _ (Rel : Type 0) (Holds : Rel → Seen → Seen → Type 0) (At : ℕ → ℕ → ℕ → Rel → Type 0) (Ready OthersReady : State → Type 0) (c d : Code) (p : Piecewise Rel Holds At Ready OthersReady c d) where
  abbrev pub S : ℕ → State → State → Type 0
  S k m n = (r : Rel) × (Stands Rel Holds At k r m n × (Ready m × OthersReady n))

  module _ (k : ℕ) (m n : State) (ready : Ready m) (others : OthersReady n) where
    -- behind a step of both that isn't written
    acted_piece : (i j : ℕ) (w : List ℕ) (x y : State) → Way x m w i → Way y n w j → x.over ≡ None → y.over ≡ None → (r s : Acts) → act x ≡ r → act y ≡ s
        → Done Rel Holds At r s → Pieces S k m n
    acted_piece i j w x y v u f g (Ok (None, z)) s e h did =
        let fx : step_of x ≡ Goes z = going_is x f ∙ ap next_of e in
        let gy : step_of y ≡ Goes did.0 = going_is y g ∙ ap next_of (h ∙ did.1.0) in
        let vz = way_goes x m z w i v fx in
        let uz = way_goes y n did.0 w j u gy in
        Further vz.0 uz.0 did.1.1.0 w z did.0 vz.1.1 uz.1.1 (Forward vz.1.0 uz.1.0) (
          did.1.1.1.0,
          (
            did.1.1.1.1,
            (
              along_way Ready p.invariant.goes_on z m w vz.0 vz.1.1 ready,
              along_way OthersReady p.others_invariant.goes_on did.0 n w uz.0 uz.1.1 others,
            ),
          ),
        )
    acted_piece i j w x y v u f g (Ok (Some b, z)) s e h did =
        let fx : step_of x ≡ Writes b z = going_is x f ∙ ap next_of e in
        let gy : step_of y ≡ Writes b did.0 = going_is y g ∙ ap next_of (h ∙ did.1.0) in
        let vz = way_writes x m z b w i v fx in
        let uz = way_writes y n did.0 b w j u gy in
        Further vz.0 uz.0 did.1.1.0 (w ++ b ∷ []) z did.0 vz.1.1 uz.1.1 (Forward vz.1.0 uz.1.0) (
          did.1.1.1.0,
          (
            did.1.1.1.1,
            (
              along_way Ready p.invariant.goes_on z m (w ++ b ∷ []) vz.0 vz.1.1 ready,
              along_way OthersReady p.others_invariant.goes_on did.0 n (w ++ b ∷ []) uz.0 uz.1.1 others,
            ),
          ),
        )
    acted_piece i j w x y v u f g (Err q) s e h did =
        Finished i j w x y q v u (going_is x f ∙ ap next_of e) (going_is y g ∙ ap next_of (h ∙ did))

  piece_of : (k : ℕ) (m n : State) → Ready m → OthersReady n → Meets Rel Holds At c.items d.items k m n → Pieces S k m n
  piece_of k m n ready others (Onward i j l w x y r v u near s) =
      Further i j l w x y v u near (r, (s, (along_way Ready p.invariant.goes_on x m w i v ready, along_way OthersReady p.others_invariant.goes_on y n w j u others)))
  piece_of k m n ready others (Ending i j w x y e v u f g) = Finished i j w x y e v u f g
  piece_of k m n ready others (Calling i j w x y v u f g call) =
      acted_piece k m n ready others i j w x y v u f g _ _ call.does call.others_does (call_done Rel Holds At c.items d.items x y call)
  piece_of k m n ready others (Returning i j w x y v u f g back) =
      acted_piece k m n ready others i j w x y v u f g _ _ back.does back.others_does (return_done Rel Holds At x y back)

  pieces : (k : ℕ) (m n : State) → S k m n → Pieces S k m n
  pieces k m n s = piece_of k m n s.1.1.0 s.1.1.1 (p.meets k s.0 m n s.1.0 s.1.1.0 s.1.1.1)

  module _ (input : List ℕ) (bytes : AllBelow 256 input) where
    both_over : (m n : State) (e : Stop) → m.over ≡ Some e → n.over ≡ Some e → AlikeRuns (state_run m) (state_run n)
    both_over m n e h g = record { ahead = covered (state_run m) (state_run n) (over_same m n e h g); back = covered (state_run n) (state_run m) (over_same n m e g h) }

    alike_by : (r s : Result State Stop) → start c input ≡ begun (blank c input) r → start d input ≡ begun (blank d input) s → DoneState Rel Holds At r s
        → AlikeRuns (state_run (start c input)) (state_run (start d input))
    alike_by (Ok m) s e f h =
        let mine : start c input ≡ m = e in
        let its : start d input ≡ h.0 = f ∙ ap (begun (blank d input)) h.1.0 in
        let stands = h.1.1.1.1 in
        let ready : Ready m = subst (λ (x : State). x.over ≡ None → Ready x) mine (p.invariant.begins input bytes) stands.even.going in
        let others : OthersReady h.0 = subst (λ (x : State). x.over ≡ None → OthersReady x) its (p.others_invariant.begins input bytes) stands.even.others_going in
        subst (λ (x : State). AlikeRuns (state_run x) (state_run (start d input))) (sym mine)
        (subst (λ (y : State). AlikeRuns (state_run m) (state_run y)) (sym its)
        (pieces_are_alike S pieces h.1.1.0 m h.0 (h.1.1.1.0, (stands, (ready, others)))))
    alike_by (Err q) s e f h =
        both_over _ _ q (ap (λ (x : State). x.over) e) (ap (λ (x : State). x.over) (f ∙ ap (begun (blank d input)) h))

    blank_even : Even Rel Holds At (blank c input) (blank d input)
    blank_even = record {
      going = refl;
      others_going = refl;
      long = refl;
      others_long = refl;
      bare = ap (λ (a : List AreaItem). bare (blank (record c { area = a }) input)) p.area;
      frames = tt;
    }

    runs_alike : AlikeRuns (run c input) (run d input)
    runs_alike =
        alike_by (called (blank c input) 0 (label_place c.items main_name) None) (called (blank d input) 0 (label_place d.items main_name) None) refl refl
        (called_done Rel Holds At (blank c input) (blank d input) blank_even None None tt c.items d.items refl refl
        (label_place c.items main_name) (label_place d.items main_name) (p.main input) 0)

pub piecewise_runs_are_alike : PiecewiseRunsAreAlike
piecewise_runs_are_alike Rel Holds At Ready OthersReady c d p input bytes = runs_alike Rel Holds At Ready OthersReady c d p input bytes
