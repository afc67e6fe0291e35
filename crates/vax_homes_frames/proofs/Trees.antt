-- Behind a tree's code all calls are at home again.
use Rattle.std.proofs.Common.{◌≡◌, ℕ, ◌+◌, ◌*◌, ◌≤◌, true, List, length, map, refl, sym, ap, subst, ◌∙◌, arith}
use Rattle.std.specs.Prelude.{◌||◌, slice_index}
use Rattle.vax_states.specs.tree_core.specs.declared.program.Object.{Object}
use Rattle.vax_states.specs.tree_meaning.specs.State.{Activation, Extent}
use Rattle.vax_states.specs.tree_meaning.specs.State.{State as Trees}
use Rattle.vax_states.specs.vax_machine_lists.specs.vax_core.specs.declared.register.Reg.TheVariants.{Ap, Fp, Sp}
use Rattle.vax_states.specs.vax_machine_lists.specs.vax_core.specs.declared.code.Instr.{Instr}
use Rattle.vax_states.specs.vax_machine.specs.State.{State, reg}
use Rattle.vax_states.specs.vax_machine_lists.specs.Kept.{Same, KeptAt}
use Rattle.vax_states.specs.vax_machine_lists.specs.Instructions.{Course, Ending, Comes, Goes, Calls, Returns, Stops}
use Rattle.vax_states.specs.vax_machine_lists.specs.Instructions as machine
use Rattle.vax_states.specs.Agreeing.{Agrees, HasRoom}
use Rattle.vax_states.proofs.Pieces.{hold_end}
use Rattle.vax_homes_law.specs.vax_homes.specs.Homing.{homed_instr}
use Rattle.vax_homes_law.specs.vax_confined.specs.Confined as confined
use Rattle.vax_homes_law.specs.Alike.{beside, AreReady, AreLaid}
use Rattle.vax_homes_law.specs.Laying.{is_home_byte, IsPiece}
use Rattle.vax_homes_law.specs.Claims.{ComesAlike, Follows}
use Rattle.vax_homes_law.specs.Calling.{with_stack}
use Rattle.vax_homes_law.proofs.Law.{homed_codes_follow}
use Rattle.vax_homes_law.proofs.Laying.{pieces_are_laid}
use Rattle.vax_homes_states.specs.Homes.{ComesHome}
use Rattle.vax_homes_states.proofs.Staying.{trees_stay_home}
use Rattle.vax_homes_frames.specs.Live.{HomedCall, is_waiting_byte, AreWaiting, AllAtHome}
use Rattle.vax_homes_frames.specs.Trees.{NamesOnly, IsSameCall, AllComeHome, AllReach, AllTreesStayHome}
use Rattle.vax_homes_frames.proofs.Bytes.{Holds, HoldsAt, exec_holds}
use Rattle.vax_homes_frames.proofs.Names.{names_keep, frames_keep}

-- the state in which a course ends
abbrev state_in : State → Ending → State
state_in m (Comes n) = n
state_in m (Goes label n) = n
state_in m (Calls name count n rest) = n
state_in m (Returns n) = n
state_in m (Stops e) = m

module _ (objects : List Object) (e : Extent) (es : List Extent) (c : HomedCall) (cs : List HomedCall) (t : Trees) (m : State) (st : List ℕ) (code : List Instr)
    (h : AllAtHome objects e es c cs t m st) (room : HasRoom m) (ready : AreReady c.homes (length t.running.arguments) code) where
  abbrev Hidden : ℕ → Type 0
  Hidden i = (is_home_byte c.homes (reg m Fp) i || is_waiting_byte cs i) ≡ true

  abbrev top : ℕ
  top = reg m Sp + 4 * length t.running.pushed

  piece : IsPiece c.homes (reg m Fp) (reg m Ap) (length t.running.arguments) e.words top (reg m Ap + 4 * (length t.running.arguments + 1))
  piece =
      let a = h.home.agrees in
      let held = a.running in
      let end = hold_end m.stack a.outer es t.callers a.high a.callers in
      record {
        room = omega (arith, room.space);
        words_are = omega (arith, held.words, a.fp);
        control = omega (arith, held.control, held.top, a.fp, a.ap);
        arguments = omega arith;
        top = omega (arith, held.end, a.ap, end);
        homes = λ k has. let lt = h.home.fits k has in omega (arith, lt, held.locals);
      }

  laid : AreLaid c.homes Hidden (reg m Fp) (reg m Ap) (length t.running.arguments) top
  laid = pieces_are_laid c.homes (is_waiting_byte cs) (reg m Fp) (reg m Ap) (length t.running.arguments) e.words top (reg m Ap + 4 * (length t.running.arguments + 1)) h.home.paired piece h.home.above

  abbrev pub did : Course
  did = machine.exec (map (homed_instr c.homes) code) (with_stack m st)

  -- the code with homes ends as the confined run does, also by a trap
  pub follows : (d : Course) → confined.exec code m ≡ d → length d.written ≤ length t.running.pushed → Follows c.homes Hidden m d did
  follows d is le =
      subst (λ (x : Course). Follows c.homes Hidden m x did) is
      (homed_codes_follow c.homes (λ i. is_home_byte c.homes (reg m Fp) i || is_waiting_byte cs i) (length t.running.arguments) top code m m.registers st h.home.paired ready h.home.alike laid
      h.home.agrees.bottom
      (subst (λ (x : Course). reg m Sp + 4 * length x.written ≤ top) (sym is) (omega (arith, le))))

  module _ (s : Trees) (n : State) (w : List ℕ) (names : NamesOnly c.frame.mask (map (homed_instr c.homes) code)) (same : IsSameCall t s) (few : length w ≤ length t.running.pushed)
      (agrees : Agrees objects e es s n) where
    -- an ending in a state, by its way
    record IsWay (way : State → Ending) : Type 0 where
      pub kept : (r : ℕ) (k : State) → KeptAt r (with_stack m st) (way k) → Same r (with_stack m st) k
      pub bytes : (k : State) → HoldsAt (way k) → Holds k
      pub state : (k : State) → state_in m (way k) ≡ k

    all_home : (way : State → Ending) → IsWay way → ComesHome objects e es c.homes (is_waiting_byte cs) s n w way did → ComesAlike c.homes Hidden m n w way did
        → AllComeHome objects e es c cs s m n w way did
    all_home way is_way g a =
        let k = beside n g.rs g.st in
        let here : State = with_stack m st in
        let rs_same : g.rs ≡ a.rs =
        ap (λ (x : State). x.registers) (sym (is_way.state k) ∙ ap (λ (x : Course). state_in m x.ending) (sym g.does ∙ a.is) ∙ is_way.state (beside n a.rs a.st)) in
        let keeps : (r : ℕ) → KeptAt r here did.ending → Same r here k = λ r kept. is_way.kept r k (subst (λ (x : Course). KeptAt r here x.ending) g.does kept) in
        let frames = (keeps 15 (frames_keep (map (homed_instr c.homes) code) here)).frames in
        record {
          rs = g.rs;
          st = g.st;
          does = g.does;
          at_home = record {
            home = g.at_home;
            frames = frames ∙ h.frames;
            intact = λ r low high out. (keeps r (names_keep c.frame.mask r (map (homed_instr c.homes) code) here names low high out)).register ∙ h.intact r low high out;
            waiting = subst (λ (x : List Activation). AreWaiting c.frame cs es x) (sym same.callers) h.waiting;
            bytes = is_way.bytes k (subst (λ (x : Course). HoldsAt x.ending) g.does (exec_holds (map (homed_instr c.homes) code) here h.bytes));
          };
          frames = frames;
          low = λ r lt. ap (λ (x : List ℕ). slice_index x r) rs_same ∙ a.alike.others r (λ k has is. let ge = h.home.paired.low k has in omega (arith, is, ge, lt));
        }

    one : AllReach objects e es c cs t s m n st w code
    one =
        let ways = trees_stay_home objects e es c.homes (is_waiting_byte cs) t s m n st w code h.home room ready same.arguments few agrees in (
          (λ is. all_home (λ (k : State). Comes k) (record { kept = λ r k x. x; bytes = λ k x. x; state = λ k. refl }) (ways.0 is) (follows (record { written = w; ending = Comes n }) is few)),
          (λ label is. all_home (λ (k : State). Goes label k) (record { kept = λ r k x. x; bytes = λ k x. x; state = λ k. refl }) (ways.1 label is)
              (follows (record { written = w; ending = Goes label n }) is few)),
          (λ name count rest is. all_home (λ (k : State). Calls name count k (map (homed_instr c.homes) rest)) (record { kept = λ r k x. x; bytes = λ k x. x; state = λ k. refl })
              (ways.2 name count rest is) (follows (record { written = w; ending = Calls name count n rest }) is few)),
          (λ is. all_home (λ (k : State). Returns k) (record { kept = λ r k x. x; bytes = λ k x. x; state = λ k. refl }) (ways.3 is) (follows (record { written = w; ending = Returns n }) is few)),
        )

pub all_trees_stay_home : AllTreesStayHome
all_trees_stay_home objects e es c cs t s m n st w code h room ready names same few agrees = one objects e es c cs t m st code h room ready s n w names same few agrees
