-- Behind a tree's code the locals are at home again.
use Rattle.std.proofs.Common.{◌≡◌, ◌⊎◌, inl, inr, ⊎_elim, ℕ, suc, ◌+◌, ◌*◌, ◌^◌, ◌<◌, ◌≤◌, Bool, true, List, [], ◌∷◌, length, map, refl, sym, ap, subst, ◌∙◌, arith}
use Rattle.std.specs.Prelude.{◌||◌, slice_index}
use Rattle.std.proofs.lemmas.Bool.{cases_eq}
use Rattle.gg_base.specs.declared.size.Size.TheVariants.{Long}
use Rattle.gg_base.specs.LittleEndian.{number_in}
use Rattle.vax_states.specs.tree_core.specs.declared.program.Object.{Object}
use Rattle.vax_states.specs.tree_meaning.specs.State.{Extent}
use Rattle.vax_states.specs.tree_meaning.specs.State.{State as Trees}
use Rattle.vax_states.specs.vax_machine_lists.specs.vax_core.specs.declared.register.Reg.TheVariants.{Ap, Fp, Sp}
use Rattle.vax_states.specs.vax_machine_lists.specs.vax_core.specs.declared.code.Instr.{Instr}
use Rattle.vax_states.specs.vax_machine_lists.specs.vax_core.specs.Registers.{reg_number}
use Rattle.vax_states.specs.vax_machine.specs.State.{State, reg}
use Rattle.vax_states.specs.vax_machine_lists.specs.Sound.{AllBelow, IsSound}
use Rattle.vax_states.specs.vax_machine_lists.specs.Instructions.{Course, Ending, Comes, Goes, Calls, Returns}
use Rattle.vax_states.specs.vax_machine_lists.specs.Instructions as machine
use Rattle.vax_states.specs.vax_machine_lists.proofs.Longwords.{below_get, long_below}
use Rattle.vax_states.specs.Agreeing.{Agrees, HasRoom}
use Rattle.vax_states.proofs.Pieces.{hold_end}
use Rattle.vax_states.proofs.Standing.{kept}
use Rattle.vax_homes_law.specs.vax_homes.specs.declared.choose.Home.{Home}
use Rattle.vax_homes_law.specs.vax_homes.specs.Homing.{homed_instr}
use Rattle.vax_homes_law.specs.vax_confined.specs.Confined as confined
use Rattle.vax_homes_law.specs.Alike.{Has, IsPaired, beside, word_place, AreReady, AreLaid, Alike}
use Rattle.vax_homes_law.specs.Laying.{is_home_byte, IsPiece}
use Rattle.vax_homes_law.specs.Claims.{ComesAlike, Follows}
use Rattle.vax_homes_law.proofs.Law.{instructions_follow}
use Rattle.vax_homes_law.proofs.Laying.{pieces_are_laid}
use Rattle.vax_homes_states.specs.Homes.{AtHome, ComesHome, ReachesHome, TreesStayHome}

-- numbers of a list, one by one
all_below : (bound : ℕ) (xs : List ℕ) → ((i : ℕ) → i < length xs → slice_index xs i < bound) → AllBelow bound xs
all_below bound [] f = tt
all_below bound (x ∷ xs) f = (f 0 (omega arith), all_below bound xs (λ i lt. f (suc i) (omega (arith, lt))))

-- a register is some home's, or none's
pub record Of (hs : List Home) (r : ℕ) : Type 0 where
  pub home : Home
  pub has : Has hs home
  pub is : reg_number home.register ≡ r

of_or_not : (hs : List Home) (r : ℕ) → Of hs r ⊎ ((h : Home) → Has hs h → reg_number h.register ≡ r → ⊥)
of_or_not [] r = inr (λ h has e. has)
of_or_not (g ∷ hs) r =
    ⊎_elim (λ e. inl (record { home = g; has = inl refl; is = e }))
    (λ ne. ⊎_elim (λ o. inl (record { home = o.home; has = inr o.has; is = o.is }))
    (λ none. inr (λ h has e. ⊎_elim (λ same. ne (ap (λ (x : Home). reg_number x.register) same ∙ e)) (λ more. none h more e) has)) (of_or_not hs r))
    (cases_eq (reg_number g.register) r)

module _ (hs : List Home) (paired : IsPaired hs) (hidden : ℕ → Type 0) (n : State) (rs st : List ℕ) (h : Alike hs hidden n rs st) where
  high_same : (r : ℕ) → 12 ≤ r → slice_index rs r ≡ slice_index n.registers r
  high_same r le = h.others r (λ k has e. omega (arith, e, le, paired.high k has))

  longwords : AllBelow (2 ^ 32) rs
  longwords = all_below (2 ^ 32) rs (λ i lt. ⊎_elim
      (λ o. let e = h.homes o.home o.has in
      let small = long_below n.stack (word_place (reg n Fp) o.home.local) h.sound.stack_bytes in
      subst (λ (x : ℕ). x < 2 ^ 32) (e ∙ ap (slice_index rs) o.is) small)
      (λ none. subst (λ (x : ℕ). x < 2 ^ 32) (sym (h.others i none)) (below_get (2 ^ 32) i n.registers (omega arith) h.sound.longwords))
      (of_or_not hs i))

  sound : IsSound (record n { registers = rs })
  sound = record {
    going = h.sound.going;
    registers = h.size;
    longwords = longwords;
    stack = h.sound.stack;
    stack_bytes = h.sound.stack_bytes;
    area = h.sound.area;
    area_bytes = h.sound.area_bytes;
    input_bytes = h.sound.input_bytes;
  }

  -- the witness with the other state's registers
  renewed : Alike hs hidden (record n { registers = rs }) rs st
  renewed = record {
    sound = sound;
    size = h.size;
    others = λ r none. refl;
    homes = λ k has. ap (λ (x : ℕ). number_in Long n.stack (word_place x k.local)) (high_same 13 (omega arith)) ∙ h.homes k has;
    whole = h.whole;
    same = h.same;
  }

module _ (objects : List Object) (e : Extent) (es : List Extent) (hs : List Home) (outer : ℕ → Bool) (t s : Trees) (m n : State) (st w : List ℕ) (code : List Instr)
    (h : AtHome objects e es hs outer t m st) (room : HasRoom m) (ready : AreReady hs (length t.running.arguments) code)
    (arguments : length s.running.arguments ≡ length t.running.arguments) (few : length w ≤ length t.running.pushed) (agrees : Agrees objects e es s n) where
  abbrev Hidden : ℕ → ℕ → Type 0
  Hidden fp i = (is_home_byte hs fp i || outer i) ≡ true

  piece : IsPiece hs (reg m Fp) (reg m Ap) (length t.running.arguments) e.words (reg m Sp + 4 * length t.running.pushed) (reg m Ap + 4 * (length t.running.arguments + 1))
  piece =
      let a = h.agrees in
      let held = a.running in
      let end = hold_end m.stack a.outer es t.callers a.high a.callers in
      record {
        room = omega (arith, room.space);
        words_are = omega (arith, held.words, a.fp);
        control = omega (arith, held.control, held.top, a.fp, a.ap);
        arguments = omega arith;
        top = omega (arith, held.end, a.ap, end);
        homes = λ k has. omega (arith, h.fits k has, held.locals);
      }

  laid : AreLaid hs (Hidden (reg m Fp)) (reg m Fp) (reg m Ap) (length t.running.arguments) (reg m Sp + 4 * length t.running.pushed)
  laid = pieces_are_laid hs outer (reg m Fp) (reg m Ap) (length t.running.arguments) e.words (reg m Sp + 4 * length t.running.pushed) (reg m Ap + 4 *
      (length t.running.arguments + 1)) h.paired piece h.above

  other : Course
  other = machine.exec (map (homed_instr hs) code) (beside m m.registers st)

  follows : (c : Course) → confined.exec code m ≡ c → length c.written ≤ length t.running.pushed
      → Follows hs (Hidden (reg m Fp)) m c (machine.exec (map (homed_instr hs) code) (beside m m.registers st))
  follows c is le =
      subst (λ (x : Course). Follows hs (Hidden (reg m Fp)) m x (machine.exec (map (homed_instr hs) code) (beside m m.registers st))) is
      (instructions_follow hs h.paired (Hidden (reg m Fp)) (length t.running.arguments) (reg m Sp + 4 * length t.running.pushed) code ready m m.registers st h.alike laid h.agrees.bottom
      (subst (λ (x : Course). reg m Sp + 4 * length x.written ≤ reg m Sp + 4 * length t.running.pushed) (sym is) (omega (arith, le))))

  home : (way : State → Ending) (did : Course) → ComesAlike hs (Hidden (reg m Fp)) m n w way did → ComesHome objects e es hs outer s n w way did
  home way did g =
      let fp_is : slice_index g.rs 13 ≡ reg n Fp = high_same hs h.paired (Hidden (reg m Fp)) n g.rs g.st g.alike 13 (omega arith) in
      let ap_is : slice_index g.rs 12 ≡ reg n Ap = high_same hs h.paired (Hidden (reg m Fp)) n g.rs g.st g.alike 12 (omega arith) in
      let sp_is : slice_index g.rs 14 ≡ reg n Sp = high_same hs h.paired (Hidden (reg m Fp)) n g.rs g.st g.alike 14 (omega arith) in
      let new = record n { registers = g.rs } in
      let well = sound hs h.paired (Hidden (reg m Fp)) n g.rs g.st g.alike in
      record {
        rs = g.rs;
        st = g.st;
        does = g.is;
        at_home = record {
          agrees = kept objects e es s n agrees new well refl refl refl refl fp_is ap_is sp_is (λ a from. refl);
          paired = h.paired;
          fits = h.fits;
          alike = subst (λ (x : ℕ). Alike hs (Hidden x) new g.rs g.st) (sym (fp_is ∙ g.fp)) (renewed hs h.paired (Hidden (reg m Fp)) n g.rs g.st g.alike);
          above = λ i o. let ge = h.above i o in omega (arith, ge, ap_is, g.ap_same, arguments);
        };
      }

  abbrev Reaches : (State → Ending) → (State → Ending) → Type 0
  Reaches = ReachesHome objects e es hs outer s m n st w code

  stay : Reaches (λ (k : State). Comes k) (λ (k : State). Comes k) × ((label : List ℕ) → Reaches (λ (k : State). Goes label k) (λ (k : State). Goes label k))
      × ((name : List ℕ) (count : ℕ) (rest : List Instr) → Reaches (λ (k : State). Calls name count k rest) (λ (k : State). Calls name count k (map (homed_instr hs) rest)))
      × Reaches (λ (k : State). Returns k) (λ (k : State). Returns k)
  stay = (
    (λ is. home (λ (k : State). Comes k) _ (follows (record { written = w; ending = Comes n }) is few)),
    (λ label is. home (λ (k : State). Goes label k) _ (follows (record { written = w; ending = Goes label n }) is few)),
    (λ name count rest is. home (λ (k : State). Calls name count k (map (homed_instr hs) rest)) _ (follows (record { written = w; ending = Calls name count n rest }) is few)),
    (λ is. home (λ (k : State). Returns k) _ (follows (record { written = w; ending = Returns n }) is few)),
  )

pub trees_stay_home : TreesStayHome
trees_stay_home objects e es hs outer t s m n st w code h room ready arguments few agrees = stay objects e es hs outer t s m n st w code h room ready arguments few agrees
