-- Returns with all calls at home.
use Rattle.std.proofs.Common.{◌≡◌, ⊎_elim, ℕ, zero, suc, ◌+◌, ◌-◌, ◌*◌, ◌<◌, ◌≤◌, Bool, true, false, cond, List, [], ◌∷◌, ◌++◌, length, take, Some, None, Ok, Err}
use Rattle.std.proofs.Common.{refl, sym, ap, subst, ◌∙◌, arith, length-append}
use Rattle.std.proofs.lemmas.Bool.{cases_lt}
use Rattle.std.proofs.lemmas.List.{same_from_push}
use Rattle.std.specs.Prelude.{◌||◌, slice_get, slice_index}
use Rattle.std.specs.Int.{w32, from_le_bytes}
use Rattle.gg_base.proofs.Facts.{slice_last}
use Rattle.vax_states.specs.tree_core.specs.declared.program.Object.{Object}
use Rattle.vax_states.specs.tree_meaning.specs.State.{Activation, Extent}
use Rattle.vax_states.specs.tree_meaning.specs.State.{State as Trees}
use Rattle.vax_states.specs.vax_machine_lists.specs.vax_core.specs.declared.register.Reg.TheVariants.{R0, Ap, Fp, Sp}
use Rattle.vax_states.specs.vax_machine_lists.specs.vax_core.specs.Registers.{reg_number}
use Rattle.vax_states.specs.vax_machine_live.specs.declared.frame.Frame.{Frame}
use Rattle.vax_states.specs.vax_machine.specs.declared.turn.Stop.TheVariants.{Ended}
use Rattle.vax_states.specs.vax_machine.specs.State.{State, reg}
use Rattle.vax_states.specs.vax_machine.specs.Calls.{restored, returned_registers, returned}
use Rattle.vax_states.specs.vax_machine_lists.specs.Sound.{AllBelow, IsSound}
use Rattle.vax_states.specs.Stack.{SameFrom}
use Rattle.vax_states.specs.Agreeing.{Agrees}
use Rattle.vax_states.proofs.Standing.{kept, high_top, fp_high_is}
use Rattle.vax_frames_law.specs.Laws.{IsCalledFrom}
use Rattle.vax_frames_law.specs.Guarding.{has}
use Rattle.vax_frames_law.proofs.Returning.{outside, run_ends, caller_state, goes_on, caller_agrees, answer_is}
use Rattle.vax_homes_law.specs.vax_homes.specs.declared.choose.Home.{Home}
use Rattle.vax_homes_law.specs.Alike.{Has}
use Rattle.vax_homes_law.specs.Laying.{is_home_byte}
use Rattle.vax_homes_law.specs.Calling.{with_stack}
use Rattle.vax_homes_law.proofs.Calling.{returns_stand_beside}
use Rattle.vax_homes_states.specs.Homes.{AtHome}
use Rattle.vax_homes_states.specs.Beginning.{IsAtHome}
use Rattle.vax_homes_states.proofs.Beginning.{registers_make_homes}
use Rattle.vax_homes_frames.specs.Live.{HomedCall, frames_of, is_waiting_byte, IsIntactFrame, AreWaiting, AllAtHome}
use Rattle.vax_homes_frames.specs.Passing.{ReturnsAtHome, ReturnsAgreeAtHome, LastReturnEndsAtHome}
use Rattle.vax_homes_frames.proofs.Splicing.{splice, length-splice, below_splice, splice_front, splice_rest, drop-splice}
use Rattle.vax_homes_frames.proofs.Lying.{or_true, waiting_lies, frames_same, ap_same, hidden, stacks_same, own_below}

-- ---- the registers behind a return

back_register : (m : State) (f : Frame) (count r : ℕ) → r < 12 → slice_index (returned_registers m f count) r ≡ restored m f r
back_register m f count zero lt = refl
back_register m f count (suc zero) lt = refl
back_register m f count (suc (suc zero)) lt = refl
back_register m f count (suc (suc (suc zero))) lt = refl
back_register m f count (suc (suc (suc (suc zero)))) lt = refl
back_register m f count (suc (suc (suc (suc (suc zero))))) lt = refl
back_register m f count (suc (suc (suc (suc (suc (suc zero)))))) lt = refl
back_register m f count (suc (suc (suc (suc (suc (suc (suc zero))))))) lt = refl
back_register m f count (suc (suc (suc (suc (suc (suc (suc (suc zero)))))))) lt = refl
back_register m f count (suc (suc (suc (suc (suc (suc (suc (suc (suc zero))))))))) lt = refl
back_register m f count (suc (suc (suc (suc (suc (suc (suc (suc (suc (suc zero)))))))))) lt = refl
back_register m f count (suc (suc (suc (suc (suc (suc (suc (suc (suc (suc (suc zero))))))))))) lt = refl
back_register m f count (suc (suc (suc (suc (suc (suc (suc (suc (suc (suc (suc (suc r)))))))))))) lt = absurd (omega (arith, lt))

-- an intact frame's registers are restored
restored_all : (m : State) (f : Frame) → IsIntactFrame f m.registers → (r : ℕ) → 2 ≤ r → r < 12 → restored m f r ≡ slice_index f.saved r
restored_all m f intact r low high = by (has f.mask r) refl
  where
    by : (b : Bool) → has f.mask r ≡ b → cond b (slice_index f.saved r) (slice_index m.registers r) ≡ slice_index f.saved r
    by true e = refl
    by false e = intact r low high e

-- ---- the machine that returns

module _ (objects : List Object) (e : Extent) (es : List Extent) (d : HomedCall) (cs : List HomedCall) (t : Trees) (m : State) (st : List ℕ) (h : AllAtHome objects e es d cs t m st) where
  abbrev a : Agrees objects e es t m
  a = h.home.agrees

  last_frame : slice_get m.frames (length m.frames - 1) ≡ Some d.frame
  last_frame =
      let n : length (frames_of cs ++ d.frame ∷ []) - 1 ≡ length (frames_of cs) = omega (arith, length-append (frames_of cs) (d.frame ∷ [])) in
      ap (λ (fs : List Frame). slice_get fs (length fs - 1)) h.frames ∙ ap (slice_get (frames_of cs ++ d.frame ∷ [])) n ∙ slice_last (frames_of cs) d.frame

  -- the number of arguments isn't hidden
  number_shown : hidden objects e es d cs t m st h (d.frame.ap - 2139095040) ≡ true → ⊥
  number_shown is =
      let r = a.running in
      let at = ap_same objects e es d cs t m st h in
      ⊎_elim
      (λ own. let lt = own_below objects e es d cs t m st h (d.frame.ap - 2139095040) own in omega (arith, lt, at, a.ap, a.fp, r.control, r.top))
      (λ more. let le = h.home.above (d.frame.ap - 2139095040) more in omega (arith, le, at, a.ap, a.bottom, r.words, r.control, r.top))
      (or_true (is_home_byte d.homes (reg m Fp) (d.frame.ap - 2139095040)) (is_waiting_byte cs (d.frame.ap - 2139095040)) is)

  pub comes_beside : (n : State) → returned m ≡ Ok (None, n) → returned (with_stack m st) ≡ Ok (None, with_stack n st)
  comes_beside = (returns_stand_beside (hidden objects e es d cs t m st h) m st d.frame (stacks_same objects e es d cs t m st h) last_frame number_shown).0

  pub ends_beside : (v : ℕ) → returned m ≡ Err (Ended v) → returned (with_stack m st) ≡ Err (Ended v)
  ends_beside = (returns_stand_beside (hidden objects e es d cs t m st h) m st d.frame (stacks_same objects e es d cs t m st h) last_frame number_shown).1

pub last_return_ends_at_home : LastReturnEndsAtHome
last_return_ends_at_home objects e es c cs t m st v h none is =
    let frame_is = (frames_same objects e es c cs t m st h).1 in
    ends_beside objects e es c cs t m st h v (run_ends objects e es t m h.home.agrees v (ap (λ (x : Frame). x.back) frame_is ∙ none) is)

-- ---- a return to a caller

module _ (objects : List Object) (e own : Extent) (rest : List Extent) (d c : HomedCall) (cs : List HomedCall) (t : Trees) (x : Activation) (xs : List Activation) (m : State) (st : List ℕ)
    (place v : ℕ) (h : AllAtHome objects e (own ∷ rest) d (c ∷ cs) t m st) (callers : t.callers ≡ x ∷ xs) (from : IsCalledFrom (frames_of (c ∷ cs)) d.frame place) (is : reg m R0 ≡ v) where
  abbrev old : Agrees objects e (own ∷ rest) t m
  old = h.home.agrees

  same_frames : (old.outer ≡ frames_of (c ∷ cs)) × (old.innermost ≡ d.frame)
  same_frames = frames_same objects e (own ∷ rest) d (c ∷ cs) t m st h

  called_from : IsCalledFrom old.outer old.innermost place
  called_from = subst (λ (fs : List Frame). IsCalledFrom fs old.innermost place) (sym same_frames.0) (subst (λ (f : Frame). IsCalledFrom (frames_of (c ∷ cs)) f place) (sym same_frames.1) from)

  -- the state behind the return without homes, and the trees' state
  abbrev back : State
  back = caller_state objects e (own ∷ rest) t m old place called_from.back called_from.small

  abbrev behind : Trees
  behind = record { running = record x { result = v }; callers = xs; area = t.area; input = t.input }

  agrees : Agrees objects own rest behind back
  agrees =
      caller_agrees objects e (own ∷ rest) t m old place called_from.back called_from.small called_from.caller called_from.further called_from.outer_is called_from.fp called_from.ap v own
      rest x xs refl callers

  waits : AreWaiting d.frame (c ∷ cs) (own ∷ rest) (x ∷ xs)
  waits = subst (λ (ys : List Activation). AreWaiting d.frame (c ∷ cs) (own ∷ rest) ys) callers h.waiting

  -- r2 to r11 are what the frame has saved
  registers_back : (r : ℕ) → 2 ≤ r → r < 12 → slice_index back.registers r ≡ slice_index d.frame.saved r
  registers_back r low high =
      back_register (outside objects e (own ∷ rest) t m old) old.innermost (length t.running.arguments) r high
      ∙ restored_all (outside objects e (own ∷ rest) t m old) old.innermost (subst (λ (f : Frame). IsIntactFrame f m.registers) (sym same_frames.1) h.intact) r low high
      ∙ ap (λ (f : Frame). slice_index f.saved r) same_frames.1

  -- ---- a stack for it: below sp the machine's own

  abbrev k : ℕ
  k = reg back Sp - 2139095040

  same_size : length st ≡ length m.stack
  same_size = h.home.alike.whole ∙ sym old.sound.stack

  spliced : List ℕ
  spliced = splice k st m.stack

  front_is : (i : ℕ) → i < k → slice_index spliced i ≡ slice_index st i
  unfolding spliced
  front_is i lt = splice_front k st m.stack i same_size lt

  rest_is : (i : ℕ) → k ≤ i → slice_index spliced i ≡ slice_index m.stack i
  unfolding spliced
  rest_is i le = splice_rest k st m.stack i same_size le

  spliced_size : length spliced ≡ 8388608
  unfolding spliced
  spliced_size = length-splice k st m.stack ∙ old.sound.stack

  spliced_bytes : AllBelow 256 spliced
  unfolding spliced
  spliced_bytes = below_splice 256 k st m.stack h.bytes old.sound.stack_bytes

  spliced_from : SameFrom (reg back Sp) m.stack spliced
  unfolding spliced
  spliced_from = λ at le. ap (λ (ns : List ℕ). from_le_bytes w32 (take 4 ns)) (drop-splice k st m.stack (at - 2139095040) same_size (omega (arith, le)))

  abbrev plain : State
  plain = record back { stack = spliced }

  plain_sound : IsSound plain
  plain_sound =
      let s = agrees.sound in
      record {
        going = s.going;
        registers = s.registers;
        longwords = s.longwords;
        stack = spliced_size;
        stack_bytes = spliced_bytes;
        area = s.area;
        area_bytes = s.area_bytes;
        input_bytes = s.input_bytes;
      }

  plain_agrees : Agrees objects own rest behind plain
  plain_agrees = kept objects own rest behind back agrees plain plain_sound refl refl refl refl refl refl refl spliced_from

  -- ---- the caller's homes

  new_frames : (agrees.outer ≡ frames_of cs) × (agrees.innermost ≡ c.frame)
  new_frames = same_from_push agrees.outer (frames_of cs) agrees.innermost c.frame (sym agrees.frames ∙ same_frames.0)

  above : (i : ℕ) → is_waiting_byte cs i ≡ true → reg back Ap + 4 * (length x.arguments + 1) ≤ 2139095040 + i
  above i o = let le = waiting_lies m.stack cs c.frame agrees.outer rest xs agrees.high i agrees.callers new_frames.0 waits.1 o in omega (arith, le, agrees.running.end, agrees.ap)

  held : (g : Home) (w : ℕ) → Has c.homes g → x.locals g.local ≡ Some w → slice_index back.registers (reg_number g.register) ≡ w
  held g w has written =
      let low = waits.0.paired.low g has in
      let high = waits.0.paired.high g has in
      registers_back (reg_number g.register) (omega (arith, low)) high ∙ waits.0.saved g w has written

  made : IsAtHome objects own rest c.homes (is_waiting_byte cs) behind plain spliced
  made =
      registers_make_homes objects own rest c.homes (is_waiting_byte cs) behind plain spliced plain_agrees held waits.0.paired waits.0.fits
      (record { old_size = spliced_size; new_size = spliced_size; same = λ i shown. refl }) above

  -- the machine's stack is that one but for the hidden bytes
  back_fp : reg back Fp ≡ c.frame.fp
  back_fp = agrees.fp ∙ ap (λ (f : Frame). f.fp) new_frames.1

  not_own : (i : ℕ) → k ≤ i → is_home_byte d.homes (reg m Fp) i ≡ true → ⊥
  not_own i le own_byte =
      let lt = own_below objects e (own ∷ rest) d (c ∷ cs) t m st h i own_byte in
      let high : reg back Sp ≡ old.high = sp_back in
      omega (arith, lt, le, high, old.fp, old.bottom, old.running.words, fp_high_is objects e (own ∷ rest) t m old)
    where
      sp_back : reg back Sp ≡ old.high
      sp_back = omega (arith, old.running.end, old.running.few, high_top objects e (own ∷ rest) t m old)

  stack_same : (i : ℕ) → ((is_home_byte c.homes (reg back Fp) i || is_waiting_byte cs i) ≡ true → ⊥) → slice_index st i ≡ slice_index spliced i
  stack_same i shown =
      ⊎_elim (λ lt. sym (front_is i lt))
      (λ le. h.home.alike.same i (λ hid. ⊎_elim (not_own i le)
      (λ more. shown (subst (λ (fp : ℕ). (is_home_byte c.homes fp i || is_waiting_byte cs i) ≡ true) (sym back_fp) more))
      (or_true (is_home_byte d.homes (reg m Fp) i) (is_waiting_byte (c ∷ cs) i) hid))
      ∙ sym (rest_is i le))
      (cases_lt i k)

  home : AtHome objects own rest c.homes (is_waiting_byte cs) behind (record plain { stack = made.stack }) st
  home =
      let n = made.at_home in
      record {
        agrees = n.agrees;
        paired = n.paired;
        fits = n.fits;
        alike = record {
          sound = n.alike.sound;
          size = n.alike.size;
          others = n.alike.others;
          homes = n.alike.homes;
          whole = h.home.alike.whole;
          same = λ i shown. stack_same i shown ∙ n.alike.same i shown;
        };
        above = n.above;
      }

  pub returns : ReturnsAtHome objects own rest c cs t place v x xs m st
  returns = record {
    state = record plain { stack = made.stack };
    does = comes_beside objects e (own ∷ rest) d (c ∷ cs) t m st h back (goes_on objects e (own ∷ rest) t m old place called_from.back called_from.small);
    at_home = record {
      home = home;
      frames = same_frames.0;
      intact = λ r low high out. registers_back r low high ∙ waits.0.intact r low high out;
      waiting = waits.1;
      bytes = h.bytes;
    };
    result =
        answer_is objects e (own ∷ rest) t m old place called_from.back called_from.small called_from.caller called_from.further called_from.outer_is called_from.fp called_from.ap v is;
    frames = same_frames.0;
    items = refl;
    at = refl;
  }

pub returns_agree_at_home : ReturnsAgreeAtHome
returns_agree_at_home objects e own rest d c cs t a xs m st place v h callers from is = returns objects e own rest d c cs t a xs m st place v h callers from is
