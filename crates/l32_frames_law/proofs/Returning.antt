-- A return: what the call has noted is taken back, and the state stands for the trees' state behind the call.
use Rattle.std.proofs.Common.{◌≡◌, ℕ, ◌-◌, ◌^◌, ◌≤◌, Bool, true, false, cond, List, [], ◌∷◌, ◌++◌, length, take, Option, Some, None, Result, Ok, Err, refl, sym, ap, subst, ◌∙◌, arith}
use Rattle.std.proofs.Common.{length-append, length-set}
use Rattle.std.specs.Prelude.{slice_get, unwrap_or, nat_lt, nat_le}
use Rattle.std.proofs.lemmas.Bool.{le-ltb}
use Rattle.std.proofs.lemmas.List.{take_at}
use Rattle.gg_base.proofs.Facts.{slice_last, slice_set_same, slice_set_other}
use Rattle.tree_core.specs.declared.program.Object.{Object}
use Rattle.l32_machine.specs.declared.turn.Stop32.{Stop32}
use Rattle.l32_machine.specs.declared.turn.Stop32.TheVariants.{Ended}
use Rattle.l32_machine.specs.declared.frame.Frame32.{Frame32}
use Rattle.l32_machine.specs.State.{State, reg, stack_full}
use Rattle.l32_machine.specs.Memory.{sp_set}
use Rattle.l32_machine.specs.Operands.{fetched, evaluated, stored}
use Rattle.l32_machine.specs.Calls.{Acts, silent, noted, called, taken_back, back_to, returned_from, returned}
use Rattle.l32_states.specs.tree_meaning.specs.State.{State as Trees, Activation, Extent}
use Rattle.l32_states.specs.vax_machine_lists.proofs.Longwords.{below_set}
use Rattle.l32_states.specs.l32_target_meaning.specs.Running.{performed}
use Rattle.l32_states.specs.l32_target_meaning.specs.Stack.{Holds}
use Rattle.l32_states.specs.l32_target_meaning.specs.Agreeing.{IsSound, Agrees}
use Rattle.l32_states.proofs.Sound.{reg_small, reg_same}
use Rattle.l32_states.proofs.Standing.{sp_fp, fp_high_is}
use Rattle.l32_frames_law.specs.Laws.{ReturnsAgree, LastReturnEnds, EndsReturnZero}
use Rattle.l32_frames_law.specs.Keeping.{CallsNote, TakesBack, ReturnsTakeBack}
use Rattle.l32_frames_law.proofs.Chain.{Innermost, innermost_is}

-- ---- the innermost frame

innermost_of : (m : State) (all outer : List Frame32) (f : Frame32) → all ≡ outer ++ f ∷ []
    → returned_from m (take (length all - 1) all) (slice_get all (length all - 1)) ≡ returned_from m outer (Some f)
innermost_of m all outer f e =
    let n : length (outer ++ f ∷ []) - 1 ≡ length outer = omega (arith, length-append outer (f ∷ [])) in
    ap (λ (fs : List Frame32). returned_from m (take (length fs - 1) fs) (slice_get fs (length fs - 1))) e
    ∙ ap (λ (i : ℕ). returned_from m (take i (outer ++ f ∷ [])) (slice_get (outer ++ f ∷ []) i)) n
    ∙ ap (λ (fs : List Frame32). returned_from m fs (slice_get (outer ++ f ∷ []) (length outer))) (take_at outer (f ∷ []) (length outer) refl)
    ∙ ap (λ (o : Option Frame32). returned_from m outer o) (slice_last outer f)

returned_is : (m : State) (outer : List Frame32) (f : Frame32) → m.frames ≡ outer ++ f ∷ [] → returned m ≡ back_to (taken_back m outer f) f.sp f.back
unfolding returned
returned_is m outer f e = innermost_of m m.frames outer f e

-- ---- a return of a function of the program

module _ (objects : List Object) (e : Extent) (es : List Extent) (t : Trees) (m : State) (h : Agrees objects e es t m) where
  abbrev f : Frame32
  f = h.innermost

  abbrev back : State
  back = taken_back m h.outer f

  result_kept : reg back 0 ≡ reg m 0
  result_kept = ap (λ (o : Option ℕ). unwrap_or o 0) (slice_set_same f.general 0 (reg m 0) (omega (arith, h.running.registers)))

  pub run_ends : (v : ℕ) → f.back ≡ None → reg m 0 ≡ v → returned m ≡ Err (Ended v)
  run_ends v none is = returned_is m h.outer f h.frames ∙ ap (back_to back f.sp) none ∙ ap (λ (x : ℕ). Err (Ended x)) (result_kept ∙ is)

  module _ (place : ℕ) (is_back : f.back ≡ Some place) where
    abbrev pub caller_state : State
    caller_state = record back { place = place; sp = f.sp }

    low : 2139095040 ≤ f.sp
    low = omega (arith, h.running.pops, h.bottom, sp_fp objects e es t m h, fp_high_is objects e es t m h)

    pub goes_on : returned m ≡ Ok (None, caller_state)
    unfolding sp_set
    goes_on =
        returned_is m h.outer f h.frames
        ∙ ap (back_to back f.sp) is_back
        ∙ ap (λ (b : Bool). silent (cond b (Err stack_full) (Ok caller_state))) (le-ltb f.sp 2139095040 low)

    caller_sound : IsSound caller_state
    caller_sound = record {
      going = h.sound.going;
      registers = length-set f.general 0 (reg m 0) ∙ h.running.registers;
      longwords = below_set (2 ^ 32) 0 (reg m 0) f.general (reg_small m 0 h.sound) h.running.longwords;
      stack = h.sound.stack;
      stack_bytes = h.sound.stack_bytes;
      area = h.sound.area;
      area_bytes = h.sound.area_bytes;
      input_bytes = h.sound.input_bytes;
    }

    module _ (v : ℕ) where
      with_answer : (stack : List ℕ) (fp : ℕ) (f : Frame32) (e : Extent) (a : Activation) (from to : ℕ) → Holds stack fp f e a from to → Holds stack fp f e (record a { result = v }) from to
      with_answer stack fp f e a from to h = record {
        words = h.words;
        end = h.end;
        aligned = h.aligned;
        locals = h.locals;
        pops = h.pops;
        few = h.few;
        registers = h.registers;
        longwords = h.longwords;
        argument = h.argument;
        is_local = h.is_local;
        local = h.local;
        pushed = h.pushed;
      }

      -- the trees' state behind the call
      abbrev pub answered : Activation → List Activation → Trees
      answered c cs = record { running = record c { result = v }; callers = cs; area = t.area; input = t.input }

      pub caller_agrees : (own : Extent) (rest : List Extent) (c : Activation) (cs : List Activation) → es ≡ own ∷ rest → t.callers ≡ c ∷ cs → Agrees objects own rest (answered c cs) caller_state
      caller_agrees own rest c cs extents callers =
          let i : Innermost m.stack f.fp h.outer own rest c cs h.high = innermost_is m.stack f.fp h.outer es t.callers h.high h.callers own rest c cs extents callers in
          record {
            sound = caller_sound;
            labelled = h.labelled;
            area = h.area;
            input = h.input;
            innermost = i.f;
            outer = i.outer;
            high = i.high;
            frames = i.frames_are;
            running =
                subst (λ (x : ℕ). Holds m.stack f.fp i.f own (record c { result = v }) x i.high) (sym h.running.pops)
                (with_answer m.stack f.fp i.f own c h.high i.high i.here);
            callers = i.others;
            bottom = low;
          }

pub returns_agree : ReturnsAgree
returns_agree objects e own rest t c cs m h place v callers back is = record {
  state = caller_state objects e (own ∷ rest) t m h place back;
  does = goes_on objects e (own ∷ rest) t m h place back;
  agrees = caller_agrees objects e (own ∷ rest) t m h place back v own rest c cs refl callers;
  result = result_kept objects e (own ∷ rest) t m h ∙ is;
  frames = refl;
  items = refl;
  at = refl;
}

pub last_return_ends : LastReturnEnds
last_return_ends objects e es t m h v none is = run_ends objects e es t m h v none is

pub ends_return_zero : EndsReturnZero
unfolding performed evaluated fetched stored
ends_return_zero m sound = (refl, reg_same m 0 0 sound (omega arith))

-- ---- what is kept

same_frames : (x y : State) → ◌≡◌ {A = Result State Stop32} (Ok x) (Ok y) → x.frames ≡ y.frames
same_frames x y e = cc

some_acts : (x y : Option ℕ × State) → ◌≡◌ {A = Acts} (Ok x) (Ok y) → x.1 ≡ y.1
some_acts x y e = cc

same_state : (x y : State) → ◌≡◌ {A = Acts} (Ok (None, x)) (Ok (None, y)) → x ≡ y
same_state x y e = some_acts (None, x) (None, y) e

module _ (m n : State) (count place : ℕ) where
  abbrev made : State
  made = record m { frames = m.frames ++ noted m count ∷ []; fp = m.sp; place = place }

  note_by : (b : Bool) → ◌≡◌ {A = Result State Stop32} (cond b (Err stack_full) (Ok made)) (Ok n) → n.frames ≡ m.frames ++ noted m count ∷ []
  note_by true e = absurd cc
  note_by false e = sym (same_frames made n e)

pub calls_note : CallsNote
unfolding called
calls_note m n count place e = note_by m n count place (nat_le 4096 (length m.frames)) e

module _ (m n : State) (outer : List Frame32) (f : Frame32) where
  abbrev behind : ℕ → State
  behind place = record (taken_back m outer f) { place = place; sp = f.sp }

  taken : (place : ℕ) → f.back ≡ Some place → TakesBack outer f (behind place)
  taken place is = record {
    frames = refl;
    register = λ r some. ap (λ (o : Option ℕ). unwrap_or o 0) (slice_set_other f.general 0 (reg m 0) r (λ q. omega (arith, q, some)));
    fp = refl;
    sp = refl;
    goes_on = is;
  }

  set_by : (b : Bool) (place : ℕ) → f.back ≡ Some place → ◌≡◌ {A = Acts} (silent (cond b (Err stack_full) (Ok (behind place)))) (Ok (None, n)) → TakesBack outer f n
  set_by true place is e = absurd cc
  set_by false place is e = subst (λ (x : State). TakesBack outer f x) (same_state (behind place) n e) (taken place is)

  back_by : (o : Option ℕ) → f.back ≡ o → ◌≡◌ {A = Acts} (back_to (taken_back m outer f) f.sp o) (Ok (None, n)) → TakesBack outer f n
  unfolding sp_set
  back_by None is e = absurd cc
  back_by (Some place) is e = set_by (nat_lt f.sp 2139095040) place is e

pub returns_take_back : ReturnsTakeBack
returns_take_back m n outer f frames e = back_by m n outer f f.back refl (sym (returned_is m outer f frames) ∙ e)
