-- A return: the caller's frame is the innermost again, and the state stands for the trees' state behind the call.
use Rattle.std.proofs.Common.{◌≡◌, ℕ, ◌+◌, ◌-◌, ◌/◌, ◌%◌, ◌^◌, ◌<◌, ◌≤◌, Bool, true, false, cond, List, [], ◌∷◌, ◌++◌, length, take, drop, Option, Some, None, Result, Ok, Err}
use Rattle.std.proofs.Common.{refl, sym, ap, subst, ◌∙◌, arith, length-append}
use Rattle.std.specs.Prelude.{slice_get, slice_index, nat_le, ◌==◌}
use Rattle.std.specs.Int.{w32, from_le_bytes}
use Rattle.std.proofs.lemmas.Bool.{le-leb, lt-leb, eq-eqb, ne_eqb}
use Rattle.std.proofs.lemmas.List.{get_or-take, get_or-drop, same_from_push, take_at}
use Rattle.gg_base.specs.declared.size.Size.TheVariants.{Byte, Long}
use Rattle.gg_base.specs.Arithmetic.{add32, mul32}
use Rattle.gg_base.specs.LittleEndian.{number_in}
use Rattle.gg_base.proofs.Facts.{slice_last}
use Rattle.vax_core.specs.declared.register.Reg.TheVariants.{R0, Fp, Sp}
use Rattle.vax_machine_live.specs.declared.frame.Frame.{Frame}
use Rattle.vax_machine_live.specs.Control.{in_control}
use Rattle.vax_machine.specs.declared.turn.Stop.{Stop}
use Rattle.vax_machine.specs.declared.turn.Stop.TheVariants.{Ended}
use Rattle.vax_machine.specs.State.{State, reg, frame, ◌>>=◌}
use Rattle.vax_machine.specs.Memory.{touched, read}
use Rattle.vax_machine.specs.Calls.{restored, back_to, left, returned_from, returned, Acts}
use Rattle.tree_core.specs.declared.program.Object.{Object}
use Rattle.tree_meaning.specs.State.{Activation, Extent}
use Rattle.tree_meaning.specs.State.{State as Trees}
use Rattle.vax_states.specs.Stack.{Holds}
use Rattle.vax_states.specs.vax_machine_lists.specs.Sound.{AllBelow, IsSound}
use Rattle.vax_states.specs.Agreeing.{Agrees}
use Rattle.vax_frames_law.specs.Laws.{ReturnsAgree, LastReturnEnds}
use Rattle.vax_states.specs.vax_machine_lists.proofs.Longwords.{below_get}
use Rattle.vax_states.proofs.Pieces.{low_fp, fp_high, below_control, Innermost, innermost_is}
use Rattle.vax_states.proofs.Standing.{high_top}

-- ---- the number of arguments

byte_read : (m : State) (a : ℕ) → length m.area ≤ 1048576 → 2139095040 ≤ a → a + 1 ≤ 2147483648 → in_control m.frames a 1 ≡ false → read m a Byte ≡ Ok (slice_index m.stack (a - 2139095040))
unfolding read touched
byte_read m a small low high free =
    let p : nat_le 65536 a ≡ true = le-leb 65536 a (omega arith) in
    let q : nat_le (a + 1) (65536 + length m.area) ≡ false = lt-leb (a + 1) (65536 + length m.area) (omega arith) in
    let r : nat_le 2139095040 a ≡ true = le-leb 2139095040 a low in
    let s : nat_le (a + 1) 2147483648 ≡ true = le-leb (a + 1) 2147483648 high in
    rw (p, q, r, s, free) refl

low_of_four : (bytes : List ℕ) (n : ℕ) → n < 256 → from_le_bytes w32 bytes ≡ n → slice_index bytes 0 ≡ n
low_of_four bytes n lt e = omega (arith, e, lt)

low_byte : (bytes : List ℕ) (at n : ℕ) → n < 256 → number_in Long bytes at ≡ n → slice_index bytes at ≡ n
low_byte bytes at n lt e =
    let z : at + 0 ≡ at = omega arith in
    sym (get_or-take 4 (drop at bytes) 0 0 (omega arith) ∙ get_or-drop at bytes 0 0 ∙ ap (λ (i : ℕ). slice_index bytes i) z) ∙ low_of_four (take 4 (drop at bytes)) n lt e

-- ---- the innermost frame

pub some_acts : (x y : Option ℕ × State) → ◌≡◌ {A = Acts} (Ok x) (Ok y) → x.1 ≡ y.1
some_acts x y e = cc

pub innermost_of : (m : State) (all outer : List Frame) (f : Frame) → all ≡ outer ++ f ∷ []
    → returned_from m (take (length all - 1) all) (slice_get all (length all - 1)) ≡ returned_from m outer (Some f)
innermost_of m all outer f e =
    let n : length (outer ++ f ∷ []) - 1 ≡ length outer = omega (arith, length-append outer (f ∷ [])) in
    ap (λ (fs : List Frame). returned_from m (take (length fs - 1) fs) (slice_get fs (length fs - 1))) e
    ∙ ap (λ (i : ℕ). returned_from m (take i (outer ++ f ∷ [])) (slice_get (outer ++ f ∷ []) i)) n
    ∙ ap (λ (fs : List Frame). returned_from m fs (slice_get (outer ++ f ∷ []) (length outer))) (take_at outer (f ∷ []) (length outer) refl)
    ∙ ap (λ (o : Option Frame). returned_from m outer o) (slice_last outer f)

module _ (objects : List Object) (e : Extent) (es : List Extent) (t : Trees) (m : State) (h : Agrees objects e es t m) where
  abbrev f : Frame
  f = h.innermost

  abbrev popped : ℕ
  popped = length t.running.arguments

  abbrev pub outside : State
  outside = record m { frames = h.outer }

  number_is : read outside f.ap Byte ≡ Ok popped
  number_is =
      let r = h.running in
      let up = fp_high m.stack f e t.running (reg m Sp) h.high r in
      let down = low_fp m.stack f e t.running (reg m Sp) h.high r in
      let top = high_top objects e es t m h in
      byte_read outside f.ap h.sound.area (omega (arith, h.bottom, down, r.control, r.top)) (omega (arith, r.end, top))
      (below_control m.stack h.outer es t.callers h.high h.callers f.ap 1 (omega (arith, r.end)))
      ∙ ap (λ (n : ℕ). Ok n) (low_byte m.stack (f.ap - 2139095040) popped (omega (arith, r.few)) r.count)

  pub returned_is : returned m ≡ back_to (left outside f popped) f.back
  unfolding returned
  returned_is =
      innermost_of m m.frames h.outer f h.frames
      ∙ ap (λ (b : Bool). cond b (read outside f.ap Byte >>= λ (count : ℕ). back_to (left outside f count) f.back) (Err frame)) (eq-eqb (reg m Fp) f.fp h.fp)
      ∙ ap (λ (r : Result ℕ Stop). r >>= λ (count : ℕ). back_to (left outside f count) f.back) number_is

  r0_kept : restored m f 0 ≡ reg m R0
  r0_kept =
      let bit : ((f.mask / 2 ^ 0) % 2 == 1) ≡ false = ne_eqb ((f.mask / 2 ^ 0) % 2) 1 (λ q. omega (arith, q, h.running.mask)) in
      ap (λ (b : Bool). cond b (slice_index f.saved 0) (slice_index m.registers 0)) bit

  sp_back : add32 f.ap (add32 4 (mul32 4 popped)) ≡ h.high
  sp_back = omega (arith, h.running.end, h.running.few, high_top objects e es t m h)

  -- ---- the end of the run

  pub run_ends : (v : ℕ) → f.back ≡ None → reg m R0 ≡ v → returned m ≡ Err (Ended v)
  run_ends v none is = returned_is ∙ ap (back_to (left outside f popped)) none ∙ ap (λ (x : ℕ). Err (Ended x)) (r0_kept ∙ is)

  -- ---- the caller goes on

  restored_small : AllBelow (2 ^ 32) f.saved → (r : ℕ) → restored m f r < 2 ^ 32
  restored_small small r = by ((f.mask / 2 ^ r) % 2 == 1)
    where
      by : (b : Bool) → cond b (slice_index f.saved r) (slice_index m.registers r) < 2 ^ 32
      by true = below_get (2 ^ 32) r f.saved (omega arith) small
      by false = below_get (2 ^ 32) r m.registers (omega arith) h.sound.longwords

  module _ (place : ℕ) (back : f.back ≡ Some place) (saved : AllBelow (2 ^ 32) f.saved) where
    abbrev pub caller_state : State
    caller_state = record (left outside f popped) { place = place }

    pub goes_on : returned m ≡ Ok (None, caller_state)
    goes_on = returned_is ∙ ap (back_to (left outside f popped)) back

    caller_sound : IsSound caller_state
    caller_sound =
        let small = restored_small saved in
        record {
          going = h.sound.going;
          registers = refl;
          longwords = (
            small 0,
            (
              small 1,
              (
                small 2,
                (
                  small 3,
                  (
                    small 4,
                    (
                      small 5,
                      (
                        small 6,
                        (
                          small 7,
                          (small 8, (small 9, (small 10, (small 11, (below_get (2 ^ 32) 12 f.saved (omega arith) saved, (below_get (2 ^ 32) 13 f.saved (omega arith) saved, (omega arith, tt))))))),
                        ),
                      ),
                    ),
                  ),
                ),
              ),
            ),
          );
          stack = h.sound.stack;
          stack_bytes = h.sound.stack_bytes;
          area = h.sound.area;
          area_bytes = h.sound.area_bytes;
          input_bytes = h.sound.input_bytes;
        }

    module _ (g : Frame) (further : List Frame) (outer_is : h.outer ≡ further ++ g ∷ []) (fp_saved : slice_index f.saved 13 ≡ g.fp) (ap_saved : slice_index f.saved 12 ≡ g.ap) (v : ℕ) where
      with_answer : (stack : List ℕ) (f : Frame) (e : Extent) (a : Activation) (low high : ℕ) → Holds stack f e a low high → Holds stack f e (record a { result = v }) low high
      with_answer stack f e a low high h = record {
        words = h.words;
        control = h.control;
        saved = h.saved;
        top = h.top;
        end = h.end;
        aligned = h.aligned;
        locals = h.locals;
        few = h.few;
        mask = h.mask;
        count = h.count;
        argument = h.argument;
        is_local = h.is_local;
        local = h.local;
        pushed = h.pushed;
      }

      -- the trees' state behind the call
      abbrev pub answered : Activation → List Activation → Trees
      answered c cs = record { running = record c { result = v }; callers = cs; area = t.area; input = t.input }

      pub caller_agrees : (own : Extent) (rest : List Extent) (c : Activation) (cs : List Activation) → es ≡ own ∷ rest → t.callers ≡ c ∷ cs → Agrees objects own rest (answered c cs) caller_state
      caller_agrees own rest c cs extents callers =
          let i : Innermost m.stack h.outer own rest c cs h.high = innermost_is m.stack h.outer es t.callers h.high h.callers own rest c cs extents callers in
          let same = same_from_push further i.outer g i.f (sym outer_is ∙ i.frames_are) in
          let low_bottom : 2139095040 ≤ h.high = omega (arith, h.bottom, fp_high m.stack f e t.running (reg m Sp) h.high h.running, low_fp m.stack f e t.running (reg m Sp) h.high h.running) in
          record {
            sound = caller_sound;
            labelled = h.labelled;
            area = h.area;
            input = h.input;
            innermost = i.f;
            outer = i.outer;
            high = i.high;
            frames = i.frames_are;
            fp = fp_saved ∙ ap (λ (x : Frame). x.fp) same.1;
            ap = ap_saved ∙ ap (λ (x : Frame). x.ap) same.1;
            running = subst (λ (x : ℕ). Holds m.stack i.f own (record c { result = v }) x i.high) (sym sp_back) (with_answer m.stack i.f own c h.high i.high i.here);
            callers = i.others;
            bottom = omega (arith, sp_back, low_bottom);
          }

      pub answer_is : reg m R0 ≡ v → reg caller_state R0 ≡ v
      answer_is is = r0_kept ∙ is

pub returns_agree : ReturnsAgree
returns_agree objects e own rest t c cs m h place v callers f is = record {
  state = caller_state objects e (own ∷ rest) t m h place f.back f.small;
  does = goes_on objects e (own ∷ rest) t m h place f.back f.small;
  agrees = caller_agrees objects e (own ∷ rest) t m h place f.back f.small f.caller f.further f.outer_is f.fp f.ap v own rest c cs refl callers;
  result = answer_is objects e (own ∷ rest) t m h place f.back f.small f.caller f.further f.outer_is f.fp f.ap v is;
  frames = refl;
  items = refl;
  at = refl;
}

pub last_return_ends : LastReturnEnds
last_return_ends objects e es t m h v none is = run_ends objects e es t m h v none is
