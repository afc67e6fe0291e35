-- Calls and returns keep the registers r2 to r11.
use Rattle.std.proofs.Common.{◌≡◌, ℕ, zero, suc, ◌+◌, ◌-◌, ◌%◌, ◌<◌, ◌≤◌, Bool, true, false, cond, List, [], ◌∷◌, ◌++◌, length, Option, Some, None, Result, Ok, Err, refl, sym, ap}
use Rattle.std.proofs.Common.{subst, ◌∙◌, arith, get_or-set_other}
use Rattle.std.specs.Prelude.{slice_get, slice_index, slice_set, nat_lt, nat_le, ◌==◌}
use Rattle.std.specs.Int.RustNames.{count_ones}
use Rattle.std.specs.Str.{bytes_eq}
use Rattle.std.proofs.lemmas.List.{same_from_push}
use Rattle.std.proofs.lemmas.Option.{same_Some, none-some}
use Rattle.gg_base.specs.declared.size.Size.TheVariants.{Byte, Long}
use Rattle.gg_base.specs.Arithmetic.{sub32}
use Rattle.gg_base.proofs.Facts.{err_ok, ok_same}
use Rattle.vax_core.specs.declared.register.Reg.TheVariants.{Fp, Sp}
use Rattle.vax_core.specs.declared.code.Instr.{Instr}
use Rattle.vax_core.specs.declared.code.CodeItem.{CodeItem}
use Rattle.vax_core.specs.declared.code.CodeItem.TheVariants as item_kind
use Rattle.vax_machine_live.specs.declared.frame.Frame.{Frame}
use Rattle.vax_machine.specs.declared.turn.Stop.{Stop}
use Rattle.vax_machine.specs.declared.memory.Region.{Region}
use Rattle.vax_machine.specs.declared.memory.Region.TheVariants as regions
use Rattle.vax_machine.specs.declared.function.Action.{Action}
use Rattle.vax_machine.specs.declared.function.Action.TheVariants.{Compute, Push, Branch, Call, Return}
use Rattle.vax_machine.specs.State.{State, reg, with_reg, frame, stack_full, bad_code, ◌>>=◌}
use Rattle.vax_machine.specs.Memory.{touched, written, register_set, read, with_number_at}
use Rattle.vax_machine.specs.Functions.{action_of}
use Rattle.vax_machine.specs.Labels.{next_item, label_place}
use Rattle.vax_machine.specs.Calls.{Acts, pushed, reserved, all_reserved, entry_mask, entered, framed, called, restored, returned_registers, back_to, left, returned}
use Rattle.vax_core.specs.Ops.{shape}
use Rattle.vax_core.specs.First.{main_name, putchar_name}
use Rattle.vax_machine.specs.declared.function.Test.{Test}
use Rattle.vax_machine.specs.declared.function.Test.TheVariants as test
use Rattle.vax_machine.specs.declared.operands.Arguments.{Arguments}
use Rattle.vax_machine.specs.Operands.{all_evaluated}
use Rattle.vax_machine.specs.Functions.{applied, passes}
use Rattle.vax_machine.specs.Labels.{getchar_name}
use Rattle.vax_machine.specs.Calls.{silent, putchar, getchar}
use Rattle.vax_machine.specs.Step.{act, at_item, instruction, finished, pushing, next_of, next_where, Goes as GoesOn, Writes, Stops as StopsAt}
use Rattle.vax_states.specs.vax_machine_lists.specs.Instructions.{Ending, Comes, Goes, Calls, Returns, Stops, Course, ends, course_of, branching, calling, alone, evaluated_then, performed}
use Rattle.vax_states.specs.vax_machine_lists.proofs.Placed.{Where, there, where_of, ending_there, performed_there}
use Rattle.vax_states.specs.vax_machine_lists.proofs.Joining.{OneStep, one_performed}
use Rattle.vax_machine.specs.Loading.{blank}
use Rattle.vax_frames_law.specs.Guarding.{has, may_pass, IsGuarded, IsIntact, AreIntact, outermost, inner, KeepsRegisters, StepsKeep, ReturnsRestore, CallsSave, RunsBeginIntact}
use Rattle.vax_states.specs.vax_machine_lists.specs.Kept.{Same, KeptAt}
use Rattle.vax_states.specs.vax_machine_lists.proofs.Registers.{same, trans, register_kept, frames_kept}
use Rattle.vax_frames_law.proofs.Returning.{innermost_of, some_acts}

-- other registers and another place of the same function
intact_moved : (code : List CodeItem) (mask_at : ℕ → ℕ) (frames : List Frame) (place to : ℕ) (old new : List ℕ) → AreIntact code mask_at frames place old
    → mask_at (next_item code to) ≡ mask_at (next_item code place)
    → ((r : ℕ) → 2 ≤ r → r < 12 → has (mask_at (next_item code place)) r ≡ false → slice_index new r ≡ slice_index old r) → AreIntact code mask_at frames to new
intact_moved code mask_at frames place to old new (outermost f place' old' none h) there same =
    outermost f to new none (record { mask = there ∙ h.mask; kept = λ r low high e. same r low high (ap (λ (k : ℕ). has k r) h.mask ∙ e) ∙ h.kept r low high e })
intact_moved code mask_at frames place to old new (inner outer all f place' back old' eq is h others) there same =
    inner outer frames f to back new eq is (record { mask = there ∙ h.mask; kept = λ r low high e. same r low high (ap (λ (k : ℕ). has k r) h.mask ∙ e) ∙ h.kept r low high e }) others

-- ---- what a call makes

pub record Makes (k n : State) (back : Option ℕ) : Type 0 where
  pub mask : ℕ
  pub entry : ℕ
  pub f : Frame
  pub there : slice_get k.items entry ≡ Some (item_kind.Mask mask)
  pub items : n.items ≡ k.items
  pub frames : n.frames ≡ k.frames ++ f ∷ []
  pub mask_is : f.mask ≡ mask
  pub back_is : f.back ≡ back
  pub place : n.place ≡ entry + 1
  pub saved : (r : ℕ) → 1 ≤ r → r < 12 → slice_index f.saved r ≡ slice_index k.registers r
  pub registers : (r : ℕ) → 1 ≤ r → r < 12 → slice_index n.registers r ≡ slice_index f.saved r

-- all registers but sp are the same, and the frames and the code
abbrev AllSame : State → State → Type 0
AllSame m n = (r : ℕ) → 1 ≤ r → r < 12 → Same r m n

abbrev AllAfter : State → Result State Stop → Type 0
AllAfter m (Ok n) = AllSame m n
AllAfter m (Err e) = Unit {0}

sp_other : (r : ℕ) → r < 12 → 14 ≡ r → ⊥
sp_other r lt e = omega (arith, lt, e)

all_set : (m : State) (v : ℕ) → AllAfter m (register_set m Sp v)
unfolding register_set
all_set m v = by (nat_lt v 2139095040)
  where
    by : (b : Bool) → AllAfter m (cond b (Err stack_full) (Ok (with_reg m Sp v)))
    by true = tt
    by false = λ r low high. record { register = get_or-set_other m.registers 14 r v 0 (λ e. sp_other r high (sym e)); frames = refl; items = refl }

all_written : (m : State) (a v : ℕ) → AllAfter m (written m a Long v)
unfolding written
all_written m a v = by (touched m a Long)
  where
    by : (t : Result Region Stop) → AllAfter m (t >>= λ (x : Region). Ok (with_number_at m Long v x))
    by (Ok (regions.Area at)) = λ r low high. record { register = refl; frames = refl; items = refl }
    by (Ok (regions.Stack at)) = λ r low high. record { register = refl; frames = refl; items = refl }
    by (Err e) = tt

all_join : (m n : State) (t : Result State Stop) → AllSame m n → AllAfter n t → AllAfter m t
all_join m n (Ok k) h g = λ r low high. trans r m n k (h r low high) (g r low high)
all_join m n (Err e) h g = tt

all_then : (m : State) (t : Result State Stop) (f : State → Result State Stop) → AllAfter m t → ((n : State) → AllAfter n (f n)) → AllAfter m (t >>= f)
all_then m (Ok n) f h g = all_join m n (f n) h (g n)
all_then m (Err e) f h g = tt

all_pushed : (m : State) (v : ℕ) → AllAfter m (pushed m v)
unfolding pushed
all_pushed m v = all_then m (register_set m Sp (sub32 (reg m Sp) 4)) (λ n. written n (sub32 (reg m Sp) 4) Long v) (all_set m (sub32 (reg m Sp) 4)) (λ n. all_written n (sub32 (reg m Sp) 4) v)

all_touched : (n : State) (t : Result Region Stop) → AllAfter n (t >>= λ (r : Region). Ok n)
all_touched n (Ok r) = λ r low high. same r n
all_touched n (Err e) = tt

all_reserved_one : (m : State) → AllAfter m (reserved m)
unfolding reserved
all_reserved_one m =
    all_then m (register_set m Sp (sub32 (reg m Sp) 4)) (λ n. touched n (sub32 (reg m Sp) 4) Long >>= λ (r : Region). Ok n) (all_set m (sub32 (reg m Sp) 4))
    (λ n. all_touched n (touched n (sub32 (reg m Sp) 4) Long))

all_room : (k : ℕ) (m : State) → AllAfter m (all_reserved k m)
all_room zero m = λ r low high. same r m
all_room (suc k) m = all_then m (reserved m) (λ n. all_reserved k n) (all_reserved_one m) (λ n. all_room k n)

entered_makes : (k m n : State) (ap_at top mask entry : ℕ) (back : Option ℕ) → AllSame k m → slice_get k.items entry ≡ Some (item_kind.Mask mask) → entered m ap_at top mask (entry + 1) back ≡ Ok n
    → Makes k n back
entered_makes k m n ap_at top mask entry back h there done = by (nat_le 4096 (length m.frames)) done
  where
    made : State
    made = record m {
      frames = m.frames ++ record { fp = reg m Sp; top = top; ap = ap_at; mask = mask; saved = m.registers; back = back } ∷ [];
      registers = slice_set (slice_set m.registers 13 (reg m Sp)) 12 ap_at;
      conditions = record { negative = false; is_zero = false; carry = false };
      place = entry + 1;
    }

    one_low : 1 ≤ 1
    one_low = omega arith

    one_high : 1 < 12
    one_high = omega arith

    same_k : Same 1 k m
    same_k = h 1 one_low one_high

    makes : (x : State) → made ≡ x → Makes k x back
    makes x e = subst (λ (y : State). Makes k y back) e (record {
      mask = mask;
      entry = entry;
      f = record { fp = reg m Sp; top = top; ap = ap_at; mask = mask; saved = m.registers; back = back };
      there = there;
      items = same_k.items;
      frames = ap (λ (fs : List Frame). fs ++ record { fp = reg m Sp; top = top; ap = ap_at; mask = mask; saved = m.registers; back = back } ∷ []) same_k.frames;
      mask_is = refl;
      back_is = refl;
      place = refl;
      saved = λ r low high. (h r low high).register;
      registers = λ r low high.
          get_or-set_other (slice_set m.registers 13 (reg m Sp)) 12 r ap_at 0 (λ e. omega (arith, e, high)) ∙ get_or-set_other m.registers 13 r (reg m Sp) 0 (λ e. omega (arith, e, high));
    })

    by : (b : Bool) → cond b (Err stack_full) (Ok made) ≡ Ok n → Makes k n back
    by true e = absurd (err_ok stack_full n e)
    by false e = makes n (ok_same made n e)

room_makes : (k : State) (t : Result State Stop) (n : State) (ap_at top mask entry : ℕ) (back : Option ℕ) → AllAfter k t → slice_get k.items entry ≡ Some (item_kind.Mask mask)
    → (t >>= λ (x : State). entered x ap_at top mask (entry + 1) back) ≡ Ok n → Makes k n back
room_makes k (Ok m) n ap_at top mask entry back h there done = entered_makes k m n ap_at top mask entry back h there done
room_makes k (Err e) n ap_at top mask entry back h there done = absurd (err_ok e n done)

framed_makes : (k m n : State) (ap_at entry : ℕ) (back : Option ℕ) (o : Option CodeItem) → AllSame k m → slice_get m.items entry ≡ o → framed m ap_at (entry_mask o) entry back ≡ Ok n → Makes k n back
framed_makes k m n ap_at entry back None h there done = absurd (err_ok bad_code n done)
framed_makes k m n ap_at entry back (Some (item_kind.Label l)) h there done = absurd (err_ok bad_code n done)
framed_makes k m n ap_at entry back (Some (item_kind.Globl l)) h there done = absurd (err_ok bad_code n done)
framed_makes k m n ap_at entry back (Some (item_kind.Instr i)) h there done = absurd (err_ok bad_code n done)
framed_makes k m n ap_at entry back (Some (item_kind.Mask mask)) h there done = by (register_set m Sp (ap_at - ap_at % 4)) (all_set m (ap_at - ap_at % 4)) done
  where
    one_low : 1 ≤ 1
    one_low = omega arith

    one_high : 1 < 12
    one_high = omega arith

    stands : slice_get k.items entry ≡ Some (item_kind.Mask mask)
    stands = ap (λ (x : List CodeItem). slice_get x entry) (sym (h 1 one_low one_high).items) ∙ there

    by : (t : Result State Stop) → AllAfter m t → (t >>= λ (x : State). all_reserved (count_ones mask + 5) x >>= λ (y : State). entered y ap_at (ap_at - ap_at % 4) mask (entry + 1) back) ≡ Ok n
        → Makes k n back
    by (Ok x) g done =
        room_makes k (all_reserved (count_ones mask + 5) x) n ap_at (ap_at - ap_at % 4) mask entry back
        (all_join k x (all_reserved (count_ones mask + 5) x) (λ r low high. trans r k m x (h r low high) (g r low high)) (all_room (count_ones mask + 5) x)) stands done
    by (Err e) g done = absurd (err_ok e n done)

called_makes : (k n : State) (count place : ℕ) (back : Option ℕ) → called k count place back ≡ Ok n → Makes k n back
unfolding called
called_makes k n count place back done = by (pushed k count) (all_pushed k count) done
  where
    by : (t : Result State Stop) → AllAfter k t → (t >>= λ (m : State). framed m (reg m Sp) (entry_mask (slice_get m.items (next_item m.items place))) (next_item m.items place) back) ≡ Ok n
        → Makes k n back
    by (Ok m) h done = framed_makes k m n (reg m Sp) (next_item m.items place) back (slice_get m.items (next_item m.items place)) h refl done
    by (Err e) h done = absurd (err_ok e n done)

-- ---- what a return leaves

pub record Backs (m n : State) (outer : List Frame) (f : Frame) : Type 0 where
  pub place : ℕ
  pub back : f.back ≡ Some place
  pub frames : n.frames ≡ outer
  pub items : n.items ≡ m.items
  pub at : n.place ≡ place
  pub registers : (r : ℕ) → r < 12 → slice_index n.registers r ≡ restored m f r

back_register : (m : State) (f : Frame) (count r : ℕ) → r < 12 → slice_index (returned_registers m f count) r ≡ restored m f r
back_register m f count zero lt = refl
back_register m f count (suc zero) lt = refl
back_register m f count (suc (suc zero)) lt = refl
back_register m f count (suc (suc (suc zero))) lt = refl
back_register m f count (suc (suc (suc (suc zero)))) lt = refl
back_register m f count (suc (suc (suc (suc (suc zero))))) lt = refl
back_register m f count (suc (suc (suc (suc (suc (suc zero)))))) lt = refl
back_register m f count (suc (suc (suc (suc (suc (suc (suc zero))))))) lt = refl
back_register m f count (suc (suc (suc (suc (suc (suc (suc (suc zero)))))))) lt = refl
back_register m f count (suc (suc (suc (suc (suc (suc (suc (suc (suc zero))))))))) lt = refl
back_register m f count (suc (suc (suc (suc (suc (suc (suc (suc (suc (suc zero)))))))))) lt = refl
back_register m f count (suc (suc (suc (suc (suc (suc (suc (suc (suc (suc (suc zero))))))))))) lt = refl
back_register m f count (suc (suc (suc (suc (suc (suc (suc (suc (suc (suc (suc (suc r)))))))))))) lt = absurd (omega (arith, lt))

returned_backs : (m n : State) (o : Option ℕ) (outer : List Frame) (f : Frame) → m.frames ≡ outer ++ f ∷ [] → returned m ≡ Ok (o, n) → Backs m n outer f
unfolding returned
returned_backs m n o outer f eq done = by_fp (reg m Fp == f.fp) (sym (innermost_of m m.frames outer f eq) ∙ done)
  where
    by_back : (b : Option ℕ) (count : ℕ) → f.back ≡ b → back_to (left (record m { frames = outer }) f count) b ≡ Ok (o, n) → Backs m n outer f
    by_back None count is e = absurd (err_ok _ _ e)
    by_back (Some place) count is e =
        let x : record (left (record m { frames = outer }) f count) { place = place } ≡ n = some_acts (None, record (left (record m { frames = outer }) f count) { place = place }) (o, n) e in
        subst (λ (y : State). Backs m y outer f) x (record { place = place; back = is; frames = refl; items = refl; at = refl; registers = λ r lt. back_register m f count r lt })

    by_read : (t : Result ℕ Stop) → (t >>= λ (count : ℕ). back_to (left (record m { frames = outer }) f count) f.back) ≡ Ok (o, n) → Backs m n outer f
    by_read (Ok count) e = by_back f.back count refl e
    by_read (Err x) e = absurd (err_ok _ _ e)

    by_fp : (b : Bool) → cond b (read (record m { frames = outer }) f.ap Byte >>= λ (count : ℕ). back_to (left (record m { frames = outer }) f count) f.back) (Err frame) ≡ Ok (o, n)
        → Backs m n outer f
    by_fp true e = by_read (read (record m { frames = outer }) f.ap Byte) e
    by_fp false e = absurd (err_ok _ _ e)

-- the innermost of intact frames
pub record LastIntact (code : List CodeItem) (mask_at : ℕ → ℕ) (frames : List Frame) (place : ℕ) (registers : List ℕ) : Type 0 where
  pub outer : List Frame
  pub f : Frame
  pub frames_are : frames ≡ outer ++ f ∷ []
  pub last : IsIntact code mask_at f place registers
  pub others : (back : ℕ) → f.back ≡ Some back → AreIntact code mask_at outer back f.saved

last_intact : (code : List CodeItem) (mask_at : ℕ → ℕ) (frames : List Frame) (place : ℕ) (registers : List ℕ) → AreIntact code mask_at frames place registers
    → LastIntact code mask_at frames place registers
last_intact code mask_at frames place registers (outermost f place' registers' none h) =
    record { outer = []; f = f; frames_are = refl; last = h; others = λ back is. absurd (none-some back (sym none ∙ is)) }
last_intact code mask_at frames place registers (inner outer all f place' back registers' eq is h others) =
    record { outer = outer; f = f; frames_are = eq; last = h; others = λ b e. subst (λ (x : ℕ). AreIntact code mask_at outer x f.saved) (same_Some back b (sym is ∙ e)) others }

restored_all : (code : List CodeItem) (mask_at : ℕ → ℕ) (m : State) (f : Frame) (place : ℕ) (registers : List ℕ) → IsIntact code mask_at f place registers
    → (r : ℕ) → 2 ≤ r → r < 12 → (has f.mask r ≡ false → slice_index m.registers r ≡ slice_index registers r) → restored m f r ≡ slice_index f.saved r
restored_all code mask_at m f place registers h r low high same = by (has f.mask r) refl
  where
    by : (b : Bool) → has f.mask r ≡ b → cond b (slice_index f.saved r) (slice_index m.registers r) ≡ slice_index f.saved r
    by true e = refl
    by false e = same e ∙ h.kept r low high e

pub returns_restore : ReturnsRestore
returns_restore code mask_at m n outer f k eq done r low high =
    let i = last_intact code mask_at m.frames m.place m.registers k.intact in
    let same = same_from_push outer i.outer f i.f (sym eq ∙ i.frames_are) in
    let b = returned_backs m n None outer f eq done in
    b.registers r high ∙ restored_all code mask_at m f m.place m.registers (subst (λ (x : Frame). IsIntact code mask_at x m.place m.registers) (sym same.1) i.last) r low high (λ e. refl)

-- ---- from which action an ending comes

abbrev From : Action → Option (List ℕ) → Ending → Type 0
From a target (Comes n) = may_pass a ≡ true
From a target (Goes label n) = (target ≡ Some label) × (a ≡ Call → ⊥)
From a target (Calls name count n rest) = may_pass a ≡ true
From a target (Returns n) = Unit {0}
From a target (Stops e) = Unit {0}

from_acts : (a : Action) (target : Option (List ℕ)) (r : Acts) → may_pass a ≡ true → From a target (course_of r).ending
from_acts a target (Ok x) e = e
from_acts a target (Err x) e = tt

no_call : (t : Test) → Branch t ≡ Call → ⊥
no_call t e = cc

from_branch : (t : Test) (b : Bool) (target : Option (List ℕ)) (m : State) → may_pass (Branch t) ≡ true → From (Branch t) target (branching b target m).ending
from_branch t true None m e = tt
from_branch t false None m e = tt
from_branch t true (Some label) m e = (refl, no_call t)
from_branch t false (Some label) m e = e

from_always : (target : Option (List ℕ)) (m : State) → From (Branch test.Always) target (branching true target m).ending
from_always None m = tt
from_always (Some label) m = (refl, no_call test.Always)

from_test : (t : Test) (target : Option (List ℕ)) (m : State) → From (Branch t) target (branching (passes t m.conditions) target m).ending
from_test test.Always target m = from_always target m
from_test test.Equal target m = from_branch test.Equal (passes test.Equal m.conditions) target m refl
from_test test.NotEqual target m = from_branch test.NotEqual (passes test.NotEqual m.conditions) target m refl
from_test test.Less target m = from_branch test.Less (passes test.Less m.conditions) target m refl
from_test test.LessOrEqual target m = from_branch test.LessOrEqual (passes test.LessOrEqual m.conditions) target m refl
from_test test.Greater target m = from_branch test.Greater (passes test.Greater m.conditions) target m refl
from_test test.GreaterOrEqual target m = from_branch test.GreaterOrEqual (passes test.GreaterOrEqual m.conditions) target m refl
from_test test.LessUnsigned target m = from_branch test.LessUnsigned (passes test.LessUnsigned m.conditions) target m refl
from_test test.LessOrEqualUnsigned target m = from_branch test.LessOrEqualUnsigned (passes test.LessOrEqualUnsigned m.conditions) target m refl
from_test test.GreaterUnsigned target m = from_branch test.GreaterUnsigned (passes test.GreaterUnsigned m.conditions) target m refl
from_test test.GreaterOrEqualUnsigned target m = from_branch test.GreaterOrEqualUnsigned (passes test.GreaterOrEqualUnsigned m.conditions) target m refl

from_call_by : (b c : Bool) (x y : Acts) (name : List ℕ) (count : ℕ) (target : Option (List ℕ)) (m : State)
    → From Call target (cond b (course_of x) (cond c (course_of y) (ends (Calls name count m [])))).ending
from_call_by true c x y name count target m = from_acts Call target x refl
from_call_by false true x y name count target m = from_acts Call target y refl
from_call_by false false x y name count target m = refl

from_call : (count : ℕ) (target : Option (List ℕ)) (m : State) → From Call target (calling count target m).ending
from_call count None m = tt
from_call count (Some name) m = from_call_by (bytes_eq name putchar_name) (bytes_eq name getchar_name) (putchar m count) (getchar m count) name count (Some name) m

from_alone : (a : Action) (x : Arguments) (target : Option (List ℕ)) (m : State) → From a target (alone a x target m).ending
from_alone (Compute f) x target m = from_acts (Compute f) target (finished m x.destination (applied f x.first x.second m.conditions.carry)) refl
from_alone Push x target m = from_acts Push target (pushing m x.first) refl
from_alone (Branch t) x target m = from_test t target m
from_alone Call x target m = from_call x.first target m
from_alone Return x target m = tt

from_then : (i : Instr) (t : Result (Arguments × State) Stop) → From (action_of i.op) i.target (evaluated_then i t).ending
from_then i (Ok x) = from_alone (action_of i.op) x.0 i.target x.1
from_then i (Err e) = tt

from_performed : (i : Instr) (m : State) → From (action_of i.op) i.target (performed i m).ending
unfolding performed
from_performed i m = from_then i (all_evaluated (shape i.op).operands i.operands m)

-- ---- a step

same_place : (n : State) (w : Where) → Comes n ≡ Comes (there n w) → n ≡ there n w
same_place n w e = cc

same_goes : (l : List ℕ) (n : State) (w : Where) → Goes l n ≡ Goes l (there n w) → n ≡ there n w
same_goes l n w e = cc

same_calls : (l : List ℕ) (c : ℕ) (n : State) (is : List Instr) (w : Where) → Calls l c n is ≡ Calls l c (there n w) is → n ≡ there n w
same_calls l c n is w e = cc

silent_is : (t : Result State Stop) (o : Option ℕ) (n : State) → silent t ≡ Ok (o, n) → t ≡ Ok n
silent_is (Ok m) o n e = ap (λ (x : State). Ok x) (some_acts (None, m) (o, n) e)
silent_is (Err x) o n e = absurd (err_ok _ _ e)

module _ (mask_at : ℕ → ℕ) (m : State) (g : IsGuarded m.items mask_at) (a : AreIntact m.items mask_at m.frames m.place m.registers) where
  abbrev p : ℕ
  p = next_item m.items m.place

  abbrev m1 : State
  m1 = record m { place = p + 1 }

  abbrev Kept : State → Type 0
  Kept n = KeepsRegisters m.items mask_at n

  moved_to : (n : State) (to : ℕ) → n.items ≡ m.items → n.frames ≡ m.frames → n.place ≡ to → mask_at (next_item m.items to) ≡ mask_at p
      → ((r : ℕ) → 2 ≤ r → r < 12 → has (mask_at p) r ≡ false → slice_index n.registers r ≡ slice_index m.registers r) → Kept n
  moved_to n to is frames at there same = record {
    items = is;
    intact =
        subst (λ (x : ℕ). AreIntact m.items mask_at n.frames x n.registers) (sym at)
        (subst (λ (fs : List Frame). AreIntact m.items mask_at fs to n.registers) (sym frames) (intact_moved m.items mask_at m.frames m.place to m.registers n.registers a there same));
  }

  module _ (i : Instr) (stands : slice_get m.items p ≡ Some (item_kind.Instr i)) (o : Option ℕ) (n : State) where
    by_ending : (w : List ℕ) (e : Ending) (acts : Acts) → acts ≡ Ok (o, n) → OneStep acts w e → ((r : ℕ) → 2 ≤ r → r < 12 → has (mask_at p) r ≡ false → KeptAt r m1 e) → KeptAt 15 m1 e
        → e ≡ ending_there e (where_of m1) → From (action_of i.op) i.target e → Kept n
    by_ending w (Comes k) acts done one kept whole at from =
        let k_is = same_place k (where_of m1) at in
        subst Kept (some_acts (one.0, k) (o, n) (sym one.2 ∙ done))
        (moved_to k (p + 1) whole.items whole.frames (ap (λ (x : State). x.place) k_is) (g.onward p i stands from) (λ r low high e. (kept r low high e).register))
    by_ending w (Goes l k) acts done one kept whole at from =
        let k_is = same_goes l k (where_of m1) at in
        let target : label_place k.items l ≡ label_place m.items l = ap (λ (x : List CodeItem). label_place x l) whole.items in
        subst Kept (some_acts (None, record k { place = label_place k.items l }) (o, n) (sym one.1 ∙ done))
        (moved_to (record k { place = label_place k.items l }) (label_place m.items l) whole.items whole.frames target (g.branch p i l stands from.0 from.1)
        (λ r low high e. (kept r low high e).register))
    by_ending w (Calls name count k rest) acts done one kept whole at from =
        let k_is = same_calls name count k rest (where_of m1) at in
        let place_is : k.place ≡ p + 1 = ap (λ (x : State). x.place) k_is in
        let x : Makes k n (Some k.place) =
        called_makes k n count (label_place k.items name) (Some k.place) (silent_is (called k count (label_place k.items name) (Some k.place)) o n (sym one.2 ∙ done)) in
        let entry : mask_at (next_item m.items (x.entry + 1)) ≡ x.mask = g.entry x.entry x.mask (ap (λ (l : List CodeItem). slice_get l x.entry) (sym whole.items) ∙ x.there) in
        record {
          items = x.items ∙ whole.items;
          intact = inner m.frames n.frames x.f n.place (p + 1) n.registers (x.frames ∙ ap (λ (fs : List Frame). fs ++ x.f ∷ []) whole.frames) (x.back_is ∙ ap (λ (q : ℕ). Some q) place_is)
              (record { mask = ap (λ (q : ℕ). mask_at (next_item m.items q)) x.place ∙ entry ∙ sym x.mask_is; kept = λ r low high e. x.registers r (omega (arith, low)) high })
              (intact_moved m.items mask_at m.frames m.place (p + 1) m.registers x.f.saved a (g.onward p i stands from)
              (λ r low high e. x.saved r (omega (arith, low)) high ∙ (kept r low high e).register));
        }
    by_ending w (Returns k) acts done one kept whole at from =
        let l = last_intact m.items mask_at m.frames m.place m.registers a in
        let b = returned_backs k n o l.outer l.f (whole.frames ∙ l.frames_are) (sym one.1 ∙ done) in
        record {
          items = b.items ∙ whole.items;
          intact = subst (λ (x : ℕ). AreIntact m.items mask_at n.frames x n.registers) (sym b.at)
              (subst (λ (fs : List Frame). AreIntact m.items mask_at fs b.place n.registers) (sym b.frames)
              (intact_moved m.items mask_at l.outer b.place b.place l.f.saved n.registers (l.others b.place b.back) refl
              (λ r low high e. b.registers r high ∙ restored_all m.items mask_at k l.f m.place m.registers l.last r low high
              (λ f. (kept r low high (ap (λ (x : ℕ). has x r) l.last.mask ∙ f)).register))));
        }
    by_ending w (Stops x) acts done one kept whole at from = absurd (err_ok _ _ (sym one.1 ∙ done))

    placed : (performed i m1).ending ≡ ending_there (performed i m1).ending (where_of m1)
    placed = ap (λ (c : Course). c.ending) (performed_there (where_of m1) i m1)

    step_keeps : instruction m1 i.op i.operands i.target ≡ Ok (o, n) → Kept n
    step_keeps done =
        by_ending (performed i m1).written (performed i m1).ending (instruction m1 i.op i.operands i.target) done (one_performed i m1)
        (λ r low high e. register_kept r (omega (arith, low)) high i m1 (g.named p i r stands low high e)) (frames_kept i m1) placed (from_performed i m1)

  by_item : (x : Option CodeItem) (o : Option ℕ) (n : State) → slice_get m.items p ≡ x → at_item x p m ≡ Ok (o, n) → Kept n
  by_item (Some (item_kind.Instr i)) o n stands done = step_keeps i stands o n done
  by_item _ o n stands done = absurd (err_ok _ _ done)

  act_keeps : (o : Option ℕ) (n : State) → act m ≡ Ok (o, n) → Kept n
  unfolding act
  act_keeps o n done = by_item (slice_get m.items p) o n refl done

goes_act : (m n : State) (o : Option Stop) (r : Acts) → act m ≡ r → next_where o m ≡ GoesOn n → act m ≡ Ok (None, n)
goes_act m n (Some e) r is h = absurd cc
goes_act m n None (Ok (None, k)) is h = is ∙ ap (λ (x : State). Ok (None, x)) (goes_same k n (sym (ap next_of is) ∙ h))
  where
    goes_same : (k n : State) → GoesOn k ≡ GoesOn n → k ≡ n
    goes_same k n e = cc
goes_act m n None (Ok (Some b, k)) is h = absurd (no_goes b k n (sym (ap next_of is) ∙ h))
  where
    no_goes : (b : ℕ) (k n : State) → Writes b k ≡ GoesOn n → ⊥
    no_goes b k n e = cc
goes_act m n None (Err e) is h = absurd (no_goes e n (sym (ap next_of is) ∙ h))
  where
    no_goes : (e : Stop) (n : State) → StopsAt e ≡ GoesOn n → ⊥
    no_goes e n h = cc

writes_act : (m n : State) (b : ℕ) (o : Option Stop) (r : Acts) → act m ≡ r → next_where o m ≡ Writes b n → (c : Option ℕ) × (act m ≡ Ok (c, n))
writes_act m n b (Some e) r is h = absurd cc
writes_act m n b None (Ok (None, k)) is h = absurd (no_goes k n (sym (ap next_of is) ∙ h))
  where
    no_goes : (k n : State) → GoesOn k ≡ Writes b n → ⊥
    no_goes k n e = cc
writes_act m n b None (Ok (Some c, k)) is h = (Some c, is ∙ ap (λ (x : State). Ok (Some c, x)) (writes_same c k n (sym (ap next_of is) ∙ h)))
  where
    writes_same : (c : ℕ) (k n : State) → Writes c k ≡ Writes b n → k ≡ n
    writes_same c k n e = cc
writes_act m n b None (Err e) is h = absurd (no_goes e n (sym (ap next_of is) ∙ h))
  where
    no_goes : (e : Stop) (n : State) → StopsAt e ≡ Writes b n → ⊥
    no_goes e n h = cc

pub steps_keep : StepsKeep
steps_keep code mask_at g m n k =
    let g' = subst (λ (x : List CodeItem). IsGuarded x mask_at) (sym k.items) g in
    let a = subst (λ (x : List CodeItem). AreIntact x mask_at m.frames m.place m.registers) (sym k.items) k.intact in
    let back : KeepsRegisters m.items mask_at n → KeepsRegisters code mask_at n = λ h. subst (λ (x : List CodeItem). KeepsRegisters x mask_at n) k.items h in (
      λ e. back (act_keeps mask_at m g' a None n (goes_act m n m.over (act m) refl e)),
      λ b e. let w = writes_act m n b m.over (act m) refl e in back (act_keeps mask_at m g' a w.0 n w.1),
    )

pub calls_save : CallsSave
calls_save m n count place back done = let x : Makes m n back = called_makes m n count place back done in record { f = x.f; frames = x.frames; saved = x.saved }

pub runs_begin_intact : RunsBeginIntact
runs_begin_intact c input mask_at n g done =
    let x : Makes (blank c input) n None = called_makes (blank c input) n 0 (label_place c.items main_name) None done in
    record {
      items = x.items;
      intact = subst (λ (fs : List Frame). AreIntact c.items mask_at fs n.place n.registers) (sym x.frames)
          (outermost x.f n.place n.registers x.back_is
          (record {
            mask = ap (λ (p : ℕ). mask_at (next_item c.items p)) x.place ∙ g.entry x.entry x.mask x.there ∙ sym x.mask_is;
            kept = λ r low high e. x.registers r
                (omega (arith, low)) high;
          }));
    }
