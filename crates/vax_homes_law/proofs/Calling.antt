-- Calls and returns from a state beside another.
use Rattle.std.proofs.Common.{◌≡◌, ◌⊎◌, inl, inr, ⊎_elim, ℕ, zero, suc, ◌+◌, ◌-◌, ◌%◌, ◌≤◌, Bool, true, false, cond, List, length, take, Option, Some, None, Result, Ok, Err, refl, sym}
use Rattle.std.proofs.Common.{ap, subst, ◌∙◌, arith}
use Rattle.std.specs.Prelude.{slice_get, ◌&&◌, ◌==◌, nat_lt, nat_le}
use Rattle.std.specs.Int.RustNames.{count_ones}
use Rattle.std.proofs.lemmas.Bool.{cases_lt}
use Rattle.gg_base.specs.declared.size.Size.{Size}
use Rattle.gg_base.specs.declared.size.Size.TheVariants.{Byte, Long}
use Rattle.gg_base.specs.Arithmetic.{sub32}
use Rattle.gg_base.specs.LittleEndian.{with_number}
use Rattle.vax_confined.specs.vax_core.specs.declared.register.Reg.{Reg}
use Rattle.vax_confined.specs.vax_core.specs.declared.register.Reg.TheVariants.{Fp, Sp}
use Rattle.vax_confined.specs.vax_core.specs.Registers.{reg_number}
use Rattle.vax_confined.specs.vax_machine_live.specs.declared.frame.Frame.{Frame}
use Rattle.vax_confined.specs.vax_machine.specs.declared.turn.Stop.{Stop}
use Rattle.vax_confined.specs.vax_machine.specs.declared.memory.Region.{Region}
use Rattle.vax_confined.specs.vax_machine.specs.declared.memory.Region.TheVariants as regions
use Rattle.vax_confined.specs.vax_machine.specs.State.{State, reg, with_reg, stack_full, frame, ◌>>=◌}
use Rattle.vax_confined.specs.vax_machine.specs.Memory.{touched, read, written, number_at, with_number_at, register_set}
use Rattle.vax_confined.specs.vax_machine.specs.Labels.{next_item}
use Rattle.vax_confined.specs.vax_machine.specs.Calls.{Acts, pushed, reserved, all_reserved, entry_mask, entered, framed, called, back_to, left, returned_from, returned}
use Rattle.vax_confined.specs.vax_machine_lists.proofs.Longwords.{length-with}
use Rattle.vax_homes_law.specs.Calling.{with_stack, SameStacks, CallsStandBeside, ReturnsStandBeside}
use Rattle.vax_homes_law.proofs.Bytes.{with_outside, with_inside}
use Rattle.vax_homes_law.proofs.Memory.{LiesAt, lies}

-- the state behind something that is done
abbrev state_by : State → Result State Stop → State
state_by d (Ok n) = n
state_by d (Err e) = d

state_of : {x y : State} → ◌≡◌ {A = Result State Stop} (Ok x) (Ok y) → x ≡ y
state_of {x} {y} e = ap (state_by x) e

-- what is done from a state beside another is beside what is done from that
abbrev Moved : List ℕ → Result State Stop → Result State Stop
Moved st t = t >>= λ (n : State). Ok (with_stack n st)

touched_beside : (m : State) (st : List ℕ) (a : ℕ) (s : Size) → touched (with_stack m st) a s ≡ touched m a s
unfolding touched
touched_beside m st a s = refl

set_by : (m : State) (st : List ℕ) (r : Reg) (v : ℕ) (b : Bool) → cond b (Err stack_full) (Ok (with_reg (with_stack m st) r v)) ≡ Moved st (cond b (Err stack_full) (Ok (with_reg m r v)))
set_by m st r v true = refl
set_by m st r v false = refl

set_beside : (m : State) (st : List ℕ) (r : Reg) (v : ℕ) → register_set (with_stack m st) r v ≡ Moved st (register_set m r v)
unfolding register_set
set_beside m st r v = set_by m st r v (reg_number r == 14 && nat_lt v 2139095040)

reserve_by : (st : List ℕ) (sp : ℕ) (n : State) (t : Result Region Stop) → (t >>= λ (r : Region). Ok (with_stack n st)) ≡ Moved st (t >>= λ (r : Region). Ok n)
reserve_by st sp n (Ok r) = refl
reserve_by st sp n (Err e) = refl

reserve_from : (st : List ℕ) (sp : ℕ) (t : Result State Stop)
    → (Moved st t >>= λ (n : State). touched n sp Long >>= λ (r : Region). Ok n) ≡ Moved st (t >>= λ (n : State). touched n sp Long >>= λ (r : Region). Ok n)
reserve_from st sp (Ok n) = ap (λ (x : Result Region Stop). x >>= λ (r : Region). Ok (with_stack n st)) (touched_beside n st sp Long) ∙ reserve_by st sp n (touched n sp Long)
reserve_from st sp (Err e) = refl

reserved_beside : (m : State) (st : List ℕ) → reserved (with_stack m st) ≡ Moved st (reserved m)
unfolding reserved
reserved_beside m st =
    let sp = sub32 (reg m Sp) 4 in
    ap (λ (t : Result State Stop). t >>= λ (n : State). touched n sp Long >>= λ (r : Region). Ok n) (set_beside m st Sp sp) ∙ reserve_from st sp (register_set m Sp sp)

all_from : (st : List ℕ) (k : ℕ) → ((m : State) → all_reserved k (with_stack m st) ≡ Moved st (all_reserved k m)) → (t : Result State Stop)
    → (Moved st t >>= λ (n : State). all_reserved k n) ≡ Moved st (t >>= λ (n : State). all_reserved k n)
all_from st k rest (Ok n) = rest n
all_from st k rest (Err e) = refl

all_beside : (st : List ℕ) (k : ℕ) (m : State) → all_reserved k (with_stack m st) ≡ Moved st (all_reserved k m)
all_beside st zero m = refl
all_beside st (suc k) m = ap (λ (t : Result State Stop). t >>= λ (n : State). all_reserved k n) (reserved_beside m st) ∙ all_from st k (λ n. all_beside st k n) (reserved m)

entered_by : (m : State) (st : List ℕ) (n : State) (b : Bool) → cond b (Err stack_full) (Ok (with_stack n st)) ≡ Moved st (cond b (Err stack_full) (Ok n))
entered_by m st n true = refl
entered_by m st n false = refl

entered_beside : (m : State) (st : List ℕ) (ap_at top mask behind : ℕ) (back : Option ℕ) → entered (with_stack m st) ap_at top mask behind back ≡ Moved st (entered m ap_at top mask behind back)
entered_beside m st ap_at top mask behind back = entered_by m st _ (nat_le 4096 (length m.frames))

module _ (st : List ℕ) (ap_at mask entry : ℕ) (back : Option ℕ) where
  enter_from : (t : Result State Stop)
      → (Moved st t >>= λ (k : State). entered k ap_at (ap_at - ap_at % 4) mask (entry + 1) back) ≡ Moved st (t >>= λ (k : State). entered k ap_at (ap_at - ap_at % 4) mask (entry + 1) back)
  enter_from (Ok k) = entered_beside k st ap_at (ap_at - ap_at % 4) mask (entry + 1) back
  enter_from (Err e) = refl

  frame_from : (t : Result State Stop)
      → (Moved st t >>= λ (n : State). all_reserved (count_ones mask + 5) n >>= λ (k : State). entered k ap_at (ap_at - ap_at % 4) mask (entry + 1) back)
      ≡ Moved st (t >>= λ (n : State). all_reserved (count_ones mask + 5) n >>= λ (k : State). entered k ap_at (ap_at - ap_at % 4) mask (entry + 1) back)
  frame_from (Ok n) =
      ap (λ (x : Result State Stop). x >>= λ (k : State). entered k ap_at (ap_at - ap_at % 4) mask (entry + 1) back) (all_beside st (count_ones mask + 5) n)
      ∙ enter_from (all_reserved (count_ones mask + 5) n)
  frame_from (Err e) = refl

framed_beside : (m : State) (st : List ℕ) (ap_at : ℕ) (mask : Option ℕ) (entry : ℕ) (back : Option ℕ) → framed (with_stack m st) ap_at mask entry back ≡ Moved st (framed m ap_at mask entry back)
framed_beside m st ap_at None entry back = refl
framed_beside m st ap_at (Some mask) entry back =
    ap (λ (x : Result State Stop). x >>= λ (n : State). all_reserved (count_ones mask + 5) n >>= λ (k : State). entered k ap_at (ap_at - ap_at % 4) mask (entry + 1) back)
    (set_beside m st Sp (ap_at - ap_at % 4))
    ∙ frame_from st ap_at mask entry back (register_set m Sp (ap_at - ap_at % 4))

-- ---- a push

module _ (hidden : ℕ → Type 0) where
  pub record PutBeside (n : State) (other : Result State Stop) : Type 0 where
    pub behind : List ℕ
    pub does : other ≡ Ok (with_stack n behind)
    pub same : SameStacks hidden n.stack behind

  put_same : (old new : List ℕ) (at v : ℕ) → at + 4 ≤ 8388608 → SameStacks hidden old new → SameStacks hidden (with_number Long old at v) (with_number Long new at v)
  put_same old new at v le s =
      let p : at + 4 ≤ length old = omega (arith, le, s.old_size) in
      let q : at + 4 ≤ length new = omega (arith, le, s.new_size) in
      record {
        old_size = length-with old at v p ∙ s.old_size;
        new_size = length-with new at v q ∙ s.new_size;
        same = λ i shown. ⊎_elim
            (λ lt. with_outside Long new at v i q (inl lt) ∙ s.same i shown ∙ sym (with_outside Long old at v i p (inl lt)))
            (λ ge. ⊎_elim (λ lt. with_inside Long new old at v i q p ge lt)
            (λ le. with_outside Long new at v i q (inr le) ∙ s.same i shown ∙ sym (with_outside Long old at v i p (inr le))) (cases_lt i (at + 4)))
            (cases_lt i at);
      }

  write_by : (m n : State) (st : List ℕ) (a v : ℕ) → SameStacks hidden m.stack st → (t : Result Region Stop) → LiesAt m a Long t → (t >>= λ (r : Region). Ok (with_number_at m Long v r)) ≡ Ok n
      → PutBeside n (t >>= λ (r : Region). Ok (with_number_at (with_stack m st) Long v r))
  write_by m n st a v s (Ok (regions.Area at)) l e = subst (λ (x : State). PutBeside x (Ok (with_stack (record m { area = with_number Long m.area at v }) st))) (state_of e)
      (record { behind = st; does = refl; same = s })
  write_by m n st a v s (Ok (regions.Stack at)) l e = subst (λ (x : State). PutBeside x (Ok (with_stack m (with_number Long st at v)))) (state_of e)
      (record { behind = with_number Long st at v; does = refl; same = put_same m.stack st at v l.2 s })
  write_by m n st a v s (Err x) l e = absurd cc

  written_beside : (m n : State) (st : List ℕ) (a v : ℕ) → SameStacks hidden m.stack st → written m a Long v ≡ Ok n → PutBeside n (written (with_stack m st) a Long v)
  unfolding written
  written_beside m n st a v s e =
      subst (λ (t : Result Region Stop). PutBeside n (t >>= λ (r : Region). Ok (with_number_at (with_stack m st) Long v r))) (sym (touched_beside m st a Long))
      (write_by m n st a v s (touched m a Long) (lies m a Long) e)

  push_from : (n : State) (st : List ℕ) (a v : ℕ) (t : Result State Stop) → ((k : State) → t ≡ Ok k → SameStacks hidden k.stack st) → (t >>= λ (k : State). written k a Long v) ≡ Ok n
      → PutBeside n (Moved st t >>= λ (k : State). written k a Long v)
  push_from n st a v (Ok k) s e = written_beside k n st a v (s k refl) e
  push_from n st a v (Err x) s e = absurd cc

  set_stack : (m k : State) (r : Reg) (v : ℕ) → register_set m r v ≡ Ok k → k.stack ≡ m.stack
  unfolding register_set
  set_stack m k r v e = by (reg_number r == 14 && nat_lt v 2139095040) e
    where
      by : (b : Bool) → cond b (Err stack_full) (Ok (with_reg m r v)) ≡ Ok k → k.stack ≡ m.stack
      by true e = absurd cc
      by false e = ap (λ (x : State). x.stack) (sym (state_of e))

  pushed_beside : (m n : State) (st : List ℕ) (v : ℕ) → SameStacks hidden m.stack st → pushed m v ≡ Ok n → PutBeside n (pushed (with_stack m st) v)
  unfolding pushed
  pushed_beside m n st v s e =
      let sp = sub32 (reg m Sp) 4 in
      subst (λ (t : Result State Stop). PutBeside n (t >>= λ (k : State). written k sp Long v)) (sym (set_beside m st Sp sp))
      (push_from n st sp v (register_set m Sp sp) (λ k is. subst (λ (x : List ℕ). SameStacks hidden x st) (sym (set_stack m k Sp sp is)) s) e)

  -- ---- a call

  frame_stack : (st : List ℕ) (n k : State) (t : Result State Stop) → t ≡ Ok n → Moved st t ≡ Ok (with_stack n st)
  frame_stack st n k t e = ap (Moved st) e

  call_from : (n : State) (st : List ℕ) (place : ℕ) (back : Option ℕ) (t other : Result State Stop) → ((k : State) → t ≡ Ok k → PutBeside k other)
      → ((k : State) → framed k (reg k Sp) (entry_mask (slice_get k.items (next_item k.items place))) (next_item k.items place) back ≡ Ok n → n.stack ≡ k.stack)
      → (t >>= λ (k : State). framed k (reg k Sp) (entry_mask (slice_get k.items (next_item k.items place))) (next_item k.items place) back) ≡ Ok n
      → PutBeside n (other >>= λ (k : State). framed k (reg k Sp) (entry_mask (slice_get k.items (next_item k.items place))) (next_item k.items place) back)
  call_from n st place back (Err x) other put keeps e = absurd cc
  call_from n st place back (Ok k) other put keeps e =
      let p = put k refl in
      record {
        behind = p.behind;
        does = ap (λ (t : Result State Stop). t >>= λ (k : State). framed k (reg k Sp) (entry_mask (slice_get k.items (next_item k.items place))) (next_item k.items place) back) p.does
            ∙ framed_beside k p.behind (reg k Sp) (entry_mask (slice_get k.items (next_item k.items place))) (next_item k.items place) back
            ∙ ap (Moved p.behind) e;
        same = subst (λ (x : List ℕ). SameStacks hidden x p.behind) (sym (keeps k e)) p.same;
      }

-- a frame changes no byte of the stack: with the stack that it has, it is beside itself
moved_ok : (st : List ℕ) (t : Result State Stop) (n : State) → t ≡ Moved st t → t ≡ Ok n → n.stack ≡ st
moved_ok st t n is e = ap (λ (x : State). x.stack) (state_of (sym e ∙ is ∙ ap (Moved st) e))

framed_stack : (k n : State) (ap_at : ℕ) (mask : Option ℕ) (entry : ℕ) (back : Option ℕ) → framed k ap_at mask entry back ≡ Ok n → n.stack ≡ k.stack
framed_stack k n ap_at mask entry back e = moved_ok k.stack (framed k ap_at mask entry back) n (framed_beside k k.stack ap_at mask entry back) e

pub calls_stand_beside : CallsStandBeside
unfolding called
calls_stand_beside hidden m n st count place back s e =
    let h : ℕ → Type 0 = λ i. hidden i ≡ true in
    let p = call_from h n st place back (pushed m count) (pushed (with_stack m st) count) (λ k is. pushed_beside h m k st count s is)
    (λ k is. framed_stack k n (reg k Sp) (entry_mask (slice_get k.items (next_item k.items place))) (next_item k.items place) back is) e in
    record { behind = p.behind; does = p.does; same = p.same }

-- ---- a return

module _ (hidden : ℕ → Type 0) (m : State) (st : List ℕ) (s : SameStacks hidden m.stack st) where
  byte_by : (a : ℕ) → (hidden (a - 2139095040) → ⊥) → (t : Result Region Stop) → LiesAt m a Byte t
      → (t >>= λ (r : Region). Ok (number_at (with_stack m st) Byte r)) ≡ (t >>= λ (r : Region). Ok (number_at m Byte r))
  byte_by a shown (Ok (regions.Area at)) l = refl
  byte_by a shown (Ok (regions.Stack at)) l = ap Ok (s.same at (λ hid. shown (subst hidden l.0 hid)))
  byte_by a shown (Err e) l = refl

  byte_same : (a : ℕ) → (hidden (a - 2139095040) → ⊥) → read (with_stack m st) a Byte ≡ read m a Byte
  unfolding read
  byte_same a shown =
      ap (λ (t : Result Region Stop). t >>= λ (r : Region). Ok (number_at (with_stack m st) Byte r)) (touched_beside m st a Byte) ∙ byte_by a shown (touched m a Byte) (lies m a Byte)

-- an act from a state beside another
abbrev MovedActs : List ℕ → Acts → Acts
MovedActs st t = t >>= λ (x : Option ℕ × State). Ok (x.0, with_stack x.1 st)

back_beside : (st : List ℕ) (n : State) (back : Option ℕ) → back_to (with_stack n st) back ≡ MovedActs st (back_to n back)
back_beside st n None = refl
back_beside st n (Some place) = refl

back_from : (st : List ℕ) (m : State) (f : Frame) (t : Result ℕ Stop)
    → (t >>= λ (count : ℕ). back_to (left (with_stack m st) f count) f.back) ≡ MovedActs st (t >>= λ (count : ℕ). back_to (left m f count) f.back)
back_from st m f (Ok count) = back_beside st (left m f count) f.back
back_from st m f (Err e) = refl

return_by : (st : List ℕ) (b : Bool) (x y : Acts) → x ≡ MovedActs st y → cond b x (Err frame) ≡ MovedActs st (cond b y (Err frame))
return_by st true x y e = e
return_by st false x y e = refl

returned_beside : (hidden : ℕ → Type 0) (m : State) (st : List ℕ) (f : Frame) → SameStacks hidden m.stack st → slice_get m.frames (length m.frames - 1) ≡ Some f
    → (hidden (f.ap - 2139095040) → ⊥) → returned (with_stack m st) ≡ MovedActs st (returned m)
unfolding returned
returned_beside hidden m st f s is shown =
    let outer = take (length m.frames - 1) m.frames in
    let m2 = record m { frames = outer } in
    ap (returned_from (with_stack m st) outer) is
    ∙ return_by st (reg m Fp == f.fp) _ _
    (ap (λ (t : Result ℕ Stop). t >>= λ (count : ℕ). back_to (left (with_stack m2 st) f count) f.back) (byte_same hidden m2 st s f.ap shown)
    ∙ back_from st m2 f (read m2 f.ap Byte))
    ∙ ap (λ (o : Option Frame). MovedActs st (returned_from m outer o)) (sym is)

pub returns_stand_beside : ReturnsStandBeside
returns_stand_beside hidden m st f s is shown =
    let e = returned_beside (λ i. hidden i ≡ true) m st f s is shown in
    ((λ n did. e ∙ ap (MovedActs st) did), (λ v did. e ∙ ap (MovedActs st) did))
