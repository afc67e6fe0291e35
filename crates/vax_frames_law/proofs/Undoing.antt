-- What a call notes in its frame is what its return gives back.
use Rattle.std.proofs.Common.{◌≡◌, ℕ, zero, suc, ◌+◌, ◌-◌, ◌*◌, ◌%◌, ◌^◌, ◌<◌, Bool, true, false, cond, List, [], ◌∷◌, ◌++◌, length, Option, Some, None, Result, Ok, Err, refl, sym}
use Rattle.std.proofs.Common.{ap, subst, ◌∙◌, arith, length-set, get_or-set_same, get_or-set_other}
use Rattle.std.specs.Prelude.{slice_get, slice_index, slice_set, nat_lt, nat_le, ◌==◌}
use Rattle.std.specs.Int.RustNames.{count_ones}
use Rattle.gg_base.specs.declared.size.Size.TheVariants.{Byte, Long}
use Rattle.gg_base.specs.Arithmetic.{add32, sub32, mul32}
use Rattle.gg_base.proofs.Facts.{err_ok, ok_same}
use Rattle.vax_core.specs.declared.register.Reg.TheVariants.{Ap, Fp, Sp}
use Rattle.vax_machine_live.specs.declared.frame.Frame.{Frame}
use Rattle.vax_machine.specs.declared.turn.Stop.{Stop}
use Rattle.vax_machine.specs.declared.memory.Region.{Region}
use Rattle.vax_machine.specs.declared.memory.Region.TheVariants as regions
use Rattle.vax_machine.specs.State.{State, reg, with_reg, cleared, frame, bad_code, stack_full, ◌>>=◌}
use Rattle.vax_machine.specs.Memory.{touched, read, written, register_set, with_number_at}
use Rattle.vax_machine.specs.Labels.{next_item}
use Rattle.vax_machine.specs.Calls.{pushed, reserved, all_reserved, entry_mask, entered, framed, called, back_to, left, returned}
use Rattle.vax_frames_law.specs.Undoing.{Notes, CallsNote, ReturnsUndo}
use Rattle.vax_frames_law.proofs.Returning.{innermost_of, some_acts}

-- all registers but sp are the same, and the live frames
record Lowered (m n : State) : Type 0 where
  register : (r : ℕ) → (r ≡ 14 → ⊥) → slice_index n.registers r ≡ slice_index m.registers r
  number : length n.registers ≡ length m.registers
  frames : n.frames ≡ m.frames

stays : (m : State) → Lowered m m
stays m = record { register = λ r ne. refl; number = refl; frames = refl }

joined : (m n k : State) → Lowered m n → Lowered n k → Lowered m k
joined m n k h g = record { register = λ r ne. g.register r ne ∙ h.register r ne; number = g.number ∙ h.number; frames = g.frames ∙ h.frames }

abbrev After : State → Result State Stop → Type 0
After m (Ok n) = Lowered m n
After m (Err e) = Unit {0}

set_lowered : (m : State) (v : ℕ) → Lowered m (with_reg m Sp v)
set_lowered m v = record { register = λ r ne. get_or-set_other m.registers 14 r v 0 (λ e. ne e); number = length-set m.registers 14 v; frames = refl }

set_after : (m : State) (v : ℕ) → After m (register_set m Sp v)
unfolding register_set
set_after m v = by (nat_lt v 2139095040)
  where
    by : (b : Bool) → After m (cond b (Err stack_full) (Ok (with_reg m Sp v)))
    by true = tt
    by false = set_lowered m v

join_after : (m n : State) (t : Result State Stop) → Lowered m n → After n t → After m t
join_after m n (Ok k) h g = joined m n k h g
join_after m n (Err e) h g = tt

then_after : (m : State) (t : Result State Stop) (f : State → Result State Stop) → After m t → ((n : State) → After n (f n)) → After m (t >>= f)
then_after m (Ok n) f h g = join_after m n (f n) h (g n)
then_after m (Err e) f h g = tt

touched_after : (n : State) (t : Result Region Stop) → After n (t >>= λ (x : Region). Ok n)
touched_after n (Ok x) = stays n
touched_after n (Err e) = tt

reserved_after : (m : State) → After m (reserved m)
unfolding reserved
reserved_after m =
    then_after m (register_set m Sp (sub32 (reg m Sp) 4)) (λ n. touched n (sub32 (reg m Sp) 4) Long >>= λ (x : Region). Ok n) (set_after m (sub32 (reg m Sp) 4))
    (λ n. touched_after n (touched n (sub32 (reg m Sp) 4) Long))

room_after : (k : ℕ) (m : State) → After m (all_reserved k m)
room_after zero m = stays m
room_after (suc k) m = then_after m (reserved m) (λ n. all_reserved k n) (reserved_after m) (λ n. room_after k n)

-- ---- a push

abbrev Keeps : State → Result State Stop → Type 0
Keeps m (Ok n) = (n.registers ≡ m.registers) × (n.frames ≡ m.frames)
Keeps m (Err e) = Unit {0}

written_keeps : (m : State) (a v : ℕ) → Keeps m (written m a Long v)
unfolding written
written_keeps m a v = by (touched m a Long)
  where
    by : (t : Result Region Stop) → Keeps m (t >>= λ (x : Region). Ok (with_number_at m Long v x))
    by (Ok (regions.Area at)) = (refl, refl)
    by (Ok (regions.Stack at)) = (refl, refl)
    by (Err e) = tt

abbrev PushedTo : State → Result State Stop → Type 0
PushedTo m (Ok n) = Lowered m n × (reg n Sp ≡ sub32 (reg m Sp) 4)
PushedTo m (Err e) = Unit {0}

kept_push : (m : State) (sp : ℕ) → sp ≡ sub32 (reg m Sp) 4 → length m.registers ≡ 15 → (t : Result State Stop) → Keeps (with_reg m Sp sp) t → PushedTo m t
kept_push m sp e size (Ok n) h =
    let low = set_lowered m sp in (
      record {
        register = λ r ne. ap (λ (l : List ℕ). slice_index l r) h.0 ∙ low.register r ne;
        number = ap length h.0 ∙ low.number;
        frames = h.1;
      },
      ap (λ (l : List ℕ). slice_index l 14) h.0 ∙ get_or-set_same m.registers 14 sp 0 (omega (arith, size)) ∙ e,
    )
kept_push m sp e size (Err x) h = tt

pushed_to : (m : State) (v : ℕ) → length m.registers ≡ 15 → PushedTo m (pushed m v)
unfolding pushed register_set
pushed_to m v size = by (nat_lt (sub32 (reg m Sp) 4) 2139095040)
  where
    by : (b : Bool) → PushedTo m (cond b (Err stack_full) (Ok (with_reg m Sp (sub32 (reg m Sp) 4))) >>= λ (n : State). written n (sub32 (reg m Sp) 4) Long v)
    by true = tt
    by false =
        let n = with_reg m Sp (sub32 (reg m Sp) 4) in
        kept_push m (sub32 (reg m Sp) 4) refl size (written n (sub32 (reg m Sp) 4) Long v) (written_keeps n (sub32 (reg m Sp) 4) v)

-- ---- a call

entered_notes : (m k n : State) (at top mask behind : ℕ) (back : Option ℕ) → Lowered m k → length m.registers ≡ 15 → at ≡ sub32 (reg m Sp) 4 → entered k at top mask behind back ≡ Ok n → Notes m n back
entered_notes m k n at top mask behind back low size is done = by (nat_le 4096 (length k.frames)) done
  where
    made : State
    made = record k {
      frames = k.frames ++ record { fp = reg k Sp; top = top; ap = at; mask = mask; saved = k.registers; back = back } ∷ [];
      registers = slice_set (slice_set k.registers 13 (reg k Sp)) 12 at;
      conditions = cleared;
      place = behind;
    }

    first : length (slice_set k.registers 13 (reg k Sp)) ≡ length k.registers
    first = length-set k.registers 13 (reg k Sp)

    notes : (x : State) → made ≡ x → Notes m x back
    notes x e = subst (λ (y : State). Notes m y back) e (record {
      f = record { fp = reg k Sp; top = top; ap = at; mask = mask; saved = k.registers; back = back };
      frames = ap (λ (fs : List Frame). fs ++ record { fp = reg k Sp; top = top; ap = at; mask = mask; saved = k.registers; back = back } ∷ []) low.frames;
      number = is;
      old_fp = low.register 13 (λ q. omega (arith, q));
      old_ap = low.register 12 (λ q. omega (arith, q));
      back_is = refl;
      fp = get_or-set_other (slice_set k.registers 13 (reg k Sp)) 12 13 at 0 (λ q. omega (arith, q)) ∙ get_or-set_same k.registers 13 (reg k Sp) 0 (omega (arith, low.number, size));
      ap = get_or-set_same (slice_set k.registers 13 (reg k Sp)) 12 at 0 (omega (arith, low.number, size, first));
    })

    by : (b : Bool) → cond b (Err stack_full) (Ok made) ≡ Ok n → Notes m n back
    by true e = absurd (err_ok stack_full n e)
    by false e = notes n (ok_same made n e)

room_notes : (m : State) (t : Result State Stop) (n : State) (at top mask behind : ℕ) (back : Option ℕ) → After m t → length m.registers ≡ 15 → at ≡ sub32 (reg m Sp) 4
    → (t >>= λ (x : State). entered x at top mask behind back) ≡ Ok n → Notes m n back
room_notes m (Ok k) n at top mask behind back low size is done = entered_notes m k n at top mask behind back low size is done
room_notes m (Err e) n at top mask behind back low size is done = absurd (err_ok e n done)

framed_notes : (m k n : State) (at entry : ℕ) (back mask : Option ℕ) → Lowered m k → length m.registers ≡ 15 → at ≡ sub32 (reg m Sp) 4 → framed k at mask entry back ≡ Ok n → Notes m n back
framed_notes m k n at entry back None low size is done = absurd (err_ok bad_code n done)
framed_notes m k n at entry back (Some mask) low size is done = by (register_set k Sp (at - at % 4)) (set_after k (at - at % 4)) done
  where
    by : (t : Result State Stop) → After k t → (t >>= λ (x : State). all_reserved (count_ones mask + 5) x >>= λ (y : State). entered y at (at - at % 4) mask (entry + 1) back) ≡ Ok n → Notes m n back
    by (Ok x) g done =
        room_notes m (all_reserved (count_ones mask + 5) x) n at (at - at % 4) mask (entry + 1) back
        (join_after m x (all_reserved (count_ones mask + 5) x) (joined m k x low g) (room_after (count_ones mask + 5) x)) size is done
    by (Err e) g done = absurd (err_ok e n done)

pub calls_note : CallsNote
unfolding called
calls_note m n count place back size done = by (pushed m count) (pushed_to m count size) done
  where
    by : (t : Result State Stop) → PushedTo m t → (t >>= λ (k : State). framed k (reg k Sp) (entry_mask (slice_get k.items (next_item k.items place))) (next_item k.items place) back) ≡ Ok n
        → Notes m n back
    by (Ok k) h done = framed_notes m k n (reg k Sp) (next_item k.items place) back (entry_mask (slice_get k.items (next_item k.items place))) h.0 size h.1 done
    by (Err e) h done = absurd (err_ok e n done)

-- ---- a return

record Pops (r : State) (outer : List Frame) (f : Frame) (count : ℕ) : Type 0 where
  frames : r.frames ≡ outer
  fp : reg r Fp ≡ slice_index f.saved 13
  ap : reg r Ap ≡ slice_index f.saved 12
  sp : reg r Sp ≡ add32 f.ap (add32 4 (mul32 4 count))
  back : f.back ≡ Some r.place

returned_pops : (q r : State) (o : Option ℕ) (outer : List Frame) (f : Frame) (count : ℕ) → q.frames ≡ outer ++ f ∷ [] → read (record q { frames = outer }) f.ap Byte ≡ Ok count
    → returned q ≡ Ok (o, r) → Pops r outer f count
unfolding returned
returned_pops q r o outer f count eq found done = by_fp (reg q Fp == f.fp) (sym (innermost_of q q.frames outer f eq) ∙ done)
  where
    by_back : (b : Option ℕ) → f.back ≡ b → back_to (left (record q { frames = outer }) f count) b ≡ Ok (o, r) → Pops r outer f count
    by_back None is e = absurd (err_ok _ _ e)
    by_back (Some place) is e =
        let x : record (left (record q { frames = outer }) f count) { place = place } ≡ r = some_acts (None, record (left (record q { frames = outer }) f count) { place = place }) (o, r) e in
        subst (λ (y : State). Pops y outer f count) x (record { frames = refl; fp = refl; ap = refl; sp = refl; back = is })

    by_fp : (b : Bool) → cond b (read (record q { frames = outer }) f.ap Byte >>= λ (k : ℕ). back_to (left (record q { frames = outer }) f k) f.back) (Err frame) ≡ Ok (o, r) → Pops r outer f count
    by_fp true e = by_back f.back refl (ap (λ (t : Result ℕ Stop). t >>= λ (k : ℕ). back_to (left (record q { frames = outer }) f k) f.back) (sym found) ∙ e)
    by_fp false e = absurd (err_ok _ _ e)

popped_to : (sp count : ℕ) → sp < 2 ^ 32 → count < 256 → add32 (sub32 sp 4) (add32 4 (mul32 4 count)) ≡ add32 sp (4 * count)
popped_to sp count low few = omega (arith, low, few)

pub returns_undo : ReturnsUndo
returns_undo m n q r count place back o size low few did same found done =
    let c : Notes m n back = calls_note m n count place back size did in
    let there : read (record q { frames = m.frames }) c.f.ap Byte ≡ Ok count = ap (λ (a : ℕ). read (record q { frames = m.frames }) a Byte) c.number ∙ found in
    let p : Pops r m.frames c.f count = returned_pops q r o m.frames c.f count (same ∙ c.frames) there done in
    record {
      frames = p.frames;
      fp = p.fp ∙ c.old_fp;
      ap = p.ap ∙ c.old_ap;
      sp = p.sp ∙ ap (λ (a : ℕ). add32 a (add32 4 (mul32 4 count))) c.number ∙ popped_to (reg m Sp) count low few;
      goes_on = sym c.back_is ∙ p.back;
    }
