-- What calls and returns make of the live frames.
use Rattle.std.proofs.Common.{◌≡◌, ℕ, zero, suc, ◌+◌, ◌-◌, ◌%◌, Bool, true, false, cond, List, [], ◌∷◌, ◌++◌, length, Option, Some, None, Result, Ok, Err, refl, sym, ap}
use Rattle.std.proofs.Common.{subst, ◌∙◌, take, ◌⊎◌, inl, inr, ⊎_elim, arith}
use Rattle.std.specs.Prelude.{slice_get, nat_lt, nat_le, ◌==◌, slice_set}
use Rattle.std.specs.Int.RustNames.{count_ones}
use Rattle.std.proofs.lemmas.List.{length_push}
use Rattle.gg_base.specs.declared.size.Size.TheVariants.{Byte, Long}
use Rattle.gg_base.specs.Arithmetic.{sub32}
use Rattle.gg_base.proofs.Facts.{err_ok, ok_same, take_front, slice_last}
use Rattle.vax_core.specs.declared.register.Reg.TheVariants.{Fp, Sp}
use Rattle.vax_machine_live.specs.declared.frame.Frame.{Frame}
use Rattle.vax_machine.specs.declared.turn.Stop.{Stop}
use Rattle.vax_machine.specs.declared.memory.Region.{Region}
use Rattle.vax_machine.specs.declared.memory.Region.TheVariants as regions
use Rattle.vax_machine.specs.State.{State, reg, with_reg, cleared, frame, bad_code, stack_full, ◌>>=◌}
use Rattle.vax_machine.specs.Memory.{touched, read, written, register_set, with_number_at}
use Rattle.vax_machine.specs.Labels.{next_item}
use Rattle.vax_machine.specs.Calls.{Acts, pushed, reserved, all_reserved, entry_mask, entered, framed, called, back_to, left, returned_from, returned}

-- ---- what changes neither the live frames nor the code

abbrev Kept : State → State → Type 0
Kept m n = (n.frames ≡ m.frames) × (n.items ≡ m.items)

abbrev After : State → Result State Stop → Type 0
After m (Ok n) = Kept m n
After m (Err e) = Unit {0}

set_after : (m : State) (v : ℕ) → After m (register_set m Sp v)
unfolding register_set
set_after m v = by (nat_lt v 2139095040)
  where
    by : (b : Bool) → After m (cond b (Err stack_full) (Ok (with_reg m Sp v)))
    by true = tt
    by false = (refl, refl)

written_after : (m : State) (a v : ℕ) → After m (written m a Long v)
unfolding written
written_after m a v = by (touched m a Long)
  where
    by : (t : Result Region Stop) → After m (t >>= λ (x : Region). Ok (with_number_at m Long v x))
    by (Ok (regions.Area at)) = (refl, refl)
    by (Ok (regions.Stack at)) = (refl, refl)
    by (Err e) = tt

join_after : (m n : State) (t : Result State Stop) → Kept m n → After n t → After m t
join_after m n (Ok k) h g = (g.0 ∙ h.0, g.1 ∙ h.1)
join_after m n (Err e) h g = tt

then_after : (m : State) (t : Result State Stop) (f : State → Result State Stop) → After m t → ((n : State) → After n (f n)) → After m (t >>= f)
then_after m (Ok n) f h g = join_after m n (f n) h (g n)
then_after m (Err e) f h g = tt

pushed_after : (m : State) (v : ℕ) → After m (pushed m v)
unfolding pushed
pushed_after m v =
    then_after m (register_set m Sp (sub32 (reg m Sp) 4)) (λ n. written n (sub32 (reg m Sp) 4) Long v) (set_after m (sub32 (reg m Sp) 4))
    (λ n. written_after n (sub32 (reg m Sp) 4) v)

touched_after : (n : State) (t : Result Region Stop) → After n (t >>= λ (x : Region). Ok n)
touched_after n (Ok x) = (refl, refl)
touched_after n (Err e) = tt

reserved_after : (m : State) → After m (reserved m)
unfolding reserved
reserved_after m =
    then_after m (register_set m Sp (sub32 (reg m Sp) 4)) (λ n. touched n (sub32 (reg m Sp) 4) Long >>= λ (x : Region). Ok n) (set_after m (sub32 (reg m Sp) 4))
    (λ n. touched_after n (touched n (sub32 (reg m Sp) 4) Long))

room_after : (k : ℕ) (m : State) → After m (all_reserved k m)
room_after zero m = (refl, refl)
room_after (suc k) m = then_after m (reserved m) (λ n. all_reserved k n) (reserved_after m) (λ n. room_after k n)

-- ---- a call

-- one frame more is live, which notes where to go on
pub record Enters (m n : State) (back : Option ℕ) : Type 0 where
  pub f : Frame
  pub frames : n.frames ≡ m.frames ++ f ∷ []
  pub back_is : f.back ≡ back
  pub items : n.items ≡ m.items

entered_enters : (m k n : State) (at top mask behind : ℕ) (back : Option ℕ) → Kept m k → entered k at top mask behind back ≡ Ok n → Enters m n back
entered_enters m k n at top mask behind back h done = by (nat_le 4096 (length k.frames)) done
  where
    made : State
    made = record k {
      frames = k.frames ++ record { fp = reg k Sp; top = top; ap = at; mask = mask; saved = k.registers; back = back } ∷ [];
      registers = slice_set (slice_set k.registers 13 (reg k Sp)) 12 at;
      conditions = cleared;
      place = behind;
    }

    enters : (x : State) → made ≡ x → Enters m x back
    enters x e = subst (λ (y : State). Enters m y back) e (record {
      f = record { fp = reg k Sp; top = top; ap = at; mask = mask; saved = k.registers; back = back };
      frames = ap (λ (fs : List Frame). fs ++ record { fp = reg k Sp; top = top; ap = at; mask = mask; saved = k.registers; back = back } ∷ []) h.0;
      back_is = refl;
      items = h.1;
    })

    by : (b : Bool) → cond b (Err stack_full) (Ok made) ≡ Ok n → Enters m n back
    by true e = absurd (err_ok stack_full n e)
    by false e = enters n (ok_same made n e)

room_enters : (m : State) (t : Result State Stop) (n : State) (at top mask behind : ℕ) (back : Option ℕ) → After m t
    → (t >>= λ (x : State). entered x at top mask behind back) ≡ Ok n → Enters m n back
room_enters m (Ok k) n at top mask behind back h done = entered_enters m k n at top mask behind back h done
room_enters m (Err e) n at top mask behind back h done = absurd (err_ok e n done)

framed_enters : (m k n : State) (at entry : ℕ) (back mask : Option ℕ) → Kept m k → framed k at mask entry back ≡ Ok n → Enters m n back
framed_enters m k n at entry back None h done = absurd (err_ok bad_code n done)
framed_enters m k n at entry back (Some mask) h done = by (register_set k Sp (at - at % 4)) (set_after k (at - at % 4)) done
  where
    by : (t : Result State Stop) → After k t → (t >>= λ (x : State). all_reserved (count_ones mask + 5) x >>= λ (y : State). entered y at (at - at % 4) mask (entry + 1) back) ≡ Ok n
        → Enters m n back
    by (Ok x) g done =
        room_enters m (all_reserved (count_ones mask + 5) x) n at (at - at % 4) mask (entry + 1) back
        (join_after m x (all_reserved (count_ones mask + 5) x) (g.0 ∙ h.0, g.1 ∙ h.1) (room_after (count_ones mask + 5) x)) done
    by (Err e) g done = absurd (err_ok e n done)

pub called_enters : (m n : State) (count place : ℕ) (back : Option ℕ) → called m count place back ≡ Ok n → Enters m n back
unfolding called
called_enters m n count place back done = by (pushed m count) (pushed_after m count) done
  where
    by : (t : Result State Stop) → After m t → (t >>= λ (k : State). framed k (reg k Sp) (entry_mask (slice_get k.items (next_item k.items place))) (next_item k.items place) back) ≡ Ok n
        → Enters m n back
    by (Ok k) h done = framed_enters m k n (reg k Sp) (next_item k.items place) back (entry_mask (slice_get k.items (next_item k.items place))) h done
    by (Err e) h done = absurd (err_ok e n done)

-- ---- a return

-- the innermost frame is no longer live, and the run goes on where it notes
pub record Leaves (m n : State) : Type 0 where
  pub f : Frame
  pub frames : m.frames ≡ n.frames ++ f ∷ []
  pub back_is : f.back ≡ Some n.place
  pub items : n.items ≡ m.items

-- the last of some frames, and those before it
record Last (fs : List Frame) : Type 0 where
  outer : List Frame
  f : Frame
  is : fs ≡ outer ++ f ∷ []

last_of : (fs : List Frame) → (fs ≡ []) ⊎ Last fs
last_of [] = inl refl
last_of (g ∷ fs) = inr (⊎_elim
    (λ none. record { outer = []; f = g; is = ap (λ (l : List Frame). g ∷ l) none })
    (λ (l : Last fs). record { outer = g ∷ l.outer; f = l.f; is = ap (λ (l : List Frame). g ∷ l) l.is })
    (last_of fs))

acts_same : (x y : Option ℕ × State) → ◌≡◌ {A = Acts} (Ok x) (Ok y) → x.1 ≡ y.1
acts_same x y e = cc

innermost : (m : State) (all outer : List Frame) (f : Frame) → all ≡ outer ++ f ∷ []
    → returned_from m (take (length all - 1) all) (slice_get all (length all - 1)) ≡ returned_from m outer (Some f)
innermost m all outer f e =
    let n : length (outer ++ f ∷ []) - 1 ≡ length outer = omega (arith, length_push outer f) in
    ap (λ (fs : List Frame). returned_from m (take (length fs - 1) fs) (slice_get fs (length fs - 1))) e
    ∙ ap (λ (fs : List Frame). returned_from m fs (slice_get (outer ++ f ∷ []) (length (outer ++ f ∷ []) - 1))) (take_front outer f)
    ∙ ap (λ (i : ℕ). returned_from m outer (slice_get (outer ++ f ∷ []) i)) n
    ∙ ap (λ (o : Option Frame). returned_from m outer o) (slice_last outer f)

module _ (m n : State) (o : Option ℕ) where
  from_last : (outer : List Frame) (f : Frame) → m.frames ≡ outer ++ f ∷ [] → returned_from m outer (Some f) ≡ Ok (o, n) → Leaves m n
  from_last outer f eq done = by_fp (reg m Fp == f.fp) done
    where
      by_back : (b : Option ℕ) (count : ℕ) → f.back ≡ b → back_to (left (record m { frames = outer }) f count) b ≡ Ok (o, n) → Leaves m n
      by_back None count is e = absurd (err_ok _ _ e)
      by_back (Some place) count is e =
          let x : record (left (record m { frames = outer }) f count) { place = place } ≡ n =
          acts_same (None, record (left (record m { frames = outer }) f count) { place = place }) (o, n) e in
          subst (λ (y : State). Leaves m y) x (record { f = f; frames = eq; back_is = is; items = refl })

      by_read : (t : Result ℕ Stop) → (t >>= λ (count : ℕ). back_to (left (record m { frames = outer }) f count) f.back) ≡ Ok (o, n) → Leaves m n
      by_read (Ok count) e = by_back f.back count refl e
      by_read (Err x) e = absurd (err_ok _ _ e)

      by_fp : (b : Bool) → cond b (read (record m { frames = outer }) f.ap Byte >>= λ (count : ℕ). back_to (left (record m { frames = outer }) f count) f.back) (Err frame) ≡ Ok (o, n)
          → Leaves m n
      by_fp true e = by_read (read (record m { frames = outer }) f.ap Byte) e
      by_fp false e = absurd (err_ok _ _ e)

  pub returned_leaves : returned m ≡ Ok (o, n) → Leaves m n
  unfolding returned
  returned_leaves done =
      ⊎_elim
      (λ none. absurd (err_ok _ _ (sym (ap (λ (fs : List Frame). returned_from m (take (length fs - 1) fs) (slice_get fs (length fs - 1))) none) ∙ done)))
      (λ (l : Last m.frames). from_last l.outer l.f l.is (sym (innermost m m.frames l.outer l.f l.is) ∙ done))
      (last_of m.frames)
