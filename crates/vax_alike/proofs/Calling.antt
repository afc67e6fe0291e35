-- Calls and returns: the frames of two codes differ in where their calls come back to.
use Rattle.std.proofs.Common.{◌≡◌, ℕ, ◌+◌, ◌-◌, Bool, true, false, cond, List, [], ◌∷◌, ◌++◌, length, take, Option, Some, None, Result, Ok, Err, refl, sym, ap, subst, ◌∙◌}
use Rattle.std.specs.Prelude.{slice_get, slice_set, nat_le, ◌==◌, ◌%◌}
use Rattle.std.specs.Int.RustNames.{count_ones}
use Rattle.gg_base.specs.declared.size.Size.TheVariants.{Byte}
use Rattle.vax_core.specs.declared.register.Reg.TheVariants.{Fp, Sp}
use Rattle.vax_core.specs.declared.code.CodeItem.{CodeItem}
use Rattle.vax_machine_live.specs.declared.frame.Frame.{Frame}
use Rattle.vax_machine.specs.declared.turn.Stop.{Stop}
use Rattle.vax_machine.specs.declared.function.Conditions.{Conditions}
use Rattle.vax_machine.specs.State.{State, reg, cleared, frame, stack_full, ◌>>=◌}
use Rattle.vax_machine.specs.Memory.{read}
use Rattle.vax_machine.specs.Labels.{next_item}
use Rattle.vax_machine.specs.Calls.{Acts, all_reserved, entry_mask, entered, framed, called, silent, returned_registers, back_to, left, returned_from, returned}
use Rattle.vax_alike.specs.Corresponding.{Standing, Somewhere, EnterAlike}
use Rattle.vax_alike.proofs.Placing.{Where, there, where_of, Moved, read_same, set, pushed_there, all_reserved_there}
use Rattle.vax_alike.proofs.Frames.{IsBackAlike, AreFramesAlike, OneAlike, same_control, same_length, fronts_alike, one_alike, one_more}
use Rattle.vax_alike.proofs.Acting.{codes_same, Stand, Done, stand_with}
use Rattle.vax_alike.proofs.Acting.{v as one_place, w as other_place}

module _ (cs ds : List CodeItem) (At : Standing) (Reads : ℕ → Type 0) where
  abbrev pub DoneState : Result State Stop → Result State Stop → Type 0
  DoneState (Ok m) s = (n : State) × (s ≡ Ok n) × Stand cs ds At Reads m n
  DoneState (Err e) s = s ≡ Err e

  pub silent_done : (r s : Result State Stop) → DoneState r s → Done cs ds At Reads (silent r) (silent s)
  silent_done (Ok m) s h = (h.0, ap silent h.1, h.2)
  silent_done (Err e) s h = ap silent h

  module _ (p q : ℕ) (fs gs : List Frame) (a b : Conditions) (alike : AreFramesAlike At fs gs) where
    abbrev v : Where
    v = one_place cs ds At Reads p q fs gs a b alike

    abbrev w : Where
    w = other_place cs ds At Reads p q fs gs a b alike

    moved_done : (f g : State → Result State Stop) → ((n : State) → where_of n ≡ v → DoneState (f n) (g (there n w))) → (r s : Result State Stop) → Moved v w r s → DoneState (r >>= f) (s >>= g)
    moved_done f g h (Ok n) s m = subst (λ (t : Result State Stop). DoneState (f n) (t >>= g)) (sym m.0) (h n m.1)
    moved_done f g h (Err e) s m = ap (λ (t : Result State Stop). t >>= g) m

    module _ (ap_at top mask behind other : ℕ) (back away : Option ℕ) (near : Somewhere At behind other) (backs : IsBackAlike At back away) where
      entered_by : (n : State) → where_of n ≡ v → (full : Bool) → DoneState
          (cond full (Err stack_full) (Ok (record n {
            frames = n.frames ++ record { fp = reg n Sp; top = top; ap = ap_at; mask = mask; saved = n.registers; back = back } ∷ [];
            registers = slice_set (slice_set n.registers 13 (reg n Sp)) 12 ap_at;
            conditions = cleared;
            place = behind;
          })))
          (cond full (Err stack_full) (Ok (record (there n w) {
            frames = gs ++ record { fp = reg n Sp; top = top; ap = ap_at; mask = mask; saved = n.registers; back = away } ∷ [];
            registers = slice_set (slice_set n.registers 13 (reg n Sp)) 12 ap_at;
            conditions = cleared;
            place = other;
          })))
      entered_by n h true = refl
      entered_by n h false = (
        _,
        refl,
        (
          near.0,
          record {
            at = near.1;
            items = ap (λ (x : Where). x.items) h;
            going = ap (λ (x : Where). x.over) h;
            codes = codes_same _ _;
            frames = one_more At n.frames gs _ _ (subst (λ (x : Where). AreFramesAlike At x.frames gs) (sym h) alike) (record { same = refl; back = backs });
            same = refl;
          },
        ),
      )

      entered_done : (n : State) → where_of n ≡ v → DoneState (entered n ap_at top mask behind back) (entered (there n w) ap_at top mask other away)
      entered_done n h =
          let long : length gs ≡ length n.frames = same_length At fs gs alike ∙ sym (ap (λ (x : Where). length x.frames) h) in
          subst (λ (k : ℕ). DoneState (entered n ap_at top mask behind back) (cond (nat_le 4096 k) (Err stack_full) (Ok (record (there n w) {
            frames = gs ++ record { fp = reg n Sp; top = top; ap = ap_at; mask = mask; saved = n.registers; back = away } ∷ [];
            registers = slice_set (slice_set n.registers 13 (reg n Sp)) 12 ap_at;
            conditions = cleared;
            place = other;
          })))) (sym long) (entered_by n h (nat_le 4096 (length n.frames)))

    framed_done : (n : State) → where_of n ≡ v → (at : ℕ) (o : Option ℕ) (entry other : ℕ) (back away : Option ℕ) → ((mask : ℕ) → o ≡ Some mask → Somewhere At (entry + 1) (other + 1))
        → IsBackAlike At back away → DoneState (framed n at o entry back) (framed (there n w) at o other away)
    framed_done n h at None entry other back away near backs = refl
    framed_done n h at (Some mask) entry other back away near backs =
        moved_done (λ (x : State). all_reserved (count_ones mask + 5) x >>= λ (k : State). entered k at (at - at % 4) mask (entry + 1) back)
        (λ (x : State). all_reserved (count_ones mask + 5) x >>= λ (k : State). entered k at (at - at % 4) mask (other + 1) away)
        (λ x g. moved_done (λ (k : State). entered k at (at - at % 4) mask (entry + 1) back) (λ (k : State). entered k at (at - at % 4) mask (other + 1) away)
        (λ k f. entered_done at (at - at % 4) mask (entry + 1) (other + 1) back away (near mask refl) backs k f)
        _ _ (all_reserved_there v w (same_control At fs gs alike) (count_ones mask + 5) x g))
        _ _ (set v w (same_control At fs gs alike) n h Sp (at - at % 4))

    module _ (place other : ℕ) (enter : EnterAlike cs ds At place other) (back away : Option ℕ) (backs : IsBackAlike At back away) where
      framed_here : (n : State) → where_of n ≡ v → (items : List CodeItem) → items ≡ cs
          → DoneState (framed n (reg n Sp) (entry_mask (slice_get items (next_item items place))) (next_item items place) back)
          (framed (there n w) (reg n Sp) (entry_mask (slice_get ds (next_item ds other))) (next_item ds other) away)
      framed_here n h items e =
          subst (λ (xs : List CodeItem). DoneState (framed n (reg n Sp) (entry_mask (slice_get xs (next_item xs place))) (next_item xs place) back)
          (framed (there n w) (reg n Sp) (entry_mask (slice_get ds (next_item ds other))) (next_item ds other) away)) (sym e)
          (subst (λ (o : Option ℕ). DoneState (framed n (reg n Sp) (entry_mask (slice_get cs (next_item cs place))) (next_item cs place) back)
          (framed (there n w) (reg n Sp) o (next_item ds other) away)) (sym enter.mask)
          (framed_done n h (reg n Sp) (entry_mask (slice_get cs (next_item cs place))) (next_item cs place) (next_item ds other) back away enter.behind backs))

      pub called_done : (m : State) → where_of m ≡ v → (count : ℕ) → DoneState (called m count place back) (called (there m w) count other away)
      unfolding called
      called_done m h count =
          moved_done (λ (n : State). framed n (reg n Sp) (entry_mask (slice_get n.items (next_item n.items place))) (next_item n.items place) back)
          (λ (n : State). framed n (reg n Sp) (entry_mask (slice_get n.items (next_item n.items other))) (next_item n.items other) away)
          (λ n k. framed_here n k n.items (ap (λ (x : Where). x.items) k))
          _ _ (pushed_there v w (same_control At fs gs alike) m h count)

  -- ---- returns

  module _ (p q : ℕ) (fs gs : List Frame) (a b : Conditions) (alike : AreFramesAlike At fs gs) (m : State) (h : where_of m ≡ one_place cs ds At Reads p q fs gs a b alike) where
    abbrev there_m : State
    there_m = there m (other_place cs ds At Reads p q fs gs a b alike)

    module _ (outer others : List Frame) (less : AreFramesAlike At outer others) (f : Frame) (away : Option ℕ) (backs : IsBackAlike At f.back away) where
      abbrev inside : State
      inside = record m { frames = outer }

      abbrev inside_there : State
      inside_there = record there_m { frames = others }

      inside_is : where_of inside ≡ one_place cs ds At Reads p q outer others a b less
      inside_is = ap (λ (x : Where). record x { frames = outer }) h

      back_done : (count : ℕ) (x y : Option ℕ) → IsBackAlike At x y → Done cs ds At Reads (back_to (left inside f count) x) (back_to (left inside_there (record f { back = away }) count) y)
      back_done count None None k = refl
      back_done count None (Some y) k = absurd k
      back_done count (Some x) None k = absurd k
      back_done count (Some x) (Some y) k = (
        record (left inside_there f count) { place = y },
        refl,
        (k.0, stand_with cs ds At Reads p q outer others a b less k.0 x y (record inside { registers = returned_registers inside f count }) inside_is k.1 cleared cleared (codes_same _ _)),
      )

      counted : (r s : Result ℕ Stop) → s ≡ r
          → Done cs ds At Reads (r >>= λ (count : ℕ). back_to (left inside f count) f.back) (s >>= λ (count : ℕ). back_to (left inside_there (record f { back = away }) count) away)
      counted (Ok x) s e =
          subst (λ (t : Result ℕ Stop). Done cs ds At Reads (back_to (left inside f x) f.back) (t >>= λ (count : ℕ). back_to (left inside_there (record f { back = away }) count) away)) (sym e)
          (back_done x f.back away backs)
      counted (Err x) s e = ap (λ (t : Result ℕ Stop). t >>= λ (count : ℕ). back_to (left inside_there (record f { back = away }) count) away) e

      by_fp : (c : Bool) (r s : Acts) → Done cs ds At Reads r s → Done cs ds At Reads (cond c r (Err frame)) (cond c s (Err frame))
      by_fp true r s k = k
      by_fp false r s k = refl

      some_done : Done cs ds At Reads (returned_from m outer (Some f)) (returned_from there_m others (Some (record f { back = away })))
      some_done =
          by_fp (reg m Fp == f.fp) _ _
          (counted (read inside f.ap Byte) (read inside_there f.ap Byte)
          (read_same (one_place cs ds At Reads p q outer others a b less) (other_place cs ds At Reads p q outer others a b less) (same_control At outer others less) inside inside_is f.ap Byte))

    from_done : (outer others : List Frame) → AreFramesAlike At outer others → (x y : Option Frame) → OneAlike At x y → Done cs ds At Reads (returned_from m outer x) (returned_from there_m others y)
    from_done outer others less None None k = refl
    from_done outer others less None (Some g) k = absurd k
    from_done outer others less (Some f) None k = absurd k
    from_done outer others less (Some f) (Some g) k =
        subst (λ (x : Frame). Done cs ds At Reads (returned_from m outer (Some f)) (returned_from there_m others (Some x))) (sym k.same) (some_done outer others less f g.back k.back)

    pub returned_done : Done cs ds At Reads (returned m) (returned there_m)
    unfolding returned
    returned_done =
        let here : AreFramesAlike At m.frames gs = subst (λ (x : Where). AreFramesAlike At x.frames gs) (sym h) alike in
        let long : length gs ≡ length m.frames = same_length At m.frames gs here in
        subst (λ (n : ℕ). Done cs ds At Reads (returned_from m (take (length m.frames - 1) m.frames) (slice_get m.frames (length m.frames - 1)))
        (returned_from there_m (take (n - 1) gs) (slice_get gs (n - 1)))) (sym long)
        (from_done _ _ (fronts_alike At (length m.frames - 1) m.frames gs here) _ _ (one_alike At (length m.frames - 1) m.frames gs here))
