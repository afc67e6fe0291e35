-- Calls and returns of two codes.
use Rattle.std.proofs.Common.{◌≡◌, ℕ, zero, suc, ◌+◌, ◌-◌, ◌<◌, ◌≤◌, Bool, true, false, cond, List, [], ◌∷◌, ◌++◌, length, take, Option, Some, None, Result, Ok, Err, refl, sym}
use Rattle.std.proofs.Common.{ap, subst, ◌∙◌, arith, lit<}
use Rattle.std.proofs.lemmas.List.{length-set}
use Rattle.std.specs.Prelude.{slice_get, slice_set, slice_index, nat_le, ◌==◌, ◌%◌}
use Rattle.std.specs.Int.RustNames.{count_ones}
use Rattle.vax_pairs.specs.gg_base.specs.declared.size.Size.TheVariants.{Byte}
use Rattle.vax_pairs.specs.gg_base.specs.Arithmetic.{add32, mul32}
use Rattle.vax_pairs.specs.vax_core.specs.declared.register.Reg.TheVariants.{R0, Fp, Sp}
use Rattle.vax_pairs.specs.vax_core.specs.declared.code.CodeItem.{CodeItem}
use Rattle.vax_pairs.specs.vax_machine_live.specs.declared.frame.Frame.{Frame}
use Rattle.vax_pairs.specs.vax_machine.specs.declared.turn.Stop.{Stop}
use Rattle.vax_pairs.specs.vax_machine.specs.declared.turn.Stop.TheVariants.{Ended}
use Rattle.vax_pairs.specs.vax_machine.specs.State.{State, reg, cleared, frame, stack_full, ◌>>=◌}
use Rattle.vax_pairs.specs.vax_machine.specs.Memory.{read, register_set}
use Rattle.vax_pairs.specs.vax_machine.specs.Labels.{next_item, label_place}
use Rattle.vax_pairs.specs.vax_machine.specs.Calls.{Acts, pushed, all_reserved, entry_mask, entered, framed, called, silent, restored, returned_registers, back_to, left, returned_from, returned}
use Rattle.vax_pairs.specs.Standing.{Seen, Bare, bare, Restores, IsSteady}
use Rattle.vax_pairs.specs.Standing.{Later as HoldsLater, Entering as HoldsEntering, IsBackAlike as AreBacksAlike, Even as AreEven, Stands as IsStanding}
use Rattle.vax_pairs.specs.Piecewise.{Enters as IsEntering, Call as IsCall, Return as IsReturn}
use Rattle.vax_pairs_law.proofs.Frames.{IsFrameAlike, AreFramesAlike, OneAlike, same_control, same_length, fronts_alike, one_alike, one_more}
use Rattle.vax_pairs_law.proofs.Nearing.{set_above, set_below, set_there, along, Near, near_along, outwards, both_then, read_same, set_both, push_both, all_both}

module _ (Rel : Type 0) (Holds : Rel → Seen → Seen → Type 0) (At : ℕ → ℕ → ℕ → Rel → Type 0) where
  abbrev Later : Rel → List ℕ → List ℕ → Type 0
  Later r us vs = HoldsLater Rel Holds At r us vs

  abbrev Entering : Rel → List ℕ → List ℕ → Type 0
  Entering r us vs = HoldsEntering Rel Holds At r us vs

  abbrev IsBackAlike : Option ℕ → Option ℕ → List ℕ → List ℕ → Type 0
  IsBackAlike p q us vs = AreBacksAlike Rel Holds At p q us vs

  abbrev Even : State → State → Type 0
  Even m n = AreEven Rel Holds At m n

  abbrev Stands : ℕ → Rel → State → State → Type 0
  Stands k r m n = IsStanding Rel Holds At k r m n

  -- the two stand to each other in some way
  abbrev pub Stand : State → State → Type 0
  Stand m n = (k : ℕ) × ((r : Rel) × Stands k r m n)

  -- what the one does, the other does too, and they stand to each other behind it
  abbrev pub DoneState : Result State Stop → Result State Stop → Type 0
  DoneState (Ok m) s = (n : State) × ((s ≡ Ok n) × Stand m n)
  DoneState (Err e) s = s ≡ Err e

  abbrev pub Done : Acts → Acts → Type 0
  Done (Ok x) s = (n : State) × ((s ≡ Ok (x.0, n)) × Stand x.1 n)
  Done (Err e) s = s ≡ Err e

  pub silent_done : (r s : Result State Stop) → DoneState r s → Done (silent r) (silent s)
  silent_done (Ok m) s h = (h.0, (ap silent h.1.0, h.1.1))
  silent_done (Err e) s h = ap silent h

  pub near_of : (m n : State) → Even m n → Near m n
  near_of m n e = record { long = e.long; others_long = e.others_long; bare = e.bare; control = same_control Rel Holds At m.frames n.frames e.frames }

  -- ---- calls

  later_along : (r : Rel) (us vs : List ℕ) (sp : ℕ) → Later r us vs → Later r (slice_set us 14 sp) (slice_set vs 14 sp)
  later_along r us vs sp h s t f g e =
      h s t (record { same = λ k low high. f.same k low high ∙ set_above us k 14 sp (omega (arith, high)); clear = f.clear })
      (record { same = λ k low high. g.same k low high ∙ set_above vs k 14 sp (omega (arith, high)); clear = g.clear }) e

  back_along : (p q : Option ℕ) (us vs : List ℕ) (sp : ℕ) → IsBackAlike p q us vs → IsBackAlike p q (slice_set us 14 sp) (slice_set vs 14 sp)
  back_along None None us vs sp h = tt
  back_along None (Some q) us vs sp h = absurd h
  back_along (Some p) None us vs sp h = absurd h
  back_along (Some p) (Some q) us vs sp h = (h.0, (h.1.0, (h.1.1.0, later_along h.1.0 us vs sp h.1.1.1)))

  module _ (m n : State) (even : Even m n) (top mask behind other : ℕ) (back away : Option ℕ) (backs : IsBackAlike back away m.registers n.registers) where
    -- registers behind a call
    inner : List ℕ → ℕ → ℕ → List ℕ
    inner us sp ap_at = slice_set (slice_set (slice_set us 14 sp) 13 (slice_index (slice_set us 14 sp) 14)) 12 ap_at

    inner_low : (us : List ℕ) (sp ap_at r : ℕ) → r < 12 → slice_index (inner us sp ap_at) r ≡ slice_index us r
    unfolding inner
    inner_low us sp ap_at r lt =
        set_above (slice_set (slice_set us 14 sp) 13 (slice_index (slice_set us 14 sp) 14)) r 12 ap_at lt
        ∙ set_above (slice_set us 14 sp) r 13 (slice_index (slice_set us 14 sp) 14) (omega (arith, lt))
        ∙ set_above us r 14 sp (omega (arith, lt))

    inner_ap : (us : List ℕ) (sp ap_at : ℕ) → length us ≡ 15 → slice_index (inner us sp ap_at) 12 ≡ ap_at
    unfolding inner
    inner_ap us sp ap_at long =
        set_there (slice_set (slice_set us 14 sp) 13 (slice_index (slice_set us 14 sp) 14)) 12 ap_at
        (let e = length-set (slice_set us 14 sp) 13 (slice_index (slice_set us 14 sp) 14) ∙ length-set us 14 sp ∙ long in omega (arith, e))

    inner_fp : (us : List ℕ) (sp ap_at : ℕ) → length us ≡ 15 → slice_index (inner us sp ap_at) 13 ≡ sp
    unfolding inner
    inner_fp us sp ap_at long =
        set_below (slice_set (slice_set us 14 sp) 13 (slice_index (slice_set us 14 sp) 14)) 13 12 ap_at (lit< tt)
        ∙ set_there (slice_set us 14 sp) 13 (slice_index (slice_set us 14 sp) 14) (let e = length-set us 14 sp ∙ long in omega (arith, e))
        ∙ set_there us 14 sp (omega (arith, long))

    inner_sp : (us : List ℕ) (sp ap_at : ℕ) → length us ≡ 15 → slice_index (inner us sp ap_at) 14 ≡ sp
    unfolding inner
    inner_sp us sp ap_at long =
        set_below (slice_set (slice_set us 14 sp) 13 (slice_index (slice_set us 14 sp) 14)) 14 12 ap_at (lit< tt)
        ∙ set_below (slice_set us 14 sp) 14 13 (slice_index (slice_set us 14 sp) 14) (lit< tt)
        ∙ set_there us 14 sp (omega (arith, long))

    inner_long : (us : List ℕ) (sp ap_at : ℕ) → length us ≡ 15 → length (inner us sp ap_at) ≡ 15
    unfolding inner
    inner_long us sp ap_at long =
        length-set (slice_set (slice_set us 14 sp) 13 (slice_index (slice_set us 14 sp) 14)) 12 ap_at
        ∙ length-set (slice_set us 14 sp) 13 (slice_index (slice_set us 14 sp) 14) ∙ length-set us 14 sp ∙ long

    module _ (k : ℕ) (r : Rel) (at : At k behind other r) (enters : Entering r m.registers n.registers) (ap_at sp : ℕ) (a b : List ℕ) where
      new_frame : State → Option ℕ → Frame
      new_frame x o = record { fp = reg (along x sp a b) Sp; top = top; ap = ap_at; mask = mask; saved = slice_set x.registers 14 sp; back = o }

      inside : State → Option ℕ → ℕ → State
      inside x o place = record (along x sp a b) {
        frames = x.frames ++ new_frame x o ∷ [];
        registers = inner x.registers sp ap_at;
        conditions = cleared;
        place = place;
      }

      frames_alike : IsFrameAlike Rel Holds At (new_frame m back) (new_frame n away)
      unfolding new_frame
      frames_alike = record {
        same = ap (λ (x : ℕ). record { fp = x; top = top; ap = ap_at; mask = mask; saved = slice_set n.registers 14 sp; back = away })
            (set_there n.registers 14 sp (omega (arith, even.others_long)) ∙ sym (set_there m.registers 14 sp (omega (arith, even.long))));
        saved_ap = set_above n.registers 12 14 sp (lit< tt) ∙ ap (λ (x : Bare). x.ap) even.bare ∙ sym (set_above m.registers 12 14 sp (lit< tt));
        saved_fp = set_above n.registers 13 14 sp (lit< tt) ∙ ap (λ (x : Bare). x.fp) even.bare ∙ sym (set_above m.registers 13 14 sp (lit< tt));
        back = back_along back away m.registers n.registers sp backs;
      }

      inside_bare : bare (inside n away other) ≡ bare (inside m back behind)
      unfolding inside
      inside_bare i = record {
        layout = (even.bare i).layout;
        area = a;
        stack = b;
        input = (even.bare i).input;
        ap = (inner_ap n.registers sp ap_at even.others_long ∙ sym (inner_ap m.registers sp ap_at even.long)) i;
        fp = (inner_fp n.registers sp ap_at even.others_long ∙ sym (inner_fp m.registers sp ap_at even.long)) i;
        sp = (inner_sp n.registers sp ap_at even.others_long ∙ sym (inner_sp m.registers sp ap_at even.long)) i;
      }

      inside_stands : Stands k r (inside m back behind) (inside n away other)
      unfolding inside
      inside_stands = record {
        at = at;
        even = record {
          going = even.going;
          others_going = even.others_going;
          long = inner_long m.registers sp ap_at even.long;
          others_long = inner_long n.registers sp ap_at even.others_long;
          bare = inside_bare;
          frames = one_more Rel Holds At m.frames n.frames _ _ even.frames frames_alike;
        };
        holds = enters _ _ (record { same = λ x lt. inner_low m.registers sp ap_at x lt; clear = refl }) (record { same = λ x lt. inner_low n.registers sp ap_at x lt; clear = refl });
      }

      entered_by : (full : Bool) → DoneState (cond full (Err stack_full) (Ok (inside m back behind))) (cond full (Err stack_full) (Ok (inside n away other)))
      entered_by true = refl
      entered_by false = (inside n away other, (refl, (k, (r, inside_stands))))

      pub entered_done : DoneState (entered (along m sp a b) ap_at top mask behind back) (entered (along n sp a b) ap_at top mask other away)
      unfolding inside new_frame inner
      entered_done =
          subst (λ (x : ℕ). DoneState (entered (along m sp a b) ap_at top mask behind back) (cond (nat_le 4096 x) (Err stack_full) (Ok (inside n away other))))
          (sym (same_length Rel Holds At m.frames n.frames even.frames))
          (entered_by (nat_le 4096 (length m.frames)))

  module _ (m n : State) (even : Even m n) (back away : Option ℕ) (backs : IsBackAlike back away m.registers n.registers) where
    near : Near m n
    near = near_of m n even

    framed_some : (sp : ℕ) (a b : List ℕ) (ap_at mask entry other k : ℕ) (r : Rel) → At k (entry + 1) (other + 1) r → Entering r m.registers n.registers
        → DoneState (framed (along m sp a b) ap_at (Some mask) entry back) (framed (along n sp a b) ap_at (Some mask) other away)
    framed_some sp a b ap_at mask entry other k r at enters =
        both_then DoneState (λ e. refl) m n (register_set (along m sp a b) Sp (ap_at - ap_at % 4)) (register_set (along n sp a b) Sp (ap_at - ap_at % 4))
        (outwards m n near sp a b _ _ (set_both (along m sp a b) (along n sp a b) (near_along m n near sp a b) (ap_at - ap_at % 4)))
        (λ (x : State). all_reserved (count_ones mask + 5) x >>= λ (y : State). entered y ap_at (ap_at - ap_at % 4) mask (entry + 1) back)
        (λ (x : State). all_reserved (count_ones mask + 5) x >>= λ (y : State). entered y ap_at (ap_at - ap_at % 4) mask (other + 1) away)
        (λ tp c d. both_then DoneState (λ e. refl) m n (all_reserved (count_ones mask + 5) (along m tp c d)) (all_reserved (count_ones mask + 5) (along n tp c d))
        (outwards m n near tp c d _ _ (all_both (count_ones mask + 5) (along m tp c d) (along n tp c d) (near_along m n near tp c d)))
        (λ (y : State). entered y ap_at (ap_at - ap_at % 4) mask (entry + 1) back)
        (λ (y : State). entered y ap_at (ap_at - ap_at % 4) mask (other + 1) away)
        (λ up e f. entered_done m n even (ap_at - ap_at % 4) mask (entry + 1) (other + 1) back away backs k r at enters ap_at up e f))

    framed_done : (sp : ℕ) (a b : List ℕ) (ap_at : ℕ) (o : Option ℕ) (entry other : ℕ)
        → ((mask : ℕ) → o ≡ Some mask → (k : ℕ) × ((r : Rel) × (At k (entry + 1) (other + 1) r × Entering r m.registers n.registers)))
        → DoneState (framed (along m sp a b) ap_at o entry back) (framed (along n sp a b) ap_at o other away)
    framed_done sp a b ap_at None entry other into = refl
    framed_done sp a b ap_at (Some mask) entry other into = (let h = into mask refl in framed_some sp a b ap_at mask entry other h.0 h.1.0 h.1.1.0 h.1.1.1)

    module _ (cs ds : List CodeItem) (is_first : m.items ≡ cs) (is_second : n.items ≡ ds) (place other : ℕ) (enters : IsEntering Rel Holds At cs ds place other m.registers n.registers) where
      framed_here : (sp : ℕ) (a b : List ℕ) → DoneState
          (framed (along m sp a b) (reg (along m sp a b) Sp) (entry_mask (slice_get m.items (next_item m.items place))) (next_item m.items place) back)
          (framed (along n sp a b) (reg (along n sp a b) Sp) (entry_mask (slice_get n.items (next_item n.items other))) (next_item n.items other) away)
      framed_here sp a b =
          let same : reg (along n sp a b) Sp ≡ reg (along m sp a b) Sp =
          set_there n.registers 14 sp (omega (arith, even.others_long)) ∙ sym (set_there m.registers 14 sp (omega (arith, even.long))) in
          subst (λ (x : ℕ). DoneState
          (framed (along m sp a b) (reg (along m sp a b) Sp) (entry_mask (slice_get m.items (next_item m.items place))) (next_item m.items place) back)
          (framed (along n sp a b) x (entry_mask (slice_get n.items (next_item n.items other))) (next_item n.items other) away)) (sym same)
          (subst (λ (xs : List CodeItem). DoneState
          (framed (along m sp a b) (reg (along m sp a b) Sp) (entry_mask (slice_get xs (next_item xs place))) (next_item xs place) back)
          (framed (along n sp a b) (reg (along m sp a b) Sp) (entry_mask (slice_get n.items (next_item n.items other))) (next_item n.items other) away)) (sym is_first)
          (subst (λ (ys : List CodeItem). DoneState
          (framed (along m sp a b) (reg (along m sp a b) Sp) (entry_mask (slice_get cs (next_item cs place))) (next_item cs place) back)
          (framed (along n sp a b) (reg (along m sp a b) Sp) (entry_mask (slice_get ys (next_item ys other))) (next_item ys other) away)) (sym is_second)
          (subst (λ (o : Option ℕ). DoneState
          (framed (along m sp a b) (reg (along m sp a b) Sp) (entry_mask (slice_get cs (next_item cs place))) (next_item cs place) back)
          (framed (along n sp a b) (reg (along m sp a b) Sp) o (next_item ds other) away)) (sym enters.mask)
          (framed_done sp a b (reg (along m sp a b) Sp) (entry_mask (slice_get cs (next_item cs place))) (next_item cs place) (next_item ds other) enters.into))))

      pub called_done : (count : ℕ) → DoneState (called m count place back) (called n count other away)
      unfolding called
      called_done count =
          both_then DoneState (λ e. refl) m n (pushed m count) (pushed n count) (push_both m n near count)
          (λ (x : State). framed x (reg x Sp) (entry_mask (slice_get x.items (next_item x.items place))) (next_item x.items place) back)
          (λ (x : State). framed x (reg x Sp) (entry_mask (slice_get x.items (next_item x.items other))) (next_item x.items other) away)
          framed_here

  pub call_done : (cs ds : List CodeItem) (x y : State) (c : IsCall Rel Holds At cs ds x y) → Done
      (silent (called c.from c.count (label_place cs c.name) (Some c.from.place))) (silent (called c.other c.count (label_place ds c.name) (Some c.other.place)))
  call_done cs ds x y c =
      silent_done _ _ (called_done c.from c.other c.even (Some c.from.place) (Some c.other.place) c.behind cs ds c.items c.others_items (label_place cs c.name) (label_place ds c.name)
      c.enters c.count)

  -- ---- returns

  pub kept : (m : State) (f : Frame) (count r : ℕ) → 2 ≤ r → r < 12 → slice_index (returned_registers m f count) r ≡ restored m f r
  kept m f count zero low high = absurd (omega (arith, low))
  kept m f count (suc zero) low high = absurd (omega (arith, low))
  kept m f count (suc (suc zero)) low high = refl
  kept m f count (suc (suc (suc zero))) low high = refl
  kept m f count (suc (suc (suc (suc zero)))) low high = refl
  kept m f count (suc (suc (suc (suc (suc zero))))) low high = refl
  kept m f count (suc (suc (suc (suc (suc (suc zero)))))) low high = refl
  kept m f count (suc (suc (suc (suc (suc (suc (suc zero))))))) low high = refl
  kept m f count (suc (suc (suc (suc (suc (suc (suc (suc zero)))))))) low high = refl
  kept m f count (suc (suc (suc (suc (suc (suc (suc (suc (suc zero))))))))) low high = refl
  kept m f count (suc (suc (suc (suc (suc (suc (suc (suc (suc (suc zero)))))))))) low high = refl
  kept m f count (suc (suc (suc (suc (suc (suc (suc (suc (suc (suc (suc zero))))))))))) low high = refl
  kept m f count (suc (suc (suc (suc (suc (suc (suc (suc (suc (suc (suc (suc r)))))))))))) low high = absurd (omega (arith, high))

  module _ (m n : State) (even : Even m n) (result : reg n R0 ≡ reg m R0) (outer others : List Frame) (less : AreFramesAlike Rel Holds At outer others) (f g : Frame)
      (alike : IsFrameAlike Rel Holds At f g) (first : Restores m f) (second : Restores n g) where
    abbrev mo : State
    mo = record m { frames = outer }

    abbrev no : State
    no = record n { frames = others }

    same_fp : g.fp ≡ f.fp
    same_fp = ap (λ (x : Frame). x.fp) alike.same

    same_ap : g.ap ≡ f.ap
    same_ap = ap (λ (x : Frame). x.ap) alike.same

    same_result : restored no g 0 ≡ restored mo f 0
    same_result = second.result ∙ result ∙ sym first.result

    back_state : (count p q k : ℕ) (r : Rel) → At k p q r → Later r f.saved g.saved → Stands k r (record (left mo f count) { place = p }) (record (left no g count) { place = q })
    back_state count p q k r at later = record {
      at = at;
      even = record {
        going = even.going;
        others_going = even.others_going;
        long = refl;
        others_long = refl;
        bare = λ i. record {
          layout = (even.bare i).layout;
          area = (even.bare i).area;
          stack = (even.bare i).stack;
          input = (even.bare i).input;
          ap = alike.saved_ap i;
          fp = alike.saved_fp i;
          sp = add32 (same_ap i) (add32 4 (mul32 4 count));
        };
        frames = less;
      };
      holds = later _ _ (record { same = λ x low high. kept mo f count x low high ∙ first.others x low high; clear = refl })
          (record { same = λ x low high. kept no g count x low high ∙ second.others x low high; clear = refl }) same_result;
    }

    back_done : (count : ℕ) (p q : Option ℕ) → IsBackAlike p q f.saved g.saved → Done (back_to (left mo f count) p) (back_to (left no g count) q)
    back_done count None None h = ap (λ (x : ℕ). Err (Ended x)) same_result
    back_done count None (Some q) h = absurd h
    back_done count (Some p) None h = absurd h
    back_done count (Some p) (Some q) h = (record (left no g count) { place = q }, (refl, (h.0, (h.1.0, back_state count p q h.0 h.1.0 h.1.1.0 h.1.1.1))))

    value_done : (p q : ℕ → Acts) → ((x : ℕ) → Done (p x) (q x)) → (r s : Result ℕ Stop) → s ≡ r → Done (r >>= p) (s >>= q)
    value_done p q h (Ok x) s e = subst (λ (t : Result ℕ Stop). Done (p x) (t >>= q)) (sym e) (h x)
    value_done p q h (Err x) s e = ap (λ (t : Result ℕ Stop). t >>= q) e

    near_outer : Near mo no
    near_outer = record { long = even.long; others_long = even.others_long; bare = even.bare; control = same_control Rel Holds At outer others less }

    counted : Done (read mo f.ap Byte >>= λ (count : ℕ). back_to (left mo f count) f.back) (read no g.ap Byte >>= λ (count : ℕ). back_to (left no g count) g.back)
    counted =
        value_done (λ (count : ℕ). back_to (left mo f count) f.back) (λ (count : ℕ). back_to (left no g count) g.back) (λ x. back_done x f.back g.back alike.back) _ _
        (ap (λ (a : ℕ). read no a Byte) same_ap ∙ read_same mo no near_outer f.ap Byte)

    by_fp : (c : Bool) (r s : Acts) → Done r s → Done (cond c r (Err frame)) (cond c s (Err frame))
    by_fp true r s k = k
    by_fp false r s k = refl

    some_done : Done (returned_from m outer (Some f)) (returned_from n others (Some g))
    some_done =
        subst (λ (c : Bool). Done (returned_from m outer (Some f)) (cond c (read no g.ap Byte >>= λ (count : ℕ). back_to (left no g count) g.back) (Err frame)))
        (sym (ap (λ (b : Bare). b.fp == g.fp) even.bare ∙ ap (λ (x : ℕ). reg m Fp == x) same_fp))
        (by_fp (reg m Fp == f.fp) _ _ counted)

  module _ (m n : State) (even : Even m n) (result : reg n R0 ≡ reg m R0) where
    from_done : (outer others : List Frame) → AreFramesAlike Rel Holds At outer others → (x y : Option Frame) → OneAlike Rel Holds At x y
        → ((f : Frame) → x ≡ Some f → Restores m f) → ((g : Frame) → y ≡ Some g → Restores n g) → Done (returned_from m outer x) (returned_from n others y)
    from_done outer others less None None k h g = refl
    from_done outer others less None (Some y) k h g = absurd k
    from_done outer others less (Some x) None k h g = absurd k
    from_done outer others less (Some x) (Some y) k h g = some_done m n even result outer others less x y k (h x refl) (g y refl)

    returned_done : IsSteady m → IsSteady n → Done (returned m) (returned n)
    unfolding returned
    returned_done steady others_steady =
        from_done _ _
        (subst (λ (k : ℕ). AreFramesAlike Rel Holds At (take (length m.frames - 1) m.frames) (take (k - 1) n.frames)) (sym (same_length Rel Holds At m.frames n.frames even.frames))
        (fronts_alike Rel Holds At (length m.frames - 1) m.frames n.frames even.frames)) _ _
        (subst (λ (k : ℕ). OneAlike Rel Holds At (slice_get m.frames (length m.frames - 1)) (slice_get n.frames (k - 1))) (sym (same_length Rel Holds At m.frames n.frames even.frames))
        (one_alike Rel Holds At (length m.frames - 1) m.frames n.frames even.frames)) steady others_steady

  pub return_done : (x y : State) (r : IsReturn Rel Holds At x y) → Done (returned r.from) (returned r.other)
  return_done x y r = returned_done r.from r.other r.even r.result r.steady r.others_steady
