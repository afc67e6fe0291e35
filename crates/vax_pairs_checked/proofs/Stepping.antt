-- A step of a code whose functions name only registers of their masks keeps the chain of its frames.
use Rattle.std.proofs.Common.{◌≡◌, ℕ, zero, suc, ◌+◌, ◌-◌, ◌<◌, Bool, true, false, cond, List, [], ◌∷◌, ◌++◌, length, take, Option, Some, None, Result, Ok, Err, refl, sym, subst, ◌∙◌, arith}
use Rattle.std.specs.Prelude.{slice_index, slice_get, slice_set, ◌==◌, ◌%◌, nat_le, nat_lt}
use Rattle.std.specs.Int.RustNames.{count_ones}
use Rattle.vax_pairs.specs.gg_base.specs.declared.size.Size.{Size}
use Rattle.vax_pairs.specs.gg_base.specs.declared.size.Size.TheVariants.{Byte, Long}
use Rattle.vax_pairs.specs.gg_base.specs.Arithmetic.{sub32}
use Rattle.vax_pairs.specs.vax_core.specs.declared.register.Reg.TheVariants.{Fp, Sp}
use Rattle.vax_pairs.specs.vax_machine_live.specs.declared.frame.Frame.{Frame}
use Rattle.vax_pairs.specs.vax_machine.specs.declared.turn.Stop.{Stop}
use Rattle.vax_pairs.specs.vax_machine.specs.declared.memory.Region.{Region}
use Rattle.vax_pairs.specs.vax_machine.specs.declared.memory.Region.TheVariants as regions
use Rattle.vax_pairs.specs.vax_core.specs.declared.code.CodeItem.{CodeItem}
use Rattle.vax_pairs.specs.vax_machine.specs.State.{State, reg, with_reg, cleared, frame, stack_full, ◌>>=◌}
use Rattle.vax_pairs.specs.vax_machine.specs.Memory.{touched, read, written, register_set, with_number_at}
use Rattle.vax_pairs.specs.vax_machine.specs.Labels.{next_item, label_place}
use Rattle.vax_pairs.specs.vax_machine.specs.Calls.{Acts, pushed, reserved, all_reserved, entry_mask, framed, called, silent, returned_registers, back_to, left, returned_from, returned}
use Rattle.vax_pairs.specs.Functions.{Functions, BackIn, Chain}
use Rattle.vax_pairs.specs.Standing.{IsSteady}
use Rattle.vax_pairs_law.proofs.Nearing.{set_above}
use Rattle.vax_pairs_checked.proofs.Chains.{chain_calls, chain_returns, last_is, front_is, chain_steady}
use Rattle.vax_pairs_law.proofs.Calling.{kept}
use Rattle.vax_pairs_checked.proofs.Keeping.{Post, ActsKeep}

-- r0 to r11, the frames and the code stay
pub record Low (m n : State) : Type 0 where
  pub registers : (r : ℕ) → r < 12 → slice_index n.registers r ≡ slice_index m.registers r
  pub frames : n.frames ≡ m.frames
  pub items : n.items ≡ m.items

pub low_same : (m : State) → Low m m
low_same m = record { registers = λ r lt. refl; frames = refl; items = refl }

low_on : (m n k : State) → Low m n → Low n k → Low m k
low_on m n k h g = record { registers = λ r lt. g.registers r lt ∙ h.registers r lt; frames = g.frames ∙ h.frames; items = g.items ∙ h.items }

abbrev AllLow : State → Result State Stop → Type 0
AllLow m (Ok n) = Low m n
AllLow m (Err e) = Unit {0}

low_then : (m : State) (r : Result State Stop) (f : State → Result State Stop) → AllLow m r → ((n : State) → Low m n → AllLow m (f n)) → AllLow m (r >>= f)
low_then m (Ok n) f h g = g n h
low_then m (Err e) f h g = tt

low_from : (m n : State) (r : Result State Stop) → Low m n → AllLow n r → AllLow m r
low_from m n (Ok k) h g = low_on m n k h g
low_from m n (Err e) h g = tt

set_by : (m : State) (v : ℕ) (b : Bool) → AllLow m (cond b (Err stack_full) (Ok (with_reg m Sp v)))
set_by m v true = tt
set_by m v false = record { registers = λ r lt. set_above m.registers r 14 v (omega (arith, lt)); frames = refl; items = refl }

set_low : (m : State) (v : ℕ) → AllLow m (register_set m Sp v)
unfolding register_set
set_low m v = set_by m v (nat_lt v 2139095040)

write_by : (m : State) (s : Size) (v : ℕ) (t : Result Region Stop) → AllLow m (t >>= λ (r : Region). Ok (with_number_at m s v r))
write_by m s v (Ok (regions.Area at)) = record { registers = λ r lt. refl; frames = refl; items = refl }
write_by m s v (Ok (regions.Stack at)) = record { registers = λ r lt. refl; frames = refl; items = refl }
write_by m s v (Err e) = tt

write_low : (m : State) (a : ℕ) (s : Size) (v : ℕ) → AllLow m (written m a s v)
unfolding written
write_low m a s v = write_by m s v (touched m a s)

push_low : (m : State) (v : ℕ) → AllLow m (pushed m v)
unfolding pushed
push_low m v = low_then m _ (λ (n : State). written n (sub32 (reg m Sp) 4) Long v) (set_low m (sub32 (reg m Sp) 4)) (λ n h. low_from m n _ h (write_low n (sub32 (reg m Sp) 4) Long v))

look_by : (m : State) (t : Result Region Stop) → AllLow m (t >>= λ (r : Region). Ok m)
look_by m (Ok r) = low_same m
look_by m (Err e) = tt

reserve_low : (m : State) → AllLow m (reserved m)
unfolding reserved
reserve_low m =
    low_then m _ (λ (n : State). touched n (sub32 (reg m Sp) 4) Long >>= λ (r : Region). Ok n) (set_low m (sub32 (reg m Sp) 4))
    (λ n h. low_from m n _ h (look_by n (touched n (sub32 (reg m Sp) 4) Long)))

all_low : (k : ℕ) (m : State) → AllLow m (all_reserved k m)
all_low zero m = low_same m
all_low (suc k) m = low_then m (reserved m) (λ (n : State). all_reserved k n) (reserve_low m) (λ n h. low_from m n _ h (all_low k n))

-- ---- a call

module _ (In : (mask place : ℕ) → Type 0) (cs : List CodeItem) (functions : Functions cs In) where
  -- n is m at the place behind the call, sp moved
  module _ (m : State) (to : Option ℕ) (chain : Chain In m.frames m.registers m.place) (back_in : (mask : ℕ) → In mask m.place → BackIn In mask to) (items : m.items ≡ cs) where
    abbrev pub AllPost : Result State Stop → Type 0
    AllPost (Ok n) = Post In m n
    AllPost (Err e) = Unit {0}

    post_then : (r : Result State Stop) (f : State → Result State Stop) → (n0 : State) → Low m n0 → AllLow n0 r → ((n : State) → Low m n → AllPost (f n)) → AllPost (r >>= f)
    post_then (Ok n) f n0 h g k = k n (low_on m n0 n h g)
    post_then (Err e) f n0 h g k = tt

    entered_by : (n : State) → Low m n → (ap_at top mask behind : ℕ) → In mask behind → (full : Bool)
        → AllPost (cond full (Err stack_full) (Ok (record n {
          frames = n.frames ++ record { fp = reg n Sp; top = top; ap = ap_at; mask = mask; saved = n.registers; back = to } ∷ [];
          registers = slice_set (slice_set n.registers 13 (reg n Sp)) 12 ap_at;
          conditions = cleared;
          place = behind;
        })))
    entered_by n h ap_at top mask behind at true = tt
    entered_by n h ap_at top mask behind at false = record {
      items = h.items;
      chain = subst (λ (fs : List Frame). Chain In (fs ++ record { fp = reg n Sp; top = top; ap = ap_at; mask = mask; saved = n.registers; back = to } ∷ [])
          (slice_set (slice_set n.registers 13 (reg n Sp)) 12 ap_at) behind) (sym h.frames)
          (chain_calls In m.frames (record { fp = reg n Sp; top = top; ap = ap_at; mask = mask; saved = n.registers; back = to }) m.registers
          (slice_set (slice_set n.registers 13 (reg n Sp)) 12 ap_at) m.place behind chain
          (λ r low high. h.registers r high) back_in
          (λ r low high. set_above (slice_set n.registers 13 (reg n Sp)) r 12 ap_at high ∙ set_above n.registers r 13 (reg n Sp) (omega (arith, high))) at);
    }

    framed_keeps : (n : State) → Low m n → (ap_at : ℕ) (o : Option ℕ) (entry : ℕ) → ((mask : ℕ) → o ≡ Some mask → In mask (entry + 1)) → AllPost (framed n ap_at o entry to)
    framed_keeps n h ap_at None entry into = tt
    framed_keeps n h ap_at (Some mask) entry into =
        post_then (register_set n Sp (ap_at - ap_at % 4)) _ n h (set_low n (ap_at - ap_at % 4))
        (λ x g. post_then (all_reserved (count_ones mask + 5) x) _ x g (all_low (count_ones mask + 5) x)
        (λ y f. entered_by y f ap_at (ap_at - ap_at % 4) mask (entry + 1) (into mask refl) (nat_le 4096 (length y.frames))))

    pub called_keeps : (n : State) → Low m n → (count : ℕ) (name : List ℕ) → AllPost (called n count (label_place cs name) to)
    unfolding called
    called_keeps n h count name =
        post_then (pushed n count) _ n h (push_low n count)
        (λ x g. framed_keeps x g (reg x Sp) (entry_mask (slice_get x.items (next_item x.items (label_place cs name)))) (next_item x.items (label_place cs name))
        (λ mask e. subst (λ (xs : List CodeItem). entry_mask (slice_get xs (next_item xs (label_place cs name))) ≡ Some mask → In mask (next_item xs (label_place cs name) + 1))
        (sym (g.items ∙ items))
        (λ e. functions.enters name mask e) e))

    pub silent_keeps : (r : Result State Stop) → AllPost r → ActsKeep In m (silent r)
    silent_keeps (Ok n) h = h
    silent_keeps (Err e) h = tt

  -- ---- a return

  module _ (m : State) (chain : Chain In m.frames m.registers m.place) where
    steady : IsSteady m
    steady = chain_steady In m functions.result chain

    back_keeps : (f : Frame) → slice_get m.frames (length m.frames - 1) ≡ Some f → (count : ℕ) (o : Option ℕ) → f.back ≡ o
        → ActsKeep In m (back_to (left (record m { frames = take (length m.frames - 1) m.frames }) f count) o)
    back_keeps f e count None b = tt
    back_keeps f e count (Some q) b = record {
      items = refl;
      chain = subst (λ (fs : List Frame). Chain In fs (returned_registers (record m { frames = take (length m.frames - 1) m.frames }) f count) q) (sym (front_is In m.frames))
          (chain_returns In m.frames f m.registers (returned_registers (record m { frames = take (length m.frames - 1) m.frames }) f count) m.place q (last_is In m.frames f e) chain
          (λ r low high. kept (Unit {0}) (λ a b c. Unit {0}) (λ i j k l. Unit {0}) (record m { frames = take (length m.frames - 1) m.frames }) f count r low high ∙ (steady f e).others r low high) b);
    }

    counted_keeps : (f : Frame) → slice_get m.frames (length m.frames - 1) ≡ Some f → (r : Result ℕ Stop)
        → ActsKeep In m (r >>= λ (count : ℕ). back_to (left (record m { frames = take (length m.frames - 1) m.frames }) f count) f.back)
    counted_keeps f e (Ok count) = back_keeps f e count f.back refl
    counted_keeps f e (Err q) = tt

    by_fp : (c : Bool) (r : Acts) → ActsKeep In m r → ActsKeep In m (cond c r (Err frame))
    by_fp true r h = h
    by_fp false r h = tt

    from_keeps : (o : Option Frame) → slice_get m.frames (length m.frames - 1) ≡ o → ActsKeep In m (returned_from m (take (length m.frames - 1) m.frames) o)
    from_keeps None e = tt
    from_keeps (Some f) e = by_fp (reg m Fp == f.fp) _ (counted_keeps f e (read (record m { frames = take (length m.frames - 1) m.frames }) f.ap Byte))

    pub returned_keeps : ActsKeep In m (returned m)
    unfolding returned
    returned_keeps = from_keeps (slice_get m.frames (length m.frames - 1)) refl
