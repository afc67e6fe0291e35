-- Where a step comes to: behind its instruction, to a label that it names, behind the mask of a function that is called, or to where a call comes back.
use Rattle.std.proofs.Common.{◌≡◌, ℕ, ◌+◌, ◌-◌, Bool, true, false, cond, List, [], ◌∷◌, ◌++◌, length, take, Option, Some, None, Result, Ok, Err, refl, sym, ap, subst, ◌∙◌}
use Rattle.std.specs.Prelude.{slice_get, slice_set, nat_le, ◌==◌, ◌%◌, ◌^◌}
use Rattle.std.specs.Str.{bytes_eq}
use Rattle.std.specs.Int.RustNames.{count_ones}
use Rattle.gg_base.specs.declared.size.Size.TheVariants.{Byte, Long}
use Rattle.gg_base.specs.Arithmetic.{add32}
use Rattle.vax_core.specs.declared.register.Reg.TheVariants.{R0, Fp, Sp}
use Rattle.vax_core.specs.declared.code.Instr.{Instr}
use Rattle.vax_core.specs.declared.code.CodeItem.{CodeItem}
use Rattle.vax_core.specs.declared.code.CodeItem.TheVariants as item_kind
use Rattle.vax_core.specs.First.{putchar_name}
use Rattle.vax_core.specs.Ops.{shape}
use Rattle.vax_machine_live.specs.declared.frame.Frame.{Frame}
use Rattle.vax_machine.specs.declared.turn.Stop.{Stop}
use Rattle.vax_machine.specs.declared.operands.Arguments.{Arguments}
use Rattle.vax_machine.specs.declared.operands.Destination.{Destination}
use Rattle.vax_machine.specs.declared.function.Computed.{Computed}
use Rattle.vax_machine.specs.declared.function.Action.{Action}
use Rattle.vax_machine.specs.declared.function.Test.{Test}
use Rattle.vax_machine.specs.declared.function.Action.TheVariants.{Compute, Push, Branch, Call, Return}
use Rattle.vax_machine.specs.State.{State, reg, with_reg, with_conditions, cleared, frame, bad_code, stack_full, ◌>>=◌}
use Rattle.vax_machine.specs.Memory.{read, register_set}
use Rattle.vax_machine.specs.Operands.{all_evaluated, stored}
use Rattle.vax_machine.specs.Functions.{action_of, applied, valued, passes}
use Rattle.vax_machine.specs.Labels.{next_item, label_place, getchar_name}
use Rattle.vax_machine.specs.Calls.{Acts, pushed, all_reserved, entry_mask, entered, framed, called, silent, called_by_name, back_to, left, returned_from, returned, putchar, getchar, got}
use Rattle.vax_machine.specs.Step.{finished, pushing, branched, acted, instruction, at_item, act}
use Rattle.vax_alike.proofs.Placing.{Where, where_of, Moved, Carried, set, all_there, stored_there, pushed_there, all_reserved_there}

-- what a step of an instruction, with the machine at the place behind it, comes to
pub data Comes (m n : State) (action : Action) (target : Option (List ℕ)) : Type 0 where
  -- behind it
  at_behind : n.place ≡ m.place → n.frames ≡ m.frames → Comes m n action target
  -- to the label of a branch
  ToLabel : (t : Test) (l : List ℕ) → action ≡ Branch t → target ≡ Some l → n.place ≡ label_place m.items l → n.frames ≡ m.frames → Comes m n action target
  -- behind the mask of what is called, which comes back behind the call
  Into : (l : List ℕ) (mask : ℕ) (f : Frame) → action ≡ Call → target ≡ Some l → entry_mask (slice_get m.items (next_item m.items (label_place m.items l))) ≡ Some mask
      → n.place ≡ next_item m.items (label_place m.items l) + 1 → f.back ≡ Some m.place → n.frames ≡ m.frames ++ f ∷ [] → Comes m n action target
  -- to where the innermost call comes back
  Back : (f : Frame) → slice_get m.frames (length m.frames - 1) ≡ Some f → f.back ≡ Some n.place → n.frames ≡ take (length m.frames - 1) m.frames → Comes m n action target

abbrev pub After : {X : Type 0} → (State → Type 0) → Result (X × State) Stop → Type 0
After P (Ok x) = P x.1
After P (Err e) = Unit {0}

abbrev pub AfterState : (State → Type 0) → Result State Stop → Type 0
AfterState P (Ok x) = P x
AfterState P (Err e) = Unit {0}

module _ (P : State → Type 0) where
  after_state : {X : Type 0} (x : X) (f : State → State) (t : Result State Stop) → AfterState (λ n. P (f n)) t → After {X = X} P (t >>= λ (n : State). Ok (x, f n))
  after_state x f (Ok n) h = h
  after_state x f (Err e) h = tt

  after_then : (f : State → Result State Stop) (t : Result State Stop) → AfterState (λ n. AfterState P (f n)) t → AfterState P (t >>= f)
  after_then f (Ok n) h = h
  after_then f (Err e) h = tt

  after_value : {A X : Type 0} (f : A → Result (X × State) Stop) (t : Result A Stop) → ((a : A) → After P (f a)) → After P (t >>= f)
  after_value f (Ok a) h = h a
  after_value f (Err e) h = tt

  after_pair : {A X : Type 0} (f : A × State → Result (X × State) Stop) (t : Result (A × State) Stop) → After (λ n. (a : A) → After P (f (a, n))) t → After P (t >>= f)
  after_pair f (Ok a) h = h a.0
  after_pair f (Err e) h = tt

after_less : {X : Type 0} (P Q : State → Type 0) (t : Result (X × State) Stop) → ((n : State) → P n → Q n) → After P t → After Q t
after_less P Q (Ok x) f h = f x.1 h
after_less P Q (Err e) f h = tt

less_state : (P Q : State → Type 0) (t : Result State Stop) → ((n : State) → P n → Q n) → AfterState P t → AfterState Q t
less_state P Q (Ok x) f h = f x h
less_state P Q (Err e) f h = tt

-- ---- what stays where it was

moved_after : (v w : Where) (t s : Result State Stop) → Moved v w t s → AfterState (λ n. where_of n ≡ v) t
moved_after v w (Ok n) s h = h.1
moved_after v w (Err e) s h = tt

carried_after : {X : Type 0} (v w : Where) (t s : Result (X × State) Stop) → Carried v w t s → After (λ n. where_of n ≡ v) t
carried_after v w (Ok x) s h = h.1
carried_after v w (Err e) s h = tt

module _ (v : Where) where
  abbrev Stays : State → Type 0
  Stays n = where_of n ≡ v

  module _ (m : State) (h : where_of m ≡ v) where
    set_stays : (x : ℕ) → AfterState Stays (register_set m Sp x)
    set_stays x = moved_after v v _ _ (set v v (λ a k. refl) m h Sp x)

    stored_stays : (d : Option Destination) (x : ℕ) → AfterState Stays (stored m d x)
    stored_stays d x = moved_after v v _ _ (stored_there v v (λ a k. refl) m h d x)

    pushed_stays : (x : ℕ) → AfterState Stays (pushed m x)
    pushed_stays x = moved_after v v _ _ (pushed_there v v (λ a k. refl) m h x)

    reserved_stays : (k : ℕ) → AfterState Stays (all_reserved k m)
    reserved_stays k = moved_after v v _ _ (all_reserved_there v v (λ a i. refl) k m h)

  -- ---- a call

  module _ (start : State) (is : where_of start ≡ v) (l : List ℕ) (back : Option ℕ) (D : State → Type 0)
      (into : (mask : ℕ) → entry_mask (slice_get start.items (next_item start.items (label_place start.items l))) ≡ Some mask → (f : Frame) → f.back ≡ back → (n : State)
      → n.place ≡ next_item start.items (label_place start.items l) + 1 → n.frames ≡ start.frames ++ f ∷ [] → D n) where
    abbrev entry : ℕ
    entry = next_item start.items (label_place start.items l)

    abbrev frame_of : ℕ → ℕ → ℕ → State → Frame
    frame_of mask at top n = record { fp = reg n Sp; top = top; ap = at; mask = mask; saved = n.registers; back = back }

    entered_comes : (mask : ℕ) → entry_mask (slice_get start.items entry) ≡ Some mask → (at top : ℕ) (n : State) → where_of n ≡ v → AfterState D (entered n at top mask (entry + 1) back)
    entered_comes mask e at top n k = by (nat_le 4096 (length n.frames))
      where
        by : (full : Bool) → AfterState D (cond full (Err stack_full) (Ok (record n {
          frames = n.frames ++ frame_of mask at top n ∷ [];
          registers = slice_set (slice_set n.registers 13 (reg n Sp)) 12 at;
          conditions = cleared;
          place = entry + 1;
        })))
        by true = tt
        by false = into mask e (frame_of mask at top n) refl _ refl (ap (λ (x : Where). x.frames ++ frame_of mask at top n ∷ []) (k ∙ sym is))

    framed_comes : (o : Option ℕ) → entry_mask (slice_get start.items entry) ≡ o → (at : ℕ) (n : State) → where_of n ≡ v → AfterState D (framed n at o entry back)
    framed_comes None e at n k = tt
    framed_comes (Some mask) e at n k =
        after_then D (λ (x : State). all_reserved (count_ones mask + 5) x >>= λ (y : State). entered y at (at - at % 4) mask (entry + 1) back) (register_set n Sp (at - at % 4))
        (less_state Stays _ _
        (λ x g. after_then D (λ (y : State). entered y at (at - at % 4) mask (entry + 1) back) (all_reserved (count_ones mask + 5) x)
        (less_state Stays _ _ (λ y f. entered_comes mask e at (at - at % 4) y f) (reserved_stays x g (count_ones mask + 5))))
        (set_stays n k (at - at % 4)))

    framed_here : (n : State) → where_of n ≡ v → (u w : Where) → u ≡ where_of start → w ≡ where_of start
        → AfterState D (framed n (reg n Sp) (entry_mask (slice_get u.items (next_item u.items (label_place w.items l)))) (next_item u.items (label_place w.items l)) back)
    framed_here n k u w e f =
        subst (λ (x : Where). AfterState D (framed n (reg n Sp) (entry_mask (slice_get x.items (next_item x.items (label_place w.items l)))) (next_item x.items (label_place w.items l)) back)) (sym e)
        (subst (λ (x : Where). AfterState D (framed n (reg n Sp) (entry_mask (slice_get start.items (next_item start.items (label_place x.items l))))
        (next_item start.items (label_place x.items l)) back)) (sym f)
        (framed_comes (entry_mask (slice_get start.items entry)) refl (reg n Sp) n k))

    pub called_comes : (m : State) → where_of m ≡ v → (count : ℕ) → AfterState D (called m count (label_place m.items l) back)
    unfolding called
    called_comes m h count =
        after_then D (λ (n : State). framed n (reg n Sp) (entry_mask (slice_get n.items (next_item n.items (label_place m.items l)))) (next_item n.items (label_place m.items l)) back) (pushed m count)
        (less_state Stays _ _ (λ n k. framed_here n k (where_of n) (where_of m) (k ∙ sym is) (h ∙ sym is)) (pushed_stays m h count))

  -- ---- where an instruction comes to, from a machine that stays behind it

  module _ (start : State) (is : where_of start ≡ v) (action : Action) (target : Option (List ℕ)) where
    abbrev C : State → Type 0
    C n = Comes start n action target

    -- the same place and frames
    here : (n : State) → where_of n ≡ v → C n
    here n h = at_behind (ap (λ (x : Where). x.place) (h ∙ sym is)) (ap (λ (x : Where). x.frames) (h ∙ sym is))

    -- where only codes or registers are set
    here_too : (n k : State) → where_of n ≡ v → k.place ≡ n.place → k.frames ≡ n.frames → C k
    here_too n k h e f = at_behind (e ∙ ap (λ (x : Where). x.place) (h ∙ sym is)) (f ∙ ap (λ (x : Where). x.frames) (h ∙ sym is))

    module _ (m : State) (h : where_of m ≡ v) where
      finished_comes : (d : Option Destination) (c : Option Computed) → After C (finished m d c)
      finished_comes d None = tt
      finished_comes d (Some c) = after_state C None (λ n. with_conditions n c.conditions) (stored m d c.value)
          (less_state Stays _ _ (λ n k. here_too n (with_conditions n c.conditions) k refl refl) (stored_stays m h d c.value))

      pushing_comes : (x : ℕ) → After C (pushing m x)
      pushing_comes x =
          after_state C None (λ n. with_conditions n (valued Long x m.conditions.carry).conditions) (pushed m x)
          (less_state Stays _ _ (λ n k. here_too n (with_conditions n (valued Long x m.conditions.carry).conditions) k refl refl) (pushed_stays m h x))

      by_count : (c : Bool) (t : Acts) → After C t → After C (cond c t (Err bad_code))
      by_count true t k = k
      by_count false t k = tt

      putchar_comes : (count : ℕ) → After C (putchar m count)
      unfolding putchar
      putchar_comes count =
          by_count (count == 1) _
          (after_value C (λ (x : ℕ). register_set m Sp (add32 (reg m Sp) 4) >>= λ (n : State). Ok (Some (x % 2 ^ 8), with_conditions (with_reg n R0 (x % 2 ^ 8)) cleared)) (read m (reg m Sp) Long)
          (λ x. after_state C (Some (x % 2 ^ 8)) (λ n. with_conditions (with_reg n R0 (x % 2 ^ 8)) cleared) (register_set m Sp (add32 (reg m Sp) 4))
          (less_state Stays _ _ (λ n k. here_too n (with_conditions (with_reg n R0 (x % 2 ^ 8)) cleared) k refl refl) (set_stays m h (add32 (reg m Sp) 4)))))

      got_comes : (input : List ℕ) → C (got m input)
      got_comes [] = here_too m (got m []) h refl refl
      got_comes (b ∷ rest) = here_too m (got m (b ∷ rest)) h refl refl

      getchar_comes : (count : ℕ) → After C (getchar m count)
      unfolding getchar
      getchar_comes count = by_count (count == 0) _ (got_comes m.input)

      branched_comes : (t : Test) → action ≡ Branch t → (taken : Bool) → After C (branched m taken target)
      branched_comes test act taken = by target refl taken
        where
          by : (t : Option (List ℕ)) → target ≡ t → (b : Bool) → After C (branched m b t)
          by None e b = tt
          by (Some l) e false = here m h
          by (Some l) e true =
              ToLabel test l act e (ap (λ (x : Where). label_place x.items l) (h ∙ sym is)) (ap (λ (x : Where). x.frames) (h ∙ sym is))

      silent_comes : (t : Result State Stop) → AfterState C t → After C (silent t)
      silent_comes (Ok n) k = k
      silent_comes (Err e) k = tt

      call_comes : action ≡ Call → (count : ℕ) → After C (called_by_name m count target)
      unfolding called_by_name
      call_comes call count = by target refl
        where
          which : (l : List ℕ) → target ≡ Some l → (b c : Bool)
              → After C (cond b (putchar m count) (cond c (getchar m count) (silent (called m count (label_place m.items l) (Some m.place)))))
          which l e true c = putchar_comes count
          which l e false true = getchar_comes count
          which l e false false =
              silent_comes _
              (subst (λ (x : Where). AfterState C (called m count (label_place m.items l) (Some x.place))) (is ∙ sym h)
              (called_comes start is l (Some start.place) C (λ mask k f b n p g. Into l mask f call e k p b g) m h count))

          by : (t : Option (List ℕ)) → target ≡ t → After C (called_by_name m count t)
          by None e = tt
          by (Some l) e = which l e (bytes_eq l putchar_name) (bytes_eq l getchar_name)

      frames_same : m.frames ≡ start.frames
      frames_same = ap (λ (x : Where). x.frames) (h ∙ sym is)

      module _ (f : Frame) (last : slice_get m.frames (length m.frames - 1) ≡ Some f) where
        abbrev inside : State
        inside = record m { frames = take (length m.frames - 1) m.frames }

        back_comes : (count : ℕ) (o : Option ℕ) → f.back ≡ o → After C (back_to (left inside f count) o)
        back_comes count None e = tt
        back_comes count (Some place) e =
            Back f (sym (ap (λ (fs : List Frame). slice_get fs (length fs - 1)) frames_same) ∙ last) e (ap (λ (fs : List Frame). take (length fs - 1) fs) frames_same)

        by_fp : (b : Bool) (t : Acts) → After C t → After C (cond b t (Err frame))
        by_fp true t k = k
        by_fp false t k = tt

        from_comes : After C (returned_from m (take (length m.frames - 1) m.frames) (Some f))
        from_comes = by_fp (reg m Fp == f.fp) _ (after_value C (λ (count : ℕ). back_to (left inside f count) f.back) (read inside f.ap Byte) (λ count. back_comes count f.back refl))

      returned_comes : After C (returned m)
      unfolding returned
      returned_comes = by (slice_get m.frames (length m.frames - 1)) refl
        where
          by : (o : Option Frame) → slice_get m.frames (length m.frames - 1) ≡ o → After C (returned_from m (take (length m.frames - 1) m.frames) o)
          by None e = tt
          by (Some f) e = from_comes f e

      acted_comes : (a : Action) → action ≡ a → (x : Arguments) → After C (acted a x target m)
      acted_comes (Compute f) e x = finished_comes x.destination (applied f x.first x.second m.conditions.carry)
      acted_comes Push e x = pushing_comes x.first
      acted_comes (Branch t) e x = branched_comes t e (passes t m.conditions)
      acted_comes Call e x = call_comes e x.first
      acted_comes Return e x = returned_comes

pub instruction_comes : (m : State) (i : Instr) → After (λ n. Comes m n (action_of i.op) i.target) (instruction m i.op i.operands i.target)
unfolding instruction
instruction_comes m i =
    after_pair (λ n. Comes m n (action_of i.op) i.target) (λ (x : Arguments × State). acted (action_of i.op) x.0 i.target x.1) (all_evaluated (shape i.op).operands i.operands m)
    (after_less (λ n. where_of n ≡ where_of m) _ (all_evaluated (shape i.op).operands i.operands m) (λ n h x. acted_comes (where_of m) m refl (action_of i.op) i.target n h (action_of i.op) refl x)
    (carried_after (where_of m) (where_of m) _ _ (all_there (where_of m) (where_of m) (λ a k. refl) (shape i.op).operands i.operands m refl)))

-- where the step of a machine comes to whose next item is this instruction
pub act_comes : (m : State) (i : Instr) → slice_get m.items (next_item m.items m.place) ≡ Some (item_kind.Instr i)
    → After (λ n. Comes (record m { place = next_item m.items m.place + 1 }) n (action_of i.op) i.target) (act m)
unfolding act
act_comes m i here =
    subst (λ (o : Option CodeItem). After (λ n. Comes (record m { place = next_item m.items m.place + 1 }) n (action_of i.op) i.target) (at_item o (next_item m.items m.place) m)) (sym here)
    (instruction_comes (record m { place = next_item m.items m.place + 1 }) i)
