-- Code without needless tests behaves alike, where results test again.
use Rattle.std.proofs.Common.{◌≡◌, ◌⊎◌, inl, inr, ℕ, zero, suc, ◌+◌, ◌-◌, ◌<◌, ◌≤◌, Bool, true, false, cond, List, []}
use Rattle.std.proofs.Common.{◌∷◌, ◌++◌, length, drop, take, Option, Some, None, Result, Ok, Err, refl, sym, ap, subst, ◌∙◌, arith}
use Rattle.std.specs.Prelude.{◌||◌, slice_get}
use Rattle.std.specs.Str.{bytes_eq}
use Rattle.std.proofs.lemmas.List.{drop-drop}
use Rattle.std.proofs.lemmas.Bool.{true≢false}
use Rattle.gg_base.proofs.Facts.{false_true, none_or_some, some_none}
use Rattle.vax_core.specs.declared.op.Op.{Op}
use Rattle.vax_core.specs.Ops.{shape}
use Rattle.vax_core.specs.declared.code.Code.{Code}
use Rattle.vax_core.specs.declared.code.Instr.{Instr}
use Rattle.vax_core.specs.declared.code.CodeItem.{CodeItem}
use Rattle.vax_core.specs.declared.code.CodeItem.TheVariants as item_kind
use Rattle.vax_core.specs.Valid.{is_code}
use Rattle.vax_machine_live.specs.declared.frame.Frame.{Frame}
use Rattle.vax_machine.specs.declared.turn.Stop.{Stop}
use Rattle.vax_machine.specs.declared.function.Action.{Action}
use Rattle.vax_machine.specs.declared.function.Action.TheVariants.{Compute, Push, Branch, Call, Return}
use Rattle.vax_machine.specs.declared.function.Test.{Test}
use Rattle.vax_machine.specs.declared.function.Function.{Function}
use Rattle.vax_machine.specs.declared.function.Function.TheVariants as functions
use Rattle.vax_machine.specs.State.{State, bad_code}
use Rattle.vax_machine.specs.Functions.{action_of}
use Rattle.vax_machine.specs.Labels.{skipped, next_item, is_label, has_label, label_place, is_call, undefined_target}
use Rattle.vax_machine.specs.Step.{step_of, act, next_of, next_where, at_item}
use Rattle.vax_machine.specs.Calls.{Acts, entry_mask, called}
use Rattle.vax_machine.specs.Loading.{Loads, blank, begun, start}
use Rattle.vax_machine_lists.specs.Sound.{AllBelow, IsRunning, Behind}
use Rattle.vax_alike.specs.Corresponding.{Standing, Somewhere, keeps_carry, is_instr, Targets, Carries, Stays, Meets, Neither, Both, Alone, EnterAlike, Correspond}
use Rattle.vax_alike.specs.Alike.{Alike}
use Rattle.vax_alike.proofs.Beginning.{corresponding_runs_are_alike}
use Rattle.vax_passes.specs.Thinned.{Thinned}
use Rattle.vax_passes.specs.Thinned.{nothing as thin_nothing, kept as thin_kept, dropped as thin_dropped}
use Rattle.vax_passes.proofs.Suffixes.{one_on, get_on, get_behind, get_inside, ahead, next_head, next_none, next_behind, next_same}
use Rattle.vax_passes.proofs.Thinning.{thinned_loads, has_main, names_defined, instr_defined, target_there}
use Rattle.vax_codes.specs.Carry.{AsksCarry, IsCarrySet}
use Rattle.vax_codes.specs.Needless.{function_clears, ends_written, IsNeedless, Untested, none, kept, dropped, Tests, ResultsTestAgain}
use Rattle.vax_codes.proofs.Coming.{Comes, at_behind, ToLabel, Into, Back, After, AfterState, act_comes, called_comes}
use Rattle.vax_alike.proofs.Placing.{where_of}
use Rattle.vax_machine_lists.proofs.Soundness.{steps_stay_sound}
use Rattle.vax_machine_lists.proofs.Beginning.{runs_begin_sound}
use Rattle.vax_core.specs.First.{main_name}

-- no function both keeps C and clears it
pub keeps_or_clears : (f : Function) → keeps_carry f ≡ true → function_clears f ≡ true → ⊥
keeps_or_clears (functions.Copy size) e h = true≢false (sym h)
keeps_or_clears functions.Clear e h = true≢false (sym h)
keeps_or_clears functions.Negate e h = true≢false (sym e)
keeps_or_clears functions.Complement e h = true≢false (sym h)
keeps_or_clears (functions.SignExtend size) e h = true≢false (sym e)
keeps_or_clears (functions.Truncate size) e h = true≢false (sym e)
keeps_or_clears functions.Add e h = true≢false (sym e)
keeps_or_clears functions.Subtract e h = true≢false (sym e)
keeps_or_clears functions.Multiply e h = true≢false (sym e)
keeps_or_clears functions.Divide e h = true≢false (sym e)
keeps_or_clears functions.Increment e h = true≢false (sym e)
keeps_or_clears functions.Decrement e h = true≢false (sym e)
keeps_or_clears functions.BitSet e h = true≢false (sym h)
keeps_or_clears functions.BitClear e h = true≢false (sym h)
keeps_or_clears functions.ExclusiveOr e h = true≢false (sym h)
keeps_or_clears functions.BitTest e h = true≢false (sym h)
keeps_or_clears functions.Shift e h = true≢false (sym e)
keeps_or_clears (functions.Compare size) e h = true≢false (sym e)
keeps_or_clears (functions.CompareWithZero size) e h = true≢false (sym e)

some_same : (x y : CodeItem) (o : Option CodeItem) → o ≡ Some x → o ≡ Some y → x ≡ y
some_same x y o e h = let f : ◌≡◌ {A = Option CodeItem} (Some x) (Some y) = sym e ∙ h in cc

same_instr : (i j : Instr) → item_kind.Instr i ≡ item_kind.Instr j → i ≡ j
same_instr i j e = cc

-- where a label stands, no instruction does
label_or_instr : (n : List ℕ) (i : Instr) → item_kind.Label n ≡ item_kind.Instr i → ⊥
label_or_instr n i e = absurd cc

-- among labels and `.globl` lines stands no instruction
no_instr : (s : List CodeItem) (x : ℕ) (i : Instr) → x < skipped s → slice_get s x ≡ Some (item_kind.Instr i) → ⊥
no_instr (item_kind.Label n ∷ s) zero i lt e = absurd cc
no_instr (item_kind.Label n ∷ s) (suc x) i lt e = no_instr s x i (omega (arith, lt)) e
no_instr (item_kind.Globl n ∷ s) zero i lt e = absurd cc
no_instr (item_kind.Globl n ∷ s) (suc x) i lt e = no_instr s x i (omega (arith, lt)) e
no_instr _ x i lt e = absurd (omega (arith, lt))

nothing_next : (o : Option CodeItem) (place : ℕ) (m : State) → is_instr o ≡ false → at_item o place m ≡ Err bad_code
nothing_next None place m e = refl
nothing_next (Some (item_kind.Label n)) place m e = refl
nothing_next (Some (item_kind.Globl n)) place m e = refl
nothing_next (Some (item_kind.Mask k)) place m e = refl
nothing_next (Some (item_kind.Instr i)) place m e = absurd cc

module _ (R : ℕ → Type 0) (cs : List CodeItem) where
  thin : {at k : ℕ} {c d : List CodeItem} → Untested R cs at k c d → Thinned k c d
  thin none = thin_nothing
  thin (kept x r) = thin_kept x (thin r)
  thin (dropped i h r) = thin_dropped i (thin r)

  -- ---- what comes next

  data Ahead (at : ℕ) (c d : List CodeItem) : Type 0 where
    End : ahead c ≡ [] → ahead d ≡ [] → Ahead at c d
    AtMask : (m k pos : ℕ) (x y : List CodeItem) → pos ≡ at + skipped c → ahead c ≡ item_kind.Mask m ∷ x → ahead d ≡ item_kind.Mask m ∷ y → Untested R cs (suc pos) k x y → Ahead at c d
    AtInstr : (i : Instr) (k pos : ℕ) (x y : List CodeItem) → pos ≡ at + skipped c → ahead c ≡ item_kind.Instr i ∷ x → ahead d ≡ item_kind.Instr i ∷ y → Untested R cs (suc pos) k x y → Ahead at c d
    AtTest : (i : Instr) (j k pos : ℕ) (x : List CodeItem) → pos ≡ at + skipped c → ahead c ≡ item_kind.Instr i ∷ x → IsNeedless R cs pos → j ≤ skipped d → Untested R cs (suc pos) k x (drop j d)
        → Ahead at c d

  behind_two : (at : ℕ) (x y : CodeItem) (c d : List CodeItem) → ahead (x ∷ c) ≡ ahead c → ahead (y ∷ d) ≡ ahead d → skipped (x ∷ c) ≡ skipped c + 1 → skipped (y ∷ d) ≡ skipped d + 1
      → Ahead (suc at) c d → Ahead at (x ∷ c) (y ∷ d)
  behind_two at x y c d e f g h (End a b) = End (e ∙ a) (f ∙ b)
  behind_two at x y c d e f g h (AtMask m k pos s t is a b r) = AtMask m k pos s t (omega (arith, is, g)) (e ∙ a) (f ∙ b) r
  behind_two at x y c d e f g h (AtInstr i k pos s t is a b r) = AtInstr i k pos s t (omega (arith, is, g)) (e ∙ a) (f ∙ b) r
  behind_two at x y c d e f g h (AtTest i j k pos s is a n le r) = AtTest i (suc j) k pos s (omega (arith, is, g)) (e ∙ a) n (omega (arith, le, h)) r

  ahead_of : {at k : ℕ} {c d : List CodeItem} → Untested R cs at k c d → Ahead at c d
  ahead_of none = End refl refl
  ahead_of (kept {at = at} {c = c} {d = d} (item_kind.Label n) r) = behind_two at (item_kind.Label n) (item_kind.Label n) c d (one_on _ c (skipped c)) (one_on _ d (skipped d)) refl refl (ahead_of r)
  ahead_of (kept {at = at} {c = c} {d = d} (item_kind.Globl n) r) = behind_two at (item_kind.Globl n) (item_kind.Globl n) c d (one_on _ c (skipped c)) (one_on _ d (skipped d)) refl refl (ahead_of r)
  ahead_of (kept {at = at} {k = k} {c = c} {d = d} (item_kind.Mask m) r) = AtMask m k at c d (omega arith) refl refl r
  ahead_of (kept {at = at} {k = k} {c = c} {d = d} (item_kind.Instr i) r) = AtInstr i k at c d (omega arith) refl refl r
  ahead_of (dropped {at = at} {k = k} {c = c} {d = d} i h r) = AtTest i 0 k at c (omega arith) refl h (omega arith) r

  -- ---- where a label stands

  Found : ℕ → List ℕ → List CodeItem → List CodeItem → Type 0
  Found at n c d = (j : ℕ) × Untested R cs (at + label_place c n) j (drop (label_place c n) c) (drop (label_place d n) d)

  found_by : (at : ℕ) (x : CodeItem) (n : List ℕ) (k : ℕ) (c d : List CodeItem) → Untested R cs (suc at) k c d → (has_label c n ≡ true → Found (suc at) n c d) → (b : Bool)
      → (b || has_label c n) ≡ true
      → (j : ℕ) × Untested R cs (at + cond b 0 (label_place c n + 1)) j (drop (cond b 0 (label_place c n + 1)) (x ∷ c)) (drop (cond b 0 (label_place d n + 1)) (x ∷ d))
  unfolding Found
  found_by at x n k c d r go true e = (k, (let z : at ≡ at + 0 = omega arith in subst (λ (y : ℕ). Untested R cs y k (x ∷ c) (x ∷ d)) z (kept x r)))
  found_by at x n k c d r go false e =
      let f = go e in
      let z : suc at + label_place c n ≡ at + (label_place c n + 1) = omega arith in (
        f.0,
        subst (λ (y : ℕ). Untested R cs y f.0 (drop (label_place c n + 1) (x ∷ c)) (drop (label_place d n + 1) (x ∷ d))) z
            (subst (λ (s : List CodeItem). Untested R cs (suc at + label_place c n) f.0 s (drop (label_place d n + 1) (x ∷ d))) (sym (one_on x c (label_place c n)))
            (subst (λ (s : List CodeItem). Untested R cs (suc at + label_place c n) f.0 (drop (label_place c n) c) s) (sym (one_on x d (label_place d n))) f.1)),
      )

  found : {at k : ℕ} {c d : List CodeItem} (n : List ℕ) → Untested R cs at k c d → has_label c n ≡ true → Found at n c d
  unfolding Found
  found n none e = false_true e
  found n (kept {at = at} {k = k} {c = c} {d = d} x r) e = found_by at x n k c d r (found n r) (is_label x n) e
  found n (dropped {at = at} {c = c} {d = d} i h r) e =
      let f = found n r e in
      let z : suc at + label_place c n ≡ at + (label_place c n + 1) = omega arith in (
        f.0,
        subst (λ (y : ℕ). Untested R cs y f.0 (drop (label_place c n + 1) (item_kind.Instr i ∷ c)) (drop (label_place d n) d)) z
            (subst (λ (s : List CodeItem). Untested R cs (suc at + label_place c n) f.0 s (drop (label_place d n) d)) (sym (one_on (item_kind.Instr i) c (label_place c n))) f.1),
      )

-- ---- the places of both codes

module _ (c d : Code) (area : d.area ≡ c.area) (R : ℕ → Type 0) (asks : IsCarrySet R c.items) (total : ℕ) (whole : Untested R c.items 0 total c.items d.items) where
  abbrev cs : List CodeItem
  cs = c.items

  abbrev ds : List CodeItem
  ds = d.items

  -- C may be read, or it is 0 on both sides and will be
  abbrev Reads : ℕ → Type 0
  Reads p = R p ⊎ ((h : IsNeedless R cs p) × (function_clears h.function ≡ true))

  -- no call comes back to a needless test
  abbrev AreOpen : List Frame → Type 0
  AreOpen [] = Unit {0}
  AreOpen (f ∷ fs) = ((p : ℕ) → f.back ≡ Some p → IsNeedless R cs p → ⊥) × AreOpen fs

  open_front : (n : ℕ) (fs : List Frame) → AreOpen fs → AreOpen (take n fs)
  open_front zero fs h = tt
  open_front (suc n) [] h = tt
  open_front (suc n) (f ∷ fs) h = (h.0, open_front n fs h.1)

  open_one : (n : ℕ) (fs : List Frame) (f : Frame) → AreOpen fs → slice_get fs n ≡ Some f → (p : ℕ) → f.back ≡ Some p → IsNeedless R cs p → ⊥
  open_one zero [] f h e p b = absurd (some_none f (sym e))
  open_one (suc n) [] f h e p b = absurd (some_none f (sym e))
  open_one zero (g ∷ fs) f h e p b = let same : g ≡ f = cc in h.0 p (ap (λ (x : Frame). x.back) same ∙ b)
  open_one (suc n) (g ∷ fs) f h e p b = open_one n fs f h.1 e p b

  open_more : (fs : List Frame) (f : Frame) → AreOpen fs → ((p : ℕ) → f.back ≡ Some p → IsNeedless R cs p → ⊥) → AreOpen (fs ++ f ∷ [])
  open_more [] f h k = (k, tt)
  open_more (g ∷ fs) f h k = (h.0, open_more fs f h.1 k)

  record IsReady (m : State) : Type 0 where
    running : IsRunning m
    backs : AreOpen m.frames
    tests : (h : IsNeedless R cs m.place) → Tests m × (function_clears h.function ≡ true → m.conditions.carry ≡ false)

  record Here (k p q : ℕ) : Type 0 where
    place : ℕ
    number : ℕ
    items : Untested R cs p number (drop p cs) (drop place ds)
    next : next_item ds place ≡ next_item ds q
    left : k ≡ length cs - p

  abbrev At : Standing
  At k p q = Here k p q

  -- ---- where C may be read

  down : (p x : ℕ) → x ≤ skipped (drop p cs) → R (p + x) → R p
  down p zero le r = let e : p + 0 ≡ p = omega arith in subst R e r
  down p (suc x) le r = down p x (omega (arith, le)) (one (slice_get cs (p + x)) refl (let e : p + suc x ≡ p + x + 1 = omega arith in subst R e r))
    where
      one : (o : Option CodeItem) → slice_get cs (p + x) ≡ o → R (p + x + 1) → R (p + x)
      one None e r = absurd (no_end (drop p cs) x (omega (arith, le)) (get_behind cs p x ∙ e))
        where
          no_end : (s : List CodeItem) (y : ℕ) → y < skipped s → slice_get s y ≡ None → ⊥
          no_end [] y lt e = absurd (omega (arith, lt))
          no_end (item_kind.Label n ∷ s) zero lt e = some_none _ e
          no_end (item_kind.Label n ∷ s) (suc y) lt e = no_end s y (omega (arith, lt)) e
          no_end (item_kind.Globl n ∷ s) zero lt e = some_none _ e
          no_end (item_kind.Globl n ∷ s) (suc y) lt e = no_end s y (omega (arith, lt)) e
          no_end (item_kind.Mask m ∷ s) y lt e = absurd (omega (arith, lt))
          no_end (item_kind.Instr j ∷ s) y lt e = absurd (omega (arith, lt))
      one (Some (item_kind.Label n)) e r = asks.labels (p + x) n e r
      one (Some (item_kind.Globl n)) e r = asks.globls (p + x) n e r
      one (Some (item_kind.Mask m)) e r = absurd (no_mask (drop p cs) x m (omega (arith, le)) (get_behind cs p x ∙ e))
        where
          no_mask : (s : List CodeItem) (y m : ℕ) → y < skipped s → slice_get s y ≡ Some (item_kind.Mask m) → ⊥
          no_mask [] y m lt e = absurd (omega (arith, lt))
          no_mask (item_kind.Label n ∷ s) zero m lt e = absurd cc
          no_mask (item_kind.Label n ∷ s) (suc y) m lt e = no_mask s y m (omega (arith, lt)) e
          no_mask (item_kind.Globl n ∷ s) zero m lt e = absurd cc
          no_mask (item_kind.Globl n ∷ s) (suc y) m lt e = no_mask s y m (omega (arith, lt)) e
          no_mask (item_kind.Mask k ∷ s) y m lt e = absurd (omega (arith, lt))
          no_mask (item_kind.Instr j ∷ s) y m lt e = absurd (omega (arith, lt))
      one (Some (item_kind.Instr i)) e r = absurd (no_instr (drop p cs) x i (omega (arith, le)) (get_behind cs p x ∙ e))

  down_next : (p : ℕ) → R (next_item cs p) → R p
  down_next p r = down p (skipped (drop p cs)) (omega arith) r

  -- what comes behind an instruction that leaves C
  behind_reads : (p : ℕ) (i : Instr) → slice_get cs (next_item cs p) ≡ Some (item_kind.Instr i) → (f : Function) → action_of i.op ≡ Compute f → keeps_carry f ≡ true → Reads (next_item cs p + 1)
      → R (next_item cs p + 1)
  behind_reads p i here f act keeps (inl r) = r
  behind_reads p i here f act keeps (inr h) =
      let at : h.0.before ≡ next_item cs p = (let e = h.0.place in omega (arith, e)) in
      let same : i ≡ h.0.writer = same_instr i h.0.writer (some_same _ _ (slice_get cs (next_item cs p)) here (sym (ap (λ (x : ℕ). slice_get cs x) at) ∙ h.0.first)) in
      let g : f ≡ h.0.function = same_function f h.0.function (sym act ∙ ap (λ (x : Instr). action_of x.op) same ∙ h.0.computes) in
      absurd (keeps_or_clears f keeps (ap function_clears g ∙ h.1))
    where
      same_function : (f g : Function) → Compute f ≡ Compute g → f ≡ g
      same_function f g e = cc

  -- an instruction that computes nothing has no needless test behind it
  no_test : (p : ℕ) (i : Instr) → slice_get cs p ≡ Some (item_kind.Instr i) → ((f : Function) → action_of i.op ≡ Compute f → ⊥) → IsNeedless R cs (p + 1) → ⊥
  no_test p i here other h =
      let at : h.before ≡ p = (let e = h.place in omega (arith, e)) in
      let same : i ≡ h.writer = same_instr i h.writer (some_same _ _ (slice_get cs p) here (sym (ap (λ (x : ℕ). slice_get cs x) at) ∙ h.first)) in
      other h.function (ap (λ (x : Instr). action_of x.op) same ∙ h.computes)

  only_read : (p : ℕ) → (IsNeedless R cs p → ⊥) → Reads p → R p
  only_read p none_here (inl r) = r
  only_read p none_here (inr h) = absurd (none_here h.0)

  -- a label stands where its place is
  label_at : (xs : List CodeItem) (l : List ℕ) → has_label xs l ≡ true → (n : List ℕ) × (slice_get xs (label_place xs l) ≡ Some (item_kind.Label n))
  label_at [] l e = false_true e
  label_at (item_kind.Label n ∷ xs) l e = by (bytes_eq n l) (λ f. label_at xs l f) e
    where
      by : (b : Bool) → (has_label xs l ≡ true → (k : List ℕ) × (slice_get xs (label_place xs l) ≡ Some (item_kind.Label k))) → (b || has_label xs l) ≡ true
          → (k : List ℕ) × (slice_get (item_kind.Label n ∷ xs) (cond b 0 (label_place xs l + 1)) ≡ Some (item_kind.Label k))
      by true go e = (n, refl)
      by false go e = let h = go e in (h.0, get_on _ xs (label_place xs l) ∙ h.1)
  label_at (item_kind.Globl n ∷ xs) l e = let h = label_at xs l e in (h.0, get_on _ xs (label_place xs l) ∙ h.1)
  label_at (item_kind.Mask n ∷ xs) l e = let h = label_at xs l e in (h.0, get_on _ xs (label_place xs l) ∙ h.1)
  label_at (item_kind.Instr n ∷ xs) l e = let h = label_at xs l e in (h.0, get_on _ xs (label_place xs l) ∙ h.1)

  label_open : (l : List ℕ) → has_label cs l ≡ true → IsNeedless R cs (label_place cs l) → ⊥
  label_open l e h = let n = label_at cs l e in label_or_instr n.0 h.test (some_same _ _ (slice_get cs (label_place cs l)) n.1 h.here)

  mask_or_instr : (m : ℕ) (i : Instr) → item_kind.Mask m ≡ item_kind.Instr i → ⊥
  mask_or_instr m i e = absurd cc

  mask_of : (o : Option CodeItem) (m : ℕ) → entry_mask o ≡ Some m → o ≡ Some (item_kind.Mask m)
  mask_of (Some (item_kind.Mask k)) m e = let f : k ≡ m = cc in ap (λ (x : ℕ). Some (item_kind.Mask x)) f
  mask_of _ m e = absurd (some_none m (sym e))

  mask_open : (p m : ℕ) → entry_mask (slice_get cs p) ≡ Some m → IsNeedless R cs (p + 1) → ⊥
  mask_open p m e h =
      let at : h.before ≡ p = (let f = h.place in omega (arith, f)) in
      mask_or_instr m h.writer (some_same _ _ (slice_get cs p) (mask_of _ m e) (sym (ap (λ (x : ℕ). slice_get cs x) at) ∙ h.first))

  call_computes : (f : Function) → Call ≡ Compute f → ⊥
  call_computes f e = absurd cc

  module _ (loads : Loads c) (again : ResultsTestAgain) where
    -- ---- what holds of each state

    module _ (m : State) (items : m.items ≡ cs) (ready : IsReady m) (i : Instr) (here : slice_get cs (next_item cs m.place) ≡ Some (item_kind.Instr i)) where
      abbrev behind : State
      behind = record m { place = next_item m.items m.place + 1 }

      next_is : next_item m.items m.place ≡ next_item cs m.place
      next_is = ap (λ (xs : List CodeItem). next_item xs m.place) items

      ready_by : (o : Option ℕ) (n : State) → act m ≡ Ok (o, n) → IsRunning n → Comes behind n (action_of i.op) i.target → IsReady n
      ready_by o n acts running (at_behind place frames) = record {
        running = running;
        backs = subst AreOpen (sym frames) ready.backs;
        tests = λ h.
            let g : IsNeedless R m.items n.place = subst (λ (xs : List CodeItem). IsNeedless R xs n.place) (sym items) h in
            again R m n o n.place g ready.running (let e = g.place in omega (arith, e, place)) acts;
      }
      ready_by o n acts running (ToLabel t l act named place frames) =
          let has : has_label cs l ≡ true =
          target_there cs false l (sym (ap (λ (a : Action). undefined_target cs (is_call a) (Some l)) act)
          ∙ sym (ap (λ (u : Option (List ℕ)). undefined_target cs (is_call (action_of i.op)) u) named)
          ∙ instr_defined cs c.area cs (next_item cs m.place) i (names_defined c loads) here) in
          record {
            running = running;
            backs = subst AreOpen (sym frames) ready.backs;
            tests = λ h. absurd (label_open l has (subst (λ (x : ℕ). IsNeedless R cs x) (place ∙ ap (λ (xs : List CodeItem). label_place xs l) items) h));
          }
      ready_by o n acts running (Into l mask f call named entry place back frames) =
          let entry_is : entry_mask (slice_get cs (next_item cs (label_place cs l))) ≡ Some mask =
          sym (ap (λ (xs : List CodeItem). entry_mask (slice_get xs (next_item xs (label_place xs l)))) items) ∙ entry in
          record {
            running = running;
            backs = subst AreOpen (sym frames) (open_more m.frames f ready.backs (λ p b h.
                no_test (next_item cs m.place) i here (λ g e. call_computes g (sym call ∙ e))
                (subst (λ (x : ℕ). IsNeedless R cs x) (same_back (sym b ∙ back) ∙ ap (λ (x : ℕ). x + 1) next_is) h)));
            tests = λ h. absurd (mask_open (next_item cs (label_place cs l)) mask entry_is
                (subst (λ (x : ℕ). IsNeedless R cs x) (place ∙ ap (λ (xs : List CodeItem). next_item xs (label_place xs l) + 1) items) h));
          }
        where
          same_back : {p q : ℕ} → Some p ≡ Some q → p ≡ q
          same_back e = cc
      ready_by o n acts running (Back f last back frames) = record {
        running = running;
        backs = subst AreOpen (sym frames) (open_front (length m.frames - 1) m.frames ready.backs);
        tests = λ h. absurd (open_one (length m.frames - 1) m.frames f ready.backs last n.place back h);
      }

    over_none : (m : State) → m.over ≡ None → step_of m ≡ next_of (act m)
    over_none m e = ap (λ (o : Option Stop). next_where o m) e

    act_on : (m : State) → m.items ≡ cs → (o : Option CodeItem) → slice_get cs (next_item cs m.place) ≡ o → is_instr o ≡ false → act m ≡ Err bad_code
    unfolding act
    act_on m items o here none_there =
        ap (λ (xs : List CodeItem). at_item (slice_get xs (next_item xs m.place)) (next_item xs m.place) m) items
        ∙ ap (λ (x : Option CodeItem). at_item x (next_item cs m.place) m) here
        ∙ nothing_next o (next_item cs m.place) m none_there

    behind_by : (m : State) → m.items ≡ cs → IsReady m → (i : Instr) → slice_get cs (next_item cs m.place) ≡ Some (item_kind.Instr i) → (r : Acts) → act m ≡ r
        → After (λ n. Comes (record m { place = next_item m.items m.place + 1 }) n (action_of i.op) i.target) r → Behind IsRunning (next_of r) → Behind IsReady (next_of r)
    behind_by m items ready i here (Ok (None, n)) e comes running = ready_by m items ready i here None n e running comes
    behind_by m items ready i here (Ok (Some b, n)) e comes running = ready_by m items ready i here (Some b) n e running comes
    behind_by m items ready i here (Err x) e comes running = tt

    next_by : (m : State) → m.items ≡ cs → m.over ≡ None → IsReady m → (o : Option CodeItem) → slice_get cs (next_item cs m.place) ≡ o → Behind IsReady (next_of (act m))
    next_by m items going ready None here = subst (λ (r : Acts). Behind IsReady (next_of r)) (sym (act_on m items _ here refl)) tt
    next_by m items going ready (Some (item_kind.Label n)) here = subst (λ (r : Acts). Behind IsReady (next_of r)) (sym (act_on m items _ here refl)) tt
    next_by m items going ready (Some (item_kind.Globl n)) here = subst (λ (r : Acts). Behind IsReady (next_of r)) (sym (act_on m items _ here refl)) tt
    next_by m items going ready (Some (item_kind.Mask n)) here = subst (λ (r : Acts). Behind IsReady (next_of r)) (sym (act_on m items _ here refl)) tt
    next_by m items going ready (Some (item_kind.Instr i)) here =
        behind_by m items ready i here (act m) refl (act_comes m i (ap (λ (xs : List CodeItem). slice_get xs (next_item xs m.place)) items ∙ here))
        (subst (Behind IsRunning) (over_none m going) (steps_stay_sound m ready.running))

    goes_on : (m : State) → m.items ≡ cs → m.over ≡ None → IsReady m → Behind IsReady (step_of m)
    goes_on m items going ready = subst (Behind IsReady) (sym (over_none m going)) (next_by m items going ready _ refl)

    -- ---- the beginning

    module _ (valid : is_code c ≡ true) (input : List ℕ) (bytes : AllBelow 256 input) where
      abbrev Fits : State → Type 0
      Fits n = AreOpen n.frames × (IsNeedless R cs n.place → ⊥)

      begun_by : (r : Result State Stop) → called (blank c input) 0 (label_place cs main_name) None ≡ r → AfterState Fits r → (start c input).over ≡ None → IsReady (start c input)
      begun_by (Ok n) e fits going =
          let is : start c input ≡ n = ap (begun (blank c input)) e in
          record {
            running = runs_begin_sound c input valid loads bytes going;
            backs = subst (λ (x : State). AreOpen x.frames) (sym is) fits.0;
            tests = λ h. absurd (fits.1 (subst (λ (x : State). IsNeedless R cs x.place) is h));
          }
      begun_by (Err x) e fits going = absurd (some_none x (sym (ap (λ (r : Result State Stop). (begun (blank c input) r).over) e) ∙ going))

      begins : (start c input).over ≡ None → IsReady (start c input)
      begins =
          begun_by _ refl
          (called_comes (where_of (blank c input)) (blank c input) refl main_name None Fits
          (λ mask e f b n place frames. (
            subst AreOpen (sym frames) (open_more [] f tt (λ p g h. absurd (some_none p (sym g ∙ b)))),
            λ h. mask_open (next_item cs (label_place cs main_name)) mask e (subst (λ (x : ℕ). IsNeedless R cs x) place h),
          ))
          (blank c input) refl 0)

    -- ---- places

    tests_at : (m : State) → IsReady m → (p : ℕ) → m.place ≡ p → (h : IsNeedless R cs p) → Tests m × (function_clears h.function ≡ true → m.conditions.carry ≡ false)
    tests_at m ready p e = subst (λ (y : ℕ). (h : IsNeedless R cs y) → Tests m × (function_clears h.function ≡ true → m.conditions.carry ≡ false)) e ready.tests

    labels : (l : List ℕ) → has_label cs l ≡ true → Somewhere At (label_place cs l) (label_place ds l)
    unfolding Found
    labels l e =
        let f = found R cs l whole e in
        let z : 0 + label_place cs l ≡ label_place cs l = omega arith in (
          length cs - label_place cs l,
          record {
            place = label_place ds l;
            number = f.0;
            items = subst (λ (x : ℕ). Untested R cs x f.0 (drop (label_place cs l) cs) (drop (label_place ds l) ds)) z f.1;
            next = refl;
            left = refl;
          },
        )

    -- behind the next items
    on : (p q n pos : ℕ) (x y : CodeItem) (s t : List CodeItem) → pos ≡ p + skipped (drop p cs) → ahead (drop p cs) ≡ x ∷ s → ahead (drop q ds) ≡ y ∷ t → Untested R cs (suc pos) n s t
        → Somewhere At (next_item cs p + 1) (next_item ds q + 1)
    on p q n pos x y s t is a b r =
        let z : suc pos ≡ next_item cs p + 1 = omega (arith, is) in (
          length cs - (next_item cs p + 1),
          record {
            place = next_item ds q + 1;
            number = n;
            items = subst (λ (u : List CodeItem). Untested R cs (next_item cs p + 1) n u (drop (next_item ds q + 1) ds)) (sym (next_behind cs p x s a))
                (subst (λ (u : List CodeItem). Untested R cs (next_item cs p + 1) n s u) (sym (next_behind ds q y t b))
                (subst (λ (k : ℕ). Untested R cs k n s t) z r));
            next = refl;
            left = refl;
          },
        )

    same_targets : (a : Action) (t : Option (List ℕ)) → undefined_target cs (is_call a) t ≡ None → Targets cs ds At Reads IsReady a t t
    same_targets (Compute f) t e = tt
    same_targets Push t e = tt
    same_targets (Branch x) None e = refl
    same_targets (Branch x) (Some l) e = (l, refl, labels l (target_there cs false l e))
    same_targets Call None e = (refl, tt)
    same_targets Call (Some f) e = (refl, target_there cs true f e)
    same_targets Return t e = tt

    push_computes : (f : Function) → Push ≡ Compute f → ⊥
    push_computes f e = absurd cc

    branch_computes : (t : Test) (f : Function) → Branch t ≡ Compute f → ⊥
    branch_computes t f e = absurd cc

    carried : (p : ℕ) (i : Instr) → slice_get cs (next_item cs p) ≡ Some (item_kind.Instr i) → (a : Action) (t : Option (List ℕ)) → action_of i.op ≡ a → undefined_target cs (is_call a) t ≡ None
        → AsksCarry R cs a t (next_item cs p) → Carries cs ds At Reads IsReady a t p (next_item cs p + 1)
    carried p i here (Compute f) t e u ask = λ keeps r. inl (down_next p (ask keeps (behind_reads p i here f e keeps r)))
    carried p i here Push t e u ask = λ r. inl (down_next p (ask (only_read (next_item cs p + 1) (no_test (next_item cs p) i here (λ f g. push_computes f (sym e ∙ g))) r)))
    carried p i here (Branch x) None e u ask = tt
    carried p i here (Branch x) (Some l) e u ask = (
      λ y. inl (down_next p (ask.0 y)),
      λ y r. inl (down_next p (ask.1 y (only_read (next_item cs p + 1) (no_test (next_item cs p) i here (λ f g. branch_computes x f (sym e ∙ g))) r))),
      λ r. inl (down_next p (ask.2 (only_read (label_place cs l) (label_open l (target_there cs false l u)) r))),
    )
    carried p i here Call t e u ask = tt
    carried p i here Return t e u ask = tt

    -- no test stands right behind a needless one
    no_second : (at : ℕ) → IsNeedless R cs at → IsNeedless R cs (at + 1) → ⊥
    no_second at h g =
        let b : g.before ≡ at = (let e = g.place in omega (arith, e)) in
        let same : h.test ≡ g.writer = same_instr h.test g.writer (some_same _ _ (slice_get cs at) h.here (sym (ap (λ (x : ℕ). slice_get cs x) b) ∙ g.first)) in
        true≢false (sym g.writes ∙ ap (λ (x : Op). ends_written (shape x).operands) (sym (ap (λ (x : Instr). x.op) same) ∙ h.tests))

    -- a needless test that is next is here
    test_here : (p pos k : ℕ) → skipped (drop p cs) ≡ k → pos ≡ p + skipped (drop p cs) → IsNeedless R cs pos → pos ≡ p
    test_here p pos zero e is h = omega (arith, e, is)
    test_here p pos (suc x) e is h =
        let b : h.before ≡ p + x = (let f = h.place in omega (arith, e, is, f)) in
        absurd (no_instr (drop p cs) x h.writer (omega (arith, e)) (get_behind cs p x ∙ (sym (ap (λ (y : ℕ). slice_get cs y) b) ∙ h.first)))

    module _ (k p q : ℕ) (h : Here k p q) where
      there : {A : Type 0} (f : Option CodeItem → A) (v : A) → f (slice_get ds (next_item ds h.place)) ≡ v → f (slice_get ds (next_item ds q)) ≡ v
      there f v e = sym (ap (λ (x : ℕ). f (slice_get ds x)) h.next) ∙ e

      some_there : (y : CodeItem) → slice_get ds (next_item ds h.place) ≡ Some y → slice_get ds (next_item ds q) ≡ Some y
      some_there y e = sym (ap (λ (x : ℕ). slice_get ds x) h.next) ∙ e

      on_there : (x : ℕ) → Somewhere At x (next_item ds h.place + 1) → Somewhere At x (next_item ds q + 1)
      on_there x s = subst (λ (y : ℕ). Somewhere At x (y + 1)) h.next s

      module _ (i : Instr) (j n pos : ℕ) (x : List CodeItem) (is : pos ≡ p + skipped (drop p cs)) (a : ahead (drop p cs) ≡ item_kind.Instr i ∷ x) (test : IsNeedless R cs pos)
          (le : j ≤ skipped (drop h.place ds)) (r : Untested R cs (suc pos) n x (drop j (drop h.place ds))) where
        abbrev to : ℕ
        to = next_item cs p + 1

        here_is : pos ≡ p
        here_is = test_here p pos (skipped (drop p cs)) refl is test

        at_p : IsNeedless R cs p
        at_p = subst (λ (y : ℕ). IsNeedless R cs y) here_is test

        to_is : to ≡ p + 1
        to_is = let e = here_is in omega (arith, is, e)

        lands : Here (length cs - to) to q
        lands =
            let z : suc pos ≡ to = omega (arith, is) in
            record {
              place = h.place + j;
              number = n;
              items = subst (λ (u : List CodeItem). Untested R cs to n u (drop (h.place + j) ds)) (sym (next_behind cs p _ x a))
                  (subst (λ (u : List CodeItem). Untested R cs to n x u) (drop-drop j h.place ds)
                  (subst (λ (y : ℕ). Untested R cs y n x (drop j (drop h.place ds))) z r));
              next = next_same ds h.place j le ∙ h.next;
              left = refl;
            }

        fewer : length cs - to < k
        fewer = let inside = get_inside cs (next_item cs p) _ (next_head cs p _ x a) in let left = h.left in omega (arith, inside, left)

        carry_by : (m : State) → (function_clears at_p.function ≡ true → m.conditions.carry ≡ false) → ((function_clears at_p.function ≡ true) ⊎ (R (p + 1) → ⊥)) → Reads (p + 1)
            → Reads p × (false ≡ m.conditions.carry)
        carry_by m zero_so (inl clears) reads = (inr (at_p, clears), sym (zero_so clears))
        carry_by m zero_so (inr never) (inl reads) = absurd (never reads)
        carry_by m zero_so (inr never) (inr second) = absurd (no_second p at_p second.0)

        stays : (m : State) → m.items ≡ cs → m.place ≡ p → m.over ≡ None → IsReady m → Stays cs ds At Reads IsReady m p to
        stays m items place going ready =
            let t = tests_at m ready p place at_p in
            let next : next_item m.items m.place + 1 ≡ to = ap (λ (xs : List CodeItem). next_item xs m.place + 1) items ∙ ap (λ (y : ℕ). next_item cs y + 1) place in
            record {
              conditions = record { negative = m.conditions.negative; is_zero = m.conditions.is_zero; carry = false };
              acts = subst (λ (y : ℕ). act m ≡ Ok (None, record m { place = y; conditions = record { negative = m.conditions.negative; is_zero = m.conditions.is_zero; carry = false } })) next t.0.acts;
              negative = refl;
              zero = refl;
              carry = λ reads. carry_by m t.1 at_p.carry (subst Reads to_is reads);
            }

      meets_by : Ahead R cs p (drop p cs) (drop h.place ds) → Meets cs ds At Reads IsReady k p q
      meets_by (End a b) = Neither (ap is_instr (next_none cs p a)) (there is_instr false (ap is_instr (next_none ds h.place b)))
      meets_by (AtMask m n pos s t is a b r) = Neither (ap is_instr (next_head cs p _ s a)) (there is_instr false (ap is_instr (next_head ds h.place _ t b)))
      meets_by (AtInstr i n pos s t is a b r) =
          let x = next_head cs p _ s a in
          let u = instr_defined cs c.area cs (next_item cs p) i (names_defined c loads) x in
          Both i i x (some_there _ (next_head ds h.place _ t b))
          (record {
            op = refl;
            operands = refl;
            targets = same_targets (action_of i.op) i.target u;
            carries = carried p i x (action_of i.op) i.target refl u (asks.instrs (next_item cs p) i x);
            behind = λ e. on_there _ (on p h.place n pos _ _ s t is a b r);
          })
      meets_by (AtTest i j n pos x is a test le r) = Alone to_place (length cs - to_place) (fewer i j n pos x is a test le r) (lands i j n pos x is a test le r) (stays i j n pos x is a test le r)
        where
          to_place : ℕ
          to_place = next_item cs p + 1

      enters_by : Ahead R cs p (drop p cs) (drop h.place ds) → (IsNeedless R cs p → ⊥) → EnterAlike cs ds At p q
      enters_by (End a b) closed =
          let x = next_none cs p a in
          record { mask = there entry_mask _ (ap entry_mask (next_none ds h.place b)) ∙ sym (ap entry_mask x); behind = λ m e. absurd (none_or_some _ m (ap entry_mask x) e) }
      enters_by (AtMask m n pos s t is a b r) closed = record {
        mask = there entry_mask _ (ap entry_mask (next_head ds h.place _ t b)) ∙ sym (ap entry_mask (next_head cs p _ s a));
        behind = λ z e. on_there _ (on p h.place n pos _ _ s t is a b r);
      }
      enters_by (AtInstr i n pos s t is a b r) closed =
          let x = next_head cs p _ s a in
          record { mask = there entry_mask _ (ap entry_mask (next_head ds h.place _ t b)) ∙ sym (ap entry_mask x); behind = λ m e. absurd (none_or_some _ m (ap entry_mask x) e) }
      enters_by (AtTest i j n pos x is a test le r) closed = absurd (closed (at_p i j n pos x is a test le r))

    stand : is_code c ≡ true → Correspond c d At Reads IsReady
    stand valid = record {
      area = area;
      main = has_main c loads;
      enters = λ l e. (let s = labels l e in enters_by s.0 _ _ s.1 (ahead_of R cs s.1.items) (label_open l e));
      meets = λ k p q at. meets_by k p q at (ahead_of R cs at.items);
      begins = λ input bytes going. begins valid input bytes going;
      goes_on = goes_on;
    }

  -- Code without needless tests behaves alike.
  pub untested_alike : is_code c ≡ true → ResultsTestAgain → Alike c d
  untested_alike valid again = record {
    loads = thinned_loads total c d area (thin R cs whole);
    runs = λ loads input bytes. corresponding_runs_are_alike At Reads IsReady c d (stand loads again valid) input bytes;
  }
