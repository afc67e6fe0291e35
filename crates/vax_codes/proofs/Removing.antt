-- Code without one needless test: the places that stay, and where C may be read there.
use Rattle.std.proofs.Common.{◌≡◌, ◌⊎◌, inl, inr, ℕ, zero, suc, ◌+◌, Bool, true, false, cond, List, [], ◌∷◌, ◌++◌, length, Option, Some, None, refl, sym, ap, subst, ◌∙◌, arith}
use Rattle.std.specs.Prelude.{slice_get}
use Rattle.std.proofs.lemmas.Bool.{true≢false}
use Rattle.gg_base.specs.declared.size.Size.TheVariants.{Long}
use Rattle.vax_core.specs.declared.code.Instr.{Instr}
use Rattle.vax_core.specs.declared.code.CodeItem.{CodeItem}
use Rattle.vax_core.specs.declared.code.CodeItem.TheVariants as item_kind
use Rattle.vax_machine.specs.declared.function.Action.{Action}
use Rattle.vax_machine.specs.declared.function.Action.TheVariants.{Compute, Push, Branch, Call, Return}
use Rattle.vax_machine.specs.declared.function.Function.{Function}
use Rattle.vax_machine.specs.declared.function.Function.TheVariants as functions
use Rattle.vax_machine.specs.Functions.{action_of}
use Rattle.vax_machine.specs.Labels.{is_label, label_place}
use Rattle.vax_alike.specs.Corresponding.{keeps_carry}
use Rattle.vax_codes.specs.Carry.{AsksCarry, IsCarrySet, MayRead, asked, at_label, at_globl, kept_by, pushed_by, passed_by, gone_to}
use Rattle.vax_codes.specs.Needless.{function_clears, IsNeedless}
use Rattle.vax_codes.proofs.Untesting.{keeps_or_clears}
use Rattle.vax_codes.proofs.Marking.{same_or_not}

-- the place in a list with one item more in front of place i
abbrev pub skip : ℕ → ℕ → ℕ
skip zero p = suc p
skip (suc i) zero = zero
skip (suc i) (suc p) = suc (skip i p)

-- one place on, but at the seam
skip_on : (i p : ℕ) → (p + 1 ≡ i → ⊥) → skip i (p + 1) ≡ skip i p + 1
skip_on zero p apart = omega arith
skip_on (suc zero) zero apart = absurd (apart (omega arith))
skip_on (suc (suc i)) zero apart = omega arith
skip_on (suc i) (suc p) apart =
    let e : suc p + 1 ≡ suc (p + 1) = omega arith in
    let h = skip_on i p (λ z. apart (omega (arith, z))) in
    ap (λ (k : ℕ). skip (suc i) k) e ∙ omega (arith, h)

-- at the seam
skip_seam : (i p : ℕ) → p + 1 ≡ i → (skip i p ≡ p) × (skip i (p + 1) ≡ i + 1)
skip_seam zero p e = absurd (omega (arith, e))
skip_seam (suc i) zero e = let z : i ≡ 0 = omega (arith, e) in (refl, ap (λ (k : ℕ). suc (skip k zero)) z ∙ omega (arith, z))
skip_seam (suc i) (suc p) e =
    let h = skip_seam i p (omega (arith, e)) in
    let f : suc p + 1 ≡ suc (p + 1) = omega arith in
    (ap suc h.0, ap (λ (k : ℕ). skip (suc i) k) f ∙ (let g = h.1 in omega (arith, g)))

is_seam : (p i : ℕ) → (p + 1 ≡ i) ⊎ (p + 1 ≡ i → ⊥)
is_seam p i = same_or_not (p + 1) i

module _ (t : Instr) (post : List CodeItem) where
  pub get_skip : (pre : List CodeItem) (p : ℕ) → slice_get (pre ++ post) p ≡ slice_get (pre ++ item_kind.Instr t ∷ post) (skip (length pre) p)
  get_skip [] p = refl
  get_skip (x ∷ pre) zero = refl
  get_skip (x ∷ pre) (suc p) = get_skip pre p

  label_by : (n k j : ℕ) (b : Bool) → skip n k ≡ j → skip (suc n) (cond b 0 (k + 1)) ≡ cond b 0 (j + 1)
  label_by n k j true h = refl
  label_by n k j false h = let e : k + 1 ≡ suc k = omega arith in ap (λ (z : ℕ). skip (suc n) z) e ∙ omega (arith, h)

  pub label_skip : (pre : List CodeItem) (l : List ℕ) → skip (length pre) (label_place (pre ++ post) l) ≡ label_place (pre ++ item_kind.Instr t ∷ post) l
  label_skip [] l = omega arith
  label_skip (x ∷ pre) l = label_by (length pre) (label_place (pre ++ post) l) (label_place (pre ++ item_kind.Instr t ∷ post) l) (is_label x l) (label_skip pre l)

  -- ---- where C may be read

  module _ (pre : List CodeItem) (R : ℕ → Type 0) (test : IsNeedless R (pre ++ item_kind.Instr t ∷ post) (length pre)) where
    abbrev more : List CodeItem
    more = pre ++ item_kind.Instr t ∷ post

    abbrev less : List CodeItem
    less = pre ++ post

    abbrev to : ℕ → ℕ
    to = skip (length pre)

    -- the instruction at the seam is the one whose result is tested
    at_seam : (p : ℕ) (x : CodeItem) → p + 1 ≡ length pre → slice_get less p ≡ Some x → x ≡ item_kind.Instr test.writer
    at_seam p x e at =
        let place : test.before ≡ to p = (let f = test.place in let g = (skip_seam (length pre) p e).0 in omega (arith, e, f, g)) in
        let f : ◌≡◌ {A = Option CodeItem} (Some x) (Some (item_kind.Instr test.writer)) =
        sym at ∙ get_skip pre p ∙ sym (ap (λ (k : ℕ). slice_get more k) place) ∙ test.first in
        cc

    -- C may be read behind an instruction where it may be read behind it in the longer code, if the instruction leaves C or computes nothing
    on_by : (p : ℕ) (i : Instr) → slice_get less p ≡ Some (item_kind.Instr i) → ((f : Function) → action_of i.op ≡ Compute f → keeps_carry f ≡ true)
        → (p + 1 ≡ length pre) ⊎ (p + 1 ≡ length pre → ⊥) → R (to (p + 1)) → R (to p + 1)
    on_by p i at keeps (inl e) r =
        let same : i ≡ test.writer = let f = at_seam p (item_kind.Instr i) e at in cc in
        let computes : action_of i.op ≡ Compute test.function = ap (λ (j : Instr). action_of j.op) same ∙ test.computes in
        absurd (read_by (keeps test.function computes) test.carry (subst R (skip_seam (length pre) p e).1 r))
      where
        read_by : keeps_carry test.function ≡ true → (function_clears test.function ≡ true) ⊎ (R (length pre + 1) → ⊥) → R (length pre + 1) → ⊥
        read_by k (inl clears) r = keeps_or_clears test.function k clears
        read_by k (inr never) r = never r
    on_by p i at keeps (inr apart) r = subst R (skip_on (length pre) p apart) r

    no_compute : (a : Action) → ((f : Function) → a ≡ Compute f → ⊥) → (f : Function) → a ≡ Compute f → keeps_carry f ≡ true
    no_compute a apart f e = absurd (apart f e)

    label_on : (p : ℕ) (x : CodeItem) → slice_get less p ≡ Some x → ((i : Instr) → x ≡ item_kind.Instr i → ⊥) → (p + 1 ≡ length pre) ⊎ (p + 1 ≡ length pre → ⊥) → R (to (p + 1)) → R (to p + 1)
    label_on p x at apart (inl e) r = absurd (apart test.writer (at_seam p x e at))
    label_on p x at apart (inr other) r = subst R (skip_on (length pre) p other) r

    asks_less : IsCarrySet R more → (p : ℕ) (i : Instr) → slice_get less p ≡ Some (item_kind.Instr i) → (a : Action) (u : Option (List ℕ)) → action_of i.op ≡ a → i.target ≡ u
        → AsksCarry R more a u (to p) → AsksCarry (λ q. R (to q)) less a u p
    asks_less set p i at (Compute f) u act target ask =
        λ keeps r. ask keeps (on_by p i at (λ g e. (let same : f ≡ g = let h = sym act ∙ e in cc in sym (ap keeps_carry same) ∙ keeps)) (is_seam p (length pre)) r)
    asks_less set p i at Push u act target ask = λ r. ask (on_by p i at (no_compute (action_of i.op) (λ f e. (let h : Push ≡ Compute f = sym act ∙ e in cc))) (is_seam p (length pre)) r)
    asks_less set p i at (Branch x) None act target ask = tt
    asks_less set p i at (Branch x) (Some l) act target ask = (
      ask.0,
      λ falls_on r. ask.1 falls_on (on_by p i at (no_compute (action_of i.op) (λ f e. (let h : Branch x ≡ Compute f = sym act ∙ e in cc))) (is_seam p (length pre)) r),
      λ r. ask.2 (subst R (label_skip pre l) r),
    )
    asks_less set p i at Call u act target ask = tt
    asks_less set p i at Return u act target ask = tt

    pub carry_less : IsCarrySet R more → IsCarrySet (λ q. R (to q)) less
    carry_less set = record {
      labels = λ p n at r. set.labels (to p) n (sym (get_skip pre p) ∙ at) (label_on p (item_kind.Label n) at (λ i e. absurd cc) (is_seam p (length pre)) r);
      globls = λ p n at r. set.globls (to p) n (sym (get_skip pre p) ∙ at) (label_on p (item_kind.Globl n) at (λ i e. absurd cc) (is_seam p (length pre)) r);
      instrs = λ p i at. asks_less set p i at (action_of i.op) i.target refl refl (set.instrs (to p) i (sym (get_skip pre p) ∙ at));
    }

    -- ---- the least set

    -- the item at the test's place, by the place
    test_at : (q : ℕ) (x : CodeItem) → q ≡ length pre → slice_get more q ≡ Some x → x ≡ item_kind.Instr test.test
    test_at q x e at = let f : ◌≡◌ {A = Option CodeItem} (Some x) (Some (item_kind.Instr test.test)) = sym at ∙ ap (λ (k : ℕ). slice_get more k) e ∙ test.here in cc

    -- what a test does
    test_does : (q : ℕ) (i : Instr) → q ≡ length pre → slice_get more q ≡ Some (item_kind.Instr i) → action_of i.op ≡ Compute (functions.CompareWithZero Long)
    test_does q i e at =
        let same : i ≡ test.test = let f = test_at q (item_kind.Instr i) e at in cc in
        ap (λ (j : Instr). action_of j.op) same ∙ ap action_of test.tests

    -- C is not read at the test itself
    not_at_test : (q : ℕ) → q ≡ length pre → MayRead more q → ⊥
    not_at_test q e (asked _ i x at act asks) = let f : Branch x ≡ Compute (functions.CompareWithZero Long) = sym act ∙ test_does q i e at in cc
    not_at_test q e (at_label _ n at r) = let f = test_at q (item_kind.Label n) e at in cc
    not_at_test q e (at_globl _ n at r) = let f = test_at q (item_kind.Globl n) e at in cc
    not_at_test q e (kept_by _ i f at act keeps r) =
        let same : f ≡ functions.CompareWithZero Long = let g : Compute f ≡ Compute (functions.CompareWithZero Long) = sym act ∙ test_does q i e at in cc in
        true≢false (sym keeps ∙ ap keeps_carry same)
    not_at_test q e (pushed_by _ i at act r) = let f : Push ≡ Compute (functions.CompareWithZero Long) = sym act ∙ test_does q i e at in cc
    not_at_test q e (passed_by _ i x at act on r) = let f : Branch x ≡ Compute (functions.CompareWithZero Long) = sym act ∙ test_does q i e at in cc
    not_at_test q e (gone_to _ i x l at act target r) = let f : Branch x ≡ Compute (functions.CompareWithZero Long) = sym act ∙ test_does q i e at in cc

    -- the place behind one of the shorter code, where C may be read there
    behind_to : (p q : ℕ) → q ≡ to p → MayRead more (q + 1) → (p + 1 ≡ length pre) ⊎ (p + 1 ≡ length pre → ⊥) → q + 1 ≡ to (p + 1)
    behind_to p q e r (inl seam) = absurd (not_at_test (q + 1) (let f = (skip_seam (length pre) p seam).0 in omega (arith, e, f, seam)) r)
    behind_to p q e r (inr apart) = let f = skip_on (length pre) p apart in omega (arith, e, f)

    item_less : (p q : ℕ) (x : CodeItem) → q ≡ to p → slice_get more q ≡ Some x → slice_get less p ≡ Some x
    item_less p q x e at = get_skip pre p ∙ sym (ap (λ (k : ℕ). slice_get more k) e) ∙ at

    -- where C may be read in the longer code, it may be read in the shorter one
    pub may_less : (q : ℕ) → MayRead more q → (p : ℕ) → q ≡ to p → MayRead less p
    may_less q (asked _ i x at act asks) p e = asked p i x (item_less p q _ e at) act asks
    may_less q (at_label _ n at r) p e = at_label p n (item_less p q _ e at) (may_less (q + 1) r (p + 1) (behind_to p q e r (is_seam p (length pre))))
    may_less q (at_globl _ n at r) p e = at_globl p n (item_less p q _ e at) (may_less (q + 1) r (p + 1) (behind_to p q e r (is_seam p (length pre))))
    may_less q (kept_by _ i f at act keeps r) p e = kept_by p i f (item_less p q _ e at) act keeps (may_less (q + 1) r (p + 1) (behind_to p q e r (is_seam p (length pre))))
    may_less q (pushed_by _ i at act r) p e = pushed_by p i (item_less p q _ e at) act (may_less (q + 1) r (p + 1) (behind_to p q e r (is_seam p (length pre))))
    may_less q (passed_by _ i x at act on r) p e =
        passed_by p i x (item_less p q _ e at) act on (may_less (q + 1) r (p + 1) (behind_to p q e r (is_seam p (length pre))))
    may_less q (gone_to _ i x l at act target r) p e =
        gone_to p i x l (item_less p q _ e at) act target (may_less (label_place more l) r (label_place less l) (sym (label_skip pre l)))
