-- The places at which C may be read: what one of them brings into the set, and that a set that is closed so holds them all.
use Rattle.std.proofs.Common.{◌≡◌, inl, inr, ℕ, zero, suc, ◌+◌, true, List, [], ◌∷◌, drop, Option, Some, None, refl, sym, ap, subst, ◌∙◌, arith}
use Rattle.std.specs.Prelude.{slice_get}
use Rattle.gg_base.proofs.Facts.{false_true, some_none}
use Rattle.vax_core.specs.declared.code.Instr.{Instr}
use Rattle.vax_core.specs.declared.code.CodeItem.{CodeItem}
use Rattle.vax_core.specs.declared.code.CodeItem.TheVariants as item_kind
use Rattle.vax_machine.specs.declared.function.Action.{Action}
use Rattle.vax_machine.specs.declared.function.Action.TheVariants.{Compute, Push, Branch, Call, Return}
use Rattle.vax_machine.specs.Functions.{action_of}
use Rattle.vax_machine.specs.Labels.{skipped, next_item, label_place}
use Rattle.vax_codes.specs.Carry.{AsksCarry, IsCarrySet, MayRead, asked, at_label, at_globl, kept_by, pushed_by, passed_by, gone_to}
use Rattle.vax_codes.specs.Nexts.{place_of, goal_of}
use Rattle.vax_codes.specs.Reading.{action_passes, passes_on, action_asks, asks, Brings}
use Rattle.vax_codes.proofs.Retesting.{plain_at}

-- ---- from the next item back to a place in front of it

skipped_none : (cs : List CodeItem) (q n : ℕ) → slice_get cs q ≡ None → skipped (drop q cs) ≡ suc n → ⊥
skipped_none [] zero n e s = absurd (omega (arith, s))
skipped_none [] (suc q) n e s = absurd (omega (arith, s))
skipped_none (x ∷ cs) zero n e s = some_none x e
skipped_none (x ∷ cs) (suc q) n e s = skipped_none cs q n e s

skipped_one : (cs : List CodeItem) (q : ℕ) (x : CodeItem) → slice_get cs q ≡ Some x → skipped (x ∷ drop (q + 1) cs) ≡ skipped (drop q cs)
skipped_one [] q x e = absurd cc
skipped_one (y ∷ cs) zero x e = ap (λ (z : CodeItem). skipped (z ∷ cs)) (let f : Some y ≡ Some x = e in cc)
skipped_one (y ∷ cs) (suc q) x e = let f : suc q + 1 ≡ suc (q + 1) = omega arith in ap (λ (k : ℕ). skipped (x ∷ drop k (y ∷ cs))) f ∙ skipped_one cs q x e

module _ (cs : List CodeItem) (R : ℕ → Type 0) (labels : (p : ℕ) (n : List ℕ) → slice_get cs p ≡ Some (item_kind.Label n) → R (p + 1) → R p)
    (globls : (p : ℕ) (n : List ℕ) → slice_get cs p ≡ Some (item_kind.Globl n) → R (p + 1) → R p) where
  back_by : (n q : ℕ) → skipped (drop q cs) ≡ n → R (q + n) → R q
  back_by zero q s r = let e : q + 0 ≡ q = omega arith in subst R e r
  back_by (suc n) q s r = by (λ e x. back_by n (q + 1) e x) (slice_get cs q) refl
    where
      on : (skipped (drop (q + 1) cs) ≡ n → R (q + 1 + n) → R (q + 1)) → (x : CodeItem) → slice_get cs q ≡ Some x
          → skipped (x ∷ drop (q + 1) cs) ≡ skipped (drop (q + 1) cs) + 1 → R (q + 1)
      on go x at more =
          let same = skipped_one cs q x at in
          let e : q + suc n ≡ q + 1 + n = omega arith in
          go (omega (arith, same, more, s)) (subst R e r)

      by : (skipped (drop (q + 1) cs) ≡ n → R (q + 1 + n) → R (q + 1)) → (o : Option CodeItem) → slice_get cs q ≡ o → R q
      by go None at = absurd (skipped_none cs q n at s)
      by go (Some (item_kind.Label l)) at = labels q l at (on go (item_kind.Label l) at refl)
      by go (Some (item_kind.Globl l)) at = globls q l at (on go (item_kind.Globl l) at refl)
      by go (Some (item_kind.Mask m)) at = let same = skipped_one cs q (item_kind.Mask m) at in absurd (omega (arith, same, s))
      by go (Some (item_kind.Instr i)) at = let same = skipped_one cs q (item_kind.Instr i) at in absurd (omega (arith, same, s))

  pub back : (q : ℕ) → R (next_item cs q) → R q
  back q r = back_by (skipped (drop q cs)) q refl r

-- ---- what a place brings into the set

module _ (cs : List CodeItem) where
  may_back : (q : ℕ) → MayRead cs (next_item cs q) → MayRead cs q
  may_back = back cs (MayRead cs) (λ p n at r. at_label p n at r) (λ p n at r. at_globl p n at r)

  before_by : (p : ℕ) (i : Instr) (a : Action) → slice_get cs p ≡ Some (item_kind.Instr i) → action_of i.op ≡ a → action_passes a ≡ true → MayRead cs (p + 1) → MayRead cs p
  before_by p i (Compute f) at act passes r = kept_by p i f at act passes r
  before_by p i Push at act passes r = pushed_by p i at act r
  before_by p i (Branch t) at act passes r = passed_by p i t at act passes r
  before_by p i Call at act passes r = false_true passes
  before_by p i Return at act passes r = false_true passes

  before : (p : ℕ) (o : Option CodeItem) → slice_get cs p ≡ o → passes_on o ≡ true → MayRead cs (p + 1) → MayRead cs p
  before p None at passes r = false_true passes
  before p (Some (item_kind.Label n)) at passes r = at_label p n at r
  before p (Some (item_kind.Globl n)) at passes r = at_globl p n at r
  before p (Some (item_kind.Mask m)) at passes r = false_true passes
  before p (Some (item_kind.Instr i)) at passes r = before_by p i (action_of i.op) at refl passes r

  going_by : (p q : ℕ) (i : Instr) (a : Action) (t : Option (List ℕ)) → slice_get cs p ≡ Some (item_kind.Instr i) → action_of i.op ≡ a → i.target ≡ t → place_of cs a t ≡ Some q
      → MayRead cs q → MayRead cs p
  going_by p q i (Branch t) (Some l) at act target goes r =
      let e : next_item cs (label_place cs l) ≡ q = cc in
      gone_to p i t l at act target (may_back (label_place cs l) (subst (MayRead cs) (sym e) r))
  going_by p q i (Branch t) None at act target goes r = absurd cc
  going_by p q i (Compute f) t at act target goes r = absurd cc
  going_by p q i Push t at act target goes r = absurd cc
  going_by p q i Call t at act target goes r = absurd cc
  going_by p q i Return t at act target goes r = absurd cc

  going : (p q : ℕ) (o : Option CodeItem) → slice_get cs p ≡ o → goal_of cs o ≡ Some q → MayRead cs q → MayRead cs p
  going p q (Some (item_kind.Instr i)) at goes r = going_by p q i (action_of i.op) i.target at refl refl goes r
  going p q (Some (item_kind.Label n)) at goes r = absurd cc
  going p q (Some (item_kind.Globl n)) at goes r = absurd cc
  going p q (Some (item_kind.Mask m)) at goes r = absurd cc
  going p q None at goes r = absurd cc

  pub brought : (q p : ℕ) → MayRead cs q → Brings cs q p → MayRead cs p
  brought q p r (inl b) = before p (slice_get cs p) refl b.1 (subst (MayRead cs) (sym b.0) r)
  brought q p r (inr goes) = going p q (slice_get cs p) refl goes r

  asked_by : (p : ℕ) (i : Instr) (a : Action) → slice_get cs p ≡ Some (item_kind.Instr i) → action_of i.op ≡ a → action_asks a ≡ true → MayRead cs p
  asked_by p i (Branch t) at act e = asked p i t at act e
  asked_by p i (Compute f) at act e = false_true e
  asked_by p i Push at act e = false_true e
  asked_by p i Call at act e = false_true e
  asked_by p i Return at act e = false_true e

  pub asked_at : (p : ℕ) (o : Option CodeItem) → slice_get cs p ≡ o → asks o ≡ true → MayRead cs p
  asked_at p (Some (item_kind.Instr i)) at e = asked_by p i (action_of i.op) at refl e
  asked_at p (Some (item_kind.Label n)) at e = false_true e
  asked_at p (Some (item_kind.Globl n)) at e = false_true e
  asked_at p (Some (item_kind.Mask m)) at e = false_true e
  asked_at p None at e = false_true e

  -- ---- a set that is closed

  module _ (R : ℕ → Type 0) (asks_in : (p : ℕ) → asks (slice_get cs p) ≡ true → R p) (closed : (q : ℕ) → R q → (p : ℕ) → Brings cs q p → R p) where
    passed : (p : ℕ) → passes_on (slice_get cs p) ≡ true → R (p + 1) → R p
    passed p e r = closed (p + 1) r p (inl (refl, e))

    front : (q : ℕ) → R (next_item cs q) → R q
    front = back cs R (λ p n at r. passed p (ap passes_on at) r) (λ p n at r. passed p (ap passes_on at) r)

    at_next : (q : ℕ) (i : Instr) → slice_get cs q ≡ Some (item_kind.Instr i) → R q → R (next_item cs q)
    at_next q i at r = subst R (sym (plain_at cs q i at)) r

    passed_at : (q : ℕ) (i : Instr) → slice_get cs q ≡ Some (item_kind.Instr i) → action_passes (action_of i.op) ≡ true → R (next_item cs (q + 1)) → R (next_item cs q)
    passed_at q i at e r = at_next q i at (passed q (ap passes_on at ∙ e) (front (q + 1) r))

    next_of : (q : ℕ) (x : CodeItem) → slice_get cs q ≡ Some x → skipped (x ∷ drop (q + 1) cs) ≡ skipped (drop (q + 1) cs) + 1 → next_item cs (q + 1) ≡ next_item cs q
    next_of q x at more = let same = skipped_one cs q x at in omega (arith, same, more)

    in_next : (q : ℕ) → MayRead cs q → R (next_item cs q)
    in_next q (asked _ i t at act e) = at_next q i at (asks_in q (ap asks at ∙ ap action_asks act ∙ e))
    in_next q (at_label _ n at r) = subst R (next_of q (item_kind.Label n) at refl) (in_next (q + 1) r)
    in_next q (at_globl _ n at r) = subst R (next_of q (item_kind.Globl n) at refl) (in_next (q + 1) r)
    in_next q (kept_by _ i f at act e r) = passed_at q i at (ap action_passes act ∙ e) (in_next (q + 1) r)
    in_next q (pushed_by _ i at act r) = passed_at q i at (ap action_passes act) (in_next (q + 1) r)
    in_next q (passed_by _ i t at act e r) = passed_at q i at (ap action_passes act ∙ e) (in_next (q + 1) r)
    in_next q (gone_to _ i t l at act target r) =
        at_next q i at (closed (next_item cs (label_place cs l)) (in_next (label_place cs l) r) q
        (inr (ap (goal_of cs) at ∙ ap (λ (a : Action). place_of cs a i.target) act ∙ ap (place_of cs (Branch t)) target)))

    pub all_in : (q : ℕ) → MayRead cs q → R q
    all_in q r = front q (in_next q r)

  -- ---- the least set is closed as it has to be

  may_by : (p : ℕ) (i : Instr) (a : Action) (t : Option (List ℕ)) → slice_get cs p ≡ Some (item_kind.Instr i) → action_of i.op ≡ a → i.target ≡ t → AsksCarry (MayRead cs) cs a t p
  may_by p i (Compute f) t at act target = λ keeps r. kept_by p i f at act keeps r
  may_by p i Push t at act target = λ r. pushed_by p i at act r
  may_by p i (Branch x) None at act target = tt
  may_by p i (Branch x) (Some l) at act target = (λ e. asked p i x at act e, λ on r. passed_by p i x at act on r, λ r. gone_to p i x l at act target r)
  may_by p i Call t at act target = tt
  may_by p i Return t at act target = tt

  pub may_carry : IsCarrySet (MayRead cs) cs
  may_carry = record {
    labels = λ p n at r. at_label p n at r;
    globls = λ p n at r. at_globl p n at r;
    instrs = λ p i at. may_by p i (action_of i.op) i.target at refl refl;
  }
