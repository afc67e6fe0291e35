-- What is kept of a code without needless tests.
use Rattle.std.proofs.Common.{◌≡◌, ◌↔◌, ℕ, suc, ◌+◌, ◌-◌, ◌<◌, ◌≤◌, Bool, true, false, cond, List, [], ◌∷◌, ◌++◌, length, reverse, Option, Some, None, refl, sym, ap, subst, ◌∙◌, arith, append-nil, append_assoc, length-append}
use Rattle.std.specs.Prelude.{◌&&◌, nat_lt, slice_get}
use Rattle.std.proofs.lemmas.Bool.{ltb-true}
use Rattle.gg_base.proofs.Facts.{slice_last, reverse_last}
use Rattle.vax_core.specs.declared.code.Code.{Code}
use Rattle.vax_core.specs.declared.code.CodeItem.{CodeItem}
use Rattle.vax_core.specs.declared.op.OperandKind.{OperandKind}
use Rattle.vax_core.specs.declared.operand.Operand.{Operand}
use Rattle.vax_core.specs.Valid.{is_code}
use Rattle.vax_machine.specs.declared.function.Action.{Action}
use Rattle.vax_machine.specs.declared.function.Action.TheVariants.{Compute, Push, Branch, Call, Return}
use Rattle.vax_machine.specs.Functions.{action_of}
use Rattle.vax_alike.specs.Alike.{Alike}
use Rattle.vax_passes.specs.Thinned.{Thinned}
use Rattle.vax_passes.specs.Thinned.{nothing as thin_nothing, kept as thin_kept, dropped as thin_dropped}
use Rattle.vax_passes.specs.Dropping.{Kept, put_first, all_kept}
use Rattle.vax_codes.specs.Carry.{AsksCarry, IsCarrySet, MayRead}
use Rattle.vax_codes.specs.Needless.{is_written, is_long, ends_written, last_operand}
use Rattle.vax_codes.specs.Testing.{is_needless, last_item, without_tests, DropsNeedlessTests}
use Rattle.vax_codes.proofs.Carrying.{may_carry}
use Rattle.vax_codes.proofs.Sweeping.{Sweep, none, keeps, drops, Swept, swept, swept_alike, swept_settled}

-- ---- the last of a list

abbrev pub ends_by : Option OperandKind → Bool
ends_by None = false
ends_by (Some k) = is_written k.access && is_long k.size

last_one : {A : Type 0} (xs : List A) (x : A) → slice_get (xs ++ x ∷ []) (length (xs ++ x ∷ []) - 1) ≡ Some x
last_one xs x =
    let long = length-append xs (x ∷ []) in
    let e : length (xs ++ x ∷ []) - 1 ≡ length xs = omega (arith, long) in
    ap (λ (n : ℕ). slice_get (xs ++ x ∷ []) n) e ∙ slice_last xs x

last_more : {A : Type 0} (x y : A) (xs : List A) → slice_get (x ∷ (y ∷ xs)) (length (x ∷ (y ∷ xs)) - 1) ≡ slice_get (y ∷ xs) (length (y ∷ xs) - 1)
last_more x y xs = let e : length (x ∷ (y ∷ xs)) - 1 ≡ suc (length (y ∷ xs) - 1) = omega arith in ap (λ (n : ℕ). slice_get (x ∷ (y ∷ xs)) n) e

pub ends_last : (ks : List OperandKind) → ends_written ks ≡ ends_by (slice_get ks (length ks - 1))
ends_last [] = refl
ends_last (k ∷ []) = refl
ends_last (k ∷ (j ∷ ks)) = ends_last (j ∷ ks) ∙ sym (ap ends_by (last_more k j ks))

pub operand_last : (os : List Operand) → last_operand os ≡ slice_get os (length os - 1)
operand_last [] = refl
operand_last (o ∷ []) = refl
operand_last (o ∷ (p ∷ os)) = operand_last (p ∷ os) ∙ sym (last_more o p os)

-- ---- one item more

pub not_below : (m n : ℕ) → n ≤ m → nat_lt m n ≡ false
not_below m n le = by (nat_lt m n) refl
  where
    by : (b : Bool) → nat_lt m n ≡ b → b ≡ false
    by true e = absurd (let lt = ltb-true m n e in omega (arith, le, lt))
    by false e = refl

module _ (reads : ℕ → Bool) (place : ℕ) (rest : List CodeItem) (item : CodeItem) (kept : List CodeItem) (made : ℕ) (read : Bool) (is : reads (suc place) ≡ read) where
  abbrev before : Option CodeItem
  before = last_item kept

  abbrev dropped : Kept
  dropped = without_tests reads rest (suc place) before (made + 1)

  abbrev left : Kept
  left = put_first item (without_tests reads rest (suc place) (Some item) made)

  judged : (b : Bool) → (nat_lt made 18446744073709551615 && is_needless item before read) ≡ b → without_tests reads (item ∷ rest) place before made ≡ cond b dropped left
  judged b e =
      ap (λ (r : Bool). cond (nat_lt made 18446744073709551615 && is_needless item before r) dropped left) is ∙ ap (λ (c : Bool). cond c dropped left) e

  pub one_dropped : (nat_lt made 18446744073709551615 && is_needless item before read) ≡ true
      → all_kept kept (without_tests reads rest (suc place) (last_item kept) (made + 1)) ≡ all_kept kept (without_tests reads (item ∷ rest) place (last_item kept) made)
  one_dropped e = sym (ap (all_kept kept) (judged true e))

  pub one_kept : (nat_lt made 18446744073709551615 && is_needless item before read) ≡ false → (more : List CodeItem) → more ≡ kept ++ item ∷ []
      → all_kept more (without_tests reads rest (suc place) (last_item more) made) ≡ all_kept kept (without_tests reads (item ∷ rest) place (last_item kept) made)
  one_kept e more is_more =
      ap (λ (m : List CodeItem). all_kept m (without_tests reads rest (suc place) (last_item m) made)) is_more
      ∙ ap (λ (o : Option CodeItem). all_kept (kept ++ item ∷ []) (without_tests reads rest (suc place) o made)) (last_one kept item)
      ∙ ap (λ (xs : List CodeItem). record { made = (without_tests reads rest (suc place) (Some item) made).made; items = xs })
      (append_assoc kept (item ∷ []) (without_tests reads rest (suc place) (Some item) made).items)
      ∙ sym (ap (all_kept kept) (judged false e))

-- the loop: one item more
pub taken_off : (reads : ℕ → Bool) (left rest : List CodeItem) (item : CodeItem) (old new : List CodeItem) (place made more : ℕ) (k : Kept) → left ≡ rest ++ item ∷ []
    → all_kept new (without_tests reads (reverse rest) (suc place) (last_item new) more) ≡ all_kept old (without_tests reads (item ∷ reverse rest) place (last_item old) made)
    → all_kept old (without_tests reads (reverse left) place (last_item old) made) ≡ k → all_kept new (without_tests reads (reverse rest) (place + 1) (last_item new) more) ≡ k
taken_off reads left rest item old new place made more k e step is =
    let on : place + 1 ≡ suc place = omega arith in
    ap (λ (n : ℕ). all_kept new (without_tests reads (reverse rest) n (last_item new) more)) on
    ∙ step
    ∙ sym (ap (λ (xs : List CodeItem). all_kept old (without_tests reads xs place (last_item old) made)) (reverse_last left rest item e))
    ∙ is

pub at_end : (reads : ℕ → Bool) (rest kept items : List CodeItem) (place made : ℕ) (k : Kept) → rest ≡ [] → items ≡ kept
    → all_kept kept (without_tests reads (reverse rest) place (last_item kept) made) ≡ k → record { made = made; items = items } ≡ k
at_end reads rest kept items place made k e f g =
    ap (λ (l : List CodeItem). record { made = made; items = l }) (f ∙ sym (append-nil kept))
    ∙ sym (ap (λ (l : List CodeItem). all_kept kept (without_tests reads (reverse l) place (last_item kept) made)) e)
    ∙ g

-- ---- what is written

thin : {P : Type 0} {reads : ℕ → Bool} {at k : ℕ} {b : Option CodeItem} {c d : List CodeItem} → Sweep P reads at b k c d → Thinned k c d
thin none = thin_nothing
thin (keeps x f r) = thin_kept x (thin r)
thin (drops i f r) = thin_dropped i (thin r)

module _ (reads : ℕ → Bool) (cs : List CodeItem) (exact : (p : ℕ) → (reads p ≡ true) ↔ MayRead cs p) where
  carry_by : (a : Action) (t : Option (List ℕ)) (p : ℕ) → AsksCarry (MayRead cs) cs a t p → AsksCarry (λ q. reads q ≡ true) cs a t p
  carry_by (Compute f) t p h = λ k r. (exact p).1 (h k ((exact (p + 1)).0 r))
  carry_by Push t p h = λ r. (exact p).1 (h ((exact (p + 1)).0 r))
  carry_by (Branch x) None p h = tt
  carry_by (Branch x) (Some l) p h = (λ e. (exact p).1 (h.0 e), λ on r. (exact p).1 (h.1 on ((exact (p + 1)).0 r)), λ r. (exact p).1 (h.2 ((exact _).0 r)))
  carry_by Call t p h = tt
  carry_by Return t p h = tt

  read_carry : IsCarrySet (λ p. reads p ≡ true) cs
  read_carry = let m = may_carry cs in record {
    labels = λ p n at r. (exact p).1 (m.labels p n at ((exact (p + 1)).0 r));
    globls = λ p n at r. (exact p).1 (m.globls p n at ((exact (p + 1)).0 r));
    instrs = λ p i at. carry_by (action_of i.op) i.target p (m.instrs p i at);
  }

module _ (reads : ℕ → Bool) (before after : ℕ) (c d : Code) (area : d.area ≡ c.area) (exact : (p : ℕ) → (reads p ≡ true) ↔ MayRead c.items p)
    (e : ◌≡◌ {A = Kept} (record { made = after; items = d.items }) (without_tests reads c.items 0 None before)) where
  all : Swept reads before 0 None c.items (record { made = after; items = d.items })
  all = subst (λ (k : Kept). Swept reads before 0 None c.items k) (sym e) (swept reads c.items 0 before None)

  pub drops_needless_tests : DropsNeedlessTests before after c d
  drops_needless_tests = record {
    thinned = record { number = all.number; area = area; items = thin all.sweep; counts = all.counts };
    settled = λ lt. swept_settled (after < 18446744073709551615 → ⊥) all.number reads c.items d.items (λ p. (exact p).0) all.sweep (λ full. full lt);
  }

  pub dropped_alike : is_code c ≡ true → Alike c d
  dropped_alike valid = swept_alike (after < 18446744073709551615 → ⊥) all.number reads c d area valid (read_carry reads c.items exact) all.sweep
