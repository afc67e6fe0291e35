-- The numbers that a template spells are longwords.
use Rattle.std.proofs.Common.{◌≡◌, ℕ, ◌-◌, ◌^◌, ◌<◌, Bool, true, false, ◌&&◌, Some, None, List, refl, arith, option_map}
use Rattle.std.specs.Prelude.{nat_le}
use Rattle.std.specs.Option.{option_and_then}
use Rattle.std.proofs.lemmas.Bool.Decides.{nat_tests}
use Rattle.vax_target_meaning.specs.vax_templates.specs.declared.form.Mark.{Mark}
use Rattle.vax_target_meaning.specs.vax_templates.specs.declared.form.Number.{Number}
use Rattle.vax_target_meaning.specs.vax_templates.specs.declared.form.Number.TheVariants as number
use Rattle.vax_target_meaning.specs.vax_templates.specs.declared.form.Base.{Base}
use Rattle.vax_target_meaning.specs.vax_templates.specs.declared.form.Base.TheVariants as base
use Rattle.vax_target_meaning.specs.vax_templates.specs.declared.form.Form.{Form}
use Rattle.vax_target_meaning.specs.vax_templates.specs.Marks.{strip, hole_front, number_front, positive, negative, below_zero, signed_front, at_front}
use Rattle.vax_target_meaning.specs.vax_templates.specs.Forms.{number_spelled, near, far, deferred_front, immediate_front, negative_hole, named_front, base_front, index_front, indexed, form_front}
use Rattle.vax_target_meaning.specs.vax_templates.specs.Forms.{of_symbol, itself, of_number, of_hole, alone, register_zero, with_index}
use Rattle.vax_target_writing.proofs.Each.{Each, map_or_each, and_then_each, map_each, always, if_each}

abbrev pub IsLongNumber : Number → Type 0
IsLongNumber (number.Itself n) = n < 2 ^ 32
IsLongNumber (number.Symbol i) = Unit {0}

abbrev pub IsLongBase : Base → Type 0
IsLongBase base.RegisterZero = Unit {0}
IsLongBase (base.Hole i) = Unit {0}
IsLongBase (base.Immediate n) = IsLongNumber n
IsLongBase (base.Negative i) = Unit {0}
IsLongBase (base.RegisterDeferred i) = Unit {0}
IsLongBase (base.Displacement n i) = IsLongNumber n
IsLongBase (base.DisplacementDeferred n i) = IsLongNumber n
IsLongBase (base.Absolute n) = IsLongNumber n
IsLongBase (base.Deferred i) = Unit {0}

abbrev pub IsLongForm : Form → Type 0
IsLongForm f = IsLongBase f.base

-- a number in front of further marks
abbrev IsLongRead : ℕ × List Mark → Type 0
IsLongRead x = x.0 < 2 ^ 32

small : (n : ℕ) → nat_le n 2147483647 ≡ true → n < 2 ^ 32
small n e = grind (arith, nat_tests)

positive_long : (x : ℕ × List Mark) → Each IsLongRead (positive x)
positive_long x = if_each IsLongRead (nat_le x.0 2147483647) (Some x) None (λ e. small x.0 e) (λ e. tt)

above : (n k : ℕ) → (nat_le 1 n && nat_le n k) ≡ true → 2 ^ 32 - n < 2 ^ 32
above n k e = by (nat_le 1 n) refl e where
  by : (b : Bool) → nat_le 1 n ≡ b → (b && nat_le n k) ≡ true → 2 ^ 32 - n < 2 ^ 32
  by true is e = grind (arith, nat_tests)
  by false is e = absurd (cc)

negative_long : (x : ℕ × List Mark) → Each IsLongRead (negative x)
negative_long x = if_each IsLongRead (nat_le 1 x.0 && nat_le x.0 2147483648) (Some (2 ^ 32 - x.0, x.1)) None (λ e. above x.0 2147483648 e) (λ e. tt)

below_zero_long : (ms : List Mark) → Each IsLongRead (below_zero ms)
below_zero_long ms = and_then_each (λ x. Unit {0}) IsLongRead (number_front ms) negative (λ x u. negative_long x) (always (number_front ms) tt)

signed_long : (ms : List Mark) → Each IsLongRead (signed_front ms)
unfolding signed_front
signed_long ms =
    map_or_each IsLongRead (number_front ms) positive (option_and_then below_zero (strip 45 ms)) (λ x e. positive_long x)
    (and_then_each (λ x. Unit {0}) IsLongRead (strip 45 ms) below_zero (λ x u. below_zero_long x) (always (strip 45 ms) tt))

abbrev IsLongSpelled : Number × List Mark → Type 0
IsLongSpelled x = IsLongNumber x.0

spelled_long : (ms : List Mark) → Each IsLongSpelled (number_spelled ms)
unfolding number_spelled
spelled_long ms =
    map_or_each IsLongSpelled (hole_front ms) of_symbol (option_map itself (signed_front ms)) (λ x e. tt)
    (map_each IsLongSpelled (signed_front ms) itself (signed_long ms))

abbrev IsLongStart : Base × List Mark → Type 0
IsLongStart x = IsLongBase x.0

alone_long : (made : ℕ → Base) → ((i : ℕ) → IsLongBase (made i)) → (n : Number) (rest : List Mark) → Each IsLongStart (alone made n rest)
alone_long made h (number.Symbol i) rest = h i
alone_long made h (number.Itself n) rest = tt

near_long : (x : Number × List Mark) → IsLongNumber x.0 → Each IsLongStart (near x)
near_long x h =
    map_or_each IsLongStart (at_front x.1) (of_hole (base.Displacement x.0)) (alone base.Hole x.0 x.1) (λ y e. h) (alone_long base.Hole (λ i. tt) x.0 x.1)

far_long : (x : Number × List Mark) → IsLongNumber x.0 → Each IsLongStart (far x)
far_long x h =
    map_or_each IsLongStart (at_front x.1) (of_hole (base.DisplacementDeferred x.0)) (alone base.Deferred x.0 x.1) (λ y e. h)
    (alone_long base.Deferred (λ i. tt) x.0 x.1)

deferred_long : (ms : List Mark) → Each IsLongStart (deferred_front ms)
unfolding deferred_front
deferred_long ms =
    map_or_each IsLongStart (strip 36 ms) (λ (rest : List Mark). option_and_then (of_number base.Absolute) (number_spelled rest))
    (option_and_then far (number_spelled ms))
    (λ rest e. and_then_each IsLongSpelled IsLongStart (number_spelled rest) (of_number base.Absolute) (λ x h. h) (spelled_long rest))
    (and_then_each IsLongSpelled IsLongStart (number_spelled ms) far far_long (spelled_long ms))

immediate_long : (ms : List Mark) → Each IsLongStart (immediate_front ms)
unfolding immediate_front
immediate_long ms =
    map_or_each IsLongStart (negative_hole ms) (of_hole base.Negative) (option_and_then (of_number base.Immediate) (number_spelled ms)) (λ x e. tt)
    (and_then_each IsLongSpelled IsLongStart (number_spelled ms) (of_number base.Immediate) (λ x h. h) (spelled_long ms))

named_long : (ms : List Mark) → Each IsLongStart (named_front ms)
named_long ms = and_then_each (λ x. Unit {0}) IsLongStart (strip 48 ms) register_zero (λ x u. tt) (always (strip 48 ms) tt)

base_long : (ms : List Mark) → Each IsLongStart (base_front ms)
unfolding base_front
base_long ms =
    map_or_each IsLongStart (strip 42 ms) deferred_front _ (λ rest e. deferred_long rest)
    (map_or_each IsLongStart (strip 36 ms) immediate_front _ (λ rest e. immediate_long rest)
    (map_or_each IsLongStart (strip 114 ms) named_front _ (λ rest e. named_long rest)
    (map_or_each IsLongStart (at_front ms) (of_hole base.RegisterDeferred) _ (λ x e. tt)
    (and_then_each IsLongSpelled IsLongStart (number_spelled ms) near near_long (spelled_long ms)))))

abbrev pub IsLongFront : Form × List Mark → Type 0
IsLongFront x = IsLongForm x.0

indexed_long : (x : Base × List Mark) → IsLongBase x.0 → Each IsLongFront (indexed x)
indexed_long x h = map_each IsLongFront (index_front x.1) (with_index x.0) (always (index_front x.1) h)

-- an operand's numbers are longwords
pub form_long : (ms : List Mark) → Each IsLongFront (form_front ms)
unfolding form_front
form_long ms = and_then_each IsLongStart IsLongFront (base_front ms) indexed indexed_long (base_long ms)
