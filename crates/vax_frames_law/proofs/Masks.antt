-- The mask of a function's code has each register that its body names.
use Rattle.std.proofs.Common.{◌≡◌, ℕ, ◌+◌, ◌/◌, ◌%◌, ◌^◌, ◌<◌, ◌≤◌, Bool, true, false, eqb, leb, ltb, ◌&&◌, ◌||◌, List, [], ◌∷◌, refl, sym, ap, ◌∙◌, arith}
use Rattle.std.specs.Int.{bit_at}
use Rattle.std.proofs.lemmas.Bool.{or_parts, le-leb, lt-ltb, true≢false}
use Rattle.std.proofs.lemmas.Nat.Bits.{bit_at_lowest, bit_at-suc}
use Rattle.gg_base.specs.Numbers.{truth}
use Rattle.vax_core.specs.declared.code.CodeItem.{CodeItem}
use Rattle.vax_core.specs.declared.code.CodeItem.TheVariants as item_kind
use Rattle.vax_core.specs.Registers.{operands_name}
use Rattle.vax_frames.specs.Frames.{item_names, body_names, is_kept, IsMaskOf, IsFrameCode}
use Rattle.vax_frames_law.specs.Calling.{IsMask}
use Rattle.vax_frames_law.specs.Guarding.{has}
use Rattle.vax_frames_law.specs.Within.{KeepWithin, StaysInside, FrameCodesKeepWithin}

is_kept_so : (r : ℕ) → 2 ≤ r → r < 12 → is_kept r ≡ true
is_kept_so r low high = rw (le-leb 2 r low, lt-ltb r 12 high) refl

unnamed_by : (b : Bool) (k : ℕ) → k ≡ truth b → eqb k 1 ≡ false → b ≡ false
unnamed_by false k e f = refl
unnamed_by true k e f = absurd (true≢false (sym (ap (λ (n : ℕ). eqb n 1) e) ∙ f))

module _ (mask : ℕ) (body : List CodeItem) (h : IsMaskOf mask body) where
  unnamed : (r : ℕ) → 2 ≤ r → r < 12 → has mask r ≡ false → body_names body r ≡ false
  unnamed r low high out = unnamed_by (body_names body r) (bit_at mask r) (h r ∙ ap (λ (b : Bool). truth (b && body_names body r)) (is_kept_so r low high)) out

  within : (rest : List CodeItem) → ((r : ℕ) → 2 ≤ r → r < 12 → has mask r ≡ false → body_names rest r ≡ false) → StaysInside body rest → KeepWithin body mask rest
  within [] named inside = tt
  within (item_kind.Label l ∷ rest) named inside = within rest named inside
  within (item_kind.Globl l ∷ rest) named inside = within rest named inside
  within (item_kind.Mask k ∷ rest) named inside = inside
  within (item_kind.Instr i ∷ rest) named inside = (
    record {
      named = λ r low high out. (or_parts (operands_name i.operands r) (body_names rest r) (named r low high out)).0;
      branch = inside.0;
    },
    within rest (λ r low high out. (or_parts (operands_name i.operands r) (body_names rest r) (named r low high out)).1) inside.1,
  )

  low_bits : mask % 4 ≡ 0
  low_bits =
      let zeroth : mask % 2 ≡ 0 = sym (bit_at_lowest mask) ∙ h 0 in
      let first : (mask / 2) % 2 ≡ 0 = sym (bit_at_lowest (mask / 2)) ∙ sym (bit_at-suc mask 0) ∙ h 1 in
      omega (arith, zeroth, first)

pub mask_is : (name : List ℕ) (words : ℕ) (body code : List CodeItem) (h : IsFrameCode name words body code) → IsMask h.mask
mask_is name words body code h = record { low = low_bits h.mask body h.is_mask; high = h.small }

pub frame_codes_keep_within : FrameCodesKeepWithin
frame_codes_keep_within name words body code h inside = (mask_is name words body code h, within h.mask body h.is_mask body (unnamed h.mask body h.is_mask) inside)
