-- The first byte of a specifier: its mode and its register.
use Rattle.std.proofs.Common.{◌≡◌, ℕ, ◌+◌, ◌*◌, ◌/◌, ◌%◌, ◌<◌, ◌≤◌, false, eqb, Some, refl, ap, ◌∙◌, arith}
use Rattle.std.specs.Prelude.{slice_get}
use Rattle.std.proofs.lemmas.Bool.{le-ltb, ne_eqb}
use Rattle.std.proofs.lemmas.Nat.{div-mul-add, mod-mul-add}
use Rattle.gg_base.specs.declared.size.Size.{Size}
use Rattle.vax_core.specs.declared.register.Reg.{Reg}
use Rattle.vax_core.specs.Registers.{reg_number}
use Rattle.vax_core.specs.Numbers.{registers}
use Rattle.vax_core.proofs.NumberLaws.{register_again}
use Rattle.vax_image_format.specs.Specifiers.{mode}
use Rattle.vax_image_format.proofs.RegisterLaws.{small_register}
use Rattle.vax_image_reading.specs.Fronts.{Front}
use Rattle.vax_image_reading.specs.Operands.{mode_front, base_behind}

-- the parts of a specifier's first byte
pub mode_again : (m : ℕ) (r : Reg) → (mode m r / 16 ≡ m) × (slice_get registers (mode m r % 16) ≡ Some r)
mode_again m r =
    let e : mode m r ≡ m * 16 + reg_number r = omega arith in
    let lt : reg_number r < 16 = omega (arith, small_register r) in (
      ap (λ (n : ℕ). n / 16) e ∙ div-mul-add m 16 (reg_number r) lt,
      ap (λ (n : ℕ). slice_get registers (n % 16)) e ∙ ap (λ (n : ℕ). slice_get registers n) (mod-mul-add m 16 (reg_number r) lt) ∙ register_again r,
    )

no_field : (m n : ℕ) (r : Reg) → eqb (mode m r) (0x10 * n + 15) ≡ false
no_field m n r = ne_eqb (mode m r) (0x10 * n + 15) (λ e. omega (arith, e, small_register r))

-- a byte with a register goes by its mode
pub register_byte : (size : Size) (m : ℕ) (r : Reg) (f : Front) → 4 ≤ m → base_behind size (mode m r) f ≡ mode_front m r f
unfolding base_behind
register_byte size m r f le =
    let parts = mode_again m r in
    rw (le-ltb (mode m r) 64 (omega (arith, le)), no_field m 8 r, no_field m 9 r, no_field m 14 r, no_field m 15 r, parts.1, parts.0) refl
