-- The frame's word that an operand reads: word k lies 4(k + 1) bytes below fp, for k up to 1023.
use Rattle.std.specs.Prelude.{ℕ, ◌-◌, ◌/◌, ◌%◌, ◌==◌, ◌&&◌, nat_le, List, Option, Some, None, if◌then◌else◌}
use Rattle.gg_base.specs.Arithmetic.{neg32}
use Rattle.vax_core.specs.declared.register.Reg.{Reg}
use Rattle.vax_core.specs.declared.register.Reg.TheVariants.{Fp}
use Rattle.vax_core.specs.declared.operand.Addr.{Addr}
use Rattle.vax_core.specs.declared.operand.Base.{Base}
use Rattle.vax_core.specs.declared.operand.Base.TheVariants as bases

-- the word that lies so many bytes below fp
abbrev pub word_below : ℕ → Option ℕ
word_below n = if nat_le 4 n && (nat_le n 4096 && (n % 4 == 0)) then Some (n / 4 - 1) else None

abbrev pub word_with_name : Option (List ℕ) → ℕ → Option ℕ
word_with_name None offset = word_below (neg32 offset)
word_with_name (Some name) offset = None

abbrev pub word_behind : Reg → Addr → Option ℕ
word_behind Fp a = word_with_name a.name a.offset
word_behind r a = None

abbrev pub word_of : Base → Option ℕ
word_of (bases.Disp a r) = word_behind r a
word_of (bases.DispDef a r) = word_behind r a
word_of b = None
