-- Where a frame's longwords and arguments stand. Longword 0 lies directly below fp, the others below it; argument i, counted
-- from 1, stands at fp and above it.
use Rattle.std.specs.Prelude.{ℕ, ◌+◌, ◌-◌, ◌*◌}
use Rattle.vax_templates.specs.gg_base.specs.Arithmetic.{neg32}
use Rattle.l32_core.specs.declared.operand.Base32.TheVariants.{Fp}
use Rattle.l32_core.specs.declared.operand.Operand32.{Operand32}
use Rattle.l32_core.specs.declared.operand.Operand32.TheVariants as operands

-- how far longword k of a frame lies from fp
abbrev pub word_offset : ℕ → ℕ
word_offset k = neg32 (4 * (k + 1))

-- `-4(k+1)(fp)`
abbrev pub home : ℕ → Operand32
home k = operands.At (word_offset k) Fp

-- `@-4(k+1)(fp)`
abbrev pub at_home : ℕ → Operand32
at_home k = operands.Deferred (word_offset k) Fp

-- `4(i-1)(fp)`
abbrev pub argument_home : ℕ → Operand32
argument_home i = operands.At (4 * (i - 1)) Fp
