-- Where a frame's words and arguments stand. Word 0 lies directly below fp, the others below it; the number of arguments
-- stands at ap, and argument i, counted from 1, above it.
use Rattle.std.specs.Prelude.{ℕ, ◌+◌, ◌*◌, None}
use Rattle.gg_base.specs.Arithmetic.{neg32}
use Rattle.vax_core.specs.declared.register.Reg.TheVariants.{Ap, Fp}
use Rattle.vax_core.specs.declared.operand.Addr.{Addr}
use Rattle.vax_core.specs.declared.operand.Base.TheVariants as bases
use Rattle.vax_core.specs.declared.operand.Operand.{Operand}

-- word k of a frame, and local k's home, as a displacement from fp
abbrev pub word_addr : ℕ → Addr
word_addr k = record { name = None; offset = neg32 (4 * (k + 1)) }

-- `-4(k+1)(fp)`
abbrev pub home : ℕ → Operand
home k = record { base = bases.Disp (word_addr k) Fp; index = None }

-- `*-4(k+1)(fp)`
abbrev pub at_home : ℕ → Operand
at_home k = record { base = bases.DispDef (word_addr k) Fp; index = None }

-- `4i(ap)`
abbrev pub argument_home : ℕ → Operand
argument_home i = record { base = bases.Disp (record { name = None; offset = 4 * i }) Ap; index = None }
