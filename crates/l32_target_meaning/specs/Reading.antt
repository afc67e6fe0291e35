-- What an operand reads and names: registers, the data area, and the longword of the innermost frame or the argument that it spells itself.
-- All other memory is no tree's, and there an operand reads nothing.
use Rattle.std.specs.Prelude.{ℕ, ◌%◌, ◌==◌, ◌&&◌, ◌||◌, nat_le, Bool, true, false, Option, Some, None, is_some, Result, Ok, Err}
use Rattle.std.specs.Option.{option_and_then, option_map}
use Rattle.l32_templates.specs.vax_templates.specs.gg_base.specs.declared.size.Size.{Size}
use Rattle.l32_templates.specs.vax_templates.specs.gg_base.specs.declared.size.Size.TheVariants.{Long}
use Rattle.l32_templates.specs.vax_templates.specs.gg_base.specs.Sizes.{low}
use Rattle.l32_templates.specs.vax_templates.specs.gg_base.specs.Arithmetic.{add32, neg32}
use Rattle.vax_target_meaning.specs.tree_core.specs.Area.{fetched}
use Rattle.vax_target_meaning.specs.Reading.{longword}
use Rattle.vax_target_meaning.specs.vax_machine.specs.Area.{resolved}
use Rattle.l32_templates.specs.vax_templates.specs.FrameWords.{word_below}
use Rattle.l32_templates.specs.l32_core.specs.declared.operand.Base32.{Base32}
use Rattle.l32_templates.specs.l32_core.specs.declared.operand.Base32.TheVariants as bases
use Rattle.l32_templates.specs.l32_core.specs.declared.operand.Operand32.{Operand32}
use Rattle.l32_templates.specs.l32_core.specs.declared.operand.Operand32.TheVariants as operands
use Rattle.l32_templates.specs.l32_machine.specs.declared.turn.Stop32.{Stop32}
use Rattle.l32_templates.specs.l32_machine.specs.State.{State, reg, base}
use Rattle.l32_templates.specs.l32_machine.specs.Memory.{read}

-- `4(i-1)(fp)` for argument i, from 1 to 255
abbrev pub is_argument : ℕ → Bool
is_argument d = nat_le d 1016 && (d % 4 == 0)

-- a place of the innermost call: one of its frame's longwords, or one of its arguments
abbrev pub is_own : ℕ → Base32 → Bool
is_own d bases.Fp = is_some (word_below (neg32 d)) || is_argument d
is_own d b = false

abbrev pub is_own_place : Operand32 → Bool
is_own_place (operands.At d b) = is_own d b
is_own_place o = false

abbrev pub number_of : Result ℕ Stop32 → Option ℕ
number_of (Ok n) = Some n
number_of (Err e) = None

-- the number at an address that is the operand's own place, or else lies in the data area
abbrev pub number_at : Bool → State → ℕ → Size → Option ℕ
number_at true m a size = number_of (read m a size)
number_at false m a size = fetched size m.area a

abbrev pub displaced : State → ℕ → Base32 → ℕ
displaced m d b = add32 (base m b) d

-- the address that an operand names
abbrev pub named : State → Operand32 → Option ℕ
named m (operands.Num n) = None
named m (operands.Reg n) = None
named m (operands.At d b) = Some (displaced m d b)
named m (operands.Deferred d b) = number_at (is_own d b) m (displaced m d b) Long
named m (operands.Addr a) = longword (resolved m.layout a)

-- the same at each size
abbrev pub names : Operand32 → Size → State → Option ℕ
names o size m = named m o

abbrev pub at_place : Operand32 → Size → State → ℕ → Option ℕ
at_place o size m a = number_at (is_own_place o) m a size

abbrev pub in_memory : Operand32 → Size → State → Option ℕ
in_memory o size m = option_and_then (at_place o size m) (named m o)

-- the number that an operand reads at a size
abbrev pub reads : Operand32 → Size → State → Option ℕ
reads (operands.Num n) size m = option_map (low size) (longword n)
reads (operands.Reg n) size m = Some (low size (reg m n))
reads (operands.At d b) size m = in_memory (operands.At d b) size m
reads (operands.Deferred d b) size m = in_memory (operands.Deferred d b) size m
reads (operands.Addr a) size m = in_memory (operands.Addr a) size m
