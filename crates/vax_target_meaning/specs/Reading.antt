-- What an operand reads and names: r0 to r11, the data area, and the word of the innermost frame or the argument that
-- it spells itself. All other memory is no tree's, nor are ap, fp and sp, and there an operand reads nothing.
use Rattle.std.specs.Prelude.{ℕ, ◌%◌, ◌^◌, ◌==◌, ◌&&◌, nat_lt, nat_le, Bool, true, false, List, Option, Some, None}
use Rattle.std.specs.Prelude.{is_none, is_some, Result, Ok, Err, cond}
use Rattle.std.specs.Option.{option_and_then, option_map}
use Rattle.vax_templates.specs.gg_base.specs.declared.size.Size.{Size}
use Rattle.vax_templates.specs.gg_base.specs.declared.size.Size.TheVariants.{Long}
use Rattle.vax_templates.specs.gg_base.specs.Sizes.{bytes_of, low}
use Rattle.vax_templates.specs.gg_base.specs.Arithmetic.{add32, mul32}
use Rattle.vax_states.specs.tree_core.specs.Area.{fetched}
use Rattle.vax_templates.specs.vax_core.specs.declared.register.Reg.{Reg}
use Rattle.vax_templates.specs.vax_core.specs.declared.register.Reg.TheVariants.{Ap, Fp}
use Rattle.vax_templates.specs.vax_core.specs.declared.operand.Addr.{Addr}
use Rattle.vax_templates.specs.vax_core.specs.declared.operand.Base.{Base}
use Rattle.vax_templates.specs.vax_core.specs.declared.operand.Base.TheVariants as bases
use Rattle.vax_templates.specs.vax_core.specs.declared.operand.Operand.{Operand}
use Rattle.vax_templates.specs.vax_core.specs.Registers.{reg_number}
use Rattle.vax_states.specs.vax_machine.specs.declared.turn.Stop.{Stop}
use Rattle.vax_states.specs.vax_machine.specs.State.{State, reg}
use Rattle.vax_states.specs.vax_machine.specs.Area.{resolved}
use Rattle.vax_states.specs.vax_machine.specs.Memory.{read}
use Rattle.vax_templates.specs.FrameWords.{word_with_name}

-- `4i(ap)` for argument i, from 1 to 255
abbrev pub is_argument : Option (List ℕ) → ℕ → Bool
is_argument None offset = nat_le 4 offset && (nat_le offset 1020 && (offset % 4 == 0))
is_argument (Some name) offset = false

-- a place of the innermost call: one of its frame's words, or one of its arguments
abbrev pub is_own : Reg → Addr → Bool
is_own Fp a = is_some (word_with_name a.name a.offset)
is_own Ap a = is_argument a.name a.offset
is_own r a = false

abbrev pub is_own_base : Base → Bool
is_own_base (bases.Disp a r) = is_own r a
is_own_base b = false

abbrev pub is_own_place : Operand → Bool
is_own_place o = is_none o.index && is_own_base o.base

abbrev pub number_of : Result ℕ Stop → Option ℕ
number_of (Ok n) = Some n
number_of (Err e) = None

-- the number at an address that is the operand's own place, or else lies in the data area
abbrev pub number_at : Bool → State → ℕ → Size → Option ℕ
number_at true m a size = number_of (read m a size)
number_at false m a size = fetched size m.area a

abbrev pub longword : ℕ → Option ℕ
longword n = cond (nat_lt n (2 ^ 32)) (Some n) None

abbrev pub displaced : State → Reg → Addr → ℕ
displaced m r a = add32 (resolved m.layout a) (reg m r)

-- The address that a base names, without the index. No base of a template steps its register.
abbrev pub named : State → Base → Option ℕ
named m (bases.Imm a) = None
named m (bases.Reg r) = None
named m (bases.Def r) = Some (reg m r)
named m (bases.Inc r) = None
named m (bases.IncDef r) = None
named m (bases.Dec r) = None
named m (bases.Disp a r) = Some (displaced m r a)
named m (bases.DispDef a r) = number_at (is_own r a) m (displaced m r a) Long
named m (bases.Abs n) = longword n
named m (bases.Rel a) = longword (resolved m.layout a)
named m (bases.RelDef a) = number_at false m (resolved m.layout a) Long

-- the index counts in multiples of the operand's size
abbrev pub moved : State → Option Reg → Size → ℕ → ℕ
moved m None size a = a
moved m (Some x) size a = add32 a (mul32 (reg m x) (bytes_of size))

-- the address that an operand of a size names
abbrev pub names : Operand → Size → State → Option ℕ
names o size m = option_map (moved m o.index size) (named m o.base)

abbrev pub at_place : Operand → Size → State → ℕ → Option ℕ
at_place o size m a = number_at (is_own_place o) m a size

abbrev pub in_memory : Operand → Size → State → Option ℕ
in_memory o size m = option_and_then (at_place o size m) (names o size m)

-- what an operand with this base reads
abbrev pub reads_by : Base → Operand → Size → State → Option ℕ
reads_by (bases.Imm a) o size m = option_map (low size) (longword (resolved m.layout a))
reads_by (bases.Reg r) o size m = cond (nat_lt (reg_number r) 12) (Some (low size (reg m r))) None
reads_by b o size m = in_memory o size m

-- the number that an operand reads at a size
abbrev pub reads : Operand → Size → State → Option ℕ
reads o size m = reads_by o.base o size m
