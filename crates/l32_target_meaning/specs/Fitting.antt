-- What an operand may stand for, and which instructions can be written.
use Rattle.std.specs.Prelude.{ℕ, ◌||◌, Bool, true, List, Option, Some, if◌then◌else◌, codes}
use Rattle.l32_templates.specs.vax_templates.specs.md_reader.specs.declared.types.Kind.{Kind}
use Rattle.l32_templates.specs.vax_templates.specs.md_reader.specs.declared.types.Kind.TheVariants as kind
use Rattle.vax_target_meaning.specs.Fitting.{goes_to_label}
use Rattle.l32_templates.specs.l32_core.specs.declared.operand.Operand32.{Operand32}
use Rattle.l32_templates.specs.l32_core.specs.declared.code.Instr32.{Instr32}
use Rattle.l32_templates.specs.l32_core.specs.Ops.{shape}
use Rattle.l32_templates.specs.l32_core.specs.Valid.{is_register, is_memory}
use Rattle.l32_templates.specs.l32_core.specs.Valid as valid

-- a register or memory that can be written
abbrev pub is_source : Operand32 → Bool
is_source o = is_register o || is_memory o

-- of what kind an operand may be
abbrev pub fits : Kind → Operand32 → Bool
fits (kind.Value size) o = is_source o
fits (kind.Place size) o = is_memory o
fits kind.Ea o = is_memory o
fits k o = true

-- one tree's label stands for each
abbrev pub some_label : Option (List ℕ) → Option (List ℕ)
some_label target = if goes_to_label target then Some (codes "L0") else target

-- an instruction that can be written, to whatever tree's label it goes: the name of a label that is a longword can be spelled
abbrev pub is_instr : Instr32 → Bool
is_instr i = valid.fits (shape i.op).parts i.operands (some_label i.target)
