-- What the calls of a target need and answer.
use Rattle.std.specs.Prelude.{◌≡◌, Bool, true, false, Result, Err}
use Rattle.sel_terms_meaning.specs.md_reader.specs.declared.types.Kind.{Kind}
use Rattle.sel_terms_meaning.specs.md_reader.specs.declared.types.Kind.TheVariants as kind
use Rattle.sel_terms_meaning.specs.sel_terms.specs.Effects.{EffectShape}
use Rattle.sel_target.specs.declared.fault.TargetFault.{TargetFault}
use Rattle.sel_target.specs.declared.fault.TargetFault.TheVariants as target_fault
use Rattle.sel_target.specs.Meaning.{Fault}

-- what is wrong is the first fault, or memory ran out
abbrev pub IsFaultOf : TargetFault → Result EffectShape Fault → Type 0
IsFaultOf target_fault.NoMemory o = Unit {0}
IsFaultOf (target_fault.At line k) o = o ≡ Err (record { line = line; kind = k })

-- the kinds of what a line saves, and a register, which a line reloads
abbrev pub can_be_saved : Kind → Bool
can_be_saved kind.Reg = true
can_be_saved (kind.Value size) = true
can_be_saved (kind.Place size) = true
can_be_saved kind.Con = false
can_be_saved kind.Ea = true
can_be_saved kind.Nothing = false
