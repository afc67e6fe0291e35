-- The laws of this crate: what the lines of a rule leave.
use Rattle.std.specs.Prelude.{◌≡◌, ℕ, List}
use Rattle.gg_base.specs.declared.size.Size.TheVariants.{Long}
use Rattle.vax_target_runs.specs.tree_core.specs.declared.program.TreeProgram.{TreeProgram}
use Rattle.vax_target_runs.specs.tree_meaning.specs.State.{Extent}
use Rattle.vax_target_runs.specs.md_reader.specs.declared.types.Class.{Class}
use Rattle.vax_target_runs.specs.md_reader.specs.declared.types.Rule.{Rule}
use Rattle.vax_target_runs.specs.term_core.specs.Shape.{Shape}
use Rattle.vax_target_runs.specs.sel_terms.specs.Effects.{EffectShape, Value}
use Rattle.vax_target_runs.specs.sel_target.specs.declared.attr.Attr.{Attr}
use Rattle.vax_target_runs.specs.sel_target.specs.declared.attr.Attr.TheVariants as attr
use Rattle.vax_target_runs.specs.sel_target.specs.Meaning.{RegAt}
use Rattle.vax_target_runs.specs.sel_target.specs.Values.{View, value}
use Rattle.vax_target_runs.specs.sel_target.specs.Instances.{lines_of, Ready}
use Rattle.vax_target_runs.specs.sel_target.specs.Outcomes.{Sets}
use Rattle.vax_core.specs.declared.operand.Operand.{Operand}
use Rattle.vax_target_runs.specs.vax_machine.specs.State.{State}
use Rattle.vax_target_runs.specs.vax_target_meaning.specs.Vax.{vax}

-- the result of a rule is in its register, and all else is kept
abbrev pub ResultsAreLeft : Type 0
ResultsAreLeft = (q : TreeProgram) (f : Extent) (fs : List Extent) (classes : List Class) (rule : Rule) (e : EffectShape) (t : Shape)
    (hs : List (Attr Operand)) (r : ℕ) (v : View) (m : State) →
    Ready vax q f fs classes rule e hs (attr.Reg r) v m → e.act ≡ Value t →
    Sets vax (lines_of vax q rule hs (attr.Reg r)) (RegAt r) q Long (attr.Reg r) (value v t) m
