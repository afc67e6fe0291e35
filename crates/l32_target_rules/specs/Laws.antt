-- The law of this crate: what the lines of a rule leave.
use Rattle.std.specs.Prelude.{◌≡◌, ℕ, List}
use Rattle.gg_base.specs.declared.size.Size.TheVariants.{Long}
use Rattle.l32_target_runs.specs.vax_target_meaning.specs.tree_core.specs.declared.program.TreeProgram.{TreeProgram}
use Rattle.l32_target_runs.specs.vax_target_meaning.specs.tree_meaning.specs.State.{Extent}
use Rattle.l32_target_runs.specs.judging_laws.specs.md_reader.specs.declared.types.Class.{Class}
use Rattle.l32_target_runs.specs.judging_laws.specs.md_reader.specs.declared.types.Rule.{Rule}
use Rattle.l32_target_runs.specs.judging_laws.specs.term_core.specs.Shape.{Shape}
use Rattle.l32_target_runs.specs.judging_laws.specs.sel_terms.specs.Effects.{EffectShape, Value}
use Rattle.l32_target_runs.specs.judging_laws.specs.sel_target.specs.declared.attr.Attr.{Attr}
use Rattle.l32_target_runs.specs.judging_laws.specs.sel_target.specs.declared.attr.Attr.TheVariants as attr
use Rattle.l32_target_runs.specs.judging_laws.specs.sel_target.specs.Meaning.{RegAt}
use Rattle.l32_target_runs.specs.judging_laws.specs.sel_target.specs.Values.{View, value}
use Rattle.l32_target_runs.specs.judging_laws.specs.sel_target.specs.Instances.{lines_of, Ready}
use Rattle.l32_target_runs.specs.judging_laws.specs.sel_target.specs.Outcomes.{Sets}
use Rattle.l32_target_runs.specs.l32_templates.specs.l32_core.specs.declared.operand.Operand32.{Operand32}
use Rattle.l32_target_runs.specs.l32_templates.specs.l32_machine.specs.State.{State}
use Rattle.l32_target_runs.specs.l32_target_meaning.specs.L32.{l32}

-- the result of a rule is in its register, and all else is kept
abbrev pub ResultsAreLeft : Type 0
ResultsAreLeft = (q : TreeProgram) (f : Extent) (fs : List Extent) (classes : List Class) (rule : Rule) (e : EffectShape) (t : Shape)
    (hs : List (Attr Operand32)) (r : ℕ) (v : View) (m : State) →
    Ready l32 q f fs classes rule e hs (attr.Reg r) v m → e.act ≡ Value t →
    Sets l32 (lines_of l32 q rule hs (attr.Reg r)) (RegAt r) q Long (attr.Reg r) (value v t) m
