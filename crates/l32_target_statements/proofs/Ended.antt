-- The state in which a statement's last line does its deed.
use Rattle.std.proofs.Common.{◌≡◌, ℕ, zero, suc, inl, inr, true, Option, Some, None, Ok}
use Rattle.std.proofs.Common.{List, map, sym, ap, subst, ◌∙◌}
use Rattle.std.specs.Prelude.{unwrap_or}
use Rattle.std.specs.List.{AllByRecursion}
use Rattle.gg_base.specs.declared.size.Size.{Size}
use Rattle.l32_target_rules.specs.vax_target_meaning.specs.tree_core.specs.declared.program.TreeProgram.{TreeProgram}
use Rattle.l32_target_rules.specs.vax_target_meaning.specs.tree_meaning.specs.State.{State as Trees, Extent}
use Rattle.l32_target_rules.specs.vax_target_meaning.specs.tree_meaning.specs.Steps as steps
use Rattle.l32_target_rules.specs.vax_target_meaning.specs.tree_meaning.specs.Steps.{Step}
use Rattle.l32_target_rules.specs.judging_laws.specs.md_reader.specs.declared.types.Class.{Class}
use Rattle.l32_target_rules.specs.judging_laws.specs.md_reader.specs.declared.types.Give.{Give}
use Rattle.l32_target_rules.specs.judging_laws.specs.md_reader.specs.declared.types.Give.TheVariants as give
use Rattle.l32_target_rules.specs.judging_laws.specs.md_reader.specs.declared.types.Rule.{Rule}
use Rattle.l32_target_rules.specs.judging_laws.specs.md_reader.specs.Patterns.{kind_at}
use Rattle.l32_target_rules.specs.judging_laws.specs.term_core.specs.Shape.{Shape}
use Rattle.l32_target_rules.specs.judging_laws.specs.sel_terms.specs.Effects.{ActShape, EffectShape}
use Rattle.l32_target_rules.specs.judging_laws.specs.sel_target.specs.declared.attr.Attr.{Attr}
use Rattle.l32_target_rules.specs.judging_laws.specs.sel_target.specs.Courses.{Course}
use Rattle.l32_target_rules.specs.judging_laws.specs.sel_target.specs.Meaning.{IsFree}
use Rattle.l32_target_rules.specs.judging_laws.specs.sel_target.specs.Values.{View}
use Rattle.l32_target_rules.specs.judging_laws.specs.sel_target.specs.Instances.{hole, Ready}
use Rattle.l32_target_rules.specs.judging_laws.specs.sel_target.specs.StatementLaws.{IsStep}
use Rattle.l32_target_rules.specs.judging_laws.specs.vax_templates.specs.declared.setting.Own.TheVariants as own
use Rattle.l32_target_rules.specs.judging_laws.specs.vax_templates.specs.Settings.{holes_of, setting_of, own_of}
use Rattle.l32_target_rules.specs.judging_effects.specs.Laws.{IsFound}
use Rattle.l32_target_rules.specs.l32_templates.specs.l32_core.specs.declared.operand.Operand32.{Operand32}
use Rattle.l32_target_rules.specs.l32_templates.specs.l32_core.specs.declared.code.Instr32.{Instr32}
use Rattle.l32_target_rules.specs.l32_templates.specs.l32_machine.specs.State.{State}
use Rattle.l32_target_rules.specs.l32_templates.specs.l32_machine.specs.Calls.{silent}
use Rattle.l32_target_rules.specs.l32_templates.specs.Found.{l32_lines}
use Rattle.l32_target_rules.specs.l32_target_meaning.specs.Running.{course_of, run}
use Rattle.l32_target_rules.specs.l32_target_meaning.specs.Agreeing.{Agrees, HasRoom}
use Rattle.l32_target_rules.specs.l32_target_meaning.specs.L32.{l32}
use Rattle.l32_target_rules.specs.l32_target_operands.specs.Scenes.{Scene, filling_at}
use Rattle.l32_target_rules.specs.l32_target_lines.specs.Lines.{MayEnd}
use Rattle.l32_target_rules.specs.l32_target_runs.specs.Runs.{EndsIn, IsDone, line_of, spots_of}
use Rattle.l32_target_rules.specs.Scene.{scene_of}
use Rattle.l32_target_rules.proofs.Instances.{filling_is}
use Rattle.l32_target_rules.proofs.Results.{found_so, ends_in}
use Rattle.l32_target_statements.specs.Laws.{IsDeed}
use Rattle.l32_target_statements.proofs.Given.{last_given}

pub no_slot : (g : Give) (y : Size) → own_of g ≡ own.Slot y → ⊥
no_slot give.Fresh y e = cc
no_slot give.Reuse y e = cc
no_slot give.Scratch y e = cc
no_slot give.Nothing y e = cc
no_slot (give.Shape l) y e = cc

module _ (q : TreeProgram) (f : Extent) (fs : List Extent) (classes : List Class) (rule : Rule) (e : EffectShape) (hs : List (Attr Operand32)) (res : Attr Operand32) (v : View) (m : State)
    (ready : Ready l32 q f fs classes rule e hs res v m) (deed : IsDeed e.act) where
  abbrev pub S : Scene
  S = scene_of q classes rule hs res v

  abbrev pub D : Course Instr32 State
  D = run (map (line_of S) rule.lines) m

  abbrev F : IsFound l32_lines (setting_of classes rule) (holes_of classes rule.right) (kind_at classes rule.left) rule.lines rule.give e
  F = found_so q f fs classes rule e hs res v m ready

  act_so : F.deed ≡ e.act
  act_so = ap (λ (x : EffectShape). x.act) F.is

  pub ended : EndsIn S m e.act D
  ended =
      ends_in q f fs classes rule e hs res v m ready
      (last_given (setting_of classes rule) (holes_of classes rule.right) (kind_at classes rule.left) F.progress.own F.progress.last rule.give F.deed F.given
      (subst IsDeed (sym act_so) deed))

  abbrev pub n : State
  n = ended.state

  free : (o : Option Shape) → AllByRecursion (IsFree f) (spots_of S o)
  free None = tt
  free (Some t) = (tt, tt)

  pub agrees : Agrees q.objects f fs v.state n
  agrees = ended.reaches.keeps.agrees q f fs v.state (free ended.own_is) ready.instance_of.agrees

  pub room : HasRoom n
  room = ended.reaches.keeps.room ready.instance_of.room

  pub live : n.frames ≡ m.frames
  live = ended.reaches.keeps.live

  abbrev pub G : Step → Type 0
  G s = IsStep l32 q f fs v.state m D s

  pub goes : (k : State) (s : Trees) → D ≡ course_of (silent (Ok k)) → Agrees q.objects f fs s k → k.frames ≡ n.frames → G (steps.Goes s)
  goes k s is stands same = (k, is, record { agrees = stands; live = same ∙ live })

  -- it is a statement
  pub statement_of : MayEnd S → (setting_of classes rule).is_statement ≡ true
  statement_of (inl is) = is
  statement_of (inr is) = absurd (no_slot rule.give is.0 is.1)

  -- a symbol's hole
  pub filled_hole : (i : ℕ) (h : Attr Operand32) → hole hs i ≡ Some h → filling_at S i ≡ h
  filled_hole zero h at = cc
  filled_hole (suc j) h at = filling_is S j ∙ ap (λ (o : Option (Attr Operand32)). unwrap_or o res) at

  pub done : (a : ActShape) → e.act ≡ a → IsDone S n a D
  done a is = subst (λ (x : ActShape). IsDone S n x D) is ended.does
