-- The lines of a rule that divides by zero trap.
use Rattle.std.proofs.Common.{◌≡◌, ℕ, true, false, None, Result, Ok, Err, List, [], ◌∷◌, ◌++◌, map, refl, sym, ap, subst, ◌∙◌, append-nil}
use Rattle.gg_base.proofs.Facts.{err_ok, ok_same}
use Rattle.l32_target_rules.specs.vax_target_meaning.specs.tree_core.specs.declared.program.TreeProgram.{TreeProgram}
use Rattle.l32_target_rules.specs.judging_laws.specs.md_reader_pieces.specs.declared.piece.Line.{Line}
use Rattle.l32_target_rules.specs.judging_laws.specs.md_reader.specs.declared.types.Class.{Class}
use Rattle.l32_target_rules.specs.judging_laws.specs.md_reader.specs.declared.types.Rule.{Rule}
use Rattle.l32_target_rules.specs.judging_laws.specs.md_reader.specs.declared.types.Give.{Give}
use Rattle.l32_target_rules.specs.judging_laws.specs.md_reader.specs.declared.types.Give.TheVariants as give
use Rattle.l32_target_rules.specs.judging_laws.specs.md_reader.specs.Patterns.{kind_at}
use Rattle.l32_target_rules.specs.judging_laws.specs.md_reader.specs.Valid.{IsRule, MayGive}
use Rattle.l32_target_rules.specs.judging_laws.specs.term_core.specs.Shape.{Shape}
use Rattle.l32_target_rules.specs.judging_laws.specs.sel_terms.specs.Effects.{EffectShape}
use Rattle.l32_target_rules.specs.judging_laws.specs.sel_target.specs.declared.attr.Attr.{Attr}
use Rattle.l32_target_rules.specs.judging_laws.specs.sel_target.specs.declared.fault.TemplateKind.{TemplateKind}
use Rattle.l32_target_rules.specs.judging_laws.specs.sel_target.specs.Courses.{Course, traps, followed}
use Rattle.l32_target_rules.specs.judging_laws.specs.sel_target.specs.Values.{View}
use Rattle.l32_target_rules.specs.judging_laws.specs.vax_templates.specs.declared.setting.Setting.{Setting}
use Rattle.l32_target_rules.specs.judging_laws.specs.vax_templates.specs.declared.setting.Hole.{Hole}
use Rattle.l32_target_rules.specs.judging_laws.specs.vax_templates.specs.Settings.{is_reuse}
use Rattle.l32_target_rules.specs.judging_laws.specs.vax_templates.specs.Deeds.{Deed, Plain}
use Rattle.l32_target_rules.specs.judging_laws.specs.vax_templates.specs.Progress.{Progress, start, progressed, at_line, kept}
use Rattle.l32_target_rules.specs.judging_laws.specs.template_judging.specs.Lines.{judged, lines_judged}
use Rattle.l32_target_rules.specs.judging_laws.specs.Laws.{InOrder}
use Rattle.l32_target_rules.specs.judging_laws.proofs.Parts.{of_ok}
use Rattle.l32_target_rules.specs.judging_laws.proofs.Judged.{lines_keep}
use Rattle.l32_target_rules.specs.judging_laws.proofs.Binds.{chained}
use Rattle.l32_target_rules.specs.l32_templates.specs.l32_core.specs.declared.operand.Operand32.{Operand32}
use Rattle.l32_target_rules.specs.l32_templates.specs.l32_core.specs.declared.code.Instr32.{Instr32}
use Rattle.l32_target_rules.specs.l32_templates.specs.l32_machine.specs.State.{State}
use Rattle.l32_target_rules.specs.l32_templates.specs.Judging.{line_did}
use Rattle.l32_target_rules.specs.l32_templates.specs.Found.{l32_lines}
use Rattle.l32_target_rules.specs.l32_target_meaning.specs.Running.{run}
use Rattle.l32_target_rules.specs.l32_target_operands.specs.Scenes.{Scene, worth, Sees}
use Rattle.l32_target_rules.specs.l32_target_lines.specs.Lines.{IsSettled}
use Rattle.l32_target_rules.specs.l32_target_runs.specs.Runs.{line_of}
use Rattle.l32_target_rules.specs.Scene.{scene_of}
use Rattle.l32_target_rules.proofs.Instances.{instances_are_seen}
use Rattle.l32_target_rules.proofs.Results.{rule_is, reuse_none}
use Rattle.l32_target_order.proofs.Dividing.{line_ordered}
use Rattle.l32_target_traps.specs.Laws.{DivisionsTrap}
use Rattle.l32_target_traps.proofs.Dividing.{line_traps}

-- lines behind the first divide by nothing
behind_none : (s : Setting) (holes : List Hole) (ls : List Line) (p q : Progress) → lines_judged (line_did s holes) false p ls ≡ Ok q → q.divisors ≡ p.divisors
behind_none s holes ls p q is =
    of_ok (λ (x : Progress). x.divisors ≡ p.divisors) (lines_judged (l32_lines.did s holes) false p ls) q is
    (lines_keep l32_lines s holes (λ b x. (b ≡ false) × (x.divisors ≡ p.divisors)) InOrder (λ x. x.divisors ≡ p.divisors) line_ordered
    (λ b line x d h o. (refl, ap (λ (ds : List Shape). x.divisors ++ ds) (o.never h.0) ∙ append-nil x.divisors ∙ h.1))
    (λ b x h. h.1) ls false p (refl, refl))

line_at : (line : ℕ) (r : Result Deed TemplateKind) (d : Deed) → at_line line r ≡ Ok d → r ≡ Ok d
line_at line (Ok x) d e = ap (λ (y : Deed). Ok y) (ok_same x d e)
line_at line (Err k) d e = absurd (err_ok _ d e)

module _ (c : Scene) (m : State) (h : Sees c None m) (settled : IsSettled c) (w : Shape) (none : worth c w ≡ 0) where
  first_traps : (l : Line) (ls : List Line) (p : Progress) → lines_judged (line_did c.setting c.roles) true start (l ∷ ls) ≡ Ok p → p.divisors ≡ w ∷ []
      → run (map (line_of c) (l ∷ ls)) m ≡ traps
  first_traps l ls p is by =
      let x = chained (judged (line_did c.setting c.roles) true l start) (λ (q : Progress). lines_judged (line_did c.setting c.roles) false q ls) p is in
      let y = chained (at_line l.line (line_did c.setting c.roles true None Plain l.pieces)) (kept l.line start) x.first x.is in
      let divisors : y.first.divisors ≡ w ∷ [] =
      ap (λ (q : Progress). q.divisors) (ok_same (progressed l.line start y.first) x.first y.then_so) ∙ sym (behind_none c.setting c.roles ls x.first p x.then_so) ∙ by in
      ap (λ (k : Course Instr32 State). followed k (map (line_of c) ls) (run (map (line_of c) ls)))
      (line_traps c m h settled l.pieces y.first w (line_at l.line (line_did c.setting c.roles true None Plain l.pieces) y.first y.is) divisors none)

  pub lines_trap : (ls : List Line) (p : Progress) → lines_judged (line_did c.setting c.roles) true start ls ≡ Ok p → p.divisors ≡ w ∷ [] → run (map (line_of c) ls) m ≡ traps
  lines_trap [] p is by = absurd (let x : [] ≡ w ∷ [] = ap (λ (q : Progress). q.divisors) (ok_same start p is) ∙ by in cc)
  lines_trap (l ∷ ls) p is by = first_traps l ls p is by

-- no statement reuses a register
settled_so : (q : TreeProgram) (classes : List Class) (rule : Rule) (hs : List (Attr Operand32)) (res : Attr Operand32) (v : View) → IsRule classes rule → IsSettled (scene_of q classes rule hs res v)
settled_so q classes rule hs res v fits is = by rule.give refl where
  by : (g : Give) → rule.give ≡ g → is_reuse rule.give ≡ false
  by give.Fresh e = ap is_reuse e
  by give.Scratch e = ap is_reuse e
  by give.Nothing e = ap is_reuse e
  by (give.Shape l) e = ap is_reuse e
  by give.Reuse e =
      let none = reuse_none (kind_at classes rule.left) (subst (MayGive classes rule.left rule.right) e fits.gives) in
      absurd (let x : false ≡ true = sym none ∙ is in cc)

pub divisions_trap : DivisionsTrap
divisions_trap q f fs classes rule e d hs res v m i result by none =
    let found = rule_is classes rule e i.taken in
    lines_trap (scene_of q classes rule hs res v) m (instances_are_seen false q f fs classes rule e hs res v m i result) (settled_so q classes rule hs res v i.rule_fits) d none
    rule.lines found.progress found.judged (ap (λ (x : EffectShape). x.divisors) found.is ∙ by)
