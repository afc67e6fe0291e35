use Rattle.std.proofs.Common.{List, length, replicate, Bool, false, refl, ap, ◌∙◌, subst}
use Rattle.md_reader.specs.declared.types.Class.{Class}
use Rattle.md_reader.specs.State.{Content}
use Rattle.md_reader.specs.Valid.{IsValid}
use Rattle.sel_parse.specs.Steps.{config_of, step, Turns}
use Rattle.sel_parse.proofs.Going.{Err-same, going_from, full_comes, blocked_comes, accepted_comes, onward_comes}
use Rattle.sel_parse.proofs.selection.parsed.Goals as goal

pub steps-init : goal.steps-init
steps-init g c = (
  going_from g.T.Templates.meaning c.args.setting.now.program.now c.args.tables.now c.args.setting.now.first c.args.tree.now _ refl
      c.new.ensures.items
      (c.in_ok-seen.ensures ∙ ap (λ (cs : List Class). replicate (length cs) false) (c.classes.ensures ∙ ap (λ (d : Content). d.classes)
      c.description-2.ensures))
      c.in_ok-begin.ensures.start,
  c.in_ok-begin.ensures.ready,
)

pub returns-in-Err-clause-full : goal.returns-in-Err-clause-full
returns-in-Err-clause-full g c = λ e.
    full_comes g.T.Templates.meaning c.args.setting.now.program.now c.args.tables.now c.args.setting.now.first c.args.tree.now
    (subst IsValid c.description.ensures c.is_valid.ensures) c.is_numbered.ensures (config_of c.steps.parse) c.in-Err.fault c.steps.invariant.0
    c.in-Err.ensures.fails (Err-same _ _ e)

pub returns-in-Err-clause-blocked : goal.returns-in-Err-clause-blocked
returns-in-Err-clause-blocked g c = λ e.
    blocked_comes g.T.Templates.meaning c.args.setting.now.program.now c.args.tables.now c.args.setting.now.first c.args.tree.now
    (subst IsValid c.description.ensures c.is_valid.ensures) c.is_numbered.ensures (config_of c.steps.parse) c.in-Err.fault c.steps.invariant.0
    c.in-Err.ensures.fails (Err-same _ _ e)

pub returns-then-is_accepted-clause-code : goal.returns-then-is_accepted-clause-code
returns-then-is_accepted-clause-code g c =
    accepted_comes g.T.Templates.meaning c.args.setting.now.program.now c.args.tables.now c.args.setting.now.first c.args.tree.now
    (subst IsValid c.description.ensures c.is_valid.ensures) c.is_numbered.ensures (config_of c.steps.parse) (config_of c.step.new.parse)
    c.steps.invariant.0
    (subst (λ (b : Bool). Turns b (config_of c.steps.parse) (config_of c.step.new.parse) (step g.T.Templates.meaning c.args.setting.now.program.now
    c.args.tables.now c.args.setting.now.first c.args.tree.now (config_of c.steps.parse))) c.if-is_accepted.true c.in-Ok.ensures.onward)

pub steps-smaller : goal.steps-smaller
steps-smaller g c =
    (onward_comes g.T.Templates.meaning c.args.setting.now.program.now c.args.tables.now c.args.setting.now.first c.args.tree.now
    (subst IsValid c.description.ensures c.is_valid.ensures) c.is_numbered.ensures (config_of c.steps.parse) (config_of c.step.new.parse)
    c.steps.invariant.0
    (subst (λ (b : Bool). Turns b (config_of c.steps.parse) (config_of c.step.new.parse) (step g.T.Templates.meaning c.args.setting.now.program.now
    c.args.tables.now c.args.setting.now.first c.args.tree.now (config_of c.steps.parse))) c.if-is_accepted.false c.in-Ok.ensures.onward)).1

pub steps-preserved : goal.steps-preserved
steps-preserved g c = (
  (onward_comes g.T.Templates.meaning c.args.setting.now.program.now c.args.tables.now c.args.setting.now.first c.args.tree.now
      (subst IsValid c.description.ensures c.is_valid.ensures) c.is_numbered.ensures (config_of c.steps.parse) (config_of c.step.new.parse)
      c.steps.invariant.0
      (subst (λ (b : Bool). Turns b (config_of c.steps.parse) (config_of c.step.new.parse) (step g.T.Templates.meaning
      c.args.setting.now.program.now c.args.tables.now c.args.setting.now.first c.args.tree.now (config_of c.steps.parse))) c.if-is_accepted.false
      c.in-Ok.ensures.onward)).0,
  c.in-Ok.ensures.ready,
)
