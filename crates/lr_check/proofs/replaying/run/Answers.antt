use Rattle.std.proofs.Common.{Option, sym, ap, ◌∙◌, subst}
use Rattle.md_reader.specs.Valid.{IsValid}
use Rattle.lr_check.specs.declared.sample.Outcome.{Outcome}
use Rattle.lr_check.specs.Steps.{After}
use Rattle.lr_check.proofs.Running.{run_turn, run_over, run_less}
use Rattle.lr_check.proofs.replaying.run.Goals as goal

pub returns-in-Some : goal.returns-in-Some
returns-in-Some c =
    run_over c.args.tables.now c.args.nodes.now c.args.order.now c.steps.parse c.step.new.self c.in-Some.outcome c.steps.invariant
    (ap {B = After} (λ (o : Option Outcome). record { ending = o; config = c.step.new.self }) (sym c.in-Some.is) ∙ c.in_ok-outcome.ensures)

pub steps-preserved : goal.steps-preserved
steps-preserved c =
    run_turn c.args.tables.now c.args.nodes.now c.args.order.now c.steps.parse c.step.new.self (subst IsValid c.description-description.ensures c.is_valid.ensures) c.steps.invariant
    (ap {B = After} (λ (o : Option Outcome). record { ending = o; config = c.step.new.self }) (sym c.in-None.is) ∙ c.in_ok-outcome.ensures)

pub steps-smaller : goal.steps-smaller
steps-smaller c =
    run_less c.args.tables.now c.args.nodes.now c.args.order.now c.steps.parse c.step.new.self (subst IsValid c.description-description.ensures c.is_valid.ensures) c.steps.invariant
    (ap {B = After} (λ (o : Option Outcome). record { ending = o; config = c.step.new.self }) (sym c.in-None.is) ∙ c.in_ok-outcome.ensures)
