use Rattle.std.proofs.Common.{◌≡◌, Option, Some, None, refl, ap, ◌∙◌}
use Rattle.std.proofs.lemmas.Result.{IfOk-weaker}
use Rattle.md_reader.specs.State.{Content}
use Rattle.lr_tables.specs.Leads.{actions_at}
use Rattle.lr_check.specs.declared.sample.Outcome.{Outcome}
use Rattle.lr_check.specs.Steps.{Config, After, top_of, after_choice, step}
use Rattle.lr_check.proofs.Stepping.{step_by}
use Rattle.lr_check.proofs.parse.Parse.step.Goals as goal

pub returns-in-None : goal.returns-in-None
returns-in-None c =
    let d : Config = record { at = c.self.inside.at; stack = c.self.inside.stack.items; seen = c.self.inside.seen.items } in
    let top = c.top_of.ensures ∙ ap top_of c.as_slice.ensures.value in
    step_by c.args.tables.now c.args.nodes.now c.args.order.now c.args.self.now d c.node_at-next.result c.rules-rules.result.now c.action-choices.result.now None c.choose.new.stack.items _
    c.self.view_is c.node_at-next.ensures.value (c.rules-rules.ensures ∙ ap (λ (x : Content). x.rules) c.description.ensures)
    (c.action-choices.ensures.value ∙ (λ i. actions_at c.args.tables.now (top i) (c.token_of.ensures i))) c.in-None.ensures refl

pub returns-in-Some : goal.returns-in-Some
returns-in-Some c =
    let d : Config = record { at = c.self.inside.at; stack = c.self.inside.stack.items; seen = c.self.inside.seen.items } in
    let top = c.top_of.ensures ∙ ap top_of c.as_slice.ensures.value in
    IfOk-weaker c.make.result
    (λ (o : Option Outcome). ◌≡◌ {A = After} (record { ending = o; config = c.make.new.self })
    (after_choice c.args.tables.now c.node_at-next.result (record { at = c.self.inside.at; stack = c.choose.new.stack.items; seen = c.self.inside.seen.items }) c.choose.new.stack.items
    (Some c.in-Some.choice)))
    (λ (o : Option Outcome). ◌≡◌ {A = After} (record { ending = o; config = c.make.new.self }) (step c.args.tables.now c.args.nodes.now c.args.order.now c.args.self.now))
    (λ o e. step_by c.args.tables.now c.args.nodes.now c.args.order.now c.args.self.now d c.node_at-next.result c.rules-rules.result.now c.action-choices.result.now (Some c.in-Some.choice)
    c.choose.new.stack.items (record { ending = o; config = c.make.new.self })
    c.self.view_is c.node_at-next.ensures.value (c.rules-rules.ensures ∙ ap (λ (x : Content). x.rules) c.description.ensures)
    (c.action-choices.ensures.value ∙ (λ i. actions_at c.args.tables.now (top i) (c.token_of.ensures i))) c.in-Some.ensures e)
    c.make.ensures
