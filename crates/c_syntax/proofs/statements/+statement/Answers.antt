use Rattle.std.proofs.Common.{rules}
use Rattle.std.proofs.lemmas.Result.{err_from_is_err_and}
use Rattle.c_phrases.specs.Classes.{seen}
use Rattle.c_phrases.specs.Shapes.{exp}
use Rattle.c_phrases.specs.UnitShapes.{item_onto, items_of, local_of, part, statement_of}
use Rattle.c_phrases.specs.Units.{no_items}
use Rattle.c_syntax.proofs.Closing.{do_body_err, do_condition_err, do_err, do_semi, do_while, for_body_err, for_condition_err, for_deep, for_err, for_none, for_start_err}
use Rattle.c_syntax.proofs.Closing.{for_step_err, if_condition_err, if_err, if_other_err, if_then_err, item_local_err, item_local_leads, item_statement_err, item_statement_leads}
use Rattle.c_syntax.proofs.Closing.{items_begin, items_step_leads, simple_err, while_body_err, while_condition_err, while_err}
use Rattle.c_syntax.proofs.Exits.{err_map, when_false, when_true}
use Rattle.c_syntax.proofs.ItemLaws.{block_read, items_more, items_push, items_shorter}
use Rattle.c_syntax.proofs.statements.+statement.Goals as goal

pub statement-returns-in-Some-clause-read : goal.statement-returns-in-Some-clause-read
statement-returns-in-Some-clause-read t c = block_read c.args.level c.in_ok-up.up (seen c.args.tokens.now) (seen c.in-Some.inner.now) (seen c.in_ok-items.rest.now) c.in_ok-items.items
    c.in-Some.ensures.found c.in_ok-up.ensures.opened c.in_ok-items.ensures.read

pub statement-returns-in-Some-take_key-clause-fails : goal.statement-returns-in-Some-take_key-clause-fails
statement-returns-in-Some-take_key-clause-fails t c = err_map c.if_behind.result _ _
    (λ f h. if_err c.args.level c.in_ok-up-2.up c.in-Some-take_key.at (seen c.args.tokens.now) (seen c.in-Some-take_key.after.now) f c.in-Some-take_key.ensures.found
    c.in_ok-up-2.ensures.opened h) c.if_behind.ensures.fails

pub statement-returns-in-Some-take_key-2-clause-fails : goal.statement-returns-in-Some-take_key-2-clause-fails
statement-returns-in-Some-take_key-2-clause-fails t c = err_map c.while_behind.result _ _
    (λ f h. while_err c.args.level c.in_ok-up-3.up c.in-Some-take_key-2.at (seen c.args.tokens.now) (seen c.in-Some-take_key-2.after.now) f c.in-Some-take_key-2.ensures.found
    c.in_ok-up-3.ensures.opened h) c.while_behind.ensures.fails

pub statement-returns-in-Some-take_key-3-clause-fails : goal.statement-returns-in-Some-take_key-3-clause-fails
statement-returns-in-Some-take_key-3-clause-fails t c = err_map c.do_behind.result _ _
    (λ f h. do_err c.args.level c.in_ok-up-4.up c.in-Some-take_key-3.at (seen c.args.tokens.now) (seen c.in-Some-take_key-3.after.now) f c.in-Some-take_key-3.ensures.found
    c.in_ok-up-4.ensures.opened h) c.do_behind.ensures.fails

pub statement-returns-in-Some-take_key-4-clause-fails : goal.statement-returns-in-Some-take_key-4-clause-fails
statement-returns-in-Some-take_key-4-clause-fails t c = err_map c.for_behind.result _ _
    (λ f h. for_err c.args.level c.in_ok-up-5.up c.in-Some-take_key-4.at (seen c.args.tokens.now) (seen c.in-Some-take_key-4.after.now) f c.in-Some-take_key-4.ensures.found
    c.in_ok-up-5.ensures.opened h) c.for_behind.ensures.fails

pub statement-returns-clause-fails : goal.statement-returns-clause-fails
statement-returns-clause-fails t c = err_map c.simple.result _ _ (λ f h.
    simple_err c.args.level (seen c.args.tokens.now) f (record {
      no_brace = c.in_default.ensures.none;
      no_if = c.in_default-take_key.ensures.none;
      no_while =
          c.in_default-take_key-2.ensures.none;
      no_do = c.in_default-take_key-3.ensures.none;
      no_for = c.in_default-take_key-4.ensures.none;
    }) h) c.simple.ensures.fails

pub if_behind-returns-in_err-open-clause-fails : goal.if_behind-returns-in_err-open-clause-fails
if_behind-returns-in_err-open-clause-fails t c =
    let p = err_from_is_err_and c.from_residual.result c.from_residual.ensures.1 in
    rw (p.1, p.2) (if_condition_err c.args.at c.args.level (seen c.args.tokens.now) c.in_err-open.field-0.0 c.in_err-open.ensures.fails)

pub if_behind-returns-in_err-then-clause-fails : goal.if_behind-returns-in_err-then-clause-fails
if_behind-returns-in_err-then-clause-fails t c =
    let p = err_from_is_err_and c.from_residual-in_err-then.result c.from_residual-in_err-then.ensures.1 in
    rw (p.1, p.2) (if_then_err c.args.at c.args.level c.in_ok-open.«open» (seen c.args.tokens.now) (seen c.in_ok-open.rest.now) (exp c.in_ok-open.condition.value) c.in_err-then.field-0.0
    c.in_ok-open.ensures.read c.in_err-then.ensures.fails)

pub if_behind-returns-in_err-otherwise-clause-fails : goal.if_behind-returns-in_err-otherwise-clause-fails
if_behind-returns-in_err-otherwise-clause-fails t c =
    let p = err_from_is_err_and c.from_residual-in_err-otherwise.result c.from_residual-in_err-otherwise.ensures.1 in
    rw (p.1, p.2) (if_other_err c.args.at c.args.level c.in_ok-open.«open» c.in-Some.else_at (seen c.args.tokens.now) (seen c.in_ok-open.rest.now) (seen c.in_ok-then.rest.now)
    (seen c.in-Some.after.now) (exp c.in_ok-open.condition.value) (statement_of c.in_ok-then.«then») c.in_err-otherwise.field-0.0 c.in_ok-open.ensures.read c.in_ok-then.ensures.read
    c.in-Some.ensures.found c.in_err-otherwise.ensures.fails)

pub while_behind-returns-in_err-open-clause-fails : goal.while_behind-returns-in_err-open-clause-fails
while_behind-returns-in_err-open-clause-fails t c =
    let p = err_from_is_err_and c.from_residual.result c.from_residual.ensures.1 in
    rw (p.1, p.2) (while_condition_err c.args.at c.args.level (seen c.args.tokens.now) c.in_err-open.field-0.0 c.in_err-open.ensures.fails)

pub while_behind-returns-in_err-body-clause-fails : goal.while_behind-returns-in_err-body-clause-fails
while_behind-returns-in_err-body-clause-fails t c =
    let p = err_from_is_err_and c.from_residual-in_err-body.result c.from_residual-in_err-body.ensures.1 in
    rw (p.1, p.2) (while_body_err c.args.at c.args.level c.in_ok-open.«open» (seen c.args.tokens.now) (seen c.in_ok-open.rest.now) (exp c.in_ok-open.condition.value)
    c.in_err-body.field-0.0 c.in_ok-open.ensures.read c.in_err-body.ensures.fails)

pub do_behind-returns-in_err-body-clause-fails : goal.do_behind-returns-in_err-body-clause-fails
do_behind-returns-in_err-body-clause-fails t c =
    let p = err_from_is_err_and c.from_residual.result c.from_residual.ensures.1 in
    rw (p.1, p.2) (do_body_err c.args.at c.args.level (seen c.args.tokens.now) c.in_err-body.field-0.0 c.in_err-body.ensures.fails)

pub do_behind-returns-in_default-clause-fails : goal.do_behind-returns-in_default-clause-fails
do_behind-returns-in_default-clause-fails t c = do_while c.args.at c.args.level (seen c.args.tokens.now) (seen c.in_ok-body.rest.now) (statement_of c.in_ok-body.body) c.not_here.result
    c.in_ok-body.ensures.read c.not_here.ensures c.in_default.ensures.none

pub do_behind-returns-in_err-open-clause-fails : goal.do_behind-returns-in_err-open-clause-fails
do_behind-returns-in_err-open-clause-fails t c =
    let p = err_from_is_err_and c.from_residual-in_err-open.result c.from_residual-in_err-open.ensures.1 in
    rw (p.1, p.2) (do_condition_err c.args.at c.args.level c.in-Some.while_at (seen c.args.tokens.now) (seen c.in_ok-body.rest.now) (seen c.in-Some.after.now)
    (statement_of c.in_ok-body.body) c.in_err-open.field-0.0 c.in_ok-body.ensures.read c.in-Some.ensures.found c.in_err-open.ensures.fails)

pub do_behind-returns-in_err-rest-clause-fails : goal.do_behind-returns-in_err-rest-clause-fails
do_behind-returns-in_err-rest-clause-fails t c =
    let p = err_from_is_err_and c.from_residual-in_err-rest.result c.from_residual-in_err-rest.ensures.1 in
    rw (p.1, p.2) (do_semi c.args.at c.args.level c.in-Some.while_at c.in_ok-open.«open» (seen c.args.tokens.now) (seen c.in_ok-body.rest.now) (seen c.in-Some.after.now)
    (seen c.in_ok-open.rest.now) (statement_of c.in_ok-body.body) (exp c.in_ok-open.condition.value) c.in_err-rest.field-0.0 c.in_ok-body.ensures.read c.in-Some.ensures.found
    c.in_ok-open.ensures.read c.in_err-rest.ensures.other)

pub for_behind-returns-in_default-clause-fails : goal.for_behind-returns-in_default-clause-fails
for_behind-returns-in_default-clause-fails t c = for_none c.args.at c.args.level (seen c.args.tokens.now) c.not_here.result c.not_here.ensures c.in_default.ensures.none

pub for_behind-returns-in_err-up-clause-fails : goal.for_behind-returns-in_err-up-clause-fails
for_behind-returns-in_err-up-clause-fails t c =
    let p = err_from_is_err_and c.from_residual.result c.from_residual.ensures.1 in
    rw (p.1, p.2) (for_deep c.args.at c.args.level c.in-Some.«open» (seen c.args.tokens.now) (seen c.in-Some.inner.now) c.in_err-up.field-0.0 c.in-Some.ensures.found c.in_err-up.ensures.deep)

pub for_behind-returns-in_err-start-clause-fails : goal.for_behind-returns-in_err-start-clause-fails
for_behind-returns-in_err-start-clause-fails t c =
    let p = err_from_is_err_and c.from_residual-in_err-start.result c.from_residual-in_err-start.ensures.1 in
    rw (p.1, p.2) (for_start_err c.args.at c.args.level c.in_ok-up.up c.in-Some.«open» (seen c.args.tokens.now) (seen c.in-Some.inner.now) c.in_err-start.field-0.0 c.in-Some.ensures.found
    c.in_ok-up.ensures.opened c.in_err-start.ensures.fails)

pub for_behind-returns-in_err-condition-clause-fails : goal.for_behind-returns-in_err-condition-clause-fails
for_behind-returns-in_err-condition-clause-fails t c =
    let p = err_from_is_err_and c.from_residual-in_err-condition.result c.from_residual-in_err-condition.ensures.1 in
    rw (p.1, p.2) (for_condition_err c.args.at c.args.level c.in_ok-up.up c.in-Some.«open» (seen c.args.tokens.now) (seen c.in-Some.inner.now) (seen c.in_ok-start.rest.now)
    (part c.in_ok-start.start) c.in_err-condition.field-0.0 c.in-Some.ensures.found c.in_ok-up.ensures.opened c.in_ok-start.ensures.read c.in_err-condition.ensures.fails)

pub for_behind-returns-in_err-step-clause-fails : goal.for_behind-returns-in_err-step-clause-fails
for_behind-returns-in_err-step-clause-fails t c =
    let p = err_from_is_err_and c.from_residual-in_err-step.result c.from_residual-in_err-step.ensures.1 in
    rw (p.1, p.2) (for_step_err c.args.at c.args.level c.in_ok-up.up c.in-Some.«open» (seen c.args.tokens.now) (seen c.in-Some.inner.now) (seen c.in_ok-start.rest.now)
    (seen c.in_ok-condition.rest.now) (part c.in_ok-start.start) (part c.in_ok-condition.condition) c.in_err-step.field-0.0 c.in-Some.ensures.found c.in_ok-up.ensures.opened
    c.in_ok-start.ensures.read c.in_ok-condition.ensures.read c.in_err-step.ensures.fails)

pub for_behind-returns-in_err-body-clause-fails : goal.for_behind-returns-in_err-body-clause-fails
for_behind-returns-in_err-body-clause-fails t c =
    let p = err_from_is_err_and c.from_residual-in_err-body.result c.from_residual-in_err-body.ensures.1 in
    rw (p.1, p.2) (for_body_err c.args.at c.args.level c.in_ok-up.up c.in-Some.«open» (seen c.args.tokens.now) (seen c.in-Some.inner.now) (seen c.in_ok-start.rest.now)
    (seen c.in_ok-condition.rest.now) (seen c.in_ok-step.rest.now) (part c.in_ok-start.start) (part c.in_ok-condition.condition) (part c.in_ok-step.step) c.in_err-body.field-0.0
    c.in-Some.ensures.found c.in_ok-up.ensures.opened c.in_ok-start.ensures.read c.in_ok-condition.ensures.read c.in_ok-step.ensures.read c.in_err-body.ensures.fails)

pub item-returns-in_err-local-clause-fails : goal.item-returns-in_err-local-clause-fails
item-returns-in_err-local-clause-fails t c =
    let p = err_from_is_err_and c.from_residual.result c.from_residual.ensures.1 in
    rw (p.1, p.2) (item_local_err c.args.level (seen c.args.tokens.now) c.in_err-local.field-0.0 (when_true _ _ _ c.begins_local.ensures c.if-begins_local.true) c.in_err-local.ensures.fails)

pub item-returns-then-begins_local-clause-leads : goal.item-returns-then-begins_local-clause-leads
item-returns-then-begins_local-clause-leads t c = item_local_leads c.args.level (seen c.args.tokens.now) (seen c.in_ok-local.rest.now) (local_of c.in_ok-local.local)
    (when_true _ _ _ c.begins_local.ensures c.if-begins_local.true) c.in_ok-local.ensures.read

pub item-returns-in_err-statement-clause-fails : goal.item-returns-in_err-statement-clause-fails
item-returns-in_err-statement-clause-fails t c =
    let p = err_from_is_err_and c.from_residual-in_err-statement.result c.from_residual-in_err-statement.ensures.1 in
    rw (p.1, p.2) (item_statement_err c.args.level (seen c.args.tokens.now) c.in_err-statement.field-0.0 (when_false _ _ _ c.begins_local.ensures c.if-begins_local.false) c.requires
    c.in_err-statement.ensures.fails)

pub item-returns-clause-leads : goal.item-returns-clause-leads
item-returns-clause-leads t c = item_statement_leads c.args.level (seen c.args.tokens.now) (seen c.in_ok-statement.rest.now) (statement_of c.in_ok-statement.statement)
    (when_false _ _ _ c.begins_local.ensures c.if-begins_local.false) c.requires c.in_ok-statement.ensures.read

pub items-loop-last-init : goal.items-loop-last-init
items-loop-last-init t c = (search rules, items_begin c.args.level (seen c.args.tokens.now))

pub items-loop-last-smaller : goal.items-loop-last-smaller
items-loop-last-smaller t c = items_shorter c.args.level (seen c.loop-last.rest.now) (seen c.in_ok-next.behind.now) c.in_ok-next.next c.in_ok-next.ensures.read

pub items-loop-last-preserved : goal.items-loop-last-preserved
items-loop-last-preserved t c = (
  rw (c.in_ok-push.ensures.items, items_push c.loop-last.list.items c.in_ok-next.next)
      (items_more c.args.level (seen c.args.tokens.now) (seen c.loop-last.rest.now) (seen c.in_ok-next.behind.now) (items_of c.loop-last.list.items) (item_onto c.in_ok-next.next no_items)
      c.loop-last.invariant.0 c.in_ok-next.ensures.read),
  items_step_leads c.args.level (seen c.args.tokens.now) (seen c.loop-last.rest.now) (seen c.in_ok-next.behind.now)
      c.loop-last.invariant.1 c.in_ok-next.ensures.leads,
)

pub items-returns-in_err-next-clause-fails : goal.items-returns-in_err-next-clause-fails
items-returns-in_err-next-clause-fails t c =
    let p = err_from_is_err_and c.from_residual.result c.from_residual.ensures.1 in
    rw (p.1, p.2) (c.loop-last.invariant.1 c.in_err-next.field-0.0 c.in_err-next.ensures.fails)
