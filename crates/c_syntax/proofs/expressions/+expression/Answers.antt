use Rattle.std.proofs.Common.{◌+◌, arith, refl, rules}
use Rattle.c_phrases.specs.Classes.{seen}
use Rattle.c_phrases.specs.Spelling.{onto_name}
use Rattle.c_phrases.specs.Shapes.{exp, exp_list}
use Rattle.c_syntax_goals.proofs.PhraseLaws.{lower}
use Rattle.c_syntax.proofs.Stops.{quiet_unassigned, quiet_unasked}
use Rattle.c_syntax.proofs.ExpressionLaws.{read_lower, more_lower, no_more, unjoined, looser, part_more, call_as, call_led, list_push, arguments_more, arguments_shorter, ready_as}
use Rattle.c_syntax.proofs.ExpressionLaws.{call_read, one_closed}
use Rattle.std.proofs.lemmas.Result.{err_from_is_err_and}
use Rattle.gg_base.proofs.Facts.{if_ok}
use Rattle.c_syntax.proofs.Exits.{arguments_close, arguments_err, arguments_first_err, assign_cast_err, assign_cast_tail, assign_deep, assign_err, assign_unary_err}
use Rattle.c_syntax.proofs.Exits.{assign_unary_tail, call_leads, cast_close, cast_err, cast_type_err, cast_unary_err, choice_colon, choice_deep, choice_err, choice_leads}
use Rattle.c_syntax.proofs.Exits.{choice_operand, choice_tail, commas_more, err_map, expr_commas, expr_err, index_close, index_more, parens_close, parens_leads}
use Rattle.c_syntax.proofs.Exits.{parens_none, post_more, primary_parens_err, row_leads, row_more, row_tail, sizeof_close, sizeof_ended, sizeof_type_err, sizeof_unary_err}
use Rattle.c_syntax.proofs.Exits.{tail_assigned, unary_post_err, unary_primary_err, when_false, when_true}
use Rattle.c_syntax.proofs.expressions.+expression.Goals as goal

pub arguments-loop-after-smaller : goal.arguments-loop-after-smaller
arguments-loop-after-smaller t c = arguments_shorter c.args.level c.in_ok-next.field-0-2 (seen c.loop-after.rest.now) (seen c.in-Some-take_mark.after.now) (seen c.in_ok-next.behind.now)
    (exp c.in_ok-next.next.value) c.in-Some-take_mark.ensures.found c.in_ok-next.ensures.read

pub arguments-loop-after-preserved : goal.arguments-loop-after-preserved
arguments-loop-after-preserved t c = rw (c.in_ok-put-2.ensures.items, list_push c.loop-after.list.items c.in_ok-next.next.value)
    (arguments_more c.args.level c.in_ok-next.field-0-2 (seen c.args.tokens.now) (seen c.loop-after.rest.now) (seen c.in-Some-take_mark.after.now) (seen c.in_ok-next.behind.now)
    (exp_list c.loop-after.list.items) (exp c.in_ok-next.next.value) c.loop-after.invariant c.in-Some-take_mark.ensures.found c.in_ok-next.ensures.read)

pub named-returns-clause-read : goal.named-returns-clause-read
named-returns-clause-read t c = rw (c.in_ok-new-2.ensures.ok, one_closed c.args.level c.in_ok-up.up c.closed.result c.in_ok-up.ensures.opened c.closed.ensures)
    (call_as c.args.level (c.args.level + 1) c.args.name c.args.at c.in-Some.open
    (onto_name c.args.name c.args.at (seen c.args.tokens.now)) c.in_ok-arguments.arguments (seen c.in_ok-arguments.rest.now)
    (call_read c.args.level c.in_ok-up.up c.args.name c.args.at c.in-Some.open (seen c.args.tokens.now) (seen c.in-Some.inner.now) (exp_list c.in_ok-arguments.arguments.items)
    (seen c.in_ok-arguments.rest.now) c.in-Some.ensures.found c.in_ok-up.ensures.opened c.in_ok-arguments.ensures.read))

pub binary-binary-requires-2 : goal.binary-binary-requires-2
binary-binary-requires-2 t c = (
  search rules,
  (
    search rules,
    rw (c.in_ok-new.ensures.ok) (ready_as c.args.lowest c.level.result c.level-2.result (exp c.args.left.value) (exp c.in_ok-right.right.value) _ _ c.in-Some.operator c.in-Some.at
        (seen c.args.tokens.now) (seen c.in-Some.after.now) (seen c.in_ok-right.rest.now) c.requires.ready c.in-Some.ensures.found c.level.ensures c.level-2.ensures c.if-level-lowest.false
        c.in_ok-right.ensures.read.at c.in_ok-right.ensures.read.quiet refl refl),
  ),
)

pub arguments-returns-in_err-first-clause-fails : goal.arguments-returns-in_err-first-clause-fails
arguments-returns-in_err-first-clause-fails t c =
    let p = err_from_is_err_and c.from_residual.result c.from_residual.ensures.1 in
    rw (p.1, p.2) (arguments_first_err c.args.level (seen c.args.tokens.now) c.in_err-first.field-0.0 c.in_default.ensures.none c.in_err-first.ensures.fails)

pub arguments-returns-in_err-next-clause-fails : goal.arguments-returns-in_err-next-clause-fails
arguments-returns-in_err-next-clause-fails t c =
    let p = err_from_is_err_and c.from_residual-in_err-next.result c.from_residual-in_err-next.ensures.1 in
    rw (p.1, p.2) (arguments_err c.args.level (seen c.args.tokens.now) (seen c.loop-after.rest.now) (seen c.in-Some-take_mark.after.now) (exp_list c.loop-after.list.items)
    c.in_err-next.field-0.0 c.loop-after.invariant c.in-Some-take_mark.ensures.found c.in_err-next.ensures.fails)

pub arguments-returns-in_err-rest-clause-fails : goal.arguments-returns-in_err-rest-clause-fails
arguments-returns-in_err-rest-clause-fails t c =
    let p = err_from_is_err_and c.from_residual-in_err-rest.result c.from_residual-in_err-rest.ensures.1 in
    rw (p.1, p.2) (arguments_close c.args.level (seen c.args.tokens.now) (seen c.loop-after.rest.now) (exp_list c.loop-after.list.items) c.in_err-rest.field-0.0 c.loop-after.invariant
    c.in_default-take_mark.ensures.none c.in_err-rest.ensures.other)

pub assignment-returns-in_err-operand-clause-fails : goal.assignment-returns-in_err-operand-clause-fails
assignment-returns-in_err-operand-clause-fails t c =
    let p = err_from_is_err_and c.from_residual.result c.from_residual.ensures.1 in
    rw (p.1, p.2) (assign_cast_err c.args.level (seen c.args.tokens.now) c.in_err-operand.field-0.0 (when_true _ _ _ c.begins_cast.ensures c.if-begins_cast.true) c.in_err-operand.ensures.fails)

pub assignment-returns-then-begins_cast-clause-fails : goal.assignment-returns-then-begins_cast-clause-fails
assignment-returns-then-begins_cast-clause-fails t c = err_map c.unassigned.result _ _
    (λ f h. assign_cast_tail c.args.level c.in_ok-operand.now (seen c.args.tokens.now) (seen c.in_ok-operand.rest.now) (exp c.in_ok-operand.operand.value) f
    (when_true _ _ _ c.begins_cast.ensures c.if-begins_cast.true) c.in_ok-operand.ensures.read h) c.unassigned.ensures.fails

pub assignment-returns-in_err-operand-2-clause-fails : goal.assignment-returns-in_err-operand-2-clause-fails
assignment-returns-in_err-operand-2-clause-fails t c =
    let p = err_from_is_err_and c.from_residual-in_err-operand-2.result c.from_residual-in_err-operand-2.ensures.1 in
    rw (p.1, p.2) (assign_unary_err c.args.level (seen c.args.tokens.now) c.in_err-operand-2.field-0.0 (when_false _ _ _ c.begins_cast.ensures c.if-begins_cast.false) c.in_err-operand-2.ensures.fails)

pub assignment-returns-in_default-clause-fails : goal.assignment-returns-in_default-clause-fails
assignment-returns-in_default-clause-fails t c = err_map c.unassigned-in_default.result _ _
    (λ f h. assign_unary_tail c.args.level c.in_ok-operand-2.now (seen c.args.tokens.now) (seen c.in_ok-operand-2.rest.now) (exp c.in_ok-operand-2.operand.value) f
    (when_false _ _ _ c.begins_cast.ensures c.if-begins_cast.false) c.in_ok-operand-2.ensures.read c.in_default.ensures.none h) c.unassigned-in_default.ensures.fails

pub assignment-returns-in_err-up-clause-fails : goal.assignment-returns-in_err-up-clause-fails
assignment-returns-in_err-up-clause-fails t c =
    let p = err_from_is_err_and c.from_residual-in_err-up.result c.from_residual-in_err-up.ensures.1 in
    rw (p.1, p.2) (assign_deep c.args.level c.in_ok-operand-2.now (seen c.args.tokens.now) (seen c.in_ok-operand-2.rest.now) (seen c.in-Some.after.now)
    (exp c.in_ok-operand-2.operand.value) c.in-Some.operator c.in-Some.at c.in_err-up.field-0.0 (when_false _ _ _ c.begins_cast.ensures c.if-begins_cast.false)
    c.in_ok-operand-2.ensures.read c.in-Some.ensures.found c.in_err-up.ensures.deep)

pub assignment-returns-in_err-value-clause-fails : goal.assignment-returns-in_err-value-clause-fails
assignment-returns-in_err-value-clause-fails t c =
    let p = err_from_is_err_and c.from_residual-in_err-value.result c.from_residual-in_err-value.ensures.1 in
    rw (p.1, p.2) (assign_err c.args.level c.in_ok-operand-2.now c.in_ok-up.up (seen c.args.tokens.now) (seen c.in_ok-operand-2.rest.now) (seen c.in-Some.after.now)
    (exp c.in_ok-operand-2.operand.value) c.in-Some.operator c.in-Some.at c.in_err-value.field-0.0 (when_false _ _ _ c.begins_cast.ensures c.if-begins_cast.false)
    c.in_ok-operand-2.ensures.read c.in-Some.ensures.found c.in_ok-up.ensures.opened c.in_err-value.ensures.fails)

pub binary-returns-in_err-right-clause-fails : goal.binary-returns-in_err-right-clause-fails
binary-returns-in_err-right-clause-fails t c =
    let p = err_from_is_err_and c.from_residual-in_err-right.result c.from_residual-in_err-right.ensures.1 in
    rw (p.1, p.2) (row_tail c.args.level c.in_ok-up.up c.in_ok-operand.now (seen c.args.tokens.now) (seen c.in-Some.after.now) (seen c.in_ok-operand.rest.now) c.in-Some.operator
    c.in-Some.at (exp c.in_ok-operand.operand.value) c.in_err-right.field-0.0 c.in-Some.ensures.found c.in_ok-up.ensures.opened c.in_ok-operand.ensures.read c.in_err-right.ensures.fails)

pub binary-returns-clause-fails : goal.binary-returns-clause-fails
binary-returns-clause-fails t c = err_map c.binary-2.result _ _ (λ f h.
    row_more c.args.level c.in_ok-up.up c.in_ok-operand.now c.in_ok-right.now (seen c.args.tokens.now) (seen c.in-Some.after.now) (seen c.in_ok-operand.rest.now)
    (seen c.in_ok-right.rest.now) c.in-Some.operator c.in-Some.at (exp c.in_ok-operand.operand.value) f c.in-Some.ensures.found c.in_ok-up.ensures.opened c.in_ok-operand.ensures.read
    c.in_ok-right.ensures.leads h) c.binary-2.ensures.fails

pub binary-returns-clause-leads : goal.binary-returns-clause-leads
binary-returns-clause-leads t c = if_ok c.binary-2.result _ _ (λ x h. row_leads c.args.level c.in_ok-up.up c.in_ok-operand.now c.in_ok-right.now x.2 (seen c.args.tokens.now)
    (seen c.in-Some.after.now) (seen c.in_ok-operand.rest.now) (seen c.in_ok-right.rest.now) (seen x.1.now) c.in-Some.operator c.in-Some.at (exp c.in_ok-operand.operand.value)
    c.in-Some.ensures.found c.in_ok-up.ensures.opened c.in_ok-operand.ensures.read c.in_ok-right.ensures.leads h) c.binary-2.ensures.leads

pub cast-returns-in_default-clause-fails : goal.cast-returns-in_default-clause-fails
cast-returns-in_default-clause-fails t c = err_map c.unary.result _ _ (λ f h. cast_unary_err c.args.level (seen c.args.tokens.now) f c.in_default.ensures.none h) c.unary.ensures.fails

pub cast-returns-in_err-to-clause-fails : goal.cast-returns-in_err-to-clause-fails
cast-returns-in_err-to-clause-fails t c =
    let p = err_from_is_err_and c.from_residual-in_err-to.result c.from_residual-in_err-to.ensures.1 in
    rw (p.1, p.2) (cast_type_err c.args.level c.in_ok-up.up c.in-Some.«open» (seen c.args.tokens.now) (seen c.in-Some.inner.now) c.in_err-to.field-0.0 c.in-Some.ensures.found
    c.in_ok-up.ensures.opened (c.in_err-to.ensures.fails c.in_ok-up.up))

pub cast-returns-in_err-rest-clause-fails : goal.cast-returns-in_err-rest-clause-fails
cast-returns-in_err-rest-clause-fails t c =
    let p = err_from_is_err_and c.from_residual-in_err-rest.result c.from_residual-in_err-rest.ensures.1 in
    rw (p.1, p.2) (cast_close c.args.level c.in_ok-up.up c.in-Some.«open» (seen c.args.tokens.now) (seen c.in-Some.inner.now) (seen c.in_ok-to.rest.now) c.in_ok-to.to
    c.in_err-rest.field-0.0 c.in-Some.ensures.found c.in_ok-up.ensures.opened c.in_ok-to.ensures.read c.in_err-rest.ensures.other)

pub cast-returns-in_err-operand-clause-fails : goal.cast-returns-in_err-operand-clause-fails
cast-returns-in_err-operand-clause-fails t c =
    let p = err_from_is_err_and c.from_residual-in_err-operand.result c.from_residual-in_err-operand.ensures.1 in
    rw (p.1, p.2) (cast_err c.args.level c.in_ok-up.up c.in-Some.«open» (seen c.args.tokens.now) (seen c.in-Some.inner.now) (seen c.in_ok-to.rest.now) (seen c.in_ok-rest.rest.now)
    c.in_ok-to.to c.in_err-operand.field-0.0 c.in-Some.ensures.found c.in_ok-up.ensures.opened c.in_ok-to.ensures.read c.in_ok-rest.ensures.found c.in_err-operand.ensures.fails)

pub commas-returns-clause-fails : goal.commas-returns-clause-fails
commas-returns-clause-fails t c = err_map c.commas.result _ _ (λ f h. commas_more c.args.level c.in_ok-up.up c.in_ok-right.now (seen c.args.tokens.now) (seen c.in-Some.after.now)
    (seen c.in_ok-right.rest.now) (exp c.in_ok-right.right.value) f c.in-Some.ensures.found c.in_ok-up.ensures.opened c.in_ok-right.ensures.read h) c.commas.ensures.fails

pub conditional-returns-in_err-up-clause-fails : goal.conditional-returns-in_err-up-clause-fails
conditional-returns-in_err-up-clause-fails t c =
    let p = err_from_is_err_and c.from_residual-in_err-up.result c.from_residual-in_err-up.ensures.1 in
    rw (p.1, p.2) (choice_deep c.args.level c.in_ok-condition.now (seen c.args.tokens.now) (seen c.in_ok-condition.rest.now) (seen c.in-Some.inner.now) c.in-Some.at c.in_err-up.field-0.0
    c.in_ok-condition.ensures.leads c.in-Some.ensures.found c.in_err-up.ensures.deep)

pub conditional-returns-in_err-chosen-clause-fails : goal.conditional-returns-in_err-chosen-clause-fails
conditional-returns-in_err-chosen-clause-fails t c =
    let p = err_from_is_err_and c.from_residual-in_err-chosen.result c.from_residual-in_err-chosen.ensures.1 in
    rw (p.1, p.2) (choice_err c.args.level c.in_ok-condition.now c.in_ok-up.up (seen c.args.tokens.now) (seen c.in_ok-condition.rest.now) (seen c.in-Some.inner.now) c.in-Some.at
    c.in_err-chosen.field-0.0 c.in_ok-condition.ensures.leads c.in-Some.ensures.found c.in_ok-up.ensures.opened c.in_err-chosen.ensures.fails)

pub conditional-returns-in_err-rest-clause-fails : goal.conditional-returns-in_err-rest-clause-fails
conditional-returns-in_err-rest-clause-fails t c =
    let p = err_from_is_err_and c.from_residual-in_err-rest.result c.from_residual-in_err-rest.ensures.1 in
    rw (p.1, p.2) (choice_colon c.args.level c.in_ok-condition.now c.in_ok-up.up c.in_ok-chosen.now (seen c.args.tokens.now) (seen c.in_ok-condition.rest.now) (seen c.in-Some.inner.now)
    (seen c.in_ok-chosen.rest.now) c.in-Some.at (exp c.in_ok-chosen.chosen.value) c.in_err-rest.field-0.0 c.in_ok-condition.ensures.leads c.in-Some.ensures.found
    c.in_ok-up.ensures.opened c.in_ok-chosen.ensures.read c.in_err-rest.ensures.other)

pub conditional-returns-in_err-operand-clause-fails : goal.conditional-returns-in_err-operand-clause-fails
conditional-returns-in_err-operand-clause-fails t c =
    let p = err_from_is_err_and c.from_residual-in_err-operand.result c.from_residual-in_err-operand.ensures.1 in
    rw (p.1, p.2) (choice_operand c.args.level c.in_ok-condition.now c.in_ok-up.up c.in_ok-chosen.now (seen c.args.tokens.now) (seen c.in_ok-condition.rest.now) (seen c.in-Some.inner.now)
    (seen c.in_ok-chosen.rest.now) (seen c.in_ok-rest.rest.now) c.in-Some.at (exp c.in_ok-chosen.chosen.value) c.in_err-operand.field-0.0 c.in_ok-condition.ensures.leads
    c.in-Some.ensures.found c.in_ok-up.ensures.opened c.in_ok-chosen.ensures.read c.in_ok-rest.ensures.found c.in_err-operand.ensures.fails)

pub conditional-returns-in_err-other-clause-fails : goal.conditional-returns-in_err-other-clause-fails
conditional-returns-in_err-other-clause-fails t c =
    let p = err_from_is_err_and c.from_residual-in_err-other.result c.from_residual-in_err-other.ensures.1 in
    rw (p.1, p.2) (choice_tail c.args.level c.in_ok-condition.now c.in_ok-up.up c.in_ok-chosen.now c.in_ok-operand.now (seen c.args.tokens.now) (seen c.in_ok-condition.rest.now)
    (seen c.in-Some.inner.now) (seen c.in_ok-chosen.rest.now) (seen c.in_ok-rest.rest.now) (seen c.in_ok-operand.rest.now) c.in-Some.at (exp c.in_ok-chosen.chosen.value)
    (exp c.in_ok-operand.operand.value) c.in_err-other.field-0.0 c.in_ok-condition.ensures.leads c.in-Some.ensures.found c.in_ok-up.ensures.opened c.in_ok-chosen.ensures.read
    c.in_ok-rest.ensures.found c.in_ok-operand.ensures.read c.in_err-other.ensures.fails)

pub conditional-returns-clause-leads : goal.conditional-returns-clause-leads
conditional-returns-clause-leads t c = choice_leads c.args.level c.in_ok-condition.now c.in_ok-up.up c.in_ok-chosen.now c.in_ok-operand.now c.in_ok-other.now (seen c.args.tokens.now)
    (seen c.in_ok-condition.rest.now) (seen c.in-Some.inner.now) (seen c.in_ok-chosen.rest.now) (seen c.in_ok-rest.rest.now) (seen c.in_ok-operand.rest.now) (seen c.in_ok-other.rest.now)
    c.in-Some.at (exp c.in_ok-chosen.chosen.value) (exp c.in_ok-operand.operand.value) c.in_ok-condition.ensures.leads c.in-Some.ensures.found c.in_ok-up.ensures.opened
    c.in_ok-chosen.ensures.read c.in_ok-rest.ensures.found c.in_ok-operand.ensures.read c.in_ok-other.ensures.leads

pub expression-returns-in_err-first-clause-fails : goal.expression-returns-in_err-first-clause-fails
expression-returns-in_err-first-clause-fails t c =
    let p = err_from_is_err_and c.from_residual.result c.from_residual.ensures.1 in
    rw (p.1, p.2) (expr_err c.args.level (seen c.args.tokens.now) c.in_err-first.field-0.0 c.in_err-first.ensures.fails)

pub expression-returns-clause-fails : goal.expression-returns-clause-fails
expression-returns-clause-fails t c = err_map c.commas.result _ _ (λ f h.
    expr_commas c.args.level c.in_ok-first.now (seen c.args.tokens.now) (seen c.in_ok-first.rest.now) (exp c.in_ok-first.first.value) f c.in_ok-first.ensures.read h) c.commas.ensures.fails

pub parenthesised-returns-in_default-clause-fails : goal.parenthesised-returns-in_default-clause-fails
parenthesised-returns-in_default-clause-fails t c = parens_none c.args.level (seen c.args.tokens.now) c.not_here.result c.not_here.ensures c.in_default.ensures.none

pub parenthesised-returns-in_err-rest-clause-fails : goal.parenthesised-returns-in_err-rest-clause-fails
parenthesised-returns-in_err-rest-clause-fails t c =
    let p = err_from_is_err_and c.from_residual-in_err-rest.result c.from_residual-in_err-rest.ensures.1 in
    rw (p.1, p.2) (parens_close c.args.level c.in_ok-up.up c.in_ok-inner.field-0-2 c.in-Some.«open» (seen c.args.tokens.now) (seen c.in-Some.inner.now) (seen c.in_ok-inner.rest.now)
    (exp c.in_ok-inner.inner.value) c.in_err-rest.field-0.0 c.in-Some.ensures.found c.in_ok-up.ensures.opened c.in_ok-inner.ensures.read c.in_err-rest.ensures.other)

pub parenthesised-returns-clause-leads : goal.parenthesised-returns-clause-leads
parenthesised-returns-clause-leads t c = rw (c.in_ok-new.ensures.ok) (parens_leads c.args.level c.in_ok-up.up c.in_ok-inner.field-0-2 c.in-Some.«open» (seen c.args.tokens.now)
    (seen c.in-Some.inner.now) (seen c.in_ok-inner.rest.now) (seen c.in_ok-rest.rest.now) (exp c.in_ok-inner.inner.value) c.in-Some.ensures.found c.in_ok-up.ensures.opened
    c.in_ok-inner.ensures.read c.in_ok-rest.ensures.found)

pub postfix-returns-in_err-rest-clause-fails : goal.postfix-returns-in_err-rest-clause-fails
postfix-returns-in_err-rest-clause-fails t c =
    let p = err_from_is_err_and c.from_residual-in_err-rest.result c.from_residual-in_err-rest.ensures.1 in
    rw (p.1, p.2) (index_close c.args.level c.in_ok-up.up c.in_ok-index.field-0-2 c.in-Some.«open» (seen c.args.tokens.now) (seen c.in-Some.inner.now) (seen c.in_ok-index.rest.now)
    (exp c.in_ok-index.index.value) c.in_err-rest.field-0.0 c.in-Some.ensures.found c.in_ok-up.ensures.opened c.in_ok-index.ensures.read c.in_err-rest.ensures.other)

pub postfix-returns-in-Some-clause-fails : goal.postfix-returns-in-Some-clause-fails
postfix-returns-in-Some-clause-fails t c = err_map c.postfix.result _ _
    (λ f h. index_more c.args.level c.in_ok-up.up c.in_ok-index.field-0-2 c.in-Some.«open» (seen c.args.tokens.now) (seen c.in-Some.inner.now) (seen c.in_ok-index.rest.now)
    (seen c.in_ok-rest.rest.now) (exp c.in_ok-index.index.value) f c.in-Some.ensures.found c.in_ok-up.ensures.opened c.in_ok-index.ensures.read c.in_ok-rest.ensures.found
    (rw (one_closed c.args.level c.in_ok-up.up c.closed.result c.in_ok-up.ensures.opened c.closed.ensures) at h)) c.postfix.ensures.fails

pub postfix-returns-in-Some-take_step-clause-fails : goal.postfix-returns-in-Some-take_step-clause-fails
postfix-returns-in-Some-take_step-clause-fails t c = err_map c.postfix-in-Some-take_step.result _ _
    (λ f h. post_more c.args.level c.in_ok-up-2.up (seen c.args.tokens.now) (seen c.in-Some-take_step.rest.now) c.in-Some-take_step.operator c.in-Some-take_step.at f
    c.in-Some-take_step.ensures.found c.in_ok-up-2.ensures.opened h) c.postfix-in-Some-take_step.ensures.fails

pub sizeof-returns-in_err-operand-clause-fails : goal.sizeof-returns-in_err-operand-clause-fails
sizeof-returns-in_err-operand-clause-fails t c =
    let p = err_from_is_err_and c.from_residual.result c.from_residual.ensures.1 in
    rw (p.1, p.2) (sizeof_unary_err c.args.at c.args.level (seen c.args.tokens.now) c.in_err-operand.field-0.0 c.in_default.ensures.none c.in_err-operand.ensures.fails)

pub sizeof-returns-in_err-of-clause-fails : goal.sizeof-returns-in_err-of-clause-fails
sizeof-returns-in_err-of-clause-fails t c =
    let p = err_from_is_err_and c.from_residual-in_err-of.result c.from_residual-in_err-of.ensures.1 in
    rw (p.1, p.2) (sizeof_type_err c.args.at c.args.level c.in_ok-_up._up c.in-Some.«open» (seen c.args.tokens.now) (seen c.in-Some.inner.now) c.in_err-of.field-0.0 c.in-Some.ensures.found
    c.in_ok-_up.ensures.opened (c.in_err-of.ensures.fails c.in_ok-_up._up))

pub sizeof-returns-in_err-rest-clause-fails : goal.sizeof-returns-in_err-rest-clause-fails
sizeof-returns-in_err-rest-clause-fails t c =
    let p = err_from_is_err_and c.from_residual-in_err-rest.result c.from_residual-in_err-rest.ensures.1 in
    rw (p.1, p.2) (sizeof_close c.args.at c.args.level c.in_ok-_up._up c.in-Some.«open» (seen c.args.tokens.now) (seen c.in-Some.inner.now) (seen c.in_ok-of.rest.now) c.in_ok-of.of
    c.in_err-rest.field-0.0 c.in-Some.ensures.found c.in_ok-_up.ensures.opened c.in_ok-of.ensures.read c.in_err-rest.ensures.other)

pub sizeof-returns-in_err-ended-clause-fails : goal.sizeof-returns-in_err-ended-clause-fails
sizeof-returns-in_err-ended-clause-fails t c =
    let p = err_from_is_err_and c.from_residual-in_err-ended.result c.from_residual-in_err-ended.ensures.1 in
    rw (p.1, p.2) (sizeof_ended c.args.at c.args.level c.in_ok-_up._up c.in-Some.«open» (seen c.args.tokens.now) (seen c.in-Some.inner.now) (seen c.in_ok-of.rest.now)
    (seen c.in_ok-rest.rest.now) c.in_ok-of.of c.in_err-ended.field-0.0 c.in-Some.ensures.found c.in_ok-_up.ensures.opened c.in_ok-of.ensures.read c.in_ok-rest.ensures.found
    c.in_err-ended.ensures.stops)

pub unary-returns-in_err-base-clause-fails : goal.unary-returns-in_err-base-clause-fails
unary-returns-in_err-base-clause-fails t c =
    let p = err_from_is_err_and c.from_residual-in_err-base.result c.from_residual-in_err-base.ensures.1 in
    rw (p.1, p.2) (unary_primary_err c.args.level (seen c.args.tokens.now) c.in_err-base.field-0.0 c.in_default.ensures.none c.in_default-take_step.ensures.none
    c.in_default-take_key.ensures.none c.in_err-base.ensures.fails)

pub unary-returns-clause-fails : goal.unary-returns-clause-fails
unary-returns-clause-fails t c = err_map c.postfix.result _ _ (λ f h. unary_post_err c.args.level c.in_ok-base.now (seen c.args.tokens.now) (seen c.in_ok-base.rest.now)
    (exp c.in_ok-base.base.value) f c.in_default.ensures.none c.in_default-take_step.ensures.none c.in_default-take_key.ensures.none c.in_ok-base.ensures.leads h) c.postfix.ensures.fails

pub unassigned-returns-in-Some-clause-fails : goal.unassigned-returns-in-Some-clause-fails
unassigned-returns-in-Some-clause-fails t c = tail_assigned c.args.level c.in_ok-whole.now (seen c.args.tokens.now) (seen c.in_ok-whole.rest.now) (seen c.in-Some.field-0.2.now)
    c.in-Some.field-0.0 c.in-Some.field-0.1 c.not_here.result c.in_ok-whole.ensures.leads c.in-Some.ensures.found c.not_here.ensures

pub named-returns-clause-leads : goal.named-returns-clause-leads
named-returns-clause-leads t c = rw (c.in_ok-new-2.ensures.ok, one_closed c.args.level c.in_ok-up.up c.closed.result c.in_ok-up.ensures.opened c.closed.ensures)
    (call_led c.args.level (c.args.level + 1) c.args.name c.args.at c.in-Some.«open» (seen c.args.tokens.now)
    c.in_ok-arguments.arguments (seen c.in_ok-arguments.rest.now) (call_leads c.args.level c.in_ok-up.up c.args.at c.in-Some.«open» c.args.name (seen c.args.tokens.now)
    (seen c.in-Some.inner.now) (seen c.in_ok-arguments.rest.now) (exp_list c.in_ok-arguments.arguments.items) c.in-Some.ensures.found c.in_ok-up.ensures.opened c.in_ok-arguments.ensures.read))

pub primary-returns-clause-fails : goal.primary-returns-clause-fails
primary-returns-clause-fails t c = err_map c.parenthesised.result _ _ (λ f h. primary_parens_err c.args.level (seen c.args.tokens.now) f (search rules) (search rules) (search rules) h)
    c.parenthesised.ensures.fails

pub cast-returns-in_default-clause-read : goal.cast-returns-in_default-clause-read
cast-returns-in_default-clause-read t c = if_ok c.unary.result _ _ (λ x h. read_lower 13 14 13 _ _ _ _ _ (omega arith) h) c.unary.ensures.read

pub unassigned-returns-clause-read : goal.unassigned-returns-clause-read
unassigned-returns-clause-read t c =
    more_lower 1 2 2 1 _ _ _ _ _ _ (omega arith) (quiet_unassigned (seen c.in_ok-whole.rest.now) c.in_ok-whole.ensures.read.quiet c.in_default.ensures.none)
    c.in_ok-whole.ensures.read

pub conditional-returns-in_default-clause-read : goal.conditional-returns-in_default-clause-read
conditional-returns-in_default-clause-read t c =
    more_lower 2 3 3 2 _ _ _ _ _ _ (omega arith)
    (quiet_unasked (seen c.in_ok-condition.rest.now) c.in_ok-condition.ensures.read.quiet c.in_default.ensures.none) c.in_ok-condition.ensures.read

pub binary-returns-in_default-clause-read : goal.binary-returns-in_default-clause-read
binary-returns-in_default-clause-read t c =
    no_more c.args.lowest c.args.level (exp c.args.left.value) (seen c.args.tokens.now) c.requires.ready
    (unjoined c.args.lowest (exp c.args.left.value) (seen c.args.tokens.now) c.requires.least c.requires.ready c.in_default.ensures.none)

pub binary-returns-then-level-lowest-clause-read : goal.binary-returns-then-level-lowest-clause-read
binary-returns-then-level-lowest-clause-read t c =
    no_more c.args.lowest c.args.level (exp c.args.left.value) (seen c.args.tokens.now) c.requires.ready
    (looser c.args.lowest c.level.result c.in-Some.operator c.in-Some.at (seen c.args.tokens.now) (seen c.in-Some.after.now) c.in-Some.ensures.found
    c.level.ensures c.if-level-lowest.true)

pub unary-returns-clause-read : goal.unary-returns-clause-read
unary-returns-clause-read t c =
    if_ok c.postfix.result _ _ (λ x h. part_more _ _ _ _ _ _ _ _ c.in_ok-base.ensures.read h) c.postfix.ensures.read

pub assignment-unassigned-requires-in_default : goal.assignment-unassigned-requires-in_default
assignment-unassigned-requires-in_default t c =
    (search rules, (lower 13 14 (exp c.in_ok-operand-2.operand.value) (omega arith) c.in_ok-operand-2.ensures.read.at, c.in_ok-operand-2.ensures.read.quiet))

pub expression-commas-requires : goal.expression-commas-requires
expression-commas-requires t c =
    (search rules, (lower 0 1 (exp c.in_ok-first.first.value) (omega arith) c.in_ok-first.ensures.read.at, c.in_ok-first.ensures.read.quiet))
