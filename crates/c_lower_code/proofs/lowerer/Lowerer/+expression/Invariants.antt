use Rattle.std.proofs.Common.{◌+◌, ◌*◌}
use Rattle.c_types.specs.Typed.{expression_of, place_of, expressions_of}
use Rattle.c_lower_parts.specs.Sizes.{size, place_size, all_size}
use Rattle.c_lower_code.proofs.lowerer.Lowerer.+expression.Given as goal

abbrev pub decreases-seek : goal.decreases-seek
decreases-seek l = 8 * place_size (place_of l.place.now)

abbrev pub decreases-joined : goal.decreases-joined
decreases-joined l = 8 * (size (expression_of l.a.now) + size (expression_of l.b.now)) + 1

abbrev pub decreases-relation : goal.decreases-relation
decreases-relation l = 8 * (size (expression_of l.a.now) + size (expression_of l.b.now)) + 2

abbrev pub decreases-chain : goal.decreases-chain
decreases-chain l = 8 * (size (expression_of l.a.now) + size (expression_of l.b.now)) + 3

abbrev pub decreases-drop_chain : goal.decreases-drop_chain
decreases-drop_chain l = 8 * (size (expression_of l.a.now) + size (expression_of l.b.now)) + 3

abbrev pub decreases-drop_two : goal.decreases-drop_two
decreases-drop_two l = 8 * (size (expression_of l.a.now) + size (expression_of l.b.now)) + 3

abbrev pub decreases-updated : goal.decreases-updated
decreases-updated l = 8 * (place_size (place_of l.place.now) + size (expression_of l.e.now)) + 1

abbrev pub decreases-changed : goal.decreases-changed
decreases-changed l = 8 * (place_size (place_of l.place.now) + size (expression_of l.e.now)) + 2

abbrev pub decreases-drop_changed : goal.decreases-drop_changed
decreases-drop_changed l = 8 * (place_size (place_of l.place.now) + size (expression_of l.e.now)) + 2

abbrev pub decreases-assign_value : goal.decreases-assign_value
decreases-assign_value l = 8 * (place_size (place_of l.place.now) + size (expression_of l.e.now)) + 3

abbrev pub decreases-assign_effect : goal.decreases-assign_effect
decreases-assign_effect l = 8 * (place_size (place_of l.place.now) + size (expression_of l.e.now)) + 3

abbrev pub decreases-kept : goal.decreases-kept
decreases-kept l = 8 * size (expression_of l.e.now) + 1

abbrev pub decreases-deliver_as : goal.decreases-deliver_as
decreases-deliver_as l = 8 * size (expression_of l.e.now) + 3

abbrev pub decreases-unary_deliver : goal.decreases-unary_deliver
decreases-unary_deliver l = 8 * size (expression_of l.e.now) + 5

abbrev pub decreases-deliver_chosen : goal.decreases-deliver_chosen
decreases-deliver_chosen l = 8 * (size (expression_of l.c.now) + size (expression_of l.a.now) + size (expression_of l.b.now)) + 3

abbrev pub decreases-deliver : goal.decreases-deliver
decreases-deliver l = 8 * size (expression_of l.e.now) + 2

abbrev pub decreases-pass : goal.decreases-pass
decreases-pass l = 8 * all_size (expressions_of l.es.now)

abbrev pub decreases-chosen : goal.decreases-chosen
decreases-chosen l = 8 * (size (expression_of l.c.now) + size (expression_of l.a.now) + size (expression_of l.b.now)) + 3

abbrev pub decreases-drop_chosen : goal.decreases-drop_chosen
decreases-drop_chosen l = 8 * (size (expression_of l.c.now) + size (expression_of l.a.now) + size (expression_of l.b.now)) + 3

abbrev pub decreases-unary : goal.decreases-unary
decreases-unary l = 8 * size (expression_of l.e.now) + 4

abbrev pub decreases-unary_branch : goal.decreases-unary_branch
decreases-unary_branch l = 8 * size (expression_of l.e.now) + 5

abbrev pub decreases-unary_drop : goal.decreases-unary_drop
decreases-unary_drop l = 8 * size (expression_of l.e.now) + 3

abbrev pub decreases-comma : goal.decreases-comma
decreases-comma l = 8 * (size (expression_of l.a.now) + size (expression_of l.b.now)) + 3

abbrev pub decreases-value : goal.decreases-value
decreases-value l = 8 * size (expression_of l.e.now)

abbrev pub decreases-tested : goal.decreases-tested
decreases-tested l = 8 * size (expression_of l.e.now) + 1

abbrev pub decreases-unwanted : goal.decreases-unwanted
decreases-unwanted l = 8 * size (expression_of l.e.now) + 1

abbrev pub decreases-branch : goal.decreases-branch
decreases-branch l = 8 * size (expression_of l.e.now) + 2

abbrev pub decreases-discard : goal.decreases-discard
decreases-discard l = 8 * size (expression_of l.e.now) + 2

abbrev pub decreases-negation : goal.decreases-negation
decreases-negation l = 8 * size (expression_of l.e.now) + 3

abbrev pub decreases-compared : goal.decreases-compared
decreases-compared l = 8 * (size (expression_of l.a.now) + size (expression_of l.b.now)) + 3

abbrev pub decreases-chained : goal.decreases-chained
decreases-chained l = 8 * (size (expression_of l.a.now) + size (expression_of l.b.now)) + 4

abbrev pub decreases-comma_branch : goal.decreases-comma_branch
decreases-comma_branch l = 8 * (size (expression_of l.a.now) + size (expression_of l.b.now)) + 3

abbrev pub decreases-deliver_comma : goal.decreases-deliver_comma
decreases-deliver_comma l = 8 * (size (expression_of l.a.now) + size (expression_of l.b.now)) + 3
