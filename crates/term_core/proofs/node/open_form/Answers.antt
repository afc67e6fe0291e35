use Rattle.term_core.proofs.Waiting.{opens_two}
use Rattle.term_core.proofs.node.open_form.Goals as goal

pub returns-in_ok-push-in-Binary-2 : goal.returns-in_ok-push-in-Binary-2
returns-in_ok-push-in-Binary-2 c =
    opens_two c.args.form c.in-Binary.op c.in-Binary.a c.in-Binary.b _ _ _ c.in-Binary.is c.in_ok-push-in-Binary.ensures.items c.in_ok-push-in-Binary-2.ensures.items
