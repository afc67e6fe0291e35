use Rattle.lr_check_found.specs.declared.settlings.Item.TheVariants as item
use Rattle.lr_check_complete.proofs.Turns.{looks_there, looks_pushed}
use Rattle.lr_check_complete.proofs.look.Look.settle.Goals as goal

pub returns-then-is_settled : goal.returns-then-is_settled
returns-then-is_settled c = λ m. looks_there c.args.self.now _ _ (c.is_settled.ensures c.if-is_settled.true)

pub returns : goal.returns
returns c = λ m. looks_pushed c.args.self.now _ _ (item.Settling c.args.number c.args.how) _ m c.in_ok-push.ensures.items
