use Rattle.lr_check_found.specs.declared.settlings.Item.TheVariants as item
use Rattle.lr_check_found.specs.declared.settlings.How.TheVariants as how
use Rattle.lr_check_complete.proofs.Turns.{looks_there, looks_pushed}
use Rattle.lr_check_complete.proofs.look.Look.reduced.Goals as goal

pub returns-then-is_reduced : goal.returns-then-is_reduced
returns-then-is_reduced c = λ m. looks_there c.args.self.now _ _ (c.is_reduced.ensures c.if-is_reduced.true)

pub returns : goal.returns
returns c = λ m. looks_pushed c.args.self.now _ _ (item.Settling c.args.number (how.Reduced c.args.settling c.args.class)) _ m c.in_ok-push.ensures.items
