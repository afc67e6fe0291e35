use Rattle.std.proofs.Common.{rules, ◌≡◌, Option, filter_map}
use Rattle.std.specs.Option.{option_map}
use Rattle.std.proofs.lemmas.Iterator.{YieldsList-from_slice, items_from_collect}
use Rattle.std.proofs.lemmas.Iterator.Consumers.{YieldsList-from_filter_map}
use Rattle.std.proofs.lemmas.Result.{IfOk-at_ok}
use borrow.Author.Tests.{tests}
use Rattle.lr_tables.specs.declared.item.Item.{Item}
use Rattle.lr_tables.specs.declared.types.Choice.{Choice}
use Rattle.lr_tables.specs.declared.types.Choice.TheVariants as choice
use Rattle.lr_tables.specs.Rows.{reduction}
use Rattle.lr_tables.proofs.rows.reductions.Goals as goal

pub returns : goal.returns
returns c =
    let choice_of : Item → Option Choice = λ i. option_map choice.Reduce (reduction c.args.rules.now c.args.follow.now i) in
    let kept = items_from_collect c.collect.result c.collect.ensures.ran
    (YieldsList-from_filter_map _ choice_of (YieldsList-from_slice c.args.kernel.now cc) c.filter_map.ensures.closure (λ x r q k. search (rules, tests))) in
    IfOk-at_ok (λ v. v.items ≡ filter_map choice_of c.args.kernel.now) c.in_ok-choices.was kept
