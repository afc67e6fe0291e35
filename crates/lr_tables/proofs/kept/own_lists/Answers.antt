use Rattle.std.proofs.Common.{◌∙◌, [], List, ap, fold}
use Rattle.std.proofs.lemmas.List.{take_all}
use Rattle.lr_tables.specs.declared.types.Choice.{Choice}
use Rattle.lr_tables.specs.Entries.{with_list, own_lists}
use Rattle.lr_tables.proofs.kept.own_lists.Goals as goal

pub returns : goal.returns
unfolding own_lists
returns c = c.loop-choices.invariant ∙ ap (λ (x : List (List Choice)). fold with_list [] x) (take_all c.loop-choices.choices-index c.args.actions.now c.loop-choices-test.false)
