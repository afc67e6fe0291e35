use Rattle.lr_check_found.specs.lr_check_sets.specs.Table.{automaton_of}
use Rattle.lr_check_masks.proofs.Flawless_sets.{flawless}
use Rattle.lr_check_masks.proofs.showing.mask_check.Goals as goal

pub returns-then-branch : goal.returns-then-branch
returns-then-branch c =
    let A = automaton_of c.args.tables.now in
    let s = c.in_ok-store.store in
    flawless A s c.in_ok-store.ensures c.in-Some.tuples (c.in_ok-is_flawless.ensures c.if-branch.true) (c.in-Some.ensures.counted A c.in_ok-store.ensures) c.in-Some.ensures.few
