use Rattle.std.proofs.Common.{◌≡◌, Bool, true}
use Rattle.gg_base.proofs.Facts.{if_ok}
use Rattle.lr_check_found.specs.lr_check_sets.specs.Table.{automaton_of}
use Rattle.lr_check_closed.specs.Shown.{AreFine, IsShown}
use Rattle.lr_check_masks.proofs.Flawless_sets.{look_sound, shown_by}
use Rattle.lr_check_masks.proofs.showing.is_flawless.Goals as goal

pub is_closed-requires : goal.is_closed-requires
is_closed-requires c = look_sound _ c.args.store.now c.requires c.lists.ensures c.rows.ensures c.all_ways.ensures

pub is_fine-requires : goal.is_fine-requires
is_fine-requires c = look_sound _ c.args.store.now c.requires c.lists.ensures c.rows.ensures c.all_ways.ensures

pub returns : goal.returns
returns c =
    let A = automaton_of c.args.tables.now in
    let s = c.args.store.now in
    if_ok _ (λ (b : Bool). b ≡ true → AreFine A c.lists.result.now c.rows.result.now) (λ (b : Bool). b ≡ true → IsShown A s.lists s.rows)
    (λ b h u. shown_by A _ _ _ _ c.lists.ensures c.rows.ensures (c.in_ok-is_closed.ensures c.if-not-branch.false) (h u)) c.is_fine.ensures
