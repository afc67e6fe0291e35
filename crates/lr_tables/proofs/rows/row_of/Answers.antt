use Rattle.std.proofs.Common.{◌≡◌, ◌+◌, ℕ, ◌∙◌, ap, arith, length, List, Option}
use Rattle.lr_tables.specs.declared.marks.Edge.{Edge}
use Rattle.lr_tables.specs.Sets.{item_set}
use Rattle.lr_tables.specs.Rows.{actions_of}
use Rattle.lr_tables.proofs.RowTurns.{length-targets, length-follows, row_is}
use Rattle.lr_tables.proofs.rows.row_of.Goals as goal

pub actions-requires-clause-wide : goal.actions-requires-clause-wide
actions-requires-clause-wide c =
    let l : length c.as_slice-2.result.now ≡ 40 + c.args.classes = ap (λ (x : List (Option ℕ)). length x) (c.as_slice-2.ensures.value ∙ c.in_ok-target_list.ensures)
    ∙ length-targets _ _ _ _ (40 + c.args.classes) in
    omega (arith, l)

pub actions-requires-clause-follows : goal.actions-requires-clause-follows
actions-requires-clause-follows c = ap (λ l. length l) c.requires.follows ∙ length-follows _ _ _

pub returns : goal.returns
returns c =
    let items = c.as_slice.ensures.value ∙ c.in_ok-items.ensures ∙ ap (λ (x : List Edge). item_set c.args.rules.now c.args.stmt c.args.classes x c.args.kernel.now) c.requires.chained in
    let acts = c.in_ok-action_list.ensures ∙ ap (λ (x : List (Option ℕ)). actions_of c.args.rules.now c.args.follows.now c.args.kernel.now x 40) c.as_slice-2.ensures.value in
    c.new.ensures ∙ row_is _ _ _ _ _ _ _ _ _ items c.requires.follows c.in_ok-target_list.ensures acts
