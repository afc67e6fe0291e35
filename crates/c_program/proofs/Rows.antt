-- The list of statements behind the row of a block.
use Rattle.std.proofs.Common.{◌≡◌, List, refl, ap, sym, ◌∙◌}
use Rattle.std.specs.Global.{Vec}
use Rattle.c_program.specs.declared.statement.Action.{Action, Row_of-Action, end_of-Action, more_of-Action, items-the_row-Action}
use Rattle.c_program.specs.declared.statement.Action.TheBlock.{hidden-the_row-Action-0, items_hidden-the_row-Action-0}
use Rattle.c_program.specs.declared.statement.Action.TheVariants as actions
use Rattle.c_program.specs.Statements.{MoreActions, BlockOf, act, act_row, acts}

pub acts_row : (c : _) (row : Row_of-Action c) → act_row row ≡ acts (items-the_row-Action c row)
acts_row c end_of-Action = refl
acts_row c (more_of-Action a rest) = ap (MoreActions (act a)) (acts_row _ rest)

pub act_block : (row : Vec Action) → act (actions.Block row) ≡ BlockOf (acts row.items)
act_block row = ap BlockOf (acts_row _ (hidden-the_row-Action-0 row) ∙ ap acts (items_hidden-the_row-Action-0 row))

-- a block and its statements as code holds them
pub block_is : (a : Action) (row : Vec Action) (list : List Action) → a ≡ actions.Block row → list ≡ row.items → act a ≡ BlockOf (acts list)
block_is a row list is same = ap act is ∙ act_block row ∙ ap (λ l. BlockOf (acts l)) (sym same)
