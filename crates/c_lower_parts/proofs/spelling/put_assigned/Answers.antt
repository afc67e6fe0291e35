use Rattle.std.proofs.Common.{◌++◌, [], ap, sym, ◌∙◌}
use Rattle.std.proofs.lemmas.Result.{IfOk-weaker}
use Rattle.tree_core.specs.declared.token.Tok.TheVariants as tok
use Rattle.c_lower_scheme.specs.Spelling.{plain, assign_onto}
use Rattle.c_lower_parts.specs.Views.{tree}
use Rattle.c_lower_parts.proofs.Onto.{assigned_behind}
use Rattle.c_lower_parts.proofs.spelling.put_assigned.Goals as goal

pub returns-in_ok-put_tree-in-Int : goal.returns-in_ok-put_tree-in-Int
returns-in_ok-put_tree-in-Int c =
    IfOk-weaker _ _ _ (λ _ last. assigned_behind c.args.leaves.now.items c.put_two.new.leaves.items c.put_tree.new.leaves.items c.put_tree-in-Int.new.leaves.items (plain tok.AssignL)
    (plain tok.IndirL) (tree c.args.a.now) (tree c.args.w.now) c.in_ok-put_two-in-Int.ensures c.in_ok-put_tree-in-Int.ensures last
    ∙ sym (ap (λ i. c.args.leaves.now.items ++ assign_onto i (tree c.args.a.now) (tree c.args.w.now) []) c.in-Int.is)) c.put_tree-in-Int.ensures
