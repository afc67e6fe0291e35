use Rattle.std.proofs.Common.{◌++◌, ap, sym, ◌∙◌}
use Rattle.std.proofs.lemmas.Result.{IfOk-weaker}
use Rattle.tree_core.specs.declared.token.Tok.TheVariants as tok
use Rattle.tree_core.specs.declared.tree.Att.TheVariants as att
use Rattle.c_lower_scheme.specs.Spelling.{leaf}
use Rattle.c_lower_parts.specs.Views.{tree, item}
use Rattle.c_lower_parts.specs.Roots.{root_leaves}
use Rattle.c_lower_parts.proofs.Onto.{pair_behind}
use Rattle.c_lower_parts.proofs.spelling.put_root.Goals as goal

pub returns-in_ok-put_tree-in-Branch : goal.returns-in_ok-put_tree-in-Branch
returns-in_ok-put_tree-in-Branch c =
    IfOk-weaker _ _ _ (λ _ last. pair_behind c.args.leaves.now.items c.put_leaf-in-Branch.new.leaves.items c.put_tree-in-Branch.new.leaves.items c.put_tree-in-Branch-2.new.leaves.items
    (leaf tok.Cbr (att.Branch c.in-Branch.rel c.in-Branch.label)) (tree c.in-Branch.a) (tree c.in-Branch.b) c.in_ok-put_leaf-in-Branch.ensures c.in_ok-put_tree-in-Branch.ensures last
    ∙ sym (ap (λ z. c.args.leaves.now.items ++ root_leaves (item z)) c.in-Branch.is)) c.put_tree-in-Branch-2.ensures
