-- The leaves of a root, without the End behind them.
use Rattle.std.specs.Prelude.{suc, List, [], ◌∷◌}
use Rattle.tree_core.specs.declared.token.Tok.TheVariants as tok
use Rattle.tree_core.specs.declared.tree.Att.TheVariants as att
use Rattle.tree_core.specs.declared.tree.Leaf.{Leaf}
use Rattle.c_lower_scheme.specs.Trees.{Item, Label, AssignLoc, AssignArg, AssignMem, Cbr, Jump, Push, Call, Save, Ret}
use Rattle.c_lower_scheme.specs.Spelling.{leaf, plain, leaves_onto, assign_onto}

abbrev pub root_leaves : Item → List Leaf
root_leaves (Label l) = []
root_leaves (AssignLoc n w) = plain tok.AssignL ∷ leaf tok.Loc (att.Slot n) ∷ leaves_onto w []
root_leaves (AssignArg n w) = plain tok.AssignL ∷ leaf tok.Arg (att.Slot (suc n)) ∷ leaves_onto w []
root_leaves (AssignMem i a w) = assign_onto i a w []
root_leaves (Cbr rel l a b) = leaf tok.Cbr (att.Branch rel l) ∷ leaves_onto a (leaves_onto b [])
root_leaves (Jump l) = leaf tok.Jump (att.Label l) ∷ []
root_leaves (Push w) = plain tok.Push ∷ leaves_onto w []
root_leaves (Call f count) = leaf tok.Call (att.Callee f count) ∷ []
root_leaves (Save n) = leaf tok.Save (att.Slot n) ∷ []
root_leaves (Ret w) = plain tok.Ret ∷ leaves_onto w []
