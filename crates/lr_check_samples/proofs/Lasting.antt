-- What is drawn stays drawn when nodes are added.
use Rattle.std.proofs.Common.{ℕ, List, ◌++◌, Bool}
use Rattle.gg_base.proofs.Facts.{slice_left}
use Rattle.tree_core.specs.declared.token.Tok.{Tok}
use Rattle.lr_check_sets.specs.Automaton.{Automaton}
use Rattle.lr_check.specs.Tree.{Node}
use Rattle.lr_check_found.specs.Found.{FoundView}
use Rattle.lr_check_samples.specs.Nodes.{IsNode, DrawnKids, kids_leaf, kids_one, kids_two, kids_reduced}

pub node_lasts : (nodes more : List Node) (n : ℕ) (k : Tok) (ks : List ℕ) (own : List Bool) → IsNode nodes n k ks own → IsNode (nodes ++ more) n k ks own
node_lasts nodes more n k ks own h = slice_left nodes more n (record { tok = k; kids = ks; answers = own }) h

pub kids_last : {A : Automaton} {f : FoundView} {nodes : List Node} {i : ℕ} {ks : List ℕ} {own : List Bool} {ds : List ℕ} (more : List Node) →
    DrawnKids A f nodes i ks own ds → DrawnKids A f (nodes ++ more) i ks own ds
kids_last more (kids_leaf by) = kids_leaf by
kids_last {nodes = nodes} more (kids_one {n = n} {y = y} {ks = ks} {own = own} by at there kid) = kids_one by at (node_lasts nodes more n y.token ks own there) (kids_last more kid)
kids_last {nodes = nodes} more (kids_two {n = n} {m = m} {y = y} {z = z} {ks = ks} {ks' = ks'} {own = own} {own' = own'} by at there kid at' there' second) =
    kids_two by at (node_lasts nodes more n y.token ks own there) (kids_last more kid) at' (node_lasts nodes more m z.token ks' own' there') (kids_last more second)
kids_last more (kids_reduced by at set) = kids_reduced by at (kids_last more set)
