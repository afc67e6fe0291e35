-- A sum has one tree with answers of its own, whatever stands below it: so samples may share the tree.
use Rattle.std.specs.Prelude.{◌≡◌, ℕ, List, ◌∷◌, ◌++◌, Some, Bool}
use Rattle.tree_core.specs.declared.token.Tok.{Tok}
use Rattle.tree_core.specs.Grammar.{kids}
use Rattle.md_reader.specs.declared.types.Sym.{Sym}
use Rattle.lr_check.specs.Tree.{Token}
use Rattle.lr_check.specs.Parse.{Part, symbols}
use Rattle.lr_check_sets.specs.Trees.{Trees}
use Rattle.lr_check_sets.specs.Automaton.{Automaton, Production, walk}
use Rattle.lr_check_sets.specs.Items.{IsAutomatonOf, HasNoEnd, HasNoEmpty}
use Rattle.lr_check_sets.specs.Shapes.{HasTrees}
use Rattle.lr_check_sets.specs.Sums.{Sum}
use Rattle.lr_check_sets.specs.Answers.{next_token, leaves_all, Runs}

-- answers for the root and trees with answers for its kids, which lead from each stack to the list on top of it
pub record OwnTree (A : Automaton) (q : ℕ) (k t : Tok) (s : List Sym) : Type 0 where
  pub answers : List Bool
  pub its_kids : Trees (kids k)
  pub leads : (a : List Sym) (z : List Part) (w : List Token) →
      walk A 0 a ≡ Some q → symbols z ≡ a → next_token w ≡ Some t →
      (x y : List Part) × ((symbols x ≡ a) × (symbols y ≡ s) ×
      Runs A x (record { tok = k; answers = answers } ∷ leaves_all its_kids w) (y ++ z) w)

abbrev pub EverySumHasItsTree : Type 0
EverySumHasItsTree =
    (G : List Production) (A : Automaton) → HasNoEnd G → HasNoEmpty G → HasTrees G → IsAutomatonOf G A →
    (q : ℕ) (k t : Tok) (s : List Sym) → Sum A q k t s → OwnTree A q k t s
