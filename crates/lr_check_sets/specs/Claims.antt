-- What is proved of the sets: without a fault every typed tree is parsed to its end; each fault is met in the parse of
-- a typed tree under some answers.
use Rattle.std.specs.Prelude.{◌≡◌, ℕ, ◌+◌, ◌*◌, List, [], ◌∷◌, length}
use Rattle.tree_core.specs.declared.token.Tok.TheVariants as tok
use Rattle.tree_core.specs.declared.token.Sort.TheVariants as sort
use Rattle.lr_check_sets.specs.Trees.{Tree, onto}
use Rattle.lr_check_sets.specs.Automaton.{Automaton, Production, Ends}
use Rattle.lr_check_sets.specs.Items.{IsAutomatonOf, HasNoEnd, HasNoEmpty}
use Rattle.lr_check_sets.specs.Shapes.{HasTrees}
use Rattle.lr_check_sets.specs.Bound.{Within, HasClasses}
use Rattle.lr_check_sets.specs.Faults.{NoFault, Fault}
use Rattle.lr_check_sets.specs.Answers.{leaves, the_end, Accepts, Blocks, Loops}

-- the automaton is that of rules whose right sides are trees without the end
-- whatever questions answer, the parse of every tree ends
abbrev pub WholeTreesEnd : Type 0
WholeTreesEnd =
    (G : List Production) (A : Automaton) → HasNoEnd G → HasNoEmpty G → HasTrees G → IsAutomatonOf G A → NoFault A →
    (v : Tree sort.Stmt) → Ends A [] (onto v (tok.End ∷ []))

-- with its answers, the parse of every tree ends with accepting
abbrev pub EveryTreeAccepts : Type 0
EveryTreeAccepts =
    (G : List Production) (A : Automaton) → HasNoEnd G → HasNoEmpty G → HasTrees G → IsAutomatonOf G A → NoFault A →
    (v : Tree sort.Stmt) → Accepts A [] (leaves v the_end)

-- it ends within the tokens times the classes and one, the end counted as a token
abbrev pub EveryTreeEndsWithin : Type 0
EveryTreeEndsWithin =
    (G : List Production) (A : Automaton) (k : ℕ) → HasNoEnd G → HasNoEmpty G → HasTrees G → HasClasses G k → IsAutomatonOf G A
    → NoFault A →
    (v : Tree sort.Stmt) → Within A (length (onto v (tok.End ∷ [])) * (k + 1)) [] (onto v (tok.End ∷ []))

-- a tree whose parse blocks, or turns for ever, with its answers
pub data Shown (A : Automaton) : Type 0 where
  blocks : (v : Tree sort.Stmt) → Blocks A v → Shown A
  loops : (v : Tree sort.Stmt) → Loops A v → Shown A

abbrev pub EveryFaultIsReal : Type 0
EveryFaultIsReal =
    (G : List Production) (A : Automaton) → HasNoEnd G → HasNoEmpty G → HasTrees G → IsAutomatonOf G A → Fault A → Shown A
