-- What the moves of a parse do that is answered by attributes.
use Rattle.std.specs.Prelude.{◌≡◌, ◌⊎◌, ℕ, List, [], ◌∷◌, ◌++◌, Bool}
use Rattle.std.specs.List.{AllByRecursion}
use Rattle.tree_core.specs.declared.token.Sort.TheVariants as sort
use Rattle.tree_core.specs.declared.tree.Leaf.{Leaf}
use Rattle.tree_core.specs.declared.program.Object.{Object}
use Rattle.tree_core.specs.Attributes.{end_leaf}
use Rattle.tree_core.specs.Trees.{grown, IsTyped}
use Rattle.tree_core.specs.Calm.{Calm}
use Rattle.sel_terms_trees.specs.tree_meaning.specs.Values.{Sight}
use Rattle.sel_terms_trees.specs.tree_meaning.specs.Deeds.{Deed, Traps, tree_deed}
use Rattle.sel_terms_trees.specs.tree_meaning_tame.specs.Tame.{AllThere}
use Rattle.sel_terms_trees.specs.tree_meaning_tame.specs.Sights.{Completes}
use Rattle.md_reader.specs.State.{Content}
use Rattle.md_reader.specs.Valid.{IsValid}
use Rattle.lr_check_parse.specs.lr_tables.specs.Statements.{stmt_of}
use Rattle.lr_check_parse.specs.lr_check.specs.declared.sample.Outcome.{Outcome}
use Rattle.lr_check_parse.specs.lr_check.specs.declared.sample.Outcome.TheVariants as outcome
use Rattle.lr_check_parse.specs.lr_check.specs.Parse.{Ends}
use Rattle.lr_check_parse.specs.Moves.{Move, Ending, Accepts, Refuses, Parses}
use Rattle.lr_check_parse.specs.Attributes.{Selecting, by_attributes}
use Rattle.lr_check_parse.specs.Claims.{questioned}
use Rattle.sel_parse_moves.specs.Possible.{IsPossible}
use Rattle.sel_parse_moves.specs.Interprets.{Interprets, Interpreting, Ran}

-- the leaves of a tree as a tree program has them: an End behind them
abbrev pub root : List Leaf → List Leaf
root w = w ++ end_leaf ∷ []

-- what the tree with these leaves does
abbrev pub deed : List Object → Sight → List Leaf → Deed
deed objects s w = tree_deed objects s (grown (root w))

module _ {X A : Type 0} (of : Selecting X A) (d : Content) where
  -- a parse that accepts a typed statement tree, from what is kept before it to what is kept behind it
  pub record IsParsed (w : List Leaf) (x y : X) : Type 0 where
    pub valid : IsValid d
    pub typed : IsTyped (root w) sort.Stmt
    pub log : List (Move Leaf)
    pub parse : Parses (by_attributes of) d.rules (stmt_of d.classes) 0 [] w [] x log (Accepts y)

  -- ---- by a checked description it accepts

  -- the tree of a typed statement is parsed to its end, whatever the answers: what is checked for blocking and looping
  abbrev pub NeverStops : Type 0
  NeverStops =
      (w : List Leaf) (answers : ℕ → List Bool) (o : Outcome) → IsTyped (root w) sort.Stmt
      → Ends d.rules (stmt_of d.classes) 0 [] (questioned (by_attributes of) w answers) [] o → o ≡ outcome.Done

  abbrev pub AlwaysAccepts : Type 0
  AlwaysAccepts =
      IsValid d → NeverStops → (w : List Leaf) → IsTyped (root w) sort.Stmt → (x : X) (log : List (Move Leaf)) (e : Ending X)
      → Parses (by_attributes of) d.rules (stmt_of d.classes) 0 [] w [] x log e → ((y : X) × (e ≡ Accepts y)) ⊎ (e ≡ Refuses)

-- ---- its moves do what the tree does

-- A trap is promised for a calm tree whose leaves name what is there: then no part of it is wild.
abbrev pub IsFair : List Object → Sight → List Leaf → Type 0
IsFair objects t w = Calm (root w) × AllThere objects t (grown (root w))

-- The deed is that of the tree by the sight s; whoever runs the moves sees t, which is s and perhaps values in locals that aren't written
-- yet.
abbrev pub MeansTree : {X A : Type 0} {of : Selecting X A} (d : Content) (objects : List Object) (s t : Sight)
    → Interprets of d.classes d.rules objects t → Type 0
MeansTree {X = X} {of = of} d objects s t I =
    (w : List Leaf) (x y : X) → IsParsed of d w x y → AllByRecursion I.Names w → I.Stands x [] []
    → IsPossible s.area (deed objects s w) → (deed objects s w ≡ Traps → IsFair objects t w) → Ran I y (deed objects s w)

abbrev pub MovesMeanTree : Content → List Object → {X A : Type 0} → Selecting X A → Type 1
MovesMeanTree d objects of =
    (s t : Sight) → Completes s t → (I : Interprets of d.classes d.rules objects t) → MeansTree d objects s t I

-- whatever is seen besides
abbrev pub TheyMeanTree : {X A : Type 0} (of : Selecting X A) → Interpreting of → Type 0
TheyMeanTree of I =
    (d : Content) (objects : List Object) (s t : Sight) → Completes s t → MeansTree d objects s t (I d.classes d.rules objects t)
