-- The nodes of a sample.
use Rattle.std.specs.Prelude.{ℕ, List, [], ◌∷◌, Bool}
use Rattle.md_reader.specs.declared.types.Sym.{Sym}
use Rattle.md_reader.specs.declared.types.Sym.TheVariants as grammar_symbol
use Rattle.md_reader.specs.State.{Content}
use Rattle.lr_check_found.specs.lr_check_sets.specs.Automaton.{Automaton}
use Rattle.lr_check.specs.Tree.{Node}
use Rattle.lr_check.specs.Statement.{IsStatement}
use Rattle.lr_check_found.specs.declared.places.Place.{Place}
use Rattle.lr_check_found.specs.Found.{FoundView, SettlesAt}
use Rattle.lr_check_samples.specs.Samples.{Turning}
use Rattle.lr_check_samples.specs.Nodes.{IsNode, DrawnKids}
use Rattle.lr_check_samples.specs.Drawn.{BlockingNodes, LoopingNodes}
use Rattle.lr_check_flaws.specs.declared.flaws.Flaw.{Flaw}
use Rattle.lr_check_flaws.specs.declared.flaws.Flaw.TheVariants.{Gap, Dead, Circle}
use Rattle.lr_check_flaws.specs.Flaws.{Along}
use Rattle.lr_check_nodes.specs.Growing.{AreWhole}
use Rattle.lr_check_nodes.specs.Pruned.{AreUsed}
use Rattle.lr_check_drawn.specs.Rising.{HasRisen}

-- A typed statement whose parse blocks by the answers of its nodes, all of which its root reaches.
pub record IsBlockingSample (d : Content) (nodes : List Node) : Type 0 where
  pub statement : IsStatement nodes
  pub blocking : BlockingNodes d nodes
  pub used : AreUsed nodes

-- One whose parse turns.
pub record IsLoopingSample (d : Content) (nodes : List Node) : Type 0 where
  pub statement : IsStatement nodes
  pub looping : LoopingNodes d nodes
  pub used : AreUsed nodes

-- the node with the settling's number, at this place, stands for its tree
pub record Draws (A : Automaton) (f : FoundView) (nodes : List Node) (i : ℕ) (x : Place) : Type 0 where
  pub kids : List ℕ
  pub own : List Bool
  pub depths : List ℕ
  pub node : IsNode nodes i x.token kids own
  pub drawn : DrawnKids A f nodes i kids own depths

-- so do those of all settlings
pub record AreSettled (A : Automaton) (f : FoundView) (nodes : List Node) : Type 0 where
  pub whole : AreWhole nodes
  pub draws : (i p : ℕ) (x : Place) (s : List Sym) → SettlesAt f i x s p → Draws A f nodes i x

pub record HasPlaceOf (f : FoundView) (i : ℕ) : Type 0 where
  pub behind : ℕ
  pub place : Place
  pub list : List Sym
  pub settles : SettlesAt f i place list behind

-- with one more node of a settling's kids, which has these answers, and all that stands above it
pub record HasAbove (f : FoundView) (old new : List Node) (i : ℕ) (answers : List Bool) : Type 0 where
  pub top : ℕ
  pub above : (x : Place) (s : List Sym) (p : ℕ) (at : SettlesAt f i x s p) (ks : List ℕ) (own : List Bool) → IsNode old i x.token ks own →
      IsNode new top x.token ks answers × HasRisen f old new at.entry.place top

-- these answers lead round from the settling's list, a class alone, along the classes
pub record HasRound (A : Automaton) (f : FoundView) (i : ℕ) (classes : List ℕ) (answers : List Bool) : Type 0 where
  pub turns : (x : Place) (c p : ℕ) → SettlesAt f i x (grammar_symbol.Class c ∷ []) p → Along A x.state x.behind c classes c →
      (ds : List ℕ) × Turning A x.state x.behind (grammar_symbol.Class c ∷ []) (grammar_symbol.Class c ∷ []) answers ds

-- A sample of the flaw: its parse blocks at a gap and at a dead list, and turns at a circle.
abbrev pub IsSampleOf : Content → Flaw → List Node → Type 0
IsSampleOf d (Gap n) nodes = IsBlockingSample d nodes
IsSampleOf d (Dead i) nodes = IsBlockingSample d nodes
IsSampleOf d (Circle i classes) nodes = IsLoopingSample d nodes
