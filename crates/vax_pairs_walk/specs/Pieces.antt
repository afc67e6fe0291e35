-- What the code holds of pieces as the plain data of which the definitions speak.
use Rattle.std.specs.Prelude.{ℕ, Bool, true, List, [], ◌∷◌, map, Option, Some, None}
use Rattle.vax_core.specs.declared.code.AreaItem.{AreaItem}
use Rattle.vax_core.specs.declared.code.CodeItem.{CodeItem}
use Rattle.vax_pairs.specs.Events as events
use Rattle.vax_pairs.specs.TermStates.{TermState}
use Rattle.vax_pairs.specs.Trees as trees
use Rattle.vax_pairs.specs.TermOperands.{before}
use Rattle.vax_pairs.specs.TermRuns.{asked, run_tree}
use Rattle.vax_pairs_walk.specs.Stepping as stepping
use Rattle.vax_pairs_walk.specs.Views.{state_of, event_of}
use Rattle.vax_pairs_walk.specs.Taking.{Front}
use Rattle.vax_pairs_walk.specs.declared.tree.Stop.{Stop}
use Rattle.vax_pairs_walk.specs.declared.tree.Stop.TheVariants as stops
use Rattle.vax_pairs_walk.specs.declared.tree.Step.{Step}
use Rattle.vax_pairs_walk.specs.declared.tree.Step.TheVariants as steps
use Rattle.vax_pairs_walk.specs.declared.tree.Straight.{Straight}
use Rattle.vax_pairs_walk.specs.declared.tree.Tree.{Tree}
use Rattle.vax_pairs_walk.specs.declared.tree.Tree.TheVariants as tree

abbrev pub stop_of : Stop → stepping.Stop
stop_of (stops.Arrives moved place) = stepping.Arrives moved place
stop_of (stops.Asks t to behind) = stepping.Asks t to behind
stop_of (stops.Calls count name behind) = stepping.Calls count name behind
stop_of (stops.Returns behind) = stepping.Returns behind

abbrev pub step_of : Step → stepping.Step
step_of (steps.On place) = stepping.On place
step_of (steps.Halt stop) = stepping.Halt (stop_of stop)

-- events in front of a tree
abbrev pub emits : List events.Event → trees.Tree → trees.Tree
emits [] t = t
emits (e ∷ es) t = trees.Emits e (emits es t)

-- events in front of a tree, where there is one
abbrev pub emitted : List events.Event → Option trees.Tree → Option trees.Tree
emitted [] t = t
emitted (e ∷ es) t = before e (emitted es t)

module _ (items : List CodeItem) (layout : List AreaItem) (is_cut : ℕ → Bool) where
  -- the tree from where a piece stops, with so many instructions left
  abbrev pub stopped : ℕ → stepping.Stop → ℕ → TermState → Option trees.Tree
  stopped left (stepping.Arrives moved place) n s = Some (trees.Arrives moved place s)
  stopped left (stepping.Asks t to behind) n s =
      asked t s (run_tree items layout is_cut left true to n s) (run_tree items layout is_cut left true behind n s)
  stopped left (stepping.Calls count name behind) n s = Some (trees.CallsHere count name behind s)
  stopped left (stepping.Returns behind) n s = Some (trees.ReturnsHere behind s)

  -- the tree from a step on
  abbrev pub onwards : ℕ → stepping.Step → ℕ → TermState → Option trees.Tree
  onwards left (stepping.On place) n s = run_tree items layout is_cut left true place n s
  onwards left (stepping.Halt stop) n s = stopped left stop n s

  -- the tree from an instruction on, behind the front of the piece
  abbrev pub after : ℕ → Option (stepping.Step × Front) → Option trees.Tree
  after left None = None
  after left (Some y) = emitted y.1.events (onwards left y.0 y.1.known y.1.state)

  -- the tree of which this is the front
  abbrev pub goes_on : Straight → Option trees.Tree
  goes_on r = emitted (map event_of r.front.events.items) (stopped r.left (stop_of r.stop) r.front.known (state_of r.front.state))

abbrev pub tree_of : Tree → trees.Tree
tree_of (tree.Asks' es t s p a q b) = emits (map event_of es.items) (trees.Asks t (state_of s) (tree_of a) (tree_of b))
tree_of (tree.Arrives es moved place s) = emits (map event_of es.items) (trees.Arrives moved place (state_of s))
tree_of (tree.Calls es count name behind s) = emits (map event_of es.items) (trees.CallsHere count name behind (state_of s))
tree_of (tree.Returns es behind s) = emits (map event_of es.items) (trees.ReturnsHere behind (state_of s))
