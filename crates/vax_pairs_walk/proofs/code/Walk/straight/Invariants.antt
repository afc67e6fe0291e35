use Rattle.std.proofs.Common.{◌≡◌, ◌≤◌, map}
use Rattle.vax_pairs.specs.TermRuns.{run_tree}
use Rattle.vax_pairs_walk.specs.Stepping.{is_marked}
use Rattle.vax_pairs_walk.specs.Pieces.{emitted}
use Rattle.vax_pairs_walk.specs.Views.{state_of, event_of}
use Rattle.vax_pairs_walk.proofs.code.Walk.straight.Given as goal

-- the events so far, in front of the tree from here on, are the tree
pub record Ahead (l : goal.Live-loop-left) : Type 0 where
  pub tree : run_tree l.self.items.now l.self.layout.now (is_marked l.self.cuts.now) l.fn.fuel l.fn.moved l.fn.place l.fn.known (state_of l.fn.state)
      ≡ emitted (map event_of l.front.events.items) (run_tree l.self.items.now l.self.layout.now (is_marked l.self.cuts.now) l.left l.moved l.place l.front.known (state_of l.front.state))
  pub fewer : l.left ≤ l.fn.fuel

abbrev pub invariant-loop-left : goal.invariant-loop-left
invariant-loop-left l = Ahead l

abbrev pub decreases-loop-left : goal.decreases-loop-left
decreases-loop-left l = l.left
