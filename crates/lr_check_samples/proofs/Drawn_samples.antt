-- Drawn samples block, or turn.
use Rattle.std.proofs.Common.{◌≡◌, ℕ, ◌+◌, ◌-◌, List, [], ◌∷◌, ◌++◌, length, subst, arith, append-nil}
use Rattle.md_reader.specs.Valid.{IsValid}
use Rattle.lr_tables.specs.View.{TableView}
use Rattle.lr_tables.specs.Promises.{IsNumbered}
use Rattle.lr_check_sets.specs.Table.{automaton_of}
use Rattle.lr_check.specs.Tree.{Node, Token, Unfolds, ends, IsTree}
use Rattle.lr_check_found.specs.Found.{FoundView}
use Rattle.lr_check_found.specs.Sound.{IsFound}
use Rattle.lr_check_samples.specs.Fixed.{leaf}
use Rattle.lr_check_samples.specs.Samples.{of_gap, of_dead, of_circle}
use Rattle.lr_check_samples.specs.Nodes.{Stands}
use Rattle.lr_check_samples.specs.Drawn.{DrawnBlocking, drawn_gap, drawn_dead, DrawnLooping, drawn_circle, BlockingNodes, LoopingNodes}
use Rattle.lr_check_samples.specs.Claims.{IsRound, IsDrawn, DrawnSamplesStop}
use Rattle.lr_check_samples.proofs.Drawing.{drawn, round, stands_node}
use Rattle.lr_check_samples.proofs.Shown.{samples_block, samples_loop}

tree_of : {nodes : List Node} {root : ℕ} {ws : List Token} → Stands nodes (root ∷ []) ws → root + 1 ≡ length nodes → IsTree nodes ws
tree_of {nodes = nodes} {root = root} {ws = ws} h last =
    let same : root ≡ length nodes - 1 = omega (arith, last) in
    subst (λ n. Unfolds nodes (n ∷ []) ws) same (subst (Unfolds nodes (root ∷ [])) (append-nil ws) (h.unfolds [] [] ends))

module _ (t : TableView) (v : IsValid t.content) (b : IsNumbered t) (f : FoundView) (found : IsFound (automaton_of t) f) (nodes : List Node) where
  blocking : DrawnBlocking (automaton_of t) f nodes → BlockingNodes t.content nodes
  blocking (drawn_gap {root = root} {x = x} {vs = vs} at none stands typed node c last) =
      let k : IsRound (automaton_of t) f nodes _ root (leaf x.token [] ∷ vs) = round (automaton_of t) f nodes found c (leaf x.token [] ∷ vs) (stands_node node stands) in
      let w : List Token = k.before ++ (leaf x.token [] ∷ (vs ++ k.behind)) in
      record { tokens = w; tree = tree_of k.stands last; blocking = samples_block t v b f found w (of_gap vs at none k.context typed) }
  blocking (drawn_dead {i = i} {root = root} {x = x} {ks = ks} {own = own} {ds = ds} at can by node c last) =
      let d : IsDrawn (automaton_of t) f nodes i ks own ds = drawn (automaton_of t) f nodes found by in
      let k : IsRound (automaton_of t) f nodes at.entry.place root (leaf x.token own ∷ d.leaves) =
      round (automaton_of t) f nodes found c (leaf x.token own ∷ d.leaves) (stands_node node d.stands) in
      let w : List Token = k.before ++ (leaf x.token own ∷ (d.leaves ++ k.behind)) in
      record { tokens = w; tree = tree_of k.stands last; blocking = samples_block t v b f found w (of_dead at can k.context d.fixed) }

  looping : DrawnLooping (automaton_of t) f nodes → LoopingNodes t.content nodes
  looping (drawn_circle {i = i} {root = root} {x = x} {ks = ks} {own = own} {own' = own'} {ds = ds} at turning by node c last) =
      let d : IsDrawn (automaton_of t) f nodes i ks own ds = drawn (automaton_of t) f nodes found by in
      let k : IsRound (automaton_of t) f nodes at.entry.place root (leaf x.token (own ++ own') ∷ d.leaves) =
      round (automaton_of t) f nodes found c (leaf x.token (own ++ own') ∷ d.leaves) (stands_node node d.stands) in
      let w : List Token = k.before ++ (leaf x.token (own ++ own') ∷ (d.leaves ++ k.behind)) in
      record { tokens = w; tree = tree_of k.stands last; looping = samples_loop t v b f found w (of_circle at k.context d.fixed turning) }

pub drawn_samples_stop : DrawnSamplesStop
drawn_samples_stop t v b f found nodes = (blocking t v b f found nodes, looping t v b f found nodes)
