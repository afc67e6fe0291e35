-- Samples that are drawn for a fault of what was found: the last node is the root.
use Rattle.std.specs.Prelude.{◌≡◌, ℕ, ◌+◌, List, [], ◌++◌, Some, Bool, length}
use Rattle.tree_core.specs.Grammar.{kids}
use Rattle.md_reader.specs.declared.types.Sym.{Sym}
use Rattle.md_reader.specs.declared.types.Sym.TheVariants as grammar_symbol
use Rattle.md_reader.specs.State.{Content}
use Rattle.lr_check_sets.specs.Automaton.{Automaton, CanBlock}
use Rattle.lr_check.specs.Tree.{Node, Token, IsTree}
use Rattle.lr_check_parse.specs.Typed.{AreTyped}
use Rattle.lr_check_found.specs.declared.places.Place.{Place}
use Rattle.lr_check_found.specs.Found.{FoundView, IsPlaceAt, SettlesAt}
use Rattle.lr_check_samples.specs.Samples.{Turning}
use Rattle.lr_check_samples.specs.Nodes.{Stands, IsNode, DrawnKids, DrawnRound}
use Rattle.lr_check_samples.specs.Stops.{tokens, Blocking, Looping}

pub data DrawnBlocking (A : Automaton) (f : FoundView) (nodes : List Node) : Type 0 where
  drawn_gap : {n top root : ℕ} {x : Place} {ks : List ℕ} {vs : List Token} →
      IsPlaceAt f n x → ((p : ℕ) → A.go x.state (grammar_symbol.Tok x.token) ≡ Some p → ⊥) →
      Stands nodes ks vs → AreTyped (kids x.token) (tokens vs) →
      IsNode nodes top x.token ks [] → DrawnRound A f nodes n top root → root + 1 ≡ length nodes →
      DrawnBlocking A f nodes
  drawn_dead : {i p top root : ℕ} {x : Place} {s : List Sym} {ks : List ℕ} {own : List Bool} {ds : List ℕ} →
      (at : SettlesAt f i x s p) → CanBlock (A.candidates p x.behind) → DrawnKids A f nodes i ks own ds →
      IsNode nodes top x.token ks own → DrawnRound A f nodes at.entry.place top root → root + 1 ≡ length nodes →
      DrawnBlocking A f nodes

pub data DrawnLooping (A : Automaton) (f : FoundView) (nodes : List Node) : Type 0 where
  drawn_circle : {i p top root : ℕ} {x : Place} {s : List Sym} {ks : List ℕ} {own own' : List Bool} {ds ds' : List ℕ} →
      (at : SettlesAt f i x s p) → Turning A x.state x.behind s s own' ds' → DrawnKids A f nodes i ks own ds →
      IsNode nodes top x.token ks (own ++ own') → DrawnRound A f nodes at.entry.place top root → root + 1 ≡ length nodes →
      DrawnLooping A f nodes

-- the nodes stand for a typed statement whose parse blocks
pub record BlockingNodes (d : Content) (nodes : List Node) : Type 0 where
  pub tokens : List Token
  pub tree : IsTree nodes tokens
  pub blocking : Blocking d tokens

-- or turns
pub record LoopingNodes (d : Content) (nodes : List Node) : Type 0 where
  pub tokens : List Token
  pub tree : IsTree nodes tokens
  pub looping : Looping d tokens
