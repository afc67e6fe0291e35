-- What is proved of the trees of what was found.
use Rattle.std.specs.Prelude.{◌≡◌, ℕ, List, [], ◌∷◌, ◌++◌, Some, Bool}
use Rattle.md_reader.specs.declared.types.Sym.{Sym}
use Rattle.md_reader.specs.declared.types.Sym.TheVariants as grammar_symbol
use Rattle.md_reader.specs.Valid.{IsValid}
use Rattle.lr_tables.specs.View.{TableView}
use Rattle.lr_tables.specs.Promises.{IsNumbered}
use Rattle.lr_check_sets.specs.Automaton.{Automaton, walk, CanBlock}
use Rattle.lr_check_sets.specs.Faults.{Circles}
use Rattle.lr_check_sets.specs.Table.{automaton_of}
use Rattle.lr_check_sets.specs.Answers.{next_token, the_end, Runs}
use Rattle.tree_core.specs.Grammar.{kids}
use Rattle.lr_check.specs.Tree.{Node, Token}
use Rattle.lr_check.specs.Statement.{KidsFit}
use Rattle.lr_check.specs.Parse.{Part}
use Rattle.lr_check_found.specs.declared.places.Place.{Place}
use Rattle.lr_check_found.specs.declared.settlings.Settling.{Settling}
use Rattle.lr_check_found.specs.Found.{FoundView, IsPlaceAt, IsSettlingAt, SettlesAt}
use Rattle.lr_check_found.specs.Sound.{IsFound}
use Rattle.lr_check_samples.specs.Quiet.{IsQuiet}
use Rattle.lr_check_samples.specs.Fixed.{leaf, Fixed, Context}
use Rattle.lr_check_samples.specs.Nodes.{Stands, DrawnKids, DrawnRound}
use Rattle.lr_check_samples.specs.Samples.{BlockingSample, LoopingSample}
use Rattle.lr_check_samples.specs.Drawn.{DrawnBlocking, DrawnLooping, BlockingNodes, LoopingNodes}
use Rattle.lr_check_samples.specs.Stops.{Blocks, Loops, Blocking, Looping, EndsAt, EndsTurning}

-- some steps lead to a stack of these symbols all of whose answers are no
pub record Quietly (A : Automaton) (z : List Part) (w : List Token) (a : List Sym) (v : List Token) : Type 0 where
  pub stack : List Part
  pub quiet : IsQuiet a stack
  pub runs : Runs A z w stack v

-- From each stack of its place's state, where all answers are no, the tree of a settling is parsed to the settling's list by its own
-- answers.
abbrev pub FoundTreesLead : Type 0
FoundTreesLead =
    (t : TableView) → IsValid t.content → IsNumbered t → (f : FoundView) → IsFound (automaton_of t) f →
    (i p : ℕ) (x : Place) (s : List Sym) (ws : List Token) (own : List Bool) (ds : List ℕ) → SettlesAt f i x s p →
    Fixed (automaton_of t) f i ws own ds →
    (a : List Sym) (z : List Part) (w : List Token) → walk (automaton_of t) 0 a ≡ Some x.state → IsQuiet a z →
    next_token w ≡ Some x.behind →
    Quietly (automaton_of t) z (leaf x.token own ∷ (ws ++ w)) (s ++ a) w

-- the parse of a tree round a place comes to the place: with its state, all answers no, and its token behind to come behind it
pub record IsReached (A : Automaton) (x : Place) (before behind : List Token) : Type 0 where
  pub below : List Sym
  pub at : walk A 0 below ≡ Some x.state
  pub next : next_token (behind ++ the_end) ≡ Some x.behind
  pub comes : (w : List Token) → next_token w ≡ Some x.token → Quietly A [] (before ++ w) below w

abbrev pub ContextsLead : Type 0
ContextsLead =
    (t : TableView) → IsValid t.content → IsNumbered t → (f : FoundView) → IsFound (automaton_of t) f →
    (n : ℕ) (x : Place) (before behind : List Token) → IsPlaceAt f n x → Context (automaton_of t) f n before behind →
    IsReached (automaton_of t) x before behind

-- each settling has its tree, and each place a tree round it
pub record HasTree (A : Automaton) (f : FoundView) (i : ℕ) : Type 0 where
  pub leaves : List Token
  pub own : List Bool
  pub depths : List ℕ
  pub fixed : Fixed A f i leaves own depths

pub record HasContext (A : Automaton) (f : FoundView) (n : ℕ) : Type 0 where
  pub before : List Token
  pub behind : List Token
  pub context : Context A f n before behind

-- a sample of a gap or of a list at which nothing may be taken is a typed statement whose parse over the rules blocks
abbrev pub SamplesBlock : Type 0
SamplesBlock =
    (t : TableView) → IsValid t.content → IsNumbered t → (f : FoundView) → IsFound (automaton_of t) f →
    (w : List Token) → BlockingSample (automaton_of t) f w → Blocking t.content w

-- a sample of a circle is a typed statement whose parse over the rules turns
abbrev pub SamplesLoop : Type 0
SamplesLoop =
    (t : TableView) → IsValid t.content → IsNumbered t → (f : FoundView) → IsFound (automaton_of t) f →
    (w : List Token) → LoopingSample (automaton_of t) f w → Looping t.content w

-- Each fault of what was found has a sample.
pub record HaveSamples (A : Automaton) (f : FoundView) : Type 0 where
  pub trees : (i : ℕ) (e : Settling) → IsSettlingAt f i e → HasTree A f i
  pub contexts : (n : ℕ) (x : Place) → IsPlaceAt f n x → HasContext A f n
  pub gap : (n : ℕ) (x : Place) → IsPlaceAt f n x → ((p : ℕ) → A.go x.state (grammar_symbol.Tok x.token) ≡ Some p → ⊥) →
      (w : List Token) × BlockingSample A f w
  pub dead : (i p : ℕ) (x : Place) (s : List Sym) → SettlesAt f i x s p → CanBlock (A.candidates p x.behind) →
      (w : List Token) × BlockingSample A f w
  pub circle : (i p : ℕ) (x : Place) (s : List Sym) → SettlesAt f i x s p → Circles A x.state x.behind s s →
      (w : List Token) × LoopingSample A f w

abbrev pub FaultsHaveSamples : Type 0
FaultsHaveSamples = (A : Automaton) (f : FoundView) → IsFound A f → HaveSamples A f

-- nodes stand for a settling's kids, and the settling has its tree with these leaves
pub record IsDrawn (A : Automaton) (f : FoundView) (nodes : List Node) (i : ℕ) (ks : List ℕ) (own : List Bool) (ds : List ℕ) : Type 0 where
  pub leaves : List Token
  pub fixed : Fixed A f i leaves own ds
  pub stands : Stands nodes ks leaves
  -- they fit the token of the settling's place
  pub fit : (x : Place) (s : List Sym) (p : ℕ) → SettlesAt f i x s p → KidsFit nodes ks (kids x.token)

-- what stands for a place's node stands, with the tree round the place, below the root
pub record IsRound (A : Automaton) (f : FoundView) (nodes : List Node) (n root : ℕ) (ws : List Token) : Type 0 where
  pub before : List Token
  pub behind : List Token
  pub context : Context A f n before behind
  pub stands : Stands nodes (root ∷ []) (before ++ (ws ++ behind))

abbrev pub DrawnTreesStand : Type 0
DrawnTreesStand =
    (A : Automaton) (f : FoundView) (nodes : List Node) → IsFound A f →
    ((i : ℕ) (ks : List ℕ) (own : List Bool) (ds : List ℕ) → DrawnKids A f nodes i ks own ds → IsDrawn A f nodes i ks own ds) ×
    ((n top root : ℕ) (ws : List Token) → DrawnRound A f nodes n top root → Stands nodes (top ∷ []) ws → IsRound A f nodes n root ws)

-- What blocks step by step ends blocked, or at a stack that came twice before; what turns ends turning. So `replay` says of a tree of
-- at most 100,000 tokens.
abbrev pub StopsEnd : Type 0
StopsEnd =
    (t : TableView) → IsValid t.content → IsNumbered t → (w : List Token) →
    (Blocks t.content w → EndsAt t.content w) × (Loops t.content w → EndsTurning t.content w)

-- What is drawn for a fault stands for a typed statement whose parse blocks, or turns, by the answers of its nodes.
abbrev pub DrawnSamplesStop : Type 0
DrawnSamplesStop =
    (t : TableView) → IsValid t.content → IsNumbered t → (f : FoundView) → IsFound (automaton_of t) f → (nodes : List Node) →
    (DrawnBlocking (automaton_of t) f nodes → BlockingNodes t.content nodes) ×
    (DrawnLooping (automaton_of t) f nodes → LoopingNodes t.content nodes)
