-- The parse with its answers: each symbol of the stack carries the answers that its node has left.
use Rattle.std.specs.Prelude.{◌≡◌, ℕ, List, [], ◌∷◌, Option, Some, None, Bool, true, false, drop}
use Rattle.tree_core.specs.declared.token.Tok.{Tok}
use Rattle.tree_core.specs.declared.token.Tok.TheVariants as tok
use Rattle.tree_core.specs.declared.token.Sort.{Sort}
use Rattle.tree_core.specs.declared.token.Sort.TheVariants as sort
use Rattle.md_reader.specs.declared.types.Sym.{Sym}
use Rattle.md_reader.specs.declared.types.Sym.TheVariants as grammar_symbol
use Rattle.lr_check.specs.Tree.{Token}
use Rattle.lr_check.specs.Parse.{Part, symbols, answer}
use Rattle.lr_check_sets.specs.Trees.{Tree, Trees, node, no_trees, more_trees}
use Rattle.lr_check_sets.specs.Automaton.{Automaton, Production, Candidate, shift, reduce, walk, size_of}

-- the next token
abbrev pub next_token : List Token → Option Tok
next_token [] = None
next_token (f ∷ w) = Some f.tok

abbrev pub the_end : List Token
the_end = record { tok = tok.End; answers = [] } ∷ []

-- the tokens of a tree with their nodes' answers, in front of a list of tokens
abbrev mutual
  pub leaves : {x : Sort} → Tree x → List Token → List Token
  leaves (node k may answers vs) w = record { tok = k; answers = answers } ∷ leaves_all vs w

  pub leaves_all : {xs : List Sort} → Trees xs → List Token → List Token
  leaves_all no_trees w = w
  leaves_all (more_trees v vs) w = leaves v (leaves_all vs w)

-- the answers of the node that a right side's first symbol belongs to
abbrev pub owner : List Sym → List Part → List Bool
owner right [] = []
owner [] (h ∷ a) = []
owner (X ∷ []) (h ∷ a) = h.answers
owner (X ∷ Y ∷ right) (h ∷ a) = owner (Y ∷ right) a

-- that node has used its first answer
abbrev pub asked : List Sym → List Part → List Part
asked right [] = []
asked [] (h ∷ a) = h ∷ a
asked (X ∷ []) (h ∷ a) = record { symbol = h.symbol; answers = drop 1 h.answers } ∷ a
asked (X ∷ Y ∷ right) (h ∷ a) = h ∷ asked (Y ∷ right) a

-- what is taken, and the stack with the answers used
pub record Picked : Type 0 where
  pub taken : Option Candidate
  pub stack : List Part

abbrev pub pick_by : Bool → Bool → Production → List Part → List Part → Picked → Picked
pick_by false said r a b rest = record { taken = Some (reduce r); stack = a }
pick_by true true r a b rest = record { taken = Some (reduce r); stack = b }
pick_by true false r a b rest = rest

abbrev pub pick : List Candidate → List Part → Picked
pick [] a = record { taken = None; stack = a }
pick (shift ∷ cs) a = record { taken = Some shift; stack = a }
pick (reduce r ∷ cs) a = pick_by r.asks (answer (owner r.right a)) r a (asked r.right a) (pick cs (asked r.right a))

-- the new symbol belongs to the node of the right side's first
abbrev pub held_reduced : Production → List Part → List Part
held_reduced r a = record { symbol = grammar_symbol.Class r.left; answers = owner r.right a } ∷ drop (size_of r) a

-- one step of the parse
pub data Step (A : Automaton) : List Part → List Token → List Part → List Token → Type 0 where
  shifts : {a b : List Part} {f : Token} {w : List Token} {p : ℕ} → walk A 0 (symbols a) ≡ Some p →
      pick (A.candidates p f.tok) a ≡ record { taken = Some shift; stack = b } →
      Step A a (f ∷ w) (record { symbol = grammar_symbol.Tok f.tok; answers = f.answers } ∷ b) w
  reduces : {a b : List Part} {f : Token} {w : List Token} {p : ℕ} {r : Production} → walk A 0 (symbols a) ≡ Some p →
      pick (A.candidates p f.tok) a ≡ record { taken = Some (reduce r); stack = b } → Step A a (f ∷ w) (held_reduced r b) (f ∷ w)

-- some steps
pub data Runs (A : Automaton) : List Part → List Token → List Part → List Token → Type 0 where
  here : {a : List Part} {w : List Token} → Runs A a w a w
  then_step : {a b c : List Part} {u v w : List Token} → Runs A a u b v → Step A b v c w → Runs A a u c w

-- no candidate is taken
pub data IsBlocked (A : Automaton) : List Part → List Token → Type 0 where
  blocked : {a b : List Part} {f : Token} {w : List Token} {p : ℕ} → walk A 0 (symbols a) ≡ Some p →
      pick (A.candidates p f.tok) a ≡ record { taken = None; stack = b } → IsBlocked A a (f ∷ w)

-- the parse of the tree comes to a point at which no candidate is taken
abbrev pub Blocks : Automaton → Tree sort.Stmt → Type 0
Blocks A v = (a : List Part) × ((w : List Token) × (Runs A [] (leaves v the_end) a w × IsBlocked A a w))

-- some reductions, at least one, and no shift
pub data Reductions (A : Automaton) (w : List Token) : List Part → List Part → Type 0 where
  one_reduction : {a b : List Part} → Step A a w b w → Reductions A w a b
  more_reductions : {a b c : List Part} → Reductions A w a b → Step A b w c w → Reductions A w a c

-- the same stack comes twice without a shift between
abbrev pub Loops : Automaton → Tree sort.Stmt → Type 0
Loops A v = (a b : List Part) × ((w : List Token) × (Runs A [] (leaves v the_end) a w × Reductions A w a b × (symbols a ≡ symbols b)))

-- the parse from here ends with Accept
pub data Accepts (A : Automaton) : List Part → List Token → Type 0 where
  accept : {a : List Part} {f : Token} → symbols a ≡ grammar_symbol.Class A.stmt ∷ [] → f.tok ≡ tok.End → Accepts A a (f ∷ [])
  by_step : {a b : List Part} {w v : List Token} → Step A a w b v → Accepts A b v → Accepts A a w
