-- What some answers take at a state, as sets of the tokens that come next.
use Rattle.std.specs.Prelude.{◌≡◌, ℕ, List, Contains}
use Rattle.tree_core.specs.declared.token.Tok.{Tok}
use Rattle.md_reader.specs.declared.types.Rule.{Rule}
use Rattle.lr_tables.specs.declared.types.Choice.{Choice}
use Rattle.lr_check_found.specs.lr_check_sets.specs.Automaton.{Automaton, Production, Candidate, shift, reduce, size_of, Free, CanBlock}
use Rattle.lr_check_found.specs.Choices.{CandidateOf}
use Rattle.lr_check_ways.specs.Sets.{In}
use Rattle.lr_check_ways.specs.declared.ways.Reduction.{Reduction}
use Rattle.lr_check_ways.specs.declared.ways.Ways.{Ways}

-- the rule makes the reduction's class of so many symbols as it says
pub record IsBy (x : Reduction) (r : Production) : Type 0 where
  pub long : size_of r ≡ x.long
  pub class : r.left ≡ x.class

-- the choice is a reduction by such a rule
pub record MakesOne (rules : List Rule) (x : Reduction) (d : Choice) : Type 0 where
  pub rule : Production
  pub is : CandidateOf rules d (reduce rule)
  pub by : IsBy x rule

-- the candidate is among the ways, with the token next
abbrev pub IsAmong : List Reduction → ℕ → Tok → Candidate → Type 0
IsAmong reductions shifts b shift = In shifts b
IsAmong reductions shifts b (reduce r) = (x : Reduction) × (Contains reductions x × (IsBy x r × In x.tokens b))

-- some answers take a reduction as it says
pub record IsTaken (A : Automaton) (q : ℕ) (b : Tok) (x : Reduction) : Type 0 where
  pub rule : Production
  pub free : Free (A.candidates q b) (reduce rule)
  pub by : IsBy x rule

-- the ways are what some answers take at the state, and the blocked tokens those with which some take nothing
pub record AreWays (A : Automaton) (q : ℕ) (w : Ways) : Type 0 where
  pub all : (b : Tok) (c : Candidate) → Free (A.candidates q b) c → IsAmong w.reductions.items w.shifts b c
  pub shifted : (b : Tok) → In w.shifts b → Free (A.candidates q b) shift
  pub taken : (x : Reduction) → Contains w.reductions.items x → (b : Tok) → In x.tokens b → IsTaken A q b x
  pub blocks : (b : Tok) → CanBlock (A.candidates q b) → In w.blocked b
