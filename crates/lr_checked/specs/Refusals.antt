-- What a refusal says: its sample is a well-typed statement whose parse blocks, or turns for ever, by its own answers.
use Rattle.std.specs.Prelude.{ℕ, ◌≤◌, List, [], length}
use Rattle.gg_base.specs.declared.limits.TheConstants.{SUMMARY_LIMIT}
use Rattle.md_reader.specs.State.{Content}
use Rattle.lr_tables.specs.Statements.{stmt_of}
use Rattle.lr_check.specs.declared.sample.Outcome.TheVariants as outcome
use Rattle.lr_check.specs.Tree.{Node, Token, IsTree}
use Rattle.lr_check.specs.Parse.{Ends, Replays}
use Rattle.lr_check.specs.Statement.{IsStatement}
use Rattle.lr_check_parse.specs.Typed as typed
use Rattle.lr_check_found.specs.lr_check_sets.specs.Automaton.{Automaton}
use Rattle.lr_check_found.specs.Count.{HasMore}
use Rattle.lr_check_drawn.specs.lr_check_samples.specs.Stops.{tokens, Blocks, Loops, EndsAt, EndsTurning}
use Rattle.lr_checked.specs.declared.checking.CheckFault.{CheckFault}
use Rattle.lr_checked.specs.declared.checking.CheckFault.TheVariants as check_fault
use Rattle.lr_checked.specs.Counted.{HasTooManySums}

-- a well-typed statement whose parse, by its own answers, comes to a stack at which nothing is taken
pub record Blocking (d : Content) (nodes : List Node) : Type 0 where
  pub statement : IsStatement nodes
  pub leaves : List Token
  pub tree : IsTree nodes leaves
  pub blocks : Blocks d leaves
  -- the parse that ends at the first stack that comes twice ends there, or at such a stack before
  pub ends : EndsAt d leaves
  -- of a tree that isn't too long for it `replay` says that it blocks
  pub replay : length leaves ≤ 100000 → (at : ℕ) × Replays d nodes (outcome.Blocks at)

-- a well-typed statement whose parse, by its own answers, comes to the same stack again without a shift between
pub record Looping (d : Content) (nodes : List Node) : Type 0 where
  pub statement : IsStatement nodes
  pub leaves : List Token
  pub tree : IsTree nodes leaves
  pub loops : Loops d leaves
  pub ends : EndsTurning d leaves
  pub replay : length leaves ≤ 100000 → (at : ℕ) × Replays d nodes (outcome.Loops at)

-- `NoMemory` and `CheckFull` have no sample
abbrev pub FaultIsReal : Content → CheckFault → Type 0
FaultIsReal d check_fault.NoMemory = Unit {0}
FaultIsReal d check_fault.CheckFull = Unit {0}
FaultIsReal d (check_fault.Blocks nodes) = Blocking d nodes
FaultIsReal d (check_fault.Loops nodes) = Looping d nodes

-- the parse of some typed statement, with some answers, doesn't accept: it ends blocked, or at a stack that came before
pub data SomeStops (d : Content) : Type 0 where
  some_blocks : (w : List Token) (at : ℕ) → typed.IsStatement (tokens w) →
      Ends d.rules (stmt_of d.classes) 0 [] w [] (outcome.Blocks at) → SomeStops d
  some_loops : (w : List Token) (at : ℕ) → typed.IsStatement (tokens w) →
      Ends d.rules (stmt_of d.classes) 0 [] w [] (outcome.Loops at) → SomeStops d

-- Where no tables come out, some typed statement stops the parse, want of memory and too many sums apart.
abbrev pub IsStopped : Content → CheckFault → Type 0
IsStopped d check_fault.NoMemory = Unit {0}
IsStopped d check_fault.CheckFull = Unit {0}
IsStopped d (check_fault.Blocks nodes) = SomeStops d
IsStopped d (check_fault.Loops nodes) = SomeStops d

-- `CheckFull` says that there are more than `SUMMARY_LIMIT` sums; where another refusal comes there are not, unless there was no memory
abbrev pub FullIsFirst : Automaton → CheckFault → Type 0
FullIsFirst A check_fault.NoMemory = Unit {0}
FullIsFirst A check_fault.CheckFull = HasMore A SUMMARY_LIMIT
FullIsFirst A (check_fault.Blocks nodes) = HasMore A SUMMARY_LIMIT → ⊥
FullIsFirst A (check_fault.Loops nodes) = HasMore A SUMMARY_LIMIT → ⊥

-- the same of the description
abbrev pub SumsAreFirst : Content → CheckFault → Type 0
SumsAreFirst d check_fault.NoMemory = Unit {0}
SumsAreFirst d check_fault.CheckFull = HasTooManySums d
SumsAreFirst d (check_fault.Blocks nodes) = HasTooManySums d → ⊥
SumsAreFirst d (check_fault.Loops nodes) = HasTooManySums d → ⊥
