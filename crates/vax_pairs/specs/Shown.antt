-- What a checker of two codes shows: from each two places that stand to each other, the runs on terms give trees that say the same.
use Rattle.std.specs.Prelude.{◌≡◌, ℕ, ◌^◌, ◌<◌, Bool, false, List, ◌++◌, Some, Ok}
use Rattle.gg_base.specs.declared.size.Size.{Size}
use Rattle.vax_machine_lists.specs.vax_core.specs.declared.code.AreaItem.{AreaItem}
use Rattle.vax_machine_lists.specs.vax_core.specs.declared.code.Code.{Code}
use Rattle.vax_machine_lists.specs.vax_core.specs.declared.code.CodeItem.{CodeItem}
use Rattle.vax_machine_lists.specs.vax_core.specs.First.{main_name}
use Rattle.vax_machine_lists.specs.vax_machine.specs.State.{State}
use Rattle.vax_machine_lists.specs.vax_machine.specs.Memory.{read, written}
use Rattle.vax_machine_lists.specs.vax_machine.specs.Labels.{label_place}
use Rattle.vax_machine_lists.specs.vax_machine.specs.Loading.{blank}
use Rattle.vax_machine_lists.specs.Sound.{AllBelow}
use Rattle.vax_pairs.specs.Standing.{Seen, IsSteady, Stands}
use Rattle.vax_pairs.specs.Piecewise.{Enters, Invariant}
use Rattle.vax_pairs.specs.Events.{next_byte, bytes_behind}
use Rattle.vax_pairs.specs.TermStates.{TermState, coded, valued_registers}
use Rattle.vax_pairs.specs.Trees.{Tree}
use Rattle.vax_pairs.specs.SameTrees.{SameTree}
use Rattle.vax_pairs.specs.TermRuns.{run_tree}
use Rattle.vax_pairs.specs.Scopes.{Scoped}

-- what a piece doesn't change of a state
pub record Home (items : List CodeItem) (layout : List AreaItem) (m : State) : Type 0 where
  pub items_are : m.items ≡ items
  pub layout_is : m.layout ≡ layout

-- what is known of each state of a run
pub record Knows (c : Code) (Ready Fine : State → Type 0) : Type 0 where
  pub home : (m : State) → Ready m → Home c.items c.area m
  pub longwords : (m : State) → Ready m → AllBelow (2 ^ 32) m.registers
  pub steady : (m : State) → Ready m → IsSteady m
  pub fine : (m : State) → Ready m → Fine m

-- what is read is a longword, and stays one
pub record Reading (Fine : State → Type 0) : Type 0 where
  pub reads : (m : State) → Fine m → (a : ℕ) (s : Size) (v : ℕ) → read m a s ≡ Ok v → v < 2 ^ 32
  pub writes : (m : State) → Fine m → (a : ℕ) (s : Size) (v : ℕ) (n : State) → written m a s v ≡ Ok n → Fine n
  pub gets : (m : State) → Fine m → next_byte m.input < 2 ^ 32
  pub got : (m : State) → Fine m → Fine (record m { input = bytes_behind m.input })

-- a state on terms stands for a machine's state
pub record StandsFor (env : List ℕ) (s : TermState) (m : State) : Type 0 where
  pub registers : valued_registers env s ≡ m.registers
  pub conditions : coded env m.conditions s ≡ m.conditions

module _ (Rel : Type 0) (Holds : Rel → Seen → Seen → Type 0) (At : ℕ → ℕ → ℕ → Rel → Type 0) (c d : Code)
    (is_cut others_cut : ℕ → Bool) where
  -- from two places with a relation; the symbols are the registers of the first machine and behind them those of the second
  pub record Shown (k p q : ℕ) (r : Rel) : Type 0 where
    pub first : TermState
    pub second : TermState
    pub scoped : Scoped 30 first
    pub others_scoped : Scoped 30 second
    pub stands : (m n : State) → Stands Rel Holds At k r m n
        → StandsFor (m.registers ++ n.registers) first m × StandsFor (m.registers ++ n.registers) second n
    pub fuel : ℕ
    pub tree : Tree
    pub others_tree : Tree
    pub runs : run_tree c.items c.area is_cut fuel false p 30 first ≡ Some tree
    pub others_run : run_tree d.items d.area others_cut fuel false q 30 second ≡ Some others_tree
    pub same : SameTree Rel Holds At c.items d.items k tree others_tree

-- the certificate of two codes
pub record Certified (Rel : Type 0) (Holds : Rel → Seen → Seen → Type 0) (At : ℕ → ℕ → ℕ → Rel → Type 0)
    (Ready OthersReady Fine : State → Type 0) (is_cut others_cut : ℕ → Bool) (c d : Code) : Type 0 where
  pub area : d.area ≡ c.area
  pub invariant : Invariant c Ready
  pub others_invariant : Invariant d OthersReady
  pub knows : Knows c Ready Fine
  pub others_know : Knows d OthersReady Fine
  pub reading : Reading Fine
  pub main : (input : List ℕ)
      → Enters Rel Holds At c.items d.items (label_place c.items main_name) (label_place d.items main_name)
      (blank c input).registers (blank d input).registers
  pub shown : (k p q : ℕ) (r : Rel) → At k p q r → Shown Rel Holds At c d is_cut others_cut k p q r
