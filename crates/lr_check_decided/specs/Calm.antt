-- Which classes are calm: reductions of the class alone come to an end, in a state with a token behind it.
use Rattle.std.specs.Prelude.{◌≡◌, ℕ, ◌<◌, List, [], ◌∷◌, Contains, Bool, true, false, length, slice_index_or, count_by}
use Rattle.tree_core.specs.declared.token.Tok.{Tok}
use Rattle.md_reader.specs.declared.types.Rule.{Rule}
use Rattle.md_reader.specs.declared.types.Sym.TheVariants as grammar_symbol
use Rattle.lr_tables.specs.declared.types.Choice.{Choice}
use Rattle.lr_check_sets.specs.Automaton.{Automaton}
use Rattle.lr_check_sets.specs.Faults.{Calms}
use Rattle.lr_check_found.specs.declared.choices.Leads.TheVariants.{Whole}
use Rattle.lr_check_found.specs.Choices.{seen}
use Rattle.lr_check_flaws.specs.Flaws.{StepsTo}

-- how many are marked
abbrev pub marked : List Bool → ℕ
marked marks = count_by (λ (b : Bool). b) marks

-- the marked classes are calm
pub record AreCalm (A : Automaton) (q : ℕ) (b : Tok) (marks : List Bool) : Type 0 where
  pub each : (k : ℕ) → slice_index_or marks k false ≡ true → Calms A q b (grammar_symbol.Class k ∷ [])

-- a reduction of the class k alone leads to the class d, which isn't marked
pub record IsNext (A : Automaton) (q : ℕ) (b : Tok) (marks : List Bool) (k d : ℕ) : Type 0 where
  pub steps : StepsTo A q b k d
  pub low : d < length marks
  pub unmarked : slice_index_or marks d false ≡ false

abbrev pub Stuck : Automaton → ℕ → Tok → List Bool → ℕ → Type 0
Stuck A q b marks k = (d : ℕ) × IsNext A q b marks k d

-- each reduction of the class k alone leads to a marked class
pub record LeadsToMarked (A : Automaton) (q : ℕ) (b : Tok) (marks : List Bool) (k : ℕ) : Type 0 where
  pub each : (d : ℕ) → StepsTo A q b k d → slice_index_or marks d false ≡ true

-- each class that isn't marked is stuck
pub record AreStuck (A : Automaton) (q : ℕ) (b : Tok) (marks : List Bool) : Type 0 where
  pub each : (k : ℕ) → k < length marks → slice_index_or marks k false ≡ false → Stuck A q b marks k

-- the choice makes of a whole list of so many symbols the class k, which isn't marked
pub record MakesUnmarked (rules : List Rule) (size : ℕ) (marks : List Bool) (k : ℕ) (d : Choice) : Type 0 where
  pub leads : (seen rules size d).leads ≡ Whole k
  pub unmarked : slice_index_or marks k false ≡ false

-- each class that the choice makes of such a list is marked
pub record MakesMarked (rules : List Rule) (size : ℕ) (marks : List Bool) (d : Choice) : Type 0 where
  pub each : (k : ℕ) → (seen rules size d).leads ≡ Whole k → slice_index_or marks k false ≡ true

-- one of the choices makes of such a list the class k, which isn't marked
pub record OneUnmarked (rules : List Rule) (size : ℕ) (marks : List Bool) (choices : List Choice) (k : ℕ) : Type 0 where
  pub choice : Choice
  pub there : Contains choices choice
  pub makes : MakesUnmarked rules size marks k choice

-- no choice makes another of it than marked ones
pub record AllMarked (rules : List Rule) (size : ℕ) (marks : List Bool) (choices : List Choice) : Type 0 where
  pub each : (d : Choice) → Contains choices d → MakesMarked rules size marks d
