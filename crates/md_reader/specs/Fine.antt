-- What was read so far breaks no row.
use Rattle.std.specs.Prelude.{◌≡◌, ◌≤◌, true, List, [], length}
use Rattle.std.specs.List.{AllByRecursion}
use Rattle.md_types.specs.declared.types.ExpandedLine.{ExpandedLine}
use Rattle.md_reader.specs.declared.reading.Stage.{Stage}
use Rattle.md_reader.specs.declared.reading.Stage.TheVariants as stage
use Rattle.md_reader.specs.RuleForms.{register_behind}
use Rattle.md_reader.specs.State.{State}
use Rattle.md_reader.specs.HeadSteps.{has_stmt}
use Rattle.md_reader.specs.Valid.{IsPool, AreClasses, IsSpill, AreSides, IsTemplate, IsRule}

-- nothing was declared yet
pub record IsBlank (s : State) : Type 0 where
  pub classes : s.classes ≡ []
  pub spills : s.spills ≡ []
  pub rules : s.rules ≡ []

-- the pool was read, and maybe classes
pub record IsDeclaring (s : State) : Type 0 where
  pub pool : IsPool s.pool
  pub spills : s.spills ≡ []
  pub rules : s.rules ≡ []

-- some of the spill lines were read
pub record IsSaving (s : State) : Type 0 where
  pub pool : IsPool s.pool
  pub stmt : has_stmt s.classes ≡ true
  pub some : 1 ≤ length s.spills
  pub few : length s.spills ≤ 7
  pub rules : s.rules ≡ []

-- the lines before the rules were read
pub record IsWhole (s : State) : Type 0 where
  pub pool : IsPool s.pool
  pub stmt : has_stmt s.classes ≡ true
  pub eight : length s.spills ≡ 8

-- the head of a rule was read, and maybe lines of its template; these lines are left
pub record IsInRule (s : State) (left : List ExpandedLine) : Type 0 where
  pub whole : IsWhole s
  pub few : length s.rules ≤ 999
  pub sides : AreSides s.classes s.left s.right
  pub template : IsTemplate s.classes s.right s.register s.restrictions s.lines
  pub register : s.register ≡ register_behind left

abbrev pub StageFact : Stage → State → List ExpandedLine → Type 0
StageFact stage.Version s left = IsBlank s
StageFact stage.Target s left = IsBlank s
StageFact stage.Pool s left = IsBlank s
StageFact stage.Classes s left = IsDeclaring s
StageFact stage.Spills s left = IsSaving s
StageFact stage.Rules s left = IsWhole s
StageFact stage.Template s left = IsInRule s left

-- what was read so far breaks no row; these lines are left
pub record IsFine (s : State) (left : List ExpandedLine) : Type 0 where
  pub classes : AreClasses s.classes
  pub spills : AllByRecursion IsSpill s.spills
  pub few : length s.rules ≤ 1000
  pub rules : AllByRecursion (IsRule s.classes) s.rules
  pub stage : StageFact s.stage s left
