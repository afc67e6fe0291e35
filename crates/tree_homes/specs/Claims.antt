-- What is claimed of programs whose functions want other locals in registers. A law is stated of the choice that lets every list through:
-- what is made by a choice is made by that one too.
use Rattle.std.specs.Prelude.{◌≡◌, ℕ, List}
use Rattle.gg_base.specs.Runs.{Runs}
use Rattle.gg_base.specs.Follows.{Follows}
use Rattle.tree_core.specs.declared.program.TreeFn.{TreeFn}
use Rattle.tree_core.specs.declared.program.TreeProgram.{TreeProgram}
use Rattle.tree_core.specs.Valid.{IsValid}
use Rattle.tree_meaning.specs.Meaning.{tree_run}
use Rattle.tree_homes.specs.Rehoming.{Choosing, IsRehomed, anything, picking, declared}

-- A program that is rehomed by a choice is rehomed by the one that lets all through.
abbrev pub IsRehomedAnyhow : Choosing → Type 0
IsRehomedAnyhow chooses = (p q : TreeProgram) → IsRehomed chooses p q → IsRehomed anything p q

-- Such a program is valid where the first one is.
abbrev pub RehomedIsValid : Type 0
RehomedIsValid = (p q : TreeProgram) → IsRehomed anything p q → IsValid p → IsValid q

-- On each input it does the same, tree for tree.
abbrev pub RehomedRunsAlike : Type 0
RehomedRunsAlike = (p q : TreeProgram) → IsRehomed anything p q → (input : List ℕ) (n : ℕ) → tree_run q input n ≡ tree_run p input n

-- So what the first one's run follows, its run follows.
abbrev pub RehomedFollows : Type 0
RehomedFollows =
    (p q : TreeProgram) → IsRehomed anything p q → (source : Runs) (input : List ℕ) → Follows source (tree_run p input)
    → Follows source (tree_run q input)

-- By a choice that picks one list of each function there is one such program.
abbrev pub RehomedIsOne : Type 0
RehomedIsOne = (pick : TreeFn → List ℕ) (p q r : TreeProgram) → IsRehomed (picking pick) p q → IsRehomed (picking pick) p r → q ≡ r

-- With the locals that the source declares `register` a valid program is what it was.
abbrev pub DeclaredIsSame : Type 0
DeclaredIsSame = (p q : TreeProgram) → IsValid p → IsRehomed declared p q → q ≡ p
