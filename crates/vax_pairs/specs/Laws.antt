-- Laws: terms of one normal form are worth the same, and a machine does what the tree of a run on terms says.
use Rattle.std.specs.Prelude.{◌≡◌, ℕ, Bool, false, List, [], length, Some, None}
use Rattle.term_core.specs.Shape.{Shape}
use Rattle.term_core.specs.Norm.{norm}
use Rattle.vax_machine_lists.specs.vax_machine.specs.State.{State}
use Rattle.vax_pairs.specs.SameTrees.{Agree}
use Rattle.vax_pairs.specs.Scopes.{Scoped, IsPlain}
use Rattle.vax_pairs.specs.TermStates.{TermState}
use Rattle.vax_pairs.specs.Trees.{Tree, DoesTree}
use Rattle.vax_pairs.specs.TermRuns.{run_tree}
use Rattle.vax_pairs.specs.Shown.{StandsFor}

-- Where the run on terms from a machine's state has a tree, the machine does what that says.
abbrev pub TreesAreDone : Type 0
TreesAreDone =
    (is_cut : ℕ → Bool) (fuel : ℕ) (env : List ℕ) (m : State) (s : TermState) (t : Tree) → m.over ≡ None → Scoped (length env) s
    → StandsFor env s m → run_tree m.items m.layout is_cut fuel false m.place (length env) s ≡ Some t
    → DoesTree m.items t env m m []

-- Terms without memory, with longwords for constants, agree where they have one normal form.
abbrev pub SameNormsAgree : Type 0
SameNormsAgree = (s t : Shape) → IsPlain s → IsPlain t → norm [] s ≡ norm [] t → Agree s t
