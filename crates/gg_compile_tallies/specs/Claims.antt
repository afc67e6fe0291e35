-- What is claimed of the numbers of compiled code: it counts no more than its trees.
use Rattle.std.specs.Prelude.{◌≡◌, ℕ, ◌≤◌, List}
use Rattle.gg_base.specs.declared.run.End.{End}
use Rattle.gg_base.specs.declared.run.End.TheVariants.{Ended, Trapped, Wild, Deep, Spent, Broken}
use Rattle.tree_core.specs.declared.program.TreeProgram.{TreeProgram}
use Rattle.tree_counts.specs.Counted.{tree_tally}
use Rattle.vax_core.specs.declared.code.Code.{Code}
use Rattle.vax_machine.specs.State.{State}
use Rattle.vax_machine.specs.Loading.{start}
use Rattle.vax_machine.specs.Running.{steps}
use Rattle.vax_machine_lists.specs.Sound.{AllBelow}
use Rattle.vax_bound.specs.Counted.{counted_steps}
use Rattle.gg_compile_law.specs.Written.{IsWritten}

-- after some steps the run of a state has this output and this end, and at most so much is counted in them
abbrev pub SaysWithin : ℕ → State → List ℕ → End → Type 0
SaysWithin much m output end = (n : ℕ) × ((steps n m).output ≡ output) × ((steps n m).end ≡ end) × (counted_steps n m ≤ much)

-- what an answer with a number asks of the run of a state: where it tells an end, so does that, and counts no more
abbrev pub Within : ℕ → End → List ℕ → State → Type 0
Within much (Ended v) output m = SaysWithin much m output (Ended v)
Within much Trapped output m = SaysWithin much m output Trapped
Within much Wild output m = Unit {0}
Within much Deep output m = Unit {0}
Within much Spent output m = Unit {0}
Within much (Broken k) output m = Unit {0}

-- On every input of bytes: where the run of the trees ends, with so many calls and jumps backward, the run of the code that is written of them
-- ends so, with no more of them.
abbrev pub WrittenCodesCountNoMore : Type 0
WrittenCodesCountNoMore =
    (program : TreeProgram) (c : Code) → IsWritten program c → (input : List ℕ) → AllBelow 256 input → (n : ℕ)
    → Within (tree_tally program input n).number (tree_tally program input n).end (tree_tally program input n).output (start c input)
