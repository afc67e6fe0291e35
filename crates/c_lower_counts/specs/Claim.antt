-- What is claimed of the numbers of lowering: the trees count no more than the program, but for the zeros that its declarations set.
use Rattle.std.specs.Prelude.{◌≡◌, ℕ, ◌≤◌, List}
use Rattle.gg_base.specs.declared.run.End.{End}
use Rattle.gg_base.specs.declared.run.End.TheVariants.{Ended, Trapped, Wild, Deep, Spent, Broken}
use Rattle.gg_base.specs.Runs.{Runs}
use Rattle.tree_counts.specs.Counted.{tree_tally}
use Rattle.c_program.specs.Programs.{AProgram}
use Rattle.c_meaning.specs.Programs.{source}
use Rattle.c_lower_scheme.specs.Programs.{lowered}
use Rattle.c_sound.specs.Fits.{AreBytes}
use Rattle.c_sound.specs.Sound.{IsSound}
use Rattle.c_lower_counts.specs.Zeros.{with_zeros}

-- some answer of the run has this output and this end, and its number is at most so large
abbrev pub SaysWithin : ℕ → Runs → List ℕ → End → Type 0
SaysWithin n r output end = (m : ℕ) × ((r m).output ≡ output) × ((r m).end ≡ end) × ((r m).number ≤ n)

-- what an answer with a number asks of another run: where it tells an end, the other run tells it too, and counts no more
abbrev pub Within : ℕ → End → List ℕ → Runs → Type 0
Within n (Ended s) output b = SaysWithin n b output (Ended s)
Within n Trapped output b = SaysWithin n b output Trapped
Within n Wild output b = Unit {0}
Within n Deep output b = Unit {0}
Within n Spent output b = Unit {0}
Within n (Broken k) output b = Unit {0}

-- On every input: where the run of the program ends with n counted turns of loops and calls, the run of the trees ends so with at most so
-- many calls and jumps backward, and the zeros that the program's declarations set before the first of these and behind each
-- (`with_zeros`).
abbrev pub LoweringCountsNoMore : Type 0
LoweringCountsNoMore =
    (p : AProgram) → IsSound p → (input : List ℕ) → AreBytes input → (n : ℕ)
    → Within (with_zeros p n) (source p input n).end (source p input n).output (tree_tally (lowered p) input)
