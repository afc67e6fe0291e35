-- How many instructions compiled code takes.
use Rattle.std.specs.Prelude.{◌≡◌, ℕ, List}
use Rattle.gg_base.specs.declared.run.End.{End}
use Rattle.gg_base.specs.declared.run.End.TheVariants.{Ended, Trapped, Wild, Deep, Spent, Broken}
use Rattle.gg_base.specs.Runs.{Runs}
use Rattle.c_program.specs.Programs.{AProgram}
use Rattle.gg_compile_laws.specs.c_typed_check.specs.Typed.{IsTypedUnit}
use Rattle.c_sound.specs.Fits.{AreBytes}
use Rattle.c_meaning.specs.Programs.{source}
use Rattle.c_lower_scheme.specs.Programs.{lowered}
use Rattle.c_lower_counts.specs.Zeros.{with_zeros}
use Rattle.md_reader.specs.State.{Content}
use Rattle.gg_compile_laws.specs.sel_parse_effect.specs.Claims.{IsFit}
use Rattle.vax_core.specs.declared.code.Code.{Code}
use Rattle.vax_machine.specs.Running.{run}
use Rattle.vax_bound.specs.Bound.{bound}
use Rattle.gg_compile_laws.specs.vax_target_meaning.specs.Vax.{vax}
use Rattle.gg_compile_laws.specs.gg_compile_code.specs.Selecting.{SelectedAll}
use Rattle.gg_compile_laws.specs.Typed.{FitFrames}

-- what an answer asks of another run with so many steps: where it tells an end, so does that, with the same output
abbrev pub EndsIn : ℕ → End → List ℕ → Runs → Type 0
EndsIn n (Ended v) output r = ((r n).output ≡ output) × ((r n).end ≡ Ended v)
EndsIn n Trapped output r = ((r n).output ≡ output) × ((r n).end ≡ Trapped)
EndsIn n Wild output r = Unit {0}
EndsIn n Deep output r = Unit {0}
EndsIn n Spent output r = Unit {0}
EndsIn n (Broken k) output r = Unit {0}

-- The code that a description, whose rules are shown on the VAX, selects of a typed program whose functions fit their frames, on every input
-- of bytes: where the program's run ends with n counted turns and calls, the code's run ends so within `bound c m` instructions. There m is
-- n and the zeros that the program's declarations set, before the first of these and behind each (`with_zeros`): n alone where they set
-- none.
abbrev pub TypedCodesAreBounded : Type 0
TypedCodesAreBounded =
    (p : AProgram) (d : Content) (c : Code) → IsTypedUnit p → FitFrames p → IsFit vax d → SelectedAll vax d (lowered p) c
    → (input : List ℕ) → AreBytes input → (n : ℕ)
    → EndsIn (bound c (with_zeros p n)) (source p input n).end (source p input n).output (run c input)
