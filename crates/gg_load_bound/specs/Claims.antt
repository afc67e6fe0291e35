-- How many instructions the code of a generated source takes.
use Rattle.std.specs.Prelude.{ℕ, ◌+◌, ◌*◌, ◌≤◌, List}
use Rattle.gg_base.specs.declared.run.End.TheVariants.{Ended}
use Rattle.md_reader.specs.State.{Content}
use Rattle.c_sound.specs.Fits.{AreBytes}
use Rattle.c_lower_scheme.specs.Programs.{lowered}
use Rattle.vax_core.specs.declared.code.Code.{Code}
use Rattle.vax_machine.specs.Running.{run}
use Rattle.vax_bound.specs.Bound.{stretch}
use Rattle.gg_compile_laws.specs.vax_target_meaning.specs.Vax.{vax}
use Rattle.gg_compile_laws.specs.gg_compile_code.specs.Selecting.{SelectedAll}
use Rattle.gg_compile_codes.specs.sel_parse_effect.specs.Claims.{IsFit}
use Rattle.gg_compile_codes.specs.Bounded.{EndsIn}
use Rattle.gg_load_program.specs.Program.{source_program}
use Rattle.gg_load_meaning.specs.Run.{source_outcome}

-- how many instructions are enough for the code of k functions: it has this many stretches, one before the first counted turn or call of the
-- source, and one behind each of at most k + 8
abbrev pub enough : Code → ℕ → ℕ
enough c k = stretch c * (k + 9)

-- The code that a description, whose rules are shown on the VAX, selects of the generated source of up to 1,000 functions: on every input of
-- bytes its run has ended with 0 within so many instructions, with the output of the source.
abbrev pub GeneratedCodesAreBounded : Type 0
GeneratedCodesAreBounded =
    (k : ℕ) (d : Content) (c : Code) (input : List ℕ) → k ≤ 1000 → IsFit vax d → SelectedAll vax d (lowered (source_program k)) c
    → AreBytes input → EndsIn (enough c k) (Ended 0) (source_outcome k).output (run c input)
