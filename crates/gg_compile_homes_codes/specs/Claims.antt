-- What is claimed, beside that it keeps the program, of the code of a typed program whose functions want other locals in registers.
use Rattle.std.specs.Prelude.{ℕ, List}
use Rattle.tree_core.specs.declared.program.TreeProgram.{TreeProgram}
use Rattle.c_program.specs.Programs.{AProgram}
use Rattle.c_lower_follows.specs.c_meaning.specs.Programs.{source}
use Rattle.c_sound.specs.Fits.{AreBytes}
use Rattle.c_lower_counts.specs.Zeros.{with_zeros}
use Rattle.md_reader.specs.State.{Content}
use Rattle.vax_core.specs.declared.code.Code.{Code}
use Rattle.vax_machine.specs.State.{State}
use Rattle.vax_machine.specs.Running.{run}
use Rattle.vax_bound.specs.Bound.{bound}
use Rattle.vax_frames_law.specs.Guarding.{KeepsRegisters}
use Rattle.vax_frames_law.specs.Within.{mask_from}
use Rattle.gg_compile_laws.specs.sel_parse_effect.specs.Claims.{IsFit}
use Rattle.gg_compile_laws.specs.vax_target_meaning.specs.Vax.{vax}
use Rattle.gg_compile_laws.specs.gg_compile_code.specs.Selecting.{SelectedAll}
use Rattle.gg_compile_codes.specs.Begins.{HasBegin}
use Rattle.gg_compile_codes.specs.Bounded.{EndsIn}
use Rattle.gg_compile_codes.specs.Reached.{Reached}
use Rattle.gg_compile_homes.specs.Claims.{AreRehomedTrees}

-- On every input of bytes: where the program's run ends with n counted turns and calls, its run ends so within `bound c m` instructions, m
-- being n and the zeros that the program's declarations set (`with_zeros`).
abbrev pub RehomedCodesAreBounded : Type 0
RehomedCodesAreBounded =
    (p : AProgram) (q : TreeProgram) (d : Content) (c : Code) → AreRehomedTrees p q → IsFit vax d → SelectedAll vax d q c
    → (input : List ℕ) → AreBytes input → (n : ℕ)
    → EndsIn (bound c (with_zeros p n)) (source p input n).end (source p input n).output (run c input)

-- In each state of its run all live frames are intact: the registers outside a frame's mask are as they were at its call.
abbrev pub RehomedCodesKeepRegisters : Type 0
RehomedCodesKeepRegisters =
    (p : AProgram) (q : TreeProgram) (d : Content) (c : Code) → AreRehomedTrees p q → IsFit vax d → SelectedAll vax d q c
    → (input : List ℕ) (m : State) → Reached c input m → KeepsRegisters c.items (mask_from 0 c.items) m

-- On each input of bytes some state of the VAX stands for the beginning of the run of these trees.
abbrev pub RehomedProgramsBegin : Type 0
RehomedProgramsBegin =
    (p : AProgram) (q : TreeProgram) (d : Content) (c : Code) → AreRehomedTrees p q → IsFit vax d → SelectedAll vax d q c
    → (input : List ℕ) → AreBytes input → HasBegin vax q input
