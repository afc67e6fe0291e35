-- How many instructions are enough for `run` of a text that `compile` wrote, where no pass changed the code.
use Rattle.std.specs.Prelude.{◌≡◌, ℕ, ◌≤◌, List, []}
use Rattle.gg_base.specs.declared.run.End.{End}
use Rattle.gg_base.specs.declared.run.End.TheVariants as ends
use Rattle.c_sound.specs.Fits.{AreBytes}
use Rattle.c_meaning.specs.Programs.{source}
use Rattle.c_lower_counts.specs.Zeros.{with_zeros}
use Rattle.vax_core.specs.declared.code.Code.{Code}
use Rattle.vax_bound.specs.Bound.{bound}
use Rattle.cmd_files.specs.Outsides.{Outside}
use Rattle.cmd_compile.specs.Passing.{Passing, passing}
use Rattle.cmd_compile.specs.Outcome.{Files, IsCompiled}
use Rattle.gg_headline.specs.Running.{EndsFrom}

-- the passes of a call lead from each code to that code alone
abbrev pub ChangeNothing : Passing → Type 0
ChangeNothing by = (c d : Code) → by.leads c d → d ≡ c

-- With some number of steps that is no greater than this one, and with each greater one, the run of a text comes to this end with this
-- output; with each smaller one it is spent, at a front of the output.
pub record EndsWithin (text bytes output : List ℕ) (end : End) (most : ℕ) : Type 0 where
  pub least : ℕ
  pub within : least ≤ most
  pub from : EndsFrom text bytes output end least

-- What a call of `compile` wrote whose passes changed nothing; the source's numbers are bytes, as those of files are.
pub record IsPlain (by : Passing) (names : Files) (at : Outside) (compiled : IsCompiled by names at) : Type 0 where
  pub unchanged : ChangeNothing by
  pub are_bytes : AreBytes compiled.finds.holds.bytes

-- Where the source's program ends with a value, and n turns of loops and calls are counted, the run of its text ends so within K times
-- (m + 1) instructions, K being one more than the number of the items of the text's code (`bound`), and m being n and the zeros that the
-- program's declarations set, before the first of these turns and calls and behind each (`with_zeros`).
abbrev pub EndedTextsEndWithin : Passing → Type 0
EndedTextsEndWithin by =
    (names : Files) (at : Outside) (compiled : IsCompiled by names at) → IsPlain by names at compiled → (bytes : List ℕ) (n value : ℕ)
    → (source compiled.program bytes n).end ≡ ends.Ended value
    → ∥ EndsWithin compiled.text bytes (source compiled.program bytes n).output (ends.Ended value)
    (bound compiled.is_text.is_text.code (with_zeros compiled.program n)) ∥₁

-- Where it traps, so does the run of its text, within as many.
abbrev pub TrappingTextsTrapWithin : Passing → Type 0
TrappingTextsTrapWithin by =
    (names : Files) (at : Outside) (compiled : IsCompiled by names at) → IsPlain by names at compiled → (bytes : List ℕ) (n : ℕ)
    → (source compiled.program bytes n).end ≡ ends.Trapped
    → ∥ EndsWithin compiled.text bytes (source compiled.program bytes n).output ends.Trapped
    (bound compiled.is_text.is_text.code (with_zeros compiled.program n)) ∥₁

-- Where there are no passes in the list before a call, they change nothing.
abbrev pub NoPassesChangeNothing : {P : Type 0} → (P → ℕ → Code → Code → Type 0) → (P → ℕ) → List P → List P → Type 0
NoPassesChangeNothing wrote made before behind = before ≡ [] → ChangeNothing (passing wrote made before behind)
