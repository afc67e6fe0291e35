-- What is claimed of the labels that lowering takes, and of the size of typed programs.
use Rattle.std.specs.Prelude.{ℕ, List, ◌*◌, ◌<◌, ◌≤◌, length}
use Rattle.c_phrases.specs.Units.{AUnit}
use Rattle.c_phrases.specs.UnitSpelling.{unit_tokens}
use Rattle.c_program.specs.Programs.{AProgram}
use Rattle.gg_compile_spelled.specs.c_typed_law.specs.Texts.{IsText}
use Rattle.gg_compile_spelled.specs.c_typed_words.specs.Words.{HasTokens}
use Rattle.gg_compile_spelled.specs.Claims.{label_count}
use Rattle.gg_compile_counts.specs.Sizes.{program_size}

-- Lowering takes at most three labels for each node, branch, loop, run of zeros and block of a program.
abbrev pub LabelsAreFew : Type 0
LabelsAreFew = (p : AProgram) → label_count p ≤ 3 * program_size p

-- A typed program has fewer of these than its unit has tokens.
abbrev pub ProgramsAreSmall : Type 0
ProgramsAreSmall =
    (p : AProgram) (unit : AUnit) (ends : List ℕ) → IsText unit.externals ends unit.end p → program_size p < length (unit_tokens unit)

-- So lowering takes at most 3,145,728 labels, where the tokens of the unit are those of a source.
abbrev pub TypedHaveFewLabels : Type 0
TypedHaveFewLabels =
    (p : AProgram) (unit : AUnit) (ends : List ℕ) → HasTokens unit → IsText unit.externals ends unit.end p → label_count p ≤ 3145728
