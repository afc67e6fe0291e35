-- What is wrong with a line, as the reader computes it; what the kinds mean is in WrongLine.
use Rattle.std.specs.Prelude.{ℕ, Bool, false, ◌==◌, ◌||◌, nat_eq, is_some, List, Option, Some, None, if◌then◌else◌, codes}
use Rattle.std.specs.List.{list_any}
use Rattle.std.specs.Cmp.Lexicographic.{pointwise}
use Rattle.vax_reader.specs.declared.fault.AsmKind.{AsmKind}
use Rattle.vax_reader.specs.declared.fault.AsmKind.TheVariants as kinds
use Rattle.vax_reader.specs.declared.kind.Stage.{Stage}
use Rattle.vax_reader.specs.declared.kind.Stage.TheVariants as stages
use Rattle.vax_reader.specs.Fronts.{strip}
use Rattle.vax_core.specs.Mnemonics.{op_of}
use Rattle.vax_reader.specs.Lines.{word_at, named_front}

abbrev pub same : List ℕ → List ℕ → Bool
same word wanted = pointwise nat_eq word wanted

-- the directives of the data area, and those of the code
abbrev pub is_area_word : List ℕ → Bool
is_area_word word =
    same word (codes ".byte") || same word (codes ".long") || same word (codes ".space") || same word (codes ".align")
    || same word (codes ".word") || same word (codes ".globl") || same word (codes ".text")

abbrev pub is_code_word : List ℕ → Bool
is_code_word word = same word (codes ".globl") || same word (codes ".word") || is_some (op_of word)

-- the words that may stand there
abbrev pub is_allowed : Stage → List ℕ → Bool
is_allowed stages.Start word = same word (codes ".data")
is_allowed stages.Area word = is_area_word word
is_allowed stages.Code word = is_code_word word

-- a TAB and such a word, which ends before a TAB or with the line
abbrev pub behind_first_tab : Stage → Option (List ℕ) → Bool
behind_first_tab stage None = false
behind_first_tab stage (Some rest) = is_allowed stage (word_at rest)

abbrev pub begins_allowed : Stage → List ℕ → Bool
begins_allowed stage bytes = behind_first_tab stage (strip (codes "\t") bytes)

abbrev pub is_label_line : List ℕ → Bool
is_label_line bytes = is_some (named_front (codes ":\n") bytes)

abbrev pub has_line_feed : List ℕ → Bool
has_line_feed bytes = list_any (λ (c : ℕ). c == 10) bytes

-- the kind of the line at the front, where it is none of the grammar
abbrev pub kind_of : Stage → List ℕ → AsmKind
kind_of stage bytes =
    if has_line_feed bytes then (if is_label_line bytes then kinds.Operands else if begins_allowed stage bytes
    then kinds.Operands else kinds.Word)
    else kinds.Cut
