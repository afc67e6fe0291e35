-- What is wrong with a line, as the reader computes it; what the kinds mean is in WrongLine.
use Rattle.std.specs.Prelude.{ℕ, Bool, false, is_some, List, Option, Some, None, if◌then◌else◌, codes}
use Rattle.vax_reader.specs.declared.fault.AsmKind.{AsmKind}
use Rattle.vax_reader.specs.declared.fault.AsmKind.TheVariants as kinds
use Rattle.vax_reader.specs.declared.kind.Stage.{Stage}
use Rattle.vax_reader.specs.declared.kind.Stage.TheVariants as stages
use Rattle.vax_reader.specs.Fronts.{strip}
use Rattle.vax_reader.specs.Lines.{word_at}
use Rattle.vax_reader.specs.Kinds.{begins_allowed, is_label_line, has_line_feed}
use Rattle.l32_core.specs.Mnemonics.{op_of}

-- a TAB and a mnemonic, which ends before a TAB or with the line
abbrev pub mnemonic_behind_tab : Option (List ℕ) → Bool
mnemonic_behind_tab None = false
mnemonic_behind_tab (Some rest) = is_some (op_of (word_at rest))

abbrev pub begins_mnemonic : List ℕ → Bool
begins_mnemonic bytes = mnemonic_behind_tab (strip (codes "\t") bytes)

-- the kind of the line at the front, where it is none of the grammar, by whether it begins with a word that may stand there
abbrev pub kind_by : Bool → List ℕ → AsmKind
kind_by allowed bytes =
    if has_line_feed bytes then (if is_label_line bytes then kinds.Operands else if allowed then kinds.Operands else kinds.Word)
    else kinds.Cut

-- the stages are those of a VAX text: the first line, those behind `.data`, those behind `.text`
abbrev pub kind_of : Stage → List ℕ → AsmKind
kind_of stages.Start bytes = kind_by (begins_allowed stages.Start bytes) bytes
kind_of stages.Area bytes = kind_by (begins_allowed stages.Area bytes) bytes
kind_of stages.Code bytes = kind_by (begins_mnemonic bytes) bytes
