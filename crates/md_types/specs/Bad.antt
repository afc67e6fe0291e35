-- Which `each` lines are bad.
use Rattle.std.specs.Prelude.{◌≡◌, ℕ, Bool, true, false, not, ◌&&◌, List, [], ◌∷◌, Option, Some, None, is_some, if◌then◌else◌}
use Rattle.std.specs.List.{list_any}
use Rattle.md_reader_text.specs.Lines.{lines}
use Rattle.md_reader_text.specs.Words.{words}
use Rattle.md_types.specs.declared.types.ExpandedLine.{ExpandedLine}
use Rattle.md_types.specs.declared.types.Expanded.{Expanded}
use Rattle.md_types.specs.Forms.{is_skipped, is_each, is_rule, each_sizes}
use Rattle.md_types.specs.Expand.{numbered, is_second}

-- the next line that isn't skipped begins with `rule`
abbrev pub rule_follows : List ExpandedLine → Bool
rule_follows [] = false
rule_follows (l ∷ ls) = if is_skipped (words l.bytes) then rule_follows ls else is_rule (words l.bytes)

-- an `each` line, with other words behind it than its letters, or without a rule
abbrev pub is_bad : ExpandedLine → List ExpandedLine → Bool
is_bad l behind = is_each (words l.bytes) && not (is_some (each_sizes (words l.bytes)) && rule_follows behind)

-- the number of the first bad one
abbrev pub first_bad : List ExpandedLine → Option ℕ
first_bad [] = None
first_bad (l ∷ ls) = if is_bad l ls then Some l.from else first_bad ls

abbrev pub starts_each : ExpandedLine → Bool
starts_each l = is_each (words l.bytes)

-- a text that isn't of version 2 is its own lines, and none of them is bad
abbrev pub IsPlain : List ℕ → Expanded → Type 0
IsPlain text e = is_second (numbered 1 (lines text)) ≡ false → e ≡ record { lines = numbered 1 (lines text); bad = None }

-- and so is one without `each` lines
abbrev pub StaysAlike : List ℕ → Expanded → Type 0
StaysAlike text e = list_any starts_each (numbered 1 (lines text)) ≡ false → e ≡ record { lines = numbered 1 (lines text); bad = None }

-- in version 2 the number that is told is that of the first bad `each` line, and none exactly where none is bad
abbrev pub TellsFirstBad : List ℕ → Expanded → Type 0
TellsFirstBad text e = is_second (numbered 1 (lines text)) ≡ true → e.bad ≡ first_bad (numbered 1 (lines text))
