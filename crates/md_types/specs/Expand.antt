-- The lines of a description, in which each rule that is written once for several sizes stands once for each.
use Rattle.std.specs.Prelude.{ℕ, zero, suc, ◌+◌, Bool, false, ◌||◌, List, [], ◌∷◌, ◌++◌, take, drop, Option, Some, None, codes}
use Rattle.std.specs.Prelude.{if◌then◌else◌}
use Rattle.std.specs.Option.{option_map}
use Rattle.gg_base.specs.declared.size.Size.{Size}
use Rattle.md_reader_text.specs.Lines.{lines}
use Rattle.md_reader_text.specs.Words.{words}
use Rattle.md_types.specs.declared.types.ExpandedLine.{ExpandedLine}
use Rattle.md_types.specs.declared.types.Expanded.{Expanded}
use Rattle.md_types.specs.Forms.{is_skipped, are_both, is_each, is_rule, each_sizes}
use Rattle.md_types.specs.Copies.{copies}

-- lines with their numbers, of which the first is this one
abbrev pub numbered : ℕ → List (List ℕ) → List ExpandedLine
numbered n [] = []
numbered n (l ∷ ls) = record { bytes = l; from = n } ∷ numbered (n + 1) ls

-- how many lines stand before the next that begins with `rule` or `each`
abbrev pub ends_rule : ExpandedLine → Bool
ends_rule l = is_rule (words l.bytes) || is_each (words l.bytes)

abbrev pub template_len : List ExpandedLine → ℕ
template_len [] = 0
template_len (l ∷ ls) = if ends_rule l then 0 else suc (template_len ls)

-- The rule behind an `each` line: its lines, and how many lines it ends behind. The next line that isn't skipped begins with `rule`.
abbrev pub rule_behind : List ExpandedLine → Option (List ExpandedLine × ℕ)
rule_behind [] = None
rule_behind (l ∷ ls) =
    if is_skipped (words l.bytes) then option_map (λ (x : List ExpandedLine × ℕ). (x.0, suc x.1)) (rule_behind ls)
    else if is_rule (words l.bytes) then Some (l ∷ take (template_len ls) ls, suc (template_len ls)) else None

-- the rule, and the lines behind it
abbrev pub cut_behind : List ExpandedLine → List ExpandedLine × ℕ → List ExpandedLine × List ExpandedLine
cut_behind ls x = (x.0, drop x.1 ls)

-- what an `each` line and the rule behind it give, and how many lines that rule ends behind; a bad `each` line gives nothing
abbrev pub replicated : Option (List Size) → Option (List ExpandedLine × ℕ) → Option (List ExpandedLine × ℕ)
replicated (Some zs) (Some x) = Some (copies zs x.0, x.1)
replicated zs x = None

abbrev pub under_each : ExpandedLine → List ExpandedLine → Option (List ExpandedLine × ℕ)
under_each l ls = replicated (each_sizes (words l.bytes)) (rule_behind ls)

-- these lines in front, and the others behind them; or the end, at a bad `each` line with this number
abbrev pub in_front : List ExpandedLine → Expanded → Expanded
in_front ls e = record { lines = ls ++ e.lines; bad = e.bad }

abbrev pub going_on : ℕ → Option (List ExpandedLine × ℕ) → (ℕ → Expanded) → Expanded
going_on n None others = record { lines = []; bad = Some n }
going_on n (Some x) others = in_front x.0 (others x.1)

-- The lines from here on. The first of them, so many, are left out: they stand in the copies before.
abbrev pub expand_from : ℕ → List ExpandedLine → Expanded
expand_from k [] = record { lines = []; bad = None }
expand_from (suc k) (l ∷ ls) = expand_from k ls
expand_from zero (l ∷ ls) =
    if is_each (words l.bytes) then going_on l.from (under_each l ls) (λ (k : ℕ). expand_from k ls)
    else in_front (l ∷ []) (expand_from 0 ls)

-- what was written, with what comes of the lines that are left; or with the end, at the bad `each` line with this number
abbrev pub left_over : List ExpandedLine → ℕ → Option (List ExpandedLine) → Expanded
left_over out n None = record { lines = out; bad = Some n }
left_over out n (Some ls) = in_front out (expand_from 0 ls)

-- the first line that isn't skipped is `version 2`
abbrev pub is_second : List ExpandedLine → Bool
is_second [] = false
is_second (l ∷ ls) = if is_skipped (words l.bytes) then is_second ls else are_both (words l.bytes) (codes "version") (codes "2")

abbrev pub expand_lines : List ExpandedLine → Expanded
expand_lines ls = if is_second ls then expand_from 0 ls else record { lines = ls; bad = None }

abbrev pub expand : List ℕ → Expanded
expand text = expand_lines (numbered 1 (lines text))
