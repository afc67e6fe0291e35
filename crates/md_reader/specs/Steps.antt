-- What each line does to what was read so far, or what is wrong with it: the reader, step by step.
use Rattle.std.specs.Prelude.{ℕ, Bool, List, Result, Ok, Err, if◌then◌else◌}
use Rattle.md_reader.specs.declared.faults.DescKind.{DescKind}
use Rattle.md_reader.specs.declared.faults.DescKind.TheVariants as kinds
use Rattle.md_reader.specs.declared.reading.Stage.{Stage}
use Rattle.md_reader.specs.declared.reading.Stage.TheVariants as stage
use Rattle.md_types.specs.Forms.{is_skipped}
use Rattle.md_reader.specs.Forms.{is_version, is_target, pool_form, class_form, spill_form}
use Rattle.md_reader.specs.RuleForms.{rule_form, if_form}
use Rattle.md_reader.specs.State.{State}
use Rattle.md_reader.specs.HeadSteps.{pool_step, spill_line, class_line}
use Rattle.md_reader.specs.RuleSteps.{rule_line, if_line}

-- a line that says something: its number, its words, and whether `%0` may stand in a template that
-- it begins; `target` is the word of the machine
abbrev pub step_at : List ℕ → Stage → State → ℕ → List (List ℕ) → Bool → Result State DescKind
step_at target stage.Version s n ws z = if is_version ws then Ok (record s { stage = stage.Target }) else Err kinds.BadWord
step_at target stage.Target s n ws z = if is_target target ws then Ok (record s { stage = stage.Pool }) else Err
    kinds.BadWord
step_at target stage.Pool s n ws z = pool_step s (pool_form ws)
step_at target stage.Classes s n ws z = class_line s n (class_form ws) ws
step_at target stage.Spills s n ws z = spill_line s n (spill_form ws)
step_at target stage.Rules s n ws z = rule_line s z (rule_form ws)
step_at target stage.Template s n ws z = if_line s n (if_form ws) ws

abbrev pub step : List ℕ → State → ℕ → List (List ℕ) → Bool → Result State DescKind
step target s n ws z = step_at target s.stage s n ws z

abbrev pub line_step : List ℕ → State → ℕ → List (List ℕ) → Bool → Result State DescKind
line_step target s n ws z = if is_skipped ws then Ok s else step target s n ws z
