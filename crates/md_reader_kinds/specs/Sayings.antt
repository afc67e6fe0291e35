-- What a line says by its form, if its form is allowed at the point where it stands.
use Rattle.std.specs.Prelude.{ℕ, ◌==◌, Bool, List, length, Option, Some, None, if◌then◌else◌}
use Rattle.std.specs.Option.{option_map}
use Rattle.md_reader_pieces.specs.Pieces.{text_of}
use Rattle.md_reader.specs.declared.types.Kind.{Kind}
use Rattle.md_reader.specs.declared.types.Restriction.{Restriction}
use Rattle.md_reader.specs.declared.forms.Saved.{Saved}
use Rattle.md_reader.specs.declared.reading.Stage.{Stage}
use Rattle.md_reader.specs.declared.reading.Stage.TheVariants as stage
use Rattle.md_reader.specs.Forms.{is_version, is_target, pool_form, class_form, spill_form, saved_number}
use Rattle.md_reader.specs.RuleForms.{rule_form, if_form, do_form, give_form}
use Rattle.md_reader.specs.State.{State}

-- what a line says by its form
pub data Saying : Type 0 where
  Head : Saying
  NewClass : (name : List ℕ) (kind : Kind) → Saying
  Spill : (text : Option (List ℕ)) → Saying
  NewRule : (class : List ℕ) (right : List (List ℕ)) → Saying
  If : (r : Restriction) → Saying
  Do : (text : List ℕ) → Saying
  Giving : (word : List ℕ) → Saying

abbrev pub head_if : Bool → Option Saying
head_if b = if b then Some Head else None

-- spill lines stand in the order of what they save
abbrev pub spill_said : State → Option (Saved × List (List ℕ)) → Option Saying
spill_said s None = None
spill_said s (Some x) = if saved_number x.0 == length s.spills then Some (Spill (text_of x.1)) else None

abbrev pub class_said : State → Option (List ℕ × Kind) → List (List ℕ) → Option Saying
class_said s (Some x) ws = Some (NewClass x.0 x.1)
class_said s None ws = spill_said s (spill_form ws)

-- `if` lines stand before the `do` lines
abbrev pub do_said : Option (List (List ℕ)) → List (List ℕ) → Option Saying
do_said (Some t) ws = option_map Do (text_of t)
do_said None ws = option_map Giving (give_form ws)

abbrev pub if_said : State → Option Restriction → List (List ℕ) → Option Saying
if_said s (Some r) ws = if length s.lines == 0 then Some (If r) else None
if_said s None ws = do_said (do_form ws) ws

-- the word of the machine is `target`
abbrev pub said_at : List ℕ → Stage → State → List (List ℕ) → Option Saying
said_at target stage.Version s ws = head_if (is_version ws)
said_at target stage.Target s ws = head_if (is_target target ws)
said_at target stage.Pool s ws = option_map (λ (m : ℕ). Head) (pool_form ws)
said_at target stage.Classes s ws = class_said s (class_form ws) ws
said_at target stage.Spills s ws = spill_said s (spill_form ws)
said_at target stage.Rules s ws = option_map (λ (x : List ℕ × List (List ℕ)). NewRule x.0 x.1) (rule_form ws)
said_at target stage.Template s ws = if_said s (if_form ws) ws

abbrev pub said : List ℕ → State → List (List ℕ) → Option Saying
said target s ws = said_at target s.stage s ws
