-- The crate's phrases lowered in a frame, as the definition of lowering has it.
use Rattle.std.specs.Prelude.{ℕ}
use Rattle.c_types.specs.declared.typed.Expression.{Expression}
use Rattle.c_types.specs.declared.typed.Place.{Place}
use Rattle.c_types.specs.Typed.{expression_of, place_of}
use Rattle.c_lower_parts.specs.declared.part.Frame.{Frame}
use Rattle.c_lower_scheme.specs.Parts.{Located, Lowering}
use Rattle.c_lower_scheme.specs.Expressions.{seek, way}

-- an expression in its four ways: for its value, as a condition, for its effect alone, and at a destination
abbrev pub way_of : Frame → Expression → Lowering
way_of frame e = way frame.locals frame.functions (expression_of e)

-- a place, from the first free temporary and label on
abbrev pub seek_of : Frame → Place → ℕ → ℕ → Located
seek_of frame place = seek frame.locals frame.functions (place_of place)
