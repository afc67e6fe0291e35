-- What the next token makes of the words and stars of a type.
use Rattle.std.specs.Prelude.{ℕ, List, [], ◌∷◌, Option, Some, None}
use Rattle.c_phrases.specs.declared.operator.Spec.{Spec}
use Rattle.c_phrases.specs.declared.operator.Spec.TheVariants as specs
use Rattle.c_phrases.specs.declared.tree.TypeName.{TypeName}
use Rattle.c_phrases.specs.Classes.{Placed, Class}
use Rattle.c_phrases.specs.Classes as c
use Rattle.c_syntax_goals.specs.Goals.{TypeWords, AfterShort, AfterUnsigned, Stars, Stack, Want, Step, Takes, Refuses}
use Rattle.c_syntax_goals.specs.Goals.{Turn, Steps, Passes}

abbrev pub words_step : Class → Placed → (Spec → Stack) → Step
words_step c.Int t κ = Takes (κ (specs.Int t.at))
words_step c.Char t κ = Takes (κ (specs.Char t.at))
words_step c.Void t κ = Takes (κ (specs.Void t.at))
words_step c.Short t κ = Takes (Want AfterShort (λ i. κ (specs.Short t.at i)))
words_step c.Unsigned t κ = Takes (Want (AfterUnsigned t.at) κ)
words_step k t κ = Refuses

abbrev pub short_turn : Class → Placed → ℕ → (Option ℕ → Stack) → Turn (Option ℕ)
short_turn c.Int t n κ = Steps (Takes (κ (Some t.at)))
short_turn k t n κ = Passes n None

abbrev pub unsigned_step : Class → Placed → ℕ → (Spec → Stack) → Step
unsigned_step c.Char t at κ = Takes (κ (specs.UnsignedChar at t.at))
unsigned_step c.Short t at κ = Takes (Want AfterShort (λ i. κ (specs.UnsignedShort at t.at i)))
unsigned_step k t at κ = Refuses

abbrev pub stars_turn : Class → Placed → ℕ → (List ℕ → Stack) → Turn (List ℕ)
stars_turn c.Star t n κ = Steps (Takes (Want Stars (λ ats. κ (t.at ∷ ats))))
stars_turn k t n κ = Passes n []

-- the words and stars of a type, and what closes the brackets round it
abbrev pub stars_then : (TypeName → Stack) → Spec → Stack
stars_then κ s = Want Stars (λ ats. κ (record { spec = s; stars = ats }))

abbrev pub type_goals : (TypeName → Stack) → Stack
type_goals κ = Want TypeWords (stars_then κ)

abbrev pub type_step : Class → Placed → (TypeName → Stack) → Step
type_step k t κ = words_step k t (stars_then κ)
