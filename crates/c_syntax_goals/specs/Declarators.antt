-- What the next token makes of a declarator and its initialiser.
use Rattle.std.specs.Prelude.{ℕ, List, [], ◌∷◌, Option, Some, None, Bool, true, false}
use Rattle.c_phrases.specs.Classes.{Placed, Class}
use Rattle.c_phrases.specs.Classes as c
use Rattle.c_phrases.specs.Phrases.{AnExp}
use Rattle.c_phrases.specs.Phrases.{SomeExps, no_exps, exps}
use Rattle.c_phrases.specs.Units.{ALength, AnInit, value, elements, AnInitialised, ADeclarator}
use Rattle.c_syntax_goals.specs.Goals.{Back, WantBracket, Stars, DeclaratorName, ArrayPart, Length, InitPart, Init}
use Rattle.c_syntax_goals.specs.Goals.{Elements, InitMore, InitNext, MoreDeclarators, Stack, Want, Step, Takes, Opens}
use Rattle.c_syntax_goals.specs.Goals.{Refuses, Turn, Steps, Passes}
use Rattle.c_syntax_goals.specs.Contents.{name_in}
use Rattle.c_syntax_goals.specs.Expressions.{assign_step, cond_step}

abbrev pub declarator_behind : List ℕ → List ℕ → ℕ → (ADeclarator → Stack) → Stack
declarator_behind ats f at κ = Want ArrayPart (λ l. Want InitPart (λ i.
    κ (record { stars = ats; name = f; at = at; length = l; init = i })))

abbrev pub declarator_name_step : Class → Placed → List ℕ → (ADeclarator → Stack) → Step
declarator_name_step c.Name t ats κ = Takes (declarator_behind ats (name_in t.kind) t.at κ)
declarator_name_step k t ats κ = Refuses

abbrev pub declarator_goals : (ADeclarator → Stack) → Stack
declarator_goals κ = Want Stars (λ ats. Want (DeclaratorName ats) κ)

abbrev pub array_step : Placed → ℕ → (Option ALength → Stack) → Step
array_step t n κ = Opens 1 (Want Length (λ e. Want (Back n) (λ x. κ (Some (record { opened = t.at; value = e })))))

abbrev pub array_turn : Class → Placed → ℕ → (Option ALength → Stack) → Turn (Option ALength)
array_turn c.OpenBracket t n κ = Steps (array_step t n κ)
array_turn k t n κ = Passes n None

abbrev pub length_step : Class → Placed → ℕ → (Option AnExp → Stack) → Step
length_step c.CloseBracket t n κ = Takes (κ None)
length_step k t n κ = cond_step k t n (λ e. Want WantBracket (λ x. κ (Some e)))

abbrev pub init_part_turn : Class → Placed → ℕ → (Option AnInitialised → Stack) → Turn (Option AnInitialised)
init_part_turn c.Equals t n κ = Steps (Takes (Want Init (λ i. κ (Some (record { at = t.at; with_init = i })))))
init_part_turn k t n κ = Passes n None

abbrev pub init_step : Class → Placed → ℕ → (AnInit → Stack) → Step
init_step c.OpenBrace t n κ = Opens 1 (Want Elements (λ i. Want (Back n) (λ x. κ i)))
init_step k t n κ = assign_step k t n (λ a. Want (Back n) (λ x. κ (value a)))

abbrev pub elements_step : Class → Placed → ℕ → (AnInit → Stack) → Step
elements_step k t n κ = assign_step k t n (λ a. Want (Back n) (λ x. Want InitMore (λ r. κ (elements (exps a r.0) r.1))))

abbrev pub init_more_step : Class → (SomeExps × Bool → Stack) → Step
init_more_step c.Comma κ = Takes (Want InitNext κ)
init_more_step c.CloseBrace κ = Takes (κ (no_exps, false))
init_more_step k κ = Refuses

abbrev pub init_next_step : Class → Placed → ℕ → (SomeExps × Bool → Stack) → Step
init_next_step c.CloseBrace t n κ = Takes (κ (no_exps, true))
init_next_step k t n κ = assign_step k t n (λ a. Want (Back n) (λ x. Want InitMore (λ r. κ (exps a r.0, r.1))))

abbrev pub more_declarators_step : Class → (List ADeclarator → Stack) → Step
more_declarators_step c.Comma κ = Takes (declarator_goals (λ d. Want MoreDeclarators (λ ds. κ (d ∷ ds))))
more_declarators_step c.Semicolon κ = Takes (κ [])
more_declarators_step k κ = Refuses
