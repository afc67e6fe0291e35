-- What the next token makes of what stands at file level.
use Rattle.std.specs.Prelude.{ℕ, List, [], ◌∷◌, Option, Some, None}
use Rattle.c_phrases.specs.declared.operator.Spec.{Spec}
use Rattle.c_phrases.specs.declared.operator.Spec.TheVariants as specs
use Rattle.c_phrases.specs.declared.tree.Named.{Named}
use Rattle.c_phrases.specs.Classes.{Placed, Class}
use Rattle.c_phrases.specs.Classes as c
use Rattle.c_phrases.specs.Units.{ALength, ADeclarator}
use Rattle.c_phrases.specs.Units.{SomeItems, AParam, SomeParams, no_params, void_word, params}
use Rattle.c_phrases.specs.Units.{ADeclared, function, globals, AnExternal, AUnit}
use Rattle.c_syntax_goals.specs.Goals.{Back, TypeWords, Stars, Items, ArrayPart, InitPart, Init, MoreDeclarators}
use Rattle.c_syntax_goals.specs.Goals.{DeclaredName, AfterName, Body, Params, OptName, MoreParams, Whole, Stack, Want}
use Rattle.c_syntax_goals.specs.Goals.{Step, Takes, Opens, Finishes, Refuses, Turn, Steps, Passes}
use Rattle.c_syntax_goals.specs.Contents.{name_in}
use Rattle.c_syntax_goals.specs.Types.{words_step}
use Rattle.c_syntax_goals.specs.Declarators.{array_step, more_declarators_step}

abbrev pub param_behind : Spec → (AParam → Stack) → Stack
param_behind s κ = Want Stars (λ ats. Want OptName (λ m. Want ArrayPart (λ l. κ (record { spec = s; stars = ats; name = m; length = l }))))

abbrev pub param_goals : (AParam → Stack) → Stack
param_goals κ = Want TypeWords (λ s. param_behind s κ)

-- the word void alone is no parameter
abbrev pub lone_param : Spec → List ℕ → Option Named → Option ALength → SomeParams
lone_param (specs.Void at) [] None None = void_word at
lone_param s ats m l = params (record { spec = s; stars = ats; name = m; length = l } ∷ [])

abbrev pub some_params : AParam → List AParam → SomeParams
some_params p [] = lone_param p.spec p.stars p.name p.length
some_params p (q ∷ ps) = params (p ∷ q ∷ ps)

abbrev pub list_goals : (SomeParams → Stack) → Stack
list_goals κ = param_goals (λ p. Want MoreParams (λ ps. κ (some_params p ps)))

abbrev pub params_step : Class → Placed → (SomeParams → Stack) → Step
params_step c.CloseParen t κ = Takes (κ no_params)
params_step k t κ = words_step k t (λ s. param_behind s (λ p. Want MoreParams (λ ps. κ (some_params p ps))))

abbrev pub opt_name_turn : Class → Placed → ℕ → (Option Named → Stack) → Turn (Option Named)
opt_name_turn c.Name t n κ = Steps (Takes (κ (Some (record { name = name_in t.kind; at = t.at }))))
opt_name_turn k t n κ = Passes n None

abbrev pub more_params_step : Class → (List AParam → Stack) → Step
more_params_step c.Comma κ = Takes (param_goals (λ p. Want MoreParams (λ ps. κ (p ∷ ps))))
more_params_step c.CloseParen κ = Takes (κ [])
more_params_step k κ = Refuses

abbrev pub body_step : Class → ℕ → (Option SomeItems → Stack) → Step
body_step c.Semicolon n κ = Takes (κ None)
body_step c.OpenBrace n κ = Opens 1 (Want Items (λ is. Want (Back n) (λ x. κ (Some is))))
body_step k n κ = Refuses

abbrev pub function_behind : List ℕ → List ℕ → ℕ → ℕ → ℕ → (ADeclared → Stack) → Stack
function_behind ats f at o n κ = Want Params (λ ps. Want (Back n) (λ x.
    Want Body (λ b. κ (function (record { stars = ats; name = f; at = at; opened = o; params = ps; body = b })))))

abbrev pub declared_name_step : Class → Placed → List ℕ → (ADeclared → Stack) → Step
declared_name_step c.Name t ats κ = Takes (Want (AfterName ats (name_in t.kind) t.at) κ)
declared_name_step k t ats κ = Refuses

abbrev pub globals_behind : (ADeclared → Stack) → ADeclarator → Stack
globals_behind κ d = Want MoreDeclarators (λ ds. κ (globals (d ∷ ds)))

abbrev pub after_name_step : Class → Placed → ℕ → List ℕ → List ℕ → ℕ → (ADeclared → Stack) → Step
after_name_step c.OpenParen t n ats f at κ = Opens 1 (function_behind ats f at t.at n κ)
after_name_step c.OpenBracket t n ats f at κ = array_step t n (λ l. Want InitPart
    (λ i. globals_behind κ (record { stars = ats; name = f; at = at; length = l; init = i })))
after_name_step c.Equals t n ats f at κ = Takes (Want Init (λ i. globals_behind κ
    (record { stars = ats; name = f; at = at; length = None; init = Some (record { at = t.at; with_init = i }) })))
after_name_step k t n ats f at κ = more_declarators_step k (λ ds. κ (globals
    (record { stars = ats; name = f; at = at; length = None; init = None } ∷ ds)))

abbrev pub declared_goals : (ADeclared → Stack) → Stack
declared_goals κ = Want Stars (λ ats. Want (DeclaredName ats) κ)

abbrev pub external_rest : Option ℕ → (AnExternal → Stack) → Spec → Stack
external_rest st κ s = declared_goals (λ d. κ (record { static_at = st; spec = s; declared = d }))

abbrev pub external_step : Class → Placed → (AnExternal → Stack) → Step
external_step c.Static t κ = Takes (Want TypeWords (external_rest (Some t.at) κ))
external_step k t κ = words_step k t (external_rest None κ)

abbrev pub before : AnExternal → AUnit → AUnit
before x u = record { externals = x ∷ u.externals; end = u.end }

abbrev pub whole_step : Class → Placed → (AUnit → Stack) → Step
whole_step c.End t κ = Finishes (κ (record { externals = []; end = t.at }))
whole_step k t κ = external_step k t (λ x. Want Whole (λ u. κ (before x u)))
