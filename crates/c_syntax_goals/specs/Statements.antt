-- What the next token makes of a statement, a local declaration and a block.
use Rattle.std.specs.Prelude.{ℕ, ◌+◌, ◌∷◌, Option, Some, None}
use Rattle.c_phrases.specs.declared.operator.Spec.{Spec}
use Rattle.c_phrases.specs.declared.operator.Storage.{Storage}
use Rattle.c_phrases.specs.declared.operator.Storage.TheVariants as storages
use Rattle.c_phrases.specs.Classes.{Placed, Class}
use Rattle.c_phrases.specs.Classes as c
use Rattle.c_phrases.specs.Phrases.{AnExp}
use Rattle.c_phrases.specs.Units.{ALocal, AStatement}
use Rattle.c_phrases.specs.Units.{block, empty, expression}
use Rattle.c_phrases.specs.Units.{break_off, continue_on, give_back, if_then, if_else, while_loop, do_loop, for_loop}
use Rattle.c_phrases.specs.Units.{SomeItems, no_items, local_item, statement_item}
use Rattle.c_syntax_goals.specs.Goals.{Expr, Back, WantParen, WantSemi, WantWhile, TypeWords, Condition, Statement}
use Rattle.c_syntax_goals.specs.Goals.{Items, PartSemi, PartParen, ForOpen, ElsePart, MoreDeclarators, Stack, Want}
use Rattle.c_syntax_goals.specs.Goals.{Step, Takes, Opens, Refuses, Turn, Steps, Passes}
use Rattle.c_syntax_goals.specs.Types.{words_step}
use Rattle.c_syntax_goals.specs.Expressions.{expr_step}
use Rattle.c_syntax_goals.specs.Declarators.{declarator_goals}

abbrev pub condition_step : Class → Placed → ℕ → (ℕ × AnExp → Stack) → Step
condition_step c.OpenParen t n κ = Opens 1 (Want Expr (λ e. Want WantParen (λ x. Want (Back n) (λ y. κ (t.at, e)))))
condition_step k t n κ = Refuses

abbrev pub part_semi_step : Class → Placed → ℕ → (Option AnExp → Stack) → Step
part_semi_step c.Semicolon t n κ = Takes (κ None)
part_semi_step k t n κ = expr_step k t n (λ e. Want (Back n) (λ x. Want WantSemi (λ y. κ (Some e))))

abbrev pub part_paren_step : Class → Placed → ℕ → (Option AnExp → Stack) → Step
part_paren_step c.CloseParen t n κ = Takes (κ None)
part_paren_step k t n κ = expr_step k t n (λ e. Want (Back n) (λ x. Want WantParen (λ y. κ (Some e))))

abbrev pub for_open_step : Class → Placed → (ℕ → Stack) → Step
for_open_step c.OpenParen t κ = Opens 1 (κ t.at)
for_open_step k t κ = Refuses

abbrev pub if_goals : ℕ → (AStatement → Stack) → Stack
if_goals at κ = Want Condition (λ h. Want Statement (λ s. Want (ElsePart at h.0 h.1 s) κ))

abbrev pub while_goals : ℕ → (AStatement → Stack) → Stack
while_goals at κ = Want Condition (λ h. Want Statement (λ s. κ (while_loop at h.0 h.1 s)))

abbrev pub do_goals : ℕ → (AStatement → Stack) → Stack
do_goals at κ = Want Statement (λ s. Want WantWhile (λ w. Want Condition (λ h. Want WantSemi (λ x. κ (do_loop at s w h.0 h.1)))))

-- m is the level that the word opened
abbrev pub for_goals : ℕ → ℕ → (AStatement → Stack) → Stack
for_goals at m κ = Want ForOpen (λ o. Want PartSemi (λ a. Want PartSemi
    (λ b. Want PartParen (λ d. Want (Back m) (λ x. Want Statement (λ s. κ (for_loop at o a b d s)))))))

abbrev pub simple_step : Class → Placed → ℕ → (AStatement → Stack) → Step
simple_step c.Semicolon t n κ = Takes (κ empty)
simple_step c.Break t n κ = Takes (Want WantSemi (λ x. κ (break_off t.at)))
simple_step c.Continue t n κ = Takes (Want WantSemi (λ x. κ (continue_on t.at)))
simple_step c.Return t n κ = Takes (Want PartSemi (λ e. κ (give_back t.at e)))
simple_step k t n κ = expr_step k t n (λ e. Want (Back n) (λ x. Want WantSemi (λ y. κ (expression e))))

abbrev pub statement_step : Class → Placed → ℕ → (AStatement → Stack) → Step
statement_step c.OpenBrace t n κ = Opens 1 (Want Items (λ is. Want (Back n) (λ x. κ (block is))))
statement_step c.If t n κ = Opens 1 (if_goals t.at (λ s. Want (Back n) (λ x. κ s)))
statement_step c.While t n κ = Opens 1 (while_goals t.at (λ s. Want (Back n) (λ x. κ s)))
statement_step c.Do t n κ = Opens 1 (do_goals t.at (λ s. Want (Back n) (λ x. κ s)))
statement_step c.For t n κ = Opens 1 (for_goals t.at (n + 1) (λ s. Want (Back n) (λ x. κ s)))
statement_step k t n κ = simple_step k t n κ

abbrev pub else_turn : Class → Placed → ℕ → ℕ → ℕ → AnExp → AStatement → (AStatement → Stack) → Turn AStatement
else_turn c.Else t n at o e s κ = Steps (Takes (Want Statement (λ r. κ (if_else at o e s t.at r))))
else_turn k t n at o e s κ = Passes n (if_then at o e s)

abbrev pub local_rest : Storage → (ALocal → Stack) → Spec → Stack
local_rest st κ s = declarator_goals (λ d. Want MoreDeclarators (λ ds. κ (record { storage = st; spec = s; declarators = d ∷ ds })))

abbrev pub local_step : Class → Placed → (ALocal → Stack) → Step
local_step c.Static t κ = Takes (Want TypeWords (local_rest (storages.Static t.at) κ))
local_step c.Register t κ = Takes (Want TypeWords (local_rest (storages.Register t.at) κ))
local_step k t κ = words_step k t (local_rest storages.Automatic κ)

abbrev pub item_local : (SomeItems → Stack) → ALocal → Stack
item_local κ l = Want Items (λ is. κ (local_item l is))

abbrev pub items_step : Class → Placed → ℕ → (SomeItems → Stack) → Step
items_step c.CloseBrace t n κ = Takes (κ no_items)
items_step c.Static t n κ = local_step c.Static t (item_local κ)
items_step c.Register t n κ = local_step c.Register t (item_local κ)
items_step c.Int t n κ = local_step c.Int t (item_local κ)
items_step c.Char t n κ = local_step c.Char t (item_local κ)
items_step c.Void t n κ = local_step c.Void t (item_local κ)
items_step c.Short t n κ = local_step c.Short t (item_local κ)
items_step c.Unsigned t n κ = local_step c.Unsigned t (item_local κ)
items_step k t n κ = statement_step k t n (λ s. Want Items (λ is. κ (statement_item s is)))
