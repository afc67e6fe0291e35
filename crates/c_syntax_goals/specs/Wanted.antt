-- One token that must come next: a closing bracket, a colon, a semicolon, or the word while.
use Rattle.std.specs.Prelude.{ℕ}
use Rattle.c_phrases.specs.Classes.{Placed, Class}
use Rattle.c_phrases.specs.Classes as c
use Rattle.c_syntax_goals.specs.Goals.{Stack, Step, Takes, Refuses}

abbrev pub paren_step : Class → Stack → Step
paren_step c.CloseParen s = Takes s
paren_step k s = Refuses

abbrev pub bracket_step : Class → Stack → Step
bracket_step c.CloseBracket s = Takes s
bracket_step k s = Refuses

abbrev pub colon_step : Class → Stack → Step
colon_step c.Colon s = Takes s
colon_step k s = Refuses

abbrev pub semi_step : Class → Stack → Step
semi_step c.Semicolon s = Takes s
semi_step k s = Refuses

abbrev pub while_step : Class → Placed → (ℕ → Stack) → Step
while_step c.While t κ = Takes (κ t.at)
while_step k t κ = Refuses
