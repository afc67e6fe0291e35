-- What the next token makes of a bracket in which a type or an expression may stand.
use Rattle.std.specs.Prelude.{ℕ, true, false}
use Rattle.c_phrases.specs.declared.tree.TypeName.{TypeName}
use Rattle.c_phrases.specs.Classes.{Placed, Class}
use Rattle.c_phrases.specs.Classes as c
use Rattle.c_phrases.specs.Phrases.{AnExp, paren, sizeof_exp, sizeof_type}
use Rattle.c_phrases.specs.Phrases.{cast}
use Rattle.c_syntax_goals.specs.Goals.{Cast, PostTail, Ended, Tail, SizeofGroup, Back, WantParen, Stack, Want, Step}
use Rattle.c_syntax_goals.specs.Goals.{Opens}
use Rattle.c_syntax_goals.specs.Types.{type_step}
use Rattle.c_syntax_goals.specs.Expressions.{unary_step, expr_step}

-- behind a ( at which a type or an expression may stand; o is its offset and m the level in front of it
abbrev pub cast_behind : ℕ → (AnExp → Stack) → TypeName → Stack
cast_behind o κ w = Want WantParen (λ x. Want Cast (λ e. κ (cast o w e)))

abbrev pub paren_behind : ℕ → ℕ → (AnExp → Stack) → AnExp → Stack
paren_behind o m κ e = Want WantParen (λ x. Want (Back m) (λ y. Want (PostTail (paren o e)) κ))

abbrev pub first_step : Class → Placed → ℕ → ℕ → ℕ → (AnExp → Stack) → Step
first_step c.Int t o m n κ = type_step c.Int t (cast_behind o (λ e. Want (Tail false e) κ))
first_step c.Char t o m n κ = type_step c.Char t (cast_behind o (λ e. Want (Tail false e) κ))
first_step c.Void t o m n κ = type_step c.Void t (cast_behind o (λ e. Want (Tail false e) κ))
first_step c.Short t o m n κ = type_step c.Short t (cast_behind o (λ e. Want (Tail false e) κ))
first_step c.Unsigned t o m n κ = type_step c.Unsigned t (cast_behind o (λ e. Want (Tail false e) κ))
first_step k t o m n κ = expr_step k t n (paren_behind o m (λ u. Want (Tail true u) κ))

abbrev pub group_step : Class → Placed → ℕ → ℕ → ℕ → (AnExp → Stack) → Step
group_step c.Int t o m n κ = type_step c.Int t (cast_behind o κ)
group_step c.Char t o m n κ = type_step c.Char t (cast_behind o κ)
group_step c.Void t o m n κ = type_step c.Void t (cast_behind o κ)
group_step c.Short t o m n κ = type_step c.Short t (cast_behind o κ)
group_step c.Unsigned t o m n κ = type_step c.Unsigned t (cast_behind o κ)
group_step k t o m n κ = expr_step k t n (paren_behind o m κ)

abbrev pub sizeof_step : Class → Placed → ℕ → ℕ → (AnExp → Stack) → Step
sizeof_step c.OpenParen t at n κ = Opens 1 (Want (SizeofGroup at t.at n) κ)
sizeof_step k t at n κ = unary_step k t n (λ u. κ (sizeof_exp at u))

abbrev pub sizeof_behind : ℕ → ℕ → ℕ → (AnExp → Stack) → TypeName → Stack
sizeof_behind at o m κ w = Want WantParen (λ x. Want (Back m) (λ y. Want Ended (λ z. κ (sizeof_type at o w))))

abbrev pub sizeof_group_step : Class → Placed → ℕ → ℕ → ℕ → ℕ → (AnExp → Stack) → Step
sizeof_group_step c.Int t at o m n κ = type_step c.Int t (sizeof_behind at o m κ)
sizeof_group_step c.Char t at o m n κ = type_step c.Char t (sizeof_behind at o m κ)
sizeof_group_step c.Void t at o m n κ = type_step c.Void t (sizeof_behind at o m κ)
sizeof_group_step c.Short t at o m n κ = type_step c.Short t (sizeof_behind at o m κ)
sizeof_group_step c.Unsigned t at o m n κ = type_step c.Unsigned t (sizeof_behind at o m κ)
sizeof_group_step k t at o m n κ = expr_step k t n (paren_behind o m (λ u. κ (sizeof_exp at u)))
