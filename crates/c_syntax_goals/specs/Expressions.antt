-- What the next token makes of an expression.
use Rattle.std.specs.Prelude.{ℕ, ◌+◌, List, Bool, true, false, nat_lt, if◌then◌else◌}
use Rattle.c_phrases.specs.declared.operator.BinaryOperator.{BinaryOperator}
use Rattle.c_phrases.specs.Classes.{Placed, Class}
use Rattle.c_phrases.specs.Classes as c
use Rattle.c_phrases.specs.Phrases.{AnExp, name, number, str, paren, call, index, step_after, step_before, prefix}
use Rattle.c_phrases.specs.Phrases.{binary, choice, assign, comma, SomeExps, no_exps, exps}
use Rattle.c_phrases.specs.Operators.{level_of}
use Rattle.c_syntax_goals.specs.Goals.{Expr, Commas, Assign, Cond, Cast, Unary, CallTail, PostTail, Tail, First}
use Rattle.c_syntax_goals.specs.Goals.{Group, SizeofTail, Arguments, MoreArguments, Back, WantParen, WantBracket}
use Rattle.c_syntax_goals.specs.Goals.{WantColon, Stack, Want, Step, Takes, Opens, Refuses, Turn, Steps, Passes}
use Rattle.c_syntax_goals.specs.Contents.{name_in, number_in, str_in, binary_in, prefix_in, step_in, assign_in}

-- One operand more at the end of a row of binary operators: those that bind less than its operator stay outside.
abbrev pub insert : AnExp → BinaryOperator → ℕ → AnExp → AnExp
insert (binary l q p r) op at e = if nat_lt (level_of q) (level_of op) then binary l q p (insert r op at e) else binary
    (binary l q p r) op at e
insert l op at e = binary l op at e

abbrev pub parens_step : Class → Placed → ℕ → (AnExp → Stack) → Step
parens_step c.OpenParen t n κ = Opens 1 (Want Expr (λ e. Want WantParen (λ x. Want (Back n) (λ y. κ (paren t.at e)))))
parens_step k t n κ = Refuses

abbrev pub primary_step : Class → Placed → ℕ → (AnExp → Stack) → Step
primary_step c.Name t n κ = Takes (Want (CallTail (name_in t.kind) t.at) κ)
primary_step c.Number t n κ = Takes (κ (number (number_in t.kind) t.at))
primary_step c.Str t n κ = Takes (κ (str (str_in t.kind) t.at))
primary_step k t n κ = parens_step k t n κ

abbrev pub unary_step : Class → Placed → ℕ → (AnExp → Stack) → Step
unary_step c.Sign t n κ = Opens 1 (Want Cast (λ e. κ (prefix (prefix_in t.kind) t.at e)))
unary_step c.Star t n κ = Opens 1 (Want Cast (λ e. κ (prefix (prefix_in t.kind) t.at e)))
unary_step c.Lone t n κ = Opens 1 (Want Cast (λ e. κ (prefix (prefix_in t.kind) t.at e)))
unary_step c.Step t n κ = Opens 1 (Want Unary (λ e. κ (step_before (step_in t.kind) t.at e)))
unary_step c.Sizeof t n κ = Opens 1 (Want (SizeofTail t.at) κ)
unary_step k t n κ = primary_step k t n (λ p. Want (PostTail p) κ)

abbrev pub cast_step : Class → Placed → ℕ → (AnExp → Stack) → Step
cast_step c.OpenParen t n κ = Opens 1 (Want (Group t.at n) κ)
cast_step k t n κ = unary_step k t n κ

-- an operand at whose end it is seen whether it may be assigned to
abbrev pub assign_step : Class → Placed → ℕ → (AnExp → Stack) → Step
assign_step c.OpenParen t n κ = Opens 1 (Want (First t.at n) κ)
assign_step k t n κ = unary_step k t n (λ u. Want (Tail true u) κ)

abbrev pub expr_step : Class → Placed → ℕ → (AnExp → Stack) → Step
expr_step k t n κ = assign_step k t n (λ a. Want (Commas a) κ)

abbrev pub cond_goals : (AnExp → Stack) → Stack
cond_goals κ = Want Cast (λ e. Want (Tail false e) κ)

abbrev pub cond_step : Class → Placed → ℕ → (AnExp → Stack) → Step
cond_step k t n κ = cast_step k t n (λ e. Want (Tail false e) κ)

abbrev pub commas_turn : Class → ℕ → AnExp → (AnExp → Stack) → Turn AnExp
commas_turn c.Comma n l κ = Steps (Opens 1 (Want Assign (λ r. Want (Commas (comma l r)) κ)))
commas_turn k n l κ = Passes n l

abbrev pub call_turn : Class → Placed → ℕ → List ℕ → ℕ → (AnExp → Stack) → Turn AnExp
call_turn c.OpenParen t n f at κ = Steps (Opens 2 (Want Arguments (λ es. Want (Back (n + 1)) (λ x. κ (call f at t.at es)))))
call_turn k t n f at κ = Passes n (name f at)

abbrev pub post_turn : Class → Placed → ℕ → AnExp → (AnExp → Stack) → Turn AnExp
post_turn c.OpenBracket t n l κ = Steps (Opens 2 (Want Expr (λ i. Want WantBracket
    (λ x. Want (Back (n + 1)) (λ y. Want (PostTail (index l t.at i)) κ)))))
post_turn c.Step t n l κ = Steps (Opens 1 (Want (PostTail (step_after l (step_in t.kind) t.at)) κ))
post_turn c.OpenParen t n l κ = Steps Refuses
post_turn k t n l κ = Passes n l

abbrev pub ended_turn : Class → ℕ → Turn (Unit {0})
ended_turn c.OpenBracket n = Steps Refuses
ended_turn c.Step n = Steps Refuses
ended_turn c.OpenParen n = Steps Refuses
ended_turn k n = Passes n tt

abbrev pub operator_step : Placed → AnExp → (AnExp → Stack) → Step
operator_step t l κ = Opens 1 (Want Cast (λ r. Want (Tail false (insert l (binary_in t.kind) t.at r)) κ))

abbrev pub assigned_step : Placed → AnExp → (AnExp → Stack) → Step
assigned_step t l κ = Opens 1 (Want Assign (λ v. κ (assign l (assign_in t.kind) t.at v)))

abbrev pub tail_turn : Class → Placed → ℕ → Bool → AnExp → (AnExp → Stack) → Turn AnExp
tail_turn c.Equals t n true l κ = Steps (assigned_step t l κ)
tail_turn c.Compound t n true l κ = Steps (assigned_step t l κ)
tail_turn c.Equals t n false l κ = Steps Refuses
tail_turn c.Compound t n false l κ = Steps Refuses
tail_turn c.Infix t n b l κ = Steps (operator_step t l κ)
tail_turn c.Sign t n b l κ = Steps (operator_step t l κ)
tail_turn c.Star t n b l κ = Steps (operator_step t l κ)
tail_turn c.Question t n b l κ = Steps (Opens 1 (Want Expr (λ e. Want WantColon (λ x. Want Cond (λ d. κ (choice l t.at e d))))))
tail_turn k t n b l κ = Passes n l

abbrev pub arguments_step : Class → Placed → ℕ → (SomeExps → Stack) → Step
arguments_step c.CloseParen t n κ = Takes (κ no_exps)
arguments_step k t n κ = assign_step k t n (λ a. Want (Back n) (λ x. Want MoreArguments (λ es. κ (exps a es))))

abbrev pub more_arguments_step : Class → ℕ → (SomeExps → Stack) → Step
more_arguments_step c.CloseParen n κ = Takes (κ no_exps)
more_arguments_step c.Comma n κ = Takes (Want Assign (λ a. Want (Back n) (λ x. Want MoreArguments (λ es. κ (exps a es)))))
more_arguments_step k n κ = Refuses
