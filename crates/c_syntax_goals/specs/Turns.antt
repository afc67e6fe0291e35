-- What the next token makes of each part that is still to be read.
use Rattle.std.specs.Prelude.{ℕ}
use Rattle.c_phrases.specs.Classes.{Placed, Class}
use Rattle.c_syntax_goals.specs.Goals.{Goal, Expr, Commas, Assign, Cond, Cast, Unary, Primary, Parens, CallTail}
use Rattle.c_syntax_goals.specs.Goals.{PostTail, Ended, Tail, First, Group, SizeofTail, SizeofGroup, Arguments}
use Rattle.c_syntax_goals.specs.Goals.{MoreArguments, Back, WantParen, WantBracket, WantColon, WantSemi, WantWhile}
use Rattle.c_syntax_goals.specs.Goals.{TypeWords, AfterShort, AfterUnsigned, Stars, Condition, Simple, Statement}
use Rattle.c_syntax_goals.specs.Goals.{Items, PartSemi, PartParen, ForOpen, ElsePart, Local, DeclaratorName}
use Rattle.c_syntax_goals.specs.Goals.{ArrayPart, Length, InitPart, Init, Elements, InitMore, InitNext}
use Rattle.c_syntax_goals.specs.Goals.{MoreDeclarators, DeclaredName, AfterName, Body, Params, OptName, MoreParams}
use Rattle.c_syntax_goals.specs.Goals.{External, Whole, Val, Stack, Turn, Steps, Passes}
use Rattle.c_syntax_goals.specs.Types.{words_step, short_turn, unsigned_step, stars_turn}
use Rattle.c_syntax_goals.specs.Expressions.{parens_step, primary_step, unary_step, cast_step, assign_step, expr_step}
use Rattle.c_syntax_goals.specs.Expressions.{cond_step, commas_turn, call_turn, post_turn, ended_turn, tail_turn}
use Rattle.c_syntax_goals.specs.Expressions.{arguments_step, more_arguments_step}
use Rattle.c_syntax_goals.specs.Groups.{first_step, group_step, sizeof_step, sizeof_group_step}
use Rattle.c_syntax_goals.specs.Wanted.{paren_step, bracket_step, colon_step, semi_step, while_step}
use Rattle.c_syntax_goals.specs.Declarators.{declarator_name_step, array_turn, length_step, init_part_turn, init_step}
use Rattle.c_syntax_goals.specs.Declarators.{elements_step, init_more_step, init_next_step, more_declarators_step}
use Rattle.c_syntax_goals.specs.Statements.{condition_step, part_semi_step, part_paren_step, for_open_step}
use Rattle.c_syntax_goals.specs.Statements.{simple_step, statement_step, else_turn, local_step, items_step}
use Rattle.c_syntax_goals.specs.Externals.{params_step, opt_name_turn, more_params_step, body_step}
use Rattle.c_syntax_goals.specs.Externals.{declared_name_step, after_name_step, external_step, whole_step}

abbrev pub turn : (g : Goal) → Class → Placed → ℕ → (Val g → Stack) → Turn (Val g)
turn Expr k t n κ = Steps (expr_step k t n κ)
turn (Commas l) k t n κ = commas_turn k n l κ
turn Assign k t n κ = Steps (assign_step k t n κ)
turn Cond k t n κ = Steps (cond_step k t n κ)
turn Cast k t n κ = Steps (cast_step k t n κ)
turn Unary k t n κ = Steps (unary_step k t n κ)
turn Primary k t n κ = Steps (primary_step k t n κ)
turn Parens k t n κ = Steps (parens_step k t n κ)
turn (CallTail f at) k t n κ = call_turn k t n f at κ
turn (PostTail l) k t n κ = post_turn k t n l κ
turn Ended k t n κ = ended_turn k n
turn (Tail b l) k t n κ = tail_turn k t n b l κ
turn (First o m) k t n κ = Steps (first_step k t o m n κ)
turn (Group o m) k t n κ = Steps (group_step k t o m n κ)
turn (SizeofTail at) k t n κ = Steps (sizeof_step k t at n κ)
turn (SizeofGroup at o m) k t n κ = Steps (sizeof_group_step k t at o m n κ)
turn Arguments k t n κ = Steps (arguments_step k t n κ)
turn MoreArguments k t n κ = Steps (more_arguments_step k n κ)
turn (Back m) k t n κ = Passes m tt
turn WantParen k t n κ = Steps (paren_step k (κ tt))
turn WantBracket k t n κ = Steps (bracket_step k (κ tt))
turn WantColon k t n κ = Steps (colon_step k (κ tt))
turn WantSemi k t n κ = Steps (semi_step k (κ tt))
turn WantWhile k t n κ = Steps (while_step k t κ)
turn TypeWords k t n κ = Steps (words_step k t κ)
turn AfterShort k t n κ = short_turn k t n κ
turn (AfterUnsigned at) k t n κ = Steps (unsigned_step k t at κ)
turn Stars k t n κ = stars_turn k t n κ
turn Condition k t n κ = Steps (condition_step k t n κ)
turn Simple k t n κ = Steps (simple_step k t n κ)
turn Statement k t n κ = Steps (statement_step k t n κ)
turn Items k t n κ = Steps (items_step k t n κ)
turn PartSemi k t n κ = Steps (part_semi_step k t n κ)
turn PartParen k t n κ = Steps (part_paren_step k t n κ)
turn ForOpen k t n κ = Steps (for_open_step k t κ)
turn (ElsePart at o e s) k t n κ = else_turn k t n at o e s κ
turn Local k t n κ = Steps (local_step k t κ)
turn (DeclaratorName ats) k t n κ = Steps (declarator_name_step k t ats κ)
turn ArrayPart k t n κ = array_turn k t n κ
turn Length k t n κ = Steps (length_step k t n κ)
turn InitPart k t n κ = init_part_turn k t n κ
turn Init k t n κ = Steps (init_step k t n κ)
turn Elements k t n κ = Steps (elements_step k t n κ)
turn InitMore k t n κ = Steps (init_more_step k κ)
turn InitNext k t n κ = Steps (init_next_step k t n κ)
turn MoreDeclarators k t n κ = Steps (more_declarators_step k κ)
turn (DeclaredName ats) k t n κ = Steps (declared_name_step k t ats κ)
turn (AfterName ats f at) k t n κ = Steps (after_name_step k t n ats f at κ)
turn Body k t n κ = Steps (body_step k n κ)
turn Params k t n κ = Steps (params_step k t κ)
turn OptName k t n κ = opt_name_turn k t n κ
turn MoreParams k t n κ = Steps (more_params_step k κ)
turn External k t n κ = Steps (external_step k t κ)
turn Whole k t n κ = Steps (whole_step k t κ)
