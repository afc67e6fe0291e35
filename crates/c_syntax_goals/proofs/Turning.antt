-- What a part makes of the next token, turned back: one line for each entry of the table.
use Rattle.std.proofs.Common.{◌≡◌, ℕ, ◌+◌, List, [], ◌∷◌, refl, sym, ap, subst, ◌∙◌, arith, inl, inr}
use Rattle.std.specs.Prelude.{Option, Some, None, Bool, true, false}
use Rattle.c_tokens.specs.declared.token.Token.TheVariants as token
use Rattle.c_tokens.specs.declared.words.Key.TheVariants as keys
use Rattle.c_tokens.specs.declared.marks.Mark.TheVariants as marks
use Rattle.c_phrases.specs.declared.operator.Spec.{Spec}
use Rattle.c_phrases.specs.declared.operator.Spec.TheVariants as specs
use Rattle.c_phrases.specs.declared.operator.Storage.TheVariants as storages
use Rattle.c_phrases.specs.declared.tree.Named.{Named}
use Rattle.c_phrases.specs.Classes.{Placed, word, sign}
use Rattle.c_phrases.specs.Phrases.{AnExp, name, number, str, call, index, step_after, step_before, prefix}
use Rattle.c_phrases.specs.Phrases.{sizeof_exp, choice, assign, comma, SomeExps, no_exps, exps, after_exp}
use Rattle.c_phrases.specs.Operators.{step_mark, prefix_mark}
use Rattle.c_phrases.specs.Units.{ALength, AnInit, value, elements, AnInitialised, ADeclarator, ALocal, AStatement}
use Rattle.c_phrases.specs.Units.{empty, expression, break_off, continue_on, give_back, SomeItems, no_items}
use Rattle.c_phrases.specs.Units.{statement_item, AParam, SomeParams, no_params, ADeclared, globals, AnExternal}
use Rattle.c_phrases.specs.Units.{AUnit}
use Rattle.c_syntax_goals.specs.Openings.{Opening, opens, plain, levelled_name, levelled_exp}
use Rattle.c_syntax_goals.specs.Goals.{Goal, Val, Stack, Done, Want, Expr, Commas, Assign, Cond, Cast, Unary, Primary}
use Rattle.c_syntax_goals.specs.Goals.{Parens, CallTail, PostTail, Ended, Tail, First, Group, SizeofTail, SizeofGroup}
use Rattle.c_syntax_goals.specs.Goals.{Arguments, MoreArguments, Back, WantParen, WantBracket, WantColon, WantSemi}
use Rattle.c_syntax_goals.specs.Goals.{WantWhile, TypeWords, AfterShort, AfterUnsigned, Stars, Condition, Simple}
use Rattle.c_syntax_goals.specs.Goals.{Statement, Items, PartSemi, PartParen, ForOpen, ElsePart, Local}
use Rattle.c_syntax_goals.specs.Goals.{DeclaratorName, ArrayPart, Length, InitPart, Init, Elements, InitMore}
use Rattle.c_syntax_goals.specs.Goals.{InitNext, MoreDeclarators, DeclaredName, AfterName, Body, Params, OptName}
use Rattle.c_syntax_goals.specs.Goals.{MoreParams, External, Whole, Step, Takes, Opens, Finishes, Refuses, Turn}
use Rattle.c_syntax_goals.specs.Goals.{Steps, Passes}
use Rattle.c_syntax_goals.specs.Expressions.{insert, cond_goals}
use Rattle.c_syntax_goals.specs.Types.{stars_then, type_goals}
use Rattle.c_syntax_goals.specs.Groups.{cast_behind, paren_behind, sizeof_behind}
use Rattle.c_syntax_goals.specs.Declarators.{declarator_behind, declarator_goals}
use Rattle.c_syntax_goals.specs.Statements.{if_goals, while_goals, do_goals, for_goals, local_rest, item_local}
use Rattle.c_syntax_goals.specs.Externals.{param_behind, param_goals, lone_param, some_params, function_behind}
use Rattle.c_syntax_goals.specs.Externals.{globals_behind, declared_goals, external_rest, before}
use Rattle.c_syntax_goals.proofs.Yields.{open_paren, Onto, Yields}
use Rattle.c_phrases.specs.Classes.{Class, class_of}
use Rattle.c_phrases.specs.Classes as c
use Rattle.c_syntax_goals.specs.Types as Types
use Rattle.c_syntax_goals.specs.Expressions as Expressions
use Rattle.c_syntax_goals.specs.Groups as Groups
use Rattle.c_syntax_goals.specs.Wanted as Wanted
use Rattle.c_syntax_goals.specs.Statements as Statements
use Rattle.c_syntax_goals.specs.Declarators as Declarators
use Rattle.c_syntax_goals.specs.Externals as Externals
use Rattle.c_syntax_goals.specs.Turns.{turn}
use Rattle.c_syntax_goals.specs.Contents.{name_in, number_in, str_in, binary_in, prefix_in, step_in, assign_in}
use Rattle.c_syntax_goals.proofs.Spelled.{spelled, PrefixClass, InfixClass, AssignClass, prefix_is, step_is, infix_is, assign_is}
use Rattle.c_syntax_goals.proofs.PhraseLaws.{lower}
use Rattle.c_syntax_goals.proofs.Going.{level_least}
use Rattle.c_syntax_goals.proofs.Joins.{Exp, By, weaken, joined, alone, settle, parens_read, paren_read, cast_read, sizeof_read, sizeof_joined, index_read, step_read}
use Rattle.c_syntax_goals.proofs.Joins.{operator_read, assigned_read, choice_read, comma_read, argument_read, next_argument_read, behind_read, local_read, next_declarator_read}
use Rattle.c_syntax_goals.proofs.Joins.{init_read, elements_read, next_init_read, length_read, array_read}
use Rattle.c_syntax_goals.proofs.UnitJoins.{condition_read, semi_read, part_paren_read, expression_read, block_read, if_read, while_read, do_read, for_read, item_read}
use Rattle.c_syntax_goals.proofs.UnitJoins.{local_item_read, next_param_read, params_read, body_read, function_read, globals_read, external_read, whole_read}

-- the level that a token opens
abbrev pub opened_step : Step → ℕ → ℕ
opened_step (Takes s) n = 0
opened_step (Opens k s) n = n + k
opened_step (Finishes s) n = 0
opened_step Refuses n = 0

abbrev pub opened_turn : {V : Type 0} → Turn V → ℕ → (ℕ → V → ℕ) → ℕ
opened_turn (Steps x) n κ = opened_step x n
opened_turn (Passes m v) n κ = κ m v

abbrev pub opened : Stack → Class → Placed → ℕ → ℕ
opened (Done v) k t n = 0
opened (Want g κ) k t n = opened_turn (turn g k t n κ) n (λ m v. opened (κ v) k t m)

abbrev pub read : Step → Class → Placed → ℕ → Opening
read x k t n = opens (opened_step x n) (spelled k t)

abbrev pub lead : {V : Type 0} → Turn V → (V → Stack) → Class → Placed → ℕ → Opening
lead x κ k t n = opens (opened_turn x n (λ m v. opened (κ v) k t m)) (spelled k t)

-- what is to be read behind the token yields the unit
abbrev pub OfStep : Step → ℕ → List Opening → AUnit → Type 0
OfStep (Takes s) n ts u = Yields s n ts u
OfStep (Opens k s) n ts u = Yields s (n + k) ts u
OfStep (Finishes s) n ts u = Yields s n ts u
OfStep Refuses n ts u = ⊥

abbrev pub OfTurn : {V : Type 0} → Turn V → (V → Stack) → Class → Placed → ℕ → List Opening → AUnit → Type 0
OfTurn (Steps x) κ k t n ts u = OfStep x n ts u
OfTurn (Passes m v) κ k t n ts u = Yields (κ v) m (opens (opened (κ v) k t m) (spelled k t) ∷ ts) u

module _ (t : Placed) (n : ℕ) (ts : List Opening) (u : AUnit) where
  -- types
  back_words : (k : Class) (κ : Spec → Stack) → OfStep (Types.words_step k t κ) n ts u → Yields (Want TypeWords κ) n (read (Types.words_step k t κ) k t n ∷ ts) u
  back_words c.Int κ h = record { item = specs.Int t.at; rest = ts; is = refl; onwards = h }
  back_words c.Char κ h = record { item = specs.Char t.at; rest = ts; is = refl; onwards = h }
  back_words c.Void κ h = record { item = specs.Void t.at; rest = ts; is = refl; onwards = h }
  back_words c.Short κ h = record { item = specs.Short t.at h.item; rest = h.rest; is = ap (λ (x : List Opening). plain (word keys.Short t.at) ∷ x) h.is; onwards = h.onwards }
  back_words c.Unsigned κ h = h
  back_words k κ h = absurd h

  back_short : (k : Class) (κ : Option ℕ → Stack) → OfTurn (Types.short_turn k t n κ) κ k t n ts u → Yields (Want AfterShort κ) n (lead (Types.short_turn k t n κ) κ k t n ∷ ts) u
  back_short c.Int κ h = record { item = Some t.at; rest = ts; is = refl; onwards = h }
  back_short k κ h = record { item = None; rest = _; is = refl; onwards = h }

  back_unsigned : (k : Class) (at : ℕ) (κ : Spec → Stack) → OfStep (Types.unsigned_step k t at κ) n ts u → Yields (Want (AfterUnsigned at) κ) n (read (Types.unsigned_step k t at κ) k t n ∷ ts) u
  back_unsigned c.Char at κ h = record { item = specs.UnsignedChar at t.at; rest = ts; is = refl; onwards = h }
  back_unsigned c.Short at κ h = record {
    item = specs.UnsignedShort at t.at h.item;
    rest = h.rest;
    is =
        ap (λ (x : List Opening). plain (word keys.Unsigned at) ∷ plain (word keys.Short t.at) ∷ x) h.is;
    onwards = h.onwards;
  }
  back_unsigned k at κ h = absurd h

  back_stars : (k : Class) (κ : List ℕ → Stack) → OfTurn (Types.stars_turn k t n κ) κ k t n ts u → Yields (Want Stars κ) n (lead (Types.stars_turn k t n κ) κ k t n ∷ ts) u
  back_stars c.Star κ h = record { item = t.at ∷ h.item; rest = h.rest; is = ap (λ (x : List Opening). plain (sign marks.Star t.at) ∷ x) h.is; onwards = h.onwards }
  back_stars k κ h = record { item = []; rest = _; is = refl; onwards = h }

  -- expressions
  back_parens : (k : Class) (κ : AnExp → Stack) → OfStep (Expressions.parens_step k t n κ) n ts u → Yields (Want Parens κ) n (read (Expressions.parens_step k t n κ) k t n ∷ ts) u
  back_parens c.OpenParen κ h = parens_read u t.at n κ ts h
  back_parens k κ h = absurd h

  back_primary : (k : Class) (κ : AnExp → Stack) → OfStep (Expressions.primary_step k t n κ) n ts u → Yields (Want Primary κ) n (read (Expressions.primary_step k t n κ) k t n ∷ ts) u
  back_primary c.Name κ h = h
  back_primary c.Number κ h = record { item = number (number_in t.kind) t.at; rest = ts; is = (refl, tt); onwards = h }
  back_primary c.Str κ h = record { item = str (str_in t.kind) t.at; rest = ts; is = (refl, tt); onwards = h }
  back_primary k κ h = back_parens k κ h

  back_prefix : (k : Class) → class_of t.kind ≡ k → PrefixClass k → (κ : AnExp → Stack) → Yields (Want Cast (λ e. κ (prefix (prefix_in t.kind) t.at e))) (n + 1) ts u
      → Yields (Want Unary κ) n (opens (n + 1) (spelled k t) ∷ ts) u
  back_prefix k e i κ h = record {
    item = prefix (prefix_in t.kind) t.at h.item;
    rest = h.rest;
    is = (ap (λ (x : Placed). opens (n + 1) x ∷ ts) (prefix_is t k e i) ∙ ap (λ (x : List Opening). opens (n + 1) (sign (prefix_mark (prefix_in t.kind)) t.at) ∷ x) h.is.0, (omega arith, h.is.1));
    onwards = h.onwards;
  }

  back_unary : (k : Class) → class_of t.kind ≡ k → (κ : AnExp → Stack) → OfStep (Expressions.unary_step k t n κ) n ts u → Yields (Want Unary κ) n (read (Expressions.unary_step k t n κ) k t n ∷ ts) u
  back_unary c.Sign e κ h = back_prefix c.Sign e tt κ h
  back_unary c.Star e κ h = back_prefix c.Star e tt κ h
  back_unary c.Lone e κ h = back_prefix c.Lone e tt κ h
  back_unary c.Step e κ h = record {
    item = step_before (step_in t.kind) t.at h.item;
    rest = h.rest;
    is = (ap (λ (x : Placed). opens (n + 1) x ∷ ts) (step_is t c.Step e tt) ∙ ap (λ (x : List Opening). opens (n + 1) (sign (step_mark (step_in t.kind)) t.at) ∷ x) h.is.0, (omega arith, h.is.1));
    onwards = h.onwards;
  }
  back_unary c.Sizeof e κ h = h n refl
  back_unary k e κ h = weaken 14 15 (omega arith) _ n (By κ u) (joined 16 15 15 (omega arith) _ n (By κ u) (back_primary k (λ p. Want (PostTail p) κ) h))

  back_cast : (k : Class) → class_of t.kind ≡ k → (κ : AnExp → Stack) → OfStep (Expressions.cast_step k t n κ) n ts u → Yields (Want Cast κ) n (read (Expressions.cast_step k t n κ) k t n ∷ ts) u
  back_cast c.OpenParen e κ h = h refl
  back_cast k e κ h = weaken 13 14 (omega arith) _ n (By κ u) (back_unary k e κ h)

  back_assign : (k : Class) → class_of t.kind ≡ k → (κ : AnExp → Stack) → OfStep (Expressions.assign_step k t n κ) n ts u
      → Yields (Want Assign κ) n (read (Expressions.assign_step k t n κ) k t n ∷ ts) u
  back_assign c.OpenParen e κ h = h refl
  back_assign k e κ h = joined 14 14 1 (omega arith) _ n (By κ u) (back_unary k e (λ v. Want (Tail true v) κ) h)

  back_expr : (k : Class) → class_of t.kind ≡ k → (κ : AnExp → Stack) → OfStep (Expressions.expr_step k t n κ) n ts u → Yields (Want Expr κ) n (read (Expressions.expr_step k t n κ) k t n ∷ ts) u
  back_expr k e κ h = joined 1 0 0 (omega arith) _ n (By κ u) (back_assign k e (λ a. Want (Commas a) κ) h)

  back_cond : (k : Class) → class_of t.kind ≡ k → (κ : AnExp → Stack) → OfStep (Expressions.cond_step k t n κ) n ts u → Yields (Want Cond κ) n (read (Expressions.cond_step k t n κ) k t n ∷ ts) u
  back_cond k e κ h = joined 13 3 2 (omega arith) _ n (By κ u) (back_cast k e (λ v. Want (Tail false v) κ) h)

  back_commas : (k : Class) (l : AnExp) (κ : AnExp → Stack) → OfTurn (Expressions.commas_turn k n l κ) κ k t n ts u
      → Yields (Want (Commas l) κ) n (lead (Expressions.commas_turn k n l κ) κ k t n ∷ ts) u
  back_commas c.Comma l κ h = settle l 0 0 n (λ m. opens (m + 1) (sign marks.Comma 0) ∷ ts) (λ m. Yields (Want Assign (λ r. Want (Commas (comma l r)) κ)) (m + 1) ts u) (By κ u)
      (λ b i g. comma_read u l b κ ts i g) h
  back_commas k l κ h = alone 0 0 l n _ (By κ u) (omega arith) h

  back_call : (k : Class) (f : List ℕ) (at : ℕ) (κ : AnExp → Stack) → OfTurn (Expressions.call_turn k t n f at κ) κ k t n ts u
      → Yields (Want (CallTail f at) κ) n (lead (Expressions.call_turn k t n f at κ) κ k t n ∷ ts) u
  back_call c.OpenParen f at κ h = record {
    item = call f at t.at h.item;
    rest = h.rest;
    is =
        (ap (λ (x : List Opening). levelled_name f at (opens (n + 2) (open_paren t.at) ∷ x)) h.is.0, h.is.1);
    onwards = h.onwards;
  }
  back_call k f at κ h = record { item = name f at; rest = _; is = (refl, tt); onwards = h }

  back_post : (k : Class) → class_of t.kind ≡ k → (l : AnExp) (κ : AnExp → Stack) → OfTurn (Expressions.post_turn k t n l κ) κ k t n ts u
      → Yields (Want (PostTail l) κ) n (lead (Expressions.post_turn k t n l κ) κ k t n ∷ ts) u
  back_post c.OpenBracket e l κ h = settle l 15 15 n (λ m. opens (m + 2) (sign marks.OpenBracket t.at) ∷ ts)
      (λ m. Yields (Want Expr (λ i. Want WantBracket (λ x. Want (Back (m + 1)) (λ y. Want (PostTail (index l t.at i)) κ)))) (m + 2) ts u) (By κ u) (λ b i g. index_read u l t.at b κ ts i g) h
  back_post c.Step e l κ h = settle l 15 15 n (λ m. opens (m + 1) (spelled c.Step t) ∷ ts) (λ m. Yields (Want (PostTail (step_after l (step_in t.kind) t.at)) κ) (m + 1) ts u) (By κ u)
      (λ b i g. subst (λ (x : Placed). Exp 15 (levelled_exp l b (opens (after_exp l b + 1) x ∷ ts)) b (By κ u)) (sym (step_is t c.Step e tt)) (step_read u l (step_in t.kind) t.at b κ ts i g)) h
  back_post c.OpenParen e l κ h = absurd h
  back_post k e l κ h = alone 15 15 l n _ (By κ u) (omega arith) h

  back_ended : (k : Class) (κ : Unit {0} → Stack) → OfTurn (Expressions.ended_turn k n) κ k t n ts u → Yields (Want Ended κ) n (lead (Expressions.ended_turn k n) κ k t n ∷ ts) u
  back_ended c.OpenBracket κ h = absurd h
  back_ended c.Step κ h = absurd h
  back_ended c.OpenParen κ h = absurd h
  back_ended k κ h = h

  back_operator : (k : Class) → class_of t.kind ≡ k → InfixClass k → (l : AnExp) (κ : AnExp → Stack)
      → Yields (Want Cast (λ r. Want (Tail false (insert l (binary_in t.kind) t.at r)) κ)) (n + 1) ts u → Onto 3 2 l n (opens (n + 1) (spelled k t) ∷ ts) (By κ u)
  back_operator k e q l κ h = settle l 3 2 n (λ m. opens (m + 1) (spelled k t) ∷ ts) (λ m. Yields (Want Cast (λ r. Want (Tail false (insert l (binary_in t.kind) t.at r)) κ)) (m + 1) ts u)
      (By κ u) (λ b i g. subst (λ (x : Placed). Exp 2 (levelled_exp l b (opens (after_exp l b + 1) x ∷ ts)) b (By κ u)) (sym (infix_is t k e q))
      (operator_read u l (binary_in t.kind) t.at b κ ts (level_least (binary_in t.kind)) i g)) h

  back_choice : (l : AnExp) (κ : AnExp → Stack) → Yields (Want Expr (λ e. Want WantColon (λ x. Want Cond (λ d. κ (choice l t.at e d))))) (n + 1) ts u
      → Onto 3 2 l n (opens (n + 1) (sign marks.Question t.at) ∷ ts) (By κ u)
  back_choice l κ h = settle l 3 2 n (λ m. opens (m + 1) (sign marks.Question t.at) ∷ ts)
      (λ m. Yields (Want Expr (λ e. Want WantColon (λ x. Want Cond (λ d. κ (choice l t.at e d))))) (m + 1) ts u) (By κ u) (λ b i g. choice_read u l t.at b κ ts i g) h

  back_assigned : (k : Class) → class_of t.kind ≡ k → AssignClass k → (l : AnExp) (κ : AnExp → Stack) → Yields (Want Assign (λ v. κ (assign l (assign_in t.kind) t.at v))) (n + 1) ts u
      → Onto 14 1 l n (opens (n + 1) (spelled k t) ∷ ts) (By κ u)
  back_assigned k e q l κ h = settle l 14 1 n (λ m. opens (m + 1) (spelled k t) ∷ ts) (λ m. Yields (Want Assign (λ v. κ (assign l (assign_in t.kind) t.at v))) (m + 1) ts u) (By κ u)
      (λ b i g. subst (λ (x : Placed). Exp 1 (levelled_exp l b (opens (after_exp l b + 1) x ∷ ts)) b (By κ u)) (sym (assign_is t k e q)) (assigned_read u l (assign_in t.kind) t.at b κ ts i g)) h

  tighten : (l : AnExp) (w : List Opening) (κ : AnExp → Stack) → Onto 3 2 l n w (By κ u) → Onto 14 1 l n w (By κ u)
  tighten l w κ h = λ b e i. weaken 1 2 (omega arith) _ b (By κ u) (h b e (lower 3 14 l (omega arith) i))

  back_tail : (k : Class) → class_of t.kind ≡ k → (l : AnExp) (κ : AnExp → Stack) → OfTurn (Expressions.tail_turn k t n false l κ) κ k t n ts u
      → Yields (Want (Tail false l) κ) n (lead (Expressions.tail_turn k t n false l κ) κ k t n ∷ ts) u
  back_tail c.Equals e l κ h = absurd h
  back_tail c.Compound e l κ h = absurd h
  back_tail c.Infix e l κ h = back_operator c.Infix e tt l κ h
  back_tail c.Sign e l κ h = back_operator c.Sign e tt l κ h
  back_tail c.Star e l κ h = back_operator c.Star e tt l κ h
  back_tail c.Question e l κ h = back_choice l κ h
  back_tail k e l κ h = alone 3 2 l n _ (By κ u) (omega arith) h

  back_bare_tail : (k : Class) → class_of t.kind ≡ k → (l : AnExp) (κ : AnExp → Stack) → OfTurn (Expressions.tail_turn k t n true l κ) κ k t n ts u
      → Yields (Want (Tail true l) κ) n (lead (Expressions.tail_turn k t n true l κ) κ k t n ∷ ts) u
  back_bare_tail c.Equals e l κ h = back_assigned c.Equals e tt l κ h
  back_bare_tail c.Compound e l κ h = back_assigned c.Compound e tt l κ h
  back_bare_tail c.Infix e l κ h = tighten l _ κ (back_operator c.Infix e tt l κ h)
  back_bare_tail c.Sign e l κ h = tighten l _ κ (back_operator c.Sign e tt l κ h)
  back_bare_tail c.Star e l κ h = tighten l _ κ (back_operator c.Star e tt l κ h)
  back_bare_tail c.Question e l κ h = tighten l _ κ (back_choice l κ h)
  back_bare_tail k e l κ h = alone 14 1 l n _ (By κ u) (omega arith) h

  -- behind a bracket at which a type or an expression may stand
  group_of : (o m i : ℕ) (κ : AnExp → Stack) (x : List Opening) → Yields (type_goals (cast_behind o κ)) i x u → i ≡ m + 1 → Exp 13 (opens (m + 1) (open_paren o) ∷ x) m (By κ u)
  group_of o m i κ x h q = cast_read u o m κ x (subst (λ (j : ℕ). Yields (type_goals (cast_behind o κ)) j x u) q h)

  paren_of : (o m i : ℕ) (κ : AnExp → Stack) (x : List Opening) → Yields (Want Expr (paren_behind o m κ)) i x u → i ≡ m + 1 → Exp 15 (opens (m + 1) (open_paren o) ∷ x) m (By κ u)
  paren_of o m i κ x h q = paren_read u o m κ x (subst (λ (j : ℕ). Yields (Want Expr (paren_behind o m κ)) j x u) q h)

  back_group : (k : Class) → class_of t.kind ≡ k → (o m : ℕ) (κ : AnExp → Stack) → OfStep (Groups.group_step k t o m n κ) n ts u
      → Yields (Want (Group o m) κ) n (read (Groups.group_step k t o m n κ) k t n ∷ ts) u
  back_group c.Int e o m κ h = λ q. group_of o m n κ _ (back_words c.Int (stars_then (cast_behind o κ)) h) q
  back_group c.Char e o m κ h = λ q. group_of o m n κ _ (back_words c.Char (stars_then (cast_behind o κ)) h) q
  back_group c.Void e o m κ h = λ q. group_of o m n κ _ (back_words c.Void (stars_then (cast_behind o κ)) h) q
  back_group c.Short e o m κ h = λ q. group_of o m n κ _ (back_words c.Short (stars_then (cast_behind o κ)) h) q
  back_group c.Unsigned e o m κ h = λ q. group_of o m n κ _ (back_words c.Unsigned (stars_then (cast_behind o κ)) h) q
  back_group k e o m κ h = λ q. weaken 13 15 (omega arith) _ m (By κ u) (paren_of o m n κ _ (back_expr k e (paren_behind o m κ) h) q)

  first_cast : (k : Class) (o m : ℕ) (κ : AnExp → Stack) → OfStep (Types.type_step k t (cast_behind o (λ v. Want (Tail false v) κ))) n ts u
      → Yields (Want (First o m) κ) n (read (Types.type_step k t (cast_behind o (λ v. Want (Tail false v) κ))) k t n ∷ ts) u
  first_cast k o m κ h = λ q. weaken 1 2 (omega arith) _ m (By κ u) (joined 13 3 2 (omega arith) _ m (By κ u)
      (group_of o m n (λ v. Want (Tail false v) κ) _ (back_words k (stars_then (cast_behind o (λ v. Want (Tail false v) κ))) h) q))

  back_first : (k : Class) → class_of t.kind ≡ k → (o m : ℕ) (κ : AnExp → Stack) → OfStep (Groups.first_step k t o m n κ) n ts u
      → Yields (Want (First o m) κ) n (read (Groups.first_step k t o m n κ) k t n ∷ ts) u
  back_first c.Int e o m κ h = first_cast c.Int o m κ h
  back_first c.Char e o m κ h = first_cast c.Char o m κ h
  back_first c.Void e o m κ h = first_cast c.Void o m κ h
  back_first c.Short e o m κ h = first_cast c.Short o m κ h
  back_first c.Unsigned e o m κ h = first_cast c.Unsigned o m κ h
  back_first k e o m κ h = λ q. joined 15 14 1 (omega arith) _ m (By κ u) (paren_of o m n (λ v. Want (Tail true v) κ) _ (back_expr k e (paren_behind o m (λ v. Want (Tail true v) κ)) h) q)

  sizeof_of : (at b i : ℕ) (κ : AnExp → Stack) (x : List Opening) → Exp 14 x i (By (λ v. κ (sizeof_exp at v)) u) → i ≡ b + 1 → Exp 14 (opens (b + 1) (word keys.Sizeof at) ∷ x) b (By κ u)
  sizeof_of at b i κ x h q = sizeof_joined u at b κ x (subst (λ (j : ℕ). Exp 14 x j (By (λ v. κ (sizeof_exp at v)) u)) q h)

  back_sizeof : (k : Class) → class_of t.kind ≡ k → (at : ℕ) (κ : AnExp → Stack) → OfStep (Groups.sizeof_step k t at n κ) n ts u
      → Yields (Want (SizeofTail at) κ) n (read (Groups.sizeof_step k t at n κ) k t n ∷ ts) u
  back_sizeof c.OpenParen e at κ h = λ b q. subst (λ (j : ℕ). Exp 14 (opens (b + 1) (word keys.Sizeof at) ∷ opens (j + 1) (open_paren t.at) ∷ ts) b (By κ u)) (sym q) (h b q refl)
  back_sizeof k e at κ h = λ b q. sizeof_of at b n κ _ (back_unary k e (λ v. κ (sizeof_exp at v)) h) q

  sizeof_type_of : (at o m i b : ℕ) (κ : AnExp → Stack) (x : List Opening) → Yields (type_goals (sizeof_behind at o m κ)) i x u → m ≡ b + 1 → i ≡ m + 1
      → Exp 14 (opens (b + 1) (word keys.Sizeof at) ∷ opens (b + 1 + 1) (open_paren o) ∷ x) b (By κ u)
  sizeof_type_of at o m i b κ x h p q = sizeof_read u at o b κ x (subst (λ (j : ℕ). Yields (type_goals (sizeof_behind at o j κ)) (j + 1) x u) p
      (subst (λ (j : ℕ). Yields (type_goals (sizeof_behind at o m κ)) j x u) q h))

  sizeof_paren_of : (at o m i b : ℕ) (κ : AnExp → Stack) (x : List Opening) → Yields (Want Expr (paren_behind o m (λ v. κ (sizeof_exp at v)))) i x u → m ≡ b + 1 → i ≡ m + 1
      → Exp 14 (opens (b + 1) (word keys.Sizeof at) ∷ opens (b + 1 + 1) (open_paren o) ∷ x) b (By κ u)
  sizeof_paren_of at o m i b κ x h p q =
      sizeof_joined u at b κ (opens (b + 1 + 1) (open_paren o) ∷ x) (subst (λ (j : ℕ). Exp 14 (opens (j + 1) (open_paren o) ∷ x) j (By (λ v. κ (sizeof_exp at v)) u)) p
      (weaken 14 15 (omega arith) _ m (By (λ v. κ (sizeof_exp at v)) u) (paren_of o m i (λ v. κ (sizeof_exp at v)) x h q)))

  back_sizeof_group : (k : Class) → class_of t.kind ≡ k → (at o m : ℕ) (κ : AnExp → Stack) → OfStep (Groups.sizeof_group_step k t at o m n κ) n ts u
      → Yields (Want (SizeofGroup at o m) κ) n (read (Groups.sizeof_group_step k t at o m n κ) k t n ∷ ts) u
  back_sizeof_group c.Int e at o m κ h = λ b p q. sizeof_type_of at o m n b κ _ (back_words c.Int (stars_then (sizeof_behind at o m κ)) h) p q
  back_sizeof_group c.Char e at o m κ h = λ b p q. sizeof_type_of at o m n b κ _ (back_words c.Char (stars_then (sizeof_behind at o m κ)) h) p q
  back_sizeof_group c.Void e at o m κ h = λ b p q. sizeof_type_of at o m n b κ _ (back_words c.Void (stars_then (sizeof_behind at o m κ)) h) p q
  back_sizeof_group c.Short e at o m κ h = λ b p q. sizeof_type_of at o m n b κ _ (back_words c.Short (stars_then (sizeof_behind at o m κ)) h) p q
  back_sizeof_group c.Unsigned e at o m κ h = λ b p q. sizeof_type_of at o m n b κ _ (back_words c.Unsigned (stars_then (sizeof_behind at o m κ)) h) p q
  back_sizeof_group k e at o m κ h = λ b p q. sizeof_paren_of at o m n b κ _ (back_expr k e (paren_behind o m (λ v. κ (sizeof_exp at v))) h) p q

  back_arguments : (k : Class) → class_of t.kind ≡ k → (κ : SomeExps → Stack) → OfStep (Expressions.arguments_step k t n κ) n ts u
      → Yields (Want Arguments κ) n (read (Expressions.arguments_step k t n κ) k t n ∷ ts) u
  back_arguments c.CloseParen e κ h = record { item = no_exps; rest = ts; is = (refl, tt); onwards = h }
  back_arguments k e κ h = argument_read u n κ _ (back_assign k e (λ a. Want (Back n) (λ x. Want MoreArguments (λ es. κ (exps a es)))) h)

  back_more_arguments : (k : Class) (κ : SomeExps → Stack) → OfStep (Expressions.more_arguments_step k n κ) n ts u
      → Yields (Want MoreArguments κ) n (read (Expressions.more_arguments_step k n κ) k t n ∷ ts) u
  back_more_arguments c.CloseParen κ h = record { item = no_exps; rest = ts; is = (refl, tt); onwards = h }
  back_more_arguments c.Comma κ h = next_argument_read u n κ ts h
  back_more_arguments k κ h = absurd h

  -- marks and words
  back_want_paren : (k : Class) (κ : Unit {0} → Stack) → OfStep (Wanted.paren_step k (κ tt)) n ts u → Yields (Want WantParen κ) n (read (Wanted.paren_step k (κ tt)) k t n ∷ ts) u
  back_want_paren c.CloseParen κ h = record { item = tt; rest = ts; is = refl; onwards = h }
  back_want_paren k κ h = absurd h

  back_want_bracket : (k : Class) (κ : Unit {0} → Stack) → OfStep (Wanted.bracket_step k (κ tt)) n ts u → Yields (Want WantBracket κ) n (read (Wanted.bracket_step k (κ tt)) k t n ∷ ts) u
  back_want_bracket c.CloseBracket κ h = record { item = tt; rest = ts; is = refl; onwards = h }
  back_want_bracket k κ h = absurd h

  back_want_colon : (k : Class) (κ : Unit {0} → Stack) → OfStep (Wanted.colon_step k (κ tt)) n ts u → Yields (Want WantColon κ) n (read (Wanted.colon_step k (κ tt)) k t n ∷ ts) u
  back_want_colon c.Colon κ h = record { item = tt; rest = ts; is = refl; onwards = h }
  back_want_colon k κ h = absurd h

  back_want_semi : (k : Class) (κ : Unit {0} → Stack) → OfStep (Wanted.semi_step k (κ tt)) n ts u → Yields (Want WantSemi κ) n (read (Wanted.semi_step k (κ tt)) k t n ∷ ts) u
  back_want_semi c.Semicolon κ h = record { item = tt; rest = ts; is = refl; onwards = h }
  back_want_semi k κ h = absurd h

  back_want_while : (k : Class) (κ : ℕ → Stack) → OfStep (Wanted.while_step k t κ) n ts u → Yields (Want WantWhile κ) n (read (Wanted.while_step k t κ) k t n ∷ ts) u
  back_want_while c.While κ h = record { item = t.at; rest = ts; is = refl; onwards = h }
  back_want_while k κ h = absurd h

  -- statements
  back_condition : (k : Class) (κ : ℕ × AnExp → Stack) → OfStep (Statements.condition_step k t n κ) n ts u → Yields (Want Condition κ) n (read (Statements.condition_step k t n κ) k t n ∷ ts) u
  back_condition c.OpenParen κ h = condition_read u t.at n κ ts h
  back_condition k κ h = absurd h

  back_part_semi : (k : Class) → class_of t.kind ≡ k → (κ : Option AnExp → Stack) → OfStep (Statements.part_semi_step k t n κ) n ts u
      → Yields (Want PartSemi κ) n (read (Statements.part_semi_step k t n κ) k t n ∷ ts) u
  back_part_semi c.Semicolon e κ h = record { item = None; rest = ts; is = (refl, tt); onwards = h }
  back_part_semi k e κ h = semi_read u n κ _ (back_expr k e (λ v. Want (Back n) (λ x. Want WantSemi (λ y. κ (Some v)))) h)

  back_part_paren : (k : Class) → class_of t.kind ≡ k → (κ : Option AnExp → Stack) → OfStep (Statements.part_paren_step k t n κ) n ts u
      → Yields (Want PartParen κ) n (read (Statements.part_paren_step k t n κ) k t n ∷ ts) u
  back_part_paren c.CloseParen e κ h = record { item = None; rest = ts; is = (refl, tt); onwards = h }
  back_part_paren k e κ h = part_paren_read u n κ _ (back_expr k e (λ v. Want (Back n) (λ x. Want WantParen (λ y. κ (Some v)))) h)

  back_for_open : (k : Class) (κ : ℕ → Stack) → OfStep (Statements.for_open_step k t κ) n ts u → Yields (Want ForOpen κ) n (read (Statements.for_open_step k t κ) k t n ∷ ts) u
  back_for_open c.OpenParen κ h = record { item = t.at; rest = ts; is = refl; onwards = h }
  back_for_open k κ h = absurd h

  back_simple : (k : Class) → class_of t.kind ≡ k → (κ : AStatement → Stack) → OfStep (Statements.simple_step k t n κ) n ts u
      → Yields (Want Statement κ) n (read (Statements.simple_step k t n κ) k t n ∷ ts) u
  back_simple c.Semicolon e κ h = record { item = empty; rest = ts; is = (refl, (tt, inl tt)); onwards = h }
  back_simple c.Break e κ h = record { item = break_off t.at; rest = h.rest; is = (ap (λ (x : List Opening). plain (word keys.Break t.at) ∷ x) h.is, (tt, inl tt)); onwards = h.onwards }
  back_simple c.Continue e κ h = record { item = continue_on t.at; rest = h.rest; is = (ap (λ (x : List Opening). plain (word keys.Continue t.at) ∷ x) h.is, (tt, inl tt)); onwards = h.onwards }
  back_simple c.Return e κ h = record { item = give_back t.at h.item; rest = h.rest; is = (ap (λ (x : List Opening). plain (word keys.Return t.at) ∷ x) h.is.0, (h.is.1, inl tt)); onwards = h.onwards }
  back_simple k e κ h = expression_read u n κ _ (back_expr k e (λ v. Want (Back n) (λ x. Want WantSemi (λ y. κ (expression v)))) h)

  back_statement : (k : Class) → class_of t.kind ≡ k → (κ : AStatement → Stack) → OfStep (Statements.statement_step k t n κ) n ts u
      → Yields (Want Statement κ) n (read (Statements.statement_step k t n κ) k t n ∷ ts) u
  back_statement c.OpenBrace e κ h = block_read u n κ ts h
  back_statement c.If e κ h = if_read u t.at n κ ts h
  back_statement c.While e κ h = while_read u t.at n κ ts h
  back_statement c.Do e κ h = do_read u t.at n κ ts h
  back_statement c.For e κ h = for_read u t.at n κ ts h
  back_statement k e κ h = back_simple k e κ h

  abbrev NotElse : Class → Type 0
  NotElse c.Else = ⊥
  NotElse k = Unit {0}

  spelled_class : (k : Class) → class_of t.kind ≡ k → class_of (spelled k t).kind ≡ k
  spelled_class c.Unused e = e
  spelled_class c.Compound e = e
  spelled_class c.Infix e = e
  spelled_class c.Sign e = e
  spelled_class c.Lone e = e
  spelled_class c.Step e = e
  spelled_class k e = refl

  other_than_else : (k : Class) → class_of t.kind ≡ k → NotElse k → (spelled k t).kind ≡ token.Key keys.Else → ⊥
  other_than_else k e i q = subst NotElse (sym (spelled_class k e) ∙ ap class_of q) i

  back_else : (k : Class) → class_of t.kind ≡ k → (at o : ℕ) (v : AnExp) (s : AStatement) (κ : AStatement → Stack) → OfTurn (Statements.else_turn k t n at o v s κ) κ k t n ts u
      → Yields (Want (ElsePart at o v s) κ) n (lead (Statements.else_turn k t n at o v s κ) κ k t n ∷ ts) u
  back_else c.Else e at o v s κ h = inr (record { item = (t.at, h.item); rest = h.rest; is = (ts, (refl, h.is)); onwards = h.onwards })
  back_else k e at o v s κ h = inl (other_than_else k e tt, h)

  back_local : (k : Class) (κ : ALocal → Stack) → OfStep (Statements.local_step k t κ) n ts u → Yields (Want Local κ) n (read (Statements.local_step k t κ) k t n ∷ ts) u
  back_local c.Static κ h = local_read u (storages.Static t.at) n κ ts h
  back_local c.Register κ h = local_read u (storages.Register t.at) n κ ts h
  back_local k κ h = local_read u storages.Automatic n κ _ (back_words k (local_rest storages.Automatic κ) h)

  back_items : (k : Class) → class_of t.kind ≡ k → (κ : SomeItems → Stack) → OfStep (Statements.items_step k t n κ) n ts u → Yields (Want Items κ) n (read (Statements.items_step k t n κ) k t n ∷ ts) u
  back_items c.CloseBrace e κ h = record { item = no_items; rest = ts; is = (refl, tt); onwards = h }
  back_items c.Static e κ h = local_item_read u n κ _ (back_local c.Static (item_local κ) h)
  back_items c.Register e κ h = local_item_read u n κ _ (back_local c.Register (item_local κ) h)
  back_items c.Int e κ h = local_item_read u n κ _ (back_local c.Int (item_local κ) h)
  back_items c.Char e κ h = local_item_read u n κ _ (back_local c.Char (item_local κ) h)
  back_items c.Void e κ h = local_item_read u n κ _ (back_local c.Void (item_local κ) h)
  back_items c.Short e κ h = local_item_read u n κ _ (back_local c.Short (item_local κ) h)
  back_items c.Unsigned e κ h = local_item_read u n κ _ (back_local c.Unsigned (item_local κ) h)
  back_items k e κ h = item_read u n κ _ (back_statement k e (λ s. Want Items (λ is. κ (statement_item s is))) h)

  -- declarators
  back_declarator_name : (k : Class) (ats : List ℕ) (κ : ADeclarator → Stack) → OfStep (Declarators.declarator_name_step k t ats κ) n ts u
      → Yields (Want (DeclaratorName ats) κ) n (read (Declarators.declarator_name_step k t ats κ) k t n ∷ ts) u
  back_declarator_name c.Name ats κ h = behind_read u ats (name_in t.kind) t.at n κ ts h
  back_declarator_name k ats κ h = absurd h

  back_array : (k : Class) (κ : Option ALength → Stack) → OfTurn (Declarators.array_turn k t n κ) κ k t n ts u → Yields (Want ArrayPart κ) n (lead (Declarators.array_turn k t n κ) κ k t n ∷ ts) u
  back_array c.OpenBracket κ h = array_read u t.at n κ ts h
  back_array k κ h = record { item = None; rest = _; is = (refl, tt); onwards = h }

  back_length : (k : Class) → class_of t.kind ≡ k → (κ : Option AnExp → Stack) → OfStep (Declarators.length_step k t n κ) n ts u
      → Yields (Want Length κ) n (read (Declarators.length_step k t n κ) k t n ∷ ts) u
  back_length c.CloseBracket e κ h = record { item = None; rest = ts; is = (refl, tt); onwards = h }
  back_length k e κ h = length_read u n κ _ (back_cond k e (λ v. Want WantBracket (λ x. κ (Some v))) h)

  back_init_part : (k : Class) (κ : Option AnInitialised → Stack) → OfTurn (Declarators.init_part_turn k t n κ) κ k t n ts u
      → Yields (Want InitPart κ) n (lead (Declarators.init_part_turn k t n κ) κ k t n ∷ ts) u
  back_init_part c.Equals κ h = record {
    item = Some (record { at = t.at; with_init = h.item });
    rest = h.rest;
    is =
        (ap (λ (x : List Opening). plain (sign marks.Assign t.at) ∷ x) h.is.0, h.is.1);
    onwards = h.onwards;
  }
  back_init_part k κ h = record { item = None; rest = _; is = (refl, tt); onwards = h }

  back_init : (k : Class) → class_of t.kind ≡ k → (κ : AnInit → Stack) → OfStep (Declarators.init_step k t n κ) n ts u → Yields (Want Init κ) n (read (Declarators.init_step k t n κ) k t n ∷ ts) u
  back_init c.OpenBrace e κ h = h n refl
  back_init k e κ h = init_read u n κ _ (back_assign k e (λ a. Want (Back n) (λ x. κ (value a))) h)

  back_elements : (k : Class) → class_of t.kind ≡ k → (κ : AnInit → Stack) → OfStep (Declarators.elements_step k t n κ) n ts u
      → Yields (Want Elements κ) n (read (Declarators.elements_step k t n κ) k t n ∷ ts) u
  back_elements k e κ h = elements_read u n κ _ (back_assign k e (λ a. Want (Back n) (λ x. Want InitMore (λ r. κ (elements (exps a r.0) r.1)))) h)

  back_init_more : (k : Class) (κ : SomeExps × Bool → Stack) → OfStep (Declarators.init_more_step k κ) n ts u → Yields (Want InitMore κ) n (read (Declarators.init_more_step k κ) k t n ∷ ts) u
  back_init_more c.Comma κ h = h
  back_init_more c.CloseBrace κ h = record { item = (no_exps, false); rest = ts; is = (refl, tt); onwards = h }
  back_init_more k κ h = absurd h

  back_init_next : (k : Class) → class_of t.kind ≡ k → (κ : SomeExps × Bool → Stack) → OfStep (Declarators.init_next_step k t n κ) n ts u
      → Yields (Want InitNext κ) n (read (Declarators.init_next_step k t n κ) k t n ∷ ts) u
  back_init_next c.CloseBrace e κ h = record { item = (no_exps, true); rest = ts; is = (refl, tt); onwards = h }
  back_init_next k e κ h = next_init_read u n κ _ (back_assign k e (λ a. Want (Back n) (λ x. Want InitMore (λ r. κ (exps a r.0, r.1)))) h)

  back_more_declarators : (k : Class) (κ : List ADeclarator → Stack) → OfStep (Declarators.more_declarators_step k κ) n ts u
      → Yields (Want MoreDeclarators κ) n (read (Declarators.more_declarators_step k κ) k t n ∷ ts) u
  back_more_declarators c.Comma κ h = next_declarator_read u n κ ts h
  back_more_declarators c.Semicolon κ h = record { item = []; rest = ts; is = (refl, tt); onwards = h }
  back_more_declarators k κ h = absurd h

  -- what stands at file level
  back_declared_name : (k : Class) (ats : List ℕ) (κ : ADeclared → Stack) → OfStep (Externals.declared_name_step k t ats κ) n ts u
      → Yields (Want (DeclaredName ats) κ) n (read (Externals.declared_name_step k t ats κ) k t n ∷ ts) u
  back_declared_name c.Name ats κ h = h
  back_declared_name k ats κ h = absurd h

  back_after_name : (k : Class) (ats f : List ℕ) (at : ℕ) (κ : ADeclared → Stack) → OfStep (Externals.after_name_step k t n ats f at κ) n ts u
      → Yields (Want (AfterName ats f at) κ) n (read (Externals.after_name_step k t n ats f at κ) k t n ∷ ts) u
  back_after_name c.OpenParen ats f at κ h = function_read u ats f at t.at n κ ts h
  back_after_name c.OpenBracket ats f at κ h = globals_read u ats f at n κ _
      (array_read u t.at n (λ l. Want InitPart (λ i. globals_behind κ (record { stars = ats; name = f; at = at; length = l; init = i }))) ts h)
  back_after_name c.Equals ats f at κ h = globals_read u ats f at n κ _
      (record { item = None; rest = _; is = (refl, tt); onwards = back_init_part c.Equals (λ i. globals_behind κ (record { stars = ats; name = f; at = at; length = None; init = i })) h })
  back_after_name k ats f at κ h = globals_read u ats f at n κ _ (record {
    item = None;
    rest = _;
    is = (refl, tt);
    onwards = record {
      item = None;
      rest = _;
      is = (refl, tt);
      onwards =
          back_more_declarators k (λ ds. κ (globals (record { stars = ats; name = f; at = at; length = None; init = None } ∷ ds))) h;
    };
  })

  back_body : (k : Class) (κ : Option SomeItems → Stack) → OfStep (Externals.body_step k n κ) n ts u → Yields (Want Body κ) n (read (Externals.body_step k n κ) k t n ∷ ts) u
  back_body c.Semicolon κ h = record { item = None; rest = ts; is = (refl, tt); onwards = h }
  back_body c.OpenBrace κ h = body_read u n κ ts h
  back_body k κ h = absurd h

  back_params : (k : Class) (κ : SomeParams → Stack) → OfStep (Externals.params_step k t κ) n ts u → Yields (Want Params κ) n (read (Externals.params_step k t κ) k t n ∷ ts) u
  back_params c.CloseParen κ h = record { item = no_params; rest = ts; is = (refl, tt); onwards = h }
  back_params k κ h = params_read u n κ _ (back_words k (λ s. param_behind s (λ p. Want MoreParams (λ ps. κ (some_params p ps)))) h)

  back_opt_name : (k : Class) (κ : Option Named → Stack) → OfTurn (Externals.opt_name_turn k t n κ) κ k t n ts u → Yields (Want OptName κ) n (lead (Externals.opt_name_turn k t n κ) κ k t n ∷ ts) u
  back_opt_name c.Name κ h = record { item = Some (record { name = name_in t.kind; at = t.at }); rest = ts; is = refl; onwards = h }
  back_opt_name k κ h = record { item = None; rest = _; is = refl; onwards = h }

  back_more_params : (k : Class) (κ : List AParam → Stack) → OfStep (Externals.more_params_step k κ) n ts u → Yields (Want MoreParams κ) n (read (Externals.more_params_step k κ) k t n ∷ ts) u
  back_more_params c.Comma κ h = next_param_read u n κ ts h
  back_more_params c.CloseParen κ h = record { item = []; rest = ts; is = (refl, tt); onwards = h }
  back_more_params k κ h = absurd h

  back_external : (k : Class) (κ : AnExternal → Stack) → OfStep (Externals.external_step k t κ) n ts u → Yields (Want External κ) n (read (Externals.external_step k t κ) k t n ∷ ts) u
  back_external c.Static κ h = external_read u (Some t.at) n κ ts h
  back_external k κ h = external_read u None n κ _ (back_words k (external_rest None κ) h)

  back_whole : (k : Class) (κ : AUnit → Stack) → OfStep (Externals.whole_step k t κ) n ts u → Yields (Want Whole κ) n (read (Externals.whole_step k t κ) k t n ∷ ts) u
  back_whole c.End κ h = record { item = record { externals = []; end = t.at }; rest = ts; is = (refl, tt); onwards = h }
  back_whole k κ h = whole_read u n κ _ (back_external k (λ x. Want Whole (λ v. κ (before x v))) h)

  pub turned : (g : Goal) (k : Class) → class_of t.kind ≡ k → (κ : Val g → Stack) → OfTurn (turn g k t n κ) κ k t n ts u → Yields (Want g κ) n (lead (turn g k t n κ) κ k t n ∷ ts) u
  turned Expr k e κ h = back_expr k e κ h
  turned (Commas l) k e κ h = back_commas k l κ h
  turned Assign k e κ h = back_assign k e κ h
  turned Cond k e κ h = back_cond k e κ h
  turned Cast k e κ h = back_cast k e κ h
  turned Unary k e κ h = back_unary k e κ h
  turned Primary k e κ h = back_primary k κ h
  turned Parens k e κ h = back_parens k κ h
  turned (CallTail f at) k e κ h = back_call k f at κ h
  turned (PostTail l) k e κ h = back_post k e l κ h
  turned Ended k e κ h = back_ended k κ h
  turned (Tail true l) k e κ h = back_bare_tail k e l κ h
  turned (Tail false l) k e κ h = back_tail k e l κ h
  turned (First o m) k e κ h = back_first k e o m κ h
  turned (Group o m) k e κ h = back_group k e o m κ h
  turned (SizeofTail at) k e κ h = back_sizeof k e at κ h
  turned (SizeofGroup at o m) k e κ h = back_sizeof_group k e at o m κ h
  turned Arguments k e κ h = back_arguments k e κ h
  turned MoreArguments k e κ h = back_more_arguments k κ h
  turned (Back m) k e κ h = h
  turned WantParen k e κ h = back_want_paren k κ h
  turned WantBracket k e κ h = back_want_bracket k κ h
  turned WantColon k e κ h = back_want_colon k κ h
  turned WantSemi k e κ h = back_want_semi k κ h
  turned WantWhile k e κ h = back_want_while k κ h
  turned TypeWords k e κ h = back_words k κ h
  turned AfterShort k e κ h = back_short k κ h
  turned (AfterUnsigned at) k e κ h = back_unsigned k at κ h
  turned Stars k e κ h = back_stars k κ h
  turned Condition k e κ h = back_condition k κ h
  turned Simple k e κ h = back_simple k e κ h
  turned Statement k e κ h = back_statement k e κ h
  turned Items k e κ h = back_items k e κ h
  turned PartSemi k e κ h = back_part_semi k e κ h
  turned PartParen k e κ h = back_part_paren k e κ h
  turned ForOpen k e κ h = back_for_open k κ h
  turned (ElsePart at o v s) k e κ h = back_else k e at o v s κ h
  turned Local k e κ h = back_local k κ h
  turned (DeclaratorName ats) k e κ h = back_declarator_name k ats κ h
  turned ArrayPart k e κ h = back_array k κ h
  turned Length k e κ h = back_length k e κ h
  turned InitPart k e κ h = back_init_part k κ h
  turned Init k e κ h = back_init k e κ h
  turned Elements k e κ h = back_elements k e κ h
  turned InitMore k e κ h = back_init_more k κ h
  turned InitNext k e κ h = back_init_next k e κ h
  turned MoreDeclarators k e κ h = back_more_declarators k κ h
  turned (DeclaredName ats) k e κ h = back_declared_name k ats κ h
  turned (AfterName ats f at) k e κ h = back_after_name k ats f at κ h
  turned Body k e κ h = back_body k κ h
  turned Params k e κ h = back_params k κ h
  turned OptName k e κ h = back_opt_name k κ h
  turned MoreParams k e κ h = back_more_params k κ h
  turned External k e κ h = back_external k κ h
  turned Whole k e κ h = back_whole k κ h
