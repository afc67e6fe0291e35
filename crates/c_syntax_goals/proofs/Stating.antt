-- Declarations, statements and units are read by what is to be read.
use Rattle.std.proofs.Common.{◌≡◌, ◌≢◌, ℕ, ◌+◌, ◌≤◌, List, [], ◌∷◌, length, refl, sym, ap, subst, ◌∙◌, arith, inl, inr}
use Rattle.std.specs.Prelude.{Option, Some, None, Bool, true, false, Ok}
use Rattle.c_tokens.specs.declared.token.Token.{Token}
use Rattle.c_tokens.specs.declared.token.Token.TheVariants as token
use Rattle.c_tokens.specs.declared.words.Key.TheVariants as keys
use Rattle.c_tokens.specs.declared.marks.Mark.{Mark}
use Rattle.c_tokens.specs.declared.marks.Mark.TheVariants as marks
use Rattle.c_phrases.specs.declared.operator.Spec.{Spec}
use Rattle.c_phrases.specs.declared.operator.Spec.TheVariants as specs
use Rattle.c_phrases.specs.declared.operator.Storage.{Storage}
use Rattle.c_phrases.specs.declared.operator.Storage.TheVariants as storages
use Rattle.c_phrases.specs.declared.tree.Named.{Named}
use Rattle.c_phrases.specs.Classes.{Placed, Class, class_of, mark_class, word, sign}
use Rattle.c_phrases.specs.Classes as c
use Rattle.c_phrases.specs.Phrases.{AnExp, SomeExps, no_exps, exps, after_exp, IsAt, AllAt}
use Rattle.c_phrases.specs.Spelling.{onto_spec, onto_stars, onto_name, onto_exp, onto_first, onto_others}
use Rattle.c_phrases.specs.Levels.{LowExps}
use Rattle.c_phrases.specs.Units.{ALength, AnInit, value, elements, AnInitialised, ADeclarator, ALocal, AStatement}
use Rattle.c_phrases.specs.Units.{block, empty, expression, break_off, continue_on, give_back, if_then, if_else}
use Rattle.c_phrases.specs.Units.{while_loop, do_loop, for_loop, SomeItems, no_items, local_item, statement_item}
use Rattle.c_phrases.specs.Units.{AParam, SomeParams, no_params, void_word, params, ADeclared, function}
use Rattle.c_phrases.specs.Units.{globals, AnExternal, AUnit}
use Rattle.c_phrases.specs.UnitSpelling.{onto_part, onto_length, onto_trailing, onto_init, onto_initialised}
use Rattle.c_phrases.specs.UnitSpelling.{onto_declarator, onto_more_declarators, onto_declarators, onto_storage}
use Rattle.c_phrases.specs.UnitSpelling.{onto_local, onto_condition, onto_statement, onto_items, onto_named}
use Rattle.c_phrases.specs.UnitSpelling.{onto_param, onto_more_params, onto_param_list, onto_params, onto_body}
use Rattle.c_phrases.specs.UnitSpelling.{onto_declared, onto_static, onto_external, onto_externals, unit_tokens}
use Rattle.c_phrases.specs.Fits.{PartFits, LengthFits, IsSome, InitFits, InitialisedFits, DeclaratorFits}
use Rattle.c_phrases.specs.Fits.{DeclaratorsFit, HasDeclarator, LocalFits, IsShut, StatementFits, ItemsFit, ParamFits}
use Rattle.c_phrases.specs.Fits.{ParamsFit, IsBare, SomeParamsFit, BodyFits, DeclaredFits, ExternalsFit}
use Rattle.c_phrases.specs.UnitLevels.{LowPart, LowLength, LowInit, LowInitialised, LowDeclarator, LowDeclarators}
use Rattle.c_phrases.specs.UnitLevels.{LowCondition, LowStatement, LowItems, LowParams, LowSomeParams, LowBody}
use Rattle.c_phrases.specs.UnitLevels.{LowDeclared, LowExternals}
use Rattle.c_phrases.specs.Fronts.{Quiet, IsNot, strength, mark_strength}
use Rattle.c_phrases.specs.Fronts.{StandsBefore, LocalClass, BeginsLocal}
use Rattle.c_syntax_goals.specs.Declarators as Declarators
use Rattle.c_syntax_goals.specs.Externals as Externals
use Rattle.c_syntax_goals.specs.Statements as Statements
use Rattle.c_syntax_goals.specs.Expressions as Expressions
use Rattle.c_syntax_goals.specs.Goals.{Stack, Done, Want, Passes, Expr, Assign, Back}
use Rattle.c_syntax_goals.specs.Goals.{WantBracket, WantParen, WantSemi, WantWhile, TypeWords, Condition}
use Rattle.c_syntax_goals.specs.Goals.{Statement, Items, PartSemi, PartParen, ForOpen, ElsePart, Local}
use Rattle.c_syntax_goals.specs.Goals.{DeclaratorName, ArrayPart, Length, InitPart, Init, Elements, InitMore}
use Rattle.c_syntax_goals.specs.Goals.{InitNext, MoreDeclarators, DeclaredName, AfterName, Body, Params, OptName}
use Rattle.c_syntax_goals.specs.Goals.{MoreParams, External, Whole}
use Rattle.c_syntax_goals.specs.Declarators.{declarator_goals, declarator_behind}
use Rattle.c_syntax_goals.specs.Externals.{globals_behind, param_goals, param_behind, lone_param, some_params}
use Rattle.c_syntax_goals.specs.Externals.{declared_goals, external_rest, before}
use Rattle.c_syntax_goals.specs.Statements.{if_goals, while_goals, do_goals, for_goals, local_rest, item_local}
use Rattle.c_syntax_goals.specs.Expressions.{cond_goals}
use Rattle.c_syntax_goals.specs.Machine.{run, closing, made, pick}
use Rattle.c_syntax_goals.proofs.Tokens.{single, token_of}
use Rattle.c_syntax_goals.proofs.Steps.{step_opens, back, law_stars}
use Rattle.c_syntax_goals.proofs.Going.{StartClass, Starts, starts, not_start, quiet_others, law_words, law_exp, law_assign, law_cond}

-- what stands behind a declarator or a parameter: , ; or )
abbrev pub EndClass : Class → Type 0
EndClass c.Comma = Unit {0}
EndClass c.Semicolon = Unit {0}
EndClass c.CloseParen = Unit {0}
EndClass k = ⊥

abbrev pub Ending : List Placed → Type 0
Ending [] = ⊥
Ending (t ∷ ts) = EndClass (class_of t.kind)

end_quiet : (t : Token) → EndClass (class_of t) → strength t ≤ 1
end_quiet (token.Mark m) h = by m h
  where
    by : (m : Mark) → EndClass (mark_class m) → mark_strength m ≤ 1
    by marks.Comma h = omega arith
    by marks.Semicolon h = omega arith
    by marks.CloseParenthesis h = omega arith
    by m h = absurd h
end_quiet (token.Key k) h = omega arith
end_quiet (token.Name n) h = omega arith
end_quiet (token.Number v) h = omega arith
end_quiet (token.Str b) h = omega arith
end_quiet token.End h = omega arith

ending_quiet : (w : List Placed) → Ending w → Quiet 1 w
ending_quiet [] h = absurd h
ending_quiet (t ∷ ts) h = end_quiet t.kind h

array_by : (k : Class) → (k ≢ c.OpenBracket) → (t : Placed) (n : ℕ) (κ : Option ALength → Stack) → Declarators.array_turn k t n κ ≡ Passes n None
array_by c.OpenBracket h t n κ = absurd (h refl)
array_by k h t n κ = refl

init_by : (k : Class) → (k ≢ c.Equals) → (t : Placed) (n : ℕ) (κ : Option AnInitialised → Stack) → Declarators.init_part_turn k t n κ ≡ Passes n None
init_by c.Equals h t n κ = absurd (h refl)
init_by k h t n κ = refl

pub name_by : (k : Class) → (k ≢ c.Name) → (t : Placed) (n : ℕ) (κ : Option Named → Stack) → Externals.opt_name_turn k t n κ ≡ Passes n None
name_by c.Name h t n κ = absurd (h refl)
name_by k h t n κ = refl

else_by : (k : Class) → (k ≢ c.Else) → (t : Placed) (n at o : ℕ) (e : AnExp) (s : AStatement) (κ : AStatement → Stack) → Statements.else_turn k t n at o e s κ ≡ Passes n (if_then at o e s)
else_by c.Else h t n at o e s κ = absurd (h refl)
else_by k h t n at o e s κ = refl

length_by : (k : Class) → (k ≢ c.CloseBracket) → (t : Placed) (n : ℕ) (κ : Option AnExp → Stack) → Declarators.length_step k t n κ
    ≡ Expressions.cond_step k t n (λ e. Want WantBracket (λ x. κ (Some e)))
length_by c.CloseBracket h t n κ = absurd (h refl)
length_by k h t n κ = refl

init_value_by : (k : Class) → (k ≢ c.OpenBrace) → (t : Placed) (n : ℕ) (κ : AnInit → Stack) → Declarators.init_step k t n κ ≡ Expressions.assign_step k t n (λ a. Want (Back n) (λ x. κ (value a)))
init_value_by c.OpenBrace h t n κ = absurd (h refl)
init_value_by k h t n κ = refl

init_next_by : (k : Class) → (k ≢ c.CloseBrace) → (t : Placed) (n : ℕ) (κ : SomeExps × Bool → Stack) → Declarators.init_next_step k t n κ
    ≡ Expressions.assign_step k t n (λ a. Want (Back n) (λ x. Want InitMore (λ r. κ (exps a r.0, r.1))))
init_next_by c.CloseBrace h t n κ = absurd (h refl)
init_next_by k h t n κ = refl

part_semi_by : (k : Class) → (k ≢ c.Semicolon) → (t : Placed) (n : ℕ) (κ : Option AnExp → Stack) → Statements.part_semi_step k t n κ
    ≡ Expressions.expr_step k t n (λ e. Want (Back n) (λ x. Want WantSemi (λ y. κ (Some e))))
part_semi_by c.Semicolon h t n κ = absurd (h refl)
part_semi_by k h t n κ = refl

part_paren_by : (k : Class) → (k ≢ c.CloseParen) → (t : Placed) (n : ℕ) (κ : Option AnExp → Stack) → Statements.part_paren_step k t n κ
    ≡ Expressions.expr_step k t n (λ e. Want (Back n) (λ x. Want WantParen (λ y. κ (Some e))))
part_paren_by c.CloseParen h t n κ = absurd (h refl)
part_paren_by k h t n κ = refl

after_name_by : (k : Class) → (k ≢ c.OpenParen) → (t : Placed) (n : ℕ) (ats f : List ℕ) (at : ℕ) (κ : ADeclared → Stack) (L : ℕ → Bool) → made L (Externals.after_name_step k t n ats f at κ) n
    ≡ pick L (Declarators.array_turn k t n (λ l. Want InitPart (λ i. globals_behind κ (record { stars = ats; name = f; at = at; length = l; init = i })))) n
    (λ m v. pick L (Declarators.init_part_turn k t m (λ i. globals_behind κ (record { stars = ats; name = f; at = at; length = v; init = i }))) m
    (λ j w. made L (Declarators.more_declarators_step k (λ ds. κ (globals (record { stars = ats; name = f; at = at; length = v; init = w } ∷ ds)))) j))
after_name_by c.OpenParen h t n ats f at κ L = absurd (h refl)
after_name_by k h t n ats f at κ L = refl

not_name : (n : List ℕ) (k : Token) → (class_of k ≡ c.Name → ⊥) → token.Name n ≡ k → ⊥
not_name n k h e = h (ap class_of (sym e))

-- what is spelled between a type's words and a name
stars_no : (ats : List ℕ) (w : List Placed) (k : Token) → (token.Mark marks.Star ≡ k → ⊥) → IsNot k w → IsNot k (onto_stars ats w)
stars_no [] w k h i = i
stars_no (at ∷ ats) w k h i = h

star_int : token.Mark marks.Star ≡ token.Key keys.Int → ⊥
star_int e = absurd (cc)

name_int : (n : List ℕ) → token.Name n ≡ token.Key keys.Int → ⊥
name_int n e = absurd (cc)

name_star : (n : List ℕ) → token.Name n ≡ token.Mark marks.Star → ⊥
name_star n e = absurd (cc)

ending_no : (k : Token) (w : List Placed) → (EndClass (class_of k) → ⊥) → Ending w → IsNot k w
ending_no k [] h e = absurd e
ending_no k (t ∷ ts) h e = λ f. h (subst (λ (x : Token). EndClass (class_of x)) f e)

initialised_no : (i : Option AnInitialised) (w : List Placed) → Ending w → IsNot (token.Mark marks.OpenBracket) (onto_initialised i w)
initialised_no None w e = ending_no (token.Mark marks.OpenBracket) w (λ x. x) e
initialised_no (Some i) w e = λ f. absurd (cc)

length_no : (k : Token) (l : Option ALength) (w : List Placed) → (token.Mark marks.OpenBracket ≡ k → ⊥) → (EndClass (class_of k) → ⊥) → Ending w → IsNot k (onto_length l w)
length_no k None w h i e = ending_no k w i e
length_no k (Some l) w h i e = h

more_ending : (ds : List ADeclarator) (w : List Placed) → Ending (onto_more_declarators ds (sign marks.Semicolon 0 ∷ w))
more_ending [] w = tt
more_ending (d ∷ ds) w = tt

more_params_ending : (ps : List AParam) (w : List Placed) → Ending (onto_more_params ps (sign marks.CloseParenthesis 0 ∷ w))
more_params_ending [] w = tt
more_params_ending (p ∷ ps) w = tt

quiet_trailing : (t : Bool) (w : List Placed) → Quiet 1 (onto_trailing t (sign marks.CloseBrace 0 ∷ w))
quiet_trailing true w = omega arith
quiet_trailing false w = omega arith

abbrev pub after_part : Option AnExp → ℕ → ℕ
after_part None n = n
after_part (Some e) n = after_exp e n

-- what a statement begins with
abbrev pub BeginClass : Class → Type 0
BeginClass c.Static = ⊥
BeginClass c.Register = ⊥
BeginClass c.Int = ⊥
BeginClass c.Char = ⊥
BeginClass c.Void = ⊥
BeginClass c.Short = ⊥
BeginClass c.Unsigned = ⊥
BeginClass c.CloseBrace = ⊥
BeginClass c.Else = ⊥
BeginClass k = Unit {0}

start_begin : (k : Class) → StartClass k → BeginClass k
start_begin c.Static h = absurd h
start_begin c.Register h = absurd h
start_begin c.Int h = absurd h
start_begin c.Char h = absurd h
start_begin c.Void h = absurd h
start_begin c.Short h = absurd h
start_begin c.Unsigned h = absurd h
start_begin c.CloseBrace h = absurd h
start_begin c.Else h = absurd h
start_begin k h = tt

abbrev pub Begins : List Placed → Type 0
Begins [] = ⊥
Begins (t ∷ ts) = BeginClass (class_of t.kind)

starts_begins : (ts : List Placed) → Starts ts → Begins ts
starts_begins [] h = absurd h
starts_begins (t ∷ ts) h = start_begin (class_of t.kind) h

pub begins : (s : AStatement) (w : List Placed) → Begins (onto_statement s w)
begins (block is) w = tt
begins empty w = tt
begins (expression e) w = starts_begins _ (starts e (sign marks.Semicolon 0 ∷ w))
begins (break_off at) w = tt
begins (continue_on at) w = tt
begins (give_back at e) w = tt
begins (if_then at o e s) w = tt
begins (if_else at o e s other t) w = tt
begins (while_loop at o e s) w = tt
begins (do_loop at s again o e) w = tt
begins (for_loop at o a b d s) w = tt

items_by : (k : Class) → BeginClass k → (t : Placed) (n : ℕ) (κ : SomeItems → Stack) → Statements.items_step k t n κ ≡ Statements.statement_step k t n (λ s. Want Items (λ is. κ (statement_item s is)))
items_by c.Static h t n κ = absurd h
items_by c.Register h t n κ = absurd h
items_by c.Int h t n κ = absurd h
items_by c.Char h t n κ = absurd h
items_by c.Void h t n κ = absurd h
items_by c.Short h t n κ = absurd h
items_by c.Unsigned h t n κ = absurd h
items_by c.CloseBrace h t n κ = absurd h
items_by k h t n κ = refl

statement_by : (k : Class) → StartClass k → (t : Placed) (n : ℕ) (κ : AStatement → Stack) → Statements.statement_step k t n κ
    ≡ Expressions.expr_step k t n (λ e. Want (Back n) (λ x. Want WantSemi (λ y. κ (expression e))))
statement_by c.OpenBrace h t n κ = absurd h
statement_by c.If h t n κ = absurd h
statement_by c.While h t n κ = absurd h
statement_by c.Do h t n κ = absurd h
statement_by c.For h t n κ = absurd h
statement_by c.Semicolon h t n κ = absurd h
statement_by c.Break h t n κ = absurd h
statement_by c.Continue h t n κ = absurd h
statement_by c.Return h t n κ = absurd h
statement_by k h t n κ = refl

items_local_by : (k : Class) → LocalClass k → (t : Placed) (n : ℕ) (κ : SomeItems → Stack) → Statements.items_step k t n κ ≡ Statements.local_step k t (item_local κ)
items_local_by c.Static h t n κ = refl
items_local_by c.Register h t n κ = refl
items_local_by c.Int h t n κ = refl
items_local_by c.Char h t n κ = refl
items_local_by c.Void h t n κ = refl
items_local_by c.Short h t n κ = refl
items_local_by c.Unsigned h t n κ = refl
items_local_by k h t n κ = absurd h

spec_local : (s : Spec) (w : List Placed) → BeginsLocal (onto_spec s w)
spec_local (specs.Int at) w = tt
spec_local s w = tt

storage_local : (st : Storage) (s : Spec) (w : List Placed) → BeginsLocal (onto_storage st (onto_spec s w))
storage_local storages.Automatic s w = spec_local s w
storage_local (storages.Static at) s w = tt
storage_local (storages.Register at) s w = tt

items_no_else : (is : SomeItems) (w : List Placed) → IsNot (token.Key keys.Else) (onto_items is (sign marks.CloseBrace 0 ∷ w))
items_no_else no_items w = λ e. absurd (cc)
items_no_else (local_item l is) w = local_no_else _ (storage_local l.storage l.spec _)
  where
    local_no_else : (ts : List Placed) → BeginsLocal ts → IsNot (token.Key keys.Else) ts
    local_no_else [] h = absurd h
    local_no_else (t ∷ ts) h = λ e. subst (λ (x : Token). LocalClass (class_of x)) e h
items_no_else (statement_item s is) w = no_else _ (begins s _)
  where
    no_else : (ts : List Placed) → Begins ts → IsNot (token.Key keys.Else) ts
    no_else [] h = absurd h
    no_else (t ∷ ts) h = λ e. subst (λ (x : Token). BeginClass (class_of x)) e h

while_else : token.Key keys.While ≡ token.Key keys.Else → ⊥
while_else e = absurd (cc)

not_else_of : (s : AStatement) (w : List Placed) → (IsShut s → ⊥) → StandsBefore s w → IsNot (token.Key keys.Else) w
not_else_of s w h (inl i) = absurd (h i)
not_else_of s w h (inr i) = i

lone_is : (s : Spec) (ats : List ℕ) (m : Option Named) (l : Option ALength) → (IsBare (record { spec = s; stars = ats; name = m; length = l }) → ⊥) → lone_param s ats m l
    ≡ params (record { spec = s; stars = ats; name = m; length = l } ∷ [])
lone_is (specs.Void at) [] None None h = absurd (h (tt, (refl, (refl, refl))))
lone_is (specs.Void at) [] None (Some l) h = refl
lone_is (specs.Void at) [] (Some m) l h = refl
lone_is (specs.Void at) (a ∷ ats) m l h = refl
lone_is s ats m l h = refl

module _ (L : ℕ → Bool) where
  -- parts that may be missing
  pub pass_array : (n : ℕ) (κ : Option ALength → Stack) (ts : List Placed) → IsNot (token.Mark marks.OpenBracket) ts → run L (Want ArrayPart κ) n ts ≡ run L (κ None) n ts
  pass_array n κ [] h = refl
  pass_array n κ (t ∷ ts) h = rw (array_by (class_of t.kind) (λ e. h (single t.kind (token.Mark marks.OpenBracket) (ap token_of e))) t n κ) refl

  pub pass_init : (n : ℕ) (κ : Option AnInitialised → Stack) (ts : List Placed) → IsNot (token.Mark marks.Assign) ts → run L (Want InitPart κ) n ts ≡ run L (κ None) n ts
  pass_init n κ [] h = refl
  pass_init n κ (t ∷ ts) h = rw (init_by (class_of t.kind) (λ e. h (single t.kind (token.Mark marks.Assign) (ap token_of e))) t n κ) refl

  pub pass_else : (n at o : ℕ) (e : AnExp) (s : AStatement) (κ : AStatement → Stack) (ts : List Placed) → IsNot (token.Key keys.Else) ts → run L (Want (ElsePart at o e s) κ) n ts
      ≡ run L (κ (if_then at o e s)) n ts
  pass_else n at o e s κ [] h = refl
  pass_else n at o e s κ (t ∷ ts) h = rw (else_by (class_of t.kind) (λ e. h (single t.kind (token.Key keys.Else) (ap token_of e))) t n at o e s κ) refl

  pub expand_length : (n : ℕ) (κ : Option AnExp → Stack) (ts : List Placed) → IsNot (token.Mark marks.CloseBracket) ts → run L (Want Length κ) n ts
      ≡ run L (cond_goals (λ e. Want WantBracket (λ x. κ (Some e)))) n ts
  expand_length n κ [] h = refl
  expand_length n κ (t ∷ ts) h = rw (length_by (class_of t.kind) (λ e. h (single t.kind (token.Mark marks.CloseBracket) (ap token_of e))) t n κ) refl

  pub expand_init : (n : ℕ) (κ : AnInit → Stack) (ts : List Placed) → IsNot (token.Mark marks.OpenBrace) ts → run L (Want Init κ) n ts
      ≡ run L (Want Assign (λ a. Want (Back n) (λ x. κ (value a)))) n ts
  expand_init n κ [] h = refl
  expand_init n κ (t ∷ ts) h = rw (init_value_by (class_of t.kind) (λ e. h (single t.kind (token.Mark marks.OpenBrace) (ap token_of e))) t n κ) refl

  pub expand_elements : (n : ℕ) (κ : AnInit → Stack) (ts : List Placed) → run L (Want Elements κ) n ts
      ≡ run L (Want Assign (λ a. Want (Back n) (λ x. Want InitMore (λ r. κ (elements (exps a r.0) r.1))))) n ts
  expand_elements n κ [] = refl
  expand_elements n κ (t ∷ ts) = refl

  pub expand_next : (n : ℕ) (κ : SomeExps × Bool → Stack) (ts : List Placed) → IsNot (token.Mark marks.CloseBrace) ts → run L (Want InitNext κ) n ts
      ≡ run L (Want Assign (λ a. Want (Back n) (λ x. Want InitMore (λ r. κ (exps a r.0, r.1))))) n ts
  expand_next n κ [] h = refl
  expand_next n κ (t ∷ ts) h = rw (init_next_by (class_of t.kind) (λ e. h (single t.kind (token.Mark marks.CloseBrace) (ap token_of e))) t n κ) refl

  pub expand_semi : (n : ℕ) (κ : Option AnExp → Stack) (ts : List Placed) → IsNot (token.Mark marks.Semicolon) ts → run L (Want PartSemi κ) n ts
      ≡ run L (Want Expr (λ e. Want (Back n) (λ x. Want WantSemi (λ y. κ (Some e))))) n ts
  expand_semi n κ [] h = refl
  expand_semi n κ (t ∷ ts) h = rw (part_semi_by (class_of t.kind) (λ e. h (single t.kind (token.Mark marks.Semicolon) (ap token_of e))) t n κ) refl

  pub expand_paren : (n : ℕ) (κ : Option AnExp → Stack) (ts : List Placed) → IsNot (token.Mark marks.CloseParenthesis) ts → run L (Want PartParen κ) n ts
      ≡ run L (Want Expr (λ e. Want (Back n) (λ x. Want WantParen (λ y. κ (Some e))))) n ts
  expand_paren n κ [] h = refl
  expand_paren n κ (t ∷ ts) h = rw (part_paren_by (class_of t.kind) (λ e. h (single t.kind (token.Mark marks.CloseParenthesis) (ap token_of e))) t n κ) refl

  pub expand_after_name : (n : ℕ) (ats f : List ℕ) (at : ℕ) (κ : ADeclared → Stack) (ts : List Placed) → IsNot (token.Mark marks.OpenParenthesis) ts
      → run L (Want (AfterName ats f at) κ) n ts ≡ run L (declarator_behind ats f at (globals_behind κ)) n ts
  expand_after_name n ats f at κ [] h = refl
  expand_after_name n ats f at κ (t ∷ ts) h = rw (after_name_by (class_of t.kind) (λ e. h (single t.kind (token.Mark marks.OpenParenthesis) (ap token_of e))) t n ats f at κ L) refl

  pub expand_items : (n : ℕ) (κ : SomeItems → Stack) (ts : List Placed) → Begins ts → run L (Want Items κ) n ts ≡ run L (Want Statement (λ s. Want Items (λ is. κ (statement_item s is)))) n ts
  expand_items n κ [] h = absurd h
  expand_items n κ (t ∷ ts) h = rw (items_by (class_of t.kind) h t n κ) refl

  pub expand_local : (n : ℕ) (κ : SomeItems → Stack) (ts : List Placed) → BeginsLocal ts → run L (Want Items κ) n ts ≡ run L (Want Local (item_local κ)) n ts
  expand_local n κ [] h = absurd h
  expand_local n κ (t ∷ ts) h = rw (items_local_by (class_of t.kind) h t n κ) refl

  expand_statement : (n : ℕ) (κ : AStatement → Stack) (ts : List Placed) → Starts ts → run L (Want Statement κ) n ts
      ≡ run L (Want Expr (λ e. Want (Back n) (λ x. Want WantSemi (λ y. κ (expression e))))) n ts
  expand_statement n κ [] h = absurd h
  expand_statement n κ (t ∷ ts) h = rw (statement_by (class_of t.kind) h t n κ) refl

  -- lengths and initialisers
  law_length : (v : Option AnExp) (κ : Option AnExp → Stack) (n : ℕ) (w : List Placed) → PartFits 2 v → LowPart L v n
      → run L (Want Length κ) n (onto_part v (sign marks.CloseBracket 0 ∷ w)) ≡ run L (κ v) (after_part v n) w
  law_length None κ n w at low = refl
  law_length (Some e) κ n w at low =
      expand_length n κ _ (not_start (token.Mark marks.CloseBracket) _ (λ x. x) (starts e _))
      ∙ law_cond L e (λ e. Want WantBracket (λ x. κ (Some e))) n (sign marks.CloseBracket 0 ∷ w) at low (omega arith)

  pub law_array : (l : Option ALength) (κ : Option ALength → Stack) (n : ℕ) (w : List Placed) → LengthFits l → LowLength L l n → IsNot (token.Mark marks.OpenBracket) w
      → run L (Want ArrayPart κ) n (onto_length l w) ≡ run L (κ l) n w
  law_array None κ n w at low h = pass_array n κ w h
  law_array (Some l) κ n w at low h =
      let next : Option AnExp → Stack = λ e. Want (Back n) (λ x. κ (Some (record { opened = l.opened; value = e }))) in
      step_opens L ArrayPart κ (sign marks.OpenBracket l.opened) n 1 (Want Length next) _ refl low.0
      ∙ law_length l.value next (n + 1) w at low.1
      ∙ back L n (after_part l.value (n + 1)) (λ x. κ (Some l)) w

  pub law_init_more : (es : SomeExps) (t : Bool) (κ : SomeExps × Bool → Stack) (n : ℕ) (w : List Placed) → AllAt es → LowExps L es n
      → run L (Want InitMore κ) n (onto_others es (onto_trailing t (sign marks.CloseBrace 0 ∷ w))) ≡ run L (κ (es, t)) n w
  law_init_more no_exps true κ n w at low = refl
  law_init_more no_exps false κ n w at low = refl
  law_init_more (exps e es) t κ n w at low =
      let v : List Placed = onto_others es (onto_trailing t (sign marks.CloseBrace 0 ∷ w)) in
      expand_next n κ (onto_exp e v) (not_start (token.Mark marks.CloseBrace) _ (λ x. x) (starts e v))
      ∙ law_assign L e (λ a. Want (Back n) (λ x. Want InitMore (λ r. κ (exps a r.0, r.1)))) n v at.0 low.0 (quiet_others es _ (quiet_trailing t w))
      ∙ back L n (after_exp e n) (λ x. Want InitMore (λ r. κ (exps e r.0, r.1))) v
      ∙ law_init_more es t (λ r. κ (exps e r.0, r.1)) n w at.1 low.1

  law_elements : (es : SomeExps) (t : Bool) (κ : AnInit → Stack) (n : ℕ) (w : List Placed) → IsSome es → AllAt es → LowExps L es n
      → run L (Want Elements κ) n (onto_first es (onto_trailing t (sign marks.CloseBrace 0 ∷ w))) ≡ run L (κ (elements es t)) n w
  law_elements no_exps t κ n w h at low = absurd h
  law_elements (exps e es) t κ n w h at low =
      let v : List Placed = onto_others es (onto_trailing t (sign marks.CloseBrace 0 ∷ w)) in
      expand_elements n κ (onto_exp e v)
      ∙ law_assign L e (λ a. Want (Back n) (λ x. Want InitMore (λ r. κ (elements (exps a r.0) r.1)))) n v at.0 low.0 (quiet_others es _ (quiet_trailing t w))
      ∙ back L n (after_exp e n) (λ x. Want InitMore (λ r. κ (elements (exps e r.0) r.1))) v
      ∙ law_init_more es t (λ r. κ (elements (exps e r.0) r.1)) n w at.1 low.1

  pub law_elements_init : (es : SomeExps) (t : Bool) (κ : AnInit → Stack) (n : ℕ) (w : List Placed) → InitFits (elements es t) → LowInit L (elements es t) n
      → run L (Want Init κ) n (onto_init (elements es t) w) ≡ run L (κ (elements es t)) n w
  law_elements_init es t κ n w at low =
      step_opens L Init κ (sign marks.OpenBrace 0) n 1 (Want Elements (λ i. Want (Back n) (λ x. κ i))) _ refl low.0
      ∙ law_elements es t (λ i. Want (Back n) (λ x. κ i)) (n + 1) w at.0 at.1 low.1
      ∙ back L n (n + 1) (λ x. κ (elements es t)) w

  pub law_init : (i : AnInit) (κ : AnInit → Stack) (n : ℕ) (w : List Placed) → InitFits i → LowInit L i n → Quiet 1 w → run L (Want Init κ) n (onto_init i w) ≡ run L (κ i) n w
  law_init (value e) κ n w at low q =
      expand_init n κ (onto_exp e w) (not_start (token.Mark marks.OpenBrace) _ (λ x. x) (starts e w))
      ∙ law_assign L e (λ a. Want (Back n) (λ x. κ (value a))) n w at low q
      ∙ back L n (after_exp e n) (λ x. κ (value e)) w
  law_init (elements es t) κ n w at low q = law_elements_init es t κ n w at low

  pub law_initialised : (i : Option AnInitialised) (κ : Option AnInitialised → Stack) (n : ℕ) (w : List Placed) → InitialisedFits i → LowInitialised L i n → Ending w
      → run L (Want InitPart κ) n (onto_initialised i w) ≡ run L (κ i) n w
  law_initialised None κ n w at low h = pass_init n κ w (ending_no (token.Mark marks.Assign) w (λ x. x) h)
  law_initialised (Some i) κ n w at low h = law_init i.with_init (λ v. κ (Some (record { at = i.at; with_init = v }))) n w at low (ending_quiet w h)

  -- declarators
  pub law_behind : (d : ADeclarator) (κ : ADeclarator → Stack) (n : ℕ) (w : List Placed) → DeclaratorFits d → LowDeclarator L d n → Ending w
      → run L (declarator_behind d.stars d.name d.at κ) n (onto_length d.length (onto_initialised d.init w)) ≡ run L (κ d) n w
  law_behind d κ n w at low h =
      law_array d.length (λ l. Want InitPart (λ i. κ (record { stars = d.stars; name = d.name; at = d.at; length = l; init = i }))) n _ at.0 low.0 (initialised_no d.init w h)
      ∙ law_initialised d.init (λ i. κ (record { stars = d.stars; name = d.name; at = d.at; length = d.length; init = i })) n w at.1 low.1 h

  pub law_declarator : (d : ADeclarator) (κ : ADeclarator → Stack) (n : ℕ) (w : List Placed) → DeclaratorFits d → LowDeclarator L d n → Ending w
      → run L (declarator_goals κ) n (onto_declarator d w) ≡ run L (κ d) n w
  law_declarator d κ n w at low h =
      law_stars L d.stars (onto_name d.name d.at (onto_length d.length (onto_initialised d.init w))) (name_star d.name) n (λ ats. Want (DeclaratorName ats) κ)
      ∙ law_behind d κ n w at low h

  pub law_more_declarators : (ds : List ADeclarator) (κ : List ADeclarator → Stack) (n : ℕ) (w : List Placed) → DeclaratorsFit ds → LowDeclarators L ds n
      → run L (Want MoreDeclarators κ) n (onto_more_declarators ds (sign marks.Semicolon 0 ∷ w)) ≡ run L (κ ds) n w
  law_more_declarators [] κ n w at low = refl
  law_more_declarators (d ∷ ds) κ n w at low =
      law_declarator d (λ x. Want MoreDeclarators (λ xs. κ (x ∷ xs))) n (onto_more_declarators ds (sign marks.Semicolon 0 ∷ w)) at.0 low.0 (more_ending ds w)
      ∙ law_more_declarators ds (λ xs. κ (d ∷ xs)) n w at.1 low.1

  law_declarators : (ds : List ADeclarator) (κ : List ADeclarator → Stack) (n : ℕ) (w : List Placed) → HasDeclarator ds → DeclaratorsFit ds → LowDeclarators L ds n
      → run L (declarator_goals (λ x. Want MoreDeclarators (λ xs. κ (x ∷ xs)))) n (onto_declarators ds (sign marks.Semicolon 0 ∷ w)) ≡ run L (κ ds) n w
  law_declarators [] κ n w h at low = absurd h
  law_declarators (d ∷ ds) κ n w h at low =
      law_declarator d (λ x. Want MoreDeclarators (λ xs. κ (x ∷ xs))) n (onto_more_declarators ds (sign marks.Semicolon 0 ∷ w)) at.0 low.0 (more_ending ds w)
      ∙ law_more_declarators ds (λ xs. κ (d ∷ xs)) n w at.1 low.1

  declarator_no_int : (ds : List ADeclarator) (w : List Placed) → HasDeclarator ds → IsNot (token.Key keys.Int) (onto_declarators ds w)
  declarator_no_int [] w h = absurd h
  declarator_no_int (d ∷ ds) w h = stars_no d.stars (onto_name d.name d.at (onto_length d.length (onto_initialised d.init (onto_more_declarators ds w)))) (token.Key keys.Int) star_int
      (name_int d.name)

  local_words : (s : Spec) (κ : ALocal → Stack) (n : ℕ) (w : List Placed) → run L (Want Local κ) n (onto_spec s w) ≡ run L (Want TypeWords (local_rest storages.Automatic κ)) n (onto_spec s w)
  local_words (specs.Int at) κ n w = refl
  local_words s κ n w = refl

  local_storage : (st : Storage) (s : Spec) (κ : ALocal → Stack) (n : ℕ) (w : List Placed) → run L (Want Local κ) n (onto_storage st (onto_spec s w))
      ≡ run L (Want TypeWords (local_rest st κ)) n (onto_spec s w)
  local_storage storages.Automatic s κ n w = local_words s κ n w
  local_storage (storages.Static at) s κ n w = refl
  local_storage (storages.Register at) s κ n w = refl

  pub law_local : (l : ALocal) (κ : ALocal → Stack) (n : ℕ) (w : List Placed) → LocalFits l → LowDeclarators L l.declarators n → run L (Want Local κ) n (onto_local l w) ≡ run L (κ l) n w
  law_local l κ n w at low =
      let v : List Placed = onto_declarators l.declarators (sign marks.Semicolon 0 ∷ w) in
      local_storage l.storage l.spec κ n v
      ∙ law_words L l.spec v (declarator_no_int l.declarators (sign marks.Semicolon 0 ∷ w) at.0) n (local_rest l.storage κ)
      ∙ law_declarators l.declarators (λ ds. κ (record { storage = l.storage; spec = l.spec; declarators = ds })) n w at.0 at.1 low

  -- statements
  pub law_condition : (o : ℕ) (e : AnExp) (κ : ℕ × AnExp → Stack) (n : ℕ) (w : List Placed) → IsAt 0 e → LowCondition L e n → run L (Want Condition κ) n (onto_condition o e w) ≡ run L (κ (o, e)) n w
  law_condition o e κ n w at low =
      let next : AnExp → Stack = λ x. Want WantParen (λ y. Want (Back n) (λ z. κ (o, x))) in
      step_opens L Condition κ (sign marks.OpenParenthesis o) n 1 (Want Expr next) _ refl low.0
      ∙ law_exp L e next (n + 1) (sign marks.CloseParenthesis 0 ∷ w) at low.1 (omega arith)
      ∙ back L n (after_exp e (n + 1)) (λ z. κ (o, e)) w

  pub law_semi : (e : Option AnExp) (κ : Option AnExp → Stack) (n : ℕ) (w : List Placed) → PartFits 0 e → LowPart L e n
      → run L (Want PartSemi κ) n (onto_part e (sign marks.Semicolon 0 ∷ w)) ≡ run L (κ e) n w
  law_semi None κ n w at low = refl
  law_semi (Some e) κ n w at low =
      let next : AnExp → Stack = λ x. Want (Back n) (λ y. Want WantSemi (λ z. κ (Some x))) in
      expand_semi n κ _ (not_start (token.Mark marks.Semicolon) _ (λ x. x) (starts e _))
      ∙ law_exp L e next n (sign marks.Semicolon 0 ∷ w) at low (omega arith)
      ∙ back L n (after_exp e n) (λ y. Want WantSemi (λ z. κ (Some e))) (sign marks.Semicolon 0 ∷ w)

  pub law_paren : (e : Option AnExp) (κ : Option AnExp → Stack) (n : ℕ) (w : List Placed) → PartFits 0 e → LowPart L e n
      → run L (Want PartParen κ) n (onto_part e (sign marks.CloseParenthesis 0 ∷ w)) ≡ run L (κ e) n w
  law_paren None κ n w at low = refl
  law_paren (Some e) κ n w at low =
      let next : AnExp → Stack = λ x. Want (Back n) (λ y. Want WantParen (λ z. κ (Some x))) in
      expand_paren n κ _ (not_start (token.Mark marks.CloseParenthesis) _ (λ x. x) (starts e _))
      ∙ law_exp L e next n (sign marks.CloseParenthesis 0 ∷ w) at low (omega arith)
      ∙ back L n (after_exp e n) (λ y. Want WantParen (λ z. κ (Some e))) (sign marks.CloseParenthesis 0 ∷ w)

  mutual
    pub law_statement : (s : AStatement) (κ : AStatement → Stack) (n : ℕ) (w : List Placed) → StatementFits s → LowStatement L s n → StandsBefore s w
        → run L (Want Statement κ) n (onto_statement s w) ≡ run L (κ s) n w
    law_statement (block is) κ n w at low h =
        step_opens L Statement κ (sign marks.OpenBrace 0) n 1 (Want Items (λ js. Want (Back n) (λ x. κ (block js)))) _ refl low.0
        ∙ law_items is (λ js. Want (Back n) (λ x. κ (block js))) (n + 1) w at low.1
        ∙ back L n (n + 1) (λ x. κ (block is)) w
    law_statement empty κ n w at low h = refl
    law_statement (expression e) κ n w at low h =
        expand_statement n κ (onto_exp e (sign marks.Semicolon 0 ∷ w)) (starts e (sign marks.Semicolon 0 ∷ w))
        ∙ law_exp L e (λ x. Want (Back n) (λ y. Want WantSemi (λ z. κ (expression x)))) n (sign marks.Semicolon 0 ∷ w) at low (omega arith)
        ∙ back L n (after_exp e n) (λ y. Want WantSemi (λ z. κ (expression e))) (sign marks.Semicolon 0 ∷ w)
    law_statement (break_off p) κ n w at low h = refl
    law_statement (continue_on p) κ n w at low h = refl
    law_statement (give_back p e) κ n w at low h = law_semi e (λ x. κ (give_back p x)) n w at low
    law_statement (if_then p o e s) κ n w at low h =
        let out : AStatement → Stack = λ r. Want (Back n) (λ x. κ r) in
        let i : IsNot (token.Key keys.Else) w = not_else_of (if_then p o e s) w (λ x. x) h in
        step_opens L Statement κ (word keys.If p) n 1 (if_goals p out) _ refl low.0
        ∙ law_condition o e (λ g. Want Statement (λ r. Want (ElsePart p g.0 g.1 r) out)) (n + 1) (onto_statement s w) at.0 low.1.0
        ∙ law_statement s (λ r. Want (ElsePart p o e r) out) (n + 1) w at.1 low.1.1 (inr i)
        ∙ pass_else (n + 1) p o e s out w i
        ∙ back L n (n + 1) (λ x. κ (if_then p o e s)) w
    law_statement (if_else p o e s q t) κ n w at low h =
        let out : AStatement → Stack = λ r. Want (Back n) (λ x. κ r) in
        step_opens L Statement κ (word keys.If p) n 1 (if_goals p out) _ refl low.0
        ∙ law_condition o e (λ g. Want Statement (λ r. Want (ElsePart p g.0 g.1 r) out)) (n + 1) _ at.0 low.1.0
        ∙ law_statement s (λ r. Want (ElsePart p o e r) out) (n + 1) (word keys.Else q ∷ onto_statement t w) at.1.0 low.1.1.0 (inl at.1.1.0)
        ∙ law_statement t (λ r. out (if_else p o e s q r)) (n + 1) w at.1.1.1 low.1.1.1 h
        ∙ back L n (n + 1) (λ x. κ (if_else p o e s q t)) w
    law_statement (while_loop p o e s) κ n w at low h =
        let out : AStatement → Stack = λ r. Want (Back n) (λ x. κ r) in
        step_opens L Statement κ (word keys.While p) n 1 (while_goals p out) _ refl low.0
        ∙ law_condition o e (λ g. Want Statement (λ r. out (while_loop p g.0 g.1 r))) (n + 1) (onto_statement s w) at.0 low.1.0
        ∙ law_statement s (λ r. out (while_loop p o e r)) (n + 1) w at.1 low.1.1 h
        ∙ back L n (n + 1) (λ x. κ (while_loop p o e s)) w
    law_statement (do_loop p s q o e) κ n w at low h =
        let out : AStatement → Stack = λ r. Want (Back n) (λ x. κ r) in
        step_opens L Statement κ (word keys.Do p) n 1 (do_goals p out) _ refl low.0
        ∙ law_statement s (λ r. Want WantWhile (λ v. Want Condition (λ g. Want WantSemi (λ x. out (do_loop p r v g.0 g.1))))) (n + 1) _ at.1 low.1.0 (inr while_else)
        ∙ law_condition o e (λ g. Want WantSemi (λ x. out (do_loop p s q g.0 g.1))) (n + 1) (sign marks.Semicolon 0 ∷ w) at.0 low.1.1
        ∙ back L n (n + 1) (λ x. κ (do_loop p s q o e)) w
    law_statement (for_loop p o a b d s) κ n w at low h =
        let out : AStatement → Stack = λ r. Want (Back n) (λ x. κ r) in
        let last : Option AnExp → Option AnExp → Option AnExp → Stack = λ x y z. Want (Back (n + 1)) (λ v. Want Statement (λ r. out (for_loop p o x y z r))) in
        step_opens L Statement κ (word keys.For p) n 1 (for_goals p (n + 1) out) _ refl low.0
        ∙ step_opens L ForOpen (λ g. Want PartSemi (λ x. Want PartSemi (λ y. Want PartParen (λ z. Want (Back (n + 1)) (λ v. Want Statement (λ r. out (for_loop p g x y z r)))))))
        (sign marks.OpenParenthesis o) (n + 1) 1 (Want PartSemi (λ x. Want PartSemi (λ y. Want PartParen (last x y)))) _ refl low.1.0
        ∙ law_semi a (λ x. Want PartSemi (λ y. Want PartParen (last x y))) (n + 1 + 1) _ at.0 low.1.1.0
        ∙ law_semi b (λ y. Want PartParen (last a y)) (n + 1 + 1) _ at.1.0 low.1.1.1.0
        ∙ law_paren d (last a b) (n + 1 + 1) (onto_statement s w) at.1.1.0 low.1.1.1.1.0
        ∙ back L (n + 1) (n + 1 + 1) (λ v. Want Statement (λ r. out (for_loop p o a b d r))) (onto_statement s w)
        ∙ law_statement s (λ r. out (for_loop p o a b d r)) (n + 1) w at.1.1.1 low.1.1.1.1.1 h
        ∙ back L n (n + 1) (λ x. κ (for_loop p o a b d s)) w

    pub law_items : (is : SomeItems) (κ : SomeItems → Stack) (n : ℕ) (w : List Placed) → ItemsFit is → LowItems L is n
        → run L (Want Items κ) n (onto_items is (sign marks.CloseBrace 0 ∷ w)) ≡ run L (κ is) n w
    law_items no_items κ n w at low = refl
    law_items (local_item l is) κ n w at low =
        let v : List Placed = onto_items is (sign marks.CloseBrace 0 ∷ w) in
        expand_local n κ (onto_local l v) (storage_local l.storage l.spec _)
        ∙ law_local l (item_local κ) n v at.0 low.0
        ∙ law_items is (λ js. κ (local_item l js)) n w at.1 low.1
    law_items (statement_item s is) κ n w at low =
        let v : List Placed = onto_items is (sign marks.CloseBrace 0 ∷ w) in
        expand_items n κ (onto_statement s v) (begins s v)
        ∙ law_statement s (λ r. Want Items (λ js. κ (statement_item r js))) n v at.0 low.0 (inr (items_no_else is w))
        ∙ law_items is (λ js. κ (statement_item s js)) n w at.1 low.1

  -- parameters
  pub pass_name : (n : ℕ) (κ : Option Named → Stack) (ts : List Placed) → ((t : Placed) (us : List Placed) → ts ≡ t ∷ us → class_of t.kind ≢ c.Name) → run L (Want OptName κ) n ts ≡ run L (κ None) n ts
  pass_name n κ [] h = refl
  pass_name n κ (t ∷ ts) h = rw (name_by (class_of t.kind) (h t ts refl) t n κ) refl

  length_no_name : (l : Option ALength) (w : List Placed) → Ending w → (t : Placed) (us : List Placed) → onto_length l w ≡ t ∷ us → class_of t.kind ≢ c.Name
  length_no_name None w e t us f = λ g. by (subst Ending f e) g
    where
      by : EndClass (class_of t.kind) → class_of t.kind ≡ c.Name → ⊥
      by h g = subst EndClass g h
  length_no_name (Some l) w e t us f = λ g. by f g
    where
      by : onto_length (Some l) w ≡ t ∷ us → class_of t.kind ≡ c.Name → ⊥
      by f g = absurd (cc)

  law_named : (m : Option Named) (l : Option ALength) (κ : Option Named → Stack) (n : ℕ) (w : List Placed) → Ending w → run L (Want OptName κ) n (onto_named m (onto_length l w))
      ≡ run L (κ m) n (onto_length l w)
  law_named None l κ n w h = pass_name n κ (onto_length l w) (length_no_name l w h)
  law_named (Some m) l κ n w h = refl

  named_no : (k : Token) (m : Option Named) (l : Option ALength) (w : List Placed) → (class_of k ≡ c.Name → ⊥) → (token.Mark marks.OpenBracket ≡ k → ⊥) → (EndClass (class_of k) → ⊥)
      → Ending w → IsNot k (onto_named m (onto_length l w))
  named_no k None l w f g h e = length_no k l w g h e
  named_no k (Some m) l w f g h e = not_name m.name k f

  law_param_behind : (p : AParam) (κ : AParam → Stack) (n : ℕ) (w : List Placed) → ParamFits p → LowLength L p.length n → Ending w
      → run L (param_behind p.spec κ) n (onto_stars p.stars (onto_named p.name (onto_length p.length w))) ≡ run L (κ p) n w
  law_param_behind p κ n w at low h =
      law_stars L p.stars _ (named_no (token.Mark marks.Star) p.name p.length w (λ e. absurd (cc)) (λ e. absurd (cc)) (λ x. x) h) n
      (λ ats. Want OptName (λ m. Want ArrayPart (λ l. κ (record { spec = p.spec; stars = ats; name = m; length = l }))))
      ∙ law_named p.name p.length (λ m. Want ArrayPart (λ l. κ (record { spec = p.spec; stars = p.stars; name = m; length = l }))) n w h
      ∙ law_array p.length (λ l. κ (record { spec = p.spec; stars = p.stars; name = p.name; length = l })) n w at low (ending_no (token.Mark marks.OpenBracket) w (λ x. x) h)

  param_no_int : (p : AParam) (w : List Placed) → Ending w → IsNot (token.Key keys.Int) (onto_stars p.stars (onto_named p.name (onto_length p.length w)))
  param_no_int p w h = stars_no p.stars _ (token.Key keys.Int) star_int (named_no (token.Key keys.Int) p.name p.length w (λ e. absurd (cc)) (λ e. absurd (cc)) (λ x. x) h)

  law_param : (p : AParam) (κ : AParam → Stack) (n : ℕ) (w : List Placed) → ParamFits p → LowLength L p.length n → Ending w → run L (param_goals κ) n (onto_param p w) ≡ run L (κ p) n w
  law_param p κ n w at low h =
      law_words L p.spec _ (param_no_int p w h) n (λ s. param_behind s κ)
      ∙ law_param_behind p κ n w at low h

  pub law_more_params : (ps : List AParam) (κ : List AParam → Stack) (n : ℕ) (w : List Placed) → ParamsFit ps → LowParams L ps n
      → run L (Want MoreParams κ) n (onto_more_params ps (sign marks.CloseParenthesis 0 ∷ w)) ≡ run L (κ ps) n w
  law_more_params [] κ n w at low = refl
  law_more_params (p ∷ ps) κ n w at low =
      law_param p (λ q. Want MoreParams (λ qs. κ (q ∷ qs))) n (onto_more_params ps (sign marks.CloseParenthesis 0 ∷ w)) at.0 low.0 (more_params_ending ps w)
      ∙ law_more_params ps (λ qs. κ (p ∷ qs)) n w at.1 low.1

  params_words : (s : Spec) (κ : SomeParams → Stack) (n : ℕ) (w : List Placed) → run L (Want Params κ) n (onto_spec s w)
      ≡ run L (Want TypeWords (λ r. param_behind r (λ p. Want MoreParams (λ ps. κ (some_params p ps))))) n (onto_spec s w)
  params_words (specs.Int at) κ n w = refl
  params_words s κ n w = refl

  law_param_list : (p : AParam) (ps : List AParam) (κ : SomeParams → Stack) (n : ℕ) (w : List Placed) → ParamFits p → ParamsFit ps → LowParams L (p ∷ ps) n
      → run L (Want Params κ) n (onto_param_list (p ∷ ps) (sign marks.CloseParenthesis 0 ∷ w)) ≡ run L (κ (some_params p ps)) n w
  law_param_list p ps κ n w at ats low =
      let v : List Placed = onto_more_params ps (sign marks.CloseParenthesis 0 ∷ w) in
      let next : AParam → Stack = λ q. Want MoreParams (λ qs. κ (some_params q qs)) in
      params_words p.spec κ n _
      ∙ law_words L p.spec _ (param_no_int p v (more_params_ending ps w)) n (λ s. param_behind s next)
      ∙ law_param_behind p next n v at low.0 (more_params_ending ps w)
      ∙ law_more_params ps (λ qs. κ (some_params p qs)) n w ats low.1

  pub law_params : (ps : SomeParams) (κ : SomeParams → Stack) (n : ℕ) (w : List Placed) → SomeParamsFit ps → LowSomeParams L ps n
      → run L (Want Params κ) n (onto_params ps (sign marks.CloseParenthesis 0 ∷ w)) ≡ run L (κ ps) n w
  law_params no_params κ n w at low = refl
  law_params (void_word p) κ n w at low = refl
  law_params (params []) κ n w at low = absurd at
  law_params (params (p ∷ [])) κ n w at low = law_param_list p [] κ n w at.0 tt low ∙ ap (λ (x : SomeParams). run L (κ x) n w) (lone_is p.spec p.stars p.name p.length at.1)
  law_params (params (p ∷ q ∷ ps)) κ n w at low = law_param_list p (q ∷ ps) κ n w at.0 at.1 low

  -- what stands at file level
  pub law_body : (b : Option SomeItems) (κ : Option SomeItems → Stack) (w : List Placed) → BodyFits b → LowBody L b → run L (Want Body κ) 0 (onto_body b w) ≡ run L (κ b) 0 w
  law_body None κ w at low = refl
  law_body (Some is) κ w at low =
      step_opens L Body κ (sign marks.OpenBrace 0) 0 1 (Want Items (λ js. Want (Back 0) (λ x. κ (Some js)))) _ refl low.0
      ∙ law_items is (λ js. Want (Back 0) (λ x. κ (Some js))) 1 w at low.1
      ∙ back L 0 1 (λ x. κ (Some is)) w

  global_no_open : (d : ADeclarator) (w : List Placed) → Ending w → IsNot (token.Mark marks.OpenParenthesis) (onto_length d.length (onto_initialised d.init w))
  global_no_open d w h = by d.length d.init
    where
      by : (l : Option ALength) (i : Option AnInitialised) → IsNot (token.Mark marks.OpenParenthesis) (onto_length l (onto_initialised i w))
      by None None = ending_no (token.Mark marks.OpenParenthesis) w (λ x. x) h
      by None (Some i) = λ e. absurd (cc)
      by (Some l) i = λ e. absurd (cc)

  pub law_declared : (d : ADeclared) (κ : ADeclared → Stack) (w : List Placed) → DeclaredFits d → LowDeclared L d → run L (declared_goals κ) 0 (onto_declared d w) ≡ run L (κ d) 0 w
  law_declared (function f) κ w at low =
      let body : SomeParams → Stack = λ ps. Want (Back 0) (λ x. Want Body (λ b. κ (function (record { stars = f.stars; name = f.name; at = f.at; opened = f.opened; params = ps; body = b })))) in
      law_stars L f.stars (onto_name f.name f.at (sign marks.OpenParenthesis f.opened ∷ onto_params f.params (sign marks.CloseParenthesis 0 ∷ onto_body f.body w))) (name_star f.name) 0
      (λ ats. Want (DeclaredName ats) κ)
      ∙ step_opens L (AfterName f.stars f.name f.at) κ (sign marks.OpenParenthesis f.opened) 0 1 (Want Params body) _ refl low.0
      ∙ law_params f.params body 1 (onto_body f.body w) at.0 low.1.0
      ∙ back L 0 1 (λ x. Want Body (λ b. κ (function (record { stars = f.stars; name = f.name; at = f.at; opened = f.opened; params = f.params; body = b })))) (onto_body f.body w)
      ∙ law_body f.body (λ b. κ (function (record { stars = f.stars; name = f.name; at = f.at; opened = f.opened; params = f.params; body = b }))) w at.1 low.1.1
  law_declared (globals []) κ w at low = absurd at.0
  law_declared (globals (d ∷ ds)) κ w at low =
      let v : List Placed = onto_more_declarators ds (sign marks.Semicolon 0 ∷ w) in
      law_stars L d.stars (onto_name d.name d.at (onto_length d.length (onto_initialised d.init v))) (name_star d.name) 0 (λ ats. Want (DeclaredName ats) κ)
      ∙ expand_after_name 0 d.stars d.name d.at κ (onto_length d.length (onto_initialised d.init v)) (global_no_open d v (more_ending ds w))
      ∙ law_behind d (globals_behind κ) 0 v at.1.0 low.0 (more_ending ds w)
      ∙ law_more_declarators ds (λ xs. κ (globals (d ∷ xs))) 0 w at.1.1 low.1

  declared_no_int : (d : ADeclared) (w : List Placed) → DeclaredFits d → IsNot (token.Key keys.Int) (onto_declared d w)
  declared_no_int (function f) w at = stars_no f.stars (onto_name f.name f.at
      (sign marks.OpenParenthesis f.opened ∷ onto_params f.params (sign marks.CloseParenthesis 0 ∷ onto_body f.body w))) (token.Key keys.Int) star_int (name_int f.name)
  declared_no_int (globals ds) w at = declarator_no_int ds (sign marks.Semicolon 0 ∷ w) at.0

  external_words : (st : Option ℕ) (s : Spec) (κ : AnExternal → Stack) (w : List Placed) → run L (Want External κ) 0 (onto_static st (onto_spec s w))
      ≡ run L (Want TypeWords (external_rest st κ)) 0 (onto_spec s w)
  external_words (Some at) s κ w = refl
  external_words None (specs.Int at) κ w = refl
  external_words None s κ w = refl

  pub law_external : (x : AnExternal) (κ : AnExternal → Stack) (w : List Placed) → DeclaredFits x.declared → LowDeclared L x.declared → run L (Want External κ) 0 (onto_external x w) ≡ run L (κ x) 0 w
  law_external x κ w at low =
      external_words x.static_at x.spec κ (onto_declared x.declared w)
      ∙ law_words L x.spec (onto_declared x.declared w) (declared_no_int x.declared w at) 0 (external_rest x.static_at κ)
      ∙ law_declared x.declared (λ d. κ (record { static_at = x.static_at; spec = x.spec; declared = d })) w at low

  whole_words : (st : Option ℕ) (s : Spec) (κ : AUnit → Stack) (w : List Placed) → run L (Want Whole κ) 0 (onto_static st (onto_spec s w))
      ≡ run L (Want External (λ x. Want Whole (λ u. κ (before x u)))) 0 (onto_static st (onto_spec s w))
  whole_words (Some at) s κ w = refl
  whole_words None (specs.Int at) κ w = refl
  whole_words None s κ w = refl

  pub law_whole : (xs : List AnExternal) (at : ℕ) (κ : AUnit → Stack) → ExternalsFit xs → LowExternals L xs
      → run L (Want Whole κ) 0 (onto_externals xs (record { kind = token.End; at = at } ∷ [])) ≡ closing (κ (record { externals = xs; end = at }))
  law_whole [] at κ fits low = refl
  law_whole (x ∷ xs) at κ fits low =
      whole_words x.static_at x.spec κ _
      ∙ law_external x (λ y. Want Whole (λ u. κ (before y u))) (onto_externals xs (record { kind = token.End; at = at } ∷ [])) fits.0 low.0
      ∙ law_whole xs at (λ u. κ (before x u)) fits.1 low.1

  -- a unit within the levels is read to its end, as that unit
  pub law_unit : (u : AUnit) → ExternalsFit u.externals → LowExternals L u.externals → run L (Want Whole Done) 0 (unit_tokens u) ≡ Ok u
  law_unit u fits low = law_whole u.externals u.end Done fits low
