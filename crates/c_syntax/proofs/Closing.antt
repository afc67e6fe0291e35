-- The exits of the functions that read types, declarations, statements and units: a fault there is the automaton's.
use Rattle.std.proofs.Common.{◌≡◌, ◌≢◌, ◌⊎◌, ℕ, ◌+◌, ◌<◌, ◌≤◌, List, [], ◌∷◌, length, refl, sym, ap, subst, ◌∙◌, arith, inl, inr}
use Rattle.std.specs.Prelude.{Option, Some, None, Bool, true, false, Err}
use Rattle.c_tokens.specs.declared.token.Token.{Token}
use Rattle.c_tokens.specs.declared.token.Token.TheVariants as token
use Rattle.c_tokens.specs.declared.words.Key.{Key}
use Rattle.c_tokens.specs.declared.words.Key.TheVariants as keys
use Rattle.c_tokens.specs.declared.marks.Mark.{Mark}
use Rattle.c_tokens.specs.declared.marks.Mark.TheVariants as marks
use Rattle.c_phrases.specs.declared.operator.Spec.{Spec}
use Rattle.c_phrases.specs.declared.operator.Storage.{Storage}
use Rattle.c_phrases.specs.declared.operator.Storage.TheVariants as storages
use Rattle.c_syntax_goals.specs.declared.fault.Fault.{Fault}
use Rattle.c_syntax_goals.specs.declared.fault.Fault.TheVariants.{NotHere, TooDeep}
use Rattle.c_phrases.specs.declared.tree.Named.{Named}
use Rattle.c_phrases.specs.Classes.{Placed, Class, class_of, key_class, mark_class, word, sign}
use Rattle.c_phrases.specs.Classes as c
use Rattle.c_phrases.specs.Phrases.{AnExp, SomeExps, no_exps, exps, after_exp, AllAt}
use Rattle.c_phrases.specs.Spelling.{onto_name, onto_exp, onto_others, onto_first}
use Rattle.c_phrases.specs.Levels.{LowExps, limit}
use Rattle.c_phrases.specs.Units.{ALength, AnInit, value, elements, AnInitialised, ADeclarator, AStatement, SomeItems}
use Rattle.c_phrases.specs.Units.{AParam, SomeParams, AnExternal, AUnit, if_else, expression, break_off, continue_on}
use Rattle.c_phrases.specs.Units.{give_back, local_item, statement_item, ALocal, ADeclared}
use Rattle.c_phrases.specs.UnitSpelling.{onto_init}
use Rattle.c_phrases.specs.Fits.{InitFits, IsSome}
use Rattle.c_phrases.specs.UnitLevels.{LowInit}
use Rattle.c_phrases.specs.Fronts.{Quiet, IsNot, strength, mark_strength}
use Rattle.c_syntax.specs.Reads.{NoName, IsRead, ReadsSpec, ReadsStars, ArgumentsSoFar}
use Rattle.c_syntax.specs.Leads.{Fails, Leads, TailFails, TailLeads, CondLeads}
use Rattle.c_syntax.specs.Stands.{ReadsPart, ReadsCondition, ReadsStatement, ReadsParams, ReadsLocal}
use Rattle.c_syntax.specs.Stands.{ReadsElements, ReadsExternal}
use Rattle.c_phrases.specs.Fronts.{LocalClass, NoLocal, BeginsLocal}
use Rattle.c_syntax.specs.StatementLeads.{PartFails, MoreLeads, ItemsLead, ParamsLead, HasToken}
use Rattle.c_phrases.specs.Takes.{TypeClass, NoTypeClass, IsTypeWord, NoTypeWord}
use Rattle.std.specs.Bool.{MatchBool}
use Rattle.c_syntax_goals.specs.Types as Types
use Rattle.c_syntax_goals.specs.Expressions as Expressions
use Rattle.c_syntax_goals.specs.Declarators as Declarators
use Rattle.c_syntax_goals.specs.Statements as Statements
use Rattle.c_syntax_goals.specs.Wanted as Wanted
use Rattle.c_syntax_goals.specs.Externals as Externals
use Rattle.c_syntax_goals.specs.Goals.{Stack, Want, Refuses, Expr, Assign}
use Rattle.c_syntax_goals.specs.Goals.{Cast, Tail, Back, WantSemi, WantWhile, TypeWords}
use Rattle.c_syntax_goals.specs.Goals.{AfterUnsigned, Condition, Simple, Statement, Items, PartSemi, PartParen}
use Rattle.c_syntax_goals.specs.Goals.{ForOpen, ElsePart, Local, DeclaratorName, ArrayPart, Length, InitPart, Init}
use Rattle.c_syntax_goals.specs.Goals.{Elements, InitMore, MoreDeclarators, DeclaredName, AfterName, Body}
use Rattle.c_syntax_goals.specs.Goals.{Params, OptName, MoreParams, External, Whole}
use Rattle.c_syntax_goals.specs.Types.{type_goals, stars_then}
use Rattle.c_syntax_goals.specs.Expressions.{cond_goals}
use Rattle.c_syntax_goals.specs.Declarators.{declarator_goals, declarator_behind}
use Rattle.c_syntax_goals.specs.Externals.{globals_behind, param_goals, param_behind, list_goals, some_params}
use Rattle.c_syntax_goals.specs.Externals.{function_behind, declared_goals, external_rest, before}
use Rattle.c_syntax_goals.specs.Statements.{if_goals, while_goals, do_goals, for_goals, local_rest, item_local}
use Rattle.c_syntax_goals.specs.Machine.{run}
use Rattle.c_syntax_goals.proofs.Tokens.{not_class}
use Rattle.c_syntax_goals.proofs.Steps.{NoSet, back, step_refuses}
use Rattle.c_syntax_goals.proofs.Going.{Starts, starts, not_start, quiet_others, law_assign, law_cond}
use Rattle.c_syntax_goals.proofs.PhraseLaws.{limit_low}
use Rattle.c_syntax_goals.proofs.Stating.{pass_array, pass_init, expand_length, expand_init, expand_elements, expand_next, expand_semi, expand_paren, expand_after_name, name_by}
use Rattle.c_syntax_goals.proofs.Stating.{expand_local, law_elements_init, law_condition, law_semi, law_paren, law_statement, law_local, law_params}
use Rattle.c_syntax_goals.proofs.Stating.{law_external}
use Rattle.c_syntax.proofs.Exits.{fails_when, real, fails_here, deep, opens, assign_leads, exp_leads, operand_leads, no_close, no_bracket, set_refused}

-- types
unsigned_by : (k : Class) → (k ≢ c.Char) → (k ≢ c.Short) → (t : Placed) (at : ℕ) (κ : Spec → Stack) → Types.unsigned_step k t at κ ≡ Refuses
unsigned_by c.Char h i t at κ = absurd (h refl)
unsigned_by c.Short h i t at κ = absurd (i refl)
unsigned_by k h i t at κ = refl

no_unsigned : (at n : ℕ) (κ : Spec → Stack) (ts : List Placed) → IsNot (token.Key keys.Char) ts → IsNot (token.Key keys.Short) ts → run limit (Want (AfterUnsigned at) κ) n ts
    ≡ Err (NotHere (length ts))
no_unsigned at n κ [] h i = refl
no_unsigned at n κ (t ∷ ts) h i = rw (unsigned_by (class_of t.kind) (not_class t.kind (token.Key keys.Char) refl h) (not_class t.kind (token.Key keys.Short) refl i) t at κ) refl

pub unsigned_none : (at n : ℕ) (ts : List Placed) (f : Fault) → f ≡ NotHere (length ts) → IsNot (token.Key keys.Char) ts → IsNot (token.Key keys.Short) ts → Fails (Want (AfterUnsigned at)) n ts f
unsigned_none at n ts f e h i = fails_here (Want (AfterUnsigned at)) n ts (length ts) f e (λ κ. no_unsigned at n κ ts h i)

words_by : (k : Class) → (k ≢ c.Int) → (k ≢ c.Char) → (k ≢ c.Void) → (k ≢ c.Short) → (k ≢ c.Unsigned) → (t : Placed) (κ : Spec → Stack) → Types.words_step k t κ ≡ Refuses
words_by c.Int a b d e f t κ = absurd (a refl)
words_by c.Char a b d e f t κ = absurd (b refl)
words_by c.Void a b d e f t κ = absurd (d refl)
words_by c.Short a b d e f t κ = absurd (e refl)
words_by c.Unsigned a b d e f t κ = absurd (f refl)
words_by k a b d e f t κ = refl

no_words : (n : ℕ) (κ : Spec → Stack) (ts : List Placed) → IsNot (token.Key keys.Int) ts → IsNot (token.Key keys.Char) ts → IsNot (token.Key keys.Void) ts → IsNot (token.Key keys.Short) ts
    → IsNot (token.Key keys.Unsigned) ts → run limit (Want TypeWords κ) n ts ≡ Err (NotHere (length ts))
no_words n κ [] a b d e f = refl
no_words n κ (t ∷ ts) a b d e f = rw (words_by (class_of t.kind) (not_class t.kind (token.Key keys.Int) refl a) (not_class t.kind (token.Key keys.Char) refl b)
    (not_class t.kind (token.Key keys.Void) refl d) (not_class t.kind (token.Key keys.Short) refl e) (not_class t.kind (token.Key keys.Unsigned) refl f) t κ) refl

pub spec_none : (n : ℕ) (ts : List Placed) (f : Fault) → f ≡ NotHere (length ts) → IsNot (token.Key keys.Int) ts → IsNot (token.Key keys.Char) ts → IsNot (token.Key keys.Void) ts
    → IsNot (token.Key keys.Short) ts → IsNot (token.Key keys.Unsigned) ts → Fails (Want TypeWords) n ts f
spec_none n ts f g a b d e h = fails_here (Want TypeWords) n ts (length ts) f g (λ κ. no_words n κ ts a b d e h)

pub spec_unsigned : (at n : ℕ) (ts rest : List Placed) (f : Fault) → ts ≡ word keys.Unsigned at ∷ rest → Fails (Want (AfterUnsigned at)) n rest f → Fails (Want TypeWords) n ts f
spec_unsigned at n ts rest f e h = fails_when (Want TypeWords) n ts f (λ r κ. rw e (real (Want (AfterUnsigned at)) n rest f h r κ))

pub type_err : (n : ℕ) (ts : List Placed) (f : Fault) → Fails (Want TypeWords) n ts f → Fails type_goals n ts f
type_err n ts f h = fails_when type_goals n ts f (λ r κ. real (Want TypeWords) n ts f h r (stars_then κ))

-- conditions without assignment
pub cond_err : (n : ℕ) (ts : List Placed) (f : Fault) → Fails (Want Cast) n ts f → Fails cond_goals n ts f
cond_err n ts f h = fails_when cond_goals n ts f (λ r κ. real (Want Cast) n ts f h r (λ e. Want (Tail false e) κ))

pub cond_tail : (n m : ℕ) (ts rest : List Placed) (e : AnExp) (f : Fault) → IsRead 13 13 n ts e rest m → TailFails m rest f → Fails cond_goals n ts f
cond_tail n m ts rest e f i h = fails_when cond_goals n ts f (λ r κ. operand_leads n m ts rest e i (λ x. Want (Tail false x) κ) ∙ real (Want (Tail false e)) m rest f (h e) r κ)

-- lengths
length_opens : (n i o : ℕ) (ts inner : List Placed) (κ : Option ALength → Stack) → ts ≡ sign marks.OpenBracket o ∷ inner → (i ≡ n + 1) × (n + 1 ≤ 200) → run limit (Want ArrayPart κ) n ts
    ≡ run limit (Want Length (λ e. Want (Back n) (λ x. κ (Some (record { opened = o; value = e }))))) i inner
length_opens n i o ts inner κ e up = opens ArrayPart κ n i 1 (sign marks.OpenBracket o) ts inner _ refl e up

pub length_err : (n i o : ℕ) (ts inner : List Placed) (f : Fault) → ts ≡ sign marks.OpenBracket o ∷ inner → (i ≡ n + 1) × (n + 1 ≤ 200) → IsNot (token.Mark marks.CloseBracket) inner
    → Fails cond_goals i inner f → Fails (Want ArrayPart) n ts f
length_err n i o ts inner f e up h g = fails_when (Want ArrayPart) n ts f (λ r κ. length_opens n i o ts inner κ e up ∙ expand_length limit i _ inner h ∙ real cond_goals i inner f g r _)

cond_leads : (n m : ℕ) (ts rest : List Placed) (e : AnExp) → IsRead 2 2 n ts e rest m → Quiet 1 rest → (κ : AnExp → Stack) → run limit (cond_goals κ) n ts ≡ run limit (κ e) m rest
cond_leads n m ts rest e r q κ = rw (r.text, r.level) (law_cond limit e κ n rest r.at r.low q)

pub length_none : (n : ℕ) (ts : List Placed) → IsNot (token.Mark marks.OpenBracket) ts → Leads (Want ArrayPart) n ts None n ts
length_none n ts h = λ κ. pass_array limit n κ ts h

pub length_empty : (n i o : ℕ) (ts inner last : List Placed) → ts ≡ sign marks.OpenBracket o ∷ inner → (i ≡ n + 1) × (n + 1 ≤ 200) → inner ≡ sign marks.CloseBracket 0 ∷ last
    → Leads (Want ArrayPart) n ts (Some (record { opened = o; value = None })) n last
length_empty n i o ts inner last e up d = λ κ. length_opens n i o ts inner κ e up ∙ rw d (back limit n i (λ x. κ (Some (record { opened = o; value = None }))) last)

pub length_value : (n i j o : ℕ) (ts inner rest last : List Placed) (e : AnExp) → ts ≡ sign marks.OpenBracket o ∷ inner → (i ≡ n + 1) × (n + 1 ≤ 200)
    → IsNot (token.Mark marks.CloseBracket) inner → IsRead 2 2 i inner e rest j → rest ≡ sign marks.CloseBracket 0 ∷ last
    → Leads (Want ArrayPart) n ts (Some (record { opened = o; value = Some e })) n last
length_value n i j o ts inner rest last e t up h g d = λ κ. length_opens n i o ts inner κ t up ∙ expand_length limit i _ inner h
    ∙ cond_leads i j inner rest e g (subst (Quiet 1) (sym d) (omega arith)) _ ∙ rw d (back limit n j (λ x. κ (Some (record { opened = o; value = Some e }))) last)

set_class : (k : Class) → NoSet k ⊎ (NoSet k → ⊥)
set_class c.Equals = inr (λ h. h)
set_class c.Compound = inr (λ h. h)
set_class k = inl tt

mark_unset : (m : Mark) → mark_strength m ≤ 2 → NoSet (mark_class m) → mark_strength m ≤ 1
mark_unset marks.Assign q h = absurd h
mark_unset marks.AddAssign q h = absurd h
mark_unset marks.SubtractAssign q h = absurd h
mark_unset marks.MultiplyAssign q h = absurd h
mark_unset marks.DivideAssign q h = absurd h
mark_unset marks.RemainderAssign q h = absurd h
mark_unset marks.AndAssign q h = absurd h
mark_unset marks.XorAssign q h = absurd h
mark_unset marks.OrAssign q h = absurd h
mark_unset marks.ShiftLeftAssign q h = absurd h
mark_unset marks.ShiftRightAssign q h = absurd h
mark_unset m q h = omega (arith, q)

token_unset : (k : Token) → strength k ≤ 2 → NoSet (class_of k) → strength k ≤ 1
token_unset (token.Mark m) q h = mark_unset m q h
token_unset (token.Key k) q h = omega arith
token_unset (token.Name n) q h = omega arith
token_unset (token.Number v) q h = omega arith
token_unset (token.Str b) q h = omega arith
token_unset token.End q h = omega arith

-- behind a condition stands no closing bracket
length_closed : (n i j o : ℕ) (ts inner rest : List Placed) (e : AnExp) (f : Fault) → ts ≡ sign marks.OpenBracket o ∷ inner → (i ≡ n + 1) × (n + 1 ≤ 200)
    → IsNot (token.Mark marks.CloseBracket) inner → IsRead 2 2 i inner e rest j → Quiet 1 rest → (f ≡ NotHere (length rest)) × IsNot (token.Mark marks.CloseBracket) rest
    → Fails (Want ArrayPart) n ts f
length_closed n i j o ts inner rest e f t up h g q d = fails_here (Want ArrayPart) n ts (length rest) f d.0
    (λ κ. length_opens n i o ts inner κ t up ∙ expand_length limit i _ inner h ∙ cond_leads i j inner rest e g q _ ∙ no_bracket j _ rest d.1)

length_set : (n i j o : ℕ) (ts inner rest : List Placed) (f : Fault) → ts ≡ sign marks.OpenBracket o ∷ inner → (i ≡ n + 1) × (n + 1 ≤ 200) → IsNot (token.Mark marks.CloseBracket) inner
    → CondLeads i inner j rest → TailFails j rest f → Fails (Want ArrayPart) n ts f
length_set n i j o ts inner rest f t up h l d = length_err n i o ts inner f t up h (l f d)

length_close_by : (n i j o : ℕ) (ts inner : List Placed) (t : Placed) (rest : List Placed) (e : AnExp) (f : Fault) → ts ≡ sign marks.OpenBracket o ∷ inner → (i ≡ n + 1) × (n + 1 ≤ 200)
    → IsNot (token.Mark marks.CloseBracket) inner → IsRead 2 2 i inner e (t ∷ rest) j → CondLeads i inner j (t ∷ rest) → (f ≡ NotHere (length (t ∷ rest)))
    × IsNot (token.Mark marks.CloseBracket) (t ∷ rest) → NoSet (class_of t.kind) ⊎ (NoSet (class_of t.kind) → ⊥) → Fails (Want ArrayPart) n ts f
length_close_by n i j o ts inner t rest e f x up h g l d (inl s) = length_closed n i j o ts inner (t ∷ rest) e f x up h g (token_unset t.kind g.quiet s) d
length_close_by n i j o ts inner t rest e f x up h g l d (inr s) = length_set n i j o ts inner (t ∷ rest) f x up h l
    (λ a. fails_here (Want (Tail false a)) j (t ∷ rest) (length (t ∷ rest)) f d.0 (λ κ. step_refuses limit (Tail false a) κ t j rest (set_refused (class_of t.kind) s t j a κ)))

pub length_close : (n i j o : ℕ) (ts inner rest : List Placed) (e : AnExp) (f : Fault) → ts ≡ sign marks.OpenBracket o ∷ inner → (i ≡ n + 1) × (n + 1 ≤ 200)
    → IsNot (token.Mark marks.CloseBracket) inner → IsRead 2 2 i inner e rest j → CondLeads i inner j rest → (f ≡ NotHere (length rest)) × IsNot (token.Mark marks.CloseBracket) rest
    → Fails (Want ArrayPart) n ts f
length_close n i j o ts inner [] e f x up h g l d = length_closed n i j o ts inner [] e f x up h g tt d
length_close n i j o ts inner (t ∷ rest) e f x up h g l d = length_close_by n i j o ts inner t rest e f x up h g l d (set_class (class_of t.kind))

pub cond_leads_on : (n m j : ℕ) (ts rest last : List Placed) (e : AnExp) → IsRead 13 13 n ts e rest m → TailLeads m rest j last → CondLeads n ts j last
cond_leads_on n m j ts rest last e i l = λ f h. cond_tail n m ts rest e f i (l f h)

-- initialisers
init_more_by : (k : Class) → (k ≢ c.CloseBrace) → (k ≢ c.Comma) → (κ : SomeExps × Bool → Stack) → Declarators.init_more_step k κ ≡ Refuses
init_more_by c.CloseBrace h i κ = absurd (h refl)
init_more_by c.Comma h i κ = absurd (i refl)
init_more_by k h i κ = refl

no_init_more : (n : ℕ) (κ : SomeExps × Bool → Stack) (ts : List Placed) → IsNot (token.Mark marks.CloseBrace) ts → IsNot (token.Mark marks.Comma) ts → run limit (Want InitMore κ) n ts
    ≡ Err (NotHere (length ts))
no_init_more n κ [] h i = refl
no_init_more n κ (t ∷ ts) h i = rw (init_more_by (class_of t.kind) (not_class t.kind (token.Mark marks.CloseBrace) refl h) (not_class t.kind (token.Mark marks.Comma) refl i) κ) refl

abbrev joined : SomeExps → SomeExps → SomeExps
joined no_exps fs = fs
joined (exps e es) fs = exps e (joined es fs)

init_so_far : (es : SomeExps) (κ : SomeExps × Bool → Stack) (n : ℕ) (w : List Placed) → AllAt es → LowExps limit es n → Quiet 1 w → run limit (Want InitMore κ) n (onto_others es w)
    ≡ run limit (Want InitMore (λ r. κ (joined es r.0, r.1))) n w
init_so_far no_exps κ n w at low q = refl
init_so_far (exps e es) κ n w at low q =
    expand_next limit n κ (onto_exp e (onto_others es w)) (not_start (token.Mark marks.CloseBrace) _ (λ x. x) (starts e (onto_others es w)))
    ∙ law_assign limit e (λ a. Want (Back n) (λ x. Want InitMore (λ r. κ (exps a r.0, r.1)))) n (onto_others es w) at.0 low.0 (quiet_others es w q)
    ∙ back limit n (after_exp e n) (λ x. Want InitMore (λ r. κ (exps e r.0, r.1))) (onto_others es w)
    ∙ init_so_far es (λ r. κ (exps e r.0, r.1)) n w at.1 low.1 q

elements_so_far : (es : SomeExps) (κ : AnInit → Stack) (n : ℕ) (w : List Placed) → IsSome es → AllAt es → LowExps limit es n → Quiet 1 w → run limit (Want Elements κ) n (onto_first es w)
    ≡ run limit (Want InitMore (λ r. κ (elements (joined es r.0) r.1))) n w
elements_so_far no_exps κ n w s at low q = absurd s
elements_so_far (exps e es) κ n w s at low q =
    expand_elements limit n κ (onto_exp e (onto_others es w))
    ∙ law_assign limit e (λ a. Want (Back n) (λ x. Want InitMore (λ r. κ (elements (exps a r.0) r.1)))) n (onto_others es w) at.0 low.0 (quiet_others es w q)
    ∙ back limit n (after_exp e n) (λ x. Want InitMore (λ r. κ (elements (exps e r.0) r.1))) (onto_others es w)
    ∙ init_so_far es (λ r. κ (elements (exps e r.0) r.1)) n w at.1 low.1 q

elements_far : (n : ℕ) (ts rest : List Placed) (es : SomeExps) (κ : AnInit → Stack) → ArgumentsSoFar n ts es rest → run limit (Want Elements κ) n ts
    ≡ run limit (Want InitMore (λ r. κ (elements (joined es r.0) r.1))) n rest
elements_far n ts rest es κ s = rw (s.text) (elements_so_far es κ n rest s.some s.at s.low s.quiet)

pub elements_first_err : (n : ℕ) (ts : List Placed) (f : Fault) → Fails (Want Assign) n ts f → Fails (Want Elements) n ts f
elements_first_err n ts f h = fails_when (Want Elements) n ts f (λ r κ. expand_elements limit n κ ts ∙ real (Want Assign) n ts f h r _)

pub elements_comma : (n : ℕ) (ts rest : List Placed) (es : SomeExps) (f : Fault) → ArgumentsSoFar n ts es rest → IsNot (token.Mark marks.CloseBrace) rest → (f ≡ NotHere (length rest))
    × IsNot (token.Mark marks.Comma) rest → Fails (Want Elements) n ts f
elements_comma n ts rest es f s h d = fails_here (Want Elements) n ts (length rest) f d.0 (λ κ. elements_far n ts rest es κ s ∙ no_init_more n _ rest h d.1)

pub elements_err : (n : ℕ) (ts rest after : List Placed) (es : SomeExps) (f : Fault) → ArgumentsSoFar n ts es rest → rest ≡ sign marks.Comma 0 ∷ after
    → IsNot (token.Mark marks.CloseBrace) after → Fails (Want Assign) n after f → Fails (Want Elements) n ts f
elements_err n ts rest after es f s e h d = fails_when (Want Elements) n ts f (λ r κ. elements_far n ts rest es κ s ∙ rw e (expand_next limit n _ after h ∙ real (Want Assign) n after f d r _))

pub init_value_err : (n : ℕ) (ts : List Placed) (f : Fault) → IsNot (token.Mark marks.OpenBrace) ts → Fails (Want Assign) n ts f → Fails (Want Init) n ts f
init_value_err n ts f h d = fails_when (Want Init) n ts f (λ r κ. expand_init limit n κ ts h ∙ real (Want Assign) n ts f d r _)

pub init_value : (n m : ℕ) (ts rest : List Placed) (e : AnExp) → IsNot (token.Mark marks.OpenBrace) ts → IsRead 1 1 n ts e rest m → Leads (Want Init) n ts (value e) n rest
init_value n m ts rest e h i = λ κ. expand_init limit n κ ts h ∙ assign_leads n m ts rest e i _ ∙ back limit n m _ rest

pub init_elements_err : (n i : ℕ) (ts inner : List Placed) (f : Fault) → ts ≡ sign marks.OpenBrace 0 ∷ inner → (i ≡ n + 1) × (n + 1 ≤ 200) → Fails (Want Elements) i inner f → Fails (Want Init) n ts f
init_elements_err n i ts inner f e up h = fails_when (Want Init) n ts f (λ r κ. opens Init κ n i 1 (sign marks.OpenBrace 0) ts inner _ refl e up ∙ real (Want Elements) i inner f h r _)

brace_starts : (ts : List Placed) (w : List Placed) → Starts ts → ts ≡ sign marks.OpenBrace 0 ∷ w → ⊥
brace_starts ts w s e = subst Starts e s

braced : (n : ℕ) (x : AnInit) (w rest : List Placed) (κ : AnInit → Stack) → sign marks.OpenBrace 0 ∷ w ≡ onto_init x rest → InitFits x → LowInit limit x n
    → run limit (Want Init κ) n (onto_init x rest) ≡ run limit (κ x) n rest
braced n (value e) w rest κ t at low = absurd (brace_starts (onto_exp e rest) w (starts e rest) (sym t))
braced n (elements es b) w rest κ t at low = law_elements_init limit es b κ n rest at low

pub init_elements : (n i : ℕ) (ts inner rest : List Placed) (x : AnInit) → ts ≡ sign marks.OpenBrace 0 ∷ inner → (i ≡ n + 1) × (n + 1 ≤ 200) → ReadsElements i inner x rest
    → Leads (Want Init) n ts x n rest
init_elements n i ts inner rest x e up r = λ κ. ap (λ (v : List Placed). run limit (Want Init κ) n v) (e ∙ r.text) ∙ braced n x inner rest κ r.text r.fits (r.low n up.0 (limit_low (n + 1) up.1))

pub initialised_none : (n : ℕ) (ts : List Placed) → IsNot (token.Mark marks.Assign) ts → Leads (Want InitPart) n ts None n ts
initialised_none n ts h = λ κ. pass_init limit n κ ts h

pub initialised_err : (n at : ℕ) (ts after : List Placed) (f : Fault) → ts ≡ sign marks.Assign at ∷ after → Fails (Want Init) n after f → Fails (Want InitPart) n ts f
initialised_err n at ts after f e h = fails_when (Want InitPart) n ts f (λ r κ. rw e (real (Want Init) n after f h r (λ i. κ (Some (record { at = at; with_init = i })))))

pub initialised_some : (n at : ℕ) (ts after rest : List Placed) (x : AnInit) → ts ≡ sign marks.Assign at ∷ after → Leads (Want Init) n after x n rest
    → Leads (Want InitPart) n ts (Some (record { at = at; with_init = x })) n rest
initialised_some n at ts after rest x e l = λ κ. rw e (l (λ i. κ (Some (record { at = at; with_init = i }))))

-- declarators
pub behind_length_err : (ats x : List ℕ) (at n : ℕ) (ts : List Placed) (f : Fault) → Fails (Want ArrayPart) n ts f → Fails (declarator_behind ats x at) n ts f
behind_length_err ats x at n ts f h = fails_when (declarator_behind ats x at) n ts f (λ r κ. real (Want ArrayPart) n ts f h r _)

pub behind_init_err : (ats x : List ℕ) (at n : ℕ) (ts rest : List Placed) (l : Option ALength) (f : Fault) → Leads (Want ArrayPart) n ts l n rest → Fails (Want InitPart) n rest f
    → Fails (declarator_behind ats x at) n ts f
behind_init_err ats x at n ts rest l f g h = fails_when (declarator_behind ats x at) n ts f (λ r κ. g _ ∙ real (Want InitPart) n rest f h r _)

pub behind_leads : (ats x : List ℕ) (at n : ℕ) (ts rest last : List Placed) (l : Option ALength) (i : Option AnInitialised) → Leads (Want ArrayPart) n ts l n rest
    → Leads (Want InitPart) n rest i n last → Leads (declarator_behind ats x at) n ts (record { stars = ats; name = x; at = at; length = l; init = i }) n last
behind_leads ats x at n ts rest last l i g h = λ κ. g _ ∙ h _

key_not_name : (k : Key) → key_class k ≢ c.Name
key_not_name keys.Int e = absurd (cc)
key_not_name k e = absurd (cc)

mark_not_name : (m : Mark) → mark_class m ≢ c.Name
mark_not_name marks.Comma e = absurd (cc)
mark_not_name m e = absurd (cc)

number_not_name : c.Number ≢ c.Name
number_not_name e = absurd (cc)

str_not_name : c.Str ≢ c.Name
str_not_name e = absurd (cc)

end_not_name : c.End ≢ c.Name
end_not_name e = absurd (cc)

not_named : (k : Token) → ((x : List ℕ) → k ≢ token.Name x) → class_of k ≢ c.Name
not_named (token.Name x) h = absurd (h x refl)
not_named (token.Key k) h = key_not_name k
not_named (token.Mark m) h = mark_not_name m
not_named (token.Number v) h = number_not_name
not_named (token.Str b) h = str_not_name
not_named token.End h = end_not_name

declarator_name_by : (k : Class) → (k ≢ c.Name) → (t : Placed) (ats : List ℕ) (κ : ADeclarator → Stack) → Declarators.declarator_name_step k t ats κ ≡ Refuses
declarator_name_by c.Name h t ats κ = absurd (h refl)
declarator_name_by k h t ats κ = refl

no_declarator : (ats : List ℕ) (n : ℕ) (κ : ADeclarator → Stack) (ts : List Placed) → NoName ts → run limit (Want (DeclaratorName ats) κ) n ts ≡ Err (NotHere (length ts))
no_declarator ats n κ [] h = refl
no_declarator ats n κ (t ∷ ts) h = rw (declarator_name_by (class_of t.kind) (not_named t.kind h) t ats κ) refl

pub declarator_none : (n : ℕ) (ts rest : List Placed) (ats : List ℕ) (f : Fault) → ReadsStars ts ats rest → NoName rest → f ≡ NotHere (length rest) → Fails declarator_goals n ts f
declarator_none n ts rest ats f s h e = fails_here declarator_goals n ts (length rest) f e (λ κ. s.leads n _ ∙ no_declarator ats n κ rest h)

pub declarator_err : (n at : ℕ) (x : List ℕ) (ts rest after : List Placed) (ats : List ℕ) (f : Fault) → ReadsStars ts ats rest → rest ≡ onto_name x at after
    → Fails (declarator_behind ats x at) n after f → Fails declarator_goals n ts f
declarator_err n at x ts rest after ats f s e h = fails_when declarator_goals n ts f (λ r κ. s.leads n (λ v. Want (DeclaratorName v) κ) ∙ rw e (real (declarator_behind ats x at) n after f h r κ))

pub declarator_leads : (n at : ℕ) (x : List ℕ) (ts rest after last : List Placed) (ats : List ℕ) (d : ADeclarator) → ReadsStars ts ats rest → rest ≡ onto_name x at after
    → Leads (declarator_behind ats x at) n after d n last → Leads declarator_goals n ts d n last
declarator_leads n at x ts rest after last ats d s e l = λ κ. s.leads n (λ v. Want (DeclaratorName v) κ) ∙ rw e (l κ)

more_declarators_by : (k : Class) → (k ≢ c.Semicolon) → (k ≢ c.Comma) → (κ : List ADeclarator → Stack) → Declarators.more_declarators_step k κ ≡ Refuses
more_declarators_by c.Semicolon h i κ = absurd (h refl)
more_declarators_by c.Comma h i κ = absurd (i refl)
more_declarators_by k h i κ = refl

no_declarators : (n : ℕ) (κ : List ADeclarator → Stack) (ts : List Placed) → IsNot (token.Mark marks.Semicolon) ts → IsNot (token.Mark marks.Comma) ts
    → run limit (Want MoreDeclarators κ) n ts ≡ Err (NotHere (length ts))
no_declarators n κ [] h i = refl
no_declarators n κ (t ∷ ts) h i = rw (more_declarators_by (class_of t.kind) (not_class t.kind (token.Mark marks.Semicolon) refl h) (not_class t.kind (token.Mark marks.Comma) refl i) κ) refl

pub more_begin : (n : ℕ) (ts : List Placed) → MoreLeads n ts ts
more_begin n ts = λ f h. h

pub more_comma : (n : ℕ) (ts rest : List Placed) (f : Fault) → MoreLeads n ts rest → IsNot (token.Mark marks.Semicolon) rest → (f ≡ NotHere (length rest))
    × IsNot (token.Mark marks.Comma) rest → Fails (Want MoreDeclarators) n ts f
more_comma n ts rest f l h d = l f (fails_here (Want MoreDeclarators) n rest (length rest) f d.0 (λ κ. no_declarators n κ rest h d.1))

pub more_err : (n : ℕ) (ts rest after : List Placed) (f : Fault) → MoreLeads n ts rest → rest ≡ sign marks.Comma 0 ∷ after → Fails declarator_goals n after f → Fails (Want MoreDeclarators) n ts f
more_err n ts rest after f l e h = l f (fails_when (Want MoreDeclarators) n rest f (λ r κ. rw e (real declarator_goals n after f h r (λ d. Want MoreDeclarators (λ ds. κ (d ∷ ds))))))

pub more_step : (n : ℕ) (ts rest after behind : List Placed) (d : ADeclarator) → MoreLeads n ts rest → rest ≡ sign marks.Comma 0 ∷ after → Leads declarator_goals n after d n behind
    → MoreLeads n ts behind
more_step n ts rest after behind d l e g = λ f h. l f (fails_when (Want MoreDeclarators) n rest f
    (λ r κ. rw e (g (λ x. Want MoreDeclarators (λ xs. κ (x ∷ xs))) ∙ real (Want MoreDeclarators) n behind f h r (λ xs. κ (d ∷ xs)))))

-- local declarations
local_by : (k : Class) → (k ≢ c.Static) → (k ≢ c.Register) → (t : Placed) (κ : ALocal → Stack) → Statements.local_step k t κ ≡ Types.words_step k t (local_rest storages.Automatic κ)
local_by c.Static h i t κ = absurd (h refl)
local_by c.Register h i t κ = absurd (i refl)
local_by k h i t κ = refl

pub storage_none : (ts : List Placed) → IsNot (token.Key keys.Static) ts → IsNot (token.Key keys.Register) ts → (n : ℕ) (κ : ALocal → Stack) → run limit (Want Local κ) n ts
    ≡ run limit (Want TypeWords (local_rest storages.Automatic κ)) n ts
storage_none [] h i n κ = refl
storage_none (t ∷ ts) h i n κ = rw (local_by (class_of t.kind) (not_class t.kind (token.Key keys.Static) refl h) (not_class t.kind (token.Key keys.Register) refl i) t κ) refl

pub storage_static : (at : ℕ) (ts rest : List Placed) → ts ≡ word keys.Static at ∷ rest → (n : ℕ) (κ : ALocal → Stack) → run limit (Want Local κ) n ts
    ≡ run limit (Want TypeWords (local_rest (storages.Static at) κ)) n rest
storage_static at ts rest e n κ = rw e refl

pub storage_register : (at : ℕ) (ts rest : List Placed) → ts ≡ word keys.Register at ∷ rest → (n : ℕ) (κ : ALocal → Stack) → run limit (Want Local κ) n ts
    ≡ run limit (Want TypeWords (local_rest (storages.Register at) κ)) n rest
storage_register at ts rest e n κ = rw e refl

abbrev pub StorageLeads : List Placed → Storage → List Placed → Type 0
StorageLeads ts st rest = (n : ℕ) (κ : ALocal → Stack) → run limit (Want Local κ) n ts ≡ run limit (Want TypeWords (local_rest st κ)) n rest

pub local_spec_err : (n : ℕ) (ts rest : List Placed) (st : Storage) (f : Fault) → StorageLeads ts st rest → Fails (Want TypeWords) n rest f → Fails (Want Local) n ts f
local_spec_err n ts rest st f l h = fails_when (Want Local) n ts f (λ r κ. l n κ ∙ real (Want TypeWords) n rest f h r _)

pub local_first_err : (n : ℕ) (ts rest next : List Placed) (st : Storage) (s : Spec) (f : Fault) → StorageLeads ts st rest → ReadsSpec rest s next → Fails declarator_goals n next f
    → Fails (Want Local) n ts f
local_first_err n ts rest next st s f l g h = fails_when (Want Local) n ts f (λ r κ. l n κ ∙ g.leads n _ ∙ real declarator_goals n next f h r _)

pub local_more_err : (n : ℕ) (ts rest next last : List Placed) (st : Storage) (s : Spec) (d : ADeclarator) (f : Fault) → StorageLeads ts st rest → ReadsSpec rest s next
    → Leads declarator_goals n next d n last → Fails (Want MoreDeclarators) n last f → Fails (Want Local) n ts f
local_more_err n ts rest next last st s d f l g p h = fails_when (Want Local) n ts f (λ r κ. l n κ ∙ g.leads n _ ∙ p _ ∙ real (Want MoreDeclarators) n last f h r _)

-- parts of statements
semi_by : (k : Class) → (k ≢ c.Semicolon) → (s : Stack) → Wanted.semi_step k s ≡ Refuses
semi_by c.Semicolon h s = absurd (h refl)
semi_by k h s = refl

no_semi : (n : ℕ) (κ : Unit {0} → Stack) (ts : List Placed) → IsNot (token.Mark marks.Semicolon) ts → run limit (Want WantSemi κ) n ts ≡ Err (NotHere (length ts))
no_semi n κ [] h = refl
no_semi n κ (t ∷ ts) h = rw (semi_by (class_of t.kind) (not_class t.kind (token.Mark marks.Semicolon) refl h) (κ tt)) refl

pub part_err : (m : Mark) (n : ℕ) (ts : List Placed) (f : Fault) → IsNot (token.Mark m) ts → Fails (Want Expr) n ts f → PartFails m n ts f
part_err marks.Semicolon n ts f h d = fails_when (Want PartSemi) n ts f (λ r κ. expand_semi limit n κ ts h ∙ real (Want Expr) n ts f d r _)
part_err marks.CloseParenthesis n ts f h d = fails_when (Want PartParen) n ts f (λ r κ. expand_paren limit n κ ts h ∙ real (Want Expr) n ts f d r _)
part_err m n ts f h d = tt

pub part_end : (m : Mark) (n j : ℕ) (ts rest : List Placed) (e : AnExp) (f : Fault) → IsNot (token.Mark m) ts → IsRead 0 0 n ts e rest j → (f ≡ NotHere (length rest))
    × IsNot (token.Mark m) rest → PartFails m n ts f
part_end marks.Semicolon n j ts rest e f h g d = fails_here (Want PartSemi) n ts (length rest) f d.0
    (λ κ. expand_semi limit n κ ts h ∙ exp_leads n j ts rest e g _ ∙ back limit n j _ rest ∙ no_semi n _ rest d.1)
part_end marks.CloseParenthesis n j ts rest e f h g d = fails_here (Want PartParen) n ts (length rest) f d.0
    (λ κ. expand_paren limit n κ ts h ∙ exp_leads n j ts rest e g _ ∙ back limit n j _ rest ∙ no_close n _ rest d.1)
part_end m n j ts rest e f h g d = tt

semi_leads : (n : ℕ) (ts rest : List Placed) (e : Option AnExp) → ReadsPart n ts e (sign marks.Semicolon 0 ∷ rest) → (κ : Option AnExp → Stack) → run limit (Want PartSemi κ) n ts
    ≡ run limit (κ e) n rest
semi_leads n ts rest e r κ = rw (r.text) (law_semi limit e κ n rest r.fits r.low)

paren_leads : (n : ℕ) (ts rest : List Placed) (e : Option AnExp) → ReadsPart n ts e (sign marks.CloseParenthesis 0 ∷ rest) → (κ : Option AnExp → Stack) → run limit (Want PartParen κ) n ts
    ≡ run limit (κ e) n rest
paren_leads n ts rest e r κ = rw (r.text) (law_paren limit e κ n rest r.fits r.low)

condition_by : (k : Class) → (k ≢ c.OpenParen) → (t : Placed) (n : ℕ) (κ : ℕ × AnExp → Stack) → Statements.condition_step k t n κ ≡ Refuses
condition_by c.OpenParen h t n κ = absurd (h refl)
condition_by k h t n κ = refl

no_condition : (n : ℕ) (κ : ℕ × AnExp → Stack) (ts : List Placed) → IsNot (token.Mark marks.OpenParenthesis) ts → run limit (Want Condition κ) n ts ≡ Err (NotHere (length ts))
no_condition n κ [] h = refl
no_condition n κ (t ∷ ts) h = rw (condition_by (class_of t.kind) (not_class t.kind (token.Mark marks.OpenParenthesis) refl h) t n κ) refl

pub condition_none : (n : ℕ) (ts : List Placed) (f : Fault) → f ≡ NotHere (length ts) → IsNot (token.Mark marks.OpenParenthesis) ts → Fails (Want Condition) n ts f
condition_none n ts f e h = fails_here (Want Condition) n ts (length ts) f e (λ κ. no_condition n κ ts h)

pub condition_close : (n i j o : ℕ) (ts inner rest : List Placed) (e : AnExp) (f : Fault) → ts ≡ sign marks.OpenParenthesis o ∷ inner → (i ≡ n + 1) × (n + 1 ≤ 200)
    → IsRead 0 0 i inner e rest j → (f ≡ NotHere (length rest)) × IsNot (token.Mark marks.CloseParenthesis) rest → Fails (Want Condition) n ts f
condition_close n i j o ts inner rest e f t up g d = fails_here (Want Condition) n ts (length rest) f d.0
    (λ κ. opens Condition κ n i 1 (sign marks.OpenParenthesis o) ts inner _ refl t up ∙ exp_leads i j inner rest e g _ ∙ no_close j _ rest d.1)

condition_leads : (n o : ℕ) (ts rest : List Placed) (e : AnExp) → ReadsCondition n o ts e rest → (κ : ℕ × AnExp → Stack) → run limit (Want Condition κ) n ts ≡ run limit (κ (o, e)) n rest
condition_leads n o ts rest e r κ = rw (r.text) (law_condition limit o e κ n rest r.fits r.low)

statement_leads : (n : ℕ) (ts rest : List Placed) (s : AStatement) → ReadsStatement n ts s rest → (κ : AStatement → Stack) → run limit (Want Statement κ) n ts ≡ run limit (κ s) n rest
statement_leads n ts rest s r κ = rw (r.text) (law_statement limit s κ n rest r.fits r.low r.stands)

-- behind the word if
pub if_condition_err : (at n : ℕ) (ts : List Placed) (f : Fault) → Fails (Want Condition) n ts f → Fails (if_goals at) n ts f
if_condition_err at n ts f h = fails_when (if_goals at) n ts f (λ r κ. real (Want Condition) n ts f h r _)

pub if_then_err : (at n o : ℕ) (ts rest : List Placed) (e : AnExp) (f : Fault) → ReadsCondition n o ts e rest → Fails (Want Statement) n rest f → Fails (if_goals at) n ts f
if_then_err at n o ts rest e f g h = fails_when (if_goals at) n ts f (λ r κ. condition_leads n o ts rest e g _ ∙ real (Want Statement) n rest f h r _)

else_leads : (at n o p : ℕ) (e : AnExp) (s : AStatement) (κ : AStatement → Stack) (ts after : List Placed) → ts ≡ word keys.Else p ∷ after → run limit (Want (ElsePart at o e s) κ) n ts
    ≡ run limit (Want Statement (λ r. κ (if_else at o e s p r))) n after
else_leads at n o p e s κ ts after x = rw x refl

pub if_other_err : (at n o p : ℕ) (ts rest next after : List Placed) (e : AnExp) (s : AStatement) (f : Fault) → ReadsCondition n o ts e rest → ReadsStatement n rest s next → next
    ≡ word keys.Else p ∷ after → Fails (Want Statement) n after f → Fails (if_goals at) n ts f
if_other_err at n o p ts rest next after e s f g i x h = fails_when (if_goals at) n ts f
    (λ r κ. condition_leads n o ts rest e g _ ∙ statement_leads n rest next s i _ ∙ else_leads at n o p e s κ next after x ∙ real (Want Statement) n after f h r _)

-- behind while, do and for
pub while_condition_err : (at n : ℕ) (ts : List Placed) (f : Fault) → Fails (Want Condition) n ts f → Fails (while_goals at) n ts f
while_condition_err at n ts f h = fails_when (while_goals at) n ts f (λ r κ. real (Want Condition) n ts f h r _)

pub while_body_err : (at n o : ℕ) (ts rest : List Placed) (e : AnExp) (f : Fault) → ReadsCondition n o ts e rest → Fails (Want Statement) n rest f → Fails (while_goals at) n ts f
while_body_err at n o ts rest e f g h = fails_when (while_goals at) n ts f (λ r κ. condition_leads n o ts rest e g _ ∙ real (Want Statement) n rest f h r _)

while_by : (k : Class) → (k ≢ c.While) → (t : Placed) (κ : ℕ → Stack) → Wanted.while_step k t κ ≡ Refuses
while_by c.While h t κ = absurd (h refl)
while_by k h t κ = refl

no_while : (n : ℕ) (κ : ℕ → Stack) (ts : List Placed) → IsNot (token.Key keys.While) ts → run limit (Want WantWhile κ) n ts ≡ Err (NotHere (length ts))
no_while n κ [] h = refl
no_while n κ (t ∷ ts) h = rw (while_by (class_of t.kind) (not_class t.kind (token.Key keys.While) refl h) t κ) refl

while_leads : (n p : ℕ) (κ : ℕ → Stack) (ts after : List Placed) → ts ≡ word keys.While p ∷ after → run limit (Want WantWhile κ) n ts ≡ run limit (κ p) n after
while_leads n p κ ts after e = rw e refl

pub do_body_err : (at n : ℕ) (ts : List Placed) (f : Fault) → Fails (Want Statement) n ts f → Fails (do_goals at) n ts f
do_body_err at n ts f h = fails_when (do_goals at) n ts f (λ r κ. real (Want Statement) n ts f h r _)

pub do_while : (at n : ℕ) (ts rest : List Placed) (s : AStatement) (f : Fault) → ReadsStatement n ts s rest → f ≡ NotHere (length rest) → IsNot (token.Key keys.While) rest → Fails (do_goals at) n ts f
do_while at n ts rest s f g e h = fails_here (do_goals at) n ts (length rest) f e (λ κ. statement_leads n ts rest s g _ ∙ no_while n _ rest h)

pub do_condition_err : (at n p : ℕ) (ts rest after : List Placed) (s : AStatement) (f : Fault) → ReadsStatement n ts s rest → rest ≡ word keys.While p ∷ after
    → Fails (Want Condition) n after f → Fails (do_goals at) n ts f
do_condition_err at n p ts rest after s f g e h = fails_when (do_goals at) n ts f (λ r κ. statement_leads n ts rest s g _ ∙ while_leads n p _ rest after e ∙ real (Want Condition) n after f h r _)

pub do_semi : (at n p o : ℕ) (ts rest after last : List Placed) (s : AStatement) (x : AnExp) (f : Fault) → ReadsStatement n ts s rest → rest ≡ word keys.While p ∷ after
    → ReadsCondition n o after x last → (f ≡ NotHere (length last)) × IsNot (token.Mark marks.Semicolon) last → Fails (do_goals at) n ts f
do_semi at n p o ts rest after last s x f g e i d = fails_here (do_goals at) n ts (length last) f d.0
    (λ κ. statement_leads n ts rest s g _ ∙ while_leads n p _ rest after e ∙ condition_leads n o after last x i _ ∙ no_semi n _ last d.1)

for_by : (k : Class) → (k ≢ c.OpenParen) → (t : Placed) (κ : ℕ → Stack) → Statements.for_open_step k t κ ≡ Refuses
for_by c.OpenParen h t κ = absurd (h refl)
for_by k h t κ = refl

no_for : (n : ℕ) (κ : ℕ → Stack) (ts : List Placed) → IsNot (token.Mark marks.OpenParenthesis) ts → run limit (Want ForOpen κ) n ts ≡ Err (NotHere (length ts))
no_for n κ [] h = refl
no_for n κ (t ∷ ts) h = rw (for_by (class_of t.kind) (not_class t.kind (token.Mark marks.OpenParenthesis) refl h) t κ) refl

pub for_none : (at n : ℕ) (ts : List Placed) (f : Fault) → f ≡ NotHere (length ts) → IsNot (token.Mark marks.OpenParenthesis) ts → Fails (for_goals at n) n ts f
for_none at n ts f e h = fails_here (for_goals at n) n ts (length ts) f e (λ κ. no_for n _ ts h)

pub for_deep : (at n o : ℕ) (ts inner : List Placed) (f : Fault) → ts ≡ sign marks.OpenParenthesis o ∷ inner → (f ≡ TooDeep (length ts)) × (200 < n + 1) → Fails (for_goals at n) n ts f
for_deep at n o ts inner f e d = fails_when (for_goals at n) n ts f (λ r κ. real (Want ForOpen) n ts f (deep ForOpen n 1 (sign marks.OpenParenthesis o) ts inner f (λ g. g o) (λ g. refl) e d) r _)

for_opens : (n i o : ℕ) (ts inner : List Placed) (κ : ℕ → Stack) → ts ≡ sign marks.OpenParenthesis o ∷ inner → (i ≡ n + 1) × (n + 1 ≤ 200) → run limit (Want ForOpen κ) n ts ≡ run limit (κ o) i inner
for_opens n i o ts inner κ e up = opens ForOpen κ n i 1 (sign marks.OpenParenthesis o) ts inner (κ o) refl e up

pub for_start_err : (at n i o : ℕ) (ts inner : List Placed) (f : Fault) → ts ≡ sign marks.OpenParenthesis o ∷ inner → (i ≡ n + 1) × (n + 1 ≤ 200) → Fails (Want PartSemi) i inner f
    → Fails (for_goals at n) n ts f
for_start_err at n i o ts inner f e up h = fails_when (for_goals at n) n ts f (λ r κ. for_opens n i o ts inner _ e up ∙ real (Want PartSemi) i inner f h r _)

pub for_condition_err : (at n i o : ℕ) (ts inner rest : List Placed) (a : Option AnExp) (f : Fault) → ts ≡ sign marks.OpenParenthesis o ∷ inner → (i ≡ n + 1) × (n + 1 ≤ 200)
    → ReadsPart i inner a (sign marks.Semicolon 0 ∷ rest) → Fails (Want PartSemi) i rest f → Fails (for_goals at n) n ts f
for_condition_err at n i o ts inner rest a f e up g h = fails_when (for_goals at n) n ts f
    (λ r κ. for_opens n i o ts inner _ e up ∙ semi_leads i inner rest a g _ ∙ real (Want PartSemi) i rest f h r _)

pub for_step_err : (at n i o : ℕ) (ts inner rest next : List Placed) (a b : Option AnExp) (f : Fault) → ts ≡ sign marks.OpenParenthesis o ∷ inner → (i ≡ n + 1) × (n + 1 ≤ 200)
    → ReadsPart i inner a (sign marks.Semicolon 0 ∷ rest) → ReadsPart i rest b (sign marks.Semicolon 0 ∷ next) → Fails (Want PartParen) i next f → Fails (for_goals at n) n ts f
for_step_err at n i o ts inner rest next a b f e up g j h = fails_when (for_goals at n) n ts f
    (λ r κ. for_opens n i o ts inner _ e up ∙ semi_leads i inner rest a g _ ∙ semi_leads i rest next b j _ ∙ real (Want PartParen) i next f h r _)

pub for_body_err : (at n i o : ℕ) (ts inner rest next last : List Placed) (a b d : Option AnExp) (f : Fault) → ts ≡ sign marks.OpenParenthesis o ∷ inner → (i ≡ n + 1) × (n + 1 ≤ 200)
    → ReadsPart i inner a (sign marks.Semicolon 0 ∷ rest) → ReadsPart i rest b (sign marks.Semicolon 0 ∷ next) → ReadsPart i next d (sign marks.CloseParenthesis 0 ∷ last)
    → Fails (Want Statement) n last f → Fails (for_goals at n) n ts f
for_body_err at n i o ts inner rest next last a b d f e up g j k h = fails_when (for_goals at n) n ts f
    (λ r κ. for_opens n i o ts inner _ e up ∙ semi_leads i inner rest a g _ ∙ semi_leads i rest next b j _ ∙ paren_leads i next last d k _ ∙ back limit n i _ last
    ∙ real (Want Statement) n last f h r _)

-- statements without statements in them
abbrev NoSimple : Class → Type 0
NoSimple c.Semicolon = ⊥
NoSimple c.Break = ⊥
NoSimple c.Continue = ⊥
NoSimple c.Return = ⊥
NoSimple k = Unit {0}

no_simple_of : (k : Class) → (k ≢ c.Semicolon) → (k ≢ c.Break) → (k ≢ c.Continue) → (k ≢ c.Return) → NoSimple k
no_simple_of c.Semicolon a b d e = absurd (a refl)
no_simple_of c.Break a b d e = absurd (b refl)
no_simple_of c.Continue a b d e = absurd (d refl)
no_simple_of c.Return a b d e = absurd (e refl)
no_simple_of k a b d e = tt

simple_by : (k : Class) → NoSimple k → (t : Placed) (n : ℕ) (κ : AStatement → Stack) → Statements.simple_step k t n κ
    ≡ Expressions.expr_step k t n (λ e. Want (Back n) (λ x. Want WantSemi (λ y. κ (expression e))))
simple_by c.Semicolon h t n κ = absurd h
simple_by c.Break h t n κ = absurd h
simple_by c.Continue h t n κ = absurd h
simple_by c.Return h t n κ = absurd h
simple_by k h t n κ = refl

-- no word of a simple statement stands there
pub record IsComputed (ts : List Placed) : Type 0 where
  pub no_semi : IsNot (token.Mark marks.Semicolon) ts
  pub no_break : IsNot (token.Key keys.Break) ts
  pub no_continue : IsNot (token.Key keys.Continue) ts
  pub no_return : IsNot (token.Key keys.Return) ts

expand_simple : (n : ℕ) (κ : AStatement → Stack) (ts : List Placed) → IsComputed ts → run limit (Want Simple κ) n ts
    ≡ run limit (Want Expr (λ e. Want (Back n) (λ x. Want WantSemi (λ y. κ (expression e))))) n ts
expand_simple n κ [] h = refl
expand_simple n κ (t ∷ ts) h = rw (simple_by (class_of t.kind) (no_simple_of (class_of t.kind) (not_class t.kind (token.Mark marks.Semicolon) refl h.no_semi)
    (not_class t.kind (token.Key keys.Break) refl h.no_break) (not_class t.kind (token.Key keys.Continue) refl h.no_continue) (not_class t.kind (token.Key keys.Return) refl h.no_return)) t n κ) refl

pub break_semi : (n at : ℕ) (ts after : List Placed) (f : Fault) → ts ≡ word keys.Break at ∷ after → (f ≡ NotHere (length after)) × IsNot (token.Mark marks.Semicolon) after
    → Fails (Want Simple) n ts f
break_semi n at ts after f e d = fails_here (Want Simple) n ts (length after) f d.0 (λ κ. rw e (no_semi n (λ x. κ (break_off at)) after d.1))

pub continue_semi : (n at : ℕ) (ts after : List Placed) (f : Fault) → ts ≡ word keys.Continue at ∷ after → (f ≡ NotHere (length after)) × IsNot (token.Mark marks.Semicolon) after
    → Fails (Want Simple) n ts f
continue_semi n at ts after f e d = fails_here (Want Simple) n ts (length after) f d.0 (λ κ. rw e (no_semi n (λ x. κ (continue_on at)) after d.1))

pub return_err : (n at : ℕ) (ts after : List Placed) (f : Fault) → ts ≡ word keys.Return at ∷ after → Fails (Want PartSemi) n after f → Fails (Want Simple) n ts f
return_err n at ts after f e h = fails_when (Want Simple) n ts f (λ r κ. rw e (real (Want PartSemi) n after f h r (λ x. κ (give_back at x))))

pub compute_err : (n : ℕ) (ts : List Placed) (f : Fault) → IsComputed ts → Fails (Want Expr) n ts f → Fails (Want Simple) n ts f
compute_err n ts f h d = fails_when (Want Simple) n ts f (λ r κ. expand_simple n κ ts h ∙ real (Want Expr) n ts f d r _)

pub compute_semi : (n j : ℕ) (ts rest : List Placed) (e : AnExp) (f : Fault) → IsComputed ts → IsRead 0 0 n ts e rest j → (f ≡ NotHere (length rest))
    × IsNot (token.Mark marks.Semicolon) rest → Fails (Want Simple) n ts f
compute_semi n j ts rest e f h g d = fails_here (Want Simple) n ts (length rest) f d.0 (λ κ. expand_simple n κ ts h ∙ exp_leads n j ts rest e g _ ∙ back limit n j _ rest ∙ no_semi n _ rest d.1)

-- statements
pub if_err : (n i at : ℕ) (ts after : List Placed) (f : Fault) → ts ≡ word keys.If at ∷ after → (i ≡ n + 1) × (n + 1 ≤ 200) → Fails (if_goals at) i after f → Fails (Want Statement) n ts f
if_err n i at ts after f e up h = fails_when (Want Statement) n ts f (λ r κ. opens Statement κ n i 1 (word keys.If at) ts after _ refl e up
    ∙ real (if_goals at) i after f h r (λ s. Want (Back n) (λ x. κ s)))

pub while_err : (n i at : ℕ) (ts after : List Placed) (f : Fault) → ts ≡ word keys.While at ∷ after → (i ≡ n + 1) × (n + 1 ≤ 200) → Fails (while_goals at) i after f → Fails (Want Statement) n ts f
while_err n i at ts after f e up h = fails_when (Want Statement) n ts f
    (λ r κ. opens Statement κ n i 1 (word keys.While at) ts after _ refl e up ∙ real (while_goals at) i after f h r (λ s. Want (Back n) (λ x. κ s)))

pub do_err : (n i at : ℕ) (ts after : List Placed) (f : Fault) → ts ≡ word keys.Do at ∷ after → (i ≡ n + 1) × (n + 1 ≤ 200) → Fails (do_goals at) i after f → Fails (Want Statement) n ts f
do_err n i at ts after f e up h = fails_when (Want Statement) n ts f (λ r κ. opens Statement κ n i 1 (word keys.Do at) ts after _ refl e up
    ∙ real (do_goals at) i after f h r (λ s. Want (Back n) (λ x. κ s)))

pub for_err : (n i at : ℕ) (ts after : List Placed) (f : Fault) → ts ≡ word keys.For at ∷ after → (i ≡ n + 1) × (n + 1 ≤ 200) → Fails (for_goals at i) i after f → Fails (Want Statement) n ts f
for_err n i at ts after f e up h = fails_when (Want Statement) n ts f (λ r κ.
    opens Statement κ n i 1 (word keys.For at) ts after (for_goals at (n + 1) (λ s. Want (Back n) (λ x. κ s))) refl e up
    ∙ ap (λ (m : ℕ). run limit (for_goals at m (λ s. Want (Back n) (λ x. κ s))) i after) (sym up.0) ∙ real (for_goals at i) i after f h r (λ s. Want (Back n) (λ x. κ s)))

-- none of the words that open a level stands there
pub record IsSimple (ts : List Placed) : Type 0 where
  pub no_brace : IsNot (token.Mark marks.OpenBrace) ts
  pub no_if : IsNot (token.Key keys.If) ts
  pub no_while : IsNot (token.Key keys.While) ts
  pub no_do : IsNot (token.Key keys.Do) ts
  pub no_for : IsNot (token.Key keys.For) ts

statement_by : (k : Class) → (k ≢ c.OpenBrace) → (k ≢ c.If) → (k ≢ c.While) → (k ≢ c.Do) → (k ≢ c.For) → (t : Placed) (n : ℕ) (κ : AStatement → Stack) → Statements.statement_step k t n κ
    ≡ Statements.simple_step k t n κ
statement_by c.OpenBrace a b d e f t n κ = absurd (a refl)
statement_by c.If a b d e f t n κ = absurd (b refl)
statement_by c.While a b d e f t n κ = absurd (d refl)
statement_by c.Do a b d e f t n κ = absurd (e refl)
statement_by c.For a b d e f t n κ = absurd (f refl)
statement_by k a b d e f t n κ = refl

expand_other : (n : ℕ) (κ : AStatement → Stack) (ts : List Placed) → IsSimple ts → run limit (Want Statement κ) n ts ≡ run limit (Want Simple κ) n ts
expand_other n κ [] h = refl
expand_other n κ (t ∷ ts) h = rw (statement_by (class_of t.kind) (not_class t.kind (token.Mark marks.OpenBrace) refl h.no_brace) (not_class t.kind (token.Key keys.If) refl h.no_if)
    (not_class t.kind (token.Key keys.While) refl h.no_while) (not_class t.kind (token.Key keys.Do) refl h.no_do) (not_class t.kind (token.Key keys.For) refl h.no_for) t n κ) refl

pub simple_err : (n : ℕ) (ts : List Placed) (f : Fault) → IsSimple ts → Fails (Want Simple) n ts f → Fails (Want Statement) n ts f
simple_err n ts f h d = fails_when (Want Statement) n ts f (λ r κ. expand_other n κ ts h ∙ real (Want Simple) n ts f d r κ)

-- items
local_or : (k : Class) → (LocalClass k → ⊥) → (k ≢ c.CloseBrace) → (t : Placed) (n : ℕ) (κ : SomeItems → Stack) → Statements.items_step k t n κ
    ≡ Statements.statement_step k t n (λ s. Want Items (λ is. κ (statement_item s is)))
local_or c.Static h i t n κ = absurd (h tt)
local_or c.Register h i t n κ = absurd (h tt)
local_or c.Int h i t n κ = absurd (h tt)
local_or c.Char h i t n κ = absurd (h tt)
local_or c.Void h i t n κ = absurd (h tt)
local_or c.Short h i t n κ = absurd (h tt)
local_or c.Unsigned h i t n κ = absurd (h tt)
local_or c.CloseBrace h i t n κ = absurd (i refl)
local_or k h i t n κ = refl

items_statement : (n : ℕ) (κ : SomeItems → Stack) (ts : List Placed) → NoLocal ts → IsNot (token.Mark marks.CloseBrace) ts → run limit (Want Items κ) n ts
    ≡ run limit (Want Statement (λ s. Want Items (λ is. κ (statement_item s is)))) n ts
items_statement n κ [] h i = refl
items_statement n κ (t ∷ ts) h i = rw (local_or (class_of t.kind) h (not_class t.kind (token.Mark marks.CloseBrace) refl i) t n κ) refl

pub item_local_err : (n : ℕ) (ts : List Placed) (f : Fault) → BeginsLocal ts → Fails (Want Local) n ts f → Fails (Want Items) n ts f
item_local_err n ts f h d = fails_when (Want Items) n ts f (λ r κ. expand_local limit n κ ts h ∙ real (Want Local) n ts f d r (item_local κ))

pub item_statement_err : (n : ℕ) (ts : List Placed) (f : Fault) → NoLocal ts → IsNot (token.Mark marks.CloseBrace) ts → Fails (Want Statement) n ts f → Fails (Want Items) n ts f
item_statement_err n ts f h i d = fails_when (Want Items) n ts f (λ r κ. items_statement n κ ts h i ∙ real (Want Statement) n ts f d r _)

pub item_local_leads : (n : ℕ) (ts rest : List Placed) (l : ALocal) → BeginsLocal ts → ReadsLocal n ts l rest → ItemsLead n ts rest
item_local_leads n ts rest l h g = λ f d. fails_when (Want Items) n ts f
    (λ r κ. expand_local limit n κ ts h ∙ rw (g.text) (law_local limit l (item_local κ) n rest g.fits g.low) ∙ real (Want Items) n rest f d r (λ is. κ (local_item l is)))

pub item_statement_leads : (n : ℕ) (ts rest : List Placed) (s : AStatement) → NoLocal ts → IsNot (token.Mark marks.CloseBrace) ts → ReadsStatement n ts s rest → ItemsLead n ts rest
item_statement_leads n ts rest s h i g = λ f d. fails_when (Want Items) n ts f
    (λ r κ. items_statement n κ ts h i ∙ statement_leads n ts rest s g _ ∙ real (Want Items) n rest f d r (λ is. κ (statement_item s is)))

pub items_begin : (n : ℕ) (ts : List Placed) → ItemsLead n ts ts
items_begin n ts = λ f h. h

pub items_step_leads : (n : ℕ) (ts rest behind : List Placed) → ItemsLead n ts rest → ItemsLead n rest behind → ItemsLead n ts behind
items_step_leads n ts rest behind l g = λ f h. l f (g f h)

pub named_none : (n : ℕ) (ts : List Placed) → NoName ts → Leads (Want OptName) n ts None n ts
named_none n [] h = λ κ. refl
named_none n (t ∷ ts) h = λ κ. rw (name_by (class_of t.kind) (not_named t.kind h) t n κ) refl

pub named_some : (n at : ℕ) (x : List ℕ) (ts rest : List Placed) → ts ≡ onto_name x at rest → Leads (Want OptName) n ts (Some (record { name = x; at = at })) n rest
named_some n at x ts rest e = λ κ. rw e refl

pub param_spec_err : (n : ℕ) (ts : List Placed) (f : Fault) → Fails (Want TypeWords) n ts f → Fails param_goals n ts f
param_spec_err n ts f h = fails_when param_goals n ts f (λ r κ. real (Want TypeWords) n ts f h r _)

pub param_length_err : (n : ℕ) (ts rest next last : List Placed) (s : Spec) (ats : List ℕ) (m : Option Named) (f : Fault) → ReadsSpec ts s rest → ReadsStars rest ats next
    → Leads (Want OptName) n next m n last → Fails (Want ArrayPart) n last f → Fails param_goals n ts f
param_length_err n ts rest next last s ats m f a b d h = fails_when param_goals n ts f (λ r κ. a.leads n _ ∙ b.leads n _ ∙ d _ ∙ real (Want ArrayPart) n last f h r _)

pub param_leads : (n : ℕ) (ts rest next last end : List Placed) (s : Spec) (ats : List ℕ) (m : Option Named) (l : Option ALength) → ReadsSpec ts s rest → ReadsStars rest ats next
    → Leads (Want OptName) n next m n last → Leads (Want ArrayPart) n last l n end → Leads param_goals n ts (record { spec = s; stars = ats; name = m; length = l }) n end
param_leads n ts rest next last end s ats m l a b d h = λ κ. a.leads n _ ∙ b.leads n _ ∙ d _ ∙ h _

more_params_by : (k : Class) → (k ≢ c.CloseParen) → (k ≢ c.Comma) → (κ : List AParam → Stack) → Externals.more_params_step k κ ≡ Refuses
more_params_by c.CloseParen h i κ = absurd (h refl)
more_params_by c.Comma h i κ = absurd (i refl)
more_params_by k h i κ = refl

no_params_more : (n : ℕ) (κ : List AParam → Stack) (ts : List Placed) → IsNot (token.Mark marks.CloseParenthesis) ts → IsNot (token.Mark marks.Comma) ts
    → run limit (Want MoreParams κ) n ts ≡ Err (NotHere (length ts))
no_params_more n κ [] h i = refl
no_params_more n κ (t ∷ ts) h i = rw (more_params_by (class_of t.kind) (not_class t.kind (token.Mark marks.CloseParenthesis) refl h) (not_class t.kind (token.Mark marks.Comma) refl i) κ) refl

pub list_first_err : (n : ℕ) (ts : List Placed) (f : Fault) → Fails param_goals n ts f → Fails list_goals n ts f
list_first_err n ts f h = fails_when list_goals n ts f (λ r κ. real param_goals n ts f h r (λ p. Want MoreParams (λ ps. κ (some_params p ps))))

pub params_begin_leads : (n : ℕ) (ts rest : List Placed) (p : AParam) → Leads param_goals n ts p n rest → ParamsLead n ts rest
params_begin_leads n ts rest p l = λ f h. fails_when list_goals n ts f (λ r κ. l (λ q. Want MoreParams (λ ps. κ (some_params q ps))) ∙ real (Want MoreParams) n rest f h r (λ ps. κ (some_params p ps)))

pub params_more_leads : (n : ℕ) (ts rest after behind : List Placed) (p : AParam) → ParamsLead n ts rest → rest ≡ sign marks.Comma 0 ∷ after → Leads param_goals n after p n behind
    → ParamsLead n ts behind
params_more_leads n ts rest after behind p l e g = λ f h. l f (fails_when (Want MoreParams) n rest f
    (λ r κ. rw e (g (λ q. Want MoreParams (λ qs. κ (q ∷ qs))) ∙ real (Want MoreParams) n behind f h r (λ qs. κ (p ∷ qs)))))

pub list_err : (n : ℕ) (ts rest after : List Placed) (f : Fault) → ParamsLead n ts rest → rest ≡ sign marks.Comma 0 ∷ after → Fails param_goals n after f → Fails list_goals n ts f
list_err n ts rest after f l e h = l f (fails_when (Want MoreParams) n rest f (λ r κ. rw e (real param_goals n after f h r (λ q. Want MoreParams (λ qs. κ (q ∷ qs))))))

pub list_close : (n : ℕ) (ts rest : List Placed) (f : Fault) → ParamsLead n ts rest → IsNot (token.Mark marks.Comma) rest → (f ≡ NotHere (length rest))
    × IsNot (token.Mark marks.CloseParenthesis) rest → Fails list_goals n ts f
list_close n ts rest f l i d = l f (fails_here (Want MoreParams) n rest (length rest) f d.0 (λ κ. no_params_more n κ rest d.1 i))

params_by : (k : Class) → (k ≢ c.CloseParen) → (t : Placed) (κ : SomeParams → Stack) → Externals.params_step k t κ
    ≡ Types.words_step k t (λ s. param_behind s (λ p. Want MoreParams (λ ps. κ (some_params p ps))))
params_by c.CloseParen h t κ = absurd (h refl)
params_by k h t κ = refl

expand_params : (n : ℕ) (κ : SomeParams → Stack) (ts : List Placed) → IsNot (token.Mark marks.CloseParenthesis) ts → run limit (Want Params κ) n ts ≡ run limit (list_goals κ) n ts
expand_params n κ [] h = refl
expand_params n κ (t ∷ ts) h = rw (params_by (class_of t.kind) (not_class t.kind (token.Mark marks.CloseParenthesis) refl h) t κ) refl

pub params_err : (n : ℕ) (ts : List Placed) (f : Fault) → IsNot (token.Mark marks.CloseParenthesis) ts → Fails list_goals n ts f → Fails (Want Params) n ts f
params_err n ts f h d = fails_when (Want Params) n ts f (λ r κ. expand_params n κ ts h ∙ real list_goals n ts f d r κ)

-- bodies and functions
body_by : (k : Class) → (k ≢ c.Semicolon) → (k ≢ c.OpenBrace) → (n : ℕ) (κ : Option SomeItems → Stack) → Externals.body_step k n κ ≡ Refuses
body_by c.Semicolon h i n κ = absurd (h refl)
body_by c.OpenBrace h i n κ = absurd (i refl)
body_by k h i n κ = refl

no_body : (n : ℕ) (κ : Option SomeItems → Stack) (ts : List Placed) → IsNot (token.Mark marks.Semicolon) ts → IsNot (token.Mark marks.OpenBrace) ts → run limit (Want Body κ) n ts
    ≡ Err (NotHere (length ts))
no_body n κ [] h i = refl
no_body n κ (t ∷ ts) h i = rw (body_by (class_of t.kind) (not_class t.kind (token.Mark marks.Semicolon) refl h) (not_class t.kind (token.Mark marks.OpenBrace) refl i) n κ) refl

pub body_none : (ts : List Placed) (f : Fault) → IsNot (token.Mark marks.Semicolon) ts → (f ≡ NotHere (length ts)) × IsNot (token.Mark marks.OpenBrace) ts → Fails (Want Body) 0 ts f
body_none ts f h d = fails_here (Want Body) 0 ts (length ts) f d.0 (λ κ. no_body 0 κ ts h d.1)

pub body_err : (i : ℕ) (ts inner : List Placed) (f : Fault) → ts ≡ sign marks.OpenBrace 0 ∷ inner → (i ≡ 0 + 1) × (0 + 1 ≤ 200) → Fails (Want Items) i inner f → Fails (Want Body) 0 ts f
body_err i ts inner f e up h = fails_when (Want Body) 0 ts f (λ r κ. opens Body κ 0 i 1 (sign marks.OpenBrace 0) ts inner _ refl e up ∙ real (Want Items) i inner f h r _)

pub function_params_err : (ats x : List ℕ) (at o : ℕ) (ts : List Placed) (f : Fault) → Fails (Want Params) 1 ts f → Fails (function_behind ats x at o 0) 1 ts f
function_params_err ats x at o ts f h = fails_when (function_behind ats x at o 0) 1 ts f (λ r κ. real (Want Params) 1 ts f h r _)

params_lead : (n : ℕ) (ts rest : List Placed) (ps : SomeParams) → ReadsParams n ts ps rest → (κ : SomeParams → Stack) → run limit (Want Params κ) n ts ≡ run limit (κ ps) n rest
params_lead n ts rest ps r κ = rw (r.text) (law_params limit ps κ n rest r.fits r.low)

pub function_body_err : (ats x : List ℕ) (at o : ℕ) (ts rest : List Placed) (ps : SomeParams) (f : Fault) → ReadsParams 1 ts ps rest → Fails (Want Body) 0 rest f
    → Fails (function_behind ats x at o 0) 1 ts f
function_body_err ats x at o ts rest ps f g h = fails_when (function_behind ats x at o 0) 1 ts f (λ r κ. params_lead 1 ts rest ps g _ ∙ back limit 0 1 _ rest ∙ real (Want Body) 0 rest f h r _)

-- what is declared at file level
declared_name_by : (k : Class) → (k ≢ c.Name) → (t : Placed) (ats : List ℕ) (κ : ADeclared → Stack) → Externals.declared_name_step k t ats κ ≡ Refuses
declared_name_by c.Name h t ats κ = absurd (h refl)
declared_name_by k h t ats κ = refl

no_declared : (ats : List ℕ) (n : ℕ) (κ : ADeclared → Stack) (ts : List Placed) → NoName ts → run limit (Want (DeclaredName ats) κ) n ts ≡ Err (NotHere (length ts))
no_declared ats n κ [] h = refl
no_declared ats n κ (t ∷ ts) h = rw (declared_name_by (class_of t.kind) (not_named t.kind h) t ats κ) refl

pub declared_none : (ts rest : List Placed) (ats : List ℕ) (f : Fault) → ReadsStars ts ats rest → NoName rest → f ≡ NotHere (length rest) → Fails declared_goals 0 ts f
declared_none ts rest ats f s h e = fails_here declared_goals 0 ts (length rest) f e (λ κ. s.leads 0 _ ∙ no_declared ats 0 κ rest h)

named_leads : (at : ℕ) (x ats : List ℕ) (κ : ADeclared → Stack) (ts rest after : List Placed) → ReadsStars ts ats rest → rest ≡ onto_name x at after → run limit (declared_goals κ) 0 ts
    ≡ run limit (Want (AfterName ats x at) κ) 0 after
named_leads at x ats κ ts rest after s e = s.leads 0 (λ v. Want (DeclaredName v) κ) ∙ rw e refl

pub declared_function_err : (at o : ℕ) (x ats : List ℕ) (ts rest after inner : List Placed) (f : Fault) → ReadsStars ts ats rest → rest ≡ onto_name x at after → after
    ≡ sign marks.OpenParenthesis o ∷ inner → Fails (function_behind ats x at o 0) 1 inner f → Fails declared_goals 0 ts f
declared_function_err at o x ats ts rest after inner f s e t h = fails_when declared_goals 0 ts f
    (λ r κ. named_leads at x ats κ ts rest after s e ∙ rw t (real (function_behind ats x at o 0) 1 inner f h r κ))

pub declared_behind_err : (at : ℕ) (x ats : List ℕ) (ts rest after : List Placed) (f : Fault) → ReadsStars ts ats rest → rest ≡ onto_name x at after
    → IsNot (token.Mark marks.OpenParenthesis) after → Fails (declarator_behind ats x at) 0 after f → Fails declared_goals 0 ts f
declared_behind_err at x ats ts rest after f s e i h = fails_when declared_goals 0 ts f
    (λ r κ. named_leads at x ats κ ts rest after s e ∙ expand_after_name limit 0 ats x at κ after i ∙ real (declarator_behind ats x at) 0 after f h r (globals_behind κ))

pub declared_more_err : (at : ℕ) (x ats : List ℕ) (ts rest after last : List Placed) (d : ADeclarator) (f : Fault) → ReadsStars ts ats rest → rest ≡ onto_name x at after
    → IsNot (token.Mark marks.OpenParenthesis) after → Leads (declarator_behind ats x at) 0 after d 0 last → Fails (Want MoreDeclarators) 0 last f → Fails declared_goals 0 ts f
declared_more_err at x ats ts rest after last d f s e i l h = fails_when declared_goals 0 ts f
    (λ r κ. named_leads at x ats κ ts rest after s e ∙ expand_after_name limit 0 ats x at κ after i ∙ l (globals_behind κ) ∙ real (Want MoreDeclarators) 0 last f h r _)

-- externals and units
external_by : (k : Class) → (k ≢ c.Static) → (t : Placed) (κ : AnExternal → Stack) → Externals.external_step k t κ ≡ Types.words_step k t (external_rest None κ)
external_by c.Static h t κ = absurd (h refl)
external_by k h t κ = refl

pub static_none : (ts : List Placed) → IsNot (token.Key keys.Static) ts → (κ : AnExternal → Stack) → run limit (Want External κ) 0 ts ≡ run limit (Want TypeWords (external_rest None κ)) 0 ts
static_none [] h κ = refl
static_none (t ∷ ts) h κ = rw (external_by (class_of t.kind) (not_class t.kind (token.Key keys.Static) refl h) t κ) refl

pub static_some : (at : ℕ) (ts rest : List Placed) → ts ≡ word keys.Static at ∷ rest → (κ : AnExternal → Stack) → run limit (Want External κ) 0 ts
    ≡ run limit (Want TypeWords (external_rest (Some at) κ)) 0 rest
static_some at ts rest e κ = rw e refl

pub external_spec_err : (ts rest : List Placed) (st : Option ℕ) (f : Fault)
    → ((κ : AnExternal → Stack) → run limit (Want External κ) 0 ts ≡ run limit (Want TypeWords (external_rest st κ)) 0 rest) → Fails (Want TypeWords) 0 rest f → Fails (Want External) 0 ts f
external_spec_err ts rest st f l h = fails_when (Want External) 0 ts f (λ r κ. l κ ∙ real (Want TypeWords) 0 rest f h r (external_rest st κ))

pub external_declared_err : (ts rest next : List Placed) (st : Option ℕ) (s : Spec) (f : Fault)
    → ((κ : AnExternal → Stack) → run limit (Want External κ) 0 ts ≡ run limit (Want TypeWords (external_rest st κ)) 0 rest) → ReadsSpec rest s next → Fails declared_goals 0 next f
    → Fails (Want External) 0 ts f
external_declared_err ts rest next st s f l g h = fails_when (Want External) 0 ts f (λ r κ. l κ ∙ g.leads 0 (external_rest st κ) ∙ real declared_goals 0 next f h r _)

whole_by : (k : Class) → (k ≢ c.End) → (t : Placed) (κ : AUnit → Stack) → Externals.whole_step k t κ ≡ Externals.external_step k t (λ x. Want Whole (λ u. κ (before x u)))
whole_by c.End h t κ = absurd (h refl)
whole_by k h t κ = refl

expand_whole : (κ : AUnit → Stack) (ts : List Placed) → IsNot token.End ts → run limit (Want Whole κ) 0 ts ≡ run limit (Want External (λ x. Want Whole (λ u. κ (before x u)))) 0 ts
expand_whole κ [] h = refl
expand_whole κ (t ∷ ts) h = rw (whole_by (class_of t.kind) (not_class t.kind token.End refl h) t κ) refl

-- a fault of the rest of a unit is one of the whole
abbrev pub WholeLeads : List Placed → List Placed → Type 0
WholeLeads ts rest = (f : Fault) → Fails (Want Whole) 0 rest f → Fails (Want Whole) 0 ts f

pub whole_err : (ts rest : List Placed) (f : Fault) → WholeLeads ts rest → IsNot token.End rest → Fails (Want External) 0 rest f → Fails (Want Whole) 0 ts f
whole_err ts rest f l i h = l f (fails_when (Want Whole) 0 rest f (λ r κ. expand_whole κ rest i ∙ real (Want External) 0 rest f h r _))

pub whole_begin : (ts : List Placed) → WholeLeads ts ts
whole_begin ts = λ f h. h

pub whole_more : (ts rest behind : List Placed) (x : AnExternal) → WholeLeads ts rest → IsNot token.End rest → ReadsExternal rest x behind → WholeLeads ts behind
whole_more ts rest behind x l i g = λ f h. l f (fails_when (Want Whole) 0 rest f
    (λ r κ. expand_whole κ rest i ∙ rw (g.text) (law_external limit x (λ y. Want Whole (λ u. κ (before y u))) behind g.fits g.low) ∙ real (Want Whole) 0 behind f h r (λ u. κ (before x u))))

-- a token behind the end
pub after_end : (ts rest behind : List Placed) (at : ℕ) (f : Fault) → WholeLeads ts rest → rest ≡ record { kind = token.End; at = at } ∷ behind → (f ≡ NotHere (length behind))
    × HasToken behind → Fails (Want Whole) 0 ts f
after_end ts rest [] at f l e h = absurd (h.1)
after_end ts rest (t ∷ behind) at f l e h = l f (fails_here (Want Whole) 0 rest (length (t ∷ behind)) f h.0 (λ κ. rw e refl))

-- a storage word or a type word begins a local declaration
type_local : (k : Class) → TypeClass k → LocalClass k
type_local c.Int h = tt
type_local c.Char h = tt
type_local c.Short h = tt
type_local c.Unsigned h = tt
type_local c.Void h = tt
type_local k h = absurd h

type_not_local : (k : Class) → (k ≢ c.Static) → (k ≢ c.Register) → NoTypeClass k → LocalClass k → ⊥
type_not_local c.Static a b h i = a refl
type_not_local c.Register a b h i = b refl
type_not_local c.Int a b h i = h
type_not_local c.Char a b h i = h
type_not_local c.Short a b h i = h
type_not_local c.Unsigned a b h i = h
type_not_local c.Void a b h i = h
type_not_local k a b h i = i

pub local_as_type : (b : Bool) (ts : List Placed) → IsNot (token.Key keys.Static) ts → IsNot (token.Key keys.Register) ts → MatchBool b (IsTypeWord ts) (NoTypeWord ts)
    → MatchBool b (BeginsLocal ts) (NoLocal ts)
local_as_type true [] h i m = m
local_as_type true (t ∷ ts) h i m = type_local (class_of t.kind) m
local_as_type false [] h i m = tt
local_as_type false (t ∷ ts) h i m = type_not_local (class_of t.kind) (not_class t.kind (token.Key keys.Static) refl h) (not_class t.kind (token.Key keys.Register) refl i) m
