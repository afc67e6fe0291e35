-- The exits of the functions that read expressions: a fault there is the automaton's.
use Rattle.std.proofs.Common.{◌≡◌, ◌≢◌, ℕ, ◌+◌, ◌<◌, ◌≤◌, List, [], ◌∷◌, length, refl, sym, ◌∙◌, arith}
use Rattle.std.specs.Prelude.{None, Bool, true, false, Result, Ok, Err, IfErr}
use Rattle.std.specs.Bool.{MatchBool}
use Rattle.std.proofs.lemmas.Bool.Decides.{nat_tests}
use Rattle.std.proofs.lemmas.Option.{none-some}
use Rattle.c_tokens.specs.declared.token.Token.{Token}
use Rattle.c_tokens.specs.declared.token.Token.TheVariants as token
use Rattle.c_tokens.specs.declared.words.Key.{Key}
use Rattle.c_tokens.specs.declared.words.Key.TheVariants as keys
use Rattle.c_tokens.specs.declared.marks.Mark.{Mark}
use Rattle.c_tokens.specs.declared.marks.Mark.TheVariants as marks
use Rattle.c_phrases.specs.declared.operator.BinaryOperator.{BinaryOperator}
use Rattle.c_phrases.specs.declared.operator.StepOperator.{StepOperator}
use Rattle.c_phrases.specs.declared.operator.AssignOperator.{AssignOperator}
use Rattle.c_phrases.specs.declared.operator.AssignOperator.TheVariants as assigns
use Rattle.c_syntax_goals.specs.declared.fault.Fault.{Fault}
use Rattle.c_syntax_goals.specs.declared.fault.Fault.TheVariants.{NoMemory, NotHere, TooDeep}
use Rattle.c_phrases.specs.declared.tree.TypeName.{TypeName}
use Rattle.c_phrases.specs.Classes.{Placed, Class, class_of, key_class, mark_class, word, sign}
use Rattle.c_phrases.specs.Classes as c
use Rattle.c_phrases.specs.Phrases.{AnExp, paren, call, index, step_after, comma}
use Rattle.c_phrases.specs.Phrases.{SomeExps, no_exps, exps, after_exp, AllAt}
use Rattle.c_phrases.specs.Spelling.{onto_exp, onto_first, onto_others}
use Rattle.c_phrases.specs.Operators.{binary_mark, step_mark, assign_mark}
use Rattle.c_phrases.specs.Levels.{LowExps, limit}
use Rattle.c_phrases.specs.Takes.{IsTypeWord, assign_of, prefix_of, step_of, NoPrefix, NoPrefixMark, NoStep, NoStepMark, NoAssign, NoAssignMark}
use Rattle.c_phrases.specs.Fronts.{Quiet, IsNot, NoCast}
use Rattle.c_phrases.specs.Fits.{IsSome}
use Rattle.c_syntax.specs.Reads.{NoName, NoNumber, NoString, BeginsCast, StopClass, IsStop, IsRead, ReadsType}
use Rattle.c_syntax.specs.Reads.{ArgumentsSoFar, ReadsArguments}
use Rattle.c_syntax.specs.Leads.{Fails, Leads, TailFails, TailLeads, PostFails, CommasFail}
use Rattle.c_syntax_goals.specs.Wanted as Wanted
use Rattle.c_syntax_goals.specs.Expressions as Expressions
use Rattle.c_syntax_goals.specs.Goals as Goals
use Rattle.c_syntax_goals.specs.Goals.{Goal, Val, Stack, Want, Steps, Opens, Refuses, Expr, Commas, Assign, Cond}
use Rattle.c_syntax_goals.specs.Goals.{Cast, Unary, Primary, Parens, CallTail, PostTail, Ended, Tail, Group}
use Rattle.c_syntax_goals.specs.Goals.{SizeofTail, SizeofGroup, Arguments, MoreArguments, Back, WantParen}
use Rattle.c_syntax_goals.specs.Goals.{WantBracket, WantColon}
use Rattle.c_syntax_goals.specs.Turns.{turn}
use Rattle.c_syntax_goals.specs.Expressions.{insert, cond_goals}
use Rattle.c_syntax_goals.specs.Types.{type_goals}
use Rattle.c_syntax_goals.specs.Groups.{cast_behind, sizeof_behind}
use Rattle.c_syntax_goals.specs.Machine.{run}
use Rattle.c_syntax_goals.proofs.Tokens.{not_class}
use Rattle.c_syntax_goals.proofs.PhraseLaws.{limit_low}
use Rattle.c_syntax_goals.proofs.Steps.{Unset, NoSet, step_opens, step_deep, step_refuses, tail_binary, tail_assign, unary_step, post_step, back, loosen}
use Rattle.c_syntax_goals.proofs.Steps.{group_type, sizeof_group_type, cast_plain, assign_plain, sizeof_is_plain, assign_cast, expand_expr, expand_cond, expand_arguments}
use Rattle.c_syntax_goals.proofs.Going.{starts, not_start, quiet_others, law_exp, law_assign, law_operand, law_unary, law_first}

-- a fault that is no want of memory
abbrev pub IsReal : Fault → Type 0
IsReal NoMemory = ⊥
IsReal (NotHere k) = Unit {0}
IsReal (TooDeep k) = Unit {0}

pub fails_when : {V : Type 0} (F : (V → Stack) → Stack) (n : ℕ) (ts : List Placed) (f : Fault) → (IsReal f → (κ : V → Stack) → run limit (F κ) n ts ≡ Err f) → Fails F n ts f
fails_when F n ts NoMemory h = tt
fails_when F n ts (NotHere k) h = h tt
fails_when F n ts (TooDeep k) h = h tt

pub real : {V : Type 0} (F : (V → Stack) → Stack) (n : ℕ) (ts : List Placed) (f : Fault) → Fails F n ts f → IsReal f → (κ : V → Stack) → run limit (F κ) n ts ≡ Err f
real F n ts NoMemory h r κ = absurd r
real F n ts (NotHere k) h r κ = h κ
real F n ts (TooDeep k) h r κ = h κ

-- the text is refused here
pub fails_here : {V : Type 0} (F : (V → Stack) → Stack) (n : ℕ) (ts : List Placed) (k : ℕ) (f : Fault) → f ≡ NotHere k → ((κ : V → Stack) → run limit (F κ) n ts ≡ Err (NotHere k)) → Fails F n ts f
fails_here F n ts k f e h = rw e h

high : (m : ℕ) → 200 < m → limit m ≡ false
high m le = grind (arith, nat_tests)

-- a token that opens levels, of which there are too many or not
pub deep : (g : Goal) (n k : ℕ) (t : Placed) (ts after : List Placed) (f : Fault) (S : (Val g → Stack) → Stack)
    → ((κ : Val g → Stack) → turn g (class_of t.kind) t n κ ≡ Steps (Opens k (S κ))) → ts ≡ t ∷ after → (f ≡ TooDeep (length ts)) × (200 < n + k) → Fails (Want g) n ts f
deep g n k t ts after f S h e d = rw (d.0, e) (λ κ. step_deep limit g κ t n k (S κ) after (h κ) (high (n + k) d.1))

pub opens : (g : Goal) (κ : Val g → Stack) (n m k : ℕ) (t : Placed) (ts after : List Placed) (s : Stack) → turn g (class_of t.kind) t n κ ≡ Steps (Opens k s) → ts ≡ t ∷ after → (m ≡ n + k)
    × (n + k ≤ 200) → run limit (Want g κ) n ts ≡ run limit s m after
opens g κ n m k t ts after s h e up = rw (e, up.0) (step_opens limit g κ t n k s after h (limit_low (n + k) up.1))

-- what was read leads on
pub assign_leads : (n m : ℕ) (ts rest : List Placed) (e : AnExp) → IsRead 1 1 n ts e rest m → (κ : AnExp → Stack) → run limit (Want Assign κ) n ts ≡ run limit (κ e) m rest
assign_leads n m ts rest e r κ = rw (r.text, r.level) (law_assign limit e κ n rest r.at r.low r.quiet)

pub exp_leads : (n m : ℕ) (ts rest : List Placed) (e : AnExp) → IsRead 0 0 n ts e rest m → (κ : AnExp → Stack) → run limit (Want Expr κ) n ts ≡ run limit (κ e) m rest
exp_leads n m ts rest e r κ = rw (r.text, r.level) (law_exp limit e κ n rest r.at r.low r.quiet)

pub operand_leads : (n m : ℕ) (ts rest : List Placed) (e : AnExp) → IsRead 13 13 n ts e rest m → (κ : AnExp → Stack) → run limit (Want Cast κ) n ts ≡ run limit (κ e) m rest
operand_leads n m ts rest e r κ = rw (r.text, r.level) (law_operand limit e κ n rest r.at r.low r.quiet)

pub unary_leads : (n m : ℕ) (ts rest : List Placed) (e : AnExp) → IsRead 14 13 n ts e rest m → (κ : AnExp → Stack) → run limit (Want Unary κ) n ts ≡ run limit (κ e) m rest
unary_leads n m ts rest e r κ = rw (r.text, r.level) (law_unary limit e κ n rest r.at r.low r.quiet)

-- refusals
paren_by : (k : Class) → (k ≢ c.CloseParen) → (s : Stack) → Wanted.paren_step k s ≡ Refuses
paren_by c.CloseParen h s = absurd (h refl)
paren_by k h s = refl

bracket_by : (k : Class) → (k ≢ c.CloseBracket) → (s : Stack) → Wanted.bracket_step k s ≡ Refuses
bracket_by c.CloseBracket h s = absurd (h refl)
bracket_by k h s = refl

colon_by : (k : Class) → (k ≢ c.Colon) → (s : Stack) → Wanted.colon_step k s ≡ Refuses
colon_by c.Colon h s = absurd (h refl)
colon_by k h s = refl

parens_by : (k : Class) → (k ≢ c.OpenParen) → (t : Placed) (n : ℕ) (κ : AnExp → Stack) → Expressions.parens_step k t n κ ≡ Refuses
parens_by c.OpenParen h t n κ = absurd (h refl)
parens_by k h t n κ = refl

more_by : (k : Class) → (k ≢ c.CloseParen) → (k ≢ c.Comma) → (n : ℕ) (κ : SomeExps → Stack) → Expressions.more_arguments_step k n κ ≡ Refuses
more_by c.CloseParen h i n κ = absurd (h refl)
more_by c.Comma h i n κ = absurd (i refl)
more_by k h i n κ = refl

pub no_close : (n : ℕ) (κ : Unit {0} → Stack) (ts : List Placed) → IsNot (token.Mark marks.CloseParenthesis) ts → run limit (Want WantParen κ) n ts ≡ Err (NotHere (length ts))
no_close n κ [] h = refl
no_close n κ (t ∷ ts) h = rw (paren_by (class_of t.kind) (not_class t.kind (token.Mark marks.CloseParenthesis) refl h) (κ tt)) refl

pub no_bracket : (n : ℕ) (κ : Unit {0} → Stack) (ts : List Placed) → IsNot (token.Mark marks.CloseBracket) ts → run limit (Want WantBracket κ) n ts ≡ Err (NotHere (length ts))
no_bracket n κ [] h = refl
no_bracket n κ (t ∷ ts) h = rw (bracket_by (class_of t.kind) (not_class t.kind (token.Mark marks.CloseBracket) refl h) (κ tt)) refl

pub no_colon : (n : ℕ) (κ : Unit {0} → Stack) (ts : List Placed) → IsNot (token.Mark marks.Colon) ts → run limit (Want WantColon κ) n ts ≡ Err (NotHere (length ts))
no_colon n κ [] h = refl
no_colon n κ (t ∷ ts) h = rw (colon_by (class_of t.kind) (not_class t.kind (token.Mark marks.Colon) refl h) (κ tt)) refl

no_parens : (n : ℕ) (κ : AnExp → Stack) (ts : List Placed) → IsNot (token.Mark marks.OpenParenthesis) ts → run limit (Want Parens κ) n ts ≡ Err (NotHere (length ts))
no_parens n κ [] h = refl
no_parens n κ (t ∷ ts) h = rw (parens_by (class_of t.kind) (not_class t.kind (token.Mark marks.OpenParenthesis) refl h) t n κ) refl

no_more : (n : ℕ) (κ : SomeExps → Stack) (ts : List Placed) → IsNot (token.Mark marks.CloseParenthesis) ts → IsNot (token.Mark marks.Comma) ts → run limit (Want MoreArguments κ) n ts
    ≡ Err (NotHere (length ts))
no_more n κ [] h i = refl
no_more n κ (t ∷ ts) h i = rw (more_by (class_of t.kind) (not_class t.kind (token.Mark marks.CloseParenthesis) refl h) (not_class t.kind (token.Mark marks.Comma) refl i) n κ) refl

-- expression
pub expr_err : (n : ℕ) (ts : List Placed) (f : Fault) → Fails (Want Assign) n ts f → Fails (Want Expr) n ts f
expr_err n ts f h = fails_when (Want Expr) n ts f (λ r κ. expand_expr limit n κ ts ∙ real (Want Assign) n ts f h r (λ a. Want (Commas a) κ))

pub expr_commas : (n m : ℕ) (ts rest : List Placed) (e : AnExp) (f : Fault) → IsRead 1 1 n ts e rest m → CommasFail m rest f → Fails (Want Expr) n ts f
expr_commas n m ts rest e f i h = fails_when (Want Expr) n ts f (λ r κ. expand_expr limit n κ ts ∙ assign_leads n m ts rest e i (λ a. Want (Commas a) κ) ∙ real (Want (Commas e)) m rest f (h e) r κ)

-- commas
pub commas_more : (n i m : ℕ) (ts after rest : List Placed) (e : AnExp) (f : Fault) → ts ≡ sign marks.Comma 0 ∷ after → (i ≡ n + 1) × (n + 1 ≤ 200) → IsRead 1 1 i after e rest m
    → CommasFail m rest f → CommasFail n ts f
commas_more n i m ts after rest e f t up g h = λ l. fails_when (Want (Commas l)) n ts f
    (λ r κ. opens (Commas l) κ n i 1 (sign marks.Comma 0) ts after _ refl t up ∙ assign_leads i m after rest e g _ ∙ real (Want (Commas (comma l e))) m rest f (h (comma l e)) r κ)

-- assignment
cast_begins : (n : ℕ) (ts : List Placed) (κ : AnExp → Stack) → BeginsCast ts → run limit (Want Assign κ) n ts ≡ run limit (cond_goals κ) n ts
cast_begins n ts κ b = rw (b.text) (assign_cast limit n b.opened κ b.behind b.word)

pub assign_cast_err : (n : ℕ) (ts : List Placed) (f : Fault) → BeginsCast ts → Fails (Want Cast) n ts f → Fails (Want Assign) n ts f
assign_cast_err n ts f b h = fails_when (Want Assign) n ts f (λ r κ. cast_begins n ts κ b ∙ real (Want Cast) n ts f h r _)

pub assign_cast_tail : (n m : ℕ) (ts rest : List Placed) (e : AnExp) (f : Fault) → BeginsCast ts → IsRead 13 13 n ts e rest m → TailFails m rest f → Fails (Want Assign) n ts f
assign_cast_tail n m ts rest e f b i h = fails_when (Want Assign) n ts f (λ r κ. cast_begins n ts κ b ∙ operand_leads n m ts rest e i _ ∙ real (Want (Tail false e)) m rest f (h e) r κ)

pub assign_unary_err : (n : ℕ) (ts : List Placed) (f : Fault) → NoCast ts → Fails (Want Unary) n ts f → Fails (Want Assign) n ts f
assign_unary_err n ts f b h = fails_when (Want Assign) n ts f (λ r κ. assign_plain limit n κ ts b ∙ real (Want Unary) n ts f h r _)

no_set_mark : (m : Mark) → assign_of m ≡ None → NoSet (mark_class m)
no_set_mark marks.Assign e = absurd (none-some _ (sym e))
no_set_mark marks.AddAssign e = absurd (none-some _ (sym e))
no_set_mark marks.SubtractAssign e = absurd (none-some _ (sym e))
no_set_mark marks.MultiplyAssign e = absurd (none-some _ (sym e))
no_set_mark marks.DivideAssign e = absurd (none-some _ (sym e))
no_set_mark marks.RemainderAssign e = absurd (none-some _ (sym e))
no_set_mark marks.AndAssign e = absurd (none-some _ (sym e))
no_set_mark marks.XorAssign e = absurd (none-some _ (sym e))
no_set_mark marks.OrAssign e = absurd (none-some _ (sym e))
no_set_mark marks.ShiftLeftAssign e = absurd (none-some _ (sym e))
no_set_mark marks.ShiftRightAssign e = absurd (none-some _ (sym e))
no_set_mark m e = tt

key_no_set : (k : Key) → NoSet (key_class k)
key_no_set keys.Int = tt
key_no_set k = tt

no_set_of : (k : Token) → NoAssignMark k → NoSet (class_of k)
no_set_of (token.Mark m) e = no_set_mark m e
no_set_of (token.Key k) e = key_no_set k
no_set_of (token.Name n) e = tt
no_set_of (token.Number v) e = tt
no_set_of (token.Str b) e = tt
no_set_of token.End e = tt

unset_of : (ts : List Placed) → NoAssign ts → Unset ts
unset_of [] h = tt
unset_of (t ∷ ts) h = no_set_of t.kind h

pub assign_unary_tail : (n m : ℕ) (ts rest : List Placed) (e : AnExp) (f : Fault) → NoCast ts → IsRead 14 13 n ts e rest m → NoAssign rest → TailFails m rest f → Fails (Want Assign) n ts f
assign_unary_tail n m ts rest e f b i a h = fails_when (Want Assign) n ts f
    (λ r κ. assign_plain limit n κ ts b ∙ unary_leads n m ts rest e i _ ∙ loosen limit m e κ rest (unset_of rest a) ∙ real (Want (Tail false e)) m rest f (h e) r κ)

pub assign_deep : (n m : ℕ) (ts rest after : List Placed) (e : AnExp) (op : AssignOperator) (at : ℕ) (f : Fault) → NoCast ts → IsRead 14 13 n ts e rest m → rest
    ≡ sign (assign_mark op) at ∷ after → (f ≡ TooDeep (length rest)) × (200 < m + 1) → Fails (Want Assign) n ts f
assign_deep n m ts rest after e op at f b i t d = fails_when (Want Assign) n ts f
    (λ r κ. assign_plain limit n κ ts b ∙ unary_leads n m ts rest e i _
    ∙ real (Want (Tail true e)) m rest f (deep (Tail true e) m 1 (sign (assign_mark op) at) rest after f _ (λ g. tail_assign op at m e g) t d) r κ)

pub assign_err : (n m i : ℕ) (ts rest after : List Placed) (e : AnExp) (op : AssignOperator) (at : ℕ) (f : Fault) → NoCast ts → IsRead 14 13 n ts e rest m → rest
    ≡ sign (assign_mark op) at ∷ after → (i ≡ m + 1) × (m + 1 ≤ 200) → Fails (Want Assign) i after f → Fails (Want Assign) n ts f
assign_err n m i ts rest after e op at f b g t up h = fails_when (Want Assign) n ts f
    (λ r κ. assign_plain limit n κ ts b ∙ unary_leads n m ts rest e g _ ∙ opens (Tail true e) κ m i 1 (sign (assign_mark op) at) rest after _ (tail_assign op at m e κ) t up
    ∙ real (Want Assign) i after f h r _)

-- what is not assigned to
pub set_refused : (k : Class) → (NoSet k → ⊥) → (t : Placed) (n : ℕ) (l : AnExp) (κ : AnExp → Stack) → Expressions.tail_turn k t n false l κ ≡ Steps Refuses
set_refused c.Equals h t n l κ = refl
set_refused c.Compound h t n l κ = refl
set_refused k h t n l κ = absurd (h tt)

assign_sets : (op : AssignOperator) → NoSet (mark_class (assign_mark op)) → ⊥
assign_sets assigns.Assign h = h
assign_sets op h = h

pub tail_assigned : (n m : ℕ) (ts rest after : List Placed) (op : AssignOperator) (at : ℕ) (f : Fault) → TailLeads n ts m rest → rest ≡ sign (assign_mark op) at ∷ after → f
    ≡ NotHere (length rest) → TailFails n ts f
tail_assigned n m ts rest after op at f l e g = l f (λ x. fails_here (Want (Tail false x)) m rest (length rest) f g (λ κ. rw e (by x κ)))
  where
    by : (x : AnExp) (κ : AnExp → Stack) → run limit (Want (Tail false x) κ) m (sign (assign_mark op) at ∷ after) ≡ Err (NotHere (length (sign (assign_mark op) at ∷ after)))
    by x κ = step_refuses limit (Tail false x) κ (sign (assign_mark op) at) m after (set_refused (mark_class (assign_mark op)) (assign_sets op) (sign (assign_mark op) at) m x κ)

-- choices
pub choice_deep : (n m : ℕ) (ts rest inner : List Placed) (at : ℕ) (f : Fault) → TailLeads n ts m rest → rest ≡ sign marks.Question at ∷ inner → (f ≡ TooDeep (length rest)) × (200 < m + 1)
    → TailFails n ts f
choice_deep n m ts rest inner at f l e d = l f (λ x. deep (Tail false x) m 1 (sign marks.Question at) rest inner f _ (λ κ. refl) e d)

pub choice_err : (n m i : ℕ) (ts rest inner : List Placed) (at : ℕ) (f : Fault) → TailLeads n ts m rest → rest ≡ sign marks.Question at ∷ inner → (i ≡ m + 1) × (m + 1 ≤ 200)
    → Fails (Want Expr) i inner f → TailFails n ts f
choice_err n m i ts rest inner at f l e up h = l f (λ x. fails_when (Want (Tail false x)) m rest f
    (λ r κ. opens (Tail false x) κ m i 1 (sign marks.Question at) rest inner _ refl e up ∙ real (Want Expr) i inner f h r _))

pub choice_colon : (n m i j : ℕ) (ts rest inner next : List Placed) (at : ℕ) (e : AnExp) (f : Fault) → TailLeads n ts m rest → rest ≡ sign marks.Question at ∷ inner → (i ≡ m + 1)
    × (m + 1 ≤ 200) → IsRead 0 0 i inner e next j → (f ≡ NotHere (length next)) × IsNot (token.Mark marks.Colon) next → TailFails n ts f
choice_colon n m i j ts rest inner next at e f l t up g h = l f (λ x. fails_here (Want (Tail false x)) m rest (length next) f h.0
    (λ κ. opens (Tail false x) κ m i 1 (sign marks.Question at) rest inner _ refl t up ∙ exp_leads i j inner next e g _ ∙ no_colon j _ next h.1))

colon_leads : (j : ℕ) (next last : List Placed) (κ : AnExp → Stack) → next ≡ sign marks.Colon 0 ∷ last → run limit (Want WantColon (λ y. Want Cond κ)) j next ≡ run limit (cond_goals κ) j last
colon_leads j next last κ e = rw e (expand_cond limit j κ last)

pub choice_operand : (n m i j : ℕ) (ts rest inner next last : List Placed) (at : ℕ) (e : AnExp) (f : Fault) → TailLeads n ts m rest → rest ≡ sign marks.Question at ∷ inner → (i ≡ m + 1)
    × (m + 1 ≤ 200) → IsRead 0 0 i inner e next j → next ≡ sign marks.Colon 0 ∷ last → Fails (Want Cast) j last f → TailFails n ts f
choice_operand n m i j ts rest inner next last at e f l t up g b h = l f
    (λ x. fails_when (Want (Tail false x)) m rest f (λ r κ. opens (Tail false x) κ m i 1 (sign marks.Question at) rest inner _ refl t up ∙ exp_leads i j inner next e g _
    ∙ colon_leads j next last _ b ∙ real (Want Cast) j last f h r _))

pub choice_tail : (n m i j k : ℕ) (ts rest inner next last end : List Placed) (at : ℕ) (e d : AnExp) (f : Fault) → TailLeads n ts m rest → rest ≡ sign marks.Question at ∷ inner
    → (i ≡ m + 1) × (m + 1 ≤ 200) → IsRead 0 0 i inner e next j → next ≡ sign marks.Colon 0 ∷ last → IsRead 13 13 j last d end k → TailFails k end f → TailFails n ts f
choice_tail n m i j k ts rest inner next last end at e d f l t up g b o h =
    l f (λ x. fails_when (Want (Tail false x)) m rest f (λ r κ. opens (Tail false x) κ m i 1 (sign marks.Question at) rest inner _ refl t up ∙ exp_leads i j inner next e g _
    ∙ colon_leads j next last _ b ∙ operand_leads j k last end d o _ ∙ real (Want (Tail false d)) k end f (h d) r _))

pub choice_leads : (n m i j k q : ℕ) (ts rest inner next last end out : List Placed) (at : ℕ) (e d : AnExp) → TailLeads n ts m rest → rest ≡ sign marks.Question at ∷ inner → (i ≡ m + 1)
    × (m + 1 ≤ 200) → IsRead 0 0 i inner e next j → next ≡ sign marks.Colon 0 ∷ last → IsRead 13 13 j last d end k → TailLeads k end q out → TailLeads n ts q out
choice_leads n m i j k q ts rest inner next last end out at e d l t up g b o p = λ f h. choice_tail n m i j k ts rest inner next last end at e d f l t up g b o (p f h)

pub row_tail : (n i m : ℕ) (ts after rest : List Placed) (op : BinaryOperator) (at : ℕ) (e : AnExp) (f : Fault) → ts ≡ sign (binary_mark op) at ∷ after → (i ≡ n + 1) × (n + 1 ≤ 200)
    → IsRead 13 13 i after e rest m → TailFails m rest f → TailFails n ts f
row_tail n i m ts after rest op at e f t up g h = λ l. fails_when (Want (Tail false l)) n ts f
    (λ r κ. opens (Tail false l) κ n i 1 (sign (binary_mark op) at) ts after _ (tail_binary op at n false l κ) t up ∙ operand_leads i m after rest e g _
    ∙ real (Want (Tail false (insert l op at e))) m rest f (h (insert l op at e)) r κ)

pub row_more : (n i m j : ℕ) (ts after rest next : List Placed) (op : BinaryOperator) (at : ℕ) (e : AnExp) (f : Fault) → ts ≡ sign (binary_mark op) at ∷ after → (i ≡ n + 1) × (n + 1 ≤ 200)
    → IsRead 13 13 i after e rest m → TailLeads m rest j next → TailFails j next f → TailFails n ts f
row_more n i m j ts after rest next op at e f t up g l h = row_tail n i m ts after rest op at e f t up g (l f h)

pub row_leads : (n i m j k : ℕ) (ts after rest next end : List Placed) (op : BinaryOperator) (at : ℕ) (e : AnExp) → ts ≡ sign (binary_mark op) at ∷ after → (i ≡ n + 1) × (n + 1 ≤ 200)
    → IsRead 13 13 i after e rest m → TailLeads m rest j next → TailLeads j next k end → TailLeads n ts k end
row_leads n i m j k ts after rest next end op at e t up g l p = λ f h. row_more n i m j ts after rest next op at e f t up g l (p f h)

-- cast
pub cast_unary_err : (n : ℕ) (ts : List Placed) (f : Fault) → NoCast ts → Fails (Want Unary) n ts f → Fails (Want Cast) n ts f
cast_unary_err n ts f b h = fails_when (Want Cast) n ts f (λ r κ. cast_plain limit n κ ts b ∙ real (Want Unary) n ts f h r κ)

cast_opens : (n i o : ℕ) (ts inner : List Placed) (κ : AnExp → Stack) → (ts ≡ sign marks.OpenParenthesis o ∷ inner) × IsTypeWord inner → (i ≡ n + 1) × (n + 1 ≤ 200)
    → run limit (Want Cast κ) n ts ≡ run limit (type_goals (cast_behind o κ)) i inner
cast_opens n i o ts inner κ e up = opens Cast κ n i 1 (sign marks.OpenParenthesis o) ts inner (Want (Group o n) κ) refl e.0 up ∙ group_type limit o n i κ inner e.1

pub cast_type_err : (n i o : ℕ) (ts inner : List Placed) (f : Fault) → (ts ≡ sign marks.OpenParenthesis o ∷ inner) × IsTypeWord inner → (i ≡ n + 1) × (n + 1 ≤ 200)
    → Fails type_goals i inner f → Fails (Want Cast) n ts f
cast_type_err n i o ts inner f e up h = fails_when (Want Cast) n ts f (λ r κ. cast_opens n i o ts inner κ e up ∙ real type_goals i inner f h r (cast_behind o κ))

pub cast_close : (n i o : ℕ) (ts inner rest : List Placed) (t : TypeName) (f : Fault) → (ts ≡ sign marks.OpenParenthesis o ∷ inner) × IsTypeWord inner → (i ≡ n + 1) × (n + 1 ≤ 200)
    → ReadsType inner t rest → (f ≡ NotHere (length rest)) × IsNot (token.Mark marks.CloseParenthesis) rest → Fails (Want Cast) n ts f
cast_close n i o ts inner rest t f e up g h = fails_here (Want Cast) n ts (length rest) f h.0 (λ κ. cast_opens n i o ts inner κ e up ∙ g.leads i (cast_behind o κ) ∙ no_close i _ rest h.1)

close_leads : (i : ℕ) (rest last : List Placed) (κ : Unit {0} → Stack) → rest ≡ sign marks.CloseParenthesis 0 ∷ last → run limit (Want WantParen κ) i rest ≡ run limit (κ tt) i last
close_leads i rest last κ e = rw e refl

pub cast_err : (n i o : ℕ) (ts inner rest last : List Placed) (t : TypeName) (f : Fault) → (ts ≡ sign marks.OpenParenthesis o ∷ inner) × IsTypeWord inner → (i ≡ n + 1) × (n + 1 ≤ 200)
    → ReadsType inner t rest → rest ≡ sign marks.CloseParenthesis 0 ∷ last → Fails (Want Cast) i last f → Fails (Want Cast) n ts f
cast_err n i o ts inner rest last t f e up g b h = fails_when (Want Cast) n ts f
    (λ r κ. cast_opens n i o ts inner κ e up ∙ g.leads i (cast_behind o κ) ∙ close_leads i rest last _ b ∙ real (Want Cast) i last f h r _)

-- a primary and what follows it
abbrev NoOperator : Class → Type 0
NoOperator c.Sign = ⊥
NoOperator c.Star = ⊥
NoOperator c.Lone = ⊥
NoOperator k = Unit {0}

abbrev NoStepClass : Class → Type 0
NoStepClass c.Step = ⊥
NoStepClass k = Unit {0}

-- unary
no_operator_mark : (m : Mark) → prefix_of m ≡ None → NoOperator (mark_class m)
no_operator_mark marks.Plus e = absurd (none-some _ (sym e))
no_operator_mark marks.Minus e = absurd (none-some _ (sym e))
no_operator_mark marks.Tilde e = absurd (none-some _ (sym e))
no_operator_mark marks.Exclamation e = absurd (none-some _ (sym e))
no_operator_mark marks.Star e = absurd (none-some _ (sym e))
no_operator_mark marks.And e = absurd (none-some _ (sym e))
no_operator_mark m e = tt

key_no_operator : (k : Key) → NoOperator (key_class k)
key_no_operator keys.Int = tt
key_no_operator k = tt

no_operator_of : (k : Token) → NoPrefixMark k → NoOperator (class_of k)
no_operator_of (token.Mark m) e = no_operator_mark m e
no_operator_of (token.Key k) e = key_no_operator k
no_operator_of (token.Name n) e = tt
no_operator_of (token.Number v) e = tt
no_operator_of (token.Str b) e = tt
no_operator_of token.End e = tt

no_step_mark : (m : Mark) → step_of m ≡ None → NoStepClass (mark_class m)
no_step_mark marks.Increment e = absurd (none-some _ (sym e))
no_step_mark marks.Decrement e = absurd (none-some _ (sym e))
no_step_mark m e = tt

key_no_step : (k : Key) → NoStepClass (key_class k)
key_no_step keys.Int = tt
key_no_step k = tt

no_step_of : (k : Token) → NoStepMark k → NoStepClass (class_of k)
no_step_of (token.Mark m) e = no_step_mark m e
no_step_of (token.Key k) e = key_no_step k
no_step_of (token.Name n) e = tt
no_step_of (token.Number v) e = tt
no_step_of (token.Str b) e = tt
no_step_of token.End e = tt

primary_by : (k : Class) → NoOperator k → NoStepClass k → (k ≢ c.Sizeof) → (t : Placed) (n : ℕ) (κ : AnExp → Stack) → Expressions.unary_step k t n κ
    ≡ Expressions.primary_step k t n (λ p. Want (PostTail p) κ)
primary_by c.Sign h i j t n κ = absurd h
primary_by c.Star h i j t n κ = absurd h
primary_by c.Lone h i j t n κ = absurd h
primary_by c.Step h i j t n κ = absurd i
primary_by c.Sizeof h i j t n κ = absurd (j refl)
primary_by k h i j t n κ = refl

plain_unary : (n : ℕ) (ts : List Placed) (κ : AnExp → Stack) → NoPrefix ts → NoStep ts → IsNot (token.Key keys.Sizeof) ts → run limit (Want Unary κ) n ts
    ≡ run limit (Want Primary (λ p. Want (PostTail p) κ)) n ts
plain_unary n [] κ h i j = refl
plain_unary n (t ∷ ts) κ h i j = rw (primary_by (class_of t.kind) (no_operator_of t.kind h) (no_step_of t.kind i) (not_class t.kind (token.Key keys.Sizeof) refl j) t n κ) refl

pub unary_primary_err : (n : ℕ) (ts : List Placed) (f : Fault) → NoPrefix ts → NoStep ts → IsNot (token.Key keys.Sizeof) ts → Fails (Want Primary) n ts f → Fails (Want Unary) n ts f
unary_primary_err n ts f p s z h = fails_when (Want Unary) n ts f (λ r κ. plain_unary n ts κ p s z ∙ real (Want Primary) n ts f h r _)

pub unary_post_err : (n m : ℕ) (ts rest : List Placed) (e : AnExp) (f : Fault) → NoPrefix ts → NoStep ts → IsNot (token.Key keys.Sizeof) ts → Leads (Want Primary) n ts e m rest
    → PostFails m rest f → Fails (Want Unary) n ts f
unary_post_err n m ts rest e f p s z l h = fails_when (Want Unary) n ts f (λ r κ. plain_unary n ts κ p s z ∙ l (λ q. Want (PostTail q) κ) ∙ real (Want (PostTail e)) m rest f (h e) r κ)

-- sizeof
pub sizeof_unary_err : (at n : ℕ) (ts : List Placed) (f : Fault) → NoCast ts → Fails (Want Unary) n ts f → Fails (Want (SizeofTail at)) n ts f
sizeof_unary_err at n ts f b h = fails_when (Want (SizeofTail at)) n ts f (λ r κ. sizeof_is_plain limit at n κ ts b ∙ real (Want Unary) n ts f h r _)

sizeof_opens : (at n i o : ℕ) (ts inner : List Placed) (κ : AnExp → Stack) → (ts ≡ sign marks.OpenParenthesis o ∷ inner) × IsTypeWord inner → (i ≡ n + 1) × (n + 1 ≤ 200)
    → run limit (Want (SizeofTail at) κ) n ts ≡ run limit (type_goals (sizeof_behind at o n κ)) i inner
sizeof_opens at n i o ts inner κ e up = opens (SizeofTail at) κ n i 1 (sign marks.OpenParenthesis o) ts inner (Want (SizeofGroup at o n) κ) refl e.0 up ∙ sizeof_group_type limit at o n i κ inner e.1

pub sizeof_type_err : (at n i o : ℕ) (ts inner : List Placed) (f : Fault) → (ts ≡ sign marks.OpenParenthesis o ∷ inner) × IsTypeWord inner → (i ≡ n + 1) × (n + 1 ≤ 200)
    → Fails type_goals i inner f → Fails (Want (SizeofTail at)) n ts f
sizeof_type_err at n i o ts inner f e up h = fails_when (Want (SizeofTail at)) n ts f (λ r κ. sizeof_opens at n i o ts inner κ e up ∙ real type_goals i inner f h r (sizeof_behind at o n κ))

pub sizeof_close : (at n i o : ℕ) (ts inner rest : List Placed) (t : TypeName) (f : Fault) → (ts ≡ sign marks.OpenParenthesis o ∷ inner) × IsTypeWord inner → (i ≡ n + 1) × (n + 1 ≤ 200)
    → ReadsType inner t rest → (f ≡ NotHere (length rest)) × IsNot (token.Mark marks.CloseParenthesis) rest → Fails (Want (SizeofTail at)) n ts f
sizeof_close at n i o ts inner rest t f e up g h = fails_here (Want (SizeofTail at)) n ts (length rest) f h.0
    (λ κ. sizeof_opens at n i o ts inner κ e up ∙ g.leads i (sizeof_behind at o n κ) ∙ no_close i _ rest h.1)

stop_by : (k : Class) → StopClass k → (n : ℕ) → Expressions.ended_turn k n ≡ Steps Refuses
stop_by c.OpenParen h n = refl
stop_by c.OpenBracket h n = refl
stop_by c.Step h n = refl
stop_by k h n = absurd h

stopped : (n : ℕ) (κ : Unit {0} → Stack) (ts : List Placed) → IsStop ts → run limit (Want Ended κ) n ts ≡ Err (NotHere (length ts))
stopped n κ [] h = absurd h
stopped n κ (t ∷ ts) h = rw (stop_by (class_of t.kind) h n) refl

pub sizeof_ended : (at n i o : ℕ) (ts inner rest last : List Placed) (t : TypeName) (f : Fault) → (ts ≡ sign marks.OpenParenthesis o ∷ inner) × IsTypeWord inner → (i ≡ n + 1)
    × (n + 1 ≤ 200) → ReadsType inner t rest → rest ≡ sign marks.CloseParenthesis 0 ∷ last → (f ≡ NotHere (length last)) × IsStop last → Fails (Want (SizeofTail at)) n ts f
sizeof_ended at n i o ts inner rest last t f e up g b h = fails_here (Want (SizeofTail at)) n ts (length last) f h.0
    (λ κ. sizeof_opens at n i o ts inner κ e up ∙ g.leads i (sizeof_behind at o n κ) ∙ close_leads i rest last _ b ∙ back limit n i _ last ∙ stopped n _ last h.1)

-- a token that is no name, number or string
abbrev pub NoWord : Class → Type 0
NoWord c.Name = ⊥
NoWord c.Number = ⊥
NoWord c.Str = ⊥
NoWord k = Unit {0}

-- a primary
no_word_by : (k : Class) → NoWord k → (t : Placed) (n : ℕ) (κ : AnExp → Stack) → Expressions.primary_step k t n κ ≡ Expressions.parens_step k t n κ
no_word_by c.Name h t n κ = absurd h
no_word_by c.Number h t n κ = absurd h
no_word_by c.Str h t n κ = absurd h
no_word_by k h t n κ = refl

pub primary_parens : (n : ℕ) (t : Placed) (ts : List Placed) (κ : AnExp → Stack) → NoWord (class_of t.kind) → run limit (Want Primary κ) n (t ∷ ts) ≡ run limit (Want Parens κ) n (t ∷ ts)
primary_parens n t ts κ h = rw (no_word_by (class_of t.kind) h t n κ) refl

-- brackets round an expression
pub parens_none : (n : ℕ) (ts : List Placed) (f : Fault) → f ≡ NotHere (length ts) → IsNot (token.Mark marks.OpenParenthesis) ts → Fails (Want Parens) n ts f
parens_none n ts f e h = fails_here (Want Parens) n ts (length ts) f e (λ κ. no_parens n κ ts h)

pub parens_close : (n i j o : ℕ) (ts inner rest : List Placed) (e : AnExp) (f : Fault) → ts ≡ sign marks.OpenParenthesis o ∷ inner → (i ≡ n + 1) × (n + 1 ≤ 200)
    → IsRead 0 0 i inner e rest j → (f ≡ NotHere (length rest)) × IsNot (token.Mark marks.CloseParenthesis) rest → Fails (Want Parens) n ts f
parens_close n i j o ts inner rest e f t up g h = fails_here (Want Parens) n ts (length rest) f h.0
    (λ κ. opens Parens κ n i 1 (sign marks.OpenParenthesis o) ts inner _ refl t up ∙ exp_leads i j inner rest e g _ ∙ no_close j _ rest h.1)

pub parens_leads : (n i j o : ℕ) (ts inner rest last : List Placed) (e : AnExp) → ts ≡ sign marks.OpenParenthesis o ∷ inner → (i ≡ n + 1) × (n + 1 ≤ 200) → IsRead 0 0 i inner e rest j
    → rest ≡ sign marks.CloseParenthesis 0 ∷ last → Leads (Want Parens) n ts (paren o e) n last
parens_leads n i j o ts inner rest last e t up g b = λ κ. opens Parens κ n i 1 (sign marks.OpenParenthesis o) ts inner _ refl t up ∙ exp_leads i j inner rest e g _
    ∙ close_leads j rest last _ b ∙ back limit n j _ last

arguments_lead : (n : ℕ) (ts rest : List Placed) (es : SomeExps) (κ : SomeExps → Stack) → ReadsArguments n ts es rest → run limit (Want Arguments κ) n ts ≡ run limit (κ es) n rest
arguments_lead n ts rest es κ r = rw (r.text) (law_first limit es κ n rest r.at r.low)

pub call_leads : (n i at o : ℕ) (x : List ℕ) (ts inner rest : List Placed) (es : SomeExps) → ts ≡ sign marks.OpenParenthesis o ∷ inner → (i ≡ n + 2) × (n + 2 ≤ 200)
    → ReadsArguments i inner es rest → Leads (Want (CallTail x at)) n ts (call x at o es) (n + 1) rest
call_leads n i at o x ts inner rest es e up r = λ κ. opens (CallTail x at) κ n i 2 (sign marks.OpenParenthesis o) ts inner _ refl e up ∙ arguments_lead i inner rest es _ r
    ∙ back limit (n + 1) i _ rest

-- arguments
abbrev joined : SomeExps → SomeExps → SomeExps
joined no_exps fs = fs
joined (exps e es) fs = exps e (joined es fs)

more_so_far : (es : SomeExps) (κ : SomeExps → Stack) (n : ℕ) (w : List Placed) → AllAt es → LowExps limit es n → Quiet 1 w → run limit (Want MoreArguments κ) n (onto_others es w)
    ≡ run limit (Want MoreArguments (λ fs. κ (joined es fs))) n w
more_so_far no_exps κ n w at low q = refl
more_so_far (exps e es) κ n w at low q =
    law_assign limit e (λ a. Want (Back n) (λ x. Want MoreArguments (λ fs. κ (exps a fs)))) n (onto_others es w) at.0 low.0 (quiet_others es w q)
    ∙ back limit n (after_exp e n) (λ x. Want MoreArguments (λ fs. κ (exps e fs))) (onto_others es w)
    ∙ more_so_far es (λ fs. κ (exps e fs)) n w at.1 low.1 q

first_so_far : (es : SomeExps) (κ : SomeExps → Stack) (n : ℕ) (w : List Placed) → IsSome es → AllAt es → LowExps limit es n → Quiet 1 w → run limit (Want Arguments κ) n (onto_first es w)
    ≡ run limit (Want MoreArguments (λ fs. κ (joined es fs))) n w
first_so_far no_exps κ n w s at low q = absurd s
first_so_far (exps e es) κ n w s at low q =
    expand_arguments limit n κ (onto_exp e (onto_others es w)) (not_start (token.Mark marks.CloseParenthesis) _ (λ x. x) (starts e _))
    ∙ law_assign limit e (λ a. Want (Back n) (λ x. Want MoreArguments (λ fs. κ (exps a fs)))) n (onto_others es w) at.0 low.0 (quiet_others es w q)
    ∙ back limit n (after_exp e n) (λ x. Want MoreArguments (λ fs. κ (exps e fs))) (onto_others es w)
    ∙ more_so_far es (λ fs. κ (exps e fs)) n w at.1 low.1 q

so_far : (n : ℕ) (ts rest : List Placed) (es : SomeExps) (κ : SomeExps → Stack) → ArgumentsSoFar n ts es rest → run limit (Want Arguments κ) n ts
    ≡ run limit (Want MoreArguments (λ fs. κ (joined es fs))) n rest
so_far n ts rest es κ s = rw (s.text) (first_so_far es κ n rest s.some s.at s.low s.quiet)

pub arguments_first_err : (n : ℕ) (ts : List Placed) (f : Fault) → IsNot (token.Mark marks.CloseParenthesis) ts → Fails (Want Assign) n ts f → Fails (Want Arguments) n ts f
arguments_first_err n ts f i h = fails_when (Want Arguments) n ts f (λ r κ. expand_arguments limit n κ ts i ∙ real (Want Assign) n ts f h r _)

pub arguments_err : (n : ℕ) (ts rest after : List Placed) (es : SomeExps) (f : Fault) → ArgumentsSoFar n ts es rest → rest ≡ sign marks.Comma 0 ∷ after → Fails (Want Assign) n after f
    → Fails (Want Arguments) n ts f
arguments_err n ts rest after es f s e h = fails_when (Want Arguments) n ts f
    (λ r κ. so_far n ts rest es κ s ∙ rw e (real (Want Assign) n after f h r (λ a. Want (Back n) (λ x. Want MoreArguments (λ fs. κ (joined es (exps a fs)))))))

pub arguments_close : (n : ℕ) (ts rest : List Placed) (es : SomeExps) (f : Fault) → ArgumentsSoFar n ts es rest → IsNot (token.Mark marks.Comma) rest → (f ≡ NotHere (length rest))
    × IsNot (token.Mark marks.CloseParenthesis) rest → Fails (Want Arguments) n ts f
arguments_close n ts rest es f s i h = fails_here (Want Arguments) n ts (length rest) f h.0 (λ κ. so_far n ts rest es κ s ∙ no_more n _ rest h.1 i)

pub index_close : (n i j o : ℕ) (ts inner rest : List Placed) (e : AnExp) (f : Fault) → ts ≡ sign marks.OpenBracket o ∷ inner → (i ≡ n + 2) × (n + 2 ≤ 200) → IsRead 0 0 i inner e rest j
    → (f ≡ NotHere (length rest)) × IsNot (token.Mark marks.CloseBracket) rest → PostFails n ts f
index_close n i j o ts inner rest e f t up g h = λ l. fails_here (Want (PostTail l)) n ts (length rest) f h.0
    (λ κ. opens (PostTail l) κ n i 2 (sign marks.OpenBracket o) ts inner _ refl t up ∙ exp_leads i j inner rest e g _ ∙ no_bracket j _ rest h.1)

bracket_leads : (j : ℕ) (rest last : List Placed) (κ : Unit {0} → Stack) → rest ≡ sign marks.CloseBracket 0 ∷ last → run limit (Want WantBracket κ) j rest ≡ run limit (κ tt) j last
bracket_leads j rest last κ e = rw e refl

pub index_more : (n i j o : ℕ) (ts inner rest last : List Placed) (e : AnExp) (f : Fault) → ts ≡ sign marks.OpenBracket o ∷ inner → (i ≡ n + 2) × (n + 2 ≤ 200)
    → IsRead 0 0 i inner e rest j → rest ≡ sign marks.CloseBracket 0 ∷ last → PostFails (n + 1) last f → PostFails n ts f
index_more n i j o ts inner rest last e f t up g b h = λ l. fails_when (Want (PostTail l)) n ts f
    (λ r κ. opens (PostTail l) κ n i 2 (sign marks.OpenBracket o) ts inner _ refl t up ∙ exp_leads i j inner rest e g _ ∙ bracket_leads j rest last _ b ∙ back limit (n + 1) j _ last
    ∙ real (Want (PostTail (index l o e))) (n + 1) last f (h (index l o e)) r κ)

pub post_more : (n i : ℕ) (ts after : List Placed) (op : StepOperator) (at : ℕ) (f : Fault) → ts ≡ sign (step_mark op) at ∷ after → (i ≡ n + 1) × (n + 1 ≤ 200) → PostFails i after f → PostFails n ts f
post_more n i ts after op at f e up h = λ l. fails_when (Want (PostTail l)) n ts f
    (λ r κ. opens (PostTail l) κ n i 1 (sign (step_mark op) at) ts after _ (post_step op at n l κ) e up ∙ real (Want (PostTail (step_after l op at))) i after f (h (step_after l op at)) r κ)

-- a fault, or an answer, handed on
pub err_map : {A : Type 0} (r : Result A Fault) (P Q : Fault → Type 0) → ((f : Fault) → P f → Q f) → IfErr r P → IfErr r Q
err_map (Ok x) P Q h i = tt
err_map (Err f) P Q h i = h f i

pub when_true : (b : Bool) (A B : Type 0) → MatchBool b A B → b ≡ true → A
when_true true A B h e = h
when_true false A B h e = absurd (cc)

pub when_false : (b : Bool) (A B : Type 0) → MatchBool b A B → b ≡ false → B
when_false false A B h e = h
when_false true A B h e = absurd (cc)

no_word_of : (k : Token) → ((x : List ℕ) → k ≢ token.Name x) → ((v : ℕ) → k ≢ token.Number v) → ((b : List ℕ) → k ≢ token.Str b) → NoWord (class_of k)
no_word_of (token.Name x) f g h = absurd (f x refl)
no_word_of (token.Number v) f g h = absurd (g v refl)
no_word_of (token.Str b) f g h = absurd (h b refl)
no_word_of (token.Key k) f g h = key_no_word k
  where
    key_no_word : (k : Key) → NoWord (key_class k)
    key_no_word keys.Int = tt
    key_no_word k = tt
no_word_of (token.Mark m) f g h = mark_no_word m
  where
    mark_no_word : (m : Mark) → NoWord (mark_class m)
    mark_no_word marks.Comma = tt
    mark_no_word m = tt
no_word_of token.End f g h = tt

primary_is_parens : (n : ℕ) (ts : List Placed) (κ : AnExp → Stack) → NoName ts → NoNumber ts → NoString ts → run limit (Want Primary κ) n ts ≡ run limit (Want Parens κ) n ts
primary_is_parens n [] κ f g h = refl
primary_is_parens n (t ∷ ts) κ f g h = primary_parens n t ts κ (no_word_of t.kind f g h)

pub primary_parens_err : (n : ℕ) (ts : List Placed) (f : Fault) → NoName ts → NoNumber ts → NoString ts → Fails (Want Parens) n ts f → Fails (Want Primary) n ts f
primary_parens_err n ts f a b d h = fails_when (Want Primary) n ts f (λ r κ. primary_is_parens n ts κ a b d ∙ real (Want Parens) n ts f h r κ)
