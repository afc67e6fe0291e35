-- One token of a run, and what the next token makes of the parts that may be empty.
use Rattle.std.proofs.Common.{◌≡◌, ◌≢◌, ℕ, ◌+◌, ◌≤◌, List, [], ◌∷◌, length, refl, sym, ap, ◌∙◌, arith}
use Rattle.std.specs.Prelude.{Option, None, Bool, true, false, Err, if◌then◌else◌}
use Rattle.c_tokens.specs.declared.token.Token.{Token}
use Rattle.c_tokens.specs.declared.token.Token.TheVariants as token
use Rattle.c_tokens.specs.declared.words.Key.{Key}
use Rattle.c_tokens.specs.declared.words.Key.TheVariants as keys
use Rattle.c_tokens.specs.declared.marks.Mark.{Mark}
use Rattle.c_tokens.specs.declared.marks.Mark.TheVariants as marks
use Rattle.c_phrases.specs.declared.operator.BinaryOperator.{BinaryOperator}
use Rattle.c_phrases.specs.declared.operator.BinaryOperator.TheVariants as binaries
use Rattle.c_phrases.specs.declared.operator.PrefixOperator.{PrefixOperator}
use Rattle.c_phrases.specs.declared.operator.PrefixOperator.TheVariants as prefixes
use Rattle.c_phrases.specs.declared.operator.StepOperator.{StepOperator}
use Rattle.c_phrases.specs.declared.operator.StepOperator.TheVariants as steps
use Rattle.c_phrases.specs.declared.operator.AssignOperator.{AssignOperator}
use Rattle.c_phrases.specs.declared.operator.AssignOperator.TheVariants as assigns
use Rattle.c_syntax_goals.specs.declared.fault.Fault.TheVariants.{NotHere, TooDeep}
use Rattle.c_phrases.specs.Classes.{Placed, Class, class_of, key_class, mark_class, sign}
use Rattle.c_phrases.specs.Classes as c
use Rattle.c_phrases.specs.Phrases.{AnExp, SomeExps, exps, sizeof_exp}
use Rattle.c_phrases.specs.Spelling.{onto_stars}
use Rattle.c_phrases.specs.Operators.{binary_mark, prefix_mark, step_mark, assign_mark}
use Rattle.c_phrases.specs.Takes.{TypeClass, NoTypeClass, IsTypeWord, NoTypeWord}
use Rattle.c_phrases.specs.Fronts.{Quiet, IsNot, NoCast, strength, mark_strength}
use Rattle.c_syntax_goals.specs.Expressions as Expressions
use Rattle.c_syntax_goals.specs.Types as Types
use Rattle.c_syntax_goals.specs.Groups as Groups
use Rattle.c_phrases.specs.Phrases as phrases
use Rattle.c_syntax_goals.specs.Goals.{Goal, Val, Stack, Want, Step, Opens, Refuses, Steps, Passes, Expr}
use Rattle.c_syntax_goals.specs.Goals.{Commas, Assign, Cond, Cast, Unary, CallTail, PostTail, Ended}
use Rattle.c_syntax_goals.specs.Goals.{Tail, First, Group, SizeofTail, SizeofGroup, Arguments, MoreArguments, Back}
use Rattle.c_syntax_goals.specs.Goals.{AfterShort, Stars}
use Rattle.c_syntax_goals.specs.Turns.{turn}
use Rattle.c_syntax_goals.specs.Expressions.{insert, cond_goals}
use Rattle.c_syntax_goals.specs.Types.{type_goals}
use Rattle.c_syntax_goals.specs.Groups.{cast_behind, paren_behind, sizeof_behind}
use Rattle.c_syntax_goals.specs.Machine.{Goes, Deep, on, pick, next, run}
use Rattle.c_syntax_goals.proofs.Tokens.{single, token_of}

-- the least strength of a token of a class
abbrev pub floor : Class → ℕ
floor c.Comma = 1
floor c.Equals = 2
floor c.Compound = 2
floor c.Question = 3
floor c.Infix = 4
floor c.Sign = 8
floor c.Star = 13
floor c.Step = 16
floor c.OpenBracket = 16
floor c.OpenParen = 17
floor k = 0

key_floor : (k : Key) → floor (key_class k) ≤ 0
key_floor keys.Int = omega arith
key_floor k = omega arith

mark_floor : (m : Mark) → floor (mark_class m) ≤ mark_strength m
mark_floor marks.Comma = omega arith
mark_floor m = omega arith

pub floor_of : (k : Token) → floor (class_of k) ≤ strength k
floor_of (token.Mark m) = mark_floor m
floor_of (token.Key k) = key_floor k
floor_of (token.Name n) = omega arith
floor_of (token.Number v) = omega arith
floor_of (token.Str b) = omega arith
floor_of token.End = omega arith

-- operators as the automaton reads them
pub tail_binary : (op : BinaryOperator) (at n : ℕ) (b : Bool) (l : AnExp) (κ : AnExp → Stack) → turn (Tail b l) (mark_class (binary_mark op)) (sign (binary_mark op) at) n κ
    ≡ Steps (Opens 1 (Want Cast (λ r. Want (Tail false (insert l op at r)) κ)))
tail_binary binaries.OrOr at n b l κ = refl
tail_binary op at n b l κ = refl

pub tail_assign : (op : AssignOperator) (at n : ℕ) (l : AnExp) (κ : AnExp → Stack) → turn (Tail true l) (mark_class (assign_mark op)) (sign (assign_mark op) at) n κ
    ≡ Steps (Opens 1 (Want Assign (λ v. κ (phrases.assign l op at v))))
tail_assign assigns.Assign at n l κ = refl
tail_assign op at n l κ = refl

pub unary_prefix : (op : PrefixOperator) (at n : ℕ) (κ : AnExp → Stack) → turn Unary (mark_class (prefix_mark op)) (sign (prefix_mark op) at) n κ
    ≡ Steps (Opens 1 (Want Cast (λ e. κ (phrases.prefix op at e))))
unary_prefix prefixes.Plus at n κ = refl
unary_prefix op at n κ = refl

pub unary_step : (op : StepOperator) (at n : ℕ) (κ : AnExp → Stack) → turn Unary (mark_class (step_mark op)) (sign (step_mark op) at) n κ
    ≡ Steps (Opens 1 (Want Unary (λ e. κ (phrases.step_before op at e))))
unary_step steps.Increment at n κ = refl
unary_step op at n κ = refl

pub post_step : (op : StepOperator) (at n : ℕ) (l : AnExp) (κ : AnExp → Stack) → turn (PostTail l) (mark_class (step_mark op)) (sign (step_mark op) at) n κ
    ≡ Steps (Opens 1 (Want (PostTail (phrases.step_after l op at)) κ))
post_step steps.Increment at n l κ = refl
post_step op at n l κ = refl

-- classes at which parts end
commas_by : (k : Class) → floor k ≤ 0 → (n : ℕ) (l : AnExp) (κ : AnExp → Stack) → Expressions.commas_turn k n l κ ≡ Passes n l
commas_by c.Comma le n l κ = absurd (omega (arith, le))
commas_by k le n l κ = refl

tail_by : (k : Class) → floor k ≤ 1 → (t : Placed) (n : ℕ) (b : Bool) (l : AnExp) (κ : AnExp → Stack) → Expressions.tail_turn k t n b l κ ≡ Passes n l
tail_by c.Equals le t n b l κ = absurd (omega (arith, le))
tail_by c.Compound le t n b l κ = absurd (omega (arith, le))
tail_by c.Question le t n b l κ = absurd (omega (arith, le))
tail_by c.Infix le t n b l κ = absurd (omega (arith, le))
tail_by c.Sign le t n b l κ = absurd (omega (arith, le))
tail_by c.Star le t n b l κ = absurd (omega (arith, le))
tail_by k le t n b l κ = refl

post_by : (k : Class) → floor k ≤ 13 → (t : Placed) (n : ℕ) (l : AnExp) (κ : AnExp → Stack) → Expressions.post_turn k t n l κ ≡ Passes n l
post_by c.OpenBracket le t n l κ = absurd (omega (arith, le))
post_by c.OpenParen le t n l κ = absurd (omega (arith, le))
post_by c.Step le t n l κ = absurd (omega (arith, le))
post_by k le t n l κ = refl

ended_by : (k : Class) → floor k ≤ 13 → (n : ℕ) → Expressions.ended_turn k n ≡ Passes n tt
ended_by c.OpenBracket le n = absurd (omega (arith, le))
ended_by c.OpenParen le n = absurd (omega (arith, le))
ended_by c.Step le n = absurd (omega (arith, le))
ended_by k le n = refl

call_by : (k : Class) → floor k ≤ 16 → (t : Placed) (n : ℕ) (f : List ℕ) (at : ℕ) (κ : AnExp → Stack) → Expressions.call_turn k t n f at κ ≡ Passes n (phrases.name f at)
call_by c.OpenParen le t n f at κ = absurd (omega (arith, le))
call_by k le t n f at κ = refl

pub short_by : (k : Class) → (k ≢ c.Int) → (t : Placed) (n : ℕ) (κ : Option ℕ → Stack) → Types.short_turn k t n κ ≡ Passes n None
short_by c.Int h t n κ = absurd (h refl)
short_by k h t n κ = refl

pub stars_by : (k : Class) → (k ≢ c.Star) → (t : Placed) (n : ℕ) (κ : List ℕ → Stack) → Types.stars_turn k t n κ ≡ Passes n []
stars_by c.Star h t n κ = absurd (h refl)
stars_by k h t n κ = refl

-- no assignment stands there
abbrev pub NoSet : Class → Type 0
NoSet c.Equals = ⊥
NoSet c.Compound = ⊥
NoSet k = Unit {0}

abbrev pub Unset : List Placed → Type 0
Unset [] = Unit {0}
Unset (t ∷ ts) = NoSet (class_of t.kind)

tail_unset : (k : Class) → NoSet k → (t : Placed) (n : ℕ) (l : AnExp) (κ : AnExp → Stack) → Expressions.tail_turn k t n true l κ ≡ Expressions.tail_turn k t n false l κ
tail_unset c.Equals h t n l κ = absurd h
tail_unset c.Compound h t n l κ = absurd h
tail_unset k h t n l κ = refl

group_by : (k : Class) → NoTypeClass k → (t : Placed) (o m n : ℕ) (κ : AnExp → Stack) → Groups.group_step k t o m n κ ≡ Expressions.expr_step k t n (paren_behind o m κ)
group_by c.Int h t o m n κ = absurd h
group_by c.Char h t o m n κ = absurd h
group_by c.Void h t o m n κ = absurd h
group_by c.Short h t o m n κ = absurd h
group_by c.Unsigned h t o m n κ = absurd h
group_by k h t o m n κ = refl

first_by : (k : Class) → NoTypeClass k → (t : Placed) (o m n : ℕ) (κ : AnExp → Stack) → Groups.first_step k t o m n κ ≡ Expressions.expr_step k t n (paren_behind o m (λ u. Want (Tail true u) κ))
first_by c.Int h t o m n κ = absurd h
first_by c.Char h t o m n κ = absurd h
first_by c.Void h t o m n κ = absurd h
first_by c.Short h t o m n κ = absurd h
first_by c.Unsigned h t o m n κ = absurd h
first_by k h t o m n κ = refl

sizeof_by : (k : Class) → NoTypeClass k → (t : Placed) (at o m n : ℕ) (κ : AnExp → Stack) → Groups.sizeof_group_step k t at o m n κ
    ≡ Expressions.expr_step k t n (paren_behind o m (λ u. κ (sizeof_exp at u)))
sizeof_by c.Int h t at o m n κ = absurd h
sizeof_by c.Char h t at o m n κ = absurd h
sizeof_by c.Void h t at o m n κ = absurd h
sizeof_by c.Short h t at o m n κ = absurd h
sizeof_by c.Unsigned h t at o m n κ = absurd h
sizeof_by k h t at o m n κ = refl

group_type_by : (k : Class) → TypeClass k → (t : Placed) (o m n : ℕ) (κ : AnExp → Stack) → Groups.group_step k t o m n κ ≡ Types.type_step k t (cast_behind o κ)
group_type_by c.Int h t o m n κ = refl
group_type_by c.Char h t o m n κ = refl
group_type_by c.Void h t o m n κ = refl
group_type_by c.Short h t o m n κ = refl
group_type_by c.Unsigned h t o m n κ = refl
group_type_by k h t o m n κ = absurd h

first_type_by : (k : Class) → TypeClass k → (t : Placed) (o m n : ℕ) (κ : AnExp → Stack) → Groups.first_step k t o m n κ ≡ Types.type_step k t (cast_behind o (λ e. Want (Tail false e) κ))
first_type_by c.Int h t o m n κ = refl
first_type_by c.Char h t o m n κ = refl
first_type_by c.Void h t o m n κ = refl
first_type_by c.Short h t o m n κ = refl
first_type_by c.Unsigned h t o m n κ = refl
first_type_by k h t o m n κ = absurd h

sizeof_type_by : (k : Class) → TypeClass k → (t : Placed) (at o m n : ℕ) (κ : AnExp → Stack) → Groups.sizeof_group_step k t at o m n κ ≡ Types.type_step k t (sizeof_behind at o m κ)
sizeof_type_by c.Int h t at o m n κ = refl
sizeof_type_by c.Char h t at o m n κ = refl
sizeof_type_by c.Void h t at o m n κ = refl
sizeof_type_by c.Short h t at o m n κ = refl
sizeof_type_by c.Unsigned h t at o m n κ = refl
sizeof_type_by k h t at o m n κ = absurd h

arguments_by : (k : Class) → (k ≢ c.CloseParen) → (t : Placed) (n : ℕ) (κ : SomeExps → Stack) → Expressions.arguments_step k t n κ
    ≡ Expressions.assign_step k t n (λ a. Want (Back n) (λ x. Want MoreArguments (λ es. κ (exps a es))))
arguments_by c.CloseParen h t n κ = absurd (h refl)
arguments_by k h t n κ = refl

module _ (L : ℕ → Bool) where
  pub step_opens : (g : Goal) (κ : Val g → Stack) (t : Placed) (n k : ℕ) (s : Stack) (ts : List Placed) → turn g (class_of t.kind) t n κ ≡ Steps (Opens k s) → (L (n + k) ≡ true)
      → run L (Want g κ) n (t ∷ ts) ≡ run L s (n + k) ts
  step_opens g κ t n k s ts e le = rw (e, le) refl

  pub step_deep : (g : Goal) (κ : Val g → Stack) (t : Placed) (n k : ℕ) (s : Stack) (ts : List Placed) → turn g (class_of t.kind) t n κ ≡ Steps (Opens k s) → L (n + k) ≡ false
      → run L (Want g κ) n (t ∷ ts) ≡ Err (TooDeep (length (t ∷ ts)))
  step_deep g κ t n k s ts e lt = rw (e, lt) refl

  pub step_refuses : (g : Goal) (κ : Val g → Stack) (t : Placed) (n : ℕ) (ts : List Placed) → turn g (class_of t.kind) t n κ ≡ Steps Refuses → run L (Want g κ) n (t ∷ ts)
      ≡ Err (NotHere (length (t ∷ ts)))
  step_refuses g κ t n ts e = rw e refl

  pub back : (m n : ℕ) (κ : Unit {0} → Stack) (ts : List Placed) → run L (Want (Back m) κ) n ts ≡ run L (κ tt) m ts
  back m n κ [] = refl
  back m n κ (t ∷ ts) = refl

  pub quiet_commas : (n : ℕ) (l : AnExp) (κ : AnExp → Stack) (ts : List Placed) → Quiet 0 ts → run L (Want (Commas l) κ) n ts ≡ run L (κ l) n ts
  quiet_commas n l κ [] q = refl
  quiet_commas n l κ (t ∷ ts) q = rw (commas_by (class_of t.kind) (omega (arith, q, floor_of t.kind)) n l κ) refl

  pub quiet_tail : (n : ℕ) (b : Bool) (l : AnExp) (κ : AnExp → Stack) (ts : List Placed) → Quiet 1 ts → run L (Want (Tail b l) κ) n ts ≡ run L (κ l) n ts
  quiet_tail n b l κ [] q = refl
  quiet_tail n b l κ (t ∷ ts) q = rw (tail_by (class_of t.kind) (omega (arith, q, floor_of t.kind)) t n b l κ) refl

  pub quiet_post : (n : ℕ) (l : AnExp) (κ : AnExp → Stack) (ts : List Placed) → Quiet 13 ts → run L (Want (PostTail l) κ) n ts ≡ run L (κ l) n ts
  quiet_post n l κ [] q = refl
  quiet_post n l κ (t ∷ ts) q = rw (post_by (class_of t.kind) (omega (arith, q, floor_of t.kind)) t n l κ) refl

  pub quiet_ended : (n : ℕ) (κ : Unit {0} → Stack) (ts : List Placed) → Quiet 13 ts → run L (Want Ended κ) n ts ≡ run L (κ tt) n ts
  quiet_ended n κ [] q = refl
  quiet_ended n κ (t ∷ ts) q = rw (ended_by (class_of t.kind) (omega (arith, q, floor_of t.kind)) n) refl

  pub quiet_call : (n : ℕ) (f : List ℕ) (at : ℕ) (κ : AnExp → Stack) (ts : List Placed) → Quiet 16 ts → run L (Want (CallTail f at) κ) n ts ≡ run L (κ (phrases.name f at)) n ts
  quiet_call n f at κ [] q = refl
  quiet_call n f at κ (t ∷ ts) q = rw (call_by (class_of t.kind) (omega (arith, q, floor_of t.kind)) t n f at κ) refl

  pub loosen : (n : ℕ) (l : AnExp) (κ : AnExp → Stack) (ts : List Placed) → Unset ts → run L (Want (Tail true l) κ) n ts ≡ run L (Want (Tail false l) κ) n ts
  loosen n l κ [] h = refl
  loosen n l κ (t ∷ ts) h = rw (tail_unset (class_of t.kind) h t n l κ) refl

  -- a type's words
  pub pass_short : (n : ℕ) (κ : Option ℕ → Stack) (ts : List Placed) → IsNot (token.Key keys.Int) ts → run L (Want AfterShort κ) n ts ≡ run L (κ None) n ts
  pass_short n κ [] h = refl
  pass_short n κ (t ∷ ts) h = rw (short_by (class_of t.kind) (λ e. h (single t.kind (token.Key keys.Int) (ap token_of e))) t n κ) refl

  pub pass_stars : (n : ℕ) (κ : List ℕ → Stack) (ts : List Placed) → IsNot (token.Mark marks.Star) ts → run L (Want Stars κ) n ts ≡ run L (κ []) n ts
  pass_stars n κ [] h = refl
  pass_stars n κ (t ∷ ts) h = rw (stars_by (class_of t.kind) (λ e. h (single t.kind (token.Mark marks.Star) (ap token_of e))) t n κ) refl

  pub law_stars : (ats : List ℕ) (w : List Placed) → IsNot (token.Mark marks.Star) w → (n : ℕ) (κ : List ℕ → Stack) → run L (Want Stars κ) n (onto_stars ats w) ≡ run L (κ ats) n w
  law_stars [] w h n κ = pass_stars n κ w h
  law_stars (at ∷ ats) w h n κ = law_stars ats w h n (λ v. κ (at ∷ v))

  -- behind an opening bracket: a type or an expression
  same_opened : (b : Bool) (r s : Stack) (m : ℕ) (ts : List Placed) → run L r m ts ≡ run L s m ts → on (if b then Goes r m else Deep) ts (λ r m. run L r m ts)
      ≡ on (if b then Goes s m else Deep) ts (λ r m. run L r m ts)
  same_opened true r s m ts e = e
  same_opened false r s m ts e = refl

  group_plain : (o m n : ℕ) (κ : AnExp → Stack) (ts : List Placed) → NoTypeWord ts → run L (Want (Group o m) κ) n ts ≡ run L (Want Expr (paren_behind o m κ)) n ts
  group_plain o m n κ [] h = refl
  group_plain o m n κ (t ∷ ts) h = rw (group_by (class_of t.kind) h t o m n κ) refl

  first_plain : (o m n : ℕ) (κ : AnExp → Stack) (ts : List Placed) → NoTypeWord ts → run L (Want (First o m) κ) n ts ≡ run L (Want Expr (paren_behind o m (λ u. Want (Tail true u) κ))) n ts
  first_plain o m n κ [] h = refl
  first_plain o m n κ (t ∷ ts) h = rw (first_by (class_of t.kind) h t o m n κ) refl

  sizeof_plain : (at o m n : ℕ) (κ : AnExp → Stack) (ts : List Placed) → NoTypeWord ts → run L (Want (SizeofGroup at o m) κ) n ts ≡ run L (Want Expr (paren_behind o m (λ u. κ (sizeof_exp at u)))) n ts
  sizeof_plain at o m n κ [] h = refl
  sizeof_plain at o m n κ (t ∷ ts) h = rw (sizeof_by (class_of t.kind) h t at o m n κ) refl

  pub group_type : (o m n : ℕ) (κ : AnExp → Stack) (ts : List Placed) → IsTypeWord ts → run L (Want (Group o m) κ) n ts ≡ run L (type_goals (cast_behind o κ)) n ts
  group_type o m n κ [] h = absurd h
  group_type o m n κ (t ∷ ts) h = rw (group_type_by (class_of t.kind) h t o m n κ) refl

  pub first_type : (o m n : ℕ) (κ : AnExp → Stack) (ts : List Placed) → IsTypeWord ts → run L (Want (First o m) κ) n ts ≡ run L (type_goals (cast_behind o (λ e. Want (Tail false e) κ))) n ts
  first_type o m n κ [] h = absurd h
  first_type o m n κ (t ∷ ts) h = rw (first_type_by (class_of t.kind) h t o m n κ) refl

  pub sizeof_group_type : (at o m n : ℕ) (κ : AnExp → Stack) (ts : List Placed) → IsTypeWord ts → run L (Want (SizeofGroup at o m) κ) n ts ≡ run L (type_goals (sizeof_behind at o m κ)) n ts
  sizeof_group_type at o m n κ [] h = absurd h
  sizeof_group_type at o m n κ (t ∷ ts) h = rw (sizeof_type_by (class_of t.kind) h t at o m n κ) refl

  -- where no cast begins
  no_word : (k : Class) (t : Placed) (ts : List Placed) → class_of t.kind ≡ k → (k ≡ c.OpenParen) → NoCast (t ∷ ts) → NoTypeWord ts
  no_word k t [] e f h = tt
  no_word k t (u ∷ ts) e f h = h (single t.kind (token.Mark marks.OpenParenthesis) (ap token_of (e ∙ f)))

  cast_plain_by : (k : Class) (t : Placed) (ts : List Placed) → ((k ≡ c.OpenParen) → NoTypeWord ts) → (n : ℕ) (κ : AnExp → Stack)
      → on (pick L (turn Cast k t n κ) n (λ m v. next L (κ v) t m)) ts (λ r m. run L r m ts) ≡ on (pick L (turn Unary k t n κ) n (λ m v. next L (κ v) t m)) ts (λ r m. run L r m ts)
  cast_plain_by c.OpenParen t ts h n κ = same_opened (L (n + 1)) (Want (Group t.at n) κ) (Want Expr (paren_behind t.at n κ)) (n + 1) ts (group_plain t.at n (n + 1) κ ts (h refl))
  cast_plain_by k t ts h n κ = refl

  pub cast_plain : (n : ℕ) (κ : AnExp → Stack) (ts : List Placed) → NoCast ts → run L (Want Cast κ) n ts ≡ run L (Want Unary κ) n ts
  cast_plain n κ [] h = refl
  cast_plain n κ (t ∷ ts) h = cast_plain_by (class_of t.kind) t ts (λ f. no_word (class_of t.kind) t ts refl f h) n κ

  assign_plain_by : (k : Class) (t : Placed) (ts : List Placed) → ((k ≡ c.OpenParen) → NoTypeWord ts) → (n : ℕ) (κ : AnExp → Stack)
      → on (pick L (turn Assign k t n κ) n (λ m v. next L (κ v) t m)) ts (λ r m. run L r m ts)
      ≡ on (pick L (turn Unary k t n (λ u. Want (Tail true u) κ)) n (λ m v. next L (Want (Tail true v) κ) t m)) ts (λ r m. run L r m ts)
  assign_plain_by c.OpenParen t ts h n κ = same_opened (L (n + 1)) (Want (First t.at n) κ) (Want Expr (paren_behind t.at n (λ u. Want (Tail true u) κ))) (n + 1) ts
      (first_plain t.at n (n + 1) κ ts (h refl))
  assign_plain_by k t ts h n κ = refl

  pub assign_plain : (n : ℕ) (κ : AnExp → Stack) (ts : List Placed) → NoCast ts → run L (Want Assign κ) n ts ≡ run L (Want Unary (λ u. Want (Tail true u) κ)) n ts
  assign_plain n κ [] h = refl
  assign_plain n κ (t ∷ ts) h = assign_plain_by (class_of t.kind) t ts (λ f. no_word (class_of t.kind) t ts refl f h) n κ

  sizeof_plain_by : (k : Class) (t : Placed) (ts : List Placed) → ((k ≡ c.OpenParen) → NoTypeWord ts) → (at n : ℕ) (κ : AnExp → Stack)
      → on (pick L (turn (SizeofTail at) k t n κ) n (λ m v. next L (κ v) t m)) ts (λ r m. run L r m ts)
      ≡ on (pick L (turn Unary k t n (λ u. κ (sizeof_exp at u))) n (λ m v. next L (κ (sizeof_exp at v)) t m)) ts (λ r m. run L r m ts)
  sizeof_plain_by c.OpenParen t ts h at n κ = same_opened (L (n + 1)) (Want (SizeofGroup at t.at n) κ) (Want Expr (paren_behind t.at n (λ u. κ (sizeof_exp at u)))) (n + 1) ts
      (sizeof_plain at t.at n (n + 1) κ ts (h refl))
  sizeof_plain_by k t ts h at n κ = refl

  pub sizeof_is_plain : (at n : ℕ) (κ : AnExp → Stack) (ts : List Placed) → NoCast ts → run L (Want (SizeofTail at) κ) n ts ≡ run L (Want Unary (λ u. κ (sizeof_exp at u))) n ts
  sizeof_is_plain at n κ [] h = refl
  sizeof_is_plain at n κ (t ∷ ts) h = sizeof_plain_by (class_of t.kind) t ts (λ f. no_word (class_of t.kind) t ts refl f h) at n κ

  -- where one begins
  pub assign_cast : (n o : ℕ) (κ : AnExp → Stack) (ts : List Placed) → IsTypeWord ts → run L (Want Assign κ) n (sign marks.OpenParenthesis o ∷ ts)
      ≡ run L (cond_goals κ) n (sign marks.OpenParenthesis o ∷ ts)
  assign_cast n o κ ts h = same_opened (L (n + 1)) (Want (First o n) κ) (Want (Group o n) (λ e. Want (Tail false e) κ)) (n + 1) ts
      (first_type o n (n + 1) κ ts h ∙ sym (group_type o n (n + 1) (λ e. Want (Tail false e) κ) ts h))

  pub expand_expr : (n : ℕ) (κ : AnExp → Stack) (ts : List Placed) → run L (Want Expr κ) n ts ≡ run L (Want Assign (λ a. Want (Commas a) κ)) n ts
  expand_expr n κ [] = refl
  expand_expr n κ (t ∷ ts) = refl

  pub expand_cond : (n : ℕ) (κ : AnExp → Stack) (ts : List Placed) → run L (Want Cond κ) n ts ≡ run L (cond_goals κ) n ts
  expand_cond n κ [] = refl
  expand_cond n κ (t ∷ ts) = refl

  pub expand_arguments : (n : ℕ) (κ : SomeExps → Stack) (ts : List Placed) → IsNot (token.Mark marks.CloseParenthesis) ts → run L (Want Arguments κ) n ts
      ≡ run L (Want Assign (λ a. Want (Back n) (λ x. Want MoreArguments (λ es. κ (exps a es))))) n ts
  expand_arguments n κ [] h = refl
  expand_arguments n κ (t ∷ ts) h = rw (arguments_by (class_of t.kind) (λ e. h (single t.kind (token.Mark marks.CloseParenthesis) (ap token_of e))) t n κ) refl
