-- An expression is read by what is to be read: the run goes on behind it with its phrase.
use Rattle.std.proofs.Common.{◌≡◌, ℕ, ◌+◌, ◌<◌, ◌≤◌, List, [], ◌∷◌, refl, sym, ap, subst, ◌∙◌, arith}
use Rattle.std.specs.Prelude.{Option, Some, None, Bool, true, false}
use Rattle.std.proofs.lemmas.Bool.{lt-ltb, le-ltb}
use Rattle.c_tokens.specs.declared.token.Token.{Token}
use Rattle.c_tokens.specs.declared.token.Token.TheVariants as token
use Rattle.c_tokens.specs.declared.words.Key.TheVariants as keys
use Rattle.c_tokens.specs.declared.marks.Mark.TheVariants as marks
use Rattle.c_phrases.specs.declared.operator.Spec.{Spec}
use Rattle.c_phrases.specs.declared.operator.Spec.TheVariants as specs
use Rattle.c_phrases.specs.declared.operator.BinaryOperator.{BinaryOperator}
use Rattle.c_phrases.specs.declared.operator.BinaryOperator.TheVariants as binaries
use Rattle.c_phrases.specs.declared.operator.PrefixOperator.{PrefixOperator}
use Rattle.c_phrases.specs.declared.operator.PrefixOperator.TheVariants as prefixes
use Rattle.c_phrases.specs.declared.operator.StepOperator.{StepOperator}
use Rattle.c_phrases.specs.declared.operator.StepOperator.TheVariants as steps
use Rattle.c_phrases.specs.declared.operator.AssignOperator.{AssignOperator}
use Rattle.c_phrases.specs.declared.operator.AssignOperator.TheVariants as assigns
use Rattle.c_phrases.specs.declared.tree.TypeName.{TypeName}
use Rattle.c_phrases.specs.Classes.{Placed, Class, class_of, mark_class, word, sign}
use Rattle.c_phrases.specs.Classes as c
use Rattle.c_phrases.specs.Phrases.{AnExp, name, number, str, paren, call, index, step_after, step_before, prefix}
use Rattle.c_phrases.specs.Phrases.{sizeof_exp, sizeof_type, cast, binary, choice, assign, comma, SomeExps, no_exps}
use Rattle.c_phrases.specs.Phrases.{exps, after_exp, IsAt, AllAt}
use Rattle.c_phrases.specs.Spelling.{onto_int, onto_spec, onto_stars, onto_type, onto_exp, onto_first, onto_others}
use Rattle.c_phrases.specs.Operators.{binary_mark, prefix_mark, step_mark, assign_mark, level_of}
use Rattle.c_phrases.specs.Levels.{LowExp, LowExps}
use Rattle.c_phrases.specs.Takes.{NoTypeClass, IsTypeWord, NoTypeWord}
use Rattle.c_phrases.specs.Fronts.{Quiet, IsNot, NoCast, mark_strength}
use Rattle.c_syntax_goals.specs.Goals.{Stack, Want, Expr, Commas, Assign, Cond, Cast, Unary, CallTail}
use Rattle.c_syntax_goals.specs.Goals.{PostTail, Ended, Tail, Group, SizeofTail, SizeofGroup, Arguments}
use Rattle.c_syntax_goals.specs.Goals.{MoreArguments, Back, WantBracket, WantColon, TypeWords, AfterShort}
use Rattle.c_syntax_goals.specs.Expressions.{insert, cond_goals}
use Rattle.c_syntax_goals.specs.Types.{type_goals, stars_then}
use Rattle.c_syntax_goals.specs.Groups.{cast_behind, paren_behind, sizeof_behind}
use Rattle.c_syntax_goals.specs.Machine.{run}
use Rattle.c_syntax_goals.proofs.Steps.{Unset, NoSet, floor, floor_of, tail_binary, tail_assign, unary_prefix, unary_step, post_step}
use Rattle.c_syntax_goals.proofs.Steps.{step_opens, back, quiet_commas, quiet_tail, quiet_post, quiet_ended, quiet_call, loosen, pass_short, law_stars}
use Rattle.c_syntax_goals.proofs.Steps.{group_type, sizeof_group_type, cast_plain, assign_plain, sizeof_is_plain, assign_cast, expand_expr, expand_cond, expand_arguments}
use Rattle.c_syntax_goals.proofs.PhraseLaws.{lower, quieter, level_top, binary_strength}

-- what an expression begins with
abbrev pub StartClass : Class → Type 0
StartClass c.Name = Unit {0}
StartClass c.Number = Unit {0}
StartClass c.Str = Unit {0}
StartClass c.OpenParen = Unit {0}
StartClass c.Sign = Unit {0}
StartClass c.Star = Unit {0}
StartClass c.Lone = Unit {0}
StartClass c.Step = Unit {0}
StartClass c.Sizeof = Unit {0}
StartClass k = ⊥

abbrev pub Starts : List Placed → Type 0
Starts [] = ⊥
Starts (t ∷ ts) = StartClass (class_of t.kind)

prefix_starts : (op : PrefixOperator) → StartClass (mark_class (prefix_mark op))
prefix_starts prefixes.Plus = tt
prefix_starts op = tt

step_starts : (op : StepOperator) → StartClass (mark_class (step_mark op))
step_starts steps.Increment = tt
step_starts op = tt

pub starts : (e : AnExp) (w : List Placed) → Starts (onto_exp e w)
starts (name n at) w = tt
starts (number v at) w = tt
starts (str b at) w = tt
starts (paren o e) w = tt
starts (call n at o es) w = tt
starts (index e o i) w = starts e _
starts (step_after e op at) w = starts e _
starts (step_before op at e) w = step_starts op
starts (prefix op at e) w = prefix_starts op
starts (sizeof_exp at e) w = tt
starts (sizeof_type at o t) w = tt
starts (cast o t e) w = tt
starts (binary l op at r) w = starts l _
starts (choice d at e f) w = starts d _
starts (assign p op at v) w = starts p _
starts (comma l r) w = starts l _

no_type_class : (k : Class) → StartClass k → NoTypeClass k
no_type_class c.Int h = absurd h
no_type_class c.Char h = absurd h
no_type_class c.Short h = absurd h
no_type_class c.Unsigned h = absurd h
no_type_class c.Void h = absurd h
no_type_class k h = tt

pub no_type : (ts : List Placed) → Starts ts → NoTypeWord ts
no_type [] h = absurd h
no_type (t ∷ ts) h = no_type_class (class_of t.kind) h

pub not_start : (k : Token) (ts : List Placed) → (StartClass (class_of k) → ⊥) → Starts ts → IsNot k ts
not_start k [] h s = absurd s
not_start k (t ∷ ts) h s = λ e. h (subst (λ (x : Token). StartClass (class_of x)) e s)

no_mark_cast : (k : Token) (at : ℕ) (ts : List Placed) → (k ≡ token.Mark marks.OpenParenthesis → ⊥) → NoCast (record { kind = k; at = at } ∷ ts)
no_mark_cast k at [] h = tt
no_mark_cast k at (u ∷ ts) h = λ e. absurd (h e)

open_no_cast : (t : Placed) (ts : List Placed) → NoTypeWord ts → NoCast (t ∷ ts)
open_no_cast t [] h = tt
open_no_cast t (u ∷ ts) h = λ e. h

prefix_not_open : (op : PrefixOperator) → token.Mark (prefix_mark op) ≡ token.Mark marks.OpenParenthesis → ⊥
prefix_not_open prefixes.Plus e = absurd (cc)
prefix_not_open op e = absurd (cc)

step_not_open : (op : StepOperator) → token.Mark (step_mark op) ≡ token.Mark marks.OpenParenthesis → ⊥
step_not_open steps.Increment e = absurd (cc)
step_not_open op e = absurd (cc)

name_not_open : (n : List ℕ) → token.Name n ≡ token.Mark marks.OpenParenthesis → ⊥
name_not_open n e = absurd (cc)

number_not_open : (v : ℕ) → token.Number v ≡ token.Mark marks.OpenParenthesis → ⊥
number_not_open v e = absurd (cc)

str_not_open : (b : List ℕ) → token.Str b ≡ token.Mark marks.OpenParenthesis → ⊥
str_not_open b e = absurd (cc)

sizeof_not_open : token.Key keys.Sizeof ≡ token.Mark marks.OpenParenthesis → ⊥
sizeof_not_open e = absurd (cc)

-- a unary phrase begins with no cast
pub no_cast : (e : AnExp) (w : List Placed) → IsAt 14 e → NoCast (onto_exp e w)
no_cast (name n at) w h = no_mark_cast (token.Name n) at w (name_not_open n)
no_cast (number v at) w h = no_mark_cast (token.Number v) at w (number_not_open v)
no_cast (str b at) w h = no_mark_cast (token.Str b) at w (str_not_open b)
no_cast (paren o e) w h = open_no_cast (sign marks.OpenParenthesis o) _ (no_type _ (starts e _))
no_cast (call n at o es) w h = no_mark_cast (token.Name n) at (sign marks.OpenParenthesis o ∷ onto_first es (sign marks.CloseParenthesis 0 ∷ w)) (name_not_open n)
no_cast (index e o i) w h = no_cast e _ (lower 14 15 e (omega arith) h.1.0)
no_cast (step_after e op at) w h = no_cast e _ (lower 14 15 e (omega arith) h.1)
no_cast (step_before op at e) w h = no_mark_cast (token.Mark (step_mark op)) at (onto_exp e w) (step_not_open op)
no_cast (prefix op at e) w h = no_mark_cast (token.Mark (prefix_mark op)) at (onto_exp e w) (prefix_not_open op)
no_cast (sizeof_exp at e) w h = no_mark_cast (token.Key keys.Sizeof) at (onto_exp e w) sizeof_not_open
no_cast (sizeof_type at o t) w h = no_mark_cast (token.Key keys.Sizeof) at (sign marks.OpenParenthesis o ∷ onto_type t (sign marks.CloseParenthesis 0 ∷ w)) sizeof_not_open
no_cast (binary l op at r) w h = absurd (omega (arith, h.0, level_top op))
no_cast _ w h = absurd (omega (arith, h.0))

-- rows of binary operators
pub insert_at : (l : AnExp) (op : BinaryOperator) (at : ℕ) (e : AnExp) → IsAt (level_of op) l → insert l op at e ≡ binary l op at e
insert_at (binary a q p b) op at e h = rw (le-ltb (level_of q) (level_of op) h.0) refl
insert_at (name n p) op at e h = refl
insert_at l op at e h = refl

insert_in : (l : AnExp) (q : BinaryOperator) (p : ℕ) (r : AnExp) (op : BinaryOperator) (at : ℕ) (e : AnExp) → level_of q < level_of op → insert (binary l q p r) op at e
    ≡ binary l q p (insert r op at e)
insert_in l q p r op at e lt = rw (lt-ltb (level_of q) (level_of op) lt) refl

pub level_least : (op : BinaryOperator) → 3 ≤ level_of op
level_least binaries.OrOr = omega arith
level_least op = omega arith

-- what stands in front of an operand takes the operators of these levels into it
abbrev pub Extends : ℕ → (AnExp → AnExp) → Type 0
Extends k F = (e d : AnExp) (op : BinaryOperator) (at : ℕ) → k ≤ level_of op → insert (F e) op at d ≡ F (insert e op at d)

extends_id : (k : ℕ) → Extends k (λ e. e)
extends_id k = λ e d op at le. refl

extends_less : (j k : ℕ) (F : AnExp → AnExp) → j ≤ k → Extends j F → Extends k F
extends_less j k F le h = λ e d op at ge. h e d op at (omega (arith, le, ge))

extends_in : (k : ℕ) (F : AnExp → AnExp) (l : AnExp) (q : BinaryOperator) (p : ℕ) → Extends k F → k ≤ level_of q → IsAt (level_of q) l → Extends (level_of q + 1) (λ e. insert (F l) q p e)
extends_in k F l q p h le i = λ e d op at ge.
    let out : (x : AnExp) → insert (F l) q p x ≡ F (binary l q p x) = λ x. h l x q p le ∙ ap F (insert_at l q p x i) in
    let lt : level_of q < level_of op = omega (arith, ge) in
    ap (λ (x : AnExp). insert x op at d) (out e) ∙ h (binary l q p e) d op at (omega (arith, le, ge)) ∙ ap F (insert_in l q p e op at d lt) ∙ sym (out (insert e op at d))

-- marks that go on with an expression but set nothing
unset_binary : (op : BinaryOperator) → NoSet (mark_class (binary_mark op))
unset_binary binaries.OrOr = tt
unset_binary op = tt

unset_class : (k : Class) → floor k ≤ 1 → NoSet k
unset_class c.Equals le = absurd (omega (arith, le))
unset_class c.Compound le = absurd (omega (arith, le))
unset_class k le = tt

pub quiet_unset : (ts : List Placed) → Quiet 1 ts → Unset ts
quiet_unset [] q = tt
quiet_unset (t ∷ ts) q = unset_class (class_of t.kind) (omega (arith, q, floor_of t.kind))

strong_step : (op : StepOperator) → mark_strength (step_mark op) ≤ 16
strong_step steps.Increment = omega arith
strong_step op = omega arith

strong_assign : (op : AssignOperator) → mark_strength (assign_mark op) ≤ 13
strong_assign assigns.Assign = omega arith
strong_assign op = omega arith

strong_binary : (op : BinaryOperator) → mark_strength (binary_mark op) ≤ 13
strong_binary op = let s : mark_strength (binary_mark op) ≡ level_of op + 1 = binary_strength op in let t : level_of op ≤ 12 = level_top op in omega arith

pub quiet_others : (es : SomeExps) (w : List Placed) → Quiet 1 w → Quiet 1 (onto_others es w)
quiet_others no_exps w q = q
quiet_others (exps e es) w q = omega arith

star_no_int : (ats : List ℕ) (w : List Placed) → IsNot (token.Key keys.Int) w → IsNot (token.Key keys.Int) (onto_stars ats w)
star_no_int [] w h = h
star_no_int (at ∷ ats) w h = λ e. absurd (cc)

pub type_begins : (s : Spec) (v : List Placed) → IsTypeWord (onto_spec s v)
type_begins (specs.Int p) v = tt
type_begins s v = tt

module _ (L : ℕ → Bool) where
  -- types
  law_int : (i : Option ℕ) (w : List Placed) → IsNot (token.Key keys.Int) w → (n : ℕ) (κ : Option ℕ → Stack) → run L (Want AfterShort κ) n (onto_int i w) ≡ run L (κ i) n w
  law_int None w h n κ = pass_short L n κ w h
  law_int (Some at) w h n κ = refl

  pub law_words : (s : Spec) (w : List Placed) → IsNot (token.Key keys.Int) w → (n : ℕ) (κ : Spec → Stack) → run L (Want TypeWords κ) n (onto_spec s w) ≡ run L (κ s) n w
  law_words (specs.Int at) w h n κ = refl
  law_words (specs.Char at) w h n κ = refl
  law_words (specs.Void at) w h n κ = refl
  law_words (specs.Short at i) w h n κ = law_int i w h n (λ j. κ (specs.Short at j))
  law_words (specs.UnsignedChar at b) w h n κ = refl
  law_words (specs.UnsignedShort at b i) w h n κ = law_int i w h n (λ j. κ (specs.UnsignedShort at b j))

  law_type : (t : TypeName) (w : List Placed) (n : ℕ) (κ : TypeName → Stack) → run L (type_goals κ) n (onto_type t (sign marks.CloseParenthesis 0 ∷ w))
      ≡ run L (κ t) n (sign marks.CloseParenthesis 0 ∷ w)
  law_type t w n κ = law_words t.spec _ (star_no_int t.stars _ (λ e. absurd (cc))) n (stars_then κ) ∙ law_stars L t.stars _ (λ e. absurd (cc)) n (λ ats. κ (record { spec = t.spec; stars = ats }))

  -- where an operand begins, with an assignment behind it or not
  abbrev pub start : Bool → (AnExp → Stack) → Stack
  start true κ = Want Assign κ
  start false κ = cond_goals κ

  abbrev pub LawPost : AnExp → Type 0
  LawPost e = (κ : AnExp → Stack) (n : ℕ) (w : List Placed) → IsAt 15 e → LowExp L e n → Quiet 16 w → run L (Want Unary κ) n (onto_exp e w) ≡ run L (Want (PostTail e) κ) (after_exp e n) w

  abbrev pub LawUnary : AnExp → Type 0
  LawUnary e = (κ : AnExp → Stack) (n : ℕ) (w : List Placed) → IsAt 14 e → LowExp L e n → Quiet 13 w → run L (Want Unary κ) n (onto_exp e w) ≡ run L (κ e) (after_exp e n) w

  abbrev pub LawCast : AnExp → Type 0
  LawCast e = (κ : AnExp → Stack) (n : ℕ) (w : List Placed) → IsAt 13 e → LowExp L e n → Quiet 13 w → run L (Want Cast κ) n (onto_exp e w) ≡ run L (κ e) (after_exp e n) w

  abbrev pub LawRow : AnExp → Type 0
  LawRow e = (k : ℕ) (F : AnExp → AnExp) → Extends k F → 3 ≤ k → (κ : AnExp → Stack) (n : ℕ) (w : List Placed) → IsAt k e → LowExp L e n → Quiet 13 w
      → run L (Want Cast (λ x. Want (Tail false (F x)) κ)) n (onto_exp e w) ≡ run L (Want (Tail false (F e)) κ) (after_exp e n) w

  abbrev pub LawStart : AnExp → Type 0
  LawStart e = (b : Bool) (κ : AnExp → Stack) (n : ℕ) (w : List Placed) → IsAt 3 e → LowExp L e n → Quiet 13 w → Unset w → run L (start b κ) n (onto_exp e w)
      ≡ run L (Want (Tail false e) κ) (after_exp e n) w

  abbrev pub LawCond : AnExp → Type 0
  LawCond e = (b : Bool) (κ : AnExp → Stack) (n : ℕ) (w : List Placed) → IsAt 2 e → LowExp L e n → Quiet 1 w → run L (start b κ) n (onto_exp e w) ≡ run L (κ e) (after_exp e n) w

  abbrev pub LawAssign : AnExp → Type 0
  LawAssign e = (κ : AnExp → Stack) (n : ℕ) (w : List Placed) → IsAt 1 e → LowExp L e n → Quiet 1 w → run L (Want Assign κ) n (onto_exp e w) ≡ run L (κ e) (after_exp e n) w

  abbrev pub LawCommas : AnExp → Type 0
  LawCommas e = (κ : AnExp → Stack) (n : ℕ) (w : List Placed) → IsAt 0 e → LowExp L e n → Quiet 1 w → run L (Want Expr κ) n (onto_exp e w) ≡ run L (Want (Commas e) κ) (after_exp e n) w

  pub record Laws (e : AnExp) : Type 0 where
    pub post : LawPost e
    pub unary : LawUnary e
    pub operand : LawCast e
    pub row : LawRow e
    pub starting : LawStart e
    pub condition : LawCond e
    pub assigned : LawAssign e
    pub chained : LawCommas e

  -- from one kind of phrase to the next
  chained_from : (e : AnExp) → (IsAt 0 e → IsAt 1 e) → LawAssign e → LawCommas e
  chained_from e up a κ n w at low q = expand_expr L n κ (onto_exp e w) ∙ a (λ x. Want (Commas x) κ) n w (up at) low q

  condition_from : (e : AnExp) → (IsAt 2 e → IsAt 3 e) → LawStart e → LawCond e
  condition_from e up s b κ n w at low q = s b κ n w (up at) low (quieter 1 13 w (omega arith) q) (quiet_unset w q) ∙ quiet_tail L (after_exp e n) false e κ w q

  row_from : (e : AnExp) → ((k : ℕ) → IsAt k e → IsAt 13 e) → LawCast e → LawRow e
  row_from e up o k F x le κ n w at low q = o (λ y. Want (Tail false (F y)) κ) n w (up k at) low q

  starting_from : (e : AnExp) → (IsAt 3 e → IsAt 14 e) → LawUnary e → LawStart e
  starting_from e up u true κ n w at low q s = assign_plain L n κ (onto_exp e w) (no_cast e w (up at)) ∙ u (λ x. Want (Tail true x) κ) n w (up at) low q ∙ loosen L (after_exp e n) e κ w s
  starting_from e up u false κ n w at low q s = cast_plain L n (λ x. Want (Tail false x) κ) (onto_exp e w) (no_cast e w (up at)) ∙ u (λ x. Want (Tail false x) κ) n w (up at) low q

  operand_from : (e : AnExp) → (IsAt 13 e → IsAt 14 e) → LawUnary e → LawCast e
  operand_from e up u κ n w at low q = cast_plain L n κ (onto_exp e w) (no_cast e w (up at)) ∙ u κ n w (up at) low q

  -- all the laws of a unary phrase
  of_unary : (e : AnExp) → ((k : ℕ) → IsAt k e → IsAt 14 e) → LawPost e → LawUnary e → Laws e
  of_unary e up p u =
      let low : (k : ℕ) → k ≤ 14 → IsAt 14 e → IsAt k e = λ k le h. lower k 14 e le h in
      let s : LawStart e = starting_from e (up 3) u in
      let d : LawCond e = condition_from e (λ h. low 3 (omega arith) (up 2 h)) s in
      let a : LawAssign e = λ κ n w at l q. d true κ n w (low 2 (omega arith) (up 1 at)) l q in
      let o : LawCast e = operand_from e (up 13) u in
      record {
        post = p;
        unary = u;
        operand = o;
        row = row_from e (λ k h. low 13 (omega arith) (up k h)) o;
        starting = s;
        condition = d;
        assigned = a;
        chained = chained_from e (λ h. low 1 (omega arith) (up 0 h)) a;
      }

  unary_of_post : (e : AnExp) → (IsAt 14 e → IsAt 15 e) → LawPost e → LawUnary e
  unary_of_post e up p κ n w at low q = p κ n w (up at) low (quieter 13 16 w (omega arith) q) ∙ quiet_post L (after_exp e n) e κ w q

  of_post : (e : AnExp) → ((k : ℕ) → IsAt k e → IsAt 15 e) → LawPost e → Laws e
  of_post e up p = of_unary e (λ k h. lower 14 15 e (omega arith) (up k h)) p (unary_of_post e (up 14) p)

  post_name : (f : List ℕ) (at : ℕ) → LawPost (name f at)
  post_name f at κ n w i low q = quiet_call L n f at (λ x. Want (PostTail x) κ) w q

  post_number : (v at : ℕ) → LawPost (number v at)
  post_number v at κ n w i low q = refl

  post_str : (b : List ℕ) (at : ℕ) → LawPost (str b at)
  post_str b at κ n w i low q = refl

  post_paren : (o : ℕ) (e : AnExp) → LawCommas e → LawPost (paren o e)
  post_paren o e h κ n w i low q =
      step_opens L Unary κ (sign marks.OpenParenthesis o) n 1 (Want Expr (paren_behind o n κ)) _ refl low.0
      ∙ h (paren_behind o n κ) (n + 1) _ i low.1 (omega arith)
      ∙ quiet_commas L (after_exp e (n + 1)) e (paren_behind o n κ) (sign marks.CloseParenthesis 0 ∷ w) (omega arith)
      ∙ back L n (after_exp e (n + 1)) (λ y. Want (PostTail (paren o e)) κ) w

  post_index : (e : AnExp) (o : ℕ) (i : AnExp) → LawPost e → LawCommas i → LawPost (index e o i)
  post_index e o i h g κ n w at low q =
      let m : ℕ = after_exp e n in
      let next : AnExp → Stack = λ x. Want WantBracket (λ y. Want (Back (m + 1)) (λ z. Want (PostTail (index e o x)) κ)) in
      h κ n _ at.1.0 low.0 (omega arith)
      ∙ step_opens L (PostTail e) κ (sign marks.OpenBracket o) m 2 (Want Expr next) _ refl low.1.0
      ∙ g next (m + 2) _ at.1.1 low.1.1 (omega arith)
      ∙ quiet_commas L (after_exp i (m + 2)) i next (sign marks.CloseBracket 0 ∷ w) (omega arith)
      ∙ back L (m + 1) (after_exp i (m + 2)) (λ z. Want (PostTail (index e o i)) κ) w

  post_step_after : (e : AnExp) (op : StepOperator) (at : ℕ) → LawPost e → LawPost (step_after e op at)
  post_step_after e op at h κ n w i low q =
      h κ n _ i.1 low.0 (strong_step op)
      ∙ step_opens L (PostTail e) κ (sign (step_mark op) at) (after_exp e n) 1 (Want (PostTail (step_after e op at)) κ) w (post_step op at (after_exp e n) e κ) low.1

  law_step_before : (op : StepOperator) (at : ℕ) (e : AnExp) → LawUnary e → LawUnary (step_before op at e)
  law_step_before op at e h κ n w i low q =
      step_opens L Unary κ (sign (step_mark op) at) n 1 (Want Unary (λ x. κ (step_before op at x))) _ (unary_step op at n κ) low.0
      ∙ h (λ x. κ (step_before op at x)) (n + 1) w i.1 low.1 q

  law_prefix : (op : PrefixOperator) (at : ℕ) (e : AnExp) → LawCast e → LawUnary (prefix op at e)
  law_prefix op at e h κ n w i low q =
      step_opens L Unary κ (sign (prefix_mark op) at) n 1 (Want Cast (λ x. κ (prefix op at x))) _ (unary_prefix op at n κ) low.0
      ∙ h (λ x. κ (prefix op at x)) (n + 1) w i.1 low.1 q

  law_sizeof_exp : (at : ℕ) (e : AnExp) → LawUnary e → LawUnary (sizeof_exp at e)
  law_sizeof_exp at e h κ n w i low q =
      step_opens L Unary κ (word keys.Sizeof at) n 1 (Want (SizeofTail at) κ) _ refl low.0
      ∙ sizeof_is_plain L at (n + 1) κ (onto_exp e w) (no_cast e w i.1)
      ∙ h (λ x. κ (sizeof_exp at x)) (n + 1) w i.1 low.1 q

  law_sizeof_type : (at o : ℕ) (t : TypeName) → LawUnary (sizeof_type at o t)
  law_sizeof_type at o t κ n w i low q =
      step_opens L Unary κ (word keys.Sizeof at) n 1 (Want (SizeofTail at) κ) _ refl low.0
      ∙ step_opens L (SizeofTail at) κ (sign marks.OpenParenthesis o) (n + 1) 1 (Want (SizeofGroup at o (n + 1)) κ) _ refl low.1
      ∙ sizeof_group_type L at o (n + 1) (n + 1 + 1) κ (onto_type t (sign marks.CloseParenthesis 0 ∷ w)) (type_begins t.spec _)
      ∙ law_type t w (n + 1 + 1) (sizeof_behind at o (n + 1) κ)
      ∙ back L (n + 1) (n + 1 + 1) (λ y. Want Ended (λ z. κ (sizeof_type at o t))) w
      ∙ quiet_ended L (n + 1) (λ z. κ (sizeof_type at o t)) w q

  law_cast : (o : ℕ) (t : TypeName) (e : AnExp) → LawCast e → LawCast (cast o t e)
  law_cast o t e h κ n w i low q =
      step_opens L Cast κ (sign marks.OpenParenthesis o) n 1 (Want (Group o n) κ) _ refl low.0
      ∙ group_type L o n (n + 1) κ (onto_type t (sign marks.CloseParenthesis 0 ∷ onto_exp e w)) (type_begins t.spec _)
      ∙ law_type t (onto_exp e w) (n + 1) (cast_behind o κ)
      ∙ h (λ x. κ (cast o t x)) (n + 1) w i.1 low.1 q

  cast_starting : (o : ℕ) (t : TypeName) (e : AnExp) → LawCast (cast o t e) → LawStart (cast o t e)
  cast_starting o t e h true κ n w i low q s = assign_cast L n o κ (onto_type t (sign marks.CloseParenthesis 0 ∷ onto_exp e w)) (type_begins t.spec _)
      ∙ h (λ x. Want (Tail false x) κ) n w (omega arith, i.1) low q
  cast_starting o t e h false κ n w i low q s = h (λ x. Want (Tail false x) κ) n w (omega arith, i.1) low q

  law_row : (l : AnExp) (op : BinaryOperator) (at : ℕ) (r : AnExp) → LawRow l → LawRow r → LawRow (binary l op at r)
  law_row l op at r f g k F x le κ n w i low q =
      let m : ℕ = after_exp l n in
      f (level_of op) F (extends_less k (level_of op) F i.0 x) (level_least op) κ n _ i.1.0 low.0 (strong_binary op)
      ∙ step_opens L (Tail false (F l)) κ (sign (binary_mark op) at) m 1 (Want Cast (λ y. Want (Tail false (insert (F l) op at y)) κ)) _ (tail_binary op at m false (F l) κ) low.1.0
      ∙ g (level_of op + 1) (λ y. insert (F l) op at y) (extends_in k F l op at x i.0 i.1.0) (omega (arith, level_least op)) κ (m + 1) w i.1.1 low.1.1 q
      ∙ ap (λ (y : AnExp). run L (Want (Tail false y) κ) (after_exp r (m + 1)) w) (x l r op at i.0 ∙ ap F (insert_at l op at r i.1.0))

  law_starting : (l : AnExp) (op : BinaryOperator) (at : ℕ) (r : AnExp) → LawStart l → LawRow r → LawStart (binary l op at r)
  law_starting l op at r f g b κ n w i low q s =
      let m : ℕ = after_exp l n in
      f b κ n _ (lower 3 (level_of op) l (level_least op) i.1.0) low.0 (strong_binary op) (unset_binary op)
      ∙ step_opens L (Tail false l) κ (sign (binary_mark op) at) m 1 (Want Cast (λ y. Want (Tail false (insert l op at y)) κ)) _ (tail_binary op at m false l κ) low.1.0
      ∙ g (level_of op + 1) (λ y. insert l op at y) (extends_in 0 (λ e. e) l op at (extends_id 0) (omega arith) i.1.0) (omega (arith, level_least op)) κ (m + 1) w i.1.1 low.1.1 q
      ∙ ap (λ (y : AnExp). run L (Want (Tail false y) κ) (after_exp r (m + 1)) w) (insert_at l op at r i.1.0)

  law_choice : (d : AnExp) (at : ℕ) (e f : AnExp) → LawStart d → LawCommas e → LawCond f → LawCond (choice d at e f)
  law_choice d at e f g h k b κ n w i low q =
      let m : ℕ = after_exp d n in
      let next : AnExp → Stack = λ x. Want WantColon (λ y. Want Cond (λ z. κ (choice d at x z))) in
      g b κ n _ i.1.0 low.0 (omega arith) tt
      ∙ step_opens L (Tail false d) κ (sign marks.Question at) m 1 (Want Expr next) _ refl low.1.0
      ∙ h next (m + 1) _ i.1.1.0 low.1.1.0 (omega arith)
      ∙ quiet_commas L (after_exp e (m + 1)) e next (sign marks.Colon 0 ∷ onto_exp f w) (omega arith)
      ∙ expand_cond L (after_exp e (m + 1)) (λ z. κ (choice d at e z)) (onto_exp f w)
      ∙ k false (λ z. κ (choice d at e z)) (after_exp e (m + 1)) w i.1.1.1 low.1.1.1 q

  law_assign_to : (p : AnExp) (op : AssignOperator) (at : ℕ) (v : AnExp) → LawUnary p → LawAssign v → LawAssign (assign p op at v)
  law_assign_to p op at v h k κ n w i low q =
      let m : ℕ = after_exp p n in
      assign_plain L n κ (onto_exp p (sign (assign_mark op) at ∷ onto_exp v w)) (no_cast p _ i.1.0)
      ∙ h (λ x. Want (Tail true x) κ) n _ i.1.0 low.0 (strong_assign op)
      ∙ step_opens L (Tail true p) κ (sign (assign_mark op) at) m 1 (Want Assign (λ x. κ (assign p op at x))) _ (tail_assign op at m p κ) low.1.0
      ∙ k (λ x. κ (assign p op at x)) (m + 1) w i.1.1 low.1.1 q

  law_comma : (l r : AnExp) → LawCommas l → LawAssign r → LawCommas (comma l r)
  law_comma l r h k κ n w i low q =
      let m : ℕ = after_exp l n in
      h κ n _ i.1.0 low.0 (omega arith)
      ∙ step_opens L (Commas l) κ (sign marks.Comma 0) m 1 (Want Assign (λ x. Want (Commas (comma l x)) κ)) _ refl low.1.0
      ∙ k (λ x. Want (Commas (comma l x)) κ) (m + 1) w i.1.1 low.1.1 q

  -- the laws of the others
  of_cast : (o : ℕ) (t : TypeName) (e : AnExp) → LawCast (cast o t e) → Laws (cast o t e)
  of_cast o t e h =
      let s : LawStart (cast o t e) = cast_starting o t e h in
      let d : LawCond (cast o t e) = condition_from (cast o t e) (λ i. (omega arith, i.1)) s in
      let a : LawAssign (cast o t e) = λ κ n w at l q. d true κ n w (omega arith, at.1) l q in
      record {
        post = λ κ n w at l q. absurd (omega (arith, at.0));
        unary = λ κ n w at l q. absurd (omega (arith, at.0));
        operand = h;
        row = row_from (cast o t e) (λ k i. (omega arith, i.1)) h;
        starting = s;
        condition = d;
        assigned = a;
        chained = chained_from (cast o t e) (λ i. (omega arith, i.1)) a;
      }

  of_row : (l : AnExp) (op : BinaryOperator) (at : ℕ) (r : AnExp) → LawRow (binary l op at r) → LawStart (binary l op at r) → Laws (binary l op at r)
  of_row l op at r h s =
      let d : LawCond (binary l op at r) = condition_from (binary l op at r) (λ i. (level_least op, i.1)) s in
      let a : LawAssign (binary l op at r) = λ κ n w i l q. d true κ n w (omega (arith, level_least op), i.1) l q in
      record {
        post = λ κ n w i l q. absurd (omega (arith, i.0, level_top op));
        unary = λ κ n w i l q. absurd (omega (arith, i.0, level_top op));
        operand = λ κ n w i l q. absurd (omega (arith, i.0, level_top op));
        row = h;
        starting = s;
        condition = d;
        assigned = a;
        chained = chained_from (binary l op at r) (λ i. (omega (arith, level_least op), i.1)) a;
      }

  of_choice : (d : AnExp) (at : ℕ) (e f : AnExp) → LawCond (choice d at e f) → Laws (choice d at e f)
  of_choice d at e f h =
      let a : LawAssign (choice d at e f) = λ κ n w i l q. h true κ n w (omega arith, i.1) l q in
      record {
        post = λ κ n w i l q. absurd (omega (arith, i.0));
        unary = λ κ n w i l q. absurd (omega (arith, i.0));
        operand = λ κ n w i l q. absurd (omega (arith, i.0));
        row = λ k F x le κ n w i l q. absurd (omega (arith, le, i.0));
        starting = λ b κ n w i l q s. absurd (omega (arith, i.0));
        condition = h;
        assigned = a;
        chained = chained_from (choice d at e f) (λ i. (omega arith, i.1)) a;
      }

  of_assign : (p : AnExp) (op : AssignOperator) (at : ℕ) (v : AnExp) → LawAssign (assign p op at v) → Laws (assign p op at v)
  of_assign p op at v h = record {
    post = λ κ n w i l q. absurd (omega (arith, i.0));
    unary = λ κ n w i l q. absurd (omega (arith, i.0));
    operand = λ κ n w i l q. absurd (omega (arith, i.0));
    row = λ k F x le κ n w i l q. absurd (omega (arith, le, i.0));
    starting = λ b κ n w i l q s. absurd (omega (arith, i.0));
    condition = λ b κ n w i l q. absurd (omega (arith, i.0));
    assigned = h;
    chained = chained_from (assign p op at v) (λ i. (omega arith, i.1)) h;
  }

  of_comma : (x y : AnExp) → LawCommas (comma x y) → Laws (comma x y)
  of_comma x y h = record {
    post = λ κ n w i l q. absurd (omega (arith, i.0));
    unary = λ κ n w i l q. absurd (omega (arith, i.0));
    operand = λ κ n w i l q. absurd (omega (arith, i.0));
    row = λ k F x le κ n w i l q. absurd (omega (arith, le, i.0));
    starting = λ b κ n w i l q s. absurd (omega (arith, i.0));
    condition = λ b κ n w i l q. absurd (omega (arith, i.0));
    assigned = λ κ n w i l q. absurd (omega (arith, i.0));
    chained = h;
  }

  -- the laws of a list's expressions
  abbrev pub AllLaws : SomeExps → Type 0
  AllLaws no_exps = Unit {0}
  AllLaws (exps e es) = LawAssign e × AllLaws es

  law_more_of : (es : SomeExps) → AllLaws es → (κ : SomeExps → Stack) (n : ℕ) (w : List Placed) → AllAt es → LowExps L es n
      → run L (Want MoreArguments κ) n (onto_others es (sign marks.CloseParenthesis 0 ∷ w)) ≡ run L (κ es) n w
  law_more_of no_exps h κ n w at low = refl
  law_more_of (exps e es) h κ n w at low =
      let next : AnExp → Stack = λ a. Want (Back n) (λ x. Want MoreArguments (λ fs. κ (exps a fs))) in
      let v : List Placed = sign marks.CloseParenthesis 0 ∷ w in
      h.0 next n (onto_others es v) at.0 low.0 (quiet_others es v (omega arith))
      ∙ back L n (after_exp e n) (λ x. Want MoreArguments (λ fs. κ (exps e fs))) (onto_others es v)
      ∙ law_more_of es h.1 (λ fs. κ (exps e fs)) n w at.1 low.1

  law_first_of : (es : SomeExps) → AllLaws es → (κ : SomeExps → Stack) (n : ℕ) (w : List Placed) → AllAt es → LowExps L es n
      → run L (Want Arguments κ) n (onto_first es (sign marks.CloseParenthesis 0 ∷ w)) ≡ run L (κ es) n w
  law_first_of no_exps h κ n w at low = refl
  law_first_of (exps e es) h κ n w at low =
      let next : AnExp → Stack = λ a. Want (Back n) (λ x. Want MoreArguments (λ fs. κ (exps a fs))) in
      let v : List Placed = sign marks.CloseParenthesis 0 ∷ w in
      expand_arguments L n κ (onto_exp e (onto_others es v)) (not_start (token.Mark marks.CloseParenthesis) _ (λ x. x) (starts e _))
      ∙ h.0 next n (onto_others es v) at.0 low.0 (quiet_others es v (omega arith))
      ∙ back L n (after_exp e n) (λ x. Want MoreArguments (λ fs. κ (exps e fs))) (onto_others es v)
      ∙ law_more_of es h.1 (λ fs. κ (exps e fs)) n w at.1 low.1

  post_call : (f : List ℕ) (at o : ℕ) (es : SomeExps) → AllLaws es → LawPost (call f at o es)
  post_call f at o es h κ n w i low q =
      let next : AnExp → Stack = λ x. Want (PostTail x) κ in
      let behind : SomeExps → Stack = λ fs. Want (Back (n + 1)) (λ x. next (call f at o fs)) in
      step_opens L (CallTail f at) next (sign marks.OpenParenthesis o) n 2 (Want Arguments behind) _ refl low.0
      ∙ law_first_of es h behind (n + 2) w i low.1
      ∙ back L (n + 1) (n + 2) (λ x. next (call f at o es)) w

  mutual
    pub laws : (e : AnExp) → Laws e
    laws (name f at) = of_post (name f at) (λ k h. h) (post_name f at)
    laws (number v at) = of_post (number v at) (λ k h. h) (post_number v at)
    laws (str b at) = of_post (str b at) (λ k h. h) (post_str b at)
    laws (paren o e) = of_post (paren o e) (λ k h. h) (post_paren o e (laws e).chained)
    laws (call f at o es) = of_post (call f at o es) (λ k h. h) (post_call f at o es (all_laws es))
    laws (index e o i) = of_post (index e o i) (λ k h. (omega arith, h.1)) (post_index e o i (laws e).post (laws i).chained)
    laws (step_after e op at) = of_post (step_after e op at) (λ k h. (omega arith, h.1)) (post_step_after e op at (laws e).post)
    laws (step_before op at e) = of_unary (step_before op at e) (λ k h. (omega arith, h.1)) (λ κ n w i l q. absurd (omega (arith, i.0))) (law_step_before op at e (laws e).unary)
    laws (prefix op at e) = of_unary (prefix op at e) (λ k h. (omega arith, h.1)) (λ κ n w i l q. absurd (omega (arith, i.0))) (law_prefix op at e (laws e).operand)
    laws (sizeof_exp at e) = of_unary (sizeof_exp at e) (λ k h. (omega arith, h.1)) (λ κ n w i l q. absurd (omega (arith, i.0))) (law_sizeof_exp at e (laws e).unary)
    laws (sizeof_type at o t) = of_unary (sizeof_type at o t) (λ k h. omega arith) (λ κ n w i l q. absurd (omega (arith, i))) (law_sizeof_type at o t)
    laws (cast o t e) = of_cast o t e (law_cast o t e (laws e).operand)
    laws (binary l op at r) = of_row l op at r (law_row l op at r (laws l).row (laws r).row) (law_starting l op at r (laws l).starting (laws r).row)
    laws (choice d at e f) = of_choice d at e f (law_choice d at e f (laws d).starting (laws e).chained (laws f).condition)
    laws (assign p op at v) = of_assign p op at v (law_assign_to p op at v (laws p).unary (laws v).assigned)
    laws (comma l r) = of_comma l r (law_comma l r (laws l).chained (laws r).assigned)

    all_laws : (es : SomeExps) → AllLaws es
    all_laws no_exps = tt
    all_laws (exps e es) = ((laws e).assigned, all_laws es)

  -- the laws as they are used
  pub law_exp : (e : AnExp) (κ : AnExp → Stack) (n : ℕ) (w : List Placed) → IsAt 0 e → LowExp L e n → Quiet 0 w → run L (Want Expr κ) n (onto_exp e w) ≡ run L (κ e) (after_exp e n) w
  law_exp e κ n w i low q = (laws e).chained κ n w i low (quieter 0 1 w (omega arith) q) ∙ quiet_commas L (after_exp e n) e κ w q

  pub law_assign : (e : AnExp) (κ : AnExp → Stack) (n : ℕ) (w : List Placed) → IsAt 1 e → LowExp L e n → Quiet 1 w → run L (Want Assign κ) n (onto_exp e w) ≡ run L (κ e) (after_exp e n) w
  law_assign e κ n w i low q = (laws e).assigned κ n w i low q

  pub law_cond : (e : AnExp) (κ : AnExp → Stack) (n : ℕ) (w : List Placed) → IsAt 2 e → LowExp L e n → Quiet 1 w → run L (cond_goals κ) n (onto_exp e w) ≡ run L (κ e) (after_exp e n) w
  law_cond e κ n w i low q = (laws e).condition false κ n w i low q

  pub law_operand : (e : AnExp) (κ : AnExp → Stack) (n : ℕ) (w : List Placed) → IsAt 13 e → LowExp L e n → Quiet 13 w → run L (Want Cast κ) n (onto_exp e w) ≡ run L (κ e) (after_exp e n) w
  law_operand e κ n w i low q = (laws e).operand κ n w i low q

  pub law_unary : (e : AnExp) (κ : AnExp → Stack) (n : ℕ) (w : List Placed) → IsAt 14 e → LowExp L e n → Quiet 13 w → run L (Want Unary κ) n (onto_exp e w) ≡ run L (κ e) (after_exp e n) w
  law_unary e κ n w i low q = (laws e).unary κ n w i low q

  pub law_first : (es : SomeExps) (κ : SomeExps → Stack) (n : ℕ) (w : List Placed) → AllAt es → LowExps L es n
      → run L (Want Arguments κ) n (onto_first es (sign marks.CloseParenthesis 0 ∷ w)) ≡ run L (κ es) n w
  law_first es κ n w i low = law_first_of es (all_laws es) κ n w i low
