-- Lemmas of the functions that read expressions.
use Rattle.std.proofs.Common.{◌≡◌, ◌<◌, ◌≤◌, ℕ, ◌+◌, List, [], ◌∷◌, ◌++◌, length, refl, sym, ◌∙◌, ap, subst, arith}
use Rattle.std.specs.declared.vec.Vec.{Vec}
use Rattle.std.specs.declared.alloc.Global.{Global}
use Rattle.c_tokens.specs.declared.marks.Mark.TheVariants as marks
use Rattle.c_phrases.specs.declared.operator.BinaryOperator.{BinaryOperator}
use Rattle.c_phrases.specs.declared.operator.BinaryOperator.TheVariants as binaries
use Rattle.c_phrases.specs.declared.tree.Expr.{Expr}
use Rattle.c_phrases.specs.declared.tree.Expr.TheVariants.{Call}
use Rattle.c_phrases.specs.Classes.{Placed, sign}
use Rattle.c_phrases.specs.Phrases.{AnExp, name, number, str, paren, call, index, step_after, step_before, prefix}
use Rattle.c_phrases.specs.Phrases.{sizeof_exp, sizeof_type, cast, binary, choice, assign, comma, SomeExps, no_exps}
use Rattle.c_phrases.specs.Phrases.{exps, IsAt, AllAt}
use Rattle.c_phrases.specs.Spelling.{onto_exp, onto_first, onto_others, onto_type, onto_spec, onto_stars, onto_int}
use Rattle.c_phrases.specs.Spelling.{onto_name}
use Rattle.c_phrases.specs.Operators.{level_of, binary_mark, step_mark, assign_mark}
use Rattle.c_phrases.specs.declared.tree.TypeName.{TypeName}
use Rattle.c_phrases.specs.declared.operator.Spec.{Spec}
use Rattle.c_phrases.specs.declared.operator.Spec.TheVariants as specs
use Rattle.std.specs.Prelude.{Option, Some, None}
use Rattle.c_phrases.specs.Levels.{LowExp, LowExps, limit}
use Rattle.c_phrases.specs.Shapes.{exp, exp_list}
use Rattle.c_phrases.specs.Fronts.{Quiet, mark_strength}
use Rattle.c_phrases.specs.Takes.{NoBinary}
use Rattle.c_phrases.specs.Fits.{IsSome}
use Rattle.c_phrases.proofs.Rows.{exp_call}
use Rattle.c_syntax.proofs.Stops.{quiet_unjoined}
use Rattle.c_syntax_goals.proofs.PhraseLaws.{lower, binary_strength, level_top, quieter, limit_low}
use Rattle.c_syntax_goals.specs.Goals.{Want, CallTail}
use Rattle.c_syntax.specs.Leads.{Leads}
use Rattle.c_syntax.specs.Reads.{IsPart, IsRead, IsMore, Ready, ArgumentsSoFar, ReadsArguments}

-- a call's arguments as a list

pub call_as : (n m : ℕ) (f : List ℕ) (at o : ℕ) (ts : List Placed) (list : Vec Expr Global) (rest : List Placed) → IsPart n ts (call f at o (exp_list list.items)) rest m
    → IsPart n ts (exp (Call f at o list)) rest m
call_as n m f at o ts list rest h = subst (λ (x : AnExp). IsPart n ts x rest m) (sym (exp_call f at o list)) h

pub call_led : (n m : ℕ) (f : List ℕ) (at o : ℕ) (ts : List Placed) (list : Vec Expr Global) (rest : List Placed)
    → Leads (Want (CallTail f at)) n ts (call f at o (exp_list list.items)) m rest → Leads (Want (CallTail f at)) n ts (exp (Call f at o list)) m rest
call_led n m f at o ts list rest h = subst (λ (x : AnExp). Leads (Want (CallTail f at)) n ts x m rest) (sym (exp_call f at o list)) h

-- one more at the end
abbrev pub exps_end : SomeExps → AnExp → SomeExps
exps_end no_exps e = exps e no_exps
exps_end (exps f fs) e = exps f (exps_end fs e)

pub list_push : (es : List Expr) (e : Expr) → exp_list (es ++ e ∷ []) ≡ exps_end (exp_list es) (exp e)
list_push [] e = refl
list_push (f ∷ fs) e = ap (exps (exp f)) (list_push fs e)

others_end : (es : SomeExps) (e : AnExp) (w : List Placed) → onto_others (exps_end es e) w ≡ onto_others es (sign marks.Comma 0 ∷ onto_exp e w)
others_end no_exps e w = refl
others_end (exps f fs) e w = ap (λ (l : List Placed). sign marks.Comma 0 ∷ onto_exp f l) (others_end fs e w)

pub first_end : (es : SomeExps) (e : AnExp) (w : List Placed) → IsSome es → onto_first (exps_end es e) w ≡ onto_first es (sign marks.Comma 0 ∷ onto_exp e w)
first_end no_exps e w h = absurd h
first_end (exps f fs) e w h = ap (onto_exp f) (others_end fs e w)

pub all_end : (es : SomeExps) (e : AnExp) → AllAt es → IsAt 1 e → AllAt (exps_end es e)
all_end no_exps e h i = (i, tt)
all_end (exps f fs) e h i = (h.0, all_end fs e h.1 i)

pub low_end : (es : SomeExps) (e : AnExp) (n : ℕ) → LowExps limit es n → LowExp limit e n → LowExps limit (exps_end es e) n
low_end no_exps e n h i = (i, tt)
low_end (exps f fs) e n h i = (h.0, low_end fs e n h.1 i)

pub some_end : (es : SomeExps) (e : AnExp) → IsSome (exps_end es e)
some_end no_exps e = tt
some_end (exps f fs) e = tt

pub arguments_more : (n m : ℕ) (ts rest after behind : List Placed) (es : SomeExps) (e : AnExp) → ArgumentsSoFar n ts es rest → rest ≡ sign marks.Comma 0 ∷ after
    → IsRead 1 1 n after e behind m → ArgumentsSoFar n ts (exps_end es e) behind
arguments_more n m ts rest after behind es e s f r = record {
  text = s.text ∙ (ap (onto_first es) (f ∙ ap (λ (l : List Placed). sign marks.Comma 0 ∷ l) r.text) ∙ sym (first_end es e behind s.some));
  some = some_end es e;
  at = all_end es e s.at r.at;
  low = low_end es e n s.low r.low;
  quiet = r.quiet;
}

-- an expression has a token
pub longer_int : (i : Option ℕ) (w : List Placed) → length w ≤ length (onto_int i w)
longer_int None w = omega arith
longer_int (Some at) w = omega arith

pub longer_stars : (ats : List ℕ) (w : List Placed) → length w ≤ length (onto_stars ats w)
longer_stars [] w = omega arith
longer_stars (at ∷ ats) w = omega (arith, longer_stars ats w)

longer_spec : (s : Spec) (w : List Placed) → length w ≤ length (onto_spec s w)
longer_spec (specs.Int at) w = omega arith
longer_spec (specs.Char at) w = omega arith
longer_spec (specs.Short at i) w = omega (arith, longer_int i w)
longer_spec (specs.UnsignedChar at b) w = omega arith
longer_spec (specs.UnsignedShort at b i) w = omega (arith, longer_int i w)
longer_spec (specs.Void at) w = omega arith

pub longer_type : (t : TypeName) (w : List Placed) → length w ≤ length (onto_type t w)
longer_type t w = omega (arith, longer_spec t.spec (onto_stars t.stars w), longer_stars t.stars w)

mutual
  pub longer_exp : (e : AnExp) (w : List Placed) → length w < length (onto_exp e w)
  longer_exp (name n at) w = omega arith
  longer_exp (number v at) w = omega arith
  longer_exp (str b at) w = omega arith
  longer_exp (paren o e) w = omega (arith, longer_exp e (sign marks.CloseParenthesis 0 ∷ w))
  longer_exp (call n at o es) w = omega (arith, longer_first es (sign marks.CloseParenthesis 0 ∷ w))
  longer_exp (index e o i) w = omega (arith, longer_exp e (sign marks.OpenBracket o ∷ onto_exp i (sign marks.CloseBracket 0 ∷ w)), longer_exp i (sign marks.CloseBracket 0 ∷ w))
  longer_exp (step_after e op at) w = omega (arith, longer_exp e (sign (step_mark op) at ∷ w))
  longer_exp (step_before op at e) w = omega (arith, longer_exp e w)
  longer_exp (prefix op at e) w = omega (arith, longer_exp e w)
  longer_exp (sizeof_exp at e) w = omega (arith, longer_exp e w)
  longer_exp (sizeof_type at o t) w = omega (arith, longer_type t (sign marks.CloseParenthesis 0 ∷ w))
  longer_exp (cast o t e) w = omega (arith, longer_type t (sign marks.CloseParenthesis 0 ∷ onto_exp e w), longer_exp e w)
  longer_exp (binary l op at r) w = omega (arith, longer_exp l (sign (binary_mark op) at ∷ onto_exp r w), longer_exp r w)
  longer_exp (choice c at e d) w = omega (
    arith,
    longer_exp c (sign marks.Question at ∷ onto_exp e (sign marks.Colon 0 ∷ onto_exp d w)),
    longer_exp e (sign marks.Colon 0 ∷ onto_exp d w),
    longer_exp d w,
  )
  longer_exp (assign p op at v) w = omega (arith, longer_exp p (sign (assign_mark op) at ∷ onto_exp v w), longer_exp v w)
  longer_exp (comma l r) w = omega (arith, longer_exp l (sign marks.Comma 0 ∷ onto_exp r w), longer_exp r w)

  pub longer_first : (es : SomeExps) (w : List Placed) → length w ≤ length (onto_first es w)
  longer_first no_exps w = omega arith
  longer_first (exps e es) w = omega (arith, longer_exp e (onto_others es w), longer_others es w)

  pub longer_others : (es : SomeExps) (w : List Placed) → length w ≤ length (onto_others es w)
  longer_others no_exps w = omega arith
  longer_others (exps e es) w = omega (arith, longer_exp e (onto_others es w), longer_others es w)

pub arguments_shorter : (n m : ℕ) (rest after behind : List Placed) (e : AnExp) → rest ≡ sign marks.Comma 0 ∷ after → IsRead 1 1 n after e behind m → length behind < length rest
arguments_shorter n m rest after behind e f r = omega (arith, ap length f, ap length r.text, longer_exp e behind)

-- the operator takes what stands in front of it as its left operand
pub ready_more : (lowest : ℕ) (l r : AnExp) (op : BinaryOperator) (at : ℕ) (ts after rest : List Placed) → Ready lowest l ts → ts ≡ sign (binary_mark op) at ∷ after → lowest ≤ level_of op
    → IsAt (level_of op + 1) r → Quiet (level_of op + 1) rest → Ready lowest (binary l op at r) rest
ready_more lowest l r op at ts after rest d e le h q =
    let s : mark_strength (binary_mark op) ≤ d.phrase + 1 = subst (Quiet (d.phrase + 1)) e d.quiet in
    let same : mark_strength (binary_mark op) ≡ level_of op + 1 = binary_strength op in
    let top : level_of op ≤ 12 = level_top op in
    record {
      phrase = level_of op;
      at = (omega arith, (lower (level_of op) d.phrase l (omega arith) d.at, h));
      least = le;
      quiet = q;
      operators = quieter (level_of op + 1) 13 rest (omega arith) q;
    }

pub ready_as : (lowest p q : ℕ) (l r a b : AnExp) (op : BinaryOperator) (at : ℕ) (ts after rest : List Placed) → Ready lowest l ts → ts ≡ sign (binary_mark op) at ∷ after → p ≡ level_of op
    → q ≡ level_of op → lowest ≤ p → IsAt (q + 1) r → Quiet (q + 1) rest → a ≡ l → b ≡ r → Ready lowest (binary a op at b) rest
ready_as lowest p q l r a b op at ts after rest d e f g le h i j k = rw (j, k) (ready_more lowest l r op at ts after rest d e (omega arith) (rw g at h) (rw g at i))

pub call_read : (n m : ℕ) (f : List ℕ) (at o : ℕ) (ts after : List Placed) (es : SomeExps) (rest : List Placed) → ts ≡ sign marks.OpenParenthesis o ∷ after → (m ≡ n + 2) × (n + 2 ≤ 200)
    → ReadsArguments m after es rest → IsPart n (onto_name f at ts) (call f at o es) rest (n + 1)
call_read n m f at o ts after es rest e up r =
    record {
      text = rw (e, r.text) refl;
      at = r.at;
      low = (limit_low (n + 2) up.1, rw up.0 at r.low);
      level = refl;
      rises = omega arith;
    }

-- one of two levels is closed
pub one_closed : (n i m : ℕ) → (i ≡ n + 2) × (n + 2 ≤ 200) → m + 1 ≡ i → m ≡ n + 1
one_closed n i m up behind = omega (arith, up.0, behind)

-- an expression of a phrase is one of each lower phrase
pub read_lower : (j k q n : ℕ) (ts : List Placed) (e : AnExp) (rest : List Placed) (m : ℕ) → j ≤ k → IsRead k q n ts e rest m → IsRead j q n ts e rest m
read_lower j k q n ts e rest m le h =
    record { text = h.text; at = lower j k e le h.at; low = h.low; level = h.level; quiet = h.quiet; rises = h.rises }

pub more_lower : (j k q p n : ℕ) (ts : List Placed) (f e : AnExp) (rest : List Placed) (m : ℕ) → j ≤ k → Quiet p rest → IsMore k q n ts f e rest m →
    IsMore j p n ts f e rest m
more_lower j k q p n ts f e rest m le quiet h =
    record { text = h.text; at = lower j k e le h.at; low = h.low; quiet = quiet; rises = h.rises }

-- nothing more is read behind an operand
pub no_more : (lowest n : ℕ) (e : AnExp) (ts : List Placed) → Ready lowest e ts → Quiet lowest ts → IsMore lowest lowest n ts e e ts n
no_more lowest n e ts r quiet =
    record { text = refl; at = lower lowest r.phrase e r.least r.at; low = λ b low is. (low, is); quiet = quiet; rises = omega arith }

-- no operator of the level and above stands behind an operand
pub unjoined : (lowest : ℕ) (e : AnExp) (ts : List Placed) → 3 ≤ lowest → Ready lowest e ts → NoBinary ts → Quiet lowest ts
unjoined lowest e ts le r none = quieter 3 lowest ts le (quiet_unjoined ts r.operators none)

pub looser : (lowest p : ℕ) (op : BinaryOperator) (at : ℕ) (ts after : List Placed) → ts ≡ sign (binary_mark op) at ∷ after → p ≡ level_of op → p < lowest →
    Quiet lowest ts
looser lowest p op at ts after is level less =
    let same : mark_strength (binary_mark op) ≡ level_of op + 1 = binary_strength op in
    let low : mark_strength (binary_mark op) ≤ lowest = omega arith in
    subst (Quiet lowest) (sym is) low

-- what stands behind a primary
pub part_more : (n m p : ℕ) (ts rest w : List Placed) (f e : AnExp) → IsPart n ts f rest m → IsMore 15 13 m rest f e w p → IsRead 14 13 n ts e w p
part_more n m p ts rest w f e h k =
    let low = k.low n h.low h.level in
    record {
      text = h.text ∙ k.text;
      at = lower 14 15 e (omega arith) k.at;
      low = low.0;
      level = low.1;
      quiet = k.quiet;
      rises = omega (arith, h.rises, k.rises);
    }
