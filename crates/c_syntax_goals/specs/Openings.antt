-- The levels of a text: the tokens of a type or an expression, each with the level that it opens.
use Rattle.std.specs.Prelude.{ℕ, ◌+◌, List, [], ◌∷◌, Option, Some, None}
use Rattle.c_tokens.specs.declared.token.Token.TheVariants as token
use Rattle.c_tokens.specs.declared.words.Key.TheVariants as keys
use Rattle.c_tokens.specs.declared.marks.Mark.TheVariants as marks
use Rattle.c_phrases.specs.declared.operator.Spec.{Spec}
use Rattle.c_phrases.specs.declared.operator.Spec.TheVariants as specs
use Rattle.c_phrases.specs.declared.tree.TypeName.{TypeName}
use Rattle.c_phrases.specs.Classes.{Placed, word, sign}
use Rattle.c_phrases.specs.Phrases.{AnExp, name, number, str, paren, call, index, step_after, step_before, prefix}
use Rattle.c_phrases.specs.Phrases.{sizeof_exp, sizeof_type, cast, binary, choice, assign, comma, SomeExps, no_exps}
use Rattle.c_phrases.specs.Phrases.{exps, after_exp}
use Rattle.c_phrases.specs.Operators.{binary_mark, prefix_mark, step_mark, assign_mark}

-- A token with the level that it opens, or 0 where it opens none.
pub record Opening : Type 0 where
  pub token : Placed
  pub level : ℕ

abbrev pub opens : ℕ → Placed → Opening
opens n t = record { token = t; level = n }

abbrev pub plain : Placed → Opening
plain t = opens 0 t

abbrev pub levelled_int : Option ℕ → List Opening → List Opening
levelled_int None w = w
levelled_int (Some at) w = plain (word keys.Int at) ∷ w

abbrev pub levelled_spec : Spec → List Opening → List Opening
levelled_spec (specs.Int at) w = plain (word keys.Int at) ∷ w
levelled_spec (specs.Char at) w = plain (word keys.Char at) ∷ w
levelled_spec (specs.Short at int) w = plain (word keys.Short at) ∷ levelled_int int w
levelled_spec (specs.UnsignedChar at char) w = plain (word keys.Unsigned at) ∷ plain (word keys.Char char) ∷ w
levelled_spec (specs.UnsignedShort at short int) w = plain (word keys.Unsigned at) ∷ plain (word keys.Short short) ∷ levelled_int int w
levelled_spec (specs.Void at) w = plain (word keys.Void at) ∷ w

abbrev pub levelled_stars : List ℕ → List Opening → List Opening
levelled_stars [] w = w
levelled_stars (at ∷ ats) w = plain (sign marks.Star at) ∷ levelled_stars ats w

abbrev pub levelled_type : TypeName → List Opening → List Opening
levelled_type t w = levelled_spec t.spec (levelled_stars t.stars w)

abbrev pub levelled_name : List ℕ → ℕ → List Opening → List Opening
levelled_name n at w = plain (record { kind = token.Name n; at = at }) ∷ w

-- An expression that begins at level n. A bracket opens a level, an operator opens one, and the bracket of a call or an
-- index both; the level of a cast's bracket stays as the cast's own.
abbrev mutual
  pub levelled_exp : AnExp → ℕ → List Opening → List Opening
  levelled_exp (name x at) n w = levelled_name x at w
  levelled_exp (number v at) n w = plain (record { kind = token.Number v; at = at }) ∷ w
  levelled_exp (str b at) n w = plain (record { kind = token.Str b; at = at }) ∷ w
  levelled_exp (paren o e) n w = opens (n + 1) (sign marks.OpenParenthesis o) ∷ levelled_exp e (n + 1)
      (plain (sign marks.CloseParenthesis 0) ∷ w)
  levelled_exp (call x at o es) n w = levelled_name x at (opens (n + 2) (sign marks.OpenParenthesis o) ∷ levelled_first es
      (n + 2) (plain (sign marks.CloseParenthesis 0) ∷ w))
  levelled_exp (index e o i) n w = levelled_exp e n (opens (after_exp e n + 2) (sign marks.OpenBracket o) ∷ levelled_exp i
      (after_exp e n + 2) (plain (sign marks.CloseBracket 0) ∷ w))
  levelled_exp (step_after e op at) n w = levelled_exp e n (opens (after_exp e n + 1) (sign (step_mark op) at) ∷ w)
  levelled_exp (step_before op at e) n w = opens (n + 1) (sign (step_mark op) at) ∷ levelled_exp e (n + 1) w
  levelled_exp (prefix op at e) n w = opens (n + 1) (sign (prefix_mark op) at) ∷ levelled_exp e (n + 1) w
  levelled_exp (sizeof_exp at e) n w = opens (n + 1) (word keys.Sizeof at) ∷ levelled_exp e (n + 1) w
  levelled_exp (sizeof_type at o t) n w = opens (n + 1) (word keys.Sizeof at) ∷ opens (n + 1 + 1) (sign marks.OpenParenthesis o)
      ∷ levelled_type t (plain (sign marks.CloseParenthesis 0) ∷ w)
  levelled_exp (cast o t e) n w = opens (n + 1) (sign marks.OpenParenthesis o) ∷ levelled_type t
      (plain (sign marks.CloseParenthesis 0) ∷ levelled_exp e (n + 1) w)
  levelled_exp (binary l op at r) n w = levelled_exp l n (opens (after_exp l n + 1) (sign (binary_mark op) at) ∷ levelled_exp r
      (after_exp l n + 1) w)
  levelled_exp (choice c at e d) n w = levelled_exp c n (opens (after_exp c n + 1) (sign marks.Question at) ∷ levelled_exp e
      (after_exp c n + 1) (plain (sign marks.Colon 0) ∷ levelled_exp d (after_exp e (after_exp c n + 1)) w))
  levelled_exp (assign p op at v) n w = levelled_exp p n (opens (after_exp p n + 1) (sign (assign_mark op) at) ∷ levelled_exp v
      (after_exp p n + 1) w)
  levelled_exp (comma l r) n w = levelled_exp l n (opens (after_exp l n + 1) (sign marks.Comma 0) ∷ levelled_exp r (after_exp l n + 1) w)

  -- each argument is an expression of its own, and the commas between them open nothing
  pub levelled_first : SomeExps → ℕ → List Opening → List Opening
  levelled_first no_exps n w = w
  levelled_first (exps e es) n w = levelled_exp e n (levelled_others es n w)

  pub levelled_others : SomeExps → ℕ → List Opening → List Opening
  levelled_others no_exps n w = w
  levelled_others (exps e es) n w = plain (sign marks.Comma 0) ∷ levelled_exp e n (levelled_others es n w)

abbrev pub levelled_part : Option AnExp → ℕ → List Opening → List Opening
levelled_part None n w = w
levelled_part (Some e) n w = levelled_exp e n w
