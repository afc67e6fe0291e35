-- The tokens of types and expressions, onto what follows.
use Rattle.std.specs.Prelude.{ℕ, List, [], ◌∷◌, Option, Some, None}
use Rattle.c_tokens.specs.declared.token.Token.TheVariants as token
use Rattle.c_tokens.specs.declared.words.Key.TheVariants as keys
use Rattle.c_tokens.specs.declared.marks.Mark.TheVariants as marks
use Rattle.c_phrases.specs.declared.operator.Spec.{Spec}
use Rattle.c_phrases.specs.declared.operator.Spec.TheVariants as specs
use Rattle.c_phrases.specs.declared.tree.TypeName.{TypeName}
use Rattle.c_phrases.specs.Classes.{Placed, word, sign}
use Rattle.c_phrases.specs.Operators.{binary_mark, prefix_mark, step_mark, assign_mark}
use Rattle.c_phrases.specs.Phrases.{AnExp, name, number, str, paren, call, index, step_after, step_before, prefix}
use Rattle.c_phrases.specs.Phrases.{sizeof_exp, sizeof_type, cast, binary, choice, assign, comma, SomeExps, no_exps}
use Rattle.c_phrases.specs.Phrases.{exps}

abbrev pub onto_int : Option ℕ → List Placed → List Placed
onto_int None w = w
onto_int (Some at) w = word keys.Int at ∷ w

abbrev pub onto_spec : Spec → List Placed → List Placed
onto_spec (specs.Int at) w = word keys.Int at ∷ w
onto_spec (specs.Char at) w = word keys.Char at ∷ w
onto_spec (specs.Short at int) w = word keys.Short at ∷ onto_int int w
onto_spec (specs.UnsignedChar at char) w = word keys.Unsigned at ∷ word keys.Char char ∷ w
onto_spec (specs.UnsignedShort at short int) w = word keys.Unsigned at ∷ word keys.Short short ∷ onto_int int w
onto_spec (specs.Void at) w = word keys.Void at ∷ w

abbrev pub onto_stars : List ℕ → List Placed → List Placed
onto_stars [] w = w
onto_stars (at ∷ ats) w = sign marks.Star at ∷ onto_stars ats w

abbrev pub onto_type : TypeName → List Placed → List Placed
onto_type t w = onto_spec t.spec (onto_stars t.stars w)

abbrev pub onto_name : List ℕ → ℕ → List Placed → List Placed
onto_name n at w = record { kind = token.Name n; at = at } ∷ w

abbrev mutual
  pub onto_exp : AnExp → List Placed → List Placed
  onto_exp (name n at) w = onto_name n at w
  onto_exp (number v at) w = record { kind = token.Number v; at = at } ∷ w
  onto_exp (str b at) w = record { kind = token.Str b; at = at } ∷ w
  onto_exp (paren o e) w = sign marks.OpenParenthesis o ∷ onto_exp e (sign marks.CloseParenthesis 0 ∷ w)
  onto_exp (call n at o es) w = onto_name n at (sign marks.OpenParenthesis o ∷ onto_first es (sign marks.CloseParenthesis 0 ∷ w))
  onto_exp (index e o i) w = onto_exp e (sign marks.OpenBracket o ∷ onto_exp i (sign marks.CloseBracket 0 ∷ w))
  onto_exp (step_after e op at) w = onto_exp e (sign (step_mark op) at ∷ w)
  onto_exp (step_before op at e) w = sign (step_mark op) at ∷ onto_exp e w
  onto_exp (prefix op at e) w = sign (prefix_mark op) at ∷ onto_exp e w
  onto_exp (sizeof_exp at e) w = word keys.Sizeof at ∷ onto_exp e w
  onto_exp (sizeof_type at o t) w = word keys.Sizeof at ∷ sign marks.OpenParenthesis o ∷ onto_type t (sign marks.CloseParenthesis 0 ∷ w)
  onto_exp (cast o t e) w = sign marks.OpenParenthesis o ∷ onto_type t (sign marks.CloseParenthesis 0 ∷ onto_exp e w)
  onto_exp (binary l op at r) w = onto_exp l (sign (binary_mark op) at ∷ onto_exp r w)
  onto_exp (choice c at e d) w = onto_exp c (sign marks.Question at ∷ onto_exp e (sign marks.Colon 0 ∷ onto_exp d w))
  onto_exp (assign p op at v) w = onto_exp p (sign (assign_mark op) at ∷ onto_exp v w)
  onto_exp (comma l r) w = onto_exp l (sign marks.Comma 0 ∷ onto_exp r w)

  -- expressions with commas between them
  pub onto_first : SomeExps → List Placed → List Placed
  onto_first no_exps w = w
  onto_first (exps e es) w = onto_exp e (onto_others es w)

  pub onto_others : SomeExps → List Placed → List Placed
  onto_others no_exps w = w
  onto_others (exps e es) w = sign marks.Comma 0 ∷ onto_exp e (onto_others es w)
