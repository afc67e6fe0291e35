-- Where the bodies of functions end. A body is the outermost block directly behind a bracket, that of the parameters; the braces of an
-- initialiser at file level stand behind its =.
use Rattle.std.specs.Prelude.{ℕ, zero, suc, pred, ◌==◌, Bool, true, false, ◌&&◌, List, [], ◌∷◌, if◌then◌else◌}
use Rattle.c_tokens.specs.declared.token.Token.{Token}
use Rattle.c_tokens.specs.declared.token.Token.TheVariants as token
use Rattle.c_tokens.specs.declared.token.Spanned.{Spanned}
use Rattle.c_tokens.specs.declared.marks.Mark.{Mark}
use Rattle.c_tokens.specs.declared.marks.Mark.TheVariants as marks

-- before a token: how many braces are open, whether the first of them began a body, and whether a closing bracket stands directly before
pub record SomeBraces : Type 0 where
  pub opened : ℕ
  pub is_body : Bool
  pub behind_bracket : Bool

abbrev pub at_first : SomeBraces
at_first = record { opened = 0; is_body = false; behind_bracket = false }

-- the one brace that is open began a body
abbrev pub ends_body : SomeBraces → Bool
ends_body b = (b.opened == 1) && b.is_body

abbrev pub is_end_mark : SomeBraces → Mark → Bool
is_end_mark b marks.CloseBrace = ends_body b
is_end_mark b m = false

-- a token that ends a body
abbrev pub is_end : SomeBraces → Token → Bool
is_end b (token.Mark m) = is_end_mark b m
is_end b t = false

abbrev pub begins_body : ℕ → SomeBraces → Bool
begins_body zero b = b.behind_bracket
begins_body (suc n) b = b.is_body

abbrev pub behind_mark : SomeBraces → Mark → SomeBraces
behind_mark b marks.OpenBrace = record { opened = suc b.opened; is_body = begins_body b.opened b; behind_bracket = false }
behind_mark b marks.CloseBrace = record { opened = pred b.opened; is_body = b.is_body; behind_bracket = false }
behind_mark b marks.CloseParenthesis = record { opened = b.opened; is_body = b.is_body; behind_bracket = true }
behind_mark b m = record { opened = b.opened; is_body = b.is_body; behind_bracket = false }

-- behind a token
abbrev pub behind : SomeBraces → Token → SomeBraces
behind b (token.Mark m) = behind_mark b m
behind b t = record { opened = b.opened; is_body = b.is_body; behind_bracket = false }

abbrev pub ends_from : SomeBraces → List Spanned → List ℕ
ends_from b [] = []
ends_from b (t ∷ ts) = if is_end b t.kind then t.start ∷ ends_from (behind b t.kind) ts else ends_from (behind b t.kind) ts

-- the offsets of the } that end bodies, in order
unfoldable pub body_ends : List Spanned → List ℕ
body_ends ts = ends_from at_first ts
