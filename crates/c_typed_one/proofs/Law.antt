-- Bytes have one list of tokens, these spell one unit, and it is typed as one program.
use Rattle.std.proofs.Common.{◌≡◌, ◌≤◌, ℕ, ◌+◌, ◌-◌, List, [], ◌∷◌, length, Option, Ok, refl, sym, ap, ap₂, ◌∙◌, arith, length-drop}
use Rattle.gg_base.proofs.Facts.{ok_same}
use Rattle.c_tokens.specs.declared.token.Token.{Token}
use Rattle.c_tokens.specs.declared.token.Spanned.{Spanned}
use Rattle.c_tokens.specs.Reading.{spanned, in_front, read_from}
use Rattle.c_tokens.specs.Grammar.{IsPiece, Tokens, ended, piece}
use Rattle.c_tokens.proofs.AgainLaws.{piece_reads}
use Rattle.c_tokens.proofs.Passing.{piece_then}
use Rattle.c_phrases.specs.Classes.{seen}
use Rattle.c_phrases.specs.Units.{AUnit}
use Rattle.c_phrases.specs.Grammar.{IsUnit}
use Rattle.c_syntax.specs.Ends.{body_ends}
use Rattle.c_syntax_goals.proofs.Prefix.{same_unit}
use Rattle.c_typed.specs.c_typed_check.specs.c_typed_law.specs.c_typed_definition.specs.Texts.{type_text}
use Rattle.c_typed.specs.c_typed_check.specs.c_typed_law.proofs.Law.{text_means}
use Rattle.c_typed_one.specs.Claims.{SourcesHaveOneProgram}

-- the tokens of bytes are read from them
read_behind : (at : ℕ) (text : List ℕ) (t : Option Token) (rest : List ℕ) (n : ℕ) → IsPiece text t rest → n + length rest ≡ length text → read_from 0 at text
    ≡ in_front (spanned t at (at + n)) (read_from 0 (at + n) rest)
read_behind at [] t rest n h e = let r = piece_reads [] t rest h in let one : 1 ≤ r.taken = r.some in let low : r.taken ≤ 0 = r.within in absurd (omega arith)
read_behind at (b ∷ bs) t rest n h e =
    let r = piece_reads (b ∷ bs) t rest h in
    let len : length rest ≡ length (b ∷ bs) - r.taken = ap length (sym r.rest_is) ∙ length-drop r.taken (b ∷ bs) in
    let low : r.taken ≤ length (b ∷ bs) = r.within in
    let same : r.taken ≡ n = omega arith in
    piece_then at b bs (record { token = t; length = r.taken }) (r.read at) r.some r.within ∙ rw (r.rest_is, same) refl

tokens_read : (at : ℕ) (text : List ℕ) (ts : List Spanned) → Tokens at text ts → read_from 0 at text ≡ Ok ts
tokens_read _ _ _ (ended at) = refl
tokens_read _ _ _ (piece at text t rest n ts h e s) = rw (read_behind at text t rest n h e, tokens_read (at + n) rest ts s) refl

one_list : (bytes : List ℕ) (ts us : List Spanned) → Tokens 0 bytes ts → Tokens 0 bytes us → ts ≡ us
one_list bytes ts us h g = ok_same ts us (sym (tokens_read 0 bytes ts h) ∙ tokens_read 0 bytes us g)

one_unit : (ts us : List Spanned) (u v : AUnit) → ts ≡ us → IsUnit (seen ts) u → IsUnit (seen us) v → u ≡ v
one_unit ts us u v e h g = same_unit (seen ts) u v h.fits h.low h.text g.fits g.low (ap seen e ∙ g.text)

pub sources_have_one_program : SourcesHaveOneProgram
sources_have_one_program bytes p q h g =
    let list = one_list bytes h.spells.list g.spells.list h.spells.tokens g.spells.tokens in
    let unit = one_unit h.spells.list g.spells.list h.unit g.unit list h.spells.phrases g.spells.phrases in
    let ends : h.ends ≡ g.ends = h.spells.bodies ∙ (ap body_ends list ∙ sym g.spells.bodies) in
    let typed : type_text h.unit.externals h.ends h.unit.end ≡ Ok p = (text_means h.unit.externals h.ends h.unit.end).only p h.typed in
    let again : type_text g.unit.externals g.ends g.unit.end ≡ Ok q = (text_means g.unit.externals g.ends g.unit.end).only q g.typed in
    ok_same p q (sym typed ∙ (ap₂ (λ (u : AUnit) (es : List ℕ). type_text u.externals es u.end) unit ends ∙ again))
