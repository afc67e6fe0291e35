-- Strings are no longer than their source, and each element of an initialiser writes at most four bytes.
use Rattle.std.proofs.Common.{◌≡◌, ℕ, ◌+◌, ◌≤◌, List, ◌∷◌, ◌++◌, length, Option, Some, None, ap, subst, arith}
use Rattle.std.proofs.lemmas.List.{length-append}
use Rattle.tree_core.specs.declared.program.Object.{Object}
use Rattle.c_tokens.specs.declared.token.Token.{Token}
use Rattle.c_tokens.specs.declared.token.Spanned.{Spanned}
use Rattle.c_tokens.specs.Reading.{spanned}
use Rattle.c_tokens.specs.Grammar as grammar
use Rattle.c_tokens.specs.Grammar.{IsEscape, IsElement, Elements, IsPiece, Tokens}
use Rattle.c_phrases.specs.Classes.{seen}
use Rattle.c_phrases.specs.Phrases.{no_exps, exps}
use Rattle.c_types.specs.declared.types.Integer.{Integer}
use Rattle.c_types.specs.declared.types.Integer.TheVariants as ints
use Rattle.c_types.specs.declared.types.CType.{CType}
use Rattle.c_types.specs.declared.types.CType.TheVariants as types
use Rattle.c_types.specs.Types.{integer_size}
use Rattle.c_types.specs.Typed.{AnExpression}
use Rattle.c_typed_scope.specs.Layout.{Area}
use Rattle.c_typed_scope.specs.Contents.{Filled, low_bytes, address_at}
use Rattle.c_typed_scope.proofs.Written.{low_length}
use Rattle.c_typed_words.specs.Words.{EachIs}
use Rattle.c_typed_law.specs.Values.{IsPointerValue, Null, Address, IsWritten}
use Rattle.gg_compile_needs.specs.Claims.{IsShort, StringsAreShort, ElementsAreSmall}

-- ---- strings

escape_shorter : (text : List ℕ) (v : ℕ) (rest : List ℕ) → IsEscape text v rest → length rest ≤ length text
escape_shorter _ _ _ (grammar.named b v rest e) = omega arith
escape_shorter _ _ _ (grammar.octal text digits v rest o w) =
    let is = ap (λ (l : List ℕ). length l) o.text_is in
    let all = length-append digits rest in
    omega arith
escape_shorter _ _ _ (grammar.hexadecimal text digits v rest r one two w) =
    let is = ap (λ (l : List ℕ). length l) r.text_is in
    let all = length-append digits rest in
    omega arith

element_shorter : (mark : ℕ) (text : List ℕ) (v : ℕ) (rest : List ℕ) → IsElement mark text v rest → 1 + length rest ≤ length text
element_shorter mark _ _ _ (grammar.plain b rest x y z) = omega arith
element_shorter mark _ _ _ (grammar.escape text v rest e) = let x = escape_shorter text v rest e in omega arith

elements_shorter : (mark : ℕ) (text vs rest : List ℕ) → Elements mark text vs rest → length vs + length rest ≤ length text
elements_shorter mark _ _ _ (grammar.none rest) = omega arith
elements_shorter mark _ _ _ (grammar.more text v middle vs rest e es) =
    let x = element_shorter mark text v middle e in
    let y = elements_shorter mark middle vs rest es in
    omega arith

piece_is_short : (text : List ℕ) (t : Token) (rest : List ℕ) → IsPiece text (Some t) rest → length text ≤ 1048576 → IsShort t
piece_is_short _ _ _ (grammar.keyword b bs word rest k h r e) few = tt
piece_is_short _ _ _ (grammar.name b bs word rest h r other short) few = tt
piece_is_short _ _ _ (grammar.number b bs word rest v h r w) few = tt
piece_is_short _ _ _ (grammar.character text v rest e) few = tt
piece_is_short _ _ _ (grammar.string text vs rest es) few = let x = elements_shorter 34 text vs (34 ∷ rest) es in omega arith
piece_is_short _ _ _ (grammar.mark text m rest e most c) few = tt

-- one piece in front
each_with : (t : Option Token) (text rest : List ℕ) (at end : ℕ) (ts : List Spanned) → IsPiece text t rest → length text ≤ 1048576
    → EachIs IsShort (seen ts) → EachIs IsShort (seen (spanned t at end ++ ts))
each_with None text rest at end ts p few h = h
each_with (Some t) text rest at end ts p few h = (piece_is_short text t rest p few, h)

each_short : (at : ℕ) (text : List ℕ) (ts : List Spanned) → Tokens at text ts → length text ≤ 1048576 → EachIs IsShort (seen ts)
each_short at text ts (grammar.ended b) few = (tt, tt)
each_short at text ts (grammar.piece b x t rest n vs p e h) few = each_with t x rest b _ vs p few (each_short _ rest vs h (omega (arith, e)))

pub strings_are_short : StringsAreShort
strings_are_short bytes list unit few tokens is = subst (EachIs IsShort) is.text (each_short 0 bytes list tokens few)

-- ---- elements of initialisers

integer_small : (b : Integer) → integer_size b ≤ 4
unfolding integer_size
integer_small ints.Char = omega arith
integer_small ints.UnsignedChar = omega arith
integer_small ints.Short = omega arith
integer_small ints.UnsignedShort = omega arith
integer_small ints.Int = omega arith

-- so many low bytes of a number are added
bytes_added : (size v : ℕ) (old new : List ℕ) → size ≤ 4 → new ≡ old ++ low_bytes size v → length new ≤ length old + 4
bytes_added size v old new small is =
    let same = ap (λ (l : List ℕ). length l) is in
    let all = length-append old (low_bytes size v) in
    let low = low_length size v in
    omega arith

abbrev Bytes : Filled → List ℕ
Bytes f = f.bytes

pointer_writes : (t : CType) (x : AnExpression) (objects : List Object) (f g : Filled) → IsPointerValue t x objects f g
    → length g.bytes ≤ length f.bytes + 4
pointer_writes t x objects f g (Null null is) = bytes_added 4 0 f.bytes g.bytes (omega arith) (ap Bytes is)
pointer_writes t x objects f g (Address other j) =
    bytes_added 4 (address_at objects j.part) f.bytes g.bytes (omega arith) (ap Bytes j.whole.typed)

value_writes : (t : CType) (x : AnExpression) (objects : List Object) (f g : Filled) → IsWritten t x objects f g
    → length g.bytes ≤ length f.bytes + 4
value_writes types.Void x objects f g j = absurd j
value_writes (types.Integer b) x objects f g j =
    bytes_added (integer_size b) j.part f.bytes g.bytes (integer_small b) (ap Bytes j.whole.typed)
value_writes (types.Pointer b n) x objects f g j = pointer_writes (types.Pointer b n) x objects f g j

pub elements_are_small : ElementsAreSmall
elements_are_small names signatures scope t no_exps s r j = let is = ap (λ (z : Filled × Area). length z.0.bytes) j in omega arith
elements_are_small names signatures scope t (exps e es) s r j =
    let k = j.typed.whole in
    let x = value_writes t j.typed.part.0 j.typed.part.1.objects s.0 k.part k.typed in
    let is = ap (λ (z : Filled × Area). length z.0.bytes) k.whole in
    let y = elements_are_small names signatures scope t es j.part r j.whole in
    omega arith
