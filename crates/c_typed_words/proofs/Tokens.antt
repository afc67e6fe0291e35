-- The tokens of bytes are tokens of the grammar, and there is at most one more than bytes.
use Rattle.std.proofs.Common.{◌≡◌, ◌≢◌, ◌<◌, ◌≤◌, ◌^◌, ℕ, ◌+◌, ◌-◌, ◌∙◌, ◌==◌, Bool, true, false, List, [], ◌∷◌, ◌++◌, length, Option, Some, None, refl, sym, ap}
use Rattle.std.proofs.Common.{subst, length-drop, arith}
use Rattle.std.proofs.lemmas.Bool.Decides.{nat_tests}
use Rattle.std.specs.Prelude.{◌||◌, nat_lt, if◌then◌else◌}
use Rattle.c_tokens.specs.declared.words.Key.{Key}
use Rattle.c_tokens.specs.declared.token.Token.{Token}
use Rattle.c_tokens.specs.declared.token.Token.TheVariants as token
use Rattle.c_tokens.specs.declared.token.Spanned.{Spanned}
use Rattle.c_tokens.specs.Letters.{is_letter, is_digit, in_word}
use Rattle.c_tokens.specs.Words.{key_text}
use Rattle.c_tokens.specs.Escapes.{named_escape}
use Rattle.c_tokens.specs.Pieces.{sign_copied}
use Rattle.c_tokens.specs.Reading.{spanned}
use Rattle.c_tokens.specs.Grammar as grammar
use Rattle.c_tokens.specs.Grammar.{Stops, IsRun, IsNumber, IsEscape, IsElement, Elements, IsPiece, Tokens}
use Rattle.c_tokens.proofs.AgainLaws.{piece_reads}
use Rattle.c_phrases.specs.Classes.{seen}
use Rattle.c_phrases.specs.Units.{AUnit}
use Rattle.c_phrases.specs.Grammar.{IsUnit}
use Rattle.c_sound.specs.Fits.{AreBytes}
use Rattle.c_sound.proofs.Bytes.{bytes_drop}
use Rattle.c_typed_words.specs.Words.{BeginsWord, IsName, IsToken, EachIs, HasTokens}

bytes_behind : (xs ys : List ℕ) → AreBytes (xs ++ ys) → AreBytes ys
bytes_behind [] ys h = h
bytes_behind (x ∷ xs) ys h = bytes_behind xs ys h.1

-- the byte of an escape
one_of : (test : Bool) (x v : ℕ) (o : Option ℕ) → x < 256 → (o ≡ Some v → v < 256) → (if test then Some x else o) ≡ Some v → v < 256
one_of true x v o below rest e = let same : v ≡ x = cc in rw same below
one_of false x v o below rest e = rest e

nothing_low : (v : ℕ) → None ≡ Some v → v < 256
nothing_low v e = absurd (cc)

named_low : (b v : ℕ) → named_escape b ≡ Some v → v < 256
named_low b v =
    one_of (b == 110) 10 v _ (omega arith)
    (one_of (b == 116) 9 v _ (omega arith)
    (one_of (b == 114) 13 v _ (omega arith)
    (one_of (b == 97) 7 v _ (omega arith)
    (one_of (b == 98) 8 v _ (omega arith)
    (one_of (b == 102) 12 v _ (omega arith)
    (one_of (b == 118) 11 v _ (omega arith)
    (one_of (b == 92) 92 v _ (omega arith)
    (one_of (b == 39) 39 v _ (omega arith)
    (one_of (b == 34) 34 v None (omega arith) (nothing_low v))))))))))

-- a byte, and bytes behind it
abbrev Low : ℕ → List ℕ → Type 0
Low v rest = (v < 256) × AreBytes rest

escape_low : (text : List ℕ) (v : ℕ) (rest : List ℕ) → IsEscape text v rest → AreBytes text → Low v rest
escape_low _ _ _ (grammar.named b v rest e) h = (named_low b v e, h.1)
escape_low _ _ _ (grammar.octal text digits v rest o w) h =
    let small : v ≤ 255 = w.small in
    (omega arith, bytes_behind digits rest (subst AreBytes o.text_is h))
escape_low _ _ _ (grammar.hexadecimal text digits v rest r one two w) h =
    let small : v ≤ 255 = w.small in
    (omega arith, bytes_behind digits rest (subst AreBytes r.text_is h.1))

element_low : (mark : ℕ) (text : List ℕ) (v : ℕ) (rest : List ℕ) → IsElement mark text v rest → AreBytes text → Low v rest
element_low mark _ _ _ (grammar.plain b rest x y z) h = h
element_low mark _ _ _ (grammar.escape text v rest e) h = escape_low text v rest e h.1

elements_low : (mark : ℕ) (text vs rest : List ℕ) → Elements mark text vs rest → AreBytes text → AreBytes vs
elements_low mark _ _ _ (grammar.none rest) h = tt
elements_low mark _ _ _ (grammar.more text v middle vs rest e es) h =
    let x = element_low mark text v middle e h in
    (x.0, elements_low mark middle vs rest es x.1)

number_low : (word : List ℕ) (v : ℕ) → IsNumber word v → v < 2 ^ 32
number_low _ _ (grammar.decimal d ds v other w) = let small : v ≤ 2147483647 = w.small in omega arith
number_low _ _ (grammar.octal ds v w) = let small : v ≤ 4294967295 = w.small in omega arith
number_low _ _ (grammar.hexadecimal x d ds v mark w) = let small : v ≤ 4294967295 = w.small in omega arith

copied_low : (v : ℕ) → v < 256 → sign_copied v < 2 ^ 32
copied_low v h = by (nat_lt v 128)
  where
    by : (test : Bool) → (if test then v else v + 4294967040) < 2 ^ 32
    by true = omega arith
    by false = omega arith

-- a word begins with the letter that the text begins with
begins_by : (word rest : List ℕ) (b : ℕ) (bs : List ℕ) → b ∷ bs ≡ word ++ rest → is_letter b ≡ true → Stops in_word rest → BeginsWord word
begins_by [] rest b bs e h s =
    let stops : in_word b ≡ false = subst (Stops in_word) (sym e) s in
    absurd (let goes : in_word b ≡ true = rw h refl in cc)
begins_by (c ∷ word) rest b bs e h s = let same : c ≡ b = cc in rw same h

piece_is_token : (text : List ℕ) (t : Token) (rest : List ℕ) → IsPiece text (Some t) rest → AreBytes text → IsToken t
piece_is_token _ _ _ (grammar.keyword b bs word rest k h r e) bytes = tt
piece_is_token _ _ _ (grammar.name b bs word rest h r other short) bytes =
    record { begins = begins_by word rest b bs r.text_is h r.stops; letters = r.pass; short = short; no_keyword = other }
piece_is_token _ _ _ (grammar.number b bs word rest v h r w) bytes = number_low word v w
piece_is_token _ _ _ (grammar.character text v rest e) bytes = copied_low v (element_low 39 text v (39 ∷ rest) e bytes.1).0
piece_is_token _ _ _ (grammar.string text vs rest es) bytes = elements_low 34 text vs (34 ∷ rest) es bytes.1
piece_is_token _ _ _ (grammar.mark text m rest e most c) bytes = tt

-- one piece in front
each_with : (t : Option Token) (text rest : List ℕ) (at end : ℕ) (ts : List Spanned) → IsPiece text t rest → AreBytes text →
    EachIs IsToken (seen ts) → EachIs IsToken (seen (spanned t at end ++ ts))
each_with None text rest at end ts p bytes h = h
each_with (Some t) text rest at end ts p bytes h = (piece_is_token text t rest p bytes, h)

few_with : (t : Option Token) (at end n m : ℕ) (ts : List Spanned) → length (seen ts) ≤ n → n + 1 ≤ m → length (seen (spanned t at end ++ ts)) ≤ m
few_with None at end n m ts h le = omega arith
few_with (Some t) at end n m ts h le = omega arith

shorter : (text : List ℕ) (t : Option Token) (rest : List ℕ) → IsPiece text t rest → length rest + 1 ≤ length text
shorter text t rest p =
    let r = piece_reads text t rest p in
    let some : 1 ≤ r.taken = r.some in
    let within : r.taken ≤ length text = r.within in
    let left : length rest ≡ length text - r.taken = ap length (sym r.rest_is) ∙ length-drop r.taken text in
    omega arith

rest_bytes : (text : List ℕ) (t : Option Token) (rest : List ℕ) → IsPiece text t rest → AreBytes text → AreBytes rest
rest_bytes text t rest p bytes = let r = piece_reads text t rest p in subst AreBytes r.rest_is (bytes_drop r.taken text bytes)

pub each_token : (at : ℕ) (text : List ℕ) (ts : List Spanned) → Tokens at text ts → AreBytes text → EachIs IsToken (seen ts)
each_token at text ts (grammar.ended b) bytes = (tt, tt)
each_token at text ts (grammar.piece b x t rest n vs p e h) bytes =
    each_with t x rest b _ vs p bytes (each_token _ rest vs h (rest_bytes x t rest p bytes))

pub few_tokens : (at : ℕ) (text : List ℕ) (ts : List Spanned) → Tokens at text ts → length (seen ts) ≤ length text + 1
few_tokens at text ts (grammar.ended b) = omega arith
few_tokens at text ts (grammar.piece b x t rest n vs p e h) =
    let less = shorter x t rest p in
    few_with t b _ (length rest + 1) (length x + 1) vs (few_tokens _ rest vs h) (omega arith)

pub unit_has_tokens : (bytes : List ℕ) (list : List Spanned) (unit : AUnit) → AreBytes bytes → length bytes ≤ 1048576 → Tokens 0 bytes list →
    IsUnit (seen list) unit → HasTokens unit
unit_has_tokens bytes list unit low short tokens is =
    let few = few_tokens 0 bytes list tokens in
    record {
      each = subst (EachIs IsToken) is.text (each_token 0 bytes list tokens low);
      few = subst (λ ts. length ts ≤ 1048577) is.text (omega arith);
    }
