-- The piece at the front of a text is read exactly as the grammar says, or it is wrong exactly so.
use Rattle.std.proofs.Common.{◌≡◌, ◌≢◌, ◌≤◌, ℕ, suc, ◌+◌, ◌-◌, Bool, true, false, cond, eqb, List, [], ◌∷◌, ◌++◌, length, take, drop, Option, Some, None, Result, Ok, Err}
use Rattle.std.proofs.Common.{refl, sym, ◌∙◌, ap, arith, subst, length-drop, length-append}
use Rattle.std.specs.Prelude.{nat_le, ◌&&◌, ◌||◌}
use Rattle.std.specs.Option.{option_map}
use Rattle.std.proofs.lemmas.Bool.{eqb-true, eqb-false, eq-eqb, leb-true, leb-false}
use Rattle.std.proofs.lemmas.Option.{none-some}
use Rattle.std.proofs.lemmas.List.{drop-drop}
use Rattle.gg_base.specs.Fronts.{run_len, in_line}
use Rattle.c_tokens.specs.declared.pieces.Piece.{Piece}
use Rattle.c_tokens.specs.declared.marks.Mark.{Mark}
use Rattle.c_tokens.specs.declared.words.Key.{Key}
use Rattle.c_tokens.specs.declared.token.Token.TheVariants as token
use Rattle.c_tokens.specs.declared.token.TokenFault.{TokenFault}
use Rattle.c_tokens.specs.declared.token.TokenFault.TheVariants.{NoMemory, At}
use Rattle.c_tokens.specs.declared.token.TokenKind.{TokenKind}
use Rattle.c_tokens.specs.declared.token.TokenKind.TheVariants.{BadByte, BadNumber, LongName, BadChar, Unclosed}
use Rattle.c_tokens.specs.Letters.{is_blank, is_letter, is_digit, in_word}
use Rattle.c_tokens.specs.Words.{key_of}
use Rattle.c_tokens.specs.Marks.{mark_text, mark_of}
use Rattle.c_tokens.specs.Numbers.{number_of}
use Rattle.c_tokens.specs.Escapes.{element_of}
use Rattle.c_tokens.specs.Pieces.{parts, holds, wrong, keyword_or_name, word_piece, number_or_not, number_piece, sign_copied, character_end, character_behind, character_piece}
use Rattle.c_tokens.specs.Pieces.{string_from, string_token, closes, comment_len, comment_or_not, mark_or_not, mark_piece, slash_piece, piece_of}
use Rattle.c_tokens.specs.Grammar as grammar
use Rattle.c_tokens.specs.Grammar.{IsElement, NoneCloses, NoComment, IsPiece}
use Rattle.c_tokens.specs.Wrong as faults
use Rattle.c_tokens.specs.Wrong.{IsWrong}
use Rattle.c_tokens.proofs.RunLaws.{run_cut, run_within}
use Rattle.c_tokens.proofs.NumberLaws.{number_is, number_reads}
use Rattle.c_tokens.proofs.EscapeLaws.{element_is, element_none}
use Rattle.c_tokens.proofs.StringLaws.{StringBad, unclosed, slash, StringSays, string_says}
use Rattle.c_tokens.proofs.TableLaws.{key_is, no_key, mark_is, mark_longest, no_mark, mark_some}

pub record PieceOk (text : List ℕ) (p : Piece) : Type 0 where
  pub is : IsPiece text p.token (drop p.length text)
  pub some : 1 ≤ p.length
  pub within : p.length ≤ length text

pub record PieceBad (at : ℕ) (text : List ℕ) (place : ℕ) (kind : TokenKind) : Type 0 where
  pub ahead : ℕ
  pub is : IsWrong text ahead kind
  pub place_is : place ≡ at + ahead

-- what the answer of the reader says of the grammar
abbrev pub PieceSays : ℕ → List ℕ → Result Piece TokenFault → Type 0
PieceSays at text (Ok p) = PieceOk text p
PieceSays at text (Err NoMemory) = ⊥
PieceSays at text (Err (At place kind)) = PieceBad at text place kind

bad : (at : ℕ) (text : List ℕ) (kind : TokenKind) → IsWrong text 0 kind → PieceBad at text at kind
bad at text kind h = record { ahead = 0; is = h; place_is = omega arith }

starts_run : (p : ℕ → Bool) (b : ℕ) (bs : List ℕ) → p b ≡ true → 1 ≤ run_len p (b ∷ bs)
starts_run p b bs h = rw h (omega arith)

pub letter_in : (b : ℕ) → is_letter b ≡ true → in_word b ≡ true
letter_in b h = rw h refl

pub digit_in : (b : ℕ) → is_digit b ≡ true → in_word b ≡ true
digit_in b h = step (is_letter b)
  where
    step : (t : Bool) → (t || is_digit b) ≡ true
    step true = refl
    step false = h

word_says : (at b : ℕ) (bs : List ℕ) → is_letter b ≡ true → PieceSays at (b ∷ bs) (word_piece at (b ∷ bs))
word_says at b bs h = step (key_of (take (run_len in_word (b ∷ bs)) (b ∷ bs))) refl
  where
    long : (u : Bool) → nat_le (length (take (run_len in_word (b ∷ bs)) (b ∷ bs))) 63 ≡ u → key_of (take (run_len in_word (b ∷ bs)) (b ∷ bs)) ≡ None
        → PieceSays at (b ∷ bs) (holds (run_len in_word (b ∷ bs)) (cond u (Ok (token.Name (take (run_len in_word (b ∷ bs)) (b ∷ bs)))) (wrong at LongName)))
    long true f e = record {
      is = grammar.name b bs (take (run_len in_word (b ∷ bs)) (b ∷ bs)) (drop (run_len in_word (b ∷ bs)) (b ∷ bs)) h (run_cut in_word (b ∷ bs)) (no_key _ e)
          (leb-true _ 63 f);
      some = starts_run in_word b bs (letter_in b h);
      within = run_within in_word (b ∷ bs);
    }
    long false f e = bad at (b ∷ bs) LongName (faults.long_name b bs (take (run_len in_word (b ∷ bs)) (b ∷ bs)) (drop (run_len in_word (b ∷ bs)) (b ∷ bs)) h (run_cut in_word (b ∷ bs))
        (no_key _ e) (leb-false (length (take (run_len in_word (b ∷ bs)) (b ∷ bs))) 63 f))

    step : (o : Option Key) → key_of (take (run_len in_word (b ∷ bs)) (b ∷ bs)) ≡ o
        → PieceSays at (b ∷ bs) (holds (run_len in_word (b ∷ bs)) (keyword_or_name at o (take (run_len in_word (b ∷ bs)) (b ∷ bs))))
    step None e = long (nat_le (length (take (run_len in_word (b ∷ bs)) (b ∷ bs))) 63) refl e
    step (Some k) e = record {
      is = grammar.keyword b bs (take (run_len in_word (b ∷ bs)) (b ∷ bs)) (drop (run_len in_word (b ∷ bs)) (b ∷ bs)) k h (run_cut in_word (b ∷ bs))
          (key_is _ k e);
      some = starts_run in_word b bs (letter_in b h);
      within = run_within in_word (b ∷ bs);
    }

number_says : (at b : ℕ) (bs : List ℕ) → is_digit b ≡ true → PieceSays at (b ∷ bs) (number_piece at (b ∷ bs))
number_says at b bs h = step (number_of (take (run_len in_word (b ∷ bs)) (b ∷ bs))) refl
  where
    step : (o : Option ℕ) → number_of (take (run_len in_word (b ∷ bs)) (b ∷ bs)) ≡ o → PieceSays at (b ∷ bs) (holds (run_len in_word (b ∷ bs)) (number_or_not at o))
    step None e = bad at (b ∷ bs) BadNumber (faults.bad_number b bs (take (run_len in_word (b ∷ bs)) (b ∷ bs)) (drop (run_len in_word (b ∷ bs)) (b ∷ bs)) h (run_cut in_word (b ∷ bs))
        (λ v w. none-some v (sym e ∙ number_reads _ v w)))
    step (Some v) e = record {
      is = grammar.number b bs (take (run_len in_word (b ∷ bs)) (b ∷ bs)) (drop (run_len in_word (b ∷ bs)) (b ∷ bs)) v h (run_cut in_word (b ∷ bs))
          (number_is _ v e);
      some = starts_run in_word b bs (digit_in b h);
      within = run_within in_word (b ∷ bs);
    }

character_end_says : (at v n : ℕ) (text rest : List ℕ) → rest ≡ drop n text → n ≤ length text → IsElement 39 text v rest → PieceSays at (39 ∷ text) (character_end at v n rest)
character_end_says at v n text [] e low h = bad at (39 ∷ text) Unclosed (faults.open_character text v [] h tt)
character_end_says at v n text (c ∷ cs) e low h = step (eqb c 10) (eqb c 39) refl refl
  where
    step : (t u : Bool) → eqb c 10 ≡ t → eqb c 39 ≡ u → PieceSays at (39 ∷ text) (cond t (wrong at Unclosed) (cond u (holds (n + 2) (Ok (token.Number (sign_copied v)))) (wrong at BadChar)))
    step true u f g = bad at (39 ∷ text) Unclosed (faults.open_character text v (c ∷ cs) h (eqb-true c 10 f))
    step false true f g =
        let c_is : c ≡ 39 = eqb-true c 39 g in
        let sums : n + 2 ≡ suc (n + 1) = omega arith in
        let len : suc (length cs) ≡ length text - n = ap length e ∙ length-drop n text in
        let rest_is : drop (n + 1) text ≡ cs = sym (drop-drop 1 n text) ∙ ap (drop 1) (sym e) in
        record {
          is = rw (sums, rest_is) (grammar.character text v cs (subst (λ (x : ℕ). IsElement 39 text v (x ∷ cs)) c_is h));
          some = omega arith;
          within = omega arith;
        }
    step false false f g = bad at (39 ∷ text) BadChar (faults.no_closing_mark text v c cs h (eqb-false c 39 g) (eqb-false c 10 f))

character_says : (at : ℕ) (text : List ℕ) → PieceSays at (39 ∷ text) (character_piece at text)
character_says at [] = bad at (39 ∷ []) Unclosed (faults.open_mark [] tt)
character_says at (b ∷ bs) = step (eqb b 10) (eqb b 39) refl refl
  where
    behind : b ≢ 10 → b ≢ 39 → (o : Option (ℕ × ℕ)) → element_of (b ∷ bs) ≡ o → PieceSays at (39 ∷ b ∷ bs) (character_behind at o (b ∷ bs))
    behind line other None e = let h = element_none b bs e in record { ahead = 1; is = rw h.0 (faults.character_escape bs h.1); place_is = refl }
    behind line other (Some x) e = let r = element_is 39 b bs x line other e in character_end_says at x.0 x.1 (b ∷ bs) (drop x.1 (b ∷ bs)) refl r.within r.is

    step : (t u : Bool) → eqb b 10 ≡ t → eqb b 39 ≡ u → PieceSays at (39 ∷ b ∷ bs) (cond t (wrong at Unclosed) (cond u (wrong at BadChar) (character_behind at (element_of (b ∷ bs)) (b ∷ bs))))
    step true u f g = bad at (39 ∷ b ∷ bs) Unclosed (faults.open_mark (b ∷ bs) (eqb-true b 10 f))
    step false true f g = bad at (39 ∷ b ∷ bs) BadChar (rw (eqb-true b 39 g) (faults.no_element bs))
    step false false f g = behind (eqb-false b 10 f) (eqb-false b 39 g) (element_of (b ∷ bs)) refl

string_piece_says : (at : ℕ) (text : List ℕ) → PieceSays at (34 ∷ text) (string_token (string_from at (at + 1) 0 text))
string_piece_says at text = step (string_from at (at + 1) 0 text) (string_says (length text) at (at + 1) text (omega arith))
  where
    fault : (a place : ℕ) (kind : TokenKind) → a ≡ at + 1 → StringBad at a text place kind → PieceBad at (34 ∷ text) place kind
    fault a _ _ e (unclosed _ vs rest s l) = bad at (34 ∷ text) Unclosed (faults.open_string text vs rest s l)
    fault a _ _ e (slash _ vs rest n s l f) = record { ahead = suc n; is = faults.string_escape text vs rest (suc n) s l (omega arith); place_is = omega arith }

    step : (r : Result (List ℕ × ℕ) TokenFault) → StringSays at (at + 1) text r → PieceSays at (34 ∷ text) (string_token r)
    step (Ok x) s =
        let sums : x.1 + 1 ≡ suc x.1 = omega arith in
        let low : x.1 ≤ length text = s.within in
        record { is = rw sums (grammar.string text x.0 (drop x.1 text) s.is); some = omega arith; within = omega arith }
    step (Err NoMemory) s = s
    step (Err (At place kind)) s = fault (at + 1) place kind refl s

-- comments
pub record CommentOk (text : List ℕ) (n : ℕ) : Type 0 where
  pub body : List ℕ
  pub rest : List ℕ
  pub text_is : text ≡ body ++ 42 ∷ 47 ∷ rest
  pub rest_is : drop n text ≡ rest
  pub first : NoneCloses (body ++ 42 ∷ [])
  pub within : n ≤ length text

abbrev pub CommentSays : List ℕ → Option ℕ → Type 0
CommentSays text None = NoneCloses text
CommentSays text (Some n) = CommentOk text n

put_open : (b : ℕ) (bs : List ℕ) → closes (b ∷ bs) ≡ false → NoneCloses bs → NoneCloses (b ∷ bs)
put_open b [] f h = tt
put_open b (c ∷ cs) f h = (λ e g. clash b c e g f, h)
  where
    clash : (x y : ℕ) → x ≡ 42 → y ≡ 47 → (eqb x 42 && eqb y 47) ≡ false → ⊥
    clash x y e g h = let k : false ≡ true = sym h ∙ rw (eq-eqb x 42 e, eq-eqb y 47 g) refl in cc

put_body : (b : ℕ) (body rest : List ℕ) → closes (b ∷ body ++ 42 ∷ 47 ∷ rest) ≡ false → NoneCloses (body ++ 42 ∷ []) → NoneCloses (b ∷ body ++ 42 ∷ [])
put_body b [] rest f h = (λ e g. absurd (let k : eqb 42 47 ≡ true = eq-eqb 42 47 g in cc), h)
put_body b (c ∷ cs) rest f h = (λ e g. clash b c e g f, h)
  where
    clash : (x y : ℕ) → x ≡ 42 → y ≡ 47 → (eqb x 42 && eqb y 47) ≡ false → ⊥
    clash x y e g h = let k : false ≡ true = sym h ∙ rw (eq-eqb x 42 e, eq-eqb y 47 g) refl in cc

ends_here : (text : List ℕ) → closes text ≡ true → CommentOk text 2
ends_here [] h = absurd (cc)
ends_here (a ∷ []) h = absurd (cc)
ends_here (a ∷ b ∷ bs) h = step (eqb a 42) (eqb b 47) refl refl h
  where
    step : (t u : Bool) → eqb a 42 ≡ t → eqb b 47 ≡ u → (t && u) ≡ true → CommentOk (a ∷ b ∷ bs) 2
    step true true e f g = record { body = []; rest = bs; text_is = rw (eqb-true a 42 e, eqb-true b 47 f) refl; rest_is = refl; first = tt; within = omega arith }
    step true false e f g = absurd (cc)
    step false u e f g = absurd (cc)

comment_says : (text : List ℕ) → CommentSays text (comment_len text)
comment_says [] = tt
comment_says (b ∷ bs) = step (closes (b ∷ bs)) refl (comment_len bs) (comment_says bs)
  where
    step : (t : Bool) → closes (b ∷ bs) ≡ t → (o : Option ℕ) → CommentSays bs o → CommentSays (b ∷ bs) (cond t (Some 2) (option_map suc o))
    step true e o s = ends_here (b ∷ bs) e
    step false e None s = put_open b bs e s
    step false e (Some n) s =
        let low : n ≤ length bs = s.within in
        record {
          body = b ∷ s.body;
          rest = s.rest;
          text_is = ap (λ (l : List ℕ). b ∷ l) s.text_is;
          rest_is = s.rest_is;
          first =
              put_body b s.body s.rest (subst (λ (l : List ℕ). closes (b ∷ l) ≡ false) s.text_is e) s.first;
          within = omega arith;
        }

comment_piece_says : (at : ℕ) (text : List ℕ) → PieceSays at (47 ∷ 42 ∷ text) (comment_or_not at (comment_len text))
comment_piece_says at text = step (comment_len text) (comment_says text)
  where
    step : (o : Option ℕ) → CommentSays text o → PieceSays at (47 ∷ 42 ∷ text) (comment_or_not at o)
    step None s = bad at (47 ∷ 42 ∷ text) Unclosed (faults.open_comment text s)
    step (Some n) s =
        let sums : n + 2 ≡ suc (suc n) = omega arith in
        let low : n ≤ length text = s.within in
        record {
          is = rw (sums, s.rest_is) (subst (λ (l : List ℕ). IsPiece (47 ∷ 42 ∷ l) None s.rest) (sym s.text_is) (grammar.comment s.body s.rest s.first));
          some = omega arith;
          within =
              omega arith;
        }

line_says : (at : ℕ) (text : List ℕ) → PieceSays at (47 ∷ 47 ∷ text) (parts (run_len in_line text + 2))
line_says at text =
    let sums : run_len in_line text + 2 ≡ suc (suc (run_len in_line text)) = omega arith in
    let low : run_len in_line text ≤ length text = run_within in_line text in
    record { is = rw sums (grammar.line_comment text (take (run_len in_line text) text) (drop (run_len in_line text) text) (run_cut in_line text)); some = omega arith; within = omega arith }

pub record IsPlain (b : ℕ) : Type 0 where
  pub blank : is_blank b ≡ false
  pub letter : is_letter b ≡ false
  pub digit : is_digit b ≡ false
  pub quote : b ≢ 39
  pub double : b ≢ 34

mark_says : (at b : ℕ) (bs : List ℕ) → IsPlain b → NoComment (b ∷ bs) → PieceSays at (b ∷ bs) (mark_piece at (b ∷ bs))
mark_says at b bs p c = step (mark_of (b ∷ bs)) refl
  where
    step : (o : Option Mark) → mark_of (b ∷ bs) ≡ o → PieceSays at (b ∷ bs) (mark_or_not at o)
    step None e = bad at (b ∷ bs) BadByte (faults.bad_byte b bs p.blank p.letter p.digit p.quote p.double (no_mark b bs e))
    step (Some m) e =
        let text_is = mark_is (b ∷ bs) m e in
        record {
          is = grammar.mark (b ∷ bs) m (drop (length (mark_text m)) (b ∷ bs)) text_is (mark_longest (b ∷ bs) m e) c;
          some = mark_some m;
          within =
              omega (arith, ap length text_is, length-append (mark_text m) (drop (length (mark_text m)) (b ∷ bs)));
        }

no_comment : (b : ℕ) (bs : List ℕ) → b ≢ 47 → NoComment (b ∷ bs)
no_comment b [] h = tt
no_comment b (c ∷ cs) h = λ e. absurd (h e)

slash_says : (at : ℕ) (bs : List ℕ) → IsPlain 47 → PieceSays at (47 ∷ bs) (slash_piece at bs (47 ∷ bs))
slash_says at [] p = mark_says at 47 [] p tt
slash_says at (c ∷ cs) p = step (eqb c 42) (eqb c 47) refl refl
  where
    step : (t u : Bool) → eqb c 42 ≡ t → eqb c 47 ≡ u → PieceSays at (47 ∷ c ∷ cs) (cond t (comment_or_not at (comment_len cs)) (cond u (parts (run_len in_line cs + 2)) (mark_piece at (47 ∷ c ∷ cs))))
    step true u e f = subst (λ (x : ℕ). PieceSays at (47 ∷ x ∷ cs) (comment_or_not at (comment_len cs))) (sym (eqb-true c 42 e)) (comment_piece_says at cs)
    step false true e f = subst (λ (x : ℕ). PieceSays at (47 ∷ x ∷ cs) (parts (run_len in_line cs + 2))) (sym (eqb-true c 47 f)) (line_says at cs)
    step false false e f = mark_says at 47 (c ∷ cs) p (λ g. (eqb-false c 42 e, eqb-false c 47 f))

-- the piece at the front is read as the grammar says, or it is wrong so
pub piece_says : (at b : ℕ) (bs : List ℕ) → PieceSays at (b ∷ bs) (piece_of at (b ∷ bs))
piece_says at b bs = blanks (is_blank b) refl
  where
    signs : IsPlain b → (t : Bool) → eqb b 47 ≡ t → PieceSays at (b ∷ bs) (cond t (slash_piece at bs (b ∷ bs)) (mark_piece at (b ∷ bs)))
    signs p true e = let same = eqb-true b 47 e in subst (λ (x : ℕ). PieceSays at (x ∷ bs) (slash_piece at bs (x ∷ bs))) (sym same) (slash_says at bs (subst IsPlain same p))
    signs p false e = mark_says at b bs p (no_comment b bs (eqb-false b 47 e))

    quotes : is_blank b ≡ false → is_letter b ≡ false → is_digit b ≡ false → (t u : Bool) → eqb b 39 ≡ t → eqb b 34 ≡ u
        → PieceSays at (b ∷ bs) (cond t (character_piece at bs) (cond u (string_token (string_from at (at + 1) 0 bs)) (cond (eqb b 47) (slash_piece at bs (b ∷ bs)) (mark_piece at (b ∷ bs)))))
    quotes e f g true u h i = subst (λ (x : ℕ). PieceSays at (x ∷ bs) (character_piece at bs)) (sym (eqb-true b 39 h)) (character_says at bs)
    quotes e f g false true h i = subst (λ (x : ℕ). PieceSays at (x ∷ bs) (string_token (string_from at (at + 1) 0 bs))) (sym (eqb-true b 34 i)) (string_piece_says at bs)
    quotes e f g false false h i = signs (record { blank = e; letter = f; digit = g; quote = eqb-false b 39 h; double = eqb-false b 34 i }) (eqb b 47) refl

    digits : is_blank b ≡ false → is_letter b ≡ false → (t : Bool) → is_digit b ≡ t
        → PieceSays at (b ∷ bs) (cond t (number_piece at (b ∷ bs)) (cond (eqb b 39) (character_piece at bs)
        (cond (eqb b 34) (string_token (string_from at (at + 1) 0 bs)) (cond (eqb b 47) (slash_piece at bs (b ∷ bs)) (mark_piece at (b ∷ bs))))))
    digits e f true g = number_says at b bs g
    digits e f false g = quotes e f g (eqb b 39) (eqb b 34) refl refl

    letters : is_blank b ≡ false → (t : Bool) → is_letter b ≡ t → PieceSays at (b ∷ bs)
        (cond t (word_piece at (b ∷ bs)) (cond (is_digit b) (number_piece at (b ∷ bs))
        (cond (eqb b 39) (character_piece at bs) (cond (eqb b 34) (string_token (string_from at (at + 1) 0 bs)) (cond (eqb b 47) (slash_piece at bs (b ∷ bs)) (mark_piece at (b ∷ bs)))))))
    letters e true f = word_says at b bs f
    letters e false f = digits e f (is_digit b) refl

    blanks : (t : Bool) → is_blank b ≡ t → PieceSays at (b ∷ bs) (cond t (parts 1)
        (cond (is_letter b) (word_piece at (b ∷ bs)) (cond (is_digit b) (number_piece at (b ∷ bs))
        (cond (eqb b 39) (character_piece at bs) (cond (eqb b 34) (string_token (string_from at (at + 1) 0 bs)) (cond (eqb b 47) (slash_piece at bs (b ∷ bs)) (mark_piece at (b ∷ bs))))))))
    blanks true e = record { is = grammar.blank b bs e; some = omega arith; within = omega arith }
    blanks false e = letters e (is_letter b) refl
