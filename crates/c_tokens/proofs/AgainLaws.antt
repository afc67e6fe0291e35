-- What the grammar says of the front of a text is what is read there.
use Rattle.std.proofs.Common.{◌≡◌, ◌≤◌, ℕ, suc, ◌+◌, ◌-◌, Bool, true, false, eqb, List, [], ◌∷◌, ◌++◌, length, take, drop, Option, Some, None, Ok, Err, refl, sym, ◌∙◌}
use Rattle.std.proofs.Common.{ap, arith, subst, length-drop, length-append}
use Rattle.std.specs.Prelude.{◌&&◌}
use Rattle.std.specs.Option.{option_map}
use Rattle.std.proofs.lemmas.Bool.{eqb-true, eq-eqb, ne_eqb, le-leb, lt-leb}
use Rattle.std.proofs.lemmas.Bool.Decides.{nat_tests}
use Rattle.std.proofs.lemmas.List.{drop-drop, append-nil}
use Rattle.std.proofs.Math.Seq.{drop-append_seam, take-append_seam, drop-append-add}
use Rattle.gg_base.specs.Fronts.{run_len, in_line}
use Rattle.c_tokens.specs.declared.pieces.Piece.{Piece}
use Rattle.c_tokens.specs.declared.marks.Mark.{Mark}
use Rattle.c_tokens.specs.declared.marks.Mark.TheVariants as marks
use Rattle.c_tokens.specs.declared.token.Token.{Token}
use Rattle.c_tokens.specs.declared.token.Token.TheVariants as token
use Rattle.c_tokens.specs.declared.token.TokenFault.TheVariants.{At}
use Rattle.c_tokens.specs.declared.token.TokenKind.{TokenKind}
use Rattle.c_tokens.specs.declared.token.TokenKind.TheVariants.{BadByte, BadNumber, LongName, BadChar, Unclosed}
use Rattle.c_tokens.specs.Letters.{is_blank, is_letter, is_digit, in_word}
use Rattle.c_tokens.specs.Marks.{mark_text, mark_of}
use Rattle.c_tokens.specs.Numbers.{number_of}
use Rattle.c_tokens.specs.Pieces.{wrong, word_piece, number_piece, sign_copied, character_end, string_from, string_token, comment_len, mark_piece, slash_piece, piece_of}
use Rattle.c_tokens.specs.Grammar.{IsRun, IsNumber, NoneCloses, NoComment, IsPiece, blank, comment, line_comment, keyword, name, number, character, string, mark}
use Rattle.c_tokens.specs.Wrong.{AtLineEnd, IsWrong, bad_byte, bad_number, long_name, character_escape, string_escape, no_element, no_closing_mark, open_comment, open_mark}
use Rattle.c_tokens.specs.Wrong.{open_character, open_string}
use Rattle.c_tokens.proofs.RunLaws.{run_again}
use Rattle.c_tokens.proofs.NumberLaws.{number_is, number_reads}
use Rattle.c_tokens.proofs.EscapeLaws.{element_reads, escape_none}
use Rattle.c_tokens.proofs.StringLaws.{elements_read}
use Rattle.c_tokens.proofs.Strings.{so_far}
use Rattle.c_tokens.proofs.TableLaws.{key_reads, key_none, mark_reads, mark_none, Front, front_of, mark_some}
use Rattle.c_tokens.proofs.PieceLaws.{letter_in, digit_in}

-- how a piece is read
pub record PieceRead (text : List ℕ) (t : Option Token) (rest : List ℕ) : Type 0 where
  pub taken : ℕ
  pub read : (at : ℕ) → piece_of at text ≡ Ok (record { token = t; length = taken })
  pub rest_is : drop taken text ≡ rest
  pub some : 1 ≤ taken
  pub within : taken ≤ length text

letter_blank : (b : ℕ) → is_letter b ≡ true → is_blank b ≡ false
letter_blank b h = grind (arith, nat_tests)

digit_blank : (b : ℕ) → is_digit b ≡ true → is_blank b ≡ false
digit_blank b h = grind (arith, nat_tests)

digit_letter : (b : ℕ) → is_digit b ≡ true → is_letter b ≡ false
digit_letter b h = grind (arith, nat_tests)

record CutRun (p : ℕ → Bool) (text run rest : List ℕ) : Type 0 where
  pub len : run_len p text ≡ length run
  pub take_is : take (length run) text ≡ run
  pub drop_is : drop (length run) text ≡ rest
  pub within : length run ≤ length text

cut_run : (p : ℕ → Bool) (text run rest : List ℕ) → IsRun p text run rest → CutRun p text run rest
cut_run p text run rest r = subst (λ (t : List ℕ). CutRun p t run rest) (sym r.text_is)
    (record { len = run_again p run rest r.pass r.stops; take_is = take-append_seam run rest; drop_is = drop-append_seam run rest; within = omega (arith, length-append run rest) })

some_run : (p : ℕ → Bool) (b : ℕ) (bs run : List ℕ) → p b ≡ true → run_len p (b ∷ bs) ≡ length run → 1 ≤ length run
some_run p b bs run h e = rw (← e, h) (omega arith)

word_reads : (at b : ℕ) (bs : List ℕ) → is_letter b ≡ true → piece_of at (b ∷ bs) ≡ word_piece at (b ∷ bs)
word_reads at b bs h = rw (letter_blank b h, h) refl

number_word_reads : (at b : ℕ) (bs : List ℕ) → is_digit b ≡ true → piece_of at (b ∷ bs) ≡ number_piece at (b ∷ bs)
number_word_reads at b bs h = rw (digit_blank b h, digit_letter b h, h) refl

not_closing : (b c : ℕ) → (b ≡ 42 → c ≡ 47 → ⊥) → (eqb b 42 && eqb c 47) ≡ false
not_closing b c h = step (eqb b 42) (eqb c 47) refl refl
  where
    step : (t u : Bool) → eqb b 42 ≡ t → eqb c 47 ≡ u → (t && u) ≡ false
    step true true e f = absurd (h (eqb-true b 42 e) (eqb-true c 47 f))
    step true false e f = refl
    step false u e f = refl

comment_reads : (body rest : List ℕ) → NoneCloses (body ++ 42 ∷ []) → comment_len (body ++ 42 ∷ 47 ∷ rest) ≡ Some (length body + 2)
comment_reads [] rest h = refl
comment_reads (b ∷ []) rest h = rw (not_closing b 42 (λ e f. absurd (let k : eqb 42 47 ≡ true = eq-eqb 42 47 f in cc))) refl
comment_reads (b ∷ c ∷ cs) rest h =
    let sums : suc (length (c ∷ cs) + 2) ≡ length (b ∷ c ∷ cs) + 2 = omega arith in
    rw (not_closing b c h.0) (ap (option_map suc) (comment_reads (c ∷ cs) rest h.1) ∙ ap Some sums)

none_closes : (text : List ℕ) → NoneCloses text → comment_len text ≡ None
none_closes [] h = refl
none_closes (b ∷ []) h = refl
none_closes (b ∷ c ∷ cs) h = rw (not_closing b c h.0) (ap (option_map suc) (none_closes (c ∷ cs) h.1))

sign_reads : (at b : ℕ) (bs : List ℕ) → Front (b ∷ bs) → NoComment (b ∷ bs) → piece_of at (b ∷ bs) ≡ mark_piece at (b ∷ bs)
sign_reads at b bs f c = step (eqb b 47) refl bs c
  where
    slash : (bs : List ℕ) → b ≡ 47 → NoComment (b ∷ bs) → slash_piece at bs (b ∷ bs) ≡ mark_piece at (b ∷ bs)
    slash [] e c = refl
    slash (d ∷ ds) e c = let h = c e in rw (ne_eqb d 42 h.0, ne_eqb d 47 h.1) refl

    step : (t : Bool) → eqb b 47 ≡ t → (bs : List ℕ) → NoComment (b ∷ bs) → piece_of at (b ∷ bs) ≡ mark_piece at (b ∷ bs)
    step true e bs c = rw (f.0, f.1, f.2, f.3, f.4, e) (slash bs (eqb-true b 47 e) c)
    step false e bs c = rw (f.0, f.1, f.2, f.3, f.4, e) refl

mark_piece_reads : (text : List ℕ) (m : Mark) (rest : List ℕ) → text ≡ mark_text m ++ rest → mark_of text ≡ Some m → NoComment text → PieceRead text (Some (token.Mark m)) rest
mark_piece_reads [] m rest e f c = let len : 0 ≡ length (mark_text m) + length rest = ap length e ∙ length-append (mark_text m) rest in let some = mark_some m in absurd (omega arith)
mark_piece_reads (b ∷ bs) m rest e f c = record {
  taken = length (mark_text m);
  read = λ at. sign_reads at b bs (front_of m b bs rest e) c ∙ rw f refl;
  rest_is = ap (drop (length (mark_text m))) e ∙ drop-append_seam (mark_text m) rest;
  some = mark_some m;
  within = omega (arith, ap length e, length-append (mark_text m) rest);
}

pub piece_reads : (text : List ℕ) (t : Option Token) (rest : List ℕ) → IsPiece text t rest → PieceRead text t rest
piece_reads _ _ _ (blank b rest e) = record { taken = 1; read = λ at. rw e refl; rest_is = refl; some = omega arith; within = omega arith }
piece_reads _ _ _ (comment body rest h) =
    let sums : length body + 2 + 2 ≡ suc (suc (length body + 2)) = omega arith in
    record {
      taken = length body + 2 + 2;
      read = λ at. rw (comment_reads body rest h) refl;
      rest_is = rw sums (drop-append-add body (42 ∷ 47 ∷ rest) 2);
      some = omega arith;
      within = omega (arith, length-append body (42 ∷ 47 ∷ rest));
    }
piece_reads _ _ _ (line_comment text body rest r) =
    let c = cut_run in_line text body rest r in
    let len : run_len in_line text ≡ length body = c.len in
    let within : length body ≤ length text = c.within in
    let sums : length body + 2 ≡ suc (suc (length body)) = omega arith in
    record { taken = length body + 2; read = λ at. rw len refl; rest_is = rw sums c.drop_is; some = omega arith; within = omega arith }
piece_reads _ _ _ (keyword b bs word rest k h r e) =
    let c = cut_run in_word (b ∷ bs) word rest r in
    record {
      taken = length word;
      read = λ at. word_reads at b bs h ∙ rw (c.len, c.take_is, key_reads word k e) refl;
      rest_is = c.drop_is;
      some =
          some_run in_word b bs word (letter_in b h) c.len;
      within = c.within;
    }
piece_reads _ _ _ (name b bs word rest h r other low) =
    let c = cut_run in_word (b ∷ bs) word rest r in
    record {
      taken = length word;
      read = λ at. word_reads at b bs h ∙ rw (c.len, c.take_is, key_none word other, le-leb (length word) 63 low) refl;
      rest_is = c.drop_is;
      some =
          some_run in_word b bs word (letter_in b h) c.len;
      within = c.within;
    }
piece_reads _ _ _ (number b bs word rest v h r w) =
    let c = cut_run in_word (b ∷ bs) word rest r in
    record {
      taken = length word;
      read = λ at. number_word_reads at b bs h
          ∙ rw (c.len, c.take_is, number_reads word v w) refl;
      rest_is = c.drop_is;
      some = some_run in_word b bs word (digit_in b h) c.len;
      within = c.within;
    }
piece_reads _ _ _ (character text v rest e) =
    let r = element_reads 39 text v (39 ∷ rest) refl e in
    let len : suc (length rest) ≡ length r.others - r.behind = ap length (sym r.rest_is) ∙ length-drop r.behind r.others in
    let within : r.behind ≤ length r.others = r.within in
    let sums : suc r.behind + 2 ≡ suc (suc (r.behind + 1)) = omega arith in
    subst (λ (l : List ℕ). PieceRead (39 ∷ l) (Some (token.Number (sign_copied v))) rest) (sym r.text_is) (record {
      taken = suc r.behind + 2;
      read = λ at. rw (r.no_line, r.no_mark, r.read, r.rest_is) refl;
      rest_is = rw sums (sym (drop-drop 1 r.behind r.others) ∙ ap (drop 1) r.rest_is);
      some = omega arith;
      within = omega arith;
    })
piece_reads _ _ _ (string text vs rest s) =
    let r = elements_read text vs (34 ∷ rest) s in
    let len : suc (length rest) ≡ length text - r.taken = ap length (sym r.rest_is) ∙ length-drop r.taken text in
    let within : r.taken ≤ length text = r.within in
    let sums : r.taken + 1 + 1 ≡ suc (r.taken + 1) = omega arith in
    record {
      taken = r.taken + 1 + 1;
      read = λ at. rw (r.read at (at + 1), append-nil vs) refl;
      rest_is = rw sums (sym (drop-drop 1 r.taken text) ∙ ap (drop 1) r.rest_is);
      some = omega arith;
      within = omega arith;
    }
piece_reads _ _ _ (mark text m rest e most c) = mark_piece_reads text m rest e (mark_reads text m rest e most) c

here : (at : ℕ) (kind : TokenKind) → wrong {A = Piece} at kind ≡ Err (At (at + 0) kind)
here at kind = let e : at + 0 ≡ at = omega arith in rw e refl

-- what is wrong is answered so
pub wrong_reads : (at : ℕ) (text : List ℕ) (n : ℕ) (kind : TokenKind) → IsWrong text n kind → piece_of at text ≡ Err (At (at + n) kind)
wrong_reads at _ _ _ (bad_byte b bs e f g h i none) = rw (
  e,
  f,
  g,
  ne_eqb b 39 h,
  ne_eqb b 34 i,
  ne_eqb b 47 (λ (k : b ≡ 47). none marks.Slash [] (ap (λ (x : ℕ). x ∷ []) (sym k))),
  mark_none b bs none,
) (here at BadByte)
wrong_reads at _ _ _ (bad_number b bs word rest h r none) =
    let c = cut_run in_word (b ∷ bs) word rest r in
    number_word_reads at b bs h ∙ (rw (c.len, c.take_is, no_number word none) refl ∙ here at BadNumber)
  where
    no_number : (word : List ℕ) → ((v : ℕ) → IsNumber word v → ⊥) → number_of word ≡ None
    no_number word h = step (number_of word) refl
      where
        step : (o : Option ℕ) → number_of word ≡ o → number_of word ≡ None
        step None e = e
        step (Some v) e = absurd (h v (number_is word v e))
wrong_reads at _ _ _ (long_name b bs word rest h r other long) =
    let c = cut_run in_word (b ∷ bs) word rest r in
    word_reads at b bs h ∙ (rw (c.len, c.take_is, key_none word other, lt-leb (length word) 63 long) refl ∙ here at LongName)
wrong_reads at _ _ _ (character_escape text none) = rw (escape_none text none) refl
wrong_reads at _ _ _ (string_escape text vs rest n s none f) =
    let r = elements_read text vs (92 ∷ rest) s in
    let len : suc (length rest) ≡ length text - r.taken = ap length (sym r.rest_is) ∙ length-drop r.taken text in
    let within : r.taken ≤ length text = r.within in
    let sums : at + 1 + r.taken ≡ at + n = omega arith in
    rw (r.read at (at + 1), escape_none rest none, sums) refl
wrong_reads at _ _ _ (no_element rest) = here at BadChar
wrong_reads at _ _ _ (no_closing_mark text v b rest e other line) =
    let r = element_reads 39 text v (b ∷ rest) refl e in
    rw (r.text_is, r.no_line, r.no_mark, r.read, r.rest_is, ne_eqb b 10 line, ne_eqb b 39 other) (here at BadChar)
wrong_reads at _ _ _ (open_comment text h) = rw (none_closes text h) (here at Unclosed)
wrong_reads at _ _ _ (open_mark text h) = step text h
  where
    step : (l : List ℕ) → AtLineEnd l → piece_of at (39 ∷ l) ≡ Err (At (at + 0) Unclosed)
    step [] h = here at Unclosed
    step (b ∷ bs) h = rw (eq-eqb b 10 h) (here at Unclosed)
wrong_reads at _ _ _ (open_character text v rest e h) =
    let r = element_reads 39 text v rest refl e in
    rw (r.text_is, r.no_line, r.no_mark, r.read, r.rest_is) (step rest h (suc r.behind))
  where
    step : (l : List ℕ) → AtLineEnd l → (n : ℕ) → character_end at v n l ≡ Err (At (at + 0) Unclosed)
    step [] h n = here at Unclosed
    step (b ∷ bs) h n = rw (eq-eqb b 10 h) (here at Unclosed)
wrong_reads at _ _ _ (open_string text vs rest s h) =
    let r = elements_read text vs rest s in
    rw (r.read at (at + 1)) (step rest h (at + 1 + r.taken) r.taken)
  where
    step : (l : List ℕ) → AtLineEnd l → (m n : ℕ) → string_token (so_far vs n (string_from at m 0 l)) ≡ Err (At (at + 0) Unclosed)
    step [] h m n = here at Unclosed
    step (b ∷ bs) h m n = rw (eq-eqb b 10 h, line b h) (here at Unclosed)
      where
        line : (b : ℕ) → b ≡ 10 → eqb b 34 ≡ false
        line b h = rw h refl
