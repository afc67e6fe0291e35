-- Each line of a generated source is read as its words, whatever stands behind it.
use Rattle.std.proofs.Common.{◌<◌, ℕ, ◌+◌, ◌*◌, List, [], ◌∷◌, ◌++◌, refl, arith, codes}
use Rattle.std.specs.Fmt.{decimal}
use Rattle.c_tokens.specs.declared.marks.Mark.TheVariants.{OpenBrace, OpenParenthesis, CloseParenthesis, Semicolon, Assign, Plus, Star}
use Rattle.c_tokens.specs.declared.words.Key.TheVariants.{Int}
use Rattle.c_tokens.specs.Words.{key_of}
use Rattle.c_tokens.specs.Marks.{mark_of}
use Rattle.gg_load_tokens.specs.Words.{Word, key, mark, name, number, spelled}
use Rattle.gg_load_tokens.specs.Lines.{space, line_end, function_name, first_words, table_words, answer_words, function_words, main_words, call_words, letter_words, last_words}
use Rattle.gg_load_tokens.proofs.Pieces.{function_name_taken, number_taken, star_taken, plus_taken}
use Rattle.gg_load_tokens.proofs.Reading.{AreRead, AreTaken, are_taken, are_read-append}

first_taken : (rest : List ℕ) → AreTaken first_words rest
unfolding key_of mark_of
first_taken rest = (refl, (refl, (refl, (refl, (refl, (refl, (refl, (refl, tt))))))))

pub first_read : (rest : List ℕ) → AreRead first_words rest
first_read rest = are_taken first_words rest (first_taken rest)

main_taken : (rest : List ℕ) → AreTaken main_words rest
unfolding key_of mark_of
main_taken rest = (refl, (refl, (refl, (refl, (refl, (refl, (refl, (refl, (refl, (refl, (refl, (refl, (refl, (refl, (refl, tt)))))))))))))))

pub main_read : (rest : List ℕ) → AreRead main_words rest
main_read rest = are_taken main_words rest (main_taken rest)

letter_taken : (rest : List ℕ) → AreTaken letter_words rest
unfolding key_of mark_of
letter_taken rest = (
  refl,
  (
    refl,
    (
      refl,
      (
        refl,
        (
          refl,
          (
            refl,
            (
              refl,
              (
                refl,
                (
                  refl,
                  (
                    refl,
                    (
                      refl,
                      (
                        refl,
                        (
                          refl,
                          (
                            refl,
                            (
                              refl,
                              (
                                refl,
                                (
                                  refl,
                                  (
                                    refl,
                                    (
                                      refl,
                                      (
                                        refl,
                                        (refl, (refl, (refl, (refl, (refl, (refl, (refl, (refl, tt)))))))),
                                      ),
                                    ),
                                  ),
                                ),
                              ),
                            ),
                          ),
                        ),
                      ),
                    ),
                  ),
                ),
              ),
            ),
          ),
        ),
      ),
    ),
  ),
)

pub letter_read : (rest : List ℕ) → AreRead letter_words rest
letter_read rest = are_taken letter_words rest (letter_taken rest)

last_taken : (rest : List ℕ) → AreTaken last_words rest
unfolding key_of mark_of
last_taken rest = (refl, (refl, (refl, (refl, (refl, (refl, (refl, (refl, (refl, (refl, (refl, tt)))))))))))

pub last_read : (rest : List ℕ) → AreRead last_words rest
last_read rest = are_taken last_words rest (last_taken rest)

-- a function's line
abbrev opening_words : List Word
opening_words = key Int ∷ space ∷ []

abbrev parameter_words : List Word
parameter_words =
    mark OpenParenthesis ∷ key Int ∷ space ∷ name (codes "x") ∷ mark CloseParenthesis ∷ mark OpenBrace ∷ key Int ∷ space ∷ name (codes "y")
    ∷ mark Semicolon ∷ name (codes "y") ∷ mark Assign ∷ name (codes "x") ∷ []

abbrev product_end : ℕ → List Word
product_end i =
    mark Star ∷ number (decimal (2 * i + 1)) (2 * i + 1) ∷ mark Plus ∷ number (decimal i) i ∷ mark Semicolon ∷ table_words answer_words

opening_taken : (rest : List ℕ) → AreTaken opening_words (102 ∷ rest)
unfolding key_of mark_of
opening_taken rest = (refl, (refl, tt))

parameter_taken : (rest : List ℕ) → AreTaken parameter_words (42 ∷ rest)
unfolding key_of mark_of
parameter_taken rest = (refl, (refl, (refl, (refl, (refl, (refl, (refl, (refl, (refl, (refl, (refl, (refl, (refl, tt)))))))))))))

table_taken : (rest : List ℕ) → AreTaken (mark Semicolon ∷ table_words []) (114 ∷ rest)
unfolding key_of mark_of
table_taken rest = (refl, (refl, (refl, (refl, (refl, (refl, (refl, (refl, (refl, (refl, (refl, (refl, (refl, (refl, (refl, (refl, (refl, tt)))))))))))))))))

answer_taken : (rest : List ℕ) → AreTaken answer_words rest
unfolding key_of mark_of
answer_taken rest = (refl, (refl, (refl, (refl, (refl, (refl, (refl, (refl, (refl, (refl, (refl, (refl, tt))))))))))))

closing_read : (rest : List ℕ) → AreRead (mark Semicolon ∷ table_words answer_words) rest
closing_read rest =
    are_read-append (mark Semicolon ∷ table_words []) answer_words rest
    (are_taken (mark Semicolon ∷ table_words []) (spelled answer_words rest) (table_taken _)) (are_taken answer_words rest (answer_taken rest))

product_read : (i : ℕ) → i < 1000 → (rest : List ℕ) → AreRead (product_end i) rest
product_read i low rest = (
  star_taken (2 * i + 1) (omega arith) _,
  (
    number_taken (2 * i + 1) (omega arith) _ refl,
    (plus_taken i (omega arith) _, (number_taken i (omega arith) _ refl, closing_read rest)),
  ),
)

pub function_read : (i : ℕ) → i < 1000 → (rest : List ℕ) → AreRead (function_words i) rest
function_read i low rest =
    are_read-append opening_words (name (function_name i) ∷ (parameter_words ++ product_end i)) rest
    (are_taken opening_words (spelled (name (function_name i) ∷ (parameter_words ++ product_end i)) rest) (opening_taken (decimal i ++ spelled (parameter_words ++ product_end i) rest))) (
      function_name_taken i low _ refl,
      are_read-append parameter_words (product_end i) rest
          (are_taken parameter_words (spelled (product_end i) rest) (parameter_taken _)) (product_read i low rest),
    )

-- a call's line
abbrev assign_words : List Word
assign_words = name (codes "s") ∷ mark Assign ∷ []

abbrev argument_words : List Word
argument_words = mark OpenParenthesis ∷ name (codes "s") ∷ []

abbrev call_end : List Word
call_end = mark CloseParenthesis ∷ mark Semicolon ∷ line_end ∷ []

assign_taken : (rest : List ℕ) → AreTaken assign_words (102 ∷ rest)
unfolding key_of mark_of
assign_taken rest = (refl, (refl, tt))

argument_taken : (rest : List ℕ) → AreTaken argument_words (43 ∷ rest)
unfolding key_of mark_of
argument_taken rest = (refl, (refl, tt))

call_end_taken : (rest : List ℕ) → AreTaken call_end rest
unfolding key_of mark_of
call_end_taken rest = (refl, (refl, (refl, tt)))

pub call_read : (i : ℕ) → i < 1000 → (rest : List ℕ) → AreRead (call_words i) rest
call_read i low rest =
    are_read-append assign_words (name (function_name i) ∷ (argument_words ++ (mark Plus ∷ number (decimal i) i ∷ call_end))) rest
    (are_taken assign_words (spelled (name (function_name i) ∷ (argument_words ++ (mark Plus ∷ number (decimal i) i ∷ call_end))) rest) (assign_taken _)) (
      function_name_taken i low _ refl,
      are_read-append argument_words (mark Plus ∷ number (decimal i) i ∷ call_end) rest
          (are_taken argument_words (spelled (mark Plus ∷ number (decimal i) i ∷ call_end) rest) (argument_taken _))
          (plus_taken i (omega arith) _, (number_taken i (omega arith) _ refl, are_taken call_end rest (call_end_taken rest))),
    )
