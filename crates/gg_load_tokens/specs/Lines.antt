-- The words of a generated source, line by line, and its tokens.
use Rattle.std.specs.Prelude.{ℕ, zero, suc, ◌+◌, ◌*◌, List, [], ◌∷◌, ◌++◌, codes}
use Rattle.std.specs.Fmt.{decimal}
use Rattle.c_tokens.specs.declared.marks.Mark.TheVariants.{
  OpenBrace,
  CloseBrace,
  OpenParenthesis,
  CloseParenthesis,
  OpenBracket,
  CloseBracket,
  Semicolon,
  Assign,
  Xor,
  And,
  Plus,
  Star,
  ShiftRight,
}
use Rattle.c_tokens.specs.declared.words.Key.TheVariants.{Int, Return, While}
use Rattle.c_tokens.specs.declared.token.Token.TheVariants.{End}
use Rattle.c_tokens.specs.declared.token.Spanned.{Spanned}
use Rattle.gg_load_tokens.specs.Words.{Word, blank, key, mark, name, number, behind, onto_tokens}

abbrev pub space : Word
space = blank 32

abbrev pub line_end : Word
line_end = blank 10

-- the name of a function, by its number
abbrev pub function_name : ℕ → List ℕ
function_name i = 102 ∷ decimal i

abbrev pub first_words : List Word
first_words =
    key Int ∷ space ∷ name (codes "t") ∷ mark OpenBracket ∷ number (codes "64") 64 ∷ mark CloseBracket ∷ mark Semicolon ∷ line_end ∷ []

abbrev pub heading_words : ℕ → List Word → List Word
heading_words i behind =
    key Int ∷ space ∷ name (function_name i) ∷ mark OpenParenthesis ∷ key Int ∷ space ∷ name (codes "x") ∷ mark CloseParenthesis
    ∷ mark OpenBrace ∷ key Int ∷ space ∷ name (codes "y") ∷ mark Semicolon ∷ behind

abbrev pub product_words : ℕ → List Word → List Word
product_words i behind =
    name (codes "y") ∷ mark Assign ∷ name (codes "x") ∷ mark Star ∷ number (decimal (2 * i + 1)) (2 * i + 1) ∷ mark Plus
    ∷ number (decimal i) i ∷ mark Semicolon ∷ behind

abbrev pub element_words : List ℕ → List Word → List Word
element_words index behind =
    name (codes "t") ∷ mark OpenBracket ∷ name index ∷ mark And ∷ number (codes "63") 63 ∷ mark CloseBracket ∷ behind

abbrev pub table_words : List Word → List Word
table_words behind =
    element_words (codes "x") (mark Assign ∷ element_words (codes "y") (mark Plus ∷ name (codes "y") ∷ mark Semicolon ∷ behind))

abbrev pub answer_words : List Word
answer_words =
    key Return ∷ space ∷ name (codes "y") ∷ mark Xor ∷ mark OpenParenthesis ∷ name (codes "y") ∷ mark ShiftRight ∷ number (codes "3") 3
    ∷ mark CloseParenthesis ∷ mark Semicolon ∷ mark CloseBrace ∷ line_end ∷ []

abbrev pub function_words : ℕ → List Word
function_words i = heading_words i (product_words i (table_words answer_words))

abbrev pub main_words : List Word
main_words =
    key Int ∷ space ∷ name (codes "main") ∷ mark OpenParenthesis ∷ mark CloseParenthesis ∷ mark OpenBrace ∷ key Int ∷ space
    ∷ name (codes "s") ∷ mark Semicolon ∷ name (codes "s") ∷ mark Assign ∷ number (codes "1") 1 ∷ mark Semicolon ∷ line_end ∷ []

abbrev pub call_words : ℕ → List Word
call_words i =
    name (codes "s") ∷ mark Assign ∷ name (function_name i) ∷ mark OpenParenthesis ∷ name (codes "s") ∷ mark Plus ∷ number (decimal i) i
    ∷ mark CloseParenthesis ∷ mark Semicolon ∷ line_end ∷ []

abbrev pub shift_words : List Word → List Word
shift_words behind =
    name (codes "s") ∷ mark Assign ∷ mark OpenParenthesis ∷ name (codes "s") ∷ mark ShiftRight ∷ number (codes "4") 4
    ∷ mark CloseParenthesis ∷ mark And ∷ number (codes "268435455") 268435455 ∷ mark Semicolon ∷ behind

abbrev pub letter_words : List Word
letter_words =
    key While ∷ mark OpenParenthesis ∷ name (codes "s") ∷ mark CloseParenthesis ∷ mark OpenBrace ∷ name (codes "putchar")
    ∷ mark OpenParenthesis ∷ number (codes "65") 65 ∷ mark Plus ∷ mark OpenParenthesis ∷ name (codes "s") ∷ mark And
    ∷ number (codes "15") 15 ∷ mark CloseParenthesis ∷ mark CloseParenthesis ∷ mark Semicolon ∷ shift_words
    (mark CloseBrace ∷ line_end ∷ [])

abbrev pub last_words : List Word
last_words =
    name (codes "putchar") ∷ mark OpenParenthesis ∷ number (codes "10") 10 ∷ mark CloseParenthesis ∷ mark Semicolon ∷ key Return ∷ space
    ∷ number (codes "0") 0 ∷ mark Semicolon ∷ mark CloseBrace ∷ line_end ∷ []

-- the words of the lines for the numbers 0, 1, .. n - 1, one behind another
abbrev pub words_up_to : (ℕ → List Word) → ℕ → List Word
words_up_to line zero = []
words_up_to line (suc n) = words_up_to line n ++ line n

abbrev pub source_words : ℕ → List Word
source_words k =
    first_words ++ (words_up_to function_words k ++ (main_words ++ (words_up_to call_words k ++ (letter_words ++ last_words))))

-- the tokens of a text of words alone, the last one its end
abbrev pub tokens_of : List Word → List Spanned
tokens_of ws = onto_tokens 0 ws (record { kind = End; start = behind 0 ws; end = behind 0 ws } ∷ [])

abbrev pub source_tokens : ℕ → List Spanned
source_tokens k = tokens_of (source_words k)
