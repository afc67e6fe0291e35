-- The tokens of each line are those of its phrases.
use Rattle.std.proofs.Common.{◌≡◌, ℕ, zero, suc, ◌+◌, List, [], ◌∷◌, ◌++◌, length, refl, ap, ◌∙◌}
use Rattle.c_tokens.specs.declared.marks.Mark.TheVariants.{CloseBrace}
use Rattle.c_tokens.specs.declared.token.Spanned.{Spanned}
use Rattle.c_tokens.specs.Reading.{spanned}
use Rattle.c_phrases.specs.Classes.{Placed, seen, sign}
use Rattle.c_phrases.specs.Units.{SomeItems, statement_item, expression, AnExternal}
use Rattle.c_phrases.specs.UnitSpelling.{onto_statement, onto_items, onto_external, onto_externals}
use Rattle.gg_load_tokens.specs.Words.{Word, place, behind, onto_tokens}
use Rattle.gg_load_tokens.specs.Lines.{first_words, function_words, main_words, call_words, letter_words, last_words, words_up_to}
use Rattle.gg_load_phrases.specs.Functions.{first_external, function_external, function_places, onto_functions}
use Rattle.gg_load_phrases.specs.Main.{call_of, call_places, onto_calls, letters, ending, main_external}

pub tokens-append : (at : ℕ) (xs ys : List Word) (ts : List Spanned) → onto_tokens at (xs ++ ys) ts ≡ onto_tokens at xs (onto_tokens (behind at xs) ys ts)
tokens-append at [] ys ts = refl
tokens-append at (x ∷ xs) ys ts =
    ap (λ (l : List Spanned). spanned x.token at (at + length x.text) ++ l) (tokens-append (at + length x.text) xs ys ts)

pub behind-append : (at : ℕ) (xs ys : List Word) → behind at (xs ++ ys) ≡ behind (behind at xs) ys
behind-append at [] ys = refl
behind-append at (x ∷ xs) ys = behind-append (at + length x.text) xs ys

pub first_spelled : (at : ℕ) (ts : List Spanned) → seen (onto_tokens at first_words ts) ≡ onto_external (first_external (place at first_words)) (seen ts)
first_spelled at ts = refl

function_spelled : (at i : ℕ) (ts : List Spanned) → seen (onto_tokens at (function_words i) ts) ≡ onto_external (function_external i (place at (function_words i))) (seen ts)
function_spelled at i ts = refl

-- the functions, where what stands behind them is spelled so
pub functions_spelled : (at n : ℕ) (xs : List AnExternal) (ts : List Spanned) (w : List Placed) → seen ts ≡ onto_externals xs w →
    seen (onto_tokens at (words_up_to function_words n) ts) ≡ onto_externals (onto_functions at n xs) w
functions_spelled at zero xs ts w h = h
functions_spelled at (suc n) xs ts w h =
    ap seen (tokens-append at (words_up_to function_words n) (function_words n) ts)
    ∙ functions_spelled at n (function_external n (function_places at n) ∷ xs) (onto_tokens (behind at (words_up_to function_words n)) (function_words n) ts) w
    (function_spelled (behind at (words_up_to function_words n)) n ts ∙ ap (λ (l : List Placed). onto_external (function_external n (function_places at n)) l) h)

call_spelled : (at i : ℕ) (ts : List Spanned) → seen (onto_tokens at (call_words i) ts) ≡ onto_statement (expression (call_of i (place at (call_words i)))) (seen ts)
call_spelled at i ts = refl

pub calls_spelled : (at n : ℕ) (is : SomeItems) (ts : List Spanned) (w : List Placed) → seen ts ≡ onto_items is w →
    seen (onto_tokens at (words_up_to call_words n) ts) ≡ onto_items (onto_calls at n is) w
calls_spelled at zero is ts w h = h
calls_spelled at (suc n) is ts w h =
    ap seen (tokens-append at (words_up_to call_words n) (call_words n) ts)
    ∙ calls_spelled at n (statement_item (expression (call_of n (call_places at n))) is) (onto_tokens (behind at (words_up_to call_words n)) (call_words n) ts) w
    (call_spelled (behind at (words_up_to call_words n)) n ts ∙ ap (λ (l : List Placed). onto_statement (expression (call_of n (call_places at n))) l) h)

pub main_spelled : (at : ℕ) (is : SomeItems) (ts : List Spanned) (w : List Placed) → seen ts ≡ onto_items is (sign CloseBrace 0 ∷ w) →
    seen (onto_tokens at main_words ts) ≡ onto_external (main_external (place at main_words) is) w
main_spelled at is ts w h = rw h refl

pub letters_spelled : (at : ℕ) (ts : List Spanned) → seen (onto_tokens at letter_words ts) ≡ onto_statement (letters (place at letter_words)) (seen ts)
letters_spelled at ts = refl

pub ending_spelled : (at : ℕ) (ts : List Spanned) → seen (onto_tokens at last_words ts) ≡ onto_items (ending (place at last_words)) (sign CloseBrace 0 ∷ seen ts)
ending_spelled at ts = refl
