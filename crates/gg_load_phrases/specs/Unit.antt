-- The unit of a generated source, and where its lines stand.
use Rattle.std.specs.Prelude.{ℕ, List, [], ◌∷◌}
use Rattle.c_phrases.specs.Units.{SomeItems, statement_item, AnExternal, AUnit}
use Rattle.gg_load_tokens.specs.Words.{place, behind}
use Rattle.gg_load_tokens.specs.Lines.{first_words, function_words, main_words, call_words, letter_words, last_words, words_up_to}
use Rattle.gg_load_phrases.specs.Functions.{first_external, onto_functions}
use Rattle.gg_load_phrases.specs.Main.{onto_calls, letters, ending, main_external}

-- the offsets of the lines: of the first function, of main, of its first call, of its loop, of its last line, and of the end
abbrev pub functions_at : ℕ
functions_at = behind 0 first_words

abbrev pub main_at : ℕ → ℕ
main_at k = behind functions_at (words_up_to function_words k)

abbrev pub calls_at : ℕ → ℕ
calls_at k = behind (main_at k) main_words

abbrev pub letters_at : ℕ → ℕ
letters_at k = behind (calls_at k) (words_up_to call_words k)

abbrev pub last_at : ℕ → ℕ
last_at k = behind (letters_at k) letter_words

abbrev pub end_at : ℕ → ℕ
end_at k = behind (last_at k) last_words

abbrev pub main_items : ℕ → SomeItems
main_items k =
    onto_calls (calls_at k) k
    (statement_item (letters (place (letters_at k) letter_words)) (ending (place (last_at k) last_words)))

abbrev pub source_externals : ℕ → List AnExternal
source_externals k =
    first_external (place 0 first_words)
    ∷ onto_functions functions_at k (main_external (place (main_at k) main_words) (main_items k) ∷ [])

abbrev pub source_unit : ℕ → AUnit
source_unit k = record { externals = source_externals k; end = end_at k }
