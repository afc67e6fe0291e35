-- The tokens of a generated source are those of its unit.
use Rattle.std.proofs.Common.{◌≡◌, ℕ, List, [], ◌∷◌, ◌++◌, ap, ◌∙◌}
use Rattle.c_tokens.specs.declared.marks.Mark.TheVariants.{CloseBrace}
use Rattle.c_tokens.specs.declared.token.Token.TheVariants.{End}
use Rattle.c_tokens.specs.declared.token.Spanned.{Spanned}
use Rattle.c_phrases.specs.Classes.{Placed, seen, sign}
use Rattle.c_phrases.specs.Units.{statement_item}
use Rattle.c_phrases.specs.UnitSpelling.{onto_statement, onto_items, onto_external, onto_externals}
use Rattle.c_phrases.specs.Grammar.{IsUnit}
use Rattle.gg_load_tokens.specs.Words.{Word, place, behind, onto_tokens}
use Rattle.gg_load_tokens.specs.Lines.{first_words, function_words, main_words, call_words, letter_words, last_words, words_up_to, source_words, source_tokens}
use Rattle.gg_load_phrases.specs.Functions.{first_external, onto_functions}
use Rattle.gg_load_phrases.specs.Main.{letters, ending, main_external}
use Rattle.gg_load_phrases.specs.Unit.{functions_at, main_at, calls_at, letters_at, last_at, end_at, main_items, source_externals, source_unit}
use Rattle.gg_load_phrases.proofs.Fitting.{first_fits, functions_fit, calls_fit, letters_fit, ending_fits, main_fits, first_low, functions_low, calls_low, letters_low, ending_low, main_low}
use Rattle.gg_load_phrases.proofs.Spelling.{tokens-append, behind-append, first_spelled, functions_spelled, calls_spelled, main_spelled, letters_spelled, ending_spelled}

abbrev end_token : ℕ → List Spanned
end_token at = record { kind = End; start = at; end = at } ∷ []

abbrev end_placed : ℕ → List Placed
end_placed at = record { kind = End; at = at } ∷ []

-- the words of main's last lines, of main, and from the functions on
abbrev ending_words : List Word
ending_words = letter_words ++ last_words

abbrev calling_words : ℕ → List Word
calling_words k = words_up_to call_words k ++ ending_words

abbrev whole_main_words : ℕ → List Word
whole_main_words k = main_words ++ calling_words k

abbrev function_and_main_words : ℕ → List Word
function_and_main_words k = words_up_to function_words k ++ whole_main_words k

-- where the text ends
end_is : (k : ℕ) → behind 0 (source_words k) ≡ end_at k
end_is k =
    behind-append 0 first_words (function_and_main_words k)
    ∙ (behind-append functions_at (words_up_to function_words k) (whole_main_words k)
    ∙ (behind-append (main_at k) main_words (calling_words k)
    ∙ (behind-append (calls_at k) (words_up_to call_words k) ending_words ∙ behind-append (letters_at k) letter_words last_words)))

module _ (k : ℕ) where
  ending_seen : (ts : List Spanned) → seen (onto_tokens (letters_at k) ending_words ts)
      ≡ onto_items (statement_item (letters (place (letters_at k) letter_words)) (ending (place (last_at k) last_words))) (sign CloseBrace 0 ∷ seen ts)
  ending_seen ts =
      ap seen (tokens-append (letters_at k) letter_words last_words ts)
      ∙ (letters_spelled (letters_at k) (onto_tokens (last_at k) last_words ts)
      ∙ ap (λ (l : List Placed). onto_statement (letters (place (letters_at k) letter_words)) l) (ending_spelled (last_at k) ts))

  calls_seen : (ts : List Spanned) → seen (onto_tokens (calls_at k) (calling_words k) ts) ≡ onto_items (main_items k) (sign CloseBrace 0 ∷ seen ts)
  calls_seen ts =
      ap seen (tokens-append (calls_at k) (words_up_to call_words k) ending_words ts)
      ∙ calls_spelled (calls_at k) k (statement_item (letters (place (letters_at k) letter_words)) (ending (place (last_at k) last_words)))
      (onto_tokens (letters_at k) ending_words ts) (sign CloseBrace 0 ∷ seen ts) (ending_seen ts)

  main_seen : (ts : List Spanned) → seen (onto_tokens (main_at k) (whole_main_words k) ts) ≡ onto_externals (main_external (place (main_at k) main_words) (main_items k) ∷ []) (seen ts)
  main_seen ts =
      ap seen (tokens-append (main_at k) main_words (calling_words k) ts)
      ∙ main_spelled (main_at k) (main_items k) (onto_tokens (calls_at k) (calling_words k) ts) (seen ts) (calls_seen ts)

  functions_seen : (ts : List Spanned) → seen (onto_tokens functions_at (function_and_main_words k) ts)
      ≡ onto_externals (onto_functions functions_at k (main_external (place (main_at k) main_words) (main_items k) ∷ [])) (seen ts)
  functions_seen ts =
      ap seen (tokens-append functions_at (words_up_to function_words k) (whole_main_words k) ts)
      ∙ functions_spelled functions_at k (main_external (place (main_at k) main_words) (main_items k) ∷ [])
      (onto_tokens (main_at k) (whole_main_words k) ts) (seen ts) (main_seen ts)

  source_seen : (ts : List Spanned) → seen (onto_tokens 0 (source_words k) ts) ≡ onto_externals (source_externals k) (seen ts)
  source_seen ts =
      ap seen (tokens-append 0 first_words (function_and_main_words k) ts)
      ∙ (first_spelled 0 (onto_tokens functions_at (function_and_main_words k) ts)
      ∙ ap (λ (l : List Placed). onto_external (first_external (place 0 first_words)) l) (functions_seen ts))

pub unit_of_source : (k : ℕ) → IsUnit (seen (source_tokens k)) (source_unit k)
unit_of_source k = record {
  text = source_seen k (end_token (behind 0 (source_words k))) ∙ ap (λ (at : ℕ). onto_externals (source_externals k) (end_placed at)) (end_is k);
  fits = (
    first_fits (place 0 first_words),
    functions_fit functions_at k _ (
      main_fits (place (main_at k) main_words) (main_items k)
          (calls_fit (calls_at k) k _ (letters_fit (place (letters_at k) letter_words), ending_fits (place (last_at k) last_words))),
      tt,
    ),
  );
  low = (
    first_low (place 0 first_words),
    functions_low functions_at k _ (
      main_low (place (main_at k) main_words) (main_items k)
          (calls_low (calls_at k) k _ (letters_low (place (letters_at k) letter_words), ending_low (place (last_at k) last_words))),
      tt,
    ),
  );
}
