-- The unit of a generated source is typed as its program.
use Rattle.std.proofs.Common.{◌≡◌, ◌<◌, ◌≤◌, ℕ, zero, suc, ◌+◌, false, List, [], ◌∷◌, ◌++◌, length, Some, Ok, refl, ap, ◌∙◌, arith, append_assoc}
use Rattle.c_phrases.specs.Units.{AnExternal}
use Rattle.c_types.specs.Types.{same_type, same_integer}
use Rattle.c_typed_scope.specs.declared.entry.Entry.{Entry}
use Rattle.c_typed_scope.specs.declared.entry.Signature.{Signature}
use Rattle.c_typed_definition.specs.Signatures.{services, service_names, Known, known}
use Rattle.c_typed_definition.specs.Headings.{Text}
use Rattle.c_typed_definition.specs.Texts.{type_external, type_externals, main_of, any_block, empty_text, type_text}
use Rattle.c_program.specs.Programs.{ARoutine}
use Rattle.gg_load_tokens.specs.Words.{place}
use Rattle.gg_load_tokens.specs.Lines.{first_words, main_words, letter_words, last_words}
use Rattle.gg_load_phrases.specs.Functions.{first_external, function_external, function_places, onto_functions}
use Rattle.gg_load_phrases.specs.Main.{main_external}
use Rattle.gg_load_phrases.specs.Unit.{functions_at, main_at, calls_at, letters_at, last_at, main_items, source_externals}
use Rattle.gg_load_program.specs.Program.{function_routine, function_routines, main_routine, source_program}
use Rattle.gg_load_program.proofs.Routines.{routines_length}
use Rattle.gg_load_typed.proofs.Names.{function_entries, main_signature, function_signatures, signatures_length, signature_at, find_in, find_main, find_main_in}
use Rattle.gg_load_typed.proofs.Functions.{table_area, text_with, text_at, first_typed, function_typed}
use Rattle.gg_load_typed.proofs.Mains.{main_typed}
use Rattle.gg_load_typed.proofs.Heads.{main_entry, whole_known, source_known}

-- the number of main
main_number : (n j : ℕ) (rest : List ARoutine) → main_of rest ≡ Some j → main_of (function_routines n ++ rest) ≡ Some (j + n)
main_number zero j rest h = h ∙ ap Some (let e : j ≡ j + 0 = omega arith in e)
main_number (suc n) j rest h =
    ap main_of (append_assoc (function_routines n) (function_routine n ∷ []) rest)
    ∙ (main_number n (j + 1) (function_routine n ∷ rest) (rw h refl) ∙ ap Some (let e : j + 1 + n ≡ j + suc n = omega arith in e))

main_is : (k : ℕ) → main_of (main_routine k ∷ []) ≡ Some 0
unfolding same_type same_integer
main_is k = refl

-- no function has memory locals
no_blocks : (n : ℕ) (rest : List ARoutine) → any_block rest ≡ false → any_block (function_routines n ++ rest) ≡ false
no_blocks zero rest h = h
no_blocks (suc n) rest h =
    ap any_block (append_assoc (function_routines n) (function_routine n ∷ []) rest) ∙ no_blocks n (function_routine n ∷ rest) h

-- a text whose externals are typed
whole_typed : (text : List AnExternal) (ends : List ℕ) (end : ℕ) (K : Known) (t : Text) (n : ℕ) → known text ≡ K →
    type_externals K.names K.signatures text (empty_text ends) ≡ Ok t → any_block t.bodies ≡ false → main_of t.bodies ≡ Some n →
    type_text text ends end ≡ Ok (record { objects = t.state.area.objects; routines = t.bodies; main = n })
unfolding type_text
whole_typed text ends end K t n e f none g = rw (e, f, none, g) refl

module _ (names : List (List ℕ × Entry)) (signatures : List Signature) (ends : List ℕ) where
  one_then : (e : AnExternal) (es : List AnExternal) (t r : Text) → type_external names signatures e t ≡ Ok r → type_externals names signatures (e ∷ es) t ≡ type_externals names signatures es r
  one_then e es t r h = rw h refl

  functions_typed : (at n : ℕ) (xs : List AnExternal) → ((i : ℕ) → i < n → type_external names signatures (function_external i (function_places at i)) (text_at ends i) ≡ Ok (text_at ends (suc i))) →
      type_externals names signatures (onto_functions at n xs) (text_at ends 0) ≡ type_externals names signatures xs (text_at ends n)
  functions_typed at zero xs each = refl
  functions_typed at (suc n) xs each =
      functions_typed at n (function_external n (function_places at n) ∷ xs) (λ i low. each i (omega arith))
      ∙ one_then (function_external n (function_places at n)) xs (text_at ends n) (text_at ends (suc n)) (each n (omega arith))

abbrev final_text : List ℕ → ℕ → Text
final_text ends k =
    text_with ends (function_entries k ++ main_entry k ∷ []) table_area (services ++ function_signatures k ++ main_signature ∷ []) (function_routines k ++ main_routine k ∷ [])

externals_typed : (ends : List ℕ) (k : ℕ) → k ≤ 1000 →
    type_externals (whole_known k).names (whole_known k).signatures (source_externals k) (empty_text ends) ≡ Ok (final_text ends k)
externals_typed ends k low =
    let ns : List (List ℕ × Entry) = function_entries k ++ main_entry k ∷ [] in
    let ss : List Signature = function_signatures k ++ main_signature ∷ [] in
    let N : List (List ℕ × Entry) = service_names ++ ns in
    let S : List Signature = services ++ ss in
    let main : AnExternal = main_external (place (main_at k) main_words) (main_items k) in
    one_then N S ends (first_external (place 0 first_words)) (onto_functions functions_at k (main ∷ [])) (empty_text ends) (text_at ends 0)
    (first_typed N S ends (place 0 first_words))
    ∙ (functions_typed N S ends functions_at k (main ∷ [])
    (λ i below. function_typed N S ends i (function_places functions_at i) (omega arith) (find_in k i below (omega arith) (main_entry k ∷ [])))
    ∙ one_then N S ends main [] (text_at ends k) (final_text ends k)
    (main_typed ns ss ends k (calls_at k) (place (main_at k) main_words) (place (letters_at k) letter_words) (place (last_at k) last_words)
    (function_entries k) table_area (services ++ function_signatures k) (function_routines k) (find_main k) (find_main_in k)
    (let e : length (function_signatures k) ≡ k = signatures_length k in omega arith) (routines_length k)
    (λ i below. record {
      known = find_in k i below (omega arith) (main_entry k ∷ []);
      in_scope = find_in k i below (omega arith) (main_entry k ∷ []);
      takes = signature_at k i below (main_signature ∷ []);
    })))

pub source_typed : (k : ℕ) (ends : List ℕ) (end : ℕ) → k ≤ 1000 → type_text (source_externals k) ends end ≡ Ok (source_program k)
source_typed k ends end low =
    whole_typed (source_externals k) ends end (whole_known k) (final_text ends k) k (source_known k low) (externals_typed ends k low)
    (no_blocks k (main_routine k ∷ []) refl) (main_number k 0 (main_routine k ∷ []) (main_is k) ∙ ap Some (let e : 0 + k ≡ k = omega arith in e))
