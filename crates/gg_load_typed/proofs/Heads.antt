-- The functions that a generated source defines.
use Rattle.std.proofs.Common.{◌≡◌, ◌<◌, ◌≤◌, ◌^◌, ℕ, zero, suc, ◌+◌, List, [], ◌∷◌, ◌++◌, length, None, codes, refl, ap, ◌∙◌, arith}
use Rattle.c_phrases.specs.Units.{SomeItems, AnExternal}
use Rattle.c_typed_scope.specs.declared.entry.Entry.{Entry}
use Rattle.c_typed_scope.specs.declared.entry.Entry.TheVariants as entries
use Rattle.c_typed_scope.specs.declared.entry.Signature.{Signature}
use Rattle.c_typed_scope.specs.Scopes.{find}
use Rattle.c_typed_expressions.specs.Expressions.{integer_of, written}
use Rattle.c_typed_definition.specs.Signatures.{services, service_names, Known, known_with, known_from, known}
use Rattle.gg_load_tokens.specs.Words.{place}
use Rattle.gg_load_tokens.specs.Lines.{function_name, main_words}
use Rattle.gg_load_phrases.specs.Functions.{Places, function_external, function_places, onto_functions}
use Rattle.gg_load_phrases.specs.Main.{main_external}
use Rattle.gg_load_phrases.specs.Unit.{functions_at, main_at, main_items, source_externals}
use Rattle.gg_load_typed.proofs.Names.{function_entry, function_entries, function_signature, main_signature, function_signatures, signatures_length, find_later, find_main}

abbrev pub main_entry : ℕ → List ℕ × Entry
main_entry k = (codes "main", entries.Function (k + 2))

-- behind the services
abbrev pub known_with_names : List (List ℕ × Entry) → List Signature → Known
known_with_names ns ss = record { names = service_names ++ ns; signatures = services ++ ss }

abbrev pub known_at : ℕ → Known
known_at n = known_with_names (function_entries n) (function_signatures n)

abbrev pub whole_known : ℕ → Known
whole_known k = known_with_names (function_entries k ++ main_entry k ∷ []) (function_signatures k ++ main_signature ∷ [])

function_added : (n : ℕ) (p : Places) (ns : List (List ℕ × Entry)) (ss : List Signature) → find ns (function_name n) ≡ None → suc (suc (length ss)) ≡ n + 2 →
    known_with (function_external n p) (known_with_names ns ss) ≡ known_with_names (ns ++ function_entry n ∷ []) (ss ++ function_signature ∷ [])
unfolding integer_of written
function_added n p ns ss new many = rw (new, many) refl

main_added : (n : ℕ) (p : Places) (is : SomeItems) (ns : List (List ℕ × Entry)) (ss : List Signature) → find ns (codes "main") ≡ None → suc (suc (length ss)) ≡ n + 2 →
    known_with (main_external p is) (known_with_names ns ss) ≡ known_with_names (ns ++ main_entry n ∷ []) (ss ++ main_signature ∷ [])
unfolding integer_of written
main_added n p is ns ss new many = rw (new, many) refl

behind_services : (n : ℕ) → suc (suc (length (function_signatures n))) ≡ n + 2
behind_services n = let e : length (function_signatures n) ≡ n = signatures_length n in omega arith

functions_known : (at n : ℕ) (xs : List AnExternal) → n < 2 ^ 64 → known_from (onto_functions at n xs) (known_at 0) ≡ known_from xs (known_at n)
functions_known at zero xs low = refl
functions_known at (suc n) xs low =
    functions_known at n (function_external n (function_places at n) ∷ xs) (omega arith)
    ∙ ap (known_from xs) (function_added n (function_places at n) (function_entries n) (function_signatures n) (find_later n n (omega arith) (omega arith)) (behind_services n))

pub source_known : (k : ℕ) → k ≤ 1000 → known (source_externals k) ≡ whole_known k
source_known k low =
    functions_known functions_at k (main_external (place (main_at k) main_words) (main_items k) ∷ []) (omega arith)
    ∙ main_added k (place (main_at k) main_words) (main_items k) (function_entries k) (function_signatures k) (find_main k) (behind_services k)
