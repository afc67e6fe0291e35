-- What the names of a generated source stand for.
use Rattle.std.proofs.Common.{
  ◌≡◌,
  ◌≢◌,
  ◌<◌,
  ◌≤◌,
  ◌⊎◌,
  inl,
  inr,
  ◌^◌,
  ℕ,
  zero,
  suc,
  ◌+◌,
  Bool,
  true,
  false,
  cond,
  List,
  [],
  ◌∷◌,
  ◌++◌,
  length,
  drop,
  Option,
  Some,
  None,
  slice_get,
  bytes_eq,
  codes,
  refl,
  sym,
  ap,
  subst,
  ◌∙◌,
  arith,
}
use Rattle.std.proofs.lemmas.Bool.{false_from_ne_true}
use Rattle.std.proofs.lemmas.Slice.Eq.{bytes_eq-Decides}
use Rattle.std.proofs.lemmas.Fmt.{decimal_injective}
use Rattle.c_typed_scope.specs.declared.entry.Entry.{Entry}
use Rattle.c_typed_scope.specs.declared.entry.Entry.TheVariants as entries
use Rattle.c_typed_scope.specs.declared.entry.Signature.{Signature}
use Rattle.c_typed_scope.specs.Scopes.{find, later}
use Rattle.gg_load_tokens.specs.Lines.{function_name}
use Rattle.gg_load_program.specs.Program.{int}
use Rattle.gg_load_program.proofs.Rows.{below_or_last, row_length, row_at}

-- the functions by their names: the two services have the numbers before theirs
abbrev pub function_entry : ℕ → List ℕ × Entry
function_entry i = (function_name i, entries.Function (i + 2))

abbrev pub function_entries : ℕ → List (List ℕ × Entry)
function_entries zero = []
function_entries (suc n) = function_entries n ++ function_entry n ∷ []

abbrev pub function_signature : Signature
function_signature = record { result = int; parameters = int ∷ [] }

abbrev pub main_signature : Signature
main_signature = record { result = int; parameters = [] }

abbrev pub function_signatures : ℕ → List Signature
function_signatures zero = []
function_signatures (suc n) = function_signatures n ++ function_signature ∷ []

pub signatures_length : (n : ℕ) → length (function_signatures n) ≡ n
signatures_length = row_length function_signatures (λ i. function_signature) refl (λ n. refl)

pub signature_at : (n i : ℕ) → i < n → (rest : List Signature) → slice_get (function_signatures n ++ rest) i ≡ Some function_signature
signature_at = row_at function_signatures (λ i. function_signature) refl (λ n. refl)

find-append : (xs ys : List (List ℕ × Entry)) (n : List ℕ) → find (xs ++ ys) n ≡ later (find xs n) (find ys n)
find-append [] ys n = refl
find-append (x ∷ xs) ys n = by (bytes_eq n x.0) (find-append xs ys n)
  where
    by : (b : Bool) → find (xs ++ ys) n ≡ later (find xs n) (find ys n) → cond b (Some x.1) (find (xs ++ ys) n) ≡ later (cond b (Some x.1) (find xs n)) (find ys n)
    by true e = refl
    by false e = e

same_name : (i : ℕ) → bytes_eq (function_name i) (function_name i) ≡ true
same_name i = (bytes_eq-Decides (function_name i) (function_name i)).1 refl

names_differ : (i j : ℕ) → i < 2 ^ 64 → j < 2 ^ 64 → i ≢ j → bytes_eq (function_name i) (function_name j) ≡ false
names_differ i j low small other =
    false_from_ne_true (bytes_eq (function_name i) (function_name j))
    (λ t. other (decimal_injective i j low small (ap (drop 1) ((bytes_eq-Decides (function_name i) (function_name j)).0 t))))

-- a name that is no function's
pub find_other : (n : ℕ) (name : List ℕ) → ((j : ℕ) → j < n → bytes_eq name (function_name j) ≡ false) → find (function_entries n) name ≡ None
find_other zero name differs = refl
find_other (suc n) name differs =
    find-append (function_entries n) (function_entry n ∷ []) name
    ∙ (ap (λ (o : Option Entry). later o (find (function_entry n ∷ []) name)) (find_other n name (λ j low. differs j (omega arith)))
    ∙ ap (λ (b : Bool). cond b (Some (entries.Function (n + 2))) None) (differs n (omega arith)))

pub find_later : (n i : ℕ) → n ≤ i → i < 2 ^ 64 → find (function_entries n) (function_name i) ≡ None
find_later n i low small = find_other n (function_name i) (λ j below. names_differ i j small (omega arith) (λ e. omega arith))

find_function : (n i : ℕ) → i < n → n < 2 ^ 64 → find (function_entries n) (function_name i) ≡ Some (entries.Function (i + 2))
find_function zero i low small = absurd (omega arith)
find_function (suc n) i low small =
    find-append (function_entries n) (function_entry n ∷ []) (function_name i) ∙ on (λ below. find_function n i below (omega arith)) (below_or_last i n low)
  where
    on : (i < n → find (function_entries n) (function_name i) ≡ Some (entries.Function (i + 2))) → (i < n) ⊎ (i ≡ n) →
        later (find (function_entries n) (function_name i)) (find (function_entry n ∷ []) (function_name i)) ≡ Some (entries.Function (i + 2))
    on before (inl below) = ap (λ (o : Option Entry). later o (find (function_entry n ∷ []) (function_name i))) (before below)
    on before (inr e) =
        subst (λ (j : ℕ). later (find (function_entries n) (function_name j)) (find (function_entry n ∷ []) (function_name j)) ≡ Some (entries.Function (j + 2))) (sym e)
        (ap (λ (o : Option Entry). later o (find (function_entry n ∷ []) (function_name n))) (find_later n n (omega arith) (omega arith))
        ∙ ap (λ (b : Bool). cond b (Some (entries.Function (n + 2))) None) (same_name n))

-- a function's name, also where other names stand behind
pub find_in : (n i : ℕ) → i < n → n < 2 ^ 64 → (rest : List (List ℕ × Entry)) → find (function_entries n ++ rest) (function_name i) ≡ Some (entries.Function (i + 2))
find_in n i low small rest =
    find-append (function_entries n) rest (function_name i) ∙ ap (λ (o : Option Entry). later o (find rest (function_name i))) (find_function n i low small)

pub find_main : (n : ℕ) → find (function_entries n) (codes "main") ≡ None
find_main n = find_other n (codes "main") (λ j low. refl)

pub find_main_in : (n : ℕ) → find (function_entries n ++ (codes "main", entries.Function (n + 2)) ∷ []) (codes "main") ≡ Some (entries.Function (n + 2))
find_main_in n =
    find-append (function_entries n) ((codes "main", entries.Function (n + 2)) ∷ []) (codes "main")
    ∙ ap (λ (o : Option Entry). later o (Some (entries.Function (n + 2)))) (find_main n)
