-- Externals and declarators that are read one after another: what is left decides.
use Rattle.std.proofs.Common.{◌≡◌, ℕ, ◌+◌, ◌<◌, ◌≤◌, List, [], ◌∷◌, length, drop, get_or, map, refl, ap, sym, ◌∙◌, Result, Ok, Option, Some, None, true, false, Bool, cond, arith}
use Rattle.std.specs.List.{position_from, list_any}
use Rattle.std.specs.Prelude.{nat_lt, ◌||◌}
use Rattle.std.proofs.lemmas.List.{drop_more, drop_all}
use Rattle.c_phrases.specs.declared.operator.Spec.{Spec}
use Rattle.c_phrases.specs.declared.tree.Declarator.{Declarator}
use Rattle.c_phrases.specs.declared.tree.External.{External}
use Rattle.tree_core.specs.declared.program.Object.{Object}
use Rattle.c_phrases.specs.UnitShapes.{declarator_of, declarators_of, external_of, externals_of}
use Rattle.c_types.specs.declared.fault.TypeFault.{TypeFault}
use Rattle.c_types.specs.declared.fault.TypeFault.TheVariants.{NoMemory, At}
use Rattle.c_types.specs.declared.fault.TypeKind.TheVariants.{NoMain}
use Rattle.c_types.specs.Answers.{Fault, bad, Fails}
use Rattle.c_typed_scope.specs.Layout.{Area}
use Rattle.c_typed_scope.specs.declared.entry.Entry.{Entry}
use Rattle.c_typed_scope.specs.declared.entry.Signature.{Signature}
use Rattle.c_program.specs.declared.program.Routine.{Routine}
use Rattle.c_program.specs.Programs.{routine}
use Rattle.c_typed_statements.specs.c_typed_definition.specs.State.{State}
use Rattle.c_typed_statements.specs.c_typed_definition.specs.Declarations.{type_object}
use Rattle.c_typed_statements.specs.c_typed_definition.specs.Signatures.{Known, known, known_with, known_from}
use Rattle.c_typed_statements.specs.c_typed_definition.specs.Headings.{Text}
use Rattle.c_typed_statements.specs.c_typed_definition.specs.Texts.{empty_text, type_text, type_globals, type_external, any_block, stacked_if}
use Rattle.c_typed_statements.specs.c_typed_definition.specs.Texts.{type_externals, is_main, behind, main_of}

-- an answer that is no fault of types
abbrev pub fine : {A : Type 0} → A → Result A Fault
fine x = Ok x

pub known_step : (es : List External) (i : ℕ) (e d : External) (k next : Known) → i < length es → e ≡ get_or es i d → fine (known_with (external_of e) k) ≡ Ok next
    → known_from (externals_of (drop i es)) k ≡ known_from (externals_of (drop (i + 1) es)) next
known_step es i e d k next lt is made =
    let same : known_with (external_of e) k ≡ next = cc in
    rw (drop_more es i d lt, ← is) (ap (known_from (externals_of (drop (i + 1) es))) same)

pub known_end : (es : List External) (i : ℕ) (k : Known) → length es ≤ i → known_from (externals_of (drop i es)) k ≡ k
known_end es i k le = rw (drop_all i es le) refl

module _ (names : List (List ℕ × Entry)) (signatures : List Signature) where
  pub global_step : (spec : Spec) (ds : List Declarator) (i : ℕ) (d other : Declarator) (s next : State) (n : ℕ) → i < length ds → d ≡ get_or ds i other
      → type_object names signatures false spec (declarator_of d) s ≡ Ok (n, next) → type_globals names signatures spec (declarators_of (drop i ds)) s
      ≡ type_globals names signatures spec (declarators_of (drop (i + 1) ds)) next
  global_step spec ds i d other s next n lt is typed = rw (drop_more ds i other lt, ← is, typed) refl

  pub global_fails : (spec : Spec) (ds : List Declarator) (i : ℕ) (d other : Declarator) (s : State) (f : TypeFault) → i < length ds → d ≡ get_or ds i other
      → Fails f (type_object names signatures false spec (declarator_of d) s) → Fails f (type_globals names signatures spec (declarators_of (drop i ds)) s)
  global_fails spec ds i d other s NoMemory lt is failed = tt
  global_fails spec ds i d other s (At place kind) lt is failed = rw (drop_more ds i other lt, ← is, failed) refl

  pub globals_end : (spec : Spec) (ds : List Declarator) (i : ℕ) (s : State) → length ds ≤ i → type_globals names signatures spec (declarators_of (drop i ds)) s ≡ Ok s
  globals_end spec ds i s le = rw (drop_all i ds le) refl

  pub external_step : (es : List External) (i : ℕ) (e d : External) (t next : Text) → i < length es → e ≡ get_or es i d → type_external names signatures (external_of e) t ≡ Ok next
      → type_externals names signatures (externals_of (drop i es)) t ≡ type_externals names signatures (externals_of (drop (i + 1) es)) next
  external_step es i e d t next lt is typed = rw (drop_more es i d lt, ← is, typed) refl

  pub external_fails : (es : List External) (i : ℕ) (e d : External) (t : Text) (f : TypeFault) → i < length es → e ≡ get_or es i d
      → Fails f (type_external names signatures (external_of e) t) → Fails f (type_externals names signatures (externals_of (drop i es)) t)
  external_fails es i e d t NoMemory lt is failed = tt
  external_fails es i e d t (At place kind) lt is failed = rw (drop_more es i d lt, ← is, failed) refl

  pub externals_end : (es : List External) (i : ℕ) (t : Text) → length es ≤ i → type_externals names signatures (externals_of (drop i es)) t ≡ Ok t
  externals_end es i t le = rw (drop_all i es le) refl

-- a number among the last of them, by its number among all
abbrev from_on : ℕ → Option ℕ → Option ℕ
from_on n None = None
from_on n (Some m) = Some (n + m)

from_none : (m : Option ℕ) → from_on 0 m ≡ m
from_none None = refl
from_none (Some m) = ap Some (omega arith)

from_behind : (n : ℕ) (m : Option ℕ) → from_on (n + 1) m ≡ from_on n (behind m)
from_behind n None = refl
from_behind n (Some m) = ap Some (let s : n + 1 + m ≡ n + (m + 1) = omega arith in s)

abbrev pub begins_run : Routine → Bool
begins_run r = is_main (routine r)

main_from : (rs : List Routine) (n : ℕ) → position_from begins_run n rs ≡ from_on n (main_of (map routine rs))
main_from [] n = refl
main_from (r ∷ rs) n = by (begins_run r) (main_from rs (n + 1))
  where
    by : (b : Bool) → position_from begins_run (n + 1) rs ≡ from_on (n + 1) (main_of (map routine rs)) →
        cond b (Some n) (position_from begins_run (n + 1) rs) ≡ from_on n (cond b (Some 0) (behind (main_of (map routine rs))))
    by true h = ap Some (omega arith)
    by false h = h ∙ from_behind n (main_of (map routine rs))

pub main_is : (rs : List Routine) → position_from begins_run 0 rs ≡ main_of (map routine rs)
main_is rs = main_from rs 0 ∙ from_none (main_of (map routine rs))

-- some function has memory locals
abbrev pub has_block : Routine → Bool
has_block r = nat_lt 0 r.block

pub any_is : (rs : List Routine) → list_any has_block rs ≡ any_block (map routine rs)
any_is [] = refl
any_is (r ∷ rs) = ap (λ (b : Bool). nat_lt 0 r.block || b) (any_is rs)

-- a whole text: the functions that are known, and the externals, as the code holds them
module _ (items l m : List External) (ends : List ℕ) (end : ℕ) (f : Known) (begun : Text) (is_l : l ≡ items) (is_m : m ≡ items)
    (known_is : fine (known (externals_of l)) ≡ Ok f) (begins : fine (empty_text ends) ≡ Ok begun) where
  all_known : known (externals_of items) ≡ f
  all_known =
      let k : known (externals_of l) ≡ f = cc in
      ap (λ x. known (externals_of x)) (sym is_l) ∙ k

  all_begun : empty_text ends ≡ begun
  all_begun = cc

  -- behind the externals, of which these functions come
  abbrev pub Reach : Text → List Routine → Type 0
  Reach t rs = (type_externals f.names f.signatures (externals_of m) begun ≡ Ok t) × (t.bodies ≡ map routine rs)

  reached : (t : Text) (rs : List Routine) → Reach t rs → type_externals f.names f.signatures (externals_of items) begun ≡ Ok t
  reached t rs r = ap (λ x. type_externals f.names f.signatures (externals_of x) begun) (sym is_m) ∙ r.0

  -- the second stack, where some function has memory locals
  stacked : (any : Bool) (rs found : List Routine) (a : Area) (r : Result Area Fault) → any ≡ any_block (map routine found) → found ≡ rs
      → stacked_if any end a ≡ r → stacked_if (any_block (map routine rs)) end a ≡ r
  stacked any rs found a r tested same laid =
      ap (λ x. stacked_if (any_block (map routine x)) end a) (sym same) ∙ (ap (λ b. stacked_if b end a) (sym tested) ∙ laid)

  pub whole_runs : (t : Text) (any : Bool) (a : Area) (n : ℕ) (os : List Object) (rs tried found : List Routine) → Reach t rs → any ≡ any_block (map routine tried) → tried ≡ rs
      → stacked_if any end t.state.area ≡ Ok a → Some n ≡ main_of (map routine found) → found ≡ rs → os ≡ a.objects
      → type_text (externals_of items) ends end ≡ Ok (record { objects = os; routines = map routine rs; main = n })
  unfolding type_text
  whole_runs t any a n os rs tried found here tested again laid main same objects =
      let st : stacked_if (any_block (map routine rs)) end t.state.area ≡ Ok a = stacked any rs tried t.state.area (Ok a) tested again laid in
      let mn : main_of (map routine rs) ≡ Some n = ap (λ x. main_of (map routine x)) (sym same) ∙ sym main in
      rw (all_known, all_begun, reached t rs here, here.1, st, mn, objects) refl

  pub whole_fails : (e : TypeFault) → Fails e (type_externals f.names f.signatures (externals_of m) begun) → Fails e (type_text (externals_of items) ends end)
  unfolding type_text
  whole_fails NoMemory failed = tt
  whole_fails (At place kind) failed =
      let ty : type_externals f.names f.signatures (externals_of items) begun ≡ bad place kind = ap (λ x. type_externals f.names f.signatures (externals_of x) begun) (sym is_m) ∙ failed in
      rw (all_known, all_begun, ty) refl

  pub stack_fails : (e : TypeFault) (t : Text) (any : Bool) (rs tried : List Routine) → Reach t rs → any ≡ any_block (map routine tried) → tried ≡ rs
      → Fails e (stacked_if any end t.state.area) → Fails e (type_text (externals_of items) ends end)
  unfolding type_text
  stack_fails NoMemory t any rs tried here tested again failed = tt
  stack_fails (At place kind) t any rs tried here tested again failed =
      let st : stacked_if (any_block (map routine rs)) end t.state.area ≡ bad place kind = stacked any rs tried t.state.area (bad place kind) tested again failed in
      rw (all_known, all_begun, reached t rs here, here.1, st) refl

  pub whole_lacks : (t : Text) (any : Bool) (a : Area) (rs tried found : List Routine) → Reach t rs → any ≡ any_block (map routine tried) → tried ≡ rs
      → stacked_if any end t.state.area ≡ Ok a → None ≡ main_of (map routine found) → found ≡ rs → type_text (externals_of items) ends end ≡ bad end NoMain
  unfolding type_text
  whole_lacks t any a rs tried found here tested again laid main same =
      let st : stacked_if (any_block (map routine rs)) end t.state.area ≡ Ok a = stacked any rs tried t.state.area (Ok a) tested again laid in
      let mn : main_of (map routine rs) ≡ None = ap (λ x. main_of (map routine x)) (sym same) ∙ sym main in
      rw (all_known, all_begun, reached t rs here, here.1, st, mn) refl

-- what never fails fails for want of memory alone
pub no_fault : {A B : Type 0} (e : TypeFault) (x : A) (m : Result B Fault) → Fails e (fine x) → Fails e m
no_fault NoMemory x m h = tt
no_fault (At place kind) x m h = absurd (cc)
