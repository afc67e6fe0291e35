-- Parameters that are declared one after another: what is left decides.
use Rattle.std.proofs.Common.{◌≡◌, ℕ, ◌+◌, ◌<◌, ◌≤◌, Bool, List, [], ◌∷◌, length, drop, get_or, map, refl, ap, Ok, arith, ◌≢◌, false}
use Rattle.std.specs.Prelude.{◌&&◌}
use Rattle.std.specs.List.{list_all, zip}
use Rattle.std.proofs.lemmas.List.{drop_more, drop_all}
use Rattle.gg_base.proofs.Facts.{and_false}
use Rattle.c_phrases.specs.declared.tree.Param.{Param}
use Rattle.c_phrases.specs.UnitShapes.{param_of, param_list}
use Rattle.c_types.specs.declared.fault.TypeFault.{TypeFault}
use Rattle.c_types.specs.declared.fault.TypeFault.TheVariants.{NoMemory, At}
use Rattle.c_types.specs.declared.types.CType.{CType}
use Rattle.c_types.specs.Types.{same_type}
use Rattle.c_types.specs.Answers.{Fails}
use Rattle.c_typed_scope.specs.declared.entry.Entry.{Entry}
use Rattle.c_typed_scope.specs.declared.entry.Signature.{Signature}
use Rattle.c_typed_definition.specs.State.{State}
use Rattle.c_typed_definition.specs.Signatures.{parameter_type}
use Rattle.c_typed_definition.specs.Headings.{same_types}
use Rattle.c_typed_definition.specs.Texts.{type_parameter, type_parameters}

module _ (names : List (List ℕ × Entry)) (signatures : List Signature) where
  pub parameter_step : (defines : Bool) (at : ℕ) (ps : List Param) (i : ℕ) (p d : Param) (s next : State) → i < length ps → p ≡ get_or ps i d
      → type_parameter names signatures defines at (param_of p) i s ≡ Ok next → type_parameters names signatures defines at (param_list (drop i ps)) i s
      ≡ type_parameters names signatures defines at (param_list (drop (i + 1) ps)) (i + 1) next
  parameter_step defines at ps i p d s next lt is typed = rw (drop_more ps i d lt, ← is, typed) refl

  pub parameter_fails : (defines : Bool) (at : ℕ) (ps : List Param) (i : ℕ) (p d : Param) (s : State) (f : TypeFault) → i < length ps → p ≡ get_or ps i d
      → Fails f (type_parameter names signatures defines at (param_of p) i s) → Fails f (type_parameters names signatures defines at (param_list (drop i ps)) i s)
  parameter_fails defines at ps i p d s NoMemory lt is failed = tt
  parameter_fails defines at ps i p d s (At place kind) lt is failed = rw (drop_more ps i d lt, ← is, failed) refl

  pub parameters_end : (defines : Bool) (at : ℕ) (ps : List Param) (i : ℕ) (s : State) → length ps ≤ i → type_parameters names signatures defines at (param_list (drop i ps)) i s ≡ Ok s
  parameters_end defines at ps i s le = rw (drop_all i ps le) refl

pub ruleset parameter_facts = (parameter_step, parameter_fails, parameters_end)

pub types_written : (ps : List Param) → map (λ p. parameter_type (param_of p)) ps ≡ map parameter_type (param_list ps)
types_written [] = refl
types_written (p ∷ ps) = ap (λ (types : List CType). parameter_type (param_of p) ∷ types) (types_written ps)

-- two lists of types, pair by pair
abbrev pub same_pair : CType × CType → Bool
same_pair p = same_type p.0 p.1

pub same_pairs : (xs ys : List CType) → length xs ≡ length ys → list_all same_pair (zip xs ys) ≡ same_types xs ys
same_pairs [] [] e = refl
same_pairs [] (y ∷ ys) e = absurd (omega (arith, e))
same_pairs (x ∷ xs) [] e = absurd (omega (arith, e))
same_pairs (x ∷ xs) (y ∷ ys) e = ap (λ (b : Bool). same_type x y && b) (same_pairs xs ys (omega (arith, e)))

pub same_length : (xs ys : List CType) → length xs ≢ length ys → same_types xs ys ≡ false
same_length [] [] ne = absurd (ne refl)
same_length [] (y ∷ ys) ne = refl
same_length (x ∷ xs) [] ne = refl
same_length (x ∷ xs) (y ∷ ys) ne = rw (same_length xs ys (λ e. ne (omega (arith, e)))) (and_false (same_type x y))
