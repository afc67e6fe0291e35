-- What an accepted form of a declarator says: its name is new here, and its type is an integer or a pointer.
use Rattle.std.proofs.Common.{◌≡◌, ℕ, Bool, true, false, Option, Some, None, Result, Ok, refl, if◌then◌else◌}
use Rattle.std.specs.Prelude.{is_some, ◌&&◌}
use Rattle.c_types.specs.declared.types.CType.{CType}
use Rattle.c_types.specs.declared.fault.TypeKind.TheVariants.{Twice, BadInit, BadType}
use Rattle.c_types.specs.Answers.{Fault, bad}
use Rattle.c_types.specs.Types.{is_scalar}
use Rattle.c_phrases.specs.Units.{ADeclarator}
use Rattle.c_typed_scope.specs.declared.entry.Entry.{Entry}
use Rattle.c_typed_scope.specs.Scopes.{Scope, find, is_taken}
use Rattle.c_typed_expressions.specs.Phrases.{brackets_in, init_in}
use Rattle.c_typed_definition.specs.Forms.{form_fits, form_of, is_automatic, automatic_form}

pub free_by : (o : Option Entry) (at : ℕ) (m : Result (Unit {0}) Fault) → (if is_some o then bad at Twice else m) ≡ Ok tt → o ≡ None
free_by None at m h = refl
free_by (Some e) at m h = absurd (cc)

abbrev form_by : Bool → Bool → Bool → ℕ → Result (Unit {0}) Fault
form_by taken fits scalar at = if taken then bad at Twice else if fits then (if scalar then Ok tt else bad at BadType) else bad at BadInit

scalar_by : (taken fits scalar : Bool) (at : ℕ) → form_by taken fits scalar at ≡ Ok tt → scalar ≡ true
scalar_by true fits scalar at h = absurd (cc)
scalar_by false false scalar at h = absurd (cc)
scalar_by false true true at h = refl
scalar_by false true false at h = absurd (cc)

pub form_free : (d : ADeclarator) (t : CType) (s : Scope) → form_of d t s ≡ Ok tt → find s.here d.name ≡ None
unfolding form_of is_taken
form_free d t s h = free_by (find s.here d.name) d.at _ h

pub form_scalar : (d : ADeclarator) (t : CType) (s : Scope) → form_of d t s ≡ Ok tt → is_scalar t ≡ true
unfolding form_of is_taken
form_scalar d t s h = scalar_by (is_some (find s.here d.name)) (form_fits t (brackets_in d.length) (init_in d.init)) (is_scalar t) d.at h

pub ruleset form_facts = (form_free, form_scalar)

both_left : (a b : Bool) → (a && b) ≡ true → a ≡ true
both_left true b h = refl
both_left false b h = absurd (cc)

module _ (is_register : Bool) (d : ADeclarator) (t : CType) (s : Scope) where
  pub automatic_free : automatic_form is_register d t s ≡ Ok tt → find s.here d.name ≡ None
  unfolding automatic_form is_taken
  automatic_free h = free_by (find s.here d.name) d.at _ h

  -- an array's type is one that a pointer points to
  pub automatic_scalar : automatic_form is_register d t s ≡ Ok tt → is_scalar t ≡ true
  unfolding automatic_form is_taken
  automatic_scalar h = both_left (is_scalar t) _
      (scalar_by (is_some (find s.here d.name)) (form_fits t (brackets_in d.length) (init_in d.init)) (is_automatic is_register (brackets_in d.length) t) d.at h)

pub ruleset automatic_facts = (automatic_free, automatic_scalar)
