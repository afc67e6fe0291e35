-- What an accepted name of a function or a parameter says: it is new in its scope, and a parameter is an integer or a pointer.
use Rattle.std.proofs.Common.{◌≡◌, ℕ, Bool, true, false, length, Option, Some, None, Ok, refl, if◌then◌else◌}
use Rattle.std.specs.Prelude.{is_some}
use Rattle.c_typed_objects.proofs.Forms.{free_by}
use Rattle.c_phrases.specs.declared.tree.Named.{Named}
use Rattle.c_phrases.specs.Units.{AParam}
use Rattle.c_typed_scope.specs.declared.entry.Entry.{Entry}
use Rattle.c_typed_scope.specs.declared.entry.Entry.TheVariants as entries
use Rattle.c_typed_scope.specs.Scopes.{Scope, find, is_taken}
use Rattle.c_types.specs.declared.types.Integer.{Integer}
use Rattle.c_types.specs.declared.fault.TypeKind.TheVariants.{Twice, BadType}
use Rattle.c_types.specs.Answers.{bad}
use Rattle.c_types.specs.Types.{is_scalar}
use Rattle.c_typed_expressions.specs.Phrases.{brackets_in}
use Rattle.c_typed_expressions.specs.Expressions.{integer_of, under_stars, written}
use Rattle.c_typed_definition.specs.Signatures.{array_parameter, parameter_type}
use Rattle.c_typed_definition.specs.Headings.{earlier_by, parameter_form}

pub earlier_none : (o : Option Entry) (at : ℕ) → earlier_by o at ≡ Ok None → o ≡ None
earlier_none None at h = refl
earlier_none (Some (entries.Function n)) at h = absurd (cc)
earlier_none (Some (entries.Variable t v)) at h = absurd (cc)
earlier_none (Some (entries.Array t v n)) at h = absurd (cc)

pub parameter_free : (o : Option Named) (n : Named) (defines : Bool) (at : ℕ) (p : AParam) (s : Scope) → o ≡ Some n → parameter_form o defines at p s ≡ Ok tt → find s.here n.name ≡ None
unfolding is_taken
parameter_free None n defines at p s is h = absurd (cc)
parameter_free (Some m) n defines at p s is h =
    let same : m ≡ n = cc in
    rw (← same) (free_by (find s.here m.name) m.at _ h)

scalar_by : (o : Option Integer) (n m : ℕ) (is_array : Bool) → is_scalar (under_stars o n) ≡ true → is_scalar (if is_array then array_parameter o m else under_stars o n) ≡ true
unfolding is_scalar
scalar_by None n m is_array h = absurd (cc)
scalar_by (Some b) n m true h = refl
scalar_by (Some b) n m false h = h

tested_scalar : (taken scalar : Bool) (at : ℕ) → (if taken then bad at Twice else if scalar then Ok (tt {0}) else bad at BadType) ≡ Ok (tt {0}) → scalar ≡ true
tested_scalar true scalar at h = absurd (cc)
tested_scalar false true at h = refl
tested_scalar false false at h = absurd (cc)

pub parameter_scalar : (o : Option Named) (n : Named) (defines : Bool) (at : ℕ) (p : AParam) (s : Scope) → o ≡ Some n → parameter_form o defines at p s ≡ Ok tt
    → is_scalar (parameter_type p) ≡ true
unfolding written
parameter_scalar None n defines at p s is h = absurd (cc)
parameter_scalar (Some m) n defines at p s is h =
    scalar_by (integer_of p.spec) (length p.stars) (length p.stars) (is_some (brackets_in p.length)) (tested_scalar (is_taken s m.name) (is_scalar (written p.spec p.stars)) m.at h)
