-- What declaring a function and its parameters leaves as it was.
use Rattle.std.proofs.Common.{◌≡◌, ℕ, Bool, true, false, Option, Some, None, refl, if◌then◌else◌}
use Rattle.c_phrases.specs.declared.operator.Spec.{Spec}
use Rattle.c_phrases.specs.Units.{AFunction}
use Rattle.c_phrases.specs.declared.tree.Named.{Named}
use Rattle.c_types.specs.declared.types.CType.{CType}
use Rattle.c_typed_definition.specs.Headings.{Text, with_declared, with_parameter}
use Rattle.c_typed_definition.specs.Rooms.{is_parameter_addressed}
use Rattle.c_typed_definition.specs.State.{State}
use Rattle.c_typed_scope.specs.Layout.{Area}

pub declared_bodies : (earlier : Option ℕ) (spec : Spec) (f : AFunction) (t : Text) → (with_declared earlier spec f t).bodies ≡ t.bodies
declared_bodies None spec f t = refl
declared_bodies (Some n) spec f t = refl

pub declared_area : (earlier : Option ℕ) (spec : Spec) (f : AFunction) (t : Text) → (with_declared earlier spec f t).state.area ≡ t.state.area
declared_area None spec f t = refl
declared_area (Some n) spec f t = refl

area_by : (b : Bool) (x y : State) (a : Area) → x.area ≡ a → y.area ≡ a → (if b then x else y).area ≡ a
area_by true x y a first second = first
area_by false x y a first second = second

pub parameter_area : (n : Option Named) (t : CType) (k : ℕ) (s : State) → (with_parameter n t k s).area ≡ s.area
parameter_area None t k s = refl
parameter_area (Some n) t k s = area_by (is_parameter_addressed k s.room) _ _ s.area refl refl
