-- What is left where parts of a judgement or of a reading are chained.
use Rattle.std.proofs.Common.{◌≡◌, Bool, true, false, cond, Option, Some, None, Result, Ok, Err, refl, option_map}
use Rattle.std.specs.Option.{option_and_then}
use Rattle.std.proofs.lemmas.Option.{none-some, same_Some}
use Rattle.vax_templates.specs.gg_base.proofs.Facts.{err_ok, ok_same}
use Rattle.vax_templates.specs.Standing.{◌>>=◌}

-- the first part gives something, and the second what is given
pub record Chained {A B E : Type 0} (r : Result A E) (f : A → Result B E) (y : B) : Type 0 where
  pub first : A
  pub is : r ≡ Ok first
  pub then_so : f first ≡ Ok y

pub chained : {A B E : Type 0} (r : Result A E) (f : A → Result B E) (y : B) → (r >>= f) ≡ Ok y → Chained r f y
chained (Ok x) f y h = record { first = x; is = refl; then_so = h }
chained (Err e) f y h = absurd (err_ok e y h)

pub cond_ok : {A E : Type 0} (b : Bool) (x y : A) (e : E) → cond b (Ok x) (Err e) ≡ Ok y → (b ≡ true) × (x ≡ y)
cond_ok true x y e h = (refl, ok_same x y h)
cond_ok false x y e h = absurd (err_ok e y h)

pub mapped : {X Y : Type 0} (f : X → Y) (o : Option X) (y : Y) → option_map f o ≡ Some y → (x : X) × (o ≡ Some x) × (f x ≡ y)
mapped f None y e = absurd (none-some y e)
mapped f (Some x) y e = (x, refl, same_Some (f x) y e)

pub then_some : {X Y : Type 0} (f : X → Option Y) (o : Option X) (y : Y) → option_and_then f o ≡ Some y → (x : X) × (o ≡ Some x) × (f x ≡ Some y)
then_some f None y e = absurd (none-some y e)
then_some f (Some x) y e = (x, refl, e)
