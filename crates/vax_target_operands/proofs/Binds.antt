-- What is left where parts of a judgement are chained.
use Rattle.std.proofs.Common.{◌≡◌, Bool, true, false, cond, Result, Ok, Err, refl}
use Rattle.gg_base.proofs.Facts.{err_ok, ok_same}
use Rattle.vax_target_meaning.specs.vax_templates.specs.Standing.{◌>>=◌}

-- the first part gives something, and the second what is given
pub record Chained {A B E : Type 0} (r : Result A E) (f : A → Result B E) (y : B) : Type 0 where
  pub first : A
  pub is : r ≡ Ok first
  pub then_so : f first ≡ Ok y

pub chained : {A B E : Type 0} (r : Result A E) (f : A → Result B E) (y : B) → (r >>= f) ≡ Ok y → Chained r f y
chained (Ok x) f y h = record { first = x; is = refl; then_so = h }
chained (Err e) f y h = absurd (err_ok e y h)

pub cond_ok : {A E : Type 0} (b : Bool) (x y : A) (e : E) → cond b (Ok x) (Err e) ≡ Ok y → (b ≡ true) × (x ≡ y)
cond_ok true x y e h = (refl, ok_same x y h)
cond_ok false x y e h = absurd (err_ok e y h)
