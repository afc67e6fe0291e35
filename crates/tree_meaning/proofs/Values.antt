-- What the value of a number that may be missing tells.
use Rattle.std.proofs.Common.{◌≡◌, ℕ, Option, Some, None, ap}
use Rattle.tree_meaning.specs.declared.value.Value.TheVariants.{Number, ZeroDivisor}
use Rattle.tree_meaning.specs.Values.{there}

pub there_is : (o : Option ℕ) (n : ℕ) → there o ≡ Number n → o ≡ Some n
there_is None n e = cc
there_is (Some k) n e = (let f : k ≡ n = cc in ap (λ (i : ℕ). Some i) f)

pub there_pure : (o : Option ℕ) → there o ≡ ZeroDivisor → ⊥
there_pure None e = cc
there_pure (Some v) e = cc
