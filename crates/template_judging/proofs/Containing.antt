-- A term stands in another where it is the same, or stands in a part.
use Rattle.std.proofs.Common.{◌≡◌, ◌||◌, Bool, true, false, refl}
use Rattle.term_core.specs.Shape.{Shape, Constant, Symbol, LastResult, Memory, Unary, Binary}
use Rattle.term_core.specs.Order.{same_term}
use Rattle.vax_templates.specs.Dropped.{contains, parts_contain}

or_false : (b : Bool) → b ≡ (b || false)
or_false true = refl
or_false false = refl

pub contains_is : (part s : Shape) → contains part s ≡ (same_term part s || parts_contain part s)
contains_is part (Constant n) = or_false (same_term part (Constant n))
contains_is part (Symbol i) = or_false (same_term part (Symbol i))
contains_is part LastResult = or_false (same_term part LastResult)
contains_is part (Memory z a) = refl
contains_is part (Unary op t) = refl
contains_is part (Binary op a b) = refl
