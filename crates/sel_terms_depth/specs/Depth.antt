-- How deep terms nest: what a walk over a term by recursion takes of the stack.
use Rattle.std.specs.Prelude.{ℕ, ◌+◌, ◌≤◌, max, List, [], ◌∷◌}
use Rattle.term_core.specs.Shape.{Shape, Constant, Symbol, LastResult, Memory, Unary, Binary}
use Rattle.sel_terms.specs.Effects.{ActShape, EffectShape, Value, Number, Address, PlaceHome, PlaceAt, StoreHome}
use Rattle.sel_terms.specs.Effects.{StoreAt, Branch, Push, Call, Save, Return, Jump}

abbrev pub depth : Shape → ℕ
depth (Constant n) = 1
depth (Symbol i) = 1
depth LastResult = 1
depth (Memory size a) = 1 + depth a
depth (Unary op t) = 1 + depth t
depth (Binary op a b) = 1 + max (depth a) (depth b)

-- the deepest term of an act
abbrev pub act_depth : ActShape → ℕ
act_depth (Value t) = depth t
act_depth (Number t) = depth t
act_depth (Address t) = depth t
act_depth (PlaceHome size i) = 0
act_depth (PlaceAt size a) = depth a
act_depth (StoreHome size i t) = depth t
act_depth (StoreAt size a t) = max (depth a) (depth t)
act_depth (Branch i a b) = max (depth a) (depth b)
act_depth (Push t) = depth t
act_depth Call = 0
act_depth (Save i) = 0
act_depth (Return t) = depth t
act_depth Jump = 0

abbrev pub AreWithin : ℕ → List Shape → Type 0
AreWithin n [] = Unit {0}
AreWithin n (t ∷ ts) = (depth t ≤ n) × AreWithin n ts

-- no term of the effect nests deeper than n
pub record IsWithin (n : ℕ) (e : EffectShape) : Type 0 where
  pub act : act_depth e.act ≤ n
  pub divisors : AreWithin n e.divisors
