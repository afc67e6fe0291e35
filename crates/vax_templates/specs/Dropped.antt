-- Whether a term stands in an effect, and the first line whose reading of memory stands in none.
-- This is how the code computes it; that instructions do so is the law vax_is_lawful of vax_target_laws.
use Rattle.std.specs.Prelude.{ℕ, Bool, false, ◌||◌, List, [], ◌∷◌, Option, Some, None, Result, Ok, Err, if◌then◌else◌}
use Rattle.std.specs.List.{list_any, list_all}
use Rattle.sel_target.specs.term_core.specs.Shape.{Shape, Constant, Symbol, LastResult, Memory, Unary, Binary}
use Rattle.sel_target.specs.term_core.specs.Order.{same_term}
use Rattle.sel_target.specs.sel_terms.specs.Effects.{ActShape, EffectShape, Value, Number, Address, PlaceHome, PlaceAt, StoreHome}
use Rattle.sel_target.specs.sel_terms.specs.Effects.{StoreAt, Branch, Push, Call, Save, Return, Jump}
use Rattle.sel_target.specs.declared.fault.TemplateKind.TheVariants.{NotInstr}
use Rattle.sel_target.specs.Meaning.{Fault}

-- a term stands in another
abbrev pub contains : Shape → Shape → Bool
contains part (Constant n) = same_term part (Constant n)
contains part (Symbol i) = same_term part (Symbol i)
contains part LastResult = same_term part LastResult
contains part (Memory z a) = same_term part (Memory z a) || contains part a
contains part (Unary op t) = same_term part (Unary op t) || contains part t
contains part (Binary op a b) = same_term part (Binary op a b) || (contains part a || contains part b)

-- a term stands in a part of another
abbrev pub parts_contain : Shape → Shape → Bool
parts_contain part (Constant n) = false
parts_contain part (Symbol i) = false
parts_contain part LastResult = false
parts_contain part (Memory z a) = contains part a
parts_contain part (Unary op t) = contains part t
parts_contain part (Binary op a b) = contains part a || contains part b

abbrev pub act_contains : ActShape → Shape → Bool
act_contains (Value t) part = contains part t
act_contains (Number t) part = contains part t
act_contains (Address t) part = contains part t
act_contains (PlaceHome z i) part = false
act_contains (PlaceAt z a) part = contains part a
act_contains (StoreHome z i t) part = contains part t
act_contains (StoreAt z a t) part = contains part a || contains part t
act_contains (Branch i a b) part = contains part a || contains part b
act_contains (Push t) part = contains part t
act_contains Call part = false
act_contains (Save i) part = false
act_contains (Return t) part = contains part t
act_contains Jump part = false

abbrev pub effect_contains : EffectShape → Shape → Bool
effect_contains e part = act_contains e.act part || list_any (contains part) e.divisors

-- the first line that reads memory, or the value of a place, and drops it
abbrev pub first_dropped : EffectShape → List (ℕ × List Shape) → Option ℕ
first_dropped e [] = None
first_dropped e (r ∷ rs) = if list_all (effect_contains e) r.1 then first_dropped e rs else Some r.0

abbrev pub none_dropped : EffectShape → Option ℕ → Result EffectShape Fault
none_dropped e None = Ok e
none_dropped e (Some line) = Err (record { line = line; kind = NotInstr })
