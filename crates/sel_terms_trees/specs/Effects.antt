-- What the wanted effect of a rule makes of the symbols.
use Rattle.std.specs.Prelude.{◌≡◌, ℕ, List, true, false}
use Rattle.tree_core.specs.declared.tree.Att.TheVariants as att
use Rattle.tree_core.specs.declared.program.Object.{Object}
use Rattle.tree_meaning.specs.declared.value.Meaning.TheVariants.{Memory}
use Rattle.tree_meaning.specs.declared.value.Value.TheVariants as values
use Rattle.tree_meaning.specs.Values.{Sight, read}
use Rattle.term_core.specs.Value.{State, value}
use Rattle.sel_terms_meaning.specs.sel_terms.specs.Effects.{ActShape, EffectShape, Value, Number, Address, PlaceHome, PlaceAt, StoreHome, StoreAt, Branch, Push}
use Rattle.sel_terms_meaning.specs.sel_terms.specs.Effects.{Call, Save, Return, Jump}
use Rattle.tree_meaning.specs.Deeds.{Deed, Puts, Branches, Pushes, Returns, Calls, Saves, Jumps}
use Rattle.sel_terms_meaning.specs.Meaning.{AllSafe, SafeAct, divides_by_zero}
use Rattle.sel_terms_trees.specs.Senses.{Sense, OfNumber, OfPlace, IsPlace, sense_at, att_of, means_at}

module _ (objects : List Object) (s : Sight) where
  -- a symbol stands for a number, or for a place that has one
  abbrev pub IsKnown : List Sense → ℕ → Type 0
  IsKnown all i = (n : ℕ) × (read s (means_at objects s all i) ≡ values.Number n)

  -- what an act gives
  abbrev pub Gives : State → List Sense → ActShape → Sense → Type 0
  Gives m all (Value t) (OfNumber n) = value m t ≡ n
  Gives m all (Number t) (OfNumber n) = value m t ≡ n
  Gives m all (Address t) (OfNumber n) = value m t ≡ n
  Gives m all (PlaceHome z i) (OfPlace g) = (means_at objects s all i ≡ g) × IsPlace z g
  Gives m all (PlaceAt z a) (OfPlace g) = g ≡ Memory z (value m a)
  Gives m all a v = ⊥

  -- what an act does
  abbrev pub Does : State → List Sense → ActShape → Deed → Type 0
  Does m all (StoreHome z i t) (Puts g n) = (means_at objects s all i ≡ g) × IsPlace z g × (value m t ≡ n)
  Does m all (StoreAt z a t) (Puts g n) = (g ≡ Memory z (value m a)) × (value m t ≡ n)
  Does m all (Branch i a b) (Branches rel label x y) =
      (att_of (sense_at all i) ≡ att.Branch rel label) × (value m a ≡ x) × (value m b ≡ y)
  Does m all (Push t) (Pushes n) = value m t ≡ n
  Does m all Call (Calls function count) = att_of (sense_at all 1) ≡ att.Callee function count
  Does m all (Save i) (Saves k) = att_of (sense_at all i) ≡ att.Slot k
  Does m all (Return t) (Returns n) = value m t ≡ n
  Does m all Jump (Jumps label) = att_of (sense_at all 1) ≡ att.Label label
  Does m all a d = ⊥

  -- the effect gives this: no divisor is zero, and no access leaves the area
  pub record GivesBy (all : List Sense) (e : EffectShape) (v : Sense) (m : State) : Type 0 where
    pub divides : divides_by_zero m e.divisors ≡ false
    pub gives : Gives m all e.act v
    pub safe : SafeAct true (IsKnown all) s.area m e.act
    pub divisors : AllSafe true (IsKnown all) s.area m e.divisors

  -- the effect does this
  pub record DoesBy (all : List Sense) (e : EffectShape) (d : Deed) (m : State) : Type 0 where
    pub divides : divides_by_zero m e.divisors ≡ false
    pub does : Does m all e.act d
    pub safe : SafeAct true (IsKnown all) s.area m e.act
    pub divisors : AllSafe true (IsKnown all) s.area m e.divisors

  -- a divisor of the effect is zero, and no access leaves the area but those whose address divides by zero
  pub record TrapsBy (all : List Sense) (e : EffectShape) (m : State) : Type 0 where
    pub divides : divides_by_zero m e.divisors ≡ true
    pub safe : SafeAct false (IsKnown all) s.area m e.act
    pub divisors : AllSafe false (IsKnown all) s.area m e.divisors
