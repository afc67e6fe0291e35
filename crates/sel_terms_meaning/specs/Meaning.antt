-- What an effect makes of a state: its act over numbers, and the numbers that it divides by.
use Rattle.std.specs.Prelude.{ℕ, ◌==◌, List, [], ◌∷◌, map, Bool}
use Rattle.std.specs.List.{list_any}
use Rattle.sel_terms.specs.gg_base.specs.declared.size.Size.{Size}
use Rattle.sel_terms.specs.term_core.specs.declared.facts.Fact.{Fact}
use Rattle.sel_terms.specs.term_core.specs.Facts.{same_as}
use Rattle.sel_terms.specs.term_core.specs.Shape.{Shape}
use Rattle.sel_terms.specs.term_core.specs.Value.{State, value}
use Rattle.term_core_accesses.specs.Accesses.{Safe}
use Rattle.sel_terms.specs.Effects as effects
use Rattle.sel_terms.specs.Effects.{ActShape, EffectShape}

-- an act over numbers; places at home are those of symbols
pub data ActMeaning : Type 0 where
  Value : (n : ℕ) → ActMeaning
  Number : (n : ℕ) → ActMeaning
  Address : (n : ℕ) → ActMeaning
  PlaceHome : (size : Size) (i : ℕ) → ActMeaning
  PlaceAt : (size : Size) (address : ℕ) → ActMeaning
  StoreHome : (size : Size) (i : ℕ) (n : ℕ) → ActMeaning
  StoreAt : (size : Size) (address n : ℕ) → ActMeaning
  Branch : (i : ℕ) (x y : ℕ) → ActMeaning
  Push : (n : ℕ) → ActMeaning
  Call : ActMeaning
  Save : (i : ℕ) → ActMeaning
  Return : (n : ℕ) → ActMeaning
  Jump : ActMeaning

-- what an act is in a state; a home is that of the least symbol that is spelled alike
abbrev pub act_meaning : List Fact → State → ActShape → ActMeaning
act_meaning facts m (effects.Value t) = Value (value m t)
act_meaning facts m (effects.Number t) = Number (value m t)
act_meaning facts m (effects.Address t) = Address (value m t)
act_meaning facts m (effects.PlaceHome size i) = PlaceHome size (same_as facts i)
act_meaning facts m (effects.PlaceAt size a) = PlaceAt size (value m a)
act_meaning facts m (effects.StoreHome size i t) = StoreHome size (same_as facts i) (value m t)
act_meaning facts m (effects.StoreAt size a t) = StoreAt size (value m a) (value m t)
act_meaning facts m (effects.Branch i a b) = Branch i (value m a) (value m b)
act_meaning facts m (effects.Push t) = Push (value m t)
act_meaning facts m effects.Call = Call
act_meaning facts m (effects.Save i) = Save i
act_meaning facts m (effects.Return t) = Return (value m t)
act_meaning facts m effects.Jump = Jump

pub record EffectMeaning : Type 0 where
  pub act : ActMeaning
  pub divisors : List ℕ

abbrev pub effect_meaning : List Fact → State → EffectShape → EffectMeaning
effect_meaning facts m e = record { act = act_meaning facts m e.act; divisors = map (value m) e.divisors }

-- some divisor is zero
abbrev pub divides_by_zero : State → List Shape → Bool
divides_by_zero m ds = list_any (λ d. value m d == 0) ds

-- ---- the accesses of an effect are those of its terms

-- the terms that an act reads, from left to right
abbrev pub terms_of_act : ActShape → List Shape
terms_of_act (effects.Value t) = t ∷ []
terms_of_act (effects.Number t) = t ∷ []
terms_of_act (effects.Address t) = t ∷ []
terms_of_act (effects.PlaceHome size i) = []
terms_of_act (effects.PlaceAt size a) = a ∷ []
terms_of_act (effects.StoreHome size i t) = t ∷ []
terms_of_act (effects.StoreAt size a t) = a ∷ t ∷ []
terms_of_act (effects.Branch i a b) = a ∷ b ∷ []
terms_of_act (effects.Push t) = t ∷ []
terms_of_act effects.Call = []
terms_of_act (effects.Save i) = []
terms_of_act (effects.Return t) = t ∷ []
terms_of_act effects.Jump = []

abbrev pub AllSafe : Bool → (ℕ → Type 0) → List ℕ → State → List Shape → Type 0
AllSafe every known area m [] = Unit {0}
AllSafe every known area m (t ∷ ts) = Safe every known area m t × AllSafe every known area m ts

abbrev pub SafeAct : Bool → (ℕ → Type 0) → List ℕ → State → ActShape → Type 0
SafeAct every known area m (effects.Value t) = Safe every known area m t
SafeAct every known area m (effects.Number t) = Safe every known area m t
SafeAct every known area m (effects.Address t) = Safe every known area m t
SafeAct every known area m (effects.PlaceHome z i) = Unit {0}
SafeAct every known area m (effects.PlaceAt z a) = Safe every known area m a
SafeAct every known area m (effects.StoreHome z i t) = Safe every known area m t
SafeAct every known area m (effects.StoreAt z a t) = Safe every known area m a × Safe every known area m t
SafeAct every known area m (effects.Branch i a b) = Safe every known area m a × Safe every known area m b
SafeAct every known area m (effects.Push t) = Safe every known area m t
SafeAct every known area m effects.Call = Unit {0}
SafeAct every known area m (effects.Save i) = Unit {0}
SafeAct every known area m (effects.Return t) = Safe every known area m t
SafeAct every known area m effects.Jump = Unit {0}
