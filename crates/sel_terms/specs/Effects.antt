-- Effects as plain data, and their normal form.
use Rattle.std.specs.Prelude.{ℕ, List, map}
use Rattle.gg_base.specs.declared.size.Size.{Size}
use Rattle.term_core.specs.declared.facts.Fact.{Fact}
use Rattle.term_core.specs.Facts.{same_as}
use Rattle.sel_terms.specs.declared.effect.Act.{Act}
use Rattle.sel_terms.specs.declared.effect.Act.TheVariants as act
use Rattle.sel_terms.specs.declared.effect.Effect.{Effect}
use Rattle.term_core.specs.Shape.{Shape, shape_of}
use Rattle.term_core.specs.Norm.{norm}

pub data ActShape : Type 0 where
  Value : (t : Shape) → ActShape
  Number : (t : Shape) → ActShape
  Address : (t : Shape) → ActShape
  PlaceHome : (size : Size) (i : ℕ) → ActShape
  PlaceAt : (size : Size) (a : Shape) → ActShape
  StoreHome : (size : Size) (i : ℕ) (t : Shape) → ActShape
  StoreAt : (size : Size) (a t : Shape) → ActShape
  Branch : (i : ℕ) (a b : Shape) → ActShape
  Push : (t : Shape) → ActShape
  Call : ActShape
  Save : (i : ℕ) → ActShape
  Return : (t : Shape) → ActShape
  Jump : ActShape

pub record EffectShape : Type 0 where
  pub act : ActShape
  pub divisors : List Shape

abbrev pub act_of : Act → ActShape
act_of (act.Value t) = Value (shape_of t)
act_of (act.Number t) = Number (shape_of t)
act_of (act.Address t) = Address (shape_of t)
act_of (act.PlaceHome size i) = PlaceHome size i
act_of (act.PlaceAt size a) = PlaceAt size (shape_of a)
act_of (act.StoreHome size i t) = StoreHome size i (shape_of t)
act_of (act.StoreAt size a t) = StoreAt size (shape_of a) (shape_of t)
act_of (act.Branch i a b) = Branch i (shape_of a) (shape_of b)
act_of (act.Push t) = Push (shape_of t)
act_of act.Call = Call
act_of (act.Save i) = Save i
act_of (act.Return t) = Return (shape_of t)
act_of act.Jump = Jump

abbrev pub effect_of : Effect → EffectShape
effect_of e = record { act = act_of e.act; divisors = map shape_of e.divisors.items }

-- the terms in normal form, and each home that of the least symbol that is spelled alike
abbrev pub norm_act : List Fact → ActShape → ActShape
norm_act facts (Value t) = Value (norm facts t)
norm_act facts (Number t) = Number (norm facts t)
norm_act facts (Address t) = Address (norm facts t)
norm_act facts (PlaceHome size i) = PlaceHome size (same_as facts i)
norm_act facts (PlaceAt size a) = PlaceAt size (norm facts a)
norm_act facts (StoreHome size i t) = StoreHome size (same_as facts i) (norm facts t)
norm_act facts (StoreAt size a t) = StoreAt size (norm facts a) (norm facts t)
norm_act facts (Branch i a b) = Branch i (norm facts a) (norm facts b)
norm_act facts (Push t) = Push (norm facts t)
norm_act facts Call = Call
norm_act facts (Save i) = Save i
norm_act facts (Return t) = Return (norm facts t)
norm_act facts Jump = Jump

abbrev pub norm_effect : List Fact → EffectShape → EffectShape
norm_effect facts e = record { act = norm_act facts e.act; divisors = map (norm facts) e.divisors }
