-- When two effects are the same.
use Rattle.std.specs.Prelude.{◌==◌, ◌&&◌, Bool, true, false, List, [], ◌∷◌}
use Rattle.gg_base.specs.Sizes.{bytes_of}
use Rattle.gg_base.specs.declared.size.Size.{Size}
use Rattle.term_core.specs.Shape.{Shape}
use Rattle.term_core.specs.Order.{same_term}
use Rattle.sel_terms.specs.Effects.{ActShape, EffectShape, Value, Number, Address, PlaceHome, PlaceAt, StoreHome}
use Rattle.sel_terms.specs.Effects.{StoreAt, Branch, Push, Call, Save, Return, Jump}

abbrev pub same_size : Size → Size → Bool
same_size z y = bytes_of z == bytes_of y

abbrev pub same_act : ActShape → ActShape → Bool
same_act (Value s) (Value t) = same_term s t
same_act (Number s) (Number t) = same_term s t
same_act (Address s) (Address t) = same_term s t
same_act (PlaceHome z i) (PlaceHome y j) = same_size z y && (i == j)
same_act (PlaceAt z a) (PlaceAt y b) = same_size z y && same_term a b
same_act (StoreHome z i s) (StoreHome y j t) = same_size z y && (i == j) && same_term s t
same_act (StoreAt z a s) (StoreAt y b t) = same_size z y && same_term a b && same_term s t
same_act (Branch i a s) (Branch j b t) = (i == j) && same_term a b && same_term s t
same_act (Push s) (Push t) = same_term s t
same_act Call Call = true
same_act (Save i) (Save j) = i == j
same_act (Return s) (Return t) = same_term s t
same_act Jump Jump = true
same_act a b = false

abbrev pub same_terms : List Shape → List Shape → Bool
same_terms [] [] = true
same_terms (s ∷ ss) (t ∷ ts) = same_term s t && same_terms ss ts
same_terms ss ts = false

abbrev pub same_effect : EffectShape → EffectShape → Bool
same_effect e f = same_act e.act f.act && same_terms e.divisors f.divisors
