-- How effects are written.
use Rattle.std.specs.Prelude.{ℕ, List, ◌++◌, codes}
use Rattle.std.specs.List.{flat_map}
use Rattle.std.specs.Fmt.{decimal}
use Rattle.term_core.specs.Shape.{Shape}
use Rattle.term_core.specs.Text.{size_name, term_text}
use Rattle.sel_terms.specs.Effects.{ActShape, EffectShape, Value, Number, Address, PlaceHome, PlaceAt, StoreHome}
use Rattle.sel_terms.specs.Effects.{StoreAt, Branch, Push, Call, Save, Return, Jump}

abbrev pub home_text : ℕ → List ℕ
home_text i = codes " home " ++ decimal i

abbrev pub act_text : ActShape → List ℕ
act_text (Value t) = codes "value " ++ term_text t
act_text (Number t) = codes "number " ++ term_text t
act_text (Address t) = codes "address " ++ term_text t
act_text (PlaceHome size i) = codes "place " ++ size_name size ++ home_text i
act_text (PlaceAt size a) = codes "place " ++ size_name size ++ codes " at " ++ term_text a
act_text (StoreHome size i t) = codes "store " ++ size_name size ++ home_text i ++ codes " " ++ term_text t
act_text (StoreAt size a t) = codes "store " ++ size_name size ++ codes " at " ++ term_text a ++ codes " " ++ term_text t
act_text (Branch i a b) = codes "branch " ++ decimal i ++ codes " " ++ term_text a ++ codes " " ++ term_text b
act_text (Push t) = codes "push " ++ term_text t
act_text Call = codes "call"
act_text (Save i) = codes "save " ++ decimal i
act_text (Return t) = codes "return " ++ term_text t
act_text Jump = codes "jump"

abbrev pub divisor_text : Shape → List ℕ
divisor_text t = codes " div " ++ term_text t

abbrev pub effect_text : EffectShape → List ℕ
effect_text e = act_text e.act ++ flat_map divisor_text e.divisors
