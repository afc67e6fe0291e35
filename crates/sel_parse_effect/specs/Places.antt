-- A law of targets that stands beside the others.
use Rattle.std.specs.Prelude.{◌≡◌, ℕ, List, Some, Ok}
use Rattle.gg_base.specs.declared.size.Size.{Size}
use Rattle.md_reader.specs.declared.types.Class.{Class}
use Rattle.md_reader.specs.declared.types.Rule.{Rule}
use Rattle.term_core.specs.Shape.{Shape}
use Rattle.sel_target.specs.sel_terms.specs.Effects.{EffectShape, StoreHome}
use Rattle.sel_target.specs.declared.attr.Attr.{Attr}
use Rattle.sel_target.specs.Meaning.{Meaning}
use Rattle.sel_target.specs.Values.{own_operand}
use Rattle.sel_target.specs.Instances.{Fit, hole}

-- A template stores to no symbol that is only a value: the symbol at whose home it stores is a place.
abbrev pub StoresToPlaces : {O I S F : Type 0} → Meaning O I S F → Type 0
StoresToPlaces {O = O} of =
    (classes : List Class) (rule : Rule) (e : EffectShape) (size : Size) (i : ℕ) (t : Shape) (hs : List (Attr O)) (h : Attr O)
    → of.effect classes rule ≡ Ok e → e.act ≡ StoreHome size i t → Fit of classes rule.right hs → hole hs i ≡ Some h
    → (o : O) × (own_operand of h ≡ Some o)
