-- Effects of one normal form do the same, so a template that is accepted does what its rule's pattern does.
use Rattle.std.specs.Prelude.{◌≡◌, ◌↔◌, ℕ, List, [], ◌∷◌, Bool, true}
use Rattle.sel_terms.specs.term_core.specs.declared.facts.Fact.{Fact}
use Rattle.sel_terms.specs.term_core.specs.Facts.{same_as}
use Rattle.sel_terms.specs.term_core.specs.Shape.{Shape}
use Rattle.sel_terms.specs.term_core.specs.Normal.{AreSettled}
use Rattle.sel_terms.specs.term_core.specs.Value.{State, value, Respects}
use Rattle.term_core_accesses.specs.Accesses.{Access, divides_well, accesses, IsOneOf, Safe}
use Rattle.term_core_accesses.specs.Keeping.{IsNarrow}
use Rattle.sel_terms.specs.md_reader.specs.declared.types.Class.{Class}
use Rattle.sel_terms.specs.md_reader.specs.declared.types.Rule.{Rule}
use Rattle.sel_terms.specs.Effects.{ActShape, EffectShape, Value, Number, Address, PlaceHome, PlaceAt, StoreHome}
use Rattle.sel_terms.specs.Effects.{StoreAt, Branch, Push, Call, Save, Return, Jump, norm_effect}
use Rattle.sel_terms.specs.Reading.{effect_read}
use Rattle.sel_terms_meaning.specs.Meaning.{effect_meaning, divides_by_zero, terms_of_act}

-- ---- constants are longwords

abbrev pub AllNarrow : List Shape → Type 0
AllNarrow [] = Unit {0}
AllNarrow (t ∷ ts) = IsNarrow t × AllNarrow ts

abbrev pub IsNarrowAct : ActShape → Type 0
IsNarrowAct (Value t) = IsNarrow t
IsNarrowAct (Number t) = IsNarrow t
IsNarrowAct (Address t) = IsNarrow t
IsNarrowAct (PlaceHome z i) = Unit {0}
IsNarrowAct (PlaceAt z a) = IsNarrow a
IsNarrowAct (StoreHome z i t) = IsNarrow t
IsNarrowAct (StoreAt z a t) = IsNarrow a × IsNarrow t
IsNarrowAct (Branch i a b) = IsNarrow a × IsNarrow b
IsNarrowAct (Push t) = IsNarrow t
IsNarrowAct Call = Unit {0}
IsNarrowAct (Save i) = Unit {0}
IsNarrowAct (Return t) = IsNarrow t
IsNarrowAct Jump = Unit {0}

abbrev pub IsNarrowEffect : EffectShape → Type 0
IsNarrowEffect e = IsNarrowAct e.act × AllNarrow e.divisors

-- those of a pattern's effect are
abbrev pub WantedIsNarrow : Type 0
WantedIsNarrow = (classes : List Class) (r : Rule) → IsNarrowEffect (effect_read classes r)

-- ---- effects that do the same, term by term

module _ (facts : List Fact) (known : ℕ → Bool) (area : List ℕ) (m : State) where
  -- one value, and the same accesses
  pub record TermsAlike (s t : Shape) : Type 0 where
    pub worth : value m s ≡ value m t
    pub divides : divides_well m s ≡ divides_well m t
    pub reads : (every : Bool) (x : Access) → IsOneOf x (accesses every m s) ↔ IsOneOf x (accesses every m t)
    pub safe : (every : Bool) → Safe every (λ i. known i ≡ true) area m s ↔ Safe every (λ i. known i ≡ true) area m t

  abbrev pub AllAlike : List Shape → List Shape → Type 0
  AllAlike [] [] = Unit {0}
  AllAlike [] (t ∷ ts) = ⊥
  AllAlike (s ∷ ss) [] = ⊥
  AllAlike (s ∷ ss) (t ∷ ts) = TermsAlike s t × AllAlike ss ts

  -- places of symbols that are spelled alike
  abbrev pub ActsAlike : ActShape → ActShape → Type 0
  ActsAlike (Value s) (Value t) = TermsAlike s t
  ActsAlike (Number s) (Number t) = TermsAlike s t
  ActsAlike (Address s) (Address t) = TermsAlike s t
  ActsAlike (PlaceHome z i) (PlaceHome y j) = (z ≡ y) × (same_as facts i ≡ same_as facts j)
  ActsAlike (PlaceAt z a) (PlaceAt y b) = (z ≡ y) × TermsAlike a b
  ActsAlike (StoreHome z i s) (StoreHome y j t) = (z ≡ y) × (same_as facts i ≡ same_as facts j) × TermsAlike s t
  ActsAlike (StoreAt z a s) (StoreAt y b t) = (z ≡ y) × TermsAlike a b × TermsAlike s t
  ActsAlike (Branch i a s) (Branch j b t) = (i ≡ j) × TermsAlike a b × TermsAlike s t
  ActsAlike (Push s) (Push t) = TermsAlike s t
  ActsAlike Call Call = Unit {0}
  ActsAlike (Save i) (Save j) = i ≡ j
  ActsAlike (Return s) (Return t) = TermsAlike s t
  ActsAlike Jump Jump = Unit {0}
  ActsAlike a b = ⊥

  pub record EffectsAlike (e f : EffectShape) : Type 0 where
    pub act : ActsAlike e.act f.act
    pub divisors : AllAlike e.divisors f.divisors
    pub divides : divides_by_zero m e.divisors ≡ divides_by_zero m f.divisors
    pub means : effect_meaning facts m e ≡ effect_meaning facts m f

-- two effects of one normal form, where symbols that are spelled alike have numbers alike
abbrev pub ShownIsAlike : Type 0
ShownIsAlike =
    (facts : List Fact) (known : ℕ → Bool) (area : List ℕ) (m : State) (e f : EffectShape)
    → Respects facts m → ((i : ℕ) → known (same_as facts i) ≡ known i) → IsNarrowEffect e → IsNarrowEffect f
    → norm_effect facts e ≡ norm_effect facts f → EffectsAlike facts known area m e f

-- ---- an effect and its normal form

-- the same accesses, term by term
abbrev pub SameReads : Bool → State → List Shape → List Shape → Type 0
SameReads every m [] [] = Unit {0}
SameReads every m [] (t ∷ ts) = ⊥
SameReads every m (s ∷ ss) [] = ⊥
SameReads every m (s ∷ ss) (t ∷ ts) = ((x : Access) → IsOneOf x (accesses every m s) ↔ IsOneOf x (accesses every m t))
    × SameReads every m ss ts

pub record KeepsEffect (facts : List Fact) (m : State) (e : EffectShape) : Type 0 where
  pub means : effect_meaning facts m (norm_effect facts e) ≡ effect_meaning facts m e
  pub act : (every : Bool) → SameReads every m (terms_of_act (norm_effect facts e).act) (terms_of_act e.act)
  pub divisors : (every : Bool) → SameReads every m (norm_effect facts e).divisors e.divisors

-- norming under a rule's facts keeps what an effect does, where the symbols are as the facts say
abbrev pub NormKeepsEffects : Type 0
NormKeepsEffects = (facts : List Fact) (m : State) (e : EffectShape) → AreSettled facts → Respects facts m → IsNarrowEffect e
    → KeepsEffect facts m e
