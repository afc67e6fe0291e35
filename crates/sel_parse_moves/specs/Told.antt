-- What the restrictions of a rule tell of its symbols, where they hold of the attributes.
use Rattle.std.specs.Prelude.{◌≡◌, ℕ, ◌<◌, ◌^◌, List, Some, true}
use Rattle.gg_base.specs.declared.size.Size.TheVariants.{Byte, Word}
use Rattle.md_reader.specs.declared.types.Class.{Class}
use Rattle.md_reader.specs.declared.types.Rule.{Rule}
use Rattle.term_core.specs.Facts.{same_as}
use Rattle.term_core.specs.Value.{State, Respects}
use Rattle.sel_terms_trees.specs.sel_terms.specs.RuleFacts.{size_at, facts_of}
use Rattle.lr_check_parse.specs.Attributes.{Selecting, attribute_at, all_hold}

module _ {X A : Type 0} (of : Selecting X A) where
  -- a function of the symbols' numbers is the same for symbols whose attributes are spelled alike
  abbrev pub SameForAlike : {Y : Type 0} → List A → (ℕ → Y) → Type 0
  SameForAlike hs f =
      (i j : ℕ) (a b : A) → attribute_at hs i ≡ Some a → attribute_at hs j ≡ Some b → of.alike a b ≡ true → f i ≡ f j

  -- so it is the same for symbols that the rule's facts call the same
  abbrev pub FactsJoin : Type 0 → Type 0
  FactsJoin Y =
      (classes : List Class) (r : Rule) (hs : List A) (f : ℕ → Y) → all_hold of hs r.restrictions ≡ true → SameForAlike hs f
      → (i : ℕ) → f (same_as (facts_of classes r) i) ≡ f i

  -- The numbers of symbols that are spelled alike are the same, a constant is its number, and a byte or a word has zeros above.
  pub record Tells (classes : List Class) (r : Rule) (hs : List A) (m : State) : Type 0 where
    pub alike : SameForAlike hs m.symbol
    pub constants : (i n : ℕ) (a : A) → attribute_at hs i ≡ Some a → of.constant a ≡ Some n → m.symbol i ≡ n
    pub bytes : (i : ℕ) → size_at classes r.right i ≡ Byte → m.symbol i < 2 ^ 8
    pub words : (i : ℕ) → size_at classes r.right i ≡ Word → m.symbol i < 2 ^ 16

  -- then the numbers are as the rule's facts say, so a term and its normal form have one value
  abbrev pub RestrictionsTell : Type 0
  RestrictionsTell =
      (classes : List Class) (r : Rule) (hs : List A) (m : State)
      → all_hold of hs r.restrictions ≡ true → Tells classes r hs m → Respects (facts_of classes r) m
