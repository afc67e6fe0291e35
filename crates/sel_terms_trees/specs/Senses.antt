-- What the symbols of a stack stand for.
use Rattle.std.specs.Prelude.{◌≡◌, ℕ, zero, suc, ◌%◌, ◌^◌, List, [], ◌∷◌, ◌++◌, Option, Some, None, true, slice_index_or}
use Rattle.gg_base.specs.declared.size.Size.{Size}
use Rattle.gg_base.specs.declared.size.Size.TheVariants.{Long}
use Rattle.tree_core.specs.declared.token.Sort.{Sort}
use Rattle.tree_core.specs.declared.tree.Att.{Att}
use Rattle.tree_core.specs.declared.tree.Att.TheVariants as att
use Rattle.tree_core.specs.declared.tree.Leaf.{Leaf}
use Rattle.tree_core.specs.declared.program.Object.{Object}
use Rattle.tree_core.specs.Attributes.{leaf_fits}
use Rattle.tree_core.specs.Trees.{Forest, none, tree}
use Rattle.tree_core.specs.Area.{fetched}
use Rattle.tree_meaning.specs.declared.value.Value.TheVariants.{Number, Wild}
use Rattle.tree_meaning.specs.declared.value.Meaning.{Meaning}
use Rattle.tree_meaning.specs.declared.value.Meaning.TheVariants.{Of, Local, Argument, Memory}
use Rattle.tree_meaning.specs.Values.{Sight, read, token_means}
use Rattle.tree_meaning_tame.specs.Tame.{tree_means}
use Rattle.sel_terms_meaning.specs.md_reader.specs.declared.types.Kind.{Kind}
use Rattle.sel_terms_meaning.specs.md_reader.specs.declared.types.Kind.TheVariants as kind
use Rattle.sel_terms_meaning.specs.md_reader.specs.declared.types.Class.{Class}
use Rattle.sel_terms_meaning.specs.md_reader.specs.declared.types.Sym.TheVariants as grammar_symbol
use Rattle.sel_terms_meaning.specs.md_reader.specs.Patterns.{kind_at, kids_of, Trees, no_tree, node, sorted_test}
use Rattle.term_core.specs.Value.{State, memory_at}

-- a token stands for its leaf, a class of places for a place, any other class for a number
pub data Sense : Type 0 where
  OfLeaf : (l : Leaf) → Sense
  OfNumber : (n : ℕ) → Sense
  OfPlace : (g : Meaning) → Sense

-- a place of the size
abbrev pub IsPlace : Size → Meaning → Type 0
IsPlace z (Of v) = ⊥
IsPlace z (Local k) = z ≡ Long
IsPlace z (Argument k) = z ≡ Long
IsPlace z (Memory y a) = z ≡ y

-- behind a list nothing is known
abbrev pub unknown : Sense
unknown = OfPlace (Of Wild)

-- what the symbol with a number stands for; numbers count from 1
abbrev pub sense_at : List Sense → ℕ → Sense
sense_at all zero = unknown
sense_at all (suc i) = slice_index_or all i unknown

-- one after another on top of a stack
abbrev pub piled : {Y : Type 0} → List Y → List Y → List Y
piled [] below = below
piled (y ∷ ys) below = piled ys (y ∷ below)

abbrev pub att_of : Sense → Att
att_of (OfLeaf l) = l.att
att_of (OfNumber n) = att.Nothing
att_of (OfPlace g) = att.Nothing

module _ (objects : List Object) (s : Sight) where
  abbrev pub means : Sense → Meaning
  means (OfLeaf l) = token_means objects s l.tok l.att Wild Wild
  means (OfNumber n) = Of (Number n)
  means (OfPlace g) = g

  abbrev pub means_at : List Sense → ℕ → Meaning
  means_at all i = means (sense_at all i)

  -- a symbol of a class of this kind stands so for a tree that means g
  pub record IsNumber (g : Meaning) (v : Sense) : Type 0 where
    pub number : ℕ
    pub is : v ≡ OfNumber number
    pub reads : read s g ≡ Number number

  abbrev pub IsSense : Option Kind → Meaning → Sense → Type 0
  IsSense None g v = ⊥
  IsSense (Some kind.Nothing) g v = ⊥
  IsSense (Some (kind.Place z)) g v = (v ≡ OfPlace g) × IsPlace z g
  IsSense (Some k) g v = IsNumber g v

  -- the symbols of patterns stand so for the trees
  pub data Sensed (classes : List Class) : (xs : List Sort) → Trees (sorted_test classes) xs → Forest → List Sense → Type 0 where
    nothing : Sensed classes [] no_tree none []
    token : {x : Sort} {xs : List Sort} {f g : Forest} {us vs : List Sense} (l : Leaf)
        (passes : sorted_test classes (grammar_symbol.Tok l.tok) x ≡ true)
        (below : Trees (sorted_test classes) (kids_of (grammar_symbol.Tok l.tok))) (beside : Trees (sorted_test classes) xs)
        → leaf_fits l ≡ true →
        Sensed classes (kids_of (grammar_symbol.Tok l.tok)) below f us → Sensed classes xs beside g vs →
        Sensed classes (x ∷ xs) (node (grammar_symbol.Tok l.tok) passes below beside) (tree l f g) (OfLeaf l ∷ (us ++ vs))
    class : {x : Sort} {xs : List Sort} {f g : Forest} {vs : List Sense} {l : Leaf} (c : ℕ) (v : Sense)
        (passes : sorted_test classes (grammar_symbol.Class c) x ≡ true)
        (below : Trees (sorted_test classes) []) (beside : Trees (sorted_test classes) xs) →
        IsSense (kind_at classes c) (tree_means objects s l f) v → Sensed classes xs beside g vs →
        Sensed classes (x ∷ xs) (node (grammar_symbol.Class c) passes below beside) (tree l f g) (v ∷ vs)

  -- A state of terms that stands for the tree state and the symbols: a symbol has its number, memory in the data area its content. What a
  -- symbol has that stands for no number isn't said, nor what stands outside the area.
  pub record StandsFor (all : List Sense) (m : State) : Type 0 where
    pub symbols : (i n : ℕ) → read s (means_at all i) ≡ Number n → m.symbol i % 2 ^ 32 ≡ n
    pub memory : (size : Size) (a n : ℕ) → fetched size s.area a ≡ Some n → memory_at m size a ≡ n
