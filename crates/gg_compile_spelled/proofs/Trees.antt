-- Trees and items whose numbers are longwords, and what they are spelled as.
use Rattle.std.proofs.Common.{◌≡◌, ℕ, zero, suc, ◌<◌, ◌≤◌, ◌^◌, List, [], ◌∷◌, ◌++◌, length, Some, subst, arith}
use Rattle.std.specs.Prelude.{slice_get}
use Rattle.std.specs.List.{AllByRecursion}
use Rattle.c_types.specs.declared.types.Integer.{Integer}
use Rattle.c_types.specs.declared.types.Integer.TheVariants as ints
use Rattle.tree_core.specs.declared.tree.Leaf.{Leaf}
use Rattle.tree_core.specs.declared.program.TreeItem.{TreeItem}
use Rattle.tree_core.specs.declared.program.TreeItem.TheVariants as tree_item
use Rattle.tree_core.specs.declared.program.TreeProgram.{TreeProgram}
use Rattle.tree_core.specs.Attributes.{end_leaf}
use Rattle.c_lower_scheme.specs.Trees.{Tree, Num, Gaddr, Loc, Arg, Indir, Conv, Neg, Com, Bin, Item, Label, AssignLoc, AssignArg, AssignMem, Cbr, Jump, Push, Call, Save, Ret}
use Rattle.c_lower_scheme.specs.Spelling.{indir_onto, conv_onto, leaves_onto, assign_onto, spelled, spelled_all}
use Rattle.sel_target.specs.Spelled.{IsSpelled}
use Rattle.gg_compile_law.specs.Names.{AreSmall}

-- each number is a longword, and each object one of so many
abbrev pub IsLong : ℕ → Tree → Type 0
IsLong objects (Num n) = n < 2 ^ 32
IsLong objects (Gaddr n) = n < objects
IsLong objects (Loc n) = Unit {0}
IsLong objects (Arg n) = Unit {0}
IsLong objects (Indir i a) = IsLong objects a
IsLong objects (Conv i w) = IsLong objects w
IsLong objects (Neg w) = IsLong objects w
IsLong objects (Com w) = IsLong objects w
IsLong objects (Bin op a b) = IsLong objects a × IsLong objects b

-- and each label is below so many
abbrev pub IsLongItem : ℕ → ℕ → Item → Type 0
IsLongItem objects most (Label l) = l < most
IsLongItem objects most (AssignLoc n w) = IsLong objects w
IsLongItem objects most (AssignArg n w) = IsLong objects w
IsLongItem objects most (AssignMem i a w) = IsLong objects a × IsLong objects w
IsLongItem objects most (Cbr rel l a b) = (l < most) × IsLong objects a × IsLong objects b
IsLongItem objects most (Jump l) = l < most
IsLongItem objects most (Push w) = IsLong objects w
IsLongItem objects most (Call f count) = Unit {0}
IsLongItem objects most (Save n) = Unit {0}
IsLongItem objects most (Ret w) = IsLong objects w

pub data AreLong (objects most : ℕ) : List Item → Type 0 where
  none : AreLong objects most []
  next : {i : Item} {is : List Item} (h : IsLongItem objects most i) (rest : AreLong objects most is) → AreLong objects most (i ∷ is)

-- the same of items and those behind them
pub behind : {objects most : ℕ} {a b : List Item} → AreLong objects most a → AreLong objects most b → AreLong objects most (a ++ b)
behind none g = g
behind (next h rest) g = next h (behind rest g)

-- where labels of all trees of a program are below so many, which longwords count
module _ (q : TreeProgram) (most : ℕ) (few : most ≤ 2 ^ 32) where
  abbrev Long : Tree → Type 0
  Long w = IsLong (length q.objects) w

  abbrev Spell : List Leaf → Type 0
  Spell w = AllByRecursion (λ (l : Leaf). IsSpelled q l.att) w

  indir_spell : (i : Integer) (w : List Leaf) → Spell w → Spell (indir_onto i w)
  indir_spell ints.Char w h = (tt, (tt, h))
  indir_spell ints.UnsignedChar w h = (tt, (tt, h))
  indir_spell ints.Short w h = (tt, (tt, h))
  indir_spell ints.UnsignedShort w h = (tt, (tt, h))
  indir_spell ints.Int w h = (tt, h)

  conv_spell : (i : Integer) (w : List Leaf) → Spell w → Spell (conv_onto i w)
  conv_spell ints.Char w h = (tt, (tt, h))
  conv_spell ints.UnsignedChar w h = (tt, (tt, h))
  conv_spell ints.Short w h = (tt, (tt, h))
  conv_spell ints.UnsignedShort w h = (tt, (tt, h))
  conv_spell ints.Int w h = h

  tree_spell : (a : Tree) (w : List Leaf) → Long a → Spell w → Spell (leaves_onto a w)
  tree_spell (Num n) w h g = (h, g)
  tree_spell (Gaddr n) w h g = ((h, omega arith), g)
  tree_spell (Loc n) w h g = (tt, g)
  tree_spell (Arg n) w h g = (tt, g)
  tree_spell (Indir i a) w h g = indir_spell i (leaves_onto a w) (tree_spell a w h g)
  tree_spell (Conv i a) w h g = conv_spell i (leaves_onto a w) (tree_spell a w h g)
  tree_spell (Neg a) w h g = (tt, tree_spell a w h g)
  tree_spell (Com a) w h g = (tt, tree_spell a w h g)
  tree_spell (Bin op a b) w h g = (tt, tree_spell a (leaves_onto b w) h.0 (tree_spell b w h.1 g))

  end_spell : Spell (end_leaf ∷ [])
  end_spell = (tt, tt)

  last_spell : (w : Tree) → Long w → Spell (leaves_onto w (end_leaf ∷ []))
  last_spell w h = tree_spell w (end_leaf ∷ []) h end_spell

  assign_spell : (i : Integer) (a w : Tree) → Long a → Long w → Spell (assign_onto i a w (end_leaf ∷ []))
  assign_spell ints.Char a w h g = (tt, (tt, tree_spell a _ h (tt, last_spell w g)))
  assign_spell ints.UnsignedChar a w h g = (tt, (tt, tree_spell a _ h (tt, last_spell w g)))
  assign_spell ints.Short a w h g = (tt, (tt, tree_spell a _ h (tt, last_spell w g)))
  assign_spell ints.UnsignedShort a w h g = (tt, (tt, tree_spell a _ h (tt, last_spell w g)))
  assign_spell ints.Int a w h g = (tt, (tt, tree_spell a _ h (last_spell w g)))

  abbrev ItemSpells : TreeItem → Type 0
  ItemSpells (tree_item.Label l) = Unit {0}
  ItemSpells (tree_item.Root w) = Spell w

  item_spells : (i : Item) → IsLongItem (length q.objects) most i → ItemSpells (spelled i)
  item_spells (Label l) h = tt
  item_spells (AssignLoc n w) h = (tt, (tt, last_spell w h))
  item_spells (AssignArg n w) h = (tt, (tt, last_spell w h))
  item_spells (AssignMem i a w) h = assign_spell i a w h.0 h.1
  item_spells (Cbr rel l a b) h = let lt = h.0 in (omega arith, tree_spell a _ h.1 (last_spell b h.2))
  item_spells (Jump l) h = (omega arith, end_spell)
  item_spells (Push w) h = (tt, last_spell w h)
  item_spells (Call f count) h = (tt, end_spell)
  item_spells (Save n) h = (tt, end_spell)
  item_spells (Ret w) h = (tt, last_spell w h)

  -- each root among spelled items
  pub roots_spell : {is : List Item} → AreLong (length q.objects) most is → (n : ℕ) (w : List Leaf) → slice_get (spelled_all is) n ≡ Some (tree_item.Root w)
      → AllByRecursion (λ (l : Leaf). IsSpelled q l.att) w
  roots_spell none n w e = absurd (cc)
  roots_spell (next {i = i} h rest) zero w e =
      let same : spelled i ≡ tree_item.Root w = cc in
      subst ItemSpells same (item_spells i h)
  roots_spell (next h rest) (suc n) w e = roots_spell rest n w e

-- the labels that stand among items
pub labels_small : {objects most : ℕ} {is : List Item} → most ≤ 2 ^ 64 → AreLong objects most is → AreSmall (spelled_all is)
labels_small few none = tt
labels_small few (next {i = Label l} h rest) = (omega arith, labels_small few rest)
labels_small few (next {i = AssignLoc n w} h rest) = labels_small few rest
labels_small few (next {i = AssignArg n w} h rest) = labels_small few rest
labels_small few (next {i = AssignMem ints.Char a w} h rest) = labels_small few rest
labels_small few (next {i = AssignMem ints.UnsignedChar a w} h rest) = labels_small few rest
labels_small few (next {i = AssignMem ints.Short a w} h rest) = labels_small few rest
labels_small few (next {i = AssignMem ints.UnsignedShort a w} h rest) = labels_small few rest
labels_small few (next {i = AssignMem ints.Int a w} h rest) = labels_small few rest
labels_small few (next {i = Cbr rel l a b} h rest) = labels_small few rest
labels_small few (next {i = Jump l} h rest) = labels_small few rest
labels_small few (next {i = Push w} h rest) = labels_small few rest
labels_small few (next {i = Call f count} h rest) = labels_small few rest
labels_small few (next {i = Save n} h rest) = labels_small few rest
labels_small few (next {i = Ret w} h rest) = labels_small few rest
