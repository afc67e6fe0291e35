-- What items name: locals below a bound, parameters and objects that are there, and calls that are right.
use Rattle.std.proofs.Common.{ℕ, ◌≤◌, ◌<◌, List, [], ◌∷◌, ◌++◌, arith}
use Rattle.c_lower_scheme.specs.Trees.{Tree, Num, Gaddr, Loc, Arg, Indir, Conv, Neg, Com, Bin, Item, Label, AssignLoc, AssignArg, AssignMem, Cbr, Jump, Push, Call, Save, Ret}

-- so many objects and parameters, and which calls are right, by number and count of arguments
pub record Scene : Type 1 where
  pub objects : ℕ
  pub params : ℕ
  pub callable : ℕ → ℕ → Type 0

module _ (scene : Scene) where
  abbrev pub Names : ℕ → Tree → Type 0
  Names u (Num n) = Unit {0}
  Names u (Gaddr n) = n < scene.objects
  Names u (Loc n) = n < u
  Names u (Arg n) = n < scene.params
  Names u (Indir i a) = Names u a
  Names u (Conv i w) = Names u w
  Names u (Neg w) = Names u w
  Names u (Com w) = Names u w
  Names u (Bin op a b) = Names u a × Names u b

  abbrev pub ItemNames : ℕ → Item → Type 0
  ItemNames u (Label l) = Unit {0}
  ItemNames u (AssignLoc n w) = (n < u) × Names u w
  ItemNames u (AssignArg n w) = (n < scene.params) × Names u w
  ItemNames u (AssignMem i a w) = Names u a × Names u w
  ItemNames u (Cbr rel l a b) = Names u a × Names u b
  ItemNames u (Jump l) = Unit {0}
  ItemNames u (Push w) = Names u w
  ItemNames u (Call f count) = scene.callable f count
  ItemNames u (Save n) = n < u
  ItemNames u (Ret w) = Names u w

  abbrev pub AllName : ℕ → List Item → Type 0
  AllName u [] = Unit {0}
  AllName u (i ∷ is) = ItemNames u i × AllName u is

  pub names_more : (u v : ℕ) (w : Tree) → u ≤ v → Names u w → Names v w
  names_more u v (Num n) le h = tt
  names_more u v (Gaddr n) le h = h
  names_more u v (Loc n) le h = omega arith
  names_more u v (Arg n) le h = h
  names_more u v (Indir i a) le h = names_more u v a le h
  names_more u v (Conv i w) le h = names_more u v w le h
  names_more u v (Neg w) le h = names_more u v w le h
  names_more u v (Com w) le h = names_more u v w le h
  names_more u v (Bin op a b) le h = (names_more u v a le h.0, names_more u v b le h.1)

  pub item_more : (u v : ℕ) (i : Item) → u ≤ v → ItemNames u i → ItemNames v i
  item_more u v (Label l) le h = tt
  item_more u v (AssignLoc n w) le h = (let lt = h.0 in omega arith, names_more u v w le h.1)
  item_more u v (AssignArg n w) le h = (h.0, names_more u v w le h.1)
  item_more u v (AssignMem i a w) le h = (names_more u v a le h.0, names_more u v w le h.1)
  item_more u v (Cbr rel l a b) le h = (names_more u v a le h.0, names_more u v b le h.1)
  item_more u v (Jump l) le h = tt
  item_more u v (Push w) le h = names_more u v w le h
  item_more u v (Call f count) le h = h
  item_more u v (Save n) le h = omega arith
  item_more u v (Ret w) le h = names_more u v w le h

  pub all_more : (u v : ℕ) (is : List Item) → u ≤ v → AllName u is → AllName v is
  all_more u v [] le h = tt
  all_more u v (i ∷ is) le h = (item_more u v i le h.0, all_more u v is le h.1)

  pub all_append : (u : ℕ) (a b : List Item) → AllName u a → AllName u b → AllName u (a ++ b)
  all_append u [] b h g = g
  all_append u (i ∷ a) b h g = (h.0, all_append u a b h.1 g)
