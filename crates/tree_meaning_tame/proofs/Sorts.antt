-- What is tame where one sort is wanted is so where a sort stands that fits it.
use Rattle.std.proofs.Common.{◌≡◌, List, true}
use Rattle.tree_core.specs.declared.token.Sort.{Sort}
use Rattle.tree_core.specs.declared.program.Object.{Object}
use Rattle.tree_core.specs.Grammar.{fits}
use Rattle.tree_core.specs.declared.token.Sort.TheVariants as sort
use Rattle.tree_meaning.specs.declared.value.Meaning.{Meaning}
use Rattle.tree_meaning.specs.Values.{Sight}
use Rattle.tree_meaning_tame.specs.Tame.{IsTame}

module _ (objects : List Object) (s : Sight) where
  pub sort_tame : (y x : Sort) (g : Meaning) → fits y x ≡ true → IsTame objects s x g → IsTame objects s y g
  sort_tame sort.Stmt sort.Stmt g e h = h
  sort_tame sort.Stmt sort.Long g e h = tt
  sort_tame sort.Stmt sort.Byte g e h = tt
  sort_tame sort.Stmt sort.Word g e h = tt
  sort_tame sort.Stmt sort.PlaceB g e h = tt
  sort_tame sort.Stmt sort.PlaceW g e h = tt
  sort_tame sort.Stmt sort.PlaceL g e h = tt
  sort_tame sort.Long sort.Long g e h = h
  sort_tame sort.Byte sort.Byte g e h = h
  sort_tame sort.Word sort.Word g e h = h
  sort_tame sort.PlaceB sort.Stmt g e h = tt
  sort_tame sort.PlaceB sort.Long g e h = tt
  sort_tame sort.PlaceB sort.Byte g e h = tt
  sort_tame sort.PlaceB sort.Word g e h = tt
  sort_tame sort.PlaceB sort.PlaceB g e h = h
  sort_tame sort.PlaceB sort.PlaceW g e h = tt
  sort_tame sort.PlaceB sort.PlaceL g e h = tt
  sort_tame sort.PlaceW sort.Stmt g e h = tt
  sort_tame sort.PlaceW sort.Long g e h = tt
  sort_tame sort.PlaceW sort.Byte g e h = tt
  sort_tame sort.PlaceW sort.Word g e h = tt
  sort_tame sort.PlaceW sort.PlaceB g e h = tt
  sort_tame sort.PlaceW sort.PlaceW g e h = h
  sort_tame sort.PlaceW sort.PlaceL g e h = tt
  sort_tame sort.PlaceL sort.Stmt g e h = tt
  sort_tame sort.PlaceL sort.Long g e h = tt
  sort_tame sort.PlaceL sort.Byte g e h = tt
  sort_tame sort.PlaceL sort.Word g e h = tt
  sort_tame sort.PlaceL sort.PlaceB g e h = tt
  sort_tame sort.PlaceL sort.PlaceW g e h = tt
  sort_tame sort.PlaceL sort.PlaceL g e h = h
  sort_tame _ _ g e h = absurd (cc)
