-- Labels of objects, and the addresses that their links hold.
use Rattle.std.specs.Prelude.{◌≡◌, ◌≢◌, ℕ, ◌==◌, ◌&&◌, ◌||◌, nat_le, Bool, true, false, List, [], ◌∷◌, length}
use Rattle.std.specs.Prelude.{codes, Some, slice_get}
use Rattle.std.specs.List.{All, list_all}
use Rattle.gg_base.specs.Names.{is_name_part}
use Rattle.tree_core.specs.declared.program.Object.{Object}
use Rattle.tree_core.specs.Area.{HoldsAddress}
use Rattle.tree_core.specs.Names.{function_label}

-- `_` before a global variable's name, `S` before a literal's number, `T` before a static local's
abbrev pub is_label_start : ℕ → Bool
is_label_start c = (c == 95) || ((c == 83) || (c == 84))

-- a label that assembly text can spell: at most 64 such characters
abbrev pub is_label : List ℕ → Bool
is_label [] = false
is_label (c ∷ cs) = is_label_start c && (nat_le (length cs) 63 && list_all is_name_part cs)

abbrev pub HoldsAddresses : List Object → Object → Type 0
HoldsAddresses os o = All (HoldsAddress os o.bytes) o.links

-- The labels of these objects differ, can be spelled, and are no label of a service or of a function with one of these
-- names; their links hold addresses.
pub record AreLabelled (os : List Object) (names : List (List ℕ)) : Type 0 where
  pub differ : (i j : ℕ) (o p : Object) → slice_get os i ≡ Some o → slice_get os j ≡ Some p → o.label ≡ p.label → i ≡ j
  pub spelled : (i : ℕ) (o : Object) → slice_get os i ≡ Some o → is_label o.label ≡ true
  pub functions : (i f : ℕ) (o : Object) (name : List ℕ) → slice_get os i ≡ Some o → slice_get names f ≡ Some name
      → o.label ≢ function_label name
  pub putchar : (i : ℕ) (o : Object) → slice_get os i ≡ Some o → o.label ≢ function_label (codes "putchar")
  pub getchar : (i : ℕ) (o : Object) → slice_get os i ≡ Some o → o.label ≢ function_label (codes "getchar")
  pub addresses : All (HoldsAddresses os) os
