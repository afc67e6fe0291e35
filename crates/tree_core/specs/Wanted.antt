-- The sorts that are wanted one after another while leaves are read.
use Rattle.std.specs.Prelude.{◌≡◌, ◌≢◌, ℕ, ◌+◌, ◌<◌, ◌^◌, List, [], ◌∷◌, ◌++◌, Option, Some, None, replicate}
use Rattle.std.specs.Option.{option_to_list}
use Rattle.tree_core.specs.declared.token.Sort.{Sort}
use Rattle.tree_core.specs.declared.token.Sort.TheVariants as sort
use Rattle.tree_core.specs.declared.typing.Wanted.{Wanted}

abbrev pub longs_before : ℕ → Option Sort → List Sort
longs_before n last = replicate n sort.Long ++ option_to_list last

-- one sort at most, then so many longs, then one sort at most
abbrev pub wanted_sorts : Wanted → List Sort
wanted_sorts w = option_to_list w.first ++ longs_before w.longs w.last

-- nothing is wanted but what is first
abbrev pub IsLast : Wanted → Type 0
IsLast w = (w.longs ≡ 0) × (w.last ≡ None)

-- behind a statement that is wanted first, nothing is wanted
abbrev pub Keeps : Wanted → Type 0
Keeps w = w.first ≡ Some sort.Stmt → IsLast w

-- the sorts of kids can be kept in front of what is wanted
abbrev pub CanPush : List Sort → Wanted → Type 0
CanPush [] w = w.first ≡ None
CanPush (a ∷ []) w = (w.first ≡ None) × (a ≢ sort.Stmt)
CanPush (a ∷ sort.Long ∷ []) w = (w.first ≡ None) × (a ≢ sort.Stmt) × (w.longs + 1 < 2 ^ 64)
CanPush (a ∷ b ∷ []) w = (w.first ≡ None) × (a ≢ sort.Stmt) × IsLast w
CanPush (a ∷ b ∷ d ∷ xs) w = ⊥
