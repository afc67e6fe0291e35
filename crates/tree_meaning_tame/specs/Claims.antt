-- What is true of trees that have a deed, of calm trees that trap, and of what is seen.
use Rattle.std.specs.Prelude.{◌≡◌, ◌⊎◌, List, slice_get, length}
use Rattle.tree_core.specs.declared.tree.Leaf.{Leaf}
use Rattle.tree_core.specs.declared.program.Object.{Object}
use Rattle.tree_core.specs.declared.program.TreeFn.{TreeFn}
use Rattle.tree_core.specs.Grammar.{kids}
use Rattle.tree_core.specs.Trees.{Forest, Typed}
use Rattle.tree_core.specs.Calm.{CalmBefore}
use Rattle.tree_meaning.specs.Values.{Sight, meanings}
use Rattle.tree_meaning.specs.Deeds.{Deed, Traps, Strays, deed_of, tree_deed}
use Rattle.tree_meaning_tame.specs.Tame.{Tame, Undivided, AllThere}
use Rattle.tree_meaning_tame.specs.Sights.{Completes, Frames, AllNamed}

-- neither a trap nor an access that is wild
abbrev pub IsDeed : Deed → Type 0
IsDeed Traps = ⊥
IsDeed Strays = ⊥
IsDeed d = Unit {0}

-- what a statement does whose first leaf and whose trees below it are these
abbrev pub statement_deed : List Object → Sight → Leaf → Forest → Deed
statement_deed objects s l f = deed_of s l.tok l.att (slice_get (meanings objects s f) 0) (slice_get (meanings objects s f) 1)

-- A statement that does something has no wild part and divides nowhere by zero.
abbrev pub DeedIsTame : Type 0
DeedIsTame =
    (objects : List Object) (s : Sight) (l : Leaf) (f : Forest)
    → IsDeed (statement_deed objects s l f) → Tame objects s (kids l.tok) f × Undivided objects s (kids l.tok) f

-- A calm statement that traps, and whose leaves name what is there, has no wild part: so what traps in it is a zero divisor.
abbrev pub TrapIsTame : Type 0
TrapIsTame =
    (objects : List Object) (s : Sight) (l : Leaf) (f : Forest) (w : List Leaf)
    → Typed (kids l.tok) f → AllThere objects s f → CalmBefore f w → statement_deed objects s l f ≡ Traps → Tame objects s (kids l.tok) f

-- Who sees more sees the same deed, where there is one.
abbrev pub SeesTheDeed : Type 0
SeesTheDeed =
    (objects : List Object) (s t : Sight) → Completes s t → (f : Forest)
    → (tree_deed objects s f ≡ Strays) ⊎ (tree_deed objects s f ≡ tree_deed objects t f)

-- What the leaves of a function's trees name is there in its frame.
abbrev pub NamedIsThere : Type 0
NamedIsThere =
    (fs : List TreeFn) (objects : List Object) (f : TreeFn) (t : Sight) (trees : Forest)
    → Frames f t → AllNamed fs (length objects) f trees → AllThere objects t trees
