-- Trees that say the same behind events that are the same.
use Rattle.std.proofs.Common.{ℕ, List, [], ◌∷◌}
use Rattle.vax_core.specs.declared.code.CodeItem.{CodeItem}
use Rattle.vax_pairs.specs.Events.{Event}
use Rattle.vax_pairs.specs.Facts.{Fact, AreSo}
use Rattle.vax_pairs.specs.Trees.{Tree}
use Rattle.vax_pairs.specs.SameTrees.{SameTree}
use Rattle.vax_pairs_walk.specs.Pieces.{emits}
use Rattle.vax_pairs_same.specs.Parts.{SameEvents}

pub events_then : (At : ℕ → ℕ → ℕ → List Fact → Type 0) (cs ds : List CodeItem) (k : ℕ) (es fs : List Event) (a b : Tree) → SameEvents es fs
    → SameTree (List Fact) AreSo At cs ds k a b → SameTree (List Fact) AreSo At cs ds k (emits es a) (emits fs b)
events_then At cs ds k [] [] a b h g = g
events_then At cs ds k [] (f ∷ fs) a b h g = absurd h
events_then At cs ds k (e ∷ es) [] a b h g = absurd h
events_then At cs ds k (e ∷ es) (f ∷ fs) a b h g = (h.0, events_then At cs ds k es fs a b h.1 g)
