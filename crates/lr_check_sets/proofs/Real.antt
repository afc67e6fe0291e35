-- Each fault is met in the parse of a typed tree.
use Rattle.std.proofs.Common.{◌≡◌, List}
use Rattle.lr_check_sets.specs.Automaton.{Automaton, Production, IsTable}
use Rattle.lr_check_sets.specs.Items.{IsAutomatonOf, HasNoEnd, HasNoEmpty}
use Rattle.lr_check_sets.specs.Shapes.{HasTrees}
use Rattle.lr_check_sets.specs.Faults.{Fault, gap, dead, circle}
use Rattle.lr_check_sets.specs.Claims.{Shown, blocks, loops, EveryFaultIsReal}
use Rattle.lr_check_sets.proofs.Tables.{table_of_items}
use Rattle.lr_check_sets.proofs.Whole_sets.{place_back, settling_back}
use Rattle.lr_check_sets.proofs.Faults as Met
use Rattle.lr_check_sets.proofs.Shapes as Gaps

module _ (G : List Production) (A : Automaton) (no_end : HasNoEnd G) (no_empty : HasNoEmpty G) (trees : HasTrees G) (exact : IsAutomatonOf G A) where
  table : IsTable A
  table = table_of_items G A no_end no_empty exact

  shown : Fault A → Shown A
  shown (gap {q = q} {k = k} {t = t} place none) =
      let met = Met.place_blocks A table q k t (place_back place) (Gaps.place_blocks G A no_end no_empty trees exact (place_back place) none) in
      blocks met.0 met.1
  shown (dead {q = q} {p = p} {k = k} {t = t} {s = s} set ws can) =
      let met = Met.list_blocks A table q k t s p (settling_back set) ws can in
      blocks met.0 met.1
  shown (circle {q = q} {k = k} {t = t} {s = s} set c) =
      let met = Met.circle_loops A table q k t s (settling_back set) c in
      loops met.0 met.1

pub every_fault_is_real : EveryFaultIsReal
every_fault_is_real G A no_end no_empty trees exact f = shown G A no_end no_empty trees exact f
