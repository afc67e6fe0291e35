-- No tree of a program that is ready stops its code.
use Rattle.tree_core.specs.declared.program.TreeItem.TheVariants as tree_item
use Rattle.gg_compile_laws.specs.Ready.{TreesGo}
use Rattle.gg_compile_laws.proofs.Ready.{not_full, not_blocked}

pub trees_go : TreesGo
trees_go q d ok fit never f g there n (tree_item.Label l) at = tt
trees_go q d ok fit never f g there n (tree_item.Root w) at = record {
  parses = not_blocked q ok f n g w there at d fit never;
  has_room = not_full q ok f n g w there at d fit;
}
