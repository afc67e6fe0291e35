-- The crate's trees, items and parts as the definition of lowering has them.
use Rattle.std.specs.Prelude.{List, map}
use Rattle.c_lower_parts.specs.declared.tree.Tree.{Tree}
use Rattle.c_lower_parts.specs.declared.tree.Tree.TheVariants as trees
use Rattle.c_lower_parts.specs.declared.item.Item.{Item}
use Rattle.c_lower_parts.specs.declared.item.Item.TheVariants as lowered_item
use Rattle.c_lower_parts.specs.declared.part.Lowered.{Lowered}
use Rattle.c_lower_parts.specs.declared.part.Pair.{Pair}
use Rattle.c_lower_parts.specs.declared.part.Storage.{Storage}
use Rattle.c_lower_parts.specs.declared.part.Storage.TheVariants as storages
use Rattle.c_lower_parts.specs.declared.part.Destination.{Destination}
use Rattle.c_lower_parts.specs.declared.part.Destination.TheVariants as destinations
use Rattle.c_lower_parts.specs.declared.part.Located.{Located}
use Rattle.c_lower_parts.specs.declared.part.Assignable.{Assignable}
use Rattle.c_lower_parts.specs.declared.part.Passing.{Passing}
use Rattle.c_lower_parts.specs.declared.part.Emitted.{Emitted}
use Rattle.c_lower_scheme.specs.Trees as mirror
use Rattle.c_lower_scheme.specs.Parts as parts

abbrev pub tree : Tree → mirror.Tree
tree (trees.Number n) = mirror.Num n
tree (trees.Object n) = mirror.Gaddr n
tree (trees.Local n) = mirror.Loc n
tree (trees.Parameter n) = mirror.Arg n
tree (trees.Indirect' i q a) = mirror.Indir i (tree a)
tree (trees.Convert' i q w) = mirror.Conv i (tree w)
tree (trees.Negate' q w) = mirror.Neg (tree w)
tree (trees.Complement' q w) = mirror.Com (tree w)
tree (trees.Binary' op q a r b) = mirror.Bin op (tree a) (tree b)

abbrev pub item : Item → mirror.Item
item (lowered_item.Label l) = mirror.Label l
item (lowered_item.AssignLocal n w) = mirror.AssignLoc n (tree w)
item (lowered_item.AssignParameter n w) = mirror.AssignArg n (tree w)
item (lowered_item.AssignMemory i a w) = mirror.AssignMem i (tree a) (tree w)
item (lowered_item.Branch r l a b) = mirror.Cbr r l (tree a) (tree b)
item (lowered_item.Jump l) = mirror.Jump l
item (lowered_item.Push w) = mirror.Push (tree w)
item (lowered_item.Call f n) = mirror.Call f n
item (lowered_item.Save n) = mirror.Save n
item (lowered_item.Return w) = mirror.Ret (tree w)

abbrev pub all_items : List Item → List mirror.Item
all_items is = map item is

abbrev pub all_trees : List Tree → List mirror.Tree
all_trees ws = map tree ws

abbrev pub low : Lowered → parts.Lowered
low p = record { items = all_items p.items.items; tree = tree p.tree.value; temps = p.free.temps; labels = p.free.labels }

abbrev pub two : Pair → parts.Pair
two p = record {
  items = all_items p.items.items;
  first = tree p.first.value;
  second = tree p.second.value;
  temps = p.free.temps;
  labels = p.free.labels;
}

abbrev pub storage : Storage → parts.Where
storage (storages.Local n) = parts.InLoc n
storage (storages.Parameter n) = parts.InArg n
storage (storages.Memory a) = parts.InMem (tree a.value)

abbrev pub destination : Destination → parts.Destination
destination (destinations.Local n) = parts.InLocal n
destination destinations.Caller = parts.AsResult
destination (destinations.Release pointer n) = parts.Releasing pointer n

abbrev pub found : Located → parts.Located
found p = record {
  items = all_items p.items.items;
  type = p.ctype;
  place = storage p.storage;
  temps = p.free.temps;
  labels = p.free.labels;
}

abbrev pub ready : Assignable → parts.Assignable
ready p = record {
  items = all_items p.items.items;
  type = p.ctype;
  place = storage p.storage;
  value = tree p.value.value;
  temps = p.free.temps;
  labels = p.free.labels;
}

abbrev pub passing : Passing → parts.Passing
passing p = record {
  items = all_items p.items.items;
  trees = all_trees p.trees.items;
  quiet = p.is_quiet;
  temps = p.free.temps;
  labels = p.free.labels;
}

abbrev pub done : Emitted → parts.Emitted
done p = record { items = all_items p.items.items; temps = p.free.temps; labels = p.free.labels }
