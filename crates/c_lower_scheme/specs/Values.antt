-- Operators over two values: which of them is saved before the other, and sums with a pointer.
use Rattle.std.specs.Prelude.{ℕ, ◌==◌, List, [], ◌∷◌, ◌++◌, Bool, not, ◌&&◌, if◌then◌else◌}
use Rattle.gg_base.specs.declared.relation.Rel.{Rel}
use Rattle.c_types.specs.declared.types.CType.{CType}
use Rattle.c_types.specs.declared.typed.ArithmeticOperator.TheVariants as ariths
use Rattle.c_types.specs.declared.typed.Direction.{Direction}
use Rattle.c_types.specs.declared.typed.Direction.TheVariants as directions
use Rattle.c_types.specs.Constants.{scale}
use Rattle.c_lower_scheme.specs.Trees.{Tree, Num, Bin, Item, divides, reads, stable, sensed}
use Rattle.c_lower_scheme.specs.Parts.{Lowered, Pair, Lowering, behind_low, over_two}
use Rattle.c_lower_scheme.specs.Saving.{saving, saved, next_if}
use Rattle.c_lower_scheme.specs.Conditions.{compare, valued, conditional, drop_two}

-- sums with a pointer: a number is scaled by the size of what is pointed to
abbrev pub scaled_by : ℕ → Tree → Tree
scaled_by s w = if s == 1 then w else Bin ariths.Multiply (Num s) w

abbrev pub shared_by : ℕ → Tree → Tree
shared_by s w = if s == 1 then w else Bin ariths.Divide w (Num s)

abbrev pub advance : CType → Tree → Tree → Tree
advance t a b = Bin ariths.Add a (scaled_by (scale t) b)

abbrev pub advance_by : CType → Tree → Tree → Tree
advance_by t a b = Bin ariths.Add (scaled_by (scale t) a) b

abbrev pub retreat : CType → Tree → Tree → Tree
retreat t a b = Bin ariths.Subtract a (scaled_by (scale t) b)

abbrev pub apart : CType → Tree → Tree → Tree
apart t a b = shared_by (scale t) (Bin ariths.Subtract a b)

-- `++` and `--` by one, or by the size of what is pointed to
abbrev pub step : Direction → Tree → Tree → Tree
step directions.Up a b = Bin ariths.Add a b
step directions.Down a b = Bin ariths.Subtract a b

-- the number of automatic locals, behind which the temporaries stand, and the number of functions
module _ (size count : ℕ) where
  -- The first of two parts is saved where the second has items that could change it, or where it may trap and the second may be wild.
  abbrev pub must : List Item → Tree → Tree → Bool
  must [] a b = divides a && reads b
  must (i ∷ is) a b = not (stable size a)

  abbrev pub join_so : Bool → Lowered → Lowered → Pair
  join_so b p q = record {
    items = p.items ++ (saving b q.temps p.tree ++ q.items);
    first = saved b q.temps p.tree;
    second =
        q.tree;
    temps = next_if b q.temps;
    labels = q.labels;
  }

  abbrev pub join : Lowered → Lowered → Pair
  join p q = join_so (must q.items p.tree q.tree) p q

  abbrev pub joined : Lowering → Lowering → ℕ → ℕ → Pair
  joined a b t l = join (a.low t l) (behind_low (a.low t l) b.low)

  -- an operator over two values
  abbrev pub binary : (Tree → Tree → Tree) → Lowering → Lowering → Lowering
  binary f a b = valued (λ t l. over_two f (joined a b t l))

  abbrev pub relation : Rel → Lowering → Lowering → Lowering
  relation r a b = conditional (λ sense to t l. compare (sensed sense r) to (joined a b t l)) (drop_two a b)
