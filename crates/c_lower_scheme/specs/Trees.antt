-- The trees that a program is lowered to: pure trees, and the items that they stand in.
use Rattle.std.specs.Prelude.{ℕ, Bool, true, false, not, ◌||◌, ◌&&◌, nat_le}
use Rattle.gg_base.specs.declared.relation.Rel.{Rel}
use Rattle.gg_base.specs.declared.relation.Rel.TheVariants as relations
use Rattle.c_types.specs.declared.types.Integer.{Integer}
use Rattle.c_types.specs.declared.typed.ArithmeticOperator.{ArithmeticOperator}
use Rattle.c_types.specs.declared.typed.ArithmeticOperator.TheVariants as ariths

-- A pure tree: a number, the address of an object, a local, a parameter from 0, what memory holds as an integer type, a
-- value converted to one, and operators.
pub data Tree : Type 0 where
  Num : (n : ℕ) → Tree
  Gaddr : (object : ℕ) → Tree
  Loc : (n : ℕ) → Tree
  Arg : (n : ℕ) → Tree
  Indir : (i : Integer) (a : Tree) → Tree
  Conv : (i : Integer) (w : Tree) → Tree
  Neg : (w : Tree) → Tree
  Com : (w : Tree) → Tree
  Bin : (op : ArithmeticOperator) (a b : Tree) → Tree

-- A label, or a root: an assignment to a local, to a parameter, or to memory as an integer type; a branch, a jump, an
-- argument of a call, a call, the local for its result, and a return.
pub data Item : Type 0 where
  Label : (l : ℕ) → Item
  AssignLoc : (n : ℕ) (w : Tree) → Item
  AssignArg : (n : ℕ) (w : Tree) → Item
  AssignMem : (i : Integer) (a w : Tree) → Item
  Cbr : (rel : Rel) (l : ℕ) (a b : Tree) → Item
  Jump : (l : ℕ) → Item
  Push : (w : Tree) → Item
  Call : (f : ℕ) (count : ℕ) → Item
  Save : (n : ℕ) → Item
  Ret : (w : Tree) → Item

-- the operators with a divisor
abbrev pub divides_by : ArithmeticOperator → Bool
divides_by ariths.Add = false
divides_by ariths.Subtract = false
divides_by ariths.Multiply = false
divides_by ariths.Divide = true
divides_by ariths.Remainder = true
divides_by ariths.And = false
divides_by ariths.Xor = false
divides_by ariths.Or = false
divides_by ariths.ShiftLeft = false
divides_by ariths.ShiftRight = false

-- a tree that may trap
abbrev pub divides : Tree → Bool
divides (Num n) = false
divides (Gaddr n) = false
divides (Loc n) = false
divides (Arg n) = false
divides (Indir i a) = divides a
divides (Conv i w) = divides w
divides (Neg w) = divides w
divides (Com w) = divides w
divides (Bin op a b) = divides_by op || (divides a || divides b)

-- a tree that reads memory, which may be wild
abbrev pub reads : Tree → Bool
reads (Num n) = false
reads (Gaddr n) = false
reads (Loc n) = false
reads (Arg n) = false
reads (Indir i a) = true
reads (Conv i w) = reads w
reads (Neg w) = reads w
reads (Com w) = reads w
reads (Bin op a b) = reads a || reads b

abbrev pub breaks : Tree → Bool
breaks w = divides w || reads w

-- A tree that nothing changes which is done behind it: it does not break, and its locals are temporaries, which stand
-- behind the function's own.
abbrev pub stable : ℕ → Tree → Bool
stable size (Num n) = true
stable size (Gaddr n) = true
stable size (Loc n) = nat_le size n
stable size (Arg n) = false
stable size (Indir i a) = false
stable size (Conv i w) = stable size w
stable size (Neg w) = stable size w
stable size (Com w) = stable size w
stable size (Bin op a b) = not (divides_by op) && (stable size a && stable size b)

-- a tree of one token, which may stand twice
abbrev pub is_leaf : Tree → Bool
is_leaf (Num n) = true
is_leaf (Gaddr n) = true
is_leaf (Loc n) = true
is_leaf (Arg n) = true
is_leaf (Indir i a) = false
is_leaf (Conv i w) = false
is_leaf (Neg w) = false
is_leaf (Com w) = false
is_leaf (Bin op a b) = false

-- a relation that holds where another does not
abbrev pub opposite : Rel → Rel
opposite relations.Eq = relations.Ne
opposite relations.Ne = relations.Eq
opposite relations.Lt = relations.Ge
opposite relations.Le = relations.Gt
opposite relations.Gt = relations.Le
opposite relations.Ge = relations.Lt
opposite relations.Ltu = relations.Geu
opposite relations.Leu = relations.Gtu
opposite relations.Gtu = relations.Leu
opposite relations.Geu = relations.Ltu

abbrev pub sensed : Bool → Rel → Rel
sensed true r = r
sensed false r = opposite r
