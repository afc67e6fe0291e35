-- Places: how what they hold is read and converted, and how it is assigned to.
use Rattle.std.specs.Prelude.{ℕ, ◌==◌, List, [], Bool, Option, Some, None, if◌then◌else◌}
use Rattle.c_types.specs.declared.types.Integer.{Integer}
use Rattle.c_types.specs.declared.types.Integer.TheVariants as ints
use Rattle.c_types.specs.declared.types.CType.{CType}
use Rattle.c_types.specs.declared.types.CType.TheVariants as types
use Rattle.c_types.specs.declared.typed.ArithmeticOperator.TheVariants as ariths
use Rattle.c_types.specs.declared.typed.Variable.{Variable}
use Rattle.c_types.specs.declared.typed.Variable.TheVariants as variables
use Rattle.c_lower_scheme.specs.Trees.{Tree, Num, Gaddr, Loc, Arg, Indir, Conv, Bin, Item, AssignLoc, AssignArg, AssignMem}
use Rattle.c_lower_scheme.specs.Saving.{saving, saved}
use Rattle.c_lower_scheme.specs.Parts.{Lowered, Where, InLoc, InArg, InMem, Located}

-- how the value of a type is read from memory and converted
abbrev pub integer_of : CType → Integer
integer_of types.Void = ints.Int
integer_of (types.Integer i) = i
integer_of (types.Pointer i n) = ints.Int

abbrev pub conv : Integer → Tree → Tree
conv ints.Char w = Conv ints.Char w
conv ints.UnsignedChar w = Conv ints.UnsignedChar w
conv ints.Short w = Conv ints.Short w
conv ints.UnsignedShort w = Conv ints.UnsignedShort w
conv ints.Int w = w

abbrev pub fitted : CType → Tree → Tree
fitted t w = conv (integer_of t) w

-- the value that a place holds
abbrev pub read_from : CType → Where → Tree
read_from t (InLoc n) = Loc n
read_from t (InArg n) = Arg n
read_from t (InMem a) = Indir (integer_of t) a

-- Assigning a value to a place. A local or parameter holds the value that is converted to its type; memory holds its low bits.
abbrev pub assign_to : CType → Where → Tree → Item
assign_to t (InLoc n) w = AssignLoc n (fitted t w)
assign_to t (InArg n) w = AssignArg n (fitted t w)
assign_to t (InMem a) w = AssignMem (integer_of t) a w

-- the address of what is kept in memory
abbrev pub address_tree : Where → Tree
address_tree (InLoc n) = Num 0
address_tree (InArg n) = Num 0
address_tree (InMem a) = a

-- the address of an offset in the block, whose address stands in the local behind the function's automatic ones
abbrev pub in_block : ℕ → ℕ → Tree
in_block size o = if o == 0 then Loc size else Bin ariths.Add (Loc size) (Num o)

abbrev pub where_of : ℕ → Variable → Where
where_of size (variables.Automatic n) = InLoc n
where_of size (variables.Parameter n) = InArg n
where_of size (variables.Global n) = InMem (Gaddr n)
where_of size (variables.Static n) = InMem (Gaddr n)
where_of size (variables.InBlock o) = InMem (in_block size o)

abbrev pub found : CType → Where → ℕ → ℕ → Located
found t s u l = record { items = []; type = t; place = s; temps = u; labels = l }

abbrev pub pointed : CType → Lowered → Located
pointed t p = record { items = p.items; type = t; place = InMem p.tree; temps = p.temps; labels = p.labels }

-- the value that a place holds, and its address
abbrev pub read_low : Located → Lowered
read_low p = record { items = p.items; tree = read_from p.type p.place; temps = p.temps; labels = p.labels }

abbrev pub address_low : Located → Lowered
address_low p = record { items = p.items; tree = address_tree p.place; temps = p.temps; labels = p.labels }

-- a place whose address was saved, or stays as it is
abbrev pub holding : Bool → ℕ → Where → List Item
holding b u (InLoc n) = []
holding b u (InArg n) = []
holding b u (InMem a) = saving b u a

abbrev pub held : Bool → ℕ → Where → Where
held b u (InLoc n) = InLoc n
held b u (InArg n) = InArg n
held b u (InMem a) = InMem (saved b u a)

-- the automatic variable that a place is, where its type does not narrow what is assigned
abbrev pub local_in : Integer → Where → Option ℕ
local_in ints.Char s = None
local_in ints.UnsignedChar s = None
local_in ints.Short s = None
local_in ints.UnsignedShort s = None
local_in ints.Int (InLoc n) = Some n
local_in ints.Int (InArg n) = None
local_in ints.Int (InMem a) = None
