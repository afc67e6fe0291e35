-- What the phrases of a program read and change.
use Rattle.std.specs.Prelude.{ℕ, zero, suc, ◌+◌, List, Option, Some, None, nat_lt, cond, length, slice_get, slice_set}
use Rattle.std.specs.Option.{option_map}
use Rattle.gg_base.specs.Arithmetic.{add32}
use Rattle.gg_base.specs.declared.size.Size.{Size}
use Rattle.gg_base.specs.declared.size.Size.TheVariants as sizes
use Rattle.tree_core.specs.declared.program.Object.{Object}
use Rattle.tree_core.specs.Area.{fetched, stored}
use Rattle.c_types.specs.declared.types.CType.{CType}
use Rattle.c_types.specs.declared.types.CType.TheVariants as types
use Rattle.c_types.specs.declared.types.Integer.{Integer}
use Rattle.c_types.specs.declared.types.Integer.TheVariants as ints
use Rattle.c_types.specs.declared.typed.Variable.{Variable}
use Rattle.c_types.specs.declared.typed.Variable.TheVariants as variables
use Rattle.c_types.specs.Types.{size_of}
use Rattle.c_types.specs.Constants.{converted}
use Rattle.c_meaning.specs.declared.store.Spot.{Spot}
use Rattle.c_meaning.specs.declared.store.Spot.TheVariants.{Local, Parameter, Memory, InBlock}

-- The automatic locals and the parameters of a call, each by its number, and where the block of its memory locals lies, if it has one.
pub record Call : Type 0 where
  pub locals : List ℕ
  pub parameters : List ℕ
  pub block : Option ℕ

-- the call that runs, the data area, the input that is left, and how many calls are active
pub record State : Type 0 where
  pub call : Call
  pub area : List ℕ
  pub input : List ℕ
  pub active : ℕ

-- the bytes that a value of a type takes in memory
abbrev pub integer_access : Integer → Size
integer_access ints.Char = sizes.Byte
integer_access ints.UnsignedChar = sizes.Byte
integer_access ints.Short = sizes.Word
integer_access ints.UnsignedShort = sizes.Word
integer_access ints.Int = sizes.Long

abbrev pub access_size : CType → Option Size
access_size types.Void = None
access_size (types.Integer i) = Some (integer_access i)
access_size (types.Pointer i n) = Some sizes.Long

-- the address of an object, by its number
abbrev pub address : List Object → ℕ → Option ℕ
address objects n = option_map (λ o. o.address) (slice_get objects n)

-- Where a variable is kept: an automatic one in the call that runs, or in its block where it is a memory local, any other one in memory.
abbrev pub spot_of : List Object → Variable → Option Spot
spot_of objects (variables.Automatic n) = Some (Local n)
spot_of objects (variables.Parameter n) = Some (Parameter n)
spot_of objects (variables.Global n) = option_map Memory (address objects n)
spot_of objects (variables.Static n) = option_map Memory (address objects n)
spot_of objects (variables.InBlock o) = Some (InBlock o)

-- the address of an offset in the block of a call
abbrev pub block_address : Call → ℕ → Option ℕ
block_address c o = option_map (λ b. add32 b o) c.block

-- the value of a type in memory, which is read by the type's sign, if all its bytes lie in the data area
abbrev pub loaded : CType → Option Size → List ℕ → ℕ → Option ℕ
loaded t None area a = None
loaded t (Some s) area a = option_map (converted t) (fetched s area a)

abbrev pub loaded_at : CType → State → Option ℕ → Option ℕ
loaded_at t st None = None
loaded_at t st (Some a) = loaded t (access_size t) st.area a

-- the value of a type that is kept somewhere
abbrev pub held : CType → Spot → State → Option ℕ
held t (Local n) st = slice_get st.call.locals n
held t (Parameter n) st = slice_get st.call.parameters n
held t (Memory a) st = loaded t (access_size t) st.area a
held t (InBlock o) st = loaded_at t st (block_address st.call o)

abbrev pub set_at : List ℕ → ℕ → ℕ → Option (List ℕ)
set_at l n v = cond (nat_lt n (length l)) (Some (slice_set l n v)) None

abbrev pub kept_in : Option Size → List ℕ → ℕ → ℕ → Option (List ℕ)
kept_in None area a v = None
kept_in (Some s) area a v = stored s area a v

-- a value is put into an automatic local, or somewhere, if there is such a local or parameter, and all bytes of memory lie in the data area
abbrev pub with_locals : State → List ℕ → State
with_locals st l = record st { call = record { locals = l; parameters = st.call.parameters; block = st.call.block } }

abbrev pub with_parameters : State → List ℕ → State
with_parameters st l = record st { call = record { locals = st.call.locals; parameters = l; block = st.call.block } }

abbrev pub with_area : State → List ℕ → State
with_area st area = record st { area = area }

abbrev pub put_local : ℕ → ℕ → State → Option State
put_local n v st = option_map (with_locals st) (set_at st.call.locals n v)

abbrev pub put_at : CType → Option ℕ → ℕ → State → Option State
put_at t None v st = None
put_at t (Some a) v st = option_map (with_area st) (kept_in (access_size t) st.area a v)

abbrev pub put : CType → Spot → ℕ → State → Option State
put t (Local n) v st = put_local n v st
put t (Parameter n) v st = option_map (with_parameters st) (set_at st.call.parameters n v)
put t (Memory a) v st = option_map (with_area st) (kept_in (access_size t) st.area a v)
put t (InBlock o) v st = put_at t (block_address st.call o) v st

-- zeros are put into so many elements of the block, from an offset on
abbrev pub put_zeros : CType → ℕ → ℕ → Option State → Option State
put_zeros t o zero st = st
put_zeros t o (suc k) None = None
put_zeros t o (suc k) (Some st) = put_zeros t (o + size_of t) k (put t (InBlock o) 0 st)
