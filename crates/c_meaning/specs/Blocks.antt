-- The blocks of memory locals. They lie on a second stack in the data area, whose pointer and area are the last two objects; both are bytes
-- as any others.
use Rattle.std.specs.Prelude.{ℕ, zero, suc, ◌-◌, ◌+◌, List, length, nat_lt, Option, Some, None, if◌then◌else◌}
use Rattle.c_types.specs.declared.typed.TheConstants.{BLOCK_LIMIT}
use Rattle.gg_base.specs.Arithmetic.{add32, sub32}
use Rattle.gg_base.specs.Runs.{Runs}
use Rattle.tree_core.specs.declared.program.Object.{Object}
use Rattle.c_types.specs.declared.types.CType.{CType}
use Rattle.c_types.specs.declared.types.CType.TheVariants as types
use Rattle.c_types.specs.declared.types.Integer.TheVariants as ints
use Rattle.c_meaning.specs.declared.store.Spot.TheVariants.{Memory, InBlock}
use Rattle.c_meaning.specs.State.{State, address, put, put_zeros}
use Rattle.c_meaning.specs.Values.{Behind, or_wild, or_trap, written, read_at, store_at}

abbrev pub int : CType
int = types.Integer ints.Int

-- the numbers of the stack's pointer and of its area
abbrev pub pointer_number : List Object → ℕ
pointer_number objects = length objects - 2

abbrev pub area_number : List Object → ℕ
area_number objects = pointer_number objects + 1

-- Where a block of n bytes begins: where the pointer points to. The stack has room for it if its end less that address, without sign,
-- is n or more.
abbrev pub beginning : ℕ → ℕ → ℕ → Option ℕ
beginning area n b = if nat_lt (sub32 (add32 area BLOCK_LIMIT) b) n then None else Some b

abbrev pub with_block : ℕ → State → State
with_block b st = record st { call = record { locals = st.call.locals; parameters = st.call.parameters; block = Some b } }

-- A call of a function with memory locals takes a block of so many bytes, behind which the pointer then points.
abbrev pub claimed : List Object → ℕ → (State → Runs) → State → Runs
claimed objects zero κ = κ
claimed objects (suc n) κ =
    or_wild (address objects (pointer_number objects)) (λ pointer. read_at int (Memory pointer) (λ p.
    or_wild (address objects (area_number objects)) (λ area. or_trap (beginning area (suc n) p) (λ b.
    store_at int (Memory pointer) (add32 b (suc n)) (λ v st. κ (with_block b st))))))

-- Where it is left, behind the value that it answers, the pointer points to its block again.
abbrev pub released : List Object → ℕ → Behind → Behind
released objects zero κ w = κ w
released objects (suc n) κ w = λ st. or_wild st.call.block (λ b.
    or_wild (address objects (pointer_number objects)) (λ pointer. store_at int (Memory pointer) b (λ v. κ w))) st

-- what the block holds at an offset as a type becomes a value
abbrev pub block_set : CType → ℕ → ℕ → (State → Runs) → State → Runs
block_set t o v κ st = written (put t (InBlock o) v st) v (λ v. κ)

-- so many elements of the block become 0
abbrev pub zeros_set : CType → ℕ → ℕ → (State → Runs) → State → Runs
zeros_set t o count κ st = written (put_zeros t o count (Some st)) 0 (λ v. κ)
