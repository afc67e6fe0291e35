-- How the passes go through a code, item by item.
use Rattle.std.specs.Prelude.{ℕ, ◌+◌, Bool, true, false, not, ◌&&◌, nat_lt, List, [], ◌∷◌, ◌++◌, Option, Some, None, if◌then◌else◌}
use Rattle.vax_core.specs.declared.op.Op.{Op}
use Rattle.vax_core.specs.declared.op.Op.TheVariants.{Jbr}
use Rattle.vax_core.specs.declared.code.CodeItem.{CodeItem}
use Rattle.vax_core.specs.declared.code.CodeItem.TheVariants as item_kind
use Rattle.vax_passes.specs.Jumps.{leads_to, mask_next, leaves}

-- how many changes were counted, and what is kept
pub record Kept : Type 0 where
  pub made : ℕ
  pub items : List CodeItem

abbrev pub is_jump : Op → Bool
is_jump Jbr = true
is_jump op = false

abbrev pub leads_by : Option (List ℕ) → List CodeItem → Bool
leads_by None rest = false
leads_by (Some name) rest = leads_to name rest

-- the item is a jump to what comes next anyway, the others being behind it
abbrev pub is_next_jump : CodeItem → List CodeItem → Bool
is_next_jump (item_kind.Label n) rest = false
is_next_jump (item_kind.Globl n) rest = false
is_next_jump (item_kind.Mask m) rest = false
is_next_jump (item_kind.Instr i) rest = is_jump i.op && (leads_by i.target rest && not (mask_next rest))

abbrev pub drops : CodeItem → Kept → Bool
drops x k = nat_lt k.made 18446744073709551615 && is_next_jump x k.items

-- one item more, in front
abbrev pub one_more : CodeItem → Kept → Kept
one_more x k = record { made = if drops x k then k.made + 1 else k.made; items = if drops x k then k.items else x ∷ k.items }

-- from the end on
abbrev pub without_jumps : List CodeItem → Kept → Kept
without_jumps [] k = k
without_jumps (x ∷ rest) k = one_more x (without_jumps rest k)

-- ---- instructions that no run comes to

abbrev pub put_first : CodeItem → Kept → Kept
put_first x k = record { made = k.made; items = x ∷ k.items }

-- whether no run comes behind the item, if none comes to it
abbrev pub dead_behind : CodeItem → Bool → Bool
dead_behind (item_kind.Label n) dead = false
dead_behind (item_kind.Globl n) dead = dead
dead_behind (item_kind.Mask m) dead = dead
dead_behind (item_kind.Instr i) dead = if dead then true else leaves i.op

-- an instruction that no run comes to is dropped, as long as it can be counted
abbrev pub is_lost : CodeItem → Bool → ℕ → Bool
is_lost (item_kind.Label n) dead made = false
is_lost (item_kind.Globl n) dead made = false
is_lost (item_kind.Mask m) dead made = false
is_lost (item_kind.Instr i) dead made = dead && nat_lt made 18446744073709551615

abbrev pub without_tails : List CodeItem → Bool → ℕ → Kept
without_tails [] dead made = record { made = made; items = [] }
without_tails (x ∷ rest) dead made =
    if is_lost x dead made
    then without_tails rest (dead_behind x dead) (made + 1)
    else put_first x (without_tails rest (dead_behind x dead) made)

-- what is kept, behind what was kept before
abbrev pub all_kept : List CodeItem → Kept → Kept
all_kept before k = record { made = k.made; items = before ++ k.items }
