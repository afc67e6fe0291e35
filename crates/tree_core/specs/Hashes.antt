-- Hashes of names, which are looked at part by part.
use Rattle.std.specs.Prelude.{◌≡◌, ◌≢◌, ◌⊎◌, ℕ, ◌+◌, ◌*◌, ◌/◌, ◌%◌, ◌^◌, ◌<◌, List, fold, length, slice_index_or}
use Rattle.tree_core.specs.declared.program.TreeFn.{TreeFn}
use Rattle.tree_core.specs.Valid.{named}

abbrev pub hashed : ℕ → ℕ → ℕ
hashed hash byte = (hash * 0x01000193 + byte) % 2 ^ 32

abbrev pub hash_of : List ℕ → ℕ
hash_of name = fold hashed 0 name

-- the hashes of a part are those with one upper half, modulo the number of parts; a slot of the part is a lower half
abbrev pub part_of : ℕ → ℕ → ℕ
part_of parts hash = (hash / 65536) % parts

abbrev pub slot_of : ℕ → ℕ
slot_of hash = hash % 65536

-- the name of the function at a place is none of those before it, or it is counted once
abbrev pub IsSettled : List TreeFn → ℕ → TreeFn → Type 0
IsSettled fs k f =
    ((i : ℕ) (d : TreeFn) → i < k → (slice_index_or fs i d).name ≢ f.name) ⊎ (named f.name fs ≡ 1)

-- so is each name of the part
abbrev pub AreSettled : ℕ → ℕ → List TreeFn → Type 0
AreSettled parts part fs =
    (k : ℕ) (d : TreeFn) → k < length fs → part_of parts (hash_of (slice_index_or fs k d).name) ≡ part
    → IsSettled fs k (slice_index_or fs k d)
