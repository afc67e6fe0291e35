-- Entries as the code holds them: kinds beside attributes.
use Rattle.std.specs.Prelude.{ℕ, nat_lt, List, [], ◌∷◌, Option, Some, None, Bool, true, slice_get}
use Rattle.std.specs.List.{list_all}
use Rattle.gg_base.specs.declared.limits.TheConstants.{NEED_LIMIT}
use Rattle.md_reader.specs.declared.types.Kind.{Kind}
use Rattle.sel_target.specs.declared.attr.Attr.{Attr}
use Rattle.sel_target.specs.declared.attr.Attr.TheVariants as attr
use Rattle.sel_parse_desk.specs.Entries.{Entry}

abbrev pub joined : {O : Type 0} → List (Option Kind) → List (Attr O) → List (Entry O)
joined [] hs = []
joined (k ∷ ks) [] = []
joined (k ∷ ks) (h ∷ hs) = record { kind = k; attr = h } ∷ joined ks hs

-- a frame word that stands for a register is one that an operand can name
abbrev pub is_low : {O : Type 0} → Attr O → Bool
is_low (attr.InSlot w) = nat_lt w NEED_LIMIT
is_low a = true

abbrev pub are_low : {O : Type 0} → List (Attr O) → Bool
are_low hs = list_all is_low hs

-- the entry at a place
abbrev pub entry_at : {O : Type 0} → List (Entry O) → Option ℕ → Option (Entry O)
entry_at es None = None
entry_at es (Some i) = slice_get es i

-- its attribute, where there is one
abbrev pub attr_in : {O : Type 0} → Option (Entry O) → Attr O
attr_in None = attr.Nothing
attr_in (Some e) = e.attr
