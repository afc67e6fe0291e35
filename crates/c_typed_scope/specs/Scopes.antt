-- What names stand for.
-- These are rules of C themselves, which the relations of typing cite: a name stands for its innermost declaration.
use Rattle.std.specs.Prelude.{ℕ, ◌-◌, Bool, List, [], ◌∷◌, ◌++◌, length, take, Option, Some, None, is_some, slice_index_or, if◌then◌else◌}
use Rattle.std.specs.Str.{bytes_eq}
use Rattle.std.specs.Global.{Vec}
use Rattle.c_typed_scope.specs.declared.entry.Entry.{Entry}

abbrev pub named_entries : List (Vec ℕ × Entry) → List (List ℕ × Entry)
named_entries [] = []
named_entries (e ∷ rest) = (e.0.items, e.1) ∷ named_entries rest

-- what a name of a block stands for
abbrev pub find : List (List ℕ × Entry) → List ℕ → Option Entry
find [] name = None
find (e ∷ rest) name = if bytes_eq name e.0 then Some e.1 else find rest name

-- the blocks that are open, the innermost apart
pub record Scope : Type 0 where
  pub outer : List (List (List ℕ × Entry))
  pub here : List (List ℕ × Entry)

abbrev pub later : {A : Type 0} → Option A → Option A → Option A
later None x = x
later (Some y) x = Some y

-- what a name stands for in the blocks, of which the last is the innermost
abbrev pub find_outer : List (List (List ℕ × Entry)) → List ℕ → Option Entry
find_outer [] name = None
find_outer (b ∷ rest) name = later (find_outer rest name) (find b name)

-- the innermost declaration of a name
unfoldable pub lookup : Scope → List ℕ → Option Entry
lookup s name = later (find s.here name) (find_outer s.outer name)

-- whether the innermost block declares a name
unfoldable pub is_taken : Scope → List ℕ → Bool
is_taken s name = is_some (find s.here name)

unfoldable pub with_name : List ℕ → Entry → Scope → Scope
with_name name e s = record { outer = s.outer; here = s.here ++ (name, e) ∷ [] }

-- a block begins
unfoldable pub enter : Scope → Scope
enter s = record { outer = s.outer ++ s.here ∷ []; here = [] }

-- the innermost block ends
unfoldable pub leave : Scope → Scope
leave s = record { outer = take (length s.outer - 1) s.outer; here = slice_index_or s.outer (length s.outer - 1) s.here }
