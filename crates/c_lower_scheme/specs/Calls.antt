-- Calls, and which of their arguments are saved.
use Rattle.std.specs.Prelude.{ℕ, suc, List, [], ◌∷◌, ◌++◌, length, Bool, true, false, not, ◌||◌, ◌&&◌}
use Rattle.c_types.specs.declared.types.CType.{CType}
use Rattle.c_types.specs.declared.typed.Callee.{Callee}
use Rattle.c_types.specs.declared.typed.Callee.TheVariants as callees
use Rattle.c_lower_scheme.specs.Trees.{Tree, Loc, Item, Push, Call, Save, breaks, stable}
use Rattle.c_lower_scheme.specs.Parts.{Lowered, Passing, Emitted, Destination, InLocal, AsResult, Releasing, behind_low, is_nil, delivered}
use Rattle.c_lower_scheme.specs.Saving.{saving, saved, next_if}
use Rattle.c_lower_scheme.specs.Places.{fitted}

-- what is called, by its number: `putchar` and `getchar` stand behind the program's functions
abbrev pub callee_number : ℕ → Callee → ℕ
callee_number count (callees.Defined f) = f
callee_number count callees.Putchar = count
callee_number count callees.Getchar = suc count

-- the last argument is pushed first
abbrev pub pushes : List Tree → List Item → List Item
pushes [] is = is
pushes (w ∷ ws) is = pushes ws (Push w ∷ is)

abbrev pub called_drop : ℕ → Passing → Emitted
called_drop f p = record { items = p.items ++ pushes p.trees (Call f (length p.trees) ∷ []); temps = p.temps; labels = p.labels }

-- a call's result is saved directly behind it
abbrev pub called_low : ℕ → Passing → Lowered
called_low f p = record {
  items = p.items ++ pushes p.trees (Call f (length p.trees) ∷ Save p.temps ∷ []);
  tree =
      Loc p.temps;
  temps = suc p.temps;
  labels = p.labels;
}

-- or straight in the local that it goes to
abbrev pub called_deliver : Destination → ℕ → Passing → Emitted
called_deliver (InLocal n) f p = record {
  items = p.items ++ pushes p.trees (Call f (length p.trees) ∷ Save n ∷ []);
  temps = p.temps;
  labels = p.labels;
}
called_deliver AsResult f p = delivered AsResult (called_low f p)
called_deliver (Releasing pointer n) f p = delivered (Releasing pointer n) (called_low f p)

-- an argument is converted to its parameter's type
abbrev pub passed_as : List CType → Tree → Tree
passed_as [] w = w
passed_as (t ∷ ts) w = fitted t w

abbrev pub others : List CType → List CType
others [] = []
others (t ∷ ts) = ts

abbrev pub no_arguments : ℕ → ℕ → Passing
no_arguments t l = record { items = []; trees = []; quiet = true; temps = t; labels = l }

-- one more argument in front
abbrev pub pass_so : Bool → Lowered → Passing → Passing
pass_so b p q = record {
  items = p.items ++ (saving b q.temps p.tree ++ q.items);
  trees = saved b q.temps p.tree ∷ q.trees;
  quiet = is_nil p.items && q.quiet;
  temps = next_if b q.temps;
  labels = q.labels;
}

-- the number of automatic locals, behind which the temporaries stand, and the number of functions
module _ (size count : ℕ) where
  -- The last argument is not saved, nor a stable one, nor one that cannot break where those behind it only save.
  abbrev pub must_pass_by : Tree → Bool → List Tree → Bool
  must_pass_by w quiet [] = false
  must_pass_by w quiet (v ∷ vs) = not (stable size w || (quiet && not (breaks w)))

  abbrev pub must_pass : Tree → Passing → Bool
  must_pass w q = must_pass_by w q.quiet q.trees

  abbrev pub pass_on : Lowered → Passing → Passing
  pass_on p q = pass_so (must_pass p.tree q) p q

  abbrev pub pass_behind : Lowered → (ℕ → ℕ → Passing) → Passing
  pass_behind p f = pass_on p (behind_low p f)
