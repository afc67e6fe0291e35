-- Which questions the parse of a subtree asks: those of the subtree's root, and those of nodes below its list, which are all answered no.
use Rattle.std.specs.Prelude.{ℕ, ◌+◌, ◌-◌, ◌==◌, ◌&&◌, nat_lt, List, [], ◌∷◌, Bool, true, false, if◌then◌else◌}
use Rattle.lr_check_sets.specs.Automaton.{Production, Candidate, shift, reduce, size_of}

-- A kid's tree asks below its list, at these depths. Where its parent's list so far has so many symbols, the deepest of them is the
-- parent's: these questions its root answers
abbrev pub root_no : ℕ → List ℕ → List Bool
root_no size [] = []
root_no size (d ∷ ds) = if d + 1 == size then false ∷ root_no size ds else root_no size ds

-- and those go further down
abbrev pub further : ℕ → List ℕ → List ℕ
further size [] = []
further size (d ∷ ds) = if nat_lt d size then further size ds else (d - size) ∷ further size ds

-- the reduction of a whole list of so many symbols to the class
abbrev pub is_wanted : ℕ → ℕ → Production → Bool
is_wanted size c r = (size_of r == size) && (r.left == c)

-- what the list's root is asked until that reduction is taken: each time no, and yes at the reduction itself
abbrev pub answers_to : List Candidate → ℕ → ℕ → List Bool
answers_to [] size c = []
answers_to (shift ∷ cs) size c = []
answers_to (reduce r ∷ cs) size c =
    if is_wanted size c r then (if r.asks then true ∷ [] else [])
    else if size_of r == size then false ∷ answers_to cs size c
    else answers_to cs size c

-- at which depths below the list it is asked before: by the right sides that are longer
abbrev pub depths_to : List Candidate → ℕ → ℕ → List ℕ
depths_to [] size c = []
depths_to (shift ∷ cs) size c = []
depths_to (reduce r ∷ cs) size c =
    if is_wanted size c r then []
    else if nat_lt size (size_of r) then (size_of r - size - 1) ∷ depths_to cs size c
    else depths_to cs size c
