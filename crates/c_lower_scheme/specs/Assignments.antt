-- Assignments for their value and for their effect, and places that are read before.
use Rattle.std.specs.Prelude.{ℕ, suc, List, [], ◌∷◌, ◌++◌, Bool, true, false, not, ◌||◌, ◌&&◌, Option, Some, None}
use Rattle.c_types.specs.declared.types.CType.{CType}
use Rattle.c_types.specs.declared.typed.Moment.{Moment}
use Rattle.c_types.specs.declared.typed.Moment.TheVariants as moments
use Rattle.c_types.specs.declared.typed.Direction.{Direction}
use Rattle.c_types.specs.Constants.{scale}
use Rattle.c_lower_scheme.specs.Trees.{Tree, Num, Loc, Arg, Item, AssignLoc, AssignArg, AssignMem, breaks, stable}
use Rattle.c_lower_scheme.specs.Trees.{is_leaf}
use Rattle.c_lower_scheme.specs.Parts.{Lowered, Where, InLoc, InArg, InMem, Located, Emitted, Assignable, Lowering}
use Rattle.c_lower_scheme.specs.Parts.{InLocal, behind_found, due, is_nil}
use Rattle.c_lower_scheme.specs.Saving.{saving, saved, next_if}
use Rattle.c_lower_scheme.specs.Places.{integer_of, fitted, read_from, assign_to, holding, held, local_in}
use Rattle.c_lower_scheme.specs.Conditions.{effective}
use Rattle.c_lower_scheme.specs.Values.{step, must}

abbrev pub ready_so : Bool → Located → Lowered → Assignable
ready_so b p q = record {
  items = p.items ++ (holding b q.temps p.place ++ q.items);
  type = p.type;
  place = held b q.temps p.place;
  value = q.tree;
  temps = next_if b q.temps;
  labels = q.labels;
}

-- the place is read first; what it holds is saved where the other side has items
abbrev pub update_so : Bool → Bool → (Tree → Tree → Tree) → Located → Lowered → Assignable
update_so b c f p q = record {
  items = p.items ++ (holding b q.temps p.place ++ (saving c (next_if b q.temps) (read_from p.type (held b q.temps p.place)) ++ q.items));
  type = p.type;
  place = held b q.temps p.place;
  value = f (saved c (next_if b q.temps) (read_from p.type (held b q.temps p.place))) q.tree;
  temps = next_if c (next_if b q.temps);
  labels = q.labels;
}

abbrev pub postfix_so : Bool → (Tree → Tree) → Located → Lowered
postfix_so b f p = record {
  items = p.items ++ (holding b p.temps p.place ++ (AssignLoc (next_if b p.temps) (read_from p.type (held b p.temps p.place)) ∷
      assign_to p.type (held b p.temps p.place)
      (f (Loc (next_if b p.temps))) ∷ []));
  tree = Loc (next_if b p.temps);
  temps = suc (next_if b p.temps);
  labels = p.labels;
}

-- an assignment for its effect: one root
abbrev pub store_drop : Assignable → Emitted
store_drop r = record { items = r.items ++ (assign_to r.type r.place r.value ∷ []); temps = r.temps; labels = r.labels }

-- and for its value, which a local holds: the variable itself, or a temporary
abbrev pub store_low_at : Where → Assignable → Lowered
store_low_at (InLoc n) r = record {
  items = r.items ++ (AssignLoc n (fitted r.type r.value) ∷ []);
  tree = Loc n;
  temps = r.temps;
  labels = r.labels;
}
store_low_at (InArg n) r = record {
  items = r.items ++ (AssignArg n (fitted r.type r.value) ∷ []);
  tree = Arg n;
  temps = r.temps;
  labels = r.labels;
}
store_low_at (InMem a) r = record {
  items = r.items ++ (AssignLoc r.temps (fitted r.type r.value) ∷ AssignMem (integer_of r.type) a (Loc r.temps) ∷ []);
  tree = Loc r.temps;
  temps = suc r.temps;
  labels = r.labels;
}

abbrev pub store_low : Assignable → Lowered
store_low r = store_low_at r.place r

-- a value is delivered to that variable
abbrev pub fill_drop : Located → Emitted → Emitted
fill_drop p q = record { items = p.items ++ q.items; temps = q.temps; labels = q.labels }

abbrev pub fill_low : ℕ → Located → Emitted → Lowered
fill_low n p q = record { items = p.items ++ q.items; tree = Loc n; temps = q.temps; labels = q.labels }

-- the number of automatic locals, behind which the temporaries stand, and the number of functions
module _ (size count : ℕ) where
  -- The address of a place is saved before a value that is assigned to it: as the first of two parts, and, where
  -- something is done between the two, if it may break.
  abbrev pub must_hold : Bool → List Item → Tree → Where → Bool
  must_hold between is w (InLoc n) = false
  must_hold between is w (InArg n) = false
  must_hold between is w (InMem a) = must size count is a w || (between && breaks a)

  abbrev pub assign_ready : Bool → Located → Lowered → Assignable
  assign_ready between p q = ready_so (must_hold between q.items q.tree p.place) p q

  -- The address of a place that is read and then assigned to stands twice, so it is a leaf, which nothing changes between the two.
  abbrev pub stays : List Item → Tree → Bool
  stays [] a = is_leaf a
  stays (i ∷ is) a = is_leaf a && stable size a

  abbrev pub must_keep : List Item → Where → Bool
  must_keep is (InLoc n) = false
  must_keep is (InArg n) = false
  must_keep is (InMem a) = not (stays is a)

  abbrev pub update_ready : (Tree → Tree → Tree) → Located → Lowered → Assignable
  update_ready f p q = update_so (must_keep q.items p.place) (not (is_nil q.items)) f p q

  -- `x++`: the value before the step is saved
  abbrev pub postfix : (Tree → Tree) → Located → Lowered
  postfix f p = postfix_so (must_keep [] p.place) f p

  abbrev pub assigned : Bool → Located → (ℕ → ℕ → Lowered) → Assignable
  assigned between p f = assign_ready between p (behind_found p f)

  abbrev pub assign_low : Option ℕ → Located → Lowering → Lowered
  assign_low None p e = store_low (assigned true p e.low)
  assign_low (Some n) p e = fill_low n p (behind_found p (e.deliver (InLocal n)))

  abbrev pub assign_drop : Option ℕ → Located → Lowering → Emitted
  assign_drop None p e = store_drop (assigned false p e.low)
  assign_drop (Some n) p e = fill_drop p (behind_found p (e.deliver (InLocal n)))

  abbrev pub local_of : Located → Option ℕ
  local_of p = local_in (integer_of p.type) p.place

  abbrev pub updated : (CType → Tree → Tree → Tree) → Located → (ℕ → ℕ → Lowered) → Assignable
  updated f p g = update_ready (f p.type) p (behind_found p g)

  abbrev pub update_by : (CType → Tree → Tree → Tree) → (ℕ → ℕ → Located) → Lowering → Lowering
  update_by f p e = effective (λ t l. store_low (updated f (p t l) e.low)) (λ t l. store_drop (updated f (p t l) e.low))

  abbrev pub step_tree : Direction → CType → Tree → Tree
  step_tree by ty w = step by w (Num (scale ty))

  abbrev pub step_ready : Direction → Located → Assignable
  step_ready by p = update_ready (step by) p (behind_found p (due (Num (scale p.type))))

  abbrev pub step_low : Moment → Direction → Located → Lowered
  step_low moments.Before by p = postfix (step_tree by p.type) p
  step_low moments.After by p = store_low (step_ready by p)
