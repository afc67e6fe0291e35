-- That places, assignments and calls have long numbers and small labels where their parts have.
use Rattle.std.proofs.Common.{ℕ, ◌<◌, ◌≤◌, ◌^◌, List, [], ◌∷◌, arith}
use Rattle.std.specs.Prelude.{Bool, true, false, ◌==◌, if◌then◌else◌}
use Rattle.gg_base.proofs.Words.{zero_small}
use Rattle.c_types.specs.declared.types.CType.{CType}
use Rattle.c_types.specs.declared.typed.Variable.{Variable}
use Rattle.c_types.specs.declared.typed.Variable.TheVariants as variables
use Rattle.c_types.specs.declared.typed.Direction.{Direction}
use Rattle.c_types.specs.declared.typed.Direction.TheVariants as directions
use Rattle.c_types.specs.declared.typed.Moment.{Moment}
use Rattle.c_types.specs.declared.typed.Moment.TheVariants as moments
use Rattle.c_types.specs.declared.typed.ArithmeticOperator.TheVariants as ariths
use Rattle.c_types.specs.Constants.{scale}
use Rattle.c_types.proofs.Sizes.{scale_small}
use Rattle.c_sound.specs.Stands.{IsThere}
use Rattle.c_lower_scheme.specs.Trees.{Tree, Num, Loc, Bin, Item}
use Rattle.c_lower_scheme.specs.Parts.{Lowered, Where, InLoc, InArg, InMem, Located, Passing, Assignable, over, Destination, InLocal, AsResult, Releasing}
use Rattle.c_lower_scheme.specs.Saving.{saved, next_if}
use Rattle.c_lower_scheme.specs.Places.{read_from, assign_to, address_tree, in_block, where_of, found, pointed, read_low, address_low, holding, held}
use Rattle.c_lower_scheme.specs.Values.{scaled_by, advance, advance_by, retreat, apart, step}
use Rattle.c_lower_scheme.specs.Calls.{pushes, called_drop, called_low, passed_as, pass_so, called_deliver}
use Rattle.c_lower_scheme.specs.Assignments.{ready_so, update_so, store_drop, store_low_at, store_low, must_keep, step_tree, step_ready, step_low}
use Rattle.gg_compile_spelled.proofs.Trees.{IsLong, IsLongItem, AreLong, none, next, behind}
use Rattle.gg_compile_spelled.proofs.Parts.{LongTo, LongLow, LongEnds, long_saving, long_saved, long_fitted, over_long, due_long, delivered_long}

module _ (objects most : ℕ) where
  abbrev Long : Tree → Type 0
  Long w = IsLong objects w

  abbrev Items : List Item → Type 0
  Items is = AreLong objects most is

  abbrev LongAt : Where → Type 0
  LongAt s = IsLong objects (address_tree s)

  pub record LongFound (l : ℕ) (p : Located) : Type 0 where
    pub grows : l ≤ p.labels
    pub place : IsLong objects (address_tree p.place)
    pub items : p.labels ≤ most → AreLong objects most p.items

  pub record LongReady (l : ℕ) (r : Assignable) : Type 0 where
    pub grows : l ≤ r.labels
    pub place : IsLong objects (address_tree r.place)
    pub value : IsLong objects r.value
    pub items : r.labels ≤ most → AreLong objects most r.items

  -- an offset in the block is a longword
  pub long_block : (size o : ℕ) → o < 2 ^ 32 → Long (in_block size o)
  long_block size o small = by (o == 0)
    where
      by : (b : Bool) → Long (if b then Loc size else Bin ariths.Add (Loc size) (Num o))
      by true = tt
      by false = (tt, small)

  -- a variable's object is there
  pub long_where : (size params block : ℕ) → block ≤ 262144 → (v : Variable) → IsThere objects params block v → LongAt (where_of size v)
  long_where size params block small (variables.Automatic n) h = zero_small
  long_where size params block small (variables.Parameter n) h = zero_small
  long_where size params block small (variables.Global n) h = h
  long_where size params block small (variables.Static n) h = h
  long_where size params block small (variables.InBlock o) h = long_block size o (omega arith)

  long_read : (ty : CType) (s : Where) → LongAt s → Long (read_from ty s)
  long_read ty (InLoc n) h = tt
  long_read ty (InArg n) h = tt
  long_read ty (InMem a) h = h

  pub found_long : (size params block : ℕ) → block ≤ 262144 → (ty : CType) (v : Variable) → IsThere objects params block v → (t l : ℕ)
      → LongFound l (found ty (where_of size v) t l)
  found_long size params block small ty v h t l = record { grows = omega arith; place = long_where size params block small v h; items = λ le. none }

  pub pointed_long : (ty : CType) (l : ℕ) (p : Lowered) → LongLow objects most l p → LongFound l (pointed ty p)
  pointed_long ty l p h = record { grows = h.grows; place = h.tree; items = h.items }

  pub read_long : (l : ℕ) (p : Located) → LongFound l p → LongLow objects most l (read_low p)
  read_long l p h = record { grows = h.grows; tree = long_read p.type p.place h.place; items = h.items }

  pub address_long : (l : ℕ) (p : Located) → LongFound l p → LongLow objects most l (address_low p)
  address_long l p h = record { grows = h.grows; tree = h.place; items = h.items }

  long_holding : (b : Bool) (u : ℕ) (s : Where) → LongAt s → Items (holding b u s)
  long_holding b u (InLoc n) h = none
  long_holding b u (InArg n) h = none
  long_holding b u (InMem a) h = long_saving objects most b u a h

  long_held : (b : Bool) (u : ℕ) (s : Where) → LongAt s → LongAt (held b u s)
  long_held b u (InLoc n) h = zero_small
  long_held b u (InArg n) h = zero_small
  long_held b u (InMem a) h = long_saved objects most b u a h

  assign_long : (ty : CType) (s : Where) (w : Tree) → LongAt s → Long w → IsLongItem objects most (assign_to ty s w)
  assign_long ty (InLoc n) w h g = long_fitted objects most ty w g
  assign_long ty (InArg n) w h g = long_fitted objects most ty w g
  assign_long ty (InMem m) w h g = (h, g)

  pub store_drop_long : (l : ℕ) (r : Assignable) → LongReady l r → LongEnds objects most (Unit {0}) l (store_drop r)
  store_drop_long l r h = record {
    grows = h.grows;
    items = λ y le. behind (h.items le) (next (assign_long r.type r.place r.value h.place h.value) none);
  }

  store_low_at_long : (s : Where) (l : ℕ) (r : Assignable) → LongAt s → LongReady l r → LongLow objects most l (store_low_at s r)
  store_low_at_long (InLoc x) l r place h = record {
    grows = h.grows;
    tree = tt;
    items = λ le. behind (h.items le) (next (long_fitted objects most r.type r.value h.value) none);
  }
  store_low_at_long (InArg x) l r place h = record {
    grows = h.grows;
    tree = tt;
    items = λ le. behind (h.items le) (next (long_fitted objects most r.type r.value h.value) none);
  }
  store_low_at_long (InMem a) l r place h = record {
    grows = h.grows;
    tree = tt;
    items = λ le. behind (h.items le) (next (long_fitted objects most r.type r.value h.value) (next (place, tt) none));
  }

  pub store_low_long : (l : ℕ) (r : Assignable) → LongReady l r → LongLow objects most l (store_low r)
  store_low_long l r h = store_low_at_long r.place l r h.place h

  pub ready_long : (b : Bool) (l : ℕ) (p : Located) (q : Lowered) → LongFound l p → LongLow objects most p.labels q → LongReady l (ready_so b p q)
  ready_long b l p q h g =
      let up = h.grows in
      let up' = g.grows in
      record {
        grows = omega arith;
        place = long_held b q.temps p.place h.place;
        value = g.tree;
        items = λ le. behind (h.items (omega arith)) (behind (long_holding b q.temps p.place h.place) (g.items le));
      }

  pub update_long : (b c : Bool) (f : Tree → Tree → Tree) → ((v w : Tree) → Long v → Long w → Long (f v w)) → (l : ℕ) (p : Located) (q : Lowered)
      → LongFound l p → LongLow objects most p.labels q → LongReady l (update_so b c f p q)
  update_long b c f keeps l p q h g =
      let s : Where = held b q.temps p.place in
      let u : ℕ = next_if b q.temps in
      let old : Tree = read_from p.type s in
      let read = long_read p.type s (long_held b q.temps p.place h.place) in
      let up = h.grows in
      let up' = g.grows in
      record {
        grows = omega arith;
        place = long_held b q.temps p.place h.place;
        value = keeps (saved c u old) q.tree (long_saved objects most c u old read) g.tree;
        items = λ le. behind (h.items (omega arith))
            (behind (long_holding b q.temps p.place h.place) (behind (long_saving objects most c u old read) (g.items le)));
      }

  step_keeps : (by : Direction) (v w : Tree) → Long v → Long w → Long (step by v w)
  step_keeps directions.Up v w h g = (h, g)
  step_keeps directions.Down v w h g = (h, g)

  module _ (size count : ℕ) where
    pub step_ready_long : (by : Direction) (l : ℕ) (p : Located) → LongFound l p → LongReady l (step_ready size count by p)
    step_ready_long by l p h = update_long _ false (step by) (step_keeps by) l p _ h
        (due_long objects most (Num (scale p.type)) (scale_small p.type) p.temps p.labels)

    pub step_low_long : (m : Moment) (by : Direction) (l : ℕ) (p : Located) → LongFound l p → LongLow objects most l (step_low size count m by p)
    step_low_long moments.Before by l p h =
        let b : Bool = must_keep size count [] p.place in
        let s : Where = held b p.temps p.place in
        let u : ℕ = next_if b p.temps in
        let place = long_held b p.temps p.place h.place in
        let new : Tree = step_tree size count by p.type (Loc u) in
        let stored = assign_long p.type s new place (step_keeps by (Loc u) (Num (scale p.type)) tt (scale_small p.type)) in
        record {
          grows = h.grows;
          tree = tt;
          items = λ le. behind (h.items le)
              (behind (long_holding b p.temps p.place h.place) (next (long_read p.type s place) (next stored none)));
        }
    step_low_long moments.After by l p h = store_low_long l (step_ready size count by p) (step_ready_long by l p h)

  -- scaled sums
  scaled_long : (s : ℕ) (w : Tree) → s < 2 ^ 32 → Long w → Long (scaled_by s w)
  scaled_long s w lt h = by (s == 1)
    where
      by : (b : Bool) → Long (if b then w else Bin ariths.Multiply (Num s) w)
      by true = h
      by false = (lt, h)

  pub advance_long : (ty : CType) (v w : Tree) → Long v → Long w → Long (advance ty v w)
  advance_long ty v w h g = (h, scaled_long (scale ty) w (scale_small ty) g)

  pub retreat_long : (ty : CType) (v w : Tree) → Long v → Long w → Long (retreat ty v w)
  retreat_long ty v w h g = (h, scaled_long (scale ty) w (scale_small ty) g)

  pub advance_by_long : (ty : CType) (v w : Tree) → Long v → Long w → Long (advance_by ty v w)
  advance_by_long ty v w h g = (scaled_long (scale ty) v (scale_small ty) h, g)

  pub apart_long : (ty : CType) (v w : Tree) → Long v → Long w → Long (apart ty v w)
  apart_long ty v w h g = by (scale ty == 1)
    where
      by : (b : Bool) → Long (if b then Bin ariths.Subtract v w else Bin ariths.Divide (Bin ariths.Subtract v w) (Num (scale ty)))
      by true = (h, g)
      by false = ((h, g), scale_small ty)

  -- the trees of arguments
  pub data LongTrees : List Tree → Type 0 where
    no_trees : LongTrees []
    more_trees : {w : Tree} {ws : List Tree} (h : IsLong objects w) (rest : LongTrees ws) → LongTrees (w ∷ ws)

  pub record LongPassing (l : ℕ) (p : Passing) : Type 0 where
    pub grows : l ≤ p.labels
    pub trees : LongTrees p.trees
    pub items : p.labels ≤ most → AreLong objects most p.items

  long_pushes : {ws : List Tree} {is : List Item} → LongTrees ws → Items is → Items (pushes ws is)
  long_pushes no_trees g = g
  long_pushes (more_trees h rest) g = long_pushes rest (next h g)

  pub pass_long : (b : Bool) (l : ℕ) (p : Lowered) (q : Passing) → LongLow objects most l p → LongPassing p.labels q → LongPassing l (pass_so b p q)
  pass_long b l p q h g =
      let up = h.grows in
      let up' = g.grows in
      record {
        grows = omega arith;
        trees = more_trees (long_saved objects most b q.temps p.tree h.tree) g.trees;
        items = λ le. behind (h.items (omega arith)) (behind (long_saving objects most b q.temps p.tree h.tree) (g.items le));
      }

  pub passed_long : (to : List CType) (l : ℕ) (p : Lowered) → LongLow objects most l p → LongLow objects most l (over (passed_as to) p)
  passed_long [] l p h = over_long objects most (passed_as []) (λ w c. c) l p h
  passed_long (ty ∷ to) l p h = over_long objects most (passed_as (ty ∷ to)) (long_fitted objects most ty) l p h

  pub called_low_long : (f l : ℕ) (p : Passing) → LongPassing l p → LongLow objects most l (called_low f p)
  called_low_long f l p h = record {
    grows = h.grows;
    tree = tt;
    items = λ le. behind (h.items le) (long_pushes h.trees (next tt (next tt none)));
  }

  pub called_drop_long : (f l : ℕ) (p : Passing) → LongPassing l p → LongEnds objects most (Unit {0}) l (called_drop f p)
  called_drop_long f l p h = record { grows = h.grows; items = λ y le. behind (h.items le) (long_pushes h.trees (next tt none)) }

  pub called_deliver_long : (to : Destination) (f l : ℕ) (p : Passing) → LongPassing l p
      → LongEnds objects most (LongTo objects to) l (called_deliver to f p)
  called_deliver_long (InLocal n) f l p h = record {
    grows = h.grows;
    items = λ y le. behind (h.items le) (long_pushes h.trees (next tt (next tt none)));
  }
  called_deliver_long AsResult f l p h = delivered_long objects most AsResult l (called_low f p) (called_low_long f l p h)
  called_deliver_long (Releasing pointer n) f l p h =
      delivered_long objects most (Releasing pointer n) l (called_low f p) (called_low_long f l p h)
