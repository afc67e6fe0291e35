-- That places, assignments and calls are calm where their parts are.
use Rattle.std.proofs.Common.{◌≡◌, ℕ, List, [], ◌∷◌, refl}
use Rattle.std.specs.Prelude.{Bool, true, false, not, ◌&&◌, ◌||◌, ◌==◌, if◌then◌else◌}
use Rattle.std.proofs.lemmas.Bool.{not-false}
use Rattle.gg_base.proofs.Facts.{false_true, first_false}
use Rattle.c_types.specs.declared.types.CType.{CType}
use Rattle.c_types.specs.declared.typed.Variable.{Variable}
use Rattle.c_types.specs.declared.typed.Variable.TheVariants as variables
use Rattle.c_types.specs.declared.typed.Direction.{Direction}
use Rattle.c_types.specs.declared.typed.Direction.TheVariants as directions
use Rattle.c_types.specs.declared.typed.Moment.{Moment}
use Rattle.c_types.specs.declared.typed.Moment.TheVariants as moments
use Rattle.c_types.specs.declared.typed.ArithmeticOperator.TheVariants as ariths
use Rattle.c_types.specs.Constants.{scale}
use Rattle.c_lower_scheme.specs.Trees.{Tree, Num, Loc, Bin, Item, divides, reads, breaks, stable, is_leaf}
use Rattle.c_lower_scheme.specs.Parts.{Lowered, Where, InLoc, InArg, InMem, Located, Passing, Assignable, over, Destination, InLocal, AsResult, Releasing}
use Rattle.c_lower_scheme.specs.Saving.{saved, next_if}
use Rattle.c_lower_scheme.specs.Places.{read_from, assign_to, address_tree, in_block, where_of, found, pointed, read_low, address_low, holding, held}
use Rattle.c_lower_scheme.specs.Values.{scaled_by, advance, advance_by, retreat, apart, step, must}
use Rattle.c_lower_scheme.specs.Calls.{pushes, called_drop, called_low, passed_as, pass_so, called_deliver}
use Rattle.c_lower_scheme.specs.Assignments.{ready_so, update_so, store_drop, store_low_at, store_low, must_hold, must_keep, step_tree, step_ready, step_low}
use Rattle.c_lower_scheme.proofs.Facts.{leaf_inert}
use Rattle.c_lower_calm.proofs.Trees.{Apart, IsCalm, IsCalmItem, AreCalm, none, next, behind}
use Rattle.c_lower_calm.proofs.Parts.{CalmLow, CalmFound, CalmReady, inert_apart, calm_saving, calm_saved, calm_fitted, over_calm, must_apart, delivered_calm}

-- the address of an offset in the block is calm, and does not divide
block_by : (b : Bool) (size o : ℕ)
    → IsCalm (if b then Loc size else Bin ariths.Add (Loc size) (Num o)) × (divides (if b then Loc size else Bin ariths.Add (Loc size) (Num o)) ≡ false)
block_by true size o = (tt, refl)
block_by false size o = ((tt, tt, λ e. refl), refl)

pub calm_block : (size o : ℕ) → IsCalm (in_block size o)
calm_block size o = (block_by (o == 0) size o).0

pub block_apart : (size o : ℕ) (w : Tree) → Apart (in_block size o) w
block_apart size o w = inert_apart (in_block size o) w (block_by (o == 0) size o).1

pub calm_where : (size : ℕ) (v : Variable) → IsCalm (address_tree (where_of size v))
calm_where size (variables.Automatic n) = tt
calm_where size (variables.Parameter n) = tt
calm_where size (variables.Global n) = tt
calm_where size (variables.Static n) = tt
calm_where size (variables.InBlock o) = calm_block size o

calm_read : (ty : CType) (s : Where) → IsCalm (address_tree s) → IsCalm (read_from ty s)
calm_read ty (InLoc n) h = tt
calm_read ty (InArg n) h = tt
calm_read ty (InMem a) h = h

pub found_calm : (size : ℕ) (ty : CType) (v : Variable) (t l : ℕ) → CalmFound (found ty (where_of size v) t l)
found_calm size ty v t l = record { place = calm_where size v; items = none }

pub pointed_calm : (ty : CType) {p : Lowered} → CalmLow p → CalmFound (pointed ty p)
pointed_calm ty h = record { place = h.tree; items = h.items }

pub read_calm : {p : Located} → CalmFound p → CalmLow (read_low p)
read_calm {p = p} h = record { tree = calm_read p.type p.place h.place; items = h.items }

pub address_calm : {p : Located} → CalmFound p → CalmLow (address_low p)
address_calm h = record { tree = h.place; items = h.items }

calm_holding : (b : Bool) (u : ℕ) (s : Where) → IsCalm (address_tree s) → AreCalm (holding b u s)
calm_holding b u (InLoc n) h = none
calm_holding b u (InArg n) h = none
calm_holding b u (InMem a) h = calm_saving b u a h

calm_held : (b : Bool) (u : ℕ) (s : Where) → IsCalm (address_tree s) → IsCalm (address_tree (held b u s))
calm_held b u (InLoc n) h = tt
calm_held b u (InArg n) h = tt
calm_held b u (InMem a) h = calm_saved b u a h

assign_calm : (ty : CType) (s : Where) (w : Tree) → IsCalm (address_tree s) → IsCalm w → Apart (address_tree s) w → IsCalmItem (assign_to ty s w)
assign_calm ty (InLoc n) w h g a = calm_fitted ty w g
assign_calm ty (InArg n) w h g a = calm_fitted ty w g
assign_calm ty (InMem m) w h g a = (h, g, a)

pub store_drop_calm : {r : Assignable} → CalmReady r → AreCalm (store_drop r).items
store_drop_calm {r = r} h = behind h.items (next (assign_calm r.type r.place r.value h.place h.value h.apart) none)

store_low_at_calm : (s : Where) {r : Assignable} → IsCalm (address_tree s) → CalmReady r → CalmLow (store_low_at s r)
store_low_at_calm (InLoc x) {r = r} place h = record { tree = tt; items = behind h.items (next (calm_fitted r.type r.value h.value) none) }
store_low_at_calm (InArg x) {r = r} place h = record { tree = tt; items = behind h.items (next (calm_fitted r.type r.value h.value) none) }
store_low_at_calm (InMem a) {r = r} place h = record {
  tree = tt;
  items = behind h.items (next (calm_fitted r.type r.value h.value) (next (place, tt, λ e. refl) none));
}

pub store_low_calm : {r : Assignable} → CalmReady r → CalmLow (store_low r)
store_low_calm {r = r} h = store_low_at_calm r.place h.place h

calm_step : (by : Direction) (v : Tree) (n : ℕ) → IsCalm v → IsCalm (step by v (Num n))
calm_step directions.Up v n h = (h, tt, λ e. refl)
calm_step directions.Down v n h = (h, tt, λ e. refl)

-- an address that stands twice does not divide
keep_inert : (c : Bool) (u : ℕ) (a : Tree) → (c ≡ false → is_leaf a ≡ true) → divides (saved c u a) ≡ false
keep_inert true u a h = refl
keep_inert false u a h = leaf_inert a (h refl)

not_false_and : (a b : Bool) → not (a && b) ≡ false → a ≡ true
not_false_and true b e = refl
not_false_and false b e = absurd (cc)

-- reading such a place does not divide either
read_inert : (ty : CType) (s : Where) → divides (address_tree s) ≡ false → divides (read_from ty s) ≡ false
read_inert ty (InLoc n) h = refl
read_inert ty (InArg n) h = refl
read_inert ty (InMem a) h = h

saved_inert : (c : Bool) (u : ℕ) (w : Tree) → divides w ≡ false → divides (saved c u w) ≡ false
saved_inert true u w h = refl
saved_inert false u w h = h

module _ (size count : ℕ) where
  held_apart : (between : Bool) (is : List Item) (w : Tree) (u : ℕ) (s : Where)
      → Apart (address_tree (held (must_hold size count between is w s) u s)) w
  held_apart between is w u (InLoc n) = false_true
  held_apart between is w u (InArg n) = false_true
  held_apart between is w u (InMem a) = by (must size count is a w || (between && breaks a)) (λ e. must_apart size count is a w (first_false (must size count is a w) (between && breaks a) e))
    where
      by : (c : Bool) → (c ≡ false → Apart a w) → Apart (saved c u a) w
      by true h = false_true
      by false h = h refl

  pub assigned_calm : (between : Bool) {p : Located} {q : Lowered} → CalmFound p → CalmLow q → CalmReady (ready_so (must_hold size count between q.items q.tree p.place) p q)
  assigned_calm between {p = p} {q = q} h g =
      let c : Bool = must_hold size count between q.items q.tree p.place in
      record {
        place = calm_held c q.temps p.place h.place;
        value = g.tree;
        apart = held_apart between q.items q.tree q.temps p.place;
        items = behind h.items (behind (calm_holding c q.temps p.place h.place) g.items);
      }

  kept_inert : (is : List Item) (s : Where) (u : ℕ) → divides (address_tree (held (must_keep size count is s) u s)) ≡ false
  kept_inert is (InLoc n) u = refl
  kept_inert is (InArg n) u = refl
  kept_inert [] (InMem a) u = keep_inert (not (is_leaf a)) u a (not-false (is_leaf a))
  kept_inert (i ∷ is) (InMem a) u = keep_inert (not (is_leaf a && stable size a)) u a (not_false_and (is_leaf a) (stable size a))

  pub update_calm : (c : Bool) (f : Tree → Tree → Tree) → ((v w : Tree) → IsCalm v → IsCalm w → Apart v w → IsCalm (f v w)) → {p : Located} {q : Lowered}
      → CalmFound p → CalmLow q → CalmReady (update_so (must_keep size count q.items p.place) c f p q)
  update_calm c f keeps {p = p} {q = q} h g =
      let b : Bool = must_keep size count q.items p.place in
      let s : Where = held b q.temps p.place in
      let u : ℕ = next_if b q.temps in
      let old : Tree = read_from p.type s in
      let still = kept_inert q.items p.place q.temps in
      let read = calm_read p.type s (calm_held b q.temps p.place h.place) in
      let left = inert_apart (saved c u old) q.tree (saved_inert c u old (read_inert p.type s still)) in
      record {
        place = calm_held b q.temps p.place h.place;
        value = keeps (saved c u old) q.tree (calm_saved c u old read) g.tree left;
        apart = inert_apart (address_tree s) (f (saved c u old) q.tree) still;
        items = behind h.items (behind (calm_holding b q.temps p.place h.place) (behind (calm_saving c u old read) g.items));
      }

  step_keeps : (by : Direction) (v w : Tree) → IsCalm v → IsCalm w → Apart v w → IsCalm (step by v w)
  step_keeps directions.Up v w h g a = (h, g, a)
  step_keeps directions.Down v w h g a = (h, g, a)

  pub step_ready_calm : (by : Direction) {p : Located} → CalmFound p → CalmReady (step_ready size count by p)
  step_ready_calm by h = update_calm false (step by) (step_keeps by) h (record { tree = tt; items = none })

  pub step_low_calm : (m : Moment) (by : Direction) {p : Located} → CalmFound p → CalmLow (step_low size count m by p)
  step_low_calm moments.Before by {p = p} h =
      let b : Bool = must_keep size count [] p.place in
      let s : Where = held b p.temps p.place in
      let u : ℕ = next_if b p.temps in
      let place = calm_held b p.temps p.place h.place in
      let new : Tree = step_tree size count by p.type (Loc u) in
      let stored = assign_calm p.type s new place (calm_step by (Loc u) (scale p.type) tt) (inert_apart (address_tree s) new (kept_inert [] p.place p.temps)) in
      record {
        tree = tt;
        items = behind h.items (behind (calm_holding b p.temps p.place h.place) (next (calm_read p.type s place) (next stored none)));
      }
  step_low_calm moments.After by h = store_low_calm (step_ready_calm by h)

-- scaled sums
scaled_calm : (s : ℕ) (w : Tree) → IsCalm w → IsCalm (scaled_by s w)
scaled_calm s w h = by (s == 1)
  where
    by : (b : Bool) → IsCalm (if b then w else Bin ariths.Multiply (Num s) w)
    by true = h
    by false = (tt, h, false_true)

scaled_reads : (s : ℕ) (w : Tree) → reads w ≡ false → reads (scaled_by s w) ≡ false
scaled_reads s w h = by (s == 1)
  where
    by : (b : Bool) → reads (if b then w else Bin ariths.Multiply (Num s) w) ≡ false
    by true = h
    by false = h

scaled_divides : (s : ℕ) (w : Tree) → divides (scaled_by s w) ≡ true → divides w ≡ true
scaled_divides s w = by (s == 1)
  where
    by : (b : Bool) → divides (if b then w else Bin ariths.Multiply (Num s) w) ≡ true → divides w ≡ true
    by true h = h
    by false h = h

pub advance_calm : (ty : CType) (v w : Tree) → IsCalm v → IsCalm w → Apart v w → IsCalm (advance ty v w)
advance_calm ty v w h g a = (h, scaled_calm (scale ty) w g, λ e. scaled_reads (scale ty) w (a e))

pub retreat_calm : (ty : CType) (v w : Tree) → IsCalm v → IsCalm w → Apart v w → IsCalm (retreat ty v w)
retreat_calm ty v w h g a = (h, scaled_calm (scale ty) w g, λ e. scaled_reads (scale ty) w (a e))

pub advance_by_calm : (ty : CType) (v w : Tree) → IsCalm v → IsCalm w → Apart v w → IsCalm (advance_by ty v w)
advance_by_calm ty v w h g a = (scaled_calm (scale ty) v h, g, λ e. a (scaled_divides (scale ty) v e))

pub apart_calm : (ty : CType) (v w : Tree) → IsCalm v → IsCalm w → Apart v w → IsCalm (apart ty v w)
apart_calm ty v w h g a = by (scale ty == 1)
  where
    by : (b : Bool) → IsCalm (if b then Bin ariths.Subtract v w else Bin ariths.Divide (Bin ariths.Subtract v w) (Num (scale ty)))
    by true = (h, g, a)
    by false = ((h, g, a), tt, λ e. refl)

-- the trees of arguments
pub data CalmTrees : List Tree → Type 0 where
  no_trees : CalmTrees []
  more_trees : {w : Tree} {ws : List Tree} (h : IsCalm w) (rest : CalmTrees ws) → CalmTrees (w ∷ ws)

pub record CalmPassing (p : Passing) : Type 0 where
  pub trees : CalmTrees p.trees
  pub items : AreCalm p.items

calm_pushes : {ws : List Tree} {is : List Item} → CalmTrees ws → AreCalm is → AreCalm (pushes ws is)
calm_pushes no_trees g = g
calm_pushes (more_trees h rest) g = calm_pushes rest (next h g)

pub pass_calm : (b : Bool) {p : Lowered} {q : Passing} → CalmLow p → CalmPassing q → CalmPassing (pass_so b p q)
pass_calm b {p = p} {q = q} h g = record {
  trees = more_trees (calm_saved b q.temps p.tree h.tree) g.trees;
  items = behind h.items (behind (calm_saving b q.temps p.tree h.tree) g.items);
}

pub passed_calm : (to : List CType) {p : Lowered} → CalmLow p → CalmLow (over (passed_as to) p)
passed_calm [] h = over_calm (passed_as []) (λ w c. c) h
passed_calm (ty ∷ to) h = over_calm (passed_as (ty ∷ to)) (calm_fitted ty) h

pub called_low_calm : (f : ℕ) {p : Passing} → CalmPassing p → CalmLow (called_low f p)
called_low_calm f {p = p} h = record { tree = tt; items = behind h.items (calm_pushes h.trees (next tt (next tt none))) }

pub called_drop_calm : (f : ℕ) {p : Passing} → CalmPassing p → AreCalm (called_drop f p).items
called_drop_calm f {p = p} h = behind h.items (calm_pushes h.trees (next tt none))

pub called_deliver_calm : (to : Destination) (f : ℕ) {p : Passing} → CalmPassing p → AreCalm (called_deliver to f p).items
called_deliver_calm (InLocal n) f {p = p} h = behind h.items (calm_pushes h.trees (next tt (next tt none)))
called_deliver_calm AsResult f h = delivered_calm AsResult (called_low_calm f h)
called_deliver_calm (Releasing pointer n) f h = delivered_calm (Releasing pointer n) (called_low_calm f h)
