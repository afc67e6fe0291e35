-- Parts of expressions: their items name what is there, with calls in order.
use Rattle.std.proofs.Common.{ℕ, suc, ◌≤◌, ◌<◌, List, [], ◌∷◌, ◌++◌, length, arith}
use Rattle.std.specs.Prelude.{Bool, true, false, ◌==◌, if◌then◌else◌}
use Rattle.gg_base.specs.declared.relation.Rel.{Rel}
use Rattle.c_types.specs.declared.types.CType.{CType}
use Rattle.c_types.specs.declared.types.Integer.{Integer}
use Rattle.c_types.specs.declared.types.Integer.TheVariants as ints
use Rattle.c_types.specs.declared.typed.ArithmeticOperator.TheVariants as ariths
use Rattle.c_types.specs.declared.typed.Direction.{Direction}
use Rattle.c_types.specs.declared.typed.Direction.TheVariants as directions
use Rattle.c_types.specs.Constants.{scale}
use Rattle.c_lower_scheme.specs.Trees.{Tree, Num, Gaddr, Loc, Bin, Item, Label, AssignLoc, AssignArg, AssignMem, Cbr, Push, reads, breaks, Ret}
use Rattle.c_lower_scheme.specs.Parts.{Lowered, Pair, Where, InLoc, InArg, InMem, Located, Passing, Emitted, Assignable, over, over_two, Destination, InLocal, AsResult, Releasing, delivered}
use Rattle.c_lower_scheme.specs.Saving.{saving, saved, next_if}
use Rattle.c_lower_scheme.specs.Places.{integer_of, conv, fitted, read_from, assign_to, address_tree, in_block, holding, held, read_low, address_low}
use Rattle.c_lower_scheme.specs.Conditions.{truth_of, test, compare, dropped}
use Rattle.c_lower_scheme.specs.Values.{scaled_by, advance, advance_by, retreat, apart, step}
use Rattle.c_lower_scheme.specs.Values
use Rattle.c_lower_scheme.specs.Calls.{pushes, pass_so, called_drop, called_low, called_deliver}
use Rattle.c_lower_scheme.specs.Assignments.{ready_so, update_so, postfix_so, store_drop, store_low_at, store_low}
use Rattle.c_lower_scheme.proofs.Facts.{next_grows}
use Rattle.c_lower_valid.proofs.Named.{Scene, Names, ItemNames, AllName, names_more, all_more, all_append}
use Rattle.c_lower_valid.proofs.Orders.{Orderly, IsQuiet, orderly_nil, orderly_append, orderly_more, orderly_call, orderly_saved}

module _ (scene : Scene) where
  abbrev pub Ok : ℕ → Tree → Type 0
  Ok u w = Names scene u w

  abbrev pub OkItem : ℕ → Item → Type 0
  OkItem u i = ItemNames scene u i

  pub ok_up : (u v : ℕ) (w : Tree) → u ≤ v → Ok u w → Ok v w
  ok_up u v w le h = names_more scene u v w le h

  pub record Fine (u : ℕ) (is : List Item) : Type 0 where
    pub names : AllName scene u is
    pub order : Orderly is

  pub fine_nil : (u : ℕ) → Fine u []
  fine_nil u = record { names = tt; order = orderly_nil }

  pub fine_append : (u : ℕ) (a b : List Item) → Fine u a → Fine u b → Fine u (a ++ b)
  fine_append u a b h g = record { names = all_append scene u a b h.names g.names; order = orderly_append a b h.order g.order }

  pub fine_up : (u v : ℕ) (is : List Item) → u ≤ v → Fine u is → Fine v is
  fine_up u v is le h = record { names = all_more scene u v is le h.names; order = h.order }

  pub fine_more : (u : ℕ) (i : Item) (is : List Item) → IsQuiet i → OkItem u i → Fine u is → Fine u (i ∷ is)
  fine_more u i is q n h = record { names = (n, h.names); order = orderly_more i is q h.order }

  pub fine_one : (u : ℕ) (i : Item) → IsQuiet i → OkItem u i → Fine u (i ∷ [])
  fine_one u i q n = fine_more u i [] q n (fine_nil u)

  pub fine_behind : (u : ℕ) (a : List Item) (i : Item) → Fine u a → IsQuiet i → OkItem u i → Fine u (a ++ (i ∷ []))
  fine_behind u a i h q n = fine_append u a (i ∷ []) h (fine_one u i q n)

  pub fine_three : (u : ℕ) (a b c : List Item) → Fine u a → Fine u b → Fine u c → Fine u (a ++ (b ++ c))
  fine_three u a b c h g f = fine_append u a (b ++ c) h (fine_append u b c g f)

  -- where a value is kept
  abbrev pub OkWhere : ℕ → Where → Type 0
  OkWhere u (InLoc n) = n < u
  OkWhere u (InArg n) = n < scene.params
  OkWhere u (InMem a) = Ok u a

  pub where_up : (u v : ℕ) (s : Where) → u ≤ v → OkWhere u s → OkWhere v s
  where_up u v (InLoc n) le h = omega arith
  where_up u v (InArg n) le h = h
  where_up u v (InMem a) le h = ok_up u v a le h

  abbrev pub AllOk : ℕ → List Tree → Type 0
  AllOk u [] = Unit {0}
  AllOk u (w ∷ ws) = Ok u w × AllOk u ws

  trees_up : (u v : ℕ) (ws : List Tree) → u ≤ v → AllOk u ws → AllOk v ws
  trees_up u v [] le h = tt
  trees_up u v (w ∷ ws) le h = (ok_up u v w le h.0, trees_up u v ws le h.1)

  -- parts whose first free temporary was t
  pub record FineLow (t : ℕ) (p : Lowered) : Type 0 where
    pub grows : t ≤ p.temps
    pub items : Fine p.temps p.items
    pub tree : Ok p.temps p.tree

  pub record FineTwo (t : ℕ) (p : Pair) : Type 0 where
    pub grows : t ≤ p.temps
    pub items : Fine p.temps p.items
    pub first : Ok p.temps p.first
    pub second : Ok p.temps p.second

  pub record FineFound (t : ℕ) (p : Located) : Type 0 where
    pub grows : t ≤ p.temps
    pub items : Fine p.temps p.items
    pub place : OkWhere p.temps p.place

  pub record FinePassing (t : ℕ) (p : Passing) : Type 0 where
    pub grows : t ≤ p.temps
    pub items : Fine p.temps p.items
    pub trees : AllOk p.temps p.trees

  pub record FineDone (t : ℕ) (p : Emitted) : Type 0 where
    pub grows : t ≤ p.temps
    pub items : Fine p.temps p.items

  pub record FineReady (t : ℕ) (p : Assignable) : Type 0 where
    pub grows : t ≤ p.temps
    pub items : Fine p.temps p.items
    pub place : OkWhere p.temps p.place
    pub value : Ok p.temps p.value

  pub fine_saving : (b : Bool) (u : ℕ) (w : Tree) → Ok u w → Fine (next_if b u) (saving b u w)
  fine_saving true u w h = fine_one (suc u) (AssignLoc u w) tt (omega arith, ok_up u (suc u) w (omega arith) h)
  fine_saving false u w h = fine_nil u

  pub ok_saved : (b : Bool) (u : ℕ) (w : Tree) → Ok u w → Ok (next_if b u) (saved b u w)
  ok_saved true u w h = omega arith
  ok_saved false u w h = h

  ok_conv : (i : Integer) (u : ℕ) (w : Tree) → Ok u w → Ok u (conv i w)
  ok_conv ints.Char u w h = h
  ok_conv ints.UnsignedChar u w h = h
  ok_conv ints.Short u w h = h
  ok_conv ints.UnsignedShort u w h = h
  ok_conv ints.Int u w h = h

  pub ok_fitted : (ty : CType) (u : ℕ) (w : Tree) → Ok u w → Ok u (fitted ty w)
  ok_fitted ty u w h = ok_conv (integer_of ty) u w h

  ok_if : (b : Bool) (u : ℕ) (v w : Tree) → Ok u v → Ok u w → Ok u (if b then v else w)
  ok_if true u v w h g = h
  ok_if false u v w h g = g

  -- an offset in the block, whose address a local keeps
  pub ok_block : (size o u : ℕ) → size < u → Ok u (in_block size o)
  ok_block size o u h = ok_if (o == 0) u (Loc size) (Bin ariths.Add (Loc size) (Num o)) h (h, tt)

  ok_scaled : (s u : ℕ) (w : Tree) → Ok u w → Ok u (scaled_by s w)
  ok_scaled s u w h = ok_if (s == 1) u w (Bin ariths.Multiply (Num s) w) h (tt, h)

  -- what is made of two trees
  pub ok_advance : (ty : CType) (u : ℕ) (a b : Tree) → Ok u a → Ok u b → Ok u (advance ty a b)
  ok_advance ty u a b h g = (h, ok_scaled (scale ty) u b g)

  pub ok_advance_by : (ty : CType) (u : ℕ) (a b : Tree) → Ok u a → Ok u b → Ok u (advance_by ty a b)
  ok_advance_by ty u a b h g = (ok_scaled (scale ty) u a h, g)

  pub ok_retreat : (ty : CType) (u : ℕ) (a b : Tree) → Ok u a → Ok u b → Ok u (retreat ty a b)
  ok_retreat ty u a b h g = (h, ok_scaled (scale ty) u b g)

  pub ok_apart : (ty : CType) (u : ℕ) (a b : Tree) → Ok u a → Ok u b → Ok u (apart ty a b)
  ok_apart ty u a b h g = ok_if (scale ty == 1) u (Bin ariths.Subtract a b)
      (Bin ariths.Divide (Bin ariths.Subtract a b) (Num (scale ty))) (h, g) ((h, g), tt)

  pub ok_step : (by : Direction) (u : ℕ) (a b : Tree) → Ok u a → Ok u b → Ok u (step by a b)
  ok_step directions.Up u a b h g = (h, g)
  ok_step directions.Down u a b h g = (h, g)

  pub fine_over : (f : Tree → Tree) → ((u : ℕ) (w : Tree) → Ok u w → Ok u (f w)) → (t : ℕ) (p : Lowered) → FineLow t p → FineLow t (over f p)
  fine_over f k t p h = record { grows = h.grows; items = h.items; tree = k p.temps p.tree h.tree }

  pub fine_over_two : (f : Tree → Tree → Tree) → ((u : ℕ) (a b : Tree) → Ok u a → Ok u b → Ok u (f a b)) → (t : ℕ) (p : Pair)
      → FineTwo t p → FineLow t (over_two f p)
  fine_over_two f k t p h = record { grows = h.grows; items = h.items; tree = k p.temps p.first p.second h.first h.second }

  pub fine_truth : (t l : ℕ) (p : Emitted) → FineDone (suc t) p → FineLow t (truth_of t l p)
  fine_truth t l p h =
      let le = h.grows in
      let lt : t < p.temps = omega arith in
      record {
        grows = omega arith;
        items = fine_more p.temps (AssignLoc t (Num 0)) _ tt (lt, tt)
            (fine_append p.temps p.items _ h.items (fine_more p.temps (AssignLoc t (Num 1)) _ tt (lt, tt)
            (fine_one p.temps (Label l) tt tt)));
        tree = lt;
      }

  pub fine_test : (sense : Bool) (to t : ℕ) (p : Lowered) → FineLow t p → FineDone t (test sense to p)
  fine_test sense to t p h = record {
    grows = h.grows;
    items = fine_behind p.temps p.items (Cbr _ to p.tree (Num 0)) h.items tt
        (h.tree, tt);
  }

  pub fine_compare : (r : Rel) (to t : ℕ) (p : Pair) → FineTwo t p → FineDone t (compare r to p)
  fine_compare r to t p h = record {
    grows = h.grows;
    items = fine_behind p.temps p.items (Cbr r to p.first p.second) h.items tt
        (h.first, h.second);
  }

  -- where a value may go
  abbrev pub Reaches : ℕ → Destination → Type 0
  Reaches t (InLocal n) = n < t
  Reaches t AsResult = Unit {0}
  Reaches t (Releasing pointer n) = (pointer < scene.objects) × (n < t)

  pub reaches_up : (t u : ℕ) (to : Destination) → t ≤ u → Reaches t to → Reaches u to
  reaches_up t u (InLocal n) le h = omega arith
  reaches_up t u AsResult le h = tt
  reaches_up t u (Releasing pointer n) le h = (h.0, let lt = h.1 in omega arith)

  pub fine_delivered : (to : Destination) (t : ℕ) (p : Lowered) → Reaches t to → FineLow t p → FineDone t (delivered to p)
  fine_delivered (InLocal n) t p lt h =
      let le = h.grows in
      let here : n < p.temps = omega arith in
      record { grows = h.grows; items = fine_behind p.temps p.items (AssignLoc n p.tree) h.items tt (here, h.tree) }
  fine_delivered AsResult t p lt h = record { grows = h.grows; items = fine_behind p.temps p.items (Ret p.tree) h.items tt h.tree }
  fine_delivered (Releasing pointer n) t p r h =
      let b = reads p.tree in
      let u = next_if b p.temps in
      let up = next_grows b p.temps in
      let le = h.grows in
      let lt = r.1 in
      let here : n < u = omega arith in
      record {
        grows = omega arith;
        items = fine_three u p.items (saving b p.temps p.tree) _ (fine_up p.temps u p.items up h.items) (fine_saving b p.temps p.tree h.tree)
            (fine_more u (AssignMem ints.Int (Gaddr pointer) (Loc n)) _ tt (r.0, here)
            (fine_one u (Ret (saved b p.temps p.tree)) tt (ok_saved b p.temps p.tree h.tree)));
      }

  pub fine_dropped : (t : ℕ) (p : Lowered) → FineLow t p → FineDone t (dropped p)
  fine_dropped t p h =
      let b = breaks p.tree in
      let g = next_grows b p.temps in
      let le = h.grows in
      record {
        grows = omega arith;
        items = fine_append (next_if b p.temps) p.items (saving b p.temps p.tree)
            (fine_up p.temps (next_if b p.temps) p.items g h.items) (fine_saving b p.temps p.tree h.tree);
      }

  pub fine_join : (size count : ℕ) (b : Bool) (t : ℕ) (p q : Lowered) → FineLow t p → FineLow p.temps q
      → FineTwo t (Values.join_so size count b p q)
  fine_join size count b t p q h g =
      let u = next_if b q.temps in
      let up = next_grows b q.temps in
      let le = h.grows in
      let le' = g.grows in
      let w = ok_up p.temps q.temps p.tree le' h.tree in
      record {
        grows = omega arith;
        items = fine_three u p.items (saving b q.temps p.tree) q.items (fine_up p.temps u p.items (omega arith) h.items)
            (fine_saving b q.temps p.tree w) (fine_up q.temps u q.items up g.items);
        first = ok_saved b q.temps p.tree w;
        second = ok_up q.temps u q.tree up g.tree;
      }

  -- places
  pub fine_holding : (b : Bool) (u : ℕ) (s : Where) → OkWhere u s → Fine (next_if b u) (holding b u s)
  fine_holding b u (InLoc n) h = fine_nil (next_if b u)
  fine_holding b u (InArg n) h = fine_nil (next_if b u)
  fine_holding b u (InMem a) h = fine_saving b u a h

  pub ok_held : (b : Bool) (u : ℕ) (s : Where) → OkWhere u s → OkWhere (next_if b u) (held b u s)
  ok_held b u (InLoc n) h = let le = next_grows b u in omega arith
  ok_held b u (InArg n) h = h
  ok_held b u (InMem a) h = ok_saved b u a h

  pub ok_read : (ty : CType) (u : ℕ) (s : Where) → OkWhere u s → Ok u (read_from ty s)
  ok_read ty u (InLoc n) h = h
  ok_read ty u (InArg n) h = h
  ok_read ty u (InMem a) h = h

  pub ok_address : (u : ℕ) (s : Where) → OkWhere u s → Ok u (address_tree s)
  ok_address u (InLoc n) h = tt
  ok_address u (InArg n) h = tt
  ok_address u (InMem a) h = h

  ok_assign : (ty : CType) (u : ℕ) (s : Where) (w : Tree) → OkWhere u s → Ok u w → OkItem u (assign_to ty s w)
  ok_assign ty u (InLoc n) w h g = (h, ok_fitted ty u w g)
  ok_assign ty u (InArg n) w h g = (h, ok_fitted ty u w g)
  ok_assign ty u (InMem a) w h g = (h, g)

  quiet_assign : (ty : CType) (s : Where) (w : Tree) → IsQuiet (assign_to ty s w)
  quiet_assign ty (InLoc n) w = tt
  quiet_assign ty (InArg n) w = tt
  quiet_assign ty (InMem a) w = tt

  fine_assign : (ty : CType) (u : ℕ) (s : Where) (w : Tree) → OkWhere u s → Ok u w → Fine u (assign_to ty s w ∷ [])
  fine_assign ty u s w h g = fine_one u (assign_to ty s w) (quiet_assign ty s w) (ok_assign ty u s w h g)

  pub fine_read : (t : ℕ) (p : Located) → FineFound t p → FineLow t (read_low p)
  fine_read t p h = record { grows = h.grows; items = h.items; tree = ok_read p.type p.temps p.place h.place }

  pub fine_address : (t : ℕ) (p : Located) → FineFound t p → FineLow t (address_low p)
  fine_address t p h = record { grows = h.grows; items = h.items; tree = ok_address p.temps p.place h.place }

  pub fine_ready : (b : Bool) (t : ℕ) (p : Located) (q : Lowered) → FineFound t p → FineLow p.temps q → FineReady t (ready_so b p q)
  fine_ready b t p q h g =
      let u = next_if b q.temps in
      let up = next_grows b q.temps in
      let le = h.grows in
      let le' = g.grows in
      let s = where_up p.temps q.temps p.place le' h.place in
      record {
        grows = omega arith;
        items = fine_three u p.items (holding b q.temps p.place) q.items (fine_up p.temps u p.items (omega arith) h.items)
            (fine_holding b q.temps p.place s) (fine_up q.temps u q.items up g.items);
        place = ok_held b q.temps p.place s;
        value = ok_up q.temps u q.tree up g.tree;
      }

  pub fine_update : (b c : Bool) (f : Tree → Tree → Tree) → ((u : ℕ) (x y : Tree) → Ok u x → Ok u y → Ok u (f x y))
      → (t : ℕ) (p : Located) (q : Lowered) → FineFound t p → FineLow p.temps q → FineReady t (update_so b c f p q)
  fine_update b c f k t p q h g =
      let u = next_if b q.temps in
      let v = next_if c u in
      let up = next_grows b q.temps in
      let up' = next_grows c u in
      let le = h.grows in
      let le' = g.grows in
      let s = where_up p.temps q.temps p.place le' h.place in
      let place = ok_held b q.temps p.place s in
      let old = read_from p.type (held b q.temps p.place) in
      let ok_old = ok_read p.type u (held b q.temps p.place) place in
      record {
        grows = omega arith;
        items = fine_three v p.items (holding b q.temps p.place) (saving c u old ++ q.items)
            (fine_up p.temps v p.items (omega arith) h.items)
            (fine_up u v (holding b q.temps p.place) up' (fine_holding b q.temps p.place s))
            (fine_append v (saving c u old) q.items (fine_saving c u old ok_old) (fine_up q.temps v q.items (omega arith) g.items));
        place = where_up u v (held b q.temps p.place) up' place;
        value = k v (saved c u old) q.tree (ok_saved c u old ok_old) (ok_up q.temps v q.tree (omega arith) g.tree);
      }

  pub fine_postfix : (b : Bool) (f : Tree → Tree) → ((u : ℕ) (w : Tree) → Ok u w → Ok u (f w)) → (t : ℕ) (p : Located) → FineFound t p
      → FineLow t (postfix_so b f p)
  fine_postfix b f k t p h =
      let u = next_if b p.temps in
      let up = next_grows b p.temps in
      let le = h.grows in
      let one : u ≤ suc u = omega arith in
      let here : u < suc u = omega arith in
      let place = ok_held b p.temps p.place h.place in
      let old = ok_read p.type u (held b p.temps p.place) place in
      record {
        grows = omega arith;
        items = fine_three (suc u) p.items (holding b p.temps p.place) _
            (fine_up p.temps (suc u) p.items (omega arith) h.items)
            (fine_up u (suc u) (holding b p.temps p.place) one (fine_holding b p.temps p.place h.place))
            (fine_more (suc u) (AssignLoc u (read_from p.type (held b p.temps p.place))) _ tt
            (here, ok_up u (suc u) (read_from p.type (held b p.temps p.place)) one old)
            (fine_assign p.type (suc u) (held b p.temps p.place) (f (Loc u)) (where_up u (suc u) (held b p.temps p.place) one place)
            (k (suc u) (Loc u) here)));
        tree = here;
      }

  pub fine_store_drop : (t : ℕ) (r : Assignable) → FineReady t r → FineDone t (store_drop r)
  fine_store_drop t r h = record {
    grows = h.grows;
    items = fine_append r.temps r.items _ h.items
        (fine_assign r.type r.temps r.place r.value h.place h.value);
  }

  fine_store_at : (s : Where) (t : ℕ) (r : Assignable) → OkWhere r.temps s → FineReady t r → FineLow t (store_low_at s r)
  fine_store_at (InLoc n) t r ok h = record {
    grows = h.grows;
    items = fine_behind r.temps r.items (AssignLoc n (fitted r.type r.value))
        h.items tt (ok, ok_fitted r.type r.temps r.value h.value);
    tree = ok;
  }
  fine_store_at (InArg n) t r ok h = record {
    grows = h.grows;
    items = fine_behind r.temps r.items (AssignArg n (fitted r.type r.value))
        h.items tt (ok, ok_fitted r.type r.temps r.value h.value);
    tree = ok;
  }
  fine_store_at (InMem a) t r ok h =
      let u = r.temps in
      let le = h.grows in
      let one : u ≤ suc u = omega arith in
      let here : u < suc u = omega arith in
      record {
        grows = omega arith;
        items = fine_append (suc u) r.items _ (fine_up u (suc u) r.items one h.items)
            (fine_more (suc u) (AssignLoc u (fitted r.type r.value)) _ tt
            (here, ok_up u (suc u) (fitted r.type r.value) one (ok_fitted r.type u r.value h.value))
            (fine_one (suc u) (AssignMem (integer_of r.type) a (Loc u)) tt (ok_up u (suc u) a one ok, here)));
        tree = here;
      }

  pub fine_store_low : (t : ℕ) (r : Assignable) → FineReady t r → FineLow t (store_low r)
  fine_store_low t r h = fine_store_at r.place t r h.place h

  -- calls
  pub fine_pass : (b : Bool) (t : ℕ) (p : Lowered) (q : Passing) → FineLow t p → FinePassing p.temps q → FinePassing t (pass_so b p q)
  fine_pass b t p q h g =
      let u = next_if b q.temps in
      let up = next_grows b q.temps in
      let le = h.grows in
      let le' = g.grows in
      let w = ok_up p.temps q.temps p.tree le' h.tree in
      record {
        grows = omega arith;
        items = fine_three u p.items (saving b q.temps p.tree) q.items (fine_up p.temps u p.items (omega arith) h.items)
            (fine_saving b q.temps p.tree w) (fine_up q.temps u q.items up g.items);
        trees = (ok_saved b q.temps p.tree w, trees_up q.temps u q.trees up g.trees);
      }

  name_pushes : (u : ℕ) (ws : List Tree) (is : List Item) → AllOk u ws → AllName scene u is → AllName scene u (pushes ws is)
  name_pushes u [] is h g = g
  name_pushes u (w ∷ ws) is h g = name_pushes u ws (Push w ∷ is) h.1 (h.0, g)

  pub fine_called_drop : (f t : ℕ) (p : Passing) → scene.callable f (length p.trees) → FinePassing t p → FineDone t (called_drop f p)
  fine_called_drop f t p c h = record {
    grows = h.grows;
    items = fine_append p.temps p.items _ h.items (record
        { names = name_pushes p.temps p.trees _ h.trees (c, tt); order = orderly_call p.trees f });
  }

  pub fine_called_low : (f t : ℕ) (p : Passing) → scene.callable f (length p.trees) → FinePassing t p → FineLow t (called_low f p)
  fine_called_low f t p c h =
      let u = p.temps in
      let le = h.grows in
      let one : u ≤ suc u = omega arith in
      let here : u < suc u = omega arith in
      record {
        grows = omega arith;
        items = fine_append (suc u) p.items _ (fine_up u (suc u) p.items one h.items)
            (record {
              names = name_pushes (suc u) p.trees _ (trees_up u (suc u) p.trees one h.trees) (c, (here, tt));
              order = orderly_saved p.trees f u;
            });
        tree = here;
      }

  pub fine_called_deliver : (to : Destination) (f t : ℕ) (p : Passing) → Reaches t to → scene.callable f (length p.trees) → FinePassing t p → FineDone t (called_deliver to f p)
  fine_called_deliver (InLocal n) f t p lt c h =
      let le = h.grows in
      let here : n < p.temps = omega arith in
      record {
        grows = h.grows;
        items = fine_append p.temps p.items _ h.items (record
            { names = name_pushes p.temps p.trees _ h.trees (c, (here, tt)); order = orderly_saved p.trees f n });
      }
  fine_called_deliver AsResult f t p lt c h = fine_delivered AsResult t (called_low f p) tt (fine_called_low f t p c h)
  fine_called_deliver (Releasing pointer n) f t p r c h = fine_delivered (Releasing pointer n) t (called_low f p) r (fine_called_low f t p c h)
