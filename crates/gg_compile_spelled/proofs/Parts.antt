-- That values and conditions have long numbers and small labels where their parts have.
use Rattle.std.proofs.Common.{◌≡◌, ℕ, suc, ◌<◌, ◌≤◌, ◌^◌, List, refl, arith}
use Rattle.std.specs.Prelude.{Bool, true, false, not}
use Rattle.gg_base.specs.declared.relation.Rel.{Rel}
use Rattle.gg_base.proofs.Words.{zero_small}
use Rattle.gg_base.proofs.Facts.{false_true}
use Rattle.c_types.specs.declared.types.Integer.{Integer}
use Rattle.c_types.specs.declared.types.Integer.TheVariants as ints
use Rattle.c_types.specs.declared.types.CType.{CType}
use Rattle.c_lower_scheme.specs.Trees.{Tree, Item, breaks, reads}
use Rattle.c_lower_scheme.specs.Parts.{Lowered, Pair, Emitted, Lowering, due, over, then_done, Destination, InLocal, AsResult, Releasing, delivered}
use Rattle.c_lower_scheme.specs.Saving.{saving, saved}
use Rattle.c_lower_scheme.specs.Places.{integer_of, conv, fitted}
use Rattle.c_lower_scheme.specs.Conditions.{test, dropped, valued, conditional, effective, mapped, chained, same, goal, chain, chain_drop, drop_two, choose, choose_leave, comma}
use Rattle.c_lower_scheme.specs.Conditions.{truth_of, deliver_as, converting, choose_drop, choose_deliver}
use Rattle.c_lower_scheme.specs.Values.{must, joined, binary, relation}
use Rattle.c_lower_scheme.specs.Flow.{two_done}
use Rattle.gg_compile_spelled.proofs.Trees.{IsLong, AreLong, none, next, behind}

pub unit_long : 1 < 2 ^ 32
unit_long = omega arith

-- where a value goes is an object's memory only if the object is there
abbrev pub LongTo : ℕ → Destination → Type 0
LongTo objects (InLocal n) = Unit {0}
LongTo objects AsResult = Unit {0}
LongTo objects (Releasing pointer n) = pointer < objects

module _ (objects most : ℕ) where
  abbrev Long : Tree → Type 0
  Long w = IsLong objects w

  abbrev Items : List Item → Type 0
  Items is = AreLong objects most is

  -- From the label l on. The items' labels are below the bound where the first that is free behind them is not above it.
  pub record LongLow (l : ℕ) (p : Lowered) : Type 0 where
    pub grows : l ≤ p.labels
    pub tree : IsLong objects p.tree
    pub items : p.labels ≤ most → AreLong objects most p.items

  pub record LongTwo (l : ℕ) (p : Pair) : Type 0 where
    pub grows : l ≤ p.labels
    pub first : IsLong objects p.first
    pub second : IsLong objects p.second
    pub items : p.labels ≤ most → AreLong objects most p.items

  -- items alone, whose branches out go to labels below the bound where something holds
  pub record LongEnds (so : Type 0) (l : ℕ) (p : Emitted) : Type 0 where
    pub grows : l ≤ p.labels
    pub items : so → p.labels ≤ most → AreLong objects most p.items

  -- the four ways
  pub record LongWay (e : Lowering) : Type 0 where
    pub low : (t l : ℕ) → LongLow l (e.low t l)
    pub branch : (sense : Bool) (to t l : ℕ) → LongEnds (to < most) l (e.branch sense to t l)
    pub drop : (t l : ℕ) → LongEnds (Unit {0}) l (e.drop t l)
    pub deliver : (to : Destination) (t l : ℕ) → LongEnds (LongTo objects to) l (e.deliver to t l)

  pub long_saving : (b : Bool) (u : ℕ) (w : Tree) → Long w → Items (saving b u w)
  long_saving true u w h = next h none
  long_saving false u w h = none

  pub long_saved : (b : Bool) (u : ℕ) (w : Tree) → Long w → Long (saved b u w)
  long_saved true u w h = tt
  long_saved false u w h = h

  long_conv : (i : Integer) (w : Tree) → Long w → Long (conv i w)
  long_conv ints.Char w h = h
  long_conv ints.UnsignedChar w h = h
  long_conv ints.Short w h = h
  long_conv ints.UnsignedShort w h = h
  long_conv ints.Int w h = h

  pub long_fitted : (t : CType) (w : Tree) → Long w → Long (fitted t w)
  long_fitted t w h = long_conv (integer_of t) w h

  pub due_long : (w : Tree) → Long w → (t l : ℕ) → LongLow l (due w t l)
  due_long w h t l = record { grows = omega arith; tree = h; items = λ le. none }

  pub over_long : (f : Tree → Tree) → ((w : Tree) → Long w → Long (f w)) → (l : ℕ) (p : Lowered) → LongLow l p → LongLow l (over f p)
  over_long f keeps l p h = record { grows = h.grows; tree = keeps p.tree h.tree; items = h.items }

  pub test_long : (sense : Bool) (to l : ℕ) (p : Lowered) → LongLow l p → LongEnds (to < most) l (test sense to p)
  test_long sense to l p h = record { grows = h.grows; items = λ lt le. behind (h.items le) (next (lt, h.tree, zero_small) none) }

  pub delivered_long : (to : Destination) (l : ℕ) (p : Lowered) → LongLow l p → LongEnds (LongTo objects to) l (delivered to p)
  delivered_long (InLocal n) l p h = record { grows = h.grows; items = λ y le. behind (h.items le) (next h.tree none) }
  delivered_long AsResult l p h = record { grows = h.grows; items = λ y le. behind (h.items le) (next h.tree none) }
  delivered_long (Releasing pointer n) l p h = record {
    grows = h.grows;
    items = λ y le. behind (h.items le) (behind (long_saving (reads p.tree) p.temps p.tree h.tree)
        (next (y, tt) (next (long_saved (reads p.tree) p.temps p.tree h.tree) none)));
  }

  dropped_long : (l : ℕ) (p : Lowered) → LongLow l p → LongEnds (Unit {0}) l (dropped p)
  dropped_long l p h = record {
    grows = h.grows;
    items = λ y le. behind (h.items le) (long_saving (breaks p.tree) p.temps p.tree h.tree);
  }

  -- one statement behind another
  pub two_long : (so : Type 0) (l : ℕ) (a b : Emitted) → LongEnds so l a → LongEnds so a.labels b → LongEnds so l (two_done a b)
  two_long so l a b h g =
      let up = h.grows in
      let up' = g.grows in
      record { grows = omega arith; items = λ y le. behind (h.items y (omega arith)) (g.items y le) }

  pub valued_long : (f : ℕ → ℕ → Lowered) → ((t l : ℕ) → LongLow l (f t l)) → LongWay (valued f)
  valued_long f h = record {
    low = h;
    branch = λ sense to t l. test_long sense to l (f t l) (h t l);
    drop = λ t l. dropped_long l (f t l) (h t l);
    deliver = λ to t l. delivered_long to l (f t l) (h t l);
  }

  pub effective_long : (f : ℕ → ℕ → Lowered) (d : ℕ → ℕ → Emitted) → ((t l : ℕ) → LongLow l (f t l)) → ((t l : ℕ) → LongEnds (Unit {0}) l (d t l))
      → LongWay (effective f d)
  effective_long f d h g = record {
    low = h;
    branch = λ sense to t l. test_long sense to l (f t l) (h t l);
    drop = g;
    deliver = λ to t l. delivered_long to l (f t l) (h t l);
  }

  pub conditional_long : (f : Bool → ℕ → ℕ → ℕ → Emitted) (d : ℕ → ℕ → Emitted)
      → ((sense : Bool) (to t l : ℕ) → LongEnds (to < most) l (f sense to t l)) → ((t l : ℕ) → LongEnds (Unit {0}) l (d t l))
      → LongWay (conditional f d)
  conditional_long f d h g = record { low = truth; branch = h; drop = g; deliver = λ to t l. delivered_long to l (truth_of t l (f false l (suc t) (suc l))) (truth t l) }
    where
      truth : (t l : ℕ) → LongLow l (truth_of t l (f false l (suc t) (suc l)))
      truth t l =
          let c = h false l (suc t) (suc l) in
          let up = c.grows in
          record {
            grows = omega arith;
            tree = tt;
            items = λ le.
                let lt : l < most = omega arith in
                next zero_small (behind (c.items lt le) (next unit_long (next lt none)));
          }

  pub mapped_long : (f : Tree → Tree) → ((w : Tree) → Long w → Long (f w)) → (e : Lowering) → LongWay e → LongWay (mapped f e)
  mapped_long f keeps e h = effective_long _ _ (λ t l. over_long f keeps l (e.low t l) (h.low t l)) h.drop

  deliver_as_long : (i : Integer) (e : Lowering) → LongWay e → (to : Destination) (t l : ℕ) → LongEnds (LongTo objects to) l (deliver_as i e to t l)
  deliver_as_long ints.Char e h to t l = delivered_long to l (over (conv ints.Char) (e.low t l)) (over_long (conv ints.Char) (long_conv ints.Char) l (e.low t l) (h.low t l))
  deliver_as_long ints.UnsignedChar e h to t l = delivered_long to l (over (conv ints.UnsignedChar) (e.low t l))
      (over_long (conv ints.UnsignedChar) (long_conv ints.UnsignedChar) l (e.low t l) (h.low t l))
  deliver_as_long ints.Short e h to t l = delivered_long to l (over (conv ints.Short) (e.low t l)) (over_long (conv ints.Short) (long_conv ints.Short) l (e.low t l) (h.low t l))
  deliver_as_long ints.UnsignedShort e h to t l = delivered_long to l (over (conv ints.UnsignedShort) (e.low t l))
      (over_long (conv ints.UnsignedShort) (long_conv ints.UnsignedShort) l (e.low t l) (h.low t l))
  deliver_as_long ints.Int e h to t l = h.deliver to t l

  pub converting_long : (ty : CType) (e : Lowering) → LongWay e → LongWay (converting ty e)
  converting_long ty e h =
      let w : LongWay (mapped (fitted ty) e) = mapped_long (fitted ty) (long_fitted ty) e h in
      record { low = w.low; branch = w.branch; drop = w.drop; deliver = deliver_as_long (integer_of ty) e h }

  pub then_long : (so : Type 0) (l : ℕ) (a b : Emitted) → LongEnds (Unit {0}) l a → LongEnds so a.labels b → LongEnds so l (then_done a b)
  then_long so l a b h g =
      let up = h.grows in
      let up' = g.grows in
      record { grows = omega arith; items = λ y le. behind (h.items tt (omega arith)) (g.items y le) }

  drop_two_long : (a b : Lowering) → LongWay a → LongWay b → (t l : ℕ) → LongEnds (Unit {0}) l (drop_two a b t l)
  drop_two_long a b h g t l =
      let p = a.drop t l in
      then_long (Unit {0}) l p (b.drop p.temps p.labels) (h.drop t l) (g.drop p.temps p.labels)

  chained_long : (turn : Bool) (so : Type 0) (to l : ℕ) (p : Emitted) (f : ℕ → ℕ → Emitted) → LongEnds (goal turn to l < most) (suc l) p
      → LongEnds so p.labels (f p.temps p.labels) → (so → turn ≡ true → to < most) → LongEnds so l (chained turn l p f)
  chained_long true so to l p f h g k =
      let up = h.grows in
      let up' = g.grows in
      record { grows = omega arith; items = λ y le. behind (h.items (k y refl) (omega arith)) (g.items y le) }
  chained_long false so to l p f h g k =
      let up = h.grows in
      let up' = g.grows in
      record {
        grows = omega arith;
        items = λ y le.
            let lt : l < most = omega arith in
            behind (h.items lt (omega arith)) (behind (g.items y le) (next lt none));
      }

  pub chain_long : (stop : Bool) (a b : Lowering) → LongWay a → LongWay b → LongWay (conditional (chain stop a b) (chain_drop a stop b))
  chain_long stop a b h g = conditional_long _ _
      (λ sense to t l.
      let turn : Bool = same stop sense in
      let p : Emitted = a.branch stop (goal turn to l) t (suc l) in
      chained_long turn (to < most) to l p (b.branch sense to) (h.branch stop (goal turn to l) t (suc l))
      (g.branch sense to p.temps p.labels) (λ lt e. lt))
      (λ t l.
      let p : Emitted = a.branch stop l t (suc l) in
      chained_long false (Unit {0}) l l p b.drop (h.branch stop l t (suc l)) (g.drop p.temps p.labels) (λ y e. false_true e))

  pub not_long : (e : Lowering) → LongWay e → LongWay (conditional (λ sense to t l. e.branch (not sense) to t l) e.drop)
  not_long e h = conditional_long _ _ (λ sense to t l. h.branch (not sense) to t l) h.drop

  choice_long : (c a b : Lowering) → LongWay c → LongWay a → LongWay b → (t l : ℕ) → LongLow l ((choose c a b).low t l)
  choice_long c a b f h g t l =
      let p : Emitted = c.branch false l (suc t) (suc (suc l)) in
      let q : Lowered = a.low p.temps p.labels in
      let x = f.branch false l (suc t) (suc (suc l)) in
      let y = h.low p.temps p.labels in
      let z = g.low q.temps q.labels in
      let up = x.grows in
      let up' = y.grows in
      let up'' = z.grows in
      record {
        grows = omega arith;
        tree = tt;
        items = λ le.
            let lt : l < most = omega arith in
            let lt' : suc l < most = omega arith in
            let last = next lt' (next lt (behind (z.items le) (next z.tree (next lt' none)))) in
            behind (x.items lt (omega arith)) (behind (y.items (omega arith)) (next y.tree last));
      }

  choose_drop_long : (so : Type 0) (l : ℕ) (p q r : Emitted) → LongEnds (l < most) (suc (suc l)) p → LongEnds so p.labels q → LongEnds so q.labels r
      → LongEnds so l (choose_drop l p q r)
  choose_drop_long so l p q r x y z =
      let up = x.grows in
      let up' = y.grows in
      let up'' = z.grows in
      record {
        grows = omega arith;
        items = λ k le.
            let lt : l < most = omega arith in
            let lt' : suc l < most = omega arith in
            let last = next lt' (next lt (behind (z.items k le) (next lt' none))) in
            behind (x.items lt (omega arith)) (behind (y.items k (omega arith)) last);
      }

  choose_leave_long : (so : Type 0) (l : ℕ) (p q r : Emitted) → LongEnds (l < most) (suc (suc l)) p → LongEnds so p.labels q → LongEnds so q.labels r
      → LongEnds so l (choose_leave l p q r)
  choose_leave_long so l p q r x y z =
      let up = x.grows in
      let up' = y.grows in
      let up'' = z.grows in
      record {
        grows = omega arith;
        items = λ k le.
            let lt : l < most = omega arith in
            behind (x.items lt (omega arith)) (behind (y.items k (omega arith)) (next lt (z.items k le)));
      }

  choose_deliver_long : (to : Destination) (l : ℕ) (p q r : Emitted) → LongEnds (l < most) (suc (suc l)) p → LongEnds (LongTo objects to) p.labels q
      → LongEnds (LongTo objects to) q.labels r → LongEnds (LongTo objects to) l (choose_deliver to l p q r)
  choose_deliver_long (InLocal n) l p q r x y z = choose_drop_long (Unit {0}) l p q r x y z
  choose_deliver_long AsResult l p q r x y z = choose_leave_long (Unit {0}) l p q r x y z
  choose_deliver_long (Releasing pointer n) l p q r x y z = choose_leave_long (pointer < objects) l p q r x y z

  pub choose_long : (c a b : Lowering) → LongWay c → LongWay a → LongWay b → LongWay (choose c a b)
  choose_long c a b f h g = record {
    low = choice_long c a b f h g;
    branch = λ sense to t l. test_long sense to l ((choose c a b).low t l) (choice_long c a b f h g t l);
    drop = λ t l.
        let p : Emitted = c.branch false l t (suc (suc l)) in
        let q : Emitted = a.drop p.temps p.labels in
        choose_drop_long (Unit {0}) l p q (b.drop q.temps q.labels) (f.branch false l t (suc (suc l))) (h.drop p.temps p.labels) (g.drop q.temps q.labels);
    deliver = λ to t l.
        let p : Emitted = c.branch false l t (suc (suc l)) in
        let q : Emitted = a.deliver to p.temps p.labels in
        choose_deliver_long to l p q (b.deliver to q.temps q.labels) (f.branch false l t (suc (suc l))) (h.deliver to p.temps p.labels) (g.deliver to q.temps q.labels);
  }

  pub comma_long : (a b : Lowering) → LongWay a → LongWay b → LongWay (comma a b)
  comma_long a b h g = record {
    low = λ t l.
        let p : Emitted = a.drop t l in
        let x = h.drop t l in
        let y = g.low p.temps p.labels in
        let up = x.grows in
        let up' = y.grows in
        record { grows = omega arith; tree = y.tree; items = λ le. behind (x.items tt (omega arith)) (y.items le) };
    branch = λ sense to t l.
        let p : Emitted = a.drop t l in
        then_long (to < most) l p (b.branch sense to p.temps p.labels) (h.drop t l) (g.branch sense to p.temps p.labels);
    drop = drop_two_long a b h g;
    deliver = λ to t l.
        let p : Emitted = a.drop t l in
        then_long (LongTo objects to) l p (b.deliver to p.temps p.labels) (h.drop t l) (g.deliver to p.temps p.labels);
  }

  module _ (size count : ℕ) where
    joined_long : (a b : Lowering) → LongWay a → LongWay b → (t l : ℕ) → LongTwo l (joined size count a b t l)
    joined_long a b h g t l =
        let p : Lowered = a.low t l in
        let q : Lowered = b.low p.temps p.labels in
        let c : Bool = must size count q.items p.tree q.tree in
        let x = h.low t l in
        let y = g.low p.temps p.labels in
        let up = x.grows in
        let up' = y.grows in
        record {
          grows = omega arith;
          first = long_saved c q.temps p.tree x.tree;
          second = y.tree;
          items = λ le. behind (x.items (omega arith)) (behind (long_saving c q.temps p.tree x.tree) (y.items le));
        }

    pub binary_long : (f : Tree → Tree → Tree) → ((v w : Tree) → Long v → Long w → Long (f v w)) → (a b : Lowering)
        → LongWay a → LongWay b → LongWay (binary size count f a b)
    binary_long f keeps a b h g = valued_long _ (λ t l.
        let p : Pair = joined size count a b t l in
        let c = joined_long a b h g t l in
        record { grows = c.grows; tree = keeps p.first p.second c.first c.second; items = c.items })

    pub relation_long : (r : Rel) (a b : Lowering) → LongWay a → LongWay b → LongWay (relation size count r a b)
    relation_long r a b h g = conditional_long _ _
        (λ sense to t l.
        let c = joined_long a b h g t l in
        record { grows = c.grows; items = λ lt le. behind (c.items le) (next (lt, c.first, c.second) none) })
        (drop_two_long a b h g)
