-- How many temporaries and forks values and conditions have: temporaries by the nodes of their parts, forks by a bound for each part.
use Rattle.std.proofs.Common.{◌≡◌, ℕ, suc, ◌+◌, ◌*◌, ◌≤◌, refl, arith}
use Rattle.std.specs.Prelude.{Bool, true, false}
use Rattle.gg_base.specs.declared.relation.Rel.{Rel}
use Rattle.c_types.specs.declared.types.Integer.{Integer}
use Rattle.c_types.specs.declared.types.Integer.TheVariants as ints
use Rattle.c_types.specs.declared.types.CType.{CType}
use Rattle.c_lower_scheme.specs.Trees.{Tree, reads, breaks}
use Rattle.c_lower_scheme.specs.Parts.{Lowered, Pair, Emitted, Lowering, Destination, InLocal, AsResult, Releasing, due, over, then_done, delivered}
use Rattle.c_lower_scheme.specs.Saving.{saving, saved, next_if}
use Rattle.c_lower_scheme.specs.Places.{integer_of, conv, fitted}
use Rattle.c_lower_scheme.specs.Conditions.{truth_of, test, dropped, valued, conditional, effective, mapped, deliver_as, converting, drop_two}
use Rattle.c_lower_scheme.specs.Values.{join_so, must, binary, relation, joined}
use Rattle.c_lower_bounds.proofs.Trees.{tree_forks, Narrow, none, next, behind}

-- A value of n nodes, from the temporary t on. Twice the temporaries that it takes are at least two less than three times its nodes;
-- its tree has fewer than f forks, and none of its items has more than f.
pub record Within (t n f : ℕ) (p : Lowered) : Type 0 where
  pub temps : 2 + 2 * p.temps ≤ 2 * t + 3 * n
  pub tree : suc (tree_forks p.tree) ≤ f
  pub items : (m : ℕ) → f ≤ m → Narrow m p.items

-- two values
pub record WithinTwo (t n f : ℕ) (p : Pair) : Type 0 where
  pub temps : 2 + 2 * p.temps ≤ 2 * t + 3 * n
  pub trees : 2 + (tree_forks p.first + tree_forks p.second) ≤ f
  pub items : (m : ℕ) → f ≤ m → Narrow m p.items

-- items alone, with so many halves of temporaries to spare
pub record Ends (spare t n f : ℕ) (p : Emitted) : Type 0 where
  pub temps : spare + 2 * p.temps ≤ 2 * t + 3 * n
  pub items : (m : ℕ) → f ≤ m → Narrow m p.items

-- what a value spares that goes to its destination: one that leaves a function with a block may be saved before
abbrev pub spare_of : Destination → ℕ
spare_of (InLocal n) = 2
spare_of AsResult = 2
spare_of (Releasing pointer n) = 0

-- the four ways to lower an expression of n nodes
pub record Bounded (n f : ℕ) (e : Lowering) : Type 0 where
  pub low : (t l : ℕ) → Within t n f (e.low t l)
  pub branch : (sense : Bool) (to t l : ℕ) → Ends 2 t n f (e.branch sense to t l)
  pub drop : (t l : ℕ) → Ends 0 t n f (e.drop t l)
  pub deliver : (to : Destination) (t l : ℕ) → Ends (spare_of to) t n f (e.deliver to t l)

-- an operator keeps the forks of its operand, or adds at most two to those of both operands
abbrev pub Keeps : (Tree → Tree) → Type 0
Keeps f = (w : Tree) → tree_forks (f w) ≡ tree_forks w

abbrev pub AddsTwo : (Tree → Tree → Tree) → Type 0
AddsTwo f = (v w : Tree) → tree_forks (f v w) ≤ 2 + (tree_forks v + tree_forks w)

pub narrow_saving : (b : Bool) (u : ℕ) (w : Tree) (m : ℕ) → suc (tree_forks w) ≤ m → Narrow m (saving b u w)
narrow_saving true u w m h = next h none
narrow_saving false u w m h = none

pub saved_forks : (b : Bool) (u : ℕ) (w : Tree) → tree_forks (saved b u w) ≤ tree_forks w
saved_forks true u w = omega arith
saved_forks false u w = omega arith

pub next_one : (b : Bool) (u : ℕ) → next_if b u ≤ suc u
next_one true u = omega arith
next_one false u = omega arith

conv_forks : (i : Integer) (w : Tree) → tree_forks (conv i w) ≡ tree_forks w
conv_forks ints.Char w = refl
conv_forks ints.UnsignedChar w = refl
conv_forks ints.Short w = refl
conv_forks ints.UnsignedShort w = refl
conv_forks ints.Int w = refl

pub fitted_forks : (t : CType) → Keeps (fitted t)
fitted_forks t w = conv_forks (integer_of t) w

-- more nodes, and a larger bound, than there are
pub ends_more : (s k g : ℕ) {r t n f : ℕ} {p : Emitted} → f ≤ g → s + 3 * n ≤ r + 3 * k → Ends r t n f p → Ends s t k g p
ends_more s k g le room h = record { temps = omega (arith, h.temps); items = λ m le'. h.items m (omega arith) }

pub due_within : (w : Tree) (n f : ℕ) → 1 ≤ n → suc (tree_forks w) ≤ f → (t l : ℕ) → Within t n f (due w t l)
due_within w n f one h t l = record { temps = omega arith; tree = h; items = λ m le. none }

pub over_within : (f : Tree → Tree) → Keeps f → (k g : ℕ) {t n h : ℕ} {p : Lowered} → n ≤ k → h ≤ g → Within t n h p → Within t k g (over f p)
over_within f same k g {p = p} le less h =
    let e = same p.tree in
    record { temps = omega (arith, h.temps); tree = omega (arith, h.tree, e); items = λ m le'. h.items m (omega arith) }

pub test_ends : (sense : Bool) (to : ℕ) {t n f : ℕ} {p : Lowered} → Within t n f p → Ends 2 t n f (test sense to p)
test_ends sense to h = record { temps = h.temps; items = λ m le. behind (h.items m le) (next (omega (arith, h.tree)) none) }

pub delivered_ends : (to : Destination) {t n f : ℕ} {p : Lowered} → Within t n f p → Ends (spare_of to) t n f (delivered to p)
delivered_ends (InLocal x) h = record { temps = h.temps; items = λ m le. behind (h.items m le) (next (omega (arith, h.tree)) none) }
delivered_ends AsResult h = record { temps = h.temps; items = λ m le. behind (h.items m le) (next (omega (arith, h.tree)) none) }
delivered_ends (Releasing pointer x) {p = p} h =
    let one = next_one (reads p.tree) p.temps in
    let less = saved_forks (reads p.tree) p.temps p.tree in
    record {
      temps = omega (arith, h.temps, one);
      items = λ m le.
          let last = next (omega (arith, h.tree)) (next (omega (arith, h.tree, less)) none) in
          behind (h.items m le) (behind (narrow_saving (reads p.tree) p.temps p.tree m (omega (arith, h.tree))) last);
    }

dropped_ends : {t n f : ℕ} {p : Lowered} → Within t n f p → Ends 0 t n f (dropped p)
dropped_ends {p = p} h =
    let one = next_one (breaks p.tree) p.temps in
    record {
      temps = omega (arith, h.temps, one);
      items = λ m le. behind (h.items m le) (narrow_saving (breaks p.tree) p.temps p.tree m (omega (arith, h.tree)));
    }

pub then_ends : (s r : ℕ) {t m n f g : ℕ} {a b : Emitted} → Ends s t m f a → Ends r a.temps n g b → Ends (s + r) t (m + n) (f + g) (then_done a b)
then_ends s r h d = record {
  temps = omega (arith, h.temps, d.temps);
  items = λ k le. behind (h.items k (omega arith)) (d.items k (omega arith));
}

pub bounded_more : (g : ℕ) {n f : ℕ} {e : Lowering} → f ≤ g → Bounded n f e → Bounded n g e
bounded_more g {n = n} {e = e} le h = record {
  low = λ t l. let c = h.low t l in record { temps = c.temps; tree = omega (arith, c.tree); items = λ m le'. c.items m (omega arith) };
  branch = λ sense to t l. ends_more 2 n g le (omega arith) (h.branch sense to t l);
  drop = λ t l. ends_more 0 n g le (omega arith) (h.drop t l);
  deliver = λ to t l. ends_more (spare_of to) n g le (omega arith) (h.deliver to t l);
}

pub valued_bounded : {n f : ℕ} {v : ℕ → ℕ → Lowered} → ((t l : ℕ) → Within t n f (v t l)) → Bounded n f (valued v)
valued_bounded h = record {
  low = h;
  branch = λ sense to t l. test_ends sense to (h t l);
  drop = λ t l. dropped_ends (h t l);
  deliver = λ to t l. delivered_ends to (h t l);
}

pub effective_bounded : {n f : ℕ} {v : ℕ → ℕ → Lowered} {d : ℕ → ℕ → Emitted}
    → ((t l : ℕ) → Within t n f (v t l)) → ((t l : ℕ) → Ends 0 t n f (d t l)) → Bounded n f (effective v d)
effective_bounded h g = record {
  low = h;
  branch = λ sense to t l. test_ends sense to (h t l);
  drop = g;
  deliver = λ to t l. delivered_ends to (h t l);
}

pub conditional_bounded : {n f : ℕ} {c : Bool → ℕ → ℕ → ℕ → Emitted} {d : ℕ → ℕ → Emitted} → 1 ≤ f
    → ((sense : Bool) (to t l : ℕ) → Ends 4 t n f (c sense to t l)) → ((t l : ℕ) → Ends 0 t n f (d t l)) → Bounded n f (conditional c d)
conditional_bounded {n = n} {f = f} {c = c} one h g = record {
  low = truth;
  branch = λ sense to t l. ends_more 2 n f (omega arith) (omega arith) (h sense to t l);
  drop = g;
  deliver = λ to t l. delivered_ends to (truth t l);
}
  where
    truth : (t l : ℕ) → Within t n f (truth_of t l (c false l (suc t) (suc l)))
    truth t l = let r = h false l (suc t) (suc l) in record {
      temps = omega (arith, r.temps);
      tree = one;
      items = λ m le. next (omega arith) (behind (r.items m le) (next (omega arith) (next (omega arith) none)));
    }

-- a pure operator, which is a node or none
pub mapped_bounded : (f : Tree → Tree) → Keeps f → (k g : ℕ) {n h : ℕ} {e : Lowering} → n ≤ k → h ≤ g → Bounded n h e → Bounded k g (mapped f e)
mapped_bounded f same k g le less h = effective_bounded
    (λ t l. over_within f same k g le less (h.low t l))
    (λ t l. ends_more 0 k g less (omega arith) (h.drop t l))

-- a conversion
deliver_as_ends : (i : Integer) (k g : ℕ) {n h : ℕ} {e : Lowering} → n ≤ k → h ≤ g → Bounded n h e → (to : Destination) (t l : ℕ)
    → Ends (spare_of to) t k g (deliver_as i e to t l)
deliver_as_ends ints.Char k g le less h to t l = delivered_ends to (over_within (conv ints.Char) (conv_forks ints.Char) k g le less (h.low t l))
deliver_as_ends ints.UnsignedChar k g le less h to t l =
    delivered_ends to (over_within (conv ints.UnsignedChar) (conv_forks ints.UnsignedChar) k g le less (h.low t l))
deliver_as_ends ints.Short k g le less h to t l = delivered_ends to (over_within (conv ints.Short) (conv_forks ints.Short) k g le less (h.low t l))
deliver_as_ends ints.UnsignedShort k g le less h to t l =
    delivered_ends to (over_within (conv ints.UnsignedShort) (conv_forks ints.UnsignedShort) k g le less (h.low t l))
deliver_as_ends ints.Int k g le less h to t l = ends_more (spare_of to) k g less (omega arith) (h.deliver to t l)

pub converting_bounded : (ty : CType) (k g : ℕ) {n h : ℕ} {e : Lowering} → n ≤ k → h ≤ g → Bounded n h e → Bounded k g (converting ty e)
converting_bounded ty k g {e = e} le less h =
    let w : Bounded k g (mapped (fitted ty) e) = mapped_bounded (fitted ty) (fitted_forks ty) k g le less h in
    record { low = w.low; branch = w.branch; drop = w.drop; deliver = deliver_as_ends (integer_of ty) k g le less h }

pub drop_two_ends : {m n f g : ℕ} {a b : Lowering} → Bounded m f a → Bounded n g b → (t l : ℕ) → Ends 0 t (m + n) (f + g) (drop_two a b t l)
drop_two_ends {a = a} h d t l = then_ends 0 0 (h.drop t l) (d.drop (a.drop t l).temps (a.drop t l).labels)

module _ (size count : ℕ) where
  two_within : (b : Bool) {t m n f g : ℕ} {p q : Lowered} → Within t m f p → Within p.temps n g q → WithinTwo t (m + n) (f + g) (join_so size count b p q)
  two_within b {p = p} {q = q} h d =
      let one = next_one b q.temps in
      let less = saved_forks b q.temps p.tree in
      record {
        temps = omega (arith, h.temps, d.temps, one);
        trees = omega (arith, h.tree, d.tree, less);
        items = λ k le. behind (h.items k (omega arith))
            (behind (narrow_saving b q.temps p.tree k (omega (arith, h.tree))) (d.items k (omega arith)));
      }

  joined_within : {m n f g : ℕ} {a b : Lowering} → Bounded m f a → Bounded n g b → (t l : ℕ) → WithinTwo t (m + n) (f + g) (joined size count a b t l)
  joined_within {a = a} {b = b} h d t l =
      let p = a.low t l in
      let q = b.low p.temps p.labels in
      two_within (must size count q.items p.tree q.tree) (h.low t l) (d.low p.temps p.labels)

  -- an operator over two values
  pub binary_bounded : (o : Tree → Tree → Tree) → AddsTwo o → {m n f g : ℕ} {a b : Lowering} → Bounded m f a → Bounded n g b
      → Bounded (1 + m + n) (1 + f + g) (binary size count o a b)
  binary_bounded o two {a = a} {b = b} h d = valued_bounded (λ t l.
      let p : Pair = joined size count a b t l in
      let c = joined_within h d t l in
      let most = two p.first p.second in
      record { temps = omega (arith, c.temps); tree = omega (arith, c.trees, most); items = λ k le. c.items k (omega arith) })

  -- which leaves three halves of a temporary
  pub binary_spares : (o : Tree → Tree → Tree) {m n f g : ℕ} {a b : Lowering} → Bounded m f a → Bounded n g b → (t l : ℕ)
      → 3 + 2 * ((binary size count o a b).low t l).temps ≤ 2 * t + 3 * (1 + m + n)
  binary_spares o h d t l = let c = joined_within h d t l in omega (arith, c.temps)

  pub relation_bounded : (r : Rel) {m n f g : ℕ} {a b : Lowering} → Bounded m f a → Bounded n g b → Bounded (1 + m + n) (1 + f + g) (relation size count r a b)
  relation_bounded r {m = m} {n = n} {f = f} {g = g} h d = conditional_bounded (omega arith)
      (λ sense to t l.
      let c = joined_within h d t l in
      record { temps = omega (arith, c.temps); items = λ k le. behind (c.items k (omega arith)) (next (omega (arith, c.trees)) none) })
      (λ t l. ends_more 0 (1 + m + n) (1 + f + g) (omega arith) (omega arith) (drop_two_ends h d t l))
