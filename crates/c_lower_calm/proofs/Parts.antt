-- That values, conditions, places and calls are calm where their parts are.
use Rattle.std.proofs.Common.{◌≡◌, ℕ, suc, List, [], ◌∷◌, refl}
use Rattle.std.specs.Prelude.{Bool, true, false, not, ◌&&◌}
use Rattle.std.proofs.lemmas.Bool.{not-false}
use Rattle.gg_base.specs.declared.relation.Rel.{Rel}
use Rattle.gg_base.proofs.Facts.{false_true}
use Rattle.c_types.specs.declared.types.Integer.{Integer}
use Rattle.c_types.specs.declared.types.Integer.TheVariants as ints
use Rattle.c_types.specs.declared.types.CType.{CType}
use Rattle.c_lower_scheme.specs.Trees.{Tree, Item, divides, reads, breaks, stable}
use Rattle.c_lower_scheme.specs.Parts.{Lowered, Pair, Emitted, Lowering, Located, Assignable, due, over, Destination, InLocal, AsResult, Releasing, delivered}
use Rattle.c_lower_scheme.specs.Saving.{saving, saved}
use Rattle.c_lower_scheme.specs.Places.{integer_of, conv, fitted, address_tree}
use Rattle.c_lower_scheme.specs.Conditions.{test, dropped, valued, conditional, effective, mapped, chained, same, goal, chain, chain_drop, drop_two, choose, comma}
use Rattle.c_lower_scheme.specs.Conditions.{truth_of, deliver_as, converting, choose_deliver}
use Rattle.c_lower_scheme.specs.Values.{must, joined, binary, relation}
use Rattle.c_lower_scheme.proofs.Facts.{stable_inert}
use Rattle.c_lower_calm.proofs.Trees.{Apart, IsCalm, AreCalm, none, next, behind}

pub record CalmLow (p : Lowered) : Type 0 where
  pub tree : IsCalm p.tree
  pub items : AreCalm p.items

pub record CalmTwo (p : Pair) : Type 0 where
  pub first : IsCalm p.first
  pub second : IsCalm p.second
  pub apart : Apart p.first p.second
  pub items : AreCalm p.items

pub record CalmWay (e : Lowering) : Type 0 where
  pub low : (t l : ℕ) → CalmLow (e.low t l)
  pub branch : (sense : Bool) (to t l : ℕ) → AreCalm (e.branch sense to t l).items
  pub drop : (t l : ℕ) → AreCalm (e.drop t l).items
  pub deliver : (to : Destination) (t l : ℕ) → AreCalm (e.deliver to t l).items

pub record CalmFound (p : Located) : Type 0 where
  pub place : IsCalm (address_tree p.place)
  pub items : AreCalm p.items

pub record CalmReady (r : Assignable) : Type 0 where
  pub place : IsCalm (address_tree r.place)
  pub value : IsCalm r.value
  pub apart : Apart (address_tree r.place) r.value
  pub items : AreCalm r.items

-- a tree that does not divide stands before any other
pub inert_apart : (a b : Tree) → divides a ≡ false → Apart a b
inert_apart a b h e = absurd (cc)

-- what a place's address needs not be saved for
pub calm_saving : (b : Bool) (u : ℕ) (w : Tree) → IsCalm w → AreCalm (saving b u w)
calm_saving true u w h = next h none
calm_saving false u w h = none

pub calm_saved : (b : Bool) (u : ℕ) (w : Tree) → IsCalm w → IsCalm (saved b u w)
calm_saved true u w h = tt
calm_saved false u w h = h

calm_conv : (i : Integer) (w : Tree) → IsCalm w → IsCalm (conv i w)
calm_conv ints.Char w h = h
calm_conv ints.UnsignedChar w h = h
calm_conv ints.Short w h = h
calm_conv ints.UnsignedShort w h = h
calm_conv ints.Int w h = h

pub calm_fitted : (t : CType) (w : Tree) → IsCalm w → IsCalm (fitted t w)
calm_fitted t w h = calm_conv (integer_of t) w h

pub due_calm : (w : Tree) → IsCalm w → (t l : ℕ) → CalmLow (due w t l)
due_calm w h t l = record { tree = h; items = none }

pub over_calm : (f : Tree → Tree) → ((w : Tree) → IsCalm w → IsCalm (f w)) → {p : Lowered} → CalmLow p → CalmLow (over f p)
over_calm f keeps {p = p} h = record { tree = keeps p.tree h.tree; items = h.items }

pub test_calm : (sense : Bool) (to : ℕ) {p : Lowered} → CalmLow p → AreCalm (test sense to p).items
test_calm sense to h = behind h.items (next (h.tree, tt, λ e. refl) none)

pub delivered_calm : (to : Destination) {p : Lowered} → CalmLow p → AreCalm (delivered to p).items
delivered_calm (InLocal n) h = behind h.items (next h.tree none)
delivered_calm AsResult h = behind h.items (next h.tree none)
delivered_calm (Releasing pointer n) {p = p} h =
    let last = next (tt, tt, λ e. refl) (next (calm_saved (reads p.tree) p.temps p.tree h.tree) none) in
    behind h.items (behind (calm_saving (reads p.tree) p.temps p.tree h.tree) last)

pub dropped_calm : {p : Lowered} → CalmLow p → AreCalm (dropped p).items
dropped_calm {p = p} h = behind h.items (calm_saving (breaks p.tree) p.temps p.tree h.tree)

pub valued_calm : {f : ℕ → ℕ → Lowered} → ((t l : ℕ) → CalmLow (f t l)) → CalmWay (valued f)
valued_calm h = record {
  low = h;
  branch = λ sense to t l. test_calm sense to (h t l);
  drop = λ t l. dropped_calm (h t l);
  deliver = λ to t l. delivered_calm to (h t l);
}

pub effective_calm : {f : ℕ → ℕ → Lowered} {d : ℕ → ℕ → Emitted} → ((t l : ℕ) → CalmLow (f t l)) → ((t l : ℕ) → AreCalm (d t l).items) → CalmWay (effective f d)
effective_calm h g = record { low = h; branch = λ sense to t l. test_calm sense to (h t l); drop = g; deliver = λ to t l. delivered_calm to (h t l) }

pub conditional_calm : {f : Bool → ℕ → ℕ → ℕ → Emitted} {d : ℕ → ℕ → Emitted}
    → ((sense : Bool) (to t l : ℕ) → AreCalm (f sense to t l).items) → ((t l : ℕ) → AreCalm (d t l).items) → CalmWay (conditional f d)
conditional_calm {f = f} h g = record { low = truth; branch = h; drop = g; deliver = λ to t l. delivered_calm to (truth t l) }
  where
    truth : (t l : ℕ) → CalmLow (truth_of t l (f false l (suc t) (suc l)))
    truth t l = record { tree = tt; items = next tt (behind (h false l (suc t) (suc l)) (next tt (next tt none))) }

pub mapped_calm : (f : Tree → Tree) → ((w : Tree) → IsCalm w → IsCalm (f w)) → {e : Lowering} → CalmWay e → CalmWay (mapped f e)
mapped_calm f keeps h = effective_calm (λ t l. over_calm f keeps (h.low t l)) h.drop

deliver_as_calm : (i : Integer) {e : Lowering} → CalmWay e → (to : Destination) (t l : ℕ) → AreCalm (deliver_as i e to t l).items
deliver_as_calm ints.Char h to t l = delivered_calm to (over_calm (conv ints.Char) (calm_conv ints.Char) (h.low t l))
deliver_as_calm ints.UnsignedChar h to t l = delivered_calm to (over_calm (conv ints.UnsignedChar) (calm_conv ints.UnsignedChar) (h.low t l))
deliver_as_calm ints.Short h to t l = delivered_calm to (over_calm (conv ints.Short) (calm_conv ints.Short) (h.low t l))
deliver_as_calm ints.UnsignedShort h to t l = delivered_calm to (over_calm (conv ints.UnsignedShort) (calm_conv ints.UnsignedShort) (h.low t l))
deliver_as_calm ints.Int h to t l = h.deliver to t l

pub converting_calm : (ty : CType) {e : Lowering} → CalmWay e → CalmWay (converting ty e)
converting_calm ty {e = e} h =
    let w : CalmWay (mapped (fitted ty) e) = mapped_calm (fitted ty) (calm_fitted ty) h in
    record { low = w.low; branch = w.branch; drop = w.drop; deliver = deliver_as_calm (integer_of ty) h }

pub drop_two_calm : {a b : Lowering} → CalmWay a → CalmWay b → (t l : ℕ) → AreCalm (drop_two a b t l).items
drop_two_calm {a = a} h g t l = behind (h.drop t l) (g.drop (a.drop t l).temps (a.drop t l).labels)

pub not_calm : {e : Lowering} → CalmWay e → CalmWay (conditional (λ sense to t l. e.branch (not sense) to t l) e.drop)
not_calm h = conditional_calm (λ sense to t l. h.branch (not sense) to t l) h.drop

chained_calm : (stop : Bool) (l : ℕ) {p : Emitted} (f : ℕ → ℕ → Emitted) → AreCalm p.items → AreCalm (f p.temps p.labels).items → AreCalm (chained stop l p f).items
chained_calm true l f h g = behind h g
chained_calm false l f h g = behind h (behind g (next tt none))

pub chain_calm : (stop : Bool) {a b : Lowering} → CalmWay a → CalmWay b → CalmWay (conditional (chain stop a b) (chain_drop a stop b))
chain_calm stop {a = a} {b = b} h g = conditional_calm
    (λ sense to t l.
    let turn : Bool = same stop sense in
    let p : Emitted = a.branch stop (goal turn to l) t (suc l) in
    chained_calm turn l (b.branch sense to) (h.branch stop (goal turn to l) t (suc l)) (g.branch sense to p.temps p.labels))
    (λ t l.
    let p : Emitted = a.branch stop l t (suc l) in
    chained_calm false l b.drop (h.branch stop l t (suc l)) (g.drop p.temps p.labels))

choose_low_calm : {c a b : Lowering} → CalmWay c → CalmWay a → CalmWay b → (t l : ℕ) → CalmLow ((choose c a b).low t l)
choose_low_calm {c = c} {a = a} f h g t l =
    let p : Emitted = c.branch false l (suc t) (suc (suc l)) in
    let q : Lowered = a.low p.temps p.labels in
    let y = h.low p.temps p.labels in
    let z = g.low q.temps q.labels in
    record {
      tree = tt;
      items = behind (f.branch false l (suc t) (suc (suc l))) (behind y.items (next y.tree (next tt (next tt (behind z.items (next z.tree (next tt none)))))));
    }

choose_deliver_calm : (to : Destination) (l : ℕ) (p q r : Emitted) → AreCalm p.items → AreCalm q.items → AreCalm r.items → AreCalm (choose_deliver to l p q r).items
choose_deliver_calm (InLocal n) l p q r f h g = behind f (behind h (next tt (next tt (behind g (next tt none)))))
choose_deliver_calm AsResult l p q r f h g = behind f (behind h (next tt g))
choose_deliver_calm (Releasing pointer n) l p q r f h g = behind f (behind h (next tt g))

pub choose_calm : {c a b : Lowering} → CalmWay c → CalmWay a → CalmWay b → CalmWay (choose c a b)
choose_calm {c = c} {a = a} {b = b} f h g = record {
  low = choose_low_calm f h g;
  branch = λ sense to t l. test_calm sense to (choose_low_calm f h g t l);
  drop = λ t l.
      let p : Emitted = c.branch false l t (suc (suc l)) in
      let q : Emitted = a.drop p.temps p.labels in
      behind (f.branch false l t (suc (suc l))) (behind (h.drop p.temps p.labels) (next tt (next tt (behind (g.drop q.temps q.labels) (next tt none)))));
  deliver = λ to t l.
      let p : Emitted = c.branch false l t (suc (suc l)) in
      let q : Emitted = a.deliver to p.temps p.labels in
      choose_deliver_calm to l p q (b.deliver to q.temps q.labels) (f.branch false l t (suc (suc l))) (h.deliver to p.temps p.labels) (g.deliver to q.temps q.labels);
}

pub comma_calm : {a b : Lowering} → CalmWay a → CalmWay b → CalmWay (comma a b)
comma_calm {a = a} h g = record {
  low = λ t l.
      let p : Emitted = a.drop t l in
      let y = g.low p.temps p.labels in
      record { tree = y.tree; items = behind (h.drop t l) y.items };
  branch = λ sense to t l. behind (h.drop t l) (g.branch sense to (a.drop t l).temps (a.drop t l).labels);
  drop = drop_two_calm h g;
  deliver = λ to t l. behind (h.drop t l) (g.deliver to (a.drop t l).temps (a.drop t l).labels);
}

conflict : (a b : Bool) → a && b ≡ false → a ≡ true → b ≡ false
conflict true b e h = e
conflict false b e h = absurd (cc)

module _ (size count : ℕ) where
  -- a first part that is not saved stands apart from the second
  pub must_apart : (is : List Item) (a b : Tree) → must size count is a b ≡ false → Apart a b
  must_apart [] a b h = conflict (divides a) (reads b) h
  must_apart (i ∷ is) a b h = inert_apart a b (stable_inert size a (not-false (stable size a) h))

  saved_apart : (c : Bool) (u : ℕ) (a b : Tree) → (c ≡ false → Apart a b) → Apart (saved c u a) b
  saved_apart true u a b h = false_true
  saved_apart false u a b h = h refl

  joined_calm : {a b : Lowering} → CalmWay a → CalmWay b → (t l : ℕ) → CalmTwo (joined size count a b t l)
  joined_calm {a = a} {b = b} h g t l =
      let p : Lowered = a.low t l in
      let q : Lowered = b.low p.temps p.labels in
      let c : Bool = must size count q.items p.tree q.tree in
      let x = h.low t l in
      let y = g.low p.temps p.labels in
      record {
        first = calm_saved c q.temps p.tree x.tree;
        second = y.tree;
        apart = saved_apart c q.temps p.tree q.tree (must_apart q.items p.tree q.tree);
        items = behind x.items (behind (calm_saving c q.temps p.tree x.tree) y.items);
      }

  pub binary_calm : (f : Tree → Tree → Tree) → ((v w : Tree) → IsCalm v → IsCalm w → Apart v w → IsCalm (f v w)) → {a b : Lowering}
      → CalmWay a → CalmWay b → CalmWay (binary size count f a b)
  binary_calm f keeps {a = a} {b = b} h g = valued_calm (λ t l.
      let p : Pair = joined size count a b t l in
      let c = joined_calm h g t l in
      record { tree = keeps p.first p.second c.first c.second c.apart; items = c.items })

  pub relation_calm : (r : Rel) {a b : Lowering} → CalmWay a → CalmWay b → CalmWay (relation size count r a b)
  relation_calm r h g = conditional_calm
      (λ sense to t l. let c = joined_calm h g t l in behind c.items (next (c.first, c.second, c.apart) none))
      (drop_two_calm h g)
