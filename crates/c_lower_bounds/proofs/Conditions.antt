-- How many temporaries and forks `!`, `&&`, `||`, `?:` and `,` have.
use Rattle.std.proofs.Common.{ℕ, suc, ◌+◌, ◌≤◌, arith}
use Rattle.std.specs.Prelude.{Bool, true, false, not}
use Rattle.c_lower_scheme.specs.Parts.{Lowered, Emitted, Lowering, Destination, InLocal, AsResult, Releasing}
use Rattle.c_lower_scheme.specs.Conditions.{conditional, chained, same, goal, chain, chain_drop, choose_drop, choose_deliver, choose, comma}
use Rattle.c_lower_bounds.proofs.Trees.{none, next, behind}
use Rattle.c_lower_bounds.proofs.Values.{Within, Ends, spare_of, ends_more, Bounded, test_ends, conditional_bounded, then_ends, drop_two_ends}

pub not_bounded : {n f : ℕ} {e : Lowering} → 1 ≤ f → Bounded n f e → Bounded (1 + n) f (conditional (λ sense to t l. e.branch (not sense) to t l) e.drop)
not_bounded {n = n} {f = f} one h = conditional_bounded one
    (λ sense to t l. ends_more 4 (1 + n) f (omega arith) (omega arith) (h.branch (not sense) to t l))
    (λ t l. ends_more 0 (1 + n) f (omega arith) (omega arith) (h.drop t l))

-- a condition, and what is done behind it
chained_ends : (stop : Bool) (l s : ℕ) {t m n f g : ℕ} {p : Emitted} (q : ℕ → ℕ → Emitted) → Ends 2 t m f p → Ends s p.temps n g (q p.temps p.labels)
    → Ends (2 + s) t (m + n) (f + g) (chained stop l p q)
chained_ends true l s q h d = then_ends 2 s h d
chained_ends false l s q h d = record {
  temps = omega (arith, h.temps, d.temps);
  items = λ k le. behind (h.items k (omega arith)) (behind (d.items k (omega arith)) (next (omega arith) none));
}

pub chain_bounded : (stop : Bool) {m n f g : ℕ} {a b : Lowering} → Bounded m f a → Bounded n g b
    → Bounded (1 + m + n) (1 + f + g) (conditional (chain stop a b) (chain_drop a stop b))
chain_bounded stop {m = m} {n = n} {f = f} {g = g} {a = a} {b = b} h d = conditional_bounded (omega arith)
    (λ sense to t l.
    let turn : Bool = same stop sense in
    let p : Emitted = a.branch stop (goal turn to l) t (suc l) in
    let c = chained_ends turn l 2 (b.branch sense to) (h.branch stop (goal turn to l) t (suc l)) (d.branch sense to p.temps p.labels) in
    ends_more 4 (1 + m + n) (1 + f + g) (omega arith) (omega arith) c)
    (λ t l.
    let p : Emitted = a.branch stop l t (suc l) in
    let c = chained_ends false l 0 b.drop (h.branch stop l t (suc l)) (d.drop p.temps p.labels) in
    ends_more 0 (1 + m + n) (1 + f + g) (omega arith) (omega arith) c)

-- a choice for its value, and for what stands on either side, where h bounds the forks of all three parts
module _ (h : ℕ) (one : 1 ≤ h) where
  choose_low_within : {i m n : ℕ} {c a b : Lowering} → Bounded i h c → Bounded m h a → Bounded n h b → (t l : ℕ)
      → Within t (1 + i + m + n) h ((choose c a b).low t l)
  choose_low_within {c = c} {a = a} u v w t l =
      let p : Emitted = c.branch false l (suc t) (suc (suc l)) in
      let q : Lowered = a.low p.temps p.labels in
      let x = u.branch false l (suc t) (suc (suc l)) in
      let y = v.low p.temps p.labels in
      let z = w.low q.temps q.labels in
      record {
        temps = omega (arith, x.temps, y.temps, z.temps);
        tree = one;
        items = λ k le.
            let last = behind (z.items k le) (next (omega (arith, z.tree)) (next (omega arith) none)) in
            let then_last = next (omega (arith, y.tree)) (next (omega arith) (next (omega arith) last)) in
            behind (x.items k le) (behind (y.items k le) then_last);
      }

  choose_drop_ends : (l s : ℕ) {t i m n : ℕ} {p q r : Emitted} → Ends 2 t i h p → Ends s p.temps m h q → Ends s q.temps n h r
      → Ends s t (1 + i + m + n) h (choose_drop l p q r)
  choose_drop_ends l s x y z = record {
    temps = omega (arith, x.temps, y.temps, z.temps);
    items = λ k le.
        let last = behind (z.items k le) (next (omega arith) none) in
        behind (x.items k le) (behind (y.items k le) (next (omega arith) (next (omega arith) last)));
  }

  choose_deliver_ends : (to : Destination) (l : ℕ) {t i m n : ℕ} {p q r : Emitted}
      → Ends 2 t i h p → Ends (spare_of to) p.temps m h q → Ends (spare_of to) q.temps n h r
      → Ends (spare_of to) t (1 + i + m + n) h (choose_deliver to l p q r)
  choose_deliver_ends (InLocal x) l u v w = choose_drop_ends l 2 u v w
  choose_deliver_ends AsResult l x y z = record {
    temps = omega (arith, x.temps, y.temps, z.temps);
    items = λ k le. behind (x.items k le) (behind (y.items k le) (next (omega arith) (z.items k le)));
  }
  choose_deliver_ends (Releasing pointer n) l x y z = record {
    temps = omega (arith, x.temps, y.temps, z.temps);
    items = λ k le. behind (x.items k le) (behind (y.items k le) (next (omega arith) (z.items k le)));
  }

  pub choose_bounded : {i m n : ℕ} {c a b : Lowering} → Bounded i h c → Bounded m h a → Bounded n h b → Bounded (1 + i + m + n) h (choose c a b)
  choose_bounded {c = c} {a = a} u v w = record {
    low = choose_low_within u v w;
    branch = λ sense to t l. test_ends sense to (choose_low_within u v w t l);
    drop = λ t l.
        let p : Emitted = c.branch false l t (suc (suc l)) in
        let q : Emitted = a.drop p.temps p.labels in
        choose_drop_ends l 0 (u.branch false l t (suc (suc l))) (v.drop p.temps p.labels) (w.drop q.temps q.labels);
    deliver = λ to t l.
        let p : Emitted = c.branch false l t (suc (suc l)) in
        let q : Emitted = a.deliver to p.temps p.labels in
        choose_deliver_ends to l (u.branch false l t (suc (suc l))) (v.deliver to p.temps p.labels) (w.deliver to q.temps q.labels);
  }

pub comma_bounded : {m n f g : ℕ} {a b : Lowering} → Bounded m f a → Bounded n g b → Bounded (1 + m + n) (1 + f + g) (comma a b)
comma_bounded {m = m} {n = n} {f = f} {g = g} {a = a} h d = record {
  low = λ t l.
      let p : Emitted = a.drop t l in
      let x = h.drop t l in
      let y = d.low p.temps p.labels in
      record {
        temps = omega (arith, x.temps, y.temps);
        tree = omega (arith, y.tree);
        items = λ k le. behind (x.items k (omega arith)) (y.items k (omega arith));
      };
  branch = λ sense to t l.
      let p : Emitted = a.drop t l in
      ends_more 2 (1 + m + n) (1 + f + g) (omega arith) (omega arith) (then_ends 0 2 (h.drop t l) (d.branch sense to p.temps p.labels));
  drop = λ t l. ends_more 0 (1 + m + n) (1 + f + g) (omega arith) (omega arith) (drop_two_ends h d t l);
  deliver = λ to t l.
      let p : Emitted = a.drop t l in
      ends_more (spare_of to) (1 + m + n) (1 + f + g) (omega arith) (omega arith) (then_ends 0 (spare_of to) (h.drop t l) (d.deliver to p.temps p.labels));
}
