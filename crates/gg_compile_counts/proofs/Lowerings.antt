-- How many labels an expression takes, by how many its parts take.
use Rattle.std.proofs.Common.{◌≡◌, ℕ, suc, ◌+◌, ◌≤◌, refl, arith}
use Rattle.std.specs.Prelude.{Bool, true, false, not}
use Rattle.gg_base.specs.declared.relation.Rel.{Rel}
use Rattle.c_types.specs.declared.types.Integer.{Integer}
use Rattle.c_types.specs.declared.types.Integer.TheVariants as ints
use Rattle.c_types.specs.declared.types.CType.{CType}
use Rattle.c_lower_scheme.specs.Trees.{Tree}
use Rattle.c_lower_scheme.specs.Parts.{Lowered, Emitted, Lowering, Where, InLoc, InArg, InMem, Assignable, Destination, InLocal, AsResult, Passing, Releasing, over, delivered}
use Rattle.c_lower_scheme.specs.Places.{integer_of, fitted, conv}
use Rattle.c_lower_scheme.specs.Conditions.{valued, conditional, effective, mapped, chained, same, goal, chain, chain_drop, drop_two, deliver_as, converting, choose_deliver, choose, comma}
use Rattle.c_lower_scheme.specs.Values.{binary, relation}
use Rattle.c_lower_scheme.specs.Assignments.{store_low_at}
use Rattle.c_lower_scheme.specs.Calls.{called_deliver}
use Rattle.c_lower_scheme.specs.Conditions.{truth_of}

-- a value takes no label of its own where it goes
pub delivered_labels : (to : Destination) (p : Lowered) → (delivered to p).labels ≡ p.labels
delivered_labels (InLocal n) p = refl
delivered_labels AsResult p = refl
delivered_labels (Releasing pointer n) p = refl

delivered_takes : (most l : ℕ) (to : Destination) (p : Lowered) → p.labels ≤ l + most → (delivered to p).labels ≤ l + most
delivered_takes most l to p h = let is = delivered_labels to p in omega arith

-- each of the four ways takes at most so many labels
pub record Takes (most : ℕ) (e : Lowering) : Type 0 where
  pub low : (t l : ℕ) → (e.low t l).labels ≤ l + most
  pub branch : (sense : Bool) (to t l : ℕ) → (e.branch sense to t l).labels ≤ l + most
  pub drop : (t l : ℕ) → (e.drop t l).labels ≤ l + most
  pub deliver : (to : Destination) (t l : ℕ) → (e.deliver to t l).labels ≤ l + most

pub valued_takes : (most : ℕ) (f : ℕ → ℕ → Lowered) → ((t l : ℕ) → (f t l).labels ≤ l + most) → Takes most (valued f)
valued_takes most f h =
    record { low = h; branch = λ sense to t l. h t l; drop = h; deliver = λ to t l. delivered_takes most l to (f t l) (h t l) }

pub effective_takes : (most : ℕ) (f : ℕ → ℕ → Lowered) (d : ℕ → ℕ → Emitted) → ((t l : ℕ) → (f t l).labels ≤ l + most)
    → ((t l : ℕ) → (d t l).labels ≤ l + most) → Takes most (effective f d)
effective_takes most f d h g =
    record { low = h; branch = λ sense to t l. h t l; drop = g; deliver = λ to t l. delivered_takes most l to (f t l) (h t l) }

-- a condition takes one label fewer than its value
pub conditional_takes : (most : ℕ) (f : Bool → ℕ → ℕ → ℕ → Emitted) (d : ℕ → ℕ → Emitted)
    → ((sense : Bool) (to t l : ℕ) → suc (f sense to t l).labels ≤ l + most) → ((t l : ℕ) → (d t l).labels ≤ l + most)
    → Takes most (conditional f d)
conditional_takes most f d h g = record {
  low = λ t l. let c = h false l (suc t) (suc l) in omega arith;
  branch = λ sense to t l. let c = h sense to t l in omega arith;
  drop = g;
  deliver = λ to t l.
      let c = h false l (suc t) (suc l) in
      delivered_takes most l to (truth_of t l (f false l (suc t) (suc l))) (omega arith);
}

pub mapped_takes : (n most : ℕ) (f : Tree → Tree) (e : Lowering) → Takes n e → n ≤ most → Takes most (mapped f e)
mapped_takes n most f e h le =
    effective_takes most _ _ (λ t l. let x = h.low t l in omega arith) (λ t l. let x = h.drop t l in omega arith)

deliver_as_takes : (i : Integer) (n most : ℕ) (e : Lowering) → Takes n e → n ≤ most → (to : Destination) (t l : ℕ) → (deliver_as i e to t l).labels ≤ l + most
deliver_as_takes ints.Char n most e h le to t l =
    let x = h.low t l in delivered_takes most l to (over (conv ints.Char) (e.low t l)) (omega arith)
deliver_as_takes ints.UnsignedChar n most e h le to t l =
    let x = h.low t l in delivered_takes most l to (over (conv ints.UnsignedChar) (e.low t l)) (omega arith)
deliver_as_takes ints.Short n most e h le to t l =
    let x = h.low t l in delivered_takes most l to (over (conv ints.Short) (e.low t l)) (omega arith)
deliver_as_takes ints.UnsignedShort n most e h le to t l =
    let x = h.low t l in delivered_takes most l to (over (conv ints.UnsignedShort) (e.low t l)) (omega arith)
deliver_as_takes ints.Int n most e h le to t l = let x = h.deliver to t l in omega arith

pub converting_takes : (n most : ℕ) (ty : CType) (e : Lowering) → Takes n e → n ≤ most → Takes most (converting ty e)
converting_takes n most ty e h le =
    let w : Takes most (mapped (fitted ty) e) = mapped_takes n most (fitted ty) e h le in
    record { low = w.low; branch = w.branch; drop = w.drop; deliver = deliver_as_takes (integer_of ty) n most e h le }

drop_two_takes : (n m : ℕ) (a b : Lowering) → Takes n a → Takes m b → (t l : ℕ) → (drop_two a b t l).labels ≤ l + (n + m)
drop_two_takes n m a b h g t l =
    let p : Emitted = a.drop t l in
    let x = h.drop t l in
    let y = g.drop p.temps p.labels in
    omega arith

chained_labels : (turn : Bool) (l : ℕ) (p : Emitted) (f : ℕ → ℕ → Emitted) → (chained turn l p f).labels ≡ (f p.temps p.labels).labels
chained_labels true l p f = refl
chained_labels false l p f = refl

pub not_takes : (n most : ℕ) (e : Lowering) → Takes n e → n + 1 ≤ most → Takes most (conditional (λ sense to t l. e.branch (not sense) to t l) e.drop)
not_takes n most e h le = conditional_takes most _ _ (λ sense to t l. let x = h.branch (not sense) to t l in omega arith)
    (λ t l. let x = h.drop t l in omega arith)

pub chain_takes : (n m most : ℕ) (stop : Bool) (a b : Lowering) → Takes n a → Takes m b → n + m + 2 ≤ most
    → Takes most (conditional (chain stop a b) (chain_drop a stop b))
chain_takes n m most stop a b h g le = conditional_takes most _ _
    (λ sense to t l.
    let turn : Bool = same stop sense in
    let p : Emitted = a.branch stop (goal turn to l) t (suc l) in
    let x = h.branch stop (goal turn to l) t (suc l) in
    let y = g.branch sense to p.temps p.labels in
    let is = chained_labels turn l p (b.branch sense to) in
    omega arith)
    (λ t l.
    let p : Emitted = a.branch stop l t (suc l) in
    let x = h.branch stop l t (suc l) in
    let y = g.drop p.temps p.labels in
    omega arith)

choose_labels : (to : Destination) (l : ℕ) (p q r : Emitted) → (choose_deliver to l p q r).labels ≡ r.labels
choose_labels (InLocal n) l p q r = refl
choose_labels AsResult l p q r = refl
choose_labels (Releasing pointer n) l p q r = refl

pub choose_takes : (k n m most : ℕ) (c a b : Lowering) → Takes k c → Takes n a → Takes m b → k + n + m + 2 ≤ most → Takes most (choose c a b)
choose_takes k n m most c a b f h g le = record {
  low = choice;
  branch = λ sense to t l. choice t l;
  drop = λ t l.
      let p : Emitted = c.branch false l t (suc (suc l)) in
      let q : Emitted = a.drop p.temps p.labels in
      let x = f.branch false l t (suc (suc l)) in
      let y = h.drop p.temps p.labels in
      let z = g.drop q.temps q.labels in
      omega arith;
  deliver = λ to t l.
      let p : Emitted = c.branch false l t (suc (suc l)) in
      let q : Emitted = a.deliver to p.temps p.labels in
      let x = f.branch false l t (suc (suc l)) in
      let y = h.deliver to p.temps p.labels in
      let z = g.deliver to q.temps q.labels in
      let is = choose_labels to l p q (b.deliver to q.temps q.labels) in
      omega arith;
}
  where
    choice : (t l : ℕ) → ((choose c a b).low t l).labels ≤ l + most
    choice t l =
        let p : Emitted = c.branch false l (suc t) (suc (suc l)) in
        let q : Lowered = a.low p.temps p.labels in
        let x = f.branch false l (suc t) (suc (suc l)) in
        let y = h.low p.temps p.labels in
        let z = g.low q.temps q.labels in
        omega arith

pub comma_takes : (n m most : ℕ) (a b : Lowering) → Takes n a → Takes m b → n + m ≤ most → Takes most (comma a b)
comma_takes n m most a b h g le = record {
  low = λ t l.
      let p : Emitted = a.drop t l in
      let x = h.drop t l in
      let y = g.low p.temps p.labels in
      omega arith;
  branch = λ sense to t l.
      let p : Emitted = a.drop t l in
      let x = h.drop t l in
      let y = g.branch sense to p.temps p.labels in
      omega arith;
  drop = λ t l. let x = drop_two_takes n m a b h g t l in omega arith;
  deliver = λ to t l.
      let p : Emitted = a.drop t l in
      let x = h.drop t l in
      let y = g.deliver to p.temps p.labels in
      omega arith;
}

-- neither a call nor an assignment takes a label of its own
pub called_labels : (to : Destination) (f : ℕ) (p : Passing) → (called_deliver to f p).labels ≡ p.labels
called_labels (InLocal n) f p = refl
called_labels AsResult f p = refl
called_labels (Releasing pointer n) f p = refl

pub store_labels : (s : Where) (r : Assignable) → (store_low_at s r).labels ≡ r.labels
store_labels (InLoc n) r = refl
store_labels (InArg n) r = refl
store_labels (InMem a) r = refl

module _ (size count : ℕ) where
  pub binary_takes : (n m most : ℕ) (f : Tree → Tree → Tree) (a b : Lowering) → Takes n a → Takes m b → n + m ≤ most
      → Takes most (binary size count f a b)
  binary_takes n m most f a b h g le = valued_takes most _ (λ t l.
      let p : Lowered = a.low t l in
      let x = h.low t l in
      let y = g.low p.temps p.labels in
      omega arith)

  pub relation_takes : (n m most : ℕ) (r : Rel) (a b : Lowering) → Takes n a → Takes m b → n + m + 1 ≤ most
      → Takes most (relation size count r a b)
  relation_takes n m most r a b h g le = conditional_takes most _ _
      (λ sense to t l.
      let p : Lowered = a.low t l in
      let x = h.low t l in
      let y = g.low p.temps p.labels in
      omega arith)
      (λ t l. let x = drop_two_takes n m a b h g t l in omega arith)
