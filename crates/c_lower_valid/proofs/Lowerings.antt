-- Expressions, in each of the four ways in which they are lowered: their items name what is there, with calls in order.
use Rattle.std.proofs.Common.{◌≡◌, ℕ, suc, ◌≤◌, ◌<◌, [], ◌∷◌, arith, subst}
use Rattle.std.specs.Prelude.{Bool, true, false, not, Option, Some, None}
use Rattle.gg_base.specs.declared.relation.Rel.{Rel}
use Rattle.c_types.specs.declared.types.CType.{CType}
use Rattle.c_types.specs.declared.typed.UnaryOperator.{UnaryOperator}
use Rattle.c_types.specs.declared.typed.UnaryOperator.TheVariants as unaries
use Rattle.c_types.specs.declared.typed.Moment.{Moment}
use Rattle.c_types.specs.declared.typed.Moment.TheVariants as moments
use Rattle.c_types.specs.declared.typed.Direction.{Direction}
use Rattle.c_types.specs.Constants.{scale}
use Rattle.c_lower_scheme.specs.Trees.{Tree, Num, Neg, Com, Label, AssignLoc, Jump, sensed}
use Rattle.c_lower_scheme.specs.Parts.{Lowered, Located, Emitted, Lowering, due, Destination, InLocal, AsResult, Releasing, over}
use Rattle.c_lower_scheme.specs.Parts
use Rattle.c_lower_scheme.specs.Places.{fitted, integer_of, conv}
use Rattle.c_lower_scheme.specs.Conditions.{truth_of, valued, conditional, effective, mapped, chained, goal, chain, chain_drop, drop_two, choose_low, choose_drop, choose_leave, choose}
use Rattle.c_lower_scheme.specs.Conditions.{comma, deliver_as, converting, choose_deliver}
use Rattle.c_lower_scheme.specs.Conditions
use Rattle.c_lower_scheme.specs.Values.{step}
use Rattle.c_lower_scheme.specs.Values
use Rattle.c_lower_scheme.specs.Assignments
use Rattle.c_lower_scheme.specs.Expressions
use Rattle.c_types.specs.declared.types.Integer.{Integer}
use Rattle.c_types.specs.declared.types.Integer.TheVariants as ints
use Rattle.c_lower_scheme.proofs.Places.{local_is}
use Rattle.c_lower_valid.proofs.Named.{Scene}
use Rattle.c_lower_valid.proofs.Fine.{Ok, ok_up, fine_nil, fine_append, fine_up, fine_more, fine_one, fine_behind, fine_three, FineLow, FineTwo, FineFound, FineDone, FineReady}
use Rattle.c_lower_valid.proofs.Fine.{ok_step, fine_over, fine_over_two, fine_truth, fine_test, fine_compare, fine_dropped, fine_join, fine_ready, fine_update, fine_postfix}
use Rattle.c_lower_valid.proofs.Fine.{fine_store_drop, fine_store_low, OkWhere, Reaches, reaches_up, fine_delivered, ok_fitted}

module _ (scene : Scene) (size count first : ℕ) where
  abbrev Lows : ℕ → Lowered → Type 0
  Lows t p = FineLow scene t p

  abbrev Dones : ℕ → Emitted → Type 0
  Dones t p = FineDone scene t p

  -- in each of the four ways, from a temporary on that is no local of the function's own, nor keeps the address of its block
  pub record FineWay (w : Lowering) : Type 0 where
    pub low : (t l : ℕ) → first ≤ t → Lows t (w.low t l)
    pub branch : (sense : Bool) (to t l : ℕ) → first ≤ t → Dones t (w.branch sense to t l)
    pub drop : (t l : ℕ) → first ≤ t → Dones t (w.drop t l)
    pub deliver : (to : Destination) (t l : ℕ) → first ≤ t → Reaches scene t to → Dones t (w.deliver to t l)

  pub fine_due : (w : Tree) (t l : ℕ) → Ok scene t w → Lows t (due w t l)
  fine_due w t l h = record { grows = omega arith; items = fine_nil scene t; tree = h }

  pub fine_valued : (f : ℕ → ℕ → Lowered) → ((t l : ℕ) → first ≤ t → Lows t (f t l)) → FineWay (valued f)
  fine_valued f h = record {
    low = h;
    branch = λ sense to t l le. fine_test scene sense to t (f t l) (h t l le);
    drop = λ t l le. fine_dropped scene t (f t l) (h t l le);
    deliver = λ to t l le r. fine_delivered scene to t (f t l) r (h t l le);
  }

  pub fine_effective : (f : ℕ → ℕ → Lowered) (d : ℕ → ℕ → Emitted) → ((t l : ℕ) → first ≤ t → Lows t (f t l))
      → ((t l : ℕ) → first ≤ t → Dones t (d t l)) → FineWay (effective f d)
  fine_effective f d h g = record {
    low = h;
    branch = λ sense to t l le. fine_test scene sense to t (f t l) (h t l le);
    drop = g;
    deliver = λ to t l le r. fine_delivered scene to t (f t l) r (h t l le);
  }

  pub fine_conditional : (f : Bool → ℕ → ℕ → ℕ → Emitted) (d : ℕ → ℕ → Emitted)
      → ((sense : Bool) (to t l : ℕ) → first ≤ t → Dones t (f sense to t l)) → ((t l : ℕ) → first ≤ t → Dones t (d t l))
      → FineWay (conditional f d)
  fine_conditional f d h g = record {
    low = λ t l le. fine_truth scene t l (f false l (suc t) (suc l)) (h false l (suc t) (suc l) (omega arith));
    branch = h;
    drop = g;
    deliver = λ to t l le r. fine_delivered scene to t (truth_of t l (f false l (suc t) (suc l))) r
        (fine_truth scene t l (f false l (suc t) (suc l)) (h false l (suc t) (suc l) (omega arith)));
  }

  pub fine_mapped : (f : Tree → Tree) → ((u : ℕ) (w : Tree) → Ok scene u w → Ok scene u (f w)) → (e : Lowering) → FineWay e
      → FineWay (mapped f e)
  fine_mapped f k e h = fine_effective _ _ (λ t l le. fine_over scene f k t (e.low t l) (h.low t l le)) h.drop

  fine_deliver_as : (i : Integer) (e : Lowering) → FineWay e → (to : Destination) (t l : ℕ) → first ≤ t → Reaches scene t to → Dones t (deliver_as i e to t l)
  fine_deliver_as ints.Char e h to t l le r = fine_delivered scene to t (over (conv ints.Char) (e.low t l)) r (fine_over scene (conv ints.Char) (λ u w k. k) t (e.low t l) (h.low t l le))
  fine_deliver_as ints.UnsignedChar e h to t l le r = fine_delivered scene to t (over (conv ints.UnsignedChar) (e.low t l)) r
      (fine_over scene (conv ints.UnsignedChar) (λ u w k. k) t (e.low t l) (h.low t l le))
  fine_deliver_as ints.Short e h to t l le r = fine_delivered scene to t (over (conv ints.Short) (e.low t l)) r (fine_over scene (conv ints.Short) (λ u w k. k) t (e.low t l) (h.low t l le))
  fine_deliver_as ints.UnsignedShort e h to t l le r = fine_delivered scene to t (over (conv ints.UnsignedShort) (e.low t l)) r
      (fine_over scene (conv ints.UnsignedShort) (λ u w k. k) t (e.low t l) (h.low t l le))
  fine_deliver_as ints.Int e h to t l le r = h.deliver to t l le r

  pub fine_converting : (ty : CType) (e : Lowering) → FineWay e → FineWay (converting ty e)
  fine_converting ty e h =
      let w : FineWay (mapped (fitted ty) e) = fine_mapped (fitted ty) (λ u w k. ok_fitted scene ty u w k) e h in
      record { low = w.low; branch = w.branch; drop = w.drop; deliver = fine_deliver_as (integer_of ty) e h }

  fine_joined : (a b : Lowering) → FineWay a → FineWay b → (t l : ℕ) → first ≤ t → FineTwo scene t (Values.joined size count a b t l)
  fine_joined a b h g t l le =
      let p = a.low t l in
      let x = h.low t l le in
      let lx = x.grows in
      fine_join scene size count _ t p (b.low p.temps p.labels) x (g.low p.temps p.labels (omega arith))

  pub fine_binary : (f : Tree → Tree → Tree) → ((u : ℕ) (a b : Tree) → Ok scene u a → Ok scene u b → Ok scene u (f a b)) → (a b : Lowering)
      → FineWay a → FineWay b → FineWay (Values.binary size count f a b)
  fine_binary f k a b h g = fine_valued _ (λ t l le. fine_over_two scene f k t (Values.joined size count a b t l)
      (fine_joined a b h g t l le))

  -- one part behind another
  fine_then : (t : ℕ) (a b : Emitted) → Dones t a → Dones a.temps b → Dones t (Parts.then_done a b)
  fine_then t a b h g =
      let le = h.grows in
      let le' = g.grows in
      record {
        grows = omega arith;
        items = fine_append scene b.temps a.items b.items
            (fine_up scene a.temps b.temps a.items le' h.items) g.items;
      }

  fine_drop_two : (a b : Lowering) → FineWay a → FineWay b → (t l : ℕ) → first ≤ t → Dones t (drop_two a b t l)
  fine_drop_two a b h g t l le =
      let p = a.drop t l in
      let x = h.drop t l le in
      let lx = x.grows in
      fine_then t p (b.drop p.temps p.labels) x (g.drop p.temps p.labels (omega arith))

  pub fine_relation : (r : Rel) (a b : Lowering) → FineWay a → FineWay b → FineWay (Values.relation size count r a b)
  fine_relation r a b h g = fine_conditional _ _ (λ sense to t l le. fine_compare scene (sensed sense r) to t
      (Values.joined size count a b t l) (fine_joined a b h g t l le)) (fine_drop_two a b h g)

  fine_chained : (s : Bool) (t l : ℕ) (p : Emitted) (f : ℕ → ℕ → Emitted) → Dones t p → Dones p.temps (f p.temps p.labels)
      → Dones t (chained s l p f)
  fine_chained true t l p f h g = fine_then t p (f p.temps p.labels) h g
  fine_chained false t l p f h g =
      let q = f p.temps p.labels in
      let le = h.grows in
      let le' = g.grows in
      record {
        grows = omega arith;
        items = fine_three scene q.temps p.items q.items (Label l ∷ [])
            (fine_up scene p.temps q.temps p.items le' h.items) g.items (fine_one scene q.temps (Label l) tt tt);
      }

  pub fine_chain : (stop : Bool) (a b : Lowering) → FineWay a → FineWay b → (sense : Bool) (to t l : ℕ) → first ≤ t
      → Dones t (chain stop a b sense to t l)
  fine_chain stop a b h g sense to t l le =
      let s = Conditions.same stop sense in
      let p = a.branch stop (goal s to l) t (suc l) in
      let x = h.branch stop (goal s to l) t (suc l) le in
      let lx = x.grows in
      fine_chained s t l p (b.branch sense to) x (g.branch sense to p.temps p.labels (omega arith))

  pub fine_chain_drop : (stop : Bool) (a b : Lowering) → FineWay a → FineWay b → (t l : ℕ) → first ≤ t → Dones t (chain_drop a stop b t l)
  fine_chain_drop stop a b h g t l le =
      let p = a.branch stop l t (suc l) in
      let x = h.branch stop l t (suc l) le in
      let lx = x.grows in
      fine_chained false t l p b.drop x (g.drop p.temps p.labels (omega arith))

  fine_choose_low : (t v l : ℕ) (p : Emitted) (q r : Lowered) → t < v → Dones v p → Lows p.temps q → Lows q.temps r → Lows t (choose_low t l p q r)
  fine_choose_low t v l p q r lt h g f =
      let le = h.grows in
      let le' = g.grows in
      let le'' = f.grows in
      let here : t < r.temps = omega arith in
      let up : q.temps ≤ r.temps = omega arith in
      record {
        grows = omega arith;
        items = fine_three scene r.temps p.items q.items _
            (fine_up scene p.temps r.temps p.items (omega arith) h.items)
            (fine_up scene q.temps r.temps q.items up g.items)
            (fine_more scene r.temps (AssignLoc t q.tree) _ tt (here, ok_up scene q.temps r.temps q.tree up g.tree)
            (fine_more scene r.temps (Jump (suc l)) _ tt tt
            (fine_more scene r.temps (Label l) _ tt tt
            (fine_append scene r.temps r.items _ f.items
            (fine_more scene r.temps (AssignLoc t r.tree) _ tt (here, f.tree) (fine_one scene r.temps (Label (suc l)) tt tt))))));
        tree = here;
      }

  fine_choose_drop : (t l : ℕ) (p q r : Emitted) → Dones t p → Dones p.temps q → Dones q.temps r → Dones t (choose_drop l p q r)
  fine_choose_drop t l p q r h g f =
      let le = h.grows in
      let le' = g.grows in
      let le'' = f.grows in
      record {
        grows = omega arith;
        items = fine_three scene r.temps p.items q.items _
            (fine_up scene p.temps r.temps p.items (omega arith) h.items)
            (fine_up scene q.temps r.temps q.items le'' g.items)
            (fine_more scene r.temps (Jump (suc l)) _ tt tt
            (fine_more scene r.temps (Label l) _ tt tt
            (fine_behind scene r.temps r.items (Label (suc l)) f.items tt tt)));
      }

  fine_choose_leave : (t l : ℕ) (p q r : Emitted) → Dones t p → Dones p.temps q → Dones q.temps r → Dones t (choose_leave l p q r)
  fine_choose_leave t l p q r h g f =
      let le = h.grows in
      let le' = g.grows in
      let le'' = f.grows in
      record {
        grows = omega arith;
        items = fine_three scene r.temps p.items q.items _
            (fine_up scene p.temps r.temps p.items (omega arith) h.items)
            (fine_up scene q.temps r.temps q.items le'' g.items)
            (fine_more scene r.temps (Label l) _ tt tt f.items);
      }

  fine_choose_deliver : (to : Destination) (t l : ℕ) (p q r : Emitted) → Dones t p → Dones p.temps q → Dones q.temps r → Dones t (choose_deliver to l p q r)
  fine_choose_deliver (InLocal n) t l p q r h g f = fine_choose_drop t l p q r h g f
  fine_choose_deliver AsResult t l p q r h g f = fine_choose_leave t l p q r h g f
  fine_choose_deliver (Releasing pointer n) t l p q r h g f = fine_choose_leave t l p q r h g f

  fine_choice : (c a b : Lowering) → FineWay c → FineWay a → FineWay b → (t l : ℕ) → first ≤ t → Lows t ((choose c a b).low t l)
  fine_choice c a b h g f t l le =
      let p = c.branch false l (suc t) (suc (suc l)) in
      let x = h.branch false l (suc t) (suc (suc l)) (omega arith) in
      let lx = x.grows in
      let q = a.low p.temps p.labels in
      let y = g.low p.temps p.labels (omega arith) in
      let ly = y.grows in
      fine_choose_low t (suc t) l p q (b.low q.temps q.labels) (omega arith) x y (f.low q.temps q.labels (omega arith))

  pub fine_choose : (c a b : Lowering) → FineWay c → FineWay a → FineWay b → FineWay (choose c a b)
  fine_choose c a b h g f = record {
    low = fine_choice c a b h g f;
    branch = λ sense to t l le. fine_test scene sense to t ((choose c a b).low t l) (fine_choice c a b h g f t l le);
    drop = λ t l le.
        let p = c.branch false l t (suc (suc l)) in
        let x = h.branch false l t (suc (suc l)) le in
        let lx = x.grows in
        let q = a.drop p.temps p.labels in
        let y = g.drop p.temps p.labels (omega arith) in
        let ly = y.grows in
        fine_choose_drop t l p q (b.drop q.temps q.labels) x y (f.drop q.temps q.labels (omega arith));
    deliver = λ to t l le r.
        let p = c.branch false l t (suc (suc l)) in
        let x = h.branch false l t (suc (suc l)) le in
        let lx = x.grows in
        let q = a.deliver to p.temps p.labels in
        let y = g.deliver to p.temps p.labels (omega arith) (reaches_up scene t p.temps to lx r) in
        let ly = y.grows in
        fine_choose_deliver to t l p q (b.deliver to q.temps q.labels) x y
        (f.deliver to q.temps q.labels (omega arith) (reaches_up scene t q.temps to (omega arith) r));
  }

  pub fine_comma : (a b : Lowering) → FineWay a → FineWay b → FineWay (comma a b)
  fine_comma a b h g = record {
    low = λ t l le.
        let p = a.drop t l in
        let x = h.drop t l le in
        let lx = x.grows in
        let q = b.low p.temps p.labels in
        let y = g.low p.temps p.labels (omega arith) in
        let ly = y.grows in
        record {
          grows = omega arith;
          items = fine_append scene q.temps p.items q.items
              (fine_up scene p.temps q.temps p.items ly x.items) y.items;
          tree = y.tree;
        };
    branch = λ sense to t l le.
        let p = a.drop t l in
        let x = h.drop t l le in
        let lx = x.grows in
        fine_then t p (b.branch sense to p.temps p.labels) x (g.branch sense to p.temps p.labels (omega arith));
    drop = fine_drop_two a b h g;
    deliver = λ to t l le r.
        let p = a.drop t l in
        let x = h.drop t l le in
        let lx = x.grows in
        fine_then t p (b.deliver to p.temps p.labels) x (g.deliver to p.temps p.labels (omega arith) (reaches_up scene t p.temps to lx r));
  }

  pub fine_unary : (op : UnaryOperator) (e : Lowering) → FineWay e → FineWay (Expressions.unary size count op e)
  fine_unary unaries.Plus e h = fine_mapped (λ w. w) (λ u w k. k) e h
  fine_unary unaries.Minus e h = fine_mapped Neg (λ u w k. k) e h
  fine_unary unaries.Complement e h = fine_mapped Com (λ u w k. k) e h
  fine_unary unaries.Not e h = fine_conditional _ e.drop (λ sense to t l le. h.branch (not sense) to t l le) h.drop

  -- `x op= e`, and `++` and `--`
  fine_updated : (f : CType → Tree → Tree → Tree) → ((ty : CType) (u : ℕ) (a b : Tree) → Ok scene u a → Ok scene u b
      → Ok scene u (f ty a b)) → (t : ℕ) (p : Located) (e : Lowering) → first ≤ t → FineFound scene t p → FineWay e
      → FineReady scene t (Assignments.updated size count f p e.low)
  fine_updated f k t p e le h g =
      let lx = h.grows in
      fine_update scene _ _ (f p.type) (k p.type) t p (e.low p.temps p.labels) h (g.low p.temps p.labels (omega arith))

  pub fine_update_by : (f : CType → Tree → Tree → Tree)
      → ((ty : CType) (u : ℕ) (a b : Tree) → Ok scene u a → Ok scene u b → Ok scene u (f ty a b)) → (p : ℕ → ℕ → Located) (e : Lowering)
      → ((t l : ℕ) → first ≤ t → FineFound scene t (p t l)) → FineWay e → FineWay (Assignments.update_by size count f p e)
  fine_update_by f k p e h g = fine_effective _ _
      (λ t l le. fine_store_low scene t (Assignments.updated size count f (p t l) e.low) (fine_updated f k t (p t l) e le (h t l le) g))
      (λ t l le. fine_store_drop scene t (Assignments.updated size count f (p t l) e.low) (fine_updated f k t (p t l) e le (h t l le) g))

  pub fine_step_ready : (by : Direction) (t : ℕ) (p : Located) → FineFound scene t p
      → FineReady scene t (Assignments.step_ready size count by p)
  fine_step_ready by t p h = fine_update scene _ false (step by) (ok_step scene by) t p _ h
      (fine_due (Num (scale p.type)) p.temps p.labels tt)

  pub fine_step : (m : Moment) (by : Direction) (t : ℕ) (p : Located) → FineFound scene t p → Lows t (Assignments.step_low size count m by p)
  fine_step moments.Before by t p h = fine_postfix scene _ (Assignments.step_tree size count by p.type)
      (λ u w k. ok_step scene by u w (Num (scale p.type)) k tt) t p h
  fine_step moments.After by t p h = fine_store_low scene t (Assignments.step_ready size count by p) (fine_step_ready by t p h)

  pub fine_assigned : (between : Bool) (t : ℕ) (p : Located) (e : Lowering) → first ≤ t → FineFound scene t p → FineWay e
      → FineReady scene t (Assignments.assigned size count between p e.low)
  fine_assigned between t p e le h g =
      let lx = h.grows in
      fine_ready scene _ t p (e.low p.temps p.labels) h (g.low p.temps p.labels (omega arith))

  -- an assignment, also to a local that the value is delivered to
  pub fine_assign_low : (o : Option ℕ) (t : ℕ) (p : Located) (e : Lowering) → Assignments.local_of size count p ≡ o → first ≤ t → FineFound scene t p → FineWay e
      → Lows t (Assignments.assign_low size count o p e)
  fine_assign_low None t p e is le h g = fine_store_low scene t (Assignments.assigned size count true p e.low) (fine_assigned true t p e le h g)
  fine_assign_low (Some n) t p e is le h g =
      let lx = h.grows in
      let lt : n < p.temps = subst (OkWhere scene p.temps) (local_is (integer_of p.type) p.place n is).0 h.place in
      let s = g.deliver (InLocal n) p.temps p.labels (omega arith) lt in
      let ls = s.grows in
      let q = e.deliver (InLocal n) p.temps p.labels in
      record {
        grows = omega arith;
        items = fine_append scene q.temps p.items q.items (fine_up scene p.temps q.temps p.items ls h.items) s.items;
        tree = omega arith;
      }

  pub fine_assign_drop : (o : Option ℕ) (t : ℕ) (p : Located) (e : Lowering) → Assignments.local_of size count p ≡ o → first ≤ t → FineFound scene t p → FineWay e
      → Dones t (Assignments.assign_drop size count o p e)
  fine_assign_drop None t p e is le h g = fine_store_drop scene t (Assignments.assigned size count false p e.low) (fine_assigned false t p e le h g)
  fine_assign_drop (Some n) t p e is le h g =
      let lx = h.grows in
      let lt : n < p.temps = subst (OkWhere scene p.temps) (local_is (integer_of p.type) p.place n is).0 h.place in
      let s = g.deliver (InLocal n) p.temps p.labels (omega arith) lt in
      let ls = s.grows in
      let q = e.deliver (InLocal n) p.temps p.labels in
      record { grows = omega arith; items = fine_append scene q.temps p.items q.items (fine_up scene p.temps q.temps p.items ls h.items) s.items }
