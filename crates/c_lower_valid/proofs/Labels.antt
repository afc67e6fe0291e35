-- Labels among the items of expressions and statements.
use Rattle.std.proofs.Common.{ℕ, suc, List, [], ◌∷◌, ◌++◌, refl, arith}
use Rattle.std.specs.Prelude.{Bool, true, false, not, Option, Some, None}
use Rattle.c_types.specs.declared.types.CType.{CType}
use Rattle.c_types.specs.declared.types.Integer.{Integer}
use Rattle.c_types.specs.declared.types.Integer.TheVariants as ints
use Rattle.c_types.specs.declared.typed.UnaryOperator.{UnaryOperator}
use Rattle.c_types.specs.declared.typed.UnaryOperator.TheVariants as unaries
use Rattle.c_types.specs.declared.typed.Moment.{Moment}
use Rattle.c_types.specs.declared.typed.Moment.TheVariants as moments
use Rattle.c_types.specs.declared.typed.Direction.{Direction}
use Rattle.c_types.specs.Constants.{scale}
use Rattle.c_types.specs.Typed.{APlace, VariableAt, PointedBy, ElementBy, AnExpression, Constant, LiteralAt, ArrayAt, ReadOf, SizeOfExpression, SizeOf, AddressOf, CallOf, StepOf}
use Rattle.c_types.specs.Typed.{UnaryOf, CastTo, ConvertTo, ArithmeticOf, CompareOf, BothOf, EitherOf, AdvanceOf, AdvanceByOf, RetreatOf, DistanceOf, ChoiceOf, AssignTo}
use Rattle.c_types.specs.Typed.{ArithmeticAssignTo, AdvanceAssignTo, RetreatAssignTo, CommaOf, SomeExpressions, NoExpressions, MoreExpressions}
use Rattle.c_lower_scheme.specs.Trees.{Tree, Num, Loc, Neg, Com, Bin, Item, AssignLoc}
use Rattle.c_lower_scheme.specs.Parts
use Rattle.c_lower_scheme.specs.Saving
use Rattle.c_lower_scheme.specs.Places
use Rattle.c_lower_scheme.specs.Conditions
use Rattle.c_lower_scheme.specs.Values
use Rattle.c_lower_scheme.specs.Calls
use Rattle.c_lower_scheme.specs.Assignments
use Rattle.c_lower_scheme.specs.Expressions
use Rattle.c_lower_scheme.proofs.Labels.{at}
use Rattle.c_lower_valid.proofs.Marks.{nowhere, Marked, marked_nil, marked_out, marked_append, marked_plain, marked_front, mute_saving, mute_holding, mute_assign, mute_append}
use Rattle.c_lower_valid.proofs.Marks.{mute_pushes, MarkedWay, marked_branch, marked_valued, marked_effective, marked_conditional, marked_two, marked_chain, marked_chain_drop}
use Rattle.c_lower_valid.proofs.Marks.{marked_drops, marked_fork, marked_delivered, marked_apart}

marked_choose_drop : (l : ℕ) (p q r : Parts.Emitted) → Marked (at l) (suc (suc l)) p.labels p.items → Marked nowhere p.labels q.labels q.items → Marked nowhere q.labels r.labels r.items
    → Marked nowhere l (Conditions.choose_drop l p q r).labels (Conditions.choose_drop l p q r).items
marked_choose_drop l p q r h f g = marked_fork nowhere l p.labels q.labels r.labels p.items q.items r.items [] [] (λ m. refl) (λ m. refl) h f g

marked_choose_deliver : (to : Parts.Destination) (l : ℕ) (p q r : Parts.Emitted) → Marked (at l) (suc (suc l)) p.labels p.items → Marked nowhere p.labels q.labels q.items
    → Marked nowhere q.labels r.labels r.items → Marked nowhere l (Conditions.choose_deliver to l p q r).labels (Conditions.choose_deliver to l p q r).items
marked_choose_deliver (Parts.InLocal n) l p q r h f g = marked_choose_drop l p q r h f g
marked_choose_deliver Parts.AsResult l p q r h f g = marked_apart l p.labels q.labels r.labels p.items q.items r.items h f g
marked_choose_deliver (Parts.Releasing pointer n) l p q r h f g = marked_apart l p.labels q.labels r.labels p.items q.items r.items h f g

marked_choice : (c a b : Parts.Lowering) → MarkedWay c → MarkedWay a → MarkedWay b → (t l : ℕ)
    → Marked nowhere l ((Conditions.choose c a b).low t l).labels ((Conditions.choose c a b).low t l).items
marked_choice c a b h f g t l =
    let p = c.branch false l (suc t) (suc (suc l)) in
    let q = a.low p.temps p.labels in
    let r = b.low q.temps q.labels in
    marked_fork nowhere l p.labels q.labels r.labels p.items q.items r.items (AssignLoc t q.tree ∷ []) (AssignLoc t r.tree ∷ [])
    (λ m. refl) (λ m. refl) (h.branch false l (suc t) (suc (suc l))) (f.low p.temps p.labels) (g.low q.temps q.labels)

marked_choose : (c a b : Parts.Lowering) → MarkedWay c → MarkedWay a → MarkedWay b → MarkedWay (Conditions.choose c a b)
marked_choose c a b h f g = record {
  low = marked_choice c a b h f g;
  branch = λ sense to t l. marked_branch _ to ((Conditions.choose c a b).low t l).tree (Num 0) l ((Conditions.choose c a b).low t l).labels
      ((Conditions.choose c a b).low t l).items (marked_choice c a b h f g t l);
  drop = λ t l.
      let p = c.branch false l t (suc (suc l)) in
      let q = a.drop p.temps p.labels in
      marked_choose_drop l p q (b.drop q.temps q.labels) (h.branch false l t (suc (suc l))) (f.drop p.temps p.labels) (g.drop q.temps q.labels);
  deliver = λ to t l.
      let p = c.branch false l t (suc (suc l)) in
      let q = a.deliver to p.temps p.labels in
      marked_choose_deliver to l p q (b.deliver to q.temps q.labels) (h.branch false l t (suc (suc l))) (f.deliver to p.temps p.labels) (g.deliver to q.temps q.labels);
}

marked_store_low : (s : Parts.Where) (r : Parts.Assignable) (l : ℕ) → Marked nowhere l r.labels r.items
    → Marked nowhere l (Assignments.store_low_at s r).labels (Assignments.store_low_at s r).items
marked_store_low (Parts.InLoc n) r l h = marked_plain nowhere l r.labels r.items _ h (λ m. refl)
marked_store_low (Parts.InArg n) r l h = marked_plain nowhere l r.labels r.items _ h (λ m. refl)
marked_store_low (Parts.InMem a) r l h = marked_plain nowhere l r.labels r.items _ h (λ m. refl)

marked_store_drop : (r : Parts.Assignable) (l : ℕ) → Marked nowhere l r.labels r.items
    → Marked nowhere l (Assignments.store_drop r).labels (Assignments.store_drop r).items
marked_store_drop r l h = marked_plain nowhere l r.labels r.items _ h (mute_assign r.type r.place r.value)

marked_ready : (b : Bool) (u : ℕ) (s : Parts.Where) (l p q : ℕ) (a c : List Item) → Marked nowhere l p a → Marked nowhere p q c
    → Marked nowhere l q (a ++ (Places.holding b u s ++ c))
marked_ready b u s l p q a c h g = marked_append nowhere l p q a _ h
    (marked_front nowhere p q (Places.holding b u s) c (mute_holding b u s) g)

marked_update : (b : Bool) (u : ℕ) (s : Parts.Where) (c : Bool) (v : ℕ) (w : Tree) (l p q : ℕ) (a d : List Item)
    → Marked nowhere l p a → Marked nowhere p q d
    → Marked nowhere l q (a ++ (Places.holding b u s ++ (Saving.saving c v w ++ d)))
marked_update b u s c v w l p q a d h g = marked_ready b u s l p q a (Saving.saving c v w ++ d) h
    (marked_front nowhere p q (Saving.saving c v w) d (mute_saving c v w) g)

marked_post : (b : Bool) (u : ℕ) (s : Parts.Where) (n : ℕ) (w : Tree) (ty : CType) (s' : Parts.Where) (w' : Tree) (l p : ℕ)
    (a : List Item) → Marked nowhere l p a → Marked nowhere l p
    (a ++ (Places.holding b u s ++ (AssignLoc n w ∷ Places.assign_to ty s' w' ∷ [])))
marked_post b u s n w ty s' w' l p a h = marked_plain nowhere l p a _ h
    (mute_append (Places.holding b u s) _ (mute_holding b u s)
    (mute_append (AssignLoc n w ∷ []) (Places.assign_to ty s' w' ∷ []) (λ m. refl) (mute_assign ty s' w')))

marked_call : (f : ℕ) (q : Parts.Passing) (l : ℕ) → Marked nowhere l q.labels q.items
    → Marked nowhere l (Calls.called_low f q).labels (Calls.called_low f q).items
marked_call f q l h = marked_plain nowhere l q.labels q.items _ h (mute_pushes q.trees _ (λ m. refl))

marked_call_drop : (f : ℕ) (q : Parts.Passing) (l : ℕ) → Marked nowhere l q.labels q.items
    → Marked nowhere l (Calls.called_drop f q).labels (Calls.called_drop f q).items
marked_call_drop f q l h = marked_plain nowhere l q.labels q.items _ h (mute_pushes q.trees _ (λ m. refl))

marked_call_deliver : (to : Parts.Destination) (f : ℕ) (q : Parts.Passing) (l : ℕ) → Marked nowhere l q.labels q.items
    → Marked nowhere l (Calls.called_deliver to f q).labels (Calls.called_deliver to f q).items
marked_call_deliver (Parts.InLocal n) f q l h = marked_plain nowhere l q.labels q.items _ h (mute_pushes q.trees _ (λ m. refl))
marked_call_deliver Parts.AsResult f q l h = marked_delivered Parts.AsResult (Calls.called_low f q) l (marked_call f q l h)
marked_call_deliver (Parts.Releasing pointer n) f q l h = marked_delivered (Parts.Releasing pointer n) (Calls.called_low f q) l (marked_call f q l h)

marked_deliver_as : (i : Integer) (e : Parts.Lowering) → MarkedWay e → (to : Parts.Destination) (t l : ℕ)
    → Marked nowhere l (Conditions.deliver_as i e to t l).labels (Conditions.deliver_as i e to t l).items
marked_deliver_as ints.Char e h to t l = marked_delivered to (Parts.over (Places.conv ints.Char) (e.low t l)) l (h.low t l)
marked_deliver_as ints.UnsignedChar e h to t l = marked_delivered to (Parts.over (Places.conv ints.UnsignedChar) (e.low t l)) l (h.low t l)
marked_deliver_as ints.Short e h to t l = marked_delivered to (Parts.over (Places.conv ints.Short) (e.low t l)) l (h.low t l)
marked_deliver_as ints.UnsignedShort e h to t l = marked_delivered to (Parts.over (Places.conv ints.UnsignedShort) (e.low t l)) l (h.low t l)
marked_deliver_as ints.Int e h to t l = h.deliver to t l

module _ (size count : ℕ) where
  marked_joined : (a b : Parts.Lowering) (t l : ℕ) → MarkedWay a → MarkedWay b
      → Marked nowhere l (Values.joined size count a b t l).labels (Values.joined size count a b t l).items
  marked_joined a b t l h g = marked_two nowhere _ _ _ l (a.low t l).labels _ _ _ (h.low t l) (g.low (a.low t l).temps (a.low t l).labels)

  marked_binary : (f : Tree → Tree → Tree) (a b : Parts.Lowering) → MarkedWay a → MarkedWay b
      → MarkedWay (Values.binary size count f a b)
  marked_binary f a b h g = marked_valued _ (λ t l. marked_joined a b t l h g)

  marked_mapped : (f : Tree → Tree) (e : Parts.Lowering) → MarkedWay e → MarkedWay (Conditions.mapped f e)
  marked_mapped f e h = marked_effective _ _ (λ t l. h.low t l) h.drop

  marked_converting : (ty : CType) (e : Parts.Lowering) → MarkedWay e → MarkedWay (Conditions.converting ty e)
  marked_converting ty e h =
      let w : MarkedWay (Conditions.mapped (Places.fitted ty) e) = marked_mapped (Places.fitted ty) e h in
      record { low = w.low; branch = w.branch; drop = w.drop; deliver = marked_deliver_as (Places.integer_of ty) e h }

  -- an assignment, also to a local that the value is delivered to
  marked_assign_low : (o : Option ℕ) (q : Parts.Located) (e : Parts.Lowering) (l : ℕ) → Marked nowhere l q.labels q.items → MarkedWay e
      → Marked nowhere l (Assignments.assign_low size count o q e).labels (Assignments.assign_low size count o q e).items
  marked_assign_low None q e l h g =
      let r = Assignments.assigned size count true q e.low in
      marked_store_low r.place r l (marked_ready _ _ _ l q.labels _ _ _ h (g.low q.temps q.labels))
  marked_assign_low (Some n) q e l h g = marked_append nowhere l q.labels _ _ _ h (g.deliver (Parts.InLocal n) q.temps q.labels)

  marked_assign_drop : (o : Option ℕ) (q : Parts.Located) (e : Parts.Lowering) (l : ℕ) → Marked nowhere l q.labels q.items → MarkedWay e
      → Marked nowhere l (Assignments.assign_drop size count o q e).labels (Assignments.assign_drop size count o q e).items
  marked_assign_drop None q e l h g =
      let r = Assignments.assigned size count false q e.low in
      marked_store_drop r l (marked_ready _ _ _ l q.labels _ _ _ h (g.low q.temps q.labels))
  marked_assign_drop (Some n) q e l h g = marked_append nowhere l q.labels _ _ _ h (g.deliver (Parts.InLocal n) q.temps q.labels)

  marked_unary : (op : UnaryOperator) (e : Parts.Lowering) → MarkedWay e → MarkedWay (Expressions.unary size count op e)
  marked_unary unaries.Plus e h = marked_mapped (λ w. w) e h
  marked_unary unaries.Minus e h = marked_mapped Neg e h
  marked_unary unaries.Complement e h = marked_mapped Com e h
  marked_unary unaries.Not e h = marked_conditional _ e.drop (λ sense to t l. h.branch (not sense) to t l) h.drop

  marked_updates : (f : CType → Tree → Tree → Tree) (p : ℕ → ℕ → Parts.Located) (e : Parts.Lowering)
      → ((t l : ℕ) → Marked nowhere l (p t l).labels (p t l).items) → MarkedWay e → MarkedWay (Assignments.update_by size count f p e)
  marked_updates f p e h g = marked_effective _ _
      (λ t l. let r = Assignments.updated size count f (p t l) e.low in
      marked_store_low r.place r l (marked_update _ _ _ _ _ _ l (p t l).labels _ _ _ (h t l) (g.low (p t l).temps (p t l).labels)))
      (λ t l. let r = Assignments.updated size count f (p t l) e.low in
      marked_store_drop r l (marked_update _ _ _ _ _ _ l (p t l).labels _ _ _ (h t l) (g.low (p t l).temps (p t l).labels)))

  marked_step : (m : Moment) (by : Direction) (p : Parts.Located) (l : ℕ) → Marked nowhere l p.labels p.items
      → Marked nowhere l (Assignments.step_low size count m by p).labels (Assignments.step_low size count m by p).items
  marked_step moments.Before by p l h = marked_post _ _ _ _ _ p.type _
      (Values.step by (Loc (Saving.next_if (Assignments.must_keep size count [] p.place) p.temps)) (Num (scale p.type))) l
      p.labels _ h
  marked_step moments.After by p l h = let r = Assignments.step_ready size count by p in
      marked_store_low r.place r l (marked_ready _ _ _ l p.labels p.labels _ [] h (marked_nil nowhere p.labels))

  mutual
    pub marked_seek : (a : APlace) (t l : ℕ) → Marked nowhere l (Expressions.seek size count a t l).labels
        (Expressions.seek size count a t l).items
    marked_seek (VariableAt ty v) t l = marked_nil nowhere l
    marked_seek (PointedBy ty e) t l = (marked_way e).low t l
    marked_seek (ElementBy ty e) t l = (marked_way e).low t l

    pub marked_way : (e : AnExpression) → MarkedWay (Expressions.way size count e)
    marked_way (Constant n) = marked_valued _ (λ t l. marked_nil nowhere l)
    marked_way (LiteralAt n bytes) = marked_valued _ (λ t l. marked_nil nowhere l)
    marked_way (ArrayAt ty v bytes) = marked_valued _ (λ t l. marked_nil nowhere l)
    marked_way (ReadOf a) = marked_valued _ (λ t l. marked_seek a t l)
    marked_way (SizeOfExpression n e) = marked_valued _ (λ t l. marked_nil nowhere l)
    marked_way (SizeOf n) = marked_valued _ (λ t l. marked_nil nowhere l)
    marked_way (AddressOf ty a) = marked_valued _ (λ t l. marked_seek a t l)
    marked_way (CallOf ty f to es) =
        let n = Calls.callee_number count f in
        record {
          low = λ t l. marked_call n (Expressions.pass size count es to t l) l (marked_pass es to t l);
          branch = λ sense at t l.
              let p = Calls.called_low n (Expressions.pass size count es to t l) in
              marked_branch _ at p.tree (Num 0) l p.labels p.items (marked_call n (Expressions.pass size count es to t l) l (marked_pass es to t l));
          drop = λ t l. marked_call_drop n (Expressions.pass size count es to t l) l (marked_pass es to t l);
          deliver = λ at t l. marked_call_deliver at n (Expressions.pass size count es to t l) l (marked_pass es to t l);
        }
    marked_way (StepOf m by a) = marked_effective _ _
        (λ t l. marked_step m by (Expressions.seek size count a t l) l (marked_seek a t l))
        (λ t l. marked_store_drop (Assignments.step_ready size count by (Expressions.seek size count a t l)) l
        (marked_ready _ _ _ l (Expressions.seek size count a t l).labels (Expressions.seek size count a t l).labels _ []
        (marked_seek a t l) (marked_nil nowhere (Expressions.seek size count a t l).labels)))
    marked_way (UnaryOf op e) = marked_unary op _ (marked_way e)
    marked_way (CastTo ty e) = marked_converting ty _ (marked_way e)
    marked_way (ConvertTo ty e) = marked_converting ty _ (marked_way e)
    marked_way (ArithmeticOf op a b) = marked_binary (Bin op) _ _ (marked_way a) (marked_way b)
    marked_way (CompareOf r a b) = marked_conditional _ _
        (λ sense to t l. marked_branch _ to _ _ l _ _ (marked_joined _ _ t l (marked_way a) (marked_way b)))
        (λ t l. marked_drops _ _ t l (marked_way a) (marked_way b))
    marked_way (BothOf a b) = marked_conditional _ _ (λ sense to t l. marked_chain false sense _ _ to t l (marked_way a) (marked_way b))
        (λ t l. marked_chain_drop false _ _ t l (marked_way a) (marked_way b))
    marked_way (EitherOf a b) = marked_conditional _ _
        (λ sense to t l. marked_chain true sense _ _ to t l (marked_way a) (marked_way b))
        (λ t l. marked_chain_drop true _ _ t l (marked_way a) (marked_way b))
    marked_way (AdvanceOf ty a b) = marked_binary (Values.advance ty) _ _ (marked_way a) (marked_way b)
    marked_way (AdvanceByOf ty a b) = marked_binary (Values.advance_by ty) _ _ (marked_way a) (marked_way b)
    marked_way (RetreatOf ty a b) = marked_binary (Values.retreat ty) _ _ (marked_way a) (marked_way b)
    marked_way (DistanceOf ty a b) = marked_binary (Values.apart ty) _ _ (marked_way a) (marked_way b)
    marked_way (ChoiceOf ty c a b) = marked_choose _ _ _ (marked_way c) (marked_way a) (marked_way b)
    marked_way (AssignTo a e) = marked_effective _ _
        (λ t l. let q = Expressions.seek size count a t l in
        marked_assign_low (Assignments.local_of size count q) q (Expressions.way size count e) l (marked_seek a t l) (marked_way e))
        (λ t l. let q = Expressions.seek size count a t l in
        marked_assign_drop (Assignments.local_of size count q) q (Expressions.way size count e) l (marked_seek a t l) (marked_way e))
    marked_way (ArithmeticAssignTo op a e) = marked_updates (λ ty. Bin op) (Expressions.seek size count a) _ (λ t l. marked_seek a t l)
        (marked_way e)
    marked_way (AdvanceAssignTo a e) = marked_updates Values.advance (Expressions.seek size count a) _ (λ t l. marked_seek a t l)
        (marked_way e)
    marked_way (RetreatAssignTo a e) = marked_updates Values.retreat (Expressions.seek size count a) _ (λ t l. marked_seek a t l)
        (marked_way e)
    marked_way (CommaOf ty a b) = record {
      low = λ t l. marked_append nowhere l _ _ _ _ ((marked_way a).drop t l) ((marked_way b).low _ _);
      branch = λ sense to t l. marked_append (at to) l _ _ _ _
          (marked_out nowhere (at to) l _ _ (λ m. omega arith) ((marked_way a).drop t l)) ((marked_way b).branch sense to _ _);
      drop = λ t l. marked_drops _ _ t l (marked_way a) (marked_way b);
      deliver = λ at t l. marked_append nowhere l _ _ _ _ ((marked_way a).drop t l) ((marked_way b).deliver at _ _);
    }

    pub marked_pass : (es : SomeExpressions) (to : List CType) (t l : ℕ)
        → Marked nowhere l (Expressions.pass size count es to t l).labels (Expressions.pass size count es to t l).items
    marked_pass NoExpressions to t l = marked_nil nowhere l
    marked_pass (MoreExpressions e es) to t l = marked_two nowhere _ _ _ l ((Expressions.way size count e).low t l).labels _ _ _
        ((marked_way e).low t l) (marked_pass es (Calls.others to) _ _)
