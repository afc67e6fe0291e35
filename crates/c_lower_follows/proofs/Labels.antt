-- Each label stands once in a function, so each jump goes where it is to.
use Rattle.std.proofs.Common.{◌≡◌, ℕ, zero, suc, ◌+◌, ◌≤◌, ◌<◌, List, [], ◌∷◌, ◌++◌, length, Option, Some, None, refl, ap, arith, sym, ◌∙◌, subst, append_assoc, ◌⊎◌, inl, inr, ⊎_elim}
use Rattle.std.specs.Prelude.{Bool, true, false, not, cond, slice_get}
use Rattle.std.proofs.lemmas.Bool.{cases_lt, cases_eq, eq-eqb, ne_eqb}
use Rattle.tree_core.specs.declared.program.TreeFn.{TreeFn}
use Rattle.tree_meaning.specs.State.{behind}
use Rattle.c_types.specs.declared.types.CType.{CType}
use Rattle.c_types.specs.declared.types.Integer.{Integer}
use Rattle.c_types.specs.declared.types.Integer.TheVariants as ints
use Rattle.c_types.specs.declared.typed.UnaryOperator.{UnaryOperator}
use Rattle.c_types.specs.declared.typed.UnaryOperator.TheVariants as unaries
use Rattle.c_types.specs.declared.typed.Moment.{Moment}
use Rattle.c_types.specs.declared.typed.Moment.TheVariants as moments
use Rattle.c_types.specs.declared.typed.Direction.{Direction}
use Rattle.c_types.specs.Constants.{scale, constant_of}
use Rattle.c_types.specs.Typed.{APlace, VariableAt, PointedBy, ElementBy, AnExpression, Constant, LiteralAt, ArrayAt, ReadOf, SizeOfExpression, SizeOf, AddressOf, CallOf, StepOf}
use Rattle.c_types.specs.Typed.{UnaryOf, CastTo, ConvertTo, ArithmeticOf, CompareOf, BothOf, EitherOf, AdvanceOf, AdvanceByOf, RetreatOf, DistanceOf, ChoiceOf, AssignTo}
use Rattle.c_types.specs.Typed.{ArithmeticAssignTo, AdvanceAssignTo, RetreatAssignTo, CommaOf, SomeExpressions, NoExpressions, MoreExpressions}
use Rattle.c_program.specs.Statements.{ADeclaration, KeepOf, ClearOf, BeginOf, StoreOf, ZerosOf, AnAction, SomeActions, NoActions, MoreActions, DeclareOf, BlockOf, EvaluateOf, BreakOf, ContinueOf}
use Rattle.c_program.specs.Statements.{ReturnOf, IfOf, IfElseOf, WhileOf, DoOf, ForOf}
use Rattle.c_program.specs.Programs.{ARoutine}
use Rattle.c_lower_scheme.specs.Trees.{Tree, Num, Gaddr, Loc, Neg, Com, Bin, Item, Label, AssignLoc, AssignArg, AssignMem, Cbr, Jump, Push, Call, Save, Ret, reads, breaks}
use Rattle.c_lower_scheme.specs.Spelling.{spelled, spelled_all}
use Rattle.c_lower_scheme.specs.Parts
use Rattle.c_lower_scheme.specs.Saving
use Rattle.c_lower_scheme.specs.Places
use Rattle.c_lower_scheme.specs.Conditions
use Rattle.c_lower_scheme.specs.Values
use Rattle.c_lower_scheme.specs.Calls
use Rattle.c_lower_scheme.specs.Assignments
use Rattle.c_lower_scheme.specs.Expressions
use Rattle.c_lower_scheme.specs.Mentions
use Rattle.c_lower_scheme.specs.Zeros
use Rattle.c_lower_scheme.specs.Flow
use Rattle.c_lower_scheme.specs.Statements
use Rattle.c_lower_scheme.specs.Programs.{body_of, function_of, lower_all}
use Rattle.c_lower_scheme.proofs.Labels.{at, tag_by, tag, stands, stands_append}
use Rattle.c_lower_follows.proofs.Steps.{Resolves, Goes}
use Rattle.c_lower_follows.proofs.Calling.{CodeOf, items_by}

same_tag : (l : ℕ) → at l l ≡ 1
same_tag l = ap (λ b. cond b 1 0) (eq-eqb l l refl)

-- the items behind a label that stands once
passes : (i : Item) (is : List Item) (l : ℕ) → tag i l ≡ 0 → behind (spelled i ∷ spelled_all is) l ≡ behind (spelled_all is) l
passes (Label k) is l z = ⊎_elim (λ e. absurd (let one : at k l ≡ 1 = ap (λ b. cond b 1 0) (eq-eqb k l e) in omega (arith, one, z)))
    (λ ne. ap (λ b. cond b (spelled_all is) (behind (spelled_all is) l)) (ne_eqb k l ne)) (cases_eq k l)
passes (AssignLoc n w) is l z = refl
passes (AssignArg n w) is l z = refl
passes (AssignMem i a w) is l z = mem i
  where
    mem : (i : Integer) → behind (spelled (AssignMem i a w) ∷ spelled_all is) l ≡ behind (spelled_all is) l
    mem ints.Char = refl
    mem ints.UnsignedChar = refl
    mem ints.Short = refl
    mem ints.UnsignedShort = refl
    mem ints.Int = refl
passes (Cbr r k a b) is l z = refl
passes (Jump k) is l z = refl
passes (Push w) is l z = refl
passes (Call f n) is l z = refl
passes (Save n) is l z = refl
passes (Ret w) is l z = refl

behind_at : (pre is : List Item) (l : ℕ) → stands l pre ≡ 0 → behind (spelled_all (pre ++ (Label l ∷ is))) l ≡ spelled_all is
behind_at [] is l z = ap (λ b. cond b (spelled_all is) (behind (spelled_all is) l)) (eq-eqb l l refl)
behind_at (i ∷ pre) is l z = passes i (pre ++ (Label l ∷ is)) l (omega arith) ∙ behind_at pre is l (omega arith)

goes_at : (whole pre is : List Item) (i : Item) → whole ≡ pre ++ (i ∷ is) → ((m : ℕ) → stands m whole ≤ 1) → Goes (spelled_all whole) is i
goes_at whole pre is (Label l) e once =
    let one = same_tag l in
    let sum : stands l whole ≡ stands l pre + stands l (Label l ∷ is) = ap (stands l) e ∙ stands_append l pre (Label l ∷ is) in
    let none : stands l pre ≡ 0 = omega (arith, once l) in
    ap (λ w. behind (spelled_all w) l) e ∙ behind_at pre is l none
goes_at whole pre is (AssignLoc n w) e once = tt
goes_at whole pre is (AssignArg n w) e once = tt
goes_at whole pre is (AssignMem i a w) e once = tt
goes_at whole pre is (Cbr r l a b) e once = tt
goes_at whole pre is (Jump l) e once = tt
goes_at whole pre is (Push w) e once = tt
goes_at whole pre is (Call f n) e once = tt
goes_at whole pre is (Save n) e once = tt
goes_at whole pre is (Ret w) e once = tt

pub resolves_from : (whole pre is : List Item) → whole ≡ pre ++ is → ((m : ℕ) → stands m whole ≤ 1) → Resolves (spelled_all whole) is
resolves_from whole pre [] e once = tt
resolves_from whole pre (i ∷ is) e once = (goes_at whole pre is i e once, resolves_from whole (pre ++ (i ∷ [])) is (e ∙ sym (append_assoc pre (i ∷ []) is)) once)

-- each label of the items is from l up to u, and stands once
pub record Once (l u : ℕ) (is : List Item) : Type 0 where
  pub grows : l ≤ u
  pub once : (m : ℕ) → stands m is ≤ 1
  pub inside : (m : ℕ) → (m < l) ⊎ (u ≤ m) → stands m is ≡ 0

once_nil : (l : ℕ) → Once l l []
once_nil l = record { grows = omega arith; once = λ m. omega arith; inside = λ m o. refl }

once_same : (l u : ℕ) (is js : List Item) → Once l u is → ((m : ℕ) → stands m js ≡ stands m is) → Once l u js
once_same l u is js h e = record { grows = h.grows; once = λ m. omega (arith, e m, h.once m); inside = λ m o. e m ∙ h.inside m o }

once_append : (l u w : ℕ) (a b : List Item) → Once l u a → Once u w b → Once l w (a ++ b)
once_append l u w a b h g = record {
  grows = omega (arith, h.grows, g.grows);
  once = λ m. ⊎_elim (λ lt. omega (arith, stands_append m a b, h.once m, g.inside m (inl lt))) (λ ge. omega (arith, stands_append m a b, g.once m, h.inside m (inr ge))) (cases_lt m u);
  inside = λ m o. ⊎_elim (λ lt. omega (arith, stands_append m a b, h.inside m (inl lt), g.inside m (inl (omega (arith, h.grows)))))
      (λ ge. omega (arith, stands_append m a b, g.inside m (inr ge), h.inside m (inr (omega (arith, g.grows))))) o;
}

-- one label below the others, anywhere
once_count : (l u : ℕ) (is js : List Item) → Once (suc l) u is → ((m : ℕ) → stands m js ≡ at l m + stands m is) → Once l u js
once_count l u is js h e = record {
  grows = omega (arith, h.grows);
  once = λ m. ⊎_elim (λ y. let s = y.0 in omega (arith, e m, y.1, h.inside m (inl (omega arith)))) (λ n. omega (arith, e m, n.1, h.once m)) (tag_by l m);
  inside = λ m o. ⊎_elim (λ y. let s = y.0 in absurd (⊎_elim (λ lt. omega arith) (λ ge. omega (arith, h.grows)) o))
      (λ n. let ne = n.0 in omega (arith, e m, n.1, h.inside m (⊎_elim (λ lt. inl (omega arith)) (λ ge. inr ge) o))) (tag_by l m);
}

-- items with no label
once_plain : (l u : ℕ) (is js : List Item) → Once l u is → ((m : ℕ) → stands m js ≡ 0) → Once l u (is ++ js)
once_plain l u is js h z = once_same l u is (is ++ js) h (λ m. omega (arith, stands_append m is js, z m))

once_front : (l u : ℕ) (js is : List Item) → ((m : ℕ) → stands m js ≡ 0) → Once l u is → Once l u (js ++ is)
once_front l u js is z h = once_same l u is (js ++ is) h (λ m. omega (arith, stands_append m js is, z m))

once_wider : (l k u : ℕ) (is : List Item) → l ≤ k → Once k u is → Once l u is
once_wider l k u is le h = record { grows = omega (arith, h.grows); once = h.once; inside = λ m o. h.inside m (⊎_elim (λ lt. inl (omega arith)) (λ ge. inr ge) o) }

none_saving : (b : Bool) (u : ℕ) (w : Tree) (m : ℕ) → stands m (Saving.saving b u w) ≡ 0
none_saving true u w m = refl
none_saving false u w m = refl

none_holding : (b : Bool) (u : ℕ) (s : Parts.Where) (m : ℕ) → stands m (Places.holding b u s) ≡ 0
none_holding b u (Parts.InLoc n) m = refl
none_holding b u (Parts.InArg n) m = refl
none_holding b u (Parts.InMem a) m = none_saving b u a m

none_assign : (ty : CType) (s : Parts.Where) (w : Tree) (m : ℕ) → tag (Places.assign_to ty s w) m ≡ 0
none_assign ty (Parts.InLoc n) w m = refl
none_assign ty (Parts.InArg n) w m = refl
none_assign ty (Parts.InMem a) w m = refl

stands_pushes : (m : ℕ) (ws : List Tree) (is : List Item) → stands m (Calls.pushes ws is) ≡ stands m is
stands_pushes m [] is = refl
stands_pushes m (w ∷ ws) is = let h = stands_pushes m ws (Push w ∷ is) in omega arith

-- in each of the three ways
pub record OnceWay (w : Parts.Lowering) : Type 0 where
  pub low : (t l : ℕ) → Once l (w.low t l).labels (w.low t l).items
  pub branch : (sense : Bool) (to t l : ℕ) → Once l (w.branch sense to t l).labels (w.branch sense to t l).items
  pub drop : (t l : ℕ) → Once l (w.drop t l).labels (w.drop t l).items
  pub deliver : (to : Parts.Destination) (t l : ℕ) → Once l (w.deliver to t l).labels (w.deliver to t l).items

once_delivered : (to : Parts.Destination) (p : Parts.Lowered) (l : ℕ) → Once l p.labels p.items → Once l (Parts.delivered to p).labels (Parts.delivered to p).items
once_delivered (Parts.InLocal n) p l h = once_plain l p.labels p.items _ h (λ m. refl)
once_delivered Parts.AsResult p l h = once_plain l p.labels p.items _ h (λ m. refl)
once_delivered (Parts.Releasing pointer n) p l h = once_plain l p.labels p.items _ h (λ m. omega (
  arith,
  stands_append m (Saving.saving (reads p.tree) p.temps p.tree) (AssignMem ints.Int (Gaddr pointer) (Loc n) ∷ Ret (Saving.saved (reads p.tree) p.temps p.tree) ∷ []),
  none_saving (reads p.tree) p.temps p.tree m,
))

once_valued : (f : ℕ → ℕ → Parts.Lowered) → ((t l : ℕ) → Once l (f t l).labels (f t l).items) → OnceWay (Conditions.valued f)
once_valued f h = record {
  low = h;
  branch = λ sense to t l. once_plain l (f t l).labels (f t l).items _ (h t l) (λ m. refl);
  drop = λ t l. once_plain l (f t l).labels (f t l).items _ (h t l) (none_saving (breaks (f t l).tree) (f t l).temps (f t l).tree);
  deliver = λ to t l. once_delivered to (f t l) l (h t l);
}

once_effective : (f : ℕ → ℕ → Parts.Lowered) (g : ℕ → ℕ → Parts.Emitted) → ((t l : ℕ) → Once l (f t l).labels (f t l).items) → ((t l : ℕ) → Once l (g t l).labels (g t l).items)
    → OnceWay (Conditions.effective f g)
once_effective f g h h' = record {
  low = h;
  branch = λ sense to t l. once_plain l (f t l).labels (f t l).items _ (h t l) (λ m. refl);
  drop = h';
  deliver = λ to t l. once_delivered to (f t l) l (h t l);
}

once_conditional : (f : Bool → ℕ → ℕ → ℕ → Parts.Emitted) (g : ℕ → ℕ → Parts.Emitted) → ((sense : Bool) (to t l : ℕ) → Once l (f sense to t l).labels (f sense to t l).items)
    → ((t l : ℕ) → Once l (g t l).labels (g t l).items) → OnceWay (Conditions.conditional f g)
once_conditional f g h h' = record { low = truth; branch = h; drop = h'; deliver = λ to t l. once_delivered to (Conditions.truth_of t l (f false l (suc t) (suc l))) l (truth t l) }
  where
    truth : (t l : ℕ) → Once l (Conditions.truth_of t l (f false l (suc t) (suc l))).labels (Conditions.truth_of t l (f false l (suc t) (suc l))).items
    truth t l = let b = f false l (suc t) (suc l) in once_count l b.labels b.items _ (h false l (suc t) (suc l)) (λ m. omega (arith, stands_append m b.items (AssignLoc t (Num 1) ∷ Label l ∷ [])))

once_two : (u : ℕ) (b : Bool) (w : Tree) (l p q : ℕ) (a c : List Item) → Once l p a → Once p q c → Once l q (a ++ (Saving.saving b u w ++ c))
once_two u b w l p q a c h g = once_append l p q a (Saving.saving b u w ++ c) h (once_front p q (Saving.saving b u w) c (none_saving b u w) g)

once_inner : (l p q : ℕ) (a c : List Item) → Once (suc l) p a → Once p q c → Once l q (a ++ (c ++ (Label l ∷ [])))
once_inner l p q a c h g = once_count l q (a ++ c) (a ++ (c ++ (Label l ∷ []))) (once_append (suc l) p q a c h g)
    (λ m. omega (arith, stands_append m a (c ++ (Label l ∷ [])), stands_append m c (Label l ∷ []), stands_append m a c))

once_direct : (l p q : ℕ) (a c : List Item) → Once (suc l) p a → Once p q c → Once l q (a ++ c)
once_direct l p q a c h g = once_wider l (suc l) q (a ++ c) (omega arith) (once_append (suc l) p q a c h g)

once_chain : (stop sense : Bool) (a b : Parts.Lowering) (to t l : ℕ) → OnceWay a → OnceWay b
    → Once l (Conditions.chain stop a b sense to t l).labels (Conditions.chain stop a b sense to t l).items
once_chain true true a b to t l h g = once_direct l _ _ _ _ (h.branch true to t (suc l)) (g.branch true to (a.branch true to t (suc l)).temps (a.branch true to t (suc l)).labels)
once_chain true false a b to t l h g = once_inner l _ _ _ _ (h.branch true l t (suc l)) (g.branch false to (a.branch true l t (suc l)).temps (a.branch true l t (suc l)).labels)
once_chain false true a b to t l h g = once_inner l _ _ _ _ (h.branch false l t (suc l)) (g.branch true to (a.branch false l t (suc l)).temps (a.branch false l t (suc l)).labels)
once_chain false false a b to t l h g = once_direct l _ _ _ _ (h.branch false to t (suc l)) (g.branch false to (a.branch false to t (suc l)).temps (a.branch false to t (suc l)).labels)

once_drops : (a b : Parts.Lowering) (t l : ℕ) → OnceWay a → OnceWay b → Once l (Conditions.drop_two a b t l).labels (Conditions.drop_two a b t l).items
once_drops a b t l h g = once_append l _ _ _ _ (h.drop t l) (g.drop (a.drop t l).temps (a.drop t l).labels)

-- a part, a jump over the other part, and that part
once_fork : (l p q r : ℕ) (a b c b1 c1 : List Item) → ((m : ℕ) → stands m b1 ≡ 0) → ((m : ℕ) → stands m c1 ≡ 0) → Once (suc (suc l)) p a → Once p q b → Once q r c
    → Once l r (a ++ (b ++ (b1 ++ (Jump (suc l) ∷ Label l ∷ (c ++ (c1 ++ (Label (suc l) ∷ [])))))))
once_fork l p q r a b c b1 c1 z z' h f g =
    let T3 : List Item = c1 ++ (Label (suc l) ∷ []) in
    let T2 : List Item = Jump (suc l) ∷ Label l ∷ (c ++ T3) in
    let T1 : List Item = b ++ (b1 ++ T2) in
    let inner : List Item = a ++ (b ++ c) in
    let all = once_append (suc (suc l)) p r a (b ++ c) h (once_append p q r b c f g) in
    let one = once_count (suc l) r inner (Label (suc l) ∷ inner) all (λ m. refl) in
    once_count l r (Label (suc l) ∷ inner) (a ++ T1) one
    (λ m. omega (
      arith,
      stands_append m a T1,
      stands_append m b (b1 ++ T2),
      stands_append m b1 T2,
      stands_append m c T3,
      stands_append m c1 (Label (suc l) ∷ []),
      stands_append m a (b ++ c),
      stands_append m b c,
      z m,
      z' m,
    ))

-- a test, a part, and another where the test goes
once_apart : (l p q r : ℕ) (a b c : List Item) → Once (suc (suc l)) p a → Once p q b → Once q r c → Once l r (a ++ (b ++ (Label l ∷ c)))
once_apart l p q r a b c h f g =
    let inner : List Item = a ++ (b ++ c) in
    let all = once_append (suc (suc l)) p r a (b ++ c) h (once_append p q r b c f g) in
    let wider : Once (suc l) r inner = record { grows = omega (arith, all.grows); once = all.once; inside = λ m o. all.inside m (⊎_elim (λ lt. inl (omega arith)) (λ ge. inr ge) o) } in
    once_count l r inner (a ++ (b ++ (Label l ∷ c))) wider
    (λ m. omega (arith, stands_append m a (b ++ (Label l ∷ c)), stands_append m b (Label l ∷ c), stands_append m a (b ++ c), stands_append m b c))

once_choose_drop : (l : ℕ) (p q r : Parts.Emitted) → Once (suc (suc l)) p.labels p.items → Once p.labels q.labels q.items → Once q.labels r.labels r.items
    → Once l (Conditions.choose_drop l p q r).labels (Conditions.choose_drop l p q r).items
once_choose_drop l p q r h f g = once_fork l p.labels q.labels r.labels p.items q.items r.items [] [] (λ m. refl) (λ m. refl) h f g

once_choose_deliver : (to : Parts.Destination) (l : ℕ) (p q r : Parts.Emitted) → Once (suc (suc l)) p.labels p.items → Once p.labels q.labels q.items → Once q.labels r.labels r.items
    → Once l (Conditions.choose_deliver to l p q r).labels (Conditions.choose_deliver to l p q r).items
once_choose_deliver (Parts.InLocal n) l p q r h f g = once_choose_drop l p q r h f g
once_choose_deliver Parts.AsResult l p q r h f g = once_apart l p.labels q.labels r.labels p.items q.items r.items h f g
once_choose_deliver (Parts.Releasing pointer n) l p q r h f g = once_apart l p.labels q.labels r.labels p.items q.items r.items h f g

once_choice : (c a b : Parts.Lowering) → OnceWay c → OnceWay a → OnceWay b → (t l : ℕ) → Once l ((Conditions.choose c a b).low t l).labels ((Conditions.choose c a b).low t l).items
once_choice c a b h f g t l =
    let p = c.branch false l (suc t) (suc (suc l)) in
    let q = a.low p.temps p.labels in
    let r = b.low q.temps q.labels in
    once_fork l p.labels q.labels r.labels p.items q.items r.items (AssignLoc t q.tree ∷ []) (AssignLoc t r.tree ∷ []) (λ m. refl) (λ m. refl) (h.branch false l (suc t) (suc (suc l)))
    (f.low p.temps p.labels) (g.low q.temps q.labels)

once_choose : (c a b : Parts.Lowering) → OnceWay c → OnceWay a → OnceWay b → OnceWay (Conditions.choose c a b)
once_choose c a b h f g = record {
  low = once_choice c a b h f g;
  branch = λ sense to t l. once_plain l ((Conditions.choose c a b).low t l).labels ((Conditions.choose c a b).low t l).items _ (once_choice c a b h f g t l) (λ m. refl);
  drop = λ t l.
      let p = c.branch false l t (suc (suc l)) in
      let q = a.drop p.temps p.labels in
      once_choose_drop l p q (b.drop q.temps q.labels) (h.branch false l t (suc (suc l))) (f.drop p.temps p.labels) (g.drop q.temps q.labels);
  deliver = λ to t l.
      let p = c.branch false l t (suc (suc l)) in
      let q = a.deliver to p.temps p.labels in
      once_choose_deliver to l p q (b.deliver to q.temps q.labels) (h.branch false l t (suc (suc l))) (f.deliver to p.temps p.labels) (g.deliver to q.temps q.labels);
}

once_store_low : (s : Parts.Where) (r : Parts.Assignable) (l : ℕ) → Once l r.labels r.items → Once l (Assignments.store_low_at s r).labels (Assignments.store_low_at s r).items
once_store_low (Parts.InLoc n) r l h = once_plain l r.labels r.items _ h (λ m. refl)
once_store_low (Parts.InArg n) r l h = once_plain l r.labels r.items _ h (λ m. refl)
once_store_low (Parts.InMem a) r l h = once_plain l r.labels r.items _ h (λ m. refl)

once_store_drop : (r : Parts.Assignable) (l : ℕ) → Once l r.labels r.items → Once l (Assignments.store_drop r).labels (Assignments.store_drop r).items
once_store_drop r l h = once_plain l r.labels r.items _ h (λ m. omega (arith, none_assign r.type r.place r.value m))

once_ready : (b : Bool) (u : ℕ) (s : Parts.Where) (l p q : ℕ) (a c : List Item) → Once l p a → Once p q c → Once l q (a ++ (Places.holding b u s ++ c))
once_ready b u s l p q a c h g = once_append l p q a _ h (once_front p q (Places.holding b u s) c (none_holding b u s) g)

once_update : (b : Bool) (u : ℕ) (s : Parts.Where) (c : Bool) (v : ℕ) (w : Tree) (l p q : ℕ) (a d : List Item) → Once l p a → Once p q d
    → Once l q (a ++ (Places.holding b u s ++ (Saving.saving c v w ++ d)))
once_update b u s c v w l p q a d h g = once_ready b u s l p q a (Saving.saving c v w ++ d) h (once_front p q (Saving.saving c v w) d (none_saving c v w) g)

once_post : (b : Bool) (u : ℕ) (s : Parts.Where) (n : ℕ) (w : Tree) (ty : CType) (s' : Parts.Where) (w' : Tree) (l p : ℕ) (a : List Item) → Once l p a
    → Once l p (a ++ (Places.holding b u s ++ (AssignLoc n w ∷ Places.assign_to ty s' w' ∷ [])))
once_post b u s n w ty s' w' l p a h = once_plain l p a _ h (λ m. omega
    (arith, stands_append m (Places.holding b u s) (AssignLoc n w ∷ Places.assign_to ty s' w' ∷ []), none_holding b u s m, none_assign ty s' w' m))

once_call : (f : ℕ) (q : Parts.Passing) (l : ℕ) → Once l q.labels q.items → Once l (Calls.called_low f q).labels (Calls.called_low f q).items
once_call f q l h = once_plain l q.labels q.items _ h (λ m. stands_pushes m q.trees _)

once_call_drop : (f : ℕ) (q : Parts.Passing) (l : ℕ) → Once l q.labels q.items → Once l (Calls.called_drop f q).labels (Calls.called_drop f q).items
once_call_drop f q l h = once_plain l q.labels q.items _ h (λ m. stands_pushes m q.trees _)

once_call_deliver : (to : Parts.Destination) (f : ℕ) (q : Parts.Passing) (l : ℕ) → Once l q.labels q.items → Once l (Calls.called_deliver to f q).labels (Calls.called_deliver to f q).items
once_call_deliver (Parts.InLocal n) f q l h = once_plain l q.labels q.items _ h (λ m. stands_pushes m q.trees _)
once_call_deliver Parts.AsResult f q l h = once_delivered Parts.AsResult (Calls.called_low f q) l (once_call f q l h)
once_call_deliver (Parts.Releasing pointer n) f q l h = once_delivered (Parts.Releasing pointer n) (Calls.called_low f q) l (once_call f q l h)

once_deliver_as : (i : Integer) (e : Parts.Lowering) → OnceWay e → (to : Parts.Destination) (t l : ℕ) → Once l (Conditions.deliver_as i e to t l).labels (Conditions.deliver_as i e to t l).items
once_deliver_as ints.Char e h to t l = once_delivered to (Parts.over (Places.conv ints.Char) (e.low t l)) l (h.low t l)
once_deliver_as ints.UnsignedChar e h to t l = once_delivered to (Parts.over (Places.conv ints.UnsignedChar) (e.low t l)) l (h.low t l)
once_deliver_as ints.Short e h to t l = once_delivered to (Parts.over (Places.conv ints.Short) (e.low t l)) l (h.low t l)
once_deliver_as ints.UnsignedShort e h to t l = once_delivered to (Parts.over (Places.conv ints.UnsignedShort) (e.low t l)) l (h.low t l)
once_deliver_as ints.Int e h to t l = h.deliver to t l

module _ (size count : ℕ) where
  once_joined : (a b : Parts.Lowering) (t l : ℕ) → OnceWay a → OnceWay b → Once l (Values.joined size count a b t l).labels (Values.joined size count a b t l).items
  once_joined a b t l h g = once_two _ _ _ l (a.low t l).labels _ _ _ (h.low t l) (g.low (a.low t l).temps (a.low t l).labels)

  once_binary : (f : Tree → Tree → Tree) (a b : Parts.Lowering) → OnceWay a → OnceWay b → OnceWay (Values.binary size count f a b)
  once_binary f a b h g = once_valued _ (λ t l. once_joined a b t l h g)

  once_mapped : (f : Tree → Tree) (e : Parts.Lowering) → OnceWay e → OnceWay (Conditions.mapped f e)
  once_mapped f e h = once_effective _ _ (λ t l. h.low t l) h.drop

  once_converting : (ty : CType) (e : Parts.Lowering) → OnceWay e → OnceWay (Conditions.converting ty e)
  once_converting ty e h =
      let w : OnceWay (Conditions.mapped (Places.fitted ty) e) = once_mapped (Places.fitted ty) e h in
      record { low = w.low; branch = w.branch; drop = w.drop; deliver = once_deliver_as (Places.integer_of ty) e h }

  -- an assignment, also to a local that the value is delivered to
  once_assign_low : (o : Option ℕ) (q : Parts.Located) (e : Parts.Lowering) (l : ℕ) → Once l q.labels q.items → OnceWay e
      → Once l (Assignments.assign_low size count o q e).labels (Assignments.assign_low size count o q e).items
  once_assign_low None q e l h g = let r = Assignments.assigned size count true q e.low in once_store_low r.place r l (once_ready _ _ _ l q.labels _ _ _ h (g.low q.temps q.labels))
  once_assign_low (Some n) q e l h g = once_append l q.labels _ _ _ h (g.deliver (Parts.InLocal n) q.temps q.labels)

  once_assign_drop : (o : Option ℕ) (q : Parts.Located) (e : Parts.Lowering) (l : ℕ) → Once l q.labels q.items → OnceWay e
      → Once l (Assignments.assign_drop size count o q e).labels (Assignments.assign_drop size count o q e).items
  once_assign_drop None q e l h g = let r = Assignments.assigned size count false q e.low in once_store_drop r l (once_ready _ _ _ l q.labels _ _ _ h (g.low q.temps q.labels))
  once_assign_drop (Some n) q e l h g = once_append l q.labels _ _ _ h (g.deliver (Parts.InLocal n) q.temps q.labels)

  once_unary : (op : UnaryOperator) (e : Parts.Lowering) → OnceWay e → OnceWay (Expressions.unary size count op e)
  once_unary unaries.Plus e h = once_mapped (λ w. w) e h
  once_unary unaries.Minus e h = once_mapped Neg e h
  once_unary unaries.Complement e h = once_mapped Com e h
  once_unary unaries.Not e h = once_conditional _ e.drop (λ sense to t l. h.branch (not sense) to t l) h.drop

  once_updates : (f : CType → Tree → Tree → Tree) (p : ℕ → ℕ → Parts.Located) (e : Parts.Lowering) → ((t l : ℕ) → Once l (p t l).labels (p t l).items) → OnceWay e
      → OnceWay (Assignments.update_by size count f p e)
  once_updates f p e h g = once_effective _ _
      (λ t l. let r = Assignments.updated size count f (p t l) e.low in once_store_low r.place r l (once_update _ _ _ _ _ _ l (p t l).labels _ _ _ (h t l) (g.low (p t l).temps (p t l).labels)))
      (λ t l. let r = Assignments.updated size count f (p t l) e.low in once_store_drop r l (once_update _ _ _ _ _ _ l (p t l).labels _ _ _ (h t l) (g.low (p t l).temps (p t l).labels)))

  once_step : (m : Moment) (by : Direction) (p : Parts.Located) (l : ℕ) → Once l p.labels p.items
      → Once l (Assignments.step_low size count m by p).labels (Assignments.step_low size count m by p).items
  once_step moments.Before by p l h = once_post _ _ _ _ _ p.type _ (Values.step by (Loc (Saving.next_if (Assignments.must_keep size count [] p.place) p.temps))
      (Num (scale p.type))) l p.labels _ h
  once_step moments.After by p l h = let r = Assignments.step_ready size count by p in once_store_low r.place r l (once_ready _ _ _ l p.labels p.labels _ [] h (once_nil p.labels))

  mutual
    pub once_seek : (a : APlace) (t l : ℕ) → Once l (Expressions.seek size count a t l).labels (Expressions.seek size count a t l).items
    once_seek (VariableAt ty v) t l = once_nil l
    once_seek (PointedBy ty e) t l = (once_way e).low t l
    once_seek (ElementBy ty e) t l = (once_way e).low t l

    pub once_way : (e : AnExpression) → OnceWay (Expressions.way size count e)
    once_way (Constant n) = once_valued _ (λ t l. once_nil l)
    once_way (LiteralAt n bytes) = once_valued _ (λ t l. once_nil l)
    once_way (ArrayAt ty v bytes) = once_valued _ (λ t l. once_nil l)
    once_way (ReadOf a) = once_valued _ (λ t l. once_seek a t l)
    once_way (SizeOfExpression n e) = once_valued _ (λ t l. once_nil l)
    once_way (SizeOf n) = once_valued _ (λ t l. once_nil l)
    once_way (AddressOf ty a) = once_valued _ (λ t l. once_seek a t l)
    once_way (CallOf ty f to es) =
        let n = Calls.callee_number count f in
        record {
          low = λ t l. once_call n (Expressions.pass size count es to t l) l (once_pass es to t l);
          branch = λ sense at t l.
              let p = Calls.called_low n (Expressions.pass size count es to t l) in
              once_plain l p.labels p.items _ (once_call n (Expressions.pass size count es to t l) l (once_pass es to t l)) (λ m. refl);
          drop = λ t l. once_call_drop n (Expressions.pass size count es to t l) l (once_pass es to t l);
          deliver = λ at t l. once_call_deliver at n (Expressions.pass size count es to t l) l (once_pass es to t l);
        }
    once_way (StepOf m by a) = once_effective _ _ (λ t l. once_step m by (Expressions.seek size count a t l) l (once_seek a t l))
        (λ t l. once_store_drop (Assignments.step_ready size count by (Expressions.seek size count a t l)) l
        (once_ready _ _ _ l (Expressions.seek size count a t l).labels (Expressions.seek size count a t l).labels _ [] (once_seek a t l) (once_nil (Expressions.seek size count a t l).labels)))
    once_way (UnaryOf op e) = once_unary op _ (once_way e)
    once_way (CastTo ty e) = once_converting ty _ (once_way e)
    once_way (ConvertTo ty e) = once_converting ty _ (once_way e)
    once_way (ArithmeticOf op a b) = once_binary (Bin op) _ _ (once_way a) (once_way b)
    once_way (CompareOf r a b) = once_conditional _ _ (λ sense to t l. once_plain l _ _ _ (once_joined _ _ t l (once_way a) (once_way b)) (λ m. refl))
        (λ t l. once_drops _ _ t l (once_way a) (once_way b))
    once_way (BothOf a b) = once_conditional _ _ (λ sense to t l. once_chain false sense _ _ to t l (once_way a) (once_way b))
        (λ t l. once_inner l _ _ _ _ ((once_way a).branch false l t (suc l)) ((once_way b).drop _ _))
    once_way (EitherOf a b) = once_conditional _ _ (λ sense to t l. once_chain true sense _ _ to t l (once_way a) (once_way b))
        (λ t l. once_inner l _ _ _ _ ((once_way a).branch true l t (suc l)) ((once_way b).drop _ _))
    once_way (AdvanceOf ty a b) = once_binary (Values.advance ty) _ _ (once_way a) (once_way b)
    once_way (AdvanceByOf ty a b) = once_binary (Values.advance_by ty) _ _ (once_way a) (once_way b)
    once_way (RetreatOf ty a b) = once_binary (Values.retreat ty) _ _ (once_way a) (once_way b)
    once_way (DistanceOf ty a b) = once_binary (Values.apart ty) _ _ (once_way a) (once_way b)
    once_way (ChoiceOf ty c a b) = once_choose _ _ _ (once_way c) (once_way a) (once_way b)
    once_way (AssignTo a e) = once_effective _ _
        (λ t l. let q = Expressions.seek size count a t l in once_assign_low (Assignments.local_of size count q) q (Expressions.way size count e) l (once_seek a t l) (once_way e))
        (λ t l. let q = Expressions.seek size count a t l in once_assign_drop (Assignments.local_of size count q) q (Expressions.way size count e) l (once_seek a t l) (once_way e))
    once_way (ArithmeticAssignTo op a e) = once_updates (λ ty. Bin op) (Expressions.seek size count a) _ (λ t l. once_seek a t l) (once_way e)
    once_way (AdvanceAssignTo a e) = once_updates Values.advance (Expressions.seek size count a) _ (λ t l. once_seek a t l) (once_way e)
    once_way (RetreatAssignTo a e) = once_updates Values.retreat (Expressions.seek size count a) _ (λ t l. once_seek a t l) (once_way e)
    once_way (CommaOf ty a b) = record {
      low = λ t l. once_append l _ _ _ _ ((once_way a).drop t l) ((once_way b).low _ _);
      branch = λ sense to t l. once_append l _ _ _ _ ((once_way a).drop t l) ((once_way b).branch sense to _ _);
      drop = λ t l. once_drops _ _ t l (once_way a) (once_way b);
      deliver = λ at t l. once_append l _ _ _ _ ((once_way a).drop t l) ((once_way b).deliver at _ _);
    }

    pub once_pass : (es : SomeExpressions) (to : List CType) (t l : ℕ) → Once l (Expressions.pass size count es to t l).labels (Expressions.pass size count es to t l).items
    once_pass NoExpressions to t l = once_nil l
    once_pass (MoreExpressions e es) to t l = once_two _ _ _ l ((Expressions.way size count e).low t l).labels _ _ _ ((once_way e).low t l) (once_pass es (Calls.others to) _ _)

module _ (size count first : ℕ) (out : Parts.Destination) where
  once_effect : (e : Option AnExpression) (l : ℕ) → Once l (Statements.effect size count first out e l).labels (Statements.effect size count first out e l).items
  once_effect None l = once_nil l
  once_effect (Some e) l = (once_way size count e).drop first l

  once_returning : (e : Option AnExpression) (l : ℕ) → Once l (Statements.returning size count first out e l).labels (Statements.returning size count first out e l).items
  once_returning None l = once_delivered out (Parts.due (Num 0) first l) l (once_nil l)
  once_returning (Some e) l = (once_way size count e).deliver out first l

  none_clearing : (b : Bool) (n m : ℕ) → stands m (Flow.clearing b n) ≡ 0
  none_clearing true n m = refl
  none_clearing false n m = refl

  once_declare : (ds : List ADeclaration) (rest : SomeActions) (l : ℕ) → Once l (Statements.declare size count first out ds rest l).labels (Statements.declare size count first out ds rest l).items
  once_declare [] rest l = once_nil l
  once_declare (KeepOf object ∷ ds) rest l = once_declare ds rest l
  once_declare (ClearOf n ∷ ds) rest l =
      once_front l _ (Flow.clearing (Zeros.is_zeroed n ds rest) n) _ (none_clearing (Zeros.is_zeroed n ds rest) n) (once_declare ds rest l)
  once_declare (BeginOf n e ∷ ds) rest l =
      let q = (Expressions.way size count e).deliver (Parts.InLocal n) first l in
      let b = Mentions.mentions n e in
      once_append l q.labels _ _ _ (once_front l q.labels (Flow.clearing b n) q.items (none_clearing b n) ((once_way size count e).deliver (Parts.InLocal n) first l)) (once_declare ds rest q.labels)
  once_declare (StoreOf t o e ∷ ds) rest l =
      let q = (Expressions.way size count e).low first l in
      once_append l q.labels _ _ _ (once_plain l q.labels q.items _ ((once_way size count e).low first l) (λ m. refl)) (once_declare ds rest q.labels)
  once_declare (ZerosOf t o n ∷ ds) rest l =
      once_append l (suc l) _ _ _ (once_count l (suc l) [] (Flow.zeros_in_block size first t o n l).items (once_nil (suc l)) (λ m. omega arith)) (once_declare ds rest (suc l))

  once_while : (l p q : ℕ) (a b : List Item) → Once (suc (suc l)) p a → Once p q b → Once l q (Label l ∷ (a ++ (b ++ (Jump l ∷ Label (suc l) ∷ []))))
  once_while l p q a b h g =
      let T2 : List Item = Jump l ∷ Label (suc l) ∷ [] in
      let T1 : List Item = b ++ T2 in
      let inner : List Item = a ++ b in
      let one = once_count (suc l) q inner (Label (suc l) ∷ inner) (once_append (suc (suc l)) p q a b h g) (λ m. refl) in
      once_count l q (Label (suc l) ∷ inner) (Label l ∷ (a ++ T1)) one (λ m. omega (arith, stands_append m a T1, stands_append m b T2, stands_append m a b))

  -- three labels: the top's, the one for `continue`, the end's
  once_three : (l q : ℕ) (inner js : List Item) → Once (suc (suc (suc l))) q inner
      → ((m : ℕ) → stands m js ≡ at l m + (at (suc l) m + (at (suc (suc l)) m + stands m inner))) → Once l q js
  once_three l q inner js h e =
      let one = once_count (suc (suc l)) q inner (Label (suc (suc l)) ∷ inner) h (λ m. refl) in
      let two = once_count (suc l) q (Label (suc (suc l)) ∷ inner) (Label (suc l) ∷ Label (suc (suc l)) ∷ inner) one (λ m. refl) in
      once_count l q (Label (suc l) ∷ Label (suc (suc l)) ∷ inner) js two e

  once_loop : (to l p q : ℕ) (a b : List Item) → Once (suc (suc (suc l))) p a → Once p q b → Once l q (Jump to ∷ Label l ∷ (a ++ (Label (suc l) ∷ (b ++ (Label (suc (suc l)) ∷ [])))))
  once_loop to l p q a b h g =
      let T2 : List Item = Label (suc (suc l)) ∷ [] in
      let T1 : List Item = Label (suc l) ∷ (b ++ T2) in
      once_three l q (a ++ b) _ (once_append (suc (suc (suc l))) p q a b h g) (λ m. omega (arith, stands_append m a T1, stands_append m b T2, stands_append m a b))

  once_ever : (l p q : ℕ) (a b : List Item) → Once (suc (suc (suc l))) p a → Once p q b → Once l q (Jump l ∷ Label l ∷ (a ++ (Label (suc l) ∷ (b ++ (Jump l ∷ Label (suc (suc l)) ∷ [])))))
  once_ever l p q a b h g =
      let T2 : List Item = Jump l ∷ Label (suc (suc l)) ∷ [] in
      let T1 : List Item = Label (suc l) ∷ (b ++ T2) in
      once_three l q (a ++ b) _ (once_append (suc (suc (suc l))) p q a b h g) (λ m. omega (arith, stands_append m a T1, stands_append m b T2, stands_append m a b))

  once_for : (l p q r : ℕ) (a b c : List Item) → Once (suc (suc (suc l))) p a → Once p q b → Once q r c
      → Once l r (Label l ∷ (a ++ (b ++ (Label (suc l) ∷ (c ++ (Jump l ∷ Label (suc (suc l)) ∷ []))))))
  once_for l p q r a b c h g f =
      let T3 : List Item = Jump l ∷ Label (suc (suc l)) ∷ [] in
      let T2 : List Item = Label (suc l) ∷ (c ++ T3) in
      let T1 : List Item = b ++ T2 in
      once_three l r (a ++ (b ++ c)) _ (once_append (suc (suc (suc l))) p r a (b ++ c) h (once_append p q r b c g f))
      (λ m. omega (arith, stands_append m a T1, stands_append m b T2, stands_append m c T3, stands_append m a (b ++ c), stands_append m b c))

  -- four labels: the test's behind the step too
  once_turns : (l p q r : ℕ) (a b c : List Item) → Once (suc (suc (suc (suc l)))) p a → Once p q b → Once q r c
      → Once l r (Jump (suc (suc (suc l))) ∷ Label l ∷ (a ++ (Label (suc l) ∷ (b ++ (Label (suc (suc (suc l))) ∷ (c ++ (Label (suc (suc l)) ∷ [])))))))
  once_turns l p q r a b c h g f =
      let T3 : List Item = Label (suc (suc l)) ∷ [] in
      let T2 : List Item = Label (suc (suc (suc l))) ∷ (c ++ T3) in
      let T1 : List Item = Label (suc l) ∷ (b ++ T2) in
      let inner : List Item = a ++ (b ++ c) in
      let one = once_count (suc (suc (suc l))) r inner (Label (suc (suc (suc l))) ∷ inner) (once_append (suc (suc (suc (suc l)))) p r a (b ++ c) h (once_append p q r b c g f)) (λ m. refl) in
      once_three l r (Label (suc (suc (suc l))) ∷ inner) _ one
      (λ m. omega (arith, stands_append m a T1, stands_append m b T2, stands_append m c T3, stands_append m a (b ++ c), stands_append m b c))

  once_if_by : (o : Option ℕ) (c : AnExpression) (f : ℕ → Parts.Emitted) (l : ℕ) → ((m : ℕ) → Once m (f m).labels (f m).items)
      → Once l (Statements.if_by size count first out o c f l).labels (Statements.if_by size count first out o c f l).items
  once_if_by (Some to) c f l h = (once_way size count c).branch true to first l
  once_if_by None c f l h = let q = Statements.unless size count first out c l (suc l) in once_inner l q.labels _ q.items _ ((once_way size count c).branch false l first (suc l)) (h q.labels)

  once_while_by : (o : Option ℕ) (c : AnExpression) (f : ℕ → ℕ → ℕ → Parts.Emitted) (l : ℕ) → ((lb lc m : ℕ) → Once m (f lb lc m).labels (f lb lc m).items)
      → Once l (Statements.while_by size count first out o c f l).labels (Statements.while_by size count first out o c f l).items
  once_while_by (Some v) c f l h =
      let q = Statements.unless size count first out c (suc l) (suc (suc l)) in
      once_while l q.labels _ q.items _ ((once_way size count c).branch false (suc l) first (suc (suc l))) (h (suc l) l q.labels)
  once_while_by None c f l h =
      let x = f (suc (suc l)) (suc l) (suc (suc (suc l))) in
      once_loop (suc l) l x.labels _ x.items _ (h (suc (suc l)) (suc l) (suc (suc (suc l)))) ((once_way size count c).branch true l first x.labels)

  once_tested : (o : Option ℕ) (c : AnExpression) (e : Option AnExpression) (l : ℕ) (f : ℕ → Parts.Emitted) → ((m : ℕ) → Once m (f m).labels (f m).items)
      → Once l (Statements.for_tested size count first out o l c e f).labels (Statements.for_tested size count first out o l c e f).items
  once_tested (Some v) c e l f h =
      let q = Statements.unless size count first out c (suc (suc l)) (suc (suc (suc l))) in
      let b = f q.labels in
      once_for l q.labels b.labels _ q.items b.items _ ((once_way size count c).branch false (suc (suc l)) first (suc (suc (suc l)))) (h q.labels) (once_effect e b.labels)
  once_tested None c e l f h =
      let b = f (suc (suc (suc (suc l)))) in
      let s = Statements.effect size count first out e b.labels in
      once_turns l b.labels s.labels _ b.items s.items _ (h (suc (suc (suc (suc l))))) (once_effect e b.labels) ((once_way size count c).branch true l first s.labels)

  once_fors : (c e : Option AnExpression) (l : ℕ) (f : ℕ → Parts.Emitted) → ((m : ℕ) → Once m (f m).labels (f m).items)
      → Once l (Statements.for_of size count first out l c e f).labels (Statements.for_of size count first out l c e f).items
  once_fors None e l f h = let b = f (suc (suc (suc l))) in once_ever l b.labels _ b.items _ (h (suc (suc (suc l)))) (once_effect e b.labels)
  once_fors (Some c) e l f h = once_tested (constant_of c) c e l f h

  mutual
    once_act : (a : AnAction) (rest : SomeActions) (lb lc l : ℕ) → Once l (Statements.lower size count first out a rest lb lc l).labels (Statements.lower size count first out a rest lb lc l).items
    once_act (DeclareOf ds) rest lb lc l = once_declare ds rest l
    once_act (BlockOf row) rest lb lc l = once_row row lb lc l
    once_act (EvaluateOf e) rest lb lc l = (once_way size count e).drop first l
    once_act BreakOf rest lb lc l = once_same l l [] _ (once_nil l) (λ m. refl)
    once_act ContinueOf rest lb lc l = once_same l l [] _ (once_nil l) (λ m. refl)
    once_act (ReturnOf e) rest lb lc l = once_returning e l
    once_act (IfOf c a) rest lb lc l = once_if_by (Statements.going a lb lc) c (Statements.lower size count first out a NoActions lb lc) l (λ m. once_act a NoActions lb lc m)
    once_act (IfElseOf c a b) rest lb lc l =
        let q = Statements.unless size count first out c l (suc (suc l)) in
        let x = Statements.lower size count first out a NoActions lb lc q.labels in
        once_fork l q.labels x.labels _ q.items x.items _ [] [] (λ m. refl) (λ m. refl) ((once_way size count c).branch false l first (suc (suc l))) (once_act a NoActions lb lc q.labels)
        (once_act b NoActions lb lc x.labels)
    once_act (WhileOf c a) rest lb lc l = once_while_by (constant_of c) c (Statements.lower size count first out a NoActions) l (λ x y m. once_act a NoActions x y m)
    once_act (DoOf a c) rest lb lc l = let x = Statements.lower size count first out a NoActions (suc (suc l)) (suc l) (suc (suc (suc l))) in
        once_loop l l x.labels _ x.items _ (once_act a NoActions (suc (suc l)) (suc l) (suc (suc (suc l)))) ((once_way size count c).branch true l first x.labels)
    once_act (ForOf i c e a) rest lb lc l = let x = Statements.effect size count first out i l in
        once_append l x.labels _ x.items _ (once_effect i l)
        (once_fors c e x.labels (Statements.lower size count first out a NoActions (suc (suc x.labels)) (suc x.labels)) (λ m. once_act a NoActions (suc (suc x.labels)) (suc x.labels) m))

    pub once_row : (row : SomeActions) (lb lc l : ℕ) → Once l (Statements.lower_row size count first out row lb lc l).labels (Statements.lower_row size count first out row lb lc l).items
    once_row NoActions lb lc l = once_nil l
    once_row (MoreActions a row) lb lc l = let x = Statements.lower size count first out a row lb lc l in once_append l x.labels _ x.items _ (once_act a row lb lc l) (once_row row lb lc x.labels)

-- a function's items, by the bytes of its block
once_items : (size count pointer : ℕ) (body : SomeActions) (l block : ℕ) → Once l (items_by size count pointer body l block).labels (items_by size count pointer body l block).items
once_items size count pointer body l zero =
    let row = Statements.lower_row size count size Parts.AsResult body 0 0 l in
    once_append l row.labels _ row.items _ (once_row size count size Parts.AsResult body 0 0 l) (once_delivered Parts.AsResult (Parts.due (Num 0) size row.labels) row.labels (once_nil row.labels))
once_items size count pointer body l (suc n) =
    let out : Parts.Destination = Parts.Releasing pointer size in
    let row = Statements.lower_row size count (suc size) out body 0 0 (suc l) in
    once_append l (suc l) _ (Flow.claimed size (suc size) pointer (suc n) l).items _
    (once_count l (suc l) [] (Flow.claimed size (suc size) pointer (suc n) l).items (once_nil (suc l)) (λ m. omega arith))
    (once_append (suc l) row.labels _ row.items _ (once_row size count (suc size) out body 0 0 (suc l)) (once_delivered out (Parts.due (Num 0) (suc size) row.labels) row.labels
    (once_nil row.labels)))

-- each function's code
pub code_of : (pointer count : ℕ) (g : ARoutine) (l : ℕ) → CodeOf pointer count g (function_of g (body_of pointer count g l)).items
code_of pointer count g l =
    let q = body_of pointer count g l in
    let once = once_items (length g.locals) count pointer g.body l g.block in
    record { label = l; is = refl; resolves = resolves_from q.items [] q.items refl once.once }

pub all_code : (pointer count : ℕ) (gs : List ARoutine) (l f : ℕ) (g : ARoutine) → slice_get gs f ≡ Some g
    → (tf : TreeFn) × (slice_get (lower_all pointer count gs l) f ≡ Some tf) × CodeOf pointer count g tf.items
all_code pointer count [] l f g e = absurd (cc)
all_code pointer count (h ∷ gs) l zero g e = let same : h ≡ g = cc in
    (function_of h (body_of pointer count h l), refl, subst (λ x. CodeOf pointer count x (function_of h (body_of pointer count h l)).items) same (code_of pointer count h l))
all_code pointer count (h ∷ gs) l (suc f) g e = all_code pointer count gs (body_of pointer count h l).labels f g e
