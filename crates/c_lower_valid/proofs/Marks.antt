-- Labels among items: each stands once, and each to which a branch or jump goes stands there too, or is named from outside.
use Rattle.std.proofs.Common.{◌≡◌, ℕ, suc, ◌+◌, ◌≤◌, ◌<◌, List, [], ◌∷◌, ◌++◌, refl, arith, ◌∙◌, ◌⊎◌, inl, inr, ⊎_elim}
use Rattle.std.specs.Prelude.{Bool, true, false}
use Rattle.std.proofs.lemmas.Bool.{cases_lt}
use Rattle.gg_base.specs.declared.relation.Rel.{Rel}
use Rattle.c_types.specs.declared.types.CType.{CType}
use Rattle.c_lower_scheme.specs.Trees.{Tree, Num, Item, Label, AssignLoc, AssignArg, AssignMem, Cbr, Jump, Push, Call, Save, Ret, reads, breaks}
use Rattle.c_lower_scheme.specs.Parts
use Rattle.c_lower_scheme.specs.Saving
use Rattle.c_lower_scheme.specs.Places
use Rattle.c_lower_scheme.specs.Conditions
use Rattle.c_lower_scheme.specs.Calls
use Rattle.c_lower_scheme.proofs.Labels.{at, tag_by, stands, stands_append}

-- whether an item goes to a label, as a number
abbrev pub aim : Item → ℕ → ℕ
aim (Label l) m = 0
aim (AssignLoc n w) m = 0
aim (AssignArg n w) m = 0
aim (AssignMem i a w) m = 0
aim (Cbr r l a b) m = at l m
aim (Jump l) m = at l m
aim (Push w) m = 0
aim (Call f n) m = 0
aim (Save n) m = 0
aim (Ret w) m = 0

-- how often one of the items goes to a label
abbrev pub aims : ℕ → List Item → ℕ
aims m [] = 0
aims m (i ∷ is) = aim i m + aims m is

pub aims_append : (m : ℕ) (a b : List Item) → aims m (a ++ b) ≡ aims m a + aims m b
aims_append m [] b = omega arith
aims_append m (i ∷ a) b = let h = aims_append m a b in omega arith

abbrev pub nowhere : ℕ → ℕ
nowhere m = 0

-- Each label of the items is from l up to u, and stands once; each branch and jump goes to one of them, or out.
pub record Marked (out : ℕ → ℕ) (l u : ℕ) (is : List Item) : Type 0 where
  pub grows : l ≤ u
  pub once : (m : ℕ) → stands m is ≤ 1
  pub inside : (m : ℕ) → (m < l) ⊎ (u ≤ m) → stands m is ≡ 0
  pub aimed : (m : ℕ) → 0 < aims m is → 0 < out m + stands m is

-- nothing goes to a label, or it stands there or outside
lands : {out : ℕ → ℕ} {l u : ℕ} {is : List Item} → Marked out l u is → (m : ℕ) → (aims m is ≡ 0) ⊎ (0 < out m + stands m is)
lands {out} {l} {u} {is} h m = ⊎_elim (λ lt. inr (h.aimed m lt)) (λ ge. inl (omega arith)) (cases_lt 0 (aims m is))

pub marked_nil : (out : ℕ → ℕ) (l : ℕ) → Marked out l l []
marked_nil out l = record { grows = omega arith; once = λ m. omega arith; inside = λ m o. refl; aimed = λ m lt. absurd (omega arith) }

pub marked_out : (out out' : ℕ → ℕ) (l u : ℕ) (is : List Item) → ((m : ℕ) → out m ≤ out' m) → Marked out l u is → Marked out' l u is
marked_out out out' l u is le h = record {
  grows = h.grows;
  once = h.once;
  inside = h.inside;
  aimed = λ m lt. omega
      (arith, h.aimed m lt, le m);
}

pub marked_wider : (out : ℕ → ℕ) (l k u : ℕ) (is : List Item) → l ≤ k → Marked out k u is → Marked out l u is
marked_wider out l k u is le h = record {
  grows = omega (arith, h.grows);
  once = h.once;
  inside = λ m o. h.inside m
      (⊎_elim (λ lt. inl (omega arith)) (λ ge. inr ge) o);
  aimed = h.aimed;
}

pub marked_append : (out : ℕ → ℕ) (l u w : ℕ) (a b : List Item) → Marked out l u a → Marked out u w b → Marked out l w (a ++ b)
marked_append out l u w a b h g = record {
  grows = omega (arith, h.grows, g.grows);
  once = λ m. ⊎_elim (λ lt. omega (arith, stands_append m a b, h.once m, g.inside m (inl lt)))
      (λ ge. omega (arith, stands_append m a b, g.once m, h.inside m (inr ge))) (cases_lt m u);
  inside = λ m o. ⊎_elim (λ lt. omega (arith, stands_append m a b, h.inside m (inl lt), g.inside m (inl (omega (arith, h.grows)))))
      (λ ge. omega (arith, stands_append m a b, g.inside m (inr ge), h.inside m (inr (omega (arith, g.grows))))) o;
  aimed = λ m lt. ⊎_elim (λ z. ⊎_elim (λ y. absurd (omega (arith, aims_append m a b))) (λ y. omega (arith, stands_append m a b))
      (lands g m)) (λ z. omega (arith, stands_append m a b)) (lands h m);
}

-- with the same labels, and no more branches than that go out
pub marked_same : (out : ℕ → ℕ) (l u : ℕ) (is js : List Item) → Marked out l u is → ((m : ℕ) → stands m js ≡ stands m is)
    → ((m : ℕ) → 0 < aims m js → 0 < out m + aims m is) → Marked out l u js
marked_same out l u is js h e k = record {
  grows = h.grows;
  once = λ m. omega (arith, e m, h.once m);
  inside = λ m o. e m ∙ h.inside m o;
  aimed = λ m lt. ⊎_elim (λ z. omega (arith, e m, k m lt)) (λ z. omega (arith, e m)) (lands h m);
}

-- neither labels nor branches
abbrev pub IsMute : List Item → Type 0
IsMute js = (m : ℕ) → stands m js + aims m js ≡ 0

pub marked_plain : (out : ℕ → ℕ) (l u : ℕ) (is js : List Item) → Marked out l u is → IsMute js → Marked out l u (is ++ js)
marked_plain out l u is js h z = marked_same out l u is (is ++ js) h (λ m. omega (arith, stands_append m is js, z m))
    (λ m lt. omega (arith, aims_append m is js, z m))

pub marked_front : (out : ℕ → ℕ) (l u : ℕ) (js is : List Item) → IsMute js → Marked out l u is → Marked out l u (js ++ is)
marked_front out l u js is z h = marked_same out l u is (js ++ is) h (λ m. omega (arith, stands_append m js is, z m))
    (λ m lt. omega (arith, aims_append m js is, z m))

-- one label below the others, anywhere, to which what is below may go
pub marked_count : (out out' : ℕ → ℕ) (l u : ℕ) (is js : List Item) → Marked out' (suc l) u is → ((m : ℕ) → out' m ≤ out m + at l m)
    → ((m : ℕ) → stands m js ≡ at l m + stands m is) → ((m : ℕ) → 0 < aims m js → 0 < out m + (at l m + aims m is)) → Marked out l u js
marked_count out out' l u is js h le e k = record {
  grows = omega (arith, h.grows);
  once = λ m. ⊎_elim (λ y. let s = y.0 in omega (arith, e m, y.1, h.inside m (inl (omega arith))))
      (λ n. omega (arith, e m, n.1, h.once m)) (tag_by l m);
  inside = λ m o. ⊎_elim (λ y. let s = y.0 in absurd (⊎_elim (λ lt. omega arith) (λ ge. omega (arith, h.grows)) o))
      (λ n. let ne = n.0 in omega (arith, e m, n.1, h.inside m (⊎_elim (λ lt. inl (omega arith)) (λ ge. inr ge) o))) (tag_by l m);
  aimed = λ m lt. ⊎_elim (λ z. omega (arith, e m, k m lt)) (λ z. omega (arith, e m, le m)) (lands h m);
}

pub mute_saving : (b : Bool) (u : ℕ) (w : Tree) → IsMute (Saving.saving b u w)
mute_saving true u w m = refl
mute_saving false u w m = refl

pub mute_holding : (b : Bool) (u : ℕ) (s : Parts.Where) → IsMute (Places.holding b u s)
mute_holding b u (Parts.InLoc n) m = refl
mute_holding b u (Parts.InArg n) m = refl
mute_holding b u (Parts.InMem a) m = mute_saving b u a m

pub mute_assign : (ty : CType) (s : Parts.Where) (w : Tree) → IsMute (Places.assign_to ty s w ∷ [])
mute_assign ty (Parts.InLoc n) w m = refl
mute_assign ty (Parts.InArg n) w m = refl
mute_assign ty (Parts.InMem a) w m = refl

pub mute_append : (a b : List Item) → IsMute a → IsMute b → IsMute (a ++ b)
mute_append a b h g m = omega (arith, stands_append m a b, aims_append m a b, h m, g m)

pub mute_pushes : (ws : List Tree) (is : List Item) → IsMute is → IsMute (Calls.pushes ws is)
mute_pushes [] is h = h
mute_pushes (w ∷ ws) is h = mute_pushes ws (Push w ∷ is) (λ m. omega (arith, h m))

-- in each of the four ways
pub record MarkedWay (w : Parts.Lowering) : Type 0 where
  pub low : (t l : ℕ) → Marked nowhere l (w.low t l).labels (w.low t l).items
  pub branch : (sense : Bool) (to t l : ℕ) → Marked (at to) l (w.branch sense to t l).labels (w.branch sense to t l).items
  pub drop : (t l : ℕ) → Marked nowhere l (w.drop t l).labels (w.drop t l).items
  pub deliver : (to : Parts.Destination) (t l : ℕ) → Marked nowhere l (w.deliver to t l).labels (w.deliver to t l).items

pub marked_delivered : (to : Parts.Destination) (p : Parts.Lowered) (l : ℕ) → Marked nowhere l p.labels p.items
    → Marked nowhere l (Parts.delivered to p).labels (Parts.delivered to p).items
marked_delivered (Parts.InLocal n) p l h = marked_plain nowhere l p.labels p.items _ h (λ m. refl)
marked_delivered Parts.AsResult p l h = marked_plain nowhere l p.labels p.items _ h (λ m. refl)
marked_delivered (Parts.Releasing pointer n) p l h =
    marked_plain nowhere l p.labels p.items _ h (mute_append (Saving.saving (reads p.tree) p.temps p.tree) _ (mute_saving (reads p.tree) p.temps p.tree) (λ m. refl))

-- a branch behind items
pub marked_branch : (r : Rel) (to : ℕ) (a b : Tree) (l u : ℕ) (is : List Item) → Marked nowhere l u is
    → Marked (at to) l u (is ++ (Cbr r to a b ∷ []))
marked_branch r to a b l u is h = marked_same (at to) l u is (is ++ (Cbr r to a b ∷ []))
    (marked_out nowhere (at to) l u is (λ m. omega arith) h) (λ m. omega (arith, stands_append m is (Cbr r to a b ∷ [])))
    (λ m lt. omega (arith, aims_append m is (Cbr r to a b ∷ [])))

pub marked_valued : (f : ℕ → ℕ → Parts.Lowered) → ((t l : ℕ) → Marked nowhere l (f t l).labels (f t l).items)
    → MarkedWay (Conditions.valued f)
marked_valued f h = record {
  low = h;
  branch = λ sense to t l. marked_branch _ to (f t l).tree (Num 0) l (f t l).labels (f t l).items (h t l);
  drop = λ t l. marked_plain nowhere l (f t l).labels (f t l).items _ (h t l)
      (mute_saving (breaks (f t l).tree) (f t l).temps (f t l).tree);
  deliver = λ to t l. marked_delivered to (f t l) l (h t l);
}

pub marked_effective : (f : ℕ → ℕ → Parts.Lowered) (g : ℕ → ℕ → Parts.Emitted)
    → ((t l : ℕ) → Marked nowhere l (f t l).labels (f t l).items) → ((t l : ℕ) → Marked nowhere l (g t l).labels (g t l).items)
    → MarkedWay (Conditions.effective f g)
marked_effective f g h h' = record {
  low = h;
  branch = λ sense to t l. marked_branch _ to (f t l).tree (Num 0) l (f t l).labels (f t l).items (h t l);
  drop = h';
  deliver = λ to t l. marked_delivered to (f t l) l (h t l);
}

pub marked_conditional : (f : Bool → ℕ → ℕ → ℕ → Parts.Emitted) (g : ℕ → ℕ → Parts.Emitted)
    → ((sense : Bool) (to t l : ℕ) → Marked (at to) l (f sense to t l).labels (f sense to t l).items)
    → ((t l : ℕ) → Marked nowhere l (g t l).labels (g t l).items) → MarkedWay (Conditions.conditional f g)
marked_conditional f g h h' = record { low = truth; branch = h; drop = h'; deliver = λ to t l. marked_delivered to (Conditions.truth_of t l (f false l (suc t) (suc l))) l (truth t l) }
  where
    truth : (t l : ℕ) → Marked nowhere l (Conditions.truth_of t l (f false l (suc t) (suc l))).labels (Conditions.truth_of t l (f false l (suc t) (suc l))).items
    truth t l =
        let b = f false l (suc t) (suc l) in
        let T : List Item = AssignLoc t (Num 1) ∷ Label l ∷ [] in
        marked_count nowhere (at l) l b.labels b.items _ (h false l (suc t) (suc l)) (λ m. omega arith)
        (λ m. omega (arith, stands_append m b.items T)) (λ m lt. omega (arith, aims_append m b.items T))

pub marked_two : (out : ℕ → ℕ) (u : ℕ) (b : Bool) (w : Tree) (l p q : ℕ) (a c : List Item) → Marked out l p a → Marked out p q c
    → Marked out l q (a ++ (Saving.saving b u w ++ c))
marked_two out u b w l p q a c h g = marked_append out l p q a (Saving.saving b u w ++ c) h
    (marked_front out p q (Saving.saving b u w) c (mute_saving b u w) g)

-- the label stands behind both parts
pub marked_inner : (out : ℕ → ℕ) (l p q : ℕ) (a c : List Item) → Marked (at l) (suc l) p a → Marked out p q c
    → Marked out l q (a ++ (c ++ (Label l ∷ [])))
marked_inner out l p q a c h g =
    let both : ℕ → ℕ = λ m. out m + at l m in
    marked_count out both l q (a ++ c) (a ++ (c ++ (Label l ∷ [])))
    (marked_append both (suc l) p q a c (marked_out (at l) both (suc l) p a (λ m. omega arith) h)
    (marked_out out both p q c (λ m. omega arith) g))
    (λ m. omega arith)
    (λ m. omega (arith, stands_append m a (c ++ (Label l ∷ [])), stands_append m c (Label l ∷ []), stands_append m a c))
    (λ m lt. omega (arith, aims_append m a (c ++ (Label l ∷ [])), aims_append m c (Label l ∷ []), aims_append m a c))

pub marked_direct : (out : ℕ → ℕ) (l p q : ℕ) (a c : List Item) → Marked out (suc l) p a → Marked out p q c → Marked out l q (a ++ c)
marked_direct out l p q a c h g = marked_wider out l (suc l) q (a ++ c) (omega arith) (marked_append out (suc l) p q a c h g)

pub marked_chain : (stop sense : Bool) (a b : Parts.Lowering) (to t l : ℕ) → MarkedWay a → MarkedWay b
    → Marked (at to) l (Conditions.chain stop a b sense to t l).labels (Conditions.chain stop a b sense to t l).items
marked_chain true true a b to t l h g = marked_direct (at to) l _ _ _ _ (h.branch true to t (suc l))
    (g.branch true to (a.branch true to t (suc l)).temps (a.branch true to t (suc l)).labels)
marked_chain true false a b to t l h g = marked_inner (at to) l _ _ _ _ (h.branch true l t (suc l))
    (g.branch false to (a.branch true l t (suc l)).temps (a.branch true l t (suc l)).labels)
marked_chain false true a b to t l h g = marked_inner (at to) l _ _ _ _ (h.branch false l t (suc l))
    (g.branch true to (a.branch false l t (suc l)).temps (a.branch false l t (suc l)).labels)
marked_chain false false a b to t l h g = marked_direct (at to) l _ _ _ _ (h.branch false to t (suc l))
    (g.branch false to (a.branch false to t (suc l)).temps (a.branch false to t (suc l)).labels)

pub marked_chain_drop : (stop : Bool) (a b : Parts.Lowering) (t l : ℕ) → MarkedWay a → MarkedWay b
    → Marked nowhere l (Conditions.chain_drop a stop b t l).labels (Conditions.chain_drop a stop b t l).items
marked_chain_drop stop a b t l h g = marked_inner nowhere l _ _ _ _ (h.branch stop l t (suc l))
    (g.drop (a.branch stop l t (suc l)).temps (a.branch stop l t (suc l)).labels)

pub marked_drops : (a b : Parts.Lowering) (t l : ℕ) → MarkedWay a → MarkedWay b
    → Marked nowhere l (Conditions.drop_two a b t l).labels (Conditions.drop_two a b t l).items
marked_drops a b t l h g = marked_append nowhere l _ _ _ _ (h.drop t l) (g.drop (a.drop t l).temps (a.drop t l).labels)

-- a test, a part, a jump over the other part, and that part
pub marked_fork : (out : ℕ → ℕ) (l p q r : ℕ) (a b c b1 c1 : List Item) → IsMute b1 → IsMute c1 → Marked (at l) (suc (suc l)) p a
    → Marked out p q b → Marked out q r c → Marked out l r
    (a ++ (b ++ (b1 ++ (Jump (suc l) ∷ Label l ∷ (c ++ (c1 ++ (Label (suc l) ∷ [])))))))
marked_fork out l p q r a b c b1 c1 z z' h f g =
    let T3 : List Item = c1 ++ (Label (suc l) ∷ []) in
    let T2 : List Item = Jump (suc l) ∷ Label l ∷ (c ++ T3) in
    let T1 : List Item = b ++ (b1 ++ T2) in
    let inner : List Item = a ++ (b ++ c) in
    let both : ℕ → ℕ = λ m. out m + at l m in
    let all = marked_append both (suc (suc l)) p r a (b ++ c) (marked_out (at l) both (suc (suc l)) p a (λ m. omega arith) h)
    (marked_append both p q r b c (marked_out out both p q b (λ m. omega arith) f) (marked_out out both q r c (λ m. omega arith) g)) in
    let outer : List Item = Jump (suc l) ∷ Label (suc l) ∷ inner in
    let one = marked_count both both (suc l) r inner outer all (λ m. omega arith) (λ m. omega arith) (λ m lt. omega arith) in
    marked_count out both l r outer (a ++ T1) one (λ m. omega arith)
    (λ m. omega (
      arith,
      stands_append m a T1,
      stands_append m b (b1 ++ T2),
      stands_append m b1 T2,
      stands_append m c T3,
      stands_append m
          c1 (Label (suc l) ∷ []),
      stands_append m a (b ++ c),
      stands_append m b c,
      z m,
      z' m,
    ))
    (λ m lt. omega (
      arith,
      aims_append m a T1,
      aims_append m b (b1 ++ T2),
      aims_append m b1 T2,
      aims_append m c T3,
      aims_append m c1
          (Label (suc l) ∷ []),
      aims_append m a (b ++ c),
      aims_append m b c,
      z m,
      z' m,
    ))

-- a test, a part, and another where the test goes
pub marked_apart : (l p q r : ℕ) (a b c : List Item) → Marked (at l) (suc (suc l)) p a → Marked nowhere p q b → Marked nowhere q r c
    → Marked nowhere l r (a ++ (b ++ (Label l ∷ c)))
marked_apart l p q r a b c h f g =
    let inner : List Item = a ++ (b ++ c) in
    let all = marked_append (at l) (suc (suc l)) p r a (b ++ c) h
    (marked_append (at l) p q r b c (marked_out nowhere (at l) p q b (λ m. omega arith) f) (marked_out nowhere (at l) q r c (λ m. omega arith) g)) in
    marked_count nowhere (at l) l r inner (a ++ (b ++ (Label l ∷ c))) (marked_wider (at l) (suc l) (suc (suc l)) r inner (omega arith) all) (λ m. omega arith)
    (λ m. omega (arith, stands_append m a (b ++ (Label l ∷ c)), stands_append m b (Label l ∷ c), stands_append m a (b ++ c), stands_append m b c))
    (λ m lt. omega (arith, aims_append m a (b ++ (Label l ∷ c)), aims_append m b (Label l ∷ c), aims_append m a (b ++ c), aims_append m b c))
