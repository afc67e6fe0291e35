-- The decision on the order of calls is right.
use Rattle.std.proofs.Common.{◌≡◌, ◌↔◌, ℕ, ◌+◌, List, [], ◌∷◌, ◌++◌, length, Bool, true, false, cond, eqb, IsTrue, refl, sym, ap, ◌∙◌, subst, Option, Some, None, arith, append_assoc, length-append}
use Rattle.std.proofs.lemmas.Bool.{eq-eqb, eqb-true}
use Rattle.tree_core.specs.declared.program.TreeItem.{TreeItem}
use Rattle.tree_core.specs.declared.items.Role.{Role}
use Rattle.tree_core.specs.declared.items.Role.TheVariants as role
use Rattle.tree_core.specs.Items.{role_of, AllPush, CallsInOrder, nothing, other, call, saved, after_item, goes_on, in_order}

AllPush-push : (ps : List TreeItem) (i : TreeItem) → AllPush ps → role_of i ≡ role.Pushes → AllPush (ps ++ i ∷ [])
AllPush-push [] i a r = (r, tt)
AllPush-push (p ∷ ps) i a r = (a.0, AllPush-push ps i a.1 r)

-- what the decision says behind pushes, and behind a call
abbrev pub AfterPushes : List TreeItem → Type 0
AfterPushes is = (n : ℕ) → in_order n false is ≡ true → (ps : List TreeItem) → AllPush ps → length ps ≡ n → CallsInOrder (ps ++ is)

abbrev pub AfterCall : List TreeItem → Type 0
AfterCall is = in_order 0 true is ≡ true → (ps : List TreeItem) (c : TreeItem) → AllPush ps → role_of c ≡ role.Calls (length ps) → CallsInOrder (ps ++ c ∷ is)

-- what stands behind an item, where its role lets the decision go on
abbrev pub rest_of : List TreeItem → ℕ → Bool → Bool
rest_of is m c = in_order m c is

equal_if : (n k : ℕ) (s : Option (ℕ × Bool)) (is : List TreeItem) → goes_on (cond (eqb n k) s None) (rest_of is) ≡ true → (n ≡ k) × (goes_on s (rest_of is) ≡ true)
equal_if n k s is e = cases (eqb n k) refl e
  where
    cases : (b : Bool) → eqb n k ≡ b → goes_on (cond b s None) (rest_of is) ≡ true → (n ≡ k) × (goes_on s (rest_of is) ≡ true)
    cases true q h = (eqb-true n k q, h)
    cases false q h = absurd cc

no_push : (ps : List TreeItem) (n : ℕ) → length ps ≡ n → n ≡ 0 → ps ≡ []
no_push [] n e z = refl
no_push (p ∷ ps) n e z = absurd (omega (arith, e, z))

behind_pushes : (is : List TreeItem) → AfterPushes is → AfterCall is → (i : TreeItem) (r : Role) → role_of i ≡ r → (n : ℕ) (ps : List TreeItem) → AllPush ps → length ps ≡ n
    → goes_on (after_item r n false) (rest_of is) ≡ true → CallsInOrder (ps ++ i ∷ is)
behind_pushes is f t i role.Pushes ri n ps a l e =
    let one : length (ps ++ i ∷ []) ≡ n + 1 = omega (arith, length-append ps (i ∷ []), l) in
    subst CallsInOrder (append_assoc ps (i ∷ []) is) (f (n + 1) e (ps ++ i ∷ []) (AllPush-push ps i a ri) one)
behind_pushes is f t i (role.Calls k) ri n ps a l e =
    let q = equal_if n k (Some (0, true)) is e in
    t q.1 ps i a (ri ∙ ap role.Calls (sym (l ∙ q.0)))
behind_pushes is f t i role.Saves ri n ps a l e = absurd cc
behind_pushes is f t i role.Other ri n ps a l e =
    let q = equal_if n 0 (Some (n, false)) is e in
    let z = no_push ps n l q.0 in
    let h : in_order 0 false is ≡ true = subst (λ (m : ℕ). in_order m false is ≡ true) q.0 q.1 in
    subst (λ (qs : List TreeItem). CallsInOrder (qs ++ i ∷ is)) (sym z) (other i is ri (f 0 h [] tt refl))

behind_call : (is : List TreeItem) → AfterPushes is → AfterCall is → (i : TreeItem) (r : Role) → role_of i ≡ r → goes_on (after_item r 0 true) (rest_of is) ≡ true
    → (ps : List TreeItem) (c : TreeItem) → AllPush ps → role_of c ≡ role.Calls (length ps) → CallsInOrder (ps ++ c ∷ i ∷ is)
behind_call is f t i role.Pushes ri e ps c a rc = call ps c (i ∷ is) _ a rc (behind_pushes is f t i role.Pushes ri 0 [] tt refl e) refl
behind_call is f t i (role.Calls k) ri e ps c a rc = call ps c (i ∷ is) _ a rc (behind_pushes is f t i (role.Calls k) ri 0 [] tt refl e) refl
behind_call is f t i role.Saves ri e ps c a rc = saved ps c i is _ a rc ri (f 0 e [] tt refl) refl
behind_call is f t i role.Other ri e ps c a rc = call ps c (i ∷ is) _ a rc (behind_pushes is f t i role.Other ri 0 [] tt refl e) refl

in_order_is : (is : List TreeItem) → AfterPushes is × AfterCall is
in_order_is [] = (
  λ n e ps a l. subst (λ (qs : List TreeItem). CallsInOrder (qs ++ [])) (sym (no_push ps n l (eqb-true n 0 e))) nothing,
  λ e ps c a rc. call ps c [] _ a rc nothing refl,
)
in_order_is (i ∷ is) =
    let h = in_order_is is in (
      λ n e ps a l. behind_pushes is h.0 h.1 i (role_of i) refl n ps a l e,
      λ e ps c a rc. behind_call is h.0 h.1 i (role_of i) refl e ps c a rc,
    )

past_pushes : (ps : List TreeItem) (n : ℕ) (is : List TreeItem) → AllPush ps → in_order n false (ps ++ is) ≡ in_order (n + length ps) false is
past_pushes [] n is a = let z : n ≡ n + 0 = omega arith in ap (λ (m : ℕ). in_order m false is) z
past_pushes (p ∷ ps) n is a =
    let z : n + 1 + length ps ≡ n + length (p ∷ ps) = omega arith in
    ap (λ (r : Role). goes_on (after_item r n false) (rest_of (ps ++ is))) a.0
    ∙ past_pushes ps (n + 1) is a.1
    ∙ ap (λ (m : ℕ). in_order m false is) z

call_behind : (is : List TreeItem) → in_order 0 false is ≡ true → in_order 0 true is ≡ true
call_behind [] e = refl
call_behind (i ∷ is) e = cases (role_of i) e
  where
    cases : (r : Role) → goes_on (after_item r 0 false) (rest_of is) ≡ true → goes_on (after_item r 0 true) (rest_of is) ≡ true
    cases role.Pushes h = h
    cases (role.Calls k) h = h
    cases role.Saves h = absurd cc
    cases role.Other h = h

past_call : (ps : List TreeItem) (c : TreeItem) (is : List TreeItem) → AllPush ps → role_of c ≡ role.Calls (length ps) → in_order 0 false (ps ++ c ∷ is) ≡ in_order 0 true is
past_call ps c is a rc =
    let z : 0 + length ps ≡ length ps = omega arith in
    past_pushes ps 0 (c ∷ is) a
    ∙ ap (λ (m : ℕ). in_order m false (c ∷ is)) z
    ∙ ap (λ (r : Role). goes_on (after_item r (length ps) false) (rest_of is)) rc
    ∙ ap (λ (b : Bool). goes_on (cond b (Some (0, true)) None) (rest_of is)) (eq-eqb (length ps) (length ps) refl)

back : {is : List TreeItem} → CallsInOrder is → in_order 0 false is ≡ true
back nothing = refl
back (other i is ri h) = ap (λ (r : Role). goes_on (after_item r 0 false) (rest_of is)) ri ∙ back h
back (call ps c is all a rc h e) = ap (in_order 0 false) e ∙ past_call ps c is a rc ∙ call_behind is (back h)
back (saved ps c s is all a rc rs h e) =
    ap (in_order 0 false) e
    ∙ past_call ps c (s ∷ is) a rc
    ∙ ap (λ (r : Role). goes_on (after_item r 0 true) (rest_of is)) rs
    ∙ back h

there : (is : List TreeItem) → in_order 0 false is ≡ true → CallsInOrder is
there is e = (in_order_is is).0 0 e [] tt refl

pub decides : (is : List TreeItem) (b : Bool) → b ≡ in_order 0 false is → IsTrue b ↔ CallsInOrder is
decides is b e = ((λ t. there is (sym e ∙ t)), (λ h. e ∙ back h))
