-- The nodes that are left, with their new numbers.
use Rattle.std.proofs.Common.{◌≡◌, ℕ, zero, suc, ◌+◌, ◌-◌, ◌<◌, ◌≤◌, List, [], ◌∷◌, ◌++◌, Some, Bool, true, false, Contains, length, map, get_or, slice_get, refl, sym}
use Rattle.std.proofs.Common.{ap, ap₂, ◌∙◌, subst, inl, inr, ⊎_elim, arith, true≢false, length-append}
use Rattle.std.specs.Prelude.{slice_index_or, Result, Ok, Err, OnOk}
use Rattle.std.proofs.lemmas.Bool.{cases_lt}
use Rattle.std.proofs.lemmas.List.{map-append, length-map, get_or_append_left}
use Rattle.std.proofs.lemmas.Option.{slice_get_within, slice_get-get_or, same_Some, none-some}
use Rattle.gg_base.proofs.Facts.{slice_some, slice_left, slice_last, slice_cases}
use Rattle.tree_core.specs.declared.token.Sort.{Sort}
use Rattle.tree_core.specs.declared.token.Sort.TheVariants as sort
use Rattle.tree_core.specs.Grammar.{kids}
use Rattle.lr_tables.proofs.Members.{In, In-Contains, Contains-In, In-cases, In-map, map-In, slice_get-In}
use Rattle.lr_check.specs.Tree.{Node, Token, Unfolds, ends, goes_on, IsSample}
use Rattle.lr_check.specs.Statement.{fits_at, KidsFit, IsStatement}
use Rattle.lr_check_nodes.specs.Pruned.{IsUsed, IsPruned, IsMarked, IsMarkedUser, AreReached, IsLeft, Pruning, PrunedView, renumbered, node_again, with_node, without_node}

number_stays : (ns xs : List ℕ) (k : ℕ) → k < length ns → slice_index_or (ns ++ xs) k 0 ≡ slice_index_or ns k 0
number_stays ns xs k lt = get_or_append_left ns xs 0 k lt

number_last : (ns : List ℕ) (x : ℕ) → slice_index_or (ns ++ x ∷ []) (length ns) 0 ≡ x
number_last [] x = refl
number_last (n ∷ ns) x = number_last ns x

renumbered_stays : (ns xs ks : List ℕ) → ((k : ℕ) → In k ks → k < length ns) → renumbered (ns ++ xs) ks ≡ renumbered ns ks
renumbered_stays ns xs [] low = refl
renumbered_stays ns xs (k ∷ ks) low = ap₂ (λ (a : ℕ) (b : List ℕ). a ∷ b) (number_stays ns xs k (low k (inl refl))) (renumbered_stays ns xs ks (λ j h. low j (inr h)))

again_stays : (ns xs : List ℕ) (v : Node) → ((k : ℕ) → In k v.kids → k < length ns) → node_again (ns ++ xs) v ≡ node_again ns v
again_stays ns xs v low = ap (λ (ks : List ℕ). record { tok = v.tok; kids = ks; answers = v.answers }) (renumbered_stays ns xs v.kids low)

module _ (nodes : List Node) (marks : List Bool) (sample : IsSample nodes) where
  kids_low : (n i : ℕ) (v : Node) → slice_get nodes n ≡ Some v → n ≤ i → (k : ℕ) → In k v.kids → k < i
  kids_low n i v there le k h = let low = sample.lower n k v there (In-Contains k v.kids h) in omega (arith, low, le)

  kids_within : (p : PrunedView) (n i : ℕ) (v : Node) → length p.numbers ≡ i → slice_get nodes n ≡ Some v → n ≤ i → (k : ℕ) → In k v.kids → k < length p.numbers
  kids_within p n i v many there le k h = let low = kids_low n i v there le k h in omega (arith, low, many)

  -- what was left stays so
  stays_left : (p : PrunedView) (xs : List ℕ) (i m : ℕ) (u : Node) → length p.numbers ≡ i → IsLeft nodes marks p.numbers i m u → IsLeft nodes marks (p.numbers ++ xs) (i + 1) m u
  stays_left p xs i m u many h =
      let below : h.number < i = h.below in
      record {
        number = h.number;
        node = h.node;
        below = omega (arith, below);
        marked = h.marked;
        there = h.there;
        here = number_stays p.numbers xs h.number (omega (arith, below, many)) ∙ h.here;
        same = h.same ∙ sym (again_stays p.numbers xs h.node (kids_within p h.number i h.node many h.there (omega (arith, below))));
      }

  pub prune_kept : (p q : PrunedView) (i : ℕ) (v : Node) → Pruning nodes marks p i → IsMarked marks i → slice_get nodes i ≡ Some v → q ≡ with_node p v → Pruning nodes marks q (i + 1)
  prune_kept p q i v r marked at e = subst (λ z. Pruning nodes marks z (i + 1)) (sym e) (record {
    many = length-append p.numbers (length p.nodes ∷ []) ∙ ap (λ n. n + 1) r.many;
    within = let lt = slice_get_within nodes i v at in omega (arith, lt);
    left = λ n u h there lt. ⊎_elim
        (λ below. ap (slice_get more) (old n below) ∙ (slice_left p.nodes (node_again p.numbers v ∷ []) (number n) (node_again p.numbers u) (r.left n u h there below)
        ∙ ap Some (sym (again_stays p.numbers (length p.nodes ∷ []) u (kids_within p n i u r.many there (omega (arith, below)))))))
        (λ ge. let same : n ≡ i = omega (arith, lt, ge) in
        let node : u ≡ v = same_Some u v (sym there ∙ (ap (slice_get nodes) same ∙ at)) in
        ap (slice_get more) (new n same) ∙ (slice_last p.nodes (node_again p.numbers v) ∙ ap Some (ap (node_again p.numbers) (sym node)
        ∙ sym (again_stays p.numbers (length p.nodes ∷ []) u (kids_within p n i u r.many there (omega (arith, same)))))))
        (cases_lt n i);
    low = λ n h lt. ⊎_elim
        (λ below. let l = r.low n h below in let o = old n below in omega (arith, l, o, long))
        (λ ge. let o = new n (omega (arith, lt, ge)) in omega (arith, o, long))
        (cases_lt n i);
    rises = λ n m h g lt le. ⊎_elim
        (λ below. let l = r.rises n m h g lt below in let o = old n (omega (arith, lt, below)) in let o' = old m below in omega (arith, l, o, o'))
        (λ ge. let same : m ≡ i = omega (arith, le, ge) in
        let less : n < i = omega (arith, lt, same) in
        let l = r.low n h less in let o = old n less in let o' = new m same in omega (arith, l, o, o'))
        (cases_lt m i);
    all = λ m u h. ⊎_elim
        (λ before. stays_left p (length p.nodes ∷ []) i m u r.many (r.all m u before))
        (λ here. record {
          number = i;
          node = v;
          below = omega arith;
          marked = marked;
          there = at;
          here = new i refl ∙ sym here.0;
          same = here.1 ∙ sym (again_stays p.numbers (length p.nodes ∷ []) v (kids_within p i i v r.many at (omega arith)));
        })
        (slice_cases p.nodes (node_again p.numbers v) m u h);
    last = λ n h same. let o = new n (omega (arith, same)) in omega (arith, o, long);
  })
    where
      number : ℕ → ℕ
      number n = slice_index_or p.numbers n 0

      more : List Node
      more = p.nodes ++ node_again p.numbers v ∷ []

      long : length more ≡ length p.nodes + 1
      long = length-append p.nodes (node_again p.numbers v ∷ [])

      old : (n : ℕ) → n < i → slice_index_or (p.numbers ++ length p.nodes ∷ []) n 0 ≡ slice_index_or p.numbers n 0
      old n lt = number_stays p.numbers (length p.nodes ∷ []) n (let many = r.many in omega (arith, lt, many))

      new : (n : ℕ) → n ≡ i → slice_index_or (p.numbers ++ length p.nodes ∷ []) n 0 ≡ length p.nodes
      new n same = ap (λ j. slice_index_or (p.numbers ++ length p.nodes ∷ []) j 0) (same ∙ sym r.many) ∙ number_last p.numbers (length p.nodes)

  pub prune_left_out : (p q : PrunedView) (i : ℕ) → Pruning nodes marks p i → i < length nodes → slice_get marks i ≡ Some false → q ≡ without_node p → Pruning nodes marks q (i + 1)
  prune_left_out p q i r lt un e = subst (λ z. Pruning nodes marks z (i + 1)) (sym e) (record {
    many = length-append p.numbers (0 ∷ []) ∙ ap (λ n. n + 1) r.many;
    within = omega (arith, lt);
    left = λ n u h there le.
        let less = below n h le in
        ap (slice_get p.nodes) (old n less) ∙ (r.left n u h there less
        ∙ ap Some (sym (again_stays p.numbers (0 ∷ []) u (kids_within p n i u r.many there (omega (arith, less))))));
    low = λ n h le. let less = below n h le in let l = r.low n h less in let o = old n less in omega (arith, l, o);
    rises = λ n m h g l le.
        let less = below m g le in
        let k = r.rises n m h g l less in
        let o = old n (omega (arith, l, less)) in
        let o' = old m less in
        omega (arith, k, o, o');
    all = λ m u h. stays_left p (0 ∷ []) i m u r.many (r.all m u h);
    last = λ n h same. absurd (not_here n h (omega (arith, same)));
  })
    where
      not_here : (n : ℕ) → IsMarked marks n → n ≡ i → ⊥
      not_here n h same = true≢false (same_Some true false (sym h ∙ (ap (slice_get marks) same ∙ un)))

      below : (n : ℕ) → IsMarked marks n → n < i + 1 → n < i
      below n h le = ⊎_elim (λ less. less) (λ ge. absurd (not_here n h (omega (arith, le, ge)))) (cases_lt n i)

      old : (n : ℕ) → n < i → slice_index_or (p.numbers ++ 0 ∷ []) n 0 ≡ slice_index_or p.numbers n 0
      old n less = number_stays p.numbers (0 ∷ []) n (let many = r.many in omega (arith, less, many))

map_at : (f : ℕ → ℕ) (ks : List ℕ) (i k : ℕ) → slice_get (map f ks) i ≡ Some k → (j : ℕ) × ((slice_get ks i ≡ Some j) × (f j ≡ k))
map_at f [] zero k e = absurd (none-some k e)
map_at f [] (suc i) k e = absurd (none-some k e)
map_at f (j ∷ ks) zero k e = (j, (refl, same_Some (f j) k e))
map_at f (j ∷ ks) (suc i) k e = map_at f ks i k e

module _ (nodes : List Node) (marks : List Bool) (p : PrunedView) (s : IsStatement nodes) (reached : AreReached nodes marks) (r : Pruning nodes marks p (length nodes)) where
  abbrev number : ℕ → ℕ
  number n = slice_index_or p.numbers n 0

  here : (n : ℕ) (v : Node) → IsMarked marks n → slice_get nodes n ≡ Some v → slice_get p.nodes (number n) ≡ Some (node_again p.numbers v)
  here n v h there = r.left n v h there (slice_get_within nodes n v there)

  unfolds : {ks : List ℕ} {w : List Token} → Unfolds nodes ks w → ((k : ℕ) → In k ks → IsMarked marks k) → Unfolds p.nodes (renumbered p.numbers ks) w
  unfolds ends h = ends
  unfolds (goes_on {n = n} {rest = rest} {w = w} v there g) h =
      goes_on (node_again p.numbers v) (here n v (h n (inl refl)) there)
      (subst (λ l. Unfolds p.nodes l w) (map-append number v.kids rest)
      (unfolds g (λ k c. ⊎_elim (λ a. reached.kids n k v (h n (inl refl)) there (In-Contains k v.kids a)) (λ b. h k (inr b)) (In-cases k v.kids rest c))))

  root_last : number (length nodes - 1) + 1 ≡ length p.nodes
  root_last = r.last (length nodes - 1) reached.root (let some = s.sample.some in omega (arith, some))

  root_at : number (length nodes - 1) ≡ length p.nodes - 1
  root_at = let last = root_last in omega (arith, last)

  lower : (n k : ℕ) (u : Node) → slice_get p.nodes n ≡ Some u → Contains u.kids k → k < n
  lower n k u there c =
      let l : IsLeft nodes marks p.numbers (length nodes) n u = r.all n u there in
      let kid = map-In number k l.node.kids (Contains-In k (renumbered p.numbers l.node.kids) (subst (λ (z : Node). Contains z.kids k) l.same c)) in
      let low : kid.0 < l.number = s.sample.lower l.number kid.0 l.node l.there (In-Contains kid.0 l.node.kids kid.1) in
      let less = r.rises kid.0 l.number (reached.kids l.number kid.0 l.node l.marked l.there (In-Contains kid.0 l.node.kids kid.1)) l.marked low l.below in
      let at = l.here in
      let same = kid.2 in
      omega (arith, less, at, same)

  -- a node fits as the one for which it is left
  fits_again : (k : ℕ) (x : Sort) → IsMarked marks k → k < length nodes → fits_at (slice_get nodes k) x ≡ true → fits_at (slice_get p.nodes (number k)) x ≡ true
  fits_again k x h lt e =
      let v = slice_some nodes k lt in
      ap (λ o. fits_at o x) (here k v.0 h v.1) ∙ (ap (λ o. fits_at o x) (sym v.1) ∙ e)

  typed : (n : ℕ) (u : Node) → slice_get p.nodes n ≡ Some u → KidsFit p.nodes u.kids (kids u.tok)
  typed n u there =
      let l : IsLeft nodes marks p.numbers (length nodes) n u = r.all n u there in
      let fit : KidsFit nodes l.node.kids (kids l.node.tok) = s.typed.each l.number l.node l.there in
      subst (λ (z : Node). KidsFit p.nodes z.kids (kids z.tok)) (sym l.same) (record {
        many = length-map l.node.kids number ∙ fit.many;
        each = λ i k x at is.
            let j = map_at number l.node.kids i k at in
            let kid : Contains l.node.kids j.0 = In-Contains j.0 l.node.kids (slice_get-In j.0 l.node.kids i j.1.0) in
            let low : j.0 < l.number = s.sample.lower l.number j.0 l.node l.there kid in
            let below : l.number < length nodes = l.below in
            subst (λ z. fits_at (slice_get p.nodes z) x ≡ true) j.1.1
            (fits_again j.0 x (reached.kids l.number j.0 l.node l.marked l.there kid) (omega (arith, low, below)) (fit.each i j.0 x j.1.0 is));
      })

  used : (n : ℕ) → n + 1 < length p.nodes → IsUsed p.nodes n
  used n lt =
      let u = slice_some p.nodes n (omega (arith, lt)) in
      let l : IsLeft nodes marks p.numbers (length nodes) n u.0 = r.all n u.0 u.1 in
      let below : l.number < length nodes = l.below in
      let not_root : l.number + 1 < length nodes = ⊎_elim (λ less. less)
      (λ ge. absurd (let last = r.last l.number l.marked (omega (arith, ge, below)) in let at = l.here in omega (arith, last, at, lt)))
      (cases_lt (l.number + 1) (length nodes)) in
      let g : IsMarkedUser nodes marks l.number = reached.used l.number l.marked not_root in
      record {
        number = number g.number;
        user = node_again p.numbers g.user;
        there = here g.number g.user g.marked g.there;
        kid = In-Contains n (renumbered p.numbers g.user.kids) (subst (λ z. In z (renumbered p.numbers g.user.kids)) l.here
            (In-map number l.number g.user.kids (Contains-In l.number g.user.kids g.kid)));
      }

  pub is_pruned : IsPruned nodes p.nodes
  is_pruned = record {
    statement = record {
      sample = record { some = let last = root_last in omega (arith, last); lower = lower };
      root = subst (λ z. fits_at (slice_get p.nodes z) sort.Stmt ≡ true) root_at
          (fits_again (length nodes - 1) sort.Stmt reached.root (let some = s.sample.some in omega (arith, some)) s.root);
      typed = record { each = typed };
    };
    trees = λ w h. subst (λ z. Unfolds p.nodes (z ∷ []) w) root_at
        (unfolds h (λ k c. ⊎_elim (λ e. subst (IsMarked marks) e reached.root) (λ n. absurd n) c));
    used = record { each = used };
  }

pub pruned_all : (nodes : List Node) (marks : List Bool) (p : PrunedView) (i : ℕ) → IsStatement nodes → AreReached nodes marks → Pruning nodes marks p i → length nodes ≤ i → IsPruned nodes p.nodes
pruned_all nodes marks p i s reached r le =
    let within = r.within in
    let same : i ≡ length nodes = omega (arith, within, le) in
    is_pruned nodes marks p s reached (subst (Pruning nodes marks p) same r)

-- a turn, as the code makes it
pub next_kept : {E : Type 0} (r : Result (Unit {0}) E) (nodes : List Node) (marks : List Bool) (p q : PrunedView) (i : ℕ) (v : Node) (d : Bool) → IsSample nodes → length marks ≡ length nodes →
    Pruning nodes marks p i → i < length nodes → v ≡ get_or nodes i v → get_or marks i d ≡ true → OnOk r (q ≡ with_node p v) → OnOk r (Pruning nodes marks q (i + 1))
next_kept (Ok u) nodes marks p q i v d sample many h lt is marked e =
    prune_kept nodes marks sample p q i v h (slice_get-get_or marks i d (omega (arith, lt, many)) ∙ ap Some marked) (slice_get-get_or nodes i v lt ∙ ap Some (sym is)) e
next_kept (Err x) nodes marks p q i v d sample many h lt is marked e = tt

pub next_left_out : {E : Type 0} (r : Result (Unit {0}) E) (nodes : List Node) (marks : List Bool) (p q : PrunedView) (i : ℕ) (d : Bool) → IsSample nodes → length marks ≡ length nodes →
    Pruning nodes marks p i → i < length nodes → get_or marks i d ≡ false → OnOk r (q ≡ without_node p) → OnOk r (Pruning nodes marks q (i + 1))
next_left_out (Ok u) nodes marks p q i d sample many h lt un e =
    prune_left_out nodes marks sample p q i h lt (slice_get-get_or marks i d (omega (arith, lt, many)) ∙ ap Some un) e
next_left_out (Err x) nodes marks p q i d sample many h lt un e = tt
