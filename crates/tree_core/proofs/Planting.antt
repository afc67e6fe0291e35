-- How the leaves of a tree are gathered.
use Rattle.std.proofs.Common.{◌≡◌, ℕ, suc, ◌+◌, ◌*◌, ◌<◌, List, [], ◌∷◌, ◌++◌, length, refl, sym, ap, ◌∙◌, arith, append_assoc}
use Rattle.std.specs.Borrow.{Bor}
use Rattle.gg_base.proofs.Facts.{nil_of}
use Rattle.tree_core.specs.declared.tree.Leaf.{Leaf}
use Rattle.tree_core.specs.declared.tree.Tree.{Tree, is-Tree', out-Tree, Row_of-Tree, end_of-Tree, more_of-Tree, items-the_row-Tree}
use Rattle.tree_core.specs.declared.tree.Tree.TheBlock.{hidden-the_row-Tree-0, items_hidden-the_row-Tree-0}
use Rattle.tree_core.specs.Trees.{Forest, none, tree, leaves_onto, planted, planted_row, forest_of, forest_of_all}

-- the leaves of lists of trees that wait, the last list first
abbrev pub waiting_onto : List (Bor (List Tree)) → List Leaf → List Leaf
waiting_onto [] w = w
waiting_onto (ts ∷ tss) w = waiting_onto tss (leaves_onto (forest_of_all ts.now) w)

abbrev pub nodes : Forest → ℕ
nodes none = 0
nodes (tree l below behind) = suc (nodes below + nodes behind)

-- the work that is left
abbrev pub work : List (Bor (List Tree)) → ℕ
work [] = 0
work (ts ∷ tss) = 1 + 2 * nodes (forest_of_all ts.now) + work tss

row_planted : (c : _) (row : Row_of-Tree c) → planted_row row ≡ forest_of_all (items-the_row-Tree c row)
row_planted c end_of-Tree = refl
row_planted c (more_of-Tree t rest) = ap (planted t) (row_planted _ rest)

-- a tree is its leaf and its kids
pub planted_is : (t : Tree) (behind : Forest) → planted t behind ≡ tree (out-Tree t).leaf (forest_of_all (out-Tree t).kids.items) behind
planted_is t behind =
    ap (λ (u : Tree). planted u behind) (is-Tree' t)
    ∙ ap (λ (below : Forest). tree (out-Tree t).leaf below behind) (row_planted _ (hidden-the_row-Tree-0 (out-Tree t).kids) ∙ ap forest_of_all (items_hidden-the_row-Tree-0 (out-Tree t).kids))

pub waiting-push : (tss : List (Bor (List Tree))) (ts : Bor (List Tree)) (w : List Leaf) → waiting_onto (tss ++ ts ∷ []) w ≡ leaves_onto (forest_of_all ts.now) (waiting_onto tss w)
waiting-push [] ts w = refl
waiting-push (us ∷ tss) ts w = waiting-push tss ts (leaves_onto (forest_of_all us.now) w)

pub work-push : (tss : List (Bor (List Tree))) (ts : Bor (List Tree)) → work (tss ++ ts ∷ []) ≡ work tss + (1 + 2 * nodes (forest_of_all ts.now))
work-push [] ts = omega arith
work-push (us ∷ tss) ts = omega (arith, work-push tss ts)

-- the last list that waits has no tree
pub none_waits : (waiting rest : List (Bor (List Tree))) (ts : Bor (List Tree)) (w : List Leaf) → waiting ≡ rest ++ ts ∷ [] → length ts.now ≡ 0 → waiting_onto waiting w ≡ waiting_onto rest w
none_waits waiting rest ts w e z =
    let n = nil_of ts.now z in
    ap (λ (q : List (Bor (List Tree))). waiting_onto q w) e
    ∙ waiting-push rest ts w
    ∙ ap (λ (q : List Tree). leaves_onto (forest_of_all q) (waiting_onto rest w)) n

pub none_waits_works : (waiting rest : List (Bor (List Tree))) (ts : Bor (List Tree)) → waiting ≡ rest ++ ts ∷ [] → work rest < work waiting
none_waits_works waiting rest ts e = omega (arith, ap work e, work-push rest ts)

-- the first tree of the last list that waits is taken
pub record Taken (waiting rest new : List (Bor (List Tree))) (ts others below : Bor (List Tree)) (first : Tree) : Type 0 where
  pub last : waiting ≡ rest ++ ts ∷ []
  pub split : ts.now ≡ first ∷ others.now
  pub kids : below.now ≡ (out-Tree first).kids.items
  pub new_is : new ≡ (rest ++ others ∷ []) ++ below ∷ []

pub one_waits : (waiting rest new : List (Bor (List Tree))) (ts others below : Bor (List Tree)) (first : Tree) (w : List Leaf) → Taken waiting rest new ts others below first
    → waiting_onto waiting w ≡ (out-Tree first).leaf ∷ waiting_onto new w
one_waits waiting rest new ts others below first w h =
    let front = (out-Tree first).leaf in
    ap (λ (q : List (Bor (List Tree))). waiting_onto q w) h.last
    ∙ waiting-push rest ts w
    ∙ ap (λ (q : List Tree). leaves_onto (forest_of_all q) (waiting_onto rest w)) h.split
    ∙ ap (λ (f : Forest). leaves_onto f (waiting_onto rest w)) (planted_is first (forest_of_all others.now))
    ∙ ap (λ (q : List Leaf). front ∷ leaves_onto (forest_of_all (out-Tree first).kids.items) q) (sym (waiting-push rest others w))
    ∙ ap (λ (q : List Tree). front ∷ leaves_onto (forest_of_all q) (waiting_onto (rest ++ others ∷ []) w)) (sym h.kids)
    ∙ ap (λ (q : List Leaf). front ∷ q) (sym (waiting-push (rest ++ others ∷ []) below w) ∙ ap (λ (q : List (Bor (List Tree))). waiting_onto q w) (sym h.new_is))

first_nodes : (first : Tree) (behind : Forest) → nodes (planted first behind) ≡ suc (nodes (forest_of_all (out-Tree first).kids.items) + nodes behind)
first_nodes first behind = ap nodes (planted_is first behind)

pub one_waits_works : (waiting rest new : List (Bor (List Tree))) (ts others below : Bor (List Tree)) (first : Tree) → Taken waiting rest new ts others below first → work new < work waiting
one_waits_works waiting rest new ts others below first h =
    let a = ap work h.last in
    let b = work-push rest ts in
    let d : nodes (forest_of_all ts.now) ≡ suc (nodes (forest_of_all (out-Tree first).kids.items) + nodes (forest_of_all others.now)) =
    ap (λ (q : List Tree). nodes (forest_of_all q)) h.split ∙ first_nodes first (forest_of_all others.now) in
    let e = ap work h.new_is in
    let f = work-push (rest ++ others ∷ []) below in
    let g = work-push rest others in
    let k : nodes (forest_of_all below.now) ≡ nodes (forest_of_all (out-Tree first).kids.items) = ap (λ (q : List Tree). nodes (forest_of_all q)) h.kids in
    omega arith

-- the leaves so far, with those to come
pub gathered : (leaves new all w : List Leaf) (waiting after : List (Bor (List Tree))) (l : Leaf) → new ≡ leaves ++ l ∷ [] → waiting_onto waiting w ≡ l ∷ waiting_onto after w → leaves
    ++ waiting_onto waiting w ≡ all → new ++ waiting_onto after w ≡ all
gathered leaves new all w waiting after l e f h =
    rw (e, append_assoc) (ap (λ (q : List Leaf). leaves ++ q) (sym f) ∙ h)

pub begun : (t : Tree) (leaves : List Leaf) (waiting : List (Bor (List Tree))) (below : Bor (List Tree)) (w : List Leaf) → leaves ≡ (out-Tree t).leaf ∷ [] → waiting ≡ below ∷ []
    → below.now ≡ (out-Tree t).kids.items → leaves ++ waiting_onto waiting w ≡ leaves_onto (forest_of t) w
begun t leaves waiting below w a b d =
    ap (λ (q : List Leaf). q ++ waiting_onto waiting w) a
    ∙ ap (λ (q : List (Bor (List Tree))). (out-Tree t).leaf ∷ waiting_onto q w) b
    ∙ ap (λ (q : List Tree). (out-Tree t).leaf ∷ leaves_onto (forest_of_all q) w) d
    ∙ sym (ap (λ (f : Forest). leaves_onto f w) (planted_is t none))
