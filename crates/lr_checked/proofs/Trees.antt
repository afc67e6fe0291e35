-- Tokens of a typed statement, with answers, are those of a tree.
use Rattle.std.proofs.Common.{◌≡◌, List, [], ◌∷◌, ◌++◌, refl, sym, ap, ◌∙◌}
use Rattle.gg_base.proofs.Facts.{nil_cons, head_same, tail_same}
use Rattle.tree_core.specs.declared.token.Tok.{Tok}
use Rattle.tree_core.specs.declared.token.Sort.{Sort}
use Rattle.tree_core.specs.declared.token.Sort.TheVariants as sort
use Rattle.tree_core.specs.Grammar.{kids}
use Rattle.lr_check_found.specs.lr_check_sets.specs.Trees.{Tree, Trees, node, no_trees, more_trees, May}
use Rattle.lr_check_found.specs.lr_check_sets.specs.Answers.{leaves, leaves_all}
use Rattle.lr_check.specs.Tree.{Token}
use Rattle.lr_check_parse.specs.Typed.{AreTyped, ends, begins, IsStatement}
use Rattle.lr_check_drawn.specs.lr_check_samples.specs.Stops.{tokens}

-- trees of the first sorts, and those of the others behind them
record Parted (xs ys : List Sort) (vs : Trees (xs ++ ys)) (w : List Token) : Type 0 where
  before : Trees xs
  behind : Trees ys
  same : leaves_all before (leaves_all behind w) ≡ leaves_all vs w

parted_more : (x : Sort) (xs ys : List Sort) (v : Tree x) (vs : Trees (xs ++ ys)) (w : List Token) → Parted xs ys vs w → Parted (x ∷ xs) ys (more_trees v vs) w
parted_more x xs ys v vs w p = record { before = more_trees v p.before; behind = p.behind; same = ap (leaves v) p.same }

parted : (xs ys : List Sort) (vs : Trees (xs ++ ys)) (w : List Token) → Parted xs ys vs w
parted [] ys vs w = record { before = no_trees; behind = vs; same = refl }
parted (x ∷ xs) ys (more_trees v vs) w = parted_more x xs ys v vs w (parted xs ys vs w)

-- trees with these tokens
record Grown (xs : List Sort) (w : List Token) : Type 0 where
  trees : Trees xs
  same : leaves_all trees [] ≡ w

grown_more : (x : Sort) (xs : List Sort) (t : Tok) (f : Token) (w : List Token) → f.tok ≡ t → May t x → Grown (kids t ++ xs) w → Grown (x ∷ xs) (f ∷ w)
grown_more x xs t f w e may g =
    let p = parted (kids t) xs g.trees [] in
    let tail : leaves_all p.before (leaves_all p.behind []) ≡ w = p.same ∙ g.same in
    let head : ◌≡◌ {A = Token} (record { tok = t; answers = f.answers }) f = ap {B = Token} (λ (k : Tok). record { tok = k; answers = f.answers }) (sym e) in
    record {
      trees = more_trees (node t may f.answers p.before) p.behind;
      same = ap (λ (z : List Token). record { tok = t; answers = f.answers } ∷ z) tail ∙ ap (λ (z : Token). z ∷ w) head;
    }

grown : {xs : List Sort} {u : List Tok} → AreTyped xs u → (w : List Token) → tokens w ≡ u → Grown xs w
grown ends [] e = record { trees = no_trees; same = refl }
grown ends (f ∷ w) e = absurd (nil_cons f.tok (tokens w) (sym e))
grown (begins {w = u} t fit more) [] e = absurd (nil_cons t u e)
grown (begins {x = x} {xs = xs} {w = u} t fit more) (f ∷ w) e =
    grown_more x xs t f w (head_same f.tok t (tokens w) u e) fit (grown more w (tail_same f.tok t (tokens w) u e))

-- the tree of a statement
pub statement_tree : (w : List Token) → IsStatement (tokens w) → (v : Tree sort.Stmt) × (leaves v [] ≡ w)
statement_tree w h = one (grown h w refl)
  where
    one : Grown (sort.Stmt ∷ []) w → (v : Tree sort.Stmt) × (leaves v [] ≡ w)
    one g = by g.trees g.same
      where
        by : (vs : Trees (sort.Stmt ∷ [])) → leaves_all vs [] ≡ w → (v : Tree sort.Stmt) × (leaves v [] ≡ w)
        by (more_trees v no_trees) e = (v, e)
