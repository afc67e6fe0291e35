-- Steps along the lists of labels.
use Rattle.std.proofs.Common.{◌≡◌, ℕ, suc, ◌+◌, ◌<◌, List, [], ◌∷◌, ◌++◌, length, drop, get_or, Bool, true, false, cond, refl, sym, ap, ◌∙◌, subst, Option, Some, None, arith}
use Rattle.std.specs.Prelude.{is_some}
use Rattle.std.proofs.Math.Seq.{drop-cons}
use Rattle.tree_core.specs.declared.program.TreeFn.{TreeFn}
use Rattle.tree_core.specs.declared.program.TreeItem.{TreeItem}
use Rattle.tree_core.specs.declared.items.Mention.TheVariants as mention
use Rattle.tree_core.specs.Items.{labels, all_labels}
use Rattle.tree_core.specs.Window.{met_once, MetOnce, added, least, better}

pub labels_there : (i : ℕ) (w : List TreeFn) (d : TreeFn) → i < length w → all_labels (drop i w) ≡ labels mention.Stands (get_or w i d).items ++ all_labels (drop (i + 1) w)
labels_there i w d lt =
    let one : i + 1 ≡ suc i = omega arith in
    rw one (ap all_labels (drop-cons w i d lt))

least-append : (from : ℕ) (best : Option ℕ) (xs ys : List ℕ) → least from best (xs ++ ys) ≡ least from (least from best xs) ys
least-append from best [] ys = refl
least-append from best (x ∷ xs) ys = least-append from (better from best x) xs ys

pub least_goes : (from : ℕ) (best new all : Option ℕ) (i : ℕ) (w : List TreeFn) (d : TreeFn) → i < length w → new ≡ least from best (labels mention.Stands (get_or w i d).items)
    → least from best (all_labels (drop i w)) ≡ all → least from new (all_labels (drop (i + 1) w)) ≡ all
least_goes from best new all i w d lt e h =
    ap (λ (o : Option ℕ). least from o (all_labels (drop (i + 1) w))) e
    ∙ sym (least-append from best (labels mention.Stands (get_or w i d).items) (all_labels (drop (i + 1) w)))
    ∙ ap (least from best) (sym (labels_there i w d lt))
    ∙ h

abbrev pub met_on : ℕ → Option (ℕ → Bool) → List ℕ → Option (ℕ → Bool)
met_on base None ys = None
met_on base (Some h) ys = met_once base h ys

pub once-append : (base : ℕ) (h : ℕ → Bool) (xs ys : List ℕ) → met_once base h (xs ++ ys) ≡ met_on base (met_once base h xs) ys
once-append base h [] ys = refl
once-append base h (x ∷ xs) ys = cases (h x) (once-append base (added base h x) xs ys)
  where
    cases : (b : Bool) → met_once base (added base h x) (xs ++ ys) ≡ met_on base (met_once base (added base h x) xs) ys → cond b None (met_once base (added base h x) (xs ++ ys))
        ≡ met_on base (cond b None (met_once base (added base h x) xs)) ys
    cases true q = refl
    cases false q = q

once_on : (base : ℕ) (h g : ℕ → Bool) (all : Option (ℕ → Bool)) (i : ℕ) (w : List TreeFn) (d : TreeFn) → i < length w
    → MetOnce true g (met_once base h (labels mention.Stands (get_or w i d).items)) → met_once base h (all_labels (drop i w)) ≡ all → met_once base g (all_labels (drop (i + 1) w)) ≡ all
once_on base h g all i w d lt e k =
    ap (λ (o : Option (ℕ → Bool)). met_on base o (all_labels (drop (i + 1) w))) (sym e)
    ∙ sym (once-append base h (labels mention.Stands (get_or w i d).items) (all_labels (drop (i + 1) w)))
    ∙ ap (met_once base h) (sym (labels_there i w d lt))
    ∙ k

once_off : (base : ℕ) (h g : ℕ → Bool) (all : Option (ℕ → Bool)) (i : ℕ) (w : List TreeFn) (d : TreeFn) → i < length w
    → MetOnce false g (met_once base h (labels mention.Stands (get_or w i d).items)) → met_once base h (all_labels (drop i w)) ≡ all → false ≡ is_some all
once_off base h g all i w d lt e k =
    ap is_some (
    ap (λ (o : Option (ℕ → Bool)). met_on base o (all_labels (drop (i + 1) w))) (sym e)
    ∙ sym (once-append base h (labels mention.Stands (get_or w i d).items) (all_labels (drop (i + 1) w)))
    ∙ ap (met_once base h) (sym (labels_there i w d lt))
    ∙ k
    )

-- the same of what the code names
met_as : (r d : Bool) (w base : ℕ) (h g : ℕ → Bool) (xs ys : List TreeItem) → r ≡ d → w ≡ base → xs ≡ ys → MetOnce r g (met_once w h (labels mention.Stands xs))
    → MetOnce d g (met_once base h (labels mention.Stands ys))
met_as r d w base h g xs ys a b e m =
    subst (λ (q : Bool). MetOnce q g (met_once base h (labels mention.Stands ys))) a (
    subst (λ (o : Option (ℕ → Bool)). MetOnce r g o) (ap (λ (n : ℕ). met_once n h (labels mention.Stands xs)) b ∙ ap (λ (is : List TreeItem). met_once base h (labels mention.Stands is)) e) m
    )

pub function_met : (r : Bool) (w base : ℕ) (h g : ℕ → Bool) (all : Option (ℕ → Bool)) (i : ℕ) (fs : List TreeFn) (d : TreeFn) (xs : List TreeItem) → r ≡ true → w ≡ base → xs
    ≡ (get_or fs i d).items → i < length fs → MetOnce r g (met_once w h (labels mention.Stands xs)) → met_once base h (all_labels (drop i fs)) ≡ all
    → met_once base g (all_labels (drop (i + 1) fs)) ≡ all
function_met r w base h g all i fs d xs a b e lt m k =
    once_on base h g all i fs d lt (met_as r true w base h g xs (get_or fs i d).items a b e m) k

pub function_unmet : (r : Bool) (w base : ℕ) (h g : ℕ → Bool) (all : Option (ℕ → Bool)) (i : ℕ) (fs : List TreeFn) (d : TreeFn) (xs : List TreeItem) → r ≡ false → w ≡ base → xs
    ≡ (get_or fs i d).items → i < length fs → MetOnce r g (met_once w h (labels mention.Stands xs)) → met_once base h (all_labels (drop i fs)) ≡ all → false ≡ is_some all
function_unmet r w base h g all i fs d xs a b e lt m k =
    once_off base h g all i fs d lt (met_as r false w base h g xs (get_or fs i d).items a b e m) k
