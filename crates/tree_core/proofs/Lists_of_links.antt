-- Steps along the lists of links.
use Rattle.std.proofs.Common.{◌≡◌, ℕ, suc, ◌+◌, ◌<◌, List, [], ◌∷◌, ◌++◌, length, drop, get_or, Bool, true, false, not, cond, refl, sym, ap, ◌∙◌, subst, Option, None, arith}
use Rattle.std.specs.Prelude.{is_some}
use Rattle.std.specs.Bool.{OnTrue}
use Rattle.std.proofs.Math.Seq.{drop-cons}
use Rattle.tree_core.specs.declared.program.Link.{Link}
use Rattle.tree_core.specs.Valid.{four, bytes_linked}
use Rattle.tree_core.specs.Window.{met_once, MetOnce, added}
use Rattle.tree_core.proofs.Lists_of_labels.{met_on, once-append}

-- the number is met, and the next ones follow
pub new_met : (base b : ℕ) (h g : ℕ → Bool) (n : ℕ) (ns : List ℕ) (r : Bool) → b ≡ base → r ≡ not (h n) → r ≡ true → OnTrue r (g ≡ added b h n) → met_once base h (n ∷ ns) ≡ met_once base g ns
new_met base b h g n ns r e f t m = by (h n) refl
  where
    by : (q : Bool) → h n ≡ q → cond q None (met_once base (added base h n) ns) ≡ met_once base g ns
    by true k = absurd (clash (f ∙ ap not k) t)
      where
        clash : r ≡ false → r ≡ true → ⊥
        clash u v = let z : true ≡ false = sym v ∙ u in cc
    by false k = ap (λ (w : ℕ → Bool). met_once base w ns) (ap (λ (c : ℕ). added c h n) (sym e) ∙ sym (subst (λ (q : Bool). OnTrue q (g ≡ added b h n)) t m))

-- the number was met before
pub old_met : (base : ℕ) (h : ℕ → Bool) (n : ℕ) (ns : List ℕ) (r : Bool) → r ≡ not (h n) → r ≡ false → met_once base h (n ∷ ns) ≡ None
old_met base h n ns r f t = by (h n) refl
  where
    by : (q : Bool) → h n ≡ q → cond q None (met_once base (added base h n) ns) ≡ None
    by true k = refl
    by false k = absurd (clash (f ∙ ap not k))
      where
        clash : r ≡ true → ⊥
        clash u = let z : true ≡ false = sym u ∙ t in cc

pub last_met : (base b : ℕ) (h g : ℕ → Bool) (n : ℕ) (r : Bool) → b ≡ base → r ≡ not (h n) → OnTrue r (g ≡ added b h n) → MetOnce r g (met_once base h (n ∷ []))
last_met base b h g n true e f m = new_met base b h g n [] true e f refl m
last_met base b h g n false e f m = old_met base h n [] false f refl

bytes_there : (i : ℕ) (w : List Link) (d : Link) → i < length w → bytes_linked (drop i w) ≡ four (get_or w i d).at ++ bytes_linked (drop (i + 1) w)
bytes_there i w d lt =
    let one : i + 1 ≡ suc i = omega arith in
    rw one (ap bytes_linked (drop-cons w i d lt))

met_as : (r d : Bool) (w base : ℕ) (h g : ℕ → Bool) (xs : List ℕ) → r ≡ d → w ≡ base → MetOnce r g (met_once w h xs) → MetOnce d g (met_once base h xs)
met_as r d w base h g xs a b m =
    subst (λ (q : Bool). MetOnce q g (met_once base h xs)) a (subst (λ (n : ℕ). MetOnce r g (met_once n h xs)) b m)

pub link_met : (r : Bool) (w base : ℕ) (h g : ℕ → Bool) (all : Option (ℕ → Bool)) (i : ℕ) (ls : List Link) (d : Link) (at : ℕ) → at ≡ (get_or ls i d).at → r ≡ true → w ≡ base
    → i < length ls → MetOnce r g (met_once w h (four at)) → met_once base h (bytes_linked (drop i ls)) ≡ all → met_once base g (bytes_linked (drop (i + 1) ls)) ≡ all
link_met r w base h g all i ls d at z a b lt m k =
    ap (λ (o : Option (ℕ → Bool)). met_on base o (bytes_linked (drop (i + 1) ls)))
    (sym (met_as r true w base h g (four (get_or ls i d).at) a b (subst (λ (n : ℕ). MetOnce r g (met_once w h (four n))) z m)))
    ∙ sym (once-append base h (four (get_or ls i d).at) (bytes_linked (drop (i + 1) ls)))
    ∙ ap (met_once base h) (sym (bytes_there i ls d lt))
    ∙ k

pub link_unmet : (r : Bool) (w base : ℕ) (h g : ℕ → Bool) (all : Option (ℕ → Bool)) (i : ℕ) (ls : List Link) (d : Link) (at : ℕ) → at ≡ (get_or ls i d).at → r ≡ false → w ≡ base
    → i < length ls → MetOnce r g (met_once w h (four at)) → met_once base h (bytes_linked (drop i ls)) ≡ all → false ≡ is_some all
link_unmet r w base h g all i ls d at z a b lt m k =
    ap is_some (
    ap (λ (o : Option (ℕ → Bool)). met_on base o (bytes_linked (drop (i + 1) ls)))
    (sym (met_as r false w base h g (four (get_or ls i d).at) a b (subst (λ (n : ℕ). MetOnce r g (met_once w h (four n))) z m)))
    ∙ sym (once-append base h (four (get_or ls i d).at) (bytes_linked (drop (i + 1) ls)))
    ∙ ap (met_once base h) (sym (bytes_there i ls d lt))
    ∙ k
    )
