-- Small facts of lowered trees that several laws of lowering cite.
use Rattle.std.proofs.Common.{◌≡◌, ℕ, suc, List, [], ◌∷◌, length, refl, ap, ◌++◌, map, ◌≤◌, arith, ◌⊎◌, inl, inr}
use Rattle.std.specs.Prelude.{true, false, not, ◌&&◌, ◌||◌, Bool}
use Rattle.std.proofs.lemmas.Bool.{not-true, or_from, not-false}
use Rattle.gg_base.proofs.Facts.{first_true, second_true}
use Rattle.c_program.specs.Programs.{ARoutine}
use Rattle.c_lower_scheme.specs.Programs.{body_of, lower_all}
use Rattle.c_lower_scheme.specs.Trees.{Tree, Num, Gaddr, Loc, Arg, Indir, Conv, Neg, Com, Bin, divides_by, divides, stable, is_leaf, Item, Push}
use Rattle.c_lower_scheme.specs.Spelling.{spelled, spelled_all}
use Rattle.c_lower_scheme.specs.Calls.{pushes}
use Rattle.tree_core.specs.declared.program.TreeFn.{TreeFn}
use Rattle.c_lower_scheme.specs.Saving.{next_if}
use Rattle.c_lower_scheme.specs.Values.{must}

pub all_lowered : (pointer count : ℕ) (gs : List ARoutine) (l : ℕ) → length (lower_all pointer count gs l) ≡ length gs
all_lowered pointer count [] l = refl
all_lowered pointer count (g ∷ gs) l = ap suc (all_lowered pointer count gs (body_of pointer count g l).labels)

pub leaf_inert : (w : Tree) → is_leaf w ≡ true → divides w ≡ false
leaf_inert (Num n) h = refl
leaf_inert (Gaddr n) h = refl
leaf_inert (Loc n) h = refl
leaf_inert (Arg n) h = refl
leaf_inert _ h = absurd (cc)

pub stable_inert : (size : ℕ) (w : Tree) → stable size w ≡ true → divides w ≡ false
stable_inert size (Num n) h = refl
stable_inert size (Gaddr n) h = refl
stable_inert size (Loc n) h = refl
stable_inert size (Arg n) h = refl
stable_inert size (Indir i a) h = absurd (cc)
stable_inert size (Conv i w) h = stable_inert size w h
stable_inert size (Neg w) h = stable_inert size w h
stable_inert size (Com w) h = stable_inert size w h
stable_inert size (Bin op a b) h =
    let both = second_true (not (divides_by op)) (stable size a && stable size b) h in
    let op_inert = not-true (divides_by op) (first_true (not (divides_by op)) (stable size a && stable size b) h) in
    let a_inert = stable_inert size a (first_true (stable size a) (stable size b) both) in
    or_from (divides_by op) (divides a || divides b) op_inert (or_from (divides a) (divides b) a_inert (stable_inert size b (second_true (stable size a) (stable size b) both)))

pub spelled_append : (a b : List Item) → spelled_all (a ++ b) ≡ spelled_all a ++ spelled_all b
spelled_append [] b = refl
spelled_append (i ∷ a) b = ap (λ l. spelled i ∷ l) (spelled_append a b)

-- routines keep their names
pub names_stay : (pointer count : ℕ) (gs : List ARoutine) (l : ℕ) → map (λ (f : TreeFn). f.name) (lower_all pointer count gs l) ≡ map (λ (g : ARoutine). g.name) gs
names_stay pointer count [] l = refl
names_stay pointer count (g ∷ gs) l = ap (λ (ns : List (List ℕ)). g.name ∷ ns) (names_stay pointer count gs (body_of pointer count g l).labels)

-- arguments are pushed in front of what follows
pub pushes_append : (ws : List Tree) (is js : List Item) → pushes ws (is ++ js) ≡ pushes ws is ++ js
pushes_append [] is js = refl
pushes_append (w ∷ ws) is js = pushes_append ws (Push w ∷ is) js

pub next_grows : (c : Bool) (u : ℕ) → u ≤ next_if c u
next_grows true u = omega arith
next_grows false u = omega arith

pub must_not : (size count : ℕ) (is : List Item) (a b : Tree) → must size count is a b ≡ false → (is ≡ []) ⊎ (stable size a ≡ true)
must_not size count [] a b e = inl refl
must_not size count (i ∷ is) a b e = inr (not-false (stable size a) e)
