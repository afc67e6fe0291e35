-- What the first trees of a forest stand for.
use Rattle.std.proofs.Common.{◌≡◌, ℕ, zero, suc, List, ◌∷◌, length, take, Option, refl, sym, ap, ◌∙◌, subst}
use Rattle.tree_core.specs.declared.program.Object.{Object}
use Rattle.tree_core.specs.declared.program.TreeProgram.{TreeProgram}
use Rattle.tree_core.specs.declared.token.Sort.{Sort}
use Rattle.tree_core.specs.declared.tree.Leaf.{Leaf}
use Rattle.tree_core.specs.Grammar.{kids}
use Rattle.tree_core.specs.Trees.{Forest, none, tree, firsts, grown}
use Rattle.tree_meaning.specs.declared.machine.Machine.{Machine}
use Rattle.tree_meaning.specs.declared.progress.Progress.{Progress}
use Rattle.tree_meaning.specs.State.{State, sight}
use Rattle.tree_meaning.specs.Deeds.{Deed, deed_of, tree_deed}
use Rattle.tree_meaning.specs.Steps.{deed_step, tree_step}
use Rattle.tree_meaning.specs.View.{StepsBy, kid_at}
use Rattle.tree_meaning.specs.declared.value.Meaning.{Meaning}
use Rattle.tree_meaning.specs.Values.{Sight, meanings, leaf_means}
use Rattle.std.specs.Prelude.{slice_get}

pub meanings-firsts : (objects : List Object) (s : Sight) (k : ℕ) (f : Forest) → meanings objects s (firsts k f) ≡ take k (meanings objects s f)
meanings-firsts objects s zero f = refl
meanings-firsts objects s (suc k) none = refl
meanings-firsts objects s (suc k) (tree l below behind) =
    ap (λ (ms : List Meaning). leaf_means objects s l (slice_get (meanings objects s below) 0) (slice_get (meanings objects s below) 1) ∷ ms) (meanings-firsts objects s k behind)

-- a root does what the tree of its leaves does
pub root_steps : (p : TreeProgram) (s : State) (w ks : List Leaf) (root : Leaf) (ms : List Meaning) (sorts : List Sort) (a b : Option Meaning) (done : Progress) (new : Machine)
    → w ≡ root ∷ ks → ms ≡ meanings p.objects (sight s) (grown ks) → sorts ≡ kids root.tok → a ≡ kid_at ms (length sorts) 0 → b ≡ kid_at ms (length sorts) 1
    → StepsBy p (deed_step p s (deed_of (sight s) root.tok root.att a b)) done new → StepsBy p (tree_step p s (grown w)) done new
root_steps p s w ks root ms sorts a b done new e m k f g h =
    let at : (i : ℕ) → slice_get (meanings p.objects (sight s) (firsts (length (kids root.tok)) (grown ks))) i ≡ kid_at ms (length sorts) i =
    λ i.
    ap (λ (xs : List Meaning). slice_get xs i) (meanings-firsts p.objects (sight s) (length (kids root.tok)) (grown ks))
    ∙ ap (λ (xs : List Meaning). kid_at xs (length (kids root.tok)) i) (sym m)
    ∙ ap (λ (xs : List Sort). kid_at ms (length xs) i) (sym k) in
    let deed : tree_deed p.objects (sight s) (grown w) ≡ deed_of (sight s) root.tok root.att a b =
    ap (λ (v : List Leaf). tree_deed p.objects (sight s) (grown v)) e
    ∙ ap (λ (x : Option Meaning). deed_of (sight s) root.tok root.att x (slice_get (meanings p.objects (sight s) (firsts (length (kids root.tok)) (grown ks))) 1)) (at 0 ∙ sym f)
    ∙ ap (deed_of (sight s) root.tok root.att a) (at 1 ∙ sym g) in
    subst (λ (d : Deed). StepsBy p (deed_step p s d) done new) (sym deed) h
