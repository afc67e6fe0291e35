-- Calls in order: as many pushes directly before each call, and saves directly behind.
use Rattle.std.proofs.Common.{◌≡◌, ℕ, List, [], ◌∷◌, ◌++◌, length, refl, ap, sym, arith, ◌∙◌, subst, append_assoc, length-append}
use Rattle.c_types.specs.declared.types.Integer.{Integer}
use Rattle.c_types.specs.declared.types.Integer.TheVariants as ints
use Rattle.tree_core.specs.declared.program.TreeItem.{TreeItem}
use Rattle.tree_core.specs.declared.program.TreeItem.TheVariants as tree_item
use Rattle.tree_core.specs.Items.{role_of, AllPush, CallsInOrder, nothing, other, call, saved}
use Rattle.c_lower_scheme.specs.Trees.{Tree, Item, Label, AssignLoc, AssignArg, AssignMem, Cbr, Jump, Push, Call, Save, Ret}
use Rattle.c_lower_scheme.specs.Spelling.{spelled, spelled_all}
use Rattle.c_lower_scheme.specs.Calls.{pushes}
use Rattle.c_lower_scheme.proofs.Facts.{spelled_append}

order_append : {a : List TreeItem} (b : List TreeItem) → CallsInOrder a → CallsInOrder b → CallsInOrder (a ++ b)
order_append b nothing g = g
order_append b (other i is r h) g = other i (is ++ b) r (order_append b h g)
order_append b (call ps c is all ap' rc h e) g = call ps c (is ++ b) _ ap' rc (order_append b h g)
    (ap (λ x. x ++ b) e ∙ append_assoc ps (c ∷ is) b)
order_append b (saved ps c s is all ap' rc rs h e) g = saved ps c s (is ++ b) _ ap' rc rs (order_append b h g)
    (ap (λ x. x ++ b) e ∙ append_assoc ps (c ∷ s ∷ is) b)

-- items in which calls are in order
abbrev pub Orderly : List Item → Type 0
Orderly is = CallsInOrder (spelled_all is)

pub orderly_nil : Orderly []
orderly_nil = nothing

pub orderly_append : (a b : List Item) → Orderly a → Orderly b → Orderly (a ++ b)
orderly_append a b h g = subst CallsInOrder (sym (spelled_append a b)) (order_append (spelled_all b) h g)

-- items that have nothing to do with calls
abbrev pub IsQuiet : Item → Type 0
IsQuiet (Label l) = Unit {0}
IsQuiet (AssignLoc n w) = Unit {0}
IsQuiet (AssignArg n w) = Unit {0}
IsQuiet (AssignMem i a w) = Unit {0}
IsQuiet (Cbr rel l a b) = Unit {0}
IsQuiet (Jump l) = Unit {0}
IsQuiet (Push w) = ⊥
IsQuiet (Call f count) = ⊥
IsQuiet (Save n) = ⊥
IsQuiet (Ret w) = Unit {0}

memory_role : (i : Integer) (a w : Tree) → role_of (spelled (AssignMem i a w)) ≡ role_of (tree_item.Label 0)
memory_role ints.Char a w = refl
memory_role ints.UnsignedChar a w = refl
memory_role ints.Short a w = refl
memory_role ints.UnsignedShort a w = refl
memory_role ints.Int a w = refl

quiet_role : (i : Item) → IsQuiet i → role_of (spelled i) ≡ role_of (tree_item.Label 0)
quiet_role (Label l) q = refl
quiet_role (AssignLoc n w) q = refl
quiet_role (AssignArg n w) q = refl
quiet_role (AssignMem i a w) q = memory_role i a w
quiet_role (Cbr rel l a b) q = refl
quiet_role (Jump l) q = refl
quiet_role (Ret w) q = refl
quiet_role _ q = absurd q

pub orderly_more : (i : Item) (is : List Item) → IsQuiet i → Orderly is → Orderly (i ∷ is)
orderly_more i is q h = other (spelled i) (spelled_all is) (quiet_role i q) h

-- pushes in front of items
record Pushed (ws : List Tree) (is : List Item) : Type 0 where
  front : List TreeItem
  spells : spelled_all (pushes ws is) ≡ front ++ spelled_all is
  push : AllPush front
  many : length front ≡ length ws

push_last : (ps : List TreeItem) (i : TreeItem) → AllPush ps → AllPush (i ∷ []) → AllPush (ps ++ i ∷ [])
push_last [] i a r = r
push_last (p ∷ ps) i a r = (a.0, push_last ps i a.1 r)

pushed : (ws : List Tree) (is : List Item) → Pushed ws is
pushed [] is = record { front = []; spells = refl; push = tt; many = refl }
pushed (w ∷ ws) is =
    let h = pushed ws (Push w ∷ is) in
    let many = h.many in
    record {
      front = h.front ++ (spelled (Push w) ∷ []);
      spells = h.spells ∙ sym (append_assoc h.front (spelled (Push w) ∷ []) (spelled_all is));
      push = push_last h.front (spelled (Push w)) h.push (refl, tt);
      many = omega (arith, length-append h.front (spelled (Push w) ∷ []), many);
    }

pub orderly_call : (ws : List Tree) (f : ℕ) → Orderly (pushes ws (Call f (length ws) ∷ []))
orderly_call ws f =
    let h = pushed ws (Call f (length ws) ∷ []) in
    call h.front (spelled (Call f (length ws))) [] _ h.push (ap (λ n. role_of (spelled (Call f n))) (sym h.many)) nothing h.spells

pub orderly_saved : (ws : List Tree) (f n : ℕ) → Orderly (pushes ws (Call f (length ws) ∷ Save n ∷ []))
orderly_saved ws f n =
    let h = pushed ws (Call f (length ws) ∷ Save n ∷ []) in
    saved h.front (spelled (Call f (length ws))) (spelled (Save n)) [] _ h.push
    (ap (λ n. role_of (spelled (Call f n))) (sym h.many)) refl nothing h.spells
