-- The second stack: a pointer and an area behind the other objects.
use Rattle.std.proofs.Common.{◌≡◌, ℕ, zero, suc, ◌+◌, ◌<◌, List, [], ◌∷◌, ◌++◌, length, Result, Ok, Err, refl, sym, ap, subst, ◌∙◌, append_assoc, arith}
use Rattle.std.specs.Prelude.{codes}
use Rattle.tree_core.specs.declared.program.Object.{Object}
use Rattle.c_types.specs.Answers.{Fault, ◌>>=◌}
use Rattle.c_typed_scope.specs.Layout.{Area, placed}
use Rattle.c_typed_scope.specs.Contents.{Filled, filled_to, with_link, with_contents, filled}
use Rattle.c_typed_scope.specs.Stack.{opened, with_stack}
use Rattle.c_typed_scope.proofs.Opening.{opened_by}
use Rattle.c_typed_scope.proofs.Written.{held_length}
use Rattle.c_sound_texts.proofs.Held.{places_of, Contains, contains_nothing, link_contained, filled_contained}
use Rattle.c_sound_texts.proofs.Areas.{Lays, lays_same, Placed, placed_is, object_at}
use Rattle.c_sound_texts.proofs.Contents.{Holds, nothing, holds_nothing, link_holds, filled_holds}
use Rattle.c_sound_texts.proofs.Objects.{LaidAt, laid_longer, held_places, filled_lays}
use Rattle.c_sound_texts.proofs.Labels.{labels, labels_joined, labels_held}

-- two objects get what they hold in either order
contents_apart : (n m : ℕ) (f g : Filled) (os : List Object) → n < m →
    with_contents m g (with_contents n f os) ≡ with_contents n f (with_contents m g os)
contents_apart n m f g [] lt = refl
contents_apart zero zero f g (o ∷ os) lt = absurd (omega arith)
contents_apart zero (suc m) f g (o ∷ os) lt = refl
contents_apart (suc n) zero f g (o ∷ os) lt = absurd (omega arith)
contents_apart (suc n) (suc m) f g (o ∷ os) lt = ap (λ (z : List Object). o ∷ z) (contents_apart n m f g os (omega arith))

abbrev with_objects : List Object → Area → Area
with_objects os a = record { objects = os; end = a.end; literals = a.literals; statics = a.statics; measuring = a.measuring }

filled_apart : (n m : ℕ) (f g : Filled) (a : Area) → n < m → filled m g (filled n f a) ≡ filled n f (filled m g a)
unfolding filled
filled_apart n m f g a lt = ap (λ (os : List Object). with_objects os a) (contents_apart n m f g a.objects lt)

filled_length : (n : ℕ) (f : Filled) (a : Area) → length (filled n f a).objects ≡ length a.objects
unfolding filled
filled_length n f a = held_length n f a.objects

filled_places : (n : ℕ) (f : Filled) (a : Area) → places_of (filled n f a).objects ≡ places_of a.objects
unfolding filled
filled_places n f a = held_places n f a.objects

filled_labels : (n : ℕ) (f : Filled) (a : Area) → labels (filled n f a).objects ≡ labels a.objects
unfolding filled
filled_labels n f a = labels_held n f a.objects

laid_is : (label : List ℕ) (align size : ℕ) (a : Area) (r : ℕ × Area) → Placed label align size [] a r → LaidAt label align size a r
laid_is label align size a r p =
    rw (p.is) (record { number = refl; objects = refl; end = refl; within = p.within; measuring = refl })

-- an area of any size
abbrev opened_of : (size pointer stack : ℕ) → Area → Area
opened_of size pointer stack a =
    filled stack (filled_to size nothing) (filled pointer (filled_to 4 (with_link a.objects stack nothing)) a)

opened_is : (size pointer stack : ℕ) (a : Area) → size ≡ 262144 → opened_of size pointer stack a ≡ opened pointer stack a
opened_is size pointer stack a long =
    opened_by {T = Unit {0}} {E = Unit {0}} (Ok tt) a (filled pointer (filled_to 4 (with_link a.objects stack nothing)) a)
    (opened_of size pointer stack a) (with_link a.objects stack nothing) nothing a.objects pointer stack size refl long refl refl refl refl

-- what the stack adds
pub record Stacked (a b : Area) : Type 0 where
  pub lays : Lays a b
  pub labels : labels b.objects ≡ labels a.objects ++ codes "T_sp" ∷ codes "T_area" ∷ []
  pub two : length b.objects ≡ length a.objects + 2

one_label : (label : List ℕ) (align size : ℕ) (a : Area) (l : ℕ × Area) → LaidAt label align size a l →
    labels l.1.objects ≡ labels a.objects ++ label ∷ []
one_label label align size a l h = ap labels h.objects ∙ labels_joined a.objects (object_at label align size [] [] a ∷ [])

module _ (size : ℕ) (long : size ≡ 262144) (a : Area) (p q : ℕ × Area) (h : LaidAt (codes "T_sp") 4 4 a p) (k : LaidAt (codes "T_area") 4 size p.1 q) where
  -- the area with its zeros
  abbrev zeroed : Area
  zeroed = filled q.0 (filled_to size nothing) q.1

  abbrev address : Filled
  address = filled_to 4 (with_link q.1.objects q.0 nothing)

  zeroed_lays : Lays p.1 zeroed
  zeroed_lays =
      filled_lays (codes "T_area") 4 size (filled_to size nothing) p.1 q q.1 refl k (lays_same q.1)
      (filled_holds (length q.1.objects) 0 size nothing (omega arith) (holds_nothing (length q.1.objects)))
      (filled_contained (places_of q.1.objects) size nothing (contains_nothing (places_of q.1.objects))) (omega arith)

  stack_below : q.0 < length q.1.objects
  stack_below =
      let number : q.0 ≡ length p.1.objects = k.number in
      let more = laid_longer (codes "T_area") 4 size p.1 q k in
      omega arith

  pointer_below : p.0 < q.0
  pointer_below =
      let number : q.0 ≡ length p.1.objects = k.number in
      let first : p.0 ≡ length a.objects = h.number in
      let more = laid_longer (codes "T_sp") 4 4 a p h in
      omega arith

  address_holds : Holds (length zeroed.objects) 4 address
  address_holds =
      let many = filled_length q.0 (filled_to size nothing) q.1 in
      let below = stack_below in
      filled_holds (length zeroed.objects) 4 4 (with_link q.1.objects q.0 nothing) (omega arith)
      (link_holds (length zeroed.objects) 0 q.0 q.1.objects nothing (omega arith) (holds_nothing (length zeroed.objects)))

  address_contained : Contains (places_of zeroed.objects) address
  address_contained =
      subst (λ (ps : List ℕ). Contains ps address) (sym (filled_places q.0 (filled_to size nothing) q.1))
      (filled_contained (places_of q.1.objects) 4 (with_link q.1.objects q.0 nothing)
      (link_contained q.1.objects q.0 nothing stack_below (contains_nothing (places_of q.1.objects))))

  pointer_lays : Lays a (filled p.0 address zeroed)
  pointer_lays = filled_lays (codes "T_sp") 4 4 address a p zeroed refl h zeroed_lays address_holds address_contained (omega arith)

  pointer_labels : labels (filled p.0 address zeroed).objects ≡ labels a.objects ++ codes "T_sp" ∷ codes "T_area" ∷ []
  pointer_labels =
      filled_labels p.0 address zeroed ∙ (filled_labels q.0 (filled_to size nothing) q.1
      ∙ (one_label (codes "T_area") 4 size p.1 q k
      ∙ (ap (λ (z : List (List ℕ)). z ++ codes "T_area" ∷ []) (one_label (codes "T_sp") 4 4 a p h)
      ∙ append_assoc (labels a.objects) (codes "T_sp" ∷ []) (codes "T_area" ∷ []))))

  pointer_two : length (filled p.0 address zeroed).objects ≡ length a.objects + 2
  pointer_two =
      let first = filled_length p.0 address zeroed in
      let second = filled_length q.0 (filled_to size nothing) q.1 in
      let one = laid_longer (codes "T_area") 4 size p.1 q k in
      let other = laid_longer (codes "T_sp") 4 4 a p h in
      omega arith

  stack_opened : filled p.0 address zeroed ≡ opened p.0 q.0 q.1
  stack_opened = sym (filled_apart p.0 q.0 address (filled_to size nothing) q.1 pointer_below) ∙ opened_is size p.0 q.0 q.1 long

  stack_laid : Stacked a (opened p.0 q.0 q.1)
  stack_laid =
      subst (Stacked a) stack_opened (record { lays = pointer_lays; labels = pointer_labels; two = pointer_two })

area_by : (size at : ℕ) (a b : Area) (p : ℕ × Area) (m : Result (ℕ × Area) Fault) → size ≡ 262144 → placed at (codes "T_sp") 4 4 [] a ≡ Ok p →
    m ≡ placed at (codes "T_area") 4 size [] p.1 → (m >>= λ q. Ok (opened p.0 q.0 q.1)) ≡ Ok b → Stacked a b
area_by size at a b p (Err f) long first is e = absurd (cc)
area_by size at a b p (Ok q) long first is e =
    let same : b ≡ opened p.0 q.0 q.1 = cc in
    rw same (stack_laid size long a p q (laid_is (codes "T_sp") 4 4 a p (placed_is at (codes "T_sp") 4 4 [] a p first))
    (laid_is (codes "T_area") 4 size p.1 q (placed_is at (codes "T_area") 4 size [] p.1 q (sym is))))

pointer_by : (size at : ℕ) (a b : Area) (m : Result (ℕ × Area) Fault) → size ≡ 262144 → m ≡ placed at (codes "T_sp") 4 4 [] a →
    (m >>= λ p. placed at (codes "T_area") 4 size [] p.1 >>= λ q. Ok (opened p.0 q.0 q.1)) ≡ Ok b → Stacked a b
pointer_by size at a b (Err f) long is e = absurd (cc)
pointer_by size at a b (Ok p) long is e = area_by size at a b p (placed at (codes "T_area") 4 size [] p.1) long (sym is) refl e

pub stack_is : (at : ℕ) (a b : Area) → with_stack at a ≡ Ok b → Stacked a b
unfolding with_stack
stack_is at a b e = pointer_by 262144 at a b (placed at (codes "T_sp") 4 4 [] a) refl refl e
