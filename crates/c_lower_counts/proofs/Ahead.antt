-- Labels that stand ahead of a jump: it is not counted.
use Rattle.std.proofs.Common.{◌≡◌, ℕ, Bool, true, List, [], ◌∷◌, ◌++◌, refl, ap, ◌∙◌, subst, sym, append_assoc}
use Rattle.std.specs.Prelude.{◌||◌}
use Rattle.std.proofs.lemmas.Bool.{eq-eqb}
use Rattle.gg_base.proofs.Facts.{or_true}
use Rattle.tree_meaning.specs.State.{is_label}
use Rattle.tree_counts.specs.Counted.{is_ahead}
use Rattle.c_lower_scheme.specs.Trees.{Item, Label}
use Rattle.c_lower_scheme.specs.Spelling.{spelled, spelled_all}

-- the label stands among what is to come
abbrev pub IsAhead : List Item → ℕ → Type 0
IsAhead is l = is_ahead (spelled_all is) l ≡ true

pub ahead_here : (l : ℕ) (is : List Item) → IsAhead (Label l ∷ is) l
ahead_here l is = ap (λ (b : Bool). b || is_ahead (spelled_all is) l) (eq-eqb l l refl)

pub ahead_later : (l : ℕ) (i : Item) (is : List Item) → IsAhead is l → IsAhead (i ∷ is) l
ahead_later l i is h = ap (λ (b : Bool). is_label l (spelled i) || b) h ∙ or_true (is_label l (spelled i))

pub ahead_behind : (l : ℕ) (a is : List Item) → IsAhead is l → IsAhead (a ++ is) l
ahead_behind l [] is h = h
ahead_behind l (i ∷ a) is h = ahead_later l i (a ++ is) (ahead_behind l a is h)

pub ahead_joined : (l : ℕ) (a b is : List Item) → IsAhead (a ++ (b ++ is)) l → IsAhead ((a ++ b) ++ is) l
ahead_joined l a b is h = subst (λ (xs : List Item). IsAhead xs l) (sym (append_assoc a b is)) h
