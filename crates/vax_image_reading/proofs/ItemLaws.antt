-- The items of a section are read one after the other.
use Rattle.std.proofs.Common.{◌≡◌, ℕ, zero, suc, ◌+◌, ◌-◌, ◌<◌, true, false, List, [], ◌∷◌, ◌++◌, Option, Some, None, refl, sym, ap, ◌∙◌, arith, append_assoc}
use Rattle.std.proofs.lemmas.List.{append-nil}
use Rattle.vax_core.specs.declared.code.CodeItem.{CodeItem}
use Rattle.vax_image_format.specs.declared.field.Mark.{Mark}
use Rattle.vax_image_reading.specs.Fronts.{Front}
use Rattle.vax_image_reading.specs.Items.{ItemFront, is_end, item_front, items_front, items_onto}

onto_nothing : (o : Option (List CodeItem)) → items_onto [] o ≡ o
onto_nothing None = refl
onto_nothing (Some items) = refl

pub items_start : (n : ℕ) (marks : List Mark) (f : Front) → items_onto [] (items_front n marks f) ≡ items_front n marks f
items_start n marks f = onto_nothing (items_front n marks f)

pub one_more : (n : ℕ) (marks : List Mark) (f : Front) → items_front (n + 1) marks f ≡ items_front (suc n) marks f
one_more n marks f = let one : n + 1 ≡ suc n = omega arith in ap (λ (k : ℕ). items_front k marks f) one

-- what the next number of items comes to, where no mark and no byte is left, and where an item is
pub items_end : (n : ℕ) (marks : List Mark) (f : Front) (read : List CodeItem) (whole : Option (List CodeItem)) → 0 < n → is_end marks f ≡ true
    → items_onto read (items_front n marks f) ≡ whole → whole ≡ Some read
items_end zero marks f read whole lt e h = absurd (omega (arith, lt))
items_end (suc n) marks f read whole lt e h = sym h ∙ rw e (ap Some (append-nil read))

pub items_fail : (n : ℕ) (marks : List Mark) (f : Front) (read : List CodeItem) (whole : Option (List CodeItem)) → 0 < n → is_end marks f ≡ false
    → item_front marks f ≡ None → items_onto read (items_front n marks f) ≡ whole → whole ≡ None
items_fail zero marks f read whole lt e none h = absurd (omega (arith, lt))
items_fail (suc n) marks f read whole lt e none h = sym h ∙ rw (e, none) refl

more_onto : (read : List CodeItem) (item : CodeItem) (o : Option (List CodeItem)) → items_onto (read ++ item ∷ []) o ≡ items_onto read (items_onto (item ∷ []) o)
more_onto read item None = refl
more_onto read item (Some items) = ap Some (append_assoc read (item ∷ []) items)

pub items_step : (n : ℕ) (marks : List Mark) (f : Front) (read : List CodeItem) (whole : Option (List CodeItem)) (x : ItemFront) → 0 < n → is_end marks f ≡ false
    → item_front marks f ≡ Some x → items_onto read (items_front n marks f) ≡ whole → items_onto (read ++ x.0 ∷ []) (items_front (n - 1) x.1 x.2) ≡ whole
items_step zero marks f read whole x lt e some h = absurd (omega (arith, lt))
items_step (suc n) marks f read whole x lt e some h =
    let one : suc n - 1 ≡ n = omega arith in
    let opened : items_onto read (items_front (suc n) marks f) ≡ items_onto read (items_onto (x.0 ∷ []) (items_front n x.1 x.2)) = rw (e, some) refl in
    ap (λ (k : ℕ). items_onto (read ++ x.0 ∷ []) (items_front k x.1 x.2)) one ∙ more_onto read x.0 (items_front n x.1 x.2) ∙ sym opened ∙ h

pub items_none : (n : ℕ) (marks : List Mark) (f : Front) (read : List CodeItem) (whole : Option (List CodeItem)) → n ≡ 0 → items_onto read (items_front n marks f) ≡ whole → whole ≡ None
items_none n marks f read whole e h = sym h ∙ ap (λ (k : ℕ). items_onto read (items_front k marks f)) e

pub ruleset item_steps = (items_start, items_end, items_fail, items_step, items_none)
