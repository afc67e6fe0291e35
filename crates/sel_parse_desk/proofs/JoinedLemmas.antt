-- Lists of kinds and of attributes, joined.
use Rattle.std.proofs.Common.{◌≡◌, ℕ, zero, suc, ◌<◌, ◌≤◌, List, [], ◌∷◌, ◌++◌, length, set, take, drop, get_or, slice_get, Option, Some, None, true, refl, ap, sym, ◌∙◌, arith}
use Rattle.std.specs.Option.{option_flatten}
use Rattle.std.proofs.lemmas.Bool.{and_from}
use Rattle.gg_base.proofs.Facts.{first_true, second_true}
use Rattle.md_reader.specs.declared.types.Kind.{Kind}
use Rattle.sel_target.specs.declared.attr.Attr.{Attr}
use Rattle.sel_parse_desk.specs.Entries.{Entry, attrs, slot_of, slot_in}
use Rattle.sel_parse_desk.specs.Joined.{joined, is_low, are_low, attr_in}
use Rattle.sel_parse_desk.specs.Entries.{kind_in}

same_rest : (m n : ℕ) → suc m ≡ suc n → m ≡ n
same_rest m n e = omega (arith, e)

module _ {O : Type 0} where
  joined_nil : (ks : List (Option Kind)) → joined {O = O} ks [] ≡ []
  joined_nil [] = refl
  joined_nil (k ∷ ks) = refl

  pub joined-snoc : (ks : List (Option Kind)) (hs : List (Attr O)) (k : Option Kind) (h : Attr O) → length ks ≡ length hs
      → joined (ks ++ k ∷ []) (hs ++ h ∷ []) ≡ joined ks hs ++ record { kind = k; attr = h } ∷ []
  joined-snoc [] [] k h e = refl
  joined-snoc [] (g ∷ hs) k h e = absurd (omega (arith, e))
  joined-snoc (j ∷ ks) [] k h e = absurd (omega (arith, e))
  joined-snoc (j ∷ ks) (g ∷ hs) k h e =
      ap (λ (es : List (Entry O)). record { kind = j; attr = g } ∷ es) (joined-snoc ks hs k h (same_rest (length ks) (length hs) e))

  pub joined-take : (n : ℕ) (ks : List (Option Kind)) (hs : List (Attr O)) → joined (take n ks) (take n hs) ≡ take n (joined ks hs)
  joined-take zero ks hs = refl
  joined-take (suc n) [] hs = refl
  joined-take (suc n) (k ∷ ks) [] = refl
  joined-take (suc n) (k ∷ ks) (h ∷ hs) = ap (λ (es : List (Entry O)). record { kind = k; attr = h } ∷ es) (joined-take n ks hs)

  pub joined-drop : (n : ℕ) (ks : List (Option Kind)) (hs : List (Attr O)) → joined (drop n ks) (drop n hs) ≡ drop n (joined ks hs)
  joined-drop zero ks hs = refl
  joined-drop (suc n) [] hs = refl
  joined-drop (suc n) (k ∷ ks) [] = joined_nil (drop n ks)
  joined-drop (suc n) (k ∷ ks) (h ∷ hs) = joined-drop n ks hs

  pub length-joined : (ks : List (Option Kind)) (hs : List (Attr O)) → length ks ≡ length hs → length (joined ks hs) ≡ length ks
  length-joined [] hs e = refl
  length-joined (k ∷ ks) [] e = absurd (omega (arith, e))
  length-joined (k ∷ ks) (h ∷ hs) e = let ih = length-joined ks hs (same_rest (length ks) (length hs) e) in ap suc ih

  pub attrs-joined : (ks : List (Option Kind)) (hs : List (Attr O)) → length ks ≡ length hs → attrs (joined ks hs) ≡ hs
  attrs-joined [] [] e = refl
  attrs-joined [] (h ∷ hs) e = absurd (omega (arith, e))
  attrs-joined (k ∷ ks) [] e = absurd (omega (arith, e))
  attrs-joined (k ∷ ks) (h ∷ hs) e = ap (λ (gs : List (Attr O)). h ∷ gs) (attrs-joined ks hs (same_rest (length ks) (length hs) e))

  pub kind_there : (ks : List (Option Kind)) (hs : List (Attr O)) (i : ℕ) → length ks ≡ length hs
      → option_flatten (slice_get ks i) ≡ kind_in (slice_get (joined ks hs) i)
  kind_there [] hs i e = refl
  kind_there (k ∷ ks) [] i e = absurd (omega (arith, e))
  kind_there (k ∷ ks) (h ∷ hs) zero e = refl
  kind_there (k ∷ ks) (h ∷ hs) (suc i) e = kind_there ks hs i (same_rest (length ks) (length hs) e)

  pub joined-set : (ks : List (Option Kind)) (hs : List (Attr O)) (i : ℕ) (h : Attr O)
      → joined ks (set hs i h) ≡ set (joined ks hs) i (record { kind = kind_in (slice_get (joined ks hs) i); attr = h })
  joined-set [] hs i h = refl
  joined-set (k ∷ ks) [] i h = refl
  joined-set (k ∷ ks) (g ∷ hs) zero h = refl
  joined-set (k ∷ ks) (g ∷ hs) (suc i) h = ap (λ (es : List (Entry O)). record { kind = k; attr = g } ∷ es) (joined-set ks hs i h)

  pub are_low-take : (n : ℕ) (hs : List (Attr O)) → are_low hs ≡ true → are_low (take n hs) ≡ true
  are_low-take zero hs e = refl
  are_low-take (suc n) [] e = refl
  are_low-take (suc n) (g ∷ hs) e =
      and_from (is_low g) (are_low (take n hs)) (first_true (is_low g) (are_low hs) e) (are_low-take n hs (second_true (is_low g) (are_low hs) e))

  pub are_low-drop : (n : ℕ) (hs : List (Attr O)) → are_low hs ≡ true → are_low (drop n hs) ≡ true
  are_low-drop zero hs e = e
  are_low-drop (suc n) [] e = refl
  are_low-drop (suc n) (g ∷ hs) e = are_low-drop n hs (second_true (is_low g) (are_low hs) e)

  pub are_low-set : (hs : List (Attr O)) (i : ℕ) (h : Attr O) → are_low hs ≡ true → is_low h ≡ true → are_low (set hs i h) ≡ true
  are_low-set [] i h e f = refl
  are_low-set (g ∷ hs) zero h e f = and_from (is_low h) (are_low hs) f (second_true (is_low g) (are_low hs) e)
  are_low-set (g ∷ hs) (suc i) h e f =
      and_from (is_low g) (are_low (set hs i h)) (first_true (is_low g) (are_low hs) e) (are_low-set hs i h (second_true (is_low g) (are_low hs) e) f)

  pub low_so : (hs gs : List (Attr O)) → hs ≡ gs → are_low gs ≡ true → are_low hs ≡ true
  low_so hs gs e f = ap (λ (xs : List (Attr O)). are_low xs) e ∙ f

  pub length-attrs : (es : List (Entry O)) → length (attrs es) ≡ length es
  length-attrs [] = refl
  length-attrs (e ∷ es) = ap suc (length-attrs es)

  pub attrs-snoc : (es : List (Entry O)) (e : Entry O) → attrs (es ++ e ∷ []) ≡ attrs es ++ e.attr ∷ []
  attrs-snoc [] e = refl
  attrs-snoc (d ∷ es) e = ap (λ (hs : List (Attr O)). d.attr ∷ hs) (attrs-snoc es e)

  pub attrs-set : (es : List (Entry O)) (i : ℕ) (e : Entry O) → attrs (set es i e) ≡ set (attrs es) i e.attr
  attrs-set [] i e = refl
  attrs-set (d ∷ es) zero e = refl
  attrs-set (d ∷ es) (suc i) e = ap (λ (hs : List (Attr O)). d.attr ∷ hs) (attrs-set es i e)

  pub attrs-take : (n : ℕ) (es : List (Entry O)) → attrs (take n es) ≡ take n (attrs es)
  attrs-take zero es = refl
  attrs-take (suc n) [] = refl
  attrs-take (suc n) (d ∷ es) = ap (λ (hs : List (Attr O)). d.attr ∷ hs) (attrs-take n es)

  pub attrs-drop : (n : ℕ) (es : List (Entry O)) → attrs (drop n es) ≡ drop n (attrs es)
  attrs-drop zero es = refl
  attrs-drop (suc n) [] = refl
  attrs-drop (suc n) (d ∷ es) = attrs-drop n es

  -- the attribute of the entry at a place
  pub attr_there : (es : List (Entry O)) (i : ℕ) (h : Attr O) → i < length es → h ≡ get_or (attrs es) i h → attr_in (slice_get es i) ≡ h
  attr_there [] i h lt e = absurd (omega (arith, lt))
  attr_there (d ∷ es) zero h lt e = sym e
  attr_there (d ∷ es) (suc i) h lt e = attr_there es i h (omega (arith, lt)) e

  pub low_at : (hs : List (Attr O)) (i : ℕ) (h : Attr O) → are_low hs ≡ true → i < length hs → h ≡ get_or hs i h → is_low h ≡ true
  low_at [] i h e lt f = absurd (omega (arith, lt))
  low_at (g ∷ hs) zero h e lt f = ap (λ (x : Attr O). is_low x) f ∙ first_true (is_low g) (are_low hs) e
  low_at (g ∷ hs) (suc i) h e lt f = low_at hs i h (second_true (is_low g) (are_low hs) e) (omega (arith, lt)) f

  pub one_there : (es : List (Entry O)) (i : ℕ) → i < length es → take 1 (drop i (attrs es)) ≡ attr_in (slice_get es i) ∷ []
  one_there [] i lt = absurd (omega (arith, lt))
  one_there (d ∷ es) zero lt = refl
  one_there (d ∷ es) (suc i) lt = one_there es i (omega (arith, lt))

  pub slot_in-attr : (o : Option (Entry O)) → slot_in o ≡ slot_of (attr_in o)
  slot_in-attr None = refl
  slot_in-attr (Some e) = refl

pub set_over : {X : Type 0} (xs : List X) (i : ℕ) (x : X) → length xs ≤ i → set xs i x ≡ xs
set_over [] i x le = refl
set_over (y ∷ xs) zero x le = absurd (omega (arith, le))
set_over (y ∷ xs) (suc i) x le = ap (λ (ys : List _). y ∷ ys) (set_over xs i x (omega (arith, le)))
