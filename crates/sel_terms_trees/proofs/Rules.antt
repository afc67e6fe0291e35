-- What a rule's wanted effect gives for the tree that its pattern covers.
use Rattle.std.proofs.Common.{◌≡◌, ◌⊎◌, inl, inr, ℕ, List, [], ◌∷◌, Option, Some, None, true, refl, sym, ap, subst, slice_get}
use Rattle.std.specs.Option.{option_map}
use Rattle.gg_base.specs.declared.size.Size.{Size}
use Rattle.gg_base.specs.declared.size.Size.TheVariants as sizes
use Rattle.tree_core.specs.declared.token.Tok.{Tok}
use Rattle.tree_core.specs.declared.token.Tok.TheVariants as tok
use Rattle.tree_core.specs.declared.token.Sort.{Sort}
use Rattle.tree_core.specs.declared.token.Sort.TheVariants as sort
use Rattle.tree_core.specs.declared.tree.Att.{Att}
use Rattle.tree_core.specs.declared.tree.Att.TheVariants as att
use Rattle.tree_core.specs.declared.tree.Leaf.{Leaf}
use Rattle.tree_core.specs.declared.program.Object.{Object}
use Rattle.tree_core.specs.Attributes.{attribute_of, is_of_kind}
use Rattle.tree_core.specs.Grammar.{kids, sort_of, fits}
use Rattle.tree_core.specs.Trees.{Forest, none, tree, sort_fits}
use Rattle.tree_meaning.specs.declared.value.Value.{Value}
use Rattle.tree_meaning.specs.declared.value.Value.TheVariants.{Number, ZeroDivisor, Wild}
use Rattle.tree_meaning.specs.declared.value.Meaning.{Meaning}
use Rattle.tree_meaning.specs.declared.value.Meaning.TheVariants.{Of, Local, Argument, Memory}
use Rattle.tree_meaning.specs.Values.{Sight, read, kid, at, token_means, meanings}
use Rattle.sel_terms_meaning.specs.md_reader.specs.declared.types.Kind.{Kind}
use Rattle.sel_terms_meaning.specs.md_reader.specs.declared.types.Kind.TheVariants as kind
use Rattle.sel_terms_meaning.specs.md_reader.specs.declared.types.Class.{Class}
use Rattle.sel_terms_meaning.specs.md_reader.specs.declared.types.Sym.{Sym}
use Rattle.sel_terms_meaning.specs.md_reader.specs.Patterns.{sort_of_kind, kind_at, Trees, onto, sorted_test}
use Rattle.term_core.specs.Shape.{Shape}
use Rattle.term_core.specs.Value.{State}
use Rattle.sel_terms_meaning.specs.sel_terms.specs.Effects.{EffectShape}
use Rattle.sel_terms_meaning.specs.sel_terms.specs.Parts.{PartShape, SubtreeShape, Worth, Home, At, Does}
use Rattle.sel_terms_meaning.specs.sel_terms.specs.Wanted.{first_part, whole}
use Rattle.sel_terms_meaning.specs.sel_terms.specs.Reading.{stack_from}
use Rattle.sel_terms_trees.specs.Senses.{Sense, OfNumber, OfPlace, IsPlace, IsSense, Sensed, StandsFor}
use Rattle.tree_meaning_tame.specs.Tame.{tree_means}
use Rattle.sel_terms_trees.specs.Senses as sense
use Rattle.tree_meaning_tame.specs.Tame.{IsTame, Tame, IsUndivided}
use Rattle.tree_meaning_tame.proofs.Calm.{KidsTame, kids_on, kid_tame}
use Rattle.sel_terms_trees.specs.Effects.{GivesBy, TrapsBy}
use Rattle.sel_terms_trees.proofs.Tokens.{IsWorth, IsZero, IsOf, IsSpot, IsZeroSpot, IsAt, StandsAt}
use Rattle.sel_terms_trees.proofs.Patterns.{numbered, pattern_law}

-- the effect of a part, by the kind of the class on the left
abbrev pub effect_by : Option Kind → SubtreeShape → EffectShape
effect_by k p = record { act = whole k p.part; divisors = p.divisors }

module _ (objects : List Object) (s : Sight) where
  -- a zero divisor comes first where this sort is wanted
  abbrev pub IsZeroAt : Sort → Meaning → Type 0
  IsZeroAt sort.Stmt g = ⊥
  IsZeroAt sort.Long g = read s g ≡ ZeroDivisor
  IsZeroAt sort.Byte g = read s g ≡ ZeroDivisor
  IsZeroAt sort.Word g = read s g ≡ ZeroDivisor
  IsZeroAt x g = g ≡ Of ZeroDivisor

  pub zero_there : (y x : Sort) (g : Meaning) → fits y x ≡ true → IsZeroAt y g → IsUndivided objects s x g → ⊥
  zero_there sort.Stmt sort.Stmt g e h u = h
  zero_there sort.Stmt sort.Long g e h u = h
  zero_there sort.Stmt sort.Byte g e h u = h
  zero_there sort.Stmt sort.Word g e h u = h
  zero_there sort.Stmt sort.PlaceB g e h u = h
  zero_there sort.Stmt sort.PlaceW g e h u = h
  zero_there sort.Stmt sort.PlaceL g e h u = h
  zero_there sort.Long sort.Long g e h u = u h
  zero_there sort.Byte sort.Byte g e h u = u h
  zero_there sort.Word sort.Word g e h u = u h
  zero_there sort.PlaceB sort.Byte g e h u = u (ap (read s) h)
  zero_there sort.PlaceB sort.PlaceB g e h u = u h
  zero_there sort.PlaceW sort.Word g e h u = u (ap (read s) h)
  zero_there sort.PlaceW sort.PlaceW g e h u = u h
  zero_there sort.PlaceL sort.Long g e h u = u (ap (read s) h)
  zero_there sort.PlaceL sort.PlaceL g e h u = u h
  zero_there _ _ g e h u = absurd (cc)

  pub sort_undivided : (y x : Sort) (g : Meaning) → fits y x ≡ true → IsUndivided objects s x g → IsUndivided objects s y g
  sort_undivided sort.Stmt sort.Stmt g e u = u
  sort_undivided sort.Stmt sort.Long g e u = tt
  sort_undivided sort.Stmt sort.Byte g e u = tt
  sort_undivided sort.Stmt sort.Word g e u = tt
  sort_undivided sort.Stmt sort.PlaceB g e u = tt
  sort_undivided sort.Stmt sort.PlaceW g e u = tt
  sort_undivided sort.Stmt sort.PlaceL g e u = tt
  sort_undivided sort.Long sort.Long g e u = u
  sort_undivided sort.Byte sort.Byte g e u = u
  sort_undivided sort.Word sort.Word g e u = u
  sort_undivided sort.PlaceB sort.Byte g e u = λ h. u (ap (read s) h)
  sort_undivided sort.PlaceB sort.PlaceB g e u = u
  sort_undivided sort.PlaceW sort.Word g e u = λ h. u (ap (read s) h)
  sort_undivided sort.PlaceW sort.PlaceW g e u = u
  sort_undivided sort.PlaceL sort.Long g e u = λ h. u (ap (read s) h)
  sort_undivided sort.PlaceL sort.PlaceL g e u = u
  sort_undivided _ _ g e u = absurd (cc)

  -- a kind of values, of a sort
  pub data IsValue : Kind → Sort → Type 0 where
    reg : IsValue kind.Reg sort.Long
    con : IsValue kind.Con sort.Long
    ea : IsValue kind.Ea sort.Long
    byte : IsValue (kind.Value sizes.Byte) sort.Byte
    word : IsValue (kind.Value sizes.Word) sort.Word
    long : IsValue (kind.Value sizes.Long) sort.Long

  module _ (all : List Sense) (m : State) where
    number_gives : {k : Kind} {y : Sort} → IsValue k y → (p : SubtreeShape) (n : ℕ) → IsWorth objects s all m p n → GivesBy objects s all (effect_by (Some k) p) (OfNumber n) m
    number_gives reg p n h = record { divides = h.divides; gives = h.worth; safe = h.safe; divisors = h.divisors }
    number_gives con p n h = record { divides = h.divides; gives = h.worth; safe = h.safe; divisors = h.divisors }
    number_gives ea p n h = record { divides = h.divides; gives = h.worth; safe = h.safe; divisors = h.divisors }
    number_gives byte p n h = record { divides = h.divides; gives = h.worth; safe = h.safe; divisors = h.divisors }
    number_gives word p n h = record { divides = h.divides; gives = h.worth; safe = h.safe; divisors = h.divisors }
    number_gives long p n h = record { divides = h.divides; gives = h.worth; safe = h.safe; divisors = h.divisors }

    number_traps : {k : Kind} {y : Sort} → IsValue k y → (p : SubtreeShape) → IsZero objects s all m p → TrapsBy objects s all (effect_by (Some k) p) m
    number_traps reg p h = record { divides = h.divides; safe = h.safe; divisors = h.divisors }
    number_traps con p h = record { divides = h.divides; safe = h.safe; divisors = h.divisors }
    number_traps ea p h = record { divides = h.divides; safe = h.safe; divisors = h.divisors }
    number_traps byte p h = record { divides = h.divides; safe = h.safe; divisors = h.divisors }
    number_traps word p h = record { divides = h.divides; safe = h.safe; divisors = h.divisors }
    number_traps long p h = record { divides = h.divides; safe = h.safe; divisors = h.divisors }

    number_at : {k : Kind} {y : Sort} → IsValue k y → (p : SubtreeShape) (g : Meaning) (v : Value) → read s g ≡ v → StandsAt objects s all m y p (Some g) → IsOf objects s all m p v
    number_at reg p g v e h = subst (IsOf objects s all m p) e h
    number_at con p g v e h = subst (IsOf objects s all m p) e h
    number_at ea p g v e h = subst (IsOf objects s all m p) e h
    number_at byte p g v e h = subst (IsOf objects s all m p) e h
    number_at word p g v e h = subst (IsOf objects s all m p) e h
    number_at long p g v e h = subst (IsOf objects s all m p) e h

    spot_gives : (z : Size) (part : PartShape) (ds : List Shape) (g : Meaning) → IsSpot objects s all m (record { part = part; divisors = ds }) g
        → GivesBy objects s all (effect_by (Some (kind.Place z)) (record { part = part; divisors = ds })) (OfPlace g) m
    spot_gives z (Worth t) ds g h = absurd h.place
    spot_gives z (Home y i) ds g h = record { divides = h.divides; gives = h.place; safe = tt; divisors = h.divisors }
    spot_gives z (At y a) ds g h = record { divides = h.divides; gives = h.place.0; safe = h.place.1; divisors = h.divisors }
    spot_gives z (Does a) ds g h = absurd h.place

    spot_traps : (z : Size) (part : PartShape) (ds : List Shape) → IsZeroSpot objects s all m (record { part = part; divisors = ds })
        → TrapsBy objects s all (effect_by (Some (kind.Place z)) (record { part = part; divisors = ds })) m
    spot_traps z (At y a) ds h = record { divides = h.divides; safe = h.ill.1; divisors = h.divisors }
    spot_traps z _ ds h = absurd h.ill

    place_at : (z : Size) (p : SubtreeShape) (g : Meaning) → StandsAt objects s all m (sort_of_kind (kind.Place z)) p (Some g) → IsAt objects s all m p g
    place_at sizes.Byte p g h = h.0
    place_at sizes.Word p g h = h.0
    place_at sizes.Long p g h = h.0

    place_gives : (z : Size) (p : SubtreeShape) (g : Meaning) → IsPlace z g → IsAt objects s all m p g → GivesBy objects s all (effect_by (Some (kind.Place z)) p) (OfPlace g) m
    place_gives z p (Of v) e h = absurd e
    place_gives z p (Local k) e h = spot_gives z p.part p.divisors (Local k) h
    place_gives z p (Argument k) e h = spot_gives z p.part p.divisors (Argument k) h
    place_gives z p (Memory y a) e h = spot_gives z p.part p.divisors (Memory y a) h

    place_traps : (z : Size) (p : SubtreeShape) (g : Meaning) → g ≡ Of ZeroDivisor → IsAt objects s all m p g → TrapsBy objects s all (effect_by (Some (kind.Place z)) p) m
    place_traps z p g e h = spot_traps z p.part p.divisors (subst (IsAt objects s all m p) e h)

  -- what a place pattern covers, without a state of terms
  abbrev PlaceFact : Size → Meaning → Type 0
  PlaceFact z g = IsPlace z g ⊎ (g ≡ Of ZeroDivisor)

  at_fact : (z : Size) (v : Value) → (v ≡ Wild → ⊥) → PlaceFact z (at z v)
  at_fact z (Number n) h = inl refl
  at_fact z ZeroDivisor h = inr refl
  at_fact z Wild h = absurd (h refl)

  slot_fact : (t : Tok) (a : Att) (v w : Value) → (t ≡ tok.Loc) ⊎ (t ≡ tok.Arg) → is_of_kind (attribute_of t) a ≡ true → PlaceFact sizes.Long (token_means objects s t a v w)
  slot_fact t a v w (inl e) f = subst (λ (u : Tok). PlaceFact sizes.Long (token_means objects s u a v w)) (sym e) (by a (subst (λ (u : Tok). is_of_kind (attribute_of u) a ≡ true) e f))
    where
      by : (a : Att) → is_of_kind (attribute_of tok.Loc) a ≡ true → PlaceFact sizes.Long (token_means objects s tok.Loc a v w)
      by att.Nothing f = absurd (cc)
      by (att.Number n) f = absurd (cc)
      by (att.Object o k) f = absurd (cc)
      by (att.Slot n) f = inl refl
      by (att.Branch r l) f = absurd (cc)
      by (att.Label l) f = absurd (cc)
      by (att.Callee g n) f = absurd (cc)
  slot_fact t a v w (inr e) f = subst (λ (u : Tok). PlaceFact sizes.Long (token_means objects s u a v w)) (sym e) (by a (subst (λ (u : Tok). is_of_kind (attribute_of u) a ≡ true) e f))
    where
      by : (a : Att) → is_of_kind (attribute_of tok.Arg) a ≡ true → PlaceFact sizes.Long (token_means objects s tok.Arg a v w)
      by att.Nothing f = absurd (cc)
      by (att.Number n) f = absurd (cc)
      by (att.Object o k) f = absurd (cc)
      by (att.Slot n) f = inl refl
      by (att.Branch r l) f = absurd (cc)
      by (att.Label l) f = absurd (cc)
      by (att.Callee g n) f = absurd (cc)

  pub kids_tame : (classes : List Class) {xs : List Sort} {pattern : Trees (sorted_test classes) xs} {f : Forest} {us : List Sense} → Sensed objects s classes xs pattern f us
      → Tame objects s xs f → KidsTame objects s xs (meanings objects s f) 0
  kids_tame classes sense.nothing h = tt
  kids_tame classes (sense.token {x = x} {xs = xs} {f = f} {g = g} l passes below beside fit p q) h =
      (kid_tame objects s x (tree_means objects s l f) h.0, kids_on objects s xs (tree_means objects s l f) (meanings objects s g) 0 (kids_tame classes q h.2))
  kids_tame classes (sense.class {x = x} {xs = xs} {f = f} {g = g} {l = l} c v passes below beside is q) h =
      (kid_tame objects s x (tree_means objects s l f) h.0, kids_on objects s xs (tree_means objects s l f) (meanings objects s g) 0 (kids_tame classes q h.2))

  token_fact : (z : Size) (t : Tok) (a : Att) (gs : List Meaning) → sort_fits (sort_of t) (sort_of_kind (kind.Place z)) ≡ true → is_of_kind (attribute_of t) a ≡ true → KidsTame objects s (kids t) gs 0
      → PlaceFact z (token_means objects s t a (kid s (slice_get gs 0)) (kid s (slice_get gs 1)))
  token_fact sizes.Byte tok.IndirB a gs e f h = at_fact sizes.Byte (kid s (slice_get gs 0)) h.0
  token_fact sizes.Word tok.IndirW a gs e f h = at_fact sizes.Word (kid s (slice_get gs 0)) h.0
  token_fact sizes.Long tok.Loc a gs e f h = slot_fact tok.Loc a (kid s (slice_get gs 0)) (kid s (slice_get gs 1)) (inl refl) f
  token_fact sizes.Long tok.Arg a gs e f h = slot_fact tok.Arg a (kid s (slice_get gs 0)) (kid s (slice_get gs 1)) (inr refl) f
  token_fact sizes.Long tok.IndirL a gs e f h = at_fact sizes.Long (kid s (slice_get gs 0)) h.0
  token_fact _ _ a gs e f h = absurd (cc)

  class_fact : (z : Size) (k : Option Kind) (g : Meaning) (v : Sense) → sort_fits (option_map sort_of_kind k) (sort_of_kind (kind.Place z)) ≡ true → IsSense objects s k g v → PlaceFact z g
  class_fact z None g v e h = absurd h
  class_fact sizes.Byte (Some kind.Reg) g v e h = absurd (cc)
  class_fact sizes.Byte (Some kind.Con) g v e h = absurd (cc)
  class_fact sizes.Byte (Some kind.Ea) g v e h = absurd (cc)
  class_fact sizes.Byte (Some kind.Nothing) g v e h = absurd (cc)
  class_fact sizes.Byte (Some (kind.Value sizes.Byte)) g v e h = absurd (cc)
  class_fact sizes.Byte (Some (kind.Value sizes.Word)) g v e h = absurd (cc)
  class_fact sizes.Byte (Some (kind.Value sizes.Long)) g v e h = absurd (cc)
  class_fact sizes.Byte (Some (kind.Place sizes.Byte)) g v e h = inl h.1
  class_fact sizes.Byte (Some (kind.Place sizes.Word)) g v e h = absurd (cc)
  class_fact sizes.Byte (Some (kind.Place sizes.Long)) g v e h = absurd (cc)
  class_fact sizes.Word (Some kind.Reg) g v e h = absurd (cc)
  class_fact sizes.Word (Some kind.Con) g v e h = absurd (cc)
  class_fact sizes.Word (Some kind.Ea) g v e h = absurd (cc)
  class_fact sizes.Word (Some kind.Nothing) g v e h = absurd (cc)
  class_fact sizes.Word (Some (kind.Value sizes.Byte)) g v e h = absurd (cc)
  class_fact sizes.Word (Some (kind.Value sizes.Word)) g v e h = absurd (cc)
  class_fact sizes.Word (Some (kind.Value sizes.Long)) g v e h = absurd (cc)
  class_fact sizes.Word (Some (kind.Place sizes.Byte)) g v e h = absurd (cc)
  class_fact sizes.Word (Some (kind.Place sizes.Word)) g v e h = inl h.1
  class_fact sizes.Word (Some (kind.Place sizes.Long)) g v e h = absurd (cc)
  class_fact sizes.Long (Some kind.Reg) g v e h = absurd (cc)
  class_fact sizes.Long (Some kind.Con) g v e h = absurd (cc)
  class_fact sizes.Long (Some kind.Ea) g v e h = absurd (cc)
  class_fact sizes.Long (Some kind.Nothing) g v e h = absurd (cc)
  class_fact sizes.Long (Some (kind.Value sizes.Byte)) g v e h = absurd (cc)
  class_fact sizes.Long (Some (kind.Value sizes.Word)) g v e h = absurd (cc)
  class_fact sizes.Long (Some (kind.Value sizes.Long)) g v e h = absurd (cc)
  class_fact sizes.Long (Some (kind.Place sizes.Byte)) g v e h = absurd (cc)
  class_fact sizes.Long (Some (kind.Place sizes.Word)) g v e h = absurd (cc)
  class_fact sizes.Long (Some (kind.Place sizes.Long)) g v e h = inl h.1

  place_fact : (classes : List Class) (z : Size) {y : Sort} {pattern : Trees (sorted_test classes) (y ∷ [])} {l : Leaf} {f : Forest} {us : List Sense} → y ≡ sort_of_kind (kind.Place z)
      → Sensed objects s classes (y ∷ []) pattern (tree l f none) us → Tame objects s (kids l.tok) f → PlaceFact z (tree_means objects s l f)
  place_fact classes z e (sense.token {f = f} l passes below beside fit p q) h =
      token_fact z l.tok l.att (meanings objects s f) (subst (λ (x : Sort). sort_fits (sort_of l.tok) x ≡ true) e passes) fit (kids_tame classes p h)
  place_fact classes z e (sense.class {f = f} {l = l} c v passes below beside is q) h =
      class_fact z (kind_at classes c) (tree_means objects s l f) v (subst (λ (x : Sort). sort_fits (option_map sort_of_kind (kind_at classes c)) x ≡ true) e passes) is

  -- a rule for a class of this kind gives what the class stands for, or divides by zero
  pub record Comes (us : List Sense) (k : Kind) (p : SubtreeShape) (g : Meaning) : Type 0 where
    pub sense : Sense
    pub is : IsSense objects s (Some k) g sense
    pub gives : (m : State) → StandsFor objects s us m → GivesBy objects s us (effect_by (Some k) p) sense m

  pub record Fails (us : List Sense) (k : Kind) (p : SubtreeShape) (g : Meaning) : Type 0 where
    pub zero : IsZeroAt (sort_of_kind k) g
    pub traps : (m : State) → StandsFor objects s us m → TrapsBy objects s us (effect_by (Some k) p) m

  module _ (us : List Sense) (p : SubtreeShape) (g : Meaning) where
    value_comes : {k : Kind} {y : Sort} → IsValue k y → ((m : State) → StandsFor objects s us m → StandsAt objects s us m y p (Some g)) → (n : ℕ) → read s g ≡ Number n
        → IsSense objects s (Some k) g (OfNumber n) → Comes us k p g
    value_comes is law n e h = record { sense = OfNumber n; is = h; gives = λ m st. number_gives us m is p n (number_at us m is p g (Number n) e (law m st)) }

    value_fails : {k : Kind} {y : Sort} → IsValue k y → ((m : State) → StandsFor objects s us m → StandsAt objects s us m y p (Some g)) → read s g ≡ ZeroDivisor → IsZeroAt (sort_of_kind k) g
        → Fails us k p g
    value_fails is law e h = record { zero = h; traps = λ m st. number_traps us m is p (number_at us m is p g ZeroDivisor e (law m st)) }

    value_sense : {k : Kind} {y : Sort} → IsValue k y → (n : ℕ) → read s g ≡ Number n → IsSense objects s (Some k) g (OfNumber n)
    value_sense reg n e = record { number = n; is = refl; reads = e }
    value_sense con n e = record { number = n; is = refl; reads = e }
    value_sense ea n e = record { number = n; is = refl; reads = e }
    value_sense byte n e = record { number = n; is = refl; reads = e }
    value_sense word n e = record { number = n; is = refl; reads = e }
    value_sense long n e = record { number = n; is = refl; reads = e }

    value_zero : {k : Kind} {y : Sort} → IsValue k y → read s g ≡ ZeroDivisor → IsZeroAt (sort_of_kind k) g
    value_zero reg e = e
    value_zero con e = e
    value_zero ea e = e
    value_zero byte e = e
    value_zero word e = e
    value_zero long e = e

    value_tame : {k : Kind} {y : Sort} → IsValue k y → IsTame objects s (sort_of_kind k) g → read s g ≡ Wild → ⊥
    value_tame reg h = h
    value_tame con h = h
    value_tame ea h = h
    value_tame byte h = h
    value_tame word h = h
    value_tame long h = h

    value_decided : {k : Kind} {y : Sort} → IsValue k y → IsTame objects s (sort_of_kind k) g → ((m : State) → StandsFor objects s us m → StandsAt objects s us m y p (Some g))
        → Comes us k p g ⊎ Fails us k p g
    value_decided {k = k} is tame law = by (read s g) refl
      where
        by : (v : Value) → read s g ≡ v → Comes us k p g ⊎ Fails us k p g
        by (Number n) e = inl (value_comes is law n e (value_sense is n e))
        by ZeroDivisor e = inr (value_fails is law e (value_zero is e))
        by Wild e = absurd (value_tame is tame e)

    zero_place : (z : Size) → g ≡ Of ZeroDivisor → IsZeroAt (sort_of_kind (kind.Place z)) g
    zero_place sizes.Byte e = e
    zero_place sizes.Word e = e
    zero_place sizes.Long e = e

    place_decided : (z : Size) → PlaceFact z g → ((m : State) → StandsFor objects s us m → StandsAt objects s us m (sort_of_kind (kind.Place z)) p (Some g))
        → Comes us (kind.Place z) p g ⊎ Fails us (kind.Place z) p g
    place_decided z (inl e) law = inl (record { sense = OfPlace g; is = (refl, e); gives = λ m st. place_gives us m z p g e (place_at us m z p g (law m st)) })
    place_decided z (inr e) law = inr (record { zero = zero_place z e; traps = λ m st. place_traps us m z p g e (place_at us m z p g (law m st)) })

  -- what a rule's symbols stand for is worth the tree
  pub part_law : (classes : List Class) (right : List Sym) {x : Sort} {pattern : Trees (sorted_test classes) (x ∷ [])} {l : Leaf} {f : Forest} {us : List Sense}
      → Sensed objects s classes (x ∷ []) pattern (tree l f none) us → onto pattern [] ≡ right → Tame objects s (x ∷ []) (tree l f none) →
      (m : State) → StandsFor objects s us m → StandsAt objects s us m x (first_part (stack_from classes 1 right)) (Some (tree_means objects s l f))
  part_law classes right {x = x} {l = l} {f = f} {us = us} sensed e tame m st =
      let h = pattern_law objects s us m st classes sensed 1 [] (numbered us) tame in
      subst (λ (w : List Sym). StandsAt objects s us m x (first_part (stack_from classes 1 w)) (Some (tree_means objects s l f))) e h.0

  -- a rule whose class isn't of kind Nothing
  pub decided : (classes : List Class) (k : Kind) (right : List Sym) {y : Sort} {pattern : Trees (sorted_test classes) (y ∷ [])} {l : Leaf} {f : Forest} {us : List Sense} → y ≡ sort_of_kind k
      → Sensed objects s classes (y ∷ []) pattern (tree l f none) us → onto pattern [] ≡ right → Tame objects s (y ∷ []) (tree l f none) →
      (k ≡ kind.Nothing → ⊥) → Comes us k (first_part (stack_from classes 1 right)) (tree_means objects s l f) ⊎ Fails us k (first_part (stack_from classes 1 right)) (tree_means objects s l f)
  decided classes kind.Reg right {l = l} {f = f} {us = us} q sensed e tame some =
      value_decided us (first_part (stack_from classes 1 right)) (tree_means objects s l f) reg (subst (λ (x : Sort). IsTame objects s x (tree_means objects s l f)) q tame.0)
      (λ m st. subst (λ (x : Sort). StandsAt objects s us m x (first_part (stack_from classes 1 right)) (Some (tree_means objects s l f))) q (part_law classes right sensed e tame m st))
  decided classes kind.Con right {l = l} {f = f} {us = us} q sensed e tame some =
      value_decided us (first_part (stack_from classes 1 right)) (tree_means objects s l f) con (subst (λ (x : Sort). IsTame objects s x (tree_means objects s l f)) q tame.0)
      (λ m st. subst (λ (x : Sort). StandsAt objects s us m x (first_part (stack_from classes 1 right)) (Some (tree_means objects s l f))) q (part_law classes right sensed e tame m st))
  decided classes kind.Ea right {l = l} {f = f} {us = us} q sensed e tame some =
      value_decided us (first_part (stack_from classes 1 right)) (tree_means objects s l f) ea (subst (λ (x : Sort). IsTame objects s x (tree_means objects s l f)) q tame.0)
      (λ m st. subst (λ (x : Sort). StandsAt objects s us m x (first_part (stack_from classes 1 right)) (Some (tree_means objects s l f))) q (part_law classes right sensed e tame m st))
  decided classes (kind.Value sizes.Byte) right {l = l} {f = f} {us = us} q sensed e tame some =
      value_decided us (first_part (stack_from classes 1 right)) (tree_means objects s l f) byte (subst (λ (x : Sort). IsTame objects s x (tree_means objects s l f)) q tame.0)
      (λ m st. subst (λ (x : Sort). StandsAt objects s us m x (first_part (stack_from classes 1 right)) (Some (tree_means objects s l f))) q (part_law classes right sensed e tame m st))
  decided classes (kind.Value sizes.Word) right {l = l} {f = f} {us = us} q sensed e tame some =
      value_decided us (first_part (stack_from classes 1 right)) (tree_means objects s l f) word (subst (λ (x : Sort). IsTame objects s x (tree_means objects s l f)) q tame.0)
      (λ m st. subst (λ (x : Sort). StandsAt objects s us m x (first_part (stack_from classes 1 right)) (Some (tree_means objects s l f))) q (part_law classes right sensed e tame m st))
  decided classes (kind.Value sizes.Long) right {l = l} {f = f} {us = us} q sensed e tame some =
      value_decided us (first_part (stack_from classes 1 right)) (tree_means objects s l f) long (subst (λ (x : Sort). IsTame objects s x (tree_means objects s l f)) q tame.0)
      (λ m st. subst (λ (x : Sort). StandsAt objects s us m x (first_part (stack_from classes 1 right)) (Some (tree_means objects s l f))) q (part_law classes right sensed e tame m st))
  decided classes (kind.Place sizes.Byte) right {l = l} {f = f} {us = us} q sensed e tame some =
      place_decided us (first_part (stack_from classes 1 right)) (tree_means objects s l f) sizes.Byte (place_fact classes sizes.Byte q sensed tame.1)
      (λ m st. subst (λ (x : Sort). StandsAt objects s us m x (first_part (stack_from classes 1 right)) (Some (tree_means objects s l f))) q (part_law classes right sensed e tame m st))
  decided classes (kind.Place sizes.Word) right {l = l} {f = f} {us = us} q sensed e tame some =
      place_decided us (first_part (stack_from classes 1 right)) (tree_means objects s l f) sizes.Word (place_fact classes sizes.Word q sensed tame.1)
      (λ m st. subst (λ (x : Sort). StandsAt objects s us m x (first_part (stack_from classes 1 right)) (Some (tree_means objects s l f))) q (part_law classes right sensed e tame m st))
  decided classes (kind.Place sizes.Long) right {l = l} {f = f} {us = us} q sensed e tame some =
      place_decided us (first_part (stack_from classes 1 right)) (tree_means objects s l f) sizes.Long (place_fact classes sizes.Long q sensed tame.1)
      (λ m st. subst (λ (x : Sort). StandsAt objects s us m x (first_part (stack_from classes 1 right)) (Some (tree_means objects s l f))) q (part_law classes right sensed e tame m st))
  decided classes kind.Nothing right q sensed e tame some = absurd (some refl)
