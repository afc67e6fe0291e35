-- What a symbol of a pattern makes of its kids is worth what its token means over theirs.
use Rattle.std.proofs.Common.{◌≡◌, ◌⊎◌, inl, inr, ℕ, suc, ◌-◌, ◌%◌, ◌^◌, ◌<◌, ◌==◌, List, [], ◌∷◌, ◌++◌, Option, Some, None, Bool, true, false, cond, refl, sym, ap, ◌∙◌, subst, slice_get}
use Rattle.std.specs.Prelude.{◌&&◌, ◌||◌, not}
use Rattle.std.specs.Option.{unwrap_or}
use Rattle.gg_base.specs.declared.size.Size.{Size}
use Rattle.gg_base.specs.declared.size.Size.TheVariants as sizes
use Rattle.gg_base.specs.Arithmetic.{div32, mul32, sub32, and32, neg32, ash32}
use Rattle.tree_core.specs.declared.token.Tok.{Tok}
use Rattle.tree_core.specs.declared.token.Tok.TheVariants as tok
use Rattle.tree_core.specs.declared.token.Sort.{Sort}
use Rattle.tree_core.specs.declared.token.Sort.TheVariants as sort
use Rattle.tree_core.specs.declared.tree.Att.{Att}
use Rattle.tree_core.specs.declared.tree.Att.TheVariants as att
use Rattle.tree_core.specs.declared.tree.Leaf.{Leaf}
use Rattle.tree_core.specs.declared.program.Object.{Object}
use Rattle.tree_core.specs.Grammar.{kids, sort_of, fits}
use Rattle.tree_core.specs.Attributes.{attribute_of, is_of_kind}
use Rattle.tree_core.specs.Trees.{sort_fits}
use Rattle.gg_base.specs.LittleEndian.{number_in}
use Rattle.gg_base.proofs.Facts.{and_false}
use Rattle.tree_core.specs.Area.{is_inside, fetched}
use Rattle.tree_meaning.specs.declared.value.Value.{Value}
use Rattle.tree_meaning.specs.declared.value.Value.TheVariants.{Number, ZeroDivisor, Wild}
use Rattle.tree_meaning.specs.declared.value.Meaning.{Meaning}
use Rattle.tree_meaning.specs.declared.value.Meaning.TheVariants.{Of, Local, Argument, Memory}
use Rattle.tree_meaning.specs.Operators.{operated, quotient, remainder}
use Rattle.tree_meaning.specs.Values.{Sight, there, read, kid, bind, at, address_of, token_means}
use Rattle.tree_meaning.proofs.Values.{there_is, there_pure}
use Rattle.term_core.specs.declared.operator.UnaryOp.{UnaryOp}
use Rattle.term_core.specs.declared.operator.UnaryOp.TheVariants as unary_op
use Rattle.term_core.specs.declared.operator.BinaryOp.{BinaryOp}
use Rattle.term_core.specs.declared.operator.BinaryOp.TheVariants as binary_op
use Rattle.term_core.specs.Operators.{unary, binary}
use Rattle.term_core.specs.Shape.{Shape, Constant, Symbol, Unary, Binary}
use Rattle.term_core.specs.Value.{State, value}
use Rattle.term_core.proofs.Values
use Rattle.sel_terms_meaning.specs.sel_terms.specs.declared.role.OneRole.TheVariants as one_role
use Rattle.sel_terms_meaning.specs.sel_terms.specs.declared.role.TwoRole.{TwoRole}
use Rattle.sel_terms_meaning.specs.sel_terms.specs.declared.role.TwoRole.TheVariants as two_role
use Rattle.sel_terms_meaning.specs.sel_terms.specs.Parts.{PartShape, Worth, Home, At, Does, SubtreeShape, role_of_token, value_of}
use Rattle.sel_terms_meaning.specs.sel_terms.specs.Wanted.{one, two, first_part}
use Rattle.sel_terms_meaning.specs.sel_terms.specs.Reading.{below, step}
use Rattle.sel_terms_trees.specs.Senses.{Sense, OfLeaf, IsPlace, sense_at, means, means_at, StandsFor}
use Rattle.tree_meaning_tame.specs.Tame.{IsTame}
use Rattle.tree_meaning_tame.proofs.Sorts.{sort_tame}
use Rattle.sel_terms_trees.specs.Effects.{IsKnown}
use Rattle.sel_terms_meaning.specs.term_core_accesses.specs.Accesses.{divides_well, Safe}
use Rattle.sel_terms_meaning.specs.Meaning.{AllSafe, divides_by_zero}
use Rattle.sel_terms_trees.proofs.Worths.{ill_left, ill_right, none_joined, some_first, some_second, safe_joined, weak, all_weak, div_none, div_some, left_shift, right_shift}
use mathlib.Core.Bool.{or-false}

module _ (objects : List Object) (s : Sight) (all : List Sense) (m : State) where
  -- a part has the number; nothing divides by zero, and all accesses lie in the area
  pub record IsWorth (p : SubtreeShape) (n : ℕ) : Type 0 where
    pub divides : divides_by_zero m p.divisors ≡ false
    pub worth : value m (value_of p.part) ≡ n
    pub safe : Safe true (IsKnown objects s all) s.area m (value_of p.part)
    pub divisors : AllSafe true (IsKnown objects s all) s.area m p.divisors

  -- a part divides by zero
  pub record IsZero (p : SubtreeShape) : Type 0 where
    pub divides : divides_by_zero m p.divisors ≡ true
    pub ill : divides_well m (value_of p.part) ≡ false
    pub safe : Safe false (IsKnown objects s all) s.area m (value_of p.part)
    pub divisors : AllSafe false (IsKnown objects s all) s.area m p.divisors

  abbrev pub IsOf : SubtreeShape → Value → Type 0
  IsOf p (Number n) = IsWorth p n
  IsOf p ZeroDivisor = IsZero p
  IsOf p Wild = ⊥

  -- a part is the place, and its address lies where it may
  abbrev pub PartIs : PartShape → Meaning → Type 0
  PartIs (Worth t) g = ⊥
  PartIs (Home z i) g = (means_at objects s all i ≡ g) × IsPlace z g
  PartIs (At z a) g = (g ≡ Memory z (value m a)) × Safe true (IsKnown objects s all) s.area m a
  PartIs (Does a) g = ⊥

  pub record IsSpot (p : SubtreeShape) (g : Meaning) : Type 0 where
    pub divides : divides_by_zero m p.divisors ≡ false
    pub place : PartIs p.part g
    pub divisors : AllSafe true (IsKnown objects s all) s.area m p.divisors

  -- the address of a part divides by zero
  abbrev pub PartIll : PartShape → Type 0
  PartIll (Worth t) = ⊥
  PartIll (Home z i) = ⊥
  PartIll (At z a) = (divides_well m a ≡ false) × Safe false (IsKnown objects s all) s.area m a
  PartIll (Does a) = ⊥

  pub record IsZeroSpot (p : SubtreeShape) : Type 0 where
    pub divides : divides_by_zero m p.divisors ≡ true
    pub ill : PartIll p.part
    pub divisors : AllSafe false (IsKnown objects s all) s.area m p.divisors

  abbrev pub HasSize : Size → Meaning → Type 0
  HasSize z (Of v) = Unit {0}
  HasSize z g = IsPlace z g

  abbrev pub IsAt : SubtreeShape → Meaning → Type 0
  IsAt p (Of (Number n)) = ⊥
  IsAt p (Of ZeroDivisor) = IsZeroSpot p
  IsAt p (Of Wild) = ⊥
  IsAt p g = IsSpot p g

  -- the same of what may not be there
  abbrev pub IsAtSome : Size → SubtreeShape → Option Meaning → Type 0
  IsAtSome z p None = ⊥
  IsAtSome z p (Some g) = IsAt p g × HasSize z g

  abbrev pub StandsAt : Sort → SubtreeShape → Option Meaning → Type 0
  StandsAt sort.Stmt p o = Unit {0}
  StandsAt sort.Long p o = IsOf p (kid s o)
  StandsAt sort.Byte p o = IsOf p (kid s o)
  StandsAt sort.Word p o = IsOf p (kid s o)
  StandsAt sort.PlaceB p o = IsAtSome sizes.Byte p o
  StandsAt sort.PlaceW p o = IsAtSome sizes.Word p o
  StandsAt sort.PlaceL p o = IsAtSome sizes.Long p o

  -- the top of the stack of parts stands for the meanings from number k on, and below lies the rest
  abbrev pub Each : List Sort → List SubtreeShape → List Meaning → ℕ → List SubtreeShape → Type 0
  Each [] st gs k rest = st ≡ rest
  Each (x ∷ xs) st gs k rest = StandsAt x (first_part st) (slice_get gs k) × Each xs (below st) gs (suc k) rest

  pub each_on : (xs : List Sort) (st : List SubtreeShape) (g : Meaning) (gs : List Meaning) (k : ℕ) (rest : List SubtreeShape) → Each xs st gs k rest → Each xs st (g ∷ gs) (suc k) rest
  each_on [] st g gs k rest e = e
  each_on (x ∷ xs) st g gs k rest e = (e.0, each_on xs (below st) g gs (suc k) rest e.1)

  memory_same : (z y : Size) (a b : ℕ) → Memory z a ≡ Memory y b → (z ≡ y) × (a ≡ b)
  memory_same z y a b e = (cc, cc)

  inside : (z : Size) (a n : ℕ) → fetched z s.area a ≡ Some n → is_inside z s.area a ≡ true
  inside z a n = by (is_inside z s.area a)
    where
      by : (b : Bool) → cond b (Some (number_in z s.area (a - 65536))) None ≡ Some n → b ≡ true
      by true e = refl
      by false e = cc

  true_false : (b : Bool) → b ≡ false → b ≡ true → ⊥
  true_false b e f = cc

  local_no_memory : (k : ℕ) (z : Size) (a : ℕ) → Local k ≡ Memory z a → ⊥
  local_no_memory k z a e = cc

  argument_no_memory : (k : ℕ) (z : Size) (a : ℕ) → Argument k ≡ Memory z a → ⊥
  argument_no_memory k z a e = cc

  module _ (stands : StandsFor objects s all m) where
    -- a place that is read
    zero_read : (part : PartShape) (ds : List Shape) → IsZeroSpot (record { part = part; divisors = ds }) → IsZero (record { part = part; divisors = ds })
    zero_read (At z a) ds h = record { divides = h.divides; ill = h.ill.0; safe = (h.ill.1, λ e. absurd (true_false (divides_well m a) h.ill.0 e)); divisors = h.divisors }
    zero_read _ ds h = absurd h.ill

    -- a place that isn't memory is a symbol's own
    home_read : (part : PartShape) (ds : List Shape) (g : Meaning) (n : ℕ) → IsSpot (record { part = part; divisors = ds }) g → ((z : Size) (a : ℕ) → g ≡ Memory z a → ⊥) → read s g ≡ Number n
        → IsWorth (record { part = part; divisors = ds }) n
    home_read (Worth t) ds g n h away e = absurd h.place
    home_read (Home z i) ds g n h away e = record { divides = h.divides; worth = stands.symbols i n (ap (read s) h.place.0 ∙ e); safe = (n, ap (read s) h.place.0 ∙ e); divisors = h.divisors }
    home_read (At z a) ds g n h away e = absurd (away z (value m a) h.place.0)
    home_read (Does a) ds g n h away e = absurd h.place

    memory_read : (part : PartShape) (ds : List Shape) (y : Size) (b n : ℕ) → IsSpot (record { part = part; divisors = ds }) (Memory y b) → fetched y s.area b ≡ Some n
        → IsWorth (record { part = part; divisors = ds }) n
    memory_read (Worth t) ds y b n h e = absurd h.place
    memory_read (Home z i) ds y b n h e =
        record { divides = h.divides; worth = stands.symbols i n (ap (read s) h.place.0 ∙ ap there e); safe = (n, ap (read s) h.place.0 ∙ ap there e); divisors = h.divisors }
    memory_read (At z a) ds y b n h e =
        let same = memory_same y z b (value m a) h.place.0 in
        let f : fetched z s.area (value m a) ≡ Some n = ap (λ (i : ℕ). fetched z s.area i) (sym same.1) ∙ ap (λ (i : Size). fetched i s.area b) (sym same.0) ∙ e in
        record { divides = h.divides; worth = stands.memory z (value m a) n f; safe = (h.place.1, λ d. inside z (value m a) n f); divisors = h.divisors }
    memory_read (Does a) ds y b n h e = absurd h.place

    pub place_read : (p : SubtreeShape) (g : Meaning) → IsAt p g → (v : Value) → read s g ≡ v → (v ≡ Wild → ⊥) → IsOf p v
    place_read p (Of (Number k)) h v e tame = absurd h
    place_read p (Of Wild) h v e tame = absurd h
    place_read p (Of ZeroDivisor) h (Number n) e tame = absurd (cc)
    place_read p (Of ZeroDivisor) h ZeroDivisor e tame = zero_read p.part p.divisors h
    place_read p (Local k) h (Number n) e tame = home_read p.part p.divisors (Local k) n h (λ z a. local_no_memory k z a) e
    place_read p (Local k) h ZeroDivisor e tame = absurd (there_pure (s.locals k) e)
    place_read p (Argument k) h (Number n) e tame = home_read p.part p.divisors (Argument k) n h (λ z a. argument_no_memory k z a) e
    place_read p (Argument k) h ZeroDivisor e tame = absurd (there_pure (slice_get s.arguments (k - 1)) e)
    place_read p (Memory z a) h (Number n) e tame = memory_read p.part p.divisors z a n h (there_is (fetched z s.area a) n e)
    place_read p (Memory z a) h ZeroDivisor e tame = absurd (there_pure (fetched z s.area a) e)
    place_read p _ h _ e tame = absurd (tame refl)

    -- one kid
    one_law : (op : UnaryOp) (p : SubtreeShape) (v : Value) → IsOf p v → IsOf (one (one_role.Operator op) p) (bind v (λ x. Number (unary op x)))
    one_law op p (Number n) h = record { divides = h.divides; worth = ap (unary op) h.worth; safe = h.safe; divisors = h.divisors }
    one_law op p ZeroDivisor h = record { divides = h.divides; ill = h.ill; safe = h.safe; divisors = h.divisors }
    one_law op p Wild h = absurd h

    memory_law : (z : Size) (p : SubtreeShape) (v : Value) → IsOf p v → IsAtSome z (one (one_role.Memory z) p) (Some (at z v))
    memory_law z p (Number n) h = (record { divides = h.divides; place = (ap (Memory z) (sym h.worth), h.safe); divisors = h.divisors }, refl)
    memory_law z p ZeroDivisor h = (record { divides = h.divides; ill = (h.ill, h.safe); divisors = h.divisors }, tt)
    memory_law z p Wild h = absurd h

    -- two kids
    abbrev is_worth : TwoRole → Bool
    is_worth two_role.Assign = false
    is_worth two_role.Branch = false
    is_worth r = true

    module _ (i : ℕ) (p q : SubtreeShape) where
      abbrev Zero : Type 0
      Zero = ((divides_well m (value_of p.part) ≡ false) × (divides_by_zero m p.divisors ≡ true)) ⊎ ((divides_well m (value_of q.part) ≡ false) × (divides_by_zero m q.divisors ≡ true))

      abbrev a : Shape
      a = value_of p.part

      abbrev b : Shape
      b = value_of q.part

      some_zero : (ds : List Shape) → Zero → divides_by_zero m ((p.divisors ++ q.divisors) ++ ds) ≡ true
      some_zero ds (inl h) = some_first m (p.divisors ++ q.divisors) ds (some_first m p.divisors q.divisors h.1)
      some_zero ds (inr h) = some_first m (p.divisors ++ q.divisors) ds (some_second m p.divisors q.divisors h.1)

      ill_two : (op : BinaryOp) → Zero → divides_well m (Binary op a b) ≡ false
      ill_two op (inl h) = ill_left m op a b h.0
      ill_two op (inr h) = ill_right m op a b h.0

      ill_rest : Zero → divides_well m (Binary binary_op.Sub a (Binary binary_op.Mul (Binary binary_op.Div a b) b)) ≡ false
      ill_rest z = ill_right m binary_op.Sub a (Binary binary_op.Mul (Binary binary_op.Div a b) b) (ill_left m binary_op.Mul (Binary binary_op.Div a b) b (ill_two binary_op.Div z))

      ill_left_shift : Zero → divides_well m (Binary binary_op.Ash (Binary binary_op.And b (Constant 31)) a) ≡ false
      ill_left_shift (inl h) = ill_right m binary_op.Ash (Binary binary_op.And b (Constant 31)) a h.0
      ill_left_shift (inr h) = ill_left m binary_op.Ash (Binary binary_op.And b (Constant 31)) a (ill_left m binary_op.And b (Constant 31) h.0)

      ill_right_shift : Zero → divides_well m (Binary binary_op.Ash (Unary unary_op.Neg (Binary binary_op.And b (Constant 31))) a) ≡ false
      ill_right_shift (inl h) = ill_right m binary_op.Ash (Unary unary_op.Neg (Binary binary_op.And b (Constant 31))) a h.0
      ill_right_shift (inr h) = ill_left m binary_op.Ash (Unary unary_op.Neg (Binary binary_op.And b (Constant 31))) a (ill_left m binary_op.And b (Constant 31) h.0)

      two_zero : (r : TwoRole) → is_worth r ≡ true → Safe false (IsKnown objects s all) s.area m a → Safe false (IsKnown objects s all) s.area m b
          → AllSafe false (IsKnown objects s all) s.area m p.divisors → AllSafe false (IsKnown objects s all) s.area m q.divisors → Zero → IsZero (two i r p q)
      two_zero (two_role.Operator op) e sa sb sp sq z =
          record {
            divides = some_zero [] z;
            ill = ill_two op z;
            safe = (sa, sb);
            divisors = safe_joined m false (IsKnown objects s all) s.area (p.divisors ++ q.divisors) []
                (safe_joined m false (IsKnown objects s all) s.area p.divisors q.divisors sp sq) tt;
          }
      two_zero two_role.Quotient e sa sb sp sq z =
          record {
            divides = some_zero (b ∷ []) z;
            ill = ill_two binary_op.Div z;
            safe = (sa, sb);
            divisors = safe_joined m false (IsKnown objects s all) s.area (p.divisors ++ q.divisors)
                (b ∷ []) (safe_joined m false (IsKnown objects s all) s.area p.divisors q.divisors sp sq) (sb, tt);
          }
      two_zero two_role.Remainder e sa sb sp sq z =
          record {
            divides = some_zero (b ∷ []) z;
            ill = ill_rest z;
            safe = (sa, ((sa, sb), sb));
            divisors = safe_joined m false (IsKnown objects s all) s.area (p.divisors ++ q.divisors) (b ∷ [])
                (safe_joined m false (IsKnown objects s all) s.area p.divisors q.divisors sp sq) (sb, tt);
          }
      two_zero two_role.LeftShift e sa sb sp sq z =
          record {
            divides = some_zero [] z;
            ill = ill_left_shift z;
            safe = ((sb, tt), sa);
            divisors = safe_joined m false (IsKnown objects s all) s.area (p.divisors ++ q.divisors) []
                (safe_joined m false (IsKnown objects s all) s.area p.divisors q.divisors sp sq) tt;
          }
      two_zero two_role.RightShift e sa sb sp sq z =
          record {
            divides = some_zero [] z;
            ill = ill_right_shift z;
            safe = ((sb, tt), sa);
            divisors = safe_joined m false (IsKnown objects s all) s.area (p.divisors ++ q.divisors) []
                (safe_joined m false (IsKnown objects s all) s.area p.divisors q.divisors sp sq) tt;
          }
      two_zero two_role.Assign e sa sb sp sq z = absurd (cc)
      two_zero two_role.Branch e sa sb sp sq z = absurd (cc)

      two_law : (r : TwoRole) → is_worth r ≡ true → (op : ℕ → ℕ → Value) → ((x y : ℕ) → IsWorth p x → IsWorth q y → IsOf (two i r p q) (op x y)) → (v w : Value) → IsOf p v → IsOf q w
          → IsOf (two i r p q) (bind v (λ x. bind w (λ y. op x y)))
      two_law r e op num (Number x) (Number y) h k = num x y h k
      two_law r e op num (Number x) ZeroDivisor h k =
          two_zero r e (weak m (IsKnown objects s all) s.area a h.safe) k.safe (all_weak m (IsKnown objects s all) s.area p.divisors h.divisors) k.divisors (inr (k.ill, k.divides))
      two_law r e op num (Number x) Wild h k = absurd k
      two_law r e op num ZeroDivisor (Number y) h k =
          two_zero r e h.safe (weak m (IsKnown objects s all) s.area b k.safe) h.divisors (all_weak m (IsKnown objects s all) s.area q.divisors k.divisors) (inl (h.ill, h.divides))
      two_law r e op num ZeroDivisor ZeroDivisor h k = two_zero r e h.safe k.safe h.divisors k.divisors (inl (h.ill, h.divides))
      two_law r e op num ZeroDivisor Wild h k = absurd k
      two_law r e op num Wild w h k = absurd h

      none_of : (x y : ℕ) (ds : List Shape) → IsWorth p x → IsWorth q y → divides_by_zero m ds ≡ false → divides_by_zero m ((p.divisors ++ q.divisors) ++ ds) ≡ false
      none_of x y ds h k e = none_joined m (p.divisors ++ q.divisors) ds (none_joined m p.divisors q.divisors h.divides k.divides) e

      safe_of : (x y : ℕ) (ds : List Shape) → IsWorth p x → IsWorth q y → AllSafe true (IsKnown objects s all) s.area m ds
          → AllSafe true (IsKnown objects s all) s.area m ((p.divisors ++ q.divisors) ++ ds)
      safe_of x y ds h k e =
          safe_joined m true (IsKnown objects s all) s.area (p.divisors ++ q.divisors) ds (safe_joined m true (IsKnown objects s all) s.area p.divisors q.divisors h.divisors k.divisors) e

      operator_law : (op : BinaryOp) (x y : ℕ) → IsWorth p x → IsWorth q y → IsWorth (two i (two_role.Operator op) p q) (binary op x y)
      operator_law op x y h k =
          record { divides = none_of x y [] h k refl; worth = ap (λ n. binary op n (value m b)) h.worth ∙ ap (binary op x) k.worth; safe = (h.safe, k.safe); divisors = safe_of x y [] h k tt }

      divisor_is : (y : ℕ) (c : Bool) → value m b ≡ y → (y == 0) ≡ c → divides_by_zero m (b ∷ []) ≡ c
      divisor_is y c e f = ap (λ (n : ℕ). (n == 0) || false) e ∙ ap (λ (d : Bool). d || false) f ∙ or-false c

      -- a zero divisor
      own_zero : (x y : ℕ) → IsWorth p x → IsWorth q y → (y == 0) ≡ true → divides_well m (Binary binary_op.Div a b) ≡ false
      own_zero x y h k e =
          ap (λ (n : ℕ). divides_well m a && (divides_well m b && not (n == 0))) k.worth
          ∙ ap (λ (c : Bool). divides_well m a && (divides_well m b && not c)) e
          ∙ ap (λ (c : Bool). divides_well m a && c) (and_false (divides_well m b))
          ∙ and_false (divides_well m a)

      quotient_law : (x y : ℕ) → IsWorth p x → IsWorth q y → (o : Option ℕ) → div32 x y ≡ o → IsOf (two i two_role.Quotient p q) (quotient o)
      quotient_law x y h k None e = record {
        divides = some_second m (p.divisors ++ q.divisors) (b ∷ []) (divisor_is y true k.worth (div_none x y e));
        ill = own_zero x y h k (div_none x y e);
        safe = (weak m (IsKnown objects s all) s.area a h.safe, weak m (IsKnown objects s all) s.area b k.safe);
        divisors = all_weak m (IsKnown objects s all) s.area ((p.divisors ++ q.divisors) ++ b ∷ []) (safe_of x y (b ∷ []) h k (k.safe, tt));
      }
      quotient_law x y h k (Some n) e = record {
        divides = none_of x y (b ∷ []) h k (divisor_is y false k.worth (div_some x y n e));
        worth = ap (λ i. binary binary_op.Div i (value m b)) h.worth ∙ ap (binary binary_op.Div x) k.worth ∙ ap (λ (o : Option ℕ). unwrap_or o 0) e;
        safe = (h.safe, k.safe);
        divisors = safe_of x y (b ∷ []) h k (k.safe, tt);
      }

      remainder_law : (x y : ℕ) → IsWorth p x → IsWorth q y → (o : Option ℕ) → div32 x y ≡ o → IsOf (two i two_role.Remainder p q) (remainder x y o)
      remainder_law x y h k None e = record {
        divides = some_second m (p.divisors ++ q.divisors) (b ∷ []) (divisor_is y true k.worth (div_none x y e));
        ill = ill_right m binary_op.Sub a (Binary binary_op.Mul (Binary binary_op.Div a b) b) (ill_left m binary_op.Mul (Binary binary_op.Div a b) b (own_zero x y h k (div_none x y e)));
        safe = (
          weak m (IsKnown objects s all) s.area a h.safe,
          ((weak m (IsKnown objects s all) s.area a h.safe, weak m (IsKnown objects s all) s.area b k.safe), weak m (IsKnown objects s all) s.area b k.safe),
        );
        divisors = all_weak m (IsKnown objects s all) s.area ((p.divisors ++ q.divisors) ++ b ∷ []) (safe_of x y (b ∷ []) h k (k.safe, tt));
      }
      remainder_law x y h k (Some n) e = record {
        divides = none_of x y (b ∷ []) h k (divisor_is y false k.worth (div_some x y n e));
        worth = ap (λ i. sub32 i (mul32 (unwrap_or (div32 i (value m b)) 0) (value m b))) h.worth
            ∙ ap (λ i. sub32 x (mul32 (unwrap_or (div32 x i) 0) i)) k.worth
            ∙ ap (λ (o : Option ℕ). sub32 x (mul32 (unwrap_or o 0) y)) e;
        safe = (h.safe, ((h.safe, k.safe), k.safe));
        divisors = safe_of x y (b ∷ []) h k (k.safe, tt);
      }

      left_shift_law : (x y : ℕ) → IsWorth p x → IsWorth q y → IsOf (two i two_role.LeftShift p q) (operated tok.Lsh x y)
      left_shift_law x y h k = record {
        divides = none_of x y [] h k refl;
        worth = ap (λ n. ash32 (and32 (value m b) 31) n) h.worth ∙ ap (λ n. ash32 (and32 n 31) x) k.worth ∙ left_shift x y;
        safe = ((k.safe, tt), h.safe);
        divisors = safe_of x y [] h k tt;
      }

      right_shift_law : (x y : ℕ) → IsWorth p x → IsWorth q y → IsOf (two i two_role.RightShift p q) (operated tok.Rsh x y)
      right_shift_law x y h k =
          let small : x < 2 ^ 32 = subst (λ n. n < 2 ^ 32) h.worth (Values.small m a) in
          record {
            divides = none_of x y [] h k refl;
            worth = ap (λ n. ash32 (neg32 (and32 (value m b) 31)) n) h.worth ∙ ap (λ n. ash32 (neg32 (and32 n 31)) x) k.worth ∙ right_shift x y small;
            safe = ((k.safe, tt), h.safe);
            divisors = safe_of x y [] h k tt;
          }

    abbrev pub StandsOwn : Option Sort → SubtreeShape → Meaning → Type 0
    StandsOwn None p g = Unit {0}
    StandsOwn (Some y) p g = StandsAt y p (Some g)

    abbrev pub OwnTame : Option Sort → Meaning → Type 0
    OwnTame None g = Unit {0}
    OwnTame (Some y) g = IsTame objects s y g

    own_number : (i n : ℕ) (l : Leaf) → sense_at all i ≡ OfLeaf l → read s (means objects s (OfLeaf l)) ≡ Number n → IsWorth (record { part = Worth (Symbol i); divisors = [] }) n
    own_number i n l is e =
        record {
          divides = refl;
          worth = stands.symbols i n (ap (λ (v : Sense). read s (means objects s v)) is ∙ e);
          safe =
              (n, ap (λ (v : Sense). read s (means objects s v)) is ∙ e);
          divisors = tt;
        }

    own_place : (i : ℕ) (l : Leaf) (g : Meaning) → sense_at all i ≡ OfLeaf l → means objects s (OfLeaf l) ≡ g → IsPlace sizes.Long g → IsSpot (record { part = Home sizes.Long i; divisors = [] }) g
    own_place i l g is e h = record { divides = refl; place = (ap (means objects s) is ∙ e, h); divisors = tt }

    given_constant : (n : ℕ) → n % 2 ^ 32 ≡ n → IsWorth (record { part = Worth (Constant n); divisors = [] }) n
    given_constant n e = record { divides = refl; worth = e; safe = tt; divisors = tt }

    const_law : (i : ℕ) (a : Att) → is_of_kind (attribute_of tok.Const) a ≡ true → sense_at all i ≡ OfLeaf (record { tok = tok.Const; att = a })
        → IsOf (record { part = Worth (Symbol i); divisors = [] }) (read s (token_means objects s tok.Const a Wild Wild))
    const_law i (att.Number n) e is = own_number i n (record { tok = tok.Const; att = att.Number n }) is refl
    const_law i _ e is = absurd (cc)

    object_law : (i : ℕ) (l : Leaf) (v : Value) → sense_at all i ≡ OfLeaf l → read s (means objects s (OfLeaf l)) ≡ v → (v ≡ Wild → ⊥) → (v ≡ ZeroDivisor → ⊥)
        → IsOf (record { part = Worth (Symbol i); divisors = [] }) v
    object_law i l (Number n) is e tame some = own_number i n l is e
    object_law i l ZeroDivisor is e tame some = absurd (some refl)
    object_law i l Wild is e tame some = absurd (tame refl)

    no_zero_address : (o : Option Object) (k : ℕ) → address_of o k ≡ ZeroDivisor → ⊥
    no_zero_address None k e = cc
    no_zero_address (Some o) k e = cc

    gaddr_law : (i : ℕ) (a : Att) → is_of_kind (attribute_of tok.Gaddr) a ≡ true → sense_at all i ≡ OfLeaf (record { tok = tok.Gaddr; att = a })
        → (read s (token_means objects s tok.Gaddr a Wild Wild) ≡ Wild → ⊥) → IsOf (record { part = Worth (Symbol i); divisors = [] }) (read s (token_means objects s tok.Gaddr a Wild Wild))
    gaddr_law i (att.Object o k) e is tame =
        object_law i (record { tok = tok.Gaddr; att = att.Object o k }) (address_of (slice_get objects o) k) is refl tame (no_zero_address (slice_get objects o) k)
    gaddr_law i _ e is tame = absurd (cc)

    local_law : (i : ℕ) (a : Att) → is_of_kind (attribute_of tok.Loc) a ≡ true → sense_at all i ≡ OfLeaf (record { tok = tok.Loc; att = a })
        → IsAtSome sizes.Long (record { part = Home sizes.Long i; divisors = [] }) (Some (token_means objects s tok.Loc a Wild Wild))
    local_law i (att.Slot n) e is = (own_place i (record { tok = tok.Loc; att = att.Slot n }) (Local n) is refl refl, refl)
    local_law i _ e is = absurd (cc)

    argument_law : (i : ℕ) (a : Att) → is_of_kind (attribute_of tok.Arg) a ≡ true → sense_at all i ≡ OfLeaf (record { tok = tok.Arg; att = a })
        → IsAtSome sizes.Long (record { part = Home sizes.Long i; divisors = [] }) (Some (token_means objects s tok.Arg a Wild Wild))
    argument_law i (att.Slot n) e is = (own_place i (record { tok = tok.Arg; att = att.Slot n }) (Argument n) is refl refl, refl)
    argument_law i _ e is = absurd (cc)

    -- a token over its kids
    pub token_law : (t : Tok) (a : Att) (i : ℕ) (st rest : List SubtreeShape) (gs : List Meaning) → is_of_kind (attribute_of t) a ≡ true → sense_at all i ≡ OfLeaf (record { tok = t; att = a })
        → Each (kids t) st gs 0 rest →
        OwnTame (sort_of t) (token_means objects s t a (kid s (slice_get gs 0)) (kid s (slice_get gs 1))) →
        StandsOwn (sort_of t) (first_part (step i (role_of_token t) st)) (token_means objects s t a (kid s (slice_get gs 0)) (kid s (slice_get gs 1)))
        × (below (step i (role_of_token t) st) ≡ rest)
    token_law tok.Zero a i st rest gs f is e tame = (given_constant 0 refl, e)
    token_law tok.One a i st rest gs f is e tame = (given_constant 1 refl, e)
    token_law tok.Two a i st rest gs f is e tame = (given_constant 2 refl, e)
    token_law tok.Four a i st rest gs f is e tame = (given_constant 4 refl, e)
    token_law tok.Eight a i st rest gs f is e tame = (given_constant 8 refl, e)
    token_law tok.Const a i st rest gs f is e tame = (const_law i a f is, e)
    token_law tok.Gaddr a i st rest gs f is e tame = (gaddr_law i a f is tame, e)
    token_law tok.Loc a i st rest gs f is e tame = (local_law i a f is, e)
    token_law tok.Arg a i st rest gs f is e tame = (argument_law i a f is, e)
    token_law tok.IndirB a i st rest gs f is e tame = (memory_law sizes.Byte (first_part st) (kid s (slice_get gs 0)) e.0, e.1)
    token_law tok.IndirW a i st rest gs f is e tame = (memory_law sizes.Word (first_part st) (kid s (slice_get gs 0)) e.0, e.1)
    token_law tok.IndirL a i st rest gs f is e tame = (memory_law sizes.Long (first_part st) (kid s (slice_get gs 0)) e.0, e.1)
    token_law tok.Plus a i st rest gs f is e tame = (
      two_law i (first_part st) (first_part (below st)) (two_role.Operator binary_op.Add) refl (operated tok.Plus) (operator_law i (first_part st) (first_part (below st)) binary_op.Add)
          (kid s (slice_get gs 0)) (kid s (slice_get gs 1)) e.0 e.1.0,
      e.1.1,
    )
    token_law tok.Minus a i st rest gs f is e tame = (
      two_law i (first_part st) (first_part (below st)) (two_role.Operator binary_op.Sub) refl (operated tok.Minus) (operator_law i (first_part st) (first_part (below st)) binary_op.Sub)
          (kid s (slice_get gs 0)) (kid s (slice_get gs 1)) e.0 e.1.0,
      e.1.1,
    )
    token_law tok.Mul a i st rest gs f is e tame = (
      two_law i (first_part st) (first_part (below st)) (two_role.Operator binary_op.Mul) refl (operated tok.Mul) (operator_law i (first_part st) (first_part (below st)) binary_op.Mul)
          (kid s (slice_get gs 0)) (kid s (slice_get gs 1)) e.0 e.1.0,
      e.1.1,
    )
    token_law tok.And a i st rest gs f is e tame = (
      two_law i (first_part st) (first_part (below st)) (two_role.Operator binary_op.And) refl (operated tok.And) (operator_law i (first_part st) (first_part (below st)) binary_op.And)
          (kid s (slice_get gs 0)) (kid s (slice_get gs 1)) e.0 e.1.0,
      e.1.1,
    )
    token_law tok.Or a i st rest gs f is e tame = (
      two_law i (first_part st) (first_part (below st)) (two_role.Operator binary_op.Or) refl (operated tok.Or) (operator_law i (first_part st) (first_part (below st)) binary_op.Or)
          (kid s (slice_get gs 0)) (kid s (slice_get gs 1)) e.0 e.1.0,
      e.1.1,
    )
    token_law tok.Xor a i st rest gs f is e tame = (
      two_law i (first_part st) (first_part (below st)) (two_role.Operator binary_op.Xor) refl (operated tok.Xor) (operator_law i (first_part st) (first_part (below st)) binary_op.Xor)
          (kid s (slice_get gs 0)) (kid s (slice_get gs 1)) e.0 e.1.0,
      e.1.1,
    )
    token_law tok.Div a i st rest gs f is e tame = (
      two_law i (first_part st) (first_part (below st)) two_role.Quotient refl (operated tok.Div) (λ x y h k. quotient_law i (first_part st) (first_part (below st)) x y h k (div32 x y) refl)
          (kid s (slice_get gs 0)) (kid s (slice_get gs 1)) e.0 e.1.0,
      e.1.1,
    )
    token_law tok.Mod a i st rest gs f is e tame = (
      two_law i (first_part st) (first_part (below st)) two_role.Remainder refl (operated tok.Mod) (λ x y h k. remainder_law i (first_part st) (first_part (below st)) x y h k (div32 x y) refl)
          (kid s (slice_get gs 0)) (kid s (slice_get gs 1)) e.0 e.1.0,
      e.1.1,
    )
    token_law tok.Lsh a i st rest gs f is e tame = (
      two_law i (first_part st) (first_part (below st)) two_role.LeftShift refl (operated tok.Lsh) (left_shift_law i (first_part st) (first_part (below st))) (kid s (slice_get gs 0))
          (kid s (slice_get gs 1)) e.0 e.1.0,
      e.1.1,
    )
    token_law tok.Rsh a i st rest gs f is e tame = (
      two_law i (first_part st) (first_part (below st)) two_role.RightShift refl (operated tok.Rsh) (right_shift_law i (first_part st) (first_part (below st))) (kid s (slice_get gs 0))
          (kid s (slice_get gs 1)) e.0 e.1.0,
      e.1.1,
    )
    token_law tok.Neg a i st rest gs f is e tame = (one_law unary_op.Neg (first_part st) (kid s (slice_get gs 0)) e.0, e.1)
    token_law tok.Com a i st rest gs f is e tame = (one_law unary_op.Com (first_part st) (kid s (slice_get gs 0)) e.0, e.1)
    token_law tok.Sxb a i st rest gs f is e tame = (one_law unary_op.Sx8 (first_part st) (kid s (slice_get gs 0)) e.0, e.1)
    token_law tok.Zxb a i st rest gs f is e tame = (one_law unary_op.Zx8 (first_part st) (kid s (slice_get gs 0)) e.0, e.1)
    token_law tok.Sxw a i st rest gs f is e tame = (one_law unary_op.Sx16 (first_part st) (kid s (slice_get gs 0)) e.0, e.1)
    token_law tok.Zxw a i st rest gs f is e tame = (one_law unary_op.Zx16 (first_part st) (kid s (slice_get gs 0)) e.0, e.1)
    token_law tok.Ncb a i st rest gs f is e tame = (one_law unary_op.Zx8 (first_part st) (kid s (slice_get gs 0)) e.0, e.1)
    token_law tok.Ncw a i st rest gs f is e tame = (one_law unary_op.Zx16 (first_part st) (kid s (slice_get gs 0)) e.0, e.1)
    token_law tok.AssignB a i st rest gs f is e tame = (tt, e.1.1)
    token_law tok.AssignW a i st rest gs f is e tame = (tt, e.1.1)
    token_law tok.AssignL a i st rest gs f is e tame = (tt, e.1.1)
    token_law tok.Cbr a i st rest gs f is e tame = (tt, e.1.1)
    token_law tok.Push a i st rest gs f is e tame = (tt, e.1)
    token_law tok.Ret a i st rest gs f is e tame = (tt, e.1)
    token_law tok.Call a i st rest gs f is e tame = (tt, e)
    token_law tok.Save a i st rest gs f is e tame = (tt, e)
    token_law tok.Jump a i st rest gs f is e tame = (tt, e)
    token_law tok.End a i st rest gs f is e tame = (tt, e)

    -- a tree of one sort where another is wanted
    pub fitting : (y x : Sort) (p : SubtreeShape) (g : Meaning) → fits y x ≡ true → StandsAt y p (Some g) → IsTame objects s x g → StandsAt x p (Some g)
    fitting sort.Stmt sort.Stmt p g e h tame = h
    fitting sort.Long sort.Long p g e h tame = h
    fitting sort.Byte sort.Byte p g e h tame = h
    fitting sort.Word sort.Word p g e h tame = h
    fitting sort.PlaceB sort.Byte p g e h tame = place_read p g h.0 (read s g) refl tame
    fitting sort.PlaceB sort.PlaceB p g e h tame = h
    fitting sort.PlaceW sort.Word p g e h tame = place_read p g h.0 (read s g) refl tame
    fitting sort.PlaceW sort.PlaceW p g e h tame = h
    fitting sort.PlaceL sort.Long p g e h tame = place_read p g h.0 (read s g) refl tame
    fitting sort.PlaceL sort.PlaceL p g e h tame = h
    fitting _ _ p g e h tame = absurd (cc)

    pub tame_own : (o : Option Sort) (x : Sort) (g : Meaning) → sort_fits o x ≡ true → IsTame objects s x g → OwnTame o g
    tame_own None x g e h = tt
    tame_own (Some y) x g e h = sort_tame objects s y x g e h

    pub fitting_own : (o : Option Sort) (x : Sort) (p : SubtreeShape) (g : Meaning) → sort_fits o x ≡ true → StandsOwn o p g → IsTame objects s x g → StandsAt x p (Some g)
    fitting_own None x p g e h tame = absurd (cc)
    fitting_own (Some y) x p g e h tame = fitting y x p g e h tame
