-- In a calm tree that traps no part is wild.
use Rattle.std.proofs.Common.{◌≡◌, ◌⊎◌, inl, inr, ℕ, suc, ◌-◌, List, [], ◌∷◌, Option, Some, None, Bool, true, false, refl, sym, ap, ◌∙◌, subst, slice_get}
use Rattle.gg_base.specs.declared.size.Size.{Size}
use Rattle.gg_base.specs.declared.size.Size.TheVariants as sizes
use Rattle.gg_base.specs.Arithmetic.{div32}
use Rattle.gg_base.proofs.Facts.{first_false, second_false}
use Rattle.tree_core.specs.declared.token.Tok.{Tok}
use Rattle.tree_core.specs.declared.token.Tok.TheVariants as tok
use Rattle.tree_core.specs.declared.token.Sort.{Sort}
use Rattle.tree_core.specs.declared.token.Sort.TheVariants as sort
use Rattle.tree_core.specs.declared.tree.Att.{Att}
use Rattle.tree_core.specs.declared.tree.Att.TheVariants as att
use Rattle.tree_core.specs.declared.tree.Leaf.{Leaf}
use Rattle.tree_core.specs.declared.program.Object.{Object}
use Rattle.tree_core.specs.Grammar.{kids, sort_of, fits}
use Rattle.tree_core.specs.Attributes.{leaf_fits}
use Rattle.tree_core.specs.Trees.{Forest, none, tree, leaves_onto, Typed, sort_fits}
use Rattle.tree_core.specs.Area.{fetched}
use Rattle.tree_meaning.specs.declared.value.Value.{Value}
use Rattle.tree_meaning.specs.declared.value.Value.TheVariants.{Number, ZeroDivisor, Wild}
use Rattle.tree_meaning.specs.declared.value.Meaning.{Meaning}
use Rattle.tree_meaning.specs.declared.value.Meaning.TheVariants.{Of, Local, Argument, Memory}
use Rattle.tree_meaning.specs.Operators.{operated, converted, quotient, remainder}
use Rattle.tree_meaning.specs.Values.{Sight, there, read, kid, bind, at, token_means, meanings}
use Rattle.tree_meaning.specs.Deeds.{Deed, Puts, Branches, Pushes, Returns, Traps, Strays, given, assigned, branched, deed_of}
use Rattle.tree_meaning_tame.specs.Tame.{tree_means}
use Rattle.tree_meaning_tame.specs.Tame.{IsTame, Tame, IsThere, AllThere}
use Rattle.std.specs.List.{list_any}
use Rattle.std.proofs.lemmas.Bool.{and_parts}
use Rattle.tree_core.specs.Calm.{divides, reads_memory, ReadsNothing, CalmBefore}
use Rattle.tree_core.proofs.Sorts.{fits_stmt}
use Rattle.tree_meaning_tame.proofs.Strict.{NoStmt, kids_no_stmt}

-- how a part comes out: well, at a zero divisor, or astray
pub data Fate : Type 0 where
  Well : Fate
  Zero : Fate
  Astray : Fate

-- the first failure
abbrev pub first : Fate → Fate → Fate
first Well r = r
first Zero r = Zero
first Astray r = Astray

abbrev pub fate_of_value : Value → Fate
fate_of_value (Number n) = Well
fate_of_value ZeroDivisor = Zero
fate_of_value Wild = Astray

abbrev pub fate_of_place : Option Meaning → Fate
fate_of_place None = Astray
fate_of_place (Some (Of v)) = fate_of_value v
fate_of_place (Some g) = Well

abbrev pub fate_of_deed : Deed → Fate
fate_of_deed Traps = Zero
fate_of_deed Strays = Astray
fate_of_deed d = Well

-- no memory is read among leaves behind
reads_behind : (f : Forest) (w : List Leaf) → ReadsNothing (leaves_onto f w) → ReadsNothing w
reads_behind none w h = h
reads_behind (tree l below behind) w h =
    reads_behind behind w (reads_behind below (leaves_onto behind w) (second_false (reads_memory l.tok) (list_any (λ k. reads_memory k.tok) (leaves_onto below (leaves_onto behind w))) h))

module _ (objects : List Object) (s : Sight) where
  abbrev pub fate_at : Sort → Option Meaning → Fate
  fate_at sort.Stmt o = Well
  fate_at sort.Long o = fate_of_value (kid s o)
  fate_at sort.Byte o = fate_of_value (kid s o)
  fate_at sort.Word o = fate_of_value (kid s o)
  fate_at x o = fate_of_place o

  abbrev pub fates : List Sort → List Meaning → ℕ → Fate
  fates [] gs k = Well
  fates (x ∷ xs) gs k = first (fate_at x (slice_get gs k)) (fates xs gs (suc k))

  fates_off : (xs : List Sort) (g : Meaning) (gs : List Meaning) (k : ℕ) → fates xs (g ∷ gs) (suc k) ≡ fates xs gs k
  fates_off [] g gs k = refl
  fates_off (x ∷ xs) g gs k = ap (first (fate_at x (slice_get gs k))) (fates_off xs g gs (suc k))

  -- What a token makes of its kids' fate: astray where they are, a zero divisor where they are at one or where it divides.
  pub record Follows (divides : Bool) (kids own : Fate) : Type 0 where
    pub astray : kids ≡ Astray → own ≡ Astray
    pub zero : own ≡ Zero → (divides ≡ true) ⊎ (kids ≡ Zero)

  leaf_follows : (own : Fate) → (own ≡ Zero → ⊥) → Follows false Well own
  leaf_follows own h = record { astray = λ e. absurd (cc); zero = λ e. absurd (h e) }

  -- the kids' fate as that of values
  one_follows : (v : Value) (f : ℕ → Value) → ((x : ℕ) → fate_of_value (f x) ≡ Zero → ⊥) → Follows false (first (fate_of_value v) Well) (fate_of_value (bind v f))
  one_follows (Number x) f h = record { astray = λ e. absurd (cc); zero = λ e. absurd (h x e) }
  one_follows ZeroDivisor f h = record { astray = λ e. absurd (cc); zero = λ e. inr refl }
  one_follows Wild f h = record { astray = λ e. refl; zero = λ e. absurd (cc) }

  two_follows : (d : Bool) (v w : Value) (f : ℕ → ℕ → Value) → ((x y : ℕ) → fate_of_value (f x y) ≡ Zero → d ≡ true)
      → Follows d (first (fate_of_value v) (first (fate_of_value w) Well)) (fate_of_value (bind v (λ x. bind w (λ y. f x y))))
  two_follows d (Number x) (Number y) f h = record { astray = λ e. absurd (cc); zero = λ e. inl (h x y e) }
  two_follows d (Number x) ZeroDivisor f h = record { astray = λ e. absurd (cc); zero = λ e. inr refl }
  two_follows d (Number x) Wild f h = record { astray = λ e. refl; zero = λ e. absurd (cc) }
  two_follows d ZeroDivisor w f h = record { astray = λ e. absurd (cc); zero = λ e. inr refl }
  two_follows d Wild w f h = record { astray = λ e. refl; zero = λ e. absurd (cc) }

  at_follows : (z : Size) (v : Value) → Follows false (first (fate_of_value v) Well) (fate_of_place (Some (at z v)))
  at_follows z (Number x) = record { astray = λ e. absurd (cc); zero = λ e. absurd (cc) }
  at_follows z ZeroDivisor = record { astray = λ e. absurd (cc); zero = λ e. inr refl }
  at_follows z Wild = record { astray = λ e. refl; zero = λ e. absurd (cc) }

  given_follows : (r : Fate) (v : Value) (f : ℕ → Deed) → r ≡ fate_of_value v → ((n : ℕ) → fate_of_deed (f n) ≡ Zero → ⊥) → Follows false (first r Well) (fate_of_deed (given v f))
  given_follows r (Number n) f e h = record { astray = λ q. absurd (cc); zero = λ q. absurd (h n q) }
  given_follows r ZeroDivisor f e h = record { astray = λ q. absurd (cc); zero = λ q. inr (ap (λ (t : Fate). first t Well) e) }
  given_follows r Wild f e h = record { astray = λ q. refl; zero = λ q. absurd (cc) }

  assigned_follows : (o : Option Meaning) (v : Value) → Follows false (first (fate_of_place o) (first (fate_of_value v) Well)) (fate_of_deed (assigned o v))
  assigned_follows None v = record { astray = λ e. refl; zero = λ e. absurd (cc) }
  assigned_follows (Some (Of (Number n))) v = record { astray = λ e. refl; zero = λ e. absurd (cc) }
  assigned_follows (Some (Of ZeroDivisor)) v = record { astray = λ e. absurd (cc); zero = λ e. inr refl }
  assigned_follows (Some (Of Wild)) v = record { astray = λ e. refl; zero = λ e. absurd (cc) }
  assigned_follows (Some (Local k)) v = given_follows (fate_of_value v) v (Puts (Local k)) refl (λ n e. cc)
  assigned_follows (Some (Argument k)) v = given_follows (fate_of_value v) v (Puts (Argument k)) refl (λ n e. cc)
  assigned_follows (Some (Memory z a)) v = given_follows (fate_of_value v) v (Puts (Memory z a)) refl (λ n e. cc)

  strays_follow : (r : Fate) → Follows false r Astray
  strays_follow r = record { astray = λ e. refl; zero = λ e. absurd (cc) }

  branched_follows : (a : Att) (v w : Value) → Follows false (first (fate_of_value v) (first (fate_of_value w) Well)) (fate_of_deed (branched a v w))
  branched_follows att.Nothing v w = strays_follow (first (fate_of_value v) (first (fate_of_value w) Well))
  branched_follows (att.Number n) v w = strays_follow (first (fate_of_value v) (first (fate_of_value w) Well))
  branched_follows (att.Object o n) v w = strays_follow (first (fate_of_value v) (first (fate_of_value w) Well))
  branched_follows (att.Slot n) v w = strays_follow (first (fate_of_value v) (first (fate_of_value w) Well))
  branched_follows (att.Branch r n) (Number x) w = given_follows (fate_of_value w) w (λ y. Branches r n x y) refl (λ y e. cc)
  branched_follows (att.Branch r n) ZeroDivisor w = record { astray = λ e. absurd (cc); zero = λ e. inr refl }
  branched_follows (att.Branch r n) Wild w = record { astray = λ e. refl; zero = λ e. absurd (cc) }
  branched_follows (att.Label n) v w = strays_follow (first (fate_of_value v) (first (fate_of_value w) Well))
  branched_follows (att.Callee g n) v w = strays_follow (first (fate_of_value v) (first (fate_of_value w) Well))

  -- a token without kids is at no zero divisor
  constant_no_zero : (a : Att) → fate_of_value (read s (token_means objects s tok.Const a Wild Wild)) ≡ Zero → ⊥
  constant_no_zero att.Nothing e = cc
  constant_no_zero (att.Number n) e = cc
  constant_no_zero (att.Object o n) e = cc
  constant_no_zero (att.Slot n) e = cc
  constant_no_zero (att.Branch r n) e = cc
  constant_no_zero (att.Label n) e = cc
  constant_no_zero (att.Callee g n) e = cc

  address_no_zero : (o : Option Object) (k : ℕ) → fate_of_value (Rattle.tree_meaning.specs.Values.address_of o k) ≡ Zero → ⊥
  address_no_zero None k e = cc
  address_no_zero (Some o) k e = cc

  object_no_zero : (a : Att) → fate_of_value (read s (token_means objects s tok.Gaddr a Wild Wild)) ≡ Zero → ⊥
  object_no_zero att.Nothing e = cc
  object_no_zero (att.Number n) e = cc
  object_no_zero (att.Object o n) e = address_no_zero (slice_get objects o) n e
  object_no_zero (att.Slot n) e = cc
  object_no_zero (att.Branch r n) e = cc
  object_no_zero (att.Label n) e = cc
  object_no_zero (att.Callee g n) e = cc

  local_no_zero : (a : Att) → fate_of_place (Some (token_means objects s tok.Loc a Wild Wild)) ≡ Zero → ⊥
  local_no_zero att.Nothing e = cc
  local_no_zero (att.Number n) e = cc
  local_no_zero (att.Object o n) e = cc
  local_no_zero (att.Slot n) e = cc
  local_no_zero (att.Branch r n) e = cc
  local_no_zero (att.Label n) e = cc
  local_no_zero (att.Callee g n) e = cc

  argument_no_zero : (a : Att) → fate_of_place (Some (token_means objects s tok.Arg a Wild Wild)) ≡ Zero → ⊥
  argument_no_zero att.Nothing e = cc
  argument_no_zero (att.Number n) e = cc
  argument_no_zero (att.Object o n) e = cc
  argument_no_zero (att.Slot n) e = cc
  argument_no_zero (att.Branch r n) e = cc
  argument_no_zero (att.Label n) e = cc
  argument_no_zero (att.Callee g n) e = cc

  abbrev own_fate : Option Sort → Meaning → Fate
  own_fate None g = Well
  own_fate (Some y) g = fate_at y (Some g)

  token_follows : (t : Tok) (a : Att) (gs : List Meaning) → (sort_of t ≡ Some sort.Stmt → ⊥)
      → Follows (divides t) (fates (kids t) gs 0) (own_fate (sort_of t) (token_means objects s t a (kid s (slice_get gs 0)) (kid s (slice_get gs 1))))
  token_follows tok.Zero a gs some = leaf_follows Well (λ e. cc)
  token_follows tok.One a gs some = leaf_follows Well (λ e. cc)
  token_follows tok.Two a gs some = leaf_follows Well (λ e. cc)
  token_follows tok.Four a gs some = leaf_follows Well (λ e. cc)
  token_follows tok.Eight a gs some = leaf_follows Well (λ e. cc)
  token_follows tok.Const a gs some = leaf_follows (fate_of_value (read s (token_means objects s tok.Const a Wild Wild))) (constant_no_zero a)
  token_follows tok.Gaddr a gs some = leaf_follows (fate_of_value (read s (token_means objects s tok.Gaddr a Wild Wild))) (object_no_zero a)
  token_follows tok.Loc a gs some = leaf_follows (fate_of_place (Some (token_means objects s tok.Loc a Wild Wild))) (local_no_zero a)
  token_follows tok.Arg a gs some = leaf_follows (fate_of_place (Some (token_means objects s tok.Arg a Wild Wild))) (argument_no_zero a)
  token_follows tok.IndirB a gs some = at_follows sizes.Byte (kid s (slice_get gs 0))
  token_follows tok.IndirW a gs some = at_follows sizes.Word (kid s (slice_get gs 0))
  token_follows tok.IndirL a gs some = at_follows sizes.Long (kid s (slice_get gs 0))
  token_follows tok.Plus a gs some = two_follows false (kid s (slice_get gs 0)) (kid s (slice_get gs 1)) (operated tok.Plus) (λ x y e. absurd (cc))
  token_follows tok.Minus a gs some = two_follows false (kid s (slice_get gs 0)) (kid s (slice_get gs 1)) (operated tok.Minus) (λ x y e. absurd (cc))
  token_follows tok.Mul a gs some = two_follows false (kid s (slice_get gs 0)) (kid s (slice_get gs 1)) (operated tok.Mul) (λ x y e. absurd (cc))
  token_follows tok.Div a gs some = two_follows true (kid s (slice_get gs 0)) (kid s (slice_get gs 1)) (operated tok.Div) (λ x y e. refl)
  token_follows tok.Mod a gs some = two_follows true (kid s (slice_get gs 0)) (kid s (slice_get gs 1)) (operated tok.Mod) (λ x y e. refl)
  token_follows tok.And a gs some = two_follows false (kid s (slice_get gs 0)) (kid s (slice_get gs 1)) (operated tok.And) (λ x y e. absurd (cc))
  token_follows tok.Or a gs some = two_follows false (kid s (slice_get gs 0)) (kid s (slice_get gs 1)) (operated tok.Or) (λ x y e. absurd (cc))
  token_follows tok.Xor a gs some = two_follows false (kid s (slice_get gs 0)) (kid s (slice_get gs 1)) (operated tok.Xor) (λ x y e. absurd (cc))
  token_follows tok.Lsh a gs some = two_follows false (kid s (slice_get gs 0)) (kid s (slice_get gs 1)) (operated tok.Lsh) (λ x y e. absurd (cc))
  token_follows tok.Rsh a gs some = two_follows false (kid s (slice_get gs 0)) (kid s (slice_get gs 1)) (operated tok.Rsh) (λ x y e. absurd (cc))
  token_follows tok.Neg a gs some = one_follows (kid s (slice_get gs 0)) (converted tok.Neg) (λ x e. cc)
  token_follows tok.Com a gs some = one_follows (kid s (slice_get gs 0)) (converted tok.Com) (λ x e. cc)
  token_follows tok.Sxb a gs some = one_follows (kid s (slice_get gs 0)) (converted tok.Sxb) (λ x e. cc)
  token_follows tok.Zxb a gs some = one_follows (kid s (slice_get gs 0)) (converted tok.Zxb) (λ x e. cc)
  token_follows tok.Sxw a gs some = one_follows (kid s (slice_get gs 0)) (converted tok.Sxw) (λ x e. cc)
  token_follows tok.Zxw a gs some = one_follows (kid s (slice_get gs 0)) (converted tok.Zxw) (λ x e. cc)
  token_follows tok.Ncb a gs some = one_follows (kid s (slice_get gs 0)) (converted tok.Ncb) (λ x e. cc)
  token_follows tok.Ncw a gs some = one_follows (kid s (slice_get gs 0)) (converted tok.Ncw) (λ x e. cc)
  token_follows tok.Call a gs some = leaf_follows Well (λ e. cc)
  token_follows tok.Save a gs some = leaf_follows Well (λ e. cc)
  token_follows tok.Jump a gs some = leaf_follows Well (λ e. cc)
  token_follows tok.End a gs some = leaf_follows Well (λ e. cc)
  token_follows _ a gs some = absurd (some refl)

  jumped_no_zero : (a : Att) → fate_of_deed (Rattle.tree_meaning.specs.Deeds.jumped_by a) ≡ Zero → ⊥
  jumped_no_zero att.Nothing e = cc
  jumped_no_zero (att.Number n) e = cc
  jumped_no_zero (att.Object o n) e = cc
  jumped_no_zero (att.Slot n) e = cc
  jumped_no_zero (att.Branch r n) e = cc
  jumped_no_zero (att.Label n) e = cc
  jumped_no_zero (att.Callee g n) e = cc

  saved_no_zero : (a : Att) → fate_of_deed (Rattle.tree_meaning.specs.Deeds.saved a) ≡ Zero → ⊥
  saved_no_zero att.Nothing e = cc
  saved_no_zero (att.Number n) e = cc
  saved_no_zero (att.Object o n) e = cc
  saved_no_zero (att.Slot n) e = cc
  saved_no_zero (att.Branch r n) e = cc
  saved_no_zero (att.Label n) e = cc
  saved_no_zero (att.Callee g n) e = cc

  called_no_zero : (a : Att) → fate_of_deed (Rattle.tree_meaning.specs.Deeds.called_by a) ≡ Zero → ⊥
  called_no_zero att.Nothing e = cc
  called_no_zero (att.Number n) e = cc
  called_no_zero (att.Object o n) e = cc
  called_no_zero (att.Slot n) e = cc
  called_no_zero (att.Branch r n) e = cc
  called_no_zero (att.Label n) e = cc
  called_no_zero (att.Callee g n) e = cc

  deed_follows : (t : Tok) (a : Att) (gs : List Meaning) → Follows false (fates (kids t) gs 0) (fate_of_deed (deed_of s t a (slice_get gs 0) (slice_get gs 1)))
  deed_follows tok.Zero a gs = strays_follow (fates (kids tok.Zero) gs 0)
  deed_follows tok.One a gs = strays_follow (fates (kids tok.One) gs 0)
  deed_follows tok.Two a gs = strays_follow (fates (kids tok.Two) gs 0)
  deed_follows tok.Four a gs = strays_follow (fates (kids tok.Four) gs 0)
  deed_follows tok.Eight a gs = strays_follow (fates (kids tok.Eight) gs 0)
  deed_follows tok.Const a gs = strays_follow (fates (kids tok.Const) gs 0)
  deed_follows tok.Gaddr a gs = strays_follow (fates (kids tok.Gaddr) gs 0)
  deed_follows tok.Loc a gs = strays_follow (fates (kids tok.Loc) gs 0)
  deed_follows tok.Arg a gs = strays_follow (fates (kids tok.Arg) gs 0)
  deed_follows tok.IndirB a gs = strays_follow (fates (kids tok.IndirB) gs 0)
  deed_follows tok.IndirW a gs = strays_follow (fates (kids tok.IndirW) gs 0)
  deed_follows tok.IndirL a gs = strays_follow (fates (kids tok.IndirL) gs 0)
  deed_follows tok.Plus a gs = strays_follow (fates (kids tok.Plus) gs 0)
  deed_follows tok.Minus a gs = strays_follow (fates (kids tok.Minus) gs 0)
  deed_follows tok.Mul a gs = strays_follow (fates (kids tok.Mul) gs 0)
  deed_follows tok.Div a gs = strays_follow (fates (kids tok.Div) gs 0)
  deed_follows tok.Mod a gs = strays_follow (fates (kids tok.Mod) gs 0)
  deed_follows tok.And a gs = strays_follow (fates (kids tok.And) gs 0)
  deed_follows tok.Or a gs = strays_follow (fates (kids tok.Or) gs 0)
  deed_follows tok.Xor a gs = strays_follow (fates (kids tok.Xor) gs 0)
  deed_follows tok.Lsh a gs = strays_follow (fates (kids tok.Lsh) gs 0)
  deed_follows tok.Rsh a gs = strays_follow (fates (kids tok.Rsh) gs 0)
  deed_follows tok.Neg a gs = strays_follow (fates (kids tok.Neg) gs 0)
  deed_follows tok.Com a gs = strays_follow (fates (kids tok.Com) gs 0)
  deed_follows tok.Sxb a gs = strays_follow (fates (kids tok.Sxb) gs 0)
  deed_follows tok.Zxb a gs = strays_follow (fates (kids tok.Zxb) gs 0)
  deed_follows tok.Sxw a gs = strays_follow (fates (kids tok.Sxw) gs 0)
  deed_follows tok.Zxw a gs = strays_follow (fates (kids tok.Zxw) gs 0)
  deed_follows tok.Ncb a gs = strays_follow (fates (kids tok.Ncb) gs 0)
  deed_follows tok.Ncw a gs = strays_follow (fates (kids tok.Ncw) gs 0)
  deed_follows tok.AssignB a gs = assigned_follows (slice_get gs 0) (kid s (slice_get gs 1))
  deed_follows tok.AssignW a gs = assigned_follows (slice_get gs 0) (kid s (slice_get gs 1))
  deed_follows tok.AssignL a gs = assigned_follows (slice_get gs 0) (kid s (slice_get gs 1))
  deed_follows tok.Cbr a gs = branched_follows a (kid s (slice_get gs 0)) (kid s (slice_get gs 1))
  deed_follows tok.Push a gs = given_follows (fate_of_value (kid s (slice_get gs 0))) (kid s (slice_get gs 0)) Pushes refl (λ n e. cc)
  deed_follows tok.Ret a gs = given_follows (fate_of_value (kid s (slice_get gs 0))) (kid s (slice_get gs 0)) Returns refl (λ n e. cc)
  deed_follows tok.Call a gs = leaf_follows (fate_of_deed (Rattle.tree_meaning.specs.Deeds.called_by a)) (called_no_zero a)
  deed_follows tok.Save a gs = leaf_follows (fate_of_deed (Rattle.tree_meaning.specs.Deeds.saved a)) (saved_no_zero a)
  deed_follows tok.Jump a gs = leaf_follows (fate_of_deed (Rattle.tree_meaning.specs.Deeds.jumped_by a)) (jumped_no_zero a)
  deed_follows tok.End a gs = strays_follow (fates (kids tok.End) gs 0)

  -- where another sort is wanted
  there_no_zero : (o : Option ℕ) → fate_of_value (there o) ≡ Zero → ⊥
  there_no_zero None e = cc
  there_no_zero (Some n) e = cc

  read_zero : (g : Meaning) → fate_of_value (read s g) ≡ Zero → fate_of_place (Some g) ≡ Zero
  read_zero (Of v) e = e
  read_zero (Local k) e = absurd (there_no_zero (s.locals k) e)
  read_zero (Argument k) e = absurd (there_no_zero (slice_get s.arguments (k - 1)) e)
  read_zero (Memory z a) e = absurd (there_no_zero (fetched z s.area a) e)

  place_astray : (g : Meaning) → fate_of_place (Some g) ≡ Astray → fate_of_value (read s g) ≡ Astray
  place_astray (Of v) e = e
  place_astray (Local k) e = cc
  place_astray (Argument k) e = cc
  place_astray (Memory z a) e = cc

  lifted : (d : Bool) (r : Fate) (y x : Sort) (g : Meaning) → fits y x ≡ true → Follows d r (fate_at y (Some g)) → Follows d r (fate_at x (Some g))
  lifted d r sort.Stmt sort.Stmt g e h = h
  lifted d r sort.Long sort.Long g e h = h
  lifted d r sort.Byte sort.Byte g e h = h
  lifted d r sort.Word sort.Word g e h = h
  lifted d r sort.PlaceB sort.Byte g e h = record { astray = λ q. place_astray g (h.astray q); zero = λ q. h.zero (read_zero g q) }
  lifted d r sort.PlaceB sort.PlaceB g e h = h
  lifted d r sort.PlaceW sort.Word g e h = record { astray = λ q. place_astray g (h.astray q); zero = λ q. h.zero (read_zero g q) }
  lifted d r sort.PlaceW sort.PlaceW g e h = h
  lifted d r sort.PlaceL sort.Long g e h = record { astray = λ q. place_astray g (h.astray q); zero = λ q. h.zero (read_zero g q) }
  lifted d r sort.PlaceL sort.PlaceL g e h = h
  lifted d r _ _ g e h = absurd (cc)

  follows_at : (l : Leaf) (x : Sort) (gs : List Meaning) → sort_fits (sort_of l.tok) x ≡ true → (x ≡ sort.Stmt → ⊥)
      → Follows (divides l.tok) (fates (kids l.tok) gs 0) (fate_at x (Some (token_means objects s l.tok l.att (kid s (slice_get gs 0)) (kid s (slice_get gs 1)))))
  follows_at l x gs e some = by (sort_of l.tok) refl e
    where
      by : (o : Option Sort) → sort_of l.tok ≡ o → sort_fits o x ≡ true
          → Follows (divides l.tok) (fates (kids l.tok) gs 0) (fate_at x (Some (token_means objects s l.tok l.att (kid s (slice_get gs 0)) (kid s (slice_get gs 1)))))
      by None f q = absurd (cc)
      by (Some y) f q =
          let other : sort_of l.tok ≡ Some sort.Stmt → ⊥ = λ r. some (fits_stmt x (let h : y ≡ sort.Stmt = cc in subst (λ (t : Sort). fits t x ≡ true) h q)) in
          let g = token_means objects s l.tok l.att (kid s (slice_get gs 0)) (kid s (slice_get gs 1)) in
          lifted (divides l.tok) (fates (kids l.tok) gs 0) y x g q
          (subst (λ (t : Option Sort). Follows (divides l.tok) (fates (kids l.tok) gs 0) (own_fate t g)) f (token_follows l.tok l.att gs other))

  -- a kid whose value is wanted isn't wild
  abbrev pub KidTame : Sort → Option Meaning → Type 0
  KidTame sort.Long o = kid s o ≡ Wild → ⊥
  KidTame sort.Byte o = kid s o ≡ Wild → ⊥
  KidTame sort.Word o = kid s o ≡ Wild → ⊥
  KidTame x o = Unit {0}

  abbrev pub KidsTame : List Sort → List Meaning → ℕ → Type 0
  KidsTame [] gs k = Unit {0}
  KidsTame (x ∷ xs) gs k = KidTame x (slice_get gs k) × KidsTame xs gs (suc k)

  pub kids_on : (xs : List Sort) (g : Meaning) (gs : List Meaning) (k : ℕ) → KidsTame xs gs k → KidsTame xs (g ∷ gs) (suc k)
  kids_on [] g gs k h = h
  kids_on (x ∷ xs) g gs k h = (h.0, kids_on xs g gs (suc k) h.1)

  pub kid_tame : (x : Sort) (g : Meaning) → IsTame objects s x g → KidTame x (Some g)
  kid_tame sort.Stmt g h = h
  kid_tame sort.Long g h = h
  kid_tame sort.Byte g h = h
  kid_tame sort.Word g h = h
  kid_tame sort.PlaceB g h = h
  kid_tame sort.PlaceW g h = h
  kid_tame sort.PlaceL g h = h

  kids_tame : (xs : List Sort) (f : Forest) → Typed xs f → Tame objects s xs f → KidsTame xs (meanings objects s f) 0
  kids_tame [] none typed h = tt
  kids_tame [] (tree l below behind) typed h = tt
  kids_tame (x ∷ xs) none typed h = absurd typed
  kids_tame (x ∷ xs) (tree l below behind) typed h =
      (kid_tame x (tree_means objects s l below) h.0, kids_on xs (tree_means objects s l below) (meanings objects s behind) 0 (kids_tame xs behind typed.2 h.2))

  -- nothing is wild where no memory is read
  tame_any : (x : Sort) (g : Meaning) → (read s g ≡ Wild → ⊥) → IsTame objects s x g
  tame_any sort.Stmt g h = tt
  tame_any sort.Long g h = h
  tame_any sort.Byte g h = h
  tame_any sort.Word g h = h
  tame_any sort.PlaceB g h = tt
  tame_any sort.PlaceW g h = tt
  tame_any sort.PlaceL g h = tt

  one_quiet : (v : Value) (f : ℕ → Value) → (v ≡ Wild → ⊥) → ((x : ℕ) → f x ≡ Wild → ⊥) → bind v f ≡ Wild → ⊥
  one_quiet (Number x) f h k e = k x e
  one_quiet ZeroDivisor f h k e = cc
  one_quiet Wild f h k e = h refl

  two_quiet : (v w : Value) (f : ℕ → ℕ → Value) → (v ≡ Wild → ⊥) → (w ≡ Wild → ⊥) → ((x y : ℕ) → f x y ≡ Wild → ⊥) → bind v (λ x. bind w (λ y. f x y)) ≡ Wild → ⊥
  two_quiet (Number x) w f h k q e = one_quiet w (f x) k (q x) e
  two_quiet ZeroDivisor w f h k q e = cc
  two_quiet Wild w f h k q e = h refl

  quotient_quiet : (o : Option ℕ) → quotient o ≡ Wild → ⊥
  quotient_quiet None e = cc
  quotient_quiet (Some n) e = cc

  remainder_quiet : (x y : ℕ) (o : Option ℕ) → remainder x y o ≡ Wild → ⊥
  remainder_quiet x y None e = cc
  remainder_quiet x y (Some n) e = cc

  token_quiet : (t : Tok) (a : Att) (gs : List Meaning) (x : Sort) → sort_fits (sort_of t) x ≡ true → reads_memory t ≡ false → IsThere objects s t a → KidsTame (kids t) gs 0
      → IsTame objects s x (token_means objects s t a (kid s (slice_get gs 0)) (kid s (slice_get gs 1)))
  token_quiet tok.Zero a gs x e r h q = tame_any x (token_means objects s tok.Zero a (kid s (slice_get gs 0)) (kid s (slice_get gs 1))) (λ e. cc)
  token_quiet tok.One a gs x e r h q = tame_any x (token_means objects s tok.One a (kid s (slice_get gs 0)) (kid s (slice_get gs 1))) (λ e. cc)
  token_quiet tok.Two a gs x e r h q = tame_any x (token_means objects s tok.Two a (kid s (slice_get gs 0)) (kid s (slice_get gs 1))) (λ e. cc)
  token_quiet tok.Four a gs x e r h q = tame_any x (token_means objects s tok.Four a (kid s (slice_get gs 0)) (kid s (slice_get gs 1))) (λ e. cc)
  token_quiet tok.Eight a gs x e r h q = tame_any x (token_means objects s tok.Eight a (kid s (slice_get gs 0)) (kid s (slice_get gs 1))) (λ e. cc)
  token_quiet tok.Const a gs x e r h q = tame_any x (token_means objects s tok.Const a (kid s (slice_get gs 0)) (kid s (slice_get gs 1))) h
  token_quiet tok.Gaddr a gs x e r h q = tame_any x (token_means objects s tok.Gaddr a (kid s (slice_get gs 0)) (kid s (slice_get gs 1))) h
  token_quiet tok.Loc a gs x e r h q = tame_any x (token_means objects s tok.Loc a (kid s (slice_get gs 0)) (kid s (slice_get gs 1))) h
  token_quiet tok.Arg a gs x e r h q = tame_any x (token_means objects s tok.Arg a (kid s (slice_get gs 0)) (kid s (slice_get gs 1))) h
  token_quiet tok.Plus a gs x e r h q =
      tame_any x (token_means objects s tok.Plus a (kid s (slice_get gs 0)) (kid s (slice_get gs 1)))
      (two_quiet (kid s (slice_get gs 0)) (kid s (slice_get gs 1)) (operated tok.Plus) q.0 q.1.0 (λ x y e. cc))
  token_quiet tok.Minus a gs x e r h q =
      tame_any x (token_means objects s tok.Minus a (kid s (slice_get gs 0)) (kid s (slice_get gs 1)))
      (two_quiet (kid s (slice_get gs 0)) (kid s (slice_get gs 1)) (operated tok.Minus) q.0 q.1.0 (λ x y e. cc))
  token_quiet tok.Mul a gs x e r h q =
      tame_any x (token_means objects s tok.Mul a (kid s (slice_get gs 0)) (kid s (slice_get gs 1)))
      (two_quiet (kid s (slice_get gs 0)) (kid s (slice_get gs 1)) (operated tok.Mul) q.0 q.1.0 (λ x y e. cc))
  token_quiet tok.Div a gs x e r h q =
      tame_any x (token_means objects s tok.Div a (kid s (slice_get gs 0)) (kid s (slice_get gs 1)))
      (two_quiet (kid s (slice_get gs 0)) (kid s (slice_get gs 1)) (operated tok.Div) q.0 q.1.0 (λ x y. quotient_quiet (div32 x y)))
  token_quiet tok.Mod a gs x e r h q =
      tame_any x (token_means objects s tok.Mod a (kid s (slice_get gs 0)) (kid s (slice_get gs 1)))
      (two_quiet (kid s (slice_get gs 0)) (kid s (slice_get gs 1)) (operated tok.Mod) q.0 q.1.0 (λ x y. remainder_quiet x y (div32 x y)))
  token_quiet tok.And a gs x e r h q =
      tame_any x (token_means objects s tok.And a (kid s (slice_get gs 0)) (kid s (slice_get gs 1)))
      (two_quiet (kid s (slice_get gs 0)) (kid s (slice_get gs 1)) (operated tok.And) q.0 q.1.0 (λ x y e. cc))
  token_quiet tok.Or a gs x e r h q =
      tame_any x (token_means objects s tok.Or a (kid s (slice_get gs 0)) (kid s (slice_get gs 1)))
      (two_quiet (kid s (slice_get gs 0)) (kid s (slice_get gs 1)) (operated tok.Or) q.0 q.1.0 (λ x y e. cc))
  token_quiet tok.Xor a gs x e r h q =
      tame_any x (token_means objects s tok.Xor a (kid s (slice_get gs 0)) (kid s (slice_get gs 1)))
      (two_quiet (kid s (slice_get gs 0)) (kid s (slice_get gs 1)) (operated tok.Xor) q.0 q.1.0 (λ x y e. cc))
  token_quiet tok.Lsh a gs x e r h q =
      tame_any x (token_means objects s tok.Lsh a (kid s (slice_get gs 0)) (kid s (slice_get gs 1)))
      (two_quiet (kid s (slice_get gs 0)) (kid s (slice_get gs 1)) (operated tok.Lsh) q.0 q.1.0 (λ x y e. cc))
  token_quiet tok.Rsh a gs x e r h q =
      tame_any x (token_means objects s tok.Rsh a (kid s (slice_get gs 0)) (kid s (slice_get gs 1)))
      (two_quiet (kid s (slice_get gs 0)) (kid s (slice_get gs 1)) (operated tok.Rsh) q.0 q.1.0 (λ x y e. cc))
  token_quiet tok.Neg a gs x e r h q =
      tame_any x (token_means objects s tok.Neg a (kid s (slice_get gs 0)) (kid s (slice_get gs 1))) (one_quiet (kid s (slice_get gs 0)) (converted tok.Neg) q.0 (λ x e. cc))
  token_quiet tok.Com a gs x e r h q =
      tame_any x (token_means objects s tok.Com a (kid s (slice_get gs 0)) (kid s (slice_get gs 1))) (one_quiet (kid s (slice_get gs 0)) (converted tok.Com) q.0 (λ x e. cc))
  token_quiet tok.Sxb a gs x e r h q =
      tame_any x (token_means objects s tok.Sxb a (kid s (slice_get gs 0)) (kid s (slice_get gs 1))) (one_quiet (kid s (slice_get gs 0)) (converted tok.Sxb) q.0 (λ x e. cc))
  token_quiet tok.Zxb a gs x e r h q =
      tame_any x (token_means objects s tok.Zxb a (kid s (slice_get gs 0)) (kid s (slice_get gs 1))) (one_quiet (kid s (slice_get gs 0)) (converted tok.Zxb) q.0 (λ x e. cc))
  token_quiet tok.Sxw a gs x e r h q =
      tame_any x (token_means objects s tok.Sxw a (kid s (slice_get gs 0)) (kid s (slice_get gs 1))) (one_quiet (kid s (slice_get gs 0)) (converted tok.Sxw) q.0 (λ x e. cc))
  token_quiet tok.Zxw a gs x e r h q =
      tame_any x (token_means objects s tok.Zxw a (kid s (slice_get gs 0)) (kid s (slice_get gs 1))) (one_quiet (kid s (slice_get gs 0)) (converted tok.Zxw) q.0 (λ x e. cc))
  token_quiet tok.Ncb a gs x e r h q =
      tame_any x (token_means objects s tok.Ncb a (kid s (slice_get gs 0)) (kid s (slice_get gs 1))) (one_quiet (kid s (slice_get gs 0)) (converted tok.Ncb) q.0 (λ x e. cc))
  token_quiet tok.Ncw a gs x e r h q =
      tame_any x (token_means objects s tok.Ncw a (kid s (slice_get gs 0)) (kid s (slice_get gs 1))) (one_quiet (kid s (slice_get gs 0)) (converted tok.Ncw) q.0 (λ x e. cc))
  token_quiet tok.AssignB a gs x e r h q = subst (λ (t : Sort). IsTame objects s t (token_means objects s tok.AssignB a (kid s (slice_get gs 0)) (kid s (slice_get gs 1)))) (sym (fits_stmt x e)) tt
  token_quiet tok.AssignW a gs x e r h q = subst (λ (t : Sort). IsTame objects s t (token_means objects s tok.AssignW a (kid s (slice_get gs 0)) (kid s (slice_get gs 1)))) (sym (fits_stmt x e)) tt
  token_quiet tok.AssignL a gs x e r h q = subst (λ (t : Sort). IsTame objects s t (token_means objects s tok.AssignL a (kid s (slice_get gs 0)) (kid s (slice_get gs 1)))) (sym (fits_stmt x e)) tt
  token_quiet tok.Cbr a gs x e r h q = subst (λ (t : Sort). IsTame objects s t (token_means objects s tok.Cbr a (kid s (slice_get gs 0)) (kid s (slice_get gs 1)))) (sym (fits_stmt x e)) tt
  token_quiet tok.Push a gs x e r h q = subst (λ (t : Sort). IsTame objects s t (token_means objects s tok.Push a (kid s (slice_get gs 0)) (kid s (slice_get gs 1)))) (sym (fits_stmt x e)) tt
  token_quiet tok.Ret a gs x e r h q = subst (λ (t : Sort). IsTame objects s t (token_means objects s tok.Ret a (kid s (slice_get gs 0)) (kid s (slice_get gs 1)))) (sym (fits_stmt x e)) tt
  token_quiet tok.Call a gs x e r h q = subst (λ (t : Sort). IsTame objects s t (token_means objects s tok.Call a (kid s (slice_get gs 0)) (kid s (slice_get gs 1)))) (sym (fits_stmt x e)) tt
  token_quiet tok.Save a gs x e r h q = subst (λ (t : Sort). IsTame objects s t (token_means objects s tok.Save a (kid s (slice_get gs 0)) (kid s (slice_get gs 1)))) (sym (fits_stmt x e)) tt
  token_quiet tok.Jump a gs x e r h q = subst (λ (t : Sort). IsTame objects s t (token_means objects s tok.Jump a (kid s (slice_get gs 0)) (kid s (slice_get gs 1)))) (sym (fits_stmt x e)) tt
  token_quiet _ a gs x e r h q = absurd (cc)

  quiet : (xs : List Sort) (f : Forest) (w : List Leaf) → Typed xs f → AllThere objects s f → ReadsNothing (leaves_onto f w) → Tame objects s xs f
  quiet [] f w typed h r = tt
  quiet (x ∷ xs) none w typed h r = tt
  quiet (x ∷ xs) (tree l below behind) w typed h r =
      let here = first_false (reads_memory l.tok) (list_any (λ k. reads_memory k.tok) (leaves_onto below (leaves_onto behind w))) r in
      let inner = second_false (reads_memory l.tok) (list_any (λ k. reads_memory k.tok) (leaves_onto below (leaves_onto behind w))) r in
      let low = quiet (kids l.tok) below (leaves_onto behind w) typed.1 h.1 inner in
      let sorts = and_parts (sort_fits (sort_of l.tok) x) (leaf_fits l) typed.0 in (
        token_quiet l.tok l.att (meanings objects s below) x sorts.0 here h.0 (kids_tame (kids l.tok) below typed.1 low),
        low,
        quiet xs behind w typed.2 h.2
            (reads_behind below (leaves_onto behind w) inner),
      )

  -- behind a zero divisor no memory is read
  first_zero : (a b : Fate) → first a b ≡ Zero → (a ≡ Zero) ⊎ (b ≡ Zero)
  first_zero Well b e = inr e
  first_zero Zero b e = inl refl
  first_zero Astray b e = absurd (cc)

  zero_behind : (xs : List Sort) (f : Forest) (w : List Leaf) → NoStmt xs → Typed xs f → CalmBefore f w → fates xs (meanings objects s f) 0 ≡ Zero → ReadsNothing w
  zero_behind [] f w some typed calm e = absurd (cc)
  zero_behind (x ∷ xs) none w some typed calm e = absurd typed
  zero_behind (x ∷ xs) (tree l below behind) w some typed calm e =
      let g = tree_means objects s l below in
      let sorts = and_parts (sort_fits (sort_of l.tok) x) (leaf_fits l) typed.0 in
      let f = follows_at l x (meanings objects s below) sorts.0 some.0 in
      by f (first_zero (fate_at x (Some g)) (fates xs (g ∷ meanings objects s behind) 1) e) (λ k. zero_behind (kids l.tok) below (leaves_onto behind w) (kids_no_stmt l.tok) typed.1 calm.1 k)
      (λ k. zero_behind xs behind w some.1 typed.2 calm.2 k)
    where
      own : (divides l.tok ≡ true) ⊎ (fates (kids l.tok) (meanings objects s below) 0 ≡ Zero) → (fates (kids l.tok) (meanings objects s below) 0 ≡ Zero → ReadsNothing (leaves_onto behind w))
          → ReadsNothing w
      own (inl d) low = reads_behind behind w (calm.0 d)
      own (inr k) low = reads_behind behind w (low k)

      by : Follows (divides l.tok) (fates (kids l.tok) (meanings objects s below) 0) (fate_at x (Some (tree_means objects s l below)))
          → (fate_at x (Some (tree_means objects s l below)) ≡ Zero) ⊎ (fates xs (tree_means objects s l below ∷ meanings objects s behind) 1 ≡ Zero) →
          (fates (kids l.tok) (meanings objects s below) 0 ≡ Zero → ReadsNothing (leaves_onto behind w)) → (fates xs (meanings objects s behind) 0 ≡ Zero → ReadsNothing w) → ReadsNothing w
      by f (inl k) low high = own (f.zero k) low
      by f (inr k) low high = high (sym (fates_off xs (tree_means objects s l below) (meanings objects s behind) 0) ∙ k)

  own_zero : (l : Leaf) (below behind : Forest) (x : Sort) (w : List Leaf) → (x ≡ sort.Stmt → ⊥) → sort_fits (sort_of l.tok) x ≡ true → Typed (kids l.tok) below
      → CalmBefore (tree l below behind) w → fate_at x (Some (tree_means objects s l below)) ≡ Zero → ReadsNothing (leaves_onto behind w)
  own_zero l below behind x w some sorts typed calm e = by ((follows_at l x (meanings objects s below) sorts some).zero e)
    where
      by : (divides l.tok ≡ true) ⊎ (fates (kids l.tok) (meanings objects s below) 0 ≡ Zero) → ReadsNothing (leaves_onto behind w)
      by (inl d) = calm.0 d
      by (inr k) = zero_behind (kids l.tok) below (leaves_onto behind w) (kids_no_stmt l.tok) typed calm.1 k

  fate_tame : (x : Sort) (g : Meaning) → (fate_at x (Some g) ≡ Astray → ⊥) → IsTame objects s x g
  fate_tame sort.Stmt g h = tt
  fate_tame sort.Long g h = λ e. h (ap fate_of_value e)
  fate_tame sort.Byte g h = λ e. h (ap fate_of_value e)
  fate_tame sort.Word g h = λ e. h (ap fate_of_value e)
  fate_tame sort.PlaceB g h = tt
  fate_tame sort.PlaceW g h = tt
  fate_tame sort.PlaceL g h = tt

  -- where the first failure isn't wild, no part is
  pub calm_tame : (xs : List Sort) (f : Forest) (w : List Leaf) → NoStmt xs → Typed xs f → AllThere objects s f → CalmBefore f w → (fates xs (meanings objects s f) 0 ≡ Astray → ⊥)
      → Tame objects s xs f
  calm_tame [] f w some typed there calm h = tt
  calm_tame (x ∷ xs) none w some typed there calm h = tt
  calm_tame (x ∷ xs) (tree l below behind) w some typed there calm h =
      let low = calm_tame (kids l.tok) below (leaves_onto behind w) (kids_no_stmt l.tok) typed.1 there.1 calm.1 (λ e. own ((follows_at l x (meanings objects s below) sorts some.0).astray e)) in
      (fate_tame x (tree_means objects s l below) own, low, by (fate_at x (Some (tree_means objects s l below))) refl (λ k. calm_tame xs behind w some.1 typed.2 there.2 calm.2 k))
    where
      sorts : sort_fits (sort_of l.tok) x ≡ true
      sorts = (and_parts (sort_fits (sort_of l.tok) x) (leaf_fits l) typed.0).0

      own : fate_at x (Some (tree_means objects s l below)) ≡ Astray → ⊥
      own e = h (ap (λ (r : Fate). first r (fates xs (tree_means objects s l below ∷ meanings objects s behind) 1)) e)

      by : (r : Fate) → fate_at x (Some (tree_means objects s l below)) ≡ r → ((fates xs (meanings objects s behind) 0 ≡ Astray → ⊥) → Tame objects s xs behind) → Tame objects s xs behind
      by Well e go =
          go (λ k. h
          (ap (λ (r : Fate). first r (fates xs (tree_means objects s l below ∷ meanings objects s behind) 1)) e ∙ fates_off xs (tree_means objects s l below) (meanings objects s behind) 0 ∙ k))
      by Zero e go = quiet xs behind w typed.2 there.2 (own_zero l below behind x w some.0 sorts typed.1 calm e)
      by Astray e go = absurd (own e)

  -- where a calm statement traps, no part of its tree is wild
  pub trap_tame : (l : Leaf) (f : Forest) (w : List Leaf) → Typed (kids l.tok) f → AllThere objects s f → CalmBefore f w
      → deed_of s l.tok l.att (slice_get (meanings objects s f) 0) (slice_get (meanings objects s f) 1) ≡ Traps → Tame objects s (kids l.tok) f
  trap_tame l f w typed there calm e =
      let h = deed_follows l.tok l.att (meanings objects s f) in
      calm_tame (kids l.tok) f w (kids_no_stmt l.tok) typed there calm (λ k. let a = h.astray k in let b = ap fate_of_deed e in cc)
