-- What a tree means where more is seen: the same, or the first sight strays.
use Rattle.std.proofs.Common.{◌≡◌, ◌⊎◌, inl, inr, ℕ, zero, suc, ◌-◌, List, Option, Some, None, refl, sym, ap, ◌∙◌, subst, slice_get}
use Rattle.gg_base.specs.declared.size.Size.{Size}
use Rattle.gg_base.specs.declared.size.Size.TheVariants as sizes
use Rattle.tree_core.specs.declared.token.Tok.{Tok}
use Rattle.tree_core.specs.declared.token.Tok.TheVariants as tok
use Rattle.tree_core.specs.declared.tree.Att.{Att}
use Rattle.tree_core.specs.declared.tree.Att.TheVariants as att
use Rattle.tree_core.specs.declared.program.Object.{Object}
use Rattle.tree_core.specs.Trees.{Forest, none, tree}
use Rattle.tree_core.specs.Area.{fetched}
use Rattle.tree_meaning.specs.declared.value.Value.{Value}
use Rattle.tree_meaning.specs.declared.value.Value.TheVariants.{Number, ZeroDivisor, Wild}
use Rattle.tree_meaning.specs.declared.value.Meaning.{Meaning}
use Rattle.tree_meaning.specs.declared.value.Meaning.TheVariants.{Of, Local, Argument, Memory}
use Rattle.tree_meaning.specs.Operators.{operated, converted}
use Rattle.tree_meaning.specs.Values.{Sight, there, read, kid, bind, at, token_means, meanings}
use Rattle.tree_meaning.specs.Deeds.{Deed, Puts, Branches, Pushes, Returns, Strays, given, assigned, branched, deed_of}
use Rattle.tree_meaning.specs.Deeds.{tree_deed}
use Rattle.tree_meaning_tame.specs.Sights.{Completes}

-- wild, or the same
abbrev pub Grows : {Y : Type 0} → Y → Y → Y → Type 0
Grows wild a b = (a ≡ wild) ⊎ (a ≡ b)

module _ (objects : List Object) (s t : Sight) (c : Completes s t) where
  local_grows : (k : ℕ) → Grows Wild (there (s.locals k)) (there (t.locals k))
  local_grows k = by (s.locals k) refl
    where
      by : (o : Option ℕ) → s.locals k ≡ o → Grows Wild (there o) (there (t.locals k))
      by None e = inl refl
      by (Some n) e = inr (sym (ap there (c.locals k n e)))

  read_grows : (g h : Meaning) → Grows (Of Wild) g h → Grows Wild (read s g) (read t h)
  read_grows g h (inl e) = inl (ap (read s) e)
  read_grows g h (inr e) = subst (λ (x : Meaning). Grows Wild (read s g) (read t x)) e (by g)
    where
      by : (g : Meaning) → Grows Wild (read s g) (read t g)
      by (Of v) = inr refl
      by (Local k) = local_grows k
      by (Argument k) = inr (ap (λ (l : List ℕ). there (slice_get l (k - 1))) (sym c.arguments))
      by (Memory z a) = inr (ap (λ (l : List ℕ). there (fetched z l a)) (sym c.area))

  abbrev OptionGrows : Option Meaning → Option Meaning → Type 0
  OptionGrows None None = Unit {0}
  OptionGrows None (Some h) = ⊥
  OptionGrows (Some g) None = ⊥
  OptionGrows (Some g) (Some h) = Grows (Of Wild) g h

  kid_grows : (o p : Option Meaning) → OptionGrows o p → Grows Wild (kid s o) (kid t p)
  kid_grows None None e = inl refl
  kid_grows None (Some h) e = absurd e
  kid_grows (Some g) None e = absurd e
  kid_grows (Some g) (Some h) e = read_grows g h e

  one_grows : (v w : Value) (f : ℕ → Value) → Grows Wild v w → Grows (Of Wild) (Of (bind v f)) (Of (bind w f))
  one_grows v w f (inl e) = inl (ap (λ (x : Value). Of (bind x f)) e)
  one_grows v w f (inr e) = inr (ap (λ (x : Value). Of (bind x f)) e)

  two_grows : (v w v' w' : Value) (f : ℕ → ℕ → Value) → Grows Wild v v' → Grows Wild w w' → Grows (Of Wild) (Of (bind v (λ x. bind w (λ y. f x y)))) (Of (bind v' (λ x. bind w' (λ y. f x y))))
  two_grows v w v' w' f (inl e) k = inl (ap (λ (x : Value). Of (bind x (λ x. bind w (λ y. f x y)))) e)
  two_grows v w v' w' f (inr e) (inr k) = inr (ap (λ (x : Value). Of (bind x (λ x. bind w (λ y. f x y)))) e ∙ ap (λ (y : Value). Of (bind v' (λ x. bind y (λ y. f x y)))) k)
  two_grows v w v' w' f (inr e) (inl k) = subst (λ (z : Value). Grows (Of Wild) (Of (bind v (λ x. bind w (λ y. f x y)))) (Of (bind z (λ x. bind w' (λ y. f x y))))) e (by v)
    where
      by : (v : Value) → Grows (Of Wild) (Of (bind v (λ x. bind w (λ y. f x y)))) (Of (bind v (λ x. bind w' (λ y. f x y))))
      by (Number x) = inl (ap (λ (z : Value). Of (bind z (λ y. f x y))) k)
      by ZeroDivisor = inr refl
      by Wild = inl refl

  at_grows : (z : Size) (v w : Value) → Grows Wild v w → Grows (Of Wild) (at z v) (at z w)
  at_grows z v w (inl e) = inl (ap (at z) e)
  at_grows z v w (inr e) = inr (ap (at z) e)

  token_grows : (k : Tok) (a : Att) (v w v' w' : Value) → Grows Wild v v' → Grows Wild w w' → Grows (Of Wild) (token_means objects s k a v w) (token_means objects t k a v' w')
  token_grows tok.Zero a v w v' w' e f = inr refl
  token_grows tok.One a v w v' w' e f = inr refl
  token_grows tok.Two a v w v' w' e f = inr refl
  token_grows tok.Four a v w v' w' e f = inr refl
  token_grows tok.Eight a v w v' w' e f = inr refl
  token_grows tok.Const a v w v' w' e f = inr refl
  token_grows tok.Gaddr a v w v' w' e f = inr refl
  token_grows tok.Loc a v w v' w' e f = inr refl
  token_grows tok.Arg a v w v' w' e f = inr refl
  token_grows tok.IndirB a v w v' w' e f = at_grows sizes.Byte v v' e
  token_grows tok.IndirW a v w v' w' e f = at_grows sizes.Word v v' e
  token_grows tok.IndirL a v w v' w' e f = at_grows sizes.Long v v' e
  token_grows tok.Plus a v w v' w' e f = two_grows v w v' w' (operated tok.Plus) e f
  token_grows tok.Minus a v w v' w' e f = two_grows v w v' w' (operated tok.Minus) e f
  token_grows tok.Mul a v w v' w' e f = two_grows v w v' w' (operated tok.Mul) e f
  token_grows tok.Div a v w v' w' e f = two_grows v w v' w' (operated tok.Div) e f
  token_grows tok.Mod a v w v' w' e f = two_grows v w v' w' (operated tok.Mod) e f
  token_grows tok.And a v w v' w' e f = two_grows v w v' w' (operated tok.And) e f
  token_grows tok.Or a v w v' w' e f = two_grows v w v' w' (operated tok.Or) e f
  token_grows tok.Xor a v w v' w' e f = two_grows v w v' w' (operated tok.Xor) e f
  token_grows tok.Lsh a v w v' w' e f = two_grows v w v' w' (operated tok.Lsh) e f
  token_grows tok.Rsh a v w v' w' e f = two_grows v w v' w' (operated tok.Rsh) e f
  token_grows tok.Neg a v w v' w' e f = one_grows v v' (converted tok.Neg) e
  token_grows tok.Com a v w v' w' e f = one_grows v v' (converted tok.Com) e
  token_grows tok.Sxb a v w v' w' e f = one_grows v v' (converted tok.Sxb) e
  token_grows tok.Zxb a v w v' w' e f = one_grows v v' (converted tok.Zxb) e
  token_grows tok.Sxw a v w v' w' e f = one_grows v v' (converted tok.Sxw) e
  token_grows tok.Zxw a v w v' w' e f = one_grows v v' (converted tok.Zxw) e
  token_grows tok.Ncb a v w v' w' e f = one_grows v v' (converted tok.Ncb) e
  token_grows tok.Ncw a v w v' w' e f = one_grows v v' (converted tok.Ncw) e
  token_grows tok.AssignB a v w v' w' e f = inr refl
  token_grows tok.AssignW a v w v' w' e f = inr refl
  token_grows tok.AssignL a v w v' w' e f = inr refl
  token_grows tok.Cbr a v w v' w' e f = inr refl
  token_grows tok.Push a v w v' w' e f = inr refl
  token_grows tok.Ret a v w v' w' e f = inr refl
  token_grows tok.Call a v w v' w' e f = inr refl
  token_grows tok.Save a v w v' w' e f = inr refl
  token_grows tok.Jump a v w v' w' e f = inr refl
  token_grows tok.End a v w v' w' e f = inr refl

  given_grows : (v w : Value) (f : ℕ → Deed) → Grows Wild v w → Grows Strays (given v f) (given w f)
  given_grows v w f (inl e) = inl (ap (λ (x : Value). given x f) e)
  given_grows v w f (inr e) = inr (ap (λ (x : Value). given x f) e)

  assigned_grows : (o p : Option Meaning) (v w : Value) → OptionGrows o p → Grows Wild v w → Grows Strays (assigned o v) (assigned p w)
  assigned_grows None p v w e f = inl refl
  assigned_grows (Some g) None v w e f = absurd e
  assigned_grows (Some g) (Some h) v w (inl e) f = inl (ap (λ (x : Meaning). assigned (Some x) v) e)
  assigned_grows (Some g) (Some h) v w (inr e) f = subst (λ (x : Meaning). Grows Strays (assigned (Some g) v) (assigned (Some x) w)) e (by g)
    where
      by : (g : Meaning) → Grows Strays (assigned (Some g) v) (assigned (Some g) w)
      by (Of u) = inr refl
      by (Local k) = given_grows v w (Puts (Local k)) f
      by (Argument k) = given_grows v w (Puts (Argument k)) f
      by (Memory z a) = given_grows v w (Puts (Memory z a)) f

  branched_grows : (a : Att) (v w v' w' : Value) → Grows Wild v v' → Grows Wild w w' → Grows Strays (branched a v w) (branched a v' w')
  branched_grows att.Nothing v w v' w' e f = inr refl
  branched_grows (att.Number n) v w v' w' e f = inr refl
  branched_grows (att.Object o n) v w v' w' e f = inr refl
  branched_grows (att.Slot n) v w v' w' e f = inr refl
  branched_grows (att.Branch r n) v w v' w' (inl e) f = inl (ap (λ (x : Value). branched (att.Branch r n) x w) e)
  branched_grows (att.Branch r n) v w v' w' (inr e) (inr f) = inr (ap (λ (x : Value). branched (att.Branch r n) x w) e ∙ ap (λ (y : Value). branched (att.Branch r n) v' y) f)
  branched_grows (att.Branch r n) v w v' w' (inr e) (inl f) = subst (λ (z : Value). Grows Strays (branched (att.Branch r n) v w) (branched (att.Branch r n) z w')) e (by v)
    where
      by : (v : Value) → Grows Strays (branched (att.Branch r n) v w) (branched (att.Branch r n) v w')
      by (Number x) = inl (ap (λ (z : Value). given z (λ y. Branches r n x y)) f)
      by ZeroDivisor = inr refl
      by Wild = inl refl
  branched_grows (att.Label n) v w v' w' e f = inr refl
  branched_grows (att.Callee g n) v w v' w' e f = inr refl

  deed_grows : (k : Tok) (a : Att) (o p o' p' : Option Meaning) → OptionGrows o o' → OptionGrows p p' → Grows Strays (deed_of s k a o p) (deed_of t k a o' p')
  deed_grows tok.Zero a o p o' p' e f = inr refl
  deed_grows tok.One a o p o' p' e f = inr refl
  deed_grows tok.Two a o p o' p' e f = inr refl
  deed_grows tok.Four a o p o' p' e f = inr refl
  deed_grows tok.Eight a o p o' p' e f = inr refl
  deed_grows tok.Const a o p o' p' e f = inr refl
  deed_grows tok.Gaddr a o p o' p' e f = inr refl
  deed_grows tok.Loc a o p o' p' e f = inr refl
  deed_grows tok.Arg a o p o' p' e f = inr refl
  deed_grows tok.IndirB a o p o' p' e f = inr refl
  deed_grows tok.IndirW a o p o' p' e f = inr refl
  deed_grows tok.IndirL a o p o' p' e f = inr refl
  deed_grows tok.Plus a o p o' p' e f = inr refl
  deed_grows tok.Minus a o p o' p' e f = inr refl
  deed_grows tok.Mul a o p o' p' e f = inr refl
  deed_grows tok.Div a o p o' p' e f = inr refl
  deed_grows tok.Mod a o p o' p' e f = inr refl
  deed_grows tok.And a o p o' p' e f = inr refl
  deed_grows tok.Or a o p o' p' e f = inr refl
  deed_grows tok.Xor a o p o' p' e f = inr refl
  deed_grows tok.Lsh a o p o' p' e f = inr refl
  deed_grows tok.Rsh a o p o' p' e f = inr refl
  deed_grows tok.Neg a o p o' p' e f = inr refl
  deed_grows tok.Com a o p o' p' e f = inr refl
  deed_grows tok.Sxb a o p o' p' e f = inr refl
  deed_grows tok.Zxb a o p o' p' e f = inr refl
  deed_grows tok.Sxw a o p o' p' e f = inr refl
  deed_grows tok.Zxw a o p o' p' e f = inr refl
  deed_grows tok.Ncb a o p o' p' e f = inr refl
  deed_grows tok.Ncw a o p o' p' e f = inr refl
  deed_grows tok.AssignB a o p o' p' e f = assigned_grows o o' (kid s p) (kid t p') e (kid_grows p p' f)
  deed_grows tok.AssignW a o p o' p' e f = assigned_grows o o' (kid s p) (kid t p') e (kid_grows p p' f)
  deed_grows tok.AssignL a o p o' p' e f = assigned_grows o o' (kid s p) (kid t p') e (kid_grows p p' f)
  deed_grows tok.Cbr a o p o' p' e f = branched_grows a (kid s o) (kid s p) (kid t o') (kid t p') (kid_grows o o' e) (kid_grows p p' f)
  deed_grows tok.Push a o p o' p' e f = given_grows (kid s o) (kid t o') Pushes (kid_grows o o' e)
  deed_grows tok.Ret a o p o' p' e f = given_grows (kid s o) (kid t o') Returns (kid_grows o o' e)
  deed_grows tok.Call a o p o' p' e f = inr refl
  deed_grows tok.Save a o p o' p' e f = inr refl
  deed_grows tok.Jump a o p o' p' e f = inr refl
  deed_grows tok.End a o p o' p' e f = inr refl

  meanings_grow : (f : Forest) (k : ℕ) → OptionGrows (slice_get (meanings objects s f) k) (slice_get (meanings objects t f) k)
  meanings_grow none zero = tt
  meanings_grow none (suc k) = tt
  meanings_grow (tree l below behind) zero =
      token_grows l.tok l.att _ _ _ _ (kid_grows _ _ (meanings_grow below 0)) (kid_grows _ _ (meanings_grow below 1))
  meanings_grow (tree l below behind) (suc k) = meanings_grow behind k

  -- what a tree does where more is seen
  pub tree_deed_grows : (f : Forest) → Grows Strays (tree_deed objects s f) (tree_deed objects t f)
  tree_deed_grows none = inl refl
  tree_deed_grows (tree l below behind) = deed_grows l.tok l.att _ _ _ _ (meanings_grow below 0) (meanings_grow below 1)
