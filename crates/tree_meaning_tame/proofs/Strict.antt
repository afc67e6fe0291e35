-- A tree that has a value has one in all its parts.
use Rattle.std.proofs.Common.{◌≡◌, ◌⊎◌, inl, inr, ℕ, suc, List, [], ◌∷◌, Option, Some, None, refl, slice_get}
use Rattle.gg_base.specs.declared.size.Size.{Size}
use Rattle.gg_base.specs.declared.size.Size.TheVariants as sizes
use Rattle.tree_core.specs.declared.token.Tok.{Tok}
use Rattle.tree_core.specs.declared.token.Tok.TheVariants as tok
use Rattle.tree_core.specs.declared.token.Sort.{Sort}
use Rattle.tree_core.specs.declared.token.Sort.TheVariants as sort
use Rattle.tree_core.specs.declared.tree.Att.{Att}
use Rattle.tree_core.specs.declared.tree.Att.TheVariants as att
use Rattle.tree_core.specs.declared.tree.Leaf.{Leaf}
use Rattle.tree_core.specs.declared.program.Object.{Object}
use Rattle.tree_core.specs.Grammar.{kids}
use Rattle.tree_core.specs.Trees.{Forest, none, tree}
use Rattle.tree_meaning.specs.declared.value.Value.{Value}
use Rattle.tree_meaning.specs.declared.value.Value.TheVariants.{Number, ZeroDivisor, Wild}
use Rattle.tree_meaning.specs.declared.value.Meaning.{Meaning}
use Rattle.tree_meaning.specs.declared.value.Meaning.TheVariants.{Of, Local, Argument, Memory}
use Rattle.tree_meaning.specs.Operators.{operated, converted}
use Rattle.tree_meaning.specs.Values.{Sight, read, kid, bind, at, token_means, meanings}
use Rattle.tree_meaning.specs.Deeds.{Deed, Puts, Branches, Pushes, Returns, given, assigned, branched, deed_of}
use Rattle.tree_meaning_tame.specs.Tame.{tree_means}
use Rattle.tree_meaning_tame.specs.Tame.{IsTame, Tame, IsUndivided, Undivided}
use Rattle.tree_meaning_tame.specs.Claims.{IsDeed}

-- no statement is wanted
abbrev pub NoStmt : List Sort → Type 0
NoStmt [] = Unit {0}
NoStmt (x ∷ xs) = (x ≡ sort.Stmt → ⊥) × NoStmt xs

pub kids_no_stmt : (t : Tok) → NoStmt (kids t)
kids_no_stmt tok.Zero = tt
kids_no_stmt tok.One = tt
kids_no_stmt tok.Two = tt
kids_no_stmt tok.Four = tt
kids_no_stmt tok.Eight = tt
kids_no_stmt tok.Const = tt
kids_no_stmt tok.Gaddr = tt
kids_no_stmt tok.Loc = tt
kids_no_stmt tok.Arg = tt
kids_no_stmt tok.IndirB = ((λ e. cc), tt)
kids_no_stmt tok.IndirW = ((λ e. cc), tt)
kids_no_stmt tok.IndirL = ((λ e. cc), tt)
kids_no_stmt tok.Plus = ((λ e. cc), ((λ e. cc), tt))
kids_no_stmt tok.Minus = ((λ e. cc), ((λ e. cc), tt))
kids_no_stmt tok.Mul = ((λ e. cc), ((λ e. cc), tt))
kids_no_stmt tok.Div = ((λ e. cc), ((λ e. cc), tt))
kids_no_stmt tok.Mod = ((λ e. cc), ((λ e. cc), tt))
kids_no_stmt tok.And = ((λ e. cc), ((λ e. cc), tt))
kids_no_stmt tok.Or = ((λ e. cc), ((λ e. cc), tt))
kids_no_stmt tok.Xor = ((λ e. cc), ((λ e. cc), tt))
kids_no_stmt tok.Lsh = ((λ e. cc), ((λ e. cc), tt))
kids_no_stmt tok.Rsh = ((λ e. cc), ((λ e. cc), tt))
kids_no_stmt tok.Neg = ((λ e. cc), tt)
kids_no_stmt tok.Com = ((λ e. cc), tt)
kids_no_stmt tok.Sxb = ((λ e. cc), tt)
kids_no_stmt tok.Zxb = ((λ e. cc), tt)
kids_no_stmt tok.Sxw = ((λ e. cc), tt)
kids_no_stmt tok.Zxw = ((λ e. cc), tt)
kids_no_stmt tok.Ncb = ((λ e. cc), tt)
kids_no_stmt tok.Ncw = ((λ e. cc), tt)
kids_no_stmt tok.AssignB = ((λ e. cc), ((λ e. cc), tt))
kids_no_stmt tok.AssignW = ((λ e. cc), ((λ e. cc), tt))
kids_no_stmt tok.AssignL = ((λ e. cc), ((λ e. cc), tt))
kids_no_stmt tok.Cbr = ((λ e. cc), ((λ e. cc), tt))
kids_no_stmt tok.Push = ((λ e. cc), tt)
kids_no_stmt tok.Ret = ((λ e. cc), tt)
kids_no_stmt tok.Call = tt
kids_no_stmt tok.Save = tt
kids_no_stmt tok.Jump = tt
kids_no_stmt tok.End = tt

module _ (objects : List Object) (s : Sight) where
  -- a number
  pub record HasNumber (v : Value) : Type 0 where
    pub number : ℕ
    pub is : v ≡ Number number

  abbrev pub IsSpot : Meaning → Type 0
  IsSpot (Of v) = ⊥
  IsSpot g = Unit {0}

  abbrev pub SpotSome : Option Meaning → Type 0
  SpotSome None = ⊥
  SpotSome (Some g) = IsSpot g

  -- a number or a place, as the sort wants it
  abbrev pub Settled : Sort → Option Meaning → Type 0
  Settled sort.Stmt o = Unit {0}
  Settled sort.Long o = HasNumber (kid s o)
  Settled sort.Byte o = HasNumber (kid s o)
  Settled sort.Word o = HasNumber (kid s o)
  Settled x o = SpotSome o

  abbrev pub SettledAll : List Sort → List Meaning → ℕ → Type 0
  SettledAll [] gs k = Unit {0}
  SettledAll (x ∷ xs) gs k = Settled x (slice_get gs k) × SettledAll xs gs (suc k)

  settled_off : (xs : List Sort) (g : Meaning) (gs : List Meaning) (k : ℕ) → SettledAll xs (g ∷ gs) (suc k) → SettledAll xs gs k
  settled_off [] g gs k h = h
  settled_off (x ∷ xs) g gs k h = (h.0, settled_off xs g gs (suc k) h.1)

  -- it can be read as a number, or is a place
  abbrev Alive : Meaning → Type 0
  Alive g = HasNumber (read s g) ⊎ IsSpot g

  alive : (x : Sort) (g : Meaning) → (x ≡ sort.Stmt → ⊥) → Settled x (Some g) → Alive g
  alive sort.Stmt g e h = absurd (e refl)
  alive sort.Long g e h = inl h
  alive sort.Byte g e h = inl h
  alive sort.Word g e h = inl h
  alive sort.PlaceB g e h = inr h
  alive sort.PlaceW g e h = inr h
  alive sort.PlaceL g e h = inr h

  two_down : (v w : Value) (f : ℕ → ℕ → Value) → Alive (Of (bind v (λ x. bind w (λ y. f x y)))) → HasNumber v × HasNumber w
  two_down (Number x) (Number y) f h = (record { number = x; is = refl }, record { number = y; is = refl })
  two_down (Number x) ZeroDivisor f (inl h) = absurd (let e = h.is in cc)
  two_down (Number x) Wild f (inl h) = absurd (let e = h.is in cc)
  two_down ZeroDivisor w f (inl h) = absurd (let e = h.is in cc)
  two_down Wild w f (inl h) = absurd (let e = h.is in cc)
  two_down (Number x) ZeroDivisor f (inr h) = absurd h
  two_down (Number x) Wild f (inr h) = absurd h
  two_down ZeroDivisor w f (inr h) = absurd h
  two_down Wild w f (inr h) = absurd h

  one_down : (v : Value) (f : ℕ → Value) → Alive (Of (bind v f)) → HasNumber v
  one_down (Number x) f h = record { number = x; is = refl }
  one_down ZeroDivisor f (inl h) = absurd (let e = h.is in cc)
  one_down Wild f (inl h) = absurd (let e = h.is in cc)
  one_down ZeroDivisor f (inr h) = absurd h
  one_down Wild f (inr h) = absurd h

  at_down : (z : Size) (v : Value) → Alive (at z v) → HasNumber v
  at_down z (Number x) h = record { number = x; is = refl }
  at_down z ZeroDivisor (inl h) = absurd (let e = h.is in cc)
  at_down z Wild (inl h) = absurd (let e = h.is in cc)
  at_down z ZeroDivisor (inr h) = absurd h
  at_down z Wild (inr h) = absurd h

  given_down : (v : Value) (f : ℕ → Deed) → IsDeed (given v f) → HasNumber v
  given_down (Number n) f h = record { number = n; is = refl }
  given_down ZeroDivisor f h = absurd h
  given_down Wild f h = absurd h

  assigned_down : (o : Option Meaning) (v : Value) → IsDeed (assigned o v) → SpotSome o × HasNumber v
  assigned_down None v h = absurd h
  assigned_down (Some (Of (Number n))) v h = absurd h
  assigned_down (Some (Of ZeroDivisor)) v h = absurd h
  assigned_down (Some (Of Wild)) v h = absurd h
  assigned_down (Some (Local k)) v h = (tt, given_down v (Puts (Local k)) h)
  assigned_down (Some (Argument k)) v h = (tt, given_down v (Puts (Argument k)) h)
  assigned_down (Some (Memory z a)) v h = (tt, given_down v (Puts (Memory z a)) h)

  branched_down : (a : Att) (v w : Value) → IsDeed (branched a v w) → HasNumber v × HasNumber w
  branched_down (att.Branch r n) (Number x) w h = (record { number = x; is = refl }, given_down w (λ y. Branches r n x y) h)
  branched_down _ _ w h = absurd h

  -- what a token stands for is settled only where its kids are
  token_down : (t : Tok) (a : Att) (gs : List Meaning) → Alive (token_means objects s t a (kid s (slice_get gs 0)) (kid s (slice_get gs 1))) → SettledAll (kids t) gs 0
  token_down tok.Zero a gs h = tt
  token_down tok.One a gs h = tt
  token_down tok.Two a gs h = tt
  token_down tok.Four a gs h = tt
  token_down tok.Eight a gs h = tt
  token_down tok.Const a gs h = tt
  token_down tok.Gaddr a gs h = tt
  token_down tok.Loc a gs h = tt
  token_down tok.Arg a gs h = tt
  token_down tok.IndirB a gs h = (at_down sizes.Byte (kid s (slice_get gs 0)) h, tt)
  token_down tok.IndirW a gs h = (at_down sizes.Word (kid s (slice_get gs 0)) h, tt)
  token_down tok.IndirL a gs h = (at_down sizes.Long (kid s (slice_get gs 0)) h, tt)
  token_down tok.Plus a gs h = (let e = two_down (kid s (slice_get gs 0)) (kid s (slice_get gs 1)) (operated tok.Plus) h in (e.0, (e.1, tt)))
  token_down tok.Minus a gs h = (let e = two_down (kid s (slice_get gs 0)) (kid s (slice_get gs 1)) (operated tok.Minus) h in (e.0, (e.1, tt)))
  token_down tok.Mul a gs h = (let e = two_down (kid s (slice_get gs 0)) (kid s (slice_get gs 1)) (operated tok.Mul) h in (e.0, (e.1, tt)))
  token_down tok.Div a gs h = (let e = two_down (kid s (slice_get gs 0)) (kid s (slice_get gs 1)) (operated tok.Div) h in (e.0, (e.1, tt)))
  token_down tok.Mod a gs h = (let e = two_down (kid s (slice_get gs 0)) (kid s (slice_get gs 1)) (operated tok.Mod) h in (e.0, (e.1, tt)))
  token_down tok.And a gs h = (let e = two_down (kid s (slice_get gs 0)) (kid s (slice_get gs 1)) (operated tok.And) h in (e.0, (e.1, tt)))
  token_down tok.Or a gs h = (let e = two_down (kid s (slice_get gs 0)) (kid s (slice_get gs 1)) (operated tok.Or) h in (e.0, (e.1, tt)))
  token_down tok.Xor a gs h = (let e = two_down (kid s (slice_get gs 0)) (kid s (slice_get gs 1)) (operated tok.Xor) h in (e.0, (e.1, tt)))
  token_down tok.Lsh a gs h = (let e = two_down (kid s (slice_get gs 0)) (kid s (slice_get gs 1)) (operated tok.Lsh) h in (e.0, (e.1, tt)))
  token_down tok.Rsh a gs h = (let e = two_down (kid s (slice_get gs 0)) (kid s (slice_get gs 1)) (operated tok.Rsh) h in (e.0, (e.1, tt)))
  token_down tok.Neg a gs h = (one_down (kid s (slice_get gs 0)) (converted tok.Neg) h, tt)
  token_down tok.Com a gs h = (one_down (kid s (slice_get gs 0)) (converted tok.Com) h, tt)
  token_down tok.Sxb a gs h = (one_down (kid s (slice_get gs 0)) (converted tok.Sxb) h, tt)
  token_down tok.Zxb a gs h = (one_down (kid s (slice_get gs 0)) (converted tok.Zxb) h, tt)
  token_down tok.Sxw a gs h = (one_down (kid s (slice_get gs 0)) (converted tok.Sxw) h, tt)
  token_down tok.Zxw a gs h = (one_down (kid s (slice_get gs 0)) (converted tok.Zxw) h, tt)
  token_down tok.Ncb a gs h = (one_down (kid s (slice_get gs 0)) (converted tok.Ncb) h, tt)
  token_down tok.Ncw a gs h = (one_down (kid s (slice_get gs 0)) (converted tok.Ncw) h, tt)
  token_down tok.AssignB a gs (inl h) = absurd (let e = h.is in cc)
  token_down tok.AssignB a gs (inr h) = absurd h
  token_down tok.AssignW a gs (inl h) = absurd (let e = h.is in cc)
  token_down tok.AssignW a gs (inr h) = absurd h
  token_down tok.AssignL a gs (inl h) = absurd (let e = h.is in cc)
  token_down tok.AssignL a gs (inr h) = absurd h
  token_down tok.Cbr a gs (inl h) = absurd (let e = h.is in cc)
  token_down tok.Cbr a gs (inr h) = absurd h
  token_down tok.Push a gs (inl h) = absurd (let e = h.is in cc)
  token_down tok.Push a gs (inr h) = absurd h
  token_down tok.Ret a gs (inl h) = absurd (let e = h.is in cc)
  token_down tok.Ret a gs (inr h) = absurd h
  token_down tok.Call a gs h = tt
  token_down tok.Save a gs h = tt
  token_down tok.Jump a gs h = tt
  token_down tok.End a gs h = tt

  deed_down : (t : Tok) (a : Att) (gs : List Meaning) → IsDeed (deed_of s t a (slice_get gs 0) (slice_get gs 1)) → SettledAll (kids t) gs 0
  deed_down tok.AssignB a gs h = (let e = assigned_down (slice_get gs 0) (kid s (slice_get gs 1)) h in (e.0, (e.1, tt)))
  deed_down tok.AssignW a gs h = (let e = assigned_down (slice_get gs 0) (kid s (slice_get gs 1)) h in (e.0, (e.1, tt)))
  deed_down tok.AssignL a gs h = (let e = assigned_down (slice_get gs 0) (kid s (slice_get gs 1)) h in (e.0, (e.1, tt)))
  deed_down tok.Cbr a gs h = (let e = branched_down a (kid s (slice_get gs 0)) (kid s (slice_get gs 1)) h in (e.0, (e.1, tt)))
  deed_down tok.Push a gs h = (given_down (kid s (slice_get gs 0)) Pushes h, tt)
  deed_down tok.Ret a gs h = (given_down (kid s (slice_get gs 0)) Returns h, tt)
  deed_down tok.Call a gs h = tt
  deed_down tok.Save a gs h = tt
  deed_down tok.Jump a gs h = tt
  deed_down _ a gs h = absurd h

  settled_tame : (x : Sort) (g : Meaning) → Settled x (Some g) → IsTame objects s x g
  settled_tame sort.Stmt g h = tt
  settled_tame sort.Long g h = λ e. let f = h.is in cc
  settled_tame sort.Byte g h = λ e. let f = h.is in cc
  settled_tame sort.Word g h = λ e. let f = h.is in cc
  settled_tame sort.PlaceB g h = tt
  settled_tame sort.PlaceW g h = tt
  settled_tame sort.PlaceL g h = tt

  spot_no_zero : (g : Meaning) → IsSpot g → g ≡ Of ZeroDivisor → ⊥
  spot_no_zero (Of v) h e = h
  spot_no_zero (Local k) h e = cc
  spot_no_zero (Argument k) h e = cc
  spot_no_zero (Memory z a) h e = cc

  settled_undivided : (x : Sort) (g : Meaning) → Settled x (Some g) → IsUndivided objects s x g
  settled_undivided sort.Stmt g h = tt
  settled_undivided sort.Long g h = λ e. let f = h.is in cc
  settled_undivided sort.Byte g h = λ e. let f = h.is in cc
  settled_undivided sort.Word g h = λ e. let f = h.is in cc
  settled_undivided sort.PlaceB g h = spot_no_zero g h
  settled_undivided sort.PlaceW g h = spot_no_zero g h
  settled_undivided sort.PlaceL g h = spot_no_zero g h

  pub settled_below : (xs : List Sort) (f : Forest) → NoStmt xs → SettledAll xs (meanings objects s f) 0 → Tame objects s xs f × Undivided objects s xs f
  settled_below [] f some h = (tt, tt)
  settled_below (x ∷ xs) none some h = (tt, tt)
  settled_below (x ∷ xs) (tree l below behind) some h =
      let g = tree_means objects s l below in
      let low = settled_below (kids l.tok) below (kids_no_stmt l.tok) (token_down l.tok l.att (meanings objects s below) (alive x g some.0 h.0)) in
      let high = settled_below xs behind some.1 (settled_off xs g (meanings objects s behind) 0 h.1) in
      ((settled_tame x g h.0, low.0, high.0), (settled_undivided x g h.0, low.1, high.1))

  -- where a statement's deed is done, no part of its tree is wild, and nowhere is a divisor zero
  pub deed_settled : (l : Leaf) (f : Forest) → IsDeed (deed_of s l.tok l.att (slice_get (meanings objects s f) 0) (slice_get (meanings objects s f) 1))
      → Tame objects s (kids l.tok) f × Undivided objects s (kids l.tok) f
  deed_settled l f h = settled_below (kids l.tok) f (kids_no_stmt l.tok) (deed_down l.tok l.att (meanings objects s f) h)
