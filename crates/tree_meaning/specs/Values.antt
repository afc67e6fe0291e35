-- The value of a tree: a number, a zero divisor or a wild access, whichever comes first from left to right.
use Rattle.std.specs.Prelude.{ℕ, ◌-◌, List, [], ◌∷◌, Option, Some, None, slice_get}
use Rattle.gg_base.specs.declared.size.Size.{Size}
use Rattle.gg_base.specs.declared.size.Size.TheVariants as sizes
use Rattle.gg_base.specs.Arithmetic.{add32}
use Rattle.tree_core.specs.declared.token.Tok.{Tok}
use Rattle.tree_core.specs.declared.token.Tok.TheVariants as tok
use Rattle.tree_core.specs.declared.tree.Att.{Att}
use Rattle.tree_core.specs.declared.tree.Att.TheVariants as att
use Rattle.tree_core.specs.declared.tree.Leaf.{Leaf}
use Rattle.tree_core.specs.declared.program.Object.{Object}
use Rattle.tree_core.specs.Trees.{Forest, none, tree}
use Rattle.tree_core.specs.Area.{fetched}
use Rattle.tree_meaning.specs.declared.value.Value.{Value}
use Rattle.tree_meaning.specs.declared.value.Value.TheVariants.{Number, ZeroDivisor, Wild}
use Rattle.tree_meaning.specs.declared.value.Meaning.{Meaning}
use Rattle.tree_meaning.specs.declared.value.Meaning.TheVariants.{Of, Local, Argument, Memory}
use Rattle.tree_meaning.specs.Operators.{operated, converted}

-- What a tree reads: the locals that its call has written, the call's arguments from argument 1 on, and the data area.
pub record Sight : Type 0 where
  pub locals : ℕ → Option ℕ
  pub arguments : List ℕ
  pub area : List ℕ

-- what is there, or a wild access
abbrev pub there : Option ℕ → Value
there None = Wild
there (Some n) = Number n

-- the value that a place has, or the value itself
abbrev pub read : Sight → Meaning → Value
read s (Of v) = v
read s (Local n) = there (s.locals n)
read s (Argument n) = there (slice_get s.arguments (n - 1))
read s (Memory size address) = there (fetched size s.area address)

-- a kid's value, if there is such a kid
abbrev pub kid : Sight → Option Meaning → Value
kid s None = Wild
kid s (Some m) = read s m

-- a value made of one, and of two from left to right
abbrev pub bind : Value → (ℕ → Value) → Value
bind (Number n) f = f n
bind ZeroDivisor f = ZeroDivisor
bind Wild f = Wild

abbrev pub one : Value → (ℕ → Value) → Meaning
one v f = Of (bind v f)

abbrev pub two : Value → Value → (ℕ → ℕ → Value) → Meaning
two v w f = Of (bind v (λ x. bind w (λ y. f x y)))

-- the place in memory at an address
abbrev pub at : Size → Value → Meaning
at size (Number n) = Memory size n
at size ZeroDivisor = Of ZeroDivisor
at size Wild = Of Wild

abbrev pub address_of : Option Object → ℕ → Value
address_of None offset = Wild
address_of (Some o) offset = Number (add32 o.address offset)

-- what attributes stand for
abbrev pub constant : Att → Meaning
constant att.Nothing = Of Wild
constant (att.Number n) = Of (Number n)
constant (att.Object object offset) = Of Wild
constant (att.Slot n) = Of Wild
constant (att.Branch rel label) = Of Wild
constant (att.Label label) = Of Wild
constant (att.Callee function count) = Of Wild

abbrev pub object_at : List Object → Att → Meaning
object_at objects att.Nothing = Of Wild
object_at objects (att.Number n) = Of Wild
object_at objects (att.Object object offset) = Of (address_of (slice_get objects object) offset)
object_at objects (att.Slot n) = Of Wild
object_at objects (att.Branch rel label) = Of Wild
object_at objects (att.Label label) = Of Wild
object_at objects (att.Callee function count) = Of Wild

abbrev pub slot : (ℕ → Meaning) → Att → Meaning
slot f att.Nothing = Of Wild
slot f (att.Number n) = Of Wild
slot f (att.Object object offset) = Of Wild
slot f (att.Slot n) = f n
slot f (att.Branch rel label) = Of Wild
slot f (att.Label label) = Of Wild
slot f (att.Callee function count) = Of Wild

module _ (objects : List Object) (s : Sight) where
  -- what a token stands for over its kids' values
  abbrev pub token_means : Tok → Att → Value → Value → Meaning
  token_means tok.Zero a v w = Of (Number 0)
  token_means tok.One a v w = Of (Number 1)
  token_means tok.Two a v w = Of (Number 2)
  token_means tok.Four a v w = Of (Number 4)
  token_means tok.Eight a v w = Of (Number 8)
  token_means tok.Const a v w = constant a
  token_means tok.Gaddr a v w = object_at objects a
  token_means tok.Loc a v w = slot Local a
  token_means tok.Arg a v w = slot Argument a
  token_means tok.IndirB a v w = at sizes.Byte v
  token_means tok.IndirW a v w = at sizes.Word v
  token_means tok.IndirL a v w = at sizes.Long v
  token_means tok.Plus a v w = two v w (operated tok.Plus)
  token_means tok.Minus a v w = two v w (operated tok.Minus)
  token_means tok.Mul a v w = two v w (operated tok.Mul)
  token_means tok.Div a v w = two v w (operated tok.Div)
  token_means tok.Mod a v w = two v w (operated tok.Mod)
  token_means tok.And a v w = two v w (operated tok.And)
  token_means tok.Or a v w = two v w (operated tok.Or)
  token_means tok.Xor a v w = two v w (operated tok.Xor)
  token_means tok.Lsh a v w = two v w (operated tok.Lsh)
  token_means tok.Rsh a v w = two v w (operated tok.Rsh)
  token_means tok.Neg a v w = one v (converted tok.Neg)
  token_means tok.Com a v w = one v (converted tok.Com)
  token_means tok.Sxb a v w = one v (converted tok.Sxb)
  token_means tok.Zxb a v w = one v (converted tok.Zxb)
  token_means tok.Sxw a v w = one v (converted tok.Sxw)
  token_means tok.Zxw a v w = one v (converted tok.Zxw)
  token_means tok.Ncb a v w = one v (converted tok.Ncb)
  token_means tok.Ncw a v w = one v (converted tok.Ncw)
  token_means t a v w = Of Wild

  abbrev pub leaf_means : Leaf → Option Meaning → Option Meaning → Meaning
  leaf_means l m n = token_means l.tok l.att (kid s m) (kid s n)

  -- what trees stand for, one after another
  abbrev pub meanings : Forest → List Meaning
  meanings none = []
  meanings (tree l below behind) = leaf_means l (slice_get (meanings below) 0) (slice_get (meanings below) 1) ∷ meanings behind
