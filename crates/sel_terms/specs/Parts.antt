-- What the parts of a rule's pattern stand for.
use Rattle.std.specs.Prelude.{ℕ, List, [], ◌∷◌, map, Option, Some}
use Rattle.gg_base.specs.declared.size.Size.{Size}
use Rattle.gg_base.specs.declared.size.Size.TheVariants.{Byte, Word, Long}
use Rattle.tree_core.specs.declared.token.Tok.{Tok}
use Rattle.tree_core.specs.declared.token.Tok.TheVariants as tok
use Rattle.md_reader.specs.declared.types.Kind.{Kind}
use Rattle.md_reader.specs.declared.types.Kind.TheVariants as kind
use Rattle.md_reader.specs.declared.types.Class.{Class}
use Rattle.md_reader.specs.declared.types.Sym.{Sym}
use Rattle.md_reader.specs.declared.types.Sym.TheVariants as grammar_symbol
use Rattle.md_reader.specs.Patterns.{kind_at}
use Rattle.term_core.specs.declared.operator.UnaryOp.TheVariants as unary_op
use Rattle.term_core.specs.declared.operator.BinaryOp.TheVariants as binary_op
use Rattle.sel_terms.specs.declared.role.Role.{Role}
use Rattle.sel_terms.specs.declared.role.Role.TheVariants as role
use Rattle.sel_terms.specs.declared.role.LeafRole.{LeafRole}
use Rattle.sel_terms.specs.declared.role.LeafRole.TheVariants as leaf_role
use Rattle.sel_terms.specs.declared.role.OneRole.{OneRole}
use Rattle.sel_terms.specs.declared.role.OneRole.TheVariants as one_role
use Rattle.sel_terms.specs.declared.role.TwoRole.{TwoRole}
use Rattle.sel_terms.specs.declared.role.TwoRole.TheVariants as two_role
use Rattle.sel_terms.specs.declared.part.Part.{Part}
use Rattle.sel_terms.specs.declared.part.Part.TheVariants as part
use Rattle.sel_terms.specs.declared.part.Subtree.{Subtree}
use Rattle.term_core.specs.Shape.{Shape, Constant, Symbol, Memory, Unary, Binary, shape_of}
use Rattle.sel_terms.specs.Effects.{ActShape, StoreHome, StoreAt, Branch, Push, Call, Save, Return, Jump, act_of}

-- a value, the place of a symbol, memory at an address, or a statement
pub data PartShape : Type 0 where
  Worth : (t : Shape) → PartShape
  Home : (size : Size) (i : ℕ) → PartShape
  At : (size : Size) (a : Shape) → PartShape
  Does : (a : ActShape) → PartShape

pub record SubtreeShape : Type 0 where
  pub part : PartShape
  pub divisors : List Shape

abbrev pub part_of : Part → PartShape
part_of (part.Worth t) = Worth (shape_of t)
part_of (part.Home size i) = Home size i
part_of (part.At size a) = At size (shape_of a)
part_of (part.Does a) = Does (act_of a)

abbrev pub subtree_of : Subtree → SubtreeShape
subtree_of s = record { part = part_of s.part; divisors = map shape_of s.divisors.items }

-- what each token is to the tokens above it
abbrev pub role_of_token : Tok → Role
role_of_token tok.Zero = role.Leaf (leaf_role.Constant 0)
role_of_token tok.One = role.Leaf (leaf_role.Constant 1)
role_of_token tok.Two = role.Leaf (leaf_role.Constant 2)
role_of_token tok.Four = role.Leaf (leaf_role.Constant 4)
role_of_token tok.Eight = role.Leaf (leaf_role.Constant 8)
role_of_token tok.Const = role.Leaf leaf_role.Symbol
role_of_token tok.Gaddr = role.Leaf leaf_role.Symbol
role_of_token tok.Loc = role.Leaf (leaf_role.Home Long)
role_of_token tok.Arg = role.Leaf (leaf_role.Home Long)
role_of_token tok.IndirB = role.One (one_role.Memory Byte)
role_of_token tok.IndirW = role.One (one_role.Memory Word)
role_of_token tok.IndirL = role.One (one_role.Memory Long)
role_of_token tok.Plus = role.Two (two_role.Operator binary_op.Add)
role_of_token tok.Minus = role.Two (two_role.Operator binary_op.Sub)
role_of_token tok.Mul = role.Two (two_role.Operator binary_op.Mul)
role_of_token tok.Div = role.Two two_role.Quotient
role_of_token tok.Mod = role.Two two_role.Remainder
role_of_token tok.And = role.Two (two_role.Operator binary_op.And)
role_of_token tok.Or = role.Two (two_role.Operator binary_op.Or)
role_of_token tok.Xor = role.Two (two_role.Operator binary_op.Xor)
role_of_token tok.Lsh = role.Two two_role.LeftShift
role_of_token tok.Rsh = role.Two two_role.RightShift
role_of_token tok.Neg = role.One (one_role.Operator unary_op.Neg)
role_of_token tok.Com = role.One (one_role.Operator unary_op.Com)
role_of_token tok.Sxb = role.One (one_role.Operator unary_op.Sx8)
role_of_token tok.Zxb = role.One (one_role.Operator unary_op.Zx8)
role_of_token tok.Sxw = role.One (one_role.Operator unary_op.Sx16)
role_of_token tok.Zxw = role.One (one_role.Operator unary_op.Zx16)
role_of_token tok.Ncb = role.One (one_role.Operator unary_op.Zx8)
role_of_token tok.Ncw = role.One (one_role.Operator unary_op.Zx16)
role_of_token tok.AssignB = role.Two two_role.Assign
role_of_token tok.AssignW = role.Two two_role.Assign
role_of_token tok.AssignL = role.Two two_role.Assign
role_of_token tok.Cbr = role.Two two_role.Branch
role_of_token tok.Push = role.One one_role.Push
role_of_token tok.Ret = role.One one_role.Return
role_of_token tok.Call = role.Leaf leaf_role.Call
role_of_token tok.Save = role.Leaf leaf_role.Save
role_of_token tok.Jump = role.Leaf leaf_role.Jump
role_of_token tok.End = role.Leaf leaf_role.Jump

-- a class of places stands for a place, and any other for a value
abbrev pub role_of_kind : Option Kind → LeafRole
role_of_kind (Some (kind.Place size)) = leaf_role.Home size
role_of_kind k = leaf_role.Symbol

abbrev pub role_of : List Class → Sym → Role
role_of classes (grammar_symbol.Tok t) = role_of_token t
role_of classes (grammar_symbol.Class c) = role.Leaf (role_of_kind (kind_at classes c))

-- the value of a part: a place is worth what it holds
abbrev pub value_of : PartShape → Shape
value_of (Worth t) = t
value_of (Home size i) = Symbol i
value_of (At size a) = Memory size a
value_of (Does a) = Constant 0

abbrev pub store : PartShape → Shape → ActShape
store (Home size i) t = StoreHome size i t
store (At size a) t = StoreAt size a t
store p t = Push t

abbrev pub leaf_part : ℕ → LeafRole → PartShape
leaf_part i (leaf_role.Constant n) = Worth (Constant n)
leaf_part i leaf_role.Symbol = Worth (Symbol i)
leaf_part i (leaf_role.Home size) = Home size i
leaf_part i leaf_role.Call = Does Call
leaf_part i leaf_role.Save = Does (Save i)
leaf_part i leaf_role.Jump = Does Jump

abbrev pub one_part : OneRole → Shape → PartShape
one_part (one_role.Memory size) a = At size a
one_part (one_role.Operator op) t = Worth (Unary op t)
one_part one_role.Push t = Does (Push t)
one_part one_role.Return t = Does (Return t)

-- a count is taken modulo 32; a remainder is what the quotient leaves
abbrev pub low_count : Shape → Shape
low_count n = Binary binary_op.And n (Constant 31)

abbrev pub remainder : Shape → Shape → Shape
remainder a b = Binary binary_op.Sub a (Binary binary_op.Mul (Binary binary_op.Div a b) b)

abbrev pub two_part : ℕ → TwoRole → PartShape → Shape → PartShape
two_part i (two_role.Operator op) p b = Worth (Binary op (value_of p) b)
two_part i two_role.Quotient p b = Worth (Binary binary_op.Div (value_of p) b)
two_part i two_role.Remainder p b = Worth (remainder (value_of p) b)
two_part i two_role.LeftShift p n = Worth (Binary binary_op.Ash (low_count n) (value_of p))
two_part i two_role.RightShift p n = Worth (Binary binary_op.Ash (Unary unary_op.Neg (low_count n)) (value_of p))
two_part i two_role.Assign p t = Does (store p t)
two_part i two_role.Branch p b = Does (Branch i (value_of p) b)

-- what a token itself divides by
abbrev pub own_divisors : TwoRole → Shape → List Shape
own_divisors two_role.Quotient b = b ∷ []
own_divisors two_role.Remainder b = b ∷ []
own_divisors r b = []
