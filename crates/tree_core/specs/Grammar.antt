-- The tree grammar: which kids a token has, and of which sort its tree is.
use Rattle.std.specs.Prelude.{List, [], ◌∷◌, Option, Some, None, Bool, true, false}
use Rattle.tree_core.specs.declared.token.Tok.{Tok}
use Rattle.tree_core.specs.declared.token.Tok.TheVariants as tok
use Rattle.tree_core.specs.declared.token.Sort.{Sort}
use Rattle.tree_core.specs.declared.token.Sort.TheVariants as sort

-- a token without kids, with one kid, and with two
abbrev pub leaf_of : Sort → Option (List Sort × Sort)
leaf_of x = Some ([], x)

abbrev pub one_of : Sort → Sort → Option (List Sort × Sort)
one_of a x = Some (a ∷ [], x)

abbrev pub two_of : Sort → Sort → Sort → Option (List Sort × Sort)
two_of a b x = Some (a ∷ b ∷ [], x)

-- for each token the sorts of its kids, from left to right, and its tree's own sort
abbrev pub production : Tok → Option (List Sort × Sort)
production tok.Zero = leaf_of sort.Long
production tok.One = leaf_of sort.Long
production tok.Two = leaf_of sort.Long
production tok.Four = leaf_of sort.Long
production tok.Eight = leaf_of sort.Long
production tok.Const = leaf_of sort.Long
production tok.Gaddr = leaf_of sort.Long
production tok.Loc = leaf_of sort.PlaceL
production tok.Arg = leaf_of sort.PlaceL
production tok.IndirB = one_of sort.Long sort.PlaceB
production tok.IndirW = one_of sort.Long sort.PlaceW
production tok.IndirL = one_of sort.Long sort.PlaceL
production tok.Plus = two_of sort.Long sort.Long sort.Long
production tok.Minus = two_of sort.Long sort.Long sort.Long
production tok.Mul = two_of sort.Long sort.Long sort.Long
production tok.Div = two_of sort.Long sort.Long sort.Long
production tok.Mod = two_of sort.Long sort.Long sort.Long
production tok.And = two_of sort.Long sort.Long sort.Long
production tok.Or = two_of sort.Long sort.Long sort.Long
production tok.Xor = two_of sort.Long sort.Long sort.Long
production tok.Lsh = two_of sort.Long sort.Long sort.Long
production tok.Rsh = two_of sort.Long sort.Long sort.Long
production tok.Neg = one_of sort.Long sort.Long
production tok.Com = one_of sort.Long sort.Long
production tok.Sxb = one_of sort.Byte sort.Long
production tok.Zxb = one_of sort.Byte sort.Long
production tok.Sxw = one_of sort.Word sort.Long
production tok.Zxw = one_of sort.Word sort.Long
production tok.Ncb = one_of sort.Long sort.Byte
production tok.Ncw = one_of sort.Long sort.Word
production tok.AssignB = two_of sort.PlaceB sort.Byte sort.Stmt
production tok.AssignW = two_of sort.PlaceW sort.Word sort.Stmt
production tok.AssignL = two_of sort.PlaceL sort.Long sort.Stmt
production tok.Cbr = two_of sort.Long sort.Long sort.Stmt
production tok.Push = one_of sort.Long sort.Stmt
production tok.Ret = one_of sort.Long sort.Stmt
production tok.Call = leaf_of sort.Stmt
production tok.Save = leaf_of sort.Stmt
production tok.Jump = leaf_of sort.Stmt
production tok.End = None

abbrev pub kids_of_production : Option (List Sort × Sort) → List Sort
kids_of_production None = []
kids_of_production (Some p) = p.0

abbrev pub sort_of_production : Option (List Sort × Sort) → Option Sort
sort_of_production None = None
sort_of_production (Some p) = Some p.1

-- the sorts of a token's kids
abbrev pub kids : Tok → List Sort
kids t = kids_of_production (production t)

-- the sort of a token's tree
abbrev pub sort_of : Tok → Option Sort
sort_of t = sort_of_production (production t)

-- a tree of the first sort may stand where the second is wanted: a place for the value that it holds
abbrev pub fits : Sort → Sort → Bool
fits sort.Stmt sort.Stmt = true
fits sort.Long sort.Long = true
fits sort.Byte sort.Byte = true
fits sort.Word sort.Word = true
fits sort.PlaceB sort.PlaceB = true
fits sort.PlaceW sort.PlaceW = true
fits sort.PlaceL sort.PlaceL = true
fits sort.PlaceB sort.Byte = true
fits sort.PlaceW sort.Word = true
fits sort.PlaceL sort.Long = true
fits s x = false
