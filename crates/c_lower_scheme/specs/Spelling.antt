-- The leaves of trees, in prefix order.
use Rattle.std.specs.Prelude.{ℕ, suc, List, [], ◌∷◌, map, ◌==◌, if◌then◌else◌}
use Rattle.c_types.specs.declared.types.Integer.{Integer}
use Rattle.c_types.specs.declared.types.Integer.TheVariants as ints
use Rattle.c_types.specs.declared.typed.ArithmeticOperator.{ArithmeticOperator}
use Rattle.c_types.specs.declared.typed.ArithmeticOperator.TheVariants as ariths
use Rattle.tree_core.specs.declared.token.Tok.{Tok}
use Rattle.tree_core.specs.declared.token.Tok.TheVariants as tok
use Rattle.tree_core.specs.declared.tree.Att.{Att}
use Rattle.tree_core.specs.declared.tree.Att.TheVariants as att
use Rattle.tree_core.specs.declared.tree.Leaf.{Leaf}
use Rattle.tree_core.specs.declared.program.TreeItem.{TreeItem}
use Rattle.tree_core.specs.declared.program.TreeItem.TheVariants as tree_item
use Rattle.tree_core.specs.Attributes.{end_leaf}
use Rattle.c_lower_scheme.specs.Trees.{Tree, Num, Gaddr, Loc, Arg, Indir, Conv, Neg, Com, Bin, Item, Label, AssignLoc}
use Rattle.c_lower_scheme.specs.Trees.{AssignArg, AssignMem, Cbr, Jump, Push, Call, Save, Ret}

abbrev pub leaf : Tok → Att → Leaf
leaf t a = record { tok = t; att = a }

-- a token without an attribute
abbrev pub plain : Tok → Leaf
plain t = leaf t att.Nothing

-- the token of a number
abbrev pub constant_token : ℕ → Tok
constant_token n =
    if n == 0 then tok.Zero
    else if n == 1 then tok.One
    else if n == 2 then tok.Two
    else if n == 4 then tok.Four
    else if n == 8 then tok.Eight
    else tok.Const

abbrev pub operator_token : ArithmeticOperator → Tok
operator_token ariths.Add = tok.Plus
operator_token ariths.Subtract = tok.Minus
operator_token ariths.Multiply = tok.Mul
operator_token ariths.Divide = tok.Div
operator_token ariths.Remainder = tok.Mod
operator_token ariths.And = tok.And
operator_token ariths.Xor = tok.Xor
operator_token ariths.Or = tok.Or
operator_token ariths.ShiftLeft = tok.Lsh
operator_token ariths.ShiftRight = tok.Rsh

-- a reading by size, under its extension
abbrev pub indir_onto : Integer → List Leaf → List Leaf
indir_onto ints.Char w = plain tok.Sxb ∷ plain tok.IndirB ∷ w
indir_onto ints.UnsignedChar w = plain tok.Zxb ∷ plain tok.IndirB ∷ w
indir_onto ints.Short w = plain tok.Sxw ∷ plain tok.IndirW ∷ w
indir_onto ints.UnsignedShort w = plain tok.Zxw ∷ plain tok.IndirW ∷ w
indir_onto ints.Int w = plain tok.IndirL ∷ w

-- a conversion: the low bits, and their extension
abbrev pub conv_onto : Integer → List Leaf → List Leaf
conv_onto ints.Char w = plain tok.Sxb ∷ plain tok.Ncb ∷ w
conv_onto ints.UnsignedChar w = plain tok.Zxb ∷ plain tok.Ncb ∷ w
conv_onto ints.Short w = plain tok.Sxw ∷ plain tok.Ncw ∷ w
conv_onto ints.UnsignedShort w = plain tok.Zxw ∷ plain tok.Ncw ∷ w
conv_onto ints.Int w = w

-- a tree's leaves, in front of others
abbrev pub leaves_onto : Tree → List Leaf → List Leaf
leaves_onto (Num n) w = leaf (constant_token n) (att.Number n) ∷ w
leaves_onto (Gaddr n) w = leaf tok.Gaddr (att.Object n 0) ∷ w
leaves_onto (Loc n) w = leaf tok.Loc (att.Slot n) ∷ w
leaves_onto (Arg n) w = leaf tok.Arg (att.Slot (suc n)) ∷ w
leaves_onto (Indir i a) w = indir_onto i (leaves_onto a w)
leaves_onto (Conv i a) w = conv_onto i (leaves_onto a w)
leaves_onto (Neg a) w = plain tok.Neg ∷ leaves_onto a w
leaves_onto (Com a) w = plain tok.Com ∷ leaves_onto a w
leaves_onto (Bin op a b) w = plain (operator_token op) ∷ leaves_onto a (leaves_onto b w)

-- an assignment to memory, whose value is narrowed to the place's size
abbrev pub assign_onto : Integer → Tree → Tree → List Leaf → List Leaf
assign_onto ints.Char a w rest = plain tok.AssignB ∷ plain tok.IndirB ∷ leaves_onto a (plain tok.Ncb ∷ leaves_onto w rest)
assign_onto ints.UnsignedChar a w rest = plain tok.AssignB ∷ plain tok.IndirB ∷ leaves_onto a (plain tok.Ncb ∷ leaves_onto w rest)
assign_onto ints.Short a w rest = plain tok.AssignW ∷ plain tok.IndirW ∷ leaves_onto a (plain tok.Ncw ∷ leaves_onto w rest)
assign_onto ints.UnsignedShort a w rest = plain tok.AssignW ∷ plain tok.IndirW ∷ leaves_onto a (plain tok.Ncw ∷ leaves_onto w rest)
assign_onto ints.Int a w rest = plain tok.AssignL ∷ plain tok.IndirL ∷ leaves_onto a (leaves_onto w rest)

-- an item's leaves, with End behind them
abbrev pub spelled : Item → TreeItem
spelled (Label l) = tree_item.Label l
spelled (AssignLoc n w) = tree_item.Root (plain tok.AssignL ∷ leaf tok.Loc (att.Slot n) ∷ leaves_onto w (end_leaf ∷ []))
spelled (AssignArg n w) = tree_item.Root (plain tok.AssignL ∷ leaf tok.Arg (att.Slot (suc n)) ∷ leaves_onto w (end_leaf ∷ []))
spelled (AssignMem i a w) = tree_item.Root (assign_onto i a w (end_leaf ∷ []))
spelled (Cbr rel l a b) = tree_item.Root (leaf tok.Cbr (att.Branch rel l) ∷ leaves_onto a (leaves_onto b (end_leaf ∷ [])))
spelled (Jump l) = tree_item.Root (leaf tok.Jump (att.Label l) ∷ end_leaf ∷ [])
spelled (Push w) = tree_item.Root (plain tok.Push ∷ leaves_onto w (end_leaf ∷ []))
spelled (Call f count) = tree_item.Root (leaf tok.Call (att.Callee f count) ∷ end_leaf ∷ [])
spelled (Save n) = tree_item.Root (leaf tok.Save (att.Slot n) ∷ end_leaf ∷ [])
spelled (Ret w) = tree_item.Root (plain tok.Ret ∷ leaves_onto w (end_leaf ∷ []))

abbrev pub spelled_all : List Item → List TreeItem
spelled_all is = map spelled is
