-- Which attribute a token stands with.
use Rattle.std.specs.Prelude.{ℕ, ◌==◌, ◌&&◌, nat_le, not, Bool, true, false, List, [], ◌∷◌, is_none}
use Rattle.std.specs.List.{list_any}
use Rattle.tree_core.specs.declared.token.Tok.{Tok}
use Rattle.tree_core.specs.declared.token.Tok.TheVariants as tok
use Rattle.tree_core.specs.declared.tree.Att.{Att}
use Rattle.tree_core.specs.declared.tree.Att.TheVariants as att
use Rattle.tree_core.specs.declared.tree.Leaf.{Leaf}
use Rattle.tree_core.specs.declared.token.AttKind.{AttKind}
use Rattle.tree_core.specs.declared.token.AttKind.TheVariants as att_kind
use Rattle.tree_core.specs.Grammar.{sort_of}

-- the kind of attribute that each token has
abbrev pub attribute_of : Tok → AttKind
attribute_of tok.Zero = att_kind.Own 0
attribute_of tok.One = att_kind.Own 1
attribute_of tok.Two = att_kind.Own 2
attribute_of tok.Four = att_kind.Own 4
attribute_of tok.Eight = att_kind.Own 8
attribute_of tok.Const = att_kind.Other
attribute_of tok.Gaddr = att_kind.Object
attribute_of tok.Loc = att_kind.Local
attribute_of tok.Arg = att_kind.Argument
attribute_of tok.IndirB = att_kind.Nothing
attribute_of tok.IndirW = att_kind.Nothing
attribute_of tok.IndirL = att_kind.Nothing
attribute_of tok.Plus = att_kind.Nothing
attribute_of tok.Minus = att_kind.Nothing
attribute_of tok.Mul = att_kind.Nothing
attribute_of tok.Div = att_kind.Nothing
attribute_of tok.Mod = att_kind.Nothing
attribute_of tok.And = att_kind.Nothing
attribute_of tok.Or = att_kind.Nothing
attribute_of tok.Xor = att_kind.Nothing
attribute_of tok.Lsh = att_kind.Nothing
attribute_of tok.Rsh = att_kind.Nothing
attribute_of tok.Neg = att_kind.Nothing
attribute_of tok.Com = att_kind.Nothing
attribute_of tok.Sxb = att_kind.Nothing
attribute_of tok.Zxb = att_kind.Nothing
attribute_of tok.Sxw = att_kind.Nothing
attribute_of tok.Zxw = att_kind.Nothing
attribute_of tok.Ncb = att_kind.Nothing
attribute_of tok.Ncw = att_kind.Nothing
attribute_of tok.AssignB = att_kind.Nothing
attribute_of tok.AssignW = att_kind.Nothing
attribute_of tok.AssignL = att_kind.Nothing
attribute_of tok.Cbr = att_kind.Branch
attribute_of tok.Push = att_kind.Nothing
attribute_of tok.Ret = att_kind.Nothing
attribute_of tok.Call = att_kind.Callee
attribute_of tok.Save = att_kind.Local
attribute_of tok.Jump = att_kind.Label
attribute_of tok.End = att_kind.Nothing

-- the constants that have tokens of their own
abbrev pub own_constants : List ℕ
own_constants = 0 ∷ 1 ∷ 2 ∷ 4 ∷ 8 ∷ []

-- an attribute is of the kind, and in its range
abbrev pub is_of_kind : AttKind → Att → Bool
is_of_kind att_kind.Nothing att.Nothing = true
is_of_kind (att_kind.Own k) (att.Number n) = n == k
is_of_kind att_kind.Other (att.Number n) = not (list_any (λ k. n == k) own_constants)
is_of_kind att_kind.Object (att.Object object offset) = not (offset == 2147483648)
is_of_kind att_kind.Local (att.Slot n) = true
is_of_kind att_kind.Argument (att.Slot n) = nat_le 1 n && nat_le n 255
is_of_kind att_kind.Branch (att.Branch rel label) = true
is_of_kind att_kind.Label (att.Label label) = true
is_of_kind att_kind.Callee (att.Callee function count) = nat_le count 255
is_of_kind k a = false

-- a leaf's attribute fits its token
abbrev pub leaf_fits : Leaf → Bool
leaf_fits l = is_of_kind (attribute_of l.tok) l.att

-- the leaf behind a tree
abbrev pub end_leaf : Leaf
end_leaf = record { tok = tok.End; att = att.Nothing }

abbrev pub is_end : Leaf → Bool
is_end l = is_none (sort_of l.tok) && leaf_fits l
