-- The names of the tokens, trees as text, and how labels are spelled.
use Rattle.std.specs.Prelude.{ℕ, List, ◌∷◌, ◌++◌, map, codes, Bool, true, false}
use Rattle.std.specs.Fmt.{decimal}
use Rattle.std.specs.List.{join_with_byte}
use Rattle.tree_core.specs.declared.token.Tok.{Tok}
use Rattle.tree_core.specs.declared.token.Tok.TheVariants as tok
use Rattle.tree_core.specs.declared.tree.Leaf.{Leaf}

-- a token's name
abbrev pub name_of : Tok → List ℕ
name_of tok.Zero = codes "Zero"
name_of tok.One = codes "One"
name_of tok.Two = codes "Two"
name_of tok.Four = codes "Four"
name_of tok.Eight = codes "Eight"
name_of tok.Const = codes "Const"
name_of tok.Gaddr = codes "Gaddr"
name_of tok.Loc = codes "Loc"
name_of tok.Arg = codes "Arg"
name_of tok.IndirB = codes "IndirB"
name_of tok.IndirW = codes "IndirW"
name_of tok.IndirL = codes "IndirL"
name_of tok.Plus = codes "Plus"
name_of tok.Minus = codes "Minus"
name_of tok.Mul = codes "Mul"
name_of tok.Div = codes "Div"
name_of tok.Mod = codes "Mod"
name_of tok.And = codes "And"
name_of tok.Or = codes "Or"
name_of tok.Xor = codes "Xor"
name_of tok.Lsh = codes "Lsh"
name_of tok.Rsh = codes "Rsh"
name_of tok.Neg = codes "Neg"
name_of tok.Com = codes "Com"
name_of tok.Sxb = codes "Sxb"
name_of tok.Zxb = codes "Zxb"
name_of tok.Sxw = codes "Sxw"
name_of tok.Zxw = codes "Zxw"
name_of tok.Ncb = codes "Ncb"
name_of tok.Ncw = codes "Ncw"
name_of tok.AssignB = codes "AssignB"
name_of tok.AssignW = codes "AssignW"
name_of tok.AssignL = codes "AssignL"
name_of tok.Cbr = codes "Cbr"
name_of tok.Push = codes "Push"
name_of tok.Ret = codes "Ret"
name_of tok.Call = codes "Call"
name_of tok.Save = codes "Save"
name_of tok.Jump = codes "Jump"
name_of tok.End = codes "End"

-- the names of the tokens, joined by single blanks
abbrev pub shown : List Leaf → List ℕ
shown leaves = join_with_byte 32 (map (λ l. name_of l.tok) leaves)

-- a name, with a blank before it unless it is the first
abbrev pub spaced : Bool → List ℕ → List ℕ
spaced true name = name
spaced false name = 32 ∷ name

-- label n of a tree program is spelled `L` and n in decimal
abbrev pub label_name : ℕ → List ℕ
label_name n = codes "L" ++ decimal n

-- a function's label is its name with `_` in front
abbrev pub function_label : List ℕ → List ℕ
function_label name = codes "_" ++ name
