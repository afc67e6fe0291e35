-- A typed root is its tree's leaves and an End, and only its first leaf stands for a statement.
use Rattle.std.proofs.Common.{◌≡◌, List, [], ◌∷◌, ◌++◌, Option, Some, true, refl, sym, ap, ◌∙◌, subst}
use Rattle.std.specs.List.{AllByRecursion as All}
use Rattle.std.proofs.lemmas.Bool.{and_parts}
use Rattle.gg_base.proofs.Facts.{take_front}
use Rattle.tree_core.specs.declared.token.Tok.{Tok}
use Rattle.tree_core.specs.declared.token.Tok.TheVariants as tok
use Rattle.tree_core.specs.declared.token.Sort.{Sort}
use Rattle.tree_core.specs.declared.token.Sort.TheVariants as sort
use Rattle.tree_core.specs.declared.tree.Leaf.{Leaf}
use Rattle.tree_core.specs.Grammar.{kids, sort_of, fits}
use Rattle.tree_core.specs.Attributes.{leaf_fits, end_leaf}
use Rattle.tree_core.specs.Trees.{Forest, none, tree, leaves_onto, sort_fits, stands_for, Typed, IsTyped}
use Rattle.sel_parse_lines.specs.sel_parse_moves.specs.Claims.{root}
use Rattle.sel_parse_lines.specs.sel_parse_moves.proofs.Piles.{leaves_before}
use Rattle.vax_target_places.specs.sel_parse_desk.specs.Selected.{tree_of}

-- the leaves of a typed root's tree
pub tree_leaves : (w : List Leaf) (h : IsTyped w sort.Stmt) → tree_of w ≡ leaves_onto h.trees []
tree_leaves w h =
    let e : leaves_onto h.trees [] ++ end_leaf ∷ [] ≡ w = leaves_before h.trees [] (end_leaf ∷ []) ∙ h.spelled in
    ap tree_of (sym e) ∙ take_front (leaves_onto h.trees []) end_leaf

pub root_is : (w : List Leaf) → IsTyped w sort.Stmt → root (tree_of w) ≡ w
root_is w h = ap root (tree_leaves w h) ∙ (leaves_before h.trees [] (end_leaf ∷ []) ∙ h.spelled)

-- ---- statements stand at the root alone

-- a leaf that is no statement's
abbrev pub IsLow : Leaf → Type 0
IsLow l = sort_of l.tok ≡ Some sort.Stmt → ⊥

abbrev pub NoStmt : Sort → Type 0
NoStmt x = x ≡ sort.Stmt → ⊥

not_long : NoStmt sort.Long
not_long e = cc

not_byte : NoStmt sort.Byte
not_byte e = cc

not_word : NoStmt sort.Word
not_word e = cc

not_place_byte : NoStmt sort.PlaceB
not_place_byte e = cc

not_place_word : NoStmt sort.PlaceW
not_place_word e = cc

not_place_long : NoStmt sort.PlaceL
not_place_long e = cc

low_kids : (t : Tok) → All NoStmt (kids t)
low_kids tok.Zero = tt
low_kids tok.One = tt
low_kids tok.Two = tt
low_kids tok.Four = tt
low_kids tok.Eight = tt
low_kids tok.Const = tt
low_kids tok.Gaddr = tt
low_kids tok.Loc = tt
low_kids tok.Arg = tt
low_kids tok.IndirB = (not_long, tt)
low_kids tok.IndirW = (not_long, tt)
low_kids tok.IndirL = (not_long, tt)
low_kids tok.Plus = (not_long, (not_long, tt))
low_kids tok.Minus = (not_long, (not_long, tt))
low_kids tok.Mul = (not_long, (not_long, tt))
low_kids tok.Div = (not_long, (not_long, tt))
low_kids tok.Mod = (not_long, (not_long, tt))
low_kids tok.And = (not_long, (not_long, tt))
low_kids tok.Or = (not_long, (not_long, tt))
low_kids tok.Xor = (not_long, (not_long, tt))
low_kids tok.Lsh = (not_long, (not_long, tt))
low_kids tok.Rsh = (not_long, (not_long, tt))
low_kids tok.Neg = (not_long, tt)
low_kids tok.Com = (not_long, tt)
low_kids tok.Sxb = (not_byte, tt)
low_kids tok.Zxb = (not_byte, tt)
low_kids tok.Sxw = (not_word, tt)
low_kids tok.Zxw = (not_word, tt)
low_kids tok.Ncb = (not_long, tt)
low_kids tok.Ncw = (not_long, tt)
low_kids tok.AssignB = (not_place_byte, (not_byte, tt))
low_kids tok.AssignW = (not_place_word, (not_word, tt))
low_kids tok.AssignL = (not_place_long, (not_long, tt))
low_kids tok.Cbr = (not_long, (not_long, tt))
low_kids tok.Push = (not_long, tt)
low_kids tok.Ret = (not_long, tt)
low_kids tok.Call = tt
low_kids tok.Save = tt
low_kids tok.Jump = tt
low_kids tok.End = tt

low_fits : (x : Sort) → NoStmt x → fits sort.Stmt x ≡ true → ⊥
low_fits sort.Stmt h e = h refl
low_fits sort.Long h e = cc
low_fits sort.Byte h e = cc
low_fits sort.Word h e = cc
low_fits sort.PlaceB h e = cc
low_fits sort.PlaceW h e = cc
low_fits sort.PlaceL h e = cc

low_leaf : (l : Leaf) (x : Sort) → NoStmt x → stands_for l x ≡ true → IsLow l
low_leaf l x h e s = low_fits x h (subst (λ (o : Option Sort). sort_fits o x ≡ true) s (and_parts (sort_fits (sort_of l.tok) x) (leaf_fits l) e).0)

low_leaves : (xs : List Sort) (f : Forest) (w : List Leaf) → Typed xs f → All NoStmt xs → All IsLow w → All IsLow (leaves_onto f w)
low_leaves [] none w h n k = k
low_leaves [] (tree l below behind) w h n k = absurd h
low_leaves (x ∷ xs) none w h n k = absurd h
low_leaves (x ∷ xs) (tree l below behind) w h n k =
    (low_leaf l x n.0 h.0, low_leaves (kids l.tok) below (leaves_onto behind w) h.1 (low_kids l.tok) (low_leaves xs behind w h.2 n.1 k))

-- a tree's first leaf, and the leaves behind it
pub record Headed (v : List Leaf) : Type 0 where
  pub first : Leaf
  pub rest : List Leaf
  pub is : v ≡ first ∷ rest
  pub low : All IsLow rest

headed_tree : (f : Forest) → Typed (sort.Stmt ∷ []) f → Headed (leaves_onto f [])
headed_tree none h = absurd h
headed_tree (tree l below none) h = record { first = l; rest = leaves_onto below []; is = refl; low = low_leaves (kids l.tok) below [] h.1 (low_kids l.tok) tt }
headed_tree (tree l below (tree m low_ behind)) h = absurd h.2

pub headed : (w : List Leaf) → IsTyped w sort.Stmt → Headed (tree_of w)
headed w h = subst Headed (sym (tree_leaves w h)) (headed_tree h.trees h.typed)
