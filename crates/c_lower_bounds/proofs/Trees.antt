-- How many forks the trees and items of lowering have.
use Rattle.std.proofs.Common.{◌≡◌, ℕ, zero, suc, ◌+◌, ◌≤◌, List, [], ◌∷◌, ◌++◌, Some, refl, ap, arith, sym, ◌∙◌}
use Rattle.std.specs.Prelude.{Bool, true, false, ◌==◌, slice_get, if◌then◌else◌}
use Rattle.c_types.specs.declared.types.Integer.{Integer}
use Rattle.c_types.specs.declared.types.Integer.TheVariants as ints
use Rattle.c_types.specs.declared.typed.ArithmeticOperator.{ArithmeticOperator}
use Rattle.c_types.specs.declared.typed.ArithmeticOperator.TheVariants as ariths
use Rattle.tree_core.specs.declared.token.Tok.{Tok}
use Rattle.tree_core.specs.declared.token.Tok.TheVariants as tok
use Rattle.tree_core.specs.declared.tree.Leaf.{Leaf}
use Rattle.tree_core.specs.declared.program.TreeItem.{TreeItem}
use Rattle.tree_core.specs.declared.program.TreeItem.TheVariants as tree_item
use Rattle.tree_core.specs.Attributes.{end_leaf}
use Rattle.tree_core.specs.Grammar.{kids}
use Rattle.c_lower_scheme.specs.Trees.{Tree, Num, Gaddr, Loc, Arg, Indir, Conv, Neg, Com, Bin, Item, Label, AssignLoc, AssignArg, AssignMem, Cbr, Jump, Push, Call, Save, Ret}
use Rattle.c_lower_scheme.specs.Spelling.{plain, constant_token, operator_token, indir_onto, conv_onto, leaves_onto, assign_onto, spelled, spelled_all}
use Rattle.tree_core_forks.specs.Forks.{fork, forks}

-- the operators of a tree that have two operands
abbrev pub tree_forks : Tree → ℕ
tree_forks (Num n) = 0
tree_forks (Gaddr n) = 0
tree_forks (Loc n) = 0
tree_forks (Arg n) = 0
tree_forks (Indir i a) = tree_forks a
tree_forks (Conv i w) = tree_forks w
tree_forks (Neg w) = tree_forks w
tree_forks (Com w) = tree_forks w
tree_forks (Bin op a b) = suc (tree_forks a + tree_forks b)

-- the same of an item, whose root may have two kids
abbrev pub item_forks : Item → ℕ
item_forks (Label l) = 0
item_forks (AssignLoc n w) = suc (tree_forks w)
item_forks (AssignArg n w) = suc (tree_forks w)
item_forks (AssignMem i a w) = suc (tree_forks a + tree_forks w)
item_forks (Cbr rel l a b) = suc (tree_forks a + tree_forks b)
item_forks (Jump l) = 0
item_forks (Push w) = tree_forks w
item_forks (Call f count) = 0
item_forks (Save n) = 0
item_forks (Ret w) = tree_forks w

-- no item has more forks than so many
pub data Narrow (m : ℕ) : List Item → Type 0 where
  none : Narrow m []
  next : {i : Item} {is : List Item} (h : item_forks i ≤ m) (rest : Narrow m is) → Narrow m (i ∷ is)

-- the same of items and those behind them
pub behind : {m : ℕ} {a b : List Item} → Narrow m a → Narrow m b → Narrow m (a ++ b)
behind none g = g
behind (next h rest) g = next h (behind rest g)

-- one of two tokens without kids
token_if : (b : Bool) (t u : Tok) → fork (kids t) ≡ 0 → fork (kids u) ≡ 0 → fork (kids (if b then t else u)) ≡ 0
token_if true t u h g = h
token_if false t u h g = g

-- no constant has kids
constant_forks : (n : ℕ) → fork (kids (constant_token n)) ≡ 0
constant_forks n =
    let from_eight = token_if (n == 8) tok.Eight tok.Const refl refl in
    let from_four = token_if (n == 4) tok.Four _ refl from_eight in
    let from_two = token_if (n == 2) tok.Two _ refl from_four in
    token_if (n == 0) tok.Zero _ refl (token_if (n == 1) tok.One _ refl from_two)

operator_forks : (op : ArithmeticOperator) → fork (kids (operator_token op)) ≡ 1
operator_forks ariths.Add = refl
operator_forks ariths.Subtract = refl
operator_forks ariths.Multiply = refl
operator_forks ariths.Divide = refl
operator_forks ariths.Remainder = refl
operator_forks ariths.And = refl
operator_forks ariths.Xor = refl
operator_forks ariths.Or = refl
operator_forks ariths.ShiftLeft = refl
operator_forks ariths.ShiftRight = refl

indir_forks : (i : Integer) (w : List Leaf) → forks (indir_onto i w) ≡ forks w
indir_forks ints.Char w = omega arith
indir_forks ints.UnsignedChar w = omega arith
indir_forks ints.Short w = omega arith
indir_forks ints.UnsignedShort w = omega arith
indir_forks ints.Int w = omega arith

conv_forks : (i : Integer) (w : List Leaf) → forks (conv_onto i w) ≡ forks w
conv_forks ints.Char w = omega arith
conv_forks ints.UnsignedChar w = omega arith
conv_forks ints.Short w = omega arith
conv_forks ints.UnsignedShort w = omega arith
conv_forks ints.Int w = omega arith

-- the leaves of a tree have its forks
pub leaves_forks : (w : Tree) (rest : List Leaf) → forks (leaves_onto w rest) ≡ tree_forks w + forks rest
leaves_forks (Num n) rest = let h = constant_forks n in omega (arith, h)
leaves_forks (Gaddr n) rest = omega arith
leaves_forks (Loc n) rest = omega arith
leaves_forks (Arg n) rest = omega arith
leaves_forks (Indir i a) rest = indir_forks i (leaves_onto a rest) ∙ leaves_forks a rest
leaves_forks (Conv i w) rest = conv_forks i (leaves_onto w rest) ∙ leaves_forks w rest
leaves_forks (Neg w) rest = let h = leaves_forks w rest in omega (arith, h)
leaves_forks (Com w) rest = let h = leaves_forks w rest in omega (arith, h)
leaves_forks (Bin op a b) rest =
    let h = operator_forks op in
    let f = leaves_forks a (leaves_onto b rest) in
    let g = leaves_forks b rest in
    omega (arith, h, f, g)

-- two trees in turn, with End behind them
two_forks : (a w : Tree) → forks (leaves_onto a (leaves_onto w (end_leaf ∷ []))) ≡ tree_forks a + tree_forks w
two_forks a w =
    let h = leaves_forks a (leaves_onto w (end_leaf ∷ [])) in
    let g = leaves_forks w (end_leaf ∷ []) in
    omega (arith, h, g)

-- the same with a token of one kid between them
narrowed_forks : (t : Tok) → fork (kids t) ≡ 0 → (a w : Tree)
    → forks (leaves_onto a (plain t ∷ leaves_onto w (end_leaf ∷ []))) ≡ tree_forks a + tree_forks w
narrowed_forks t alone a w =
    let h = leaves_forks a (plain t ∷ leaves_onto w (end_leaf ∷ [])) in
    let g = leaves_forks w (end_leaf ∷ []) in
    omega (arith, h, g, alone)

assign_forks : (i : Integer) (a w : Tree) → forks (assign_onto i a w (end_leaf ∷ [])) ≡ suc (tree_forks a + tree_forks w)
assign_forks ints.Char a w = let h = narrowed_forks tok.Ncb refl a w in omega (arith, h)
assign_forks ints.UnsignedChar a w = let h = narrowed_forks tok.Ncb refl a w in omega (arith, h)
assign_forks ints.Short a w = let h = narrowed_forks tok.Ncw refl a w in omega (arith, h)
assign_forks ints.UnsignedShort a w = let h = narrowed_forks tok.Ncw refl a w in omega (arith, h)
assign_forks ints.Int a w = let h = two_forks a w in omega (arith, h)

-- the forks of what an item is spelled as: those of its leaves
abbrev forks_in : TreeItem → ℕ
forks_in (tree_item.Label l) = 0
forks_in (tree_item.Root w) = forks w

spelled_forks : (i : Item) → forks_in (spelled i) ≡ item_forks i
spelled_forks (Label l) = refl
spelled_forks (AssignLoc n w) = let h = leaves_forks w (end_leaf ∷ []) in omega (arith, h)
spelled_forks (AssignArg n w) = let h = leaves_forks w (end_leaf ∷ []) in omega (arith, h)
spelled_forks (AssignMem i a w) = assign_forks i a w
spelled_forks (Cbr rel l a b) = let h = two_forks a b in omega (arith, h)
spelled_forks (Jump l) = omega arith
spelled_forks (Push w) = let h = leaves_forks w (end_leaf ∷ []) in omega (arith, h)
spelled_forks (Call f count) = omega arith
spelled_forks (Save n) = omega arith
spelled_forks (Ret w) = let h = leaves_forks w (end_leaf ∷ []) in omega (arith, h)

-- each root among spelled items has at most so many forks
pub root_forks : {m : ℕ} {is : List Item} → Narrow m is
    → (n : ℕ) (w : List Leaf) → slice_get (spelled_all is) n ≡ Some (tree_item.Root w) → forks w ≤ m
root_forks none n w e = absurd (cc)
root_forks (next {i = i} h rest) zero w e =
    let same : spelled i ≡ tree_item.Root w = cc in
    let c = ap forks_in (sym same) ∙ spelled_forks i in
    omega (arith, c, h)
root_forks (next h rest) (suc n) w e = root_forks rest n w e
