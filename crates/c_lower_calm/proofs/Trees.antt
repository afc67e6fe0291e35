-- Calm trees and items, and that what they are spelled as is calm.
use Rattle.std.proofs.Common.{◌≡◌, ℕ, zero, suc, List, [], ◌∷◌, ◌++◌, length, Some, refl, sym, ◌∙◌, subst}
use Rattle.std.specs.Prelude.{Bool, true, false, ◌||◌, ◌==◌, slice_get, if◌then◌else◌}
use Rattle.std.proofs.lemmas.Bool.{or_left, or_right}
use Rattle.gg_base.proofs.Facts.{false_true, first_false, second_false}
use Rattle.c_types.specs.declared.types.Integer.{Integer}
use Rattle.c_types.specs.declared.types.Integer.TheVariants as ints
use Rattle.c_types.specs.declared.typed.ArithmeticOperator.{ArithmeticOperator}
use Rattle.c_types.specs.declared.typed.ArithmeticOperator.TheVariants as ariths
use Rattle.tree_core.specs.declared.token.Tok.{Tok}
use Rattle.tree_core.specs.declared.token.Tok.TheVariants as tok
use Rattle.tree_core.specs.declared.tree.Att.TheVariants as att
use Rattle.tree_core.specs.declared.tree.Leaf.{Leaf}
use Rattle.tree_core.specs.declared.program.TreeItem.{TreeItem}
use Rattle.tree_core.specs.declared.program.TreeItem.TheVariants as tree_item
use Rattle.tree_core.specs.Attributes.{end_leaf}
use Rattle.tree_core.specs.Grammar.{kids}
use Rattle.tree_core.specs.Calm.{divides as token_divides, reads_memory, Calm}
use Rattle.c_lower_scheme.specs.Trees.{Tree, Num, Gaddr, Loc, Arg, Indir, Conv, Neg, Com, Bin, Item, Label, AssignLoc, AssignArg, AssignMem, Cbr, Jump, Push, Call, Save, Ret}
use Rattle.c_lower_scheme.specs.Trees.{divides_by, divides, reads}
use Rattle.c_lower_scheme.specs.Spelling.{leaf, plain, constant_token, operator_token, indir_onto, conv_onto, leaves_onto, assign_onto, spelled, spelled_all}
use Rattle.c_lower_calm.proofs.Pieces.{Piece, leaf_piece, one_piece, two_piece, whole_piece}

-- where the first may trap the second reads no memory
abbrev pub Apart : Tree → Tree → Type 0
Apart a b = divides a ≡ true → reads b ≡ false

-- no memory is read behind a division
abbrev pub IsCalm : Tree → Type 0
IsCalm (Num n) = Unit {0}
IsCalm (Gaddr n) = Unit {0}
IsCalm (Loc n) = Unit {0}
IsCalm (Arg n) = Unit {0}
IsCalm (Indir i a) = IsCalm a
IsCalm (Conv i w) = IsCalm w
IsCalm (Neg w) = IsCalm w
IsCalm (Com w) = IsCalm w
IsCalm (Bin op a b) = IsCalm a × IsCalm b × Apart a b

abbrev pub IsCalmItem : Item → Type 0
IsCalmItem (Label l) = Unit {0}
IsCalmItem (AssignLoc n w) = IsCalm w
IsCalmItem (AssignArg n w) = IsCalm w
IsCalmItem (AssignMem i a w) = IsCalm a × IsCalm w × Apart a w
IsCalmItem (Cbr rel l a b) = IsCalm a × IsCalm b × Apart a b
IsCalmItem (Jump l) = Unit {0}
IsCalmItem (Push w) = IsCalm w
IsCalmItem (Call f count) = Unit {0}
IsCalmItem (Save n) = Unit {0}
IsCalmItem (Ret w) = IsCalm w

pub data AreCalm : List Item → Type 0 where
  none : AreCalm []
  next : {i : Item} {is : List Item} (h : IsCalmItem i) (rest : AreCalm is) → AreCalm (i ∷ is)

-- the same of items and those behind them
pub behind : {a b : List Item} → AreCalm a → AreCalm b → AreCalm (a ++ b)
behind none g = g
behind (next h rest) g = next h (behind rest g)

-- a constant's token has no kids, does not divide and reads no memory
pub record IsLeaf (t : Tok) : Type 0 where
  pub alone : kids t ≡ []
  pub inert : token_divides t ≡ false
  pub silent : reads_memory t ≡ false

leaf_if : (b : Bool) (t u : Tok) → IsLeaf t → IsLeaf u → IsLeaf (if b then t else u)
leaf_if true t u h g = h
leaf_if false t u h g = g

pub constant_leaf : (n : ℕ) → IsLeaf (constant_token n)
constant_leaf n =
    let from_eight = leaf_if (n == 8) tok.Eight tok.Const (record { alone = refl; inert = refl; silent = refl }) (record { alone = refl; inert = refl; silent = refl }) in
    let from_four = leaf_if (n == 4) tok.Four _ (record { alone = refl; inert = refl; silent = refl }) from_eight in
    let from_two = leaf_if (n == 2) tok.Two _ (record { alone = refl; inert = refl; silent = refl }) from_four in
    let from_one = leaf_if (n == 1) tok.One _ (record { alone = refl; inert = refl; silent = refl }) from_two in
    leaf_if (n == 0) tok.Zero _ (record { alone = refl; inert = refl; silent = refl }) from_one

-- an operator's token
pub record IsOperator (op : ArithmeticOperator) : Type 0 where
  pub two : length (kids (operator_token op)) ≡ 2
  pub silent : reads_memory (operator_token op) ≡ false
  pub own : token_divides (operator_token op) ≡ divides_by op

pub operator_two : (op : ArithmeticOperator) → IsOperator op
operator_two ariths.Add = record { two = refl; silent = refl; own = refl }
operator_two ariths.Subtract = record { two = refl; silent = refl; own = refl }
operator_two ariths.Multiply = record { two = refl; silent = refl; own = refl }
operator_two ariths.Divide = record { two = refl; silent = refl; own = refl }
operator_two ariths.Remainder = record { two = refl; silent = refl; own = refl }
operator_two ariths.And = record { two = refl; silent = refl; own = refl }
operator_two ariths.Xor = record { two = refl; silent = refl; own = refl }
operator_two ariths.Or = record { two = refl; silent = refl; own = refl }
operator_two ariths.ShiftLeft = record { two = refl; silent = refl; own = refl }
operator_two ariths.ShiftRight = record { two = refl; silent = refl; own = refl }

-- a token of one kid that does not read memory, such as a conversion
pure_piece : (t : Tok) {s : List Leaf → List Leaf} {d r : Bool} → length (kids t) ≡ 1 → token_divides t ≡ false → reads_memory t ≡ false
    → Piece s d r → Piece (λ w. plain t ∷ s w) d r
pure_piece t {r = r} one inert silent p = one_piece (plain t) r one inert (λ e. silent) (λ e. e) p

-- a token that reads memory
read_piece : (t : Tok) {s : List Leaf → List Leaf} {d r : Bool} → length (kids t) ≡ 1 → token_divides t ≡ false → Piece s d r → Piece (λ w. plain t ∷ s w) d true
read_piece t one inert p = one_piece (plain t) true one inert (λ e. absurd (cc)) (λ e. absurd (cc)) p

indir_piece : (i : Integer) {s : List Leaf → List Leaf} {d r : Bool} → Piece s d r → Piece (λ w. indir_onto i (s w)) d true
indir_piece ints.Char p = pure_piece tok.Sxb refl refl refl (read_piece tok.IndirB refl refl p)
indir_piece ints.UnsignedChar p = pure_piece tok.Zxb refl refl refl (read_piece tok.IndirB refl refl p)
indir_piece ints.Short p = pure_piece tok.Sxw refl refl refl (read_piece tok.IndirW refl refl p)
indir_piece ints.UnsignedShort p = pure_piece tok.Zxw refl refl refl (read_piece tok.IndirW refl refl p)
indir_piece ints.Int p = read_piece tok.IndirL refl refl p

conv_piece : (i : Integer) {s : List Leaf → List Leaf} {d r : Bool} → Piece s d r → Piece (λ w. conv_onto i (s w)) d r
conv_piece ints.Char p = pure_piece tok.Sxb refl refl refl (pure_piece tok.Ncb refl refl refl p)
conv_piece ints.UnsignedChar p = pure_piece tok.Zxb refl refl refl (pure_piece tok.Ncb refl refl refl p)
conv_piece ints.Short p = pure_piece tok.Sxw refl refl refl (pure_piece tok.Ncw refl refl refl p)
conv_piece ints.UnsignedShort p = pure_piece tok.Zxw refl refl refl (pure_piece tok.Ncw refl refl refl p)
conv_piece ints.Int p = p

pub tree_piece : (w : Tree) → IsCalm w → Piece (leaves_onto w) (divides w) (reads w)
tree_piece (Num n) h = let c = constant_leaf n in leaf_piece (leaf (constant_token n) (att.Number n)) c.alone c.inert c.silent
tree_piece (Gaddr n) h = leaf_piece (leaf tok.Gaddr (att.Object n 0)) refl refl refl
tree_piece (Loc n) h = leaf_piece (leaf tok.Loc (att.Slot n)) refl refl refl
tree_piece (Arg n) h = leaf_piece (leaf tok.Arg (att.Slot (suc n))) refl refl refl
tree_piece (Indir i a) h = indir_piece i (tree_piece a h)
tree_piece (Conv i w) h = conv_piece i (tree_piece w h)
tree_piece (Neg w) h = pure_piece tok.Neg refl refl refl (tree_piece w h)
tree_piece (Com w) h = pure_piece tok.Com refl refl refl (tree_piece w h)
tree_piece (Bin op a b) h =
    let o = operator_two op in
    let below : Bool = divides a || divides b in
    two_piece (plain (operator_token op)) (divides_by op || below) (reads a || reads b) o.two o.silent
    (λ e. or_left (divides_by op) below (sym o.own ∙ e))
    (λ e. or_right (divides_by op) below (or_left (divides a) (divides b) e))
    (λ e. or_right (divides_by op) below (or_right (divides a) (divides b) e))
    (first_false (reads a) (reads b)) (second_false (reads a) (reads b)) h.2
    (tree_piece a h.0) (tree_piece b h.1)

-- a root of two kids
root_piece : (l : Leaf) {s t : List Leaf → List Leaf} {d e r q : Bool} → length (kids l.tok) ≡ 2 → reads_memory l.tok ≡ false
    → (d ≡ true → q ≡ false) → Piece s d r → Piece t e q → Piece (λ w. l ∷ s (t w)) true true
root_piece l two silent apart p q =
    two_piece l true true two silent (λ x. refl) (λ x. refl) (λ x. refl) (λ x. absurd (cc)) (λ x. absurd (cc)) apart p q

loc_piece : (n : ℕ) → Piece (λ w. leaf tok.Loc (att.Slot n) ∷ w) false false
loc_piece n = leaf_piece (leaf tok.Loc (att.Slot n)) refl refl refl

arg_piece : (n : ℕ) → Piece (λ w. leaf tok.Arg (att.Slot n) ∷ w) false false
arg_piece n = leaf_piece (leaf tok.Arg (att.Slot n)) refl refl refl

assign_calm : (i : Integer) (a w : Tree) → IsCalm a → IsCalm w → Apart a w → Calm (assign_onto i a w (end_leaf ∷ []))
assign_calm ints.Char a w h g apart = whole_piece (root_piece (plain tok.AssignB) refl refl apart (read_piece tok.IndirB refl refl (tree_piece a h))
    (pure_piece tok.Ncb refl refl refl (tree_piece w g)))
assign_calm ints.UnsignedChar a w h g apart = whole_piece (root_piece (plain tok.AssignB) refl refl apart (read_piece tok.IndirB refl refl (tree_piece a h))
    (pure_piece tok.Ncb refl refl refl (tree_piece w g)))
assign_calm ints.Short a w h g apart = whole_piece (root_piece (plain tok.AssignW) refl refl apart (read_piece tok.IndirW refl refl (tree_piece a h))
    (pure_piece tok.Ncw refl refl refl (tree_piece w g)))
assign_calm ints.UnsignedShort a w h g apart = whole_piece (root_piece (plain tok.AssignW) refl refl apart (read_piece tok.IndirW refl refl (tree_piece a h))
    (pure_piece tok.Ncw refl refl refl (tree_piece w g)))
assign_calm ints.Int a w h g apart = whole_piece (root_piece (plain tok.AssignL) refl refl apart (read_piece tok.IndirL refl refl (tree_piece a h)) (tree_piece w g))

-- what an item is spelled as
abbrev pub RootIsCalm : TreeItem → Type 0
RootIsCalm (tree_item.Label l) = Unit {0}
RootIsCalm (tree_item.Root w) = Calm w

pub spelled_calm : (i : Item) → IsCalmItem i → RootIsCalm (spelled i)
spelled_calm (Label l) h = tt
spelled_calm (AssignLoc n w) h = whole_piece (root_piece (plain tok.AssignL) refl refl false_true (loc_piece n) (tree_piece w h))
spelled_calm (AssignArg n w) h = whole_piece (root_piece (plain tok.AssignL) refl refl false_true (arg_piece (suc n)) (tree_piece w h))
spelled_calm (AssignMem i a w) h = assign_calm i a w h.0 h.1 h.2
spelled_calm (Cbr rel l a b) h = whole_piece (root_piece (leaf tok.Cbr (att.Branch rel l)) refl refl h.2 (tree_piece a h.0) (tree_piece b h.1))
spelled_calm (Jump l) h = whole_piece (leaf_piece (leaf tok.Jump (att.Label l)) refl refl refl)
spelled_calm (Push w) h = whole_piece (pure_piece tok.Push refl refl refl (tree_piece w h))
spelled_calm (Call f count) h = whole_piece (leaf_piece (leaf tok.Call (att.Callee f count)) refl refl refl)
spelled_calm (Save n) h = whole_piece (leaf_piece (leaf tok.Save (att.Slot n)) refl refl refl)
spelled_calm (Ret w) h = whole_piece (pure_piece tok.Ret refl refl refl (tree_piece w h))

-- each root among spelled items
pub roots_calm : {is : List Item} → AreCalm is → (n : ℕ) (w : List Leaf) → slice_get (spelled_all is) n ≡ Some (tree_item.Root w) → Calm w
roots_calm none n w e = absurd (cc)
roots_calm (next {i = i} h rest) zero w e =
    let same : spelled i ≡ tree_item.Root w = cc in
    subst RootIsCalm same (spelled_calm i h)
roots_calm (next h rest) (suc n) w e = roots_calm rest n w e
