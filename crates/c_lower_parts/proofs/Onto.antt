-- A tree's leaves in front of others are its leaves and the others.
use Rattle.std.proofs.Common.{◌≡◌, ℕ, suc, List, [], ◌∷◌, ◌++◌, refl, ap, sym, ◌∙◌, append_assoc}
use Rattle.c_types.specs.declared.types.Integer.{Integer}
use Rattle.c_types.specs.declared.types.Integer.TheVariants as ints
use Rattle.c_types.specs.declared.typed.ArithmeticOperator.{ArithmeticOperator}
use Rattle.tree_core.specs.declared.tree.Leaf.{Leaf}
use Rattle.tree_core.specs.declared.program.TreeItem.TheVariants as tree_item
use Rattle.tree_core.specs.declared.token.Tok.TheVariants as tok
use Rattle.tree_core.specs.Attributes.{end_leaf}
use Rattle.c_lower_scheme.specs.Trees.{Tree, Num, Gaddr, Loc, Arg, Indir, Conv, Neg, Com, Bin}
use Rattle.c_lower_scheme.specs.Spelling.{leaf, plain, operator_token, indir_onto, conv_onto, leaves_onto, assign_onto, spelled}
use Rattle.tree_core.specs.declared.tree.Att.TheVariants as att
use Rattle.c_lower_parts.specs.declared.item.Item.{Item as Code}
use Rattle.c_lower_parts.specs.declared.item.Item.TheVariants as lowered_item
use Rattle.c_lower_parts.specs.Roots.{root_leaves}
use Rattle.c_lower_parts.specs.Views.{tree, item}

pub indir_append : (i : Integer) (w v : List Leaf) → indir_onto i (w ++ v) ≡ indir_onto i w ++ v
indir_append ints.Char w v = refl
indir_append ints.UnsignedChar w v = refl
indir_append ints.Short w v = refl
indir_append ints.UnsignedShort w v = refl
indir_append ints.Int w v = refl

pub conv_append : (i : Integer) (w v : List Leaf) → conv_onto i (w ++ v) ≡ conv_onto i w ++ v
conv_append ints.Char w v = refl
conv_append ints.UnsignedChar w v = refl
conv_append ints.Short w v = refl
conv_append ints.UnsignedShort w v = refl
conv_append ints.Int w v = refl

pub onto_append : (t : Tree) (w v : List Leaf) → leaves_onto t (w ++ v) ≡ leaves_onto t w ++ v
onto_append (Num n) w v = refl
onto_append (Gaddr n) w v = refl
onto_append (Loc n) w v = refl
onto_append (Arg n) w v = refl
onto_append (Indir i a) w v = ap (indir_onto i) (onto_append a w v) ∙ indir_append i (leaves_onto a w) v
onto_append (Conv i a) w v = ap (conv_onto i) (onto_append a w v) ∙ conv_append i (leaves_onto a w) v
onto_append (Neg a) w v = ap (λ l. plain tok.Neg ∷ l) (onto_append a w v)
onto_append (Com a) w v = ap (λ l. plain tok.Com ∷ l) (onto_append a w v)
onto_append (Bin op a b) w v = ap (λ l. plain (operator_token op) ∷ l) (ap (leaves_onto a) (onto_append b w v) ∙ onto_append a (leaves_onto b w) v)

-- a tree in front of others
pub onto_behind : (t : Tree) (v : List Leaf) → leaves_onto t v ≡ leaves_onto t [] ++ v
onto_behind t v = onto_append t [] v

assign_behind : (i : Integer) (a w : Tree) (v : List Leaf) → assign_onto i a w v ≡ assign_onto i a w [] ++ v
assign_behind ints.Char a w v = ap (λ l. plain tok.AssignB ∷ plain tok.IndirB ∷ l) (ap (λ l. leaves_onto a (plain tok.Ncb ∷ l)) (onto_behind w v) ∙ onto_append a (plain tok.Ncb ∷ leaves_onto w []) v)
assign_behind ints.UnsignedChar a w v = ap (λ l. plain tok.AssignB ∷ plain tok.IndirB ∷ l)
    (ap (λ l. leaves_onto a (plain tok.Ncb ∷ l)) (onto_behind w v) ∙ onto_append a (plain tok.Ncb ∷ leaves_onto w []) v)
assign_behind ints.Short a w v = ap (λ l. plain tok.AssignW ∷ plain tok.IndirW ∷ l) (ap (λ l. leaves_onto a (plain tok.Ncw ∷ l)) (onto_behind w v) ∙ onto_append a (plain tok.Ncw ∷ leaves_onto w []) v)
assign_behind ints.UnsignedShort a w v = ap (λ l. plain tok.AssignW ∷ plain tok.IndirW ∷ l)
    (ap (λ l. leaves_onto a (plain tok.Ncw ∷ l)) (onto_behind w v) ∙ onto_append a (plain tok.Ncw ∷ leaves_onto w []) v)
assign_behind ints.Int a w v = ap (λ l. plain tok.AssignL ∷ plain tok.IndirL ∷ l) (ap (leaves_onto a) (onto_behind w v) ∙ onto_append a (leaves_onto w []) v)

-- an operator, and its two sides, behind other leaves
pub binary_behind : (old a b c : List Leaf) (w x y : Tree) (op : ArithmeticOperator) → w ≡ Bin op x y → a ≡ old ++ (plain (operator_token op) ∷ []) → b ≡ a ++ leaves_onto x [] → c ≡ b
    ++ leaves_onto y [] → c ≡ old ++ leaves_onto w []
binary_behind old a b c w x y op is one two three =
    let four = append_assoc a (leaves_onto x []) (leaves_onto y []) in
    let five = append_assoc old (plain (operator_token op) ∷ []) (leaves_onto x [] ++ leaves_onto y []) in
    let six = onto_behind x (leaves_onto y []) in
    let seven : leaves_onto w [] ≡ plain (operator_token op) ∷ leaves_onto x (leaves_onto y []) = ap (λ z. leaves_onto z []) is in
    cc

-- two trees behind a leaf
pub pair_behind : (old a b c : List Leaf) (first : Leaf) (x y : Tree) → a ≡ old ++ (first ∷ []) → b ≡ a ++ leaves_onto x [] → c ≡ b ++ leaves_onto y [] → c ≡ old
    ++ (first ∷ leaves_onto x (leaves_onto y []))
pair_behind old a b c first x y one two three =
    let four = append_assoc a (leaves_onto x []) (leaves_onto y []) in
    let five = append_assoc old (first ∷ []) (leaves_onto x [] ++ leaves_onto y []) in
    let six = onto_behind x (leaves_onto y []) in
    cc

-- two trees behind two leaves
pub assigned_behind : (old a b c : List Leaf) (first second : Leaf) (x y : Tree) → a ≡ old ++ (first ∷ second ∷ []) → b ≡ a ++ leaves_onto x [] → c ≡ b ++ leaves_onto y [] → c ≡ old
    ++ (first ∷ second ∷ leaves_onto x (leaves_onto y []))
assigned_behind old a b c first second x y one two three =
    let four = append_assoc a (leaves_onto x []) (leaves_onto y []) in
    let five = append_assoc old (first ∷ second ∷ []) (leaves_onto x [] ++ leaves_onto y []) in
    let six = onto_behind x (leaves_onto y []) in
    cc

-- and with a leaf between the two trees
pub narrowed_behind : (old a b n c : List Leaf) (first second third : Leaf) (x y : Tree) → a ≡ old ++ (first ∷ second ∷ []) → b ≡ a ++ leaves_onto x [] → n ≡ b ++ (third ∷ []) → c ≡ n
    ++ leaves_onto y [] → c ≡ old ++ (first ∷ second ∷ leaves_onto x (third ∷ leaves_onto y []))
narrowed_behind old a b n c first second third x y one two three four =
    let five = append_assoc b (third ∷ []) (leaves_onto y []) in
    let six = append_assoc a (leaves_onto x []) (third ∷ leaves_onto y []) in
    let seven = append_assoc old (first ∷ second ∷ []) (leaves_onto x [] ++ (third ∷ leaves_onto y [])) in
    let eight = onto_behind x (third ∷ leaves_onto y []) in
    cc

-- a root's leaves with End behind them
pub rooted : (i : Code) → ((x : ℕ) → i ≡ lowered_item.Label x → ⊥) → (l : List Leaf) → l ≡ root_leaves (item i) ++ (end_leaf ∷ []) → tree_item.Root l ≡ spelled (item i)
rooted (lowered_item.Label x) never l is = absurd (never x refl)
rooted (lowered_item.AssignLocal n w) never l is = ap tree_item.Root (is ∙ ap (λ k. plain tok.AssignL ∷ leaf tok.Loc (att.Slot n) ∷ k) (sym (onto_behind (tree w) (end_leaf ∷ []))))
rooted (lowered_item.AssignParameter n w) never l is = ap tree_item.Root (is ∙ ap (λ k. plain tok.AssignL ∷ leaf tok.Arg (att.Slot (suc n)) ∷ k) (sym (onto_behind (tree w) (end_leaf ∷ []))))
rooted (lowered_item.AssignMemory i a w) never l is = ap tree_item.Root (is ∙ sym (assign_behind i (tree a) (tree w) (end_leaf ∷ [])))
rooted (lowered_item.Branch r to a b) never l is = ap tree_item.Root (is ∙ ap (λ k. leaf tok.Cbr (att.Branch r to) ∷ k)
    (sym (ap (leaves_onto (tree a)) (onto_behind (tree b) (end_leaf ∷ [])) ∙ onto_append (tree a) (leaves_onto (tree b) []) (end_leaf ∷ []))))
rooted (lowered_item.Jump to) never l is = ap tree_item.Root is
rooted (lowered_item.Push w) never l is = ap tree_item.Root (is ∙ ap (λ k. plain tok.Push ∷ k) (sym (onto_behind (tree w) (end_leaf ∷ []))))
rooted (lowered_item.Call f n) never l is = ap tree_item.Root is
rooted (lowered_item.Save n) never l is = ap tree_item.Root is
rooted (lowered_item.Return w) never l is = ap tree_item.Root (is ∙ ap (λ k. plain tok.Ret ∷ k) (sym (onto_behind (tree w) (end_leaf ∷ []))))
