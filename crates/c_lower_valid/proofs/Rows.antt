-- Leaves one tree behind another, each typed and each naming what is there.
use Rattle.std.proofs.Common.{◌≡◌, ⊎_elim, ℕ, suc, ◌≤◌, ◌<◌, List, [], ◌∷◌, refl, ap, sym, arith, ◌∙◌, subst}
use Rattle.std.specs.Prelude.{Bool, true, IsTrue}
use Rattle.std.specs.List.{AllPass}
use Rattle.std.proofs.lemmas.Bool.{cases_eq, ne_eqb, lt-ltb, le-leb}
use Rattle.std.proofs.lemmas.List.Elements.{All-nil, All-cons}
use Rattle.c_types.specs.declared.types.Integer.{Integer}
use Rattle.c_types.specs.declared.types.Integer.TheVariants as ints
use Rattle.c_types.specs.declared.typed.ArithmeticOperator.{ArithmeticOperator}
use Rattle.c_types.specs.declared.typed.ArithmeticOperator.TheVariants as ariths
use Rattle.tree_core.specs.declared.token.Tok.TheVariants as tok
use Rattle.tree_core.specs.declared.token.Sort.{Sort}
use Rattle.tree_core.specs.declared.token.Sort.TheVariants as sort
use Rattle.tree_core.specs.declared.tree.Att.TheVariants as att
use Rattle.tree_core.specs.declared.tree.Leaf.{Leaf}
use Rattle.tree_core.specs.declared.program.TreeItem.TheVariants as tree_item
use Rattle.tree_core.specs.declared.program.TreeFn.{TreeFn}
use Rattle.tree_core.specs.Attributes.{end_leaf}
use Rattle.tree_core.specs.Grammar.{kids}
use Rattle.tree_core.specs.Trees.{Forest, none, tree, leaves_onto, stands_for, Typed}
use Rattle.tree_core.specs.Valid.{args_of, takes, leaf_names, ItemStands}
use Rattle.c_lower_scheme.specs.Trees.{Tree, Num, Gaddr, Loc, Arg, Indir, Conv, Neg, Com, Bin, Item, Label, AssignLoc, AssignArg, AssignMem, Cbr, Jump, Push, Call, Save, Ret}
use Rattle.c_lower_scheme.specs.Spelling
use Rattle.c_lower_scheme.specs.Spelling.{leaf, plain, constant_token, operator_token, indir_onto, conv_onto, assign_onto, spelled}
use Rattle.c_lower_valid.proofs.Named.{Scene, Names, ItemNames}

-- What stands in front of leaves is typed trees of these sorts, whose leaves pass.
pub record Row (passes : Leaf → Bool) (xs : List Sort) (f : List Leaf → List Leaf) : Type 0 where
  pub trees : Forest
  pub typed : Typed xs trees
  pub spells : (w : List Leaf) → leaves_onto trees w ≡ f w
  pub passed : (w : List Leaf) → AllPass passes w → AllPass passes (f w)

row_nil : (passes : Leaf → Bool) → Row passes [] (λ w. w)
row_nil passes = record { trees = none; typed = tt; spells = λ w. refl; passed = λ w a. a }

row_node : (passes : Leaf → Bool) (l : Leaf) (x : Sort) (xs : List Sort) (f h : List Leaf → List Leaf) → IsTrue (stands_for l x)
    → passes l ≡ true → Row passes (kids l.tok) f → Row passes xs h → Row passes (x ∷ xs) (λ w. l ∷ f (h w))
row_node passes l x xs f h s n below behind = record {
  trees = tree l below.trees behind.trees;
  typed = (s, below.typed, behind.typed);
  spells = λ w. ap (λ v. l ∷ v) (below.spells (leaves_onto behind.trees w) ∙ ap f (behind.spells w));
  passed = λ w a. All-cons (λ k. passes k ≡ true) l (f (h w)) n (below.passed (h w) (behind.passed w a));
}

other_token : (n : ℕ) → (n ≡ 0 → ⊥) → (n ≡ 1 → ⊥) → (n ≡ 2 → ⊥) → (n ≡ 4 → ⊥) → (n ≡ 8 → ⊥) → constant_token n ≡ tok.Const
other_token n a b c d e = rw (ne_eqb n 0 a, ne_eqb n 1 b, ne_eqb n 2 c, ne_eqb n 4 d, ne_eqb n 8 e) refl

other_stands : (n : ℕ) → (n ≡ 0 → ⊥) → (n ≡ 1 → ⊥) → (n ≡ 2 → ⊥) → (n ≡ 4 → ⊥) → (n ≡ 8 → ⊥)
    → stands_for (leaf tok.Const (att.Number n)) sort.Long ≡ true
other_stands n a b c d e = rw (ne_eqb n 0 a, ne_eqb n 1 b, ne_eqb n 2 c, ne_eqb n 4 d, ne_eqb n 8 e) refl

module _ (fs : List TreeFn) (objects : ℕ) (fn : TreeFn) (few : fn.args ≤ 255) where
  abbrev passes : Leaf → Bool
  passes = leaf_names fs objects fn

  abbrev Calls : ℕ → ℕ → Type 0
  Calls f count = (takes (args_of fs f) count ≡ true) × (count ≤ 255)

  -- what is there for the function's items
  abbrev pub scene : Scene
  scene = record { objects = objects; params = fn.args; callable = Calls }

  number_row : (n : ℕ) (xs : List Sort) (h : List Leaf → List Leaf) → Row passes xs h
      → Row passes (sort.Long ∷ xs) (λ w. leaf (constant_token n) (att.Number n) ∷ h w)
  number_row n xs h r =
      ⊎_elim (λ e. subst (λ m. Row passes (sort.Long ∷ xs) (λ w. leaf (constant_token m) (att.Number m) ∷ h w)) (sym e)
      (row_node passes (leaf tok.Zero (att.Number 0)) sort.Long xs (λ w. w) h refl refl (row_nil passes) r)) (λ a.
      ⊎_elim (λ e. subst (λ m. Row passes (sort.Long ∷ xs) (λ w. leaf (constant_token m) (att.Number m) ∷ h w)) (sym e)
      (row_node passes (leaf tok.One (att.Number 1)) sort.Long xs (λ w. w) h refl refl (row_nil passes) r)) (λ b.
      ⊎_elim (λ e. subst (λ m. Row passes (sort.Long ∷ xs) (λ w. leaf (constant_token m) (att.Number m) ∷ h w)) (sym e)
      (row_node passes (leaf tok.Two (att.Number 2)) sort.Long xs (λ w. w) h refl refl (row_nil passes) r)) (λ c.
      ⊎_elim (λ e. subst (λ m. Row passes (sort.Long ∷ xs) (λ w. leaf (constant_token m) (att.Number m) ∷ h w)) (sym e)
      (row_node passes (leaf tok.Four (att.Number 4)) sort.Long xs (λ w. w) h refl refl (row_nil passes) r)) (λ d.
      ⊎_elim (λ e. subst (λ m. Row passes (sort.Long ∷ xs) (λ w. leaf (constant_token m) (att.Number m) ∷ h w)) (sym e)
      (row_node passes (leaf tok.Eight (att.Number 8)) sort.Long xs (λ w. w) h refl refl (row_nil passes) r)) (λ e.
      subst (λ t. Row passes (sort.Long ∷ xs) (λ w. leaf t (att.Number n) ∷ h w)) (sym (other_token n a b c d e))
      (row_node passes (leaf tok.Const (att.Number n)) sort.Long xs (λ w. w) h (other_stands n a b c d e) refl (row_nil passes) r))
      (cases_eq n 8)) (cases_eq n 4)) (cases_eq n 2)) (cases_eq n 1)) (cases_eq n 0)

  indir_row : (i : Integer) (xs : List Sort) (f h : List Leaf → List Leaf) → Row passes (sort.Long ∷ []) f → Row passes xs h
      → Row passes (sort.Long ∷ xs) (λ w. indir_onto i (f (h w)))
  indir_row ints.Char xs f h a r = row_node passes (plain tok.Sxb) sort.Long xs _ h refl refl
      (row_node passes (plain tok.IndirB) sort.Byte [] f _ refl refl a (row_nil passes)) r
  indir_row ints.UnsignedChar xs f h a r = row_node passes (plain tok.Zxb) sort.Long xs _ h refl refl
      (row_node passes (plain tok.IndirB) sort.Byte [] f _ refl refl a (row_nil passes)) r
  indir_row ints.Short xs f h a r = row_node passes (plain tok.Sxw) sort.Long xs _ h refl refl
      (row_node passes (plain tok.IndirW) sort.Word [] f _ refl refl a (row_nil passes)) r
  indir_row ints.UnsignedShort xs f h a r = row_node passes (plain tok.Zxw) sort.Long xs _ h refl refl
      (row_node passes (plain tok.IndirW) sort.Word [] f _ refl refl a (row_nil passes)) r
  indir_row ints.Int xs f h a r = row_node passes (plain tok.IndirL) sort.Long xs f h refl refl a r

  conv_row : (i : Integer) (xs : List Sort) (f h : List Leaf → List Leaf) → Row passes (sort.Long ∷ []) f
      → Row passes (sort.Long ∷ xs) (λ w. f (h w)) → Row passes xs h → Row passes (sort.Long ∷ xs) (λ w. conv_onto i (f (h w)))
  conv_row ints.Char xs f h a b r = row_node passes (plain tok.Sxb) sort.Long xs _ h refl refl
      (row_node passes (plain tok.Ncb) sort.Byte [] f _ refl refl a (row_nil passes)) r
  conv_row ints.UnsignedChar xs f h a b r = row_node passes (plain tok.Zxb) sort.Long xs _ h refl refl
      (row_node passes (plain tok.Ncb) sort.Byte [] f _ refl refl a (row_nil passes)) r
  conv_row ints.Short xs f h a b r = row_node passes (plain tok.Sxw) sort.Long xs _ h refl refl
      (row_node passes (plain tok.Ncw) sort.Word [] f _ refl refl a (row_nil passes)) r
  conv_row ints.UnsignedShort xs f h a b r = row_node passes (plain tok.Zxw) sort.Long xs _ h refl refl
      (row_node passes (plain tok.Ncw) sort.Word [] f _ refl refl a (row_nil passes)) r
  conv_row ints.Int xs f h a b r = b

  operator_row : (op : ArithmeticOperator) (xs : List Sort) (f h : List Leaf → List Leaf) → Row passes (sort.Long ∷ sort.Long ∷ []) f
      → Row passes xs h → Row passes (sort.Long ∷ xs) (λ w. plain (operator_token op) ∷ f (h w))
  operator_row ariths.Add xs f h a r = row_node passes (plain tok.Plus) sort.Long xs f h refl refl a r
  operator_row ariths.Subtract xs f h a r = row_node passes (plain tok.Minus) sort.Long xs f h refl refl a r
  operator_row ariths.Multiply xs f h a r = row_node passes (plain tok.Mul) sort.Long xs f h refl refl a r
  operator_row ariths.Divide xs f h a r = row_node passes (plain tok.Div) sort.Long xs f h refl refl a r
  operator_row ariths.Remainder xs f h a r = row_node passes (plain tok.Mod) sort.Long xs f h refl refl a r
  operator_row ariths.And xs f h a r = row_node passes (plain tok.And) sort.Long xs f h refl refl a r
  operator_row ariths.Xor xs f h a r = row_node passes (plain tok.Xor) sort.Long xs f h refl refl a r
  operator_row ariths.Or xs f h a r = row_node passes (plain tok.Or) sort.Long xs f h refl refl a r
  operator_row ariths.ShiftLeft xs f h a r = row_node passes (plain tok.Lsh) sort.Long xs f h refl refl a r
  operator_row ariths.ShiftRight xs f h a r = row_node passes (plain tok.Rsh) sort.Long xs f h refl refl a r

  -- a parameter's number counts from 1
  argument_fits : (n : ℕ) → n < fn.args → stands_for (leaf tok.Arg (att.Slot (suc n))) sort.PlaceL ≡ true
  argument_fits n lt = rw (le-leb 1 (suc n) (omega arith), le-leb (suc n) 255 (omega arith)) refl

  argument_row : (n : ℕ) (x : Sort) (xs : List Sort) (h : List Leaf → List Leaf) → n < fn.args
      → IsTrue (stands_for (leaf tok.Arg (att.Slot (suc n))) x) → Row passes xs h
      → Row passes (x ∷ xs) (λ w. leaf tok.Arg (att.Slot (suc n)) ∷ h w)
  argument_row n x xs h lt fits r = row_node passes (leaf tok.Arg (att.Slot (suc n))) x xs (λ w. w) h fits
      (le-leb (suc n) fn.args (omega arith)) (row_nil passes) r

  local_row : (n : ℕ) (x : Sort) (xs : List Sort) (h : List Leaf → List Leaf) → n < fn.locals
      → IsTrue (stands_for (leaf tok.Loc (att.Slot n)) x) → Row passes xs h → Row passes (x ∷ xs) (λ w. leaf tok.Loc (att.Slot n) ∷ h w)
  local_row n x xs h lt fits r = row_node passes (leaf tok.Loc (att.Slot n)) x xs (λ w. w) h fits (lt-ltb n fn.locals lt) (row_nil passes) r

  -- a pure tree is a longword
  tree_row : (a : Tree) (xs : List Sort) (h : List Leaf → List Leaf) → Names scene fn.locals a → Row passes xs h
      → Row passes (sort.Long ∷ xs) (λ w. Spelling.leaves_onto a (h w))
  tree_row (Num n) xs h ok r = number_row n xs h r
  tree_row (Gaddr n) xs h ok r = row_node passes (leaf tok.Gaddr (att.Object n 0)) sort.Long xs (λ w. w) h refl (lt-ltb n objects ok)
      (row_nil passes) r
  tree_row (Loc n) xs h ok r = local_row n sort.Long xs h ok refl r
  tree_row (Arg n) xs h ok r = argument_row n sort.Long xs h ok (argument_fits n ok) r
  tree_row (Indir i a) xs h ok r = indir_row i xs (Spelling.leaves_onto a) h (tree_row a [] (λ w. w) ok (row_nil passes)) r
  tree_row (Conv i a) xs h ok r = conv_row i xs (Spelling.leaves_onto a) h (tree_row a [] (λ w. w) ok (row_nil passes))
      (tree_row a xs h ok r) r
  tree_row (Neg a) xs h ok r = row_node passes (plain tok.Neg) sort.Long xs (Spelling.leaves_onto a) h refl refl
      (tree_row a [] (λ w. w) ok (row_nil passes)) r
  tree_row (Com a) xs h ok r = row_node passes (plain tok.Com) sort.Long xs (Spelling.leaves_onto a) h refl refl
      (tree_row a [] (λ w. w) ok (row_nil passes)) r
  tree_row (Bin op a b) xs h ok r = operator_row op xs (λ w. Spelling.leaves_onto a (Spelling.leaves_onto b w)) h
      (tree_row a (sort.Long ∷ []) (Spelling.leaves_onto b) ok.0 (tree_row b [] (λ w. w) ok.1 (row_nil passes))) r

  one_row : (a : Tree) → Names scene fn.locals a → Row passes (sort.Long ∷ []) (Spelling.leaves_onto a)
  one_row a ok = tree_row a [] (λ w. w) ok (row_nil passes)

  two_row : (a b : Tree) → Names scene fn.locals a → Names scene fn.locals b
      → Row passes (sort.Long ∷ sort.Long ∷ []) (λ w. Spelling.leaves_onto a (Spelling.leaves_onto b w))
  two_row a b ok ok' = tree_row a (sort.Long ∷ []) (Spelling.leaves_onto b) ok (one_row b ok')

  -- a statement's row, in front of the end
  stands : (l : Leaf) (f : List Leaf → List Leaf) → IsTrue (stands_for l sort.Stmt) → passes l ≡ true → Row passes (kids l.tok) f
      → ItemStands fs objects fn (tree_item.Root (l ∷ f (end_leaf ∷ [])))
  stands l f s n below =
      let r = row_node passes l sort.Stmt [] f (λ w. w) s n below (row_nil passes) in (
        record { trees = r.trees; typed = r.typed; spelled = r.spells (end_leaf ∷ []) },
        r.passed (end_leaf ∷ []) (All-cons (λ k. passes k ≡ true) end_leaf [] refl (All-nil (λ k. passes k ≡ true))),
      )

  assign_stands : (i : Integer) (a w : Tree) → Names scene fn.locals a → Names scene fn.locals w
      → ItemStands fs objects fn (tree_item.Root (assign_onto i a w (end_leaf ∷ [])))
  assign_stands ints.Char a w ok ok' = stands (plain tok.AssignB) _ refl refl
      (row_node passes (plain tok.IndirB) sort.PlaceB _ (Spelling.leaves_onto a) _ refl refl (one_row a ok)
      (row_node passes (plain tok.Ncb) sort.Byte [] (Spelling.leaves_onto w) (λ v. v) refl refl (one_row w ok') (row_nil passes)))
  assign_stands ints.UnsignedChar a w ok ok' = stands (plain tok.AssignB) _ refl refl
      (row_node passes (plain tok.IndirB) sort.PlaceB _ (Spelling.leaves_onto a) _ refl refl (one_row a ok)
      (row_node passes (plain tok.Ncb) sort.Byte [] (Spelling.leaves_onto w) (λ v. v) refl refl (one_row w ok') (row_nil passes)))
  assign_stands ints.Short a w ok ok' = stands (plain tok.AssignW) _ refl refl
      (row_node passes (plain tok.IndirW) sort.PlaceW _ (Spelling.leaves_onto a) _ refl refl (one_row a ok)
      (row_node passes (plain tok.Ncw) sort.Word [] (Spelling.leaves_onto w) (λ v. v) refl refl (one_row w ok') (row_nil passes)))
  assign_stands ints.UnsignedShort a w ok ok' = stands (plain tok.AssignW) _ refl refl
      (row_node passes (plain tok.IndirW) sort.PlaceW _ (Spelling.leaves_onto a) _ refl refl (one_row a ok)
      (row_node passes (plain tok.Ncw) sort.Word [] (Spelling.leaves_onto w) (λ v. v) refl refl (one_row w ok') (row_nil passes)))
  assign_stands ints.Int a w ok ok' = stands (plain tok.AssignL) _ refl refl
      (row_node passes (plain tok.IndirL) sort.PlaceL _ (Spelling.leaves_onto a) _ refl refl (one_row a ok) (one_row w ok'))

  pub item_stands : (i : Item) → ItemNames scene fn.locals i → ItemStands fs objects fn (spelled i)
  item_stands (Label l) ok = tt
  item_stands (AssignLoc n w) ok = stands (plain tok.AssignL) _ refl refl (local_row n sort.PlaceL _ _ ok.0 refl (one_row w ok.1))
  item_stands (AssignArg n w) ok = stands (plain tok.AssignL) _ refl refl
      (argument_row n sort.PlaceL _ _ ok.0 (argument_fits n ok.0) (one_row w ok.1))
  item_stands (AssignMem i a w) ok = assign_stands i a w ok.0 ok.1
  item_stands (Cbr rel l a b) ok = stands (leaf tok.Cbr (att.Branch rel l)) _ refl refl (two_row a b ok.0 ok.1)
  item_stands (Jump l) ok = stands (leaf tok.Jump (att.Label l)) (λ w. w) refl refl (row_nil passes)
  item_stands (Push w) ok = stands (plain tok.Push) _ refl refl (one_row w ok)
  item_stands (Call f count) ok = stands (leaf tok.Call (att.Callee f count)) (λ w. w) (le-leb count 255 ok.1) ok.0 (row_nil passes)
  item_stands (Save n) ok = stands (leaf tok.Save (att.Slot n)) (λ w. w) refl (lt-ltb n fn.locals ok) (row_nil passes)
  item_stands (Ret w) ok = stands (plain tok.Ret) _ refl refl (one_row w ok)
