-- Only the first symbol of a rule branches or saves.
use Rattle.std.proofs.Common.{◌≡◌, ℕ, zero, suc, Bool, true, false, List, [], ◌∷◌, Some, refl, sym, subst, ◌∙◌}
use Rattle.std.specs.Prelude.{slice_get, not}
use Rattle.std.specs.List.{AllByRecursion, list_all}
use Rattle.std.proofs.lemmas.Bool.{and_parts}
use Rattle.std.proofs.lemmas.Option.{same_Some}
use Rattle.gg_base.specs.declared.relation.Rel.{Rel}
use Rattle.tree_core.specs.declared.token.Tok.{Tok}
use Rattle.tree_core.specs.declared.token.Tok.TheVariants as tok
use Rattle.tree_core.specs.declared.token.Sort.{Sort}
use Rattle.tree_core.specs.declared.token.Sort.TheVariants as sort
use Rattle.tree_core.specs.declared.tree.Att.TheVariants as att
use Rattle.tree_core.specs.declared.tree.Leaf.{Leaf}
use Rattle.tree_core.specs.Grammar.{kids, sort_of, fits}
use Rattle.tree_core.specs.Attributes.{attribute_of, is_of_kind}
use Rattle.tree_core.specs.Trees.{sort_fits}
use Rattle.md_reader.specs.declared.types.Class.{Class}
use Rattle.md_reader.specs.declared.types.Sym.{Sym}
use Rattle.md_reader.specs.declared.types.Sym.TheVariants as grammar_symbol
use Rattle.md_reader.specs.Patterns.{kind_at, kids_of, Trees, no_tree, node, onto, sorted_test, IsSorted}
use Rattle.md_reader.specs.Restrictions.{is_branch}
use Rattle.sel_target.specs.declared.attr.Attr.{Attr}
use Rattle.sel_target.specs.declared.attr.Attr.TheVariants as attr
use Rattle.sel_target.specs.Instances.{SymFits, Fit}
use Rattle.sel_target.proofs.Facts.{no_token}
use Rattle.sel_target.specs.Meaning.{Meaning}
use Rattle.rule_heads.specs.Laws.{is_root, HeadsAreFirst}

abbrev is_statement : Sort → Bool
is_statement sort.Stmt = true
is_statement x = false

abbrev no_statement : List Sort → Bool
no_statement xs = list_all (λ x. not (is_statement x)) xs

abbrev AreQuiet : List Sym → Type 0
AreQuiet w = AllByRecursion (λ (s : Sym). is_root (Some s) ≡ false) w

abbrev pub IsRest : List Sym → Type 0
IsRest [] = Unit {0}
IsRest (s ∷ w) = AreQuiet w

kids_quiet : (t : Tok) → no_statement (kids t) ≡ true
kids_quiet tok.Zero = refl
kids_quiet tok.One = refl
kids_quiet tok.Two = refl
kids_quiet tok.Four = refl
kids_quiet tok.Eight = refl
kids_quiet tok.Const = refl
kids_quiet tok.Gaddr = refl
kids_quiet tok.Loc = refl
kids_quiet tok.Arg = refl
kids_quiet tok.IndirB = refl
kids_quiet tok.IndirW = refl
kids_quiet tok.IndirL = refl
kids_quiet tok.Plus = refl
kids_quiet tok.Minus = refl
kids_quiet tok.Mul = refl
kids_quiet tok.Div = refl
kids_quiet tok.Mod = refl
kids_quiet tok.And = refl
kids_quiet tok.Or = refl
kids_quiet tok.Xor = refl
kids_quiet tok.Lsh = refl
kids_quiet tok.Rsh = refl
kids_quiet tok.Neg = refl
kids_quiet tok.Com = refl
kids_quiet tok.Sxb = refl
kids_quiet tok.Zxb = refl
kids_quiet tok.Sxw = refl
kids_quiet tok.Zxw = refl
kids_quiet tok.Ncb = refl
kids_quiet tok.Ncw = refl
kids_quiet tok.AssignB = refl
kids_quiet tok.AssignW = refl
kids_quiet tok.AssignL = refl
kids_quiet tok.Cbr = refl
kids_quiet tok.Push = refl
kids_quiet tok.Ret = refl
kids_quiet tok.Call = refl
kids_quiet tok.Save = refl
kids_quiet tok.Jump = refl
kids_quiet tok.End = refl

symbol_kids_quiet : (s : Sym) → no_statement (kids_of s) ≡ true
symbol_kids_quiet (grammar_symbol.Tok t) = kids_quiet t
symbol_kids_quiet (grammar_symbol.Class x) = refl

branch_is_statement : (x : Sort) → fits sort.Stmt x ≡ true → not (is_statement x) ≡ true → ⊥
branch_is_statement sort.Stmt e h = cc
branch_is_statement sort.Long e h = cc
branch_is_statement sort.Byte e h = cc
branch_is_statement sort.Word e h = cc
branch_is_statement sort.PlaceB e h = cc
branch_is_statement sort.PlaceW e h = cc
branch_is_statement sort.PlaceL e h = cc

token_quiet : (t : Tok) (x : Sort) → sort_fits (sort_of t) x ≡ true → not (is_statement x) ≡ true → is_root (Some (grammar_symbol.Tok t)) ≡ false
token_quiet tok.Zero x e h = refl
token_quiet tok.One x e h = refl
token_quiet tok.Two x e h = refl
token_quiet tok.Four x e h = refl
token_quiet tok.Eight x e h = refl
token_quiet tok.Const x e h = refl
token_quiet tok.Gaddr x e h = refl
token_quiet tok.Loc x e h = refl
token_quiet tok.Arg x e h = refl
token_quiet tok.IndirB x e h = refl
token_quiet tok.IndirW x e h = refl
token_quiet tok.IndirL x e h = refl
token_quiet tok.Plus x e h = refl
token_quiet tok.Minus x e h = refl
token_quiet tok.Mul x e h = refl
token_quiet tok.Div x e h = refl
token_quiet tok.Mod x e h = refl
token_quiet tok.And x e h = refl
token_quiet tok.Or x e h = refl
token_quiet tok.Xor x e h = refl
token_quiet tok.Lsh x e h = refl
token_quiet tok.Rsh x e h = refl
token_quiet tok.Neg x e h = refl
token_quiet tok.Com x e h = refl
token_quiet tok.Sxb x e h = refl
token_quiet tok.Zxb x e h = refl
token_quiet tok.Sxw x e h = refl
token_quiet tok.Zxw x e h = refl
token_quiet tok.Ncb x e h = refl
token_quiet tok.Ncw x e h = refl
token_quiet tok.AssignB x e h = refl
token_quiet tok.AssignW x e h = refl
token_quiet tok.AssignL x e h = refl
token_quiet tok.Cbr x e h = absurd (branch_is_statement x e h)
token_quiet tok.Push x e h = refl
token_quiet tok.Ret x e h = refl
token_quiet tok.Call x e h = refl
token_quiet tok.Save x e h = absurd (branch_is_statement x e h)
token_quiet tok.Jump x e h = refl
token_quiet tok.End x e h = refl

symbol_quiet : (classes : List Class) (s : Sym) (x : Sort) → sorted_test classes s x ≡ true → not (is_statement x) ≡ true → is_root (Some s) ≡ false
symbol_quiet classes (grammar_symbol.Tok t) x e h = token_quiet t x e h
symbol_quiet classes (grammar_symbol.Class k) x e h = refl

trees_quiet : (classes : List Class) (xs : List Sort) (tree : Trees (sorted_test classes) xs) → no_statement xs ≡ true → (w : List Sym) → AreQuiet w → AreQuiet (onto tree w)
trees_quiet classes [] no_tree h w q = q
trees_quiet classes (x ∷ xs) (node s passes below beside) h w q =
    let b = and_parts (not (is_statement x)) (no_statement xs) h in
    (symbol_quiet classes s x passes b.0, trees_quiet classes (kids_of s) below (symbol_kids_quiet s) (onto beside w) (trees_quiet classes xs beside b.1 w q))

tree_rest : (classes : List Class) (x : Sort) (tree : Trees (sorted_test classes) (x ∷ [])) → IsRest (onto tree [])
tree_rest classes x (node s passes below beside) = trees_quiet classes (kids_of s) below (symbol_kids_quiet s) (onto beside []) (trees_quiet classes [] beside refl [] tt)

pub rest_of : (classes : List Class) (left : Sort) (right : List Sym) → IsSorted classes left right → IsRest right
rest_of classes left right s = subst IsRest s.spelled (tree_rest classes left s.tree)

quiet_at : (w : List Sym) (j : ℕ) (s : Sym) → AreQuiet w → slice_get w j ≡ Some s → is_root (Some s) ≡ false
quiet_at [] j s h e = cc
quiet_at (x ∷ w) zero s h e = subst (λ o. is_root o ≡ false) e h.0
quiet_at (x ∷ w) (suc j) s h e = quiet_at w j s h.1 e

-- a symbol that branches or saves is the first
pub root_first : (right : List Sym) (j : ℕ) (s : Sym) → IsRest right → slice_get right j ≡ Some s → is_root (Some s) ≡ true → j ≡ 0
root_first [] j s h e b = cc
root_first (x ∷ w) zero s h e b = refl
root_first (x ∷ w) (suc j) s h e b = absurd (let r : true ≡ false = sym b ∙ quiet_at w j s h e in cc)

branch_is_root : (t : Tok) → is_branch (Some (grammar_symbol.Tok t)) ≡ true → is_root (Some (grammar_symbol.Tok t)) ≡ true
branch_is_root tok.Zero e = cc
branch_is_root tok.One e = cc
branch_is_root tok.Two e = cc
branch_is_root tok.Four e = cc
branch_is_root tok.Eight e = cc
branch_is_root tok.Const e = cc
branch_is_root tok.Gaddr e = cc
branch_is_root tok.Loc e = cc
branch_is_root tok.Arg e = cc
branch_is_root tok.IndirB e = cc
branch_is_root tok.IndirW e = cc
branch_is_root tok.IndirL e = cc
branch_is_root tok.Plus e = cc
branch_is_root tok.Minus e = cc
branch_is_root tok.Mul e = cc
branch_is_root tok.Div e = cc
branch_is_root tok.Mod e = cc
branch_is_root tok.And e = cc
branch_is_root tok.Or e = cc
branch_is_root tok.Xor e = cc
branch_is_root tok.Lsh e = cc
branch_is_root tok.Rsh e = cc
branch_is_root tok.Neg e = cc
branch_is_root tok.Com e = cc
branch_is_root tok.Sxb e = cc
branch_is_root tok.Zxb e = cc
branch_is_root tok.Sxw e = cc
branch_is_root tok.Zxw e = cc
branch_is_root tok.Ncb e = cc
branch_is_root tok.Ncw e = cc
branch_is_root tok.AssignB e = cc
branch_is_root tok.AssignW e = cc
branch_is_root tok.AssignL e = cc
branch_is_root tok.Cbr e = refl
branch_is_root tok.Push e = cc
branch_is_root tok.Ret e = cc
branch_is_root tok.Call e = cc
branch_is_root tok.Save e = cc
branch_is_root tok.Jump e = cc
branch_is_root tok.End e = cc

pub branch_first : (right : List Sym) (j : ℕ) (s : Sym) → IsRest right → slice_get right j ≡ Some s → is_branch (Some s) ≡ true → j ≡ 0
branch_first right j (grammar_symbol.Tok t) h e b = root_first right j (grammar_symbol.Tok t) h e (branch_is_root t b)
branch_first right j (grammar_symbol.Class k) h e b = cc

branches_only : (t : Tok) (rel : Rel) (label : ℕ) → is_of_kind (attribute_of t) (att.Branch rel label) ≡ true → is_branch (Some (grammar_symbol.Tok t)) ≡ true
branches_only tok.Zero rel label e = cc
branches_only tok.One rel label e = cc
branches_only tok.Two rel label e = cc
branches_only tok.Four rel label e = cc
branches_only tok.Eight rel label e = cc
branches_only tok.Const rel label e = cc
branches_only tok.Gaddr rel label e = cc
branches_only tok.Loc rel label e = cc
branches_only tok.Arg rel label e = cc
branches_only tok.IndirB rel label e = cc
branches_only tok.IndirW rel label e = cc
branches_only tok.IndirL rel label e = cc
branches_only tok.Plus rel label e = cc
branches_only tok.Minus rel label e = cc
branches_only tok.Mul rel label e = cc
branches_only tok.Div rel label e = cc
branches_only tok.Mod rel label e = cc
branches_only tok.And rel label e = cc
branches_only tok.Or rel label e = cc
branches_only tok.Xor rel label e = cc
branches_only tok.Lsh rel label e = cc
branches_only tok.Rsh rel label e = cc
branches_only tok.Neg rel label e = cc
branches_only tok.Com rel label e = cc
branches_only tok.Sxb rel label e = cc
branches_only tok.Zxb rel label e = cc
branches_only tok.Sxw rel label e = cc
branches_only tok.Zxw rel label e = cc
branches_only tok.Ncb rel label e = cc
branches_only tok.Ncw rel label e = cc
branches_only tok.AssignB rel label e = cc
branches_only tok.AssignW rel label e = cc
branches_only tok.AssignL rel label e = cc
branches_only tok.Cbr rel label e = refl
branches_only tok.Push rel label e = cc
branches_only tok.Ret rel label e = cc
branches_only tok.Call rel label e = cc
branches_only tok.Save rel label e = cc
branches_only tok.Jump rel label e = cc
branches_only tok.End rel label e = cc

-- ---- the symbol of a hole, on any target

pub record SymbolOf {O I S F : Type 0} (of : Meaning O I S F) (classes : List Class) (right : List Sym) (j : ℕ) (h : Attr O) : Type 0 where
  pub symbol : Sym
  pub at : slice_get right j ≡ Some symbol
  pub fits_so : SymFits of classes symbol h

pub symbol_of : {O I S F : Type 0} (of : Meaning O I S F) (classes : List Class) (right : List Sym) (hs : List (Attr O)) (j : ℕ) (h : Attr O) → Fit of classes right hs → slice_get hs j ≡ Some h → SymbolOf of classes right j h
symbol_of of classes [] [] j h fit e = cc
symbol_of of classes [] (x ∷ hs) j h fit e = absurd fit
symbol_of of classes (s ∷ right) [] j h fit e = absurd fit
symbol_of of classes (s ∷ right) (x ∷ hs) zero h fit e = record { symbol = s; at = refl; fits_so = subst (SymFits of classes s) (same_Some x h e) fit.0 }
symbol_of of classes (s ∷ right) (x ∷ hs) (suc j) h fit e = let r = symbol_of of classes right hs j h fit.1 e in record { symbol = r.symbol; at = r.at; fits_so = r.fits_so }

-- a hole that branches is the first
pub branch_hole : {O I S F : Type 0} (of : Meaning O I S F) (classes : List Class) (left : Sort) (right : List Sym) (hs : List (Attr O)) (j : ℕ) (l : Leaf) (rel : Rel) (label : ℕ) →
    IsSorted classes left right → Fit of classes right hs → slice_get hs j ≡ Some (attr.Token l) → l.att ≡ att.Branch rel label → j ≡ 0
branch_hole of classes left right hs j l rel label sorted fit e is = by r.symbol r.at r.fits_so where
  r : SymbolOf of classes right j (attr.Token l)
  r = symbol_of of classes right hs j (attr.Token l) fit e

  by : (s : Sym) → slice_get right j ≡ Some s → SymFits of classes s (attr.Token l) → j ≡ 0
  by (grammar_symbol.Tok t) at x =
      branch_first right j (grammar_symbol.Tok t) (rest_of classes left right sorted) at
      (branches_only t rel label (subst (λ y. is_of_kind (attribute_of y) (att.Branch rel label) ≡ true) x.0 (subst (λ y. is_of_kind (attribute_of l.tok) y ≡ true) is x.1)))
  by (grammar_symbol.Class k) at x = absurd (no_token of (kind_at classes k) l x)

-- ---- the law

pub heads_are_first : HeadsAreFirst
heads_are_first = record {
  root = λ classes left right j s sorted at root. root_first right j s (rest_of classes left right sorted) at root;
  branch = λ classes left right j t rel label sorted at is. branch_first right j (grammar_symbol.Tok t) (rest_of classes left right sorted) at (branches_only t rel label is);
}
