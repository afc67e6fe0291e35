-- Right sides are trees: as many are wanted behind them as none.
use Rattle.std.proofs.Common.{◌≡◌, ℕ, suc, ◌+◌, List, [], ◌∷◌, ◌++◌, Some, Bool, length, reverse, refl, sym, ap, ◌∙◌, subst, arith, append-nil}
use Rattle.tree_core.specs.declared.token.Sort.{Sort}
use Rattle.md_reader.specs.declared.types.Class.{Class}
use Rattle.md_reader.specs.declared.types.Sym.{Sym}
use Rattle.md_reader.specs.declared.types.Sym.TheVariants as grammar_symbol
use Rattle.md_reader.specs.Patterns.{kids_of, Trees, no_tree, node, onto}
use Rattle.lr_check_sets.specs.Shapes.{arity, wanted_behind, wanted, IsTree}
use Rattle.lr_check_sets.proofs.Tables.{reverse-cons}

abbrev pushes : List Sym → List Sym → List Sym
pushes [] s = s
pushes (X ∷ w) s = pushes w (X ∷ s)

pushes-is : (w s : List Sym) → pushes w s ≡ reverse w ++ s
pushes-is [] s = refl
pushes-is (X ∷ w) s = pushes-is w (X ∷ s) ∙ sym (reverse-cons X w s)

arity-is : (X : Sym) → arity X ≡ length (kids_of X)
arity-is (grammar_symbol.Tok k) = refl
arity-is (grammar_symbol.Class c) = refl

-- a stack behind the symbols of trees, with so many more still wanted
record Behind (m n : ℕ) (u w s : List Sym) : Type 0 where
  stack : List Sym
  same : pushes u s ≡ pushes w stack
  left : wanted m stack ≡ Some n

behind_trees : {ok : Sym → Sort → Bool} {xs : List Sort} (f : Trees ok xs) (m n j : ℕ) (w s : List Sym) →
    wanted m s ≡ Some j → j ≡ n + length xs → Behind m n (onto f w) w s
behind_trees no_tree m n j w s e h = record { stack = s; same = refl; left = e ∙ ap Some (omega (arith, h)) }
behind_trees (node {x = x} {xs = xs} X passes below beside) m n j w s e h =
    let some : j ≡ suc (n + length xs) = omega (arith, h) in
    let here : wanted m (X ∷ s) ≡ Some (arity X + (n + length xs)) = ap (wanted_behind X) (e ∙ ap Some some) in
    let kids : arity X ≡ length (kids_of X) = arity-is X in
    let b = behind_trees below m (n + length xs) (arity X + (n + length xs)) (onto beside w) (X ∷ s) here (omega (arith, kids)) in
    let c = behind_trees beside m n (n + length xs) w b.stack b.left refl in
    record { stack = c.stack; same = b.same ∙ c.same; left = c.left }

pub tree_of : {ok : Sym → Sort → Bool} {x : Sort} (f : Trees ok (x ∷ [])) (w : List Sym) → onto f [] ≡ w → IsTree (reverse w)
tree_of f w e =
    let b = behind_trees f 1 0 1 [] [] refl (omega arith) in
    let stack : b.stack ≡ reverse (onto f []) = sym b.same ∙ (pushes-is (onto f []) [] ∙ append-nil (reverse (onto f []))) in
    subst (λ (l : List Sym). wanted 1 l ≡ Some 0) (stack ∙ ap reverse e) b.left
