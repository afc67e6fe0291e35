-- The walk succeeds exactly where there are such trees.
use Rattle.std.proofs.Common.{nat_le, ◌≡◌, ◌↔◌, ℕ, zero, suc, ◌+◌, ◌<◌, drop, List, [], ◌∷◌, ◌++◌, length, Bool, true, false, cond, refl, sym, ap, ◌∙◌, Option}
use Rattle.std.proofs.Common.{arith, get_or, reverse, eqb, ◌≤◌, length-append, IsTrue}
use Rattle.std.proofs.lemmas.List.{length-reverse}
use Rattle.std.proofs.lemmas.Bool.{ne_eqb, leb-true}
use Rattle.std.proofs.Math.ListN.{drop_of_length-le}
use Rattle.std.proofs.Math.Seq.{drop-cons}
use Rattle.gg_base.proofs.Facts.{reverse_last}
use Rattle.tree_core.specs.declared.token.Sort.{Sort}
use Rattle.tree_core.specs.declared.token.Sort.TheVariants as sort
use Rattle.md_reader.specs.declared.types.Class.{Class}
use Rattle.tree_core.specs.declared.token.Tok.{Tok}
use Rattle.tree_core.specs.declared.token.Tok.TheVariants as tok
use Rattle.tree_core.specs.Grammar.{kids}
use Rattle.tree_core.proofs.Walking.{both_true}
use Rattle.tree_core.specs.Trees.{sort_fits}
use Rattle.md_reader.specs.declared.types.Sym.{Sym}
use Rattle.md_reader.specs.declared.types.Sym.TheVariants as grammar_symbol
use Rattle.md_reader.specs.Patterns.{kids_of, sort_of_symbol, Trees, no_tree, node, onto, any_test, sorted_test, IsTree, IsSorted, walk, count}

-- trees for two lists of places, from those for the lists together
pub record Cut (ok : Sym → Sort → Bool) (fs bs : List Sort) (w : List Sym) : Type 0 where
  pub front : Trees ok fs
  pub back : Trees ok bs
  pub spelled : onto front (onto back []) ≡ w

pub cut : (ok : Sym → Sort → Bool) (fs bs : List Sort) (v : Trees ok (fs ++ bs)) → Cut ok fs bs (onto v [])
cut ok [] bs v = record { front = no_tree; back = v; spelled = refl }
cut ok (a ∷ fs) bs (node s p below beside) = cut_step ok a fs bs s p below (onto beside []) (cut ok fs bs beside)
  where
    cut_step : (ok : Sym → Sort → Bool) (a : Sort) (fs bs : List Sort) (s : Sym) → ok s a ≡ true → (below : Trees ok (kids_of s)) (w : List Sym) → Cut ok fs bs w
        → Cut ok (a ∷ fs) bs (s ∷ onto below w)
    cut_step ok a fs bs s p below w c = record {
      front = node s p below c.front;
      back = c.back;
      spelled = ap (λ (t : List Sym). s ∷ onto below t) c.spelled;
    }

pub record Found (ok : Sym → Sort → Bool) (xs : List Sort) (w : List Sym) : Type 0 where
  pub trees : Trees ok xs
  pub spelled : onto trees [] ≡ w

pub found : (ok : Sym → Sort → Bool) (xs : List Sort) (w : List Sym) → walk ok xs w ≡ true → Found ok xs w
found ok [] [] e = record { trees = no_tree; spelled = refl }
found ok [] (s ∷ w) e = absurd cc
found ok (x ∷ xs) [] e = absurd cc
found ok (x ∷ xs) (s ∷ w) e =
    let g = both_true (ok s x) (walk ok (kids_of s ++ xs) w) e in
    joined (found ok (kids_of s ++ xs) w g.1) g.0
  where
    joined_cut : (w' : List Sym) → w' ≡ w → Cut ok (kids_of s) xs w' → ok s x ≡ true → Found ok (x ∷ xs) (s ∷ w)
    joined_cut w' same c p = record { trees = node s p c.front c.back; spelled = ap (λ (t : List Sym). s ∷ t) (c.spelled ∙ same) }

    joined : Found ok (kids_of s ++ xs) w → ok s x ≡ true → Found ok (x ∷ xs) (s ∷ w)
    joined f p = joined_cut (onto f.trees []) f.spelled (cut ok (kids_of s) xs f.trees) p

pub walked : (ok : Sym → Sort → Bool) (xs ys : List Sort) (v : Trees ok xs) (w : List Sym) → walk ok (xs ++ ys) (onto v w) ≡ walk ok ys w
walked ok [] ys no_tree w = refl
walked ok (x ∷ xs) ys (node s p below beside) w =
    rw p (walked ok (kids_of s) (xs ++ ys) below (onto beside w) ∙ walked ok xs ys beside w)

pub whole : (ok : Sym → Sort → Bool) (x : Sort) (v : Trees ok (x ∷ [])) (w : List Sym) → onto v [] ≡ w → walk ok (x ∷ []) w ≡ true
whole ok x v w e = ap (walk ok (x ∷ [])) (sym e) ∙ walked ok (x ∷ []) [] v []

pub counted : (xs : List Sort) (w : List Sym) → walk any_test xs w ≡ count (length xs) w
counted [] [] = refl
counted [] (s ∷ w) = refl
counted (x ∷ xs) [] = refl
counted (x ∷ xs) (s ∷ w) = counted (kids_of s ++ xs) w ∙ ap (λ (n : ℕ). count n w) (length-append (kids_of s) xs)

pub sorted_there : (classes : List Class) (left : Sort) (w : List Sym) (b : Bool) → b ≡ walk (sorted_test classes) (left ∷ []) w → IsTrue b → IsSorted classes left w
sorted_there classes left w b e t = let f = found (sorted_test classes) (left ∷ []) w (sym e ∙ t) in record { tree = f.trees; spelled = f.spelled }

pub sorted_back : (classes : List Class) (left : Sort) (w : List Sym) (b : Bool) → b ≡ walk (sorted_test classes) (left ∷ []) w → IsSorted classes left w → IsTrue b
sorted_back classes left w b e h = e ∙ whole (sorted_test classes) left h.tree w h.spelled

pub tree_there : (w : List Sym) (b : Bool) → b ≡ walk any_test (sort.Long ∷ []) w → IsTrue b → IsTree w
tree_there w b e t = let f = found any_test (sort.Long ∷ []) w (sym e ∙ t) in record { tree = f.trees; spelled = f.spelled }

tree_back : (w : List Sym) (b : Bool) → b ≡ walk any_test (sort.Long ∷ []) w → IsTree w → IsTrue b
tree_back w b e h = e ∙ whole any_test sort.Long h.tree w h.spelled

pub tree_exactly : (w : List Sym) (b : Bool) → b ≡ count 1 w → IsTrue b ↔ IsTree w
tree_exactly w b e = let f = e ∙ sym (counted (sort.Long ∷ []) w) in (tree_there w b f, tree_back w b f)

at_more : (i : ℕ) (w : List Sym) → i < length w → count 0 (drop i w) ≡ false
at_more i [] lt = absurd (omega arith)
at_more zero (s ∷ w) lt = refl
at_more (suc i) (s ∷ w) lt = at_more i w (omega arith)

pub too_many : (n i : ℕ) (w : List Sym) → n ≡ 0 → i < length w → count n (drop i w) ≡ count 1 w → false ≡ count 1 w
too_many n i w e lt h = sym (at_more i w lt) ∙ ap (λ (m : ℕ). count m (drop i w)) (sym e) ∙ h

stepped : (ok : Sym → Sort → Bool) (items rest : List Sort) (x : Sort) (i : ℕ) (w : List Sym) (d : Sym) → items ≡ rest ++ x ∷ [] → i < length w → walk ok (reverse items) (drop i w)
    ≡ cond (ok (get_or w i d) x) (walk ok (kids_of (get_or w i d) ++ reverse rest) (drop (i + 1) w)) false
stepped ok items rest x i w d e lt =
    let one : i + 1 ≡ suc i = omega arith in
    rw (one, drop-cons w i d lt, reverse_last items rest x e) refl

pub misfits : (ok : Sym → Sort → Bool) (items rest : List Sort) (x : Sort) (i : ℕ) (w : List Sym) (d : Sym) (b : Bool) → items ≡ rest ++ x ∷ [] → i < length w → ok (get_or w i d) x ≡ false
    → walk ok (reverse items) (drop i w) ≡ b → false ≡ b
misfits ok items rest x i w d b e lt f h =
    let s = stepped ok items rest x i w d e lt in
    sym (s ∙ rw f refl) ∙ h

pub goes : (ok : Sym → Sort → Bool) (items rest new : List Sort) (x : Sort) (i : ℕ) (w : List Sym) (d : Sym) (b : Bool) → items ≡ rest ++ x ∷ [] → i < length w → ok (get_or w i d) x ≡ true
    → reverse new ≡ kids_of (get_or w i d) ++ reverse rest → walk ok (reverse items) (drop i w) ≡ b → walk ok (reverse new) (drop (i + 1) w) ≡ b
goes ok items rest new x i w d b e lt f n h =
    let s = stepped ok items rest x i w d e lt in
    rw n (sym (s ∙ rw f refl) ∙ h)

pub emptied : (ok : Sym → Sort → Bool) (items : List Sort) (i : ℕ) (w : List Sym) (b : Bool) → length items ≡ 0 → i < length w → walk ok (reverse items) (drop i w) ≡ b → false ≡ b
emptied ok (x ∷ xs) i w b e lt h = absurd (omega (arith, e))
emptied ok [] i [] b e lt h = absurd (omega arith)
emptied ok [] zero (s ∷ w) b e lt h = h
emptied ok [] (suc i) (s ∷ w) b e lt h = emptied ok [] i w b e (omega arith) h

nil_left : (ok : Sym → Sort → Bool) (xs : List Sort) → walk ok xs [] ≡ eqb (length xs) 0
nil_left ok [] = refl
nil_left ok (x ∷ xs) = sym (ne_eqb (length (x ∷ xs)) 0 (λ e. absurd (omega (arith, e))))

pub ended : (ok : Sym → Sort → Bool) (items : List Sort) (i : ℕ) (w : List Sym) (b r : Bool) → length w ≤ i → r ≡ eqb (length items) 0 → walk ok (reverse items) (drop i w) ≡ b → r ≡ b
ended ok items i w b r le e h =
    let n = nil_left ok (reverse items) in
    e ∙ ap (λ (k : ℕ). eqb k 0) (sym (length-reverse items)) ∙ sym n ∙ ap (walk ok (reverse items)) (sym (drop_of_length-le w le)) ∙ h

-- whether the symbol in hand fits, as the code tells
pub told : (classes : List Class) (s : Sym) (x : Sort) (o : Option Sort) (f t : Bool) → o ≡ sort_of_symbol classes s → f ≡ sort_fits o x → f ≡ t → sort_fits (sort_of_symbol classes s) x ≡ t
told classes s x o f t e g h = rw (← e) (sym g ∙ h)

-- no token has more than two kids
few_kids : (t : Tok) → nat_le (length (kids t)) 2 ≡ true
few_kids tok.Zero = refl
few_kids tok.One = refl
few_kids tok.Two = refl
few_kids tok.Four = refl
few_kids tok.Eight = refl
few_kids tok.Const = refl
few_kids tok.Gaddr = refl
few_kids tok.Loc = refl
few_kids tok.Arg = refl
few_kids tok.IndirB = refl
few_kids tok.IndirW = refl
few_kids tok.IndirL = refl
few_kids tok.Plus = refl
few_kids tok.Minus = refl
few_kids tok.Mul = refl
few_kids tok.Div = refl
few_kids tok.Mod = refl
few_kids tok.And = refl
few_kids tok.Or = refl
few_kids tok.Xor = refl
few_kids tok.Lsh = refl
few_kids tok.Rsh = refl
few_kids tok.Neg = refl
few_kids tok.Com = refl
few_kids tok.Sxb = refl
few_kids tok.Zxb = refl
few_kids tok.Sxw = refl
few_kids tok.Zxw = refl
few_kids tok.Ncb = refl
few_kids tok.Ncw = refl
few_kids tok.AssignB = refl
few_kids tok.AssignW = refl
few_kids tok.AssignL = refl
few_kids tok.Cbr = refl
few_kids tok.Push = refl
few_kids tok.Ret = refl
few_kids tok.Call = refl
few_kids tok.Save = refl
few_kids tok.Jump = refl
few_kids tok.End = refl

pub kids_few : (s : Sym) (ks : List Sort) → ks ≡ kids_of s → length ks ≤ 2
kids_few (grammar_symbol.Tok t) ks e = let h = leb-true (length (kids t)) 2 (few_kids t) in omega (arith, h, ap (λ (x : List Sort). length x) e)
kids_few (grammar_symbol.Class c) ks e = omega (arith, ap (λ (x : List Sort). length x) e)
