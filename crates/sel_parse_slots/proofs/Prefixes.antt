-- What the stack of a prefix of a tree may hold in all.
use Rattle.std.proofs.Common.{◌≡◌, ℕ, ◌+◌, ◌≤◌, List, [], ◌∷◌, length, map, refl, ap, arith}
use Rattle.tree_core.specs.declared.token.Tok.{Tok}
use Rattle.tree_core.specs.declared.token.Tok.TheVariants as tok
use Rattle.tree_core.specs.declared.token.Sort.{Sort}
use Rattle.tree_core.specs.Grammar.{kids}
use Rattle.tree_core_forks.specs.Forks.{fork}
use Rattle.md_reader.specs.declared.types.Sym.{Sym}
use Rattle.md_reader.specs.declared.types.Sym.TheVariants as grammar_symbol
use Rattle.md_reader.specs.Patterns.{kids_of, Trees, no_tree, node, onto}
use Rattle.sel_parse_effect.specs.sel_terms_trees.specs.Senses.{piled}
use Rattle.sel_parse_slots.proofs.Counts.{total}
use Rattle.sel_parse_slots.proofs.Counting.{sum}

-- a complete part with so many tokens of two kids, or a token of no, one or two kids, these not all there
pub data Part : Type 0 where
  Whole : (b : ℕ) → Part
  Without : Part
  One : Part
  Two : Part

-- the charge that its entry may have
abbrev pub gamma : Part → ℕ
gamma (Whole b) = b + 1
gamma Without = 0
gamma One = 0
gamma Two = 0

abbrev pub opens : Part → ℕ
opens (Whole b) = 0
opens Without = 0
opens One = 0
opens Two = 1

abbrev pub twos : Part → ℕ
twos (Whole b) = b
twos Without = 0
twos One = 0
twos Two = 1

-- complete parts and tokens without kids
abbrev pub ends : Part → ℕ
ends (Whole b) = 1
ends Without = 1
ends One = 0
ends Two = 0

each : (p : Part) → gamma p + opens p ≤ twos p + ends p
each (Whole b) = omega arith
each Without = omega arith
each One = omega arith
each Two = omega arith

all : (ps : List Part) → total gamma ps + total opens ps ≤ total twos ps + total ends ps
all [] = omega arith
all (p ∷ ps) = (let a = each p in let b = all ps in omega (arith, a, b))

-- where the parts and leaves are at most one more than the open tokens of two kids, as in a prefix of a tree and in a rule's right side
pub held_in_all : (ps : List Part) → total ends ps ≤ 1 + total opens ps → total gamma ps ≤ 1 + total twos ps
held_in_all ps h = (let a = all ps in omega (arith, a, h))

-- ---- what a symbol is

abbrev pub part_of : List Sort → Part
part_of [] = Without
part_of (x ∷ []) = One
part_of (x ∷ y ∷ more) = Two

abbrev pub Marks : Sym → Part → Type 0
Marks (grammar_symbol.Tok t) p = p ≡ part_of (kids t)
Marks (grammar_symbol.Class c) (Whole b) = Unit {0}
Marks (grammar_symbol.Class c) p = ⊥

abbrev pub ends_of : Sym → ℕ
ends_of (grammar_symbol.Tok t) = ends (part_of (kids t))
ends_of (grammar_symbol.Class c) = 1

abbrev pub opens_of : Sym → ℕ
opens_of (grammar_symbol.Tok t) = opens (part_of (kids t))
opens_of (grammar_symbol.Class c) = 0

pub marks_ends : (s : Sym) (p : Part) → Marks s p → ends p ≡ ends_of s
marks_ends (grammar_symbol.Tok t) p h = ap ends h
marks_ends (grammar_symbol.Class c) (Whole b) h = refl
marks_ends _ _ h = absurd h

pub marks_opens : (s : Sym) (p : Part) → Marks s p → opens p ≡ opens_of s
marks_opens (grammar_symbol.Tok t) p h = ap opens h
marks_opens (grammar_symbol.Class c) (Whole b) h = refl
marks_opens _ _ h = absurd h

pub part_twos : (ks : List Sort) → twos (part_of ks) ≡ fork ks
part_twos [] = refl
part_twos (x ∷ []) = refl
part_twos (x ∷ y ∷ more) = refl

-- no token has more than two kids
pub arity : (t : Tok) → ends (part_of (kids t)) + length (kids t) ≡ 1 + opens (part_of (kids t))
arity tok.Zero = refl
arity t = refl

arity_of : (s : Sym) → ends_of s + length (kids_of s) ≡ 1 + opens_of s
arity_of (grammar_symbol.Tok t) = arity t
arity_of (grammar_symbol.Class c) = refl

-- in trees
tree_ends : {ok : Sym → Sort → Rattle.std.specs.Prelude.Bool} {xs : List Sort} (t : Trees ok xs) (w : List Sym)
    → total ends_of (onto t w) + total opens_of w ≡ length xs + (total opens_of (onto t w) + total ends_of w)
tree_ends no_tree w = omega arith
tree_ends (node s passes below beside) w =
    let a = arity_of s in
    let b = tree_ends below (onto beside w) in
    let c = tree_ends beside w in
    omega (arith, a, b, c)

pub whole_ends : {ok : Sym → Sort → Rattle.std.specs.Prelude.Bool} {x : Sort} (t : Trees ok (x ∷ [])) (w : List Sym) → onto t [] ≡ w → total ends_of w ≡ 1 + total opens_of w
whole_ends t w e =
    let a = tree_ends t [] in
    let b = ap (total ends_of) e in
    let c = ap (total opens_of) e in
    omega (arith, a, b, c)

pub total_piled : {A : Type 0} (f : A → ℕ) (xs ys : List A) → total f (piled xs ys) ≡ total f xs + total f ys
total_piled f [] ys = omega arith
total_piled f (x ∷ xs) ys = (let a = total_piled f xs (x ∷ ys) in omega (arith, a))

pub sum_gamma : (ps : List Part) → sum (map gamma ps) ≡ total gamma ps
sum_gamma [] = refl
sum_gamma (p ∷ ps) = ap (λ n. gamma p + n) (sum_gamma ps)
