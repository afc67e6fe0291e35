-- How deep the terms of a pattern's effect nest: each symbol adds at most three.
use Rattle.std.proofs.Common.{◌≤◌, ℕ, ◌+◌, ◌*◌, List, [], ◌∷◌, ◌++◌, length, arith}
use Rattle.std.specs.Prelude.{suc, Option, Some, None}
use Rattle.md_reader.specs.declared.types.Kind.{Kind}
use Rattle.md_reader.specs.declared.types.Kind.TheVariants as kind
use Rattle.md_reader.specs.declared.types.Class.{Class}
use Rattle.md_reader.specs.declared.types.Sym.{Sym}
use Rattle.md_reader.specs.Patterns.{kind_at}
use Rattle.term_core.specs.Shape.{Shape}
use Rattle.sel_terms.specs.declared.role.Role.{Role}
use Rattle.sel_terms.specs.declared.role.Role.TheVariants as role
use Rattle.sel_terms.specs.declared.role.LeafRole.{LeafRole}
use Rattle.sel_terms.specs.declared.role.LeafRole.TheVariants as leaf_role
use Rattle.sel_terms.specs.declared.role.OneRole.{OneRole}
use Rattle.sel_terms.specs.declared.role.OneRole.TheVariants as one_role
use Rattle.sel_terms.specs.declared.role.TwoRole.{TwoRole}
use Rattle.sel_terms.specs.declared.role.TwoRole.TheVariants as two_role
use Rattle.sel_terms.specs.Parts.{PartShape, SubtreeShape, Worth, Home, At, Does, role_of, value_of, store, leaf_part, one_part, two_part, own_divisors}
use Rattle.sel_terms.specs.Wanted.{one, two, first_part, whole}
use Rattle.sel_terms.specs.Reading.{below, step, stack_from}
use Rattle.sel_terms_depth.specs.Depth.{depth, act_depth, AreWithin}
use Rattle.sel_terms_depth.specs.Claim.{PatternsAreShallow}

abbrev part_depth : PartShape → ℕ
part_depth (Worth t) = depth t
part_depth (Home size i) = 1
part_depth (At size a) = 1 + depth a
part_depth (Does a) = act_depth a

record Holds (n : ℕ) (s : SubtreeShape) : Type 0 where
  pub part : part_depth s.part ≤ n
  pub divisors : AreWithin n s.divisors

abbrev AllHold : ℕ → List SubtreeShape → Type 0
AllHold n [] = Unit {0}
AllHold n (s ∷ ss) = Holds n s × AllHold n ss

pub more_divisors : (m n : ℕ) → m ≤ n → (ts : List Shape) → AreWithin m ts → AreWithin n ts
more_divisors m n l [] h = tt
more_divisors m n l (t ∷ ts) h = (omega (arith, l, h.0), more_divisors m n l ts h.1)

more : (m n : ℕ) → m ≤ n → (ss : List SubtreeShape) → AllHold m ss → AllHold n ss
more m n l [] h = tt
more m n l (s ∷ ss) h =
    (record { part = omega (arith, l, h.0.part); divisors = more_divisors m n l s.divisors h.0.divisors }, more m n l ss h.1)

pub joined : (n : ℕ) (xs ys : List Shape) → AreWithin n xs → AreWithin n ys → AreWithin n (xs ++ ys)
joined n [] ys h k = k
joined n (x ∷ xs) ys h k = (h.0, joined n xs ys h.1 k)

value_depth : (n : ℕ) → 1 ≤ n → (p : PartShape) → part_depth p ≤ n → depth (value_of p) ≤ n
value_depth n l (Worth t) h = h
value_depth n l (Home size i) h = h
value_depth n l (At size a) h = h
value_depth n l (Does a) h = l

leaf_depth : (n : ℕ) → 1 ≤ n → (i : ℕ) (r : LeafRole) → part_depth (leaf_part i r) ≤ n
leaf_depth n l i (leaf_role.Constant c) = l
leaf_depth n l i leaf_role.Symbol = l
leaf_depth n l i (leaf_role.Home size) = l
leaf_depth n l i leaf_role.Call = omega arith
leaf_depth n l i leaf_role.Save = omega arith
leaf_depth n l i leaf_role.Jump = omega arith

one_depth : (n : ℕ) (r : OneRole) (t : Shape) → depth t ≤ n → part_depth (one_part r t) ≤ 3 + n
one_depth n (one_role.Memory size) t h = omega (arith, h)
one_depth n (one_role.Operator op) t h = omega (arith, h)
one_depth n one_role.Push t h = omega (arith, h)
one_depth n one_role.Return t h = omega (arith, h)

store_depth : (n : ℕ) (p : PartShape) (t : Shape) → part_depth p ≤ n → depth t ≤ n → act_depth (store p t) ≤ 3 + n
store_depth n (Worth s) t h k = omega (arith, k)
store_depth n (Home size i) t h k = omega (arith, k)
store_depth n (At size a) t h k = omega (arith, h, k)
store_depth n (Does a) t h k = omega (arith, k)

two_depth : (n i : ℕ) → 1 ≤ n → (r : TwoRole) (p : PartShape) (b : Shape) → part_depth p ≤ n → depth b ≤ n → part_depth (two_part i r p b) ≤ 3 + n
two_depth n i l (two_role.Operator op) p b h k = omega (arith, value_depth n l p h, k)
two_depth n i l two_role.Quotient p b h k = omega (arith, value_depth n l p h, k)
two_depth n i l two_role.Remainder p b h k = omega (arith, value_depth n l p h, k)
two_depth n i l two_role.LeftShift p b h k = omega (arith, value_depth n l p h, k, l)
two_depth n i l two_role.RightShift p b h k = omega (arith, value_depth n l p h, k, l)
two_depth n i l two_role.Assign p b h k = store_depth n p b h k
two_depth n i l two_role.Branch p b h k = omega (arith, value_depth n l p h, k)

own_depth : (n : ℕ) (r : TwoRole) (b : Shape) → depth b ≤ n → AreWithin n (own_divisors r b)
own_depth n (two_role.Operator op) b h = tt
own_depth n two_role.Quotient b h = (h, tt)
own_depth n two_role.Remainder b h = (h, tt)
own_depth n two_role.LeftShift b h = tt
own_depth n two_role.RightShift b h = tt
own_depth n two_role.Assign b h = tt
own_depth n two_role.Branch b h = tt

first_holds : (n : ℕ) → 1 ≤ n → (ss : List SubtreeShape) → AllHold n ss → Holds n (first_part ss)
first_holds n l [] h = record { part = l; divisors = tt }
first_holds n l (s ∷ ss) h = h.0

below_hold : (n : ℕ) (ss : List SubtreeShape) → AllHold n ss → AllHold n (below ss)
below_hold n [] h = tt
below_hold n (s ∷ ss) h = h.1

grown : (n : ℕ) → n ≤ 3 + n
grown n = omega arith

one_holds : (n : ℕ) → 1 ≤ n → (r : OneRole) (s : SubtreeShape) → Holds n s → Holds (3 + n) (one r s)
one_holds n l r s h =
    record { part = one_depth n r (value_of s.part) (value_depth n l s.part h.part); divisors = more_divisors n (3 + n) (grown n) s.divisors h.divisors }

two_holds : (n i : ℕ) → 1 ≤ n → (r : TwoRole) (s t : SubtreeShape) → Holds n s → Holds n t → Holds (3 + n) (two i r s t)
two_holds n i l r s t h k =
    let v = value_depth n l t.part k.part in
    record {
      part = two_depth n i l r s.part (value_of t.part) h.part v;
      divisors = more_divisors n (3 + n) (grown n) _ (joined n (s.divisors ++ t.divisors) _ (joined n s.divisors t.divisors h.divisors k.divisors) (own_depth n r (value_of t.part) v));
    }

step_holds : (n i : ℕ) → 1 ≤ n → (r : Role) (ss : List SubtreeShape) → AllHold n ss → AllHold (3 + n) (step i r ss)
step_holds n i l (role.Leaf r) ss h = (record { part = leaf_depth (3 + n) (omega arith) i r; divisors = tt }, more n (3 + n) (grown n) ss h)
step_holds n i l (role.One r) ss h =
    (one_holds n l r (first_part ss) (first_holds n l ss h), more n (3 + n) (grown n) (below ss) (below_hold n ss h))
step_holds n i l (role.Two r) ss h =
    let k = below_hold n ss h in
    (two_holds n i l r (first_part ss) (first_part (below ss)) (first_holds n l ss h) (first_holds n l (below ss) k), more n (3 + n) (grown n) (below (below ss)) (below_hold n (below ss) k))

stack_holds : (classes : List Class) (i : ℕ) (right : List Sym) → AllHold (3 * length right + 1) (stack_from classes i right)
stack_holds classes i [] = tt
stack_holds classes i (s ∷ right) =
    more (3 + (3 * length right + 1)) (3 * suc (length right) + 1) (omega arith) _ (step_holds (3 * length right + 1) i (omega arith) (role_of classes s) _ (stack_holds classes (i + 1) right))

whole_depth : (n : ℕ) → 1 ≤ n → (k : Option Kind) (p : PartShape) → part_depth p ≤ n → act_depth (whole k p) ≤ n
whole_depth n l (Some kind.Con) p h = value_depth n l p h
whole_depth n l (Some kind.Ea) p h = value_depth n l p h
whole_depth n l (Some kind.Reg) p h = value_depth n l p h
whole_depth n l (Some (kind.Value size)) p h = value_depth n l p h
whole_depth n l None p h = value_depth n l p h
whole_depth n l (Some (kind.Place size)) (Worth t) h = h
whole_depth n l (Some (kind.Place size)) (Home z i) h = omega arith
whole_depth n l (Some (kind.Place size)) (At z a) h = omega (arith, h)
whole_depth n l (Some (kind.Place size)) (Does a) h = l
whole_depth n l (Some kind.Nothing) (Worth t) h = h
whole_depth n l (Some kind.Nothing) (Home z i) h = h
whole_depth n l (Some kind.Nothing) (At z a) h = h
whole_depth n l (Some kind.Nothing) (Does a) h = h

pub patterns_are_shallow : PatternsAreShallow
patterns_are_shallow classes rule =
    let n : ℕ = 3 * length rule.right + 1 in
    let h = first_holds n (omega arith) (stack_from classes 1 rule.right) (stack_holds classes 1 rule.right) in
    record { act = whole_depth n (omega arith) (kind_at classes rule.left) (first_part (stack_from classes 1 rule.right)).part h.part; divisors = h.divisors }
