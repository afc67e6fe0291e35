-- The constants of a pattern's effect are longwords.
use Rattle.std.proofs.Common.{ℕ, ◌+◌, ◌<◌, ◌^◌, List, [], ◌∷◌, ◌++◌, Option, Some, None, arith}
use Rattle.sel_terms.specs.gg_base.proofs.Words.{zero_small}
use Rattle.sel_terms.specs.tree_core.specs.declared.token.Tok.{Tok}
use Rattle.sel_terms.specs.tree_core.specs.declared.token.Tok.TheVariants as tok
use Rattle.sel_terms.specs.md_reader.specs.declared.types.Kind.{Kind}
use Rattle.sel_terms.specs.md_reader.specs.declared.types.Kind.TheVariants as kind
use Rattle.sel_terms.specs.md_reader.specs.declared.types.Class.{Class}
use Rattle.sel_terms.specs.md_reader.specs.declared.types.Sym.{Sym}
use Rattle.sel_terms.specs.md_reader.specs.declared.types.Sym.TheVariants as grammar_symbol
use Rattle.sel_terms.specs.md_reader.specs.Patterns.{kind_at}
use Rattle.sel_terms.specs.term_core.specs.Shape.{Shape}
use Rattle.sel_terms.specs.declared.role.Role.{Role}
use Rattle.sel_terms.specs.declared.role.Role.TheVariants as role
use Rattle.sel_terms.specs.declared.role.LeafRole.{LeafRole}
use Rattle.sel_terms.specs.declared.role.LeafRole.TheVariants as leaf_role
use Rattle.sel_terms.specs.declared.role.OneRole.{OneRole}
use Rattle.sel_terms.specs.declared.role.OneRole.TheVariants as one_role
use Rattle.sel_terms.specs.declared.role.TwoRole.{TwoRole}
use Rattle.sel_terms.specs.declared.role.TwoRole.TheVariants as two_role
use Rattle.sel_terms.specs.Parts.{PartShape, Worth, Home, At, Does, SubtreeShape, role_of_token, role_of_kind, role_of, value_of, store, leaf_part, one_part, two_part, own_divisors}
use Rattle.sel_terms.specs.Wanted.{first_part, whole}
use Rattle.sel_terms.specs.Reading.{below, step, stack_from}
use Rattle.term_core_accesses.specs.Keeping.{IsNarrow}
use Rattle.sel_terms_meaning.specs.Alike.{AllNarrow, IsNarrowAct, WantedIsNarrow}

-- what each part has
abbrev IsNarrowPart : PartShape → Type 0
IsNarrowPart (Worth t) = IsNarrow t
IsNarrowPart (Home z i) = Unit {0}
IsNarrowPart (At z a) = IsNarrow a
IsNarrowPart (Does a) = IsNarrowAct a

abbrev IsNarrowTree : SubtreeShape → Type 0
IsNarrowTree p = IsNarrowPart p.part × AllNarrow p.divisors

abbrev AllTrees : List SubtreeShape → Type 0
AllTrees [] = Unit {0}
AllTrees (p ∷ ps) = IsNarrowTree p × AllTrees ps

small : (n : ℕ) → n < 32 → n < 2 ^ 32
small n h = omega (arith, h)

abbrev IsNarrowLeaf : LeafRole → Type 0
IsNarrowLeaf (leaf_role.Constant n) = n < 2 ^ 32
IsNarrowLeaf r = Unit {0}

abbrev IsNarrowRole : Role → Type 0
IsNarrowRole (role.Leaf r) = IsNarrowLeaf r
IsNarrowRole r = Unit {0}

token_narrow : (t : Tok) → IsNarrowRole (role_of_token t)
token_narrow tok.Zero = small 0 (omega arith)
token_narrow tok.One = small 1 (omega arith)
token_narrow tok.Two = small 2 (omega arith)
token_narrow tok.Four = small 4 (omega arith)
token_narrow tok.Eight = small 8 (omega arith)
token_narrow tok.Const = tt
token_narrow tok.Gaddr = tt
token_narrow tok.Loc = tt
token_narrow tok.Arg = tt
token_narrow tok.IndirB = tt
token_narrow tok.IndirW = tt
token_narrow tok.IndirL = tt
token_narrow tok.Plus = tt
token_narrow tok.Minus = tt
token_narrow tok.Mul = tt
token_narrow tok.Div = tt
token_narrow tok.Mod = tt
token_narrow tok.And = tt
token_narrow tok.Or = tt
token_narrow tok.Xor = tt
token_narrow tok.Lsh = tt
token_narrow tok.Rsh = tt
token_narrow tok.Neg = tt
token_narrow tok.Com = tt
token_narrow tok.Sxb = tt
token_narrow tok.Zxb = tt
token_narrow tok.Sxw = tt
token_narrow tok.Zxw = tt
token_narrow tok.Ncb = tt
token_narrow tok.Ncw = tt
token_narrow tok.AssignB = tt
token_narrow tok.AssignW = tt
token_narrow tok.AssignL = tt
token_narrow tok.Cbr = tt
token_narrow tok.Push = tt
token_narrow tok.Ret = tt
token_narrow tok.Call = tt
token_narrow tok.Save = tt
token_narrow tok.Jump = tt
token_narrow tok.End = tt

kind_narrow : (k : Option Kind) → IsNarrowRole (role.Leaf (role_of_kind k))
kind_narrow None = tt
kind_narrow (Some kind.Reg) = tt
kind_narrow (Some (kind.Value z)) = tt
kind_narrow (Some (kind.Place z)) = tt
kind_narrow (Some kind.Con) = tt
kind_narrow (Some kind.Ea) = tt
kind_narrow (Some kind.Nothing) = tt

role_narrow : (classes : List Class) (s : Sym) → IsNarrowRole (role_of classes s)
role_narrow classes (grammar_symbol.Tok t) = token_narrow t
role_narrow classes (grammar_symbol.Class c) = kind_narrow (kind_at classes c)

leaf_narrow : (i : ℕ) (r : LeafRole) → IsNarrowLeaf r → IsNarrowPart (leaf_part i r)
leaf_narrow i (leaf_role.Constant n) h = h
leaf_narrow i leaf_role.Symbol h = tt
leaf_narrow i (leaf_role.Home z) h = tt
leaf_narrow i leaf_role.Call h = tt
leaf_narrow i leaf_role.Save h = tt
leaf_narrow i leaf_role.Jump h = tt

value_narrow : (p : PartShape) → IsNarrowPart p → IsNarrow (value_of p)
value_narrow (Worth t) h = h
value_narrow (Home z i) h = tt
value_narrow (At z a) h = h
value_narrow (Does a) h = zero_small

one_narrow : (r : OneRole) (t : Shape) → IsNarrow t → IsNarrowPart (one_part r t)
one_narrow (one_role.Memory z) t h = h
one_narrow (one_role.Operator op) t h = h
one_narrow one_role.Push t h = h
one_narrow one_role.Return t h = h

store_narrow : (p : PartShape) (t : Shape) → IsNarrowPart p → IsNarrow t → IsNarrowAct (store p t)
store_narrow (Worth s) t h k = k
store_narrow (Home z i) t h k = k
store_narrow (At z a) t h k = (h, k)
store_narrow (Does a) t h k = k

two_narrow : (i : ℕ) (r : TwoRole) (p : PartShape) (t : Shape) → IsNarrowPart p → IsNarrow t → IsNarrowPart (two_part i r p t)
two_narrow i (two_role.Operator op) p t h k = (value_narrow p h, k)
two_narrow i two_role.Quotient p t h k = (value_narrow p h, k)
two_narrow i two_role.Remainder p t h k = (value_narrow p h, ((value_narrow p h, k), k))
two_narrow i two_role.LeftShift p t h k = ((k, small 31 (omega arith)), value_narrow p h)
two_narrow i two_role.RightShift p t h k = ((k, small 31 (omega arith)), value_narrow p h)
two_narrow i two_role.Assign p t h k = store_narrow p t h k
two_narrow i two_role.Branch p t h k = (value_narrow p h, k)

own_narrow : (r : TwoRole) (t : Shape) → IsNarrow t → AllNarrow (own_divisors r t)
own_narrow two_role.Quotient t h = (h, tt)
own_narrow two_role.Remainder t h = (h, tt)
own_narrow (two_role.Operator op) t h = tt
own_narrow two_role.LeftShift t h = tt
own_narrow two_role.RightShift t h = tt
own_narrow two_role.Assign t h = tt
own_narrow two_role.Branch t h = tt

pub joined_narrow : (ds es : List Shape) → AllNarrow ds → AllNarrow es → AllNarrow (ds ++ es)
joined_narrow [] es h k = k
joined_narrow (d ∷ ds) es h k = (h.0, joined_narrow ds es h.1 k)

first_narrow : (st : List SubtreeShape) → AllTrees st → IsNarrowTree (first_part st)
first_narrow [] h = (zero_small, tt)
first_narrow (p ∷ ps) h = h.0

below_narrow : (st : List SubtreeShape) → AllTrees st → AllTrees (below st)
below_narrow [] h = tt
below_narrow (p ∷ ps) h = h.1

step_narrow : (i : ℕ) (r : Role) (st : List SubtreeShape) → IsNarrowRole r → AllTrees st → AllTrees (step i r st)
step_narrow i (role.Leaf r) st h k = ((leaf_narrow i r h, tt), k)
step_narrow i (role.One r) st h k =
    let p = first_narrow st k in
    ((one_narrow r (value_of (first_part st).part) (value_narrow (first_part st).part p.0), p.1), below_narrow st k)
step_narrow i (role.Two r) st h k =
    let p = first_narrow st k in
    let q = first_narrow (below st) (below_narrow st k) in
    let v = value_narrow (first_part (below st)).part q.0 in (
      (
        two_narrow i r (first_part st).part (value_of (first_part (below st)).part) p.0 v,
        joined_narrow ((first_part st).divisors ++ (first_part (below st)).divisors) (own_divisors r (value_of (first_part (below st)).part))
            (joined_narrow (first_part st).divisors (first_part (below st)).divisors p.1 q.1) (own_narrow r (value_of (first_part (below st)).part) v),
      ),
      below_narrow (below st) (below_narrow st k),
    )

stack_narrow : (classes : List Class) (i : ℕ) (right : List Sym) → AllTrees (stack_from classes i right)
stack_narrow classes i [] = tt
stack_narrow classes i (s ∷ right) = step_narrow i (role_of classes s) (stack_from classes (i + 1) right) (role_narrow classes s) (stack_narrow classes (i + 1) right)

whole_narrow : (k : Option Kind) (p : PartShape) → IsNarrowPart p → IsNarrowAct (whole k p)
whole_narrow None p h = value_narrow p h
whole_narrow (Some kind.Reg) p h = value_narrow p h
whole_narrow (Some (kind.Value z)) p h = value_narrow p h
whole_narrow (Some kind.Con) p h = value_narrow p h
whole_narrow (Some kind.Ea) p h = value_narrow p h
whole_narrow (Some (kind.Place z)) (Worth t) h = h
whole_narrow (Some (kind.Place z)) (Home y i) h = tt
whole_narrow (Some (kind.Place z)) (At y a) h = h
whole_narrow (Some (kind.Place z)) (Does a) h = zero_small
whole_narrow (Some kind.Nothing) (Worth t) h = h
whole_narrow (Some kind.Nothing) (Home y i) h = tt
whole_narrow (Some kind.Nothing) (At y a) h = h
whole_narrow (Some kind.Nothing) (Does a) h = h

pub wanted_is_narrow : WantedIsNarrow
wanted_is_narrow classes r =
    let p = first_narrow (stack_from classes 1 r.right) (stack_narrow classes 1 r.right) in
    (whole_narrow (kind_at classes r.left) (first_part (stack_from classes 1 r.right)).part p.0, p.1)
