-- The effect of a rule's pattern: what each symbol makes of its kids, from the leaves upwards.
use Rattle.std.specs.Prelude.{◌≡◌, ℕ, ◌+◌, List, [], ◌∷◌, ◌++◌, Option, Some, Bool}
use Rattle.tree_core.specs.declared.token.Sort.{Sort}
use Rattle.tree_core.specs.declared.token.Sort.TheVariants as sort
use Rattle.md_reader.specs.declared.types.Kind.{Kind}
use Rattle.md_reader.specs.declared.types.Kind.TheVariants as kind
use Rattle.md_reader.specs.declared.types.Class.{Class}
use Rattle.md_reader.specs.declared.types.Sym.{Sym}
use Rattle.md_reader.specs.declared.types.Rule.{Rule}
use Rattle.md_reader.specs.Patterns.{kind_at, Trees, no_tree, node, onto, any_test}
use Rattle.term_core.specs.Shape.{Constant}
use Rattle.sel_terms.specs.declared.role.OneRole.{OneRole}
use Rattle.sel_terms.specs.declared.role.TwoRole.{TwoRole}
use Rattle.sel_terms.specs.declared.role.Role.{Role}
use Rattle.sel_terms.specs.declared.role.Role.TheVariants as role
use Rattle.sel_terms.specs.Effects.{ActShape, EffectShape, Value, Number, Address, PlaceHome, PlaceAt}
use Rattle.sel_terms.specs.Parts.{PartShape, SubtreeShape, Worth, Home, At, Does, role_of, value_of, leaf_part}
use Rattle.sel_terms.specs.Parts.{one_part, two_part, own_divisors}

-- divisions are done kid by kid, from left to right, and then the token's own
abbrev pub one : OneRole → SubtreeShape → SubtreeShape
one r kid = record { part = one_part r (value_of kid.part); divisors = kid.divisors }

abbrev pub two : ℕ → TwoRole → SubtreeShape → SubtreeShape → SubtreeShape
two i r left right = record {
  part = two_part i r left.part (value_of right.part);
  divisors = (left.divisors ++ right.divisors) ++ own_divisors r (value_of right.part);
}

-- where there is no kid; a tree has as many as its symbols want
abbrev pub nothing : SubtreeShape
nothing = record { part = Worth (Constant 0); divisors = [] }

-- what the symbol with number i makes of its kids
abbrev pub made : ℕ → Role → List SubtreeShape → SubtreeShape
made i (role.Leaf r) kids = record { part = leaf_part i r; divisors = [] }
made i (role.One r) (kid ∷ kids) = one r kid
made i (role.Two r) (left ∷ right ∷ kids) = two i r left right
made i r kids = nothing

abbrev pub symbols_in : {ok : Sym → Sort → Bool} {xs : List Sort} → Trees ok xs → ℕ
symbols_in no_tree = 0
symbols_in (node s passes below beside) = 1 + symbols_in below + symbols_in beside

-- what each of the trees stands for; symbols are numbered in prefix order, and i is the first one's number
abbrev pub parts : List Class → {ok : Sym → Sort → Bool} {xs : List Sort} → Trees ok xs → ℕ → List SubtreeShape
parts classes no_tree i = []
parts classes (node s passes below beside) i =
    made i (role_of classes s) (parts classes below (i + 1)) ∷ parts classes beside (i + 1 + symbols_in below)

abbrev pub first_part : List SubtreeShape → SubtreeShape
first_part [] = nothing
first_part (s ∷ ss) = s

-- what the whole pattern does, by the kind of the class on the left
abbrev pub whole : Option Kind → PartShape → ActShape
whole (Some kind.Con) p = Number (value_of p)
whole (Some kind.Ea) p = Address (value_of p)
whole (Some (kind.Place size)) (Home z i) = PlaceHome z i
whole (Some (kind.Place size)) (At z a) = PlaceAt z a
whole (Some kind.Nothing) (Does a) = a
whole k p = Value (value_of p)

-- the effect of the pattern of a rule for this class
abbrev pub wanted : List Class → ℕ → {ok : Sym → Sort → Bool} {xs : List Sort} → Trees ok xs → EffectShape
wanted classes left tree =
    let s = first_part (parts classes tree 1) in
    record { act = whole (kind_at classes left) s.part; divisors = s.divisors }

-- where the right side of a rule is a tree, the effect is the tree's
abbrev pub IsWanted : List Class → Rule → EffectShape → Type 0
IsWanted classes rule e = (tree : Trees any_test (sort.Long ∷ [])) → onto tree [] ≡ rule.right → e ≡ wanted classes rule.left tree
