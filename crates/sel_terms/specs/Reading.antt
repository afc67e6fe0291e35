-- How a pattern is read: from its end, with the parts that are read on a stack. Each symbol takes its kids from the
-- top, the left one first, and leaves what it makes of them.
use Rattle.std.specs.Prelude.{ℕ, ◌+◌, List, [], ◌∷◌}
use Rattle.md_reader.specs.declared.types.Class.{Class}
use Rattle.md_reader.specs.declared.types.Sym.{Sym}
use Rattle.md_reader.specs.declared.types.Rule.{Rule}
use Rattle.md_reader.specs.Patterns.{kind_at}
use Rattle.sel_terms.specs.declared.role.Role.{Role}
use Rattle.sel_terms.specs.declared.role.Role.TheVariants as role
use Rattle.sel_terms.specs.Effects.{EffectShape}
use Rattle.sel_terms.specs.Parts.{SubtreeShape, role_of, leaf_part}
use Rattle.sel_terms.specs.Wanted.{one, two, first_part, whole}

-- what lies below the top
abbrev pub below : List SubtreeShape → List SubtreeShape
below [] = []
below (s ∷ stack) = stack

abbrev pub step : ℕ → Role → List SubtreeShape → List SubtreeShape
step i (role.Leaf r) stack = record { part = leaf_part i r; divisors = [] } ∷ stack
step i (role.One r) stack = one r (first_part stack) ∷ below stack
step i (role.Two r) stack = two i r (first_part stack) (first_part (below stack)) ∷ below (below stack)

-- the stack when the symbols from number i on are read
abbrev pub stack_from : List Class → ℕ → List Sym → List SubtreeShape
stack_from classes i [] = []
stack_from classes i (s ∷ right) = step i (role_of classes s) (stack_from classes (i + 1) right)

-- the effect that is read off a rule
abbrev pub effect_read : List Class → Rule → EffectShape
effect_read classes rule =
    let s = first_part (stack_from classes 1 rule.right) in
    record { act = whole (kind_at classes rule.left) s.part; divisors = s.divisors }
