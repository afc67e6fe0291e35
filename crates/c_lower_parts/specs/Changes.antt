-- What a place becomes by its old value and another one.
use Rattle.c_types.specs.declared.types.CType.{CType}
use Rattle.c_lower_parts.specs.declared.change.Change.{Change}
use Rattle.c_lower_parts.specs.declared.change.Change.TheVariants as changes
use Rattle.c_lower_scheme.specs.Trees.{Tree, Bin}
use Rattle.c_lower_scheme.specs.Values.{advance, retreat, step}

abbrev pub applied : Change → CType → Tree → Tree → Tree
applied (changes.Arithmetic op) t a b = Bin op a b
applied changes.Advance t a b = advance t a b
applied changes.Retreat t a b = retreat t a b
applied (changes.Step by) t a b = step by a b
